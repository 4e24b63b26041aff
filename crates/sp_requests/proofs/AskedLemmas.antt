-- What is asked of all peers, as one peer's row changes.
use Rattle.std.proofs.Common.{◌≡◌, ℕ, suc, Bool, true, false, cond, List, [], ◌∷◌, ◌++◌, Option, None, Some, filter, map, refl, sym, ap, subst, ◌∙◌, true≢false, arith}
use Rattle.std.specs.Prelude.{◌==◌, ◌&&◌, ◌||◌, not, find}
use Rattle.std.specs.Str.{bytes_eq}
use Rattle.std.proofs.lemmas.Bool.{eqb-true, eq-eqb}
use Rattle.net_message.specs.declared.message.Message.{Message}
use Rattle.uuid.specs.declared.Uuid.{Uuid}
use Rattle.sp_rules.proofs.LineLemmas.{dialled-filter, numbers-filter, one-peer, same-peer, to-last, to-more}
use Rattle.sp_rules.specs.Endings.{is_of_connection}
use Rattle.sp_rules.specs.Frames.{answered_on, tells_on}
use Rattle.sp_rules.specs.Laws.{AllOf}
use Rattle.sp_rules.specs.Lines.{AreDialledOnce, dialled_to}
use Rattle.sp_rules.specs.ParkedFrames.{has_number, is_asked_on, is_call_on, is_out_on, is_unanswered_on}
use Rattle.sp_rules.specs.Requests.{is_waiting, waits_for}
use Rattle.sp_rules.specs.State as rules
use Rattle.sp_rules.specs.State.{Connection, Request}
use Rattle.sp_requests.specs.Tables.{AreNumbered, numbered, opened}
use Rattle.sp_requests.proofs.TableLemmas.{dialled-more, numbered-more}
use Rattle.sp_requests.specs.Asking.{AreRequests, IsOn}
use Rattle.sp_requests.specs.Peers.{IsWith, of_peer}
use Rattle.sp_requests.specs.declared.requests.Requests.{Requests}
use Rattle.sp_requests.proofs.PeerLemmas.{found-there, others-stay, peer-answered, peer-filter, peer-more}
use Rattle.sp_requests.specs.declared.peers.Peers.{Peers}
use Rattle.sp_requests.specs.AllAsked.{AreAsked, IsAsked, row_of, sent_on}
use Rattle.sp_requests.proofs.LineLemmas.{line-apart, line-gone, line-here, line-left, line-others, sent-dialled, sent-numbered, without}
use Rattle.sp_requests.proofs.RowLemmas.{IsChange}

-- ---- one peer

-- the row of a peer with a connection
pub row-there : {connections : List Connection} {requests : List Request} {table : Peers} (peer : Uuid) {c : Connection} {t : Requests} → dialled_to connections peer ≡ Some c → row_of peer table ≡ Some t → AreAsked connections requests table → AreRequests c.number (of_peer peer requests) c.sent t
row-there {connections} {requests} {table} peer {c} {t} line found a =
    subst (λ (o : Option Connection). IsAsked o (of_peer peer requests) (Some t)) line (subst (λ (o : Option Requests). IsAsked (dialled_to connections peer) (of_peer peer requests) o) found (a.asked peer))

-- and of one without
pub row-waits : {connections : List Connection} {requests : List Request} {table : Peers} (peer : Uuid) {t : Requests} → dialled_to connections peer ≡ None → row_of peer table ≡ Some t → AreAsked connections requests table → (conn : ℕ) → AreRequests conn (of_peer peer requests) [] t
row-waits {connections} {requests} {table} peer {t} line found a =
    subst (λ (o : Option Connection). IsAsked o (of_peer peer requests) (Some t)) line (subst (λ (o : Option Requests). IsAsked (dialled_to connections peer) (of_peer peer requests) o) found (a.asked peer))

-- no row, no request
pub row-none : {connections : List Connection} {requests : List Request} {table : Peers} (peer : Uuid) → row_of peer table ≡ None → AreAsked connections requests table → IsAsked (dialled_to connections peer) (of_peer peer requests) None
row-none {connections} {requests} {table} peer none a = subst (λ (o : Option Requests). IsAsked (dialled_to connections peer) (of_peer peer requests) o) none (a.asked peer)

-- ---- all peers

-- What is asked of one peer changes, and its row; the lists leave what is asked of the others.
pub changed : {connections more : List Connection} {requests left : List Request} {old new : Peers} {peer : Uuid} {row : Option Requests} → IsChange old new peer row → IsAsked (dialled_to more peer) (of_peer peer left) row
    → ((q : Uuid) → bytes_eq peer q ≡ false → dialled_to more q ≡ dialled_to connections q) → ((q : Uuid) → bytes_eq peer q ≡ false → of_peer q left ≡ of_peer q requests)
    → AreNumbered more → AreDialledOnce more → AreAsked connections requests old → AreAsked more left new
changed {connections} {more} {requests} {left} {old} {new} {peer} {row} step mine lines others numbered dialled a = record {
  asked = λ q. subst (λ (o : Option Requests). IsAsked (dialled_to more q) (of_peer q left) o) (sym (step.updates q)) (pick q (bytes_eq peer q) refl);
  numbered_once = numbered;
  dialled_once = dialled;
}
  where
    pick : (q : Uuid) (b : Bool) → bytes_eq peer q ≡ b → IsAsked (dialled_to more q) (of_peer q left) (cond b row (row_of q old))
    pick q true e = subst (λ (p : Uuid). IsAsked (dialled_to more p) (of_peer p left) row) (one-peer peer q e) mine
    pick q false e =
        subst (λ (o : Option Connection). IsAsked o (of_peer q left) (row_of q old)) (sym (lines q e)) (subst (λ (l : List Request). IsAsked (dialled_to connections q) l (row_of q old)) (sym (others q e)) (a.asked q))

-- no frame goes out
pub changed-rows : {connections : List Connection} {requests left : List Request} {old new : Peers} {peer : Uuid} {c : Connection} {t : Requests} → IsChange old new peer (Some t) → dialled_to connections peer ≡ Some c → AreRequests c.number (of_peer peer left) c.sent t
    → ((q : Uuid) → bytes_eq peer q ≡ false → of_peer q left ≡ of_peer q requests) → AreAsked connections requests old → AreAsked connections left new
changed-rows {connections} {requests} {left} {old} {new} {peer} {c} {t} step line mine others a =
    changed step (subst (λ (o : Option Connection). IsAsked o (of_peer peer left) (Some t)) (sym line) mine) (λ q e. refl) others a.numbered_once a.dialled_once a

-- one does
pub changed-sent : {connections : List Connection} {requests left : List Request} {old new : Peers} {peer : Uuid} {c : Connection} {t : Requests} (m : Message) → IsChange old new peer (Some t) → dialled_to connections peer ≡ Some c → AreRequests c.number (of_peer peer left) (m ∷ c.sent) t
    → ((q : Uuid) → bytes_eq peer q ≡ false → of_peer q left ≡ of_peer q requests) → AreAsked connections requests old → AreAsked (sent_on c.number m connections) left new
changed-sent {connections} {requests} {left} {old} {new} {peer} {c} {t} m step line mine others a =
    changed step (subst (λ (o : Option Connection). IsAsked o (of_peer peer left) (Some t)) (sym (line-here m connections peer c a.numbered_once line)) mine) (λ q e. line-others m connections peer q c a.numbered_once line e) others
    (sent-numbered c.number m connections a.numbered_once) (sent-dialled c.number m connections a.dialled_once) a

-- the row of a peer changes, whether a connection was dialled to it or not
pub moved : (o : Option Connection) (rows left : List Request) (x y : Requests) → ((conn : ℕ) (sent : List Message) → AreRequests conn rows sent x → AreRequests conn left sent y) → IsAsked o rows (Some x) → IsAsked o left (Some y)
moved None rows left x y each is = λ conn. each conn [] (is conn)
moved (Some c) rows left x y each is = each c.number c.sent is

-- a peer gets a row
pub row-new : (o : Option Connection) (rows : List Request) (y : Requests) → ((conn : ℕ) → AreRequests conn [] [] y) → IsAsked o rows None → IsAsked o rows (Some y)
row-new None rows y each is = λ conn. subst (λ (l : List Request). AreRequests conn l [] y) (sym is) (each conn)
row-new (Some c) rows y each is = absurd is

-- a connection to a peer opens
pub opened-line : {connections : List Connection} {requests : List Request} {table : Peers} (peer : Uuid) {t : Requests} (conn : ℕ) → numbered conn connections ≡ None → dialled_to connections peer ≡ None → row_of peer table ≡ Some t → AreAsked connections requests table
    → AreAsked (connections ++ opened conn (Some peer) ∷ []) requests table
opened-line {connections} {requests} {table} peer {t} conn free none found a = record {
  asked = λ q. pick q (bytes_eq peer q) refl;
  numbered_once = numbered-more connections (opened conn (Some peer)) a.numbered_once free;
  dialled_once = dialled-more connections (opened conn (Some peer)) a.dialled_once (λ q to. subst (λ (p : Uuid). dialled_to connections p ≡ None) (one-peer peer q to) none);
}
  where
    own : IsAsked (Some (opened conn (Some peer))) (of_peer peer requests) (row_of peer table)
    own = subst (λ (o : Option Requests). IsAsked (Some (opened conn (Some peer))) (of_peer peer requests) o) (sym found) (row-waits peer none found a conn)

    pick : (q : Uuid) (b : Bool) → bytes_eq peer q ≡ b → IsAsked (dialled_to (connections ++ opened conn (Some peer) ∷ []) q) (of_peer q requests) (row_of q table)
    pick q true e =
        subst (λ (p : Uuid). IsAsked (dialled_to (connections ++ opened conn (Some peer) ∷ []) p) (of_peer p requests) (row_of p table)) (one-peer peer q e)
        (subst (λ (o : Option Connection). IsAsked o (of_peer peer requests) (row_of peer table)) (sym (to-last connections (opened conn (Some peer)) peer none (same-peer peer))) own)
    pick q false e = subst (λ (o : Option Connection). IsAsked o (of_peer q requests) (row_of q table)) (sym (to-more connections (opened conn (Some peer)) q e)) (a.asked q)

-- ---- what is out on a connection is asked of its peer

-- what holds of the requests of each peer holds of all
gather : (P : Uuid → Request → Type 0) (rows : List Request) → ((q : Uuid) → AllOf (P q) (of_peer q rows)) → AllOf (λ (r : Request). P r.peer r) rows
gather P [] each = tt
gather P (x ∷ xs) each = (head, gather P xs (λ q. tail q (bytes_eq x.peer q) (each q)))
  where
    own : AllOf (P x.peer) (x ∷ of_peer x.peer xs)
    own = subst (λ b. AllOf (P x.peer) (cond b (x ∷ of_peer x.peer xs) (of_peer x.peer xs))) (same-peer x.peer) (each x.peer)

    head : P x.peer x
    head = own.0

    tail : (q : Uuid) (b : Bool) → AllOf (P q) (cond b (x ∷ of_peer q xs) (of_peer q xs)) → AllOf (P q) (of_peer q xs)
    tail q true all = all.1
    tail q false all = all

all-of : {A : Type 0} (P : A → Type 0) (xs : List A) → ((x : A) → P x) → AllOf P xs
all-of P [] each = tt
all-of P (x ∷ xs) each = (each x, all-of P xs each)

all-turn : {A : Type 0} (P Q : A → Type 0) (xs : List A) → ((x : A) → P x → Q x) → AllOf P xs → AllOf Q xs
all-turn P Q [] each a = tt
all-turn P Q (x ∷ xs) each a = (each x a.0, all-turn P Q xs each a.1)

-- what is out on one connection is not out on another
not-out : (n m : ℕ) (stage : rules.Stage) → (n ≡ m → ⊥) → IsOn m stage → is_out_on n stage ≡ true → ⊥
not-out n m rules.Waits apart on out = true≢false (sym out)
not-out n m (rules.Out c s) apart on out = apart (sym (eqb-true c n out) ∙ on)
not-out n m (rules.Answered c) apart on out = apart (sym (eqb-true c n out) ∙ on)

pub with-all : {connections : List Connection} {requests : List Request} {table : Peers} (peer : Uuid) {c : Connection} → dialled_to connections peer ≡ Some c → AreAsked connections requests table → AllOf (IsWith c.number peer) requests
with-all {connections} {requests} {table} peer {c} line a = gather Is requests (λ q. pick q (bytes_eq peer q) refl)
  where
    Is : Uuid → Request → Type 0
    Is q r = is_out_on c.number r.stage ≡ true → q ≡ peer

    none : (q : Uuid) (m : ℕ) (rows : List Request) → (c.number ≡ m → ⊥) → AllOf (λ (r : Request). IsOn m r.stage) rows → AllOf (Is q) rows
    none q m rows apart on = all-turn (λ (r : Request). IsOn m r.stage) (Is q) rows (λ r is out. absurd (not-out c.number m r.stage apart is out)) on

    other : (q : Uuid) → bytes_eq peer q ≡ false → (o : Option Connection) → dialled_to connections q ≡ o → (rows : List Request) (row : Option Requests) → IsAsked o rows row → AllOf (Is q) rows
    other q apart None e rows None is = subst (AllOf (Is q)) (sym is) tt
    other q apart None e rows (Some t) is = none q (suc c.number) rows (λ same. omega (arith, same)) (is (suc c.number)).on
    other q apart (Some d) e rows None is = absurd is
    other q apart (Some d) e rows (Some t) is = none q d.number rows (λ same. line-apart connections peer q c d a.numbered_once line e apart same) is.on

    pick : (q : Uuid) (b : Bool) → bytes_eq peer q ≡ b → AllOf (Is q) (of_peer q requests)
    pick q true e = all-of (Is q) (of_peer q requests) (λ r out. sym (one-peer peer q e))
    pick q false e = other q e (dialled_to connections q) refl (of_peer q requests) (row_of q table) (a.asked q)

and-left : (a b : Bool) → (a && b) ≡ true → a ≡ true
and-left true b e = refl
and-left false b e = absurd (true≢false (sym e))

pub call-is-out : (conn n : ℕ) (r : Request) → is_call_on conn n r ≡ true → is_out_on conn r.stage ≡ true
call-is-out conn n r e = and-left (is_out_on conn r.stage) (has_number n r.asked) e

unanswered-is-out : (conn : ℕ) (stage : rules.Stage) → is_unanswered_on conn stage ≡ true → is_out_on conn stage ≡ true
unanswered-is-out conn rules.Waits e = e
unanswered-is-out conn (rules.Out c s) e = e
unanswered-is-out conn (rules.Answered c) e = absurd (true≢false (sym e))

pub asked-is-out : (conn n : ℕ) (r : Request) → is_asked_on conn n r ≡ true → is_out_on conn r.stage ≡ true
asked-is-out conn n r e = unanswered-is-out conn r.stage (and-left (is_unanswered_on conn r.stage) (has_number n r.asked) e)

pub group-is-out : (dirty : Bool) (conn n : ℕ) (r : Request) → tells_on dirty conn n r ≡ true → is_out_on conn r.stage ≡ true
group-is-out dirty conn n r e = unanswered-is-out conn r.stage (and-left (is_unanswered_on conn r.stage) _ e)

-- ---- requests of one peer among all

-- what is found on a connection is found among the requests of its peer
pub found-of : {connections : List Connection} {requests : List Request} {table : Peers} (peer : Uuid) {c : Connection} (is : Request → Bool) → ((r : Request) → is r ≡ true → is_out_on c.number r.stage ≡ true) → dialled_to connections peer ≡ Some c → AreAsked connections requests table
    → find is (of_peer peer requests) ≡ find is requests
found-of {connections} {requests} {table} peer {c} is out line a = sym (found-there c.number peer is requests out (with-all peer line a) (same-peer peer))

-- a request that goes was of its peer
pub mine-gone : (peer : Uuid) (is : Request → Bool) (requests : List Request) → filter (λ (r : Request). not (is r)) (of_peer peer requests) ≡ of_peer peer (filter (λ (r : Request). not (is r)) requests)
mine-gone peer is requests = sym (peer-filter peer (λ (r : Request). not (is r)) requests)

pub others-gone : {connections : List Connection} {requests : List Request} {table : Peers} (peer : Uuid) {c : Connection} (is : Request → Bool) → ((r : Request) → is r ≡ true → is_out_on c.number r.stage ≡ true) → dialled_to connections peer ≡ Some c → AreAsked connections requests table
    → (q : Uuid) → bytes_eq peer q ≡ false → of_peer q (filter (λ (r : Request). not (is r)) requests) ≡ of_peer q requests
others-gone {connections} {requests} {table} peer {c} is out line a q apart = others-stay c.number peer q is requests out (with-all peer line a) apart

-- a request more
pub mine-more : (requests : List Request) (r : Request) → of_peer r.peer requests ++ r ∷ [] ≡ of_peer r.peer (requests ++ r ∷ [])
mine-more requests r = sym (peer-more r.peer requests r ∙ ap (λ b. cond b (of_peer r.peer requests ++ r ∷ []) (of_peer r.peer requests)) (same-peer r.peer))

pub others-more : (requests : List Request) (r : Request) (q : Uuid) → bytes_eq r.peer q ≡ false → of_peer q (requests ++ r ∷ []) ≡ of_peer q requests
others-more requests r q apart = peer-more q requests r ∙ ap (λ b. cond b (of_peer q requests ++ r ∷ []) (of_peer q requests)) apart

-- a request that is answered
pub others-answered : (conn n : ℕ) (peer q : Uuid) (requests : List Request) → AllOf (IsWith conn peer) requests → bytes_eq peer q ≡ false → of_peer q (map (answered_on conn n) requests) ≡ of_peer q requests
others-answered conn n peer q requests with apart = peer-answered q conn n requests ∙ same requests with
  where
    same : (rows : List Request) → AllOf (IsWith conn peer) rows → map (answered_on conn n) (of_peer q rows) ≡ of_peer q rows
    same [] w = refl
    same (x ∷ xs) w = pick (bytes_eq x.peer q) refl (is_call_on conn n x) refl (same xs w.1)
      where
        pick : (b : Bool) → bytes_eq x.peer q ≡ b → (d : Bool) → is_call_on conn n x ≡ d → map (answered_on conn n) (of_peer q xs) ≡ of_peer q xs → map (answered_on conn n) (cond b (x ∷ of_peer q xs) (of_peer q xs)) ≡ cond b (x ∷ of_peer q xs) (of_peer q xs)
        pick true e true f go = absurd (true≢false (sym e ∙ ap (λ (p : Uuid). bytes_eq p q) (w.0 (call-is-out conn n x f)) ∙ apart))
        pick true e false f go = let its : answered_on conn n x ≡ x = ap (λ d. cond d (record x { stage = rules.Answered conn }) x) f in λ j. its j ∷ go j
        pick false e d f go = go

-- ---- what waits

pub waits-mine : (peer : Uuid) (requests : List Request) → filter (waits_for peer) requests ≡ filter (λ (r : Request). is_waiting r.stage) (of_peer peer requests)
waits-mine peer [] = refl
waits-mine peer (x ∷ xs) = pick (bytes_eq x.peer peer) (is_waiting x.stage) refl (waits-mine peer xs)
  where
    among : List Request → List Request
    among l = filter (λ (r : Request). is_waiting r.stage) l

    pick : (b w : Bool) → is_waiting x.stage ≡ w → filter (waits_for peer) xs ≡ among (of_peer peer xs) → cond (b && w) (x ∷ filter (waits_for peer) xs) (filter (waits_for peer) xs) ≡ among (cond b (x ∷ of_peer peer xs) (of_peer peer xs))
    pick true true e go = ap (λ l. x ∷ l) go ∙ sym (ap (λ w. cond w (x ∷ among (of_peer peer xs)) (among (of_peer peer xs))) e)
    pick true false e go = go ∙ sym (ap (λ w. cond w (x ∷ among (of_peer peer xs)) (among (of_peer peer xs))) e)
    pick false w e go = go

pub waited-mine : (peer : Uuid) (requests : List Request) → filter (λ (r : Request). not (is_waiting r.stage)) (of_peer peer requests) ≡ of_peer peer (filter (λ (r : Request). not (waits_for peer r)) requests)
waited-mine peer requests = same requests ∙ mine-gone peer (waits_for peer) requests
  where
    keep : (Request → Bool) → List Request → List Request
    keep is l = filter (λ (r : Request). not (is r)) l

    same : (rows : List Request) → keep (λ (r : Request). is_waiting r.stage) (of_peer peer rows) ≡ keep (waits_for peer) (of_peer peer rows)
    same [] = refl
    same (x ∷ xs) = pick (bytes_eq x.peer peer) refl (same xs)
      where
        rest : List Request
        rest = of_peer peer xs

        pick : (b : Bool) → bytes_eq x.peer peer ≡ b → keep (λ (r : Request). is_waiting r.stage) rest ≡ keep (waits_for peer) rest → keep (λ (r : Request). is_waiting r.stage) (cond b (x ∷ rest) rest) ≡ keep (waits_for peer) (cond b (x ∷ rest) rest)
        pick true e go =
            ap (λ l. cond (not (is_waiting x.stage)) (x ∷ l) l) go
            ∙ sym (ap (λ b. cond (not (b && is_waiting x.stage)) (x ∷ keep (waits_for peer) rest) (keep (waits_for peer) rest)) e)
        pick false e go = go

-- requests of one peer alone go
pub others-kept : (is : Request → Bool) (peer q : Uuid) (requests : List Request) → ((r : Request) → is r ≡ true → bytes_eq r.peer peer ≡ true) → bytes_eq peer q ≡ false → of_peer q (filter (λ (r : Request). not (is r)) requests) ≡ of_peer q requests
others-kept is peer q [] own apart = refl
others-kept is peer q (x ∷ xs) own apart = pick (is x) refl (bytes_eq x.peer q) refl (others-kept is peer q xs own apart)
  where
    rest : List Request
    rest = filter (λ (r : Request). not (is r)) xs

    pick : (b : Bool) → is x ≡ b → (d : Bool) → bytes_eq x.peer q ≡ d → of_peer q rest ≡ of_peer q xs → of_peer q (cond (not b) (x ∷ rest) rest) ≡ cond d (x ∷ of_peer q xs) (of_peer q xs)
    pick true e true f go = absurd (true≢false (sym f ∙ ap (λ (p : Uuid). bytes_eq p q) (one-peer x.peer peer (own x e)) ∙ apart))
    pick true e false f go = go
    pick false e d f go = ap (λ t. cond t (x ∷ of_peer q rest) (of_peer q rest)) f ∙ ap (λ l. cond d (x ∷ l) l) go

pub waits-own : (peer : Uuid) (r : Request) → waits_for peer r ≡ true → bytes_eq r.peer peer ≡ true
waits-own peer r e = and-left (bytes_eq r.peer peer) (is_waiting r.stage) e

-- ---- all that is asked of a peer ends

same-filter : (is of : Request → Bool) (rows : List Request) → AllOf (λ (r : Request). is r ≡ of r) rows → filter is rows ≡ filter of rows
same-filter is of [] a = refl
same-filter is of (x ∷ xs) a = (λ j. cond (a.0 j) (x ∷ same-filter is of xs a.1 j) (same-filter is of xs a.1 j))

-- what is asked of the peer, told by its peer
own-all : (P : Request → Type 0) (peer : Uuid) (rows : List Request) → AllOf P (of_peer peer rows) → AllOf (λ (r : Request). bytes_eq r.peer peer ≡ true → P r) rows
own-all P peer [] a = tt
own-all P peer (x ∷ xs) a = pick (bytes_eq x.peer peer) refl a (own-all P peer xs)
  where
    pick : (b : Bool) → bytes_eq x.peer peer ≡ b → AllOf P (cond b (x ∷ of_peer peer xs) (of_peer peer xs)) → (AllOf P (of_peer peer xs) → AllOf (λ (r : Request). bytes_eq r.peer peer ≡ true → P r) xs)
        → (bytes_eq x.peer peer ≡ true → P x) × AllOf (λ (r : Request). bytes_eq r.peer peer ≡ true → P r) xs
    pick true e all go = (λ same. all.0, go all.1)
    pick false e all go = (λ same. absurd (true≢false (sym same ∙ e)), go all)

both-of : {A : Type 0} (P Q R : A → Type 0) (xs : List A) → ((x : A) → P x → Q x → R x) → AllOf P xs → AllOf Q xs → AllOf R xs
both-of P Q R [] each a b = tt
both-of P Q R (x ∷ xs) each a b = (each x a.0 b.0, both-of P Q R xs each a.1 b.1)

-- what ends with a connection is what was asked of its peer
of-connection : (conn : ℕ) (peer : Uuid) (r : Request) (stage : rules.Stage) → (is_out_on conn stage ≡ true → r.peer ≡ peer) → (bytes_eq r.peer peer ≡ true → IsOn conn stage) → (is_out_on conn stage || (bytes_eq r.peer peer && is_waiting stage)) ≡ bytes_eq r.peer peer
of-connection conn peer r rules.Waits with on = pick (bytes_eq r.peer peer)
  where
    pick : (b : Bool) → (b && true) ≡ b
    pick true = refl
    pick false = refl
of-connection conn peer r (rules.Out c s) with on = pick (bytes_eq r.peer peer) refl (c == conn) refl
  where
    pick : (b : Bool) → bytes_eq r.peer peer ≡ b → (d : Bool) → (c == conn) ≡ d → (d || (b && false)) ≡ b
    pick true e true f = refl
    pick true e false f = absurd (true≢false (sym (eq-eqb c conn (on e)) ∙ f))
    pick false e true f = absurd (true≢false (sym (same-peer peer) ∙ sym (ap (λ (p : Uuid). bytes_eq p peer) (with f)) ∙ e))
    pick false e false f = refl
of-connection conn peer r (rules.Answered c) with on = pick (bytes_eq r.peer peer) refl (c == conn) refl
  where
    pick : (b : Bool) → bytes_eq r.peer peer ≡ b → (d : Bool) → (c == conn) ≡ d → (d || (b && false)) ≡ b
    pick true e true f = refl
    pick true e false f = absurd (true≢false (sym (eq-eqb c conn (on e)) ∙ f))
    pick false e true f = absurd (true≢false (sym (same-peer peer) ∙ sym (ap (λ (p : Uuid). bytes_eq p peer) (with f)) ∙ e))
    pick false e false f = refl

abbrev pub IsOfPeer : (Request → Bool) → Uuid → List Request → Type 0
IsOfPeer is peer requests = AllOf (λ (r : Request). is r ≡ bytes_eq r.peer peer) requests

pub connection-is-peer : {connections : List Connection} {requests : List Request} {table : Peers} (peer : Uuid) {c : Connection} → dialled_to connections peer ≡ Some c → AreAsked connections requests table → IsOfPeer (is_of_connection c.number (Some peer)) peer requests
connection-is-peer {connections} {requests} {table} peer {c} line a =
    both-of (IsWith c.number peer) (λ (r : Request). bytes_eq r.peer peer ≡ true → IsOn c.number r.stage) (λ (r : Request). is_of_connection c.number (Some peer) r ≡ bytes_eq r.peer peer) requests (λ r with on. of-connection c.number peer r r.stage with on) (with-all peer line a)
    (own-all (λ (r : Request). IsOn c.number r.stage) peer requests (on (row_of peer table) (subst (λ (o : Option Connection). IsAsked o (of_peer peer requests) (row_of peer table)) line (a.asked peer))))
  where
    on : (row : Option Requests) → IsAsked (Some c) (of_peer peer requests) row → AllOf (λ (r : Request). IsOn c.number r.stage) (of_peer peer requests)
    on None is = absurd is
    on (Some t) is = is.on

-- what is out on no connection waits
only-waits : (stage : rules.Stage) → IsOn 0 stage → IsOn 1 stage → is_waiting stage ≡ true
only-waits rules.Waits a b = refl
only-waits (rules.Out c s) a b = absurd (let z : c ≡ 0 = a in let o : c ≡ 1 = b in omega (arith, z, o))
only-waits (rules.Answered c) a b = absurd (let z : c ≡ 0 = a in let o : c ≡ 1 = b in omega (arith, z, o))

pub waiting-is-peer : {connections : List Connection} {requests : List Request} {table : Peers} (peer : Uuid) → dialled_to connections peer ≡ None → AreAsked connections requests table → IsOfPeer (waits_for peer) peer requests
waiting-is-peer {connections} {requests} {table} peer line a =
    all-turn (λ (r : Request). bytes_eq r.peer peer ≡ true → is_waiting r.stage ≡ true) (λ (r : Request). waits_for peer r ≡ bytes_eq r.peer peer) requests (λ r w. pick (bytes_eq r.peer peer) (is_waiting r.stage) w)
    (own-all (λ (r : Request). is_waiting r.stage ≡ true) peer requests (waits (row_of peer table) (of_peer peer requests) (subst (λ (o : Option Connection). IsAsked o (of_peer peer requests) (row_of peer table)) line (a.asked peer))))
  where
    waits : (row : Option Requests) (rows : List Request) → IsAsked None rows row → AllOf (λ (r : Request). is_waiting r.stage ≡ true) rows
    waits None rows is = subst (AllOf (λ (r : Request). is_waiting r.stage ≡ true)) (sym is) tt
    waits (Some t) rows is = both-of (λ (r : Request). IsOn 0 r.stage) (λ (r : Request). IsOn 1 r.stage) (λ (r : Request). is_waiting r.stage ≡ true) rows (λ r p q. only-waits r.stage p q) (is 0).on (is 1).on

    pick : (b w : Bool) → (b ≡ true → w ≡ true) → (b && w) ≡ b
    pick true w e = e refl
    pick false w e = refl

-- all of them, and none is left
pub end-mine : (is : Request → Bool) (peer : Uuid) (requests : List Request) → IsOfPeer is peer requests → filter is requests ≡ of_peer peer requests
end-mine is peer requests a = same-filter is (λ (r : Request). bytes_eq r.peer peer) requests a

pub end-none : (is : Request → Bool) (peer : Uuid) (requests : List Request) → IsOfPeer is peer requests → of_peer peer (filter (λ (r : Request). not (is r)) requests) ≡ []
end-none is peer [] a = refl
end-none is peer (x ∷ xs) a = pick (bytes_eq x.peer peer) refl a.0 (end-none is peer xs a.1)
  where
    rest : List Request
    rest = filter (λ (r : Request). not (is r)) xs

    pick : (b : Bool) → bytes_eq x.peer peer ≡ b → is x ≡ bytes_eq x.peer peer → of_peer peer rest ≡ [] → of_peer peer (cond (not (is x)) (x ∷ rest) rest) ≡ []
    pick true e f go = ap (λ t. of_peer peer (cond (not t) (x ∷ rest) rest)) (f ∙ e) ∙ go
    pick false e f go = ap (λ t. of_peer peer (cond (not t) (x ∷ rest) rest)) (f ∙ e) ∙ ap (λ t. cond t (x ∷ of_peer peer rest) (of_peer peer rest)) e ∙ go

pub end-others : (is : Request → Bool) (peer q : Uuid) (requests : List Request) → IsOfPeer is peer requests → bytes_eq peer q ≡ false → of_peer q (filter (λ (r : Request). not (is r)) requests) ≡ of_peer q requests
end-others is peer q [] a apart = refl
end-others is peer q (x ∷ xs) a apart = pick (is x) refl (bytes_eq x.peer q) refl (end-others is peer q xs a.1 apart)
  where
    rest : List Request
    rest = filter (λ (r : Request). not (is r)) xs

    pick : (b : Bool) → is x ≡ b → (d : Bool) → bytes_eq x.peer q ≡ d → of_peer q rest ≡ of_peer q xs → of_peer q (cond (not b) (x ∷ rest) rest) ≡ cond d (x ∷ of_peer q xs) (of_peer q xs)
    pick true e true f go = absurd (true≢false (sym f ∙ ap (λ (p : Uuid). bytes_eq p q) (one-peer x.peer peer (sym a.0 ∙ e)) ∙ apart))
    pick true e false f go = go
    pick false e d f go = ap (λ t. cond t (x ∷ of_peer q rest) (of_peer q rest)) f ∙ ap (λ l. cond d (x ∷ l) l) go

pub ended-line : {connections : List Connection} {requests : List Request} {old new : Peers} {peer : Uuid} {c : Connection} → IsChange old new peer None → dialled_to connections peer ≡ Some c → AreAsked connections requests old
    → AreAsked (without c.number connections) (filter (λ (r : Request). not (is_of_connection c.number (Some peer) r)) requests) new
ended-line {connections} {requests} {old} {new} {peer} {c} step line a =
    let is = connection-is-peer peer line a in
    let left = filter (λ (r : Request). not (is_of_connection c.number (Some peer) r)) requests in
    changed {more = without c.number connections} {left = left} step
    (subst (λ (o : Option Connection). IsAsked o (of_peer peer left) None) (sym (line-gone connections peer c a.numbered_once a.dialled_once line)) (end-none (is_of_connection c.number (Some peer)) peer requests is))
    (λ q e. line-left connections peer q c a.numbered_once line e) (λ q e. end-others (is_of_connection c.number (Some peer)) peer q requests is e)
    (numbers-filter (λ (d : Connection). not (d.number == c.number)) connections a.numbered_once) (dialled-filter (λ (d : Connection). not (d.number == c.number)) connections a.dialled_once) a

pub ended-waiting : {connections : List Connection} {requests : List Request} {old new : Peers} {peer : Uuid} → IsChange old new peer None → dialled_to connections peer ≡ None → AreAsked connections requests old
    → AreAsked connections (filter (λ (r : Request). not (waits_for peer r)) requests) new
ended-waiting {connections} {requests} {old} {new} {peer} step line a =
    let is = waiting-is-peer peer line a in
    let left = filter (λ (r : Request). not (waits_for peer r)) requests in
    changed {left = left} step (subst (λ (o : Option Connection). IsAsked o (of_peer peer left) None) (sym line) (end-none (waits_for peer) peer requests is)) (λ q e. refl) (λ q e. end-others (waits_for peer) peer q requests is e) a.numbered_once a.dialled_once a

-- ---- what waits of any peer

-- what a row shows of what waits
pub row-waiting : {B : Type 0} (o : Option Connection) (rows : List Request) (t : Requests) (of : List Request → B) (shows : B) → ((conn : ℕ) (sent : List Message) → AreRequests conn rows sent t → shows ≡ of rows) → IsAsked o rows (Some t) → shows ≡ of rows
row-waiting None rows t of shows each is = each 0 [] (is 0)
row-waiting (Some c) rows t of shows each is = each c.number c.sent is

pub row-empty : (o : Option Connection) (rows : List Request) → IsAsked o rows None → rows ≡ []
row-empty None rows is = is
row-empty (Some c) rows is = absurd is

-- no row: no connection, and nothing waits
pub none-asked : {connections : List Connection} {requests : List Request} {table : Peers} (peer : Uuid) {c : Connection} → dialled_to connections peer ≡ Some c → row_of peer table ≡ None → AreAsked connections requests table → ⊥
none-asked {connections} {requests} {table} peer {c} line none a = subst (λ (o : Option Connection). IsAsked o (of_peer peer requests) None) line (row-none peer none a)

pub none-waits : {connections : List Connection} {requests : List Request} {table : Peers} (peer : Uuid) → row_of peer table ≡ None → AreAsked connections requests table → filter (waits_for peer) requests ≡ []
none-waits {connections} {requests} {table} peer none a =
    waits-mine peer requests ∙ ap (filter (λ (r : Request). is_waiting r.stage)) (row-empty (dialled_to connections peer) (of_peer peer requests) (row-none peer none a))

-- nothing is asked, and no connection was dialled
pub released : {connections : List Connection} {requests : List Request} {old new : Peers} {peer : Uuid} → IsChange old new peer None → dialled_to connections peer ≡ None → of_peer peer requests ≡ [] → AreAsked connections requests old → AreAsked connections requests new
released {connections} {requests} {old} {new} {peer} step line none a =
    changed step (subst (λ (o : Option Connection). IsAsked o (of_peer peer requests) None) (sym line) none) (λ q e. refl) (λ q e. refl) a.numbered_once a.dialled_once a
