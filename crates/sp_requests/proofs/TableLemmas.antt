use Rattle.std.proofs.Common.{◌≡◌, ℕ, zero, suc, ◌<◌, length, position, slice_get, get_or, arith, Bool, true, false, cond, List, [], ◌∷◌, ◌++◌, Option, None, Some, is_some, filter, nat_eq, refl, sym, ap, subst, ◌∙◌, true≢false}
use Rattle.std.specs.Prelude.{◌||◌, ◌&&◌, ◌==◌, not, option_map}
use Rattle.std.specs.Map.{lookup, keys_of, values_of}
use Rattle.std.proofs.lemmas.List.Quantifiers.{position-Some}
use Rattle.std.specs.Str.{bytes_eq}
use Rattle.std.proofs.lemmas.Bool.{eqb-true, eq-eqb}
use Rattle.std.proofs.lemmas.Map.Views.{any-filter_same}
use Rattle.uuid.specs.declared.Uuid.{Uuid}
use Rattle.sp_rules.proofs.AllLemmas.{all-found, all-more, none-found, some-none}
use Rattle.sp_rules.proofs.LineLemmas.{To, any-last, dialled-filter, filter-all, filter-none, gone-others, IsRow, none-more, none-of, none-to, numbers-filter, one-peer, or-none, other-way, row-dialled, row-none, row-numbers, same-peer, to-last, to-more}
use Rattle.sp_rules.specs.Laws.{AllOf}
use Rattle.sp_rules.specs.Lines.{AreDialledOnce, IsAlone}
use Rattle.sp_rules.specs.Lists.{at_first}
use Rattle.sp_rules.specs.State as rules
use Rattle.sp_requests.specs.declared.connection.Connection.{Connection}
use Rattle.sp_requests.specs.declared.connection.Link.{Link}
use Rattle.sp_requests.specs.declared.connection.Link.TheVariants.{Dialling, Open}
use Rattle.sp_requests.specs.declared.connections.Connections.{Connections}
use Rattle.sp_requests.specs.Tables.{AreConnections, AreNumbered, dialled_once, is_dialled, link_of, no_more, numbered, opened, seen, to_peer}

only : {A : Type 0} (x y : A) → Some x ≡ Some y → x ≡ y
only x y h = cc

-- ---- connections by number

-- a connection that opens is found by its number
pub opened-number : (conn q : ℕ) (dialled : Option Uuid) (rows : List rules.Connection) → numbered conn rows ≡ None
    → cond (nat_eq conn q) (Some (seen (opened conn dialled))) (option_map seen (numbered q rows)) ≡ option_map seen (numbered q (rows ++ opened conn dialled ∷ []))
opened-number conn q dialled [] none = pick (nat_eq conn q)
  where
    pick : (b : Bool) → cond b (Some (seen (opened conn dialled))) None ≡ option_map seen (cond b (Some (opened conn dialled)) None)
    pick true = refl
    pick false = refl
opened-number conn q dialled (c ∷ cs) none = pick (nat_eq conn q) refl (c.number == q) refl (c.number == conn) refl none (λ n. opened-number conn q dialled cs n)
  where
    new : Option Connection
    new = Some (seen (opened conn dialled))

    rest : Option rules.Connection
    rest = numbered q (cs ++ opened conn dialled ∷ [])

    pick : (b : Bool) → nat_eq conn q ≡ b → (e : Bool) → (c.number == q) ≡ e → (f : Bool) → (c.number == conn) ≡ f → cond f (Some c) (numbered conn cs) ≡ None
        → (numbered conn cs ≡ None → cond (nat_eq conn q) new (option_map seen (numbered q cs)) ≡ option_map seen rest)
        → cond b new (option_map seen (cond e (Some c) (numbered q cs))) ≡ option_map seen (cond e (Some c) rest)
    pick b is e at true t n go = absurd (some-none c n)
    pick true is true at false t n go = absurd (true≢false (sym (subst (λ (m : ℕ). (c.number == m) ≡ true) (sym (eqb-true conn q is)) at) ∙ t))
    pick true is false at false t n go = sym (ap (λ b. cond b new (option_map seen (numbered q cs))) is) ∙ go n
    pick false is true at false t n go = refl
    pick false is false at false t n go = sym (ap (λ b. cond b new (option_map seen (numbered q cs))) is) ∙ go n

-- one that is let go is found no more
closed-at : (conn q : ℕ) (rows : List rules.Connection) → cond (nat_eq conn q) None (numbered q rows) ≡ numbered q (filter (λ (c : rules.Connection). not (c.number == conn)) rows)
closed-at conn q [] = pick (nat_eq conn q)
  where
    none : Option rules.Connection
    none = None

    pick : (b : Bool) → cond b none none ≡ none
    pick true = refl
    pick false = refl
closed-at conn q (c ∷ cs) = pick (nat_eq conn q) refl (c.number == q) refl (c.number == conn) refl (closed-at conn q cs)
  where
    rest : List rules.Connection
    rest = filter (λ (d : rules.Connection). not (d.number == conn)) cs

    pick : (b : Bool) → nat_eq conn q ≡ b → (e : Bool) → (c.number == q) ≡ e → (f : Bool) → (c.number == conn) ≡ f → cond (nat_eq conn q) None (numbered q cs) ≡ numbered q rest
        → cond b None (cond e (Some c) (numbered q cs)) ≡ numbered q (cond (not f) (c ∷ rest) rest)
    pick true is e at true t go = sym (ap (λ b. cond b None (numbered q cs)) is) ∙ go
    pick false is true at true t go = absurd (true≢false (sym (subst (λ (m : ℕ). (m == q) ≡ true) (eqb-true c.number conn t) at) ∙ is))
    pick false is false at true t go = sym (ap (λ b. cond b None (numbered q cs)) is) ∙ go
    pick true is true at false t go = absurd (true≢false (sym (subst (λ (m : ℕ). (c.number == m) ≡ true) (sym (eqb-true conn q is)) at) ∙ t))
    pick true is false at false t go = sym (ap (λ b. cond b None (numbered q cs)) is) ∙ go ∙ sym (ap (λ b. cond b (Some c) (numbered q rest)) at)
    pick false is true at false t go = sym (ap (λ b. cond b (Some c) (numbered q rest)) at)
    pick false is false at false t go = sym (ap (λ b. cond b None (numbered q cs)) is) ∙ go ∙ sym (ap (λ b. cond b (Some c) (numbered q rest)) at)

pub closed-number : (conn q : ℕ) (rows : List rules.Connection)
    → cond (nat_eq conn q) None (option_map seen (numbered q rows)) ≡ option_map seen (numbered q (filter (λ (c : rules.Connection). not (c.number == conn)) rows))
closed-number conn q rows = out (nat_eq conn q) ∙ ap (option_map seen) (closed-at conn q rows)
  where
    out : (b : Bool) → cond b None (option_map seen (numbered q rows)) ≡ option_map seen (cond b None (numbered q rows))
    out true = refl
    out false = refl

-- one that changes is found changed
changed-at : (f : rules.Connection → rules.Connection) → IsRow f → (conn q : ℕ) (rows : List rules.Connection)
    → cond (nat_eq conn q) (option_map f (numbered q rows)) (numbered q rows) ≡ numbered q (at_first (λ (c : rules.Connection). c.number == conn) f rows)
changed-at f r conn q [] = pick (nat_eq conn q)
  where
    none : Option rules.Connection
    none = None

    pick : (b : Bool) → cond b none none ≡ none
    pick true = refl
    pick false = refl
changed-at f r conn q (c ∷ cs) = pick (nat_eq conn q) refl (c.number == q) refl (c.number == conn) refl (changed-at f r conn q cs)
  where
    rest : List rules.Connection
    rest = at_first (λ (d : rules.Connection). d.number == conn) f cs

    found : Option rules.Connection
    found = numbered q cs

    pick : (b : Bool) → nat_eq conn q ≡ b → (e : Bool) → (c.number == q) ≡ e → (t : Bool) → (c.number == conn) ≡ t → cond (nat_eq conn q) (option_map f found) found ≡ numbered q rest
        → cond b (option_map f (cond e (Some c) found)) (cond e (Some c) found) ≡ numbered q (cond t (f c ∷ cs) (c ∷ rest))
    pick true is true at true on go = sym (ap (λ b. cond b (Some (f c)) found) (ap (λ n. n == q) (r.number c) ∙ at))
    pick true is false at true on go = absurd (true≢false (sym (subst (λ (m : ℕ). (m == q) ≡ true) (sym (eqb-true c.number conn on)) is) ∙ at))
    pick false is true at true on go = absurd (true≢false (sym (subst (λ (m : ℕ). (m == q) ≡ true) (eqb-true c.number conn on) at) ∙ is))
    pick false is false at true on go = sym (ap (λ b. cond b (Some (f c)) found) (ap (λ n. n == q) (r.number c) ∙ at))
    pick true is true at false on go = absurd (true≢false (sym (subst (λ (m : ℕ). (c.number == m) ≡ true) (sym (eqb-true conn q is)) at) ∙ on))
    pick true is false at false on go = sym (ap (λ b. cond b (option_map f found) found) is) ∙ go ∙ sym (ap (λ b. cond b (Some c) (numbered q rest)) at)
    pick false is true at false on go = sym (ap (λ b. cond b (Some c) (numbered q rest)) at)
    pick false is false at false on go = sym (ap (λ b. cond b (option_map f found) found) is) ∙ go ∙ sym (ap (λ b. cond b (Some c) (numbered q rest)) at)

-- ---- links

-- a peer is known if it is being dialled, or a connection was dialled to it
pub known : (peer : Uuid) (rows : List rules.Connection) (dialling : List Uuid) → is_some (link_of peer rows dialling) ≡ (is_some (to_peer peer rows) || is_dialled peer dialling)
known peer rows dialling = pick (is_dialled peer dialling) (to_peer peer rows)
  where
    pick : (b : Bool) (o : Option rules.Connection) → is_some (cond b (Some Dialling) (option_map (λ (c : rules.Connection). Open c.number) o)) ≡ (is_some o || b)
    pick true None = refl
    pick true (Some c) = refl
    pick false None = refl
    pick false (Some c) = refl

-- a peer whose link says so is being dialled
pub dialling-link : (peer : Uuid) (rows : List rules.Connection) (dialling : List Uuid) → link_of peer rows dialling ≡ Some Dialling → is_dialled peer dialling ≡ true
dialling-link peer rows dialling h = pick (is_dialled peer dialling) (to_peer peer rows) h
  where
    pick : (b : Bool) (o : Option rules.Connection) → cond b (Some Dialling) (option_map (λ (c : rules.Connection). Open c.number) o) ≡ Some Dialling → b ≡ true
    pick true o e = refl
    pick false None e = cc
    pick false (Some c) e = cc

-- a peer whose link says otherwise is not
pub other-link : (peer : Uuid) (rows : List rules.Connection) (dialling : List Uuid) (o : Option Link) → o ≡ link_of peer rows dialling → (o ≡ Some Dialling → ⊥) → is_dialled peer dialling ≡ false
other-link peer rows dialling o is other = pick (is_dialled peer dialling) refl
  where
    pick : (b : Bool) → is_dialled peer dialling ≡ b → b ≡ false
    pick true e = absurd (other (is ∙ ap (λ b. cond b (Some Dialling) (option_map (λ (c : rules.Connection). Open c.number) (to_peer peer rows))) e))
    pick false e = refl

-- a peer that is dialled
pub dialled-link : (peer q : Uuid) (rows : List rules.Connection) (dialling : List Uuid) → cond (bytes_eq peer q) (Some Dialling) (link_of q rows dialling) ≡ link_of q rows (dialling ++ peer ∷ [])
dialled-link peer q rows dialling = pick (bytes_eq peer q) refl (is_dialled q dialling) refl
  where
    to : Option Link
    to = option_map (λ (c : rules.Connection). Open c.number) (to_peer q rows)

    pick : (b : Bool) → bytes_eq peer q ≡ b → (d : Bool) → is_dialled q dialling ≡ d → cond b (Some Dialling) (cond d (Some Dialling) to) ≡ cond (is_dialled q (dialling ++ peer ∷ [])) (Some Dialling) to
    pick true is d at =
        sym (ap (λ x. cond x (Some Dialling) to) (subst (λ (p : Uuid). is_dialled q (dialling ++ p ∷ []) ≡ true) (sym (one-peer peer q is)) (any-last q dialling)))
    pick false is true at = sym (ap (λ x. cond x (Some Dialling) to) (Rattle.sp_rules.proofs.LineLemmas.any-more q dialling peer at))
    pick false is false at = sym (ap (λ x. cond x (Some Dialling) to) (none-more q dialling peer at (other-way peer q is)))

-- the peers that are being dialled, but for one
others-dialled : (peer q : Uuid) (dialling : List Uuid) → is_dialled q (no_more (Some peer) dialling) ≡ (not (bytes_eq peer q) && is_dialled q dialling)
others-dialled peer q dialling =
    any-filter_same (bytes_eq q) (λ (p : Uuid). not (bytes_eq peer p)) (not (bytes_eq peer q)) (λ p same. ap (λ (x : Uuid). not (bytes_eq peer x)) (sym (one-peer q p same))) dialling

-- a peer is no longer being dialled, and no connection was dialled to it
pub refused-link : (peer q : Uuid) (rows : List rules.Connection) (dialling : List Uuid) → to_peer peer rows ≡ None → cond (bytes_eq peer q) None (link_of q rows dialling) ≡ link_of q rows (no_more (Some peer) dialling)
refused-link peer q rows dialling none = pick (bytes_eq peer q) refl ∙ sym (ap (λ d. cond d (Some Dialling) (to q)) (others-dialled peer q dialling))
  where
    to : Uuid → Option Link
    to p = option_map (λ (c : rules.Connection). Open c.number) (to_peer p rows)

    pick : (b : Bool) → bytes_eq peer q ≡ b → cond b None (link_of q rows dialling) ≡ cond (not b && is_dialled q dialling) (Some Dialling) (to q)
    pick true is = sym (ap (option_map (λ (c : rules.Connection). Open c.number)) (subst (λ (p : Uuid). to_peer p rows ≡ None) (one-peer peer q is) none))
    pick false is = refl

-- a peer that is not being dialled is not taken away
pub unrefused-link : (peer q : Uuid) (rows : List rules.Connection) (dialling : List Uuid) → is_dialled peer dialling ≡ false → link_of q rows dialling ≡ link_of q rows (no_more (Some peer) dialling)
unrefused-link peer q rows dialling none = sym (ap (λ d. cond d (Some Dialling) (option_map (λ (c : rules.Connection). Open c.number) (to_peer q rows))) (others-dialled peer q dialling ∙ pick (bytes_eq peer q) refl))
  where
    pick : (b : Bool) → bytes_eq peer q ≡ b → (not b && is_dialled q dialling) ≡ is_dialled q dialling
    pick true is = sym (subst (λ (p : Uuid). is_dialled p dialling ≡ false) (one-peer peer q is) none)
    pick false is = refl

-- what is still being dialled was
pub still-dialled : (dialled : Option Uuid) (q : Uuid) (dialling : List Uuid) → is_dialled q (no_more dialled dialling) ≡ true → is_dialled q dialling ≡ true
still-dialled None q dialling h = h
still-dialled (Some peer) q dialling h = pick (not (bytes_eq peer q)) (is_dialled q dialling) (sym (others-dialled peer q dialling) ∙ h)
  where
    pick : (a b : Bool) → (a && b) ≡ true → b ≡ true
    pick true b e = e
    pick false b e = absurd (true≢false (sym e))

-- ---- connections that were dialled

-- a connection that a peer dialled
pub accepted-link : (conn : ℕ) (q : Uuid) (rows : List rules.Connection) (dialling : List Uuid) → link_of q rows dialling ≡ link_of q (rows ++ opened conn None ∷ []) dialling
accepted-link conn q rows dialling =
    sym (ap (λ o. cond (is_dialled q dialling) (Some Dialling) (option_map (λ (c : rules.Connection). Open c.number) o)) (to-more rows (opened conn None) q refl))

-- a connection to a peer that is being dialled
pub opened-link : (conn : ℕ) (peer q : Uuid) (rows : List rules.Connection) (dialling : List Uuid) → to_peer peer rows ≡ None
    → cond (bytes_eq peer q) (Some (Open conn)) (link_of q rows dialling) ≡ link_of q (rows ++ opened conn (Some peer) ∷ []) (no_more (Some peer) dialling)
opened-link conn peer q rows dialling none = pick (bytes_eq peer q) refl ∙ sym (ap (λ d. cond d (Some Dialling) (to (to_peer q more))) (others-dialled peer q dialling))
  where
    to : Option rules.Connection → Option Link
    to o = option_map (λ (c : rules.Connection). Open c.number) o

    new : rules.Connection
    new = opened conn (Some peer)

    more : List rules.Connection
    more = rows ++ new ∷ []

    pick : (b : Bool) → bytes_eq peer q ≡ b → cond b (Some (Open conn)) (link_of q rows dialling) ≡ cond (not b && is_dialled q dialling) (Some Dialling) (to (to_peer q more))
    pick true is = sym (ap to (to-last rows new q (subst (λ (p : Uuid). to_peer p rows ≡ None) (one-peer peer q is) none) is))
    pick false is = sym (ap (λ o. cond (is_dialled q dialling) (Some Dialling) (to o)) (to-more rows new q is))

pub numbered-more : (rows : List rules.Connection) (c : rules.Connection) → AreNumbered rows → numbered c.number rows ≡ None → AreNumbered (rows ++ c ∷ [])
numbered-more [] c a none = (tt, tt)
numbered-more (d ∷ ds) c a none =
    let apart = none-found (λ (x : rules.Connection). x.number == c.number) (d ∷ ds) none in
    (all-more (λ (x : rules.Connection). (x.number == d.number) ≡ false) ds c a.0 (turn d.number c.number apart.0), numbered-more ds c a.1 (none-is ds apart.1))
  where
    turn : (m n : ℕ) → (m == n) ≡ false → (n == m) ≡ false
    turn m n e = pick (n == m) refl
      where
        pick : (b : Bool) → (n == m) ≡ b → b ≡ false
        pick true t = absurd (true≢false (sym (eq-eqb m n (sym (eqb-true n m t))) ∙ e))
        pick false t = refl

    none-is : (xs : List rules.Connection) → AllOf (λ (x : rules.Connection). (x.number == c.number) ≡ false) xs → numbered c.number xs ≡ None
    none-is [] e = refl
    none-is (x ∷ xs) e = ap (λ b. cond b (Some x) (numbered c.number xs)) e.0 ∙ none-is xs e.1

-- no other connection was dialled to the peer of this one
pub IsNew : Option Uuid → List rules.Connection → Type 0
IsNew None rows = Unit {0}
IsNew (Some peer) rows = to_peer peer rows ≡ None

dialled-more-new : (o : Option Uuid) (rows : List rules.Connection) (c : rules.Connection) → IsAlone o rows → ((q : Uuid) → o ≡ Some q → To q c ≡ false) → IsAlone o (rows ++ c ∷ [])
dialled-more-new None rows c a apart = tt
dialled-more-new (Some q) rows c a apart = to-more rows c q (apart q refl) ∙ a

pub dialled-more : (rows : List rules.Connection) (c : rules.Connection) → AreDialledOnce rows → ((q : Uuid) → To q c ≡ true → to_peer q rows ≡ None) → AreDialledOnce (rows ++ c ∷ [])
dialled-more [] c a new = (alone c.dialled, tt)
  where
    alone : (o : Option Uuid) → IsAlone o []
    alone None = tt
    alone (Some q) = refl
dialled-more (d ∷ ds) c a new =
    (dialled-more-new d.dialled ds c a.0 (λ q is. pick q is (To q c) refl), dialled-more ds c a.1 (λ q to. (none-to d ds q (new q to)).1))
  where
    pick : (q : Uuid) → d.dialled ≡ Some q → (b : Bool) → To q c ≡ b → b ≡ false
    pick q is true to = absurd (true≢false (sym (ap (λ o. rules.is_to q o) is ∙ same-peer q) ∙ (none-to d ds q (new q to)).0))
    pick q is false to = refl

-- ---- connections that end

-- the connection that was dialled to a peer goes, and no other was
pub gone-to : (conn : ℕ) (rows : List rules.Connection) (c : rules.Connection) (q : Uuid) → AreNumbered rows → AreDialledOnce rows → numbered conn rows ≡ Some c → To q c ≡ true
    → to_peer q (filter (λ (d : rules.Connection). not (d.number == conn)) rows) ≡ None
gone-to conn [] c q n a e t = refl
gone-to conn (d ∷ ds) c q n a e t = pick (d.number == conn) refl e (λ f. gone-to conn ds c q n.1 a.1 f t)
  where
    rest : List rules.Connection
    rest = filter (λ (x : rules.Connection). not (x.number == conn)) ds

    others : (o : Option Uuid) → IsAlone o ds → rules.is_to q o ≡ true → to_peer q ds ≡ None
    others None alone to = absurd (true≢false (sym to))
    others (Some p) alone to = subst (λ (x : Uuid). to_peer x ds ≡ None) (one-peer p q to) alone

    apart : (b : Bool) → To q d ≡ b → numbered conn ds ≡ Some c → b ≡ false
    apart true to f =
        absurd (true≢false (sym t ∙ all-found (λ (x : rules.Connection). To q x ≡ false) (λ (x : rules.Connection). x.number == conn) ds c f (none-found (λ (x : rules.Connection). To q x) ds (others d.dialled a.0 to))))
    apart false to f = refl

    pick : (b : Bool) → (d.number == conn) ≡ b → cond b (Some d) (numbered conn ds) ≡ Some c → (numbered conn ds ≡ Some c → to_peer q rest ≡ None) → to_peer q (cond (not b) (d ∷ rest) rest) ≡ None
    pick true is f go =
        filter-all conn ds q (subst (λ (m : ℕ). AllOf (λ (x : rules.Connection). (x.number == m) ≡ false) ds) (eqb-true d.number conn is) n.0)
        ∙ others d.dialled a.0 (ap (To q) (only d c f) ∙ t)
    pick false is f go = ap (λ b. cond b (Some d) (to_peer q rest)) (apart (To q d) refl f) ∙ go f

pub ended-link : (conn : ℕ) (c : rules.Connection) (peer q : Uuid) (rows : List rules.Connection) (dialling : List Uuid) → AreNumbered rows → AreDialledOnce rows
    → ((p : Uuid) → is_dialled p dialling ≡ true → to_peer p rows ≡ None) → numbered conn rows ≡ Some c → c.dialled ≡ Some peer
    → cond (bytes_eq peer q) None (link_of q rows dialling) ≡ link_of q (filter (λ (d : rules.Connection). not (d.number == conn)) rows) dialling
ended-link conn c peer q rows dialling n a apart e dialled = pick (bytes_eq peer q) refl (is_dialled q dialling) refl
  where
    to : Option rules.Connection → Option Link
    to o = option_map (λ (x : rules.Connection). Open x.number) o

    rest : List rules.Connection
    rest = filter (λ (d : rules.Connection). not (d.number == conn)) rows

    its : To q c ≡ bytes_eq peer q
    its = ap (rules.is_to q) dialled

    pick : (b : Bool) → bytes_eq peer q ≡ b → (d : Bool) → is_dialled q dialling ≡ d → cond b None (cond d (Some Dialling) (to (to_peer q rows))) ≡ cond d (Some Dialling) (to (to_peer q rest))
    pick true is true at =
        absurd (true≢false (sym (its ∙ is) ∙ all-found (λ (x : rules.Connection). To q x ≡ false) (λ (x : rules.Connection). x.number == conn) rows c e (none-found (λ (x : rules.Connection). To q x) rows (apart q at))))
    pick true is false at = sym (ap to (gone-to conn rows c q n a e (its ∙ is)))
    pick false is true at = refl
    pick false is false at = sym (ap to (gone-others conn rows c q n e (its ∙ is)))

-- the end of a connection that a peer dialled
pub left-link : (conn : ℕ) (c : rules.Connection) (q : Uuid) (rows : List rules.Connection) (dialling : List Uuid) → AreNumbered rows → numbered conn rows ≡ Some c → c.dialled ≡ None
    → link_of q rows dialling ≡ link_of q (filter (λ (d : rules.Connection). not (d.number == conn)) rows) dialling
left-link conn c q rows dialling n e none =
    sym (ap (λ o. cond (is_dialled q dialling) (Some Dialling) (option_map (λ (x : rules.Connection). Open x.number) o)) (gone-others conn rows c q n e (ap (rules.is_to q) none)))

-- ---- connections that change

pub changed-link : (f : rules.Connection → rules.Connection) → IsRow f → (conn : ℕ) (q : Uuid) (rows : List rules.Connection) (dialling : List Uuid)
    → link_of q rows dialling ≡ link_of q (at_first (λ (c : rules.Connection). c.number == conn) f rows) dialling
changed-link f r conn q rows dialling = sym (ap (λ o. cond (is_dialled q dialling) (Some Dialling) o) (same rows))
  where
    to : Option rules.Connection → Option Link
    to o = option_map (λ (x : rules.Connection). Open x.number) o

    same : (cs : List rules.Connection) → to (to_peer q (at_first (λ (c : rules.Connection). c.number == conn) f cs)) ≡ to (to_peer q cs)
    same [] = refl
    same (d ∷ ds) = pick (d.number == conn) (same ds)
      where
        rest : List rules.Connection
        rest = at_first (λ (c : rules.Connection). c.number == conn) f ds

        first : (b : Bool) → to (cond b (Some (f d)) (to_peer q ds)) ≡ to (cond b (Some d) (to_peer q ds))
        first true = ap (λ n. Some (Open n)) (r.number d)
        first false = refl

        others : (b : Bool) → to (to_peer q rest) ≡ to (to_peer q ds) → to (cond b (Some d) (to_peer q rest)) ≡ to (cond b (Some d) (to_peer q ds))
        others true e = refl
        others false e = e

        pick : (b : Bool) → to (to_peer q rest) ≡ to (to_peer q ds) → to (to_peer q (cond b (f d ∷ ds) (d ∷ rest))) ≡ to (to_peer q (d ∷ ds))
        pick true e = ap (λ x. to (cond x (Some (f d)) (to_peer q ds))) (ap (rules.is_to q) (r.dialled d)) ∙ first (To q d)
        pick false e = others (To q d) e

-- what is kept of a connection that changes
pub changed-number : (f : rules.Connection → rules.Connection) → IsRow f → (g : Connection → Connection) → ((c : rules.Connection) → seen (f c) ≡ g (seen c)) → (conn q : ℕ) (rows : List rules.Connection) (old : Connection)
    → Some old ≡ option_map seen (numbered conn rows)
    → cond (nat_eq conn q) (Some (g old)) (option_map seen (numbered q rows)) ≡ option_map seen (numbered q (at_first (λ (c : rules.Connection). c.number == conn) f rows))
changed-number f r g fits conn q rows old is = pick (nat_eq conn q) refl ∙ ap (option_map seen) (changed-at f r conn q rows)
  where
    here : (o : Option rules.Connection) → Some old ≡ option_map seen o → Some (g old) ≡ option_map seen (option_map f o)
    here None e = cc
    here (Some c) e = ap (λ x. Some (g x)) (only old (seen c) e) ∙ sym (ap Some (fits c))

    pick : (b : Bool) → nat_eq conn q ≡ b → cond b (Some (g old)) (option_map seen (numbered q rows)) ≡ option_map seen (cond b (option_map f (numbered q rows)) (numbered q rows))
    pick true e = here (numbered q rows) (is ∙ ap (λ n. option_map seen (numbered n rows)) (eqb-true conn q e))
    pick false e = refl

-- no connection of the number changes
pub unchanged : (f : rules.Connection → rules.Connection) (conn : ℕ) (rows : List rules.Connection) → numbered conn rows ≡ None → rows ≡ at_first (λ (c : rules.Connection). c.number == conn) f rows
unchanged f conn rows none = same rows (none-found (λ (c : rules.Connection). c.number == conn) rows none)
  where
    same : (cs : List rules.Connection) → AllOf (λ (c : rules.Connection). (c.number == conn) ≡ false) cs → cs ≡ at_first (λ (c : rules.Connection). c.number == conn) f cs
    same [] a = refl
    same (d ∷ ds) a = ap (λ xs. d ∷ xs) (same ds a.1) ∙ sym (ap (λ b. cond b (f d ∷ ds) (d ∷ at_first (λ (c : rules.Connection). c.number == conn) f ds)) a.0)

-- none of the number goes
pub ungone : (conn : ℕ) (rows : List rules.Connection) → numbered conn rows ≡ None → rows ≡ filter (λ (c : rules.Connection). not (c.number == conn)) rows
ungone conn rows none = same rows (none-found (λ (c : rules.Connection). c.number == conn) rows none)
  where
    same : (cs : List rules.Connection) → AllOf (λ (c : rules.Connection). (c.number == conn) ≡ false) cs → cs ≡ filter (λ (c : rules.Connection). not (c.number == conn)) cs
    same [] a = refl
    same (d ∷ ds) a = ap (λ xs. d ∷ xs) (same ds a.1) ∙ sym (ap (λ b. cond (not b) (d ∷ rest) rest) a.0)
      where
        rest : List rules.Connection
        rest = filter (λ (c : rules.Connection). not (c.number == conn)) ds

-- ---- tables

entry-here : (r : ℕ) (es : List (ℕ × Connection)) (i : ℕ) (v : Connection) → i < length (keys_of es) → r ≡ get_or (keys_of es) i r → slice_get (values_of es) i ≡ Some v → slice_get es i ≡ Some (r, v)
entry-here r [] i v within key value = absurd (omega arith)
entry-here r (e ∷ es) zero v within key value = let mine : e.1 ≡ v = only e.1 v value in λ j. Some (sym key j, mine j)
entry-here r (e ∷ es) (suc i) v within key value = entry-here r es i v (omega arith) key value

pub entry-at : (r : ℕ) (es : List (ℕ × Connection)) (i : ℕ) (v : Connection) → position (nat_eq r) (keys_of es) ≡ Some i → slice_get (values_of es) i ≡ Some v → slice_get es i ≡ Some (r, v)
entry-at r es i v index value =
    let at = position-Some (nat_eq r) (keys_of es) i r index in entry-here r es i v at.0 (eqb-true r (get_or (keys_of es) i r) at.1) value

pub none-from : (o : Option Connection) → false ≡ is_some o → o ≡ None
none-from None h = refl
none-from (Some x) h = absurd (true≢false (sym h))

pub dial : (rows : List rules.Connection) (dialling : List Uuid) (old new : Connections) (peer : Uuid) → is_some (lookup (bytes_eq peer) old.links.entries) ≡ false → new.rows.entries ≡ old.rows.entries
    → ((q : Uuid) → lookup (bytes_eq q) new.links.entries ≡ cond (bytes_eq peer q) (Some Dialling) (lookup (bytes_eq q) old.links.entries)) → AreConnections rows dialling old → AreConnections rows (dialled_once peer rows dialling) new
dial rows dialling old new peer absent same updates a =
    let none : (is_some (to_peer peer rows) || is_dialled peer dialling) ≡ false = sym (known peer rows dialling) ∙ sym (ap is_some (a.links peer)) ∙ absent in
    let parts = or-none (is_some (to_peer peer rows)) (is_dialled peer dialling) none in
    subst (λ (ds : List Uuid). AreConnections rows ds new) (sym (ap (λ b. cond b dialling (dialling ++ peer ∷ [])) none)) (record {
      numbers = λ conn. ap (λ es. lookup (nat_eq conn) es) same ∙ a.numbers conn;
      links = λ q. updates q ∙ ap (λ o. cond (bytes_eq peer q) (Some Dialling) o) (a.links q) ∙ dialled-link peer q rows dialling;
      numbered_once = a.numbered_once;
      dialled_once = a.dialled_once;
      apart = λ q is. pick q (is_dialled q dialling) refl (bytes_eq q peer) refl is (none-of (to_peer peer rows) parts.0);
    })
  where
    pick : (q : Uuid) (b : Bool) → is_dialled q dialling ≡ b → (e : Bool) → bytes_eq q peer ≡ e → is_dialled q (dialling ++ peer ∷ []) ≡ true → to_peer peer rows ≡ None → to_peer q rows ≡ None
    pick q true at e it is none = a.apart q at
    pick q false at true it is none = subst (λ (p : Uuid). to_peer p rows ≡ None) (sym (one-peer q peer it)) none
    pick q false at false it is none = absurd (true≢false (sym is ∙ none-more q dialling peer at it))

pub refuse : (rows : List rules.Connection) (dialling : List Uuid) (old new : Connections) (peer : Uuid) → is_dialled peer dialling ≡ true → new.rows.entries ≡ old.rows.entries
    → ((q : Uuid) → lookup (bytes_eq q) new.links.entries ≡ cond (bytes_eq peer q) None (lookup (bytes_eq q) old.links.entries)) → AreConnections rows dialling old → AreConnections rows (no_more (Some peer) dialling) new
refuse rows dialling old new peer is same updates a = record {
  numbers = λ conn. ap (λ es. lookup (nat_eq conn) es) same ∙ a.numbers conn;
  links = λ q. updates q ∙ ap (λ o. cond (bytes_eq peer q) None o) (a.links q) ∙ refused-link peer q rows dialling (a.apart peer is);
  numbered_once = a.numbered_once;
  dialled_once = a.dialled_once;
  apart = λ q at. a.apart q (still-dialled (Some peer) q dialling at);
}

pub unrefused : (rows : List rules.Connection) (dialling : List Uuid) (old : Connections) (peer : Uuid) → is_dialled peer dialling ≡ false → AreConnections rows dialling old → AreConnections rows (no_more (Some peer) dialling) old
unrefused rows dialling old peer is a = record {
  numbers = a.numbers;
  links = λ q. a.links q ∙ unrefused-link peer q rows dialling is;
  numbered_once = a.numbered_once;
  dialled_once = a.dialled_once;
  apart = λ q at. a.apart q (still-dialled (Some peer) q dialling at);
}

pub accept : (rows : List rules.Connection) (dialling : List Uuid) (old new : Connections) (conn : ℕ) → new.links.entries ≡ old.links.entries
    → ((q : ℕ) → lookup (nat_eq q) new.rows.entries ≡ cond (nat_eq conn q) (Some (seen (opened conn None))) (lookup (nat_eq q) old.rows.entries)) → AreConnections rows dialling old → numbered conn rows ≡ None
    → AreConnections (rows ++ opened conn None ∷ []) dialling new
accept rows dialling old new conn same updates a none = record {
  numbers = λ q. updates q ∙ ap (λ o. cond (nat_eq conn q) (Some (seen (opened conn None))) o) (a.numbers q) ∙ opened-number conn q None rows none;
  links = λ q. ap (λ es. lookup (bytes_eq q) es) same ∙ a.links q ∙ accepted-link conn q rows dialling;
  numbered_once = numbered-more rows (opened conn None) a.numbered_once none;
  dialled_once = dialled-more rows (opened conn None) a.dialled_once (λ q to. absurd (true≢false (sym to)));
  apart = λ q at. to-more rows (opened conn None) q refl ∙ a.apart q at;
}

pub open_to : (rows : List rules.Connection) (dialling : List Uuid) (old new : Connections) (conn : ℕ) (peer : Uuid)
    → ((q : Uuid) → lookup (bytes_eq q) new.links.entries ≡ cond (bytes_eq peer q) (Some (Open conn)) (lookup (bytes_eq q) old.links.entries))
    → ((q : ℕ) → lookup (nat_eq q) new.rows.entries ≡ cond (nat_eq conn q) (Some (seen (opened conn (Some peer)))) (lookup (nat_eq q) old.rows.entries)) → AreConnections rows dialling old → numbered conn rows ≡ None → is_dialled peer dialling ≡ true
    → AreConnections (rows ++ opened conn (Some peer) ∷ []) (no_more (Some peer) dialling) new
open_to rows dialling old new conn peer links updates a none is =
    let alone : to_peer peer rows ≡ None = a.apart peer is in record {
      numbers = λ q. updates q ∙ ap (λ o. cond (nat_eq conn q) (Some (seen (opened conn (Some peer)))) o) (a.numbers q) ∙ opened-number conn q (Some peer) rows none;
      links = λ q. links q ∙ ap (λ o. cond (bytes_eq peer q) (Some (Open conn)) o) (a.links q) ∙ opened-link conn peer q rows dialling alone;
      numbered_once = numbered-more rows (opened conn (Some peer)) a.numbered_once none;
      dialled_once = dialled-more rows (opened conn (Some peer)) a.dialled_once (λ q to. subst (λ (p : Uuid). to_peer p rows ≡ None) (one-peer peer q to) alone);
      apart = λ q at. to-more rows (opened conn (Some peer)) q (pick q (bytes_eq peer q) refl at) ∙ a.apart q (still-dialled (Some peer) q dialling at);
    }
  where
    pick : (q : Uuid) (b : Bool) → bytes_eq peer q ≡ b → is_dialled q (no_more (Some peer) dialling) ≡ true → b ≡ false
    pick q true e at = absurd (true≢false (sym at ∙ others-dialled peer q dialling ∙ ap (λ x. not x && is_dialled q dialling) e))
    pick q false e at = refl

pub change : (f : rules.Connection → rules.Connection) → IsRow f → (g : Connection → Connection) → ((c : rules.Connection) → seen (f c) ≡ g (seen c)) → (rows : List rules.Connection) (dialling : List Uuid) (old new : Connections) (conn : ℕ) (x : Connection)
    → lookup (nat_eq conn) old.rows.entries ≡ Some x → new.links.entries ≡ old.links.entries → ((q : ℕ) → lookup (nat_eq q) new.rows.entries ≡ cond (nat_eq conn q) (Some (g x)) (lookup (nat_eq q) old.rows.entries)) → AreConnections rows dialling old
    → AreConnections (at_first (λ (c : rules.Connection). c.number == conn) f rows) dialling new
change f r g fits rows dialling old new conn x there same updates a = record {
  numbers = λ q. updates q ∙ ap (λ o. cond (nat_eq conn q) (Some (g x)) o) (a.numbers q) ∙ changed-number f r g fits conn q rows x (sym there ∙ a.numbers conn);
  links = λ q. ap (λ es. lookup (bytes_eq q) es) same ∙ a.links q ∙ changed-link f r conn q rows dialling;
  numbered_once = row-numbers (λ (c : rules.Connection). c.number == conn) f r rows a.numbered_once;
  dialled_once = row-dialled (λ (c : rules.Connection). c.number == conn) f r rows a.dialled_once;
  apart = λ q at. row-none (λ (c : rules.Connection). c.number == conn) f r rows q (a.apart q at);
}

unseen : (o : Option rules.Connection) → option_map seen o ≡ None → o ≡ None
unseen None e = refl
unseen (Some c) e = cc

pub absent-number : (rows : List rules.Connection) (dialling : List Uuid) (old : Connections) (conn : ℕ) → lookup (nat_eq conn) old.rows.entries ≡ None → AreConnections rows dialling old → numbered conn rows ≡ None
absent-number rows dialling old conn none a = unseen (numbered conn rows) (sym (a.numbers conn) ∙ none)

pub unchange : (f : rules.Connection → rules.Connection) (rows : List rules.Connection) (dialling : List Uuid) (old : Connections) (conn : ℕ) → lookup (nat_eq conn) old.rows.entries ≡ None → AreConnections rows dialling old
    → AreConnections (at_first (λ (c : rules.Connection). c.number == conn) f rows) dialling old
unchange f rows dialling old conn none a = subst (λ (cs : List rules.Connection). AreConnections cs dialling old) (unchanged f conn rows (absent-number rows dialling old conn none a)) a

pub unclose : (rows : List rules.Connection) (dialling : List Uuid) (old : Connections) (conn : ℕ) → lookup (nat_eq conn) old.rows.entries ≡ None → AreConnections rows dialling old
    → AreConnections (filter (λ (c : rules.Connection). not (c.number == conn)) rows) dialling old
unclose rows dialling old conn none a = subst (λ (cs : List rules.Connection). AreConnections cs dialling old) (ungone conn rows (absent-number rows dialling old conn none a)) a

pub retold : (rows : List rules.Connection) (dialling : List Uuid) (old new : Connections) → new.rows.entries ≡ old.rows.entries → new.links.entries ≡ old.links.entries → AreConnections rows dialling old → AreConnections rows dialling new
retold rows dialling old new same links a = record {
  numbers = λ conn. ap (λ es. lookup (nat_eq conn) es) same ∙ a.numbers conn;
  links = λ q. ap (λ es. lookup (bytes_eq q) es) links ∙ a.links q;
  numbered_once = a.numbered_once;
  dialled_once = a.dialled_once;
  apart = a.apart;
}

-- what is found of a connection is what is kept of it
found-row : (o : Option rules.Connection) (x : Connection) → Some x ≡ option_map seen o → (c : rules.Connection) × ((o ≡ Some c) × (x ≡ seen c))
found-row None x e = cc
found-row (Some c) x e = (c, (refl, only x (seen c) e))

pub close_other : (rows : List rules.Connection) (dialling : List Uuid) (old new : Connections) (conn : ℕ) (x : Connection) → lookup (nat_eq conn) old.rows.entries ≡ Some x → x.dialled ≡ None → new.links.entries ≡ old.links.entries
    → ((q : ℕ) → lookup (nat_eq q) new.rows.entries ≡ cond (nat_eq conn q) None (lookup (nat_eq q) old.rows.entries)) → AreConnections rows dialling old → AreConnections (filter (λ (c : rules.Connection). not (c.number == conn)) rows) dialling new
close_other rows dialling old new conn x there none same updates a =
    let row = found-row (numbered conn rows) x (sym there ∙ a.numbers conn) in record {
      numbers = λ q. updates q ∙ ap (λ o. cond (nat_eq conn q) None o) (a.numbers q) ∙ closed-number conn q rows;
      links = λ q. ap (λ es. lookup (bytes_eq q) es) same ∙ a.links q ∙ left-link conn row.0 q rows dialling a.numbered_once row.1.0 (sym (ap (λ (y : Connection). y.dialled) row.1.1) ∙ none);
      numbered_once = numbers-filter (λ (c : rules.Connection). not (c.number == conn)) rows a.numbered_once;
      dialled_once = dialled-filter (λ (c : rules.Connection). not (c.number == conn)) rows a.dialled_once;
      apart = λ q at. filter-none (λ (c : rules.Connection). not (c.number == conn)) rows q (a.apart q at);
    }

pub close_to : (rows : List rules.Connection) (dialling : List Uuid) (old new : Connections) (conn : ℕ) (x : Connection) (peer : Uuid) → lookup (nat_eq conn) old.rows.entries ≡ Some x → x.dialled ≡ Some peer
    → ((q : Uuid) → lookup (bytes_eq q) new.links.entries ≡ cond (bytes_eq peer q) None (lookup (bytes_eq q) old.links.entries)) → ((q : ℕ) → lookup (nat_eq q) new.rows.entries ≡ cond (nat_eq conn q) None (lookup (nat_eq q) old.rows.entries))
    → AreConnections rows dialling old → AreConnections (filter (λ (c : rules.Connection). not (c.number == conn)) rows) dialling new
close_to rows dialling old new conn x peer there its links updates a =
    let row = found-row (numbered conn rows) x (sym there ∙ a.numbers conn) in record {
      numbers = λ q. updates q ∙ ap (λ o. cond (nat_eq conn q) None o) (a.numbers q) ∙ closed-number conn q rows;
      links = λ q. links q ∙ ap (λ o. cond (bytes_eq peer q) None o) (a.links q)
          ∙ ended-link conn row.0 peer q rows dialling a.numbered_once a.dialled_once a.apart row.1.0 (sym (ap (λ (y : Connection). y.dialled) row.1.1) ∙ its);
      numbered_once = numbers-filter (λ (c : rules.Connection). not (c.number == conn)) rows a.numbered_once;
      dialled_once = dialled-filter (λ (c : rules.Connection). not (c.number == conn)) rows a.dialled_once;
      apart = λ q at. filter-none (λ (c : rules.Connection). not (c.number == conn)) rows q (a.apart q at);
    }

-- A table says nothing of what was sent: it stays as it is when a frame goes out.
pub sent : (f : rules.Connection → rules.Connection) → IsRow f → ((c : rules.Connection) → seen (f c) ≡ seen c) → (rows : List rules.Connection) (dialling : List Uuid) (table : Connections) (conn : ℕ) → AreConnections rows dialling table
    → AreConnections (at_first (λ (c : rules.Connection). c.number == conn) f rows) dialling table
sent f r same rows dialling table conn a = record {
  numbers = λ q. a.numbers q ∙ pick q (nat_eq conn q) (numbered q rows) ∙ ap (option_map seen) (changed-at f r conn q rows);
  links = λ q. a.links q ∙ changed-link f r conn q rows dialling;
  numbered_once = row-numbers (λ (c : rules.Connection). c.number == conn) f r rows a.numbered_once;
  dialled_once = row-dialled (λ (c : rules.Connection). c.number == conn) f r rows a.dialled_once;
  apart = λ q at. row-none (λ (c : rules.Connection). c.number == conn) f r rows q (a.apart q at);
}
  where
    pick : (q : ℕ) (b : Bool) (o : Option rules.Connection) → option_map seen o ≡ option_map seen (cond b (option_map f o) o)
    pick q true None = refl
    pick q true (Some c) = sym (ap Some (same c))
    pick q false o = refl
