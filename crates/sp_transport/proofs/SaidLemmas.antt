-- Connections with the frames of the event under way: frames that count alike, and connections that are alike.
use Rattle.std.proofs.Common.{◌≡◌, ℕ, Bool, true, false, cond, List, [], ◌∷◌, ◌++◌, Option, None, Some, is_some, map, ◌⊎◌, inl, inr, refl, sym, ap, subst, ◌∙◌, true≢false}
use Rattle.std.specs.Prelude.{◌==◌, fold}
use Rattle.std.specs.List.{flat_map}
use Rattle.std.proofs.lemmas.Bool.{eqb-true}
use Rattle.net_message.specs.declared.message.Message.{Message}
use Rattle.uuid.specs.declared.Uuid.{Uuid}
use Rattle.sp_rules.proofs.AllLemmas.{all-first}
use Rattle.sp_rules.proofs.LineLemmas.{To}
use Rattle.sp_rules.specs.Endings.{call_number_in}
use Rattle.sp_rules.specs.Events.{Output, Started, Ended, Withdrawn, Denied, Send, Dial, Close, Ready, Note, Says, Sends}
use Rattle.sp_rules.specs.Laws.{AllOf}
use Rattle.sp_rules.specs.Lines.{dialled_to}
use Rattle.sp_rules.specs.Requests.{hello_came}
use Rattle.sp_rules.specs.State.{Connection, is_to}
use Rattle.sp_requests.specs.Tables.{numbered}
use Rattle.sp_requests.specs.Asking.{sequence_in}
use Rattle.sp_requests.specs.AllAsked.{sent_on}
use Rattle.sp_transport.specs.Said.{AreLinesAlike, CountAlike, IsLineAlike, output_sent, recorded}

-- ---- frames that count alike

pub count-self : (ms : List Message) → CountAlike ms ms
count-self ms = record { calls = refl; sequences = refl }

count-turn : {a b : List Message} → CountAlike a b → CountAlike b a
count-turn e = record { calls = sym e.calls; sequences = sym e.sequences }

count-then : {a b c : List Message} → CountAlike a b → CountAlike b c → CountAlike a c
count-then e f = record { calls = e.calls ∙ f.calls; sequences = e.sequences ∙ f.sequences }

count-more : {a b : List Message} (m : Message) → CountAlike a b → CountAlike (m ∷ a) (m ∷ b)
count-more m e = record {
  calls = ap (λ (l : List (List ℕ)). call_number_in m ∷ l) e.calls;
  sequences = ap (λ (l : List ℕ). sequence_in m ++ l) e.sequences;
}

-- two frames that are no calls, of which one is no dirty or clean call either, may stand in either order
count-swap : (m a : Message) (ms : List Message) → call_number_in m ≡ [] → call_number_in a ≡ [] → sequence_in a ≡ [] → CountAlike (m ∷ a ∷ ms) (a ∷ m ∷ ms)
count-swap m a ms isnt none nil = record {
  calls = ap (λ (l : List ℕ). l ∷ call_number_in a ∷ map call_number_in ms) (isnt ∙ sym none) ∙ ap (λ (l : List ℕ). call_number_in a ∷ l ∷ map call_number_in ms) (none ∙ sym isnt);
  sequences = ap (λ (l : List ℕ). sequence_in m ++ (l ++ flat_map sequence_in ms)) nil ∙ sym (ap (λ (l : List ℕ). l ++ (sequence_in m ++ flat_map sequence_in ms)) nil);
}

-- ---- one connection

line-self : (c : Connection) → IsLineAlike c c
line-self c = record { number = refl; dialled = refl; peer = refl; sent = λ is. count-self c.sent }

line-turn : {c d : Connection} → IsLineAlike c d → IsLineAlike d c
line-turn a = record { number = sym a.number; dialled = sym a.dialled; peer = sym a.peer; sent = λ is. count-turn (a.sent (ap is_some a.dialled ∙ is)) }

line-then : {c d e : Connection} → IsLineAlike c d → IsLineAlike d e → IsLineAlike c e
line-then a b = record { number = a.number ∙ b.number; dialled = a.dialled ∙ b.dialled; peer = a.peer ∙ b.peer; sent = λ is. count-then (a.sent is) (b.sent (sym (ap is_some a.dialled) ∙ is)) }

-- a connection on which this frame goes out
abbrev pub with_frame : Message → Connection → Connection
with_frame m c = record c { sent = m ∷ c.sent }

line-more : {c d : Connection} (m : Message) → IsLineAlike c d → IsLineAlike (with_frame m c) (with_frame m d)
line-more m a = record { number = a.number; dialled = a.dialled; peer = a.peer; sent = λ is. count-more m (a.sent is) }

-- ---- all connections

pub alike-self : (cs : List Connection) → AreLinesAlike cs cs
alike-self [] = tt
alike-self (c ∷ cs) = (line-self c, alike-self cs)

pub alike-turn : (cs ds : List Connection) → AreLinesAlike cs ds → AreLinesAlike ds cs
alike-turn [] [] a = tt
alike-turn [] (d ∷ ds) a = absurd a
alike-turn (c ∷ cs) [] a = absurd a
alike-turn (c ∷ cs) (d ∷ ds) a = (line-turn a.0, alike-turn cs ds a.1)

pub alike-then : (cs ds es : List Connection) → AreLinesAlike cs ds → AreLinesAlike ds es → AreLinesAlike cs es
alike-then [] [] [] a b = tt
alike-then [] [] (e ∷ es) a b = absurd b
alike-then [] (d ∷ ds) es a b = absurd a
alike-then (c ∷ cs) [] es a b = absurd a
alike-then (c ∷ cs) (d ∷ ds) [] a b = absurd b
alike-then (c ∷ cs) (d ∷ ds) (e ∷ es) a b = (line-then a.0 b.0, alike-then cs ds es a.1 b.1)

pub alike-sent : (n : ℕ) (m : Message) (cs ds : List Connection) → AreLinesAlike cs ds → AreLinesAlike (sent_on n m cs) (sent_on n m ds)
alike-sent n m [] [] a = tt
alike-sent n m [] (d ∷ ds) a = absurd a
alike-sent n m (c ∷ cs) [] a = absurd a
alike-sent n m (c ∷ cs) (d ∷ ds) a =
    subst (λ (k : ℕ). AreLinesAlike (sent_on n m (c ∷ cs)) (cond (k == n) (with_frame m d ∷ ds) (d ∷ sent_on n m ds))) a.0.number (pick (c.number == n) (alike-sent n m cs ds a.1))
  where
    pick : (b : Bool) → AreLinesAlike (sent_on n m cs) (sent_on n m ds) → AreLinesAlike (cond b (with_frame m c ∷ cs) (c ∷ sent_on n m cs)) (cond b (with_frame m d ∷ ds) (d ∷ sent_on n m ds))
    pick true go = (line-more m a.0, a.1)
    pick false go = (a.0, go)

pub alike-output : (o : Output) (cs ds : List Connection) → AreLinesAlike cs ds → AreLinesAlike (output_sent cs o) (output_sent ds o)
alike-output (Started task) cs ds a = a
alike-output (Ended task outcome) cs ds a = a
alike-output (Withdrawn ids) cs ds a = a
alike-output (Denied fault) cs ds a = a
alike-output (Send conn m) cs ds a = alike-sent conn m cs ds a
alike-output (Dial peer) cs ds a = a
alike-output (Close conn) cs ds a = a
alike-output (Ready task) cs ds a = a

pub alike-outputs : (os : List Output) (cs ds : List Connection) → AreLinesAlike cs ds → AreLinesAlike (fold output_sent cs os) (fold output_sent ds os)
alike-outputs [] cs ds a = a
alike-outputs (o ∷ os) cs ds a = alike-outputs os (output_sent cs o) (output_sent ds o) (alike-output o cs ds a)

-- two such frames go out in either order, on whatever connections
pub swap-sent : (n k : ℕ) (m a : Message) (cs : List Connection) → call_number_in m ≡ [] → call_number_in a ≡ [] → sequence_in a ≡ [] → AreLinesAlike (sent_on n m (sent_on k a cs)) (sent_on k a (sent_on n m cs))
swap-sent n k m a [] isnt none nil = tt
swap-sent n k m a (c ∷ cs) isnt none nil =
    subst (λ (l : List Connection). AreLinesAlike l (sent_on k a (sent_on n m (c ∷ cs)))) (sym (left-is (c.number == k)))
    (subst (λ (l : List Connection). AreLinesAlike (left (c.number == n) (c.number == k)) l) (sym (right-is (c.number == n))) (pick (c.number == n) (c.number == k) (swap-sent n k m a cs isnt none nil)))
  where
    left : Bool → Bool → List Connection
    left b d = cond d (cond b (with_frame m (with_frame a c) ∷ cs) (with_frame a c ∷ sent_on n m cs)) (cond b (with_frame m c ∷ sent_on k a cs) (c ∷ sent_on n m (sent_on k a cs)))

    right : Bool → Bool → List Connection
    right b d = cond b (cond d (with_frame a (with_frame m c) ∷ cs) (with_frame m c ∷ sent_on k a cs)) (cond d (with_frame a c ∷ sent_on n m cs) (c ∷ sent_on k a (sent_on n m cs)))

    left-is : (d : Bool) → sent_on n m (cond d (with_frame a c ∷ cs) (c ∷ sent_on k a cs)) ≡ left (c.number == n) d
    left-is true = refl
    left-is false = refl

    right-is : (b : Bool) → sent_on k a (cond b (with_frame m c ∷ cs) (c ∷ sent_on n m cs)) ≡ right b (c.number == k)
    right-is true = refl
    right-is false = refl

    pick : (b d : Bool) → AreLinesAlike (sent_on n m (sent_on k a cs)) (sent_on k a (sent_on n m cs)) → AreLinesAlike (left b d) (right b d)
    pick true true go = (record { number = refl; dialled = refl; peer = refl; sent = λ is. count-swap m a c.sent isnt none nil }, alike-self cs)
    pick true false go = alike-self (with_frame m c ∷ sent_on k a cs)
    pick false true go = alike-self (with_frame a c ∷ sent_on n m cs)
    pick false false go = (line-self c, go)

-- ---- a connection that a peer dialled

-- The connection of this number, if there is one, was not dialled by this space.
abbrev pub Accepts : ℕ → Connection → Type 0
Accepts n c = (c.number == n) ≡ true → c.dialled ≡ None

pub accepted-sent : (n k : ℕ) (m : Message) (cs : List Connection) → AllOf (Accepts n) cs → AllOf (Accepts n) (sent_on k m cs)
accepted-sent n k m cs a = all-first (Accepts n) (λ (c : Connection). c.number == k) (with_frame m) cs (λ c is. is) a

accepted-output : (n : ℕ) (o : Output) (cs : List Connection) → AllOf (Accepts n) cs → AllOf (Accepts n) (output_sent cs o)
accepted-output n (Started task) cs a = a
accepted-output n (Ended task outcome) cs a = a
accepted-output n (Withdrawn ids) cs a = a
accepted-output n (Denied fault) cs a = a
accepted-output n (Send conn m) cs a = accepted-sent n conn m cs a
accepted-output n (Dial peer) cs a = a
accepted-output n (Close conn) cs a = a
accepted-output n (Ready task) cs a = a

pub accepted-outputs : (n : ℕ) (os : List Output) (cs : List Connection) → AllOf (Accepts n) cs → AllOf (Accepts n) (fold output_sent cs os)
accepted-outputs n [] cs a = a
accepted-outputs n (o ∷ os) cs a = accepted-outputs n os (output_sent cs o) (accepted-output n o cs a)

pub accepted-notes : (n : ℕ) (notes : List Note) (cs : List Connection) → AllOf (Accepts n) cs → AllOf (Accepts n) (recorded cs notes)
accepted-notes n [] cs a = a
accepted-notes n (Says o ∷ notes) cs a = accepted-notes n notes cs a
accepted-notes n (Sends turn conn m ∷ notes) cs a = accepted-notes n notes (sent_on conn m cs) (accepted-sent n conn m cs a)

-- a frame on it counts for nothing
pub accepted-alike : (n : ℕ) (m : Message) (cs : List Connection) → AllOf (Accepts n) cs → AreLinesAlike cs (sent_on n m cs)
accepted-alike n m [] a = tt
accepted-alike n m (c ∷ cs) a = pick (c.number == n) refl (accepted-alike n m cs a.1)
  where
    pick : (b : Bool) → (c.number == n) ≡ b → AreLinesAlike cs (sent_on n m cs) → AreLinesAlike (c ∷ cs) (cond b (with_frame m c ∷ cs) (c ∷ sent_on n m cs))
    pick true is go = (record { number = refl; dialled = refl; peer = refl; sent = λ some. absurd (true≢false (sym some ∙ ap is_some (a.0 is))) }, alike-self cs)
    pick false is go = (line-self c, go)

-- and it is seen by no peer
pub accepted-lines : (n : ℕ) (m : Message) (cs : List Connection) (q : Uuid) → AllOf (Accepts n) cs → dialled_to (sent_on n m cs) q ≡ dialled_to cs q
accepted-lines n m [] q a = refl
accepted-lines n m (c ∷ cs) q a = pick (c.number == n) refl (accepted-lines n m cs q a.1)
  where
    pick : (b : Bool) → (c.number == n) ≡ b → dialled_to (sent_on n m cs) q ≡ dialled_to cs q → dialled_to (cond b (with_frame m c ∷ cs) (c ∷ sent_on n m cs)) q ≡ dialled_to (c ∷ cs) q
    pick true is go =
        let out : To q c ≡ false = ap (is_to q) (a.0 is) in
        ap (λ b. cond b (Some (with_frame m c)) (dialled_to cs q)) out ∙ sym (ap (λ b. cond b (Some c) (dialled_to cs q)) out)
    pick false is go = ap (λ (o : Option Connection). cond (To q c) (Some c) o) go

-- ---- rows but for what was sent

-- Two rows are of one connection.
pub record IsSameRow (c d : Connection) : Type 0 where
  pub number : c.number ≡ d.number
  pub dialled : c.dialled ≡ d.dialled
  pub peer : c.peer ≡ d.peer

abbrev pub AreSameRows : List Connection → List Connection → Type 0
AreSameRows [] [] = Unit {0}
AreSameRows [] (d ∷ ds) = ⊥
AreSameRows (c ∷ cs) [] = ⊥
AreSameRows (c ∷ cs) (d ∷ ds) = IsSameRow c d × AreSameRows cs ds

row-self : (c : Connection) → IsSameRow c c
row-self c = record { number = refl; dialled = refl; peer = refl }

rows-self : (cs : List Connection) → AreSameRows cs cs
rows-self [] = tt
rows-self (c ∷ cs) = (row-self c, rows-self cs)

rows-then : (cs ds es : List Connection) → AreSameRows cs ds → AreSameRows ds es → AreSameRows cs es
rows-then [] [] [] a b = tt
rows-then [] [] (e ∷ es) a b = absurd b
rows-then [] (d ∷ ds) es a b = absurd a
rows-then (c ∷ cs) [] es a b = absurd a
rows-then (c ∷ cs) (d ∷ ds) [] a b = absurd b
rows-then (c ∷ cs) (d ∷ ds) (e ∷ es) a b = (record { number = a.0.number ∙ b.0.number; dialled = a.0.dialled ∙ b.0.dialled; peer = a.0.peer ∙ b.0.peer }, rows-then cs ds es a.1 b.1)

rows-sent : (n : ℕ) (m : Message) (cs : List Connection) → AreSameRows cs (sent_on n m cs)
rows-sent n m [] = tt
rows-sent n m (c ∷ cs) = pick (c.number == n) (rows-sent n m cs)
  where
    pick : (b : Bool) → AreSameRows cs (sent_on n m cs) → AreSameRows (c ∷ cs) (cond b (with_frame m c ∷ cs) (c ∷ sent_on n m cs))
    pick true go = (record { number = refl; dialled = refl; peer = refl }, rows-self cs)
    pick false go = (row-self c, go)

-- what is noted changes what was sent alone
pub rows-noted : (notes : List Note) (cs : List Connection) → AreSameRows cs (recorded cs notes)
rows-noted [] cs = rows-self cs
rows-noted (Says o ∷ notes) cs = rows-noted notes cs
rows-noted (Sends turn conn m ∷ notes) cs = rows-then cs (sent_on conn m cs) (recorded (sent_on conn m cs) notes) (rows-sent conn m cs) (rows-noted notes (sent_on conn m cs))

-- Two connections that were found are of one row, or there is neither.
abbrev pub AreSameFound : Option Connection → Option Connection → Type 0
AreSameFound None None = Unit {0}
AreSameFound None (Some d) = ⊥
AreSameFound (Some c) None = ⊥
AreSameFound (Some c) (Some d) = IsSameRow c d

pub rows-dialled : (cs ds : List Connection) (q : Uuid) → AreSameRows cs ds → AreSameFound (dialled_to cs q) (dialled_to ds q)
rows-dialled [] [] q a = tt
rows-dialled [] (d ∷ ds) q a = absurd a
rows-dialled (c ∷ cs) [] q a = absurd a
rows-dialled (c ∷ cs) (d ∷ ds) q a =
    subst (λ (o : Option Uuid). AreSameFound (dialled_to (c ∷ cs) q) (cond (is_to q o) (Some d) (dialled_to ds q))) a.0.dialled (pick (To q c) (rows-dialled cs ds q a.1))
  where
    pick : (b : Bool) → AreSameFound (dialled_to cs q) (dialled_to ds q) → AreSameFound (cond b (Some c) (dialled_to cs q)) (cond b (Some d) (dialled_to ds q))
    pick true go = a.0
    pick false go = go

pub rows-numbered : (cs ds : List Connection) (n : ℕ) → AreSameRows cs ds → AreSameFound (numbered n cs) (numbered n ds)
rows-numbered [] [] n a = tt
rows-numbered [] (d ∷ ds) n a = absurd a
rows-numbered (c ∷ cs) [] n a = absurd a
rows-numbered (c ∷ cs) (d ∷ ds) n a =
    subst (λ (k : ℕ). AreSameFound (numbered n (c ∷ cs)) (cond (k == n) (Some d) (numbered n ds))) a.0.number (pick (c.number == n) (rows-numbered cs ds n a.1))
  where
    pick : (b : Bool) → AreSameFound (numbered n cs) (numbered n ds) → AreSameFound (cond b (Some c) (numbered n cs)) (cond b (Some d) (numbered n ds))
    pick true go = a.0
    pick false go = go

found-hello : (o p : Option Connection) → AreSameFound o p → hello_came o ≡ hello_came p
found-hello None None a = refl
found-hello None (Some d) a = absurd a
found-hello (Some c) None a = absurd a
found-hello (Some c) (Some d) a = ap (λ (p : Option Uuid). cond (is_some p) (Some c.number) None) a.peer ∙ ap (λ (n : ℕ). cond (is_some d.peer) (Some n) None) a.number

-- whether a peer's Hello came does not depend on what is noted
pub hello-noted : (notes : List Note) (cs : List Connection) (q : Uuid) → hello_came (dialled_to cs q) ≡ hello_came (dialled_to (recorded cs notes) q)
hello-noted notes cs q = found-hello (dialled_to cs q) (dialled_to (recorded cs notes) q) (rows-dialled cs (recorded cs notes) q (rows-noted notes cs))

-- nor does whether a connection was dialled to it
pub none-noted : (notes : List Note) (cs : List Connection) (q : Uuid) → dialled_to cs q ≡ None → dialled_to (recorded cs notes) q ≡ None
none-noted notes cs q e = pick (dialled_to (recorded cs notes) q) (subst (λ (o : Option Connection). AreSameFound o (dialled_to (recorded cs notes) q)) e (rows-dialled cs (recorded cs notes) q (rows-noted notes cs)))
  where
    pick : (o : Option Connection) → AreSameFound None o → o ≡ None
    pick None same = refl
    pick (Some c) same = absurd same

-- The connection that was dialled to a peer has this number, and the peer's Hello came on it.
pub record IsGreeted (n : ℕ) (o : Option Connection) : Type 0 where
  pub row : Connection
  pub there : o ≡ Some row
  pub number : row.number ≡ n
  pub peer : is_some row.peer ≡ true

nothing : {A : Type 0} (x : A) → None ≡ Some x → ⊥
nothing x h = cc

pub greeted-row : (n : ℕ) (o : Option Connection) → hello_came o ≡ Some n → IsGreeted n o
greeted-row n None e = absurd (nothing n e)
greeted-row n (Some c) e = pick (is_some c.peer) refl e
  where
    only : (x y : ℕ) → Some x ≡ Some y → x ≡ y
    only x y h = cc

    pick : (b : Bool) → is_some c.peer ≡ b → cond b (Some c.number) None ≡ Some n → IsGreeted n (Some c)
    pick true is f = record { row = c; there = refl; number = only c.number n f; peer = is }
    pick false is f = absurd (nothing n f)

-- ---- a frame goes out

-- The connection that is found was this one before a frame went out on it.
pub record IsSentOn (n : ℕ) (m : Message) (o : Option Connection) (c : Connection) : Type 0 where
  pub before : Connection
  pub there : o ≡ Some before
  pub number : before.number ≡ n
  pub is : c ≡ with_frame m before

-- a connection that is found afterwards was the same, or the frame went out on it
pub sent-found : (n : ℕ) (m : Message) (cs : List Connection) (q : Uuid) (c : Connection) → dialled_to (sent_on n m cs) q ≡ Some c → (dialled_to cs q ≡ Some c) ⊎ IsSentOn n m (dialled_to cs q) c
sent-found n m [] q c e = inl e
sent-found n m (x ∷ xs) q c e = pick (x.number == n) refl (To q x) refl e (λ f. sent-found n m xs q c f)
  where
    only : (a b : Connection) → Some a ≡ Some b → a ≡ b
    only a b h = cc

    rest : List Connection
    rest = sent_on n m xs

    lift : To q x ≡ false → (dialled_to xs q ≡ Some c) ⊎ IsSentOn n m (dialled_to xs q) c → (dialled_to (x ∷ xs) q ≡ Some c) ⊎ IsSentOn n m (dialled_to (x ∷ xs) q) c
    lift out (inl f) = inl (ap (λ b. cond b (Some x) (dialled_to xs q)) out ∙ f)
    lift out (inr s) = inr (record { before = s.before; there = ap (λ b. cond b (Some x) (dialled_to xs q)) out ∙ s.there; number = s.number; is = s.is })

    pick : (b : Bool) → (x.number == n) ≡ b → (d : Bool) → To q x ≡ d → dialled_to (cond b (with_frame m x ∷ xs) (x ∷ rest)) q ≡ Some c → (dialled_to rest q ≡ Some c → (dialled_to xs q ≡ Some c) ⊎ IsSentOn n m (dialled_to xs q) c)
        → (dialled_to (x ∷ xs) q ≡ Some c) ⊎ IsSentOn n m (dialled_to (x ∷ xs) q) c
    pick true is true to f go = inr (record {
      before = x;
      there = ap (λ b. cond b (Some x) (dialled_to xs q)) to;
      number = eqb-true x.number n is;
      is = sym (only (with_frame m x) c (sym (ap (λ b. cond b (Some (with_frame m x)) (dialled_to xs q)) to) ∙ f));
    })
    pick true is false to f go = inl (ap (λ b. cond b (Some x) (dialled_to xs q)) to ∙ (sym (ap (λ b. cond b (Some (with_frame m x)) (dialled_to xs q)) to) ∙ f))
    pick false is true to f go = inl (ap (λ b. cond b (Some x) (dialled_to xs q)) to ∙ (sym (ap (λ b. cond b (Some x) (dialled_to rest q)) to) ∙ f))
    pick false is false to f go = lift to (go (sym (ap (λ b. cond b (Some x) (dialled_to rest q)) to) ∙ f))
