-- The frames of an event in the order in which they go out, as one note more is made.
use Rattle.std.proofs.Common.{◌≡◌, ℕ, zero, suc, ◌≤◌, ◌<◌, Bool, true, false, cond, List, [], ◌∷◌, ◌++◌, filter, map, ◌⊎◌, inl, inr, refl, sym, ap, subst, ◌∙◌, true≢false, arith, append_assoc, lit≤, lit<}
use Rattle.std.specs.Prelude.{◌==◌, fold}
use Rattle.std.proofs.lemmas.Bool.{eqb-true, eq-eqb}
use Rattle.std.proofs.lemmas.List.Sums.{fold-append}
use Rattle.net_message.specs.declared.message.Message.{Message}
use Rattle.sp_rules.proofs.AllLemmas.{all-append, all-weaken}
use Rattle.sp_rules.specs.Endings.{call_number_in}
use Rattle.sp_rules.specs.Events.{Output, Started, Ended, Withdrawn, Denied, Send, Dial, Close, Ready, Note, Says, Sends, Turn, Hellos, Replies, Waited, Cleans, Dirties, Calls, Acks, rank, output_of, of_rank, of_ranks, in_order, turn_rank}
use Rattle.sp_rules.specs.Laws.{AllOf}
use Rattle.sp_rules.specs.State.{Connection}
use Rattle.sp_requests.specs.AllAsked.{sent_on}
use Rattle.sp_transport.specs.Said.{AreLinesAlike, IsNoted, IsNotAfter, IsNotAfterButAcks, IsOfTurn, is_acks, is_said, note_sent, output_sent, recorded, recorded_in_order}
use Rattle.sp_transport.proofs.SaidLemmas.{Accepts, accepted-alike, accepted-notes, accepted-outputs, alike-output, alike-outputs, alike-self, alike-then, alike-turn, swap-sent}

pub append-none : {A : Type 0} (xs : List A) → xs ++ [] ≡ xs
append-none [] = refl
append-none {A} (x ∷ xs) = ap (λ (l : List A). x ∷ l) (append-none xs)

all-of : {A : Type 0} (P : A → Type 0) (xs : List A) → ((x : A) → P x) → AllOf P xs
all-of P [] each = tt
all-of P (x ∷ xs) each = (each x, all-of P xs each)

-- ---- ranks

-- a note of another rank
rank-other : (n : Note) (k : ℕ) (notes : List Note) → (rank n == k) ≡ false → of_rank (notes ++ n ∷ []) k ≡ of_rank notes k
rank-other n k [] e = ap (λ b. map output_of (cond b (n ∷ []) [])) e
rank-other n k (x ∷ notes) e = pick (rank x == k) (rank-other n k notes e)
  where
    pick : (b : Bool) → of_rank (notes ++ n ∷ []) k ≡ of_rank notes k
        → map output_of (cond b (x ∷ filter (λ y. rank y == k) (notes ++ n ∷ [])) (filter (λ y. rank y == k) (notes ++ n ∷ []))) ≡ map output_of (cond b (x ∷ filter (λ y. rank y == k) notes) (filter (λ y. rank y == k) notes))
    pick true rest = ap (λ (l : List Output). output_of x ∷ l) rest
    pick false rest = rest

-- one of this rank
rank-here : (n : Note) (k : ℕ) (notes : List Note) → (rank n == k) ≡ true → of_rank (notes ++ n ∷ []) k ≡ of_rank notes k ++ output_of n ∷ []
rank-here n k [] e = ap (λ b. map output_of (cond b (n ∷ []) [])) e
rank-here n k (x ∷ notes) e = pick (rank x == k) (rank-here n k notes e)
  where
    pick : (b : Bool) → of_rank (notes ++ n ∷ []) k ≡ of_rank notes k ++ output_of n ∷ []
        → map output_of (cond b (x ∷ filter (λ y. rank y == k) (notes ++ n ∷ [])) (filter (λ y. rank y == k) (notes ++ n ∷ []))) ≡ map output_of (cond b (x ∷ filter (λ y. rank y == k) notes) (filter (λ y. rank y == k) notes)) ++ output_of n ∷ []
    pick true rest = ap (λ (l : List Output). output_of x ∷ l) rest
    pick false rest = rest

not-there : (n : Note) (k : ℕ) → k < rank n → (rank n == k) ≡ false
not-there n k lt = pick (rank n == k) refl
  where
    pick : (b : Bool) → (rank n == k) ≡ b → b ≡ false
    pick true is = let e : rank n ≡ k = eqb-true (rank n) k is in absurd (omega (arith, e))
    pick false is = refl

ranks-below : (n : Note) (k : ℕ) (notes : List Note) → k ≤ rank n → of_ranks k (notes ++ n ∷ []) ≡ of_ranks k notes
ranks-below n zero notes le = refl
ranks-below n (suc k) notes le =
    ap (λ (l : List Output). l ++ of_rank (notes ++ n ∷ []) k) (ranks-below n k notes (omega arith))
    ∙ ap (λ (l : List Output). of_ranks k notes ++ l) (rank-other n k notes (not-there n k (omega arith)))

-- what a higher rank holds is one of which this is said
rank-pass : (P : Output → Type 0) (r k : ℕ) (notes : List Note) → r < k → AllOf (λ (x : Note). (rank x ≤ r) ⊎ P (output_of x)) notes → AllOf P (of_rank notes k)
rank-pass P r k [] lt a = tt
rank-pass P r k (x ∷ notes) lt a = pick (rank x == k) refl a.0 (rank-pass P r k notes lt a.1)
  where
    pick : (b : Bool) → (rank x == k) ≡ b → (rank x ≤ r) ⊎ P (output_of x) → AllOf P (of_rank notes k) → AllOf P (map output_of (cond b (x ∷ filter (λ y. rank y == k) notes) (filter (λ y. rank y == k) notes)))
    pick true is (inl le) go = let e : rank x ≡ k = eqb-true (rank x) k is in absurd (omega (arith, e))
    pick true is (inr p) go = (p, go)
    pick false is w go = go

-- A note more stands between what is of its rank or a lower one, and what is of a higher one.
pub record IsSplit (P : Output → Type 0) (n : Note) (notes : List Note) (k : ℕ) : Type 0 where
  pub before : List Output
  pub later : List Output
  pub old : of_ranks k notes ≡ before ++ later
  pub new : of_ranks k (notes ++ n ∷ []) ≡ before ++ output_of n ∷ later
  pub rest : AllOf P later

split : (P : Output → Type 0) (n : Note) (notes : List Note) (k : ℕ) → rank n < k → AllOf (λ (x : Note). (rank x ≤ rank n) ⊎ P (output_of x)) notes → IsSplit P n notes k
split P n notes zero lt a = absurd (omega (arith, lt))
split P n notes (suc k) lt a = pick (rank n == k) refl (λ le. split P n notes k le a)
  where
    pick : (b : Bool) → (rank n == k) ≡ b → (rank n < k → IsSplit P n notes k) → IsSplit P n notes (suc k)
    pick true is go = let e : rank n ≡ k = eqb-true (rank n) k is in record {
      before = of_ranks k notes ++ of_rank notes k;
      later = [];
      old = sym (append-none (of_ranks k notes ++ of_rank notes k));
      new = ap (λ (l : List Output). l ++ of_rank (notes ++ n ∷ []) k) (ranks-below n k notes (omega (arith, e)))
          ∙ (ap (λ (l : List Output). of_ranks k notes ++ l) (rank-here n k notes is) ∙ sym (append_assoc (of_ranks k notes) (of_rank notes k) (output_of n ∷ [])));
      rest = tt;
    }
    pick false is go =
        let apart : rank n ≡ k → ⊥ = λ (e : rank n ≡ k). true≢false (sym (eq-eqb (rank n) k e) ∙ is) in
        let s = go (omega arith) in record {
          before = s.before;
          later = s.later ++ of_rank notes k;
          old = ap (λ (l : List Output). l ++ of_rank notes k) s.old ∙ append_assoc s.before s.later (of_rank notes k);
          new = ap (λ (l : List Output). l ++ of_rank (notes ++ n ∷ []) k) s.new
              ∙ (ap (λ (l : List Output). (s.before ++ output_of n ∷ s.later) ++ l) (rank-other n k notes is) ∙ append_assoc s.before (output_of n ∷ s.later) (of_rank notes k));
          rest = all-append P s.later (of_rank notes k) s.rest (rank-pass P (rank n) k notes (omega arith) a);
        }

-- ---- a note more

-- One output may go out before the other as after it.
abbrev pub Passes : Output → Output → Type 0
Passes o p = (cs : List Connection) → AreLinesAlike (output_sent (output_sent cs p) o) (output_sent (output_sent cs o) p)

push : (o : Output) (os : List Output) (cs : List Connection) → AllOf (Passes o) os → AreLinesAlike (output_sent (fold output_sent cs os) o) (fold output_sent (output_sent cs o) os)
push o [] cs a = alike-self (output_sent cs o)
push o (p ∷ os) cs a =
    alike-then (output_sent (fold output_sent (output_sent cs p) os) o) (fold output_sent (output_sent (output_sent cs p) o) os) (fold output_sent (output_sent (output_sent cs o) p) os)
    (push o os (output_sent cs p) a.1) (alike-outputs os (output_sent (output_sent cs p) o) (output_sent (output_sent cs o) p) (a.0 cs))

-- an output that may go out after all that are of higher ranks
pub noted-last : (n : Note) (notes : List Note) (cs : List Connection) → rank n < 14 → AllOf (λ (x : Note). (rank x ≤ rank n) ⊎ Passes (output_of n) (output_of x)) notes → AreLinesAlike (recorded cs notes) (recorded_in_order cs notes)
    → AreLinesAlike (output_sent (recorded cs notes) (output_of n)) (recorded_in_order cs (notes ++ n ∷ []))
unfolding in_order
noted-last n notes cs lt a alike =
    let o = output_of n in
    let s = split (Passes o) n notes 14 lt a in
    let base = fold output_sent cs s.before in
    let left : fold output_sent cs (of_ranks 14 notes) ≡ fold output_sent base s.later = ap (fold output_sent cs) s.old ∙ fold-append output_sent cs s.before s.later in
    let right : fold output_sent cs (of_ranks 14 (notes ++ n ∷ [])) ≡ fold output_sent (output_sent base o) s.later = ap (fold output_sent cs) s.new ∙ fold-append output_sent cs s.before (o ∷ s.later) in
    subst (λ (l : List Connection). AreLinesAlike (output_sent (recorded cs notes) o) l) (sym right)
    (alike-then (output_sent (recorded cs notes) o) (output_sent (fold output_sent base s.later) o) (fold output_sent (output_sent base o) s.later)
    (alike-output o (recorded cs notes) (fold output_sent base s.later) (subst (λ (l : List Connection). AreLinesAlike (recorded cs notes) l) left alike))
    (push o s.later base s.rest))

-- ---- the notes of a transport

-- an output that is no frame sends nothing
pub said-nothing : (o : Output) (cs : List Connection) → is_said o ≡ true → output_sent cs o ≡ cs
said-nothing (Started task) cs e = refl
said-nothing (Ended task outcome) cs e = refl
said-nothing (Withdrawn ids) cs e = refl
said-nothing (Denied fault) cs e = refl
said-nothing (Send conn m) cs e = absurd (true≢false (sym e))
said-nothing (Dial peer) cs e = refl
said-nothing (Close conn) cs e = refl
said-nothing (Ready task) cs e = refl

said-rank : (o : Output) → is_said o ≡ true → rank (Says o) < 14
said-rank (Started task) e = lit< tt
said-rank (Ended task outcome) e = lit< tt
said-rank (Withdrawn ids) e = lit< tt
said-rank (Denied fault) e = lit< tt
said-rank (Send conn m) e = absurd (true≢false (sym e))
said-rank (Dial peer) e = lit< tt
said-rank (Close conn) e = lit< tt
said-rank (Ready task) e = lit< tt

said-passes : (o p : Output) → is_said o ≡ true → Passes o p
said-passes o p e = λ cs.
    subst (λ (l : List Connection). AreLinesAlike l (output_sent (output_sent cs o) p)) (sym (said-nothing o (output_sent cs p) e))
    (subst (λ (l : List Connection). AreLinesAlike (output_sent cs p) (output_sent l p)) (sym (said-nothing o cs e)) (alike-self (output_sent cs p)))

passes-said : (o p : Output) → is_said p ≡ true → Passes o p
passes-said o p e = λ cs.
    subst (λ (l : List Connection). AreLinesAlike (output_sent l o) (output_sent (output_sent cs o) p)) (sym (said-nothing p cs e))
    (subst (λ (l : List Connection). AreLinesAlike (output_sent cs o) l) (sym (said-nothing p (output_sent cs o) e)) (alike-self (output_sent cs o)))

-- what is recorded with a note more
pub recorded-said : (o : Output) (notes : List Note) (cs : List Connection) → recorded cs (notes ++ Says o ∷ []) ≡ recorded cs notes
recorded-said o notes cs = fold-append note_sent cs notes (Says o ∷ [])

pub recorded-sent : (turn : Turn) (n : ℕ) (m : Message) (notes : List Note) (cs : List Connection) → recorded cs (notes ++ Sends turn n m ∷ []) ≡ sent_on n m (recorded cs notes)
recorded-sent turn n m notes cs = fold-append note_sent cs notes (Sends turn n m ∷ [])

-- an output that is no frame
pub alike-said : (o : Output) (notes : List Note) (cs : List Connection) → is_said o ≡ true → AreLinesAlike (recorded cs notes) (recorded_in_order cs notes) → AreLinesAlike (recorded cs (notes ++ Says o ∷ [])) (recorded_in_order cs (notes ++ Says o ∷ []))
alike-said o notes cs e alike =
    subst (λ (l : List Connection). AreLinesAlike l (recorded_in_order cs (notes ++ Says o ∷ []))) (sym (recorded-said o notes cs))
    (subst (λ (l : List Connection). AreLinesAlike l (recorded_in_order cs (notes ++ Says o ∷ []))) (said-nothing o (recorded cs notes) e)
    (noted-last (Says o) notes cs (said-rank o e) (all-of (λ (x : Note). (rank x ≤ rank (Says o)) ⊎ Passes o (output_of x)) notes (λ x. inr (said-passes o (output_of x) e))) alike))

turn-below : (turn : Turn) → turn_rank turn < 14
turn-below Hellos = lit< tt
turn-below Replies = lit< tt
turn-below Waited = lit< tt
turn-below Cleans = lit< tt
turn-below Dirties = lit< tt
turn-below Calls = lit< tt
turn-below Acks = lit< tt

turn-most : (turn : Turn) → turn_rank turn ≤ 10
turn-most Hellos = lit≤ tt
turn-most Replies = lit≤ tt
turn-most Waited = lit≤ tt
turn-most Cleans = lit≤ tt
turn-most Dirties = lit≤ tt
turn-most Calls = lit≤ tt
turn-most Acks = lit≤ tt

-- a frame, if it passes what is of higher ranks
alike-frame : (turn : Turn) (n : ℕ) (m : Message) (notes : List Note) (cs : List Connection) → AllOf (λ (x : Note). (rank x ≤ turn_rank turn) ⊎ Passes (Send n m) (output_of x)) notes → AreLinesAlike (recorded cs notes) (recorded_in_order cs notes)
    → AreLinesAlike (recorded cs (notes ++ Sends turn n m ∷ [])) (recorded_in_order cs (notes ++ Sends turn n m ∷ []))
alike-frame turn n m notes cs a alike =
    subst (λ (l : List Connection). AreLinesAlike l (recorded_in_order cs (notes ++ Sends turn n m ∷ []))) (sym (recorded-sent turn n m notes cs)) (noted-last (Sends turn n m) notes cs (turn-below turn) a alike)

both : {A : Type 0} (P Q R : A → Type 0) (xs : List A) → ((x : A) → P x → Q x → R x) → AllOf P xs → AllOf Q xs → AllOf R xs
both P Q R [] each a b = tt
both P Q R (x ∷ xs) each a b = (each x a.0 b.0, both P Q R xs each a.1 b.1)

-- a call or lookup
pub alike-call : (turn : Turn) (n : ℕ) (m : Message) (notes : List Note) (cs : List Connection) → AllOf (IsNotAfter turn) notes → AllOf IsNoted notes → AreLinesAlike (recorded cs notes) (recorded_in_order cs notes)
    → AreLinesAlike (recorded cs (notes ++ Sends turn n m ∷ [])) (recorded_in_order cs (notes ++ Sends turn n m ∷ []))
alike-call turn n m notes cs first noted alike = alike-frame turn n m notes cs (both (IsNotAfter turn) IsNoted (λ (x : Note). (rank x ≤ turn_rank turn) ⊎ Passes (Send n m) (output_of x)) notes each first noted) alike
  where
    each : (x : Note) → IsNotAfter turn x → IsNoted x → (rank x ≤ turn_rank turn) ⊎ Passes (Send n m) (output_of x)
    each (Says o) before is = inr (passes-said (Send n m) o is)
    each (Sends t k f) before is = inl before

-- dirty or clean calls
pub alike-group : (turn : Turn) (n : ℕ) (m : Message) (notes : List Note) (cs : List Connection) → call_number_in m ≡ [] → AllOf (IsNotAfterButAcks turn) notes → AllOf IsNoted notes → AreLinesAlike (recorded cs notes) (recorded_in_order cs notes)
    → AreLinesAlike (recorded cs (notes ++ Sends turn n m ∷ [])) (recorded_in_order cs (notes ++ Sends turn n m ∷ []))
alike-group turn n m notes cs isnt first noted alike = alike-frame turn n m notes cs (both (IsNotAfterButAcks turn) IsNoted (λ (x : Note). (rank x ≤ turn_rank turn) ⊎ Passes (Send n m) (output_of x)) notes each first noted) alike
  where
    last : (t : Turn) (k : ℕ) (f : Message) → is_acks t ≡ true → IsOfTurn t f → Passes (Send n m) (Send k f)
    last Hellos k f e is = absurd (true≢false (sym e))
    last Replies k f e is = absurd (true≢false (sym e))
    last Waited k f e is = absurd (true≢false (sym e))
    last Cleans k f e is = absurd (true≢false (sym e))
    last Dirties k f e is = absurd (true≢false (sym e))
    last Calls k f e is = absurd (true≢false (sym e))
    last Acks k f e is = λ ds. swap-sent n k m f ds isnt is.0 is.1

    ahead : (t : Turn) (k : ℕ) (f : Message) → IsOfTurn t f → (turn_rank t ≤ turn_rank turn) ⊎ (is_acks t ≡ true) → (turn_rank t ≤ turn_rank turn) ⊎ Passes (Send n m) (Send k f)
    ahead t k f is (inl le) = inl le
    ahead t k f is (inr e) = inr (last t k f e is)

    each : (x : Note) → IsNotAfterButAcks turn x → IsNoted x → (rank x ≤ turn_rank turn) ⊎ Passes (Send n m) (output_of x)
    each (Says o) before is = inr (passes-said (Send n m) o is)
    each (Sends t k f) before is = ahead t k f is before

-- an Ack
pub alike-ack : (n : ℕ) (m : Message) (notes : List Note) (cs : List Connection) → AllOf IsNoted notes → AreLinesAlike (recorded cs notes) (recorded_in_order cs notes)
    → AreLinesAlike (recorded cs (notes ++ Sends Acks n m ∷ [])) (recorded_in_order cs (notes ++ Sends Acks n m ∷ []))
alike-ack n m notes cs noted alike = alike-frame Acks n m notes cs (all-weaken IsNoted (λ (x : Note). (rank x ≤ turn_rank Acks) ⊎ Passes (Send n m) (output_of x)) notes each noted) alike
  where
    each : (x : Note) → IsNoted x → (rank x ≤ turn_rank Acks) ⊎ Passes (Send n m) (output_of x)
    each (Says o) is = inr (passes-said (Send n m) o is)
    each (Sends t k f) is = inl (turn-most t)

-- a frame on a connection that a peer dialled
pub alike-answer : (turn : Turn) (n : ℕ) (m : Message) (notes : List Note) (cs : List Connection) → AllOf (Accepts n) cs → AreLinesAlike (recorded cs notes) (recorded_in_order cs notes)
    → AreLinesAlike (recorded cs (notes ++ Sends turn n m ∷ [])) (recorded_in_order cs (notes ++ Sends turn n m ∷ []))
unfolding in_order
alike-answer turn n m notes cs accepts alike =
    let s = split (λ (o : Output). Unit {0}) (Sends turn n m) notes 14 (turn-below turn) (all-of (λ (x : Note). (rank x ≤ turn_rank turn) ⊎ Unit {0}) notes (λ x. inr tt)) in
    let base = fold output_sent cs s.before in
    let left : fold output_sent cs (of_ranks 14 notes) ≡ fold output_sent base s.later = ap (fold output_sent cs) s.old ∙ fold-append output_sent cs s.before s.later in
    let right : fold output_sent cs (of_ranks 14 (notes ++ Sends turn n m ∷ [])) ≡ fold output_sent (sent_on n m base) s.later = ap (fold output_sent cs) s.new ∙ fold-append output_sent cs s.before (Send n m ∷ s.later) in
    let here = recorded cs notes in
    subst (λ (l : List Connection). AreLinesAlike l (fold output_sent cs (of_ranks 14 (notes ++ Sends turn n m ∷ [])))) (sym (recorded-sent turn n m notes cs))
    (subst (λ (l : List Connection). AreLinesAlike (sent_on n m here) l) (sym right)
    (alike-then (sent_on n m here) here (fold output_sent (sent_on n m base) s.later) (alike-turn here (sent_on n m here) (accepted-alike n m here (accepted-notes n notes cs accepts)))
    (alike-then here (fold output_sent base s.later) (fold output_sent (sent_on n m base) s.later) (subst (λ (l : List Connection). AreLinesAlike here l) left alike)
    (alike-outputs s.later base (sent_on n m base) (accepted-alike n m base (accepted-outputs n s.before cs accepts))))))
