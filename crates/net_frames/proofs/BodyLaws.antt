-- A whole body: what is read of it is what it spells, and a fault is the first rule that it breaks.
use Rattle.std.proofs.Common.{◌≡◌, ◌≢◌, ℕ, zero, suc, ◌+◌, ◌<◌, ◌≤◌, false, cond, List, [], ◌∷◌, ◌++◌, length, get_or, Result, Ok, Err, refl, sym, ap, subst, ◌∙◌, arith, inl, inr, ◌⊎◌}
use Rattle.std.specs.Prelude.{◌==◌}
use Rattle.std.proofs.lemmas.Bool.{eqb-true, ne_eqb}
use Rattle.std.proofs.lemmas.List.{append-nil, nil_from_length}
use Rattle.net_message.specs.declared.fault.WireFault.{WireFault}
use Rattle.net_message.specs.declared.fault.WireFault.TheVariants as faults
use Rattle.net_frames.specs.declared.kinds.FrameKind.{FrameKind}
use Rattle.net_message.specs.declared.message.Message.{Message}
use Rattle.net_message.specs.Wire.{body, IsInRange}
use Rattle.net_frames.specs.Reading.{fields_at, all_kinds, kind_from, kind_at, message_at, whole_at}
use Rattle.net_frames.specs.Stream.{IsKind, BreaksIn}
use Rattle.net_frames.proofs.FieldLaws.{IsBytes, IsBytes-rest, bind_ok, bind_err, passed_ok, passed_err, ok_is, ok_not_err}
use Rattle.net_frames.proofs.MessageLaws.{number_of, fields_takes, fields_fails, message_again}

-- ---- kinds

-- the kinds of the list are numbered from n on
abbrev AreNumbered : ℕ → List FrameKind → Type 0
AreNumbered n [] = Unit {0}
AreNumbered n (kind ∷ kinds) = (number_of kind ≡ n) × AreNumbered (suc n) kinds

kind_found : (kinds : List FrameKind) (from n : ℕ) (kind : FrameKind) → AreNumbered from kinds → kind_from kinds n ≡ Ok kind → (number_of kind ≡ from + n) × (n < length kinds)
kind_found [] from n kind h e = absurd cc
kind_found (first ∷ kinds) from zero kind h e = (ap number_of (sym (ok_is first kind e)) ∙ h.0 ∙ omega arith, omega arith)
kind_found (first ∷ kinds) from (suc n) kind h e = let found = kind_found kinds (suc from) n kind h.1 e in (omega (arith, found.0), omega (arith, found.1))

kind_missed : (kinds : List FrameKind) (n : ℕ) (fault : WireFault) → kind_from kinds n ≡ Err fault → (fault ≡ faults.Kind) × (length kinds ≤ n)
kind_missed [] n fault e = (cc, omega arith)
kind_missed (first ∷ kinds) zero fault e = absurd cc
kind_missed (first ∷ kinds) (suc n) fault e = let missed = kind_missed kinds n fault e in (missed.0, omega (arith, missed.1))

all_numbered : AreNumbered 1 all_kinds
all_numbered = (refl, (refl, (refl, (refl, (refl, (refl, (refl, (refl, (refl, (refl, (refl, tt)))))))))))

kind_takes : (bytes : List ℕ) (x : FrameKind × List ℕ) → kind_at bytes ≡ Ok x → (bytes ≡ number_of x.0 ∷ x.1) × IsKind (get_or bytes 0 0)
kind_takes [] x e = absurd cc
kind_takes (zero ∷ bytes) x e = absurd cc
kind_takes (suc n ∷ bytes) x e =
    let b = bind_ok (kind_from all_kinds n) (λ kind. Ok (kind, bytes)) x e in
    let found = kind_found all_kinds 1 n b.0 all_numbered b.1 in
    let same : (b.0, bytes) ≡ x = ok_is (b.0, bytes) x b.2 in
    let number : suc n ≡ number_of b.0 = omega (arith, found.0) in
    (subst (λ (y : FrameKind × List ℕ). suc n ∷ bytes ≡ number_of y.0 ∷ y.1) same (ap (λ (k : ℕ). k ∷ bytes) number), (omega arith, omega (arith, found.1)))

kind_breaks : (bytes : List ℕ) (fault : WireFault) → kind_at bytes ≡ Err fault → (fault ≡ faults.Kind) × ¬ (IsKind (get_or bytes 0 0))
kind_breaks [] fault e = (cc, λ is. omega (arith, is.0))
kind_breaks (zero ∷ bytes) fault e = (cc, λ is. omega (arith, is.0))
kind_breaks (suc n ∷ bytes) fault e =
    elim (bind_err (kind_from all_kinds n) (λ kind. Ok (kind, bytes)) fault e) [
      | inl missed ↦ let m = kind_missed all_kinds n fault missed in (m.0, λ is. omega (arith, is.1, m.1))
      | inr found ↦ absurd (let never : Ok (found.0, bytes) ≡ Err fault = found.1.1 in cc)
    ]

-- ---- messages

pub message_takes : (bytes : List ℕ) (x : Message × List ℕ) → IsBytes bytes → message_at bytes ≡ Ok x → (bytes ≡ body x.0 ++ x.1) × IsInRange x.0
unfolding message_at
message_takes bytes x h e =
    let b = bind_ok (kind_at bytes) (λ kind. fields_at kind.0 kind.1) x e in
    let k = kind_takes bytes b.0 b.1 in
    let rest : IsBytes b.0.1 = IsBytes-rest (number_of b.0.0) b.0.1 (subst IsBytes k.0 h) in
    let t = fields_takes b.0.0 b.0.1 x rest b.2 in
    (k.0 ∙ t.parts, t.fits)

-- a body that is not read has no known kind, or none of its fronts is in range
message_breaks : (bytes : List ℕ) (fault : WireFault) → message_at bytes ≡ Err fault → BreaksIn fault bytes
unfolding message_at BreaksIn
message_breaks bytes fault e =
    elim (bind_err (kind_at bytes) (λ kind. fields_at kind.0 kind.1) fault e) [
      | inl at_kind ↦ let k = kind_breaks bytes fault at_kind in subst (λ f. BreaksIn f bytes) (sym k.0) k.1
      | inr past ↦
          let known = (kind_takes bytes past.0 past.1.0).1 in
          let is_body = fields_fails past.0.0 past.0.1 fault past.1.1 in
          let none : (message : Message) (more : List ℕ) → IsInRange message → bytes ≡ body message ++ more → ⊥ =
          λ message more fits same. ok_not_err (message, more) fault (sym (ap message_at same ∙ message_again message more fits) ∙ e) in
          subst (λ f. BreaksIn f bytes) (sym is_body) (known, none)
    ]

cases_read : (r : Result (Message × List ℕ) WireFault) → ((x : Message × List ℕ) × (r ≡ Ok x)) ⊎ ((fault : WireFault) × (r ≡ Err fault))
cases_read (Ok x) = inl (x, refl)
cases_read (Err fault) = inr (fault, refl)

kind_known : (bytes : List ℕ) (x : Message × List ℕ) → message_at bytes ≡ Ok x → IsKind (get_or bytes 0 0)
unfolding message_at
kind_known bytes x e = let b = bind_ok (kind_at bytes) (λ kind. fields_at kind.0 kind.1) x e in (kind_takes bytes b.0 b.1).1

is_kind : (bytes : List ℕ) (fault : WireFault) → ¬ (IsKind (get_or bytes 0 0)) → message_at bytes ≡ Err fault → fault ≡ faults.Kind
unfolding message_at
is_kind bytes fault unknown e =
    elim (bind_err (kind_at bytes) (λ kind. fields_at kind.0 kind.1) fault e) [
      | inl at_kind ↦ (kind_breaks bytes fault at_kind).0
      | inr past ↦ absurd (unknown (kind_takes bytes past.0 past.1.0).1)
    ]

is_body : (bytes : List ℕ) (fault : WireFault) → IsKind (get_or bytes 0 0) → message_at bytes ≡ Err fault → fault ≡ faults.Body
unfolding message_at
is_body bytes fault known e =
    elim (bind_err (kind_at bytes) (λ kind. fields_at kind.0 kind.1) fault e) [
      | inl at_kind ↦ absurd ((kind_breaks bytes fault at_kind).1 known)
      | inr past ↦ fields_fails past.0.0 past.0.1 fault past.1.1
    ]

-- ---- whole bodies

pub whole_takes : (bytes : List ℕ) (message : Message) → IsBytes bytes → whole_at bytes ≡ Ok message → (bytes ≡ body message) × IsInRange message
unfolding whole_at
whole_takes bytes message h e =
    let b = bind_ok (message_at bytes) (λ x. cond (length x.1 == 0) (Ok x.0) (Err faults.Trailing)) message e in
    let p = passed_ok (length b.0.1 == 0) faults.Trailing b.0.0 message b.2 in
    let t = message_takes bytes b.0 h b.1 in
    let none : b.0.1 ≡ [] = nil_from_length b.0.1 (eqb-true (length b.0.1) 0 p.0) in
    subst (λ (m : Message). (bytes ≡ body m) × IsInRange m) p.1 (t.0 ∙ ap (λ (rest : List ℕ). body b.0.0 ++ rest) none ∙ append-nil (body b.0.0), t.1)

pub whole_again : (message : Message) → IsInRange message → whole_at (body message) ≡ Ok message
unfolding whole_at
whole_again message fits =
    let read : message_at (body message) ≡ Ok (message, []) = ap message_at (sym (append-nil (body message))) ∙ message_again message [] fits in
    rw read refl

pub whole_breaks : (bytes : List ℕ) (fault : WireFault) → IsBytes bytes → whole_at bytes ≡ Err fault → BreaksIn fault bytes
unfolding whole_at BreaksIn
whole_breaks bytes fault h e =
    elim (bind_err (message_at bytes) (λ x. cond (length x.1 == 0) (Ok x.0) (Err faults.Trailing)) fault e) [
      | inl at_message ↦ message_breaks bytes fault at_message
      | inr past ↦
          let t = message_takes bytes past.0 h past.1.0 in
          let is_trailing = passed_err (length past.0.1 == 0) faults.Trailing fault past.0.0 past.1.1 in
          let more : past.0.1 ≢ [] =
          λ none. let ended : cond (length past.0.1 == 0) (Ok past.0.0) (Err faults.Trailing) ≡ Ok past.0.0 = rw none refl in
          ok_not_err past.0.0 fault (sym ended ∙ past.1.1) in
          subst (λ f. BreaksIn f bytes) (sym is_trailing) (past.0.0, past.0.1, (t.1, t.0, more))
    ]

-- two messages that spell the front of the same bytes are one
pub one_message : (m n : Message) (x y : List ℕ) → IsInRange m → IsInRange n → body m ++ x ≡ body n ++ y → (m ≡ n) × (x ≡ y)
one_message m n x y fits fits2 same =
    let e = ok_is (m, x) (n, y) (sym (message_again m x fits) ∙ ap message_at same ∙ message_again n y fits2) in
    (ap (λ (p : Message × List ℕ). p.0) e, ap (λ (p : Message × List ℕ). p.1) e)

-- the first broken rule is the fault of the reading
pub breaks_whole : (bytes : List ℕ) (fault : WireFault) → IsBytes bytes → BreaksIn fault bytes → whole_at bytes ≡ Err fault
unfolding whole_at BreaksIn
breaks_whole bytes faults.Length h b = absurd b
breaks_whole bytes faults.Kind h b =
    elim (cases_read (message_at bytes)) [
      | inl read ↦ absurd (b (kind_known bytes read.0 read.1))
      | inr failed ↦ rw failed.1 (ap (λ f. Err f) (is_kind bytes failed.0 b failed.1))
    ]
breaks_whole bytes faults.Body h b =
    elim (cases_read (message_at bytes)) [
      | inl read ↦ let t = message_takes bytes read.0 h read.1 in absurd (b.1 read.0.0 read.0.1 t.1 t.0)
      | inr failed ↦ rw failed.1 (ap (λ f. Err f) (is_body bytes failed.0 b.0 failed.1))
    ]
breaks_whole bytes faults.Trailing h b =
    let read : message_at bytes ≡ Ok (b.0, b.1) = ap message_at b.2.1 ∙ message_again b.0 b.1 b.2.0 in
    let some : (length b.1 == 0) ≡ false = ne_eqb (length b.1) 0 (λ none. b.2.2 (nil_from_length b.1 none)) in
    rw (read, some) refl
