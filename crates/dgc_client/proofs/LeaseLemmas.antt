use Rattle.std.proofs.Common.{◌≡◌, ◌≢◌, ℕ, ◌+◌, ◌-◌, ◌<◌, ◌≤◌, ◌⊎◌, inl, inr, Bool, true, false, cond, eqb, List, [], ◌∷◌, ◌++◌, Option, None, Some, refl, sym, ap, ◌∙◌, subst, arith}
use Rattle.std.specs.Prelude.{if◌then◌else◌, is_none, is_some, nat_lt, not, ◌&&◌, ◌||◌}
use Rattle.std.proofs.lemmas.Bool.{eqb-true, eq-eqb, false≢true}
use Rattle.std.proofs.lemmas.Bool.Decides.{nat_tests}
use Rattle.dgc_client.specs.declared.lease.ClientLease.{ClientLease}
use Rattle.dgc_client.specs.declared.lease.Due.TheVariants.{Dirty, Clean as Clean_due}
use Rattle.dgc_client.specs.declared.lease.Made.{Made}
use Rattle.dgc_client.specs.declared.lease.Owed.TheVariants.{Nothing, Strong, Again}
use Rattle.dgc_client.specs.Lease.{is_made, is_clean, at_moment, sent_at, answered, one_more, one_less, after_hold, after_failed_clean, due_held, due_unheld, is_waiting, due}
use Rattle.dgc_client.specs.History.{Event, lease_of, holders_of, MakesNoDirty, IsQuiet}
use Rattle.dgc_client.specs.History.Event.{Held, Dropped, Moment, DirtyMade, CleanMade, DirtySent, DirtyAnswered, DirtyFailed, CleanAnswered, CleanFailed}

apart-eqb : (a b : ℕ) → a ≢ b → eqb a b ≡ false
apart-eqb a b apart = elim (eqb a b) as (λ t. eqb a b ≡ t → t ≡ false) [ true ↦ λ h. absurd (apart (eqb-true a b h)) | false ↦ λ _. refl ] refl

-- going out does not make another call of it
sent-same : (made : Option Made) (sent call moment : ℕ) → is_made made call ≡ false → is_made (sent_at made sent moment) call ≡ false
sent-same None sent call moment h = refl
sent-same (Some made) sent call moment h =
    elim (eqb made.call sent) as (λ t. eqb made.call sent ≡ t → is_made (cond t (Some (record { call = sent; at = moment })) (Some made)) call ≡ false)
    [ true ↦ λ same. subst (λ (n : ℕ). eqb n call ≡ false) (eqb-true made.call sent same) h | false ↦ λ _. h ] refl

-- an answer or a failure leaves no other call on its way
gone-same : (t : Bool) (call : ℕ) (l m : ClientLease) → m.dirty ≡ None → is_made l.dirty call ≡ false → is_made (cond t m l).dirty call ≡ false
gone-same true call l m none h = rw none refl
gone-same false call l m none h = h

answered-same : (made : Option Made) (call answer period : ℕ) (l : ClientLease) → l.dirty ≡ made → is_made made call ≡ false
    → is_made (if is_made made answer then answered made period l else l).dirty call ≡ false
answered-same None call answer period l is h = rw is refl
answered-same (Some made) call answer period l is h = elim (eqb made.call answer) as (λ t. is_made (cond {A = ClientLease} t (answered (Some made) period l) l).dirty call ≡ false) [ true ↦ refl | false ↦ rw is h ]

-- the dirty call is not on its way after the clean call
not-on-way : (h later : List Event) (call clean : ℕ) → MakesNoDirty call later → is_made (lease_of (later ++ CleanMade clean ∷ h)).dirty call ≡ false
not-on-way h [] call clean none = refl
not-on-way h (Held ∷ later) call clean none = not-on-way h later call clean none
not-on-way h (Dropped ∷ later) call clean none = not-on-way h later call clean none
not-on-way h (Moment moment ∷ later) call clean none =
    let l = lease_of (later ++ CleanMade clean ∷ h) in
    let before = not-on-way h later call clean none in
    elim (nat_lt moment l.moment) as (λ t. is_made (cond {A = ClientLease} t l (at_moment moment l)).dirty call ≡ false) [ true ↦ before | false ↦ before ]
not-on-way h (DirtyMade made ∷ later) call clean none = apart-eqb made call none.0
not-on-way h (CleanMade again ∷ later) call clean none = refl
not-on-way h (DirtySent sent ∷ later) call clean none =
    let l = lease_of (later ++ CleanMade clean ∷ h) in sent-same l.dirty sent call l.moment (not-on-way h later call clean none)
not-on-way h (DirtyAnswered answer period ∷ later) call clean none =
    let l = lease_of (later ++ CleanMade clean ∷ h) in answered-same l.dirty call answer period l refl (not-on-way h later call clean none)
not-on-way h (DirtyFailed failed ∷ later) call clean none =
    let l = lease_of (later ++ CleanMade clean ∷ h) in gone-same (is_made l.dirty failed) call l _ refl (not-on-way h later call clean none)
not-on-way h (CleanAnswered answer ∷ later) call clean none =
    let l = lease_of (later ++ CleanMade clean ∷ h) in
    let before = not-on-way h later call clean none in
    elim (is_clean l.clean answer) as (λ t. is_made (cond {A = ClientLease} t (record l { clean = None }) l).dirty call ≡ false) [ true ↦ before | false ↦ before ]
not-on-way h (CleanFailed failed ∷ later) call clean none =
    let l = lease_of (later ++ CleanMade clean ∷ h) in
    let before = not-on-way h later call clean none in
    elim (is_clean l.clean failed) as (λ t. is_made (cond {A = ClientLease} t (record l { clean = None; owed = Again; waits = true }) l).dirty call ≡ false) [ true ↦ before | false ↦ before ]

pub overtaken : (h later : List Event) (call clean period : ℕ) → MakesNoDirty call later
    → lease_of (DirtyAnswered call period ∷ later ++ CleanMade clean ∷ h) ≡ lease_of (later ++ CleanMade clean ∷ h)
overtaken h later call clean period none = rw (not-on-way h later call clean none) refl

-- nothing is owed, and no dirty call is on its way
pub record IsSettled (l : ClientLease) : Type 0 where
  pub owed : l.owed ≡ Nothing
  pub dirty : l.dirty ≡ None

settled-either : (t : Bool) (l m : ClientLease) → IsSettled l → IsSettled m → IsSettled (cond t l m)
settled-either true l m a b = a
settled-either false l m a b = b

none-made : (made : Option Made) (call : ℕ) → made ≡ None → is_made made call ≡ false
none-made made call h = rw h refl

-- after a clean call nothing is owed, as long as no dirty call is made and no clean call fails
settled : (h later : List Event) (clean : ℕ) → IsQuiet later → IsSettled (lease_of (later ++ CleanMade clean ∷ h))
settled h [] clean quiet = record { owed = refl; dirty = refl }
settled h (Held ∷ later) clean quiet = let s = settled h later clean quiet in record { owed = s.owed; dirty = s.dirty }
settled h (Dropped ∷ later) clean quiet = let s = settled h later clean quiet in record { owed = s.owed; dirty = s.dirty }
settled h (Moment moment ∷ later) clean quiet =
    let l = lease_of (later ++ CleanMade clean ∷ h) in
    let s = settled h later clean quiet in
    settled-either (nat_lt moment l.moment) l (at_moment moment l) s (record { owed = s.owed; dirty = s.dirty })
settled h (DirtyMade made ∷ later) clean quiet = absurd quiet
settled h (CleanMade again ∷ later) clean quiet = record { owed = refl; dirty = refl }
settled h (DirtySent sent ∷ later) clean quiet =
    let l = lease_of (later ++ CleanMade clean ∷ h) in
    let s = settled h later clean quiet in record { owed = s.owed; dirty = rw s.dirty refl }
settled h (DirtyAnswered answer period ∷ later) clean quiet =
    let l = lease_of (later ++ CleanMade clean ∷ h) in
    let s = settled h later clean quiet in rw (none-made l.dirty answer s.dirty) s
settled h (DirtyFailed failed ∷ later) clean quiet =
    let l = lease_of (later ++ CleanMade clean ∷ h) in
    let s = settled h later clean quiet in rw (none-made l.dirty failed s.dirty) s
settled h (CleanAnswered answer ∷ later) clean quiet =
    let l = lease_of (later ++ CleanMade clean ∷ h) in
    let s = settled h later clean quiet in
    settled-either (is_clean l.clean answer) (record l { clean = None }) l (record { owed = s.owed; dirty = s.dirty }) s
settled h (CleanFailed failed ∷ later) clean quiet = absurd quiet

-- with holders no clean call is due
no-clean-held : (t strong : Bool) → (if t then Some Dirty else None) ≡ Some (Clean_due strong) → ⊥
no-clean-held true strong h = cc
no-clean-held false strong h = cc

pub clean-unheld : (l : ClientLease) (strong : Bool) → due l ≡ Some (Clean_due strong) → l.holders ≡ 0
clean-unheld l strong h = by (is_waiting l) (nat_lt 0 l.holders) refl h
  where
    by : (w g : Bool) → nat_lt 0 l.holders ≡ g → (if w then None else (if g then due_held l else due_unheld l)) ≡ Some (Clean_due strong) → l.holders ≡ 0
    by true g e h = cc
    by false true e h = absurd (no-clean-held (is_none l.dirty && (is_none l.lease || l.renew)) strong h)
    by false false e h = grind (arith, nat_tests)

-- if nothing is owed, no clean call is due
no-clean : (l : ClientLease) (strong : Bool) → l.owed ≡ Nothing → due l ≡ Some (Clean_due strong) → ⊥
no-clean l strong nothing h = by (is_waiting l) (nat_lt 0 l.holders) h
  where
    by : (w g : Bool) → (if w then None else (if g then due_held l else due_unheld l)) ≡ Some (Clean_due strong) → ⊥
    by true g h = cc
    by false true h = no-clean-held (is_none l.dirty && (is_none l.lease || l.renew)) strong h
    by false false h = let e : due_unheld l ≡ None = rw nothing refl in cc

pub due-once : (h later : List Event) (clean : ℕ) (strong : Bool) → IsQuiet later → due (lease_of (later ++ CleanMade clean ∷ h)) ≡ Some (Clean_due strong) → ⊥
due-once h later clean strong quiet is_due = no-clean (lease_of (later ++ CleanMade clean ∷ h)) strong (settled h later clean quiet).owed is_due

-- no dirty call is on its way, and there is no lease
record IsBare (l : ClientLease) : Type 0 where
  pub dirty : l.dirty ≡ None
  pub lease : l.lease ≡ None

-- while a clean call is on its way no dirty call is, and there is no lease
bare : (h : List Event) → is_some (lease_of h).clean ≡ true → IsBare (lease_of h)
bare [] some = absurd (false≢true some)
bare (Held ∷ h) some = let b = bare h some in record { dirty = b.dirty; lease = b.lease }
bare (Dropped ∷ h) some = let b = bare h some in record { dirty = b.dirty; lease = b.lease }
bare (Moment moment ∷ h) some =
    let l = lease_of h in
    elim (nat_lt moment l.moment) as (λ t. is_some (cond {A = ClientLease} t l (at_moment moment l)).clean ≡ true → IsBare (cond {A = ClientLease} t l (at_moment moment l))) [
      | true ↦ λ there. bare h there
      | false ↦ λ there. let b = bare h there in record { dirty = b.dirty; lease = rw b.lease refl }
    ] some
bare (DirtyMade made ∷ h) some = absurd (false≢true some)
bare (CleanMade clean ∷ h) some = record { dirty = refl; lease = refl }
bare (DirtySent sent ∷ h) some =
    let b = bare h some in record { dirty = rw b.dirty refl; lease = b.lease }
bare (DirtyAnswered answer period ∷ h) some =
    let l = lease_of h in
    elim (is_made l.dirty answer) as (λ t. is_made l.dirty answer ≡ t → is_some (cond {A = ClientLease} t (answered l.dirty period l) l).clean ≡ true → IsBare (cond {A = ClientLease} t (answered l.dirty period l) l)) [
      | true ↦ λ mine there. absurd (false≢true (sym (none-made l.dirty answer (bare h (still l.dirty l refl there)).dirty) ∙ mine))
      | false ↦ λ _ there. bare h there
    ] refl some
  where
    still : (made : Option Made) (l : ClientLease) → l.dirty ≡ made → is_some (answered made period l).clean ≡ true → is_some l.clean ≡ true
    still None l is h = h
    still (Some made) l is h = h
bare (DirtyFailed failed ∷ h) some =
    let l = lease_of h in
    elim (is_made l.dirty failed) as (λ t. is_made l.dirty failed ≡ t → is_some (cond {A = ClientLease} t (record l { dirty = None; owed = Strong; waits = true }) l).clean ≡ true
    → IsBare (cond {A = ClientLease} t (record l { dirty = None; owed = Strong; waits = true }) l)) [
      | true ↦ λ _ there. let b = bare h there in record { dirty = refl; lease = b.lease }
      | false ↦ λ _ there. bare h there
    ] refl some
bare (CleanAnswered answer ∷ h) some =
    let l = lease_of h in
    elim (is_clean l.clean answer) as (λ t. is_some (cond {A = ClientLease} t (record l { clean = None }) l).clean ≡ true → IsBare (cond {A = ClientLease} t (record l { clean = None }) l)) [
      | true ↦ λ there. absurd (false≢true there)
      | false ↦ λ there. bare h there
    ] some
bare (CleanFailed failed ∷ h) some =
    let l = lease_of h in
    elim (is_clean l.clean failed) as (λ t. is_some (cond {A = ClientLease} t (record l { clean = None; owed = Again; waits = true }) l).clean ≡ true
    → IsBare (cond {A = ClientLease} t (record l { clean = None; owed = Again; waits = true }) l)) [
      | true ↦ λ there. absurd (false≢true there)
      | false ↦ λ there. bare h there
    ] some

failed-clean : (l : ClientLease) (call : ℕ) → l.clean ≡ Some call → after_failed_clean call l ≡ record l { clean = None; owed = Again; waits = true }
failed-clean l call on_way = rw (on_way, eq-eqb call call refl) refl

some-clean : (o : Option ℕ) (call : ℕ) → o ≡ Some call → is_some o ≡ true
some-clean o call h = rw h refl

some-held : (holders : ℕ) → nat_lt 0 (one_more holders) ≡ true
some-held holders = elim (nat_lt holders 18446744073709551615) as (λ t. nat_lt holders 18446744073709551615 ≡ t → nat_lt 0 (if t then holders + 1 else holders) ≡ true)
    [ true ↦ λ test. grind (arith, nat_tests) | false ↦ λ test. grind (arith, nat_tests) ] refl

-- a new holder's dirty call is due at once after a clean call that failed
pub new-holder : (h : List Event) (call : ℕ) → (lease_of h).clean ≡ Some call → due (lease_of (Held ∷ CleanFailed call ∷ h)) ≡ Some Dirty
new-holder h call on_way =
    let l = lease_of h in
    let b = bare h (some-clean l.clean call on_way) in
    let held : nat_lt 0 (one_more l.holders) ≡ true = some-held l.holders in
    rw (failed-clean l call on_way, held, b.dirty, b.lease) refl

none-waits : (t : Bool) → not (t && false) ≡ true
none-waits true = refl
none-waits false = refl

-- nothing is due after a dirty call that failed
waits : (l : ClientLease) → l.waits ≡ true → l.owed ≡ Strong → due l ≡ None
waits l w owed = rw (w, owed, none-waits (nat_lt 0 l.holders)) refl

pub waits-failed : (h : List Event) (call : ℕ) → is_made (lease_of h).dirty call ≡ true → due (lease_of (DirtyFailed call ∷ h)) ≡ None
waits-failed h call mine = rw mine (waits (record (lease_of h) { dirty = None; owed = Strong; waits = true }) refl refl)

pub waits-held : (h : List Event) (call : ℕ) → is_made (lease_of h).dirty call ≡ true → due (lease_of (Held ∷ DirtyFailed call ∷ h)) ≡ None
waits-held h call mine = rw mine (waits (after_hold (record (lease_of h) { dirty = None; owed = Strong; waits = true })) refl refl)

either-holders : (t : Bool) (l m : ClientLease) → m.holders ≡ l.holders → (cond t m l).holders ≡ l.holders
either-holders true l m same = same
either-holders false l m same = refl

moment-holders : (t : Bool) (l m : ClientLease) → m.holders ≡ l.holders → (cond t l m).holders ≡ l.holders
moment-holders true l m same = refl
moment-holders false l m same = same

answered-holders : (made : Option Made) (period : ℕ) (l : ClientLease) → (answered made period l).holders ≡ l.holders
answered-holders None period l = refl
answered-holders (Some made) period l = refl

-- the holders kept, and those that came and are not gone
record IsCounted (kept came : ℕ) : Type 0 where
  pub most : kept ≤ 18446744073709551615
  pub either : (kept ≡ came) ⊎ (kept ≡ 18446744073709551615)

more-counted : (kept came : ℕ) → IsCounted kept came → IsCounted (one_more kept) (came + 1)
more-counted kept came h = elim (nat_lt kept 18446744073709551615) as (λ t. nat_lt kept 18446744073709551615 ≡ t → IsCounted (if t then kept + 1 else kept) (came + 1)) [
  | true ↦ λ test.
      let below : kept < 18446744073709551615 = grind (arith, nat_tests) in
      record { most = omega arith; either = elim h.either [ inl same ↦ inl (ap (λ n. n + 1) same) | inr full ↦ absurd (omega arith) ] }
  | false ↦ λ test.
      let above : 18446744073709551615 ≤ kept = grind (arith, nat_tests) in
      let most : kept ≤ 18446744073709551615 = h.most in
      record { most = most; either = inr (omega arith) }
] refl

less-counted : (kept came : ℕ) → IsCounted kept came → IsCounted (one_less kept) (came - 1)
less-counted kept came h = elim (nat_lt kept 18446744073709551615) as (λ t. nat_lt kept 18446744073709551615 ≡ t → IsCounted (if t then kept - 1 else kept) (came - 1)) [
  | true ↦ λ test.
      let below : kept < 18446744073709551615 = grind (arith, nat_tests) in
      record { most = omega arith; either = elim h.either [ inl same ↦ inl (ap (λ n. n - 1) same) | inr full ↦ absurd (omega arith) ] }
  | false ↦ λ test.
      let above : 18446744073709551615 ≤ kept = grind (arith, nat_tests) in
      let most : kept ≤ 18446744073709551615 = h.most in
      record { most = most; either = inr (omega arith) }
] refl

kept-counted : (kept now came : ℕ) → now ≡ kept → IsCounted kept came → IsCounted now came
kept-counted kept now came same h = subst (λ (n : ℕ). IsCounted n came) (sym same) h

counts : (h : List Event) → IsCounted (lease_of h).holders (holders_of h)
counts [] = record { most = omega arith; either = inl refl }
counts (Held ∷ h) = more-counted (lease_of h).holders (holders_of h) (counts h)
counts (Dropped ∷ h) = less-counted (lease_of h).holders (holders_of h) (counts h)
counts (Moment moment ∷ h) =
    let l = lease_of h in kept-counted l.holders _ (holders_of h) (moment-holders (nat_lt moment l.moment) l (at_moment moment l) refl) (counts h)
counts (DirtyMade call ∷ h) = counts h
counts (CleanMade call ∷ h) = counts h
counts (DirtySent call ∷ h) = counts h
counts (DirtyAnswered call period ∷ h) =
    let l = lease_of h in kept-counted l.holders _ (holders_of h) (either-holders (is_made l.dirty call) l (answered l.dirty period l) (answered-holders l.dirty period l)) (counts h)
counts (DirtyFailed call ∷ h) =
    let l = lease_of h in kept-counted l.holders _ (holders_of h) (either-holders (is_made l.dirty call) l (record l { dirty = None; owed = Strong; waits = true }) refl) (counts h)
counts (CleanAnswered call ∷ h) =
    let l = lease_of h in kept-counted l.holders _ (holders_of h) (either-holders (is_clean l.clean call) l (record l { clean = None }) refl) (counts h)
counts (CleanFailed call ∷ h) =
    let l = lease_of h in kept-counted l.holders _ (holders_of h) (either-holders (is_clean l.clean call) l (record l { clean = None; owed = Again; waits = true }) refl) (counts h)

pub all-counted : (h : List Event) → ((lease_of h).holders ≡ holders_of h) ⊎ ((lease_of h).holders ≡ 18446744073709551615)
all-counted h = (counts h).either

pub all-held : (h : List Event) → 0 < holders_of h → 0 < (lease_of h).holders
all-held h some = elim ((counts h).either) [ inl same ↦ omega arith | inr most ↦ omega arith ]
