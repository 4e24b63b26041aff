-- What is granted has entries, and nothing that is held is lost, in every run in which nothing fails and no entry
-- expires.
use mathlib.Core.Path.{sym, ap, subst, ◌∙◌}
use Rattle.std.proofs.Common.{inl, inr}
use Rattle.std.proofs.lemmas.Bool.{true≢false, eq-eqb, eqb-true}
use Rattle.std.proofs.lemmas.Slice.Eq.{bytes_eq-Decides}
use Rattle.std.specs.Prelude.{◌≡◌, ◌⊎◌, refl, ℕ, zero, suc, ◌==◌, Bool, true, false, List, [], ◌∷◌, ◌++◌, Some, map, slice_get}
use Rattle.std.specs.Str.{bytes_eq}
use Rattle.space_ids.specs.declared.ids.ForeignId.{ForeignId}
use Rattle.space_ids.specs.declared.ids.ObjId.{ObjId}
use Rattle.sp_rules.specs.Classes.{Setting}
use Rattle.sp_rules.specs.Events.{Event}
use Rattle.sp_rules.specs.Laws.{AllOf}
use Rattle.sp_rules.specs.Lists.{at_index}
use Rattle.sp_rules.specs.Origins.{IsTaken}
use Rattle.sp_rules.specs.Space
use Rattle.sp_rules.specs.State.{State, opening}
use Rattle.sp_rules.specs.Worlds.{World, Space, WorldEvent, grown, new_space, after, run, new_world}
use Rattle.sp_rules.proofs.AllLemmas.{some-none}
use Rattle.sp_rules.proofs.OwnLemmas.{some-same}
use Rattle.sp_laws.specs.Others.{HasTwoEnds}
use Rattle.sp_order_laws.specs.Ends.{IsOneOf}
use Rattle.sp_order_laws.proofs.NoteLemmas.{append-none, append-after}
use Rattle.sp_order_laws.proofs.WorldFacts.{Known, at-all, all_known}
use Rattle.sp_order_laws.specs.Unbroken.{AreOfOneKind, NothingFails, is_failure}
use Rattle.sp_order_laws.proofs.UnbrokenLaws.{run-last}
use Rattle.sp_order_laws.proofs.WelcomeLemmas.{Facts}
use Rattle.sp_held_laws.specs.Granted.{is_granted}
use Rattle.sp_held_laws.specs.Reaches.{grown_by, AreTakenBy, ComesBy, IsSilent, AreAlone, ReachesOne}
use Rattle.sp_held_laws.specs.Steps.{has_entry_for}
use Rattle.sp_held_laws.proofs.GrantLaws.{fewer-before}
use Rattle.sp_held_laws.proofs.ReachLaws.{at-row}
use Rattle.sp_held_laws.specs.Entries.{GrantedHaveEntries, GrantedReferencesHaveEntries, LeasesComeOfEntries}
use Rattle.sp_held_laws.specs.Lost.{NothingHeldIsLost, WhatIsNamedStands, CallsFound, CallsFindTheirObjects}
use Rattle.sp_held_laws.specs.Premises.{LetsNoneExpire, NothingExpires, HoldersAreFew}
use Rattle.sp_held_laws.proofs.BetweenLemmas.{same-bytes, one-index}
use Rattle.sp_held_laws.proofs.ClientSteps.{Gives, Came, client-step, client-silent, taken-before, setting-stays, lease-answers}
use Rattle.sp_held_laws.proofs.GivenLaws.{Below, Quiet, quiet-of, AreFew, held-granted}
use Rattle.sp_held_laws.proofs.HolderLemmas.{started-foreign}
use Rattle.sp_held_laws.proofs.NamedLaws.{named-stands, event-finds, silent-finds}
use Rattle.sp_held_laws.proofs.OwnerSteps.{owner-step, owner-silent}
use Rattle.sp_held_laws.proofs.StandLaws.{Entered, kept-stands}

-- ---- the invariant

-- Of a client of the object of a reference and its owner: what is granted, and what is out and came, has an entry.
abbrev Pair : ForeignId → Space → Space → Type 0
Pair r a b = Gives r (has_entry_for b.state a.setting.id r.id ≡ true) (Came b) a.state

-- So of each two spaces of a world; and each Call of the object that came to the owner found it.
record Invariant (r : ForeignId) (w : World) : Type 0 where
  pairs : (i j : ℕ) (a b : Space) → slice_get w.spaces i ≡ Some a → slice_get w.spaces j ≡ Some b
      → bytes_eq r.space a.setting.id ≡ false → r.space ≡ b.setting.id → Pair r a b
  found : (j : ℕ) (b : Space) → slice_get w.spaces j ≡ Some b → r.space ≡ b.setting.id
      → CallsFound b.setting r.id b.history

entries-of : {r : ForeignId} {w : World} → Invariant r w → GrantedHaveEntries r w
entries-of I a b o granted = (I.pairs o.client o.owner a b o.here o.there o.foreign o.own).granted granted

-- ---- rows

at-other : {A : Type 0} (f : A → A) (k i : ℕ) (xs : List A) → (k ≡ i → ⊥)
    → slice_get (at_index f k xs) i ≡ slice_get xs i
at-other f k i [] apart = refl
at-other f zero zero (x ∷ xs) apart = absurd (apart refl)
at-other f zero (suc i) (x ∷ xs) apart = refl
at-other f (suc k) zero (x ∷ xs) apart = refl
at-other f (suc k) (suc i) (x ∷ xs) apart = at-other f k i xs (λ e. apart (ap suc e))

all-back : {A : Type 0} (P : A → Type 0) (f : A → A) (k : ℕ) (xs : List A) (x : A) → slice_get xs k ≡ Some x
    → (P (f x) → P x) → AllOf P (at_index f k xs) → AllOf P xs
all-back P f k [] x e back a = tt
all-back {A} P f zero (y ∷ xs) x e back a =
    (subst P (sym (some-same e)) (back (subst (λ (z : A). P (f z)) (some-same e) a.0)), a.1)
all-back P f (suc k) (y ∷ xs) x e back a = (a.0, all-back P f k xs x e back a.1)

-- ---- an event of a world

-- what answers nothing brings no Call
silent-found : (id : ObjId) (es : List Event) (s : Space) → AllOf IsSilent es → CallsFound s.setting id s.history
    → CallsFound s.setting id (grown_by es s).history
silent-found id [] s silent k = k
silent-found id (e ∷ es) s silent k =
    silent-found id es (grown e s) silent.1 (silent-finds (Space.state_of s.setting s.history) id e silent.0, k)

module _ {settings : List Setting} {r : ForeignId} {w : World} (E : Entered settings r w) (e : WorldEvent)
    (V : Quiet settings (after w e)) (lets : LetsNoneExpire r w e) (R : ReachesOne w e) (I : Invariant r w) where
  -- the client changes
  of-client : (i j : ℕ) (es : List Event) → (after w e).spaces ≡ at_index (grown_by es) i w.spaces → AreAlone es
      → (a b : Space) → slice_get w.spaces i ≡ Some a → slice_get w.spaces j ≡ Some b
      → slice_get (after w e).spaces i ≡ Some (grown_by es a) → slice_get (after w e).spaces j ≡ Some b
      → bytes_eq r.space (grown_by es a).setting.id ≡ false → r.space ≡ b.setting.id → Pair r (grown_by es a) b
  of-client i j es same alone a b at atj now nowj foreign own =
      subst (λ (g : Setting). Gives r (has_entry_for b.state g.id r.id ≡ true) (Came b) (grown_by es a).state)
      (sym (setting-stays es a)) (by alone)
    where
      old : Pair r a b
      old = I.pairs i j a b at atj (subst (λ (g : Setting). bytes_eq r.space g.id ≡ false) (setting-stays es a)
          foreign) own

      one : (d : Event) (ds : List Event) → ds ≡ d ∷ [] → (after w e).spaces ≡ at_index (grown_by ds) i w.spaces
          → slice_get (after w e).spaces i ≡ Some (grown_by ds a)
          → Gives r (has_entry_for b.state a.setting.id r.id ≡ true) (Came b) (grown_by ds a).state
      one d ds is s n = subst (λ (xs : List Event).
          Gives r (has_entry_for b.state a.setting.id r.id ≡ true) (Came b) (grown_by xs a).state) (sym is)
          (client-step E.below E.quiet.given.facts V.given.facts i j d
          (subst (λ (xs : List Event). (after w e).spaces ≡ at_index (grown_by xs) i w.spaces) is s) a b r
          (has_entry_for b.state a.setting.id r.id ≡ true) at atj
          (subst (λ (xs : List Event). slice_get (after w e).spaces i ≡ Some (grown_by xs a)) is n) nowj own old)

      by : AreAlone es → Gives r (has_entry_for b.state a.setting.id r.id ≡ true) (Came b) (grown_by es a).state
      by (inl d) = one d.0 es d.1 same now
      by (inr silent) = client-silent E.below E.quiet.given.facts V.given.facts i j es silent same a b r
          (has_entry_for b.state a.setting.id r.id ≡ true) at atj now nowj own old

  -- the owner changes
  of-owner : (i j : ℕ) (es : List Event) → AreAlone es → AllOf (ComesBy w e j) es → (a b : Space) → AreTakenBy es b
      → slice_get w.spaces i ≡ Some a → slice_get w.spaces j ≡ Some b
      → slice_get (after w e).spaces j ≡ Some (grown_by es b) → bytes_eq r.space a.setting.id ≡ false
      → r.space ≡ (grown_by es b).setting.id → Pair r a (grown_by es b)
  of-owner i j es alone comes a b taken at atj nowj foreign own = by alone
    where
      own-then : r.space ≡ b.setting.id
      own-then = own ∙ ap (λ (g : Setting). g.id) (setting-stays es b)

      old : Pair r a b
      old = I.pairs i j a b at atj foreign own-then

      later : Known (grown_by es b)
      later = at-all Known j (after w e).spaces (grown_by es b) nowj V.given.facts.known

      one : (d : Event) (ds : List Event) → ds ≡ d ∷ [] → Known (grown_by ds b) → AllOf (ComesBy w e j) ds
          → AreTakenBy ds b → Pair r a (grown_by ds b)
      one d ds is l c t = subst (λ (xs : List Event). Pair r a (grown_by xs b)) (sym is)
          (owner-step E i j a b at atj own-then e d (subst (λ (xs : List Event). Known (grown_by xs b)) is l)
          (subst (AllOf (ComesBy w e j)) is c).0 (subst (λ (xs : List Event). AreTakenBy xs b) is t).0 lets foreign
          old)

      by : AreAlone es → Pair r a (grown_by es b)
      by (inl d) = one d.0 es d.1 later comes taken
      by (inr silent) = owner-silent E.below es a b r silent (at-all Known j w.spaces b atj E.quiet.given.facts.known)
          (later.state ∙ ap (λ (g : Setting). Space.state_of g (grown_by es b).history) (setting-stays es b)) old

  -- the space that changed, by its number
  changed : (k : ℕ) → R.space ≡ k → slice_get (after w e).spaces k ≡ Some (grown_by R.events R.row)
  changed k f = subst (λ n. slice_get (after w e).spaces n ≡ Some (grown_by R.events R.row)) f
      (ap (λ (l : List Space). slice_get l R.space) R.spaces ∙ at-row (grown_by R.events) R.space w.spaces R.row
      R.there)

  was : (k : ℕ) → R.space ≡ k → slice_get w.spaces k ≡ Some R.row
  was k f = subst (λ n. slice_get w.spaces n ≡ Some R.row) f R.there

  -- one that did not
  stayed : (k : ℕ) (x : Space) → (R.space ≡ k → ⊥) → slice_get (after w e).spaces k ≡ Some x
      → slice_get w.spaces k ≡ Some x
  stayed k x apart f = sym (ap (λ (l : List Space). slice_get l k) R.spaces ∙ at-other (grown_by R.events) R.space k
      w.spaces apart) ∙ f

  other : (k : ℕ) → (R.space == k) ≡ false → R.space ≡ k → ⊥
  other k f same = true≢false (sym (eq-eqb R.space k same) ∙ f)

  pair-after : (i j : ℕ) (a b : Space) → slice_get (after w e).spaces i ≡ Some a
      → slice_get (after w e).spaces j ≡ Some b → bytes_eq r.space a.setting.id ≡ false → r.space ≡ b.setting.id
      → Pair r a b
  pair-after i j a b at atj foreign own = by (R.space == i) refl (R.space == j) refl
    where
      by : (x : Bool) → (R.space == i) ≡ x → (y : Bool) → (R.space == j) ≡ y → Pair r a b
      by true ei true ej =
          let same : a ≡ b = some-same (sym at ∙
          (ap (slice_get (after w e).spaces) (sym (eqb-true R.space i ei) ∙ eqb-true R.space j ej) ∙ atj)) in
          absurd (true≢false (sym (same-bytes r.space a.setting.id
          (own ∙ sym (ap (λ (s : Space). s.setting.id) same))) ∙ foreign))
      by true ei false ej =
          let k : R.space ≡ i = eqb-true R.space i ei in
          let is : grown_by R.events R.row ≡ a = some-same (sym (changed i k) ∙ at) in
          subst (λ (s : Space). Pair r s b) is
          (of-client i j R.events (subst (λ n. (after w e).spaces ≡ at_index (grown_by R.events) n w.spaces) k
          R.spaces) R.alone R.row b (was i k) (stayed j b (other j ej) atj) (changed i k) atj
          (subst (λ (s : Space). bytes_eq r.space s.setting.id ≡ false) (sym is) foreign) own)
      by false ei true ej =
          let k : R.space ≡ j = eqb-true R.space j ej in
          let is : grown_by R.events R.row ≡ b = some-same (sym (changed j k) ∙ atj) in
          subst (λ (s : Space). Pair r a s) is
          (of-owner i j R.events R.alone (subst (λ n. AllOf (ComesBy w e n) R.events) k R.comes) a R.row R.taken
          (stayed i a (other i ei) at) (was j k) (changed j k) foreign
          (own ∙ sym (ap (λ (s : Space). s.setting.id) is)))
      by false ei false ej = I.pairs i j a b (stayed i a (other i ei) at) (stayed j b (other j ej) atj) foreign own

  found-after : (j : ℕ) (b : Space) → slice_get (after w e).spaces j ≡ Some b → r.space ≡ b.setting.id
      → CallsFound b.setting r.id b.history
  found-after j b atj own = by (R.space == j) refl
    where
      one : (row : Space) → slice_get w.spaces j ≡ Some row → r.space ≡ row.setting.id → (d : Event) (ds : List Event)
          → ds ≡ d ∷ [] → AllOf (ComesBy w e j) ds → CallsFound row.setting r.id (grown_by ds row).history
      one row at mine d ds is comes =
          subst (λ (xs : List Event). CallsFound row.setting r.id (grown_by xs row).history) (sym is)
          (event-finds E e j row d at mine (subst (AllOf (ComesBy w e j)) is comes).0, I.found j row at mine)

      grew : (row : Space) → slice_get w.spaces j ≡ Some row → r.space ≡ row.setting.id
          → AllOf (ComesBy w e j) R.events → AreAlone R.events
          → CallsFound row.setting r.id (grown_by R.events row).history
      grew row at mine comes (inl d) = one row at mine d.0 R.events d.1 comes
      grew row at mine comes (inr silent) = silent-found r.id R.events row silent (I.found j row at mine)

      by : (x : Bool) → (R.space == j) ≡ x → CallsFound b.setting r.id b.history
      by true ej =
          let k : R.space ≡ j = eqb-true R.space j ej in
          let is : grown_by R.events R.row ≡ b = some-same (sym (changed j k) ∙ atj) in
          let mine : r.space ≡ R.row.setting.id =
          own ∙ (sym (ap (λ (s : Space). s.setting.id) is) ∙ ap (λ (g : Setting). g.id)
          (setting-stays R.events R.row)) in
          subst (λ (s : Space). CallsFound s.setting r.id s.history) is
          (subst (λ (g : Setting). CallsFound g r.id (grown_by R.events R.row).history)
          (sym (setting-stays R.events R.row))
          (grew R.row (was j k) mine (subst (λ n. AllOf (ComesBy w e n) R.events) k R.comes) R.alone))
      by false ej = I.found j b (stayed j b (other j ej) atj) own

invariant-after : {settings : List Setting} {r : ForeignId} {w : World} → Below → Quiet settings w → (e : WorldEvent)
    → Quiet settings (after w e) → HoldersAreFew r w → LetsNoneExpire r w e
    → ((after w e).spaces ≡ w.spaces) ⊎ ReachesOne w e → Invariant r w → Invariant r (after w e)
invariant-after {settings} {r} {w} B Q e V few lets (inl same) I =
    record {
      pairs = λ i j a b at atj foreign own.
          I.pairs i j a b (ap (λ (l : List Space). slice_get l i) (sym same) ∙ at)
          (ap (λ (l : List Space). slice_get l j) (sym same) ∙ atj) foreign own;
      found =
          λ j b atj own. I.found j b (ap (λ (l : List Space). slice_get l j) (sym same) ∙ atj) own;
    }
invariant-after {settings} {r} {w} B Q e V few lets (inr R) I =
    record { pairs = pair-after E e V lets R I; found = found-after E e V lets R I }
  where
    E : Entered settings r w
    E = record { below = B; quiet = Q; few = few; granted = entries-of I }

-- ---- holders are fewer before

fewer-by : (r : ForeignId) (es : List Event) (s : Space) → IsTaken s.setting (grown_by es s).history
    → AreFew r (Space.state_of s.setting (grown_by es s).history) → AreFew r (Space.state_of s.setting s.history)
fewer-by r [] s t lt = lt
fewer-by r (e ∷ es) s t lt = fewer-before s.setting r e s.history (taken-before es (grown e s) t)
    (fewer-by r es (grown e s) t lt)

few-before : (r : ForeignId) (w : World) (e : WorldEvent) → AllOf Known w.spaces → AllOf Known (after w e).spaces
    → ((after w e).spaces ≡ w.spaces) ⊎ ReachesOne w e → HoldersAreFew r (after w e) → HoldersAreFew r w
few-before r w e known later (inl same) few = subst (AllOf (λ (s : Space). AreFew r s.state)) same few
few-before r w e known later (inr R) few =
    all-back (λ (s : Space). AreFew r s.state) (grown_by R.events) R.space w.spaces R.row R.there back
    (subst (AllOf (λ (s : Space). AreFew r s.state)) R.spaces few)
  where
    grew : Known (grown_by R.events R.row)
    grew = at-all Known R.space (after w e).spaces (grown_by R.events R.row)
        (ap (λ (l : List Space). slice_get l R.space) R.spaces ∙ at-row (grown_by R.events) R.space w.spaces R.row
        R.there) later

    was : Known R.row
    was = at-all Known R.space w.spaces R.row R.there known

    back : AreFew r (grown_by R.events R.row).state → AreFew r R.row.state
    back lt = subst (AreFew r) (sym was.state)
        (fewer-by r R.events R.row (subst (λ (g : Setting). IsTaken g (grown_by R.events R.row).history)
        (setting-stays R.events R.row) grew.taken)
        (subst (AreFew r) (grew.state ∙ ap (λ (g : Setting). Space.state_of g (grown_by R.events R.row).history)
        (setting-stays R.events R.row)) lt))

-- ---- runs

new-invariant : (r : ForeignId) (settings : List Setting) → Invariant r (new_world settings)
unfolding new_world opening
new-invariant r settings = record {
  pairs = λ i j a b at atj foreign own. empty a b (nothing settings i a at);
  found =
      λ j b atj own. subst (CallsFound b.setting r.id) (sym (unheard settings j b atj)) tt;
}
  where
    nothing : (gs : List Setting) (i : ℕ) (s : Space) → slice_get (map new_space gs) i ≡ Some s → s.state ≡ opening
    nothing [] i s e = absurd (some-none s (sym e))
    nothing (g ∷ gs) zero s e = ap (λ (x : Space). x.state) (sym (some-same e))
    nothing (g ∷ gs) (suc i) s e = nothing gs i s e

    unheard : (gs : List Setting) (i : ℕ) (s : Space) → slice_get (map new_space gs) i ≡ Some s → s.history ≡ []
    unheard [] i s e = absurd (some-none s (sym e))
    unheard (g ∷ gs) zero s e = ap (λ (x : Space). x.history) (sym (some-same e))
    unheard (g ∷ gs) (suc i) s e = unheard gs i s e

    empty : (a b : Space) → a.state ≡ opening → Pair r a b
    empty a b e = record {
      granted = λ k. absurd (true≢false (sym (subst (λ (s : State). is_granted s r ≡ true) e k)));
      lent = λ conn n d c. absurd (subst (λ (s : State). IsOneOf d.request s.requests) e d.there);
    }

-- the events before fail nothing, and so do those with one more
fine-more : (events : List WorldEvent) (e : WorldEvent) → NothingFails events → is_failure e ≡ false
    → NothingFails (events ++ e ∷ [])
fine-more [] e fine f = (f, tt)
fine-more (x ∷ events) e fine f = (fine.0, fine-more events e fine.1 f)

few-at-first : Below → (r : ForeignId) (settings : List Setting) (before more : List WorldEvent)
    → HoldersAreFew r (run (new_world settings) (before ++ more)) → HoldersAreFew r (run (new_world settings) before)
few-at-first B r settings before [] few =
    subst (λ es. HoldersAreFew r (run (new_world settings) es)) (append-none before) few
few-at-first B r settings before (e ∷ more) few =
    few-before r w e (all_known settings before)
    (subst (λ (x : World). AllOf Known x.spaces) last (all_known settings (before ++ e ∷ []))) (B.reach w e)
    (subst (HoldersAreFew r) last
    (few-at-first B r settings (before ++ e ∷ []) more
    (subst (λ es. HoldersAreFew r (run (new_world settings) es)) (sym (append-after before (e ∷ []) more)) few)))
  where
    w : World
    w = run (new_world settings) before

    last : run (new_world settings) (before ++ e ∷ []) ≡ after w e
    last = run-last (new_world settings) before e

keeps : Below → (r : ForeignId) (settings : List Setting) → AreOfOneKind settings → (before more : List WorldEvent)
    → NothingFails before → NothingFails more → NothingExpires r (run (new_world settings) before) more
    → HoldersAreFew r (run (new_world settings) (before ++ more)) → Invariant r (run (new_world settings) before)
    → Invariant r (run (new_world settings) (before ++ more))
keeps B r settings kind before [] fine finer lets few I =
    subst (λ es. Invariant r (run (new_world settings) es)) (sym (append-none before)) I
keeps B r settings kind before (e ∷ more) fine finer lets few I =
    subst (λ es. Invariant r (run (new_world settings) es)) same
    (keeps B r settings kind (before ++ e ∷ []) more now-fine finer.1
    (subst (λ (x : World). NothingExpires r x more) (sym last) lets.1)
    (subst (λ es. HoldersAreFew r (run (new_world settings) es)) (sym same) few) next)
  where
    w : World
    w = run (new_world settings) before

    last : run (new_world settings) (before ++ e ∷ []) ≡ after w e
    last = run-last (new_world settings) before e

    same : (before ++ e ∷ []) ++ more ≡ before ++ (e ∷ more)
    same = append-after before (e ∷ []) more

    now-fine : NothingFails (before ++ e ∷ [])
    now-fine = fine-more before e fine finer.0

    next : Invariant r (run (new_world settings) (before ++ e ∷ []))
    next = subst (Invariant r) (sym last)
        (invariant-after B (quiet-of B settings before kind fine) e
        (subst (Quiet settings) last (quiet-of B settings (before ++ e ∷ []) kind now-fine))
        (few-at-first B r settings before (e ∷ more) few) lets.0 (B.reach w e) I)

invariant-of : Below → (r : ForeignId) (settings : List Setting) (events : List WorldEvent) → AreOfOneKind settings
    → NothingFails events → NothingExpires r (new_world settings) events
    → HoldersAreFew r (run (new_world settings) events) → Invariant r (run (new_world settings) events)
unfolding run
invariant-of B r settings events kind fine lets few =
    keeps B r settings kind [] events tt fine lets few (new-invariant r settings)

-- ---- the laws

entered-of : Below → (r : ForeignId) (settings : List Setting) (events : List WorldEvent) → AreOfOneKind settings
    → NothingFails events → NothingExpires r (new_world settings) events
    → HoldersAreFew r (run (new_world settings) events) → Entered settings r (run (new_world settings) events)
entered-of B r settings events kind fine lets few =
    record {
      below = B;
      quiet = quiet-of B settings events kind fine;
      few = few;
      granted =
          entries-of (invariant-of B r settings events kind fine lets few);
    }

pub granted_references_have_entries : Below → GrantedReferencesHaveEntries
granted_references_have_entries B settings events r kind fine lets few =
    entries-of (invariant-of B r settings events kind fine lets few)

pub nothing_held_is_lost : Below → NothingHeldIsLost
nothing_held_is_lost B settings events r kind fine lets few i j a b at atj own started =
    record { stands = kept-stands E j b a.setting.id atj has; entry = has }
  where
    E : Entered settings r (run (new_world settings) events)
    E = entered-of B r settings events kind fine lets few

    granted : is_granted a.state r ≡ true
    granted = (held-granted B r a (at-all Known i (run (new_world settings) events).spaces a at
        E.quiet.given.facts.known) (at-all (λ (s : Space). AreFew r s.state) i
        (run (new_world settings) events).spaces a at few)).held started

    has : has_entry_for b.state a.setting.id r.id ≡ true
    has = E.granted a b (record {
      client = i;
      owner = j;
      here = at;
      there = atj;
      foreign =
          started-foreign a.setting a.state r started;
      own = own;
    }) granted

pub what_is_named_stands : Below → WhatIsNamedStands
what_is_named_stands B settings events r kind fine lets few =
    named-stands (entered-of B r settings events kind fine lets few)

pub calls_find_their_objects : Below → CallsFindTheirObjects
calls_find_their_objects B settings events r kind fine lets few =
    (invariant-of B r settings events kind fine lets few).found

pub leases_come_of_entries : Below → LeasesComeOfEntries
leases_come_of_entries B settings events r kind fine lets few conn number period p a b between there out own =
    (I.pairs p.dialler.space p.accepter.space a b between.dialled between.accepted foreign own).lent conn number out
    came
  where
    w : World
    w = run (new_world settings) events

    I : Invariant r w
    I = invariant-of B r settings events kind fine lets few

    F : Facts settings w
    F = (quiet-of B settings events kind fine).given.facts

    came : Came b conn number
    came = lease-answers F conn number period p a b between there

    foreign : bytes_eq r.space a.setting.id ≡ false
    foreign = by (bytes_eq r.space a.setting.id) refl
      where
        by : (x : Bool) → bytes_eq r.space a.setting.id ≡ x → x ≡ false
        by false e = refl
        by true e = absurd (at-all HasTwoEnds conn w.pipes p between.pipe F.two
            (one-index F p.dialler.space p.accepter.space a b between.dialled between.accepted
            (sym ((bytes_eq-Decides r.space a.setting.id).0 e) ∙ own)))
