-- The spaces of a world, as one of them takes events.
use Rattle.std.proofs.Common.{◌≡◌, ◌∙◌, ℕ, zero, suc, List, [], ◌∷◌, ◌++◌, Option, None, Some, refl, sym, ap, subst, length, map, set, append_assoc}
use Rattle.std.specs.Prelude.{slice_get}
use Rattle.std.specs.Global.{Vec}
use Rattle.std.proofs.lemmas.List.{append-nil}
use Rattle.std.proofs.lemmas.Option.{none-some, same_Some}
use Rattle.sp_rules.specs.Classes.{Setting}
use Rattle.sp_rules.specs.Events as events
use Rattle.sp_rules.specs.Events.{Event}
use Rattle.sp_rules.specs.Lists.{with_some, at_index}
use Rattle.sp_rules.specs.Refusals.{Refusal, refusal}
use Rattle.sp_rules.specs.Space.{on}
use Rattle.sp_rules.specs.State.{State}
use Rattle.sp_rules.specs.Worlds.{Space, grown, lent_for}
use Rattle.sp_events.specs.Events.{event_of}
use Rattle.sp_events.specs.declared.event.Event.{Event as Happens}
use Rattle.sp_events.specs.declared.event.Event.TheVariants as event
use Rattle.sp_outputs.specs.Notes.{output_of}
use Rattle.sp_outputs.specs.declared.output.Output.{Output}
use Rattle.sp_world.specs.Residents.{AreResidents, IsResident, TakesRow, grown_all, row_in, told, told_in}
use Rattle.sp_world.specs.Steps.{answers_to, refusal_of, state_after}
use Rattle.sp_world.specs.declared.resident.Resident.{Resident}
use Rattle.sp_world.proofs.ActLemmas.{grown-setting}

-- ---- a space after events

grown-state : (es : List Event) (s : Space) → (grown_all es s).state ≡ state_after s.setting s.state es
grown-state [] s = refl
grown-state (e ∷ es) s = grown-state es (grown e s)

grown-outputs : (es : List Event) (s : Space) → (grown_all es s).outputs ≡ s.outputs ++ answers_to s.setting s.state es
grown-outputs [] s = sym (append-nil s.outputs)
grown-outputs (e ∷ es) s =
    grown-outputs es (grown e s)
    ∙ append_assoc s.outputs (on s.setting e s.state).1 (answers_to s.setting (on s.setting e s.state).0 es)

told-more : (rows : List (Vec Output)) (row : Vec Output) → told (rows ++ row ∷ []) ≡ told rows ++ told_in row
told-more [] row = append-nil (told_in row)
told-more (r ∷ rows) row = ap (λ (l : List events.Output). told_in r ++ l) (told-more rows row) ∙ sym (append_assoc (told_in r) (told rows) (told_in row))

pub took : {S : Type 0} (is_space : Setting → State → S → Type 0) (s : Space) (old new : Resident S) (es : List Event) (row : Vec Output)
    → IsResident is_space s old → new.answers.items ≡ old.answers.items ++ row ∷ [] → map output_of row.items ≡ answers_to s.setting s.state es
    → is_space s.setting (state_after s.setting s.state es) new.space → IsResident is_space (grown_all es s) new
took {S} is_space s old new es row r items answers stands = record {
  space = subst (λ (g : Setting). is_space g (grown_all es s).state new.space) (sym (grown-setting es s)) (subst (λ (x : State). is_space s.setting x new.space) (sym (grown-state es s)) stands);
  outputs = grown-outputs es s
      ∙ ap (λ (xs : List events.Output). xs ++ answers_to s.setting s.state es) r.outputs
      ∙ ap (λ (ys : List events.Output). told old.answers.items ++ ys) (sym answers)
      ∙ sym (told-more old.answers.items row)
      ∙ ap told (sym items);
}

row-last : {A : Type 0} (xs : List A) (x : A) → slice_get (xs ++ x ∷ []) (length xs) ≡ Some x
row-last [] x = refl
row-last (y ∷ xs) x = row-last xs x

pub kept-row : {S : Type 0} (old new : Resident S) (row : Vec Output) → new.answers.items ≡ old.answers.items ++ row ∷ [] → row_in (length old.answers.items) new ≡ told_in row
kept-row old new row items =
    ap (λ (rows : List (Vec Output)). Rattle.sp_world.specs.Residents.row_at (slice_get rows (length old.answers.items))) items
    ∙ ap Rattle.sp_world.specs.Residents.row_at (row-last old.answers.items row)

-- ---- one event

pub lent-none : (e : Happens) → lent_for (event_of e) ≡ []
lent-none (event.Moment moment) = refl
lent-none event.Sweep = refl
lent-none (event.RootAck task) = refl
lent-none (event.Bind name value) = refl
lent-none (event.Rebind name value) = refl
lent-none (event.Unbind name) = refl
lent-none (event.Lookup peer name) = refl
lent-none (event.Opened conn dialled) = refl
lent-none (event.Refused peer) = refl
lent-none (event.Received conn message) = refl
lent-none (event.Closed conn) = refl
lent-none (event.ReadFailed conn) = refl
lent-none (event.Bad conn) = refl
lent-none (event.WriteFailed conn unsent) = refl

itself : (x : Option Refusal) → with_some x None (λ why. Some why) ≡ x
itself None = refl
itself (Some why) = refl

pub one-refusal : (g : Setting) (s : State) (e : Event) → lent_for e ≡ [] → refusal_of g s (e ∷ []) ≡ refusal g [] s e
one-refusal g s e lent = itself (refusal g (lent_for e) s e) ∙ ap (λ (l : List ℕ). refusal g l s e) lent

pub one-answer : (g : Setting) (s : State) (e : Event) → answers_to g s (e ∷ []) ≡ (on g e s).1
one-answer g s e = append-nil (on g e s).1

-- ---- all spaces

pub resident-at : {S : Type 0} (is_space : Setting → State → S → Type 0) (ss : List Space) (rs : List (Resident S)) (i : ℕ) (r : Resident S)
    → AreResidents is_space ss rs → slice_get rs i ≡ Some r → (s : Space) × ((slice_get ss i ≡ Some s) × IsResident is_space s r)
resident-at is_space [] [] i r a e = absurd (none-some r e)
resident-at is_space [] (x ∷ rs) i r a e = absurd a
resident-at is_space (s ∷ ss) [] i r a e = absurd a
resident-at is_space (s ∷ ss) (x ∷ rs) zero r a e = (s, (refl, subst (IsResident is_space s) (same_Some x r e) a.0))
resident-at is_space (s ∷ ss) (x ∷ rs) (suc i) r a e = resident-at is_space ss rs i r a.1 e

pub nobody-at : {S : Type 0} (is_space : Setting → State → S → Type 0) (ss : List Space) (rs : List (Resident S)) (i : ℕ) → AreResidents is_space ss rs → slice_get rs i ≡ None → slice_get ss i ≡ None
nobody-at is_space [] [] i a e = refl
nobody-at is_space [] (x ∷ rs) i a e = absurd a
nobody-at is_space (s ∷ ss) [] i a e = absurd a
nobody-at is_space (s ∷ ss) (x ∷ rs) zero a e = absurd (none-some x (sym e))
nobody-at is_space (s ∷ ss) (x ∷ rs) (suc i) a e = nobody-at is_space ss rs i a.1 e

pub resident-set : {S : Type 0} (is_space : Setting → State → S → Type 0) (f : Space → Space) (ss : List Space) (rs : List (Resident S)) (i : ℕ) (s : Space) (r : Resident S)
    → AreResidents is_space ss rs → slice_get ss i ≡ Some s → IsResident is_space (f s) r → AreResidents is_space (at_index f i ss) (set rs i r)
resident-set is_space f [] rs i s r a e t = absurd (none-some s e)
resident-set is_space f (x ∷ ss) [] i s r a e t = absurd a
resident-set is_space f (x ∷ ss) (y ∷ rs) zero s r a e t = (subst (λ z. IsResident is_space (f z) r) (sym (same_Some x s e)) t, a.1)
resident-set is_space f (x ∷ ss) (y ∷ rs) (suc i) s r a e t = (a.0, resident-set is_space f ss rs i s r a.1 e t)

pub resident-kept : {S : Type 0} (is_space : Setting → State → S → Type 0) (ss : List Space) (rs : List (Resident S)) (i : ℕ) (r t : Resident S)
    → AreResidents is_space ss rs → slice_get rs i ≡ Some r → ((s : Space) → IsResident is_space s r → IsResident is_space s t) → AreResidents is_space ss (set rs i t)
resident-kept is_space [] [] i r t a e k = absurd (none-some r e)
resident-kept is_space [] (y ∷ rs) i r t a e k = absurd a
resident-kept is_space (x ∷ ss) [] i r t a e k = absurd a
resident-kept is_space (x ∷ ss) (y ∷ rs) zero r t a e k = (k x (subst (IsResident is_space x) (same_Some y r e) a.0), a.1)
resident-kept is_space (x ∷ ss) (y ∷ rs) (suc i) r t a e k = (a.0, resident-kept is_space ss rs i r t a.1 e k)

pub set-there : {A : Type 0} (xs : List A) (i : ℕ) (x y : A) → slice_get xs i ≡ Some x → slice_get (set xs i y) i ≡ Some y
set-there [] i x y e = absurd (none-some x e)
set-there (z ∷ xs) zero x y e = refl
set-there (z ∷ xs) (suc i) x y e = set-there xs i x y e

-- a space of a world took the events, whose answer is kept in the next row
pub takes : {S : Type 0} (is_space : Setting → State → S → Type 0) (s : Space) (old new : Resident S) (es : List Event) (why : Option Refusal) (row : Vec Output) (n : ℕ)
    → IsResident is_space s old → why ≡ None → new.answers.items ≡ old.answers.items ++ row ∷ [] → n ≡ length old.answers.items → map output_of row.items ≡ answers_to s.setting s.state es
    → is_space s.setting (state_after s.setting s.state es) new.space → TakesRow is_space s why es n new
takes is_space s old new es why row n r ok items at answers stands = record {
  accepted = ok;
  resident = took is_space s old new es row r items answers stands;
  answers = ap (λ (k : ℕ). row_in k new) at ∙ kept-row old new row items ∙ answers;
}

-- the space stays as it is, with more room for what it answers
pub stays : {S : Type 0} (is_space : Setting → State → S → Type 0) (s : Space) (old new : Resident S) → is_space s.setting s.state new.space → new.answers.items ≡ old.answers.items → IsResident is_space s old → IsResident is_space s new
stays is_space s old new stands items r = record { space = stands; outputs = r.outputs ∙ ap told (sym items) }
