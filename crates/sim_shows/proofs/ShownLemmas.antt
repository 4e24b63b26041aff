-- The lines of the objects of a space, as one is added after the other.
use Rattle.std.proofs.Common.{◌≡◌, ◌∙◌, ◌+◌, ◌-◌, ◌^◌, ◌≤◌, ◌<◌, ◌⊎◌, ℕ, zero, suc, List, [], ◌∷◌, ◌++◌, Option, None, Some, inl, inr, refl, sym, ap, subst, length, take, arith}
use Rattle.std.specs.Prelude.{slice_get, slice_index_or}
use Rattle.std.proofs.Math.Seq.{take-suc}
use Rattle.std.proofs.lemmas.List.{append_assoc, append-nil, take_all}
use Rattle.std.proofs.lemmas.Option.{get_or_from_slice_get, none-some, slice_get_cases, slice_get_within}
use Rattle.std.proofs.lemmas.Option.{same_Some}
use Rattle.sim_shows.specs.Lines.{AreLines, object_line, sights}
use Rattle.sim_shows.specs.Steps.{IsTextOf, Showing, Shows, Step, events_of}
use Rattle.sim_shows.specs.declared.script_space.Shown.{Shown}
use Rattle.space_ids.specs.declared.ids.ClassId.{ClassId}
use Rattle.sp_promises.specs.WorldRuns.{AreLate, IsLate, IsRun}
use Rattle.sp_rules.specs.Classes.{Setting}
use Rattle.sp_rules.specs.State.{State}
use Rattle.sp_rules.specs.Worlds.{Space, World as Rules, WorldEvent, new_world, run}
use Rattle.sp_world.specs.Waitings.{AreNew, IsSpaceAt, IsWorld}
use Rattle.sp_world.specs.declared.world.World.{World}

-- the lines of objects, and that of one more
pub lines-more : (IsNamed : ClassId → List ℕ → Type 0) (name : List ℕ) (xs : List Shown) (x : Shown) (text class : List ℕ) → IsNamed x.class class → AreLines IsNamed name xs text
    → AreLines IsNamed name (xs ++ x ∷ []) (text ++ object_line name class x)
lines-more IsNamed name [] x text class named a = (class, [], named, ap (λ (t : List ℕ). t ++ object_line name class x) a ∙ sym (append-nil (object_line name class x)), refl)
lines-more IsNamed name (y ∷ ys) x text class named a = (
  a.0,
  a.1 ++ object_line name class x,
  a.2,
  ap (λ (t : List ℕ). t ++ object_line name class x) a.3 ∙ append_assoc (object_line name a.0 y) a.1 (object_line name class x),
  lines-more IsNamed name ys x a.1 class named a.4,
)

-- the first objects, and one more
pub first-more : (xs : List Shown) (n m : ℕ) (x : Shown) → Some x ≡ slice_get xs n → m ≡ n + 1 → take m xs ≡ take n xs ++ x ∷ []
first-more xs n m x is more =
    let next : m ≡ suc n = omega arith in
    ap (λ (k : ℕ). take k xs) next ∙ take-suc xs n x (slice_get_within xs n x (sym is)) ∙ ap (λ (y : Shown). take n xs ++ y ∷ []) (get_or_from_slice_get xs n x x (sym is))

-- those before a number that no object has are all
pub all-first : (xs : List Shown) (n m : ℕ) → None ≡ slice_get xs n → n ≤ m → take n xs ≡ take m xs
all-first xs n m none le = by (slice_get_cases xs n).1
  where
    by : ((x : Shown) × (n < length xs) × (slice_get xs n ≡ Some x) × (slice_index_or xs n x ≡ x)) ⊎ ((length xs ≤ n) × (slice_get xs n ≡ None)) → take n xs ≡ take m xs
    by (inl there) = absurd (none-some there.0 (none ∙ there.2))
    by (inr past) =
        let below : length xs ≤ n = past.0 in
        let beyond : length xs ≤ m = omega arith in
        take_all n xs below ∙ sym (take_all m xs beyond)

-- the space of a number, of whose outputs the last are kept
kept-at : (i : ℕ) (ss ts : List Space) (t : Space) → AreLate ss ts → slice_get ts i ≡ Some t → (s : Space) × ((slice_get ss i ≡ Some s) × IsLate s t)
kept-at i [] [] t a is = absurd (none-some t is)
kept-at i [] (u ∷ ts) t a is = absurd a
kept-at i (s ∷ ss) [] t a is = absurd a
kept-at zero (s ∷ ss) (u ∷ ts) t a is = (s, (refl, subst (IsLate s) (same_Some u t is) a.0))
kept-at (suc i) (s ∷ ss) (u ∷ ts) t a is = kept-at i ss ts t a.1 is

-- steps, and a showing after them
pub shown-more : {S : Type 0} (is_space : Setting → State → S → Type 0) (is_named : S → ClassId → List ℕ → Type 0) (world : World S) (spaces : List S) (events : List WorldEvent) (steps after : List Step) (number : ℕ) (name : List ℕ) (space : S) (text lines new : List ℕ)
    → events ≡ events_of steps → IsTextOf is_space is_named spaces steps text → IsRun is_space spaces events world
    → ((w : Rules) → IsWorld is_space w world → IsSpaceAt is_space (slice_get w.spaces number) (Some space))
    → ((g : Setting) (s : State) → is_space g s space → AreLines (is_named space) name (take (2 ^ 64 - 1) (sights s)) lines)
    → new ≡ text ++ lines → after ≡ Shows number name ∷ steps → (events ≡ events_of after) × IsTextOf is_space is_named spaces after new
shown-more {S} is_space is_named world spaces events steps after number name space text lines new same told r at makes grown more =
    subst (λ (all : List Step). (events ≡ events_of all) × IsTextOf is_space is_named spaces all new) (sym more)
    (same, λ settings these. (text, lines, grown, told settings these, seen settings these))
  where
    AreSeen : Option Space → Type 0
    AreSeen there = Showing is_space is_named there name lines

    seen : (settings : List Setting) → AreNew is_space settings spaces → AreSeen (slice_get (run (new_world settings) (events_of steps)).spaces number)
    seen settings these =
        let k = r.stands settings these in
        subst (λ (es : List WorldEvent). AreSeen (slice_get (run (new_world settings) es).spaces number)) same
        (by (run (new_world settings) events).spaces k.kept.spaces k.same.spaces (slice_get k.kept.spaces number) refl (at k.kept k.stands))
      where
        by : (ss ts : List Space) → AreLate ss ts → (o : Option Space) → slice_get ts number ≡ o → IsSpaceAt is_space o (Some space) → AreSeen (slice_get ss number)
        by ss ts late None is h = absurd h
        by ss ts late (Some t) is h =
            let q = kept-at number ss ts t late is in
            let there = subst (λ (w : Setting). is_space w q.0.state space) q.1.1.setting (subst (λ (s : State). is_space t.setting s space) q.1.1.state h) in
            subst AreSeen (sym q.1.0) (record { space = space; stands = there; lines = makes q.0.setting q.0.state there })
