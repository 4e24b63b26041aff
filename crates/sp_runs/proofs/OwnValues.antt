-- Lists of references of a space's own objects: no lease is taken for them.
use Rattle.std.proofs.Common.{◌≡◌, ℕ, zero, suc, Bool, true, false, cond, List, [], ◌∷◌, ◌++◌, Option, None, Some, refl, sym, ap, ◌∙◌}
use Rattle.std.specs.Prelude.{◌==◌, ◌&&◌, ◌||◌, drop as without, unwrap_or}
use Rattle.std.specs.List.{list_all}
use Rattle.std.specs.Str.{bytes_eq}
use Rattle.std.proofs.lemmas.Bool.{false≢true}
use Rattle.std.proofs.lemmas.Grind.{flat_map-append}
use Rattle.std.proofs.lemmas.Slice.Eq.{bytes_eq-Decides}
use Rattle.space_ids.specs.declared.ids.ObjId.{ObjId}
use Rattle.space_ids.specs.declared.ids.Ref.{Ref}
use Rattle.space_ids.specs.declared.value.Value.{Value}
use Rattle.sp_rules.specs.Classes.{Kind, IntKind, IntArrayKind, ReferenceKind, VoidKind, Setting, blank, field_kind}
use Rattle.sp_rules.specs.Holders.{drop, drop_ids, hold, hold_ids}
use Rattle.sp_rules.specs.Laws.{AllOf}
use Rattle.sp_rules.specs.Lists.{each}
use Rattle.sp_rules.specs.LivingTasks.{value_at}
use Rattle.sp_rules.specs.References.{foreign_id, foreign_ids, is_id, is_reference_in, reference_of, references_in, with_reference, with_references}
use Rattle.sp_rules.specs.State.{State, Object, Stored, Made, Written, Gone, last_written}
use Rattle.sp_runs.specs.Going.{AreOwn, IsOwnStored}

-- ---- lists

-- a foreign reference is not among own ones
pub in-own : (g : Setting) (references : List Ref) (r : Ref) → AreOwn g references → bytes_eq r.space g.id ≡ false → is_reference_in references r ≡ false
in-own g [] r own foreign = refl
in-own g (x ∷ xs) r own foreign =
    elim (bytes_eq x.space g.id) as (λ t. bytes_eq x.space g.id ≡ t → cond t [] (record { space = x.space; id = x.id } ∷ []) ++ foreign_ids g.id xs ≡ [] → is_reference_in (x ∷ xs) r ≡ false) [
      | true ↦ λ here rest.
          let same : bytes_eq r.space x.space ≡ false = ap (bytes_eq r.space) ((bytes_eq-Decides x.space g.id).0 here) ∙ foreign in
          ap (λ t. (t && (r.id.0 == x.id.0 && r.class.0 == x.class.0)) || is_reference_in xs r) same ∙ in-own g xs r rest foreign
      | false ↦ λ apart some. cc
    ] refl own

and-left : (a b : Bool) → (a && b) ≡ true → a ≡ true
and-left true b h = refl
and-left false b h = h

and-right : (a b : Bool) → (a && b) ≡ true → b ≡ true
and-right true b h = h
and-right false b h = absurd (false≢true h)

-- what is among own references is own
pub own-among : (g : Setting) (held references : List Ref) → AreOwn g held → list_all (is_reference_in held) references ≡ true → AreOwn g references
own-among g held [] own all = refl
own-among g held (r ∷ rs) own all =
    let here = and-left (is_reference_in held r) (list_all (is_reference_in held) rs) all in
    let rest = own-among g held rs own (and-right (is_reference_in held r) (list_all (is_reference_in held) rs) all) in
    elim (bytes_eq r.space g.id) as (λ b. bytes_eq r.space g.id ≡ b → cond b [] (record { space = r.space; id = r.id } ∷ []) ++ foreign_ids g.id rs ≡ []) [
      | true ↦ λ mine. rest
      | false ↦ λ foreign. absurd (false≢true (sym (in-own g held r own foreign) ∙ here))
    ] refl

own-append : (g : Setting) (held : List Ref) (r : Ref) → AreOwn g held → bytes_eq r.space g.id ≡ true → AreOwn g (held ++ r ∷ [])
own-append g held r own here =
    flat_map-append (foreign_id g.id) held (r ∷ []) ∙ (λ j. own j ++ (cond (here j) [] (record { space = r.space; id = r.id } ∷ []) ++ []))

none-right : {A : Type 0} (xs ys : List A) → xs ++ ys ≡ [] → ys ≡ []
none-right [] ys none = none
none-right (x ∷ xs) ys none = cc

own-tail : (g : Setting) (r : Ref) (rs : List Ref) → AreOwn g (r ∷ rs) → AreOwn g rs
own-tail g r rs own = none-right (foreign_id g.id r) (foreign_ids g.id rs) own

own-both : (g : Setting) (xs ys : List Ref) → AreOwn g xs → AreOwn g ys → AreOwn g (xs ++ ys)
own-both g xs ys a b = flat_map-append (foreign_id g.id) xs ys ∙ (λ j. a j ++ b j)

pub own-dropped : (g : Setting) (n : ℕ) (xs : List Ref) → AreOwn g xs → AreOwn g (without n xs)
own-dropped g zero xs own = own
own-dropped g (suc n) [] own = refl
own-dropped g (suc n) (x ∷ xs) own = own-dropped g n xs (own-tail g x xs own)

pub own-with : (g : Setting) (held references : List Ref) → AreOwn g held → AreOwn g references → AreOwn g (with_references held references)
own-with g held [] own all = own
own-with g held (r ∷ rs) own all =
    elim (bytes_eq r.space g.id) as (λ b. bytes_eq r.space g.id ≡ b → cond b [] (record { space = r.space; id = r.id } ∷ []) ++ foreign_ids g.id rs ≡ [] → AreOwn g (with_references held (r ∷ rs))) [
      | true ↦ λ mine rest. own-with g (with_reference held r) rs (elim (is_reference_in held r) as (λ t. AreOwn g (cond t held (held ++ r ∷ []))) [ true ↦ own | false ↦ own-append g held r own mine ]) rest
      | false ↦ λ apart some. cc
    ] refl all

-- the reference of an own object
pub own-one : (g : Setting) (r : Ref) → bytes_eq r.space g.id ≡ true → AreOwn g (r ∷ [])
own-one g r here = ap (λ b. cond b [] (record { space = r.space; id = r.id } ∷ []) ++ []) here

-- ---- holders

pub hold-own : (g : Setting) (references : List Ref) (t : State) → AreOwn g references → hold g references t ≡ t
unfolding hold_ids each
hold-own g references t own = ap (λ ids. hold_ids ids t) own

pub drop-own : (g : Setting) (references : List Ref) (t : State) → AreOwn g references → drop g references t ≡ t
unfolding drop_ids each
drop-own g references t own = ap (λ ids. drop_ids ids t) own

-- ---- fields

blank-none : (k : Option Kind) → reference_of (blank k) ≡ []
blank-none None = refl
blank-none (Some IntKind) = refl
blank-none (Some IntArrayKind) = refl
blank-none (Some ReferenceKind) = refl
blank-none (Some VoidKind) = refl

or-blank : (g : Setting) (written : Option Value) (k : Option Kind) → AreOwn g (references_in written) → AreOwn g (reference_of (unwrap_or written (blank k)))
or-blank g None k own = ap (foreign_ids g.id) (blank-none k)
or-blank g (Some v) k own = own

-- what was put last into a field
last-own : (g : Setting) (h : List Stored) (id : ObjId) (slot : ℕ) → AllOf (IsOwnStored g) h → AreOwn g (references_in (last_written h id slot))
last-own g [] id slot all = refl
last-own g (Made made class ∷ h) id slot all = last-own g h id slot all.1
last-own g (Written to at value ∷ h) id slot all =
    let before : AreOwn g (references_in (last_written h id slot)) = last-own g h id slot all.1 in
    elim (is_id to id && at == slot) as (λ b. AreOwn g (references_in (cond b (Some value) (last_written h id slot)))) [ true ↦ all.0 | false ↦ before ]
last-own g (Gone ids ∷ h) id slot all = last-own g h id slot all.1

-- what a field holds
pub value-own : (g : Setting) (s : State) (id : ObjId) (slot : ℕ) (o : Option Object) → AllOf (IsOwnStored g) s.store → AreOwn g (references_in (value_at g s id slot o))
value-own g s id slot None stored = refl
value-own g s id slot (Some o) stored = or-blank g (last_written s.store id slot) (field_kind g.classes o.class slot) (last-own g s.store id slot stored)
