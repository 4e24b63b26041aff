use Rattle.std.proofs.Common.{◌≡◌, Bool, true, false, cond, List, [], ◌∷◌, ◌++◌, refl, sym, ap, ◌∙◌}
use Rattle.std.specs.Prelude.{◌&&◌, ◌||◌}
use Rattle.std.specs.List.{list_all, list_any}
use Rattle.std.specs.Str.{bytes_eq}
use Rattle.uuid.specs.declared.Uuid.{Uuid}
use Rattle.space_ids.specs.declared.ids.ObjId.{ObjId}
use Rattle.space_ids.specs.declared.ids.Ref.{Ref}
use Rattle.space_ids.specs.declared.value.Value.{Value}
use Rattle.sp_rules.specs.References.{is_id, is_id_in, is_reference_in, own_ids, reference_of, references_of}

-- one of the references is of an own object of this id
pub any_own : (own : Uuid) (id : ObjId) (held : List Ref) → list_any (λ (r : Ref). bytes_eq r.space own && is_id id r.id) held ≡ is_id_in (own_ids own held) id
any_own own id [] = refl
any_own own id (r ∷ rs) =
    elim (bytes_eq r.space own) as (λ b. ((b && is_id id r.id) || list_any (λ (r : Ref). bytes_eq r.space own && is_id id r.id) rs) ≡ is_id_in (cond b (r.id ∷ []) [] ++ own_ids own rs) id) [
      | true ↦ ap (λ t. is_id id r.id || t) (any_own own id rs)
      | false ↦ any_own own id rs
    ]

all-both : (p : Ref → Bool) (xs ys : List Ref) → list_all p (xs ++ ys) ≡ (list_all p xs && list_all p ys)
all-both p [] ys = refl
all-both p (x ∷ xs) ys = elim (p x) as (λ t. (t && list_all p (xs ++ ys)) ≡ ((t && list_all p xs) && list_all p ys)) [ true ↦ all-both p xs ys | false ↦ refl ]

-- each value is a reference of these, or none
pub all_values : (held : List Ref) (values : List Value) → list_all (λ (v : Value). list_all (is_reference_in held) (reference_of v)) values ≡ list_all (is_reference_in held) (references_of values)
all_values held [] = refl
all_values held (v ∷ vs) = ap (λ t. list_all (is_reference_in held) (reference_of v) && t) (all_values held vs) ∙ sym (all-both (is_reference_in held) (reference_of v) (references_of vs))
