-- What a program tells of the fields of a class is what the rules of spaces ask.
use Rattle.std.proofs.Common.{◌≡◌, Bool, true, false, Option, Some, None, ℕ, zero, suc, List, [], ◌∷◌, ◌++◌, length, map, refl, sym, ap, ◌∙◌}
use Rattle.std.specs.Borrow.{Bor}
use Rattle.std.specs.Prelude.{IfNone, IfSome, if◌then◌else◌, option_map, slice_get}
use Rattle.std.specs.List.{AllZip}
use Rattle.std.specs.Option.{option_map_or}
use Rattle.cls_link.specs.Links.{Links}
use Rattle.cls_set.specs.declared.class.Class.{Class}
use Rattle.space_ids.specs.declared.ids.ClassId.{ClassId}
use Rattle.ver_frames.specs.declared.vtype.VType.{VType}
use Rattle.ver_frames.specs.declared.vtype.VType.TheVariants as vtype
use Rattle.vm_code.specs.Classes.{is_remote}
use Rattle.vm_code.specs.Fields.{kinds_of, kinds_up}
use Rattle.vm_heap.specs.declared.heap.WordKind.{WordKind}
use Rattle.vm_heap.specs.declared.heap.WordKind.TheVariants as word
use Rattle.vm_step.specs.Sound.{IsSoundSet}
use Rattle.vm_typing.specs.Owed.{HasKind}
use Rattle.vm_laws.proofs.LookUps.{held}
use Rattle.vm_laws.specs.Files.{own_types, types_of, types_up}
use Rattle.sp_behaviours.specs.Fields.{fields_of, kind_of_field, kind_of_word}

same_kind : (t : VType) (k : WordKind) → HasKind t k → kind_of_word k ≡ kind_of_field t
same_kind vtype.Int word.Int has = refl
same_kind (vtype.Object class) word.Reference has = refl
same_kind vtype.IntArray word.Reference has = refl
same_kind t k has = absurd has

same_kinds : (ts : List VType) (ks : List WordKind) → AllZip HasKind ts ks → map kind_of_word ks ≡ map kind_of_field ts
same_kinds [] [] all = refl
same_kinds [] (k ∷ ks) all = absurd all
same_kinds (t ∷ ts) [] all = absurd all
same_kinds (t ∷ ts) (k ∷ ks) all = ap (λ x. x ∷ map kind_of_word ks) (same_kind t k all.0) ∙ ap (λ xs. kind_of_field t ∷ xs) (same_kinds ts ks all.1)

no_types : (classes : List Class) (class : ClassId) → kinds_of classes class ≡ None → types_of classes class ≡ []
unfolding kinds_of types_up
no_types classes class e = by (slice_get classes class.0) e
  where
    by : (o : Option Class) → option_map (λ (c : Class). kinds_up (suc (length classes)) classes class) o ≡ None
        → option_map_or (λ (c : Class). option_map_or (types_up (length classes) classes) c.superclass [] ++ own_types classes c.file.fields) o [] ≡ []
    by None e = refl
    by (Some c) e = absurd (cc)

-- what a program tells of the fields of a remote class
pub told_some : (links : Links) → IsSoundSet links → (class : ClassId) (r : Option (Bor (List WordKind))) → is_remote links.classes class ≡ true
    → option_map (λ (kinds : Bor (List WordKind)). kinds.now) r ≡ kinds_of links.classes class
    → IfSome r (λ kinds. map kind_of_word kinds.now ≡ fields_of links.classes class)
told_some links sound class None remote is = tt
told_some links sound class (Some kinds) remote is =
    let classes = links.classes in
    same_kinds (types_of classes class) kinds.now (held classes sound.read class kinds.now (sym is))
    ∙ sym (ap (λ b. if b then map kind_of_field (types_of classes class) else []) remote)

pub told_none : (links : Links) (class : ClassId) (r : Option (Bor (List WordKind)))
    → option_map (λ (kinds : Bor (List WordKind)). kinds.now) r ≡ kinds_of links.classes class → IfNone r (fields_of links.classes class ≡ [])
told_none links class (Some kinds) is = tt
told_none links class None is =
    ap (λ ts. if is_remote links.classes class then map kind_of_field ts else []) (no_types links.classes class (sym is)) ∙ either (is_remote links.classes class)
  where
    either : (b : Bool) → (if b then map kind_of_field [] else []) ≡ []
    either true = refl
    either false = refl

-- of any other class none is kept
pub none_kept : (links : Links) (class : ClassId) → is_remote links.classes class ≡ false → fields_of links.classes class ≡ []
none_kept links class other = ap (λ b. if b then map kind_of_field (types_of links.classes class) else []) other

-- what stands in a slot
pub kept_in : (ks : List WordKind) (slot : ℕ) → slice_get (map kind_of_word ks) slot ≡ option_map kind_of_word (slice_get ks slot)
kept_in [] slot = refl
kept_in (k ∷ ks) zero = refl
kept_in (k ∷ ks) (suc slot) = kept_in ks slot
