-- What is known of the type of an operand that is what an instruction asks.
use Rattle.std.proofs.Common.{◌≡◌, ◌≢◌, ◌⊎◌, inl, inr, ℕ, ◌==◌, Bool, true, false, not, Option, Some, None, List, length, refl, sym, ap, ◌∙◌}
use Rattle.std.specs.Prelude.{◌||◌, IsSomeAnd, bit_and, bytes_eq, codes, slice_get}
use Rattle.std.specs.Option.{option_map_or}
use Rattle.std.proofs.lemmas.Bool.{eq-eqb, eqb-true}
use Rattle.std.proofs.lemmas.Slice.Eq.{bytes_eq-Decides}
use Rattle.cf_insns.specs.declared.insn.ValueKind.{ValueKind}
use Rattle.cf_insns.specs.declared.insn.ValueKind.TheVariants as value
use Rattle.cf_reader.specs.declared.flags.TheConstants.Flags.{INTERFACE}
use Rattle.cls_set.proofs.Hierarchy.{true_false}
use Rattle.cls_set.specs.Classes.{name_at, IsInterface}
use Rattle.cls_set.specs.Sets.{IsClassSet}
use Rattle.cls_set.specs.declared.class.Class.{Class}
use Rattle.space_ids.specs.declared.ids.ClassId.{ClassId}
use Rattle.ver_rules.specs.Wants.{is_object, is_wanted, kind_wanted}
use Rattle.ver_rules.specs.declared.want.Want.TheVariants as want
use Rattle.ver_frames.proofs.AssignableTests.{below_decides}
use Rattle.ver_frames.specs.Assignable.{IsAssignable, IsObjectAssignable}
use Rattle.ver_frames.specs.AssignableTest.{is_assignable, is_below, is_interface, is_named_object}
use Rattle.ver_frames.specs.declared.vtype.VType.{VType}
use Rattle.ver_frames.specs.declared.vtype.VType.TheVariants as vtype
use Rattle.vm_code.specs.Act.{word_kind}
use Rattle.vm_heap.specs.declared.heap.WordKind.TheVariants as kind
use Rattle.vm_typing.specs.Owed.{Moves, Refers}

module _ (classes : List Class) where
  pub int_wanted : (t : VType) → is_wanted classes want.Int t ≡ true → t ≡ vtype.Int
  unfolding is_wanted
  int_wanted vtype.Int e = refl
  int_wanted vtype.Top e = absurd (true_false (sym e))
  int_wanted vtype.Null e = absurd (true_false (sym e))
  int_wanted (vtype.Object class) e = absurd (true_false (sym e))
  int_wanted vtype.IntArray e = absurd (true_false (sym e))
  int_wanted (vtype.Uninitialized offset) e = absurd (true_false (sym e))
  int_wanted vtype.UninitializedThis e = absurd (true_false (sym e))

  pub reference_wanted : (t : VType) → is_wanted classes want.Reference t ≡ true → Moves kind.Reference t
  unfolding is_wanted
  reference_wanted vtype.Int e = absurd (true_false (sym e))
  reference_wanted vtype.Top e = absurd (true_false (sym e))
  reference_wanted vtype.Null e = tt
  reference_wanted (vtype.Object class) e = tt
  reference_wanted vtype.IntArray e = tt
  reference_wanted (vtype.Uninitialized offset) e = tt
  reference_wanted vtype.UninitializedThis e = tt

  pub kind_moves : (k : ValueKind) (t : VType) → is_wanted classes (kind_wanted k) t ≡ true → Moves (word_kind k) t
  kind_moves value.Int t e = rw (int_wanted t e) tt
  kind_moves value.Reference t e = reference_wanted t e

  pub object_refers : (t : VType) → is_object t ≡ true → Refers t
  object_refers vtype.Int e = absurd (true_false (sym e))
  object_refers vtype.Top e = absurd (true_false (sym e))
  object_refers vtype.Null e = tt
  object_refers (vtype.Object class) e = tt
  object_refers vtype.IntArray e = tt
  object_refers (vtype.Uninitialized offset) e = absurd (true_false (sym e))
  object_refers vtype.UninitializedThis e = absurd (true_false (sym e))

  pub initialized_wanted : (t : VType) → is_wanted classes want.Initialized t ≡ true → Refers t
  unfolding is_wanted
  initialized_wanted t e = object_refers t e

  -- ---- the test of assignability

  either : (a b : Bool) → (a || b) ≡ true → (a ≡ true) ⊎ (b ≡ true)
  either true b e = inl refl
  either false b e = inr e

  named : (class : ClassId) → is_named_object classes class ≡ true → name_at classes class ≡ Some (codes "java/lang/Object")
  unfolding is_named_object
  named class e = on (name_at classes class) e
    where
      on : (o : Option (List ℕ)) → option_map_or (λ name. bytes_eq name (codes "java/lang/Object")) o false ≡ true → o ≡ Some (codes "java/lang/Object")
      on None e = absurd (true_false (sym e))
      on (Some name) e = ap (λ (n : List ℕ). Some n) ((bytes_eq-Decides name (codes "java/lang/Object")).0 e)

  pub interface_is : (class : ClassId) → is_interface classes class ≡ true → IsSomeAnd (slice_get classes class.0) IsInterface
  unfolding is_interface
  interface_is class e = on (slice_get classes class.0) e
    where
      bits : (n : ℕ) → not (n == 0) ≡ true → n ≢ 0
      bits n e is = absurd (true_false (sym (ap not (sym (eq-eqb n 0 is)) ∙ e)))

      on : (o : Option Class) → option_map_or (λ (c : Class). not (bit_and c.file.flags.bits INTERFACE == 0)) o false ≡ true → IsSomeAnd o IsInterface
      on None e = absurd (true_false (sym e))
      on (Some c) e = bits (bit_and c.file.flags.bits INTERFACE) e

  module _ (set : IsClassSet classes) where
    pub may_stand : (given asked : ClassId) → (is_interface classes asked || is_below (length classes) classes given asked) ≡ true → IsObjectAssignable classes given asked
    may_stand given asked e =
        elim (either (is_interface classes asked) (is_below (length classes) classes given asked) e) [
          | inl is ↦ inl (interface_is asked is)
          | inr is ↦ inr ((below_decides classes set given asked).0 is)
        ]

    -- a type that may stand for another, by the test
    pub assignable_by : (s t : VType) → is_assignable classes s t ≡ true → IsAssignable classes s t
    unfolding IsAssignable is_assignable
    assignable_by vtype.Top vtype.Top e = tt
    assignable_by vtype.Int vtype.Top e = tt
    assignable_by vtype.Null vtype.Top e = tt
    assignable_by (vtype.Object c) vtype.Top e = tt
    assignable_by vtype.IntArray vtype.Top e = tt
    assignable_by (vtype.Uninitialized o) vtype.Top e = tt
    assignable_by vtype.UninitializedThis vtype.Top e = tt
    assignable_by vtype.Int vtype.Int e = tt
    assignable_by vtype.Null vtype.Null e = tt
    assignable_by vtype.Null (vtype.Object asked) e = tt
    assignable_by vtype.Null vtype.IntArray e = tt
    assignable_by (vtype.Object given) (vtype.Object asked) e = may_stand given asked e
    assignable_by vtype.IntArray (vtype.Object asked) e = named asked e
    assignable_by vtype.IntArray vtype.IntArray e = tt
    assignable_by (vtype.Uninitialized made) (vtype.Uninitialized asked) e = eqb-true made asked e
    assignable_by vtype.UninitializedThis vtype.UninitializedThis e = tt
    assignable_by s t e = absurd (cc)

    pub fits_wanted : (asked t : VType) → is_wanted classes (want.Fits asked) t ≡ true → IsAssignable classes t asked
    unfolding is_wanted
    fits_wanted asked t e = assignable_by t asked e
