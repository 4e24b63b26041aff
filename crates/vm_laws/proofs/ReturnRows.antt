-- The rows of returns and of athrow.
use Rattle.std.proofs.Common.{◌≡◌, ℕ, true, false, Bool, List, [], ◌∷◌, refl, sym, subst, ap, ◌∙◌, Option, Some, None, Ok, Err}
use Rattle.std.specs.Prelude.{codes, is_none, not, if◌then◌else◌, option_map, slice_get}
use Rattle.std.specs.Option.{option_map_or}
use Rattle.cf_insns.specs.declared.insn.ValueKind.{ValueKind}
use Rattle.cf_insns.specs.declared.insn.ValueKind.TheVariants as value
use Rattle.cls_link.specs.Links.{Links}
use Rattle.cls_link.specs.declared.linked_code.LinkedInsn.TheVariants as insn
use Rattle.cf_text.specs.declared.types.FieldType.{FieldType}
use Rattle.cls_set.proofs.Hierarchy.{none_some, same_some, true_false}
use Rattle.cls_set.specs.Classes.{number_of}
use Rattle.cls_set.specs.Sets.{IsClassSet}
use Rattle.cls_set.specs.declared.class.Class.{Class}
use Rattle.space_ids.specs.declared.ids.ClassId.{ClassId}
use Rattle.ver_check.specs.Bodies.{Body}
use Rattle.ver_check.specs.Effects.{effect, reference_result, return_int, return_nothing, return_reference, throwable}
use Rattle.ver_check.specs.Steps.{◌>>=◌, demand, take}
use Rattle.ver_rules.specs.Wants.{is_int, is_reference}
use Rattle.ver_rules.specs.declared.fault.CheckRule.TheVariants as rule
use Rattle.ver_rules.specs.declared.want.Want.TheVariants as want
use Rattle.ver_frames.specs.Assignable.{IsAssignable}
use Rattle.ver_frames.specs.Frames.{Frame}
use Rattle.ver_frames.specs.Types.{field_vtype}
use Rattle.ver_frames.specs.declared.vtype.VType.{VType}
use Rattle.ver_frames.specs.declared.vtype.VType.TheVariants as vtype
use Rattle.vm_act.specs.Calls as acts
use Rattle.vm_act.specs.Steps.{where_true}
use Rattle.vm_act.specs.declared.machine.Machine.{Machine}
use Rattle.vm_code.specs.Fits.{fits, is_of_class, may_return, may_return_value, may_throw, operand_is, refers}
use Rattle.vm_heap.specs.Tagged.{Tagged, Site}
use Rattle.vm_heap.specs.declared.heap.WordKind.TheVariants as kind
use Rattle.vm_typing.proofs.Leads.{Fits-assignable}
use Rattle.vm_typing.proofs.Referents as referents
use Rattle.vm_typing.proofs.Returns as returns
use Rattle.vm_typing.specs.Fits.{held_by, Marks, Fits, AllFit}
use Rattle.vm_typing.specs.Owed.{Moves, Owed, Refers}
use Rattle.vm_typing.specs.Laws.{Leads}
use Rattle.vm_typing.specs.Typed.{IsAt, marks_of}
use Rattle.vm_typing.specs.World.{World, IsPlain}
use Rattle.vm_laws.specs.Rows.{IsBodyOf, IsRow, ReturnRows}
use Rattle.vm_laws.proofs.Fitting.{object_passes, value_passes}
use Rattle.vm_laws.proofs.ObjectRows.{let_pass}
use Rattle.vm_laws.proofs.Stands.{fits_asked}
use Rattle.vm_laws.proofs.Takes.{demanded, no_error, passes_then, take_last, take_then}
use Rattle.vm_laws.proofs.Wants.{int_wanted}

-- what may stand for a class refers to an object, or is null
pub refers_to : (classes : List Class) (s : VType) (class : ClassId) → IsAssignable classes s (vtype.Object class) → Refers s
unfolding IsAssignable
refers_to classes vtype.Top class e = absurd e
refers_to classes vtype.Int class e = absurd e
refers_to classes vtype.Null class e = tt
refers_to classes (vtype.Object c) class e = tt
refers_to classes vtype.IntArray class e = tt
refers_to classes (vtype.Uninitialized offset) class e = absurd e
refers_to classes vtype.UninitializedThis class e = absurd e

int_type : (t : VType) → is_int t ≡ true → t ≡ vtype.Int
int_type vtype.Int e = refl
int_type vtype.Top e = absurd (true_false (sym e))
int_type vtype.Null e = absurd (true_false (sym e))
int_type (vtype.Object class) e = absurd (true_false (sym e))
int_type vtype.IntArray e = absurd (true_false (sym e))
int_type (vtype.Uninitialized offset) e = absurd (true_false (sym e))
int_type vtype.UninitializedThis e = absurd (true_false (sym e))

int_result : (o : Option VType) → option_map_or is_int o false ≡ true → o ≡ Some vtype.Int
int_result None e = absurd (true_false (sym e))
int_result (Some t) e = ap (λ (u : VType). Some u) (int_type t e)

no_result : (o : Option VType) → is_none o ≡ true → o ≡ None
no_result None e = refl
no_result (Some t) e = absurd (true_false (sym e))

reference_type : (t : VType) → is_reference t ≡ true → Moves kind.Reference t
reference_type vtype.Int e = absurd (true_false (sym e))
reference_type vtype.Top e = absurd (true_false (sym e))
reference_type vtype.Null e = tt
reference_type (vtype.Object class) e = tt
reference_type vtype.IntArray e = tt
reference_type (vtype.Uninitialized offset) e = tt
reference_type vtype.UninitializedThis e = tt

some_reference : (o : Option VType) (t : VType) → reference_result o ≡ Some t → (o ≡ Some t) × Moves kind.Reference t
some_reference None t e = absurd (cc)
some_reference (Some u) t e = on (is_reference u) refl e
  where
    same : (a b : VType) → ◌≡◌ {A = Option VType} (Some a) (Some b) → a ≡ b
    same a b e = cc

    on : (b : Bool) → is_reference u ≡ b → (if b then Some u else None) ≡ Some t → (◌≡◌ {A = Option VType} (Some u) (Some t)) × Moves kind.Reference t
    on true is e = (e, subst (λ (v : VType). Moves kind.Reference v) (same u t e) (reference_type u is))
    on false is e = absurd (cc)

int_to : (classes : List Class) → IsAssignable classes vtype.Int vtype.Int
unfolding IsAssignable
int_to classes = tt

module _ (links : Links) (w : World) (owed : Owed w) (set : IsClassSet w.classes) (body : Body) where
  -- the value that a method returns is of the type of its result
  module _ (asked : Option VType) (fresh : ℕ → Site) (receiver : Site) (f : Frame) (m : Machine) (of : IsBodyOf links w m.stack.frame.method body) (at : IsAt w asked fresh receiver f m) where
    abbrev k : Marks
    k = marks_of w m.stack.frame.method fresh receiver

    value_given : (s t : VType) (types : List VType) → f.stack ≡ s ∷ types → IsAssignable w.classes s t → body.result ≡ Some t → may_return_value links m ≡ true
    unfolding may_return_value
    value_given s t types stack to result = rw of.declared (on of.declaration.types.result (sym of.gives ∙ result))
      where
        plain : IsPlain t
        plain = (owed.methods m.stack.frame.method at.frame.known).result t (sym of.result ∙ result)

        top : (type : FieldType) → field_vtype w.classes type ≡ t → (operands : List Tagged) → AllFit w (held_by m) k (s ∷ types) operands
            → option_map_or (fits links.classes type m) (slice_get operands 0) false ≡ true
        top type same [] fit = absurd fit
        top type same (v ∷ rest) fit =
            subst (λ (classes : List Class). fits classes type m v ≡ true) (sym of.linked)
            (value_passes w owed set m k type v (subst IsPlain (sym same) plain)
            (subst (λ (u : VType). Fits w (held_by m) k u v) (sym same) (Fits-assignable w owed (held_by m) k s t v to fit.0)))

        on : (o : Option FieldType) → option_map (field_vtype w.classes) o ≡ Some t → option_map_or (λ type. operand_is 0 (fits links.classes type m) m) o false ≡ true
        on None e = absurd (none_some e)
        on (Some type) e = top type (same_some e) m.stack.frame.operands (subst (λ (ts : List VType). AllFit w (held_by m) k ts m.stack.frame.operands) stack at.frame.operands)

    nothing_given : body.result ≡ None → may_return links m ≡ true
    unfolding may_return
    nothing_given result = rw of.declared (on of.declaration.types.result (sym of.gives ∙ result))
      where
        on : (o : Option FieldType) → option_map (field_vtype w.classes) o ≡ None → is_none o ≡ true
        on None e = refl
        on (Some type) e = absurd (none_some (sym e))

  int_row : IsRow links w body (insn.ReturnValue value.Int)
  unfolding effect return_int
  int_row asked fresh receiver f after m s at =
      let a = take_then body want.Int f (demand rule.Return (option_map_or is_int body.result false)) after s.effect in
      let test = demanded rule.Return (option_map_or is_int body.result false) (record f { stack = a.types }) after a.further in
      let stack = subst (λ (t : VType). f.stack ≡ t ∷ a.types) (int_wanted body.classes a.top a.wanted) a.stack in
      let result = int_result body.result test.0 in
      let_pass w asked (held_by m) (may_return_value links m) _
      (value_given asked fresh receiver f m s.body_of at vtype.Int vtype.Int a.types stack (int_to w.classes) result)
      (returns.return_int-leads w owed asked fresh receiver a.types f m stack (sym s.body_of.result ∙ result) at)

  reference_row : IsRow links w body (insn.ReturnValue value.Reference)
  unfolding effect return_reference
  reference_row asked fresh receiver f after m s at = on (reference_result body.result) refl s.effect
    where
      on : (o : Option VType) → reference_result body.result ≡ o
          → option_map_or (λ (t : VType). take body (want.Fits t) f) o (take body want.Reference f >>= λ g. Err rule.Return) ≡ Ok after
          → Leads w asked (held_by m) (where_true (may_return_value links m) (acts.return_reference m))
      on None is e = absurd (no_error (passes_then (take body want.Reference f) (λ g. Err rule.Return) after e).1.1)
      on (Some t) is e =
          let a = take_last body (want.Fits t) f after e in
          let result = some_reference body.result t is in
          let to = fits_asked links w body (insn.ReturnValue value.Reference) f after m s set t a.top a.wanted in
          let_pass w asked (held_by m) (may_return_value links m) _ (value_given asked fresh receiver f m s.body_of at a.top t a.types a.stack to result.0)
          (returns.return_reference-leads w owed asked fresh receiver a.top t a.types f m a.stack to (sym s.body_of.result ∙ result.0) result.1 at)

  value_row : (kind : ValueKind) → IsRow links w body (insn.ReturnValue kind)
  value_row value.Int = int_row
  value_row value.Reference = reference_row

  nothing_row : IsRow links w body insn.Return
  unfolding effect return_nothing
  nothing_row asked fresh receiver f after m s at =
      let first = passes_then (demand rule.Uninitialized (not f.flag_this_uninit) f) (demand rule.Return (is_none body.result)) after s.effect in
      let test = demanded rule.Return (is_none body.result) first.0 after first.1.1 in
      let result = no_result body.result test.0 in
      let_pass w asked (held_by m) (may_return links m) _ (nothing_given asked fresh receiver f m s.body_of at result)
      (returns.return_nothing-leads w owed asked fresh receiver f m (sym s.body_of.result ∙ result) at)

  -- what is thrown is a throwable
  throws_one : (class : ClassId) → number_of w.classes (codes "java/lang/Throwable") ≡ Some class → (k : Marks) (m : Machine) → links.classes ≡ w.classes → (t : VType) (types : List VType)
      → IsAssignable w.classes t (vtype.Object class) → AllFit w (held_by m) k (t ∷ types) m.stack.frame.operands → may_throw links.classes m ≡ true
  unfolding may_throw
  throws_one class named k m linked t types to fit =
      subst (λ (classes : List Class). option_map_or (λ throwable. operand_is 0 (refers (is_of_class classes throwable) m) m) (number_of classes (codes "java/lang/Throwable")) false ≡ true) (sym linked)
      (rw named (by m.stack.frame.operands fit))
    where
      by : (operands : List Tagged) → AllFit w (held_by m) k (t ∷ types) operands → option_map_or (refers (is_of_class w.classes class) m) (slice_get operands 0) false ≡ true
      by [] fit = absurd fit
      by (v ∷ rest) fit = object_passes w owed set m k class v (Fits-assignable w owed (held_by m) k t (vtype.Object class) v to fit.0)

  throw_row : IsRow links w body insn.Throw
  unfolding effect
  throw_row asked fresh receiver f after m s at =
      let there = s.names in
      let a = take_last body (want.Fits (throwable body.classes)) f after s.effect in
      let same : throwable body.classes ≡ vtype.Object there.class =
      ap throwable s.body_of.classes ∙ ap (λ (o : Option ClassId). option_map_or (λ (c : ClassId). vtype.Object c) o vtype.Top) there.named in
      let may : IsAssignable w.classes a.top (vtype.Object there.class) =
      subst (λ (t : VType). IsAssignable w.classes a.top t) same (fits_asked links w body insn.Throw f after m s set (throwable body.classes) a.top a.wanted) in
      let_pass w asked (held_by m) (may_throw links.classes m) _
      (throws_one there.class there.named (marks_of w m.stack.frame.method fresh receiver) m s.body_of.linked a.top a.types may
      (subst (λ (ts : List VType). AllFit w (held_by m) (marks_of w m.stack.frame.method fresh receiver) ts m.stack.frame.operands) a.stack at.frame.operands))
      (referents.throw-leads w owed asked (held_by m) fresh receiver there.class a.top a.types f m a.stack (refers_to w.classes a.top there.class may) may there.not_above at)

  pub rows : ReturnRows links w body
  rows = record { return_value = value_row; return_nothing = nothing_row; throw = throw_row }
