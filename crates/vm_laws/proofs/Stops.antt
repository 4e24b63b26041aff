-- A value that does not fit what is declared lets no test pass.
use Rattle.std.proofs.Common.{◌≡◌, ℕ, Bool, true, false, List, ◌∷◌, reverse, refl, ap, ◌∙◌, Option, Some}
use Rattle.std.specs.Prelude.{◌&&◌, slice_get}
use Rattle.std.specs.Option.{option_map_or}
use Rattle.cf_insns.specs.declared.insn.InvokeKind.{InvokeKind}
use Rattle.cf_insns.specs.declared.insn.InvokeKind.TheVariants as invoke
use Rattle.cf_reader.specs.declared.class_file.Field.{Field}
use Rattle.cf_reader.specs.declared.class_file.Method.{Method}
use Rattle.cf_text.specs.declared.types.FieldType.{FieldType}
use Rattle.cls_link.specs.Links.{Links, method_at}
use Rattle.cls_resolve.specs.Meanings.{field_of}
use Rattle.cls_resolve.specs.declared.named.MemberIndex.{MemberIndex}
use Rattle.cls_search.specs.FieldSearches.{field_at}
use Rattle.cls_set.proofs.Hierarchy.{true_false}
use Rattle.cls_set.specs.declared.class.Class.{Class}
use Rattle.space_ids.specs.declared.ids.ClassId.{ClassId}
use Rattle.vm_act.specs.Next.{Next, Stuck}
use Rattle.vm_act.specs.Steps.{is_kind, where_true}
use Rattle.vm_act.specs.declared.machine.Machine.{Machine}
use Rattle.vm_act.specs.declared.objects.Referent.{Referent}
use Rattle.vm_code.specs.Fields.{kind_of}
use Rattle.vm_code.specs.Fits.{all_fit, fits, fits_as, fits_field, is_of_class, is_of_type, is_target, may_call, may_read, may_return_value, may_write, operand_is, refers}
use Rattle.vm_heap.specs.Tagged.{Tagged, Int, Local, Unset, Head}
use Rattle.vm_heap.specs.declared.heap.WordKind.{WordKind}
use Rattle.vm_heap.specs.declared.heap.WordKind.TheVariants as kind
use Rattle.vm_laws.specs.Stops.{HasUnfit, HasUnfitArgument, IsUnfit, IsUnrelated, Stops}
use Rattle.vm_laws.specs.Stops.IsUnfit.{of_class, of_kind}

other_kind : (k : WordKind) (test : Referent → Bool) (m : Machine) (v : Tagged) → is_kind k v ≡ false → fits_as k test m v ≡ false
other_kind kind.Int test m v e = e
other_kind kind.Reference test m (Int n) e = refl
other_kind kind.Reference test m Unset e = refl
other_kind kind.Reference test m (Head header) e = refl
other_kind kind.Reference test m v e = absurd (true_false e)

unrelated : (classes : List Class) (m : Machine) (address : ℕ) (asked : ClassId) → IsUnrelated classes m address asked → refers (is_of_class classes asked) m (Local address) ≡ false
unrelated classes m address asked u = rw (u.there, u.no_interface, u.no_subclass) refl

no_fit : (classes : List Class) (m : Machine) (type : FieldType) (v : Tagged) → IsUnfit classes m type v → fits classes type m v ≡ false
no_fit classes m type v (of_kind value other) = other_kind (kind_of type) (is_of_type classes type) m value other
no_fit classes m type v (of_class address name asked none element named u) = rw (none, element, u.there, named, u.no_interface, u.no_subclass) refl

stuck : (b : Bool) (next : Next) → b ≡ false → where_true b next ≡ Stuck
stuck b next e = ap (λ (c : Bool). where_true c next) e

first_false : (a b : Bool) → a ≡ false → (a && b) ≡ false
first_false a b e = ap (λ (c : Bool). c && b) e

module _ (links : Links) (m : Machine) where
  no_write : (class : ClassId) (member : MemberIndex) (field : Field) → field_at links.classes (field_of member) ≡ Some field → HasUnfit links.classes m field.kind → may_write links class member m ≡ false
  unfolding may_write
  no_write class member field there has =
      first_false (operand_is 0 (fits_field links.classes (field_of member) m) m) _
      (ap (λ (os : List Tagged). option_map_or (fits_field links.classes (field_of member) m) (slice_get os 0) false) has.operands
      ∙ (ap (λ (o : Option Field). option_map_or (λ (f : Field). fits links.classes f.kind m has.value) o false) there ∙ no_fit links.classes m field.kind has.value has.unfit))

  no_read : (class : ClassId) (address : ℕ) → slice_get m.stack.frame.operands 0 ≡ Some (Local address) → IsUnrelated links.classes m address class → may_read links.classes class m ≡ false
  unfolding may_read
  no_read class address top u = rw top (unrelated links.classes m address class u)

  no_call : (how : InvokeKind) (class : ClassId) (member : MemberIndex) → HasUnfitArgument links.classes m member → may_call links how class member m ≡ false
  unfolding may_call
  no_call how class member a =
      rw a.named (first_false (all_fit links.classes (reverse a.method.types.parameters) m m.stack.frame.operands) (is_target links how class a.method m)
      (ap (λ (os : List Tagged). all_fit links.classes (reverse a.method.types.parameters) m os) a.has.operands
      ∙ (ap (λ (types : List FieldType). all_fit links.classes types m (a.has.value ∷ a.has.below)) a.last
      ∙ first_false (fits links.classes a.type m a.has.value) (all_fit links.classes a.before m a.has.below) (no_fit links.classes m a.type a.has.value a.has.unfit))))

  no_return : (method : Method) (type : FieldType) → method_at links.classes (record { 0 = m.stack.frame.method }) ≡ Some method → method.types.result ≡ Some type → HasUnfit links.classes m type
      → may_return_value links m ≡ false
  unfolding may_return_value
  no_return method type there result has =
      rw (there, result)
      (ap (λ (os : List Tagged). option_map_or (fits links.classes type m) (slice_get os 0) false) has.operands ∙ no_fit links.classes m type has.value has.unfit)

  pub stops : Stops links m
  stops = record {
    put_field = λ class member field there has. stuck (may_write links class member m) _ (no_write class member field there has);
    get_field = λ class member address top u. stuck (may_read links.classes class m) _ (no_read class address top u);
    invoke = λ how class member a. stuck (may_call links how class member m) _ (no_call how class member a);
    invoke_interface = λ count class member a. stuck (may_call links invoke.Virtual class member m) _ (no_call invoke.Virtual class member a);
    return_value = λ how method type there result has. stuck (may_return_value links m) _ (no_return method type there result has);
  }
