-- At a value that does not fit what a field, a parameter or a result declares, the machine is stuck (JVMS 4.9.2): at one of another kind, an int in
-- place of a reference or the other way round, and at an object of a class that may not stand for the one that is declared.
use Rattle.std.specs.Prelude.{◌≡◌, ℕ, false, Some, List, ◌∷◌, reverse, slice_get}
use Rattle.cf_insns.specs.declared.insn.InvokeKind.{InvokeKind}
use Rattle.cf_insns.specs.declared.insn.ValueKind.{ValueKind}
use Rattle.cf_reader.specs.declared.class_file.Field.{Field}
use Rattle.cf_reader.specs.declared.class_file.Method.{Method}
use Rattle.cf_text.specs.declared.types.ElementType.TheVariants as element
use Rattle.cf_text.specs.declared.types.FieldType.{FieldType}
use Rattle.cls_link.specs.Links.{Links, method_at}
use Rattle.cls_link.specs.declared.linked_code.LinkedInsn.TheVariants as insn
use Rattle.cls_resolve.specs.Meanings.{field_of, method_of}
use Rattle.cls_resolve.specs.declared.named.MemberIndex.{MemberIndex}
use Rattle.cls_search.specs.FieldSearches.{field_at}
use Rattle.cls_search.specs.MethodSearches.{is_interface, method_in}
use Rattle.cls_set.specs.Classes.{number_of}
use Rattle.cls_set.specs.declared.class.Class.{Class}
use Rattle.space_ids.specs.declared.ids.ClassId.{ClassId}
use Rattle.vm_act.specs.Next.{Stuck}
use Rattle.vm_act.specs.Steps.{is_kind}
use Rattle.vm_act.specs.declared.machine.Machine.{Machine}
use Rattle.vm_code.specs.Act.{act}
use Rattle.vm_code.specs.Classes.{is_subtype}
use Rattle.vm_code.specs.Fields.{kind_of}
use Rattle.vm_heap.specs.Heap.{Object, cell_at}
use Rattle.vm_heap.specs.Tagged.{Tagged, Local}

-- an object of the heap is of a class that is no subclass of another, which is no interface
pub record IsUnrelated (classes : List Class) (m : Machine) (address : ℕ) (asked : ClassId) : Type 0 where
  pub class : ClassId
  pub fields : List Tagged
  pub there : cell_at m.heap.cells address ≡ Some (Object class fields)
  pub no_interface : is_interface classes asked ≡ false
  pub no_subclass : is_subtype classes class asked ≡ false

-- a value does not fit a type
pub data IsUnfit (classes : List Class) (m : Machine) (type : FieldType) : Tagged → Type 0 where
  of_kind : (value : Tagged) → is_kind (kind_of type) value ≡ false → IsUnfit classes m type value
  of_class : (address : ℕ) (name : List ℕ) (asked : ClassId) → type.dimensions ≡ 0 → type.element ≡ element.Class name → number_of classes name ≡ Some asked
      → IsUnrelated classes m address asked → IsUnfit classes m type (Local address)

-- one that does not is on top
pub record HasUnfit (classes : List Class) (m : Machine) (type : FieldType) : Type 0 where
  pub value : Tagged
  pub below : List Tagged
  pub operands : m.stack.frame.operands ≡ value ∷ below
  pub unfit : IsUnfit classes m type value

-- the last argument of a call does not
pub record HasUnfitArgument (classes : List Class) (m : Machine) (member : MemberIndex) : Type 0 where
  pub method : Method
  pub type : FieldType
  pub before : List FieldType
  pub named : method_in classes (method_of member) ≡ Some method
  pub last : reverse method.types.parameters ≡ type ∷ before
  pub has : HasUnfit classes m type

pub record Stops (links : Links) (m : Machine) : Type 0 where
  -- the value of a putfield
  pub put_field : (class : ClassId) (member : MemberIndex) (field : Field) → field_at links.classes (field_of member) ≡ Some field
      → HasUnfit links.classes m field.kind → act links (insn.PutField class member) m ≡ Stuck
  -- the object of a getfield
  pub get_field : (class : ClassId) (member : MemberIndex) (address : ℕ) → slice_get m.stack.frame.operands 0 ≡ Some (Local address)
      → IsUnrelated links.classes m address class → act links (insn.GetField class member) m ≡ Stuck
  -- an argument
  pub invoke : (how : InvokeKind) (class : ClassId) (member : MemberIndex) → HasUnfitArgument links.classes m member
      → act links (insn.Invoke how class member) m ≡ Stuck
  pub invoke_interface : (count : ℕ) (class : ClassId) (member : MemberIndex) → HasUnfitArgument links.classes m member
      → act links (insn.InvokeInterface count class member) m ≡ Stuck
  -- what a method returns
  pub return_value : (how : ValueKind) (method : Method) (type : FieldType) → method_at links.classes (record { 0 = m.stack.frame.method }) ≡ Some method
      → method.types.result ≡ Some type → HasUnfit links.classes m type → act links (insn.ReturnValue how) m ≡ Stuck
