-- The method that a call selects on an object of the space begins a task there (JVMS 6.5, invokeinterface; Java RMI specification, 2.4).
use Rattle.std.specs.Prelude.{◌≡◌, ℕ, true, false, Some, List, ◌∷◌, IsOk, bytes_eq}
use Rattle.cf_reader.specs.declared.class_file.Method.{Method}
use Rattle.cls_link.specs.Links.{Links, AreLinks, method_at}
use Rattle.space_ids.specs.declared.ids.Ref.{Ref}
use Rattle.space_ids.specs.declared.value.Value.{Value}
use Rattle.space_ids.specs.declared.value.Value.TheVariants as value
use Rattle.uuid.specs.declared.Uuid.{Uuid}
use Rattle.vm_code.specs.Classes.{is_remote}
use Rattle.vm_code.specs.Methods.{is_init}
use Rattle.vm_step.specs.Begin.{begun, received}
use Rattle.vm_step.specs.Sound.{IsSoundSet}
use Rattle.vm_step.specs.Start.{fill, takes_crossing}
use Rattle.vm_step.specs.declared.limits.Limits.{Limits}
use Rattle.sp_behaviours.specs.Remote.{selected_by}

-- A call of a method, of this number, on a remote object of a space: the method is no <init>, what it takes and gives crosses, and the arguments
-- are one for each of its parameters.
pub record IsCallOn (links : Links) (own : Uuid) (target : Ref) (number : ℕ) (arguments : List Value) : Type 0 where
  pub here : bytes_eq target.space own ≡ true
  pub remote : is_remote links.classes target.class ≡ true
  pub method : Method
  pub named : method_at links.classes (record { 0 = number }) ≡ Some method
  pub normal : is_init method ≡ false
  pub crosses : takes_crossing links.classes method.types ≡ true
  pub filled : fill links.classes method.types.parameters arguments ≡ true

-- What is selected for it then begins with the object as its receiver and the arguments, in a linked and checked set, whatever the limits.
abbrev pub SelectedMethodsBegin : Type 0
SelectedMethodsBegin = (links : Links) (own : Uuid) (target : Ref) (number selected : ℕ) (arguments : List Value) (limits : Limits) → AreLinks links → IsSoundSet links
    → IsCallOn links own target number arguments → selected_by links.classes target.class number ≡ Some selected
    → (begun links own (record { 0 = selected }) (value.Ref target ∷ arguments) limits ≡ received links own (record { 0 = selected }) (value.Ref target ∷ arguments) limits)
    × IsOk (received links own (record { 0 = selected }) (value.Ref target ∷ arguments) limits)
