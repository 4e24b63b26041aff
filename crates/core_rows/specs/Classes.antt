-- What a class set of one remote class, without methods, tells. (This project's own, for rows of a core.)
use Rattle.std.specs.Prelude.{◌≡◌, ◌==◌, ℕ, false, List, [], None, map}
use Rattle.space_ids.specs.declared.ids.ClassId.{ClassId}
use Rattle.sp_requests.specs.ClassSets.{kind_of}
use Rattle.sp_requests.specs.Thrown.{thrown_class}
use Rattle.sp_requests.specs.declared.call_classes.RemoteException.{RemoteException}
use Rattle.sp_requests.specs.declared.class_set.FieldKind.{FieldKind}
use Rattle.sp_rules.specs.Classes.{Classes, VoidKind}

-- This class is remote and has these fields, and no other is; what is thrown is of one class.
pub record IsOneClass (class : ClassId) (kinds : List FieldKind) (thrown : ClassId) (c : Classes) : Type 0 where
  pub remote : (other : ClassId) → c.is_remote other ≡ (other.0 == class.0)
  pub fields : (other : ClassId) → map kind_of kinds ≡ c.fields other
  pub out_of_memory : thrown ≡ c.out_of_memory
  pub called : (other : ClassId) (method : ℕ) → c.may_call other method ≡ false
  pub parameters : (method : ℕ) → c.parameters method ≡ []
  pub result : (method : ℕ) → c.result method ≡ VoidKind
  pub selected : (other : ClassId) (method : ℕ) → c.selected other method ≡ None
  pub throwable : (other : ClassId) → c.is_throwable other ≡ (other.0 == thrown.0)
  pub error : (other : ClassId) → c.is_error other ≡ false
  pub remote_exception : (other : ClassId) → c.is_remote_exception other ≡ false
  pub throws : (exception : RemoteException) → thrown_class c exception ≡ thrown
