-- The classes of which the machine throws objects (JVMS 6.3, 6.5; Java RMI specification, appendix A), by their numbers in a set. (The numbers are
-- this project's own.)
use Rattle.std.specs.Prelude.{◌≡◌, Some, List}
use Rattle.cls_set.specs.Classes.{number_of}
use Rattle.cls_set.specs.declared.class.Class.{Class}
use Rattle.space_ids.specs.declared.ids.ClassId.{ClassId}
use Rattle.vm_act.specs.declared.ending.Thrown.{Thrown}
use Rattle.vm_act.specs.declared.ending.Thrown.TheVariants as thrown
use Rattle.vm_step.specs.Task.{thrown_name, unmarshalled}
use Rattle.vm_step.specs.declared.thrown.ThrownClasses.{ThrownClasses}

abbrev pub number_in : ThrownClasses → Thrown → ClassId
number_in numbers thrown.ArithmeticException = numbers.arithmetic_exception
number_in numbers thrown.NullPointerException = numbers.null_pointer_exception
number_in numbers thrown.ClassCastException = numbers.class_cast_exception
number_in numbers thrown.NegativeArraySizeException = numbers.negative_array_size_exception
number_in numbers thrown.ArrayIndexOutOfBoundsException = numbers.array_index_out_of_bounds_exception
number_in numbers thrown.OutOfMemoryError = numbers.out_of_memory_error
number_in numbers thrown.StackOverflowError = numbers.stack_overflow_error
number_in numbers thrown.AbstractMethodError = numbers.abstract_method_error
number_in numbers thrown.IllegalAccessError = numbers.illegal_access_error
number_in numbers thrown.IncompatibleClassChangeError = numbers.incompatible_class_change_error
number_in numbers thrown.MarshalException = numbers.marshal_exception

-- the numbers are those of the classes of these names
pub record AreThrown (classes : List Class) (numbers : ThrownClasses) : Type 0 where
  pub named : (thrown : Thrown) → number_of classes (thrown_name thrown) ≡ Some (number_in numbers thrown)
  pub marshal_exception : number_of classes unmarshalled ≡ Some numbers.marshal_exception
