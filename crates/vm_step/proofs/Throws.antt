-- The classes of which the machine throws objects stand in every class set.
use Rattle.std.proofs.Common.{◌≡◌, List, [], Some, lit<}
use Rattle.cls_set.specs.declared.class.Class.{Class}
use Rattle.vm_step.specs.Thrown.{AreThrown, number_in}
use Rattle.vm_step.specs.declared.thrown.ThrownClasses.{ThrownClasses}
use Rattle.std.specs.Prelude.{IsSome}
use Rattle.cls_link.specs.Links.{Links, AreLinks}
use Rattle.cls_set.specs.BuiltIn.{built_ins, built_in}
use Rattle.cls_set.specs.Classes.{number_of}
use Rattle.vm_act.specs.declared.ending.Thrown.{Thrown}
use Rattle.vm_act.specs.declared.ending.Thrown.TheVariants as thrown
use Rattle.vm_step.specs.Task.{thrown_name, unmarshalled}

pub thrown_stands : (links : Links) (t : Thrown) → AreLinks links → IsSome (number_of links.classes (thrown_name t))
unfolding built_ins
thrown_stands links thrown.ArithmeticException are = are.set.built_in 4 (built_in [] []) (lit< tt)
thrown_stands links thrown.NullPointerException are = are.set.built_in 5 (built_in [] []) (lit< tt)
thrown_stands links thrown.ClassCastException are = are.set.built_in 6 (built_in [] []) (lit< tt)
thrown_stands links thrown.NegativeArraySizeException are = are.set.built_in 7 (built_in [] []) (lit< tt)
thrown_stands links thrown.ArrayIndexOutOfBoundsException are = are.set.built_in 9 (built_in [] []) (lit< tt)
thrown_stands links thrown.OutOfMemoryError are = are.set.built_in 13 (built_in [] []) (lit< tt)
thrown_stands links thrown.StackOverflowError are = are.set.built_in 12 (built_in [] []) (lit< tt)
thrown_stands links thrown.AbstractMethodError are = are.set.built_in 16 (built_in [] []) (lit< tt)
thrown_stands links thrown.IllegalAccessError are = are.set.built_in 17 (built_in [] []) (lit< tt)
thrown_stands links thrown.IncompatibleClassChangeError are = are.set.built_in 15 (built_in [] []) (lit< tt)
thrown_stands links thrown.MarshalException are = are.set.built_in 22 (built_in [] []) (lit< tt)

pub marshal_stands : (links : Links) → AreLinks links → IsSome (number_of links.classes unmarshalled)
unfolding built_ins
marshal_stands links are = are.set.built_in 22 (built_in [] []) (lit< tt)

pub are_thrown : (classes : List Class) (n : ThrownClasses) → number_of classes (thrown_name thrown.ArithmeticException) ≡ Some n.arithmetic_exception
    → number_of classes (thrown_name thrown.NullPointerException) ≡ Some n.null_pointer_exception
    → number_of classes (thrown_name thrown.ClassCastException) ≡ Some n.class_cast_exception
    → number_of classes (thrown_name thrown.NegativeArraySizeException) ≡ Some n.negative_array_size_exception
    → number_of classes (thrown_name thrown.ArrayIndexOutOfBoundsException) ≡ Some n.array_index_out_of_bounds_exception
    → number_of classes (thrown_name thrown.OutOfMemoryError) ≡ Some n.out_of_memory_error
    → number_of classes (thrown_name thrown.StackOverflowError) ≡ Some n.stack_overflow_error
    → number_of classes (thrown_name thrown.AbstractMethodError) ≡ Some n.abstract_method_error
    → number_of classes (thrown_name thrown.IllegalAccessError) ≡ Some n.illegal_access_error
    → number_of classes (thrown_name thrown.IncompatibleClassChangeError) ≡ Some n.incompatible_class_change_error
    → number_of classes unmarshalled ≡ Some n.marshal_exception → AreThrown classes n
are_thrown classes n a b c d e f g h i j m = record { named = by; marshal_exception = m }
  where
    by : (t : Thrown) → number_of classes (thrown_name t) ≡ Some (number_in n t)
    by thrown.ArithmeticException = a
    by thrown.NullPointerException = b
    by thrown.ClassCastException = c
    by thrown.NegativeArraySizeException = d
    by thrown.ArrayIndexOutOfBoundsException = e
    by thrown.OutOfMemoryError = f
    by thrown.StackOverflowError = g
    by thrown.AbstractMethodError = h
    by thrown.IllegalAccessError = i
    by thrown.IncompatibleClassChangeError = j
    by thrown.MarshalException = m
