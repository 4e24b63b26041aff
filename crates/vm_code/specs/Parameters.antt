-- What the parameters of a remote method take, as its arguments cross (Java RMI specification, 2.4; that each is an int, a boolean, an int array or a
-- remote interface is a rule of this project).
use Rattle.std.specs.Prelude.{Bool, true, false, ◌==◌, ◌&&◌, if◌then◌else◌, Option, List, map, reverse}
use Rattle.cf_text.specs.declared.types.ElementType.{ElementType}
use Rattle.cf_text.specs.declared.types.ElementType.TheVariants as element
use Rattle.cf_text.specs.declared.types.FieldType.{FieldType}
use Rattle.cf_reader.specs.declared.class_file.Method.{Method}
use Rattle.vm_heap.specs.declared.heap.WordKind.{WordKind}
use Rattle.vm_heap.specs.declared.heap.WordKind.TheVariants as kind
use Rattle.space_ids.specs.declared.value.Value.{Value}
use Rattle.vm_act.specs.Crossing.{values_of}
use Rattle.vm_act.specs.declared.machine.Machine.{Machine}
use Rattle.vm_act.specs.declared.crossing.Parameter.{Parameter}
use Rattle.vm_act.specs.declared.crossing.Parameter.TheVariants as parameter
use Rattle.vm_code.specs.Fields.{kind_of}

abbrev pub is_array_element : ElementType → Bool
is_array_element element.Int = true
is_array_element _ = false

-- int[]
abbrev pub is_array_type : FieldType → Bool
is_array_type type = (type.dimensions == 1) && is_array_element type.element

abbrev pub parameter_with : Bool → WordKind → Parameter
parameter_with array kind.Int = parameter.Int
parameter_with array kind.Reference = if array then parameter.Ints else parameter.Reference

-- what a parameter of a type takes
abbrev pub parameter_of : FieldType → Parameter
parameter_of type = parameter_with (is_array_type type) (kind_of type)

-- what those of a method take, in their order
abbrev pub parameters_of : Method → List Parameter
parameters_of method = map parameter_of method.types.parameters

-- what crosses in place of the operands on top, as the arguments for parameters of these types: nothing, if one cannot
abbrev pub arguments_for : List FieldType → Machine → Option (Option (List Value))
arguments_for types m = values_of (reverse (map parameter_of types)) m.references m.heap.cells m.stack.frame.operands
