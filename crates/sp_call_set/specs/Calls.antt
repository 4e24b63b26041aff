-- Which methods may be called on objects of which classes, in the parts in which it is looked for. (`may_call` of sp_behaviours is the rule.)
use Rattle.std.specs.Prelude.{ℕ, Bool, not, ◌&&◌, List, filter, length, map}
use Rattle.std.specs.List.{list_any}
use Rattle.cf_reader.specs.declared.class_file.Method.{Method}
use Rattle.cls_link.specs.Selections.{is_static}
use Rattle.cls_set.specs.declared.class.Class.{Class}
use Rattle.space_ids.specs.declared.ids.ClassId.{ClassId}
use Rattle.sp_rules.specs.Lists.{numbers_below}
use Rattle.vm_code.specs.Classes.{is_subtype}
use Rattle.vm_code.specs.Methods.{is_init, is_public}
use Rattle.vm_code.specs.Classes.{is_remote_interface}

-- whether a method is one of objects: neither static, nor an `<init>`
abbrev pub is_of_objects : Method → Bool
is_of_objects method = not (is_static method) && not (is_init method)

-- whether interfaces inherit a method of a superinterface: neither static ones nor private ones (JVMS 5.4.3.4), nor an `<init>` (JVMS 2.9)
abbrev pub is_inherited : Method → Bool
is_inherited method = is_public method && is_of_objects method

-- whether an interface is a supertype of a class, and another one or a subtype of it
abbrev pub leads_to : List Class → ClassId → ClassId → ClassId → Bool
leads_to classes class declaring interface = is_subtype classes class interface && is_subtype classes interface declaring

-- whether a remote interface that a class implements is another interface, or extends it
abbrev pub is_given : List Class → ClassId → ClassId → Bool
is_given classes class declaring =
    list_any (λ n. is_remote_interface classes (record { 0 = n }) && leads_to classes class declaring (record { 0 = n })) (numbers_below (length classes))

-- the first classes of a set, by their numbers
abbrev pub first_classes : ℕ → List ClassId
first_classes count = map (λ n. record { 0 = n }) (numbers_below count)

abbrev pub remote_interfaces : List Class → List ClassId
remote_interfaces classes = filter (is_remote_interface classes) (first_classes (length classes))
