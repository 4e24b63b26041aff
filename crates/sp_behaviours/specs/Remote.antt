-- Remote classes, the methods that may be called on their objects, and those that then run (Java RMI specification, 2.4 and 4.1).
use Rattle.std.specs.Prelude.{ℕ, Bool, false, not, ◌==◌, ◌&&◌, Option, Some, None, List, bit_and, length, option_and_then, slice_get}
use Rattle.std.specs.List.{list_any}
use Rattle.std.specs.Option.{option_map_or}
use Rattle.cf_reader.specs.declared.flags.TheConstants.Flags.{ABSTRACT}
use Rattle.cls_set.specs.declared.class.Class.{Class}
use Rattle.cls_search.specs.MethodSearches.{is_interface}
use Rattle.cls_link.specs.Links.{Declared, declared_methods}
use Rattle.cls_link.specs.Selections.{is_static}
use Rattle.space_ids.specs.declared.ids.ClassId.{ClassId}
use Rattle.sp_rules.specs.Lists.{numbers_below}
use Rattle.vm_act.specs.declared.calls.Selected.{Selected}
use Rattle.vm_act.specs.declared.calls.Selected.TheVariants as selected
use Rattle.vm_code.specs.Classes.{is_remote, is_subtype}
use Rattle.vm_code.specs.Methods.{interface_selected, is_init, is_public}
use Rattle.vm_code.specs.Classes.{is_remote_interface}

-- whether a class is declared abstract (JVMS 4.1)
abbrev pub is_abstract : List Class → ClassId → Bool
is_abstract classes class = option_map_or (λ (c : Class). not (bit_and c.file.flags.bits ABSTRACT == 0)) (slice_get classes class.0) false

-- whether instances of a class can be made, and are remote objects
abbrev pub has_instances : List Class → ClassId → Bool
has_instances classes class = is_remote classes class && not (is_abstract classes class)

-- ---- calls

-- whether an interface declares a method, or inherits it from one of its superinterfaces: neither static ones nor private ones are (JVMS
-- 5.4.3.4), and no `<init>` is one of an interface (JVMS 2.9)
abbrev pub has_method : List Class → Declared → ClassId → Bool
has_method classes d interface =
    is_interface classes d.class && (is_subtype classes interface d.class && (is_public d.method && (not (is_static d.method) && not (is_init d.method))))

-- whether it is a remote interface that a class implements, and has the method
abbrev pub gives_method : List Class → ClassId → Declared → ClassId → Bool
gives_method classes class d interface =
    is_remote_interface classes interface && (is_subtype classes class interface && has_method classes d interface)

-- whether the method of this number may be called on an object of a class: one of its remote interfaces has it
abbrev pub may_call : List Class → ClassId → ℕ → Bool
may_call classes class method =
    option_map_or (λ (d : Declared). list_any (λ n. gives_method classes class d (record { 0 = n })) (numbers_below (length classes))) (slice_get (declared_methods classes) method) false

abbrev pub method_of : Selected → Option ℕ
method_of (selected.Method callee) = Some callee.method
method_of selected.Abstract = None
method_of selected.NotPublic = None
method_of selected.NotImplemented = None

-- the method that runs when the method of an interface, of this number, is called on an object of a class: what invokeinterface selects
-- there, if it does
abbrev pub selected_by : List Class → ClassId → ℕ → Option ℕ
selected_by classes class method =
    option_and_then (λ (d : Declared). method_of (interface_selected classes class d.class (record { 0 = method }))) (slice_get (declared_methods classes) method)
