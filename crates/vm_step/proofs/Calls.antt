-- The arguments of the call that a task asks for.
use Rattle.std.proofs.Common.{◌≡◌, ℕ, ◌≤◌, true, List, [], length, ap, sym, subst, ◌∙◌, Option, Some, None}
use Rattle.std.specs.Prelude.{map, option_map, reverse}
use Rattle.std.specs.Option.{option_map_or}
use Rattle.std.proofs.lemmas.Option.{slice_get_past}
use Rattle.cf_text.specs.declared.types.FieldType.{FieldType}
use Rattle.cf_reader.specs.declared.class_file.Method.{Method}
use Rattle.cls_link.specs.Links.{Links, AreLinks, Declared, IsLinked, declared_methods, method_at}
use Rattle.cls_set.specs.declared.class.Class.{Class}
use Rattle.space_ids.specs.declared.ids.Ref.{Ref}
use Rattle.space_ids.specs.declared.value.Value.{Value}
use Rattle.vm_act.specs.Crossing.{AllCross, crosses, values_of}
use Rattle.vm_act.specs.declared.asked.Asked.TheVariants as ask
use Rattle.vm_act.specs.declared.crossing.Parameter.{Parameter}
use Rattle.vm_act.specs.declared.machine.Machine.{Machine}
use Rattle.vm_code.specs.Parameters.{arguments_for, parameter_of, parameters_of}
use Rattle.vm_typing.proofs.Leads.{length-AllZip}
use Rattle.vm_laws.specs.Worlds.{takes_at}
use Rattle.vm_step.specs.Run.{IsCrossing}

-- a number that no method has takes nothing
pub none_takes : (links : Links) → AreLinks links → (number : ℕ) → length links.methods ≤ number → [] ≡ takes_at links.classes number
none_takes links are number past =
    let same : length links.methods ≡ length (declared_methods links.classes) = length-AllZip (IsLinked links.classes) (declared_methods links.classes) links.methods are.methods in
    let there : length (declared_methods links.classes) ≤ number = subst (λ (n : ℕ). n ≤ number) same past in
    sym (ap (λ (o : Option Declared). option_map_or parameters_of (option_map (λ (d : Declared). d.method) o) []) (slice_get_past (declared_methods links.classes) number there))

-- a method takes what it declares
pub some_takes : (classes : List Class) (number : ℕ) (method : Method) → method_at classes (record { 0 = number }) ≡ Some method → map parameter_of method.types.parameters ≡ takes_at classes number
some_takes classes number method there = sym (ap (λ (o : Option Method). option_map_or parameters_of o []) there)

-- what crosses is there
pub all_cross : (o : Option (Option (List Value))) → option_map crosses o ≡ Some true → AllCross o
all_cross None e = absurd (cc)
all_cross (Some None) e = absurd (cc)
all_cross (Some (Some values)) e = tt

module _ (classes : List Class) (method : ℕ) (m : Machine) (types : List FieldType) (takes : map parameter_of types ≡ takes_at classes method) where
  -- the operands on top, by what the method of a call takes
  abbrev passed : List Parameter → Option (Option (List Value))
  passed parameters = values_of (reverse parameters) m.references m.heap.cells m.stack.frame.operands

  -- the arguments of a call that is asked for cross
  pub call_crosses : (target : Ref) (count : ℕ) → IsCrossing classes (ask.Call target method count) m → AllCross (arguments_for types m)
  call_crosses target count crossing = all_cross (passed (map parameter_of types)) (ap (λ parameters. option_map crosses (passed parameters)) takes ∙ crossing.1)
