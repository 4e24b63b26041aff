-- The methods that calls run, by the parts of the rule.
use Rattle.std.proofs.Common.{◌≡◌, ℕ, Bool, true, false, Option, Some, None, List, refl, sym, ap, ◌∙◌}
use Rattle.std.specs.Prelude.{◌&&◌, nat_le, if◌then◌else◌, option_and_then, slice_get}
use Rattle.std.specs.Option.{option_map_or}
use Rattle.cf_reader.specs.declared.class_file.Code.{Code}
use Rattle.cf_reader.specs.declared.class_file.Method.{Method}
use Rattle.cls_link.specs.Links.{Declared, declared_methods, method_at}
use Rattle.cls_link.specs.declared.linked_code.MethodId.{MethodId}
use Rattle.cls_set.specs.declared.class.Class.{Class}
use Rattle.space_ids.specs.declared.ids.ClassId.{ClassId}
use Rattle.sp_behaviours.specs.Remote.{method_of, selected_by}
use Rattle.vm_act.specs.declared.calls.Selected.TheVariants as selected
use Rattle.vm_code.specs.Classes.{is_subtype}
use Rattle.vm_code.specs.Methods.{callee_of, callee_with, chosen, interface_selected, is_public_at, public_one, selection_of, words_passed}
use Rattle.sp_call_set.proofs.Declared.{IsDeclaredBy}
use Rattle.sp_call_set.specs.Selecting.{has_code, run_by}

module _ (classes : List Class) (class : ClassId) (method : ℕ) where
  -- a selection for a method, as it is declared
  abbrev of_declared : Option Declared → Option ℕ
  of_declared o = option_and_then (λ (d : Declared). method_of (interface_selected classes class d.class (record { 0 = method }))) o

  pub none_selected : slice_get (declared_methods classes) method ≡ None → None ≡ selected_by classes class method
  none_selected past = sym (ap of_declared past)

  pub selected_as_declared : (declaring : ClassId) (m : Method) → IsDeclaredBy classes method declaring m
      → method_of (interface_selected classes class declaring (record { 0 = method })) ≡ selected_by classes class method
  selected_as_declared declaring m is =
      sym (ap of_declared is.at ∙ ap (λ (c : ClassId). method_of (interface_selected classes class c (record { 0 = method }))) is.by_class)

-- ---- on a class

pub not_implemented : (classes : List Class) (class interface : ClassId) (named : MethodId) → false ≡ is_subtype classes class interface
    → None ≡ method_of (interface_selected classes class interface named)
unfolding interface_selected
not_implemented classes class interface named other =
    ap (λ b. method_of (if b then public_one classes (selection_of classes class named) else selected.NotImplemented)) other

implemented : (classes : List Class) (class interface : ClassId) (named : MethodId) → true ≡ is_subtype classes class interface
    → method_of (public_one classes (selection_of classes class named)) ≡ method_of (interface_selected classes class interface named)
unfolding interface_selected
implemented classes class interface named below =
    ap (λ b. method_of (if b then public_one classes (selection_of classes class named) else selected.NotImplemented)) below

pub nothing_selected : (classes : List Class) (class interface : ClassId) (named : MethodId) → true ≡ is_subtype classes class interface → None ≡ selection_of classes class named
    → None ≡ method_of (interface_selected classes class interface named)
nothing_selected classes class interface named below none =
    ap (λ (o : Option MethodId). method_of (public_one classes o)) none ∙ implemented classes class interface named below

with_code : (classes : List Class) (id : MethodId) → method_of (chosen (callee_of classes false id)) ≡ (if has_code classes id then Some id.0 else None)
unfolding callee_of
with_code classes id = by (method_at classes id)
  where
    fitting : (m : Method) (code : Code) (b : Bool)
        → method_of (chosen (if b then Some (record { method = id.0; arguments = words_passed m; max_locals = code.max_locals; max_stack = code.max_stack; begins_uninit = false }) else None))
        ≡ (if b then Some id.0 else None)
    fitting m code true = refl
    fitting m code false = refl

    on : (m : Method) (o : Option Code) → method_of (chosen (option_and_then (callee_with id false m) o)) ≡ (if option_map_or (λ (code : Code). nat_le (words_passed m) code.max_locals) o false then Some id.0 else None)
    on m None = refl
    on m (Some code) = fitting m code (nat_le (words_passed m) code.max_locals)

    by : (o : Option Method) → method_of (chosen (option_and_then (λ (m : Method). option_and_then (callee_with id false m) m.code) o))
        ≡ (if option_map_or (λ (m : Method). option_map_or (λ (code : Code). nat_le (words_passed m) code.max_locals) m.code false) o false then Some id.0 else None)
    by None = refl
    by (Some m) = on m m.code

runs : (classes : List Class) (found : MethodId) → method_of (public_one classes (Some found)) ≡ run_by classes found
runs classes found = by (is_public_at classes found)
  where
    by : (b : Bool) → method_of (if b then chosen (callee_of classes false found) else selected.NotPublic) ≡ (if b && has_code classes found then Some found.0 else None)
    by true = with_code classes found
    by false = refl

pub runs_selected : (classes : List Class) (class interface : ClassId) (named found : MethodId) → true ≡ is_subtype classes class interface
    → Some found ≡ selection_of classes class named → run_by classes found ≡ method_of (interface_selected classes class interface named)
runs_selected classes class interface named found below some =
    sym (runs classes found) ∙ (ap (λ (o : Option MethodId). method_of (public_one classes o)) some ∙ implemented classes class interface named below)
