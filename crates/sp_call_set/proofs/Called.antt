-- Methods that may be called: those that interfaces inherit, if a remote interface has the one that declares them.
use Rattle.std.proofs.Common.{◌≡◌, ℕ, Bool, true, false, Option, None, List, length, refl, sym, ap, ◌∙◌}
use Rattle.std.specs.Prelude.{◌&&◌, slice_get}
use Rattle.std.specs.List.{list_any}
use Rattle.std.specs.Option.{option_map_or}
use Rattle.cf_reader.specs.declared.class_file.Method.{Method}
use Rattle.cls_link.specs.Links.{Declared, declared_methods}
use Rattle.cls_search.specs.MethodSearches.{is_interface}
use Rattle.cls_set.specs.declared.class.Class.{Class}
use Rattle.space_ids.specs.declared.ids.ClassId.{ClassId}
use Rattle.sp_behaviours.specs.Remote.{gives_method, may_call}
use Rattle.sp_rules.specs.Lists.{numbers_below}
use Rattle.vm_code.specs.Classes.{is_subtype}
use Rattle.vm_code.specs.Classes.{is_remote_interface}
use Rattle.sp_call_set.proofs.Declared.{IsDeclaredBy}
use Rattle.sp_call_set.proofs.Lists.{any_none, any_same}
use Rattle.sp_call_set.specs.Calls.{is_given, is_inherited, leads_to}

kept_parts : (a b k t w : Bool) → k ≡ true → w ≡ true → (a && (b && (k && (t && w)))) ≡ (a && (b && t))
kept_parts a b false t w so also = absurd (cc)
kept_parts a b true t false so also = absurd (cc)
kept_parts a b true true true so also = refl
kept_parts a b true false true so also = refl

not_inherited : (a b k t w : Bool) → w ≡ false → (a && (b && (k && (t && w)))) ≡ false
not_inherited a b k t true other = absurd (cc)
not_inherited false b k t false other = refl
not_inherited true false k t false other = refl
not_inherited true true false t false other = refl
not_inherited true true true false false other = refl
not_inherited true true true true false other = refl

no_interface : (a b k t w : Bool) → k ≡ false → (a && (b && (k && (t && w)))) ≡ false
no_interface a b true t w other = absurd (cc)
no_interface false b false t w other = refl
no_interface true false false t w other = refl
no_interface true true false t w other = refl

module _ (classes : List Class) (class : ClassId) (method : ℕ) where
  -- a call of a method, as it is declared
  abbrev called : Option Declared → Bool
  called o = option_map_or (λ (d : Declared). list_any (λ n. gives_method classes class d (record { 0 = n })) (numbers_below (length classes))) o false

  pub none_called : slice_get (declared_methods classes) method ≡ None → false ≡ may_call classes class method
  none_called past = sym (ap called past)

  module _ (declaring : ClassId) (m : Method) (is : IsDeclaredBy classes method declaring m) where
    pub inherited_alone : false ≡ is_inherited m → false ≡ may_call classes class method
    inherited_alone fails =
        let d = is.declared in
        let other : is_inherited d.method ≡ false = ap is_inherited is.is ∙ sym fails in
        sym
        (ap called is.at
        ∙ any_none (λ n. gives_method classes class d (record { 0 = n }))
        (λ n. not_inherited (is_remote_interface classes (record { 0 = n })) (is_subtype classes class (record { 0 = n })) (is_interface classes d.class) (is_subtype classes (record { 0 = n }) d.class) (is_inherited d.method) other)
        (numbers_below (length classes)))

    pub interfaces_alone : false ≡ is_interface classes declaring → false ≡ may_call classes class method
    interfaces_alone fails =
        let d = is.declared in
        let other : is_interface classes d.class ≡ false = ap (is_interface classes) is.by_class ∙ sym fails in
        sym
        (ap called is.at
        ∙ any_none (λ n. gives_method classes class d (record { 0 = n }))
        (λ n. no_interface (is_remote_interface classes (record { 0 = n })) (is_subtype classes class (record { 0 = n })) (is_interface classes d.class) (is_subtype classes (record { 0 = n }) d.class) (is_inherited d.method) other)
        (numbers_below (length classes)))

    pub called_as_given : true ≡ is_inherited m → true ≡ is_interface classes declaring → is_given classes class declaring ≡ may_call classes class method
    called_as_given inherited interface =
        let d = is.declared in
        let so : is_interface classes d.class ≡ true = ap (is_interface classes) is.by_class ∙ sym interface in
        let also : is_inherited d.method ≡ true = ap is_inherited is.is ∙ sym inherited in
        sym
        (ap called is.at
        ∙ (any_same (λ n. gives_method classes class d (record { 0 = n })) (λ n. is_remote_interface classes (record { 0 = n }) && leads_to classes class d.class (record { 0 = n }))
        (λ n. kept_parts (is_remote_interface classes (record { 0 = n })) (is_subtype classes class (record { 0 = n })) (is_interface classes d.class) (is_subtype classes (record { 0 = n }) d.class) (is_inherited d.method) so also)
        (numbers_below (length classes))
        ∙ ap (is_given classes class) is.by_class))
