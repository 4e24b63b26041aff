-- The built-in classes are well formed.
use Rattle.std.proofs.Common.{[], ◌∷◌, refl}
use Rattle.std.specs.Prelude.{All}
use Rattle.std.proofs.lemmas.List.Elements.{All-cons, All-nil}
use Rattle.cf_reader.specs.Profile.{method_type_in_profile}
use Rattle.cf_reader.specs.WellFormed.{IsWellFormed, IsWellFormedField, IsWellFormedMethod}
use Rattle.cf_reader.specs.declared.flags.TheConstants.Flags.{INTERFACE}
use Rattle.cf_reader.specs.Rules.{has}
use Rattle.cls_order.specs.declared.built_in.Kind.{Kind}
use Rattle.cls_order.specs.declared.built_in.Kind.TheVariants.{Concrete, Abstract, Interface}
use Rattle.cls_order.specs.BuiltIn.{BuiltIn, built_in_init, built_in_methods, file_of}

init_well : IsWellFormedMethod built_in_init
unfolding method_type_in_profile
init_well = record {
  spelled = record { parameters = []; result = 86 ∷ []; spelled = refl; are = refl; is = refl };
  in_profile = refl;
  initializer = λ e. (refl, refl);
}

methods_well : (kind : Kind) → All IsWellFormedMethod (built_in_methods kind)
methods_well Concrete = All-cons IsWellFormedMethod built_in_init [] init_well (All-nil IsWellFormedMethod)
methods_well Abstract = All-cons IsWellFormedMethod built_in_init [] init_well (All-nil IsWellFormedMethod)
methods_well Interface = All-nil IsWellFormedMethod

pub file_well : (b : BuiltIn) → IsWellFormed (file_of b)
file_well b = record { fields = All-nil (IsWellFormedField (has (file_of b).flags.bits INTERFACE)); methods = methods_well b.kind }
