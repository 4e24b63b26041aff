-- What a program tells of the classes of its set.
use Rattle.std.proofs.Common.{◌≡◌, ◌≤◌, Bool, true, false, Option, Some, None, List, length, refl, sym, ap, ◌∙◌}
use Rattle.std.specs.Prelude.{◌&&◌, not, codes}
use Rattle.std.specs.Option.{option_map_or}
use Rattle.cls_search.specs.MethodSearches.{is_interface}
use Rattle.cls_set.specs.Classes.{number_of}
use Rattle.cls_set.specs.declared.class.Class.{Class}
use Rattle.space_ids.specs.declared.ids.ClassId.{ClassId}
use Rattle.vm_code.proofs.Subtypes.{no_subtype}
use Rattle.vm_code.specs.Classes.{is_remote, is_subtype}

-- what is no class of the set is not remote
pub none_remote : (classes : List Class) (class : ClassId) → length classes ≤ class.0 → false ≡ is_remote classes class
none_remote classes class past =
    sym (ap (λ b. not (is_interface classes class) && b) (sym (below (number_of classes (codes "java/rmi/Remote")))) ∙ no_and (not (is_interface classes class)))
  where
    below : (o : Option ClassId) → false ≡ option_map_or (λ remote. is_subtype classes class remote) o false
    below None = refl
    below (Some remote) = no_subtype classes class remote past

    no_and : (b : Bool) → (b && false) ≡ false
    no_and true = refl
    no_and false = refl
