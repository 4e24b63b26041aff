use Rattle.std.proofs.Common.{ap, ◌∙◌}
use Rattle.std.specs.Prelude.{option_map}
use Rattle.sp_registry.specs.Bindings.{lookup}
use Rattle.sp_rules.specs.Frames.{object_of}
use Rattle.sp_rules.specs.State.{object_at, standing}
use Rattle.sp_owner.specs.Owners.{told}
use Rattle.sp_owner.proofs.OwnerLemmas.{found-told, none-told}
use Rattle.sp_owner.proofs.owner.Owner.find.Goals as goal

pub returns-in_err-class_of : goal.returns-in_err-class_of
returns-in_err-class_of c = λ g s is.
    c.from_residual-in_err-class_of.ensures ∙ none-told (object_at s c.in_ok-id.id) (c.in_err-class_of.ensures g s.store is.store) ∙ ap (λ o. option_map told (object_of s o)) (c.in_ok-id.ensures ∙ ap (λ bs. lookup bs c.args.name.now) is.names)

pub returns : goal.returns
returns c = λ g s is.
    found-told c.in_ok-id.id (standing s.store) c.in_ok-class_of.field-0 (c.in_ok-class_of.ensures g s.store is.store) ∙ ap (λ o. option_map told (object_of s o)) (c.in_ok-id.ensures ∙ ap (λ bs. lookup bs c.args.name.now) is.names)
