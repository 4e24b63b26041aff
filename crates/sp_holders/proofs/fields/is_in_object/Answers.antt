use Rattle.std.proofs.Common.{refl, ◌∙◌}
use Rattle.std.specs.Prelude.{slice_get}
use Rattle.sp_rules.specs.State.{standing}
use Rattle.sp_holders.proofs.PlaceLemmas.{has-fields, no-fields, no-object, object-found}
use Rattle.sp_holders.proofs.fields.is_in_object.Goals as goal

pub returns-in_default : goal.returns-in_default
returns-in_default c = λ g s is numbers. no-object g s c.args.reference.now (slice_get (standing s.store) c.args.index) (c.in_default.ensures g s is)

pub returns-in-Some-fields_of : goal.returns-in-Some-fields_of
returns-in-Some-fields_of c = λ g s is numbers.
    let o = slice_get (standing s.store) c.args.index in
    c.is_in.ensures
    ∙ has-fields g s c.args.reference.now o c.in-Some-fields_of.fields.now
    (c.in-Some-fields_of.ensures g s is ∙ object-found g s c.args.index o c.in-Some.id _ numbers refl (c.in-Some.ensures g s is))

pub returns-in-None : goal.returns-in-None
returns-in-None c = λ g s is numbers.
    let o = slice_get (standing s.store) c.args.index in
    no-fields g s c.args.reference.now o (c.in-None.ensures g s is ∙ object-found g s c.args.index o c.in-Some.id _ numbers refl (c.in-Some.ensures g s is))
