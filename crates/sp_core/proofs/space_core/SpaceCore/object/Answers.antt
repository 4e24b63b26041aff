use Rattle.sp_core.proofs.ShownLemmas.{none-shown, object-shown}
use Rattle.sp_core.proofs.space_core.SpaceCore.object.Goals as goal

pub returns-in_default : goal.returns-in_default
returns-in_default c = λ g s is. none-shown s _ (c.in_default.ensures g s (c.owner-owner.ensures g s is.state))

pub returns : goal.returns
returns c = λ g s is.
    let o = c.owner-owner.ensures g s is.state in
    object-shown s _ c.in-Some.id c.in-Some.class c.names_of.result c.entries_of.result (c.in-Some.ensures g s o) (c.names_of.ensures g s o) (c.entries_of.ensures g s o)
