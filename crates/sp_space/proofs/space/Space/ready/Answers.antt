use Rattle.std.proofs.Common.{[], sym, subst}
use Rattle.sp_rules.specs.Classes.{Setting}
use Rattle.sp_rules.specs.State.{State}
use Rattle.sp_space.specs.Spaces.{IsSpace}
use Rattle.sp_space.proofs.EventLemmas.{space-core}
use Rattle.sp_space.proofs.FreeLemmas.{lends-none}
use Rattle.sp_space.proofs.space.Space.ready.Goals as goal

pub returns : goal.returns
returns c = λ g s is.
    let space = c.self.inside.parts in
    let inside : IsSpace g s space = subst (IsSpace g s) (sym c.self.view_is) is in
    c.ready.ensures g s [] (space-core g s space inside) (lends-none space.core inside.free)
