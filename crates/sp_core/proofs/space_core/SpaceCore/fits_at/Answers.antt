use Rattle.std.proofs.Common.{Some, sym, ap, ◌∙◌}
use Rattle.std.specs.Prelude.{◌&&◌}
use Rattle.sp_rules.specs.Refusals.{stands_at}
use Rattle.sp_tasks.specs.Behaviours.{op_of, stand_of}
use Rattle.sp_core.proofs.space_core.SpaceCore.fits_at.Goals as goal

pub returns-then-fits_store : goal.returns-then-fits_store
returns-then-fits_store w c = λ g s is tells.
    let at = stands_at (op_of c.args.op.now) (Some (stand_of c.args.stand.now)) in
    c.is_at.ensures ∙ ap (λ b. b && at) (sym c.if-fits_store.true ∙ c.fits_store.ensures g s is tells)

pub returns-else-fits_store : goal.returns-else-fits_store
returns-else-fits_store w c = λ g s is tells.
    let at = stands_at (op_of c.args.op.now) (Some (stand_of c.args.stand.now)) in
    c.if-fits_store.false ∙ ap (λ b. b && at) (sym c.if-fits_store.false ∙ c.fits_store.ensures g s is tells)
