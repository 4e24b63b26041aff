use Rattle.std.proofs.Common.{◌∙◌, ap, sym}
use Rattle.sp_rules.specs.Refusals.{fits_store}
use Rattle.sp_rules.specs.State.{object_at}
use Rattle.sp_tasks.specs.Behaviours.{op_of}
use Rattle.sp_tasks.specs.declared.behaviour.Op.{Op}
use Rattle.sp_core.proofs.OpLemmas.{kind-fits, kind-has, kind-none}
use Rattle.sp_core.proofs.space_core.SpaceCore.fits_store.Goals as goal

pub returns-in-Get : goal.returns-in-Get
returns-in-Get w c = λ g s is tells.
    c.is_some.ensures ∙ kind-has g c.kind_at.result (object_at s c.in-Get.object) c.in-Get.slot (c.kind_at.ensures g s is tells)
    ∙ ap (λ (op : Op). fits_store g s (op_of op)) (sym c.in-Get.is)

pub returns-in-Some : goal.returns-in-Some
returns-in-Some w c = λ g s is tells.
    c.fits.ensures ∙ kind-fits g c.in-Some.kind (object_at s c.in-Put.object) c.in-Put.slot c.in-Put.value (c.in-Some.ensures g s is tells)
    ∙ ap (λ (op : Op). fits_store g s (op_of op)) (sym c.in-Put.is)

pub returns-in-None : goal.returns-in-None
returns-in-None w c = λ g s is tells.
    kind-none g (object_at s c.in-Put.object) c.in-Put.slot c.in-Put.value (c.in-None.ensures g s is tells)
    ∙ ap (λ (op : Op). fits_store g s (op_of op)) (sym c.in-Put.is)
