use Rattle.std.proofs.Common.{◌∙◌, ap, refl}
use Rattle.std.specs.Prelude.{slice_get}
use Rattle.sp_world.specs.Waitings.{row_of}
use Rattle.sp_world.proofs.MakeLemmas.{settle-done, settle-rest}
use Rattle.sp_world.proofs.world.World.settle.Goals as goal

pub returns-in-Ok-clause-same : goal.returns-in-Ok-clause-same
returns-in-Ok-clause-same g c = λ w h.
    settle-done g.S.WorldSpace.is_space w c.args.self.now _ c.in-Some.waiting c.row_of-row.result.now c.in-Some.is (c.row_of-row.ensures ∙ ap (λ rs. row_of (slice_get rs c.in-Some.waiting.writer) c.in-Some.waiting.row) c.deref.ensures.value) refl refl refl (c.in-Ok.ensures.all w) h

pub returns-in-Err-clause-same : goal.returns-in-Err-clause-same
returns-in-Err-clause-same g c = λ w h.
    settle-rest g.S.WorldSpace.is_space w c.args.self.now _ c.in-Some.waiting c.put_all.new.next c.row_of-row.result.now c.in-Some.is (c.row_of-row.ensures ∙ ap (λ rs. row_of (slice_get rs c.in-Some.waiting.writer) c.in-Some.waiting.row) c.deref.ensures.value) refl refl refl (c.in-Err.ensures.rest w) h
