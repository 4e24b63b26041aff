use Rattle.std.proofs.Common.{add-one, arith}
use Rattle.sp_files.specs.Files.{IsUnread, at_fault, no_memory_to_read}
use Rattle.sp_files.specs.declared.refusal.Refusal.TheVariants.{Memory}
use Rattle.sp_files.proofs.Spelled.{AreSpelled-next, found, known_error}
use Rattle.sp_files.proofs.Only.{spelled_at}
use Rattle.sp_files.specs.Only.{IsOutOfMemory}
use Rattle.sp_files.proofs.files.read_files.Goals as goal

pub returns-in_err-push-in-Ok-clause-refused : goal.returns-in_err-push-in-Ok-clause-refused
returns-in_err-push-in-Ok-clause-refused c = known_error c.from_residual.result Memory (IsUnread c.args.files.now) c.from_residual.ensures.1 no_memory_to_read

pub returns-in-Err-clause-refused : goal.returns-in-Err-clause-refused
returns-in-Err-clause-refused c =
    at_fault c.loop-index.index c.index-files-index.result c.in-Err.fault c.loop-index.classes.items
    (found c.args.files.now c.loop-index.index c.index-files-index.result (omega (arith, c.loop-index-test.true, c.loop-index.auto.index-end)) c.index-files-index.is) c.loop-index.invariant (c.in-Err.ensures).fault

pub loop-index-preserved : goal.loop-index-preserved
loop-index-preserved c =
    rw (add-one c.loop-index.index, (c.in_ok-push-in-Ok.ensures).items)
    (AreSpelled-next c.args.files.now c.loop-index.index c.index-files-index.result c.loop-index.classes.items c.in-Ok.class
    (found c.args.files.now c.loop-index.index c.index-files-index.result (omega (arith, c.loop-index-test.true, c.loop-index.auto.index-end)) c.index-files-index.is) c.loop-index.invariant (c.in-Ok.ensures).read)

pub returns-in_err-push-in-Ok-clause-only : goal.returns-in_err-push-in-Ok-clause-only
returns-in_err-push-in-Ok-clause-only c = λ classes spelled. known_error c.from_residual.result Memory IsOutOfMemory c.from_residual.ensures.1 tt

pub returns-in-Err-clause-only : goal.returns-in-Err-clause-only
returns-in-Err-clause-only c = λ classes spelled.
    let there = spelled_at c.args.files.now classes c.loop-index.index c.index-files-index.result
    (found c.args.files.now c.loop-index.index c.index-files-index.result (omega (arith, c.loop-index-test.true, c.loop-index.auto.index-end)) c.index-files-index.is) spelled in
    (c.in-Err.ensures).only there.0 there.1
