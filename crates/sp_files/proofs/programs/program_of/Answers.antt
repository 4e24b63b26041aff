use Rattle.sp_files.proofs.Spelled.{known_error}
use Rattle.sp_files.specs.Only.{IsOutOfMemory}
use Rattle.sp_files.proofs.programs.program_of.Goals as goal

pub returns-in_err-accepted-clause-only : goal.returns-in_err-accepted-clause-only
returns-in_err-accepted-clause-only c = λ program is.
    known_error c.from_residual.result c.in_err-accepted.field-0.0 IsOutOfMemory c.from_residual.ensures.1 ((c.in_err-accepted.ensures).only program is)
