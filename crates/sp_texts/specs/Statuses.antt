-- The exit statuses: their numbers, and which goes with which answer. (This project's own.)
use Rattle.std.specs.Prelude.{ℕ}
use Rattle.cf_load.specs.declared.load_fault.LoadFault.{LoadFault}
use Rattle.cf_load.specs.declared.load_fault.LoadFault.TheVariants.{Device, Read}
use Rattle.sp_files.specs.declared.refusal.Refusal.{Refusal}
use Rattle.sp_files.specs.declared.refusal.Refusal.TheVariants as refusal
use Rattle.sp_files.specs.declared.outcome.RunOutcome.{RunOutcome}
use Rattle.sp_files.specs.declared.outcome.RunOutcome.TheVariants.{Returned, Threw, Spent}
use Rattle.sp_texts.specs.declared.status.Status.{Status}
use Rattle.sp_texts.specs.declared.status.Status.TheVariants.{Done, Ended, Refused, Failed}

abbrev pub code_of : Status → ℕ
code_of Done = 0
code_of Ended = 1
code_of Refused = 2
code_of Failed = 3

-- the status of an outcome
abbrev pub outcome_status : RunOutcome → Status
outcome_status (Returned value) = Done
outcome_status (Threw class) = Ended
outcome_status Spent = Ended

-- the status of what is wrong with a file: a device that fails is a failure
abbrev pub file_status : LoadFault → Status
file_status Device = Failed
file_status (Read fault) = Refused

-- the status of a refusal: a method that does not start is a failure
abbrev pub refusal_status : Refusal → Status
refusal_status (refusal.File index fault) = file_status fault
refusal_status (refusal.Set fault) = Refused
refusal_status (refusal.Link fault) = Refused
refusal_status (refusal.Check fault) = Refused
refusal_status (refusal.Start fault) = Failed
refusal_status refusal.Memory = Failed
