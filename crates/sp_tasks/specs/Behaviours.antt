-- What a task and its space tell one another, as the rules of spaces have it. (This project's own.)
use Rattle.sp_rules.specs.Behaviours as rules
use Rattle.sp_rules.specs.State as state
use Rattle.sp_rules.specs.Tasks as tasks
use Rattle.sp_tasks.specs.declared.behaviour.Outcome.{Outcome}
use Rattle.sp_tasks.specs.declared.behaviour.Outcome.TheVariants as outcome
use Rattle.sp_tasks.specs.declared.behaviour.Op.{Op}
use Rattle.sp_tasks.specs.declared.behaviour.Op.TheVariants as op
use Rattle.sp_tasks.specs.declared.origin.Origin.{Origin}
use Rattle.sp_tasks.specs.declared.origin.Origin.TheVariants as origin
use Rattle.sp_tasks.specs.declared.behaviour.Reply.{Reply}
use Rattle.sp_tasks.specs.declared.behaviour.Reply.TheVariants as reply
use Rattle.sp_tasks.specs.declared.behaviour.Stand.{Stand}
use Rattle.sp_tasks.specs.declared.behaviour.Stand.TheVariants as stand

abbrev pub origin_of : Origin → state.Origin
origin_of origin.Root = state.OfRoot
origin_of (origin.Call conn number) = state.OfCall conn number

abbrev pub outcome_of : Outcome → rules.Outcome
outcome_of (outcome.Returned value) = rules.Returned value
outcome_of (outcome.Threw class) = rules.Threw class
outcome_of outcome.Spent = rules.Spent

abbrev pub op_of : Op → rules.Op
op_of (op.Create class) = rules.Create class
op_of (op.Get object slot) = rules.Get object slot
op_of (op.Put object slot value) = rules.Put object slot value
op_of (op.Call target method arguments) = rules.Call target method arguments

abbrev pub reply_of : Reply → rules.Reply
reply_of (reply.Gives value) = rules.Gives value
reply_of (reply.GivesBack value fuel) = rules.GivesBack value fuel
reply_of (reply.Throws class) = rules.Throws class
reply_of reply.RunsOut = rules.RunsOut

abbrev pub stand_of : Stand → tasks.Stand
stand_of stand.Runs = tasks.Runs
stand_of (stand.AsksFor op) = tasks.AsksFor (op_of op)
stand_of (stand.HasEnded outcome) = tasks.HasEnded (outcome_of outcome)
