-- What may be noted before an event ends. (This project's own; dirty and clean calls are the Java RMI specification's, 9.1.)
use Rattle.sp_rules.specs.Events as event
use Rattle.sp_rules.specs.Laws.{AllOf}
use Rattle.sp_rules.specs.State.{State, Request}
use Rattle.sp_transport.specs.Said.{CallsMayGo, GroupsMayGo}

-- All that is noted stands before clean calls, and so before dirty calls.
abbrev pub MayMakeDue : State → Type 0
MayMakeDue s = GroupsMayGo event.Cleans s

-- So does it before the call or lookup of the event, if it made one.
pub record MaySettle (s : State) : Type 0 where
  pub due : MayMakeDue s
  pub fresh : AllOf (λ (r : Request). CallsMayGo event.Calls s) s.fresh
