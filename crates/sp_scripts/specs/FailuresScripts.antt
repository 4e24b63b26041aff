-- Lost frames, failed reads and writes, refused dials: scripts of spaces, each with what it shows and how its roots and lookups end.
-- (This project's own worked examples: docs/SCRIPTS.md.)
use Rattle.std.specs.Prelude.{◌≡◌, List, [], ◌∷◌, None, Some, pos}
use Rattle.space_ids.specs.declared.value.Value.TheVariants as values
use Rattle.sp_rules.specs.Behaviours.{Returned, Threw}
use Rattle.sp_scripts.specs.Names.{class_of, connect_exception, counter_bump, counter_class, counter_make, deep_make, deep_run, factory_class, factory_create, factory_make, marshal_exception, unmarshal_exception, user_make, user_pass}
use Rattle.sp_scripts.specs.Scripts.{Line, RootLine, AckLine, BindLine, LookupLine, OpenLine, RefuseLine, DeliverLine, ReplyLine, ReadFailLine, WriteFailLine, MomentLine, SweepLine, StepLine, ShowLine, SettleLine, Variable, Literal, seen, reference}

-- ---- ack lost

abbrev pub lines_of_ack_lost : List Line
lines_of_ack_lost =
    RootLine 0 0 100 factory_create []
    ∷ SettleLine
    ∷ BindLine 0 (110 ∷ []) 0
    ∷ AckLine 0 0
    ∷ LookupLine 1 0 (110 ∷ []) 1
    ∷ SettleLine
    ∷ RootLine 1 2 100 factory_make (Variable 1 ∷ [])
    ∷ StepLine 1
    ∷ StepLine 1
    ∷ DeliverLine 1 0
    ∷ StepLine 0
    ∷ StepLine 0
    ∷ StepLine 0
    ∷ StepLine 0
    ∷ StepLine 0
    ∷ StepLine 0
    ∷ StepLine 0
    ∷ StepLine 0
    ∷ StepLine 0
    ∷ StepLine 0
    ∷ ReplyLine 1 0
    ∷ DeliverLine 1 0
    ∷ ReplyLine 1 0
    ∷ WriteFailLine 1 0 1
    ∷ SettleLine
    ∷ ShowLine 0
    ∷ AckLine 1 2
    ∷ SettleLine
    ∷ SweepLine 0
    ∷ ShowLine 0
    ∷ MomentLine 0 599999
    ∷ SweepLine 0
    ∷ ShowLine 0
    ∷ MomentLine 0 600000
    ∷ SweepLine 0
    ∷ ShowLine 0
    ∷ []

abbrev pub AckLost : Type 0
AckLost = seen 2 lines_of_ack_lost ≡ (
  None,
  record { space = 0; id = 1; class = factory_class; names = 1; entries = 1 } ∷ record { space = 0; id = 2; class = counter_class; names = 0; entries = 1 } ∷ record { space = 0; id = 1; class = factory_class; names = 1; entries = 1 } ∷ record { space = 0; id = 2; class = counter_class; names = 0; entries = 0 } ∷ record { space = 0; id = 1; class = factory_class; names = 1; entries = 1 } ∷ record { space = 0; id = 2; class = counter_class; names = 0; entries = 0 } ∷ record { space = 0; id = 1; class = factory_class; names = 1; entries = 0 } ∷ [],
  Some (reference 1 1) ∷ Some (reference 1 1) ∷ Some (reference 1 2) ∷ [],
)

-- ---- call lost

abbrev pub lines_of_call_lost : List Line
lines_of_call_lost =
    RootLine 0 0 100 counter_make []
    ∷ SettleLine
    ∷ BindLine 0 (110 ∷ []) 0
    ∷ AckLine 0 0
    ∷ LookupLine 1 0 (110 ∷ []) 1
    ∷ SettleLine
    ∷ RootLine 1 2 100 counter_bump (Variable 1 ∷ [])
    ∷ StepLine 1
    ∷ StepLine 1
    ∷ WriteFailLine 1 0 1
    ∷ RootLine 1 3 100 counter_bump (Variable 1 ∷ [])
    ∷ SettleLine
    ∷ ShowLine 0
    ∷ []

abbrev pub CallLost : Type 0
CallLost = seen 2 lines_of_call_lost ≡ (
  None,
  record { space = 0; id = 1; class = counter_class; names = 1; entries = 1 } ∷ [],
  Some (reference 1 1) ∷ Some (reference 1 1) ∷ Some (Threw (class_of marshal_exception)) ∷ Some (Returned (Some (values.Int (pos 1)))) ∷ [],
)

-- ---- call read fails

abbrev pub lines_of_call_read_fails : List Line
lines_of_call_read_fails =
    RootLine 0 0 100 counter_make []
    ∷ SettleLine
    ∷ BindLine 0 (110 ∷ []) 0
    ∷ AckLine 0 0
    ∷ LookupLine 1 0 (110 ∷ []) 1
    ∷ SettleLine
    ∷ RootLine 1 2 100 counter_bump (Variable 1 ∷ [])
    ∷ StepLine 1
    ∷ StepLine 1
    ∷ ReadFailLine 1 0
    ∷ SettleLine
    ∷ RootLine 1 3 100 counter_bump (Variable 1 ∷ [])
    ∷ SettleLine
    ∷ ShowLine 0
    ∷ []

abbrev pub CallReadFails : Type 0
CallReadFails = seen 2 lines_of_call_read_fails ≡ (
  None,
  record { space = 0; id = 1; class = counter_class; names = 1; entries = 1 } ∷ [],
  Some (reference 1 1) ∷ Some (reference 1 1) ∷ Some (Threw (class_of unmarshal_exception)) ∷ Some (Returned (Some (values.Int (pos 2)))) ∷ [],
)

-- ---- call written then fails

abbrev pub lines_of_call_written_then_fails : List Line
lines_of_call_written_then_fails =
    RootLine 0 0 100 counter_make []
    ∷ SettleLine
    ∷ BindLine 0 (110 ∷ []) 0
    ∷ AckLine 0 0
    ∷ LookupLine 1 0 (110 ∷ []) 1
    ∷ SettleLine
    ∷ RootLine 1 2 100 counter_bump (Variable 1 ∷ [])
    ∷ StepLine 1
    ∷ StepLine 1
    ∷ WriteFailLine 1 0 0
    ∷ SettleLine
    ∷ RootLine 1 3 100 counter_bump (Variable 1 ∷ [])
    ∷ SettleLine
    ∷ ShowLine 0
    ∷ []

abbrev pub CallWrittenThenFails : Type 0
CallWrittenThenFails = seen 2 lines_of_call_written_then_fails ≡ (
  None,
  record { space = 0; id = 1; class = counter_class; names = 1; entries = 1 } ∷ [],
  Some (reference 1 1) ∷ Some (reference 1 1) ∷ Some (Threw (class_of unmarshal_exception)) ∷ Some (Returned (Some (values.Int (pos 2)))) ∷ [],
)

-- ---- hello read fails

abbrev pub lines_of_hello_read_fails : List Line
lines_of_hello_read_fails =
    LookupLine 1 0 (110 ∷ []) 0
    ∷ OpenLine 1 0
    ∷ ReadFailLine 1 0
    ∷ SettleLine
    ∷ []

abbrev pub HelloReadFails : Type 0
HelloReadFails = seen 2 lines_of_hello_read_fails ≡ (
  None,
  [],
  Some (Threw (class_of unmarshal_exception)) ∷ [],
)

-- ---- no retry

abbrev pub lines_of_no_retry : List Line
lines_of_no_retry =
    RootLine 0 0 100 counter_make []
    ∷ SettleLine
    ∷ BindLine 0 (110 ∷ []) 0
    ∷ AckLine 0 0
    ∷ LookupLine 1 0 (110 ∷ []) 1
    ∷ SettleLine
    ∷ RootLine 1 2 100 counter_bump (Variable 1 ∷ [])
    ∷ StepLine 1
    ∷ StepLine 1
    ∷ WriteFailLine 1 0 1
    ∷ SettleLine
    ∷ MomentLine 1 1
    ∷ SettleLine
    ∷ RootLine 1 3 100 counter_bump (Variable 1 ∷ [])
    ∷ SettleLine
    ∷ ShowLine 0
    ∷ []

abbrev pub NoRetry : Type 0
NoRetry = seen 2 lines_of_no_retry ≡ (
  None,
  record { space = 0; id = 1; class = counter_class; names = 1; entries = 1 } ∷ [],
  Some (reference 1 1) ∷ Some (reference 1 1) ∷ Some (Threw (class_of marshal_exception)) ∷ Some (Returned (Some (values.Int (pos 1)))) ∷ [],
)

-- ---- recursion fails

abbrev pub lines_of_recursion_fails : List Line
lines_of_recursion_fails =
    RootLine 0 0 100 deep_make []
    ∷ RootLine 1 1 100 deep_make []
    ∷ SettleLine
    ∷ BindLine 0 (97 ∷ []) 0
    ∷ BindLine 1 (98 ∷ []) 1
    ∷ LookupLine 0 1 (98 ∷ []) 2
    ∷ SettleLine
    ∷ RootLine 0 3 1000 deep_run (Variable 2 ∷ Literal (values.Int (pos 6)) ∷ Variable 0 ∷ [])
    ∷ StepLine 0
    ∷ StepLine 0
    ∷ StepLine 0
    ∷ StepLine 0
    ∷ DeliverLine 0 1
    ∷ OpenLine 1 0
    ∷ DeliverLine 1 0
    ∷ ReplyLine 1 0
    ∷ DeliverLine 1 0
    ∷ ReplyLine 1 0
    ∷ ReadFailLine 0 1
    ∷ SettleLine
    ∷ RootLine 0 4 1000 deep_run (Variable 2 ∷ Literal (values.Int (pos 6)) ∷ Variable 0 ∷ [])
    ∷ SettleLine
    ∷ []

abbrev pub RecursionFails : Type 0
RecursionFails = seen 2 lines_of_recursion_fails ≡ (
  None,
  [],
  Some (reference 1 1) ∷ Some (reference 2 1) ∷ Some (reference 2 1) ∷ Some (Threw (class_of unmarshal_exception)) ∷ Some (Returned (Some (values.Int (pos 6)))) ∷ [],
)

-- ---- refused then open

abbrev pub lines_of_refused_then_open : List Line
lines_of_refused_then_open =
    RootLine 0 0 100 counter_make []
    ∷ SettleLine
    ∷ BindLine 0 (110 ∷ []) 0
    ∷ LookupLine 1 0 (110 ∷ []) 1
    ∷ RefuseLine 1 0
    ∷ LookupLine 1 0 (110 ∷ []) 2
    ∷ SettleLine
    ∷ []

abbrev pub RefusedThenOpen : Type 0
RefusedThenOpen = seen 2 lines_of_refused_then_open ≡ (
  None,
  [],
  Some (reference 1 1) ∷ Some (Threw (class_of connect_exception)) ∷ Some (reference 1 1) ∷ [],
)

-- ---- reply queued read fails

abbrev pub lines_of_reply_queued_read_fails : List Line
lines_of_reply_queued_read_fails =
    RootLine 0 0 100 counter_make []
    ∷ SettleLine
    ∷ BindLine 0 (110 ∷ []) 0
    ∷ AckLine 0 0
    ∷ LookupLine 1 0 (110 ∷ []) 1
    ∷ SettleLine
    ∷ RootLine 1 2 100 counter_bump (Variable 1 ∷ [])
    ∷ StepLine 1
    ∷ StepLine 1
    ∷ DeliverLine 1 0
    ∷ StepLine 0
    ∷ StepLine 0
    ∷ StepLine 0
    ∷ StepLine 0
    ∷ StepLine 0
    ∷ StepLine 0
    ∷ StepLine 0
    ∷ StepLine 0
    ∷ ReadFailLine 1 0
    ∷ SettleLine
    ∷ RootLine 1 3 100 counter_bump (Variable 1 ∷ [])
    ∷ SettleLine
    ∷ ShowLine 0
    ∷ []

abbrev pub ReplyQueuedReadFails : Type 0
ReplyQueuedReadFails = seen 2 lines_of_reply_queued_read_fails ≡ (
  None,
  record { space = 0; id = 1; class = counter_class; names = 1; entries = 1 } ∷ [],
  Some (reference 1 1) ∷ Some (reference 1 1) ∷ Some (Threw (class_of unmarshal_exception)) ∷ Some (Returned (Some (values.Int (pos 2)))) ∷ [],
)

-- ---- returned lost holds

abbrev pub lines_of_returned_lost_holds : List Line
lines_of_returned_lost_holds =
    RootLine 0 0 100 factory_create []
    ∷ SettleLine
    ∷ BindLine 0 (110 ∷ []) 0
    ∷ AckLine 0 0
    ∷ LookupLine 1 0 (110 ∷ []) 1
    ∷ SettleLine
    ∷ MomentLine 0 7
    ∷ RootLine 1 2 100 factory_make (Variable 1 ∷ [])
    ∷ StepLine 1
    ∷ StepLine 1
    ∷ DeliverLine 1 0
    ∷ StepLine 0
    ∷ StepLine 0
    ∷ StepLine 0
    ∷ StepLine 0
    ∷ StepLine 0
    ∷ StepLine 0
    ∷ StepLine 0
    ∷ StepLine 0
    ∷ StepLine 0
    ∷ StepLine 0
    ∷ ReadFailLine 1 0
    ∷ SettleLine
    ∷ SweepLine 0
    ∷ ShowLine 0
    ∷ MomentLine 0 600006
    ∷ SweepLine 0
    ∷ ShowLine 0
    ∷ MomentLine 0 600007
    ∷ SweepLine 0
    ∷ ShowLine 0
    ∷ []

abbrev pub ReturnedLostHolds : Type 0
ReturnedLostHolds = seen 2 lines_of_returned_lost_holds ≡ (
  None,
  record { space = 0; id = 1; class = factory_class; names = 1; entries = 1 } ∷ record { space = 0; id = 2; class = counter_class; names = 0; entries = 0 } ∷ record { space = 0; id = 1; class = factory_class; names = 1; entries = 0 } ∷ record { space = 0; id = 2; class = counter_class; names = 0; entries = 0 } ∷ record { space = 0; id = 1; class = factory_class; names = 1; entries = 0 } ∷ [],
  Some (reference 1 1) ∷ Some (reference 1 1) ∷ Some (Threw (class_of unmarshal_exception)) ∷ [],
)

-- ---- task drops result

abbrev pub lines_of_task_drops_result : List Line
lines_of_task_drops_result =
    RootLine 0 0 100 factory_create []
    ∷ SettleLine
    ∷ BindLine 0 (110 ∷ []) 0
    ∷ AckLine 0 0
    ∷ LookupLine 1 0 (110 ∷ []) 1
    ∷ SettleLine
    ∷ RootLine 1 2 100 factory_make (Variable 1 ∷ [])
    ∷ StepLine 1
    ∷ StepLine 1
    ∷ DeliverLine 1 0
    ∷ ReadFailLine 1 0
    ∷ SettleLine
    ∷ SweepLine 0
    ∷ ShowLine 0
    ∷ []

abbrev pub TaskDropsResult : Type 0
TaskDropsResult = seen 2 lines_of_task_drops_result ≡ (
  None,
  record { space = 0; id = 1; class = factory_class; names = 1; entries = 1 } ∷ [],
  Some (reference 1 1) ∷ Some (reference 1 1) ∷ Some (Threw (class_of unmarshal_exception)) ∷ [],
)

-- ---- parked call dropped

abbrev pub lines_of_parked_call_dropped : List Line
lines_of_parked_call_dropped =
    RootLine 0 0 100 counter_make []
    ∷ RootLine 1 1 100 user_make []
    ∷ SettleLine
    ∷ BindLine 0 (99 ∷ []) 0
    ∷ BindLine 1 (117 ∷ []) 1
    ∷ AckLine 0 0
    ∷ AckLine 1 1
    ∷ LookupLine 2 0 (99 ∷ []) 2
    ∷ LookupLine 2 1 (117 ∷ []) 3
    ∷ SettleLine
    ∷ RootLine 2 4 100 user_pass (Variable 3 ∷ Variable 2 ∷ [])
    ∷ StepLine 2
    ∷ StepLine 2
    ∷ StepLine 2
    ∷ DeliverLine 2 1
    ∷ ReadFailLine 2 1
    ∷ DeliverLine 2 1
    ∷ SettleLine
    ∷ ShowLine 0
    ∷ RootLine 2 5 100 user_pass (Variable 3 ∷ Variable 2 ∷ [])
    ∷ SettleLine
    ∷ []

abbrev pub ParkedCallDropped : Type 0
ParkedCallDropped = seen 3 lines_of_parked_call_dropped ≡ (
  None,
  record { space = 0; id = 1; class = counter_class; names = 1; entries = 1 } ∷ [],
  Some (reference 1 1) ∷ Some (reference 2 1) ∷ Some (reference 1 1) ∷ Some (reference 2 1) ∷ Some (Threw (class_of unmarshal_exception)) ∷ Some (Returned (Some (values.Int (pos 1)))) ∷ [],
)
