-- Dirty and clean calls, leases and their ends: scripts of spaces, each with what it shows and how its roots and lookups end.
-- (This project's own worked examples: docs/SCRIPTS.md.)
use Rattle.std.specs.Prelude.{◌≡◌, List, [], ◌∷◌, None, Some, pos}
use Rattle.space_ids.specs.declared.value.Value.TheVariants as values
use Rattle.sp_rules.specs.Behaviours.{Returned, Threw}
use Rattle.sp_scripts.specs.Names.{box_bump, box_class, box_fetch, class_of, counter_bump, counter_class, counter_make, factory_churn, factory_class, factory_create, factory_make_cell, link_keep, link_make, no_such_object_exception, p_class, p_join, p_make, unmarshal_exception, user_class, user_make, user_pass}
use Rattle.sp_scripts.specs.Scripts.{Line, RootLine, AckLine, BindLine, UnbindLine, LookupLine, OpenLine, RefuseLine, DeliverLine, ReplyLine, ReadFailLine, WriteFailLine, MomentLine, SweepLine, StepLine, ShowLine, SettleLine, Variable, Literal, seen, reference}

-- ---- withdrawn object

abbrev pub lines_of_withdrawn_object : List Line
lines_of_withdrawn_object =
    RootLine 0 0 8 counter_make []
    ∷ SettleLine
    ∷ BindLine 0 (99 ∷ 111 ∷ 117 ∷ 110 ∷ 116 ∷ 101 ∷ 114 ∷ []) 0
    ∷ AckLine 0 0
    ∷ LookupLine 1 0 (99 ∷ 111 ∷ 117 ∷ 110 ∷ 116 ∷ 101 ∷ 114 ∷ []) 1
    ∷ SettleLine
    ∷ UnbindLine 0 (99 ∷ 111 ∷ 117 ∷ 110 ∷ 116 ∷ 101 ∷ 114 ∷ [])
    ∷ SweepLine 0
    ∷ ShowLine 0
    ∷ MomentLine 0 600000
    ∷ SweepLine 0
    ∷ ShowLine 0
    ∷ RootLine 1 2 11 counter_bump (Variable 1 ∷ [])
    ∷ SettleLine
    ∷ []

abbrev pub WithdrawnObject : Type 0
WithdrawnObject = seen 2 lines_of_withdrawn_object ≡ (
  None,
  record { space = 0; id = 1; class = counter_class; names = 0; entries = 1 } ∷ [],
  Some (reference 1 1) ∷ Some (reference 1 1) ∷ Some (Threw (class_of no_such_object_exception)) ∷ [],
)

-- ---- clean not repeated with holder

abbrev pub lines_of_clean_not_repeated_with_holder : List Line
lines_of_clean_not_repeated_with_holder =
    RootLine 0 0 100 counter_make []
    ∷ SettleLine
    ∷ BindLine 0 (110 ∷ []) 0
    ∷ AckLine 0 0
    ∷ LookupLine 1 0 (110 ∷ []) 1
    ∷ SettleLine
    ∷ AckLine 1 1
    ∷ WriteFailLine 1 0 1
    ∷ LookupLine 1 0 (110 ∷ []) 2
    ∷ SettleLine
    ∷ MomentLine 1 5
    ∷ SettleLine
    ∷ ShowLine 0
    ∷ []

abbrev pub CleanNotRepeatedWithHolder : Type 0
CleanNotRepeatedWithHolder = seen 2 lines_of_clean_not_repeated_with_holder ≡ (
  None,
  record { space = 0; id = 1; class = counter_class; names = 1; entries = 1 } ∷ [],
  Some (reference 1 1) ∷ Some (reference 1 1) ∷ Some (reference 1 1) ∷ [],
)

-- ---- clean repeated until not yet

abbrev pub lines_of_clean_repeated_until_not_yet : List Line
lines_of_clean_repeated_until_not_yet =
    RootLine 0 0 100 counter_make []
    ∷ SettleLine
    ∷ BindLine 0 (110 ∷ []) 0
    ∷ AckLine 0 0
    ∷ LookupLine 1 0 (110 ∷ []) 1
    ∷ SettleLine
    ∷ AckLine 1 1
    ∷ WriteFailLine 1 0 1
    ∷ SettleLine
    ∷ MomentLine 1 599999
    ∷ RefuseLine 1 0
    ∷ MomentLine 1 600000
    ∷ SettleLine
    ∷ ShowLine 0
    ∷ []

abbrev pub CleanRepeatedUntilNotYet : Type 0
CleanRepeatedUntilNotYet = seen 2 lines_of_clean_repeated_until_not_yet ≡ (
  None,
  record { space = 0; id = 1; class = counter_class; names = 1; entries = 1 } ∷ [],
  Some (reference 1 1) ∷ Some (reference 1 1) ∷ [],
)

-- ---- last holder of two

abbrev pub lines_of_last_holder_of_two : List Line
lines_of_last_holder_of_two =
    RootLine 0 0 100 counter_make []
    ∷ SettleLine
    ∷ BindLine 0 (110 ∷ []) 0
    ∷ AckLine 0 0
    ∷ LookupLine 1 0 (110 ∷ []) 1
    ∷ SettleLine
    ∷ LookupLine 1 0 (110 ∷ []) 2
    ∷ SettleLine
    ∷ AckLine 1 1
    ∷ SettleLine
    ∷ ShowLine 0
    ∷ AckLine 1 2
    ∷ SettleLine
    ∷ ShowLine 0
    ∷ []

abbrev pub LastHolderOfTwo : Type 0
LastHolderOfTwo = seen 2 lines_of_last_holder_of_two ≡ (
  None,
  record { space = 0; id = 1; class = counter_class; names = 1; entries = 1 } ∷ record { space = 0; id = 1; class = counter_class; names = 1; entries = 0 } ∷ [],
  Some (reference 1 1) ∷ Some (reference 1 1) ∷ Some (reference 1 1) ∷ [],
)

-- ---- late dirty after strong clean

abbrev pub lines_of_late_dirty_after_strong_clean : List Line
lines_of_late_dirty_after_strong_clean =
    RootLine 0 0 100 counter_make []
    ∷ SettleLine
    ∷ BindLine 0 (110 ∷ []) 0
    ∷ AckLine 0 0
    ∷ LookupLine 1 0 (110 ∷ []) 1
    ∷ OpenLine 1 0
    ∷ DeliverLine 1 0
    ∷ ReplyLine 1 0
    ∷ DeliverLine 1 0
    ∷ ReplyLine 1 0
    ∷ ReadFailLine 1 0
    ∷ MomentLine 1 1
    ∷ OpenLine 1 0
    ∷ DeliverLine 1 0
    ∷ ReplyLine 1 0
    ∷ DeliverLine 1 0
    ∷ SettleLine
    ∷ ShowLine 0
    ∷ []

abbrev pub LateDirtyAfterStrongClean : Type 0
LateDirtyAfterStrongClean = seen 2 lines_of_late_dirty_after_strong_clean ≡ (
  None,
  record { space = 0; id = 1; class = counter_class; names = 1; entries = 0 } ∷ [],
  Some (reference 1 1) ∷ Some (Threw (class_of unmarshal_exception)) ∷ [],
)

-- ---- lookup needs ack of lease

abbrev pub lines_of_lookup_needs_ack_of_lease : List Line
lines_of_lookup_needs_ack_of_lease =
    RootLine 0 0 100 counter_make []
    ∷ SettleLine
    ∷ BindLine 0 (110 ∷ []) 0
    ∷ LookupLine 1 0 (110 ∷ []) 1
    ∷ OpenLine 1 0
    ∷ DeliverLine 1 0
    ∷ ReplyLine 1 0
    ∷ DeliverLine 1 0
    ∷ ReplyLine 1 0
    ∷ ShowLine 0
    ∷ DeliverLine 1 0
    ∷ ShowLine 0
    ∷ LookupLine 1 0 (110 ∷ []) 2
    ∷ ReplyLine 1 0
    ∷ BindLine 1 (120 ∷ []) 1
    ∷ RootLine 1 3 100 counter_bump (Variable 1 ∷ [])
    ∷ SettleLine
    ∷ []

abbrev pub LookupNeedsAckOfLease : Type 0
LookupNeedsAckOfLease = seen 2 lines_of_lookup_needs_ack_of_lease ≡ (
  None,
  record { space = 0; id = 1; class = counter_class; names = 1; entries = 0 } ∷ record { space = 0; id = 1; class = counter_class; names = 1; entries = 1 } ∷ [],
  Some (reference 1 1) ∷ Some (reference 1 1) ∷ Some (reference 1 1) ∷ Some (Returned (Some (values.Int (pos 1)))) ∷ [],
)

-- ---- moment below

abbrev pub lines_of_moment_below : List Line
lines_of_moment_below =
    RootLine 0 0 100 counter_make []
    ∷ SettleLine
    ∷ BindLine 0 (110 ∷ []) 0
    ∷ AckLine 0 0
    ∷ LookupLine 1 0 (110 ∷ []) 1
    ∷ SettleLine
    ∷ ReadFailLine 1 0
    ∷ SettleLine
    ∷ MomentLine 0 100000
    ∷ MomentLine 1 300000
    ∷ RefuseLine 1 0
    ∷ MomentLine 1 299999
    ∷ SettleLine
    ∷ MomentLine 0 600000
    ∷ ShowLine 0
    ∷ []

abbrev pub MomentBelow : Type 0
MomentBelow = seen 2 lines_of_moment_below ≡ (
  None,
  record { space = 0; id = 1; class = counter_class; names = 1; entries = 0 } ∷ [],
  Some (reference 1 1) ∷ Some (reference 1 1) ∷ [],
)

-- ---- renewal failed again

abbrev pub lines_of_renewal_failed_again : List Line
lines_of_renewal_failed_again =
    RootLine 0 0 100 counter_make []
    ∷ SettleLine
    ∷ BindLine 0 (110 ∷ []) 0
    ∷ AckLine 0 0
    ∷ LookupLine 1 0 (110 ∷ []) 1
    ∷ SettleLine
    ∷ ReadFailLine 1 0
    ∷ SettleLine
    ∷ MomentLine 0 100000
    ∷ MomentLine 1 300000
    ∷ RefuseLine 1 0
    ∷ SettleLine
    ∷ MomentLine 1 300001
    ∷ SettleLine
    ∷ MomentLine 0 699999
    ∷ ShowLine 0
    ∷ MomentLine 0 700000
    ∷ ShowLine 0
    ∷ []

abbrev pub RenewalFailedAgain : Type 0
RenewalFailedAgain = seen 2 lines_of_renewal_failed_again ≡ (
  None,
  record { space = 0; id = 1; class = counter_class; names = 1; entries = 1 } ∷ record { space = 0; id = 1; class = counter_class; names = 1; entries = 0 } ∷ [],
  Some (reference 1 1) ∷ Some (reference 1 1) ∷ [],
)

-- ---- weak clean forgets

abbrev pub lines_of_weak_clean_forgets : List Line
lines_of_weak_clean_forgets =
    RootLine 0 0 100 counter_make []
    ∷ SettleLine
    ∷ BindLine 0 (110 ∷ []) 0
    ∷ AckLine 0 0
    ∷ LookupLine 1 0 (110 ∷ []) 1
    ∷ OpenLine 1 0
    ∷ DeliverLine 1 0
    ∷ ReplyLine 1 0
    ∷ DeliverLine 1 0
    ∷ ReplyLine 1 0
    ∷ ReadFailLine 1 0
    ∷ LookupLine 1 0 (110 ∷ []) 2
    ∷ OpenLine 1 0
    ∷ DeliverLine 1 0
    ∷ ReplyLine 1 0
    ∷ DeliverLine 1 0
    ∷ ReplyLine 1 0
    ∷ MomentLine 1 1
    ∷ DeliverLine 1 0
    ∷ ReplyLine 1 0
    ∷ AckLine 1 2
    ∷ DeliverLine 1 0
    ∷ DeliverLine 1 0
    ∷ ShowLine 0
    ∷ SettleLine
    ∷ ShowLine 0
    ∷ []

abbrev pub WeakCleanForgets : Type 0
WeakCleanForgets = seen 2 lines_of_weak_clean_forgets ≡ (
  None,
  record { space = 0; id = 1; class = counter_class; names = 1; entries = 0 } ∷ record { space = 0; id = 1; class = counter_class; names = 1; entries = 1 } ∷ [],
  Some (reference 1 1) ∷ Some (Threw (class_of unmarshal_exception)) ∷ Some (reference 1 1) ∷ [],
)

-- ---- overtaken lease

abbrev pub lines_of_overtaken_lease : List Line
lines_of_overtaken_lease =
    RootLine 0 0 100 counter_make []
    ∷ RootLine 1 1 100 user_make []
    ∷ SettleLine
    ∷ BindLine 0 (99 ∷ []) 0
    ∷ BindLine 1 (117 ∷ []) 1
    ∷ AckLine 0 0
    ∷ AckLine 1 1
    ∷ LookupLine 2 0 (99 ∷ []) 2
    ∷ LookupLine 2 1 (117 ∷ []) 3
    ∷ SettleLine
    ∷ RootLine 2 4 100 user_pass (Variable 3 ∷ Variable 2 ∷ [])
    ∷ StepLine 2
    ∷ StepLine 2
    ∷ StepLine 2
    ∷ DeliverLine 2 1
    ∷ OpenLine 1 0
    ∷ DeliverLine 1 0
    ∷ ReplyLine 1 0
    ∷ ReadFailLine 2 1
    ∷ DeliverLine 2 1
    ∷ RootLine 2 5 100 user_pass (Variable 3 ∷ Variable 2 ∷ [])
    ∷ StepLine 2
    ∷ StepLine 2
    ∷ StepLine 2
    ∷ StepLine 2
    ∷ OpenLine 2 1
    ∷ DeliverLine 2 1
    ∷ ReplyLine 2 1
    ∷ DeliverLine 2 1
    ∷ DeliverLine 1 0
    ∷ ReplyLine 1 0
    ∷ StepLine 1
    ∷ StepLine 1
    ∷ StepLine 1
    ∷ WriteFailLine 1 0 1
    ∷ SettleLine
    ∷ ShowLine 0
    ∷ []

abbrev pub OvertakenLease : Type 0
OvertakenLease = seen 3 lines_of_overtaken_lease ≡ (
  None,
  record { space = 0; id = 1; class = counter_class; names = 1; entries = 1 } ∷ [],
  Some (reference 1 1) ∷ Some (reference 2 1) ∷ Some (reference 1 1) ∷ Some (reference 2 1) ∷ Some (Threw (class_of unmarshal_exception)) ∷ Some (Threw (class_of unmarshal_exception)) ∷ [],
)

-- ---- lease of an overtaken dirty

abbrev pub lines_of_lease_of_an_overtaken_dirty : List Line
lines_of_lease_of_an_overtaken_dirty =
    RootLine 0 0 8 counter_make []
    ∷ SettleLine
    ∷ BindLine 0 (99 ∷ []) 0
    ∷ AckLine 0 0
    ∷ LookupLine 1 0 (99 ∷ []) 1
    ∷ SettleLine
    ∷ MomentLine 1 300000
    ∷ AckLine 1 1
    ∷ LookupLine 1 0 (99 ∷ []) 2
    ∷ SettleLine
    ∷ ShowLine 0
    ∷ UnbindLine 0 (99 ∷ [])
    ∷ SweepLine 0
    ∷ ShowLine 0
    ∷ RootLine 1 3 20 counter_bump (Variable 2 ∷ [])
    ∷ SettleLine
    ∷ []

abbrev pub LeaseOfAnOvertakenDirty : Type 0
LeaseOfAnOvertakenDirty = seen 2 lines_of_lease_of_an_overtaken_dirty ≡ (
  None,
  record { space = 0; id = 1; class = counter_class; names = 1; entries = 1 } ∷ record { space = 0; id = 1; class = counter_class; names = 0; entries = 1 } ∷ [],
  Some (reference 1 1) ∷ Some (reference 1 1) ∷ Some (reference 1 1) ∷ Some (Returned (Some (values.Int (pos 1)))) ∷ [],
)

-- ---- parked call is a reason

abbrev pub lines_of_parked_call_is_a_reason : List Line
lines_of_parked_call_is_a_reason =
    RootLine 0 0 8 counter_make []
    ∷ RootLine 1 1 8 user_make []
    ∷ SettleLine
    ∷ BindLine 0 (99 ∷ []) 0
    ∷ BindLine 1 (117 ∷ []) 1
    ∷ AckLine 0 0
    ∷ AckLine 1 1
    ∷ LookupLine 2 0 (99 ∷ []) 2
    ∷ LookupLine 2 1 (117 ∷ []) 3
    ∷ SettleLine
    ∷ RootLine 2 4 15 user_pass (Variable 3 ∷ Variable 2 ∷ [])
    ∷ StepLine 2
    ∷ StepLine 2
    ∷ StepLine 2
    ∷ DeliverLine 2 1
    ∷ UnbindLine 1 (117 ∷ [])
    ∷ MomentLine 1 600000
    ∷ ShowLine 1
    ∷ SweepLine 1
    ∷ ShowLine 1
    ∷ SettleLine
    ∷ ShowLine 1
    ∷ []

abbrev pub ParkedCallIsAReason : Type 0
ParkedCallIsAReason = seen 3 lines_of_parked_call_is_a_reason ≡ (
  None,
  record { space = 1; id = 1; class = user_class; names = 0; entries = 0 } ∷ record { space = 1; id = 1; class = user_class; names = 0; entries = 0 } ∷ record { space = 1; id = 1; class = user_class; names = 0; entries = 0 } ∷ [],
  Some (reference 1 1) ∷ Some (reference 2 1) ∷ Some (reference 1 1) ∷ Some (reference 2 1) ∷ Some (Returned (Some (values.Int (pos 1)))) ∷ [],
)

-- ---- kept far

abbrev pub lines_of_kept_far : List Line
lines_of_kept_far =
    RootLine 1 0 100 link_make []
    ∷ RootLine 0 1 100 counter_make []
    ∷ SettleLine
    ∷ BindLine 1 (107 ∷ []) 0
    ∷ LookupLine 0 1 (107 ∷ []) 2
    ∷ SettleLine
    ∷ RootLine 0 3 100 link_keep (Variable 2 ∷ Variable 1 ∷ [])
    ∷ SettleLine
    ∷ AckLine 0 1
    ∷ SweepLine 0
    ∷ ShowLine 0
    ∷ RootLine 0 4 100 counter_make []
    ∷ SettleLine
    ∷ RootLine 0 5 100 link_keep (Variable 2 ∷ Variable 4 ∷ [])
    ∷ SettleLine
    ∷ SweepLine 0
    ∷ ShowLine 0
    ∷ []

abbrev pub KeptFar : Type 0
KeptFar = seen 2 lines_of_kept_far ≡ (
  None,
  record { space = 0; id = 1; class = counter_class; names = 0; entries = 1 } ∷ record { space = 0; id = 2; class = counter_class; names = 0; entries = 1 } ∷ [],
  Some (reference 2 1) ∷ Some (reference 1 1) ∷ Some (reference 2 1) ∷ Some (Returned (Some (values.Int (pos 1)))) ∷ Some (reference 1 2) ∷ Some (Returned (Some (values.Int (pos 1)))) ∷ [],
)

-- ---- churn cleans

abbrev pub lines_of_churn_cleans : List Line
lines_of_churn_cleans =
    RootLine 0 0 100 factory_create []
    ∷ SettleLine
    ∷ BindLine 0 (110 ∷ []) 0
    ∷ AckLine 0 0
    ∷ LookupLine 1 0 (110 ∷ []) 1
    ∷ SettleLine
    ∷ RootLine 1 2 9000 factory_churn (Variable 1 ∷ Literal (values.Int (pos 3)) ∷ [])
    ∷ SettleLine
    ∷ SweepLine 0
    ∷ ShowLine 0
    ∷ []

abbrev pub ChurnCleans : Type 0
ChurnCleans = seen 2 lines_of_churn_cleans ≡ (
  None,
  record { space = 0; id = 1; class = factory_class; names = 1; entries = 1 } ∷ [],
  Some (reference 1 1) ∷ Some (reference 1 1) ∷ Some (Returned (Some (values.Int (pos 0)))) ∷ [],
)

-- ---- cycle stays

abbrev pub lines_of_cycle_stays : List Line
lines_of_cycle_stays =
    RootLine 0 0 100 p_make []
    ∷ RootLine 1 1 100 p_make []
    ∷ SettleLine
    ∷ BindLine 0 (97 ∷ []) 0
    ∷ BindLine 1 (98 ∷ []) 1
    ∷ LookupLine 0 1 (98 ∷ []) 2
    ∷ LookupLine 1 0 (97 ∷ []) 3
    ∷ SettleLine
    ∷ RootLine 0 4 100 p_join (Variable 0 ∷ Variable 2 ∷ [])
    ∷ RootLine 1 5 100 p_join (Variable 1 ∷ Variable 3 ∷ [])
    ∷ SettleLine
    ∷ UnbindLine 0 (97 ∷ [])
    ∷ UnbindLine 1 (98 ∷ [])
    ∷ AckLine 0 0
    ∷ AckLine 1 1
    ∷ AckLine 0 2
    ∷ AckLine 1 3
    ∷ SettleLine
    ∷ SweepLine 0
    ∷ SweepLine 1
    ∷ SettleLine
    ∷ SweepLine 0
    ∷ SweepLine 1
    ∷ ShowLine 0
    ∷ ShowLine 1
    ∷ []

abbrev pub CycleStays : Type 0
CycleStays = seen 2 lines_of_cycle_stays ≡ (
  None,
  record { space = 0; id = 1; class = p_class; names = 0; entries = 1 } ∷ record { space = 1; id = 1; class = p_class; names = 0; entries = 1 } ∷ [],
  Some (reference 1 1) ∷ Some (reference 2 1) ∷ Some (reference 2 1) ∷ Some (reference 1 1) ∷ Some (Returned None) ∷ Some (Returned None) ∷ [],
)

-- ---- cell made afar

abbrev pub lines_of_cell_made_afar : List Line
lines_of_cell_made_afar =
    RootLine 0 0 100 factory_create []
    ∷ RootLine 1 1 100 counter_make []
    ∷ SettleLine
    ∷ BindLine 0 (110 ∷ []) 0
    ∷ LookupLine 1 0 (110 ∷ []) 2
    ∷ SettleLine
    ∷ RootLine 1 3 100 factory_make_cell (Variable 2 ∷ Variable 1 ∷ [])
    ∷ SettleLine
    ∷ ShowLine 1
    ∷ RootLine 1 4 100 box_bump (Variable 3 ∷ [])
    ∷ SettleLine
    ∷ RootLine 1 5 100 box_fetch (Variable 3 ∷ [])
    ∷ SettleLine
    ∷ AckLine 1 3
    ∷ AckLine 1 1
    ∷ SettleLine
    ∷ ShowLine 0
    ∷ SweepLine 1
    ∷ ShowLine 1
    ∷ SweepLine 0
    ∷ SettleLine
    ∷ SweepLine 1
    ∷ ShowLine 1
    ∷ []

abbrev pub CellMadeAfar : Type 0
CellMadeAfar = seen 2 lines_of_cell_made_afar ≡ (
  None,
  record { space = 1; id = 1; class = counter_class; names = 0; entries = 1 } ∷ record { space = 0; id = 1; class = factory_class; names = 1; entries = 1 } ∷ record { space = 0; id = 2; class = box_class; names = 0; entries = 0 } ∷ record { space = 1; id = 1; class = counter_class; names = 0; entries = 1 } ∷ [],
  Some (reference 1 1) ∷ Some (reference 2 1) ∷ Some (reference 1 1) ∷ Some (reference 1 2) ∷ Some (Returned (Some (values.Int (pos 1)))) ∷ Some (Returned (Some (values.Int (pos 2)))) ∷ [],
)
