-- One space, two spaces, and fuel: scripts of spaces, each with what it shows and how its roots and lookups end.
-- (This project's own worked examples: docs/SCRIPTS.md.)
use Rattle.std.specs.Prelude.{◌≡◌, List, [], ◌∷◌, None, Some, pos}
use Rattle.space_ids.specs.declared.value.Value.TheVariants as values
use Rattle.sp_rules.specs.Behaviours.{Returned, Spent}
use Rattle.sp_rules.specs.Worlds.{Step}
use Rattle.sp_scripts.specs.Names.{counter_bump, counter_class, counter_make, deep_make, deep_run, ends_make, ends_spin, p_go, p_join, p_make, user_make, user_pass}
use Rattle.sp_scripts.specs.Scripts.{Line, RootLine, AckLine, BindLine, UnbindLine, LookupLine, ReadFailLine, SweepLine, StepLine, ShowLine, SettleLine, EventLine, Variable, Literal, seen, seen_and_spent, reference}

-- ---- one space

abbrev pub lines_of_one_space : List Line
lines_of_one_space =
    RootLine 0 0 8 counter_make []
    ∷ SettleLine
    ∷ BindLine 0 (99 ∷ 111 ∷ 117 ∷ 110 ∷ 116 ∷ 101 ∷ 114 ∷ []) 0
    ∷ RootLine 0 1 11 counter_bump (Variable 0 ∷ [])
    ∷ RootLine 0 2 10 counter_bump (Variable 0 ∷ [])
    ∷ RootLine 0 3 11 counter_bump (Variable 0 ∷ [])
    ∷ SettleLine
    ∷ UnbindLine 0 (99 ∷ 111 ∷ 117 ∷ 110 ∷ 116 ∷ 101 ∷ 114 ∷ [])
    ∷ SweepLine 0
    ∷ ShowLine 0
    ∷ AckLine 0 0
    ∷ SweepLine 0
    ∷ ShowLine 0
    ∷ []

abbrev pub OneSpace : Type 0
OneSpace = seen 1 lines_of_one_space ≡ (
  None,
  record { space = 0; id = 1; class = counter_class; names = 0; entries = 0 } ∷ [],
  Some (reference 1 1) ∷ Some (Returned (Some (values.Int (pos 1)))) ∷ Some Spent ∷ Some (Returned (Some (values.Int (pos 3)))) ∷ [],
)

-- ---- two spaces

abbrev pub lines_of_two_spaces : List Line
lines_of_two_spaces =
    RootLine 0 0 8 counter_make []
    ∷ SettleLine
    ∷ BindLine 0 (99 ∷ 111 ∷ 117 ∷ 110 ∷ 116 ∷ 101 ∷ 114 ∷ []) 0
    ∷ AckLine 0 0
    ∷ LookupLine 1 0 (99 ∷ 111 ∷ 117 ∷ 110 ∷ 116 ∷ 101 ∷ 114 ∷ []) 1
    ∷ SettleLine
    ∷ RootLine 1 2 11 counter_bump (Variable 1 ∷ [])
    ∷ SettleLine
    ∷ ShowLine 0
    ∷ UnbindLine 0 (99 ∷ 111 ∷ 117 ∷ 110 ∷ 116 ∷ 101 ∷ 114 ∷ [])
    ∷ SweepLine 0
    ∷ ShowLine 0
    ∷ AckLine 1 1
    ∷ SettleLine
    ∷ SweepLine 0
    ∷ ShowLine 0
    ∷ []

abbrev pub TwoSpaces : Type 0
TwoSpaces = seen_and_spent 2 lines_of_two_spaces ≡ (
  (
    None,
    record { space = 0; id = 1; class = counter_class; names = 1; entries = 1 } ∷ record { space = 0; id = 1; class = counter_class; names = 0; entries = 1 } ∷ [],
    Some (reference 1 1) ∷ Some (reference 1 1) ∷ Some (Returned (Some (values.Int (pos 1)))) ∷ [],
  ),
  16 ∷ 3 ∷ [],
  4,
)

-- ---- fuel of five roots

abbrev pub lines_of_fuel_of_five_roots : List Line
lines_of_fuel_of_five_roots =
    RootLine 0 0 8 counter_make []
    ∷ SettleLine
    ∷ BindLine 0 (99 ∷ 111 ∷ 117 ∷ 110 ∷ 116 ∷ 101 ∷ 114 ∷ []) 0
    ∷ AckLine 0 0
    ∷ LookupLine 1 0 (99 ∷ 111 ∷ 117 ∷ 110 ∷ 116 ∷ 101 ∷ 114 ∷ []) 1
    ∷ SettleLine
    ∷ RootLine 1 2 11 counter_bump (Variable 1 ∷ [])
    ∷ SettleLine
    ∷ RootLine 1 3 10 counter_bump (Variable 1 ∷ [])
    ∷ SettleLine
    ∷ RootLine 1 4 9 counter_bump (Variable 1 ∷ [])
    ∷ SettleLine
    ∷ RootLine 1 5 8 counter_bump (Variable 1 ∷ [])
    ∷ SettleLine
    ∷ RootLine 1 6 11 counter_bump (Variable 1 ∷ [])
    ∷ SettleLine
    ∷ []

abbrev pub FuelOfFiveRoots : Type 0
FuelOfFiveRoots = seen 2 lines_of_fuel_of_five_roots ≡ (
  None,
  [],
  Some (reference 1 1) ∷ Some (reference 1 1) ∷ Some (Returned (Some (values.Int (pos 1)))) ∷ Some Spent ∷ Some Spent ∷ Some Spent ∷ Some (Returned (Some (values.Int (pos 4)))) ∷ [],
)

-- ---- two tasks on one counter

abbrev pub lines_of_two_tasks_on_one_counter : List Line
lines_of_two_tasks_on_one_counter =
    RootLine 0 0 8 counter_make []
    ∷ SettleLine
    ∷ BindLine 0 (99 ∷ 111 ∷ 117 ∷ 110 ∷ 116 ∷ 101 ∷ 114 ∷ []) 0
    ∷ RootLine 0 1 11 counter_bump (Variable 0 ∷ [])
    ∷ RootLine 0 2 11 counter_bump (Variable 0 ∷ [])
    ∷ EventLine (Step 0 2)
    ∷ EventLine (Step 0 2)
    ∷ EventLine (Step 0 2)
    ∷ EventLine (Step 0 2)
    ∷ EventLine (Step 0 2)
    ∷ EventLine (Step 0 3)
    ∷ EventLine (Step 0 3)
    ∷ EventLine (Step 0 3)
    ∷ EventLine (Step 0 3)
    ∷ EventLine (Step 0 3)
    ∷ SettleLine
    ∷ RootLine 0 3 11 counter_bump (Variable 0 ∷ [])
    ∷ SettleLine
    ∷ []

abbrev pub TwoTasksOnOneCounter : Type 0
TwoTasksOnOneCounter = seen 1 lines_of_two_tasks_on_one_counter ≡ (
  None,
  [],
  Some (reference 1 1) ∷ Some (Returned (Some (values.Int (pos 1)))) ∷ Some (Returned (Some (values.Int (pos 1)))) ∷ Some (Returned (Some (values.Int (pos 2)))) ∷ [],
)

-- ---- two waiting calls in order

abbrev pub lines_of_two_waiting_calls_in_order : List Line
lines_of_two_waiting_calls_in_order =
    RootLine 0 0 100 counter_make []
    ∷ SettleLine
    ∷ BindLine 0 (110 ∷ []) 0
    ∷ AckLine 0 0
    ∷ LookupLine 1 0 (110 ∷ []) 1
    ∷ SettleLine
    ∷ ReadFailLine 1 0
    ∷ RootLine 1 2 100 counter_bump (Variable 1 ∷ [])
    ∷ RootLine 1 3 100 counter_bump (Variable 1 ∷ [])
    ∷ StepLine 1
    ∷ StepLine 1
    ∷ SettleLine
    ∷ []

abbrev pub TwoWaitingCallsInOrder : Type 0
TwoWaitingCallsInOrder = seen 2 lines_of_two_waiting_calls_in_order ≡ (
  None,
  [],
  Some (reference 1 1) ∷ Some (reference 1 1) ∷ Some (Returned (Some (values.Int (pos 1)))) ∷ Some (Returned (Some (values.Int (pos 2)))) ∷ [],
)

-- ---- recursion at home

abbrev pub lines_of_recursion_at_home : List Line
lines_of_recursion_at_home =
    RootLine 0 0 100 deep_make []
    ∷ RootLine 1 1 100 deep_make []
    ∷ SettleLine
    ∷ BindLine 0 (97 ∷ []) 0
    ∷ BindLine 1 (98 ∷ []) 1
    ∷ LookupLine 0 1 (98 ∷ []) 2
    ∷ SettleLine
    ∷ RootLine 0 3 75 deep_run (Variable 0 ∷ Literal (values.Int (pos 6)) ∷ Variable 0 ∷ [])
    ∷ RootLine 0 4 74 deep_run (Variable 0 ∷ Literal (values.Int (pos 6)) ∷ Variable 0 ∷ [])
    ∷ SettleLine
    ∷ []

abbrev pub RecursionAtHome : Type 0
RecursionAtHome = seen 2 lines_of_recursion_at_home ≡ (
  None,
  [],
  Some (reference 1 1) ∷ Some (reference 2 1) ∷ Some (reference 2 1) ∷ Some (Returned (Some (values.Int (pos 6)))) ∷ Some Spent ∷ [],
)

-- ---- spin

abbrev pub lines_of_spin : List Line
lines_of_spin =
    RootLine 0 0 100 ends_make []
    ∷ SettleLine
    ∷ BindLine 0 (110 ∷ []) 0
    ∷ AckLine 0 0
    ∷ LookupLine 1 0 (110 ∷ []) 1
    ∷ SettleLine
    ∷ RootLine 1 2 500 ends_spin (Variable 1 ∷ [])
    ∷ SettleLine
    ∷ []

abbrev pub Spin : Type 0
Spin = seen 2 lines_of_spin ≡ (
  None,
  [],
  Some (reference 1 1) ∷ Some (reference 1 1) ∷ Some Spent ∷ [],
)

-- ---- zero lent

abbrev pub lines_of_zero_lent : List Line
lines_of_zero_lent =
    RootLine 0 0 100 counter_make []
    ∷ SettleLine
    ∷ BindLine 0 (110 ∷ []) 0
    ∷ AckLine 0 0
    ∷ LookupLine 1 0 (110 ∷ []) 1
    ∷ SettleLine
    ∷ RootLine 1 2 2 counter_bump (Variable 1 ∷ [])
    ∷ RootLine 1 3 0 counter_bump (Variable 1 ∷ [])
    ∷ RootLine 1 4 1 counter_bump (Variable 1 ∷ [])
    ∷ SettleLine
    ∷ RootLine 1 5 11 counter_bump (Variable 1 ∷ [])
    ∷ SettleLine
    ∷ []

abbrev pub ZeroLent : Type 0
ZeroLent = seen 2 lines_of_zero_lent ≡ (
  None,
  [],
  Some (reference 1 1) ∷ Some (reference 1 1) ∷ Some Spent ∷ Some Spent ∷ Some Spent ∷ Some (Returned (Some (values.Int (pos 1)))) ∷ [],
)

-- ---- third space short 1

abbrev pub lines_of_third_space_short_1 : List Line
lines_of_third_space_short_1 =
    RootLine 0 0 100 counter_make []
    ∷ RootLine 1 1 100 user_make []
    ∷ SettleLine
    ∷ BindLine 0 (99 ∷ []) 0
    ∷ BindLine 1 (117 ∷ []) 1
    ∷ AckLine 0 0
    ∷ AckLine 1 1
    ∷ LookupLine 2 0 (99 ∷ []) 2
    ∷ LookupLine 2 1 (117 ∷ []) 3
    ∷ SettleLine
    ∷ RootLine 2 4 14 user_pass (Variable 3 ∷ Variable 2 ∷ [])
    ∷ SettleLine
    ∷ RootLine 2 5 100 user_pass (Variable 3 ∷ Variable 2 ∷ [])
    ∷ SettleLine
    ∷ []

abbrev pub ThirdSpaceShort1 : Type 0
ThirdSpaceShort1 = seen 3 lines_of_third_space_short_1 ≡ (
  None,
  [],
  Some (reference 1 1) ∷ Some (reference 2 1) ∷ Some (reference 1 1) ∷ Some (reference 2 1) ∷ Some Spent ∷ Some (Returned (Some (values.Int (pos 2)))) ∷ [],
)

-- ---- third space short 4

abbrev pub lines_of_third_space_short_4 : List Line
lines_of_third_space_short_4 =
    RootLine 0 0 100 counter_make []
    ∷ RootLine 1 1 100 user_make []
    ∷ SettleLine
    ∷ BindLine 0 (99 ∷ []) 0
    ∷ BindLine 1 (117 ∷ []) 1
    ∷ AckLine 0 0
    ∷ AckLine 1 1
    ∷ LookupLine 2 0 (99 ∷ []) 2
    ∷ LookupLine 2 1 (117 ∷ []) 3
    ∷ SettleLine
    ∷ RootLine 2 4 11 user_pass (Variable 3 ∷ Variable 2 ∷ [])
    ∷ SettleLine
    ∷ RootLine 2 5 100 user_pass (Variable 3 ∷ Variable 2 ∷ [])
    ∷ SettleLine
    ∷ []

abbrev pub ThirdSpaceShort4 : Type 0
ThirdSpaceShort4 = seen 3 lines_of_third_space_short_4 ≡ (
  None,
  [],
  Some (reference 1 1) ∷ Some (reference 2 1) ∷ Some (reference 1 1) ∷ Some (reference 2 1) ∷ Some Spent ∷ Some (Returned (Some (values.Int (pos 1)))) ∷ [],
)

-- ---- a thousand units

abbrev pub lines_of_a_thousand_units : List Line
lines_of_a_thousand_units =
    RootLine 0 0 100 p_make []
    ∷ RootLine 1 1 100 p_make []
    ∷ SettleLine
    ∷ BindLine 0 (97 ∷ []) 0
    ∷ BindLine 1 (98 ∷ []) 1
    ∷ LookupLine 0 1 (98 ∷ []) 2
    ∷ LookupLine 1 0 (97 ∷ []) 3
    ∷ SettleLine
    ∷ RootLine 0 4 100 p_join (Variable 0 ∷ Variable 2 ∷ [])
    ∷ RootLine 1 5 100 p_join (Variable 1 ∷ Variable 3 ∷ [])
    ∷ SettleLine
    ∷ RootLine 0 6 1000 p_go (Variable 0 ∷ [])
    ∷ SettleLine
    ∷ []

abbrev pub AThousandUnits : Type 0
AThousandUnits = seen_and_spent 2 lines_of_a_thousand_units ≡ (
  (
    None,
    [],
    Some (reference 1 1) ∷ Some (reference 2 1) ∷ Some (reference 2 1) ∷ Some (reference 1 1) ∷ Some (Returned None) ∷ Some (Returned None) ∷ Some Spent ∷ [],
  ),
  518 ∷ 514 ∷ [],
  339,
)
