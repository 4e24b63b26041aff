-- References that pass through a third space: scripts of spaces, each with what it shows and how its roots and lookups end.
-- (This project's own worked examples: docs/SCRIPTS.md.)
use Rattle.std.specs.Prelude.{◌≡◌, List, [], ◌∷◌, None, Some, pos}
use Rattle.space_ids.specs.declared.value.Value.TheVariants as values
use Rattle.sp_rules.specs.Behaviours.{Returned}
use Rattle.sp_scripts.specs.Names.{box_bump, box_fetch, box_get, box_make, box_put, counter_class, counter_make, link_fresh, link_make, link_next, user_make, user_pass}
use Rattle.sp_scripts.specs.Scripts.{Line, RootLine, AckLine, BindLine, UnbindLine, LookupLine, OpenLine, DeliverLine, ReplyLine, SweepLine, StepLine, ShowLine, SettleLine, SweptLine, Variable, seen, seen_and_spent, reference}

-- ---- third space

abbrev pub lines_of_third_space : List Line
lines_of_third_space =
    RootLine 0 0 8 counter_make []
    ∷ RootLine 1 1 8 user_make []
    ∷ SettleLine
    ∷ BindLine 0 (99 ∷ 111 ∷ 117 ∷ 110 ∷ 116 ∷ 101 ∷ 114 ∷ []) 0
    ∷ BindLine 1 (117 ∷ 115 ∷ 101 ∷ 114 ∷ []) 1
    ∷ AckLine 0 0
    ∷ AckLine 1 1
    ∷ LookupLine 2 0 (99 ∷ 111 ∷ 117 ∷ 110 ∷ 116 ∷ 101 ∷ 114 ∷ []) 2
    ∷ LookupLine 2 1 (117 ∷ 115 ∷ 101 ∷ 114 ∷ []) 3
    ∷ SettleLine
    ∷ RootLine 2 4 15 user_pass (Variable 3 ∷ Variable 2 ∷ [])
    ∷ AckLine 2 2
    ∷ UnbindLine 0 (99 ∷ 111 ∷ 117 ∷ 110 ∷ 116 ∷ 101 ∷ 114 ∷ [])
    ∷ SweepLine 0
    ∷ SettleLine
    ∷ ShowLine 0
    ∷ SweepLine 0
    ∷ ShowLine 0
    ∷ []

abbrev pub ThirdSpace : Type 0
ThirdSpace = seen_and_spent 3 lines_of_third_space ≡ (
  (
    None,
    record { space = 0; id = 1; class = counter_class; names = 0; entries = 0 } ∷ [],
    Some (reference 1 1) ∷ Some (reference 2 1) ∷ Some (reference 1 1) ∷ Some (reference 2 1) ∷ Some (Returned (Some (values.Int (pos 1)))) ∷ [],
  ),
  16 ∷ 11 ∷ 4 ∷ [],
  7,
)

-- ---- third space swept

abbrev pub lines_of_third_space_swept : List Line
lines_of_third_space_swept =
    RootLine 0 0 8 counter_make []
    ∷ RootLine 1 1 8 user_make []
    ∷ SettleLine
    ∷ BindLine 0 (99 ∷ 111 ∷ 117 ∷ 110 ∷ 116 ∷ 101 ∷ 114 ∷ []) 0
    ∷ BindLine 1 (117 ∷ 115 ∷ 101 ∷ 114 ∷ []) 1
    ∷ AckLine 0 0
    ∷ AckLine 1 1
    ∷ LookupLine 2 0 (99 ∷ 111 ∷ 117 ∷ 110 ∷ 116 ∷ 101 ∷ 114 ∷ []) 2
    ∷ LookupLine 2 1 (117 ∷ 115 ∷ 101 ∷ 114 ∷ []) 3
    ∷ SettleLine
    ∷ RootLine 2 4 15 user_pass (Variable 3 ∷ Variable 2 ∷ [])
    ∷ AckLine 2 2
    ∷ UnbindLine 0 (99 ∷ 111 ∷ 117 ∷ 110 ∷ 116 ∷ 101 ∷ 114 ∷ [])
    ∷ SweepLine 0
    ∷ SweptLine 0
    ∷ ShowLine 0
    ∷ SweepLine 0
    ∷ ShowLine 0
    ∷ []

abbrev pub ThirdSpaceSwept : Type 0
ThirdSpaceSwept = seen 3 lines_of_third_space_swept ≡ (
  None,
  [],
  Some (reference 1 1) ∷ Some (reference 2 1) ∷ Some (reference 1 1) ∷ Some (reference 2 1) ∷ Some (Returned (Some (values.Int (pos 1)))) ∷ [],
)

-- ---- fetch through third

abbrev pub lines_of_fetch_through_third : List Line
lines_of_fetch_through_third =
    RootLine 2 0 100 counter_make []
    ∷ RootLine 1 1 100 box_make []
    ∷ SettleLine
    ∷ BindLine 2 (99 ∷ []) 0
    ∷ BindLine 1 (98 ∷ []) 1
    ∷ AckLine 2 0
    ∷ LookupLine 1 2 (99 ∷ []) 2
    ∷ LookupLine 0 1 (98 ∷ []) 3
    ∷ SettleLine
    ∷ RootLine 1 4 100 box_put (Variable 1 ∷ Variable 2 ∷ [])
    ∷ SettleLine
    ∷ AckLine 1 2
    ∷ UnbindLine 2 (99 ∷ [])
    ∷ SweepLine 2
    ∷ RootLine 0 5 100 box_fetch (Variable 3 ∷ [])
    ∷ RootLine 0 6 100 box_get (Variable 3 ∷ [])
    ∷ SettleLine
    ∷ SweepLine 2
    ∷ ShowLine 2
    ∷ AckLine 0 6
    ∷ SettleLine
    ∷ ShowLine 2
    ∷ RootLine 0 7 100 box_bump (Variable 3 ∷ [])
    ∷ SettleLine
    ∷ []

abbrev pub FetchThroughThird : Type 0
FetchThroughThird = seen 3 lines_of_fetch_through_third ≡ (
  None,
  record { space = 2; id = 1; class = counter_class; names = 0; entries = 2 } ∷ record { space = 2; id = 1; class = counter_class; names = 0; entries = 1 } ∷ [],
  Some (reference 3 1) ∷ Some (reference 2 1) ∷ Some (reference 3 1) ∷ Some (reference 2 1) ∷ Some (Returned None) ∷ Some (Returned (Some (values.Int (pos 1)))) ∷ Some (reference 3 1) ∷ Some (Returned (Some (values.Int (pos 2)))) ∷ [],
)

-- ---- fresh round trip

abbrev pub lines_of_fresh_round_trip : List Line
lines_of_fresh_round_trip =
    RootLine 2 0 100 link_make []
    ∷ RootLine 1 1 100 link_make []
    ∷ SettleLine
    ∷ BindLine 2 (108 ∷ []) 0
    ∷ BindLine 1 (107 ∷ []) 1
    ∷ LookupLine 1 2 (108 ∷ []) 2
    ∷ LookupLine 0 1 (107 ∷ []) 3
    ∷ SettleLine
    ∷ RootLine 1 4 100 link_next (Variable 1 ∷ Variable 2 ∷ [])
    ∷ SettleLine
    ∷ RootLine 0 5 100 link_fresh (Variable 3 ∷ [])
    ∷ SettleLine
    ∷ SweepLine 0
    ∷ ShowLine 0
    ∷ AckLine 0 5
    ∷ SweepLine 0
    ∷ ShowLine 0
    ∷ []

abbrev pub FreshRoundTrip : Type 0
FreshRoundTrip = seen 3 lines_of_fresh_round_trip ≡ (
  None,
  record { space = 0; id = 1; class = counter_class; names = 0; entries = 0 } ∷ [],
  Some (reference 3 1) ∷ Some (reference 2 1) ∷ Some (reference 3 1) ∷ Some (reference 2 1) ∷ Some (Returned None) ∷ Some (reference 1 1) ∷ [],
)

-- ---- entry before start

abbrev pub lines_of_entry_before_start : List Line
lines_of_entry_before_start =
    RootLine 0 0 100 counter_make []
    ∷ RootLine 1 1 100 user_make []
    ∷ SettleLine
    ∷ BindLine 0 (99 ∷ []) 0
    ∷ BindLine 1 (117 ∷ []) 1
    ∷ AckLine 0 0
    ∷ AckLine 1 1
    ∷ LookupLine 2 0 (99 ∷ []) 2
    ∷ LookupLine 2 1 (117 ∷ []) 3
    ∷ SettleLine
    ∷ RootLine 2 4 15 user_pass (Variable 3 ∷ Variable 2 ∷ [])
    ∷ StepLine 2
    ∷ StepLine 2
    ∷ StepLine 2
    ∷ DeliverLine 2 1
    ∷ ShowLine 0
    ∷ StepLine 1
    ∷ OpenLine 1 0
    ∷ DeliverLine 1 0
    ∷ ReplyLine 1 0
    ∷ DeliverLine 1 0
    ∷ ShowLine 0
    ∷ StepLine 1
    ∷ ReplyLine 1 0
    ∷ StepLine 1
    ∷ StepLine 1
    ∷ SettleLine
    ∷ ShowLine 0
    ∷ []

abbrev pub EntryBeforeStart : Type 0
EntryBeforeStart = seen 3 lines_of_entry_before_start ≡ (
  None,
  record { space = 0; id = 1; class = counter_class; names = 1; entries = 1 } ∷ record { space = 0; id = 1; class = counter_class; names = 1; entries = 2 } ∷ record { space = 0; id = 1; class = counter_class; names = 1; entries = 1 } ∷ [],
  Some (reference 1 1) ∷ Some (reference 2 1) ∷ Some (reference 1 1) ∷ Some (reference 2 1) ∷ Some (Returned (Some (values.Int (pos 1)))) ∷ [],
)
