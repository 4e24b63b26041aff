-- Lines that are refused: scripts of spaces, each with what it shows and how its roots and lookups end.
-- (This project's own worked examples: docs/SCRIPTS.md.)
use Rattle.std.specs.Prelude.{◌≡◌, List, [], ◌∷◌, Some, pos}
use Rattle.space_ids.specs.declared.value.Value.TheVariants as values
use Rattle.sp_scripts.specs.Names.{counter_bump, counter_make}
use Rattle.sp_scripts.specs.Scripts.{Line, RootLine, AckLine, BindLine, LookupLine, RefuseLine, ReadFailLine, MomentLine, SweepLine, SettleLine, Variable, Literal, bad_line}

-- ---- bad lookup self

abbrev pub lines_of_bad_lookup_self : List Line
lines_of_bad_lookup_self =
    LookupLine 0 0 (110 ∷ []) 0
    ∷ []

abbrev pub BadLookupSelf : Type 0
BadLookupSelf = bad_line 2 lines_of_bad_lookup_self ≡ Some 3

-- ---- bad root kind

abbrev pub lines_of_bad_root_kind : List Line
lines_of_bad_root_kind =
    RootLine 0 0 9 counter_bump (Literal (values.Int (pos 4)) ∷ [])
    ∷ []

abbrev pub BadRootKind : Type 0
BadRootKind = bad_line 2 lines_of_bad_root_kind ≡ Some 3

-- ---- bad root no holder

abbrev pub lines_of_bad_root_no_holder : List Line
lines_of_bad_root_no_holder =
    RootLine 0 0 100 counter_make []
    ∷ SettleLine
    ∷ BindLine 0 (110 ∷ []) 0
    ∷ AckLine 0 0
    ∷ LookupLine 1 0 (110 ∷ []) 1
    ∷ SettleLine
    ∷ AckLine 1 1
    ∷ SettleLine
    ∷ RootLine 1 2 100 counter_bump (Variable 1 ∷ [])
    ∷ []

abbrev pub BadRootNoHolder : Type 0
BadRootNoHolder = bad_line 2 lines_of_bad_root_no_holder ≡ Some 11

-- ---- lapsed lease is no root argument

abbrev pub lines_of_lapsed_lease_is_no_root_argument : List Line
lines_of_lapsed_lease_is_no_root_argument =
    RootLine 0 0 100 counter_make []
    ∷ SettleLine
    ∷ BindLine 0 (110 ∷ []) 0
    ∷ AckLine 0 0
    ∷ LookupLine 1 0 (110 ∷ []) 1
    ∷ SettleLine
    ∷ ReadFailLine 1 0
    ∷ MomentLine 1 600000
    ∷ RefuseLine 1 0
    ∷ RootLine 1 2 100 counter_bump (Variable 1 ∷ [])
    ∷ []

abbrev pub LapsedLeaseIsNoRootArgument : Type 0
LapsedLeaseIsNoRootArgument = bad_line 2 lines_of_lapsed_lease_is_no_root_argument ≡ Some 12

-- ---- bad space

abbrev pub lines_of_bad_space : List Line
lines_of_bad_space =
    SweepLine 2
    ∷ []

abbrev pub BadSpace : Type 0
BadSpace = bad_line 2 lines_of_bad_space ≡ Some 3
