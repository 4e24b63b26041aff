-- Values that cross, and how calls end: scripts of spaces, each with what it shows and how its roots and lookups end.
-- (This project's own worked examples: docs/SCRIPTS.md.)
use Rattle.std.specs.Prelude.{◌≡◌, List, [], ◌∷◌, None, Some, pos, negsuc}
use Rattle.space_ids.specs.declared.value.Value.TheVariants as values
use Rattle.sp_rules.specs.Behaviours.{Returned, Threw}
use Rattle.sp_scripts.specs.Names.{adder_copy, adder_make, adder_sum, adder_twice, arithmetic_exception, array_index_exception, box_bump, box_clear, box_get, box_make, box_object, box_plain, box_put, class_of, counter_bump, counter_class, counter_make, ends_deep, ends_divide, ends_error, ends_flag, ends_make, ends_nil, ends_plainly, ends_remote, incompatible_class_change_error, marshal_exception, not_bound_exception, null_pointer_exception, plain_error, plain_exception, plain_make, remote_exception, server_error, server_exception, stack_overflow_error}
use Rattle.sp_scripts.specs.Scripts.{Line, RootLine, BindLine, RebindLine, UnbindLine, LookupLine, ShowLine, SettleLine, Variable, Literal, seen, reference}

-- ---- booleans

abbrev pub lines_of_booleans : List Line
lines_of_booleans =
    RootLine 0 0 100 ends_make []
    ∷ SettleLine
    ∷ BindLine 0 (110 ∷ []) 0
    ∷ LookupLine 1 0 (110 ∷ []) 1
    ∷ SettleLine
    ∷ RootLine 1 2 100 ends_flag (Variable 1 ∷ Literal (values.Int (pos 5)) ∷ [])
    ∷ RootLine 0 3 100 ends_flag (Variable 0 ∷ Literal (values.Int (negsuc 1)) ∷ [])
    ∷ SettleLine
    ∷ []

abbrev pub Booleans : Type 0
Booleans = seen 2 lines_of_booleans ≡ (
  None,
  [],
  Some (reference 1 1) ∷ Some (reference 1 1) ∷ Some (Returned (Some (values.Int (pos 5)))) ∷ Some (Returned (Some (values.Int (negsuc 1)))) ∷ [],
)

-- ---- nulls

abbrev pub lines_of_nulls : List Line
lines_of_nulls =
    RootLine 0 0 100 box_make []
    ∷ SettleLine
    ∷ BindLine 0 (110 ∷ []) 0
    ∷ LookupLine 1 0 (110 ∷ []) 1
    ∷ SettleLine
    ∷ RootLine 1 2 100 box_get (Variable 1 ∷ [])
    ∷ RootLine 1 3 100 box_bump (Variable 1 ∷ [])
    ∷ RootLine 1 4 100 counter_bump (Literal values.Null ∷ [])
    ∷ RootLine 1 5 100 box_put (Variable 1 ∷ Literal values.Null ∷ [])
    ∷ SettleLine
    ∷ []

abbrev pub Nulls : Type 0
Nulls = seen 2 lines_of_nulls ≡ (
  None,
  [],
  Some (reference 1 1) ∷ Some (reference 1 1) ∷ Some (Returned (Some values.Null)) ∷ Some (Threw (class_of null_pointer_exception)) ∷ Some (Threw (class_of null_pointer_exception)) ∷ Some (Returned None) ∷ [],
)

-- ---- plain objects

abbrev pub lines_of_plain_objects : List Line
lines_of_plain_objects =
    RootLine 0 0 100 box_make []
    ∷ RootLine 0 1 100 plain_make []
    ∷ SettleLine
    ∷ BindLine 0 (110 ∷ []) 0
    ∷ BindLine 0 (109 ∷ []) 1
    ∷ LookupLine 1 0 (110 ∷ []) 2
    ∷ LookupLine 1 0 (109 ∷ []) 3
    ∷ SettleLine
    ∷ RootLine 1 4 100 box_plain (Variable 2 ∷ [])
    ∷ RootLine 0 5 100 box_plain (Variable 0 ∷ [])
    ∷ RootLine 0 6 100 box_object []
    ∷ RootLine 1 7 100 box_clear (Variable 3 ∷ [])
    ∷ SettleLine
    ∷ []

abbrev pub PlainObjects : Type 0
PlainObjects = seen 2 lines_of_plain_objects ≡ (
  None,
  [],
  Some (reference 1 1) ∷ Some (reference 1 2) ∷ Some (reference 1 1) ∷ Some (reference 1 2) ∷ Some (Threw (class_of marshal_exception)) ∷ Some (Threw (class_of incompatible_class_change_error)) ∷ Some (Threw (class_of marshal_exception)) ∷ Some (Threw (class_of server_error)) ∷ [],
)

-- ---- endings

abbrev pub lines_of_endings : List Line
lines_of_endings =
    RootLine 0 0 100 ends_make []
    ∷ SettleLine
    ∷ BindLine 0 (110 ∷ []) 0
    ∷ LookupLine 1 0 (110 ∷ []) 1
    ∷ SettleLine
    ∷ RootLine 1 2 100 ends_divide (Variable 1 ∷ Literal (values.Int (pos 7)) ∷ [])
    ∷ RootLine 1 3 100 ends_divide (Variable 1 ∷ Literal (values.Int (pos 0)) ∷ [])
    ∷ RootLine 1 4 100 ends_error (Variable 1 ∷ [])
    ∷ RootLine 1 5 100 ends_remote (Variable 1 ∷ [])
    ∷ RootLine 1 6 100 ends_nil (Variable 1 ∷ [])
    ∷ RootLine 1 7 100 ends_plainly (Variable 1 ∷ [])
    ∷ RootLine 1 8 100000 ends_deep (Variable 1 ∷ [])
    ∷ RootLine 0 9 100 ends_error (Variable 0 ∷ [])
    ∷ RootLine 0 10 100 ends_remote (Variable 0 ∷ [])
    ∷ RootLine 0 11 100000 ends_deep (Variable 0 ∷ [])
    ∷ SettleLine
    ∷ []

abbrev pub Endings : Type 0
Endings = seen 2 lines_of_endings ≡ (
  None,
  [],
  Some (reference 1 1) ∷ Some (reference 1 1) ∷ Some (Returned (Some (values.Int (pos 14)))) ∷ Some (Threw (class_of arithmetic_exception)) ∷ Some (Threw (class_of server_error)) ∷ Some (Threw (class_of server_exception)) ∷ Some (Threw (class_of null_pointer_exception)) ∷ Some (Threw (class_of plain_exception)) ∷ Some (Threw (class_of server_error)) ∷ Some (Threw (class_of plain_error)) ∷ Some (Threw (class_of remote_exception)) ∷ Some (Threw (class_of stack_overflow_error)) ∷ [],
)

-- ---- result cannot cross

abbrev pub lines_of_result_cannot_cross : List Line
lines_of_result_cannot_cross =
    RootLine 0 0 100 plain_make []
    ∷ SettleLine
    ∷ BindLine 0 (109 ∷ []) 0
    ∷ LookupLine 1 0 (109 ∷ []) 1
    ∷ SettleLine
    ∷ RootLine 1 2 100 box_get (Variable 1 ∷ [])
    ∷ SettleLine
    ∷ []

abbrev pub ResultCannotCross : Type 0
ResultCannotCross = seen 2 lines_of_result_cannot_cross ≡ (
  None,
  [],
  Some (reference 1 1) ∷ Some (reference 1 1) ∷ Some (Threw (class_of server_exception)) ∷ [],
)

-- ---- names

abbrev pub lines_of_names : List Line
lines_of_names =
    RootLine 0 0 100 counter_make []
    ∷ RootLine 0 1 100 counter_make []
    ∷ SettleLine
    ∷ BindLine 0 (110 ∷ []) 0
    ∷ BindLine 0 (110 ∷ []) 1
    ∷ UnbindLine 0 (109 ∷ [])
    ∷ ShowLine 0
    ∷ RebindLine 0 (110 ∷ []) 1
    ∷ RebindLine 0 (109 ∷ []) 1
    ∷ ShowLine 0
    ∷ LookupLine 1 0 (109 ∷ []) 2
    ∷ SettleLine
    ∷ BindLine 1 (111 ∷ 119 ∷ 110 ∷ []) 2
    ∷ LookupLine 0 1 (111 ∷ 119 ∷ 110 ∷ []) 3
    ∷ SettleLine
    ∷ []

abbrev pub Names : Type 0
Names = seen 2 lines_of_names ≡ (
  None,
  record { space = 0; id = 1; class = counter_class; names = 1; entries = 0 } ∷ record { space = 0; id = 2; class = counter_class; names = 0; entries = 0 } ∷ record { space = 0; id = 1; class = counter_class; names = 0; entries = 0 } ∷ record { space = 0; id = 2; class = counter_class; names = 2; entries = 0 } ∷ [],
  Some (reference 1 1) ∷ Some (reference 1 2) ∷ Some (reference 1 2) ∷ Some (Threw (class_of not_bound_exception)) ∷ [],
)

-- ---- lookup unbound

abbrev pub lines_of_lookup_unbound : List Line
lines_of_lookup_unbound =
    LookupLine 1 0 (110 ∷ []) 0
    ∷ SettleLine
    ∷ []

abbrev pub LookupUnbound : Type 0
LookupUnbound = seen 2 lines_of_lookup_unbound ≡ (
  None,
  [],
  Some (Threw (class_of not_bound_exception)) ∷ [],
)

-- ---- field overwritten

abbrev pub lines_of_field_overwritten : List Line
lines_of_field_overwritten =
    RootLine 0 0 100 counter_make []
    ∷ RootLine 1 1 100 box_make []
    ∷ SettleLine
    ∷ BindLine 1 (98 ∷ []) 1
    ∷ LookupLine 0 1 (98 ∷ []) 2
    ∷ SettleLine
    ∷ RootLine 0 3 100 box_put (Variable 2 ∷ Variable 0 ∷ [])
    ∷ SettleLine
    ∷ ShowLine 0
    ∷ RootLine 1 4 100 box_clear (Variable 1 ∷ [])
    ∷ SettleLine
    ∷ ShowLine 0
    ∷ []

abbrev pub FieldOverwritten : Type 0
FieldOverwritten = seen 2 lines_of_field_overwritten ≡ (
  None,
  record { space = 0; id = 1; class = counter_class; names = 0; entries = 1 } ∷ record { space = 0; id = 1; class = counter_class; names = 0; entries = 0 } ∷ [],
  Some (reference 1 1) ∷ Some (reference 2 1) ∷ Some (reference 2 1) ∷ Some (Returned None) ∷ Some (Returned None) ∷ [],
)

-- ---- arrays

abbrev pub lines_of_arrays : List Line
lines_of_arrays =
    RootLine 0 0 100 adder_make []
    ∷ SettleLine
    ∷ BindLine 0 (110 ∷ []) 0
    ∷ LookupLine 1 0 (110 ∷ []) 1
    ∷ SettleLine
    ∷ RootLine 1 2 1000 adder_sum (Variable 1 ∷ Literal (values.Ints (pos 1 ∷ pos 2 ∷ negsuc 29 ∷ [])) ∷ [])
    ∷ RootLine 1 3 1000 adder_sum (Variable 1 ∷ Literal (values.Ints []) ∷ [])
    ∷ RootLine 1 4 1000 adder_sum (Variable 1 ∷ Literal values.Null ∷ [])
    ∷ RootLine 1 5 1000 adder_twice (Variable 1 ∷ Literal (values.Ints (pos 7 ∷ pos 8 ∷ [])) ∷ Literal (values.Int (pos 1)) ∷ [])
    ∷ RootLine 1 6 1000 adder_copy (Variable 1 ∷ Literal (values.Ints (pos 21 ∷ [])) ∷ [])
    ∷ RootLine 0 7 1000 adder_copy (Variable 0 ∷ Literal (values.Ints (pos 21 ∷ [])) ∷ [])
    ∷ RootLine 1 8 1000 adder_twice (Variable 1 ∷ Literal (values.Ints (pos 7 ∷ pos 8 ∷ [])) ∷ Literal (values.Int (pos 2)) ∷ [])
    ∷ SettleLine
    ∷ RootLine 1 9 1000 adder_sum (Variable 1 ∷ Variable 5 ∷ [])
    ∷ SettleLine
    ∷ []

abbrev pub Arrays : Type 0
Arrays = seen 2 lines_of_arrays ≡ (
  None,
  [],
  Some (reference 1 1) ∷ Some (reference 1 1) ∷ Some (Returned (Some (values.Int (negsuc 26)))) ∷ Some (Returned (Some (values.Int (pos 0)))) ∷ Some (Threw (class_of null_pointer_exception)) ∷ Some (Returned (Some (values.Ints (pos 7 ∷ pos 16 ∷ [])))) ∷ Some (Returned (Some (values.Int (pos 21)))) ∷ Some (Returned (Some (values.Int (pos 42)))) ∷ Some (Threw (class_of array_index_exception)) ∷ Some (Returned (Some (values.Int (pos 23)))) ∷ [],
)
