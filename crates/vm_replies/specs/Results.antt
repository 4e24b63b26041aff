-- What a method gives to who started its task. (Java RMI specification, 2.6: what is no remote object is given by copy. That an array of ints
-- alone is, is this project's own.)
use Rattle.std.specs.Prelude.{ℕ, Bool, true, false, List, Option, Some, None}
use Rattle.cls_set.specs.declared.class.Class.{Class}
use Rattle.ver_frames.specs.declared.vtype.VType.{VType}
use Rattle.ver_frames.specs.declared.vtype.VType.TheVariants.{IntArray}
use Rattle.vm_act.specs.declared.ending.Ending.{Ending}
use Rattle.vm_act.specs.declared.ending.Ending.TheVariants as ending
use Rattle.vm_act.specs.declared.ending.Thrown.TheVariants as thrown
use Rattle.vm_laws.specs.Worlds.{gives_at}

abbrev pub is_int_array : Option VType → Bool
is_int_array (Some IntArray) = true
is_int_array _ = false

-- whether the result of the method of a number is int[]
abbrev pub gives_ints : List Class → ℕ → Bool
gives_ints classes number = is_int_array (gives_at classes number)

-- The reference that a method returns. What it refers to in the task's own heap is given by copy if the method gives int[]. In place of a remote
-- object it cannot cross, be it an object or an array: a MarshalException is thrown (Java RMI specification, appendix A).
abbrev pub reference_for_caller : Bool → Option ℕ → Ending
reference_for_caller ints None = ending.ReturnedReference None
reference_for_caller true (Some address) = ending.ReturnedReference (Some address)
reference_for_caller false (Some address) = ending.Threw thrown.MarshalException

-- what the last instruction of a method ends its task with, by whether the method gives int[]
abbrev pub end_for_caller : Bool → Ending → Ending
end_for_caller ints ending.ReturnedNothing = ending.ReturnedNothing
end_for_caller ints (ending.ReturnedInt n) = ending.ReturnedInt n
end_for_caller ints (ending.ReturnedReference address) = reference_for_caller ints address
end_for_caller ints (ending.ReturnedRemote reference) = ending.ReturnedRemote reference
end_for_caller ints (ending.Threw thrown) = ending.Threw thrown
end_for_caller ints (ending.ThrewObject class) = ending.ThrewObject class
end_for_caller ints ending.Spent = ending.Spent
