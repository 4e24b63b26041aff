-- What a reply leads to: it ends the task over the heap as it found it, or the machine goes on.
use Rattle.std.proofs.Common.{◌≡◌, ℕ, Bool, true, false, List, [], ◌∷◌, length, drop, refl, ap, sym, subst, ◌∙◌, Option, Some, None}
use Rattle.std.specs.Prelude.{ℤ, ◌^◌, if◌then◌else◌, nat_le, nat_lt}
use Rattle.space_ids.specs.declared.ids.Ref.{Ref}
use Rattle.space_ids.specs.declared.value.Value.{Value}
use Rattle.space_ids.specs.declared.value.Value.TheVariants as value
use Rattle.vm_heap.specs.Heap.{Cell, Ints, all_cost, cost, with_new}
use Rattle.vm_heap.specs.References.{row_for, with_reference}
use Rattle.vm_heap.specs.Tagged.{Tagged, Fresh, Int, Local, Null, ReferenceRow, Remote}
use Rattle.vm_stack.specs.Frames.{pushed}
use Rattle.vm_act.specs.Next.{Next, On, Ends, Asks, Stuck, Does, GoesOn}
use Rattle.vm_act.specs.Remote.{answered, complete_call, leave_call, on_held, on_row, pop_receiver, push_copy, push_result, without_arguments}
use Rattle.vm_act.specs.Steps.{go_on, on_top, push, with_operands}
use Rattle.vm_act.specs.declared.asked.Asked.{Asked}
use Rattle.vm_act.specs.declared.asked.Asked.TheVariants as ask
use Rattle.vm_act.specs.declared.asked.FieldValue.TheVariants as field
use Rattle.vm_act.specs.declared.asked.Reply.{Reply}
use Rattle.vm_act.specs.declared.asked.Reply.TheVariants as reply
use Rattle.vm_act.specs.declared.ending.Ending.{Ending}
use Rattle.vm_act.specs.declared.ending.Ending.TheVariants as ending
use Rattle.vm_act.specs.declared.ending.Flow.{Flow}
use Rattle.vm_act.specs.declared.ending.Flow.TheVariants as flow
use Rattle.vm_act.specs.declared.ending.Thrown.TheVariants as thrown
use Rattle.vm_act.specs.declared.machine.Machine.{Machine}
use Rattle.vm_step.specs.Ends.{end_of}
use Rattle.vm_step.specs.Run.{Running, Waits, after, over}
use Rattle.vm_step.proofs.Runs.{Does-Ends, IsQuiet, answered_quiet}

abbrev IsPlainEnding : Ending → Type 0
IsPlainEnding ending.ReturnedNothing = Unit {0}
IsPlainEnding (ending.ReturnedInt n) = Unit {0}
IsPlainEnding (ending.ReturnedReference address) = ⊥
IsPlainEnding (ending.ReturnedRemote reference) = Unit {0}
IsPlainEnding (ending.Threw thrown) = Unit {0}
IsPlainEnding (ending.ThrewObject class) = Unit {0}
IsPlainEnding ending.Spent = Unit {0}

-- it does not end the task with a reference
abbrev IsPlain : Next → Type 0
IsPlain (On m) = Unit {0}
IsPlain (Ends ending) = IsPlainEnding ending
IsPlain (Asks op m) = Unit {0}
IsPlain Stuck = Unit {0}

push_plain : (value : Tagged) (m : Machine) → IsPlain (push value go_on m)
push_plain value m = by (nat_lt (length m.stack.frame.operands) m.stack.frame.room)
  where
    by : (b : Bool) → IsPlain (if b then go_on (record m { stack = pushed value m.stack }) else Stuck)
    by true = tt
    by false = tt

held_plain : (reference : Ref) (next : ℕ → Machine → Next) (m : Machine) → ((row : ℕ) (x : Machine) → IsPlain (next row x)) → IsPlain (on_held reference next m)
held_plain reference next m plain = by (row_for reference m.references)
  where
    by : (o : Option ℕ) → IsPlain (on_row (λ row. next row (record m { references = with_reference reference m.references })) o)
    by None = tt
    by (Some row) = plain row (record m { references = with_reference reference m.references })

copy_plain : (elements : List ℤ) (m : Machine) → IsPlain (push_copy elements m)
copy_plain elements m = short (nat_lt (length elements) (2 ^ 31))
  where
    fits : (b : Bool) → IsPlain (if b then push (Local (all_cost m.heap.cells)) go_on (record m { heap = with_new (Ints elements) m.heap }) else Ends (ending.Threw thrown.OutOfMemoryError))
    fits true = push_plain (Local (all_cost m.heap.cells)) (record m { heap = with_new (Ints elements) m.heap })
    fits false = tt

    short : (b : Bool) → IsPlain (if b
        then (if nat_le (cost (Ints elements)) m.heap.free then push (Local (all_cost m.heap.cells)) go_on (record m { heap = with_new (Ints elements) m.heap })
        else Ends (ending.Threw thrown.OutOfMemoryError))
        else Ends (ending.Threw thrown.OutOfMemoryError))
    short true = fits (nat_le (cost (Ints elements)) m.heap.free)
    short false = tt

result_plain : (result : Option Value) (m : Machine) → IsPlain (push_result result m)
result_plain None m = tt
result_plain (Some value.Null) m = push_plain Null m
result_plain (Some (value.Int n)) m = push_plain (Int n) m
result_plain (Some (value.Ints elements)) m = copy_plain elements m
result_plain (Some (value.Ref reference)) m = held_plain reference (λ row. push (Remote row) go_on) m (λ row x. push_plain (Remote row) x)

leave_plain : (count : ℕ) (result : Option Value) (m : Machine) → IsPlain (leave_call count result m)
leave_plain count result m = by (nat_le count (length m.stack.frame.operands))
  where
    top : (operands : List Tagged) → IsPlain (on_top (λ receiver below. push_result result (with_operands below (without_arguments count m))) operands)
    top [] = tt
    top (receiver ∷ below) = result_plain result (with_operands below (without_arguments count m))

    by : (b : Bool) → IsPlain (if b then pop_receiver result (without_arguments count m) else Stuck)
    by true = top (drop count m.stack.frame.operands)
    by false = tt

complete_plain : (op : Asked) (result : Option Value) (m : Machine) → IsPlain (complete_call op result m)
complete_plain (ask.Create class) result m = tt
complete_plain (ask.Get object slot) result m = tt
complete_plain (ask.Put object slot written) result m = tt
complete_plain (ask.Call target method count) result m = leave_plain count result m

answered_plain : (op : Asked) (given : Reply) (m : Machine) → IsPlain (answered op given m)
answered_plain op (reply.Made reference) m = held_plain reference (λ row. push (Fresh m.stack.frame.index (ReferenceRow row)) go_on) m (λ row x. push_plain (Fresh m.stack.frame.index (ReferenceRow row)) x)
answered_plain op (reply.Holds (field.Int n)) m = push_plain (Int n) m
answered_plain op (reply.Holds field.Null) m = push_plain Null m
answered_plain op (reply.Holds (field.Reference reference)) m = held_plain reference (λ row. push (Remote row) go_on) m (λ row x. push_plain (Remote row) x)
answered_plain op reply.Written m = tt
answered_plain op (reply.Returned result fuel) m = complete_plain op result m
answered_plain op reply.RunsOut m = tt
answered_plain op (reply.Throws class) m = tt

told_alike : (cells other : List Cell) (e : Ending) → IsPlainEnding e → end_of cells e ≡ end_of other e
told_alike cells other ending.ReturnedNothing plain = refl
told_alike cells other (ending.ReturnedInt n) plain = refl
told_alike cells other (ending.ReturnedReference address) plain = absurd plain
told_alike cells other (ending.ReturnedRemote reference) plain = refl
told_alike cells other (ending.Threw thrown) plain = refl
told_alike cells other (ending.ThrewObject class) plain = refl
told_alike cells other ending.Spent plain = refl

-- the task ends
pub completed_ends : (op : Asked) (given : Reply) (m now : Machine) (did : Flow) (e : Ending) (fuel : ℕ) → Does (answered op given m) did now → did ≡ flow.Ends e
    → over (end_of now.heap.cells e) fuel ≡ after m.heap.cells (answered op given m) fuel
completed_ends op given m now did e fuel does is =
    let n : answered op given m ≡ Ends e = Does-Ends (answered op given m) did now e does is in
    let plain : IsPlainEnding e = subst IsPlain n (answered_plain op given m) in
    ap (λ o. over o fuel) (told_alike now.heap.cells m.heap.cells e plain) ∙ sym (ap (λ (x : Next). after m.heap.cells x fuel) n)

-- nothing more is asked
pub completed_asks : (op : Asked) (given : Reply) (m now : Machine) (did : Flow) (asked : Asked) (fuel : ℕ) → Does (answered op given m) did now → did ≡ flow.Asks asked
    → Waits asked now fuel ≡ after m.heap.cells (answered op given m) fuel
completed_asks op given m now did asked fuel does is = by (answered op given m) (answered_quiet op given m) does is
  where
    by : (n : Next) → IsQuiet n → Does n did now → did ≡ flow.Asks asked → Waits asked now fuel ≡ after m.heap.cells n fuel
    by (On x) quiet does is = absurd (subst GoesOn is does.0)
    by (Ends e) quiet does is = let same : flow.Ends e ≡ flow.Asks asked = sym does ∙ is in absurd (cc)
    by (Asks other x) quiet does is = absurd quiet
    by Stuck quiet does is = absurd does

-- the machine goes on
pub completed_goes : (op : Asked) (given : Reply) (m now : Machine) (did : Flow) (fuel : ℕ) → Does (answered op given m) did now → ((e : Ending) → did ≡ flow.Ends e → ⊥)
    → Running now fuel ≡ after m.heap.cells (answered op given m) fuel
completed_goes op given m now did fuel does goes = by (answered op given m) (answered_quiet op given m) does
  where
    by : (n : Next) → IsQuiet n → Does n did now → Running now fuel ≡ after m.heap.cells n fuel
    by (On x) quiet does = ap (λ (y : Machine). Running y fuel) does.1
    by (Ends e) quiet does = absurd (goes e does)
    by (Asks other x) quiet does = absurd quiet
    by Stuck quiet does = absurd does
