use Rattle.std.proofs.Common.{true, inl, inr, ap, sym, subst}
use Rattle.std.specs.Prelude.{map}
use Rattle.sp_outputs.specs.Notes.{output_of}
use Rattle.sp_lending.specs.Works.{HasWorked, state_after}
use Rattle.sp_lending.proofs.SpaceLemmas.{in-some}
use Rattle.sp_lending.proofs.WorkLemmas.{comes-back, first-work, handed, handed-own, known-of, rested, stopped, worked-in}
use Rattle.sp_lending.proofs.parts.Parts.work.Goals as goal

pub returns-in_default-clause-fault : goal.returns-in_default-clause-fault
returns-in_default-clause-fault c = λ g s is. inl (c.lend.ensures.state g s is)

pub returns-in_default-clause-state : goal.returns-in_default-clause-state
returns-in_default-clause-state c = λ g is. in-some g is.state c.lend.new.self (c.lend.ensures.state g is.state is.is)

pub take_turns-requires-clause-known : goal.take_turns-requires-clause-known
take_turns-requires-clause-known c =
    let k = c.requires.known in
    record { setting = k.setting; state = k.state; is = c.lend.ensures.state k.setting k.state k.is; of = c.in-Some.ensures.of k.setting k.state k.is }

pub returns-in-Ok-Rests-clause-done : goal.returns-in-Ok-Rests-clause-done
returns-in-Ok-Rests-clause-done c = λ g s is.
    let id = c.args.id in
    let a = c.in-Ok-Rests in
    rested g s id c.args.turns c.take_turns.new.self a.outputs c.take_turns.result a.field-0 a.is a.field-0-is
    (c.take_turns.ensures.turned g s id (first-work g s id c.lend.new.self c.in-Some.task (c.lend.ensures.state g s is) (c.in-Some.ensures.of g s is) c.in-Some.ensures.id))

pub returns-in-Ok-Rests-clause-state : goal.returns-in-Ok-Rests-clause-state
returns-in-Ok-Rests-clause-state c = λ g is.
    let id = c.args.id in
    let a = c.in-Ok-Rests in
    worked-in g is.state id c.args.turns c.take_turns.new.self _ _
    (rested g is.state id c.args.turns c.take_turns.new.self a.outputs c.take_turns.result a.field-0 a.is a.field-0-is
    (c.take_turns.ensures.turned g is.state id (first-work g is.state id c.lend.new.self c.in-Some.task (c.lend.ensures.state g is.state is.is) (c.in-Some.ensures.of g is.state is.is) c.in-Some.ensures.id)))

pub take_back-requires-clause-own : goal.take_back-requires-clause-own
take_back-requires-clause-own c =
    let a = c.in-Ok-InHand in
    handed-own c.take_turns.new.self a.task c.take_turns.result a.field-0 a.is a.field-0-is c.take_turns.ensures.own

pub take_back-requires-clause-known : goal.take_back-requires-clause-known
take_back-requires-clause-known c =
    let k = c.requires.known in
    let g = k.setting in
    let s = k.state in
    let id = c.args.id in
    let a = c.in-Ok-InHand in
    known-of g s id c.args.turns c.take_turns.new.self a.task
    (handed g s id c.args.turns c.take_turns.new.self a.task c.take_turns.result a.field-0 a.is a.field-0-is
    (c.take_turns.ensures.turned g s id (first-work g s id c.lend.new.self c.in-Some.task (c.lend.ensures.state g s k.is) (c.in-Some.ensures.of g s k.is) c.in-Some.ensures.id)))

pub returns-in-Ok-InHand-clause-done : goal.returns-in-Ok-InHand-clause-done
returns-in-Ok-InHand-clause-done c = λ g s is.
    let id = c.args.id in
    let a = c.in-Ok-InHand in
    let w = handed g s id c.args.turns c.take_turns.new.self a.task c.take_turns.result a.field-0 a.is a.field-0-is
    (c.take_turns.ensures.turned g s id (first-work g s id c.lend.new.self c.in-Some.task (c.lend.ensures.state g s is) (c.in-Some.ensures.of g s is) c.in-Some.ensures.id)) in
    let t = state_after g w.events s in
    let new = c.take_back.new.self in
    subst (λ outputs. HasWorked g s id c.args.turns new outputs true) (sym (ap (map output_of) c.new.ensures.items))
    (comes-back g s id c.args.turns c.take_turns.new.self new a.task w (c.take_back.ensures.state g t w.is w.of) (c.take_back.ensures.outputs g t))

pub returns-in-Ok-InHand-clause-state : goal.returns-in-Ok-InHand-clause-state
returns-in-Ok-InHand-clause-state c = λ g is.
    let s = is.state in
    let id = c.args.id in
    let a = c.in-Ok-InHand in
    let w = handed g s id c.args.turns c.take_turns.new.self a.task c.take_turns.result a.field-0 a.is a.field-0-is
    (c.take_turns.ensures.turned g s id (first-work g s id c.lend.new.self c.in-Some.task (c.lend.ensures.state g s is.is) (c.in-Some.ensures.of g s is.is) c.in-Some.ensures.id)) in
    in-some g _ c.take_back.new.self (c.take_back.ensures.state g (state_after g w.events s) w.is w.of)

pub take_back-requires-in-Err-clause-known : goal.take_back-requires-in-Err-clause-known
take_back-requires-in-Err-clause-known c =
    let k = c.requires.known in
    let g = k.setting in
    let s = k.state in
    let id = c.args.id in
    known-of g s id c.args.turns c.take_turns.new.self c.in-Err.task
    (stopped g s id c.args.turns c.take_turns.new.self _ c.take_turns.result c.in-Err.is
    (c.take_turns.ensures.turned g s id (first-work g s id c.lend.new.self c.in-Some.task (c.lend.ensures.state g s k.is) (c.in-Some.ensures.of g s k.is) c.in-Some.ensures.id)))

pub returns-in-Err-clause-fault : goal.returns-in-Err-clause-fault
returns-in-Err-clause-fault c = λ g s is.
    let id = c.args.id in
    let w = stopped g s id c.args.turns c.take_turns.new.self _ c.take_turns.result c.in-Err.is
    (c.take_turns.ensures.turned g s id (first-work g s id c.lend.new.self c.in-Some.task (c.lend.ensures.state g s is) (c.in-Some.ensures.of g s is) c.in-Some.ensures.id)) in
    let t = state_after g w.events s in
    inr (comes-back g s id c.args.turns c.take_turns.new.self c.take_back-in-Err.new.self c.in-Err.task w (c.take_back-in-Err.ensures.state g t w.is w.of) (c.take_back-in-Err.ensures.outputs g t))

pub returns-in-Err-clause-state : goal.returns-in-Err-clause-state
returns-in-Err-clause-state c = λ g is.
    let s = is.state in
    let id = c.args.id in
    let w = stopped g s id c.args.turns c.take_turns.new.self _ c.take_turns.result c.in-Err.is
    (c.take_turns.ensures.turned g s id (first-work g s id c.lend.new.self c.in-Some.task (c.lend.ensures.state g s is.is) (c.in-Some.ensures.of g s is.is) c.in-Some.ensures.id)) in
    in-some g _ c.take_back-in-Err.new.self (c.take_back-in-Err.ensures.state g (state_after g w.events s) w.is w.of)
