use Rattle.std.proofs.Common.{◌≡◌, List, [], Some, ap, map, reverse, subst, sym, ◌∙◌}
use Rattle.std.specs.Prelude.{option_and_then}
use Rattle.std.specs.Option.{option_map_or}
use Rattle.cls_link.specs.Links.{Links}
use Rattle.vm_act.specs.Crossing.{values_of}
use Rattle.vm_act.specs.declared.asked.Asked.{Asked}
use Rattle.vm_act.specs.declared.crossing.Parameter.{Parameter}
use Rattle.vm_code.specs.Parameters.{parameter_of}
use Rattle.vm_laws.specs.Worlds.{takes_at}
use Rattle.vm_step.specs.Run.{IsCrossing}
use Rattle.vm_step.specs.Task.{arguments_of}
use Rattle.vm_step.proofs.Calls.{call_crosses}
use Rattle.vm_step.proofs.task.passed.Goals as goal

pub arguments-requires : goal.arguments-requires
arguments-requires c =
    let named = subst (λ o. option_map_or (λ t. map parameter_of t.now) o [] ≡ takes_at c.linked.result.now.classes c.in-Call.method) c.in-Some.is c.parameters.ensures in
    let takes = named ∙ ap (λ (x : Links). takes_at x.classes c.in-Call.method) c.linked.ensures.linked in
    call_crosses c.args.program.now.classes c.in-Call.method c.args.machine.now c.in-Some.types.now takes c.in-Call.target c.in-Call.arguments
    (subst (λ (op : Asked). IsCrossing c.args.program.now.classes op c.args.machine.now) c.in-Call.is c.requires)

-- a number of no method takes no arguments
pub returns-in-None-clause-value : goal.returns-in-None-clause-value
unfolding values_of
returns-in-None-clause-value c =
    let m = c.args.machine.now in
    let takes = c.in-None.ensures ∙ ap (λ (x : Links). takes_at x.classes c.in-Call.method) c.linked.ensures.linked in
    let none = ap (λ (parameters : List Parameter). option_and_then (λ values. values) (values_of (reverse parameters) m.references m.heap.cells m.stack.frame.operands)) takes in
    subst (λ (op : Asked). Some c.new.result.items ≡ arguments_of c.args.program.now.classes op m) (sym c.in-Call.is) (ap (λ xs. Some xs) c.new.ensures.items ∙ none)
