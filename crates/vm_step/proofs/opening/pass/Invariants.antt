use Rattle.std.proofs.Common.{◌≡◌, ◌++◌, take, drop}
use Rattle.vm_heap.specs.Heap.{all_cost}
use Rattle.vm_step.specs.Start.{copies, passed_from}
use Rattle.vm_step.proofs.opening.pass.Given as goal

abbrev pub invariant-loop-index : goal.invariant-loop-index
invariant-loop-index l = record {
  address : l.address ≡ all_cost (copies (take l.index l.arguments));
  frame : l.stack.frame ≡ record l.fn.stack.frame { locals = passed_from 0 l.fn.references (take l.index l.arguments) ++ drop l.index l.fn.stack.frame.locals };
  callers : l.stack.callers ≡ l.fn.stack.callers;
  free : l.stack.free ≡ l.fn.stack.free;
  references : l.references ≡ l.fn.references;
}
