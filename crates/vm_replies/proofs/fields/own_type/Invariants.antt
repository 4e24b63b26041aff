use Rattle.vm_replies.proofs.Types.{Looks}
use Rattle.vm_replies.proofs.fields.own_type.Given as goal

abbrev pub invariant-loop-field : goal.invariant-loop-field
invariant-loop-field l = Looks l.set l.fields l.index l.field-index l.count
