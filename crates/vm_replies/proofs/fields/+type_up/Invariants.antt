use Rattle.vm_replies.proofs.fields.+type_up.Given as goal

abbrev pub decreases-type_up : goal.decreases-type_up
decreases-type_up l = l.most
