use Rattle.vm_typing.proofs.Returns
use Rattle.vm_typing.proofs.laws.returns_lead.Goals as goal

pub returns : goal.returns
returns c = λ w owed asked fresh receiver. record {
  return_int = Returns.return_int-leads w owed asked fresh receiver;
  return_reference = Returns.return_reference-leads w owed asked fresh receiver;
  return_nothing = Returns.return_nothing-leads w owed asked fresh receiver;
}
