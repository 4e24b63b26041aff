use Rattle.vm_typing.proofs.Calls
use Rattle.vm_typing.proofs.laws.calls_lead.Goals as goal

pub returns : goal.returns
returns c = λ w owed asked held fresh receiver. record {
  call = Calls.call-leads w owed asked held fresh receiver;
  construct_new = Calls.construct_new-leads w owed asked held fresh receiver;
  construct_this = Calls.construct_this-leads w owed asked held fresh receiver;
}
