use Rattle.vm_typing.proofs.Stubs
use Rattle.vm_typing.proofs.laws.stubs_lead.Goals as goal

pub returns : goal.returns
returns c = λ w owed asked held fresh receiver. record { ask_call = Stubs.ask_call-leads w owed asked held fresh receiver }
