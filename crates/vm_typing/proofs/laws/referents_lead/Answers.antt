use Rattle.vm_typing.proofs.Referents
use Rattle.vm_typing.proofs.laws.referents_lead.Goals as goal

pub returns : goal.returns
returns c = λ w owed asked held fresh receiver. record {
  on_receiver = Referents.receiver-leads w owed asked held fresh receiver;
  cast = Referents.cast-leads w owed asked held fresh receiver;
  answer = Referents.answer-leads w owed asked held fresh receiver;
  throw = Referents.throw-leads w owed asked held fresh receiver;
}
