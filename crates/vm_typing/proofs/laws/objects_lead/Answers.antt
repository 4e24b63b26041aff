use Rattle.vm_typing.proofs.Asks
use Rattle.vm_typing.proofs.Objects
use Rattle.vm_typing.proofs.laws.objects_lead.Goals as goal

pub returns : goal.returns
returns c = λ w owed asked held fresh receiver. record {
  new_object = Objects.new_object-leads w owed asked held fresh receiver;
  create = Asks.create-leads w owed asked held fresh receiver;
  read_field = Asks.read_field-leads w owed asked held fresh receiver;
  write_field = Asks.write_field-leads w owed asked held fresh receiver;
  new_array = Objects.new_array-leads w owed asked held fresh receiver;
  array_load = Objects.array_load-leads w owed asked held fresh receiver;
  array_length = Objects.array_length-leads w owed asked held fresh receiver;
  array_store = Objects.array_store-leads w owed asked held fresh receiver;
}
