use Rattle.vm_typing.proofs.Words
use Rattle.vm_typing.proofs.laws.words_lead.Goals as goal

pub returns : goal.returns
returns c = λ w owed asked held fresh receiver. record {
  constant = Words.constant-leads w owed asked held fresh receiver;
  null = Words.null-leads w owed asked held fresh receiver;
  load_local = Words.load_local-leads w owed asked held fresh receiver;
  store_top = Words.store_top-leads w owed asked held fresh receiver;
  increment = Words.increment-leads w owed asked held fresh receiver;
  pop_one = Words.pop_one-leads w owed asked held fresh receiver;
  pop_two = Words.pop_two-leads w owed asked held fresh receiver;
  dup = Words.dup-leads w owed asked held fresh receiver;
  dup_x1 = Words.dup_x1-leads w owed asked held fresh receiver;
  dup_x2 = Words.dup_x2-leads w owed asked held fresh receiver;
  dup2 = Words.dup2-leads w owed asked held fresh receiver;
  dup2_x1 = Words.dup2_x1-leads w owed asked held fresh receiver;
  dup2_x2 = Words.dup2_x2-leads w owed asked held fresh receiver;
  swap = Words.swap-leads w owed asked held fresh receiver;
  if_same = Words.if_same-leads w owed asked held fresh receiver;
  if_null = Words.if_null-leads w owed asked held fresh receiver;
  binary = Words.binary-leads w owed asked held fresh receiver;
  unary = Words.unary-leads w owed asked held fresh receiver;
  if_int = Words.if_int-leads w owed asked held fresh receiver;
  if_ints = Words.if_ints-leads w owed asked held fresh receiver;
  jump_to = Words.jump_to-leads w owed asked held fresh receiver;
  next = Words.next-leads w owed asked held fresh receiver;
  table_switch = Words.table_switch-leads w owed asked held fresh receiver;
  lookup_switch = Words.lookup_switch-leads w owed asked held fresh receiver;
}
