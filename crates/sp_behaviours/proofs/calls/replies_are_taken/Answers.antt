use Rattle.sp_behaviours.proofs.TakenLemmas
use Rattle.sp_behaviours.proofs.calls.replies_are_taken.Goals as goal

pub returns-clause-calls : goal.returns-clause-calls
returns-clause-calls c = TakenLemmas.call_replies_are_taken

pub returns-clause-store : goal.returns-clause-store
returns-clause-store c = TakenLemmas.store_replies_are_taken
