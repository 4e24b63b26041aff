use Rattle.sp_order_laws.proofs.DeliveryLemmas
use Rattle.sp_order_laws.proofs.worlds.what_comes_was_sent.Goals as goal

pub returns : goal.returns
returns c = DeliveryLemmas.what_comes_was_sent
