use Rattle.sp_order_laws.proofs.TableLemmas
use Rattle.sp_order_laws.proofs.hellos.connections_begin_in_order.Goals as goal

pub returns : goal.returns
returns c = TableLemmas.connections_begin_in_order
