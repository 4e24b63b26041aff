use Rattle.std.proofs.Common.{ap, ◌∙◌, arith}
use Rattle.dgc_client.specs.Groups.{in_order}
use Rattle.dgc_client.specs.Table.{references_in}
use Rattle.dgc_client.proofs.TableLemmas.{due-calls}
use Rattle.dgc_client.proofs.table.Clients.due_reserved.Goals as goal

pub put_in_order-requires : goal.put_in_order-requires
put_in_order-requires c =
    let few = c.find_due-again.ensures.few in
    let room = c.find_due-again.ensures.room (references_in c.args.self.now) c.requires in
    record { found = omega (arith, few, room.found); peers = omega (arith, few, room.peers); ordered = omega (arith, few, room.ordered) }

pub returns-clause-calls : goal.returns-clause-calls
returns-clause-calls c = λ h was.
    c.put_in_order.ensures.calls
    ∙ ap in_order (due-calls h c.args.self.now c.find_due-again.new.due.found.items c.find_due-again.ensures.unique (c.find_due-again.ensures.found was.sound) was)

pub returns-clause-kept : goal.returns-clause-kept
returns-clause-kept c = λ calls room. c.put_in_order.ensures.room calls (c.find_due-again.ensures.room calls room)
