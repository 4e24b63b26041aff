use Rattle.std.proofs.Common.{sym, ◌∙◌}
use Rattle.dgc_list.proofs.ObjectsLemmas.{clients-added}
use Rattle.dgc_list.proofs.objects.Objects.add_object.Goals as goal

pub returns-in_ok-insert-clause-same : goal.returns-in_ok-insert-clause-same
returns-in_ok-insert-clause-same c = λ other.
    let absent = sym c.contains_key.ensures ∙ c.if-not-contains_key.true in
    rw (← c.self.view_is)
    (clients-added c.args.object c.self.inside.lists.entries c.insert.new.self.entries absent (rw c.new-clients.ensures at c.in_ok-insert.ensures.updates.0) other)
