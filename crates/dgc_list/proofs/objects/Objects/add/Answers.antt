use Rattle.std.proofs.Common.{◌≡◌, None, Some, is_some, ◌∙◌, ap}
use Rattle.std.specs.Map.{lookup}
use Rattle.std.proofs.lemmas.Bool.{false≢true}
use Rattle.dgc_list.specs.Objects.{is_same, clients_at}
use Rattle.dgc_list.proofs.ObjectsLemmas.{some-is, found-at, same-changed, same-trans, same-along}
use Rattle.dgc_list.proofs.objects.Objects.add.Goals as goal

pub unreachable-requires : goal.unreachable-requires
unreachable-requires c =
    let nothing : None ≡ lookup (is_same c.args.object) c.self.inside.lists.entries = c.in-None.ensures.value in
    let there = rw (← c.self.view_is) at c.in_ok-add_object.ensures.there in
    false≢true (ap is_some nothing ∙ there)

pub returns-clause-same : goal.returns-clause-same
returns-clause-same c = λ other.
    let found : Some c.in-Some.clients.now ≡ lookup (is_same c.args.object) c.self.inside.lists.entries = c.in-Some.ensures.value in
    let here = found-at c.self.inside.lists.entries c.args.object c.in-Some.clients.now found in
    let change = (c.get_mut.follows.holds c.add.new.self).3 (some-is _ _ found) in
    let same = same-changed c.args.object c.add.new.self c.self.inside.lists.entries (c.get_mut.follows.lender c.add.new.self).entries change.0 (rw here c.add.ensures.same) other in
    same-trans (clients_at c.args.self.now other) (clients_at c.self.inside.lists.entries other) (clients_at (c.get_mut.follows.lender c.add.new.self).entries other)
    (same-along (clients_at c.args.self.now other) (clients_at c.self.inside.lists.entries other) (rw c.self.view_is (c.in_ok-add_object.ensures.same other))) same
