use Rattle.std.proofs.Common.{◌≡◌, Some, refl, ◌∙◌}
use Rattle.std.specs.Map.{lookup}
use Rattle.dgc_list.specs.Objects.{is_same}
use Rattle.dgc_list.proofs.ObjectsLemmas.{is_same-refl, some-is, found-at, changed-here, changed-other}
use Rattle.dgc_list.proofs.objects.Objects.set.Goals as goal

pub returns-then-is_empty-clause-others : goal.returns-then-is_empty-clause-others
returns-then-is_empty-clause-others c = λ other apart.
    let found : Some c.in-Some.clients.now ≡ lookup (is_same c.args.object) c.self.inside.lists.entries = c.in-Some.ensures.value in
    let change = (c.get_mut.follows.holds c.set.new.self).3 (some-is _ _ found) in
    rw (← c.self.view_is) (c.forget.ensures other ∙ rw apart (changed-other c.args.object c.set.new.self c.self.inside.lists.entries (c.get_mut.follows.lender c.set.new.self).entries change.0 other apart))

pub returns-else-is_empty-clause-here : goal.returns-else-is_empty-clause-here
returns-else-is_empty-clause-here c =
    let found : Some c.in-Some.clients.now ≡ lookup (is_same c.args.object) c.self.inside.lists.entries = c.in-Some.ensures.value in
    let here = found-at c.self.inside.lists.entries c.args.object c.in-Some.clients.now found in
    let change = (c.get_mut.follows.holds c.set.new.self).3 (some-is _ _ found) in
    let there = changed-here c.args.object c.set.new.self c.self.inside.lists.entries (c.get_mut.follows.lender c.set.new.self).entries change.0 in
    rw (← c.self.view_is, here, there) c.set.ensures.sets

pub returns-then-is_empty-clause-gone : goal.returns-then-is_empty-clause-gone
returns-then-is_empty-clause-gone c = λ _. rw (c.forget.ensures c.args.object, is_same-refl c.args.object) refl

pub returns-else-is_empty-clause-gone : goal.returns-else-is_empty-clause-gone
returns-else-is_empty-clause-gone c = λ blank.
    let found : Some c.in-Some.clients.now ≡ lookup (is_same c.args.object) c.self.inside.lists.entries = c.in-Some.ensures.value in
    let change = (c.get_mut.follows.holds c.set.new.self).3 (some-is _ _ found) in
    let there = changed-here c.args.object c.set.new.self c.self.inside.lists.entries (c.get_mut.follows.lender c.set.new.self).entries change.0 in
    rw there (c.set.ensures.gone blank)
