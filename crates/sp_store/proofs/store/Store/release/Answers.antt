use Rattle.std.proofs.Common.{◌≡◌, Some, sym, ap, ◌∙◌}
use Rattle.std.specs.Map.{lookup}
use Rattle.indexmap.proofs.CallerLemmas.{updates-with_value_at}
use Rattle.sp_rules.specs.References.{is_id}
use Rattle.sp_store.specs.Instances.{Remote, after_release}
use Rattle.sp_store.proofs.StoreLemmas.{entry-at, holds-changed, none-from, objects-set, released-none, same-laws, stored-same}
use Rattle.sp_store.proofs.store.Store.release.Goals as goal

pub returns-in-Some-clause-released : goal.returns-in-Some-clause-released
returns-in-Some-clause-released c = λ other.
    let m = c.args.self.now.objects in
    let x = c.index_mut.result.now in
    let there : lookup (is_id c.args.id) m.entries ≡ Some x = sym c.in-Some.ensures.value ∙ c.index_mut.ensures.value in
    let entry = entry-at c.args.id m.entries c.in-Some.index x (sym c.in-Some.ensures.index) c.index_mut.ensures.value in
    holds-changed after_release m.entries _ c.args.id x c.release.new.self there (ap (λ (o : Remote). o.holds) c.release.ensures)
    (λ q. (updates-with_value_at m c.in-Some.index c.release.new.self same-laws c.in-Some.ensures.unique c.args.id x entry).0 q) other

pub returns-in-Some-clause-after : goal.returns-in-Some-clause-after
returns-in-Some-clause-after c = λ g h after.
    let m = c.args.self.now.objects in
    let x = c.index_mut.result.now in
    let there : lookup (is_id c.args.id) m.entries ≡ Some x = sym c.in-Some.ensures.value ∙ c.index_mut.ensures.value in
    let entry = entry-at c.args.id m.entries c.in-Some.index x (sym c.in-Some.ensures.index) c.index_mut.ensures.value in
    record {
      own = after.own;
      stored = stored-same g h c.args.self.now.last.0 m.entries _ c.args.id x c.release.new.self there (ap (λ (o : Remote). o.class) c.release.ensures) (ap (λ (o : Remote). o.fields) c.release.ensures)
          (objects-set m.entries c.in-Some.index c.args.id x c.release.new.self entry (ap (λ (o : Remote). o.class) c.release.ensures))
          (λ q. (updates-with_value_at m c.in-Some.index c.release.new.self same-laws c.in-Some.ensures.unique c.args.id x entry).0 q) after.stored;
    }

pub returns-in-None-clause-released : goal.returns-in-None-clause-released
returns-in-None-clause-released c = λ other.
    let rows = c.args.self.now.objects.entries in
    released-none rows c.args.id other (none-from (lookup (is_id c.args.id) rows) c.in-None.ensures.found)
