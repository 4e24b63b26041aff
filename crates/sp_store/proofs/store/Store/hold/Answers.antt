use Rattle.std.proofs.Common.{◌≡◌, cond, Some, sym, ap, ◌∙◌}
use Rattle.std.specs.Map.{lookup}
use Rattle.indexmap.proofs.CallerLemmas.{updates-with_value_at}
use Rattle.sp_rules.specs.References.{is_id}
use Rattle.sp_store.specs.Instances.{Remote, after_hold}
use Rattle.sp_store.proofs.StoreLemmas.{absent, and-false, and-true, entry-at, held-by, holds-changed, none-from, objects-set, same-laws, stands, stored-same}
use Rattle.sp_store.proofs.store.Store.hold.Goals as goal

pub returns-in-Some-clause-held : goal.returns-in-Some-clause-held
returns-in-Some-clause-held c = λ g h other after.
    let m = c.args.self.now.objects in
    let x = c.index_mut.result.now in
    let there : lookup (is_id c.args.id) m.entries ≡ Some x = sym c.in-Some.ensures.value ∙ c.index_mut.ensures.value in
    let entry = entry-at c.args.id m.entries c.in-Some.index x (sym c.in-Some.ensures.index) c.index_mut.ensures.value in
    holds-changed after_hold m.entries _ c.args.id x c.hold.new.self there (ap (λ (o : Remote). o.holds) c.hold.ensures)
    (λ q. (updates-with_value_at m c.in-Some.index c.hold.new.self same-laws c.in-Some.ensures.unique c.args.id x entry).0 q) other
    ∙ ap (λ t. cond t (after_hold (held-by m.entries other)) (held-by m.entries other))
    (sym (and-true (is_id c.args.id other) _ (stands g h c.args.self.now.last.0 m.entries c.args.id x after.stored there)))

pub returns-in-Some-clause-after : goal.returns-in-Some-clause-after
returns-in-Some-clause-after c = λ g h after.
    let m = c.args.self.now.objects in
    let x = c.index_mut.result.now in
    let there : lookup (is_id c.args.id) m.entries ≡ Some x = sym c.in-Some.ensures.value ∙ c.index_mut.ensures.value in
    let entry = entry-at c.args.id m.entries c.in-Some.index x (sym c.in-Some.ensures.index) c.index_mut.ensures.value in
    record {
      own = after.own;
      stored = stored-same g h c.args.self.now.last.0 m.entries _ c.args.id x c.hold.new.self there (ap (λ (o : Remote). o.class) c.hold.ensures) (ap (λ (o : Remote). o.fields) c.hold.ensures)
          (objects-set m.entries c.in-Some.index c.args.id x c.hold.new.self entry (ap (λ (o : Remote). o.class) c.hold.ensures))
          (λ q. (updates-with_value_at m c.in-Some.index c.hold.new.self same-laws c.in-Some.ensures.unique c.args.id x entry).0 q) after.stored;
    }

pub returns-in-None-clause-held : goal.returns-in-None-clause-held
returns-in-None-clause-held c = λ g h other after.
    let rows = c.args.self.now.objects.entries in
    ap (λ t. cond t (after_hold (held-by rows other)) (held-by rows other))
    (sym (and-false (is_id c.args.id other) _ (absent g h c.args.self.now.last.0 rows c.args.id after.stored (none-from (lookup (is_id c.args.id) rows) c.in-None.ensures.found))))
