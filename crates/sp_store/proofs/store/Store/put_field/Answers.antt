use Rattle.std.proofs.Common.{◌≡◌, List, Option, None, Some, slice_get, rules, sym, ap, ◌∙◌}
use Rattle.std.specs.Prelude.{option_map, option_and_then}
use Rattle.std.specs.Map.{lookup}
use Rattle.std.proofs.lemmas.Option.{slice_get_within}
use Rattle.indexmap.proofs.CallerLemmas.{updates-with_value_at}
use Rattle.space_ids.specs.declared.value.Value.{Value}
use Rattle.sp_rules.specs.References.{is_id}
use Rattle.sp_store.specs.Instances.{Remote}
use Rattle.sp_store.proofs.StoreLemmas.{cond-same, entry-at, field-at, held-by, holds-changed, if-none, if-some, none-from, objects-set, same-laws, stored-put, stored-same}
use Rattle.sp_store.proofs.store.Store.put_field.Goals as goal

pub returns-in_err-index-clause-had : goal.returns-in_err-index-clause-had
returns-in_err-index-clause-had c = λ g h after.
    let none : c.from_residual.result ≡ None = search rules in
    let rows = c.args.self.now.objects.entries in
    none
    ∙ ap (λ (o : Option Remote). option_and_then (λ (fields : List Value). slice_get fields c.args.slot) (option_map (λ (x : Remote). x.fields) o)) (sym (none-from (lookup (is_id c.args.id) rows) c.in_err-index.ensures.found))
    ∙ field-at g h _ rows after.stored c.args.id c.args.slot

pub returns-clause-had : goal.returns-clause-had
returns-clause-had c = λ g h after.
    let rows = c.args.self.now.objects.entries in
    let there : lookup (is_id c.args.id) rows ≡ Some c.index_mut.result.now = sym c.in_ok-index.ensures.value ∙ c.index_mut.ensures.value in
    c.put.ensures.had
    ∙ ap (λ (o : Option Remote). option_and_then (λ (fields : List Value). slice_get fields c.args.slot) (option_map (λ (x : Remote). x.fields) o)) (sym there)
    ∙ field-at g h _ rows after.stored c.args.id c.args.slot

pub returns-clause-written : goal.returns-clause-written
returns-clause-written c =
    let m = c.args.self.now.objects in
    let x = c.index_mut.result.now in
    let there : lookup (is_id c.args.id) m.entries ≡ Some x = sym c.in_ok-index.ensures.value ∙ c.index_mut.ensures.value in
    let entry = entry-at c.args.id m.entries c.in_ok-index.index x (sym c.in_ok-index.ensures.index) c.index_mut.ensures.value in
    if-some c.put.result _ _ (λ v is fields. λ g h after. record {
      own = after.own;
      stored = stored-put g h c.args.self.now.last.0 m.entries _ c.args.id c.args.slot c.args.value x c.put.new.self there c.put.ensures.class fields
          (slice_get_within x.fields c.args.slot v (sym c.put.ensures.had ∙ is))
          (objects-set m.entries c.in_ok-index.index c.args.id x c.put.new.self entry c.put.ensures.class)
          (λ q. (updates-with_value_at m c.in_ok-index.index c.put.new.self same-laws c.in_ok-index.ensures.unique c.args.id x entry).0 q) after.stored;
    }) c.put.ensures.fields

pub returns-clause-unchanged : goal.returns-clause-unchanged
returns-clause-unchanged c =
    let m = c.args.self.now.objects in
    let x = c.index_mut.result.now in
    let there : lookup (is_id c.args.id) m.entries ≡ Some x = sym c.in_ok-index.ensures.value ∙ c.index_mut.ensures.value in
    let entry = entry-at c.args.id m.entries c.in_ok-index.index x (sym c.in_ok-index.ensures.index) c.index_mut.ensures.value in
    if-none c.put.result _ _ (λ same. λ g h after. record {
      own = after.own;
      stored = stored-same g h c.args.self.now.last.0 m.entries _ c.args.id x c.put.new.self there c.put.ensures.class (ap (λ (o : Remote). o.fields) same)
          (objects-set m.entries c.in_ok-index.index c.args.id x c.put.new.self entry c.put.ensures.class)
          (λ q. (updates-with_value_at m c.in_ok-index.index c.put.new.self same-laws c.in_ok-index.ensures.unique c.args.id x entry).0 q) after.stored;
    }) c.put.ensures.unchanged

pub returns-clause-holds : goal.returns-clause-holds
returns-clause-holds c = λ other.
    let m = c.args.self.now.objects in
    let x = c.index_mut.result.now in
    let there : lookup (is_id c.args.id) m.entries ≡ Some x = sym c.in_ok-index.ensures.value ∙ c.index_mut.ensures.value in
    let entry = entry-at c.args.id m.entries c.in_ok-index.index x (sym c.in_ok-index.ensures.index) c.index_mut.ensures.value in
    holds-changed (λ n. n) m.entries _ c.args.id x c.put.new.self there c.put.ensures.holds
    (λ q. (updates-with_value_at m c.in_ok-index.index c.put.new.self same-laws c.in_ok-index.ensures.unique c.args.id x entry).0 q) other
    ∙ cond-same (is_id c.args.id other) (held-by m.entries other)
