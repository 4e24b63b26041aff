use Rattle.std.proofs.Common.{List, ap, refl, take, ◌∙◌}
use Rattle.std.specs.Prelude.{◌||◌}
use Rattle.std.specs.List.{list_any}
use Rattle.indexmap.specs.IndexMap.{values}
use Rattle.space_ids.specs.declared.value.Value.{Value}
use Rattle.sp_rules.specs.References.{is_id_in, own_ids, references_of}
use Rattle.sp_store.specs.Instances.{Remote}
use Rattle.sp_store.proofs.StoreLemmas.{any-more, or-again}
use Rattle.sp_store.proofs.store.Store.insert_named.Goals as goal

pub loop-index-preserved : goal.loop-index-preserved
loop-index-preserved c = λ id.
    let own = c.args.self.now.own in
    let xs = values c.args.self.now.objects in
    let so_far = list_any (λ (x : Remote). is_id_in (own_ids own (references_of x.fields)) id) (take c.loop-index.index xs) in
    or-again (is_id_in c.args.named.now id) (is_id_in c.loop-index.named id) so_far (is_id_in c.insert_own.new.self id) (is_id_in (own_ids own (references_of c.index.result.now.fields)) id)
    (c.loop-index.invariant id)
    (c.in_ok-insert_own.ensures id
    ∙ ap (λ (fields : List Value). is_id_in c.loop-index.named id || is_id_in (own_ids own (references_of fields)) id) c.fields.ensures)
    ∙ ap (λ t. is_id_in c.args.named.now id || t) (any-more (λ (x : Remote). is_id_in (own_ids own (references_of x.fields)) id) xs c.loop-index.index c.index.result.now so_far c.index.ensures refl)
