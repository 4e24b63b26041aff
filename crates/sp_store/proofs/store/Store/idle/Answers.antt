use Rattle.std.proofs.Common.{ap, ◌∙◌}
use Rattle.std.specs.Prelude.{◌||◌}
use Rattle.sp_rules.specs.References.{is_id_in}
use Rattle.sp_store.specs.Stores.{holds_of}
use Rattle.sp_store.proofs.StoreLemmas.{idle-after, if-ok, named-after}
use Rattle.sp_store.proofs.store.Store.idle.Goals as goal

pub returns : goal.returns
returns c =
    let rows = c.args.self.now.objects.entries in
    if-ok c.idle_beside.result _ _ (λ ids is. λ g h after.
    is ∙ idle-after g h c.args.self.now.last.0 rows (holds_of c.args.self.now) c.args.needed (is_id_in c.insert_named.new.named) after.stored
    (λ id. c.in_ok-insert_named.ensures id ∙ ap (λ t. is_id_in c.args.needed id || t) (named-after g h c.args.self.now.last.0 rows c.args.self.now.own after.own after.stored c.idle_beside.ensures.unique id))) c.idle_beside.ensures.idle
