use Rattle.sp_rules.specs.References.{is_id_in}
use Rattle.sp_owner.proofs.OwnerLemmas.{bound-more, order-more}
use Rattle.sp_owner.proofs.sweeping.insert_bound.Goals as goal

pub loop-binding-preserved : goal.loop-binding-preserved
loop-binding-preserved c = (
  λ id. bound-more c.loop-binding.yielded c.in-Some.binding id (is_id_in c.args.needed.now id) (is_id_in c.loop-binding.needed id) (is_id_in c.insert.new.self id)
      (c.loop-binding.invariant.0 id) (c.in_ok-insert.ensures id),
  order-more c.loop-binding.yielded c.in-Some.binding c.loop-binding.binding-iterator c.next.new.self c.args.names.now.bindings c.in-Some.ensures.steps c.loop-binding.invariant.1,
)
