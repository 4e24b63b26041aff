use Rattle.std.proofs.Common.{◌∙◌, List, subst, sym}
use Rattle.std.proofs.lemmas.Iterator.Adapters.{YieldsList-from_vec}
use Rattle.std.proofs.lemmas.Iterator.Consumers.{YieldsList-end}
use Rattle.std.proofs.lemmas.List.{map-id}
use Rattle.sp_rules.specs.Classes.{Setting}
use Rattle.sp_rules.specs.Worlds.{new_world}
use Rattle.sp_world.specs.Waitings.{AreNew, IsWorld}
use Rattle.sp_world.proofs.EnterLemmas.{new-none, new-split}
use Rattle.sp_world.proofs.world.World.new.Goals as goal

pub loop-space-preserved : goal.loop-space-preserved
loop-space-preserved g c = record {
  world = λ settings a. let q = new-split g.S.WorldSpace.is_space settings c.loop-space.yielded c.in-Some.space a in
      subst (λ (l : List Setting). IsWorld g.S.WorldSpace.is_space (new_world l) c.add.new.self) (sym q.1.1.0) (c.in_ok-add.ensures.world q.0 q.1.0 (c.loop-space.invariant.world q.0 q.1.1.1.0) q.1.1.1.1);
  settled = c.in_ok-add.ensures.settled;
}

pub loop-space-init : goal.loop-space-init
loop-space-init g c = record {
  world = λ settings a. subst (λ (l : List Setting). IsWorld g.S.WorldSpace.is_space (new_world l) c.empty-world.result) (sym (new-none g.S.WorldSpace.is_space settings a)) c.empty-world.ensures.world;
  settled = c.empty-world.ensures.settled;
}

pub returns-clause-world : goal.returns-clause-world
returns-clause-world g c =
    let given = c.into_iter-space-iterator.ensures.into_iter_gives in
    let all = YieldsList-end (YieldsList-from_vec {s = c.into_iter-space-iterator.result} c.args.spaces.items given.0 (given.1 ∙ c.args.spaces.ok.0)) c.loop-space.yielded c.loop-space.space-iterator c.loop-space.yielded_by c.next.result c.next.new.self c.in-None.is c.next.ensures.steps in
    λ settings a. c.loop-space.invariant.world settings (subst (AreNew g.S.WorldSpace.is_space settings) (sym (sym (map-id c.loop-space.yielded) ∙ all.0)) a)
