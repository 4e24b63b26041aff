use Rattle.std.proofs.Common.{◌∙◌, ◌+◌, arith, length, map, refl, subst, sym, take}
use Rattle.std.proofs.lemmas.Option.{slice_get_read}
use Rattle.sp_rules.specs.Worlds.{World, run}
use Rattle.sp_world.specs.Happenings.{happening_of}
use Rattle.sp_world.specs.Waitings.{IsWorld}
use Rattle.sp_world.proofs.RunLemmas.{all-made, none-made, of-err, of-ok, one-more}
use Rattle.sp_world.proofs.runs.run.Goals as goal

pub loop-made-init : goal.loop-made-init
loop-made-init g c = λ w h. subst (λ (v : World). IsWorld g.S.WorldSpace.is_space v c.args.world) (sym (none-made w)) h

pub returns-then-is_err-clause-unfinished : goal.returns-then-is_err-clause-unfinished
returns-then-is_err-clause-unfinished g c = λ w h.
    of-err c.event.result (sym c.is_err.ensures.value ∙ c.if-is_err.true) c.event.ensures.same (run w (take c.loop-made.made (map happening_of c.args.events.now))) (c.loop-made.invariant w h)

pub loop-made-preserved : goal.loop-made-preserved
loop-made-preserved g c = λ w h.
    let there = slice_get_read c.args.events.now (length c.args.events.now) c.loop-made.made c.index-events-made.result refl c.loop-made-test.true c.index-events-made.is in
    subst (λ (v : World). IsWorld g.S.WorldSpace.is_space v c.event.new.self)
    (sym (one-more w c.args.events.now c.loop-made.made (c.loop-made.made + 1) c.index-events-made.result there (omega arith)))
    (of-ok c.event.result (sym c.is_err.ensures.value ∙ c.if-is_err.false) c.event.ensures.happened (run w (take c.loop-made.made (map happening_of c.args.events.now))) (c.loop-made.invariant w h))

pub returns-in-Ok-clause-world : goal.returns-in-Ok-clause-world
returns-in-Ok-clause-world g c = λ w h.
    let all = all-made w c.args.events.now c.loop-made.made c.loop-made-test.false in
    subst (λ (v : World). IsWorld g.S.WorldSpace.is_space v c.settle.new.self) all (c.settle.ensures.same (run w (take c.loop-made.made (map happening_of c.args.events.now))) (c.loop-made.invariant w h))

pub returns-in-Err-clause-unfinished : goal.returns-in-Err-clause-unfinished
returns-in-Err-clause-unfinished g c = λ w h.
    let all = all-made w c.args.events.now c.loop-made.made c.loop-made-test.false in
    let these = all-made w c.args.events.now (length c.args.events.now) (omega arith) in
    subst (λ (v : World). IsWorld g.S.WorldSpace.is_space v c.settle.new.self) (all ∙ sym these) (c.settle.ensures.same (run w (take c.loop-made.made (map happening_of c.args.events.now))) (c.loop-made.invariant w h))
