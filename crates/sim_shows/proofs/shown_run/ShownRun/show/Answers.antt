use Rattle.std.proofs.Common.{◌∙◌, ◌++◌, ap}
use Rattle.sim_shows.proofs.ShownLemmas.{shown-more}
use Rattle.sim_shows.proofs.shown_run.ShownRun.show.Goals as goal

pub invariant_of-self-2 : goal.invariant_of-self-2
invariant_of-self-2 g c =
    shown-more g.S.WorldSpace.is_space g.S.Named.is_named c.world.result.now c.self.inside.run.spaces c.self.inside.run.events c.self.inside.steps.value c.of.result.value c.args.number c.args.name.now c.in-Some.space.now
    c.self.inside.text.items c.in_ok-lines.lines.items c.extend_from_slice.new.self.items c.self.invariant.0 c.self.invariant.1 c.world.ensures.run c.in-Some.ensures c.in_ok-lines.ensures
    (c.in_ok-extend_from_slice.ensures.items ∙ ap (λ l. c.self.inside.text.items ++ l) c.deref.ensures.value) c.of.ensures
