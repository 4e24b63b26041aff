use Rattle.std.proofs.Common.{◌≡◌, Some, true, cond, refl, ap, sym, subst, ◌∙◌}
use Rattle.std.specs.Prelude.{is_some, nat_eq}
use Rattle.std.proofs.lemmas.Bool.{eq-eqb}
use Rattle.sp_space.specs.Machines.{machine_at}
use Rattle.sp_machines.proofs.BeginLemmas.{begins-level}
use Rattle.sp_space.proofs.BeginLemmas.{machine-made, may-begin, untouched-at}
use Rattle.sp_space.proofs.parts.Parts.begin.Goals as goal

-- the task begins
pub new-requires : goal.new-requires
new-requires c = let k = c.requires.known in record { begins = may-begin k.setting k.history c.args.self.now c.args.id c.args.record.now.past _ k.is c.requires.none }

pub returns-clause-stands : goal.returns-clause-stands
returns-clause-stands c = λ g h lives.
    let space = c.args.self.now in
    let player = c.in_ok-player.player in
    let t = lives.living in
    let is = lives.stands in
    let level = begins-level space.program.now g t player space.id c.args.record.now.past _ space.limits c.fuel.result is.of.plays is.of.id is.of.limits
    (untouched-at g h space c.args.id t is lives.lives c.requires.none) lives.same c.fuel.ensures refl c.in_ok-player.ensures.begins c.in_ok-player.ensures.program c.in_ok-player.ensures.never_stuck
    c.in_ok-player.ensures.new.0 c.in_ok-player.ensures.new.1 in
    machine-made g h space c.insert_reserved.new.self c.args.id t player is lives.lives level
    (λ other. c.insert_reserved.ensures other ∙ ap (λ m. cond (nat_eq c.args.id other) (Some player) m) (c.in_ok-reserve.ensures.same other))

pub returns-clause-machine : goal.returns-clause-machine
returns-clause-machine c =
    let player = c.in_ok-player.player in
    ap is_some (c.insert_reserved.ensures c.args.id ∙ ap (λ b. cond b (Some player) (machine_at c.args.id c.reserve.new.self)) (eq-eqb c.args.id c.args.id refl))
