use Rattle.std.proofs.Common.{◌≡◌, Option, None, Some, sym, ◌∙◌}
use Rattle.sp_machines.specs.Players.{Played}
use Rattle.sp_lending.proofs.TaskLemmas.{level-with}
use Rattle.sp_lending.proofs.task_parts.TaskParts.go_on.Goals as goal

none-some : (p : Played) (o : Option Played) → o ≡ None → o ≡ Some p → ⊥
none-some p o none some = let e : None ≡ Some p = sym none ∙ some in absurd (cc)

pub unreachable-requires : goal.unreachable-requires
unreachable-requires c = let k = c.requires.known in none-some k.is.player _ c.in_default.is (c.take.ensures.value ∙ k.is.plays)

pub go-requires : goal.go-requires
go-requires c =
    let k = c.requires.known in
    record { known = record { setting = k.setting; is = level-with k.setting c.args.self.now (Some c.in-Some.player) (sym c.take.ensures.value ∙ c.in-Some.is) k.is } }

pub returns-clause-of : goal.returns-clause-of
returns-clause-of c = λ g is. c.go.ensures.of g (level-with g c.args.self.now (Some c.in-Some.player) (sym c.take.ensures.value ∙ c.in-Some.is) is)
