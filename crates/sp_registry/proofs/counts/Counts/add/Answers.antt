use Rattle.std.proofs.Common.{ℕ, ◌+◌, List, Some, sym, ap, ◌∙◌}
use Rattle.space_ids.specs.declared.ids.ObjId.{ObjId}
use Rattle.sp_registry.specs.Counts.{number_in}
use Rattle.sp_registry.proofs.CountsLemmas.{number-set}
use Rattle.sp_registry.proofs.counts.Counts.add.Goals as goal

pub returns-clause-ok : goal.returns-clause-ok
returns-clause-ok c = λ other.
    let count = c.get-count.ensures ∙ ap (λ (es : List (ObjId × ℕ)). number_in es c.args.object) (sym c.self.view_is) in
    rw (← c.self.view_is) (number-set c.args.object (Some (c.get-count.result + 1)) (λ n. n + 1) c.self.inside.counts.entries c.insert.new.self.entries
    (ap (λ n. n + 1) count) c.in_ok-insert.ensures.updates.0 other)
