use Rattle.std.proofs.Common.{List, ap, ◌∙◌}
use Rattle.sp_registry.specs.declared.registry.Binding.{Binding}
use Rattle.sp_registry.specs.Bindings.{lookup}
use Rattle.sp_registry.proofs.TableLemmas.{found}
use Rattle.sp_registry.proofs.table.Table.get.Goals as goal

pub returns : goal.returns
returns c =
    c.copied.ensures ∙ c.peek.ensures ∙ found c.args.name.now c.self.inside.rows.entries
    ∙ ap (λ (bs : List Binding). lookup bs c.args.name.now) c.self.view_is
