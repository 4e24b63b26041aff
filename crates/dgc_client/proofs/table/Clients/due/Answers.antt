use Rattle.std.proofs.Common.{List, [], refl, sym, ap, ◌∙◌}
use Rattle.dgc_client.specs.Groups.{grouped, in_order}
use Rattle.dgc_client.specs.declared.groups.DueCall.{DueCall}
use Rattle.dgc_client.proofs.TableLemmas.{due-calls}
use Rattle.dgc_client.proofs.table.Clients.due.Goals as goal

pub returns-then-rests-clause-groups : goal.returns-then-rests-clause-groups
returns-then-rests-clause-groups c = λ h was.
    c.new.ensures.items ∙ ap (λ (calls : List DueCall). grouped (in_order calls))
    (due-calls h c.args.self.now [] c.rests-rests.ensures.unique (sym (c.rests-rests.ensures.none c.if-rests.true was.sound)) was)
