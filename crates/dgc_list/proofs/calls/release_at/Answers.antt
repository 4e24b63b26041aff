use Rattle.std.proofs.Common.{sym, ap, ◌∙◌}
use Rattle.std.proofs.lemmas.Bool.{false≢true}
use Rattle.dgc_list.specs.Remembered.{is_blank}
use Rattle.dgc_list.specs.Clients.{is_known}
use Rattle.dgc_list.specs.Objects.{clients_at}
use Rattle.dgc_list.proofs.ReleaseLemmas.{alike-refl, alike-changed, or-blank}
use Rattle.dgc_list.proofs.calls.release_at.Goals as goal

pub returns-then-is_blank-clause-alike : goal.returns-then-is_blank-clause-alike
returns-then-is_blank-clause-alike c =
    let objects = c.args.objects.now in
    alike-changed c.args.id c.args.client.now c.get-remembered.result objects c.set.new.self c.get-remembered.ensures
    (c.set.ensures.here (or-blank (is_known (clients_at objects c.args.id) c.args.client.now) (is_blank c.get-remembered.result) (sym c.is_blank.ensures ∙ c.if-is_blank.true))) c.set.ensures.others

pub returns-then-is_blank-clause-taken : goal.returns-then-is_blank-clause-taken
returns-then-is_blank-clause-taken c = λ _. c.set.ensures.gone (sym c.is_blank.ensures ∙ c.if-is_blank.true)

pub returns-else-is_blank-clause-alike : goal.returns-else-is_blank-clause-alike
returns-else-is_blank-clause-alike c = λ other. alike-refl (clients_at c.args.objects.now other)

pub returns-else-is_blank-clause-taken : goal.returns-else-is_blank-clause-taken
returns-else-is_blank-clause-taken c = λ blank.
    absurd (false≢true (sym c.if-is_blank.false ∙ c.is_blank.ensures ∙ ap is_blank c.get-remembered.ensures ∙ blank))
