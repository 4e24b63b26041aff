use Rattle.std.proofs.Common.{◌++◌, ◌∷◌, [], List, ℕ, sym, ap, subst, ◌∙◌}
use Rattle.dgc_list.specs.declared.remembered.Remembered.{Remembered}
use Rattle.dgc_list.specs.Remembered.{blank}
use Rattle.dgc_list.specs.Clients.{IsSame}
use Rattle.dgc_list.proofs.ClientsLemmas.{known-pushed, same-pushed}
use Rattle.dgc_list.proofs.clients.Clients.add.Goals as goal

pub returns-clause-known : goal.returns-clause-known
returns-clause-known c = rw c.in_ok-push.ensures.pushed (known-pushed c.args.client.now blank c.widen.new.self)

pub returns-clause-same : goal.returns-clause-same
returns-clause-same c =
    let client = c.args.client.now in
    subst (λ (es : List (List ℕ × Remembered)). IsSame c.args.self.now es)
    (sym (c.in_ok-push.ensures.pushed ∙ ap (λ (es : List (List ℕ × Remembered)). es ++ (client, blank) ∷ []) c.widen.ensures))
    (same-pushed client c.args.self.now)
