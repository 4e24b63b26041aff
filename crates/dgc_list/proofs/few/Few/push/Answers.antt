use Rattle.std.proofs.Common.{◌++◌, ◌∷◌, [], List, ℕ, sym, ap, subst, ◌∙◌}
use Rattle.std.specs.List.{IsDistinct}
use Rattle.std.specs.Map.{keys_of}
use Rattle.std.specs.Str.{bytes_eq}
use Rattle.dgc_list.specs.declared.remembered.Remembered.{Remembered}
use Rattle.dgc_list.proofs.ClientsLemmas.{distinct-pushed}
use Rattle.dgc_list.proofs.few.Few.push.Goals as goal

pub invariant_of-self-2 : goal.invariant_of-self-2
invariant_of-self-2 c =
    let client = c.args.client.now in
    subst (λ (rows : List (List ℕ × Remembered)). IsDistinct bytes_eq (keys_of rows))
    (sym (c.push_reserved.ensures.items ∙ ap (λ (rows : List (List ℕ × Remembered)). rows ++ (client, c.args.remembered) ∷ []) c.reserve_exact.ensures.items))
    (distinct-pushed client c.args.remembered c.self.inside.rows.items c.self.invariant (rw (← c.self.view_is) at c.requires))
