use Rattle.std.proofs.Common.{◌≡◌, ◌++◌, ◌∷◌, [], List, ℕ, Option, is_some, sym, ap, subst, ◌∙◌}
use Rattle.std.specs.List.{IsDistinct}
use Rattle.std.specs.Map.{keys_of, remove_entry}
use Rattle.std.specs.Str.{bytes_eq}
use Rattle.std.proofs.lemmas.Bool.{false≢true}
use Rattle.dgc_list.specs.declared.remembered.Remembered.{Remembered}
use Rattle.dgc_list.specs.Clients.{Sets}
use Rattle.dgc_list.proofs.ClientsLemmas.{distinct-put_last, sets-put_last}
use Rattle.dgc_list.proofs.FewLemmas.{absent-at, stands-at}
use Rattle.dgc_list.proofs.few.Few.put_last.Goals as goal

pub unreachable-requires : goal.unreachable-requires
unreachable-requires c =
    let none = absent-at c.args.client.now c.args.self.now (sym c.index_of.ensures ∙ c.in-None.is) in
    false≢true (sym (ap (λ (o : Option Remembered). is_some o) none.0) ∙ c.requires.known)

pub invariant_of-self : goal.invariant_of-self
invariant_of-self c =
    let client = c.args.client.now in
    let rows = c.self.inside.rows.items in
    let here = stands-at client rows c.in-Some.index (rw (← c.self.view_is) at (sym c.index_of.ensures ∙ c.in-Some.is)) in
    let after : c.push_reserved.new.self.items ≡ remove_entry (bytes_eq client) rows ++ (client, c.args.remembered) ∷ [] =
    c.push_reserved.ensures.items ∙ ap (λ (es : List (List ℕ × Remembered)). es ++ (client, c.args.remembered) ∷ []) (c.remove.ensures.items ∙ here.removed) in
    subst (λ (es : List (List ℕ × Remembered)). IsDistinct bytes_eq (keys_of es)) (sym after)
    (distinct-put_last client c.args.remembered rows c.self.invariant)

pub returns : goal.returns
returns c =
    let client = c.args.client.now in
    let rows = c.self.inside.rows.items in
    let here = stands-at client rows c.in-Some.index (rw (← c.self.view_is) at (sym c.index_of.ensures ∙ c.in-Some.is)) in
    let after : c.push_reserved.new.self.items ≡ remove_entry (bytes_eq client) rows ++ (client, c.args.remembered) ∷ [] =
    c.push_reserved.ensures.items ∙ ap (λ (es : List (List ℕ × Remembered)). es ++ (client, c.args.remembered) ∷ []) (c.remove.ensures.items ∙ here.removed) in
    let none = rw (← c.self.view_is) at c.requires.none in
    rw (← c.self.view_is) (subst (λ (es : List (List ℕ × Remembered)). Sets client c.args.remembered rows es) (sym after)
    (sets-put_last client c.args.remembered rows c.self.invariant none c.requires.set))
