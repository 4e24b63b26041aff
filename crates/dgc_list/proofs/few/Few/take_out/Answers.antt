use Rattle.std.proofs.Common.{◌≡◌, false, List, ℕ, Option, is_some, sym, ap, subst, ◌∙◌}
use Rattle.std.specs.List.{IsDistinct}
use Rattle.std.specs.Map.{keys_of}
use Rattle.std.specs.Str.{bytes_eq}
use Rattle.dgc_list.specs.declared.remembered.Remembered.{Remembered}
use Rattle.dgc_list.specs.Remembered.{blank}
use Rattle.dgc_list.specs.Clients.{is_known, Sets}
use Rattle.dgc_list.proofs.ClientsLemmas.{distinct-removed, gone-taken, sets-taken}
use Rattle.dgc_list.proofs.FewLemmas.{absent-at, stands-at}
use Rattle.dgc_list.proofs.few.Few.take_out.Goals as goal

pub invariant_of-self : goal.invariant_of-self
invariant_of-self c =
    let client = c.args.client.now in
    let rows = c.self.inside.rows.items in
    let here = stands-at client rows c.in-Some.index (rw (← c.self.view_is) at (sym c.index_of.ensures ∙ c.in-Some.is)) in
    subst (λ (es : List (List ℕ × Remembered)). IsDistinct bytes_eq (keys_of es)) (sym (c.remove.ensures.items ∙ here.removed))
    (distinct-removed client rows c.self.invariant)

pub returns-in-Some-clause-sets : goal.returns-in-Some-clause-sets
returns-in-Some-clause-sets c =
    let client = c.args.client.now in
    let rows = c.self.inside.rows.items in
    let here = stands-at client rows c.in-Some.index (rw (← c.self.view_is) at (sym c.index_of.ensures ∙ c.in-Some.is)) in
    rw (← c.self.view_is) (subst (λ (es : List (List ℕ × Remembered)). Sets client blank rows es) (sym (c.remove.ensures.items ∙ here.removed))
    (sets-taken client rows c.self.invariant))

pub returns-in-Some-clause-gone : goal.returns-in-Some-clause-gone
returns-in-Some-clause-gone c =
    let client = c.args.client.now in
    let rows = c.self.inside.rows.items in
    let here = stands-at client rows c.in-Some.index (rw (← c.self.view_is) at (sym c.index_of.ensures ∙ c.in-Some.is)) in
    subst (λ (es : List (List ℕ × Remembered)). is_known es client ≡ false) (sym (c.remove.ensures.items ∙ here.removed))
    (gone-taken client rows c.self.invariant)

pub returns-in_default-clause-sets : goal.returns-in_default-clause-sets
returns-in_default-clause-sets c =
    let client = c.args.client.now in
    let rows = c.self.inside.rows.items in
    let none = absent-at client rows (rw (← c.self.view_is) at (sym c.index_of.ensures ∙ c.in_default.is)) in
    rw (← c.self.view_is) (subst (λ (es : List (List ℕ × Remembered)). Sets client blank rows es) none.1 (sets-taken client rows c.self.invariant))

pub returns-in_default-clause-gone : goal.returns-in_default-clause-gone
returns-in_default-clause-gone c =
    ap (λ (o : Option Remembered). is_some o) (absent-at c.args.client.now c.args.self.now (sym c.index_of.ensures ∙ c.in_default.is)).0
