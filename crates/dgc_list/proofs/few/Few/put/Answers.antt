use Rattle.std.proofs.Common.{List, ℕ, Option, is_some, sym, ap, subst, ◌∙◌}
use Rattle.std.specs.List.{IsDistinct}
use Rattle.std.specs.Map.{keys_of}
use Rattle.std.specs.Str.{bytes_eq}
use Rattle.std.proofs.lemmas.Bool.{false≢true}
use Rattle.std.proofs.lemmas.Map.{keys-set_value}
use Rattle.dgc_list.specs.declared.remembered.Remembered.{Remembered}
use Rattle.dgc_list.specs.Clients.{Sets}
use Rattle.dgc_list.proofs.ClientsLemmas.{sets-put}
use Rattle.dgc_list.proofs.FewLemmas.{absent-at, stands-at, written-at}
use Rattle.dgc_list.proofs.few.Few.put.Goals as goal

pub unreachable-requires : goal.unreachable-requires
unreachable-requires c =
    let none = absent-at c.args.client.now c.args.self.now (sym c.index_of.ensures ∙ c.in-None.is) in
    false≢true (sym (ap (λ (o : Option Remembered). is_some o) none.0) ∙ c.requires.known)

pub invariant_of-self : goal.invariant_of-self
invariant_of-self c =
    let client = c.args.client.now in
    let rows = c.self.inside.rows.items in
    let here = stands-at client rows c.in-Some.index (rw (← c.self.view_is) at (sym c.index_of.ensures ∙ c.in-Some.is)) in
    let after = written-at client c.args.remembered rows c.in-Some.index c.index_mut.result.now here c.index_mut.ensures.value in
    subst (λ (es : List (List ℕ × Remembered)). IsDistinct bytes_eq (keys_of es)) (sym after)
    (rw (keys-set_value (bytes_eq client) rows c.args.remembered) c.self.invariant)

pub returns : goal.returns
returns c =
    let client = c.args.client.now in
    let rows = c.self.inside.rows.items in
    let here = stands-at client rows c.in-Some.index (rw (← c.self.view_is) at (sym c.index_of.ensures ∙ c.in-Some.is)) in
    let after = written-at client c.args.remembered rows c.in-Some.index c.index_mut.result.now here c.index_mut.ensures.value in
    let known = rw (← c.self.view_is) at c.requires.known in
    let kept = rw (← c.self.view_is) at c.requires.kept in
    rw (← c.self.view_is) (subst (λ (es : List (List ℕ × Remembered)). Sets client c.args.remembered rows es) (sym after)
    (sets-put client c.args.remembered rows c.self.invariant known kept))
