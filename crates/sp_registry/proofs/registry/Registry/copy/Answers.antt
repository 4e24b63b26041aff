use Rattle.std.proofs.Common.{◌≡◌, List, ℕ, sym, ap, ◌∙◌, rules}
use Rattle.std.proofs.lemmas.List.Elements.{same_from_all_zip}
use Rattle.space_ids.specs.declared.ids.ObjId.{ObjId}
use Rattle.sp_registry.specs.declared.registry.Binding.{Binding}
use Rattle.sp_registry.specs.Counts.{count_of, number_in}
use Rattle.sp_registry.proofs.registry.Registry.copy.Goals as goal

pub invariant_of-result : goal.invariant_of-result
invariant_of-result c =
    let counts : c.in_ok-clone.field-0 ≡ c.self.inside.counts = search (rules, same_from_all_zip) in
    let table : c.in_ok-copy.field-0 ≡ c.self.inside.table = c.in_ok-copy.ensures in
    λ object. ap (λ (numbers : List (ObjId × ℕ)). number_in numbers object) counts ∙ c.self.invariant object ∙ sym (ap (λ (bindings : List Binding). count_of bindings object) table)
