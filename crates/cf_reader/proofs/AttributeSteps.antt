-- Judging attributes one after the other, as a loop does.
use Rattle.std.proofs.Common.{◌≡◌, ℕ, ◌+◌, ◌<◌, ◌≤◌, Bool, false, ◌||◌, List, ◌∷◌, ◌++◌, length, get_or, drop, add-one, drop-cons, Ok, refl, sym, ap, ◌∙◌}
use Rattle.std.proofs.Math.ListN.{drop_of_length-le}
use Rattle.cf_text.specs.declared.fault.ReadFault.{ReadFault}
use Rattle.cf_pool.specs.declared.pool.Entry.{Entry}
use Rattle.cf_text.specs.Reading.{Fails}
use Rattle.cf_text.specs.Demands.{Demand, verdict}
use Rattle.cf_text.proofs.Verdicts.{verdict-goes_on, Fails-so_far}
use Rattle.cf_layout.specs.declared.items.Attribute.{Attribute}
use Rattle.cf_reader.specs.Checks.{attribute_demands, one_attribute}

-- what stands past the end of a row of attributes
abbrev pub nowhere : Attribute
nowhere = record { name = record { at = 0; value = 0 }; body = 0; end = 0 }

-- Of the attributes, those below an index keep their demands, and `seen` tells whether a known one is among them.
module _ (pool : List Entry) (is_known : Attribute → Bool) (inside : Attribute → List Demand) (attributes : List Attribute) (seen : Bool) (index : ℕ) (within : index < length attributes)
    (so_far : verdict (attribute_demands pool is_known inside seen (drop index attributes)) ≡ verdict (attribute_demands pool is_known inside false attributes)) where
  here : verdict (one_attribute pool is_known inside seen (get_or attributes index nowhere)
      ++ attribute_demands pool is_known inside (seen || is_known (get_or attributes index nowhere)) (drop (index + 1) attributes))
      ≡ verdict (attribute_demands pool is_known inside false attributes)
  unfolding attribute_demands
  here =
      let rest : drop index attributes ≡ get_or attributes index nowhere ∷ drop (index + 1) attributes = rw (add-one, drop-cons attributes index nowhere) refl in
      ap (λ left. verdict (attribute_demands pool is_known inside seen left)) (sym rest) ∙ so_far

  pub attributes-go_on : verdict (one_attribute pool is_known inside seen (get_or attributes index nowhere)) ≡ Ok tt
      → verdict (attribute_demands pool is_known inside (seen || is_known (get_or attributes index nowhere)) (drop (index + 1) attributes))
      ≡ verdict (attribute_demands pool is_known inside false attributes)
  attributes-go_on holds =
      verdict-goes_on (one_attribute pool is_known inside seen (get_or attributes index nowhere))
      (attribute_demands pool is_known inside (seen || is_known (get_or attributes index nowhere)) (drop (index + 1) attributes))
      (attribute_demands pool is_known inside false attributes) holds here

  pub attributes-fail : (fault : ReadFault) → Fails (verdict (one_attribute pool is_known inside seen (get_or attributes index nowhere))) fault
      → Fails (verdict (attribute_demands pool is_known inside false attributes)) fault
  attributes-fail fault fails =
      Fails-so_far (one_attribute pool is_known inside seen (get_or attributes index nowhere))
      (attribute_demands pool is_known inside (seen || is_known (get_or attributes index nowhere)) (drop (index + 1) attributes))
      (attribute_demands pool is_known inside false attributes) fault fails here

pub attributes-end : (pool : List Entry) (is_known : Attribute → Bool) (inside : Attribute → List Demand) (attributes : List Attribute) (seen : Bool) (index : ℕ) → length attributes ≤ index
    → verdict (attribute_demands pool is_known inside seen (drop index attributes)) ≡ verdict (attribute_demands pool is_known inside false attributes)
    → verdict (attribute_demands pool is_known inside false attributes) ≡ Ok tt
unfolding attribute_demands verdict
attributes-end pool is_known inside attributes seen index all so_far =
    sym so_far ∙ ap (λ left. verdict (attribute_demands pool is_known inside seen left)) (drop_of_length-le attributes all)
