-- Names of members that are kept by their indices.
use Rattle.std.proofs.Common.{◌≡◌, ◌∙◌, ℕ, Bool, true, false, cond, List, [], ◌∷◌, ◌++◌, Option, Some, None, Ok, refl, ap, subst, sym}
use Rattle.std.specs.Ordering.{is_eq, nat_cmp}
use Rattle.std.specs.BTreeSet.{BTreeSet, contains}
use Rattle.cf_text.specs.declared.fault.Rule.TheVariants as rules
use Rattle.cf_text.specs.Demands.{of_some, verdict}
use Rattle.cf_text.specs.Names.{is_method_name, is_name}
use Rattle.cf_pool.specs.declared.pool.Entry.{Entry}
use Rattle.cf_pool.specs.Pools.{named, utf8_at}
use Rattle.cf_reader.specs.Checks.{demand, method_name_demands}
use Rattle.cf_reader.specs.MemberNames.{IsFieldName, IsMethodName}
use Rattle.cf_reader.specs.Profile.{method_name_in_profile}
use Rattle.cf_descriptors.proofs.DescriptorsKept.{same_index}

-- demands that hold at one item hold at another
one_text : (fits : Bool) (a b : ℕ) → verdict (record { at = a; rule = rules.Utf8; holds = fits } ∷ record { at = a; rule = rules.Index; holds = true } ∷ []) ≡ Ok tt
    → verdict (record { at = b; rule = rules.Utf8; holds = fits } ∷ record { at = b; rule = rules.Index; holds = true } ∷ []) ≡ Ok tt
unfolding verdict
one_text true a b e = refl
one_text false a b e = absurd cc

two_texts : (fits in_profile : Bool) (a b : ℕ)
    → verdict (record { at = a; rule = rules.Utf8; holds = fits } ∷ record { at = a; rule = rules.Index; holds = true } ∷ record { at = a; rule = rules.OutOfProfile; holds = in_profile } ∷ []) ≡ Ok tt
    → verdict (record { at = b; rule = rules.Utf8; holds = fits } ∷ record { at = b; rule = rules.Index; holds = true } ∷ record { at = b; rule = rules.OutOfProfile; holds = in_profile } ∷ []) ≡ Ok tt
unfolding verdict
two_texts true true a b e = refl
two_texts true false a b e = absurd cc
two_texts false in_profile a b e = absurd cc

no_text : (a : ℕ) → verdict (record { at = a; rule = rules.Utf8; holds = true } ∷ record { at = a; rule = rules.Index; holds = false } ∷ []) ≡ Ok tt → ⊥
unfolding verdict
no_text a e = cc

field_text : (found : Option (List ℕ)) (a b : ℕ) → verdict (named a found is_name) ≡ Ok tt → verdict (named b found is_name) ≡ Ok tt
unfolding named
field_text (Some text) a b e = one_text (is_name text) a b e
field_text None a b e = absurd (no_text a e)

pub field_name : (pool : List Entry) (index a : ℕ) → verdict (named a (utf8_at pool index) is_name) ≡ Ok tt → IsFieldName pool index
field_name pool index a e b = field_text (utf8_at pool index) a b e

pub method_name : (pool : List Entry) (index a : ℕ) → verdict (method_name_demands pool (record { at = a; value = index })) ≡ Ok tt → IsMethodName pool index
unfolding method_name_demands named
method_name pool index a e b = by (utf8_at pool index) e
  where
    by : (found : Option (List ℕ)) → verdict (named a found is_method_name ++ of_some found (λ name. demand a rules.OutOfProfile (method_name_in_profile name))) ≡ Ok tt
        → verdict (named b found is_method_name ++ of_some found (λ name. demand b rules.OutOfProfile (method_name_in_profile name))) ≡ Ok tt
    by (Some text) e = two_texts (is_method_name text) (method_name_in_profile text) a b e
    by None e = absurd (no_text a e)

-- one more is kept
pub name_more : (P : ℕ → Type 0) (old new : BTreeSet ℕ) (name : ℕ) → ((other : ℕ) → contains nat_cmp new other ≡ cond (is_eq (nat_cmp name other)) true (contains nat_cmp old other)) → P name
    → ((index : ℕ) → contains nat_cmp old index ≡ true → P index) → (index : ℕ) → contains nat_cmp new index ≡ true → P index
name_more P old new name updates own was index has = by (is_eq (nat_cmp name index)) refl
  where
    by : (same : Bool) → is_eq (nat_cmp name index) ≡ same → P index
    by true same = subst P (same_index name index same) own
    by false differs = was index (sym (updates index ∙ ap (λ b. cond b true (contains nat_cmp old index)) differs) ∙ has)
