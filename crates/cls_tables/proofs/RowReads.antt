-- Rows of what trees have: reading one.
use Rattle.std.proofs.Common.{◌≡◌, inl, inr, ℕ, ◌<◌, Some, None, List, [], length, get_or, map, refl, sym, ap, subst, ◌∙◌}
use Rattle.std.specs.Option.{unwrap_or}
use Rattle.std.specs.Prelude.{option_map, slice_get, slice_index_or}
use Rattle.std.proofs.lemmas.List.{length-map}
use Rattle.std.proofs.lemmas.Option.{get_or_from_slice_get, slice_get-get_or, slice_get-map}
use Rattle.cls_tables.specs.Rows.{AreRows, row_of}
use Rattle.cls_tables.specs.Trees.{find}
use Rattle.cls_tables.specs.declared.trees.Node.{Node}

-- an item of a mapped list is that of the list, mapped
mapped : {A B : Type 0} (f : A → B) (xs : List A) (i : ℕ) (d : A) → i < length xs → slice_get (map f xs) i ≡ Some (f (get_or xs i d))
mapped f xs i d within = slice_get-map f xs i ∙ ap (option_map f) (slice_get-get_or xs i d within)

module _ (levels : ℕ) (keys : List ℕ) (nodes : List Node) (roots : List ℕ) (rows : List (List ℕ)) (class : ℕ) (row : List ℕ) (are : AreRows levels keys nodes roots rows) (few : class < length roots) (there : slice_get rows class ≡ Some row) where
  row_is : row ≡ row_of nodes levels keys (slice_index_or roots class 0)
  row_is =
      elim are [
        | inl none ↦ let bad : None ≡ Some row = ap (λ (xs : List (List ℕ)). slice_get xs class) (sym none) ∙ there in cc
        | inr all ↦
            ap (λ o. unwrap_or o [])
            (sym there ∙ ap (λ (xs : List (List ℕ)). slice_get xs class) all ∙ mapped (row_of nodes levels keys) roots class 0 few)
      ]

  pub row_long : length row ≡ length keys
  row_long = ap length row_is ∙ length-map keys (find nodes levels (slice_index_or roots class 0))

  pub row_read : (method : ℕ) → method < length keys → slice_index_or row method 0 ≡ find nodes levels (slice_index_or roots class 0) (slice_index_or keys method 0)
  row_read method within =
      let f = find nodes levels (slice_index_or roots class 0) in
      ap (λ (xs : List ℕ). slice_index_or xs method 0) row_is ∙ get_or_from_slice_get (map f keys) method (f (get_or keys method 0)) 0 (mapped f keys method 0 within)
