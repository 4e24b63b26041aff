-- One of the rows of a table.
use Rattle.std.proofs.Common.{◌≡◌, ℕ, Bool, true, false, List, ◌∷◌, ◌++◌, refl, sym, ap, ◌∙◌, map}
use Rattle.std.specs.Prelude.{◌||◌}
use Rattle.std.specs.List.{list_any}
use Rattle.std.specs.Borrow.{Bor}
use Rattle.std.specs.Map.Iter.{deref_pair}
use Rattle.std.proofs.lemmas.List.Folds.{list_any-append}
use Rattle.sp_tasks.specs.Rows.{TaskRow}

-- the next of them is one
pub found-here : (p : ℕ × TaskRow → Bool) (ys : List (Bor ℕ × Bor TaskRow)) (y : Bor ℕ × Bor TaskRow) (it next all : List (ℕ × TaskRow))
    → it ≡ deref_pair y ∷ next → map deref_pair ys ++ it ≡ all → p (deref_pair y) ≡ true → true ≡ list_any p all
found-here p ys y it next all first whole here =
    sym (or-true (list_any p (map deref_pair ys))) ∙ (λ j. list_any p (map deref_pair ys) || (sym here j || list_any p next))
    ∙ sym (list_any-append p (map deref_pair ys) (deref_pair y ∷ next)) ∙ ap (λ rows. list_any p (map deref_pair ys ++ rows)) (sym first) ∙ ap (list_any p) whole
  where
    or-true : (b : Bool) → (b || true) ≡ true
    or-true true = refl
    or-true false = refl
