-- The tasks that a core lends.
use Rattle.std.proofs.Common.{◌≡◌, ℕ, Bool, true, false, cond, nat_eq, List, [], ◌∷◌, Option, None, Some, refl, sym, ap, ◌∙◌}
use Rattle.std.specs.Prelude.{is_some, ◌==◌, ◌||◌, option_map, unwrap_or}
use Rattle.std.specs.List.{list_any}
use Rattle.std.proofs.lemmas.Bool.{eqb-true}
use Rattle.sp_tasks.specs.Rows.{TaskRow, row_of}
use Rattle.sp_core.specs.Cores.{Lends, is_lent}
use Rattle.sp_core.specs.declared.space_core.SpaceCore.{SpaceCore}

abbrev flag : Option TaskRow → Bool
flag o = unwrap_or (option_map (λ (row : TaskRow). row.lent) o) false

-- the ids of rows of which this is so
abbrev those : (ℕ → Bool) → List (ℕ × TaskRow) → List ℕ
those is [] = []
those is (e ∷ es) = cond (is e.0) (e.0 ∷ those is es) (those is es)

none-at : (b c : Bool) → c ≡ false → cond b c false ≡ c
none-at true c e = refl
none-at false c e = sym e

any-in : (is : ℕ → Bool) (id : ℕ) (es : List (ℕ × TaskRow)) → list_any (◌==◌ id) (those is es) ≡ cond (is_some (row_of id es)) (is id) false
any-in is id [] = refl
any-in is id (e ∷ es) =
    elim (nat_eq id e.0) as (λ b. nat_eq id e.0 ≡ b → list_any (◌==◌ id) (cond (is e.0) (e.0 ∷ those is es) (those is es)) ≡ cond (is_some (cond b (Some e.1) (row_of id es))) (is id) false) [
      | true ↦ λ here.
          let same : is id ≡ is e.0 = ap is (eqb-true id e.0 here) in
          elim (is e.0) as (λ b. is e.0 ≡ b → list_any (◌==◌ id) (cond b (e.0 ∷ those is es) (those is es)) ≡ is id) [
            | true ↦ λ flagged. ap (λ b. b || list_any (◌==◌ id) (those is es)) here ∙ sym (same ∙ flagged)
            | false ↦ λ other. any-in is id es ∙ none-at (is_some (row_of id es)) (is id) (same ∙ other)
          ] refl
      | false ↦ λ apart.
          elim (is e.0) as (λ b. list_any (◌==◌ id) (cond b (e.0 ∷ those is es) (those is es)) ≡ cond (is_some (row_of id es)) (is id) false) [
            | true ↦ ap (λ b. b || list_any (◌==◌ id) (those is es)) apart ∙ any-in is id es
            | false ↦ any-in is id es
          ]
    ] refl

flagged : (o : Option TaskRow) → cond (is_some o) (flag o) false ≡ flag o
flagged None = refl
flagged (Some row) = refl

abbrev pub lent_ids : SpaceCore → List ℕ
lent_ids core = those (is_lent core) core.state.living.tasks.rows

-- there is a list of them
pub lends-those : (core : SpaceCore) → Lends core (lent_ids core)
lends-those core id = any-in (is_lent core) id core.state.living.tasks.rows ∙ flagged (row_of id core.state.living.tasks.rows)
