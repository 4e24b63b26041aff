-- What is kept of entries of constant pools.
use Rattle.std.proofs.Common.{◌≡◌, ℕ, zero, suc, ◌++◌, Option, Some, None, List, [], ◌∷◌, sym, ap, ◌∙◌}
use Rattle.std.specs.Prelude.{slice_get}
use Rattle.cls_set.proofs.Hierarchy.{same_some}
use Rattle.cls_set.specs.declared.class.Class.{Class}
use Rattle.cls_resolve.specs.Entries.{AreKnown}
use Rattle.cls_resolve.specs.declared.known.KnownEntry.{KnownEntry}

nothing : (k : KnownEntry) → None ≡ Some (Some k) → ⊥
nothing k e = cc

pub none_known : (classes : List Class) (entries : List (Option KnownEntry)) → entries ≡ [] → AreKnown classes entries
none_known classes entries none = record { known = λ index k at. absurd (nothing k (sym (ap (λ xs. slice_get xs index) none) ∙ at)) }

pushed_none : (entries : List (Option KnownEntry)) (index : ℕ) (k : KnownEntry) → slice_get (entries ++ None ∷ []) index ≡ Some (Some k) → slice_get entries index ≡ Some (Some k)
pushed_none [] zero k e = absurd (let h : None ≡ Some k = same_some e in cc)
pushed_none [] (suc i) k e = e
pushed_none (x ∷ xs) zero k e = e
pushed_none (x ∷ xs) (suc i) k e = pushed_none xs i k e

-- room that is empty knows nothing more
pub room_made : (classes : List Class) (entries new : List (Option KnownEntry)) → AreKnown classes entries → new ≡ entries ++ None ∷ [] → AreKnown classes new
room_made classes entries new have is = record { known = λ index k at. have.known index k (pushed_none entries index k (sym (ap (λ xs. slice_get xs index) is) ∙ at)) }
