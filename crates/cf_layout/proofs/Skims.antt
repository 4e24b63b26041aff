-- Looking through items one after the other, as a loop does.
use Rattle.std.proofs.Common.{◌≡◌, ℕ, suc, ◌+◌, ◌-◌, ◌<◌, ◌≤◌, Option, Some, None, Result, Ok, refl, sym, ◌∙◌, arith}
use Rattle.cf_text.specs.declared.fault.ReadFault.{ReadFault}
use Rattle.cf_text.specs.declared.fault.ReadFault.TheVariants.{Broken, Memory}
use Rattle.cf_text.specs.Reading.{Fails}
use Rattle.cf_layout.specs.Codes.{and_then, skim_many}

-- Of `count` items `done` were looked through.
module _ (skim : ℕ → Result (Option ℕ) ReadFault) (count done at : ℕ) (all : Result (Option ℕ) ReadFault) (so_far : skim_many skim (count - done) at ≡ all) where
  skim-next : done < count → all ≡ and_then (skim at) (skim_many skim (count - (done + 1)))
  unfolding skim_many
  skim-next more =
      let left : count - done ≡ suc (count - (done + 1)) = omega arith in
      sym so_far ∙ rw left refl

  pub skim-goes_on : (after : ℕ) → done < count → skim at ≡ Ok (Some after) → skim_many skim (count - (done + 1)) after ≡ all
  skim-goes_on after more step = sym (skim-next more ∙ rw step refl)

  pub skim-ends : done < count → skim at ≡ Ok None → all ≡ Ok None
  skim-ends more step = skim-next more ∙ rw step refl

  pub skim-fails : (fault : ReadFault) → done < count → Fails (skim at) fault → Fails all fault
  skim-fails (Broken rule position) more fails = skim-next more ∙ rw fails refl
  skim-fails Memory more fails = tt

  pub skim-done : count ≤ done → all ≡ Ok (Some at)
  unfolding skim_many
  skim-done none =
      let left : count - done ≡ 0 = omega arith in
      sym so_far ∙ rw left refl
