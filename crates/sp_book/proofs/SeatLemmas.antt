-- What a seat knows after it looked for a notice.
use Rattle.std.proofs.Common.{◌≡◌, ℕ, Option, Some, None, ap}
use Rattle.std.specs.Prelude.{IfSome, IfNone}
use Rattle.sp_ready.specs.Notices.{Took}
use Rattle.sp_ready.specs.declared.rule.Known.{Known}

-- it has as many parts, and puts in as before
pub keeps : (taken : Option ℕ) (v w : Known) → IfSome taken (λ notice. Took v notice w) → IfNone taken (w ≡ v) → (w.parts ≡ v.parts) × (w.pushes ≡ v.pushes)
keeps (Some notice) v w took none = (ap (λ (k : Known). k.parts) took.2, ap (λ (k : Known). k.pushes) took.2)
keeps None v w took none = (ap (λ (k : Known). k.parts) none, ap (λ (k : Known). k.pushes) none)
