-- What a step of the code makes of a frame is what its definition makes (JVMS 4.10.1.9), unless memory ran out.
use Rattle.std.specs.Prelude.{◌≡◌, Result, Ok, Err}
use Rattle.ver_rules.specs.declared.fault.CheckRule.{CheckRule}
use Rattle.ver_check.specs.declared.stop.Stop.{Stop}
use Rattle.ver_check.specs.declared.stop.Stop.TheVariants.{Broken, Missing, Memory}

-- what a function made, seen by view, is what comes; or it stopped at the broken rule first
abbrev pub Makes : {X Y : Type 0} → (X → Y) → Result X Stop → Result Y CheckRule → Type 0
Makes view (Ok x) outcome = outcome ≡ Ok (view x)
Makes view (Err (Broken rule)) outcome = outcome ≡ Err rule
Makes view (Err (Missing index)) outcome = ⊥
Makes view (Err Memory) outcome = Unit {0}
