use Rattle.std.proofs.Common.{◌≡◌, ◌<◌, get_or, length, take, ap, ◌∙◌, arith}
use Rattle.std.proofs.lemmas.Bool.Decides.{nat_tests}
use Rattle.cls_set.proofs.Overrides.{package_slash, package_other}
use Rattle.cls_set.proofs.inheriting.package_name.Goals as goal
use Rattle.cls_set.proofs.inheriting.package_name.Goals.{then-byte-eq47, else-byte-eq47}

pub loop-index-preserved : goal.loop-index-preserved
loop-index-preserved c =
    let name = c.args.name.now in
    let i = c.loop-index.index in
    let h : i < length name = omega arith in
    elim c.if-byte-eq47.branch [
      | then-byte-eq47 w ↦
          let slash : get_or name i 0 ≡ 47 = w.if-byte-eq47.true in
          (omega (arith, w.end-is), ap (λ n. take n name) w.end-is ∙ package_slash name i h slash)
      | else-byte-eq47 w ↦
          let other : get_or name i 0 ≡ 47 → ⊥ = w.if-byte-eq47.false in
          (omega (arith, w.end-is, c.loop-index.invariant.0), ap (λ n. take n name) w.end-is ∙ (c.loop-index.invariant.1 ∙ package_other name i h (grind (arith, nat_tests))))
    ]
