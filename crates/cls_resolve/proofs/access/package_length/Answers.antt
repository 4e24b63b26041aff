use Rattle.std.proofs.Common.{take, sym, ap, ◌∙◌, arith}
use Rattle.cls_resolve.proofs.Packages.{other_byte, slash_byte}
use Rattle.cls_resolve.proofs.access.package_length.Goals as goal
use Rattle.cls_resolve.proofs.access.package_length.Goals.{then-byte-eq47, else-byte-eq47}

pub loop-index-preserved : goal.loop-index-preserved
loop-index-preserved c =
    let name = c.args.name.now in
    elim c.if-byte-eq47.branch [
      | then-byte-eq47 w ↦
          record {
            within = omega arith;
            so_far = slash_byte name c.loop-index.index c.loop-index-test.true w.if-byte-eq47.true ∙ ap (λ n. take n name) (sym w.end-is);
          }
      | else-byte-eq47 w ↦
          record {
            within = omega arith;
            so_far = other_byte name c.loop-index.index c.loop-index-test.true w.if-byte-eq47.false ∙ (c.loop-index.invariant.so_far ∙ ap (λ n. take n name) (sym w.end-is));
          }
    ]
