use Rattle.std.proofs.Common.{◌<◌, add-one, arith, length, subst, sym}
use Rattle.std.specs.Prelude.{All}
use Rattle.std.proofs.lemmas.List.Elements.{All-push}
use Rattle.std.proofs.lemmas.Slice.Zip.{AllZip-long}
use Rattle.sp_digest.specs.Digests.{IsShort}
use Rattle.sp_class_digest.proofs.Naming.{found, zip-at, zip-next}
use Rattle.sp_class_digest.specs.ClassDigests.{HasName, IsNamed}
use Rattle.sp_class_digest.proofs.class_files.named_files.Goals as goal

-- there are as many names as files
pub bounds-names-index : goal.bounds-names-index
bounds-names-index c = omega (arith, c.loop-index-test.true, c.loop-index.auto.index-end, AllZip-long HasName c.args.files.now c.args.names.now c.requires)

pub named_file-requires : goal.named_file-requires
named_file-requires c =
    let files = c.args.files.now in
    let names = c.args.names.now in
    let at = c.loop-index.index in
    let within : at < length files = c.loop-index-test.true in
    let named : at < length names = omega (arith, within, AllZip-long HasName files names c.requires) in
    zip-at HasName files names at c.index-files-index.result c.index-names-index.result
    (found files at c.index-files-index.result within c.index-files-index.is) (found names at c.index-names-index.result named c.index-names-index.is) c.requires

pub loop-index-preserved : goal.loop-index-preserved
loop-index-preserved c =
    let files = c.args.files.now in
    let at = c.loop-index.index in
    let within : at < length files = c.loop-index-test.true in (
      subst (All IsShort) (sym (c.in_ok-push.ensures).items) (All-push IsShort c.loop-index.named.items c.named_file.result c.loop-index.invariant.0 (c.named_file.ensures).short),
      rw (add-one at, (c.in_ok-push.ensures).items)
          (zip-next IsNamed files at c.index-files-index.result c.loop-index.named.items c.named_file.result
          (found files at c.index-files-index.result within c.index-files-index.is) c.loop-index.invariant.1 (c.named_file.ensures).named),
    )
