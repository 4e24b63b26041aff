use Rattle.std.proofs.Common.{◌<◌, add-one, arith, length, subst, sym}
use Rattle.sp_class_digest.proofs.Naming.{found, zip-next}
use Rattle.sp_class_digest.specs.ClassDigests.{HasName, IsClassFile}
use Rattle.sp_class_digest.proofs.class_files.names_of.Goals as goal

pub name_of-requires : goal.name_of-requires
name_of-requires c =
    let within : c.loop-file.file-index < length c.args.files.now = omega (arith, c.loop-file-test.true, c.loop-file.auto.file-index-end) in
    subst IsClassFile (sym c.file-item.is) (c.requires c.loop-file.file-index c.file-item.result within)

pub loop-file-preserved : goal.loop-file-preserved
loop-file-preserved c =
    rw (add-one c.loop-file.file-index, (c.in_ok-push.ensures).items)
    (zip-next HasName c.args.files.now c.loop-file.file-index c.file-item.result c.loop-file.names.items c.in_ok-name_of.field-0
    (found c.args.files.now c.loop-file.file-index c.file-item.result (omega (arith, c.loop-file-test.true, c.loop-file.auto.file-index-end)) c.file-item.is) c.loop-file.invariant c.in_ok-name_of.ensures)
