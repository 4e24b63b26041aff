use Rattle.std.proofs.Common.{◌<◌, length, subst, sym}
use Rattle.sp_class_digest.specs.ClassDigests.{HasNameIn, NamesClass}
use Rattle.sp_class_digest.proofs.Naming.{short-file}
use Rattle.sp_class_digest.proofs.class_files.named_file.Goals as goal

-- a class file has so few bytes
pub returns-clause-short : goal.returns-clause-short
returns-clause-short c =
    let named : NamesClass c.in-Bytes.bytes.items c.args.name.now = subst (λ content. HasNameIn content c.args.name.now) c.in-Bytes.is c.requires in
    subst (λ bytes. length bytes < 4294967296) (sym (c.deref.ensures).value) (short-file c.in-Bytes.bytes.items named.layout named.spells.laid_out)
