use Rattle.sp_class_digest.proofs.Naming.{not-broken}
use Rattle.sp_class_digest.proofs.class_files.class_name.Goals as goal

-- bytes that spell a class are read
pub unreachable-requires : goal.unreachable-requires
unreachable-requires c =
    not-broken c.requires.0 c.in-Err-Broken.field-0 c.in-Err-Broken.field-0-0 c.in-Err-Broken.field-0-1
    (c.in-Err-Broken.ensures.only c.requires.1 c.requires.0 c.requires.2 c.requires.3) c.in-Err-Broken.field-0-is
