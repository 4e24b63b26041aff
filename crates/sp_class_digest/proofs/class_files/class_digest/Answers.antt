use Rattle.sp_class_digest.proofs.Naming.{class-files}
use Rattle.sp_class_digest.proofs.class_files.class_digest.Goals as goal

pub names_of-requires : goal.names_of-requires
names_of-requires c = class-files c.args.files.now c.requires.1.classes c.requires.1.spelled
