use Rattle.ver_frames.proofs.AssignableTests.{named_test}
use Rattle.ver_frames.proofs.assignability.is_named_object.Goals as goal

pub returns-clause-test : goal.returns-clause-test
returns-clause-test c = named_test c.args.classes.now c.args.class c.has_object_name.result c.has_object_name.ensures
