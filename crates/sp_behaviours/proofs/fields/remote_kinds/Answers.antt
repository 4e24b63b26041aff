use Rattle.std.proofs.Common.{sym}
use Rattle.sp_behaviours.proofs.KeptKinds.{told_some}
use Rattle.sp_behaviours.proofs.fields.remote_kinds.Goals as goal

pub returns-clause-some : goal.returns-clause-some
returns-clause-some c =
    told_some c.args.program.now c.linked-linked.ensures.sound c.args.class c.field_kinds.result (sym c.if-not-is_remote.ensures) c.field_kinds.ensures
