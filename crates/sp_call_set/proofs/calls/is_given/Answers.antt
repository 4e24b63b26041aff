use Rattle.std.proofs.Common.{◌∙◌}
use Rattle.sp_call_set.proofs.Given.{given_among, given_itself, given_none}
use Rattle.sp_call_set.proofs.calls.is_given.Goals as goal

pub returns-then-not-is_subtype : goal.returns-then-not-is_subtype
returns-then-not-is_subtype c = given_none c.args.set.now c.len-classes.ensures.set c.args.class c.args.declaring c.if-not-is_subtype.ensures

pub returns-then-is_subtype : goal.returns-then-is_subtype
returns-then-is_subtype c =
    given_itself c.args.set.now c.len-classes.ensures.set c.args.class c.args.declaring c.args.remote c.requires.remote c.requires.declaring c.if-not-is_subtype.ensures c.if-is_subtype.ensures

pub returns : goal.returns
returns c = c.is_one_between.ensures ∙ given_among c.args.set.now c.args.class c.args.declaring c.args.interfaces.now c.requires.interfaces
