use Rattle.std.proofs.Common.{refl}
use Rattle.cls_resolve.specs.LinkRules.{Site}
use Rattle.cls_resolve.specs.declared.references.Asked.TheVariants as asked
use Rattle.cls_resolve.proofs.MemberChecks.{array_owner, no_entry, owner_absent}
use Rattle.cls_resolve.proofs.members.member_use.Goals as goal

pub returns-in-NoEntry-clause-broken : goal.returns-in-NoEntry-clause-broken
returns-in-NoEntry-clause-broken c =
    let site : Site = record { class = c.args.user; method = c.args.method.now; asked = asked.Member c.args.operation; index = c.args.index } in
    no_entry c.args.set.now site c.args.operation refl c.in-NoEntry.ensures.meaning

pub returns-in-OfArray-clause-broken : goal.returns-in-OfArray-clause-broken
returns-in-OfArray-clause-broken c =
    let site : Site = record { class = c.args.user; method = c.args.method.now; asked = asked.Member c.args.operation; index = c.args.index } in
    let at = c.in-OfArray.ensures.meaning in
    array_owner c.args.set.now site c.args.operation refl at.named at.entry at.array

pub returns-in-OfAbsent-clause-broken : goal.returns-in-OfAbsent-clause-broken
returns-in-OfAbsent-clause-broken c =
    let site : Site = record { class = c.args.user; method = c.args.method.now; asked = asked.Member c.args.operation; index = c.args.index } in
    let at = c.in-OfAbsent.ensures.meaning in
    owner_absent c.args.set.now site c.args.operation refl at.named at.entry at.plain at.absent
