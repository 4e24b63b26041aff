use Rattle.std.proofs.Common.{◌≡◌, ℕ, List, length, subst, arith}
use Rattle.std.specs.Prelude.{IfOk}
use Rattle.std.proofs.lemmas.Result.{err_from_is_err_and}
use Rattle.cf_text.specs.Reading.{many}
use Rattle.cf_text.proofs.Loops.{many-goes_on, many-fails, many-end, many-long}
use Rattle.cf_layout.specs.declared.items.Member.{Member}
use Rattle.cf_layout.specs.Layouts.{member_at}
use Rattle.cf_layout.proofs.layout.read_members.Goals as goal

pub returns-in_err-member : goal.returns-in_err-member
returns-in_err-member c =
    let p = err_from_is_err_and c.from_residual.result c.from_residual.ensures.1 in
    let read = member_at c.args.bytes.now in
    rw (p.1, p.2) (many-fails read c.loop.members.items c.args.count c.loop.counter c.loop.position (many read c.args.count c.args.at) c.loop.invariant c.in_err-member.field-0.0 c.loop-test.true c.in_err-member.ensures)

pub loop-preserved : goal.loop-preserved
loop-preserved c =
    let read = member_at c.args.bytes.now in
    rw c.in_ok-push.ensures.items (many-goes_on read c.loop.members.items c.args.count c.loop.counter c.loop.position (many read c.args.count c.args.at) c.loop.invariant c.in_ok-member.member c.in_ok-member.after c.loop-test.true c.in_ok-member.ensures)

pub returns : goal.returns
returns c =
    let read = member_at c.args.bytes.now in
    rw c.new.ensures (many-end read c.loop.members.items c.args.count c.loop.counter c.loop.position (many read c.args.count c.args.at) c.loop.invariant c.loop-test.false)

pub new-requires : goal.new-requires
new-requires c =
    let read = member_at c.args.bytes.now in
    let all = many-end read c.loop.members.items c.args.count c.loop.counter c.loop.position (many read c.args.count c.args.at) c.loop.invariant c.loop-test.false in
    let long : length c.loop.members.items ≡ c.args.count = subst (λ r. IfOk {T = List Member × ℕ} r (λ x. length x.0 ≡ c.args.count)) all (many-long read c.args.count c.args.at) in
    omega (arith, long)
