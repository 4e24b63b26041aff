use Rattle.std.proofs.Common.{◌≡◌, ◌-◌, ◌<◌, List, suc, length, get_or, map, reverse, arith, rules}
use Rattle.std.proofs.Common as Common
use Rattle.std.proofs.lemmas.Result.{err_from_is_err_and}
use Rattle.cf_text.specs.declared.types.FieldType.{FieldType}
use Rattle.ver_check.proofs.Makings.{next_argument, no_argument, step_goes, step_stops}
use Rattle.ver_check.specs.Members.{arguments_of, take_arguments}
use Rattle.ver_check.specs.Steps.{take, take_all}
use Rattle.ver_rules.specs.declared.want.Want.TheVariants as want
use Rattle.ver_frames.specs.Types.{field_vtype}
use Rattle.ver_check.proofs.body.BodyView.take_arguments.Goals as goal

pub loop-count-preserved : goal.loop-count-preserved
loop-count-preserved c =
    let body = c.args.self.now in
    let types : List FieldType = c.args.callee.now.types.parameters in
    let n = c.loop-count.count - 1 in
    let x = c.index.result.now in
    let total = take_arguments body c.args.callee.now c.args.frame.now in
    let rest = take_all body (reverse (map (field_vtype body.classes) (Common.take n types))) in
    let read = c.index.ensures in
    let method = c.deref.ensures in
    let at : x ≡ get_or types n x = first_of (cc, search rules, grind arith) in
    let next = next_argument body types c.loop-count.frame total c.loop-count.count n x (omega arith) (omega (arith, c.loop-count.invariant.within)) at c.loop-count.invariant.left in
    record {
      within = omega (arith, c.loop-count.invariant.within);
      left = step_goes (take body (want.Fits (field_vtype body.classes x)) c.loop-count.frame) total rest c.take_value.new.frame c.in_ok-take_value.ensures next;
    }

pub returns-in_err-take_value : goal.returns-in_err-take_value
returns-in_err-take_value c =
    let body = c.args.self.now in
    let types : List FieldType = c.args.callee.now.types.parameters in
    let n = c.loop-count.count - 1 in
    let x = c.index.result.now in
    let total = take_arguments body c.args.callee.now c.args.frame.now in
    let rest = take_all body (reverse (map (field_vtype body.classes) (Common.take n types))) in
    let read = c.index.ensures in
    let method = c.deref.ensures in
    let at : x ≡ get_or types n x = first_of (cc, search rules, grind arith) in
    let next = next_argument body types c.loop-count.frame total c.loop-count.count n x (omega arith) (omega (arith, c.loop-count.invariant.within)) at c.loop-count.invariant.left in
    let p = err_from_is_err_and c.from_residual.result c.from_residual.ensures.1 in
    rw (p.1, p.2) (step_stops c.in_err-take_value.field-0.0 (take body (want.Fits (field_vtype body.classes x)) c.loop-count.frame) total rest c.take_value.new.frame c.take_value.new.frame c.in_err-take_value.ensures next)

pub returns : goal.returns
returns c =
    no_argument c.args.self.now c.args.callee.now.types.parameters c.loop-count.frame (take_arguments c.args.self.now c.args.callee.now c.args.frame.now) c.loop-count.count (omega arith) c.loop-count.invariant.left
