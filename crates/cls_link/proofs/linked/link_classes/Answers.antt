use Rattle.std.proofs.Common.{◌<◌, ◌∙◌, ◌++◌, length, take, sym, subst, arith}
use Rattle.std.specs.Prelude.{All}
use Rattle.std.specs.List.{AllZip}
use Rattle.std.proofs.lemmas.List.{length-append}
use Rattle.std.proofs.lemmas.List.Elements.{All-append}
use Rattle.std.proofs.lemmas.Option.{get_or_from_slice_get}
use Rattle.std.proofs.lemmas.Result.{err_from_is_err_and}
use Rattle.cls_set.specs.declared.class.Class.{Class}
use Rattle.cls_link.specs.LinkFaults.{IsFaultOf, IsLinkFault, IsSoundMethod}
use Rattle.cls_link.specs.Links.{declared_from, declared_in, IsLinked}
use Rattle.cls_link.proofs.Declarations.{class_fault, declared_class}
use Rattle.cls_link.proofs.MethodNumbers.{length_in, starts_pushed, zip_length}
use Rattle.cls_link.proofs.Sound.{only_memory}
use Rattle.cls_link.proofs.linked.link_classes.Goals as goal

pub returns-in_err-link_class-clause-fault : goal.returns-in_err-link_class-clause-fault
returns-in_err-link_class-clause-fault c =
    let p = err_from_is_err_and c.from_residual-in_err-link_class.result c.from_residual-in_err-link_class.ensures.1 in
    let classes = c.args.set.now in
    let n = c.loop-number.number in
    let here = get_or_from_slice_get classes n c.class.result.now c.class.result.now c.class.ensures in
    let within : n < length classes = omega (arith, c.len-number-end.ensures.count, c.loop-number-test.true) in
    let fault = c.in_err-link_class.field-0.0 in
    rw (p.1, p.2)
    (class_fault classes classes n c.class.result.now fault within c.loop-number.invariant.4
    (subst (λ (k : Class). IsFaultOf classes (declared_in (record { 0 = n }) k.file.name 0 k.file.methods) fault) (sym here) c.in_err-link_class.ensures.fault))

pub returns-in_err-link_class-clause-only : goal.returns-in_err-link_class-clause-only
returns-in_err-link_class-clause-only c =
    let p = err_from_is_err_and c.from_residual-in_err-link_class.result c.from_residual-in_err-link_class.ensures.1 in
    let classes = c.args.set.now in
    let n = c.loop-number.number in
    let here = get_or_from_slice_get classes n c.class.result.now c.class.result.now c.class.ensures in
    let within : n < length classes = omega (arith, c.len-number-end.ensures.count, c.loop-number-test.true) in
    let fault = c.in_err-link_class.field-0.0 in
    let named : IsLinkFault classes fault =
    class_fault classes classes n c.class.result.now fault within c.loop-number.invariant.4
    (subst (λ (k : Class). IsFaultOf classes (declared_in (record { 0 = n }) k.file.name 0 k.file.methods) fault) (sym here) c.in_err-link_class.ensures.fault) in
    λ sound. rw (p.1, p.2) (only_memory classes fault named sound)

pub loop-number-preserved : goal.loop-number-preserved
loop-number-preserved c =
    let classes = c.args.set.now in
    let n = c.loop-number.number in
    let here = get_or_from_slice_get classes n c.class.result.now c.class.result.now c.class.ensures in
    let within : n < length classes = omega (arith, c.len-number-end.ensures.count, c.loop-number-test.true) in
    let before = declared_from 0 (take n classes) in
    let linked : AllZip (IsLinked classes) (before ++ declared_in (record { 0 = n }) c.class.result.now.file.name 0 c.class.result.now.file.methods) c.link_class.new.methods.items =
    c.in_ok-link_class.ensures.linked before c.loop-number.invariant.0 in (
      subst (λ ds. AllZip (IsLinked classes) ds c.link_class.new.methods.items) (sym (declared_class classes n c.class.result.now within))
          (subst (λ (k : Class). AllZip (IsLinked classes) (before ++ declared_in (record { 0 = n }) k.file.name 0 k.file.methods) c.link_class.new.methods.items) (sym here) linked),
      starts_pushed classes classes n c.loop-number.first.items c.push.new.self.items c.len-in-loop-number.result c.loop-number.methods.items within c.loop-number.invariant.1 c.loop-number.invariant.0 (c.len-in-loop-number.ensures ∙ c.loop-number.methods.ok.0) c.in_ok-push.ensures.items,
      omega (arith, within),
      omega (arith, zip_length classes (before ++ declared_in (record { 0 = n }) c.class.result.now.file.name 0 c.class.result.now.file.methods) c.link_class.new.methods.items linked, length-append before (declared_in (record { 0 = n }) c.class.result.now.file.name 0 c.class.result.now.file.methods), zip_length classes before c.loop-number.methods.items c.loop-number.invariant.0, length_in (record { 0 = n }) c.class.result.now.file.name 0 c.class.result.now.file.methods, c.in_ok-link_class.ensures.few, c.loop-number.invariant.3),
      subst (All (IsSoundMethod classes)) (sym (declared_class classes n c.class.result.now within))
          (subst (λ (k : Class). All (IsSoundMethod classes) (before ++ declared_in (record { 0 = n }) k.file.name 0 k.file.methods)) (sym here)
          (All-append (IsSoundMethod classes) before (declared_in (record { 0 = n }) c.class.result.now.file.name 0 c.class.result.now.file.methods) c.loop-number.invariant.4 c.in_ok-link_class.ensures.sound)),
      c.in_ok-link_class.ensures.known,
    )
