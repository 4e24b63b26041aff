use Rattle.std.proofs.Common.{◌≡◌, ◌<◌, List, length, take, sym, ap, arith, ◌∙◌}
use Rattle.std.specs.List.{list_any}
use Rattle.std.proofs.lemmas.List.{take_all}
use Rattle.space_ids.specs.declared.value.Value.{Value}
use Rattle.sp_rules.specs.References.{is_reference_in, reference_of}
use Rattle.sp_holders.proofs.AnyLemmas.{any-here, none-more}
use Rattle.sp_holders.proofs.PlaceLemmas.{any-value}
use Rattle.sp_holders.proofs.same.is_in.Goals as goal

pub returns-then-is_value : goal.returns-then-is_value
returns-then-is_value c =
    let r = c.args.reference.now in
    let vs = c.args.values.now in
    let i = c.loop-value.value-index in
    let within : i < length vs = omega arith in
    let is = λ (v : Value). is_reference_in (reference_of v) r in
    sym (sym (any-value r vs) ∙ any-here is vs i c.value-item.result within (sym (ap is c.value-item.is) ∙ sym c.is_value.ensures ∙ c.if-is_value.true))

pub loop-value-preserved : goal.loop-value-preserved
loop-value-preserved c =
    let r = c.args.reference.now in
    let vs = c.args.values.now in
    let i = c.loop-value.value-index in
    let within : i < length vs = omega arith in
    let is = λ (v : Value). is_reference_in (reference_of v) r in
    none-more is vs i c.value-item.result within c.loop-value.invariant (sym (ap is c.value-item.is) ∙ sym c.is_value.ensures ∙ c.if-is_value.false)

pub returns : goal.returns
returns c =
    let r = c.args.reference.now in
    let vs = c.args.values.now in
    let i = c.loop-value.value-index in
    let is = λ (v : Value). is_reference_in (reference_of v) r in
    let all : take i vs ≡ vs = take_all i vs (omega arith) in
    sym (sym (any-value r vs) ∙ ap (λ (l : List Value). list_any is l) (sym all) ∙ c.loop-value.invariant)
