use Rattle.std.proofs.Common.{◌≡◌, ◌<◌, List, length, take, refl, sym, ap, arith, ◌∙◌}
use Rattle.std.specs.List.{list_any}
use Rattle.std.proofs.lemmas.List.{take_all}
use Rattle.sp_rules.specs.Holders.{fields_of}
use Rattle.sp_rules.specs.References.{is_reference_in, references_of}
use Rattle.sp_rules.specs.State.{Object, standing}
use Rattle.sp_holders.specs.Places.{fields_have}
use Rattle.sp_holders.proofs.AnyLemmas.{any-at, none-at}
use Rattle.sp_holders.proofs.fields.is_in_fields.Goals as goal

pub returns-then-is_in_object : goal.returns-then-is_in_object
returns-then-is_in_object c = λ g s is numbers.
    let r = c.args.reference.now in
    let os = standing s.store in
    let counted = c.len-count.ensures g s.store (c.store.ensures g s is) in
    let within : c.loop-index.index < length os = omega (arith, counted) in
    sym (any-at (λ (o : Object). is_reference_in (references_of (fields_of g s o)) r) (fields_have g s r) os c.loop-index.index within (λ o. refl) (sym (c.is_in_object.ensures g s is numbers) ∙ c.if-is_in_object.true))

pub loop-index-preserved : goal.loop-index-preserved
loop-index-preserved c = λ g s is numbers.
    let r = c.args.reference.now in
    let os = standing s.store in
    let counted = c.len-count.ensures g s.store (c.store.ensures g s is) in
    let within : c.loop-index.index < length os = omega (arith, counted) in
    none-at (λ (o : Object). is_reference_in (references_of (fields_of g s o)) r) (fields_have g s r) os c.loop-index.index within (λ o. refl) (c.loop-index.invariant g s is numbers)
    (sym (c.is_in_object.ensures g s is numbers) ∙ c.if-is_in_object.false)

pub returns : goal.returns
returns c = λ g s is numbers.
    let r = c.args.reference.now in
    let os = standing s.store in
    let counted = c.len-count.ensures g s.store (c.store.ensures g s is) in
    let all : take c.loop-index.index os ≡ os = take_all c.loop-index.index os (omega (arith, counted)) in
    sym (ap (λ (l : List Object). list_any (λ (o : Object). is_reference_in (references_of (fields_of g s o)) r) l) (sym all) ∙ c.loop-index.invariant g s is numbers)
