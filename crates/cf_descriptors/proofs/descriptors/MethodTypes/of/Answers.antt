use Rattle.std.proofs.Common.{◌∙◌, [], ◌∷◌, ◌++◌, get_or, take, sym, subst, ap}
use Rattle.std.specs.Prelude.{All}
use Rattle.std.proofs.lemmas.List.{take_all, take_more}
use Rattle.std.proofs.lemmas.List.Elements.{All-append, All-cons, All-nil}
use Rattle.cf_layout.specs.declared.items.Member.{Member}
use Rattle.cf_descriptors.specs.declared.descriptors.MethodTypes.{MethodTypes}
use Rattle.cf_descriptors.specs.Descriptors.{IsKnownIfRight}
use Rattle.cf_descriptors.proofs.descriptors.MethodTypes.of.Goals as goal

pub loop-method-preserved : goal.loop-method-preserved
loop-method-preserved c =
    let pool = c.args.pool.now in
    let new = c.note.new.self in
    let Is : MethodTypes → Member → Type 0 = λ types m. IsKnownIfRight pool types m.descriptor.value in
    let i = c.loop-method.method-index in
    let all = c.args.methods.now in
    let m = c.method-item.result in (
      c.note.ensures.known,
      subst (All (Is new)) (sym (take_more all i m c.loop-method-test.true ∙ ap (λ x. take i all ++ x ∷ []) (sym c.method-item.is)))
          (All-append (Is new) (take i all) (m ∷ [])
          (λ k d h text type named is. c.note.ensures.kept (get_or (take i all) k d).descriptor.value (c.loop-method.invariant.1 k d h text type named is))
          (All-cons (Is new) m [] c.in_ok-note.ensures.more (All-nil (Is new)))),
    )

pub returns-clause-all : goal.returns-clause-all
returns-clause-all c =
    let pool = c.args.pool.now in
    subst (All (λ (m : Member). IsKnownIfRight pool c.loop-method.types m.descriptor.value)) (take_all c.loop-method.method-index c.args.methods.now c.loop-method-test.false) c.loop-method.invariant.1
