use Rattle.std.proofs.Common.{◌≡◌, ◌+◌, ◌++◌, ◌∷◌, ◌∙◌, [], Bool, Ok, ap, not, refl, subst, sym, take}
use Rattle.std.proofs.lemmas.List.{take_more}
use Rattle.std.proofs.lemmas.Result.{err_from_is_err_and}
use Rattle.cf_text.specs.Demands.{verdict}
use Rattle.cf_text.specs.Reading.{Fails}
use Rattle.cf_text.proofs.Verdicts.{of_each-goes_on, of_each-fails, of_each-end}
use Rattle.cf_layout.specs.ReadInsides.{insides_of}
use Rattle.cf_layout.specs.declared.items.Member.{Member}
use Rattle.cf_reader.specs.Checks.{method_demands, method_demands_if}
use Rattle.cf_descriptors.specs.MemberKeys.{AreSeen, occurs}
use Rattle.cf_reader.proofs.members.check_each_method.Goals as goal

pub loop-method-init : goal.loop-method-init
loop-method-init c = record { judged = refl; seen = c.new-seen.ensures c.args.pool.now; known = c.new-known.ensures c.args.pool.now; names = c.new-names.ensures c.args.pool.now }

pub returns-in_err-check_method : goal.returns-in_err-check_method
returns-in_err-check_method c =
    let p = err_from_is_err_and c.from_residual-in_err-check_method.result c.from_residual-in_err-check_method.ensures.1 in
    let pool = c.args.pool.now in
    let methods = c.args.methods.now in
    let index = c.loop-method.method-index in
    let item = c.method-item.result in
    let fault = c.in_err-check_method.field-0.0 in
    let new : c.in_ok-is_new.is_new ≡ not (occurs pool (take index methods) item) = c.in_ok-is_new.ensures.value (take index methods) c.loop-method.invariant.seen in
    let fails = subst (λ (new : Bool). Fails (verdict (method_demands_if (insides_of c.args.bytes.now) pool c.args.class.bits new item)) fault) new c.in_err-check_method.ensures.value in
    rw (p.1, p.2) (of_each-fails (method_demands (insides_of c.args.bytes.now) pool c.args.class.bits methods) methods index item item c.loop-method-test.true (sym c.method-item.is) c.loop-method.invariant.judged fault fails)

pub loop-method-preserved : goal.loop-method-preserved
loop-method-preserved c =
    let pool = c.args.pool.now in
    let methods = c.args.methods.now in
    let index = c.loop-method.method-index in
    let item = c.method-item.result in
    let new : c.in_ok-is_new.is_new ≡ not (occurs pool (take index methods) item) = c.in_ok-is_new.ensures.value (take index methods) c.loop-method.invariant.seen in
    let holds = subst (λ (new : Bool). verdict (method_demands_if (insides_of c.args.bytes.now) pool c.args.class.bits new item) ≡ Ok tt) new c.in_ok-check_method.ensures.value in
    let grown : take (index + 1) methods ≡ take index methods ++ item ∷ [] = take_more methods index item c.loop-method-test.true ∙ ap (λ (m : Member). take index methods ++ m ∷ []) (sym c.method-item.is) in
    record {
      judged = of_each-goes_on (method_demands (insides_of c.args.bytes.now) pool c.args.class.bits methods) methods index item item c.loop-method-test.true (sym c.method-item.is) c.loop-method.invariant.judged holds;
      seen = subst (AreSeen pool c.add.new.self) (sym grown) (c.in_ok-is_new.ensures.added (take index methods) c.loop-method.invariant.seen);
      known = c.check_method.ensures.known;
      names = c.in_ok-check_method.ensures.names;
    }

pub returns : goal.returns
returns c =
    of_each-end (method_demands (insides_of c.args.bytes.now) c.args.pool.now c.args.class.bits c.args.methods.now) c.args.methods.now c.loop-method.method-index c.loop-method-test.false c.loop-method.invariant.judged
