use Rattle.std.proofs.Common.{◌≡◌, ◌+◌, ◌++◌, ◌∷◌, ◌∙◌, [], Bool, Ok, ap, not, refl, subst, sym, take}
use Rattle.std.proofs.lemmas.List.{take_more}
use Rattle.std.proofs.lemmas.Result.{err_from_is_err_and}
use Rattle.cf_text.specs.Demands.{verdict}
use Rattle.cf_text.specs.Reading.{Fails}
use Rattle.cf_text.proofs.Verdicts.{of_each-goes_on, of_each-fails, of_each-end}
use Rattle.cf_layout.specs.ReadInsides.{insides_of}
use Rattle.cf_layout.specs.declared.items.Member.{Member}
use Rattle.cf_reader.specs.Checks.{field_demands, field_demands_if}
use Rattle.cf_descriptors.specs.MemberKeys.{AreSeen, occurs}
use Rattle.cf_reader.proofs.members.check_each_field.Goals as goal

pub loop-field-init : goal.loop-field-init
loop-field-init c = record { judged = refl; seen = c.new-seen.ensures c.args.pool.now; known = c.new-known.ensures c.args.pool.now; names = c.new-names.ensures c.args.pool.now }

pub returns-in_err-check_field : goal.returns-in_err-check_field
returns-in_err-check_field c =
    let p = err_from_is_err_and c.from_residual-in_err-check_field.result c.from_residual-in_err-check_field.ensures.1 in
    let pool = c.args.pool.now in
    let fields = c.args.fields.now in
    let index = c.loop-field.field-index in
    let item = c.field-item.result in
    let fault = c.in_err-check_field.field-0.0 in
    let new : c.in_ok-is_new.is_new ≡ not (occurs pool (take index fields) item) = c.in_ok-is_new.ensures.value (take index fields) c.loop-field.invariant.seen in
    let fails = subst (λ (new : Bool). Fails (verdict (field_demands_if (insides_of c.args.bytes.now) pool c.args.class.bits new item)) fault) new c.in_err-check_field.ensures.value in
    rw (p.1, p.2) (of_each-fails (field_demands (insides_of c.args.bytes.now) pool c.args.class.bits fields) fields index item item c.loop-field-test.true (sym c.field-item.is) c.loop-field.invariant.judged fault fails)

pub loop-field-preserved : goal.loop-field-preserved
loop-field-preserved c =
    let pool = c.args.pool.now in
    let fields = c.args.fields.now in
    let index = c.loop-field.field-index in
    let item = c.field-item.result in
    let new : c.in_ok-is_new.is_new ≡ not (occurs pool (take index fields) item) = c.in_ok-is_new.ensures.value (take index fields) c.loop-field.invariant.seen in
    let holds = subst (λ (new : Bool). verdict (field_demands_if (insides_of c.args.bytes.now) pool c.args.class.bits new item) ≡ Ok tt) new c.in_ok-check_field.ensures.value in
    let grown : take (index + 1) fields ≡ take index fields ++ item ∷ [] = take_more fields index item c.loop-field-test.true ∙ ap (λ (m : Member). take index fields ++ m ∷ []) (sym c.field-item.is) in
    record {
      judged = of_each-goes_on (field_demands (insides_of c.args.bytes.now) pool c.args.class.bits fields) fields index item item c.loop-field-test.true (sym c.field-item.is) c.loop-field.invariant.judged holds;
      seen = subst (AreSeen pool c.add.new.self) (sym grown) (c.in_ok-is_new.ensures.added (take index fields) c.loop-field.invariant.seen);
      known = c.check_field.ensures.known;
      names = c.in_ok-check_field.ensures.names;
    }

pub returns : goal.returns
returns c =
    of_each-end (field_demands (insides_of c.args.bytes.now) c.args.pool.now c.args.class.bits c.args.fields.now) c.args.fields.now c.loop-field.field-index c.loop-field-test.false c.loop-field.invariant.judged
