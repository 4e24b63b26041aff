use Rattle.std.proofs.Common.{◌≡◌, ◌≤◌, ◌-◌, List, length, sym, subst, arith, ◌∙◌}
use Rattle.std.specs.Prelude.{codes, option_map, slice_get}
use Rattle.std.specs.List.Sorted.{IsStrictlySortedBy}
use Rattle.cls_order.specs.Classes.{name_cmp, names, number_of}
use Rattle.std.proofs.lemmas.Result.{err_from_is_err_and}
use Rattle.cf_reader.specs.declared.class_file.ClassFile.{ClassFile}
use Rattle.cls_order.specs.declared.fault.SetRule.TheVariants.{TooMany}
use Rattle.cls_order.specs.Building.{origins_of}
use Rattle.cls_set.specs.ClassRules.{AreFacts, IsFirstRuleFault, KeepBelow}
use Rattle.cls_order.specs.Entries.{classes_of, AreArranged, HaveTables}
use Rattle.cls_set.specs.declared.remote.MemberKind.TheVariants.{Fields, Methods}
use Rattle.cls_set.specs.Orders.{AreKept, HaveOrders}
use Rattle.cls_order.specs.FaultNames.{set_rule_number}
use Rattle.cls_order.specs.Sets.{HasClasses, IsClassSet}
use Rattle.cls_set.proofs.Arranged.{are_entries, few_held, has_classes, make_a_set, many_fault, rule_fault}
use Rattle.cls_set.proofs.Numbering.{within_few}
use Rattle.cls_order.proofs.Supertypes.{are_within}
use Rattle.cls_set.proofs.Turns.{only_memory}
use Rattle.cls_set.proofs.class_set.ClassSet.of_files.Goals as goal

pub returns-in_err-entries-clause-only : goal.returns-in_err-entries-clause-only
returns-in_err-entries-clause-only c = λ make.
    let p = err_from_is_err_and c.from_residual-in_err-entries.result c.from_residual-in_err-entries.ensures.1 in
    rw (p.1, p.2) (only_memory c.args.files.items make c.in_err-entries.field-0.0 (c.in_err-entries.ensures.fault))

pub find_facts-requires : goal.find_facts-requires
find_facts-requires c = subst AreArranged (sym c.as_slice-2.ensures.value) c.in_ok-entries.ensures.classes.known

pub refuse_broken-requires-clause-arranged : goal.refuse_broken-requires-clause-arranged
refuse_broken-requires-clause-arranged c = subst AreArranged (sym c.as_slice-3.ensures.value) c.in_ok-entries.ensures.classes.known

pub refuse_broken-requires-clause-facts : goal.refuse_broken-requires-clause-facts
refuse_broken-requires-clause-facts c = subst (λ ms. AreFacts ms c.in_ok-facts.facts) (sym c.as_slice-3.ensures.value) (subst (λ ms. AreFacts ms c.in_ok-facts.facts) c.as_slice-2.ensures.value c.in_ok-facts.ensures)

pub returns-in_err-refuse_broken-clause-only : goal.returns-in_err-refuse_broken-clause-only
returns-in_err-refuse_broken-clause-only c = λ make.
    let p = err_from_is_err_and c.from_residual-in_err-refuse_broken.result c.from_residual-in_err-refuse_broken.ensures.1 in
    let files = c.args.files.items in
    let entries = c.in_ok-entries.entries.items in
    let of = c.in_ok-entries.ensures.classes in
    rw (p.1, p.2) (only_memory c.args.files.items make c.in_err-refuse_broken.field-0.0 (rule_fault files entries of c.in_err-refuse_broken.field-0.0 (subst (λ ms. IsFirstRuleFault (origins_of ms) c.in_err-refuse_broken.field-0.0) c.as_slice-3.ensures.value c.in_err-refuse_broken.ensures.fault)))

pub returns-in_err-refuse_broken-clause-fault : goal.returns-in_err-refuse_broken-clause-fault
returns-in_err-refuse_broken-clause-fault c =
    let p = err_from_is_err_and c.from_residual-in_err-refuse_broken.result c.from_residual-in_err-refuse_broken.ensures.1 in
    let files = c.args.files.items in
    let entries = c.in_ok-entries.entries.items in
    let of = c.in_ok-entries.ensures.classes in
    rw (p.1, p.2) (rule_fault files entries of c.in_err-refuse_broken.field-0.0 (subst (λ ms. IsFirstRuleFault (origins_of ms) c.in_err-refuse_broken.field-0.0) c.as_slice-3.ensures.value c.in_err-refuse_broken.ensures.fault))

pub returns-in_err-refuse_many-clause-only : goal.returns-in_err-refuse_many-clause-only
returns-in_err-refuse_many-clause-only c = λ make.
    let p = err_from_is_err_and c.from_residual-in_err-refuse_many.result c.from_residual-in_err-refuse_many.ensures.1 in
    let files = c.args.files.items in
    let entries = c.in_ok-entries.entries.items in
    let of = c.in_ok-entries.ensures.classes in
    let before = subst (λ ms. KeepBelow (origins_of ms) (set_rule_number TooMany)) c.as_slice-3.ensures.value c.in_ok-refuse_broken.ensures.ok in
    let last = subst (λ (fs : List ClassFile). c.in_ok-last.last ≡ option_map (λ (file : ClassFile). file.name) (slice_get fs (length fs - 1))) c.as_slice.ensures.value c.in_ok-last.ensures in
    let fault = c.in_err-refuse_many.ensures.fault in
    rw (p.1, p.2) (only_memory c.args.files.items make c.in_err-refuse_many.field-0.0 (many_fault files entries of before c.in_ok-last.last last c.in_err-refuse_many.field-0.0 (let over = fault.0 in omega (arith, over)) fault.1 fault.2))

pub returns-in_err-refuse_many-clause-fault : goal.returns-in_err-refuse_many-clause-fault
returns-in_err-refuse_many-clause-fault c =
    let p = err_from_is_err_and c.from_residual-in_err-refuse_many.result c.from_residual-in_err-refuse_many.ensures.1 in
    let files = c.args.files.items in
    let entries = c.in_ok-entries.entries.items in
    let of = c.in_ok-entries.ensures.classes in
    let before = subst (λ ms. KeepBelow (origins_of ms) (set_rule_number TooMany)) c.as_slice-3.ensures.value c.in_ok-refuse_broken.ensures.ok in
    let last = subst (λ (fs : List ClassFile). c.in_ok-last.last ≡ option_map (λ (file : ClassFile). file.name) (slice_get fs (length fs - 1))) c.as_slice.ensures.value c.in_ok-last.ensures in
    let fault = c.in_err-refuse_many.ensures.fault in
    rw (p.1, p.2) (many_fault files entries of before c.in_ok-last.last last c.in_err-refuse_many.field-0.0 (let over = fault.0 in omega (arith, over)) fault.1 fault.2)

pub tables-requires : goal.tables-requires
tables-requires c = subst AreArranged (sym c.as_slice-4.ensures.value) c.in_ok-entries.ensures.classes.known

pub number_classes-requires : goal.number_classes-requires
number_classes-requires c =
    let files = c.args.files.items in
    let entries = c.in_ok-entries.entries.items in
    let of = c.in_ok-entries.ensures.classes in
    let last = subst (λ (fs : List ClassFile). c.in_ok-last.last ≡ option_map (λ (file : ClassFile). file.name) (slice_get fs (length fs - 1))) c.as_slice.ensures.value c.in_ok-last.ensures in
    let few : length entries ≤ 4096 = few_held files entries of c.in_ok-last.last last (λ some. let low = c.in_ok-refuse_many.ensures.ok some in omega (arith, low)) in
    within_few entries few (are_within entries of.known.resolved)

pub find_number-remote_number-requires-clause-ordered : goal.find_number-remote_number-requires-clause-ordered
find_number-remote_number-requires-clause-ordered c =
    let files = c.args.files.items in
    let entries = c.in_ok-entries.entries.items in
    let of = c.in_ok-entries.ensures.classes in
    let before = subst (λ ms. KeepBelow (origins_of ms) (set_rule_number TooMany)) c.as_slice-3.ensures.value c.in_ok-refuse_broken.ensures.ok in
    let last = subst (λ (fs : List ClassFile). c.in_ok-last.last ≡ option_map (λ (file : ClassFile). file.name) (slice_get fs (length fs - 1))) c.as_slice.ensures.value c.in_ok-last.ensures in
    let few : length entries ≤ 4096 = few_held files entries of c.in_ok-last.last last (λ some. let low = c.in_ok-refuse_many.ensures.ok some in omega (arith, low)) in
    let told = subst (λ ms. HaveTables (classes_of ms) c.in_ok-tables.tables.items) c.as_slice-4.ensures.value c.in_ok-tables.ensures in
    subst (λ ms. IsStrictlySortedBy name_cmp (names (classes_of ms))) (sym (c.deref.ensures.value ∙ c.in_ok-members.ensures)) (are_entries files entries of c.requires before few c.in_ok-tables.tables.items told).set.ordered

pub find_number-remote_number-requires-clause-few : goal.find_number-remote_number-requires-clause-few
find_number-remote_number-requires-clause-few c =
    let files = c.args.files.items in
    let entries = c.in_ok-entries.entries.items in
    let of = c.in_ok-entries.ensures.classes in
    let last = subst (λ (fs : List ClassFile). c.in_ok-last.last ≡ option_map (λ (file : ClassFile). file.name) (slice_get fs (length fs - 1))) c.as_slice.ensures.value c.in_ok-last.ensures in
    subst (λ ms. length ms ≤ 4096) (sym (c.deref.ensures.value ∙ c.in_ok-members.ensures)) (few_held files entries of c.in_ok-last.last last (λ some. let low = c.in_ok-refuse_many.ensures.ok some in omega (arith, low)))

pub invariant_of-result : goal.invariant_of-result
invariant_of-result c =
    let files = c.args.files.items in
    let entries = c.in_ok-entries.entries.items in
    let of = c.in_ok-entries.ensures.classes in
    let before = subst (λ ms. KeepBelow (origins_of ms) (set_rule_number TooMany)) c.as_slice-3.ensures.value c.in_ok-refuse_broken.ensures.ok in
    let last = subst (λ (fs : List ClassFile). c.in_ok-last.last ≡ option_map (λ (file : ClassFile). file.name) (slice_get fs (length fs - 1))) c.as_slice.ensures.value c.in_ok-last.ensures in
    let few : length entries ≤ 4096 = few_held files entries of c.in_ok-last.last last (λ some. let low = c.in_ok-refuse_many.ensures.ok some in omega (arith, low)) in
    let told = subst (λ ms. HaveTables (classes_of ms) c.in_ok-tables.tables.items) c.as_slice-4.ensures.value c.in_ok-tables.ensures in
    let kept = are_entries files entries of c.requires before few c.in_ok-tables.tables.items told in
    let methods = subst (λ ms. HaveOrders Methods (classes_of ms) c.in_ok-facts.facts.orders.items) c.as_slice-2.ensures.value c.in_ok-facts.ensures.orders in
    let fields = subst (λ ms. HaveOrders Fields (classes_of ms) c.in_ok-fields.fields.items) c.as_slice-5.ensures.value c.in_ok-fields.ensures in
    let at = subst (λ ms. c.find_number-remote_number.result ≡ number_of (classes_of ms) (codes "java/rmi/Remote")) (c.deref.ensures.value ∙ c.in_ok-members.ensures) c.find_number-remote_number.ensures.number in
    subst (λ ms. AreKept ms c.in_ok-tables.tables.items c.in_ok-facts.facts.orders.items c.in_ok-fields.fields.items c.find_number-remote_number.result) (sym c.in_ok-members.ensures)
    (record { set = kept.set; ranked = kept.ranked; tables = kept.tables; methods = methods; fields = fields; remote = at })

pub returns-clause-set : goal.returns-clause-set
returns-clause-set c =
    let files = c.args.files.items in
    let entries = c.in_ok-entries.entries.items in
    let of = c.in_ok-entries.ensures.classes in
    let before = subst (λ ms. KeepBelow (origins_of ms) (set_rule_number TooMany)) c.as_slice-3.ensures.value c.in_ok-refuse_broken.ensures.ok in
    let last = subst (λ (fs : List ClassFile). c.in_ok-last.last ≡ option_map (λ (file : ClassFile). file.name) (slice_get fs (length fs - 1))) c.as_slice.ensures.value c.in_ok-last.ensures in
    let few : length entries ≤ 4096 = few_held files entries of c.in_ok-last.last last (λ some. let low = c.in_ok-refuse_many.ensures.ok some in omega (arith, low)) in
    let told = subst (λ ms. HaveTables (classes_of ms) c.in_ok-tables.tables.items) c.as_slice-4.ensures.value c.in_ok-tables.ensures in
    subst (λ ms. IsClassSet (classes_of ms)) (sym c.in_ok-members.ensures) (are_entries files entries of c.requires before few c.in_ok-tables.tables.items told).set

pub returns-clause-classes : goal.returns-clause-classes
returns-clause-classes c = subst (λ ms. HasClasses c.args.files.items (classes_of ms)) (sym c.in_ok-members.ensures) (has_classes c.args.files.items c.in_ok-entries.entries.items c.in_ok-entries.ensures.classes)

pub returns-clause-found : goal.returns-clause-found
returns-clause-found c =
    let files = c.args.files.items in
    let entries = c.in_ok-entries.entries.items in
    let of = c.in_ok-entries.ensures.classes in
    let before = subst (λ ms. KeepBelow (origins_of ms) (set_rule_number TooMany)) c.as_slice-3.ensures.value c.in_ok-refuse_broken.ensures.ok in
    let last = subst (λ (fs : List ClassFile). c.in_ok-last.last ≡ option_map (λ (file : ClassFile). file.name) (slice_get fs (length fs - 1))) c.as_slice.ensures.value c.in_ok-last.ensures in
    let few : length entries ≤ 4096 = few_held files entries of c.in_ok-last.last last (λ some. let low = c.in_ok-refuse_many.ensures.ok some in omega (arith, low)) in
    make_a_set files entries of before few
