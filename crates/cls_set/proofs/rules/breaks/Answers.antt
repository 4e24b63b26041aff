use Rattle.std.proofs.Common.{◌∙◌, ap, get_or, not, refl, sym, subst}
use Rattle.std.specs.Prelude.{◌↔◌, IsTrue}
use Rattle.cls_order.specs.declared.class.Class.{Class}
use Rattle.cls_order.specs.Building.{origins_of}
use Rattle.cls_set.specs.ClassRules.{set_rule}
use Rattle.cls_order.specs.declared.fault.SetRule.TheVariants.{BadSuper, FinalSuper, RemoteField, RemoteMethod}
use Rattle.cls_set.specs.Rules.{Breaks}
use Rattle.cls_order.specs.Classes.{IsInterface}
use Rattle.cls_set.proofs.Broken.{class_among, final_way, override_way, way}
use Rattle.cls_set.proofs.Unfit.{both_tell, field_way, method_way, off}
use Rattle.cls_order.proofs.Hierarchy.{class_read, same_some, true_false}
use Rattle.cls_set.proofs.rules.breaks.Goals as goal

pub has_bad_super-requires-clause-among : goal.has_bad_super-requires-clause-among
has_bad_super-requires-clause-among c = class_among c.args.entries.now c.args.index c.index-entries-index.result c.requires.in_set

pub extends_one_with-requires-clause-among : goal.extends_one_with-requires-clause-among
extends_one_with-requires-clause-among c = class_among c.args.entries.now c.args.index c.index-entries-index.result c.requires.in_set

pub returns-in-BadSuper : goal.returns-in-BadSuper
returns-in-BadSuper c = λ k is.
    let os = origins_of c.args.entries.now in
    let same = same_some (sym (class_read c.args.entries.now c.index-entries-index.result c.args.index c.args.index refl c.requires.in_set) ∙ is) in
    subst (λ r. IsTrue c.has_bad_super.result ↔ Breaks os k.file (set_rule r)) (sym c.in-BadSuper.is)
    (subst (λ (x : Class). IsTrue c.has_bad_super.result ↔ Breaks os x.file BadSuper) same c.has_bad_super.ensures)

pub returns-in-FinalSuper : goal.returns-in-FinalSuper
returns-in-FinalSuper c = λ k is.
    let os = origins_of c.args.entries.now in
    let same = same_some (sym (class_read c.args.entries.now c.index-entries-index.result c.args.index c.args.index refl c.requires.in_set) ∙ is) in
    subst (λ r. IsTrue c.extends_one_with.result ↔ Breaks os k.file (set_rule r)) (sym c.in-FinalSuper.is)
    (subst (λ (x : Class). IsTrue c.extends_one_with.result ↔ Breaks os x.file FinalSuper) same
    (final_way os (get_or c.args.entries.now c.args.index c.index-entries-index.result).class.file c.extends_one_with.result c.extends_one_with.ensures))

pub returns-in-Override : goal.returns-in-Override
returns-in-Override c = λ k is.
    let os = origins_of c.args.entries.now in
    let told = c.requires.facts.overriding.each c.args.index k is in
    let marked = c.overrides_badly.ensures in
    subst (λ r. IsTrue c.overrides_badly.result ↔ Breaks os k.file (set_rule r)) (sym c.in-Override.is)
    (override_way os k.file c.overrides_badly.result (λ e. told.0 (marked.0 e), λ bad. marked.1 (told.1 bad)))

pub returns-then-not-is_interface : goal.returns-then-not-is_interface
returns-then-not-is_interface c = λ k is.
    let entries = c.args.entries.now in
    let os = origins_of entries in
    let n = c.args.index in
    let facts = c.requires.facts in
    let same = same_some (sym (class_read entries c.index-entries-index.result n n refl c.requires.in_set) ∙ is) in
    let none = subst (λ (x : Class). ¬ IsInterface x) same (λ h. true_false (sym (c.is_interface.ensures.1 h) ∙ c.if-not-is_interface.true)) in
    let result = c.has_unfit_field.result in
    subst (λ r. IsTrue result ↔ Breaks os k.file (set_rule r)) (sym c.in-RemoteField.is)
    (field_way entries c.requires.arranged n k is c.args.facts.now.fields.items result facts.fields none (both_tell result c.has_unfit_field.ensures (facts.remote.below n k is)))

pub returns-else-not-is_interface : goal.returns-else-not-is_interface
returns-else-not-is_interface c = λ k is.
    let os = origins_of c.args.entries.now in
    let same = same_some (sym (class_read c.args.entries.now c.index-entries-index.result c.args.index c.args.index refl c.requires.in_set) ∙ is) in
    let interface = subst IsInterface same (c.is_interface.ensures.0 c.if-not-is_interface.false) in
    subst (λ r. IsTrue (not c.is_interface.result) ↔ Breaks os k.file (set_rule r)) (sym c.in-RemoteField.is)
    (off (not c.is_interface.result) (Breaks os k.file RemoteField) (ap not c.if-not-is_interface.false) (λ b. (way os k.file RemoteField b).1.0 interface))

pub returns-then-is_interface : goal.returns-then-is_interface
returns-then-is_interface c = λ k is.
    let entries = c.args.entries.now in
    let os = origins_of entries in
    let n = c.args.index in
    let facts = c.requires.facts in
    let same = same_some (sym (class_read entries c.index-entries-index.result n n refl c.requires.in_set) ∙ is) in
    let interface = subst IsInterface same (c.is_interface-in-RemoteMethod.ensures.0 c.if-is_interface.true) in
    let result = c.has_unfit_method.result in
    subst (λ r. IsTrue result ↔ Breaks os k.file (set_rule r)) (sym c.in-RemoteMethod.is)
    (method_way entries c.requires.arranged n k is c.args.facts.now.methods.items result facts.methods interface (both_tell result c.has_unfit_method.ensures (facts.remote.below n k is)))

pub returns-else-is_interface : goal.returns-else-is_interface
returns-else-is_interface c = λ k is.
    let os = origins_of c.args.entries.now in
    let same = same_some (sym (class_read c.args.entries.now c.index-entries-index.result c.args.index c.args.index refl c.requires.in_set) ∙ is) in
    let none = subst (λ (x : Class). ¬ IsInterface x) same (λ h. true_false (sym (c.is_interface-in-RemoteMethod.ensures.1 h) ∙ c.if-is_interface.false)) in
    let result = c.is_interface-in-RemoteMethod.result in
    subst (λ r. IsTrue result ↔ Breaks os k.file (set_rule r)) (sym c.in-RemoteMethod.is)
    (off result (Breaks os k.file RemoteMethod) c.if-is_interface.false (λ b. none (way os k.file RemoteMethod b).1.0))
