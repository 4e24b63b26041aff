use Rattle.std.proofs.Common.{get_or, refl, sym, subst}
use Rattle.cls_order.specs.declared.class.Class.{Class}
use Rattle.cls_order.specs.declared.entries.Entry.{Entry}
use Rattle.cls_order.specs.Building.{origins_of, IsFaultOf}
use Rattle.cls_set.specs.ClassRules.{set_rule}
use Rattle.cls_set.specs.Rules.{Breaks}
use Rattle.cls_set.proofs.Broken.{first_to_break, rule_fault, whole_keeps}
use Rattle.cls_order.proofs.Hierarchy.{class_read}
use Rattle.cls_order.proofs.Names.{name_of}
use Rattle.cls_set.proofs.rules.refuse.Goals as goal

pub returns-then-breaks-clause-fault : goal.returns-then-breaks-clause-fault
returns-then-breaks-clause-fault c =
    let entries = c.args.entries.now in
    let os = origins_of entries in
    let p = c.loop-index.index in
    let m = c.index-entries-index.result in
    let rule = set_rule c.args.rule in
    let at = get_or entries p m in
    let read = class_read entries m p p refl c.loop-index-test.true in
    let broken = subst (λ (x : Entry). Breaks os x.class.file rule) (sym c.index-entries-index.is) ((c.breaks.ensures at.class read).0 c.if-breaks.true) in
    let first = first_to_break entries p m rule c.requires.arranged.ordered c.loop-index-test.true c.index-entries-index.is c.loop-index.invariant broken in
    rule_fault os rule (name_of m) c.broken.result first
    (subst (λ r. IsFaultOf r (name_of m) c.broken.result) c.rule.ensures (subst (λ (x : Entry). IsFaultOf c.rule.result (name_of x) c.broken.result) (sym c.index-entries-index.is) (subst (λ (x : Class). IsFaultOf c.rule.result x.file.name c.broken.result) c.class.view_is c.broken.ensures)))

pub returns-clause-ok : goal.returns-clause-ok
returns-clause-ok c = whole_keeps c.args.entries.now (set_rule c.args.rule) c.loop-index.index c.loop-index-test.false c.loop-index.invariant
