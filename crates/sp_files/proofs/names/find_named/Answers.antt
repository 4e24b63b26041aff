use Rattle.std.proofs.Common.{◌≡◌, ◌∙◌, List, Some, None, arith, subst, sym}
use Rattle.cls_link.specs.Links.{Links}
use Rattle.cls_set.specs.Classes.{number_of}
use Rattle.cls_set.specs.declared.class.Class.{Class}
use Rattle.sp_files.specs.Names.{NamesMethod}
use Rattle.sp_files.proofs.Named.{names_absent, names_found, names_nothing, no_parenthesis, none_before_first, none_before_next, parenthesis, split_of_none}
use Rattle.sp_files.proofs.names.find_named.Goals as goal
use Rattle.sp_files.proofs.names.find_named.Goals.{then-byte-eq40+else-is_some, else-byte-eq40}

pub returns-in_default : goal.returns-in_default
returns-in_default c =
    subst (λ (l : Links). NamesMethod l c.args.class.now c.args.text.now None) c.linked-linked.ensures.linked
    (names_absent c.linked-linked.result.now c.args.class.now c.args.text.now c.set.result.now c.set.ensures (sym c.number.ensures.number ∙ c.in_default.is))

pub loop-index-init : goal.loop-index-init
loop-index-init c = none_before_first c.linked-linked.result.now.classes c.in-Some.class c.args.text.now

pub returns-then-is_some : goal.returns-then-is_some
returns-then-is_some c =
    subst (λ (l : Links). NamesMethod l c.args.class.now c.args.text.now c.find_split-found.result) c.linked-linked.ensures.linked
    (names_found c.linked-linked.result.now c.args.class.now c.args.text.now c.in-Some.class (subst (λ (cs : List Class). number_of cs c.args.class.now ≡ Some c.in-Some.class) c.set.ensures (sym c.number.ensures.number ∙ c.in-Some.is)) c.loop-index.index
    (parenthesis c.args.text.now c.loop-index.index c.loop-index-test.true c.if-byte-eq40.true) c.loop-index.invariant c.find_split-found.result
    (sym c.is_some.ensures ∙ c.if-is_some.true) c.find_split-found.ensures)

pub loop-index-preserved : goal.loop-index-preserved
loop-index-preserved c =
    none_before_next c.linked-linked.result.now.classes c.in-Some.class c.args.text.now c.loop-index.index c.loop-index.invariant
    (λ opens. elim c.if-byte-eq40.branch [
      | then-byte-eq40+else-is_some w ↦
          split_of_none c.linked-linked.result.now.classes c.in-Some.class c.args.text.now c.loop-index.index w.find_split-found.result
          (sym w.is_some.ensures ∙ w.if-is_some.false) w.find_split-found.ensures
      | else-byte-eq40 w ↦ absurd (no_parenthesis c.args.text.now c.loop-index.index c.loop-index-test.true w.if-byte-eq40.false opens)
    ])

pub returns : goal.returns
returns c =
    subst (λ (l : Links). NamesMethod l c.args.class.now c.args.text.now None) c.linked-linked.ensures.linked
    (names_nothing c.linked-linked.result.now c.args.class.now c.args.text.now c.in-Some.class (subst (λ (cs : List Class). number_of cs c.args.class.now ≡ Some c.in-Some.class) c.set.ensures (sym c.number.ensures.number ∙ c.in-Some.is)) c.loop-index.index
    (omega (arith, c.loop-index-test.false, c.loop-index.auto.index-end)) c.loop-index.invariant)
