use Rattle.std.proofs.Common.{◌≡◌, ap, ◌∙◌, ◌++◌, ◌∷◌, [], length, map, arith}
use Rattle.sp_rules.specs.Classes.{blank, field_kind}
use Rattle.sp_rules.specs.Lists.{numbers_below}
use Rattle.sp_owner.proofs.OwnerLemmas.{blanks-more}
use Rattle.sp_owner.proofs.fields.blanks_of.Goals as goal

pub loop-slot-preserved : goal.loop-slot-preserved
loop-slot-preserved g c = λ classes tells.
    c.in_ok-push.ensures.items
    ∙ ap (λ v. c.loop-slot.values.items ++ v ∷ []) (c.blank_of.ensures ∙ ap blank (c.field_kind.ensures classes tells))
    ∙ blanks-more (λ slot. blank (field_kind classes c.args.class slot)) c.loop-slot.slot c.loop-slot.values.items (c.loop-slot.invariant classes tells)

pub returns : goal.returns
returns g c = λ classes tells.
    let all : c.loop-slot.slot ≡ length (classes.fields c.args.class) = omega (arith, c.loop-slot-test.false, c.field_count-slot-end.ensures classes tells) in
    c.loop-slot.invariant classes tells ∙ ap (λ n. map (λ slot. blank (field_kind classes c.args.class slot)) (numbers_below n)) all
