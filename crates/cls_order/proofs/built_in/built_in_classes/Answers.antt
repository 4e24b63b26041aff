use Rattle.std.proofs.Common.{◌∙◌, refl}
use Rattle.cls_order.specs.BuiltIn.{built_ins}
use Rattle.cls_order.proofs.built_in.built_in_classes.Goals as goal

pub returns : goal.returns
unfolding built_ins
returns c =
    c.in_ok-add_classes.ensures
    ∙ (rw (c.in_ok-push.ensures.items, c.new-files.ensures.items, c.in_ok-file.ensures) refl)
