use Rattle.std.proofs.Common.{◌≡◌, take}
use Rattle.cls_order.specs.Walks.{met_by, meet_all}
use Rattle.cls_order.proofs.walking.meet_each.Given as goal

-- the classes so far are met
abbrev pub invariant-loop-class : goal.invariant-loop-class
invariant-loop-class l = met_by l.walk ≡ meet_all (met_by l.fn.walk) (take l.class-index l.classes)
