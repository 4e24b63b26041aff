use Rattle.std.proofs.Common.{◌≡◌, drop}
use Rattle.ver_check.specs.Steps.{give_all}
use Rattle.ver_check.proofs.body.BodyView.give_all.Given as goal

-- those that are left make what all of them make
abbrev pub invariant-loop-kind : goal.invariant-loop-kind
invariant-loop-kind l = give_all l.self (drop l.kind-index l.kinds) l.frame ≡ give_all l.self l.kinds l.fn.frame
