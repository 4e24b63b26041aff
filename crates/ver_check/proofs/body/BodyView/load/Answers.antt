use Rattle.ver_check.proofs.body.BodyView.load.Goals as goal

pub returns : goal.returns
returns c = rw (← c.kind_wanted.ensures, c.in_ok-kind.ensures) c.give.ensures
