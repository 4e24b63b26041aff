use Rattle.std.proofs.Common.{◌∙◌, refl, sym}
use Rattle.sp_world.proofs.EnterLemmas.{entered, known}
use Rattle.sp_world.proofs.wiring.Wiring.enter.Goals as goal

pub returns-then-contains_key : goal.returns-then-contains_key
returns-then-contains_key c = λ settings g is many h. known settings g c.args.id.now c.args.self.now is (sym c.contains_key.ensures ∙ c.if-contains_key.true) h

pub returns : goal.returns
returns c = λ settings g is many h.
    entered settings g c.args.id.now c.args.number c.args.self.now _ is many (sym c.contains_key.ensures ∙ c.if-contains_key.false) (λ q. c.in_ok-insert.ensures.updates.0 q) refl refl h
