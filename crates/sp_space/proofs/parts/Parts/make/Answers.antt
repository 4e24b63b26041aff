use Rattle.std.proofs.Common.{◌≡◌, true, ap, sym, subst, ◌∙◌}
use Rattle.sp_rules.specs.Space.{state_of}
use Rattle.sp_rules.specs.State.{task_at}
use Rattle.sp_core.specs.Cores.{has_lent}
use Rattle.sp_core.specs.declared.space_core.SpaceCore.{SpaceCore}
use Rattle.sp_space.proofs.LentLemmas.{lent-hand}
use Rattle.sp_space.proofs.parts.Parts.make.Goals as goal

pub begin-requires-clause-known : goal.begin-requires-clause-known
begin-requires-clause-known c =
    let k = c.requires.known in
    let l = lent-hand k.setting (state_of k.setting k.history) c.args.self.now.core c.args.hand.now k.is.stands.core k.is.own in
    record {
      setting = k.setting;
      history = k.history;
      is = record { stands = k.is.stands; living = l.living; lives = ap (λ n. task_at (state_of k.setting k.history) n) c.id-id.ensures ∙ l.there; same = l.past ∙ sym c.record.ensures };
    }

pub returns-clause-same : goal.returns-clause-same
returns-clause-same c = λ g h i.
    let s = state_of g h in
    let space = c.args.self.now in
    let hand = c.args.hand.now in
    let l = lent-hand g s space.core hand i.stands.core i.own in
    record {
      stands = c.begin.ensures.stands g h (record { stands = i.stands; living = l.living; lives = ap (λ n. task_at s n) c.id-id.ensures ∙ l.there; same = l.past ∙ sym c.record.ensures });
      own = subst (λ (core : SpaceCore). has_lent core hand ≡ true) (sym c.begin.ensures.core) i.own;
      fresh = i.fresh;
    }
