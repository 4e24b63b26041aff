use Rattle.std.proofs.Common.{ℕ, Option, sym, ap, subst, ◌∙◌}
use Rattle.std.specs.Prelude.{◌==◌, ◌&&◌, not, IfSome}
use Rattle.sp_rules.specs.LivingTasks.{give_back}
use Rattle.sp_state.specs.Spaces.{IsSpace}
use Rattle.sp_state.specs.declared.space_state.SpaceState.{SpaceState}
use Rattle.sp_tasks.specs.Lent.{is_lent_in}
use Rattle.sp_core.specs.Hands.{IsSecond, fits}
use Rattle.sp_core.proofs.TwinLemmas.{twin-id, twin-made}
use Rattle.sp_core.proofs.lending.take_twin_back.Goals as goal

pub returns : goal.returns
returns c = λ g s first now is gone.
    let hand = c.args.task.now in
    let twin = c.in-Some-twin.twin in
    let old = c.in-Some.spare in
    let new = c.give_back.new.self in
    let fit = (λ j. fits (sym c.in-Some.is j) hand (sym c.in-Some-twin.is j)) ∙ c.requires in
    let second : IsSecond g s first old = subst (λ (o : Option SpaceState). IfSome o (IsSecond g s first)) c.in-Some.is is in
    let id = twin-id old hand twin fit in record {
      state = subst (λ (k : ℕ). IsSpace g (give_back hand.id k s) new) (twin-made old hand twin fit) (subst (λ (n : ℕ). IsSpace g (give_back n twin.made s) new) id (c.give_back.ensures.back g s second.state));
      lent = record { lent = λ q. c.give_back.ensures.lent.lent q ∙ (λ j. not (q == id j) && second.lent.lent q j) ∙ sym (gone.lent q) };
    }
