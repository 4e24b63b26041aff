use Rattle.std.proofs.Common.{◌≡◌, ap, sym, subst, ◌∙◌}
use Rattle.sp_events.specs.FaultNames.{Refuses}
use Rattle.sp_events.specs.declared.fault.CoreFault.{CoreFault}
use Rattle.sp_events.specs.declared.fault.CoreFault.TheVariants as fault
use Rattle.sp_rules.specs.Refusals.{Refusal}
use Rattle.sp_rules.specs.Space.{state_of}
use Rattle.sp_tasks.specs.Rows.{Hand}
use Rattle.std.specs.Prelude.{Option, None, not, ◌==◌, ◌&&◌}
use Rattle.sp_core.specs.Cores.{is_lent}
use Rattle.sp_space.proofs.FreeLemmas.{none-lent}
use Rattle.sp_space.proofs.LentLemmas.{back-taken, lends-those, lent-hand, lent_ids}
use Rattle.sp_space.proofs.StandLemmas.{fail-stands}
use Rattle.sp_space.proofs.parts.Parts.fail.Goals as goal

-- what is not refused is out of memory
not-refused : (r : Option Refusal) (f : CoreFault) → r ≡ None → Refuses r f → f ≡ fault.NotLent → ⊥
not-refused r f none refuses is = let memory : f ≡ fault.Memory = subst (λ (r : Option Refusal). Refuses r f) none refuses in let both : fault.NotLent ≡ fault.Memory = sym is ∙ memory in absurd (cc)

-- a task that the space lends comes back
pub unreachable-requires : goal.unreachable-requires
unreachable-requires c =
    let k = c.requires.known in
    let s = state_of k.setting k.history in
    let core = c.args.self.now.core in
    let l = lent-hand k.setting s core c.args.hand k.is.core c.requires.own in
    not-refused _ _ (back-taken k.setting s core c.args.hand.task c.undo.new.self.task l c.undo.ensures) (c.in-Err.ensures.refused k.setting s (lent_ids core) k.is.core (lends-those core)) c.in-Err.ensures.fault

pub returns-clause-same : goal.returns-clause-same
returns-clause-same c =
    let none : c.undo.new.self.task.made ≡ 0 = ap (λ (x : Hand). x.made) c.undo.ensures in
    λ g h is. fail-stands g h c.args.self.now c.give_back.new.self c.undo.new.self.task is none (c.in-Ok.ensures.state g (state_of g h) is.core)

pub returns-clause-free : goal.returns-clause-free
returns-clause-free c =
    let core = c.args.self.now.core in
    none-lent core c.give_back.new.self c.args.hand.task.id c.requires.others (λ other. c.in-Ok.ensures.others other ∙ ap (λ (x : Hand). not (other == x.id) && is_lent core other) c.undo.ensures)
