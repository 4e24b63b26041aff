use Rattle.std.proofs.Common.{◌≡◌, ℕ, List, Option, true, sym, ap, subst, ◌∙◌, length, drop}
use Rattle.std.proofs.lemmas.Result.{on_ok_weaker}
use Rattle.space_ids.specs.declared.ids.Ref.{Ref}
use Rattle.sp_rules.specs.Behaviours.{Reply}
use Rattle.sp_rules.specs.Holders.{hold}
use Rattle.sp_rules.specs.Lists.{with_some}
use Rattle.sp_rules.specs.LivingTasks.{after_reply, after_steps}
use Rattle.sp_rules.specs.References.{foreign_ids, references_in, with_references}
use Rattle.sp_rules.specs.State.{State, Living, set_task}
use Rattle.sp_rules.specs.Tasks.{answer, gained, steps}
use Rattle.sp_tasks.specs.Behaviours.{reply_of}
use Rattle.sp_tasks.specs.Rows.{Hand, TaskTable, at_row, is_in_hand, replied_row, row_of, value_given}
use Rattle.sp_tasks.specs.declared.behaviour.Reply.{Reply as Told}
use Rattle.sp_living.specs.Hands.{has_lent}
use Rattle.sp_living.specs.Holding.{held_at, listed}
use Rattle.sp_living.specs.Livings.{IsLiving}
use Rattle.sp_living.specs.declared.living.Living.{Living as Lives}
use Rattle.sp_living.proofs.HandLemmas.{given-own, on-both, taken}
use Rattle.sp_living.proofs.StepLemmas.{gains-after, held-of, held-set, now-given}
use Rattle.sp_tasks.proofs.LentLemmas.{lent-next}
use Rattle.sp_living.proofs.living.Living.give_reply.Goals as goal

-- what the task holds after the reply and did not before
abbrev drop_of : ℕ → Lives → Reply → List Ref
drop_of id l reply = drop (length (held_at id l)) (with_references (held_at id l) (references_in (value_given reply)))

pub reply-requires-clause-lent : goal.reply-requires-clause-lent
reply-requires-clause-lent c = ap (λ (t : TaskTable). is_in_hand (row_of c.args.task.now.id t.rows) c.args.task.now) c.in_ok-hold_found.ensures.tasks ∙ c.requires

pub returns-clause-given : goal.returns-clause-given
returns-clause-given c = on_ok_weaker c.reply.result (λ rows. λ g s a.
    let l = c.args.self.now in
    let hand = c.args.task.now in
    let k = hand.made in
    let reply = reply_of c.args.reply.now in
    let h = taken g s l hand a c.requires in
    let l2 = c.hold_found.new.self in
    let s2 = hold g (listed c.gained-gained.result) s in
    let a2 = c.in_ok-hold_found.ensures.held g s a in
    let own : has_lent l2 hand ≡ true = ap (λ (t : TaskTable). is_in_hand (row_of hand.id t.rows) hand) c.in_ok-hold_found.ensures.tasks ∙ c.requires in
    let h2 = taken g s2 l2 hand a2 own in
    let same : c.reply.new.self ≡ record l2.tasks { rows = at_row hand.id (replied_row k reply) l2.tasks.rows } =
    rows ∙ ap (λ (r : Told). record l2.tasks { rows = at_row hand.id (replied_row k (reply_of r)) l2.tasks.rows }) c.in_ok-entered.ensures in
    let a3 = now-given g s2 l2 hand reply c.reply.new.self h2 same a2 in
    let refs = c.gained-gained.ensures ∙ ap (λ (n : ℕ). drop_of n l reply) c.id.ensures ∙ gains-after g reply k h.living.task (held_at hand.id l) (held-of g s l hand.id h.living a h.there) in
    let f = λ (u : Living). after_reply g reply (after_steps k u) in
    subst (λ (u : State). IsLiving g u (record l2 { tasks = c.reply.new.self }))
    (held-set (foreign_ids g.id (listed c.gained-gained.result)) f hand.id s
    ∙ ap (λ (rs : List Ref). hold g rs (set_task f hand.id s)) refs
    ∙ sym (ap (λ (o : Option Living). with_some o s (λ t. hold g (gained t.task (answer g reply (steps k t.task))) (set_task f hand.id s))) h.ready)) a3) c.reply.ensures.rows

pub returns-clause-own : goal.returns-clause-own
returns-clause-own c =
    on-both c.reply.result _ _ _ c.reply.ensures.rows c.reply.ensures.task (λ rows task.
    let own : has_lent c.hold_found.new.self c.args.task.now ≡ true = ap (λ (t : TaskTable). is_in_hand (row_of c.args.task.now.id t.rows) c.args.task.now) c.in_ok-hold_found.ensures.tasks ∙ c.requires in
    ap (λ (hand : Hand). is_in_hand (row_of hand.id c.reply.new.self.rows) hand) task
    ∙ given-own c.hold_found.new.self (record c.hold_found.new.self { tasks = c.reply.new.self }) c.args.task.now (reply_of c.in_ok-entered.entered) own rows)

pub returns-clause-lent : goal.returns-clause-lent
returns-clause-lent c = on_ok_weaker c.reply.result (λ kept. lent-next c.in_ok-hold_found.ensures.tasks kept) c.reply.ensures.lent
