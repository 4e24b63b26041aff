use Rattle.std.proofs.Common.{◌≡◌, Some, None, ap, refl, sym, subst, ◌∙◌, length}
use Rattle.std.specs.Prelude.{◌<◌, option_map, slice_get}
use Rattle.cls_link.specs.Links.{Links}
use Rattle.sp_living.specs.Views.{recorded_in}
use Rattle.sp_rules.specs.State.{Given}
use Rattle.sp_tasks.specs.Behaviours.{reply_of}
use Rattle.vm_step.specs.Run.{State, answer, IsDue}
use Rattle.vm_step.specs.Task.{Tasked, fuel_left, pause_at}
use Rattle.vm_act.specs.declared.asked.Asked.{Asked}
use Rattle.vm_act.specs.declared.asked.Reply.{Reply}
use Rattle.vm_step.specs.declared.outcome.Pause.TheVariants.{Ask}
use Rattle.sp_behaviours.specs.Behaviours.{reply_to}
use Rattle.sp_rules.specs.Behaviours as rules
use Rattle.sp_machines.specs.Players.{IsLevel, Played}
use Rattle.sp_machines.proofs.PlayedLemmas.{caught-up, found-reply, replied-level}
use Rattle.sp_machines.proofs.ResultLemmas.{at-err}
use Rattle.sp_machines.proofs.task_machine.TaskMachine.catch_up.Goals as goal

pub returns-in_default-clause-level : goal.returns-in_default-clause-level
returns-in_default-clause-level c = λ links g t plays played ready same.
    let none : option_map (λ (given : Given). given.reply) (slice_get c.args.record.now.past.given c.self.inside.taken) ≡ None = sym c.reply.ensures ∙ ap (option_map _) c.in_default.is in
    caught-up links g t c.args.self.now played ready
    ((λ j. option_map (λ (given : Given). given.reply) (slice_get (same j).given (sym (ap (λ (p : Played). p.taken) c.self.view_is) j))) ∙ none)

pub returns-in_err-reply-clause-same : goal.returns-in_err-reply-clause-same
returns-in_err-reply-clause-same c = at-err c.from_residual.result _ refl

-- what is asked is what was found
asked-is : (a b : Asked) → Ask a ≡ Ask b → a ≡ b
asked-is a b e = cc

given-is : (op asked : Asked) (r : rules.Reply) (given reply : Reply) → Ask op ≡ Ask asked → reply_to op r ≡ Some given → Some reply ≡ reply_to asked r → given ≡ reply
given-is op asked r given reply same told is = let e : Some given ≡ Some reply = sym told ∙ ap (λ (a : Asked). reply_to a r) (asked-is op asked same) ∙ sym is in cc

none-given : (op asked : Asked) (r : rules.Reply) (given : Reply) → Ask op ≡ Ask asked → reply_to op r ≡ Some given → None ≡ reply_to asked r → ⊥
none-given op asked r given same told is = let e : Some given ≡ None = sym told ∙ ap (λ (a : Asked). reply_to a r) (asked-is op asked same) ∙ sym is in absurd (cc)

-- the machine asks
pub unreachable-requires : goal.unreachable-requires
unreachable-requires c =
    let p = c.args.self.now in
    let past = c.args.record.now.past in
    let stays = c.self.view_is in
    let some = (λ j. option_map (λ (given : Given). given.reply) (slice_get past.given (sym (ap (λ (p : Played). p.taken) c.self.view_is) j))) ∙ sym c.reply.ensures ∙ ap (option_map _) c.in-Some.is in
    let f = found-reply p past (reply_of c.in-Some.given.now) c.requires some in
    c.in_default-pause.not-Ask f.asked (c.pause.ensures ∙ ap (λ (p : Played). pause_at p.task.state) stays ∙ sym f.asks)

-- the reply is one to what it asks
pub unreachable-requires-in_default-2 : goal.unreachable-requires-in_default-2
unreachable-requires-in_default-2 c =
    let p = c.args.self.now in
    let past = c.args.record.now.past in
    let r = reply_of c.in-Some.given.now in
    let stays = c.self.view_is in
    let some = (λ j. option_map (λ (given : Given). given.reply) (slice_get past.given (sym (ap (λ (p : Played). p.taken) c.self.view_is) j))) ∙ sym c.reply.ensures ∙ ap (option_map _) c.in-Some.is in
    let f = found-reply p past r c.requires some in
    none-given f.asked c.in-Ask.asked r f.given (f.asks ∙ sym (ap (λ (p : Played). pause_at p.task.state) stays) ∙ sym c.in-Ask.ensures) f.told (sym c.in_default-2.is ∙ c.in_ok-reply.ensures)

-- and is due
pub answer-requires-clause-due : goal.answer-requires-clause-due
answer-requires-clause-due c =
    let p = c.args.self.now in
    let past = c.args.record.now.past in
    let r = reply_of c.in-Some.given.now in
    let reply = c.in-Some-2.reply in
    let stays = c.self.view_is in
    let some = (λ j. option_map (λ (given : Given). given.reply) (slice_get past.given (sym (ap (λ (p : Played). p.taken) c.self.view_is) j))) ∙ sym c.reply.ensures ∙ ap (option_map _) c.in-Some.is in
    let f = found-reply p past r c.requires some in
    let one = given-is f.asked c.in-Ask.asked r f.given reply (f.asks ∙ sym (ap (λ (p : Played). pause_at p.task.state) stays) ∙ sym c.in-Ask.ensures) f.told (sym c.in-Some-2.is ∙ c.in_ok-reply.ensures) in
    let program : p.task.program ≡ c.self.inside.program.now = sym (ap (λ (p : Played). p.task.program) c.self.view_is) ∙ c.self.invariant in
    let due : IsDue p.task.program.classes reply p.task.state = subst (λ (x : Reply). IsDue p.task.program.classes x p.task.state) one f.due in
    subst (λ (s : State). IsDue c.self.inside.program.now.classes reply s) (sym (ap (λ (p : Played). p.task.state) stays))
    (subst (λ (l : Links). IsDue l.classes reply p.task.state) program due)

pub returns-clause-level : goal.returns-clause-level
returns-clause-level c = λ links g t plays played ready same.
    let p = c.args.self.now in
    let past = c.args.record.now.past in
    let reply = c.in-Some-2.reply in
    let stays = c.self.view_is in
    let found = (λ j. option_map (λ (given : Given). given.reply) (slice_get (same j).given (sym (ap (λ (p : Played). p.taken) c.self.view_is) j))) ∙ sym c.reply.ensures ∙ ap (option_map _) c.in-Some.is in
    let here : c.self.inside.task.state ≡ p.task.state = ap (λ (p : Played). p.task.state) stays in
    let after : c.answer.new.self.state ≡ answer reply p.task.state = ap (λ (t : Tasked). t.state) c.answer.ensures.task ∙ ap (answer reply) here in
    let spent : fuel_left (answer reply p.task.state) < fuel_left p.task.state = subst (λ (s : State). fuel_left s < fuel_left p.task.state) after (subst (λ (s : State). fuel_left c.answer.new.self.state < fuel_left s) here c.answer.ensures.spent) in
    let level = replied-level links g t p c.in-Ask.asked (reply_of c.in-Some.given.now) reply plays played ready found (c.in-Ask.ensures ∙ ap (λ (p : Played). pause_at p.task.state) stays)
    (sym c.in-Some-2.is ∙ c.in_ok-reply.ensures) spent in
    let now : Played = record { task = c.answer.new.self; taken = c.replies-self-inside.result; ahead = c.self.inside.is_ahead } in
    let is : now ≡ record p { task = record p.task { state = answer reply p.task.state }; taken = length (recorded_in t).given } =
    (λ j. record { task = c.answer.ensures.task j; taken = c.replies-self-inside.ensures j; ahead = c.self.inside.is_ahead })
    ∙ (λ j. record { task = record (stays j).task { state = answer reply (stays j).task.state }; taken = length past.given; ahead = (stays j).ahead })
    ∙ (λ j. record { task = record p.task { state = answer reply p.task.state }; taken = length (sym same j).given; ahead = p.ahead }) in
    subst (IsLevel links g t) (sym is) level
