-- A result that was parked is answered: its call or lookup goes, its Ack is sent, and who asked has the reply.
use Rattle.std.proofs.Common.{◌≡◌, ℕ, Option, None, Some, ap, ◌∙◌}
use Rattle.std.specs.Prelude.{find}
use Rattle.net_message.specs.declared.message.Message.TheVariants as message
use Rattle.sp_rules.specs.Behaviours.{Reply}
use Rattle.sp_rules.specs.Classes.{Setting}
use Rattle.sp_rules.specs.Events.{Acks}
use Rattle.sp_rules.specs.Lists.{with_some}
use Rattle.sp_rules.specs.LivingTasks.{reply_to}
use Rattle.sp_rules.specs.ParkedFrames.{answer_parked, is_call_on, remove_requests}
use Rattle.sp_rules.specs.State.{State, ParkedFrame, Request, send}

abbrev pub acked : ℕ → ℕ → State → State
acked conn number s = send Acks conn (message.Ack number) (remove_requests (is_call_on conn number) s)

result-at : (g : Setting) (p : ParkedFrame) (reply : Reply) (s : State) (conn number : ℕ) → p.conn ≡ conn → p.number ≡ number
    → answer_parked g p reply s ≡ with_some (find (is_call_on conn number) s.requests) s (λ (r : Request). reply_to g r.asked reply (acked conn number s))
unfolding answer_parked
result-at g p reply s conn number c n = λ j. with_some (find (is_call_on (c j) (n j)) s.requests) s (λ (r : Request). reply_to g r.asked reply (acked (c j) (n j) s))

pub result-goes : (g : Setting) (p : ParkedFrame) (reply : Reply) (s : State) (conn number : ℕ) (row : Request) → p.conn ≡ conn → p.number ≡ number → find (is_call_on conn number) s.requests ≡ Some row
    → answer_parked g p reply s ≡ reply_to g row.asked reply (acked conn number s)
result-goes g p reply s conn number row c n there =
    result-at g p reply s conn number c n ∙ ap (λ (o : Option Request). with_some o s (λ (r : Request). reply_to g r.asked reply (acked conn number s))) there

pub result-drops : (g : Setting) (p : ParkedFrame) (reply : Reply) (s : State) (conn number : ℕ) → p.conn ≡ conn → p.number ≡ number → find (is_call_on conn number) s.requests ≡ None
    → answer_parked g p reply s ≡ s
result-drops g p reply s conn number c n there =
    result-at g p reply s conn number c n ∙ ap (λ (o : Option Request). with_some o s (λ (r : Request). reply_to g r.asked reply (acked conn number s))) there
