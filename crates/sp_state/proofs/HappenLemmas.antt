-- Events that come from outside, each as a whole.
use Rattle.std.proofs.Common.{◌≡◌, true, refl, ap}
use Rattle.sp_events.specs.Events.{event_of}
use Rattle.sp_events.specs.declared.event.Event as outside
use Rattle.sp_events.specs.declared.event.Event.TheVariants as event
use Rattle.sp_rules.specs.Classes.{Setting}
use Rattle.sp_rules.specs.Events.{Event}
use Rattle.sp_rules.specs.Space.{answers_outputs, finish_event, happen, on}
use Rattle.sp_rules.specs.State.{State}

-- each of them answers
pub outside-answers : (e : outside.Event) → answers_outputs (event_of e) ≡ true
outside-answers (event.Moment moment) = refl
outside-answers event.Sweep = refl
outside-answers (event.RootAck task) = refl
outside-answers (event.Bind name value) = refl
outside-answers (event.Rebind name value) = refl
outside-answers (event.Unbind name) = refl
outside-answers (event.Lookup peer name) = refl
outside-answers (event.Opened conn dialled) = refl
outside-answers (event.Refused peer) = refl
outside-answers (event.Received conn message) = refl
outside-answers (event.Closed conn) = refl
outside-answers (event.ReadFailed conn) = refl
outside-answers (event.Bad conn) = refl
outside-answers (event.WriteFailed conn unsent) = refl

pub on-so : (g : Setting) (e : Event) (s : State) → answers_outputs e ≡ true → on g e s ≡ finish_event true (happen g e s)
unfolding on
on-so g e s answers = ap (λ b. finish_event b (happen g e s)) answers
