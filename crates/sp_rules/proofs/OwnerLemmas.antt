-- Most events of a space leave its names and its clients' entries alone.
use mathlib.Core.Path.{sym, ap, ◌∙◌}
use Rattle.std.specs.Prelude.{◌≡◌, refl, true, false}
use Rattle.std.proofs.lemmas.Bool.{true≢false}
use Rattle.sp_rules.specs.Classes.{Setting}
use Rattle.sp_rules.specs.Events.{Event, Moment, Sweep, Root, RootAck, Bind, Rebind, Unbind, Lookup, Opened, Refused, Received, Closed, ReadFailed, Bad, WriteFailed, Committed, Parked, GivenBack, Finished}
use Rattle.sp_rules.specs.Laws.{leaves_owner, is_naming, is_sweep, EventsLeaveOwners}
use Rattle.sp_rules.specs.State.{State, Owner}
use Rattle.sp_rules.proofs.Stable.{Core, IsStable, on_keeps}

abbrev IsOwner : Owner → State → Type 0
IsOwner o t = t.owner ≡ o

stable : (g : Setting) (o : Owner) → IsStable g (IsOwner o)
stable g o = record {
  framed = record { frame = λ s t e h. ap (λ (c : Core). c.owner) e ∙ h };
  begins = λ s origin method arguments fuel h. h;
  counts = λ s h. h;
  ends = λ s id h. h;
  replies = λ s id t reply is h. h;
  commits = λ s id k t reply is h. h;
  waits = λ s id k t is h. h;
  goes_on = λ s id k t is h. h;
  makes = λ s class h. h;
  writes = λ s id slot value h. h;
}

-- a Sweep is no event that leaves the owner alone
pub sweeps-own : (e : Event) → is_sweep e ≡ true → leaves_owner e ≡ false
sweeps-own (Moment moment) is = absurd (true≢false (sym is))
sweeps-own Sweep is = refl
sweeps-own (Root method arguments fuel) is = absurd (true≢false (sym is))
sweeps-own (RootAck task) is = absurd (true≢false (sym is))
sweeps-own (Bind name value) is = refl
sweeps-own (Rebind name value) is = refl
sweeps-own (Unbind name) is = refl
sweeps-own (Lookup peer name) is = absurd (true≢false (sym is))
sweeps-own (Opened conn dialled) is = absurd (true≢false (sym is))
sweeps-own (Refused peer) is = absurd (true≢false (sym is))
sweeps-own (Received conn m) is = absurd (true≢false (sym is))
sweeps-own (Closed conn) is = absurd (true≢false (sym is))
sweeps-own (ReadFailed conn) is = absurd (true≢false (sym is))
sweeps-own (Bad conn) is = absurd (true≢false (sym is))
sweeps-own (WriteFailed conn unsent) is = absurd (true≢false (sym is))
sweeps-own (Committed task k op) is = absurd (true≢false (sym is))
sweeps-own (Parked task k) is = absurd (true≢false (sym is))
sweeps-own (GivenBack task k) is = absurd (true≢false (sym is))
sweeps-own (Finished task k) is = absurd (true≢false (sym is))

-- nor is a change of names
pub names-own : (e : Event) → is_naming e ≡ true → leaves_owner e ≡ false
names-own (Moment moment) is = absurd (true≢false (sym is))
names-own Sweep is = absurd (true≢false (sym is))
names-own (Root method arguments fuel) is = absurd (true≢false (sym is))
names-own (RootAck task) is = absurd (true≢false (sym is))
names-own (Bind name value) is = refl
names-own (Rebind name value) is = refl
names-own (Unbind name) is = refl
names-own (Lookup peer name) is = absurd (true≢false (sym is))
names-own (Opened conn dialled) is = absurd (true≢false (sym is))
names-own (Refused peer) is = absurd (true≢false (sym is))
names-own (Received conn m) is = absurd (true≢false (sym is))
names-own (Closed conn) is = absurd (true≢false (sym is))
names-own (ReadFailed conn) is = absurd (true≢false (sym is))
names-own (Bad conn) is = absurd (true≢false (sym is))
names-own (WriteFailed conn unsent) is = absurd (true≢false (sym is))
names-own (Committed task k op) is = absurd (true≢false (sym is))
names-own (Parked task k) is = absurd (true≢false (sym is))
names-own (GivenBack task k) is = absurd (true≢false (sym is))
names-own (Finished task k) is = absurd (true≢false (sym is))

pub events_leave_owners : EventsLeaveOwners
events_leave_owners g e s leaves =
    on_keeps (stable g s.owner) s e (λ f. absurd (true≢false (sym leaves ∙ f))) (λ n. absurd (true≢false (sym leaves ∙ names-own e n))) (λ w. absurd (true≢false (sym leaves ∙ sweeps-own e w))) refl
