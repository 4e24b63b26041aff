-- A run that meets the premises of the laws of what is held, computed.
use mathlib.Core.Path.{sym, subst}
use Rattle.std.proofs.Common.{inl, inr}
use Rattle.std.proofs.lemmas.Bool.{true≢false}
use Rattle.std.proofs.lemmas.Slice.Eq.{bytes_eq-Decides}
use Rattle.std.specs.List.{list_all}
use Rattle.std.specs.Prelude.{◌≡◌, refl, ℕ, ◌+◌, not, nat_lt, ◌&&◌, ◌||◌, is_some, Bool, true, false, List, [], ◌∷◌, Option, None, Some, slice_get, if◌then◌else◌}
use Rattle.std.specs.Str.{bytes_eq}
use Rattle.dgc_list.specs.History as owner
use Rattle.dgc_list.specs.Objects as objects
use Rattle.dgc_list.specs.Remembered.{is_gone, is_late, after_dirty, after_clean, after_moment, blank}
use Rattle.space_ids.specs.declared.ids.ForeignId.{ForeignId}
use Rattle.space_ids.specs.declared.ids.ObjId.{ObjId}
use Rattle.uuid.specs.declared.Uuid.{Uuid}
use Rattle.sp_rules.specs.Books
use Rattle.sp_rules.specs.Endings
use Rattle.sp_rules.specs.Events
use Rattle.sp_rules.specs.Frames
use Rattle.sp_rules.specs.Holders
use Rattle.sp_rules.specs.Lists
use Rattle.sp_rules.specs.LivingTasks
use Rattle.sp_rules.specs.OwnEvents
use Rattle.sp_rules.specs.ParkedFrames
use Rattle.sp_rules.specs.Refusals
use Rattle.sp_rules.specs.Requests
use Rattle.sp_rules.specs.Space
use Rattle.sp_rules.specs.State
use Rattle.sp_rules.specs.Tasks
use Rattle.sp_rules.specs.Worlds
use Rattle.sp_rules.specs.Lists.{with_some}
use Rattle.sp_rules.specs.Events.{Event, Moment, Sweep, Root, RootAck, Bind, Rebind, Unbind, Lookup, Opened, Refused, Received, Closed, ReadFailed, Bad, WriteFailed, Committed, Parked, GivenBack, Finished}
use Rattle.sp_rules.specs.Worlds.{World, Space, WorldEvent, Own, Step, Open, Refuse, Accept, Deliver, ReadFails, WriteFails, after, run, new_world}
use Rattle.sp_rules.proofs.AllLemmas.{all-pass}
use Rattle.sp_rules.proofs.OwnLemmas.{and-left, and-right}
use Rattle.sp_laws.specs.Counted.{times_held}
use Rattle.sp_order_laws.specs.Ends.{IsOneOf}
use Rattle.sp_order_laws.specs.Unbroken.{NothingFails, is_failure}
use Rattle.sp_held_laws.proofs.FreeLemmas.{one-of}
use Rattle.sp_scripts.specs.Scripts
use Rattle.sp_held_laws.specs.OneObject
use Rattle.sp_held_laws.specs.Quiet
use Rattle.sp_held_laws.specs.Quiet.{PassesQuietly, three_spaces}
use Rattle.sp_held_laws.specs.Passes.{passed, renewing_events, PassesUnlost}
use Rattle.sp_held_laws.specs.Premises.{LetsNoneExpire, NothingExpires}

-- ---- clients that have entries

-- the clients whose dirty calls are told
dirtied : List owner.Call → List Uuid
dirtied [] = []
dirtied (owner.Dirty client names number period ∷ h) = client ∷ dirtied h
dirtied (owner.Clean client names number strong ∷ h) = dirtied h
dirtied (owner.Moment moment ∷ h) = dirtied h
dirtied (owner.Forget object ∷ h) = dirtied h

no-entry : {A : Type 0} → false ≡ true → A
no-entry e = absurd (true≢false (sym e))

-- a client with an entry is one of them
has-dirtied : (h : List owner.Call) (c : Uuid) (o : ObjId) → is_some (owner.remembered_of h c o).expires ≡ true
    → IsOneOf c (dirtied h)
unfolding dirtied
has-dirtied [] c o e = no-entry e
has-dirtied (owner.Dirty client names number period ∷ h) c o e =
    pick (owner.is_told client names c o) refl e (has-dirtied h c o)
  where
    pick : (b : Bool) → owner.is_told client names c o ≡ b
        → is_some (if b then after_dirty number (owner.moment_of h + owner.granted period) (owner.remembered_of h c o)
        else owner.remembered_of h c o).expires ≡ true
        → (is_some (owner.remembered_of h c o).expires ≡ true → IsOneOf c (dirtied h))
        → IsOneOf c (client ∷ dirtied h)
    pick true told f rest = inl (sym ((bytes_eq-Decides client c).0 (and-left (bytes_eq client c) _ told)))
    pick false told f rest = inr (rest f)
has-dirtied (owner.Clean client names number strong ∷ h) c o e =
    pick (owner.is_told client names c o) e (has-dirtied h c o)
  where
    late : (b : Bool) → is_some (if b then owner.remembered_of h c o else record {
      number = (if strong || (owner.remembered_of h c o).strong then Some number else None);
      strong =
          strong || (owner.remembered_of h c o).strong;
      expires = None;
    }).expires ≡ true
        → (is_some (owner.remembered_of h c o).expires ≡ true → IsOneOf c (dirtied h)) → IsOneOf c (dirtied h)
    late true f rest = rest f
    late false f rest = no-entry f

    pick : (b : Bool) → is_some (if b then after_clean number strong (owner.remembered_of h c o) else
        owner.remembered_of h c o).expires ≡ true
        → (is_some (owner.remembered_of h c o).expires ≡ true → IsOneOf c (dirtied h)) → IsOneOf c (dirtied h)
    pick true f rest = late (is_late (owner.remembered_of h c o) number) f rest
    pick false f rest = rest f
has-dirtied (owner.Moment moment ∷ h) c o e = pick (nat_lt moment (owner.moment_of h)) e (has-dirtied h c o)
  where
    gone : (b : Bool) → is_some (if b then record {
      number = (if (owner.remembered_of h c o).strong then (owner.remembered_of h c o).number else None);
      strong =
          (owner.remembered_of h c o).strong;
      expires = None;
    } else owner.remembered_of h c o).expires ≡ true
        → (is_some (owner.remembered_of h c o).expires ≡ true → IsOneOf c (dirtied h)) → IsOneOf c (dirtied h)
    gone true f rest = no-entry f
    gone false f rest = rest f

    pick : (b : Bool) → is_some (if b then owner.remembered_of h c o else after_moment moment
        (owner.remembered_of h c o)).expires ≡ true
        → (is_some (owner.remembered_of h c o).expires ≡ true → IsOneOf c (dirtied h)) → IsOneOf c (dirtied h)
    pick true f rest = rest f
    pick false f rest = gone (is_gone moment (owner.remembered_of h c o).expires) f rest
has-dirtied (owner.Forget object ∷ h) c o e = pick (objects.is_same object o) e (has-dirtied h c o)
  where
    pick : (b : Bool) → is_some (if b then blank else owner.remembered_of h c o).expires ≡ true
        → (is_some (owner.remembered_of h c o).expires ≡ true → IsOneOf c (dirtied h)) → IsOneOf c (dirtied h)
    pick true f rest = no-entry f
    pick false f rest = rest f

-- ---- entries that last, as a test

lasts : ℕ → ObjId → List owner.Call → Bool
lasts moment o h = list_all (λ (c : Uuid). not (is_gone moment (owner.remembered_of h c o).expires)) (dirtied h)

lasts_at : ForeignId → World → WorldEvent → Bool
lasts_at r w (Own i (Moment moment)) =
    with_some (slice_get w.spaces i) true (λ (b : Space). lasts moment r.id b.state.owner.entries)
lasts_at r w _ = true

all_last : ForeignId → World → List WorldEvent → Bool
all_last r w [] = true
all_last r w (e ∷ es) = lasts_at r w e && all_last r (after w e) es

is-false : (b : Bool) → not b ≡ true → b ≡ false
is-false true f = absurd (true≢false (sym f))
is-false false f = refl

lets-last : (r : ForeignId) (w : World) (e : WorldEvent) → lasts_at r w e ≡ true → LetsNoneExpire r w e
unfolding lasts lasts_at
lets-last r w (Own i (Moment moment)) k =
    λ b client at own has. is-false (is_gone moment (owner.remembered_of b.state.owner.entries client r.id).expires)
    (one-of (λ (c : Uuid). not (is_gone moment (owner.remembered_of b.state.owner.entries c r.id).expires) ≡ true)
    (dirtied b.state.owner.entries) client
    (all-pass (λ (c : Uuid). not (is_gone moment (owner.remembered_of b.state.owner.entries c r.id).expires))
    (dirtied b.state.owner.entries)
    (subst (λ (x : Option Space). with_some x true (λ (s : Space). lasts moment r.id s.state.owner.entries) ≡
    true) at k))
    (has-dirtied b.state.owner.entries client r.id has))
lets-last r w (Own i Sweep) k = λ b client at own has. refl
lets-last r w (Own i (Root method arguments fuel)) k = λ b client at own has. refl
lets-last r w (Own i (RootAck task)) k = λ b client at own has. refl
lets-last r w (Own i (Bind name value)) k = λ b client at own has. refl
lets-last r w (Own i (Rebind name value)) k = λ b client at own has. refl
lets-last r w (Own i (Unbind name)) k = λ b client at own has. refl
lets-last r w (Own i (Lookup peer name)) k = λ b client at own has. refl
lets-last r w (Own i (Opened conn dialled)) k = λ b client at own has. refl
lets-last r w (Own i (Refused peer)) k = λ b client at own has. refl
lets-last r w (Own i (Received conn m)) k = λ b client at own has. refl
lets-last r w (Own i (Closed conn)) k = λ b client at own has. refl
lets-last r w (Own i (ReadFailed conn)) k = λ b client at own has. refl
lets-last r w (Own i (Bad conn)) k = λ b client at own has. refl
lets-last r w (Own i (WriteFailed conn unsent)) k = λ b client at own has. refl
lets-last r w (Own i (Committed task made op)) k = λ b client at own has. refl
lets-last r w (Own i (Parked task made)) k = λ b client at own has. refl
lets-last r w (Own i (GivenBack task made)) k = λ b client at own has. refl
lets-last r w (Own i (Finished task made)) k = λ b client at own has. refl
lets-last r w (Step i task) k = tt
lets-last r w (Open a b) k = tt
lets-last r w (Refuse a b) k = tt
lets-last r w (Accept conn) k = tt
lets-last r w (Deliver conn to) k = tt
lets-last r w (ReadFails conn end) k = tt
lets-last r w (WriteFails conn end unsent) k = tt

all-let : (r : ForeignId) (w : World) (es : List WorldEvent) → all_last r w es ≡ true → NothingExpires r w es
unfolding all_last
all-let r w [] k = tt
all-let r w (e ∷ es) k = (
  lets-last r w e (and-left (lasts_at r w e) _ k),
  all-let r (after w e) es (and-right (lasts_at r w e) _ k),
)

none-fail : (es : List WorldEvent) → list_all (λ e. not (is_failure e)) es ≡ true → NothingFails es
none-fail [] k = tt
none-fail (e ∷ es) k = (
  is-false (is_failure e) (and-left (not (is_failure e)) _ k),
  none-fail es (and-right (not (is_failure e)) _ k),
)

-- ---- the run

pub a_held_reference_is_passed_on : PassesQuietly → PassesUnlost
unfolding Books.book_run Endings.fail_dirty Endings.end_requests Endings.end_connection Endings.close Endings.fail_write Events.in_order Frames.first_frame Frames.got_call Frames.got_lookup Frames.release Frames.got_ack Frames.got_dirty Frames.got_clean Frames.answered_by Frames.told_by Frames.got Frames.receive Holders.hold_ids Holders.drop_ids Holders.has_reason Lists.each LivingTasks.add_task LivingTasks.reply_task LivingTasks.reply_to LivingTasks.op_reply LivingTasks.after_op LivingTasks.commit LivingTasks.park_call LivingTasks.give_back LivingTasks.finish_task OwnEvents.on_moment OwnEvents.on_sweep OwnEvents.set_names OwnEvents.on_lookup OwnEvents.on_opened OwnEvents.on_refused ParkedFrames.start_call ParkedFrames.answer_parked ParkedFrames.go ParkedFrames.go_all ParkedFrames.park_frame ParkedFrames.fail_parked Refusals.refusal Requests.due_groups Requests.part_goes_out Requests.go_out Requests.dial Requests.ask Requests.flush_waiting Requests.make_group Requests.make_due Requests.ask_fresh Requests.settle Space.happen Space.on Space.state_of Space.outputs_of State.opening State.send Tasks.stand Tasks.step Tasks.steps Tasks.answer Tasks.lend_fuel Tasks.start Worlds.take_event Worlds.acts Worlds.step_task Worlds.deliver Worlds.read_fails Worlds.write_fails Worlds.accept Worlds.open_pipe Worlds.refuse Worlds.after Worlds.run Worlds.new_world Scripts.settle_world Scripts.settle_swept Scripts.run_lines OneObject.object_in Quiet.settling Quiet.events_of Quiet.comes_to dirtied lasts lasts_at all_last
a_held_reference_is_passed_on passes = record {
  kind = passes.0.kind;
  fine = none-fail renewing_events refl;
  lets = all-let passed (new_world three_spaces) renewing_events refl;
  few = all-pass (λ (s : Space). nat_lt (times_held passed s.state.leases) 18446744073709551615)
      (run (new_world three_spaces) renewing_events).spaces refl;
  held = refl;
}
