-- What frames name stands, and a call that comes finds its object.
use mathlib.Core.Path.{sym, ap, subst, ◌∙◌}
use Rattle.std.proofs.Common.{inl, inr}
use Rattle.std.proofs.lemmas.Bool.{true≢false}
use Rattle.std.proofs.lemmas.Slice.Eq.{bytes_eq-Decides}
use Rattle.std.specs.Prelude.{◌≡◌, refl, ℕ, is_some, true, List, ◌∷◌, ◌++◌, Some, slice_get}
use Rattle.net_message.specs.declared.message.Message.{Message}
use Rattle.net_message.specs.declared.message.Message.TheVariants as message
use Rattle.space_ids.specs.declared.ids.ForeignId.{ForeignId}
use Rattle.space_ids.specs.declared.ids.ObjId.{ObjId}
use Rattle.space_ids.specs.declared.value.Value.{Value}
use Rattle.sp_rules.specs.Classes.{Setting}
use Rattle.sp_rules.specs.Events.{Event, Moment, Sweep, Root, RootAck, Bind, Rebind, Unbind, Lookup, Opened, Refused, Received, Closed, ReadFailed, Bad, WriteFailed, Committed, Parked, GivenBack, Finished}
use Rattle.sp_rules.specs.Laws.{stands}
use Rattle.sp_rules.specs.Space
use Rattle.sp_rules.specs.State.{State, object_at}
use Rattle.sp_rules.specs.Worlds.{World, Space, Pipe, End, Dialler, Accepter, side, other, WorldEvent}
use Rattle.sp_rules.proofs.SweepLemmas.{one-id}
use Rattle.sp_laws.specs.Directions.{HasDirections}
use Rattle.sp_order_laws.specs.Delivered.{came_on, sent_on}
use Rattle.sp_order_laws.specs.Ends.{IsOneOf}
use Rattle.sp_order_laws.specs.Places.{IsBetween}
use Rattle.sp_order_laws.proofs.WorldFacts.{Known, at-all}
use Rattle.sp_order_laws.specs.Senders.{CallerHolds}
use Rattle.sp_order_laws.proofs.WelcomeFrames.{not-dialled}
use Rattle.sp_order_laws.proofs.WelcomeLemmas.{Facts, of-there, one-right, went}
use Rattle.sp_held_laws.specs.Reaches.{ComesBy, IsFirstTo, IsSilent}
use Rattle.sp_held_laws.specs.Lost.{ComesAsCall, IsReferenceTo, NamedStands, FindsObject}
use Rattle.sp_held_laws.proofs.HolderLemmas.{stands-found}
use Rattle.sp_held_laws.proofs.StandLaws.{Entered, held-by-caller, held-as-result}

-- ---- what frames name

pub named-stands : {settings : List Setting} {r : ForeignId} {w : World} → Entered settings r w → NamedStands r w
named-stands {settings} {r} {w} E = record {
  target = λ conn number method fuel arguments p a b between own comes. let h =
      holds conn number method fuel r.id arguments p a b between comes
      in held-by-caller E p.dialler.space p.accepter.space a b b r.id arguments between.dialled between.accepted own h
      h.object (inl refl) (names h own);
  argument = λ conn number method fuel target arguments p a b x between comes is refers j o at own.
      held-by-caller E p.dialler.space j a o b target arguments between.dialled at own
      (holds conn number method fuel target arguments p a b between comes) x (inr is) refers;
  result = λ conn number fuel value p a b x between comes is refers j o at own.
      held-as-result E p.accepter.space j conn number b o value between.accepted at own
      (E.quiet.hold.results conn number p a b fuel value between comes) x is refers;
}
  where
    holds : (conn number method fuel : ℕ) (target : ObjId) (arguments : List Value) (p : Pipe) (a b : Space)
        → IsBetween w conn p a b → ComesAsCall conn number target method fuel arguments p b
        → CallerHolds a b target arguments
    holds conn number method fuel target arguments p a b between comes =
        E.quiet.hold.calls conn number p a b target method fuel arguments between comes

    names : {a b : Space} {arguments : List Value} → (h : CallerHolds a b r.id arguments) → r.space ≡ b.setting.id
        → IsReferenceTo r h.object
    names {a} {b} h own = record {
      space = own ∙ sym ((bytes_eq-Decides h.object.space b.setting.id).0 h.space);
      id =
          sym (one-id h.object.id r.id h.number);
    }

-- ---- a call that comes

-- it comes from the space that dialled, and its object stands
call-stands : {settings : List Setting} {r : ForeignId} {w : World} → Entered settings r w
    → (j : ℕ) (b : Space) (conn number method fuel : ℕ) (arguments : List Value) → slice_get w.spaces j ≡ Some b
    → r.space ≡ b.setting.id → IsFirstTo w j conn (message.Call number r.id method fuel arguments)
    → stands b.state r.id ≡ true
call-stands {settings} {r} {w} E j b conn number method fuel arguments atj own first =
    by first.end first.space first.queue
  where
    F : Facts settings w
    F = E.quiet.given.facts

    m : Message
    m = message.Call number r.id method fuel arguments

    p : Pipe
    p = first.pipe

    sender : (end : End) → (side end p).space ≡ j → (side end p).queue ≡ m ∷ first.rest
        → (u : Space) × ((slice_get w.spaces (side (other end) p).space ≡ Some u) × IsOneOf m
        (sent_on conn u.outputs))
    sender end e f = of-there w.spaces (side (other end) p).space conn m
        (came_on conn b.history ++ (side end p).queue)
        (F.delivers.brings conn p end first.there b (ap (slice_get w.spaces) e ∙ atj))
        (one-right m (came_on conn b.history) (side end p).queue (subst (IsOneOf m) (sym f) (inl refl)))

    by : (end : End) → (side end p).space ≡ j → (side end p).queue ≡ m ∷ first.rest → stands b.state r.id ≡ true
    by Dialler e f = let u = sender Dialler e f
        in absurd (not-dialled F conn p u.0 first.there u.1.0
        (went u.0.history conn m u.0.outputs
        (at-all HasDirections p.accepter.space w.spaces u.0 u.1.0 F.directions).sent u.1.1))
    by Accepter e f = let u = sender Accepter e f in (named-stands E).target conn number method fuel arguments p u.0 b
        (record { pipe = first.there; dialled = u.1.0; accepted = ap (slice_get w.spaces) e ∙ atj }) own
        (inl (subst (IsOneOf m) (sym f) (inl refl)))

frame-finds : {settings : List Setting} {r : ForeignId} {w : World} → Entered settings r w
    → (j : ℕ) (b : Space) (conn : ℕ) (m : Message) → slice_get w.spaces j ≡ Some b → r.space ≡ b.setting.id
    → IsFirstTo w j conn m → FindsObject (Space.state_of b.setting b.history) r.id (Received conn m)
frame-finds {settings} {r} {w} E j b conn (message.Call number target method fuel arguments) atj own first =
    λ same. subst (λ (i : ObjId). is_some (object_at (Space.state_of b.setting b.history) i) ≡ true) (sym same)
    (subst (λ (s : State). is_some (object_at s r.id) ≡ true) known.state
    (stands-found b.state r.id (call-stands E j b conn number method fuel arguments atj own
    (subst (λ (i : ObjId). IsFirstTo w j conn (message.Call number i method fuel arguments)) same first))))
  where
    known : Known b
    known = at-all Known j w.spaces b atj E.quiet.given.facts.known
frame-finds E j b conn (message.Hello version space digest) atj own first = tt
frame-finds E j b conn (message.Returned number fuel value) atj own first = tt
frame-finds E j b conn (message.Threw number class) atj own first = tt
frame-finds E j b conn (message.Spent number) atj own first = tt
frame-finds E j b conn (message.Ack number) atj own first = tt
frame-finds E j b conn (message.Dirty sequence period ids) atj own first = tt
frame-finds E j b conn (message.Lease sequence period) atj own first = tt
frame-finds E j b conn (message.Clean sequence strong ids) atj own first = tt
frame-finds E j b conn (message.Cleaned sequence) atj own first = tt
frame-finds E j b conn (message.Lookup number name) atj own first = tt

-- whatever comes to the owner
pub event-finds : {settings : List Setting} {r : ForeignId} {w : World} → Entered settings r w
    → (e : WorldEvent) (j : ℕ) (b : Space) (d : Event) → slice_get w.spaces j ≡ Some b → r.space ≡ b.setting.id
    → ComesBy w e j d → FindsObject (Space.state_of b.setting b.history) r.id d
event-finds E e j b (Received conn m) atj own comes = frame-finds E j b conn m atj own comes
event-finds E e j b Sweep atj own comes = tt
event-finds E e j b (Moment moment) atj own comes = tt
event-finds E e j b (Root method arguments fuel) atj own comes = tt
event-finds E e j b (RootAck task) atj own comes = tt
event-finds E e j b (Bind name value) atj own comes = tt
event-finds E e j b (Rebind name value) atj own comes = tt
event-finds E e j b (Unbind name) atj own comes = tt
event-finds E e j b (Lookup peer name) atj own comes = tt
event-finds E e j b (Opened conn dialled) atj own comes = tt
event-finds E e j b (Refused peer) atj own comes = tt
event-finds E e j b (Closed conn) atj own comes = tt
event-finds E e j b (ReadFailed conn) atj own comes = tt
event-finds E e j b (Bad conn) atj own comes = tt
event-finds E e j b (WriteFailed conn unsent) atj own comes = tt
event-finds E e j b (Committed task made op) atj own comes = tt
event-finds E e j b (Parked task made) atj own comes = tt
event-finds E e j b (GivenBack task made) atj own comes = tt
event-finds E e j b (Finished task made) atj own comes = tt

-- and what answers nothing
pub silent-finds : (s : State) (id : ObjId) (d : Event) → IsSilent d → FindsObject s id d
silent-finds s id (Received conn m) silent = absurd (true≢false silent)
silent-finds s id Sweep silent = tt
silent-finds s id (Moment moment) silent = tt
silent-finds s id (Root method arguments fuel) silent = tt
silent-finds s id (RootAck task) silent = tt
silent-finds s id (Bind name value) silent = tt
silent-finds s id (Rebind name value) silent = tt
silent-finds s id (Unbind name) silent = tt
silent-finds s id (Lookup peer name) silent = tt
silent-finds s id (Opened conn dialled) silent = tt
silent-finds s id (Refused peer) silent = tt
silent-finds s id (Closed conn) silent = tt
silent-finds s id (ReadFailed conn) silent = tt
silent-finds s id (Bad conn) silent = tt
silent-finds s id (WriteFailed conn unsent) silent = tt
silent-finds s id (Committed task made op) silent = tt
silent-finds s id (Parked task made) silent = tt
silent-finds s id (GivenBack task made) silent = tt
silent-finds s id (Finished task made) silent = tt
