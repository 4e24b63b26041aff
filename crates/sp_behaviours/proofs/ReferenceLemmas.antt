-- The references in a space are of remote classes after every history that the space took.
use mathlib.Core.Path.{subst}
use Rattle.std.specs.Prelude.{◌≡◌, refl, ℕ, ◌&&◌, ◌||◌, not, is_some, Bool, true, false, List, [], ◌∷◌, None, Some, if◌then◌else◌}
use Rattle.std.specs.Str.{bytes_eq}
use Rattle.std.proofs.lemmas.Bool.{true≢false}
use Rattle.space_ids.specs.declared.ids.ClassId.{ClassId}
use Rattle.space_ids.specs.declared.ids.Ref.{Ref}
use Rattle.sp_rules.specs.Behaviours.{Create, Get, Put, Call}
use Rattle.sp_rules.specs.Classes.{Setting}
use Rattle.sp_rules.specs.Events.{Event, Moment, Sweep, Root, RootAck, Bind, Rebind, Unbind, Lookup, Opened, Refused, Received, Closed, ReadFailed, Bad, WriteFailed, Committed, Parked, GivenBack, Finished}
use Rattle.sp_rules.specs.Holders
use Rattle.sp_rules.specs.Holders.{fields_of, references_of_frame}
use Rattle.sp_rules.specs.Laws.{AllOf}
use Rattle.sp_rules.specs.Origins.{IsTaken, own_reference, references_of_message}
use Rattle.sp_rules.specs.References.{is_id, references_of}
use Rattle.sp_rules.specs.Refusals
use Rattle.sp_rules.specs.Refusals.{refusal}
use Rattle.sp_rules.specs.Space
use Rattle.sp_rules.specs.State.{State, Object, ParkedFrame, object_at, opening, standing}
use Rattle.sp_rules.proofs.AllLemmas.{all-found, all-weaken}
use Rattle.sp_rules.proofs.OriginLemmas.{FieldsAre, FrameIs, Only}
use Rattle.sp_rules.proofs.OriginsOfFrames.{RefBrings, Waits, on_only}
use Rattle.sp_rules.proofs.OwnLemmas.{Any, EventIs, and-right, fields-all, frame-only, held-is, not-false, root-arguments, root-held, taken-brings, unrefused}
use Rattle.sp_behaviours.specs.Stores.{AreOfRemote, IsOfRemote, ReferencesAreRemote}
use Rattle.sp_behaviours.proofs.FieldLemmas.{found}
use Rattle.sp_behaviours.proofs.StoreLemmas.{op-fits}

-- ---- what a space takes brings such references

abbrev RemoteOnly : Setting → State → Type 0
RemoteOnly g s = Only g (IsOfRemote g) Any (Waits g) s

-- the class of an object that stands
object-is : (g : Setting) (s : State) (r : Ref) → RemoteOnly g s → Holders.class_is r.class (object_at s r.id) ≡ true → IsOfRemote g r
object-is g s r h names =
    let x : (o : Object) × (object_at s r.id ≡ Some o) × (o.class ≡ r.class) = found s r.id r.class names in
    subst (λ (class : ClassId). g.classes.is_remote class ≡ true) x.2 (all-found (λ (o : Object). IsOfRemote g (own_reference g o)) (λ (o : Object). is_id o.id r.id) (standing s.store) x.0 x.1 h.parts.objects)

root-is : (g : Setting) (s : State) (r : Ref) → RemoteOnly g s → Refusals.is_root_argument g s r ≡ true → IsOfRemote g r
root-is g s r h is = by (bytes_eq r.space g.id) refl is
  where
    by : (b : Bool) → bytes_eq r.space g.id ≡ b → (if b then Holders.is_own_standing g s r else Holders.has_holder g s r && is_some (Holders.lease_now s (record { space = r.space; id = r.id })).lease) ≡ true → IsOfRemote g r
    by true own f = object-is g s r h (and-right (bytes_eq r.space g.id) _ f)
    by false foreign f = held-is r (root-held g s r is foreign) h

or-left : (a b : Bool) → a || b ≡ false → a ≡ false
or-left true b e = absurd (true≢false e)
or-left false b e = refl

every : (g : Setting) (s : State) (refs : List Ref) → AllOf (RefBrings g (IsOfRemote g) s) refs
every g s [] = tt
every g s (r ∷ refs) = ((λ e. not-false (g.classes.is_remote r.class) (or-left (not (g.classes.is_remote r.class)) _ e)), every g s refs)

events-bring : (g : Setting) (lent : List ℕ) (s : State) (e : Event) → refusal g lent s e ≡ None → RemoteOnly g s → EventIs g (IsOfRemote g) s e
events-bring g lent s (Root method arguments fuel) t h =
    all-weaken (λ (r : Ref). Refusals.is_root_argument g s r ≡ true) (IsOfRemote g) (references_of arguments) (λ r is. root-is g s r h is) (root-arguments g lent s method arguments fuel (unrefused g lent s (Root method arguments fuel) t))
events-bring g lent s (Received conn m) t h = every g s (references_of_message m)
events-bring g lent s (Committed task k (Create class)) t h = λ full. (op-fits g lent s task k (Create class) t).1
events-bring g lent s (Committed task k (Get id slot)) t h = tt
events-bring g lent s (Committed task k (Put id slot value)) t h = tt
events-bring g lent s (Committed task k (Call target method arguments)) t h = tt
events-bring g lent s (Moment moment) t h = tt
events-bring g lent s Sweep t h = tt
events-bring g lent s (RootAck task) t h = tt
events-bring g lent s (Bind name value) t h = tt
events-bring g lent s (Rebind name value) t h = tt
events-bring g lent s (Unbind name) t h = tt
events-bring g lent s (Lookup peer name) t h = tt
events-bring g lent s (Opened conn dialled) t h = tt
events-bring g lent s (Refused peer) t h = tt
events-bring g lent s (Closed conn) t h = tt
events-bring g lent s (ReadFailed conn) t h = tt
events-bring g lent s (Bad conn) t h = tt
events-bring g lent s (WriteFailed conn unsent) t h = tt
events-bring g lent s (Parked task k) t h = tt
events-bring g lent s (GivenBack task k) t h = tt
events-bring g lent s (Finished task k) t h = tt

-- ---- all histories

remote-only : (g : Setting) (h : List Event) → IsTaken g h → RemoteOnly g (Space.state_of g h)
unfolding Space.state_of opening
remote-only g [] t = record {
  parts = record {
    lets = λ r is. tt;
    objects = tt;
    numbers = tt;
    unwritten = λ id slot high. refl;
    fields = tt;
    tasks = tt;
    results = tt;
    parked = tt;
    kept = tt;
    requests = tt;
    fresh = tt;
    notes = tt;
  };
}
remote-only g (e ∷ h) t =
    let before : RemoteOnly g (Space.state_of g h) = remote-only g h t.1 in
    (on_only e (taken-brings t.0.0 e t.0.1 (events-bring g t.0.0 (Space.state_of g h) e t.0.1 before) before) before).state

pub references_are_remote : ReferencesAreRemote
references_are_remote g h t = by (Space.state_of g h) (remote-only g h t)
  where
    by : (s : State) → RemoteOnly g s → AreOfRemote g s
    by s o = record {
      tasks = o.parts.tasks;
      fields = all-weaken (FieldsAre g (IsOfRemote g) s.store) (λ (p : Object). AllOf (IsOfRemote g) (references_of (fields_of g s p))) (standing s.store) (fields-all (IsOfRemote g) g s) o.parts.fields;
      results = o.parts.results;
      parked = all-weaken (λ (p : ParkedFrame). FrameIs g (IsOfRemote g) p.frame) (λ (p : ParkedFrame). AllOf (IsOfRemote g) (references_of_frame p.frame)) s.parked (λ p a. frame-only g (IsOfRemote g) p.frame a) o.parts.parked;
    }
