-- The objects that names are bound to stand, and nothing is remembered of one that does not.
use mathlib.Core.Path.{sym, ap, subst, ◌∙◌}
use Rattle.std.specs.Prelude.{◌≡◌, refl, ℕ, ◌+◌, ◌&&◌, ◌||◌, Bool, true, false, List, [], ◌∷◌, ◌++◌, Option, None, Some, Result, Ok, Err, filter, find, fold, map, not, cond, nat_lt, is_some, if◌then◌else◌}
use Rattle.std.specs.List.{list_any}
use Rattle.std.specs.Str.{bytes_eq}
use Rattle.std.proofs.Common.{inl, inr}
use Rattle.std.proofs.lemmas.Bool.{true≢false, eq-eqb}
use Rattle.space_ids.specs.declared.ids.ClassId.{ClassId}
use Rattle.dgc_list.specs.History as owner
use Rattle.dgc_list.specs.Objects.{is_named, is_same}
use Rattle.dgc_list.specs.Remembered.{blank, after_moment}
use Rattle.net_message.specs.declared.message.Message.{Message}
use Rattle.net_message.specs.declared.message.Message.TheVariants as message
use Rattle.sp_registry.specs.Bindings as registry
use Rattle.sp_registry.specs.Names.{is_name}
use Rattle.sp_registry.specs.declared.fault.RegistryFault.{RegistryFault}
use Rattle.sp_registry.specs.declared.registry.Binding.{Binding}
use Rattle.uuid.specs.declared.Uuid.{Uuid}
use Rattle.space_ids.specs.declared.ids.ObjId.{ObjId}
use Rattle.space_ids.specs.declared.value.Value.{Value}
use Rattle.space_ids.specs.declared.value.Value.TheVariants as values
use Rattle.sp_rules.specs.Classes.{Setting}
use Rattle.sp_rules.specs.Events.{Event, Moment, Sweep, Root, RootAck, Bind, Rebind, Unbind, Lookup, Opened, Refused, Received, Closed, ReadFailed, Bad, WriteFailed, Committed, Parked, GivenBack, Finished}
use Rattle.sp_rules.specs.Frames.{that_stand}
use Rattle.sp_rules.specs.Holders
use Rattle.sp_rules.specs.Holders.{has_reason}
use Rattle.sp_rules.specs.Laws.{AllOf, IsOne, is_sweep, stands, unless_denied, named_by, told_in, told_from, told_on, is_short, told_by, NamesStand, EntriesStand}
use Rattle.sp_rules.specs.OwnEvents.{without_reason}
use Rattle.sp_rules.specs.References.{is_id, is_id_in}
use Rattle.sp_rules.specs.Space
use Rattle.sp_rules.specs.State.{State, Object, Connection, opening, standing, connection_at}
use Rattle.sp_rules.proofs.HistoryLemmas.{named, tells}
use Rattle.sp_rules.proofs.SweepLemmas.{one-id, or-true, sweep_is_exact}
use Rattle.sp_rules.proofs.WithdrawalLemmas.{only_sweeps_withdraw}

ids : List Object → List ObjId
ids os = map (λ (o : Object). o.id) os

-- ---- ids among ids

same-id : (a : ObjId) → is_id a a ≡ true
same-id a = eq-eqb a.0 a.0 refl

turned : (a b : ObjId) → is_id a b ≡ true → is_id b a ≡ true
turned a b e = subst (λ c. is_id c a ≡ true) (one-id a b e) (same-id a)

either : (a b : Bool) → a || b ≡ true → a ≡ false → b ≡ true
either true b e f = absurd (true≢false f)
either false b e f = e

left-true : (a b : Bool) → a ≡ true → a || b ≡ true
left-true true b e = refl
left-true false b e = absurd (true≢false (sym e))

right-true : (a b : Bool) → b ≡ true → a || b ≡ true
right-true a true e = or-true a
right-true a false e = absurd (true≢false (sym e))

and-right : (a b : Bool) → a && b ≡ true → b ≡ true
and-right true b e = e
and-right false b e = absurd (true≢false (sym e))

and-false : (a b : Bool) → b ≡ false → a && b ≡ false
and-false true b e = e
and-false false b e = refl

one-stands : (o : Object) (os : List Object) → IsOne o os → is_id_in (ids os) o.id ≡ true
unfolding ids
one-stands o [] one = absurd one
one-stands o (p ∷ os) (inl e) = left-true (is_id o.id p.id) _ (subst (λ (q : Object). is_id o.id q.id ≡ true) (sym e) (same-id o.id))
one-stands o (p ∷ os) (inr e) = right-true (is_id o.id p.id) _ (one-stands o os e)

-- an id that is there is that of an object
stands-one : (id : ObjId) (os : List Object) → is_id_in (ids os) id ≡ true → (o : Object) × IsOne o os × (o.id ≡ id)
unfolding ids
stands-one id [] e = absurd (true≢false (sym e))
stands-one id (p ∷ os) e = pick (is_id id p.id) refl (stands-one id os)
  where
    pick : (b : Bool) → is_id id p.id ≡ b → (is_id_in (map (λ (o : Object). o.id) os) id ≡ true → (o : Object) × IsOne o os × (o.id ≡ id)) → (o : Object) × IsOne o (p ∷ os) × (o.id ≡ id)
    pick true is rest = (p, inl refl, sym (one-id id p.id is))
    pick false is rest = let r : (o : Object) × IsOne o os × (o.id ≡ id) = rest (either (is_id id p.id) _ e is) in (r.0, inr r.1, r.2)

in-filter : (r : ObjId → Bool) (id : ObjId) (os : List Object) → r id ≡ true → is_id_in (ids os) id ≡ true → is_id_in (ids (filter (λ (o : Object). r o.id) os)) id ≡ true
unfolding ids
in-filter r id [] t e = e
in-filter r id (o ∷ os) t e = pick (is_id id o.id) (r o.id) refl refl (in-filter r id os t)
  where
    rest : List Object
    rest = filter (λ (p : Object). r p.id) os

    pick : (b c : Bool) → is_id id o.id ≡ b → r o.id ≡ c → (is_id_in (map (λ (p : Object). p.id) os) id ≡ true → is_id_in (map (λ (p : Object). p.id) rest) id ≡ true)
        → is_id_in (map (λ (p : Object). p.id) (cond c (o ∷ rest) rest)) id ≡ true
    pick true true is f go = left-true (is_id id o.id) _ is
    pick true false is f go = absurd (true≢false (sym t ∙ ap r (one-id id o.id is) ∙ f))
    pick false true is f go = right-true (is_id id o.id) _ (go (either (is_id id o.id) _ e is))
    pick false false is f go = go (either (is_id id o.id) _ e is)

-- ---- what an event leaves standing

lifted : (g : Setting) (e : Event) (s : State) (id : ObjId) → is_sweep e ≡ false → stands s id ≡ true → stands (Space.on g e s).0 id ≡ true
unfolding ids
lifted g e s id no-sweep h =
    let one : (o : Object) × IsOne o (standing s.store) × (o.id ≡ id) = stands-one id (standing s.store) h in
    subst (λ i. stands (Space.on g e s).0 i ≡ true) one.2 (one-stands one.0 (standing (Space.on g e s).0.store) (only_sweeps_withdraw g e s one.0 no-sweep one.1))

swept : (g : Setting) (s : State) (id : ObjId) → has_reason g s id ≡ true → stands s id ≡ true → stands (Space.on g Sweep s).0 id ≡ true
unfolding ids
swept g s id reason h = subst (λ os. is_id_in (map (λ (o : Object). o.id) os) id ≡ true) (sym (sweep_is_exact g s)) (in-filter (has_reason g s) id (standing s.store) reason h)

-- ---- names

all-both : {A : Type 0} (P Q R : A → Type 0) (xs : List A) → ((x : A) → P x → Q x → R x) → AllOf P xs → AllOf Q xs → AllOf R xs
all-both P Q R [] f a b = tt
all-both P Q R (x ∷ xs) f a b = (f x a.0 b.0, all-both P Q R xs f a.1 b.1)

all-same : {A : Type 0} (P R : A → Type 0) (xs : List A) → ((x : A) → P x → R x) → AllOf P xs → AllOf R xs
all-same P R [] f a = tt
all-same P R (x ∷ xs) f a = (f x a.0, all-same P R xs f a.1)

IsAmong : List Binding → Binding → Type 0
IsAmong names b = list_any (λ (c : Binding). is_id c.object b.object) names ≡ true

each-among : (names : List Binding) → AllOf (IsAmong names) names
unfolding IsAmong
each-among [] = tt
each-among (c ∷ names) = (left-true (is_id c.object c.object) _ (same-id c.object), all-same (IsAmong names) (IsAmong (c ∷ names)) names (λ b h. right-true (is_id c.object b.object) _ h) (each-among names))

abbrev Stand : State → List Binding → Type 0
Stand s names = AllOf (λ (b : Binding). stands s b.object ≡ true) names

one-more : (s : State) (names : List Binding) (b : Binding) → Stand s names → stands s b.object ≡ true → Stand s (names ++ b ∷ [])
one-more s [] b a h = (h, tt)
one-more s (c ∷ names) b a h = (a.0, one-more s names b a.1 h)

rebound-stand : (s : State) (names : List Binding) (name : List ℕ) (id : ObjId) → Stand s names → stands s id ≡ true → Stand s (registry.rebound names name id)
rebound-stand s [] name id a h = (h, tt)
rebound-stand s (c ∷ names) name id a h = pick (registry.is_of name c) (rebound-stand s names name id a.1 h)
  where
    pick : (b : Bool) → Stand s (registry.rebound names name id) → Stand s (if b then record c { object = id } ∷ names else c ∷ registry.rebound names name id)
    pick true rest = (h, a.1)
    pick false rest = (a.0, rest)

unbound-stand : (s : State) (names : List Binding) (name : List ℕ) → Stand s names → Stand s (registry.unbound names name)
unbound-stand s [] name a = tt
unbound-stand s (c ∷ names) name a = pick (registry.is_of name c) (unbound-stand s names name a.1)
  where
    pick : (b : Bool) → Stand s (registry.unbound names name) → Stand s (if b then names else c ∷ registry.unbound names name)
    pick true rest = a.1
    pick false rest = (a.0, rest)

abbrev Allows : State → Result ObjId RegistryFault → Type 0
Allows s (Ok id) = stands s id ≡ true
Allows s (Err why) = Unit {0}

bound-stand : (s : State) (names : List Binding) (name : List ℕ) (r : Result ObjId RegistryFault) → Allows s r → Stand s names → Stand s (unless_denied names (registry.bind_allowed names name r))
bound-stand s names name (Err why) h a = a
bound-stand s names name (Ok id) h a = pick (is_some (registry.lookup names name))
  where
    pick : (b : Bool) → Stand s (unless_denied names (if b then Err Rattle.sp_registry.specs.declared.fault.RegistryFault.TheVariants.AlreadyBound else Ok (names ++ record { name = name; object = id } ∷ [])))
    pick true = a
    pick false = one-more s names (record { name = name; object = id }) a h

anew-stand : (s : State) (names : List Binding) (name : List ℕ) (r : Result ObjId RegistryFault) → Allows s r → Stand s names → Stand s (unless_denied names (registry.rebind_allowed names name r))
anew-stand s names name (Err why) h a = a
anew-stand s names name (Ok id) h a = rebound-stand s names name id a h

taken-stand : (s : State) (names : List Binding) (name : List ℕ) → Stand s names → Stand s (unless_denied names (registry.unbind names name))
taken-stand s names name a = pick (is_name name) (is_some (registry.lookup names name))
  where
    pick : (b c : Bool) → Stand s (unless_denied names (if b then (if c then Ok (registry.unbound names name) else Err Rattle.sp_registry.specs.declared.fault.RegistryFault.TheVariants.NotBound) else Err Rattle.sp_registry.specs.declared.fault.RegistryFault.TheVariants.BadName))
    pick true true = unbound-stand s names name a
    pick true false = a
    pick false c = a

-- an own object that a value names stands
found-stands : (class : ClassId) (id : ObjId) (os : List Object) → Holders.class_is class (find (λ (o : Object). is_id o.id id) os) ≡ true → is_id_in (ids os) id ≡ true
unfolding ids
found-stands class id [] e = absurd (true≢false (sym e))
found-stands class id (o ∷ os) e = pick (is_id o.id id) refl e (found-stands class id os)
  where
    pick : (b : Bool) → is_id o.id id ≡ b → Holders.class_is class (cond b (Some o) (find (λ (p : Object). is_id p.id id) os)) ≡ true
        → (Holders.class_is class (find (λ (p : Object). is_id p.id id) os) ≡ true → is_id_in (map (λ (p : Object). p.id) os) id ≡ true)
        → is_id id o.id || is_id_in (map (λ (p : Object). p.id) os) id ≡ true
    pick true is f rest = left-true (is_id id o.id) _ (turned o.id id is)
    pick false is f rest = right-true (is_id id o.id) _ (rest f)

abbrev OwnStands : State → Option ObjId → Type 0
OwnStands s None = Unit {0}
OwnStands s (Some id) = stands s id ≡ true

own-stands : (g : Setting) (s : State) (v : Value) → OwnStands s (Holders.own_object g s v)
unfolding ids
own-stands g s values.Null = tt
own-stands g s (values.Int n) = tt
own-stands g s (values.Ints ns) = tt
own-stands g s (values.Ref r) = pick (Holders.is_own_standing g s r) refl
  where
    pick : (b : Bool) → Holders.is_own_standing g s r ≡ b → OwnStands s (if b then Some r.id else None)
    pick true is = found-stands r.class r.id (standing s.store) (and-right (bytes_eq r.space g.id) _ is)
    pick false is = tt

allowed-stands : (s : State) (name : List ℕ) (o : Option ObjId) → OwnStands s o → Allows s (registry.allowed name o)
allowed-stands s name o h = pick (is_name name) o h
  where
    pick : (b : Bool) (o : Option ObjId) → OwnStands s o → Allows s (if b then registry.own o else Err Rattle.sp_registry.specs.declared.fault.RegistryFault.TheVariants.BadName)
    pick true None k = tt
    pick true (Some id) k = k
    pick false o k = tt

-- what an event makes of the names stands as it comes
named-stand : (g : Setting) (e : Event) (s : State) → Stand s s.owner.names → Stand s (named_by g s e s.owner.names)
named-stand g (Bind name value) s a = bound-stand s s.owner.names name _ (allowed-stands s name _ (own-stands g s value)) a
named-stand g (Rebind name value) s a = anew-stand s s.owner.names name _ (allowed-stands s name _ (own-stands g s value)) a
named-stand g (Unbind name) s a = taken-stand s s.owner.names name a
named-stand g _ s a = a

still-stand : (g : Setting) (s : State) (e : Event) → is_sweep e ≡ false → Stand s s.owner.names → Stand (Space.on g e s).0 (named_by g s e s.owner.names)
still-stand g s e no-sweep a = all-same _ _ (named_by g s e s.owner.names) (λ b h. lifted g e s b.object no-sweep h) (named-stand g e s a)

kept-stand : (g : Setting) (s : State) → Stand s s.owner.names → Stand (Space.on g Sweep s).0 s.owner.names
unfolding has_reason IsAmong
kept-stand g s a = all-both _ (IsAmong s.owner.names) _ s.owner.names (λ b h among. swept g s b.object (left-true (Holders.is_bound s b.object) _ among) h) a (each-among s.owner.names)

stand-after : (g : Setting) (e : Event) (s : State) → Stand s s.owner.names → Stand (Space.on g e s).0 (named_by g s e s.owner.names)
stand-after g Sweep s a = kept-stand g s a
stand-after g (Moment moment) s a = still-stand g s (Moment moment) refl a
stand-after g (Root method arguments fuel) s a = still-stand g s (Root method arguments fuel) refl a
stand-after g (RootAck task) s a = still-stand g s (RootAck task) refl a
stand-after g (Bind name value) s a = still-stand g s (Bind name value) refl a
stand-after g (Rebind name value) s a = still-stand g s (Rebind name value) refl a
stand-after g (Unbind name) s a = still-stand g s (Unbind name) refl a
stand-after g (Lookup peer name) s a = still-stand g s (Lookup peer name) refl a
stand-after g (Opened conn dialled) s a = still-stand g s (Opened conn dialled) refl a
stand-after g (Refused peer) s a = still-stand g s (Refused peer) refl a
stand-after g (Received conn m) s a = still-stand g s (Received conn m) refl a
stand-after g (Closed conn) s a = still-stand g s (Closed conn) refl a
stand-after g (ReadFailed conn) s a = still-stand g s (ReadFailed conn) refl a
stand-after g (Bad conn) s a = still-stand g s (Bad conn) refl a
stand-after g (WriteFailed conn unsent) s a = still-stand g s (WriteFailed conn unsent) refl a
stand-after g (Committed task k op) s a = still-stand g s (Committed task k op) refl a
stand-after g (Parked task k) s a = still-stand g s (Parked task k) refl a
stand-after g (GivenBack task k) s a = still-stand g s (GivenBack task k) refl a
stand-after g (Finished task k) s a = still-stand g s (Finished task k) refl a

pub names_stand : NamesStand
unfolding Space.state_of opening
names_stand g [] = tt
names_stand g (e ∷ h) = subst (Stand (Space.on g e (Space.state_of g h)).0) (sym (named g e (Space.state_of g h))) (stand-after g e (Space.state_of g h) (names_stand g h))

-- ---- entries

none-or : (a b : Bool) → a || b ≡ false → (a ≡ false) × (b ≡ false)
none-or true b e = absurd (true≢false e)
none-or false b e = (refl, e)

-- of ids that stand, none is an id that does not
none-named : (among : List ObjId) (o : ObjId) (told : List ObjId) → is_id_in among o ≡ false → is_named o (filter (is_id_in among) told) ≡ false
none-named among o [] e = refl
none-named among o (x ∷ told) e = pick (is_id_in among x) refl (none-named among o told e)
  where
    rest : List ObjId
    rest = filter (is_id_in among) told

    other : (b : Bool) → is_same o x ≡ b → is_id_in among x ≡ true → is_same o x ≡ false
    other true is f = absurd (true≢false (sym (subst (λ i. is_id_in among i ≡ true) (sym (one-id o x is)) f) ∙ e))
    other false is f = is

    pick : (b : Bool) → is_id_in among x ≡ b → is_named o rest ≡ false → is_named o (cond b (x ∷ rest) rest) ≡ false
    pick true f none = ap (λ c. c || is_named o rest) (other (is_same o x) refl f) ∙ none
    pick false f none = none

-- a call on other objects leaves what is remembered
not-told : (client c : List ℕ) (told : List ObjId) (o : ObjId) → is_named o told ≡ false → owner.is_told client told c o ≡ false
not-told client c told o e = and-false (bytes_eq client c) (is_named o told) e

frame-leaves : (s : State) (client c : List ℕ) (m : Message) (calls : List owner.Call) (o : ObjId) → stands s o ≡ false
    → owner.remembered_of calls c o ≡ blank → owner.remembered_of (told_in client s m calls) c o ≡ blank
frame-leaves s client c (message.Dirty sequence period told) calls o out r =
    let e : owner.is_told client (that_stand s told) c o ≡ false = not-told client c (that_stand s told) o (none-named (map (λ (p : Object). p.id) (standing s.store)) o told out) in
    ap (λ b. if b then Rattle.dgc_list.specs.Remembered.after_dirty sequence (owner.moment_of calls + owner.granted period) (owner.remembered_of calls c o) else owner.remembered_of calls c o) e ∙ r
frame-leaves s client c (message.Clean sequence strong told) calls o out r =
    let e : owner.is_told client (that_stand s told) c o ≡ false = not-told client c (that_stand s told) o (none-named (map (λ (p : Object). p.id) (standing s.store)) o told out) in
    ap (λ b. if b then Rattle.dgc_list.specs.Remembered.after_clean sequence strong (owner.remembered_of calls c o) else owner.remembered_of calls c o) e ∙ r
frame-leaves s client c (message.Hello version space digest) calls o out r = r
frame-leaves s client c (message.Call number object method fuel arguments) calls o out r = r
frame-leaves s client c (message.Returned number fuel value) calls o out r = r
frame-leaves s client c (message.Threw number class) calls o out r = r
frame-leaves s client c (message.Spent number) calls o out r = r
frame-leaves s client c (message.Ack number) calls o out r = r
frame-leaves s client c (message.Lease sequence period) calls o out r = r
frame-leaves s client c (message.Cleaned sequence) calls o out r = r
frame-leaves s client c (message.Lookup number name) calls o out r = r

from-leaves : (s : State) (peer dialled : Option Uuid) (c : List ℕ) (m : Message) (calls : List owner.Call) (o : ObjId) → stands s o ≡ false
    → owner.remembered_of calls c o ≡ blank → owner.remembered_of (told_from peer dialled s m calls) c o ≡ blank
from-leaves s None dialled c m calls o out r = r
from-leaves s (Some client) None c m calls o out r = frame-leaves s client c m calls o out r
from-leaves s (Some client) (Some peer) c m calls o out r = r

on-leaves : (s : State) (row : Option Connection) (c : List ℕ) (m : Message) (calls : List owner.Call) (o : ObjId) → stands s o ≡ false
    → owner.remembered_of calls c o ≡ blank → owner.remembered_of (told_on s row m calls) c o ≡ blank
on-leaves s None c m calls o out r = r
on-leaves s (Some row) c m calls o out r = pick (is_short row m)
  where
    pick : (b : Bool) → owner.remembered_of (if b then told_from row.peer row.dialled s m calls else calls) c o ≡ blank
    pick true = from-leaves s row.peer row.dialled c m calls o out r
    pick false = r

moment-leaves : (late : Bool) (moment : ℕ) (c : List ℕ) (calls : List owner.Call) (o : ObjId)
    → owner.remembered_of calls c o ≡ blank → owner.remembered_of (if late then calls else owner.Moment moment ∷ calls) c o ≡ blank
moment-leaves true moment c calls o r = r
moment-leaves false moment c calls o r = ap (λ m. if nat_lt moment (owner.moment_of calls) then m else after_moment moment m) r ∙ pick (nat_lt moment (owner.moment_of calls))
  where
    pick : (b : Bool) → (if b then blank else after_moment moment blank) ≡ blank
    pick true = refl
    pick false = refl

abbrev forgotten : List owner.Call → List Object → List owner.Call
forgotten calls gone = fold (λ h (p : Object). owner.Forget p.id ∷ h) calls gone

stays-blank : (c : List ℕ) (o : ObjId) (gone : List Object) (calls : List owner.Call) → owner.remembered_of calls c o ≡ blank → owner.remembered_of (forgotten calls gone) c o ≡ blank
stays-blank c o [] calls r = r
stays-blank c o (p ∷ gone) calls r = stays-blank c o gone (owner.Forget p.id ∷ calls) (pick (is_same p.id o))
  where
    pick : (b : Bool) → (if b then blank else owner.remembered_of calls c o) ≡ blank
    pick true = refl
    pick false = r

gone-blank : (c : List ℕ) (o : ObjId) (gone : List Object) (calls : List owner.Call) → is_id_in (ids gone) o ≡ true → owner.remembered_of (forgotten calls gone) c o ≡ blank
unfolding ids
gone-blank c o [] calls e = absurd (true≢false (sym e))
gone-blank c o (p ∷ gone) calls e = pick (is_id o p.id) refl (gone-blank c o gone (owner.Forget p.id ∷ calls))
  where
    pick : (b : Bool) → is_id o p.id ≡ b → (is_id_in (map (λ (q : Object). q.id) gone) o ≡ true → owner.remembered_of (forgotten (owner.Forget p.id ∷ calls) gone) c o ≡ blank)
        → owner.remembered_of (forgotten (owner.Forget p.id ∷ calls) gone) c o ≡ blank
    pick true is rest = stays-blank c o gone (owner.Forget p.id ∷ calls) (ap (λ b. if b then blank else owner.remembered_of calls c o) (turned o p.id is))
    pick false is rest = rest (either (is_id o p.id) _ e is)

-- an object that stood and does not stand after the Sweep is among those that went
went : (g : Setting) (s : State) (o : ObjId) → stands s o ≡ true → stands (Space.on g Sweep s).0 o ≡ false → is_id_in (ids (without_reason g s)) o ≡ true
unfolding ids
went g s o stood out = pick (has_reason g s o) refl
  where
    pick : (b : Bool) → has_reason g s o ≡ b → is_id_in (map (λ (p : Object). p.id) (without_reason g s)) o ≡ true
    pick true is = absurd (true≢false (sym (swept g s o is stood) ∙ out))
    pick false is = in-filter (λ id. not (has_reason g s id)) o (standing s.store) (ap not is) stood

sweep-leaves : (g : Setting) (s : State) (c : List ℕ) (o : ObjId) → stands (Space.on g Sweep s).0 o ≡ false
    → (stands s o ≡ false → owner.remembered_of s.owner.entries c o ≡ blank) → owner.remembered_of (forgotten s.owner.entries (without_reason g s)) c o ≡ blank
sweep-leaves g s c o out before = pick (stands s o) refl
  where
    pick : (b : Bool) → stands s o ≡ b → owner.remembered_of (forgotten s.owner.entries (without_reason g s)) c o ≡ blank
    pick true is = gone-blank c o (without_reason g s) s.owner.entries (went g s o is out)
    pick false is = stays-blank c o (without_reason g s) s.owner.entries (before is)

-- an object that does not stand after another event did not before
was-out : (g : Setting) (e : Event) (s : State) (o : ObjId) → is_sweep e ≡ false → stands (Space.on g e s).0 o ≡ false → stands s o ≡ false
was-out g e s o no-sweep out = pick (stands s o) refl
  where
    pick : (b : Bool) → stands s o ≡ b → stands s o ≡ false
    pick true is = absurd (true≢false (sym (lifted g e s o no-sweep is) ∙ out))
    pick false is = is

leaves : (g : Setting) (e : Event) (s : State) (c : List ℕ) (o : ObjId) → stands (Space.on g e s).0 o ≡ false
    → (stands s o ≡ false → owner.remembered_of s.owner.entries c o ≡ blank) → owner.remembered_of (told_by g s e s.owner.entries) c o ≡ blank
leaves g Sweep s c o out before = sweep-leaves g s c o out before
leaves g (Moment moment) s c o out before = moment-leaves (nat_lt moment s.moment) moment c s.owner.entries o (before (was-out g (Moment moment) s o refl out))
leaves g (Received conn m) s c o out before =
    let no : stands s o ≡ false = was-out g (Received conn m) s o refl out in
    on-leaves s (connection_at s conn) c m s.owner.entries o no (before no)
leaves g (Root method arguments fuel) s c o out before = before (was-out g (Root method arguments fuel) s o refl out)
leaves g (RootAck task) s c o out before = before (was-out g (RootAck task) s o refl out)
leaves g (Bind name value) s c o out before = before (was-out g (Bind name value) s o refl out)
leaves g (Rebind name value) s c o out before = before (was-out g (Rebind name value) s o refl out)
leaves g (Unbind name) s c o out before = before (was-out g (Unbind name) s o refl out)
leaves g (Lookup peer name) s c o out before = before (was-out g (Lookup peer name) s o refl out)
leaves g (Opened conn dialled) s c o out before = before (was-out g (Opened conn dialled) s o refl out)
leaves g (Refused peer) s c o out before = before (was-out g (Refused peer) s o refl out)
leaves g (Closed conn) s c o out before = before (was-out g (Closed conn) s o refl out)
leaves g (ReadFailed conn) s c o out before = before (was-out g (ReadFailed conn) s o refl out)
leaves g (Bad conn) s c o out before = before (was-out g (Bad conn) s o refl out)
leaves g (WriteFailed conn unsent) s c o out before = before (was-out g (WriteFailed conn unsent) s o refl out)
leaves g (Committed task k op) s c o out before = before (was-out g (Committed task k op) s o refl out)
leaves g (Parked task k) s c o out before = before (was-out g (Parked task k) s o refl out)
leaves g (GivenBack task k) s c o out before = before (was-out g (GivenBack task k) s o refl out)
leaves g (Finished task k) s c o out before = before (was-out g (Finished task k) s o refl out)

pub entries_stand : EntriesStand
unfolding Space.state_of opening
entries_stand g [] client o out = refl
entries_stand g (e ∷ h) client o out =
    ap (λ calls. owner.remembered_of calls client o) (tells g e (Space.state_of g h))
    ∙ leaves g e (Space.state_of g h) client o out (entries_stand g h client o)
