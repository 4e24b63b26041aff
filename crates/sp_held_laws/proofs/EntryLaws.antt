-- What one event does to the entries of an owner's clients.
use mathlib.Core.Path.{sym, ap, subst, ◌∙◌}
use Rattle.std.proofs.Common.{inl, inr}
use Rattle.std.proofs.lemmas.Bool.{true≢false}
use Rattle.std.specs.Prelude.{◌≡◌, ◌⊎◌, refl, ℕ, ◌+◌, ◌&&◌, ◌||◌, not, nat_lt, is_some, Bool, true, false, cond, List, [], ◌∷◌, Option, None, Some, filter, fold, map, if◌then◌else◌}
use Rattle.std.specs.Str.{bytes_eq}
use Rattle.std.proofs.lemmas.Slice.Eq.{bytes_eq-Decides}
use Rattle.dgc_list.specs.History as owner
use Rattle.dgc_list.specs.History.{Call, own_calls, remembered_of, is_told}
use Rattle.dgc_list.specs.Objects as objects
use Rattle.dgc_list.specs.Remembered.{after_dirty, after_moment, is_gone, is_late}
use Rattle.dgc_list.specs.declared.remembered.Remembered.{Remembered}
use Rattle.net_message.specs.declared.message.Message.{Message}
use Rattle.net_message.specs.declared.message.Message.TheVariants as message
use Rattle.space_ids.specs.declared.ids.ObjId.{ObjId}
use Rattle.uuid.specs.declared.Uuid.{Uuid}
use Rattle.sp_rules.specs.Classes.{Setting}
use Rattle.sp_rules.specs.Events.{Event, Moment, Sweep, Root, RootAck, Bind, Rebind, Unbind, Lookup, Opened, Refused, Received, Closed, ReadFailed, Bad, WriteFailed, Committed, Parked, GivenBack, Finished}
use Rattle.sp_rules.specs.Frames.{that_stand}
use Rattle.sp_rules.specs.Holders.{has_reason}
use Rattle.sp_rules.specs.Laws.{AllOf, is_short, stands, told_after, told_by, told_on, told_from, told_in}
use Rattle.sp_rules.specs.OwnEvents
use Rattle.sp_rules.specs.References.{is_id, is_id_in}
use Rattle.sp_rules.specs.Space
use Rattle.sp_rules.specs.State.{State, Object, Connection, standing, connection_at}
use Rattle.sp_rules.specs.Worlds as Worlds
use Rattle.sp_rules.proofs.HistoryLemmas.{entries_are_told}
use Rattle.sp_rules.proofs.OwnLemmas.{and-left, and-right}
use Rattle.sp_held_laws.specs.Guards.{NothingHoldsWhatGoes}
use Rattle.sp_held_laws.specs.Steps.{has_entry_for, expires_with, BringsClean, EntriesStayUntilCleaned, DirtyCallsSetEntries}

-- ---- what is told

-- what is remembered, by the calls of the client on the object alone
abbrev Own : Uuid → ObjId → List Call → Remembered
Own c o calls = remembered_of (own_calls c o calls) c o

now : (g : Setting) (h : List Event) (c : Uuid) (o : ObjId) → has_entry_for (Space.state_of g h) c o ≡ is_some (Own c o (told_after g h)).expires
now g h c o = ap (λ (r : Remembered). is_some r.expires) (entries_are_told g h c o)

dirty-keeps : (n end : ℕ) (r : Remembered) → is_some r.expires ≡ true → is_some (after_dirty n end r).expires ≡ true
dirty-keeps n end r e = pick (is_late r n)
  where
    pick : (b : Bool) → is_some (if b then r else record { number = Some n; strong = r.strong; expires = Some end }).expires ≡ true
    pick true = e
    pick false = refl

dirty-stays : (client c : Uuid) (ids : List ObjId) (o : ObjId) (n period : ℕ) (calls : List Call) → is_some (Own c o calls).expires ≡ true → is_some (Own c o (owner.Dirty client ids n period ∷ calls)).expires ≡ true
dirty-stays client c ids o n period calls e = pick (is_told client ids c o) refl
  where
    told : (b : Bool) → is_some (if b then after_dirty n (owner.moment_of (own_calls c o calls) + owner.granted period) (Own c o calls) else Own c o calls).expires ≡ true
    told true = dirty-keeps n _ (Own c o calls) e
    told false = e

    pick : (b : Bool) → is_told client ids c o ≡ b → is_some (remembered_of (if b then owner.Dirty client ids n period ∷ own_calls c o calls else own_calls c o calls) c o).expires ≡ true
    pick true t = told (is_told client ids c o)
    pick false t = e

moment-stays : (m : ℕ) (c : Uuid) (o : ObjId) (calls : List Call) → is_some (Own c o calls).expires ≡ true → is_gone m (Own c o calls).expires ≡ false → is_some (Own c o (owner.Moment m ∷ calls)).expires ≡ true
moment-stays m c o calls e alive = pick (nat_lt m (owner.moment_of (own_calls c o calls)))
  where
    gone : (b : Bool) → b ≡ false → is_some (if b then record { number = (if (Own c o calls).strong then (Own c o calls).number else None); strong = (Own c o calls).strong; expires = None } else Own c o calls).expires ≡ true
    gone true f = absurd (true≢false f)
    gone false f = e

    pick : (b : Bool) → is_some (if b then Own c o calls else after_moment m (Own c o calls)).expires ≡ true
    pick true = e
    pick false = gone (is_gone m (Own c o calls).expires) alive

forget-stays : (c : Uuid) (o object : ObjId) (calls : List Call) → objects.is_same object o ≡ false → is_some (Own c o calls).expires ≡ true → is_some (Own c o (owner.Forget object ∷ calls)).expires ≡ true
forget-stays c o object calls apart e = pick (objects.is_same object o) apart
  where
    pick : (b : Bool) → b ≡ false → is_some (remembered_of (if b then owner.Forget object ∷ own_calls c o calls else own_calls c o calls) c o).expires ≡ true
    pick true f = absurd (true≢false f)
    pick false f = e

forgets-stay : (c : Uuid) (o : ObjId) (gone : List Object) (calls : List Call) → AllOf (λ (x : Object). objects.is_same x.id o ≡ false) gone → is_some (Own c o calls).expires ≡ true → is_some (Own c o (fold (λ calls (x : Object). owner.Forget x.id ∷ calls) calls gone)).expires ≡ true
forgets-stay c o [] calls a e = e
forgets-stay c o (x ∷ gone) calls a e = forgets-stay c o gone (owner.Forget x.id ∷ calls) a.1 (forget-stays c o x.id calls a.0 e)

-- ---- a Sweep

-- an object for which a client has an entry has a reason to stay
kept-apart : NothingHoldsWhatGoes → (g : Setting) (s : State) (c : Uuid) (o : ObjId) → has_entry_for s c o ≡ true → AllOf (λ (x : Object). objects.is_same x.id o ≡ false) (OwnEvents.without_reason g s)
kept-apart holds g s c o e = each (standing s.store)
  where
    at : Worlds.Space
    at = record { setting = g; history = []; state = s; outputs = [] }

    differs : (x : Object) → has_reason g s x.id ≡ false → (b : Bool) → objects.is_same x.id o ≡ b → b ≡ false
    differs x none false t = refl
    differs x none true t = absurd (true≢false (sym (subst (λ (i : ObjId). has_entry_for s c i ≡ true) (sym (Rattle.sp_rules.proofs.SweepLemmas.one-id x.id o t)) e) ∙ (holds at x.id none).1 c))

    each : (os : List Object) → AllOf (λ (x : Object). objects.is_same x.id o ≡ false) (filter (λ (x : Object). not (has_reason g s x.id)) os)
    each [] = tt
    each (x ∷ os) = pick (has_reason g s x.id) refl (each os)
      where
        pick : (b : Bool) → has_reason g s x.id ≡ b → AllOf (λ (y : Object). objects.is_same y.id o ≡ false) (filter (λ (y : Object). not (has_reason g s y.id)) os)
            → AllOf (λ (y : Object). objects.is_same y.id o ≡ false) (cond (not b) (x ∷ filter (λ (y : Object). not (has_reason g s y.id)) os) (filter (λ (y : Object). not (has_reason g s y.id)) os))
        pick true t rest = rest
        pick false t rest = (differs x t (objects.is_same x.id o) refl, rest)

-- ---- a frame that comes

among-standing : (is : ObjId → Bool) (ids : List ObjId) (o : ObjId) → is_id_in (filter is ids) o ≡ true → is_id_in ids o ≡ true
among-standing is [] o e = e
among-standing is (x ∷ ids) o e = pick (is x) e (among-standing is ids o)
  where
    or : (a b c : Bool) → (b ≡ true → c ≡ true) → a || b ≡ true → a || c ≡ true
    or true b c f e = refl
    or false b c f e = f e

    skip : (a b : Bool) → b ≡ true → a || b ≡ true
    skip true b e = refl
    skip false b e = e

    pick : (b : Bool) → is_id_in (cond b (x ∷ filter is ids) (filter is ids)) o ≡ true → (is_id_in (filter is ids) o ≡ true → is_id_in ids o ≡ true) → is_id o x || is_id_in ids o ≡ true
    pick true f rest = or (is_id o x) (is_id_in (filter is ids) o) (is_id_in ids o) rest f
    pick false f rest = skip (is_id o x) (is_id_in ids o) (rest f)

clean-stays : (s : State) (conn number : ℕ) (strong : Bool) (ids : List ObjId) (row : Connection) (peer c : Uuid) (o : ObjId) (calls : List Call) → connection_at s conn ≡ Some row → row.peer ≡ Some peer → row.dialled ≡ None → is_some (Own c o calls).expires ≡ true
    → (is_some (Own c o (owner.Clean peer (that_stand s ids) number strong ∷ calls)).expires ≡ true) ⊎ BringsClean s (Received conn (message.Clean number strong ids)) c o
clean-stays s conn number strong ids row peer c o calls there spoke accepted e = pick (is_told peer (that_stand s ids) c o) refl
  where
    pick : (b : Bool) → is_told peer (that_stand s ids) c o ≡ b → (is_some (remembered_of (if b then owner.Clean peer (that_stand s ids) number strong ∷ own_calls c o calls else own_calls c o calls) c o).expires ≡ true) ⊎ BringsClean s (Received conn (message.Clean number strong ids)) c o
    pick false t = inl e
    pick true t = inr (record {
      conn = conn;
      number = number;
      strong = strong;
      ids = ids;
      row = row;
      peer = peer;
      came = refl;
      there = there;
      spoke = spoke;
      accepted = accepted;
      client_is = and-left (bytes_eq peer c) _ t;
      names = among-standing (is_id_in (map (λ (x : Object). x.id) (standing s.store))) ids o (and-right (bytes_eq peer c) _ t);
    })

-- what a frame tells keeps the entry, or is a clean call of it
frame-stays : (s : State) (conn : ℕ) (m : Message) (c : Uuid) (o : ObjId) (calls : List Call) → is_some (Own c o calls).expires ≡ true → (is_some (Own c o (told_on s (connection_at s conn) m calls)).expires ≡ true) ⊎ BringsClean s (Received conn m) c o
frame-stays s conn m c o calls e = on (connection_at s conn) refl
  where
    tells : (row : Connection) → connection_at s conn ≡ Some row → (peer : Uuid) → row.peer ≡ Some peer → row.dialled ≡ None → (x : Message) → (is_some (Own c o (told_in peer s x calls)).expires ≡ true) ⊎ BringsClean s (Received conn x) c o
    tells row is peer spoke accepted (message.Dirty sequence period ids) = inl (dirty-stays peer c (that_stand s ids) o sequence period calls e)
    tells row is peer spoke accepted (message.Clean sequence strong ids) = clean-stays s conn sequence strong ids row peer c o calls is spoke accepted e
    tells row is peer spoke accepted (message.Hello version space digest) = inl e
    tells row is peer spoke accepted (message.Call number object method fuel arguments) = inl e
    tells row is peer spoke accepted (message.Returned number fuel value) = inl e
    tells row is peer spoke accepted (message.Threw number class) = inl e
    tells row is peer spoke accepted (message.Spent number) = inl e
    tells row is peer spoke accepted (message.Ack number) = inl e
    tells row is peer spoke accepted (message.Lease sequence period) = inl e
    tells row is peer spoke accepted (message.Cleaned sequence) = inl e
    tells row is peer spoke accepted (message.Lookup number name) = inl e

    from : (row : Connection) → connection_at s conn ≡ Some row → (peer dialled : Option Uuid) → row.peer ≡ peer → row.dialled ≡ dialled → (is_some (Own c o (told_from peer dialled s m calls)).expires ≡ true) ⊎ BringsClean s (Received conn m) c o
    from row is None dialled f d = inl e
    from row is (Some peer) None f d = tells row is peer f d m
    from row is (Some peer) (Some other) f d = inl e

    on : (x : Option Connection) → connection_at s conn ≡ x → (is_some (Own c o (told_on s x m calls)).expires ≡ true) ⊎ BringsClean s (Received conn m) c o
    on None is = inl e
    on (Some row) is = short (is_short row m) (from row is row.peer row.dialled refl refl)
      where
        short : (b : Bool) → (is_some (Own c o (told_from row.peer row.dialled s m calls)).expires ≡ true) ⊎ BringsClean s (Received conn m) c o → (is_some (Own c o (if b then told_from row.peer row.dialled s m calls else calls)).expires ≡ true) ⊎ BringsClean s (Received conn m) c o
        short true k = k
        short false k = inl e

-- ---- an event

told-stays : NothingHoldsWhatGoes → (g : Setting) (s : State) (e : Event) (c : Uuid) (o : ObjId) (calls : List Call) → has_entry_for s c o ≡ true → is_some (Own c o calls).expires ≡ true → expires_with e (Own c o calls).expires ≡ false
    → (is_some (Own c o (told_by g s e calls)).expires ≡ true) ⊎ BringsClean s e c o
told-stays holds g s (Received conn m) c o calls has k alive = frame-stays s conn m c o calls k
told-stays holds g s Sweep c o calls has k alive = inl (forgets-stay c o (OwnEvents.without_reason g s) calls (kept-apart holds g s c o has) k)
told-stays holds g s (Moment moment) c o calls has k alive = inl (pick (nat_lt moment s.moment))
  where
    pick : (b : Bool) → is_some (Own c o (if b then calls else owner.Moment moment ∷ calls)).expires ≡ true
    pick true = k
    pick false = moment-stays moment c o calls k alive
told-stays holds g s (Root method arguments fuel) c o calls has k alive = inl k
told-stays holds g s (RootAck task) c o calls has k alive = inl k
told-stays holds g s (Bind name value) c o calls has k alive = inl k
told-stays holds g s (Rebind name value) c o calls has k alive = inl k
told-stays holds g s (Unbind name) c o calls has k alive = inl k
told-stays holds g s (Lookup peer name) c o calls has k alive = inl k
told-stays holds g s (Opened conn dialled) c o calls has k alive = inl k
told-stays holds g s (Refused peer) c o calls has k alive = inl k
told-stays holds g s (Closed conn) c o calls has k alive = inl k
told-stays holds g s (ReadFailed conn) c o calls has k alive = inl k
told-stays holds g s (Bad conn) c o calls has k alive = inl k
told-stays holds g s (WriteFailed conn unsent) c o calls has k alive = inl k
told-stays holds g s (Committed task made op) c o calls has k alive = inl k
told-stays holds g s (Parked task made) c o calls has k alive = inl k
told-stays holds g s (GivenBack task made) c o calls has k alive = inl k
told-stays holds g s (Finished task made) c o calls has k alive = inl k

pub entries_stay_until_cleaned : NothingHoldsWhatGoes → EntriesStayUntilCleaned
entries_stay_until_cleaned holds g h e client o has alive = by (told-stays holds g (Space.state_of g h) e client o (told_after g h) has (sym (now g h client o) ∙ has)
    (sym (ap (λ (r : Remembered). expires_with e r.expires) (entries_are_told g h client o)) ∙ alive))
  where
    by : (is_some (Own client o (told_by g (Space.state_of g h) e (told_after g h))).expires ≡ true) ⊎ BringsClean (Space.state_of g h) e client o → (has_entry_for (Space.state_of g (e ∷ h)) client o ≡ true) ⊎ BringsClean (Space.state_of g h) e client o
    by (inl k) = inl (now g (e ∷ h) client o ∙ k)
    by (inr k) = inr k

-- ---- a dirty call

stands-among : (is : ObjId → Bool) (ids : List ObjId) (o : ObjId) → ((x : ObjId) → is_id o x ≡ true → is x ≡ true) → is_id_in ids o ≡ true → is_id_in (filter is ids) o ≡ true
stands-among is [] o k e = e
stands-among is (x ∷ ids) o k e = pick (is x) refl (is_id o x) refl e (stands-among is ids o k)
  where
    pick : (b : Bool) → is x ≡ b → (a : Bool) → is_id o x ≡ a → a || is_id_in ids o ≡ true → (is_id_in ids o ≡ true → is_id_in (filter is ids) o ≡ true) → is_id_in (cond b (x ∷ filter is ids) (filter is ids)) o ≡ true
    pick true s true t f rest = Rattle.sp_rules.proofs.AllLemmas.or-left (is_id o x) _ t
    pick true s false t f rest = Rattle.sp_rules.proofs.AllLemmas.or-right (is_id o x) _ (rest f)
    pick false s true t f rest = absurd (true≢false (sym (k x t) ∙ s))
    pick false s false t f rest = rest f

dirty-sets : (c : Uuid) (ids : List ObjId) (o : ObjId) (n period : ℕ) (calls : List Call) → is_told c ids c o ≡ true → is_late (Own c o calls) n ≡ false → is_some (Own c o (owner.Dirty c ids n period ∷ calls)).expires ≡ true
dirty-sets c ids o n period calls told timely = pick (is_told c ids c o) told
  where
    late : (b : Bool) → b ≡ false → is_some (if b then Own c o calls else record { number = Some n; strong = (Own c o calls).strong; expires = Some (owner.moment_of (own_calls c o calls) + owner.granted period) }).expires ≡ true
    late true f = absurd (true≢false f)
    late false f = refl

    sets : (b : Bool) → b ≡ true → is_some (if b then after_dirty n (owner.moment_of (own_calls c o calls) + owner.granted period) (Own c o calls) else Own c o calls).expires ≡ true
    sets true f = late (is_late (Own c o calls) n) timely
    sets false f = absurd (true≢false (sym f))

    pick : (b : Bool) → b ≡ true → is_some (remembered_of (if b then owner.Dirty c ids n period ∷ own_calls c o calls else own_calls c o calls) c o).expires ≡ true
    pick true f = sets (is_told c ids c o) told
    pick false f = absurd (true≢false (sym f))

pub dirty_calls_set_entries : DirtyCallsSetEntries
dirty_calls_set_entries g h conn number period ids row peer o there spoke accepted fits names standing-there timely = now g (Received conn (message.Dirty number period ids) ∷ h) peer o
    ∙ (ap (λ calls. is_some (Own peer o calls).expires) tells ∙ dirty-sets peer (that_stand s ids) o number period (told_after g h) told (sym (ap (λ (r : Remembered). is_late r number) (entries_are_told g h peer o)) ∙ timely))
  where
    s : State
    s = Space.state_of g h

    both : (a b : Bool) → a ≡ true → b ≡ true → a && b ≡ true
    both true b e f = f
    both false b e f = absurd (true≢false (sym e))

    told : is_told peer (that_stand s ids) peer o ≡ true
    told = both (bytes_eq peer peer) (objects.is_named o (that_stand s ids)) ((bytes_eq-Decides peer peer).1 refl)
        (stands-among (is_id_in (map (λ (x : Object). x.id) (standing s.store))) ids o (λ x same. subst (λ (i : ObjId). stands s i ≡ true) (Rattle.sp_rules.proofs.SweepLemmas.one-id o x same) standing-there) names)

    tells : told_on s (connection_at s conn) (message.Dirty number period ids) (told_after g h) ≡ owner.Dirty peer (that_stand s ids) number period ∷ told_after g h
    tells = ap (λ x. told_on s x (message.Dirty number period ids) (told_after g h)) there ∙ (ap (λ b. if b then told_from row.peer row.dialled s (message.Dirty number period ids) (told_after g h) else told_after g h) fits ∙ (ap (λ x. told_from x row.dialled s (message.Dirty number period ids) (told_after g h)) spoke ∙ ap (λ x. told_from (Some peer) x s (message.Dirty number period ids) (told_after g h)) accepted))
