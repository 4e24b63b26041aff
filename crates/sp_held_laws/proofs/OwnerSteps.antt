-- What the events of an owner do to the entries of a client that hold its leases.
use mathlib.Core.Path.{sym, ap, subst, ◌∙◌}
use Rattle.std.proofs.Common.{arith, inl, inr}
use Rattle.std.proofs.lemmas.Bool.{true≢false, eqb-true}
use Rattle.std.specs.Prelude.{◌≡◌, ◌⊎◌, refl, ℕ, ◌+◌, ◌≤◌, ◌==◌, ◌&&◌, not, Bool, true, false, List, [], ◌∷◌, ◌++◌, Option, None, Some, slice_get, if◌then◌else◌}
use Rattle.std.specs.Str.{bytes_eq}
use Rattle.dgc_client.specs.Table.{numbers_of, is_among, references_at}
use Rattle.dgc_list.specs.History as owner
use Rattle.dgc_list.specs.Remembered.{is_late}
use Rattle.net_message.specs.declared.message.Message.{Message}
use Rattle.net_message.specs.declared.message.Message.TheVariants as message
use Rattle.space_ids.specs.declared.ids.ForeignId.{ForeignId}
use Rattle.space_ids.specs.declared.ids.ObjId.{ObjId}
use Rattle.uuid.specs.declared.Uuid.{Uuid}
use Rattle.sp_rules.specs.Classes.{Setting}
use Rattle.sp_rules.specs.Events.{Event, Moment, Sweep, Root, RootAck, Bind, Rebind, Unbind, Lookup, Opened, Refused, Received, Closed, ReadFailed, Bad, WriteFailed, Committed, Parked, GivenBack, Finished}
use Rattle.sp_rules.specs.Frames.{is_dirty_kind}
use Rattle.sp_rules.specs.Laws.{AllOf, RisesWithin, stands}
use Rattle.sp_rules.specs.Lines.{HasLines}
use Rattle.sp_rules.specs.Refusals
use Rattle.sp_rules.specs.Refusals.{refusal}
use Rattle.sp_rules.specs.References.{is_id_in}
use Rattle.sp_rules.specs.Space
use Rattle.sp_rules.specs.State.{State, Request, Tells, Stage, Out, is_open}
use Rattle.sp_rules.specs.Worlds.{World, Space, Pipe, Accepter, WorldEvent, grown, lent_for}
use Rattle.sp_rules.proofs.LinesOfRules.{lines_wait_for_hellos}
use Rattle.sp_rules.proofs.OwnLemmas.{unrefused, first-of, not-false}
use Rattle.sp_order_laws.specs.Delivered.{came_on, sent_on, frame_of, outputs_at, outputs_in}
use Rattle.sp_order_laws.specs.Ends.{IsOneOf}
use Rattle.sp_order_laws.specs.Places.{IsBetween}
use Rattle.sp_order_laws.specs.Rising.{sequence_in, sequence_numbers}
use Rattle.sp_order_laws.proofs.LastWorlds.{rises-over}
use Rattle.sp_order_laws.proofs.NoteLemmas.{flat-append}
use Rattle.sp_order_laws.proofs.WorldFacts.{Known, at-all}
use Rattle.sp_order_laws.proofs.TimeLemmas.{Given, Dialled, dialled-there, one-dialled}
use Rattle.sp_order_laws.proofs.UnbrokenLaws.{one-either}
use Rattle.sp_order_laws.proofs.WelcomeLemmas.{one-some, one-left, one-right}
use Rattle.sp_held_laws.specs.Cleans.{is_clean_of, IsOutBelow}
use Rattle.sp_held_laws.specs.Granted.{is_granted}
use Rattle.sp_held_laws.specs.Reaches.{grown_by, ComesBy, IsFirstTo, IsSilent}
use Rattle.sp_held_laws.specs.Steps.{has_entry_for, expires_with, BringsClean}
use Rattle.sp_held_laws.proofs.AskedLemmas.{in-flat-of, out-peer, group-peer, among-ids, ids-among, CleanOut, clean-out}
use Rattle.sp_held_laws.proofs.CleanLaws.{clean-below}
use Rattle.sp_held_laws.specs.Entries.{IsDirtyOut}
use Rattle.sp_held_laws.specs.Premises.{LetsNoneExpire}
use Rattle.sp_held_laws.proofs.BetweenLemmas.{Between, between-of, frame-from, first-along, ClientRow, client-row}
use Rattle.sp_held_laws.proofs.ClientSteps.{Gives, Came}
use Rattle.sp_held_laws.proofs.GivenLaws.{Below, kept-in, opened-by}
use Rattle.sp_held_laws.proofs.RequestLemmas.{dirty-names}
use Rattle.sp_held_laws.proofs.StandLaws.{Entered, dirty-stands}

-- ---- frames that come

pub frame-is : (conn : ℕ) (m : Message) (e : Event) → IsOneOf m (frame_of conn e) → e ≡ Received conn m
frame-is conn m (Received c y) o = pick (c == conn) refl o
  where
    pick : (b : Bool) → (c == conn) ≡ b → IsOneOf m (if b then y ∷ [] else []) → Received c y ≡ Received conn m
    pick true e (inl f) = ap (λ z. Received z y) (eqb-true c conn e) ∙ ap (λ z. Received conn z) (sym f)
    pick true e (inr f) = absurd f
    pick false e f = absurd f
frame-is conn m (Moment moment) o = absurd o
frame-is conn m Sweep o = absurd o
frame-is conn m (Root method arguments fuel) o = absurd o
frame-is conn m (RootAck task) o = absurd o
frame-is conn m (Bind name value) o = absurd o
frame-is conn m (Rebind name value) o = absurd o
frame-is conn m (Unbind name) o = absurd o
frame-is conn m (Lookup peer name) o = absurd o
frame-is conn m (Opened c dialled) o = absurd o
frame-is conn m (Refused peer) o = absurd o
frame-is conn m (Closed c) o = absurd o
frame-is conn m (ReadFailed c) o = absurd o
frame-is conn m (Bad c) o = absurd o
frame-is conn m (WriteFailed c unsent) o = absurd o
frame-is conn m (Committed task k op) o = absurd o
frame-is conn m (Parked task k) o = absurd o
frame-is conn m (GivenBack task k) o = absurd o
frame-is conn m (Finished task k) o = absurd o

-- ---- no entry expires

alive-with : (r : ForeignId) (w : World) (e : WorldEvent) (j : ℕ) (d : Event) (b : Space) (client : Uuid)
    → slice_get w.spaces j ≡ Some b → r.space ≡ b.setting.id → ComesBy w e j d → LetsNoneExpire r w e
    → has_entry_for b.state client r.id ≡ true
    → expires_with d (owner.remembered_of b.state.owner.entries client r.id).expires ≡ false
alive-with r w e j (Moment moment) b client at own comes lets has =
    subst (LetsNoneExpire r w) (comes refl) lets b client at own has
alive-with r w e j Sweep b client at own comes lets has = refl
alive-with r w e j (Root method arguments fuel) b client at own comes lets has = refl
alive-with r w e j (RootAck task) b client at own comes lets has = refl
alive-with r w e j (Bind name value) b client at own comes lets has = refl
alive-with r w e j (Rebind name value) b client at own comes lets has = refl
alive-with r w e j (Unbind name) b client at own comes lets has = refl
alive-with r w e j (Lookup peer name) b client at own comes lets has = refl
alive-with r w e j (Opened conn dialled) b client at own comes lets has = refl
alive-with r w e j (Refused peer) b client at own comes lets has = refl
alive-with r w e j (Received conn m) b client at own comes lets has = refl
alive-with r w e j (Closed conn) b client at own comes lets has = refl
alive-with r w e j (ReadFailed conn) b client at own comes lets has = refl
alive-with r w e j (Bad conn) b client at own comes lets has = refl
alive-with r w e j (WriteFailed conn unsent) b client at own comes lets has = refl
alive-with r w e j (Committed task k op) b client at own comes lets has = refl
alive-with r w e j (Parked task k) b client at own comes lets has = refl
alive-with r w e j (GivenBack task k) b client at own comes lets has = refl
alive-with r w e j (Finished task k) b client at own comes lets has = refl

silent-alive : (d : Event) (x : Option ℕ) → IsSilent d → expires_with d x ≡ false
silent-alive (Moment moment) x s = absurd (true≢false s)
silent-alive Sweep x s = refl
silent-alive (Root method arguments fuel) x s = refl
silent-alive (RootAck task) x s = refl
silent-alive (Bind name value) x s = refl
silent-alive (Rebind name value) x s = refl
silent-alive (Unbind name) x s = refl
silent-alive (Lookup peer name) x s = refl
silent-alive (Opened conn dialled) x s = refl
silent-alive (Refused peer) x s = refl
silent-alive (Received conn m) x s = refl
silent-alive (Closed conn) x s = refl
silent-alive (ReadFailed conn) x s = refl
silent-alive (Bad conn) x s = refl
silent-alive (WriteFailed conn unsent) x s = refl
silent-alive (Committed task k op) x s = refl
silent-alive (Parked task k) x s = refl
silent-alive (GivenBack task k) x s = refl
silent-alive (Finished task k) x s = refl

-- ---- events that answer nothing

comes-not : {A : Type 0} (e : Event) (conn : ℕ) (m : Message) → IsSilent e → e ≡ Received conn m → A
comes-not e conn m silent same = absurd (true≢false (sym (ap Space.answers_outputs same) ∙ silent))

silent-entry : Below → (es : List Event) (s : Space) (c : Uuid) (o : ObjId) → AllOf IsSilent es
    → has_entry_for (Space.state_of s.setting s.history) c o ≡ true
    → has_entry_for (Space.state_of s.setting (grown_by es s).history) c o ≡ true
silent-entry B [] s c o silent has = has
silent-entry B (e ∷ es) s c o silent has =
    silent-entry B es (grown e s) c o silent.1
    (by (B.entries s.setting s.history e c o has
    (silent-alive e (owner.remembered_of (Space.state_of s.setting s.history).owner.entries c o).expires silent.0)))
  where
    by : (has_entry_for (Space.state_of s.setting (e ∷ s.history)) c o ≡ true) ⊎ BringsClean
        (Space.state_of s.setting s.history) e c o
        → has_entry_for (Space.state_of s.setting (e ∷ s.history)) c o ≡ true
    by (inl k) = k
    by (inr b) = comes-not e b.conn (message.Clean b.number b.strong b.ids) silent.0 b.came

silent-came : (es : List Event) (s : Space) (conn : ℕ) (m : Message) → AllOf IsSilent es
    → IsOneOf m (came_on conn (grown_by es s).history) → IsOneOf m (came_on conn s.history)
silent-came [] s conn m silent o = o
silent-came (e ∷ es) s conn m silent o =
    by (one-either m (came_on conn s.history) (frame_of conn e) (silent-came es (grown e s) conn m silent.1 o))
  where
    by : IsOneOf m (came_on conn s.history) ⊎ IsOneOf m (frame_of conn e) → IsOneOf m (came_on conn s.history)
    by (inl k) = k
    by (inr k) = comes-not e conn m silent.0 (frame-is conn m e k)

-- ---- an event of the owner

module _ {settings : List Setting} {r : ForeignId} {w : World} (E : Entered settings r w) (i j : ℕ) (a b : Space)
    (at : slice_get w.spaces i ≡ Some a) (atj : slice_get w.spaces j ≡ Some b) (own : r.space ≡ b.setting.id) where
  known-a : Known a
  known-a = at-all Known i w.spaces a at E.quiet.given.facts.known

  -- no clean call of what is granted comes
  granted-uncleaned : (e : WorldEvent) (d : Event) → ComesBy w e j d → is_granted a.state r ≡ true
      → BringsClean b.state d a.setting.id r.id → ⊥
  granted-uncleaned e d comes granted c =
      let first : IsFirstTo w j c.conn (message.Clean c.number c.strong c.ids) = subst (ComesBy w e j) c.came comes in
      let p = frame-from E.quiet.given i j c.conn a b (message.Clean c.number c.strong c.ids) c.row c.peer at atj
      first c.there c.spoke c.accepted c.client_is in
      true≢false (sym c.names ∙ E.quiet.secure c.conn c.number c.strong c.ids p.0 a b r p.1.0 own granted p.1.1)

  -- both connections are the one that the client dialled
  one-connection : (conn other : ℕ) → Dialled a conn b.setting.id → Dialled a other b.setting.id → conn ≡ other
  one-connection conn other x y =
      let lines : HasLines a.state =
      subst HasLines (sym known-a.state) (lines_wait_for_hellos a.setting a.history known-a.taken) in
      sym x.number ∙ (ap (λ (c : Rattle.sp_rules.specs.State.Connection). c.number)
      (one-dialled b.setting.id a.state.connections x.row y.row lines.connections x.there y.there x.dialled
      y.dialled) ∙ y.number)

  -- no clean call overtakes a dirty call that came and is not overtaken
  out-uncleaned : (e : WorldEvent) (d : Event) (conn n : ℕ) → ComesBy w e j d → IsDirtyOut a.state conn n r
      → Came b conn n → BringsClean b.state d a.setting.id r.id → ⊥
  out-uncleaned e d conn n comes out came c = both c.number before after
    where
      G : Given settings w
      G = E.quiet.given

      clean : Message
      clean = message.Clean c.number c.strong c.ids

      p : (q : Pipe) × (IsBetween w c.conn q a b × IsOneOf clean q.accepter.queue)
      p = frame-from G i j c.conn a b clean c.row c.peer at atj (subst (ComesBy w e j) c.came comes) c.there c.spoke
          c.accepted c.client_is

      C : CleanOut a c.conn c.number r.id
      C = clean-out G c.conn c.number c.strong c.ids p.0 a b r.id p.1.0 p.1.1 c.names

      space : r.space ≡ C.group.peer
      space = own ∙ (sym (out-peer G c.conn c.number p.0 a b C.request p.1.0 C.there C.out) ∙ sym
          (group-peer G i a C.request C.call C.group at C.there C.asked))

      is-clean : is_clean_of r C.request.asked ≡ true
      is-clean = subst (λ x. is_clean_of r x ≡ true) (sym C.asked)
          (join (not (is_dirty_kind C.group.kind)) (is_among r (references_at C.group.peer C.group.ids)) C.clean
          (among-ids r C.group.peer C.group.ids space C.names))
        where
          join : (x y : Bool) → x ≡ true → y ≡ true → x && y ≡ true
          join true y f g = g
          join false y f g = absurd (true≢false (sym f))

      -- its number is below that of the dirty call
      before : c.number + 1 ≤ n
      before = subst (IsOutBelow n) C.out
          (clean-below (kept-in E.below r a known-a) out.call conn n out.group out.request out.made out.there
          out.asked out.out out.names C.request C.there is-clean)

      dirty : Message
      dirty = message.Dirty n came.0 came.1.0

      B : Between w conn i j a b
      B = between-of G.facts i j conn a b r.space at atj own (opened-by E.below r a conn n known-a out)

      sent-dirty : IsOneOf dirty (sent_on conn a.outputs)
      sent-dirty = subst (λ (x : Option Space). IsOneOf dirty (sent_on conn (outputs_in x))) B.between.dialled
          (one-some dirty (came_on conn b.history ++ B.pipe.accepter.queue)
          (sent_on conn (outputs_at w.spaces B.pipe.dialler.space))
          (one-left dirty (came_on conn b.history) B.pipe.accepter.queue came.1.1)
          (G.facts.delivers.brings conn B.pipe Accepter B.between.pipe b B.between.accepted))

      sent-clean : IsOneOf clean (sent_on c.conn a.outputs)
      sent-clean = subst (λ (x : Option Space). IsOneOf clean (sent_on c.conn (outputs_in x))) p.1.0.dialled
          (one-some clean (came_on c.conn b.history ++ p.0.accepter.queue)
          (sent_on c.conn (outputs_at w.spaces p.0.dialler.space))
          (one-right clean (came_on c.conn b.history) p.0.accepter.queue p.1.1)
          (G.facts.delivers.brings c.conn p.0 Accepter p.1.0.pipe b p.1.0.accepted))

      same : conn ≡ c.conn
      same = one-connection conn c.conn (dialled-there G conn n B.pipe a b dirty B.between (inl refl) sent-dirty)
          (dialled-there G c.conn c.number p.0 a b clean p.1.0 (inl refl) sent-clean)

      rises : RisesWithin 0 (numbers_of a.state.leases)
          (sequence_numbers (came_on c.conn b.history) ++ sequence_numbers p.0.accepter.queue)
      rises = subst (RisesWithin 0 (numbers_of a.state.leases))
          (flat-append sequence_in (came_on c.conn b.history) p.0.accepter.queue)
          (G.rise.brought c.conn p.0 p.1.0.pipe a b p.1.0.dialled p.1.0.accepted).sequences

      -- and above it
      after : n + 1 ≤ c.number
      after = rises-over 0 (numbers_of a.state.leases) n c.number (sequence_numbers (came_on c.conn b.history))
          (sequence_numbers p.0.accepter.queue) rises
          (in-flat-of sequence_in n dirty (came_on c.conn b.history)
          (subst (λ x. IsOneOf dirty (came_on x b.history)) same came.1.1) (inl refl))
          (in-flat-of sequence_in c.number clean p.0.accepter.queue p.1.1 (inl refl))

      both : (k : ℕ) → k + 1 ≤ n → n + 1 ≤ k → ⊥
      both k lo hi = omega (arith, lo, hi)

  -- a dirty call that comes sets the entry
  dirty-enters : (e : WorldEvent) (conn n period : ℕ) (ids : List ObjId)
      → ComesBy w e j (Received conn (message.Dirty n period ids))
      → refusal b.setting (lent_for (Received conn (message.Dirty n period ids))) b.state
      (Received conn (message.Dirty n period ids)) ≡ None
      → bytes_eq r.space a.setting.id ≡ false → IsDirtyOut a.state conn n r
      → has_entry_for (Space.state_of b.setting (Received conn (message.Dirty n period ids) ∷ b.history))
      a.setting.id r.id ≡ true
  dirty-enters e conn n period ids first taken foreign out =
      E.below.sets b.setting b.history conn n period ids row.row a.setting.id r.id
      (subst (λ (s : State). Rattle.sp_rules.specs.State.connection_at s conn ≡ Some row.row) known.state row.there)
      row.spoke row.accepted row.fits names
      (subst (λ (s : State). stands s r.id ≡ true) known.state (dirty-stands E i j a b at atj own conn n foreign out))
      (subst (λ (s : State). is_late (owner.remembered_of s.owner.entries a.setting.id r.id) n ≡ false) known.state
      (E.quiet.time conn n B.pipe a b r.id B.between
      (in-flat-of sequence_in n m B.pipe.accepter.queue there (inl refl))))
    where
      G : Given settings w
      G = E.quiet.given

      m : Message
      m = message.Dirty n period ids

      known : Known b
      known = at-all Known j w.spaces b atj G.facts.known

      B : Between w conn i j a b
      B = between-of G.facts i j conn a b r.space at atj own (opened-by E.below r a conn n known-a out)

      comes : IsFirstTo w j conn m
      comes = first

      queue : B.pipe.accepter.queue ≡ m ∷ comes.rest
      queue = first-along G.facts i j conn a b m B comes

      there : IsOneOf m B.pipe.accepter.queue
      there = subst (IsOneOf m) (sym queue) (inl refl)

      live : is_open b.state conn ≡ true
      live = not-false (is_open b.state conn)
          (first-of (not (is_open b.state conn)) Refusals.Strange []
          (unrefused b.setting (lent_for (Received conn m)) b.state (Received conn m) taken)).0

      row : ClientRow a b conn ids
      row = client-row G i j conn n period ids comes.rest a b at atj B queue live

      names : is_id_in ids r.id ≡ true
      names = dirty-names G conn n period ids B.pipe a b r.id out.request out.call out.group B.between there
          (kept-in E.below r a known-a).pairs out.there out.asked out.out
          (ids-among r out.group.peer out.group.ids out.names)

  -- the entry stays with an event of the owner
  stays-with : (e : WorldEvent) (d : Event) → Known (grown d b) → ComesBy w e j d → LetsNoneExpire r w e
      → has_entry_for b.state a.setting.id r.id ≡ true → (BringsClean b.state d a.setting.id r.id → ⊥)
      → has_entry_for (grown d b).state a.setting.id r.id ≡ true
  stays-with e d later comes lets has uncleaned =
      subst (λ (s : State). has_entry_for s a.setting.id r.id ≡ true) (sym later.state)
      (by (E.below.entries b.setting b.history d a.setting.id r.id
      (subst (λ (s : State). has_entry_for s a.setting.id r.id ≡ true) known.state has)
      (subst (λ (s : State). expires_with d (owner.remembered_of s.owner.entries a.setting.id r.id).expires ≡ false)
      known.state (alive-with r w e j d b a.setting.id atj own comes lets has))))
    where
      known : Known b
      known = at-all Known j w.spaces b atj E.quiet.given.facts.known

      by : (has_entry_for (Space.state_of b.setting (d ∷ b.history)) a.setting.id r.id ≡ true) ⊎ BringsClean
          (Space.state_of b.setting b.history) d a.setting.id r.id
          → has_entry_for (Space.state_of b.setting (d ∷ b.history)) a.setting.id r.id ≡ true
      by (inl k) = k
      by (inr c) = absurd (uncleaned (subst (λ (s : State). BringsClean s d a.setting.id r.id) (sym known.state) c))

  pub owner-step : (e : WorldEvent) (d : Event) → Known (grown d b) → ComesBy w e j d
      → refusal b.setting (lent_for d) b.state d ≡ None → LetsNoneExpire r w e → bytes_eq r.space a.setting.id ≡ false
      → Gives r (has_entry_for b.state a.setting.id r.id ≡ true) (Came b) a.state
      → Gives r (has_entry_for (grown d b).state a.setting.id r.id ≡ true) (Came (grown d b)) a.state
  owner-step e d later comes taken lets foreign old =
      record {
        granted = λ k. stays-with e d later comes lets (old.granted k) (granted-uncleaned e d comes k);
        lent =
            λ conn n out came. lent conn n out came.0 came.1.0
            (one-either (message.Dirty n came.0 came.1.0) (came_on conn b.history) (frame_of conn d) came.1.1);
      }
    where
      enters : (conn n period : ℕ) (ids : List ObjId) → IsDirtyOut a.state conn n r
          → d ≡ Received conn (message.Dirty n period ids) → has_entry_for (grown d b).state a.setting.id r.id ≡ true
      enters conn n period ids out same =
          subst (λ (s : State). has_entry_for s a.setting.id r.id ≡ true) (sym later.state)
          (subst (λ (x : Event). has_entry_for (Space.state_of b.setting (x ∷ b.history)) a.setting.id r.id ≡ true)
          (sym same)
          (dirty-enters e conn n period ids (subst (ComesBy w e j) same comes)
          (subst (λ (x : Event). refusal b.setting (lent_for x) b.state x ≡ None) same taken) foreign out))

      lent : (conn n : ℕ) → IsDirtyOut a.state conn n r → (period : ℕ) (ids : List ObjId)
          → IsOneOf (message.Dirty n period ids) (came_on conn b.history) ⊎ IsOneOf (message.Dirty n period ids)
          (frame_of conn d) → has_entry_for (grown d b).state a.setting.id r.id ≡ true
      lent conn n out period ids (inl o) =
          stays-with e d later comes lets (old.lent conn n out (period, (ids, o)))
          (out-uncleaned e d conn n comes out (period, (ids, o)))
      lent conn n out period ids (inr o) =
          enters conn n period ids out (frame-is conn (message.Dirty n period ids) d o)

-- so with events that answer nothing
pub owner-silent : Below → (es : List Event) (a b : Space) (r : ForeignId) → AllOf IsSilent es → Known b
    → (grown_by es b).state ≡ Space.state_of b.setting (grown_by es b).history
    → Gives r (has_entry_for b.state a.setting.id r.id ≡ true) (Came b) a.state
    → Gives r (has_entry_for (grown_by es b).state a.setting.id r.id ≡ true) (Came (grown_by es b)) a.state
owner-silent B es a b r silent known state old =
    record {
      granted = λ k. stays (old.granted k);
      lent =
          λ conn n out came. stays (old.lent conn n out
          (came.0, (came.1.0, silent-came es b conn (message.Dirty n came.0 came.1.0) silent came.1.1)));
    }
  where
    stays : has_entry_for b.state a.setting.id r.id ≡ true
        → has_entry_for (grown_by es b).state a.setting.id r.id ≡ true
    stays has = subst (λ (s : State). has_entry_for s a.setting.id r.id ≡ true) (sym state)
        (silent-entry B es b a.setting.id r.id silent
        (subst (λ (s : State). has_entry_for s a.setting.id r.id ≡ true) known.state has))
