-- Where nothing fails no clean call of a reference that is granted is on its way.
use mathlib.Core.Path.{sym, ap, subst, ◌∙◌}
use Rattle.std.proofs.Common.{arith, inl, inr}
use Rattle.std.proofs.lemmas.Bool.{true≢false, eqb-true}
use Rattle.std.specs.List.{list_any, flat_map}
use Rattle.std.specs.Prelude.{◌≡◌, ◌⊎◌, refl, ℕ, ◌+◌, ◌≤◌, ◌==◌, ◌&&◌, ◌||◌, not, is_some, Bool, true, false, cond, List, [], ◌∷◌, ◌++◌, Option, None, Some, find, slice_get}
use Rattle.std.specs.Str.{bytes_eq}
use Rattle.dgc_client.specs.Table.{numbers_of, is_among, references_at}
use Rattle.net_message.specs.declared.message.Message.{Message}
use Rattle.net_message.specs.declared.message.Message.TheVariants as message
use Rattle.space_ids.specs.declared.ids.ObjId.{ObjId}
use Rattle.uuid.specs.declared.Uuid.{Uuid}
use Rattle.sp_rules.specs.Classes.{Setting}
use Rattle.sp_rules.specs.Frames.{is_dirty_kind}
use Rattle.sp_rules.specs.Laws.{RisesWithin}
use Rattle.sp_rules.specs.Lines.{HasLines}
use Rattle.sp_rules.specs.References.{is_id_in}
use Rattle.sp_rules.specs.State.{State, Request, Connection, connection_at, is_open}
use Rattle.sp_rules.specs.Worlds.{World, Space, Pipe, Accepter, Dialler, WorldEvent, run, new_world}
use Rattle.sp_rules.proofs.LinesOfRules.{lines_wait_for_hellos}
use Rattle.sp_rules.proofs.AllLemmas.{found-is}
use Rattle.sp_order_laws.specs.Delivered.{came_on, sent_on, outputs_at, outputs_in}
use Rattle.sp_order_laws.specs.Ends.{IsOneOf}
use Rattle.sp_order_laws.specs.Rising.{sequence_numbers, sequence_in}
use Rattle.sp_order_laws.proofs.LastWorlds.{rises-over}
use Rattle.sp_order_laws.proofs.NoteLemmas.{flat-append}
use Rattle.sp_order_laws.proofs.WorldFacts.{Known, at-all}
use Rattle.sp_order_laws.specs.Unbroken.{AreOfOneKind, NothingFails}
use Rattle.sp_order_laws.proofs.TimeLemmas.{Given, Dialled, dialled-there, one-dialled, found-in}
use Rattle.sp_order_laws.proofs.WelcomeFrames.{row-opened, dialler-row, ends-open}
use Rattle.sp_order_laws.specs.Unbroken.{IsJoined, ends_at}
use Rattle.sp_order_laws.proofs.WelcomeLemmas.{ends-of, Facts, of-there, one-some, one-left, one-right}
use Rattle.sp_order_laws.proofs.HeardLemmas.{owners_hear_what_came}
use Rattle.sp_order_laws.proofs.UnbrokenLaws.{Laws, facts-of, standing-of}
use Rattle.sp_order_laws.proofs.WorldStays.{Standing}
use Rattle.sp_order_laws.proofs.TableLemmas.{connections_begin_in_order}
use Rattle.sp_order_laws.proofs.RisingWorlds.{numbers_rise}
use Rattle.sp_held_laws.specs.Cleans.{is_clean_of, IsOutBelow, IsUncleaned, GrantedReferencesAreUncleaned}
use Rattle.sp_held_laws.specs.Granted.{is_granted, HeldIsGranted, WhatIsHeldIsGranted}
use Rattle.sp_held_laws.specs.Secure.{NoCleanOnItsWay, GrantedReferencesStaySecure, WhatIsHeldIsNotCleaned}
use Rattle.sp_held_laws.proofs.AskedLemmas.{in-flat-of, CleanOut, clean-out, out-peer, group-peer, among-ids}
use Rattle.sp_held_laws.proofs.FreeLemmas.{one-of}

-- ---- a world

secure : {settings : List Setting} {w : World} → Given settings w → GrantedReferencesAreUncleaned → NoCleanOnItsWay w
secure {settings} {w} G U conn n strong ids p a b r between same granted there = by (is_id_in ids r.id) refl
  where
    F : Facts settings w
    F = G.facts

    known : Known a
    known = at-all Known p.dialler.space w.spaces a between.dialled F.known

    unc : IsUncleaned r a.history a.state
    unc = subst (λ (s : State). IsUncleaned r a.history s) (sym known.state) (U a.setting a.history r known.taken known.once (subst (λ (s : State). is_granted s r ≡ true) known.state granted))

    m : Message
    m = message.Clean n strong ids

    sent : IsOneOf m (sent_on conn a.outputs)
    sent = subst (λ (x : Option Space). IsOneOf m (sent_on conn (outputs_in x))) between.dialled (one-some m (came_on conn b.history ++ p.accepter.queue) (sent_on conn (outputs_at w.spaces p.dialler.space))
        (one-right m (came_on conn b.history) p.accepter.queue there) (F.delivers.brings conn p Accepter between.pipe b between.accepted))

    dialled : Dialled a conn b.setting.id
    dialled = dialled-there G conn n p a b m between (inl refl) sent

    told-number : (number : ℕ) → number + 1 ≤ n → n + 1 ≤ number → ⊥
    told-number number lo hi = omega (arith, lo, hi)

    -- the connection on which the Lease came is this one
    one-connection : unc.conn ≡ conn
    one-connection = piped (slice_get w.pipes unc.conn) refl
      where
        joined : IsJoined w.spaces p.dialler.space (Some r.space) (ends_at w.pipes unc.conn)
        joined = F.joins p.dialler.space a between.dialled unc.conn (Some r.space) unc.opened

        lines : HasLines a.state
        lines = subst HasLines (sym known.state) (lines_wait_for_hellos a.setting a.history known.taken)

        row : (q : Pipe) → slice_get w.pipes unc.conn ≡ Some q → (o : Option Connection) → connection_at a.state unc.conn ≡ o → unc.conn ≡ conn
        row q is None e =
            let joins : IsJoined w.spaces p.dialler.space (Some r.space) (Some (q.dialler.space, q.accepter.space)) = subst (IsJoined w.spaces p.dialler.space (Some r.space)) (ends-of w.pipes unc.conn q is) joined in
            let at : slice_get w.spaces q.dialler.space ≡ Some a = ap (slice_get w.spaces) joins.0 ∙ between.dialled in
            let x = of-there w.spaces q.accepter.space unc.conn (message.Lease unc.number unc.period) (came_on unc.conn a.history ++ q.dialler.queue) (F.delivers.brings unc.conn q Dialler is a at) (one-left (message.Lease unc.number unc.period) (came_on unc.conn a.history) q.dialler.queue unc.lease) in
            let open-there : is_open a.state unc.conn ≡ true = (ends-open F unc.conn q a x.0 (message.Lease unc.number unc.period) (record { pipe = is; dialled = at; accepted = x.1.0 }) refl (inr x.1.1)).0 (Some r.space) unc.opened in
            absurd (true≢false (sym open-there ∙ ap (λ (o : Option Connection). is_some o) e))
        row q is (Some c) e = who c.dialled refl (dialler-row F unc.conn q a c is here e) (subst (IsJoined w.spaces p.dialler.space c.dialled) (ends-of w.pipes unc.conn q is) (row-opened F p.dialler.space unc.conn a c between.dialled e))
          where
            ends : IsJoined w.spaces p.dialler.space (Some r.space) (Some (q.dialler.space, q.accepter.space))
            ends = subst (IsJoined w.spaces p.dialler.space (Some r.space)) (ends-of w.pipes unc.conn q is) joined

            here : slice_get w.spaces q.dialler.space ≡ Some a
            here = ap (slice_get w.spaces) ends.0 ∙ between.dialled

            who : (d : Option Uuid) → c.dialled ≡ d → is_some d ≡ true → IsJoined w.spaces p.dialler.space d (Some (q.dialler.space, q.accepter.space)) → unc.conn ≡ conn
            who None f g j = absurd (true≢false (sym g))
            who (Some d) f g j = sym (eqb-true c.number unc.conn (found-is (λ (x : Connection). x.number == unc.conn) a.state.connections c e))
                ∙ (ap (λ (x : Connection). x.number) (one-dialled b.setting.id a.state.connections c dialled.row lines.connections (found-in (λ (x : Connection). x.number == unc.conn) a.state.connections c e) dialled.there (f ∙ (sym j.1 ∙ (ends.1 ∙ ap {A = Uuid} {B = Option Uuid} (λ u. Some u) same))) dialled.dialled) ∙ dialled.number)

        piped : (o : Option Pipe) → slice_get w.pipes unc.conn ≡ o → unc.conn ≡ conn
        piped None e = absurd (subst (IsJoined w.spaces p.dialler.space (Some r.space)) (ap (λ (o : Option Pipe). Rattle.std.specs.Prelude.option_map (λ (q : Pipe). (q.dialler.space, q.accepter.space)) o) e) joined)
        piped (Some q) e = row q e (connection_at a.state unc.conn) refl

    -- the dirty call that was granted came before
    before : unc.number + 1 ≤ n
    before = rises-over 0 (numbers_of a.state.leases) unc.number n (sequence_numbers (came_on conn b.history)) (sequence_numbers p.accepter.queue) rises (in-flat-of sequence_in unc.number (message.Dirty unc.number told.0 told.1.0) (came_on conn b.history) told.1.1 (inl refl))
        (in-flat-of sequence_in n m p.accepter.queue there (inl refl))
      where
        lease : Message
        lease = message.Lease unc.number unc.period

        answered : IsOneOf lease (sent_on conn b.outputs)
        answered = subst (λ (x : Option Space). IsOneOf lease (sent_on conn (outputs_in x))) between.accepted (one-some lease (came_on conn a.history ++ p.dialler.queue) (sent_on conn (outputs_at w.spaces p.accepter.space))
            (one-left lease (came_on conn a.history) p.dialler.queue (subst (λ c. IsOneOf lease (came_on c a.history)) one-connection unc.lease)) (F.delivers.brings conn p Dialler between.pipe a between.dialled))

        told : (asked : ℕ) × ((objects : List ObjId) × IsOneOf (message.Dirty unc.number asked objects) (came_on conn b.history))
        told = at-all _ p.accepter.space w.spaces b between.accepted F.told conn unc.number unc.period answered

        rises : RisesWithin 0 (numbers_of a.state.leases) (sequence_numbers (came_on conn b.history) ++ sequence_numbers p.accepter.queue)
        rises = subst (RisesWithin 0 (numbers_of a.state.leases)) (flat-append sequence_in (came_on conn b.history) p.accepter.queue) (G.rise.brought conn p between.pipe a b between.dialled between.accepted).sequences

    by : (x : Bool) → is_id_in ids r.id ≡ x → x ≡ false
    by false e = refl
    by true e = absurd (told-number unc.number before (subst (IsOutBelow unc.number) C.out (one-of (λ (x : Request). is_clean_of r x.asked ≡ true → IsOutBelow unc.number x.stage) a.state.requests C.request unc.below C.there clean)))
      where
        C : CleanOut a conn n r.id
        C = clean-out G conn n strong ids p a b r.id between there e

        space : r.space ≡ C.group.peer
        space = same ∙ (sym (out-peer G conn n p a b C.request between C.there C.out) ∙ sym (group-peer G p.dialler.space a C.request C.call C.group between.dialled C.there C.asked))

        clean : is_clean_of r C.request.asked ≡ true
        clean = subst (λ x. is_clean_of r x ≡ true) (sym C.asked) (both (not (is_dirty_kind C.group.kind)) (is_among r (references_at C.group.peer C.group.ids)) C.clean (among-ids r C.group.peer C.group.ids space C.names))
          where
            both : (x y : Bool) → x ≡ true → y ≡ true → x && y ≡ true
            both true y f g = g
            both false y f g = absurd (true≢false (sym f))

pub granted_references_stay_secure : GrantedReferencesAreUncleaned → ((settings : List Setting) (events : List WorldEvent) → AreOfOneKind settings → NothingFails events → Given settings (run (new_world settings) events)) → GrantedReferencesStaySecure
granted_references_stay_secure U given settings events kind fine = secure (given settings events kind fine) U

-- what is known of each world in which nothing fails
pub given-of : Laws → (settings : List Setting) (events : List WorldEvent) → AreOfOneKind settings → NothingFails events → Given settings (run (new_world settings) events)
given-of L settings events kind fine = record { facts = facts-of L settings events kind h; begins = connections_begin_in_order settings events; heard = owners_hear_what_came settings events; rise = numbers_rise L.ways L.sent settings events }
  where
    h : Standing settings (run (new_world settings) events)
    h = standing-of L settings events kind fine

pub what_is_held_is_not_cleaned : WhatIsHeldIsGranted → GrantedReferencesAreUncleaned → ((settings : List Setting) (events : List WorldEvent) → AreOfOneKind settings → NothingFails events → Given settings (run (new_world settings) events)) → WhatIsHeldIsNotCleaned
what_is_held_is_not_cleaned granted U given settings events kind fine conn number strong ids p a b r between same few held there = secure G U conn number strong ids p a b r between same (by (at-all Known p.dialler.space w.spaces a between.dialled G.facts.known)) there
  where
    w : World
    w = run (new_world settings) events

    G : Given settings w
    G = given settings events kind fine

    by : Known a → is_granted a.state r ≡ true
    by k = (subst (λ (s : State). HeldIsGranted a.setting s r) (sym k.state) (granted a.setting a.history r k.taken k.once (subst (λ (s : State). Rattle.std.specs.Prelude.nat_lt (Rattle.sp_laws.specs.Counted.times_held r s.leases) 18446744073709551615 ≡ true) k.state few))).held held
