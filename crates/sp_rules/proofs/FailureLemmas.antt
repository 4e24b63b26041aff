-- Failures remove no name and no entry, in no space of a world.
use Rattle.std.specs.Prelude.{◌≡◌, refl, ℕ, zero, suc, Bool, true, false, List, [], ◌∷◌, Option, None, Some, slice_get, option_map, if◌then◌else◌}
use Rattle.uuid.specs.declared.Uuid.{Uuid}
use Rattle.sp_rules.specs.Events.{Event, Output, Started, Ended, Withdrawn, Denied, Send, Dial, Close, Ready, ReadFailed, WriteFailed, Refused}
use Rattle.sp_rules.specs.Laws.{leaves_owner, owner_at, FailuresRemoveNothing}
use Rattle.sp_rules.specs.Lists.{with_some, each, at_index}
use Rattle.sp_rules.specs.Refusals
use Rattle.sp_rules.specs.Worlds
use Rattle.sp_rules.specs.Worlds.{World, Space, End, grown, put, acts, take_event, after, ReadFails, WriteFails, Refuse}
use Rattle.sp_rules.proofs.OwnerLemmas.{events_leave_owners}

-- the worlds have the same owners
record Same (w v : World) : Type 0 where
  pub owners : (i : ℕ) → owner_at v i ≡ owner_at w i

if_same : {w t u : World} (b : Bool) → Same w t → Same w u → Same w (if b then t else u)
if_same true e f = e
if_same false e f = f

some_same : {A : Type 0} {w t : World} (x : Option A) (f : A → World) → Same w t → ((a : A) → Same w (f a)) → Same w (with_some x t f)
some_same None f e g = e
some_same (Some a) f e g = g a

each_same : {A : Type 0} {w v : World} (f : World → A → World) (xs : List A) → ((t : World) (x : A) → Same w t → Same w (f t x)) → Same w v → Same w (each f xs v)
unfolding each
each_same f [] g e = e
each_same {v = v} f (x ∷ xs) g e = each_same f xs g (g v x e)

grown_at : (e : Event) → leaves_owner e ≡ true → (i : ℕ) (spaces : List Space) (j : ℕ)
    → option_map (λ (s : Space). s.state.owner) (slice_get (at_index (grown e) i spaces) j) ≡ option_map (λ (s : Space). s.state.owner) (slice_get spaces j)
grown_at e leaves i [] j = refl
grown_at e leaves zero (s ∷ ss) zero = rw (events_leave_owners s.setting e s.state leaves) refl
grown_at e leaves zero (s ∷ ss) (suc j) = refl
grown_at e leaves (suc i) (s ∷ ss) zero = refl
grown_at e leaves (suc i) (s ∷ ss) (suc j) = grown_at e leaves i ss j

asks_same : {w v : World} (i : ℕ) (j : Option ℕ) → Same w v → Same w (Worlds.asks_for i j v)
asks_same i None e = e
asks_same i (Some j) e = record { owners = e.owners }

put_same : {w v : World} (i : ℕ) (o : Output) → Same w v → Same w (put i v o)
put_same i (Started task) e = e
put_same i (Ended task outcome) e = e
put_same i (Withdrawn ids) e = e
put_same i (Denied why) e = e
put_same i (Send conn m) e = record { owners = e.owners }
put_same {v = v} i (Dial peer) e = asks_same i (Worlds.number_of v.spaces peer) e
put_same i (Close conn) e = record { owners = e.owners }
put_same i (Ready task) e = e

act_same : {w before v : World} (i : ℕ) (e : Event) → leaves_owner e ≡ true → Same w before → Same w v → Same w (acts before i (e ∷ []) v)
unfolding acts take_event
act_same {w} {before} {v} i e leaves old same = some_same (slice_get v.spaces i) _ (record { owners = old.owners }) (λ s.
    some_same (Refusals.refusal s.setting (Worlds.lent_for e) s.state e) _
    (each_same _ _ (λ t o h. put_same i o h) (record { owners = λ j. rw (grown_at e leaves i v.spaces j) (same.owners j) }))
    (λ why. record { owners = old.owners }))

read_fails_same : {w v : World} (conn : ℕ) (at : End) → Same w v → Same w (Worlds.read_fails conn at v)
unfolding Worlds.read_fails
read_fails_same {v = v} conn at same = some_same (slice_get v.pipes conn) _ same (λ p.
    if_same (Worlds.is_live (Worlds.side at p).phase) (act_same (Worlds.side at p).space (ReadFailed conn) refl same (record { owners = same.owners })) same)

write_fails_same : {w v : World} (conn : ℕ) (at : End) (unsent : ℕ) → Same w v → Same w (Worlds.write_fails conn at unsent v)
unfolding Worlds.write_fails
write_fails_same {v = v} conn at unsent same = some_same (slice_get v.pipes conn) _ same (λ p.
    if_same (Worlds.is_live (Worlds.side at p).phase)
    (act_same (Worlds.side at p).space (WriteFailed conn (Worlds.lost unsent at p)) refl same (record { owners = same.owners })) same)

refuse_to_same : {w before v : World} (a : ℕ) (peer : Option Uuid) → Same w before → Same w v → Same w (Worlds.refuse_to before a peer v)
refuse_to_same a None old same = old
refuse_to_same a (Some peer) old same = act_same a (Refused peer) refl old same

refuse_same : {w v : World} (a b : ℕ) → Same w v → Same w (Worlds.refuse a b v)
unfolding Worlds.refuse
refuse_same {v = v} a b same = if_same (Worlds.is_asked a b v) (refuse_to_same a (Worlds.id_at b v) same (record { owners = same.owners })) same

pub failures_remove_nothing : FailuresRemoveNothing
unfolding after
failures_remove_nothing w conn unsent a b at =
    let v : World = record w { refused = None } in
    let same : Same w v = record { owners = λ j. refl } in
    ((read_fails_same {w = w} {v = v} conn at same).owners, (write_fails_same {w = w} {v = v} conn at unsent same).owners, (refuse_same {w = w} {v = v} a b same).owners)
