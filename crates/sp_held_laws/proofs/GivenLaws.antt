-- The laws on which what is held stands, and what is known of a world in which nothing fails.
use mathlib.Core.Path.{sym, subst}
use Rattle.std.specs.Prelude.{◌≡◌, ◌⊎◌, ◌≤◌, ℕ, nat_lt, is_some, true, List, Some}
use Rattle.space_ids.specs.declared.ids.ForeignId.{ForeignId}
use Rattle.sp_rules.specs.Classes.{Setting}
use Rattle.sp_rules.specs.Events.{Event, Opened}
use Rattle.sp_rules.specs.Holders.{lease_now}
use Rattle.sp_rules.specs.Origins.{IsTaken, OwnStand}
use Rattle.sp_rules.specs.Space
use Rattle.sp_rules.specs.State.{State}
use Rattle.sp_rules.specs.Worlds.{World, Space, WorldEvent, run, new_world}
use Rattle.sp_rules.proofs.OwnLemmas.{own_references_stand}
use Rattle.sp_laws.specs.Counted.{times_held}
use Rattle.sp_laws.specs.Inbound.{OpensOnce}
use Rattle.sp_laws.specs.MadeWhenDue.{CallsAreMadeWhenDue}
use Rattle.sp_laws.specs.OnTheWay.{CallsOnTheirWayAreRequests}
use Rattle.sp_order_laws.specs.Ends.{IsOneOf}
use Rattle.sp_order_laws.specs.Rising.{SequenceNumbersRise}
use Rattle.sp_order_laws.proofs.WorldFacts.{Known}
use Rattle.sp_order_laws.specs.InTime.{ComeInTimeIn, CallsComeInTime}
use Rattle.sp_order_laws.specs.RequestOrder.{CallsKeepTheirOrder}
use Rattle.sp_order_laws.specs.Senders.{SendersHoldIn, SendersHold}
use Rattle.sp_order_laws.specs.Unbroken.{AreOfOneKind, NothingFails}
use Rattle.sp_order_laws.proofs.TimeLemmas.{Given}
use Rattle.sp_order_laws.proofs.UnbrokenLaws.{Laws}
use Rattle.sp_held_laws.specs.Granted.{is_granted, awaited_of, HeldIsGranted, WhatIsHeldIsGranted, DirtyCallsAreAwaited}
use Rattle.sp_held_laws.specs.Reaches.{EventsReachOneSpace}
use Rattle.sp_held_laws.specs.Secure.{NoCleanOnItsWay, GrantedReferencesStaySecure}
use Rattle.sp_held_laws.specs.Steps.{OnlyLeasesGrant, WhatIsOutStaysAsked, EntriesStayUntilCleaned, DirtyCallsSetEntries}
use Rattle.sp_held_laws.proofs.CleanLaws.{Kept, kept-of, peer-of, dialled-to}
use Rattle.sp_held_laws.proofs.SecureLaws.{given-of}
use Rattle.sp_held_laws.specs.Entries.{IsDirtyOut}

pub record Below : Type 0 where
  pub laws : Laws
  pub granted : WhatIsHeldIsGranted
  pub awaited : DirtyCallsAreAwaited
  pub secure : GrantedReferencesStaySecure
  pub leases : OnlyLeasesGrant
  pub asked : WhatIsOutStaysAsked
  pub entries : EntriesStayUntilCleaned
  pub sets : DirtyCallsSetEntries
  pub hold : SendersHold
  pub time : CallsComeInTime
  pub ways : CallsOnTheirWayAreRequests
  pub due : CallsAreMadeWhenDue
  pub order : CallsKeepTheirOrder
  pub sequences : SequenceNumbersRise
  pub reach : EventsReachOneSpace

-- What is known of a world of a run in which nothing fails.
pub record Quiet (settings : List Setting) (w : World) : Type 0 where
  pub given : Given settings w
  pub secure : NoCleanOnItsWay w
  pub hold : SendersHoldIn w
  pub time : ComeInTimeIn w

pub quiet-of : Below → (settings : List Setting) (events : List WorldEvent) → AreOfOneKind settings
    → NothingFails events → Quiet settings (run (new_world settings) events)
quiet-of B settings events kind fine =
    record {
      given = given-of B.laws settings events kind fine;
      secure = B.secure settings events kind fine;
      hold =
          B.hold settings events kind fine;
      time = B.time settings events kind fine;
    }

-- ---- a space

pub kept-in : Below → (r : ForeignId) (a : Space) → Known a → Kept a.setting a.history r a.state
kept-in B r a k = subst (Kept a.setting a.history r) (sym k.state)
    (kept-of B.ways B.due B.order a.setting a.history r k.taken k.once)

abbrev pub AreFew : ForeignId → State → Type 0
AreFew r s = nat_lt (times_held r s.leases) 18446744073709551615 ≡ true

pub held-granted : Below → (r : ForeignId) (a : Space) → Known a → AreFew r a.state
    → HeldIsGranted a.setting a.state r
held-granted B r a k few = subst (λ (s : State). HeldIsGranted a.setting s r) (sym k.state)
    (B.granted a.setting a.history r k.taken k.once (subst (AreFew r) k.state few))

pub dirty-awaited : Below → (r : ForeignId) (a : Space) → Known a → AreFew r a.state
    → is_some (lease_now a.state r).dirty ≡ true → (is_granted a.state r ≡ true) ⊎ (1 ≤ awaited_of a.state r)
dirty-awaited B r a k few some = subst (λ (s : State). (is_granted s r ≡ true) ⊎ (1 ≤ awaited_of s r)) (sym k.state)
    (B.awaited a.setting a.history r k.taken k.once (subst (AreFew r) k.state few)
    (subst (λ (s : State). is_some (lease_now s r).dirty ≡ true) k.state some))

pub own-stand : (a : Space) → Known a → OwnStand a.setting a.state
own-stand a k = subst (OwnStand a.setting) (sym k.state) (own_references_stand a.setting a.history k.taken)

-- the space dialled the owner of the reference on the connection on which its dirty call is out
pub opened-to : Below → (g : Setting) (h : List Event) (r : ForeignId) (conn n : ℕ) → IsTaken g h → OpensOnce h
    → IsDirtyOut (Space.state_of g h) conn n r → IsOneOf (Opened conn (Some r.space)) h
opened-to B g h r conn n t o d =
    dialled-to K conn n d.request d.there d.out (peer-of K d.call d.group d.request d.there d.asked d.names)
  where
    K : Kept g h r (Space.state_of g h)
    K = kept-of B.ways B.due B.order g h r t o

pub opened-by : Below → (r : ForeignId) (a : Space) (conn n : ℕ) → Known a → IsDirtyOut a.state conn n r
    → IsOneOf (Opened conn (Some r.space)) a.history
opened-by B r a conn n k d = opened-to B a.setting a.history r conn n k.taken k.once
    (subst (λ (s : State). IsDirtyOut s conn n r) k.state d)
