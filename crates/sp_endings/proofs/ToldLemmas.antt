-- Answers to dirty and clean calls, and connections that are open, as the calls on what lives tell them.
use Rattle.std.proofs.Common.{◌≡◌, ℕ, Bool, true, false, Option, None, Some, refl, sym, ◌∙◌, true≢false}
use Rattle.std.specs.Prelude.{find, is_some, option_map}
use Rattle.dgc_client.specs.History as lease_events
use Rattle.sp_requests.specs.Tables.{seen}
use Rattle.sp_requests.specs.declared.connection.Connection.{Connection as Shown}
use Rattle.sp_rules.specs.Classes.{Setting}
use Rattle.sp_rules.specs.Endings.{close}
use Rattle.sp_rules.specs.Frames.{group_told, tells_on, told_by}
use Rattle.sp_rules.specs.Lists.{with_some}
use Rattle.sp_rules.specs.ParkedFrames.{go_all, remove_requests}
use Rattle.sp_rules.specs.State.{State, Asked, Calls, LooksUp, Tells, Connection, Request}
use Rattle.sp_living.specs.Telling.{answered}

told-at : (g : Setting) (s : State) (c : Connection) (conn : ℕ) (dirty : Bool) (sequence : ℕ) (event : ℕ → lease_events.Event) → c.number ≡ conn
    → told_by g c dirty sequence event s
    ≡ with_some (find (tells_on dirty conn sequence) s.requests) (close g g.classes.unmarshal conn s) (λ (r : Request). go_all g (group_told event r.asked (remove_requests (tells_on dirty conn sequence) s)))
unfolding told_by
told-at g s c conn dirty sequence event n = λ j.
    with_some (find (tells_on dirty (n j) sequence) s.requests) (close g g.classes.unmarshal (n j) s) (λ (r : Request). go_all g (group_told event r.asked (remove_requests (tells_on dirty (n j) sequence) s)))

-- there are such calls: frames that waited go
pub told-goes : (g : Setting) (s : State) (c : Connection) (conn : ℕ) (dirty : Bool) (sequence : ℕ) (event : ℕ → lease_events.Event) → c.number ≡ conn
    → is_some (find (tells_on dirty conn sequence) s.requests) ≡ true
    → told_by g c dirty sequence event s ≡ go_all g (answered dirty conn sequence event s)
told-goes g s c conn dirty sequence event n some = told-at g s c conn dirty sequence event n ∙ by (find (tells_on dirty conn sequence) s.requests) some
  where
    told : Request → State
    told r = group_told event r.asked (remove_requests (tells_on dirty conn sequence) s)

    by : (o : Option Request) → is_some o ≡ true → with_some o (close g g.classes.unmarshal conn s) (λ (r : Request). go_all g (told r)) ≡ go_all g (with_some o s told)
    by None e = absurd (true≢false (sym e))
    by (Some r) e = refl

-- there are none: the connection closes
pub told-closes : (g : Setting) (s : State) (c : Connection) (conn : ℕ) (dirty : Bool) (sequence : ℕ) (event : ℕ → lease_events.Event) → c.number ≡ conn
    → is_some (find (tells_on dirty conn sequence) s.requests) ≡ false
    → told_by g c dirty sequence event s ≡ close g g.classes.unmarshal conn s
told-closes g s c conn dirty sequence event n none = told-at g s c conn dirty sequence event n ∙ by (find (tells_on dirty conn sequence) s.requests) none
  where
    by : (o : Option Request) → is_some o ≡ false
        → with_some o (close g g.classes.unmarshal conn s) (λ (r : Request). go_all g (group_told event r.asked (remove_requests (tells_on dirty conn sequence) s))) ≡ close g g.classes.unmarshal conn s
    by None e = refl
    by (Some r) e = absurd (true≢false e)

-- nothing is answered then
pub untold : (s : State) (dirty : Bool) (conn sequence : ℕ) (event : ℕ → lease_events.Event) → is_some (find (tells_on dirty conn sequence) s.requests) ≡ false → answered dirty conn sequence event s ≡ s
untold s dirty conn sequence event none = by (find (tells_on dirty conn sequence) s.requests) none
  where
    by : (o : Option Request) → is_some o ≡ false → with_some o s (λ r. group_told event r.asked (remove_requests (tells_on dirty conn sequence) s)) ≡ s
    by None e = refl
    by (Some r) e = absurd (true≢false e)

-- objects stay
pub answered-store : (s : State) (dirty : Bool) (conn sequence : ℕ) (event : ℕ → lease_events.Event) → (answered dirty conn sequence event s).store ≡ s.store
answered-store s dirty conn sequence event = by (find (tells_on dirty conn sequence) s.requests)
  where
    told : (a : Asked) → (group_told event a (remove_requests (tells_on dirty conn sequence) s)).store ≡ s.store
    told (Calls number task lent kind m) = refl
    told (LooksUp number task name) = refl
    told (Tells call group) = refl

    by : (o : Option Request) → (with_some o s (λ (r : Request). group_told event r.asked (remove_requests (tells_on dirty conn sequence) s))).store ≡ s.store
    by None = refl
    by (Some r) = told r.asked

-- a connection that is shown is there, and one that is not is not
pub shown-there : (shown : Shown) (o : Option Connection) → Some shown ≡ option_map seen o → (c : Connection) × (o ≡ Some c)
shown-there shown None is = cc
shown-there shown (Some c) is = (c, refl)

pub not-there : (o : Option Connection) → ◌≡◌ {A = Option Shown} None (option_map seen o) → o ≡ None
not-there None is = refl
not-there (Some c) is = cc
