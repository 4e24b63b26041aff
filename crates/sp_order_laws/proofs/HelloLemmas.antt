-- Frames that begin with a Hello, what comes with an event, and of which version frames are.
use mathlib.Core.Path.{sym, ap, subst, ◌∙◌}
use Rattle.std.proofs.Common.{inl, inr}
use Rattle.std.proofs.lemmas.Bool.{true≢false, eqb-true}
use Rattle.std.specs.Prelude.{◌≡◌, refl, ℕ, ◌==◌, ◌||◌, Bool, true, false, List, [], ◌∷◌, ◌++◌, Option, if◌then◌else◌}
use Rattle.net_message.specs.declared.message.Message.{Message}
use Rattle.net_message.specs.declared.message.Message.TheVariants as message
use Rattle.uuid.specs.declared.Uuid.{Uuid}
use Rattle.sp_rules.specs.Classes.{Setting}
use Rattle.sp_rules.specs.Events.{Event, Received, Output, Started, Ended, Withdrawn, Denied, Send, Dial, Close, Ready}
use Rattle.sp_rules.specs.Laws.{AllOf}
use Rattle.sp_laws.specs.Sent.{is_hello}
use Rattle.sp_order_laws.specs.Delivered.{frame_of, came_on, frame_in, sent_on}
use Rattle.sp_order_laws.specs.Ends.{IsOneOf}
use Rattle.sp_order_laws.specs.Hellos.{brings_on, has_come, NoHellos, BeginsWithHello, IsHelloAlone, SaysFirst, BeginsWelcome, IsOfVersion, IsSpokenIn, IsHeardIn}
use Rattle.sp_order_laws.proofs.VersionLemmas.{FitsIn, FitsOn}

-- ---- lists

pub none-left : (xs ys : List Message) → xs ++ ys ≡ [] → (xs ≡ []) × (ys ≡ [])
none-left [] ys e = (refl, e)
none-left (x ∷ xs) ys e = absurd (true≢false (sym (ap is_there e)))
  where
    is_there : List Message → Bool
    is_there [] = true
    is_there (x ∷ xs) = false

pub more-none : (xs ys : List Message) → ys ≡ [] → xs ++ ys ≡ xs
more-none [] ys e = e
more-none (x ∷ xs) ys e = ap (λ (l : List Message). x ∷ l) (more-none xs ys e)

pub none-more : (xs ys : List Message) → NoHellos xs → NoHellos ys → NoHellos (xs ++ ys)
none-more [] ys a b = b
none-more (x ∷ xs) ys a b = (a.0, none-more xs ys a.1 b)

pub begins-more : (g : Setting) (xs ys : List Message) → BeginsWithHello g xs → (xs ≡ [] → ⊥) → NoHellos ys → BeginsWithHello g (xs ++ ys)
begins-more g [] ys a some b = absurd (some refl)
begins-more g (x ∷ xs) ys a some b = (a.0, none-more xs ys a.1 b)

abbrev is-there : List Message → Bool
is-there [] = false
is-there (x ∷ xs) = true

-- a Hello that is said alone
pub alone-some : (g : Setting) (ms : List Message) → IsHelloAlone g ms → ms ≡ [] → ⊥
alone-some g ms k e = true≢false (sym (ap is-there k.alone) ∙ ap is-there e)

pub alone-begins : (g : Setting) (ms : List Message) → IsHelloAlone g ms → BeginsWithHello g ms
alone-begins g ms k = subst (BeginsWithHello g) (sym k.alone) (k.own, tt)

pub first-begins : (g : Setting) (late : Bool) (ms : List Message) → SaysFirst g late ms → BeginsWithHello g ms
first-begins g true ms k = subst (BeginsWithHello g) (sym k) tt
first-begins g false ms k = alone-begins g ms k

pub welcome-more : (g : Setting) (dialled : Option Uuid) (peer : Uuid) (xs ys : List Message) → BeginsWelcome g dialled peer xs → NoHellos ys → BeginsWelcome g dialled peer (xs ++ ys)
welcome-more g dialled peer [] ys a b = absurd a
welcome-more g dialled peer (x ∷ xs) ys a b = (a.0, none-more xs ys a.1 b)

-- ---- what comes

-- where no frame came with an event
pub none-comes : (conn : ℕ) (e : Event) → brings_on conn e ≡ false → frame_of conn e ≡ []
none-comes conn (Received c m) is = ap (λ (b : Bool). if b then m ∷ [] else []) is
none-comes conn _ is = refl

frame-none : (conn : ℕ) (e : Event) → frame_of conn e ≡ [] → brings_on conn e ≡ false
frame-none conn (Received c m) none = by (c == conn) none
  where
    is_there : List Message → Bool
    is_there [] = true
    is_there (x ∷ xs) = false

    by : (b : Bool) → (if b then m ∷ [] else []) ≡ [] → b ≡ false
    by true e = absurd (true≢false (sym (ap is_there e)))
    by false e = refl
frame-none conn _ none = refl

pub never-came : (conn : ℕ) (h : List Event) → came_on conn h ≡ [] → has_come conn h ≡ false
never-came conn [] none = refl
never-came conn (e ∷ h) none = let x = none-left (came_on conn h) (frame_of conn e) none in by (brings_on conn e) (frame-none conn e x.1) (never-came conn h x.0)
  where
    by : (b : Bool) → b ≡ false → has_come conn h ≡ false → b || has_come conn h ≡ false
    by true e rest = absurd (true≢false e)
    by false e rest = rest

-- ---- versions

-- a space's first frames are Hellos
pub first-hello : (g : Setting) (late : Bool) (ms : List Message) → SaysFirst g late ms → (m : Message) → IsOneOf m ms → is_hello m ≡ true
first-hello g true ms k m o = absurd (subst (IsOneOf m) k o)
first-hello g false ms k m o = by (subst (IsOneOf m) k.alone o)
  where
    by : IsOneOf m (k.hello ∷ []) → is_hello m ≡ true
    by (inl e) = ap is_hello (e ∙ k.own.says)
    by (inr i) = absurd i

-- frames without a Hello are of any version
pub none-of-version : (v : ℕ) (ms : List Message) → NoHellos ms → AllOf (IsOfVersion v) ms
none-of-version v [] a = tt
none-of-version v (m ∷ ms) a = (one m a.0, none-of-version v ms a.1)
  where
    one : (x : Message) → is_hello x ≡ false → IsOfVersion v x
    one (message.Hello version space digest) e = absurd (true≢false e)
    one (message.Call number object method fuel arguments) e = tt
    one (message.Returned number fuel value) e = tt
    one (message.Threw number class) e = tt
    one (message.Spent number) e = tt
    one (message.Ack number) e = tt
    one (message.Dirty sequence period objects) e = tt
    one (message.Lease sequence period) e = tt
    one (message.Clean sequence strong objects) e = tt
    one (message.Cleaned sequence) e = tt
    one (message.Lookup number name) e = tt

pub none-heard : (g : Setting) (v : ℕ) (ms : List Message) → NoHellos ms → AllOf (IsHeardIn g v) ms
none-heard g v [] a = tt
none-heard g v (m ∷ ms) a = (one m a.0, none-heard g v ms a.1)
  where
    one : (x : Message) → is_hello x ≡ false → IsHeardIn g v x
    one (message.Hello version space digest) e = absurd (true≢false e)
    one (message.Call number object method fuel arguments) e = tt
    one (message.Returned number fuel value) e = tt
    one (message.Threw number class) e = tt
    one (message.Spent number) e = tt
    one (message.Ack number) e = tt
    one (message.Dirty sequence period objects) e = tt
    one (message.Lease sequence period) e = tt
    one (message.Clean sequence strong objects) e = tt
    one (message.Cleaned sequence) e = tt
    one (message.Lookup number name) e = tt

-- frames that fit a version, without a Hello, are of it
pub spoken-so : (conn v : ℕ) (os : List Output) → AllOf (FitsOn conn v) os → NoHellos (sent_on conn os) → AllOf (IsSpokenIn v) (sent_on conn os)
spoken-so conn v [] a b = tt
spoken-so conn v (o ∷ os) a b = by o a.0 b (λ c. spoken-so conn v os a.1 c)
  where
    one : (m : Message) → FitsIn v m → is_hello m ≡ false → IsSpokenIn v m
    one (message.Hello version space digest) fits e = absurd (true≢false e)
    one (message.Call number object method fuel arguments) fits e = tt
    one (message.Returned number fuel value) fits e = tt
    one (message.Threw number class) fits e = tt
    one (message.Spent number) fits e = tt
    one (message.Ack number) fits e = tt
    one (message.Dirty sequence period objects) fits e = fits
    one (message.Lease sequence period) fits e = tt
    one (message.Clean sequence strong objects) fits e = fits
    one (message.Cleaned sequence) fits e = tt
    one (message.Lookup number name) fits e = tt

    sent : (m : Message) (b : Bool) → (b ≡ true → FitsIn v m) → NoHellos ((if b then m ∷ [] else []) ++ sent_on conn os) → (NoHellos (sent_on conn os) → AllOf (IsSpokenIn v) (sent_on conn os)) → AllOf (IsSpokenIn v) ((if b then m ∷ [] else []) ++ sent_on conn os)
    sent m true fits c rest = (one m (fits refl) c.0, rest c.1)
    sent m false fits c rest = rest c

    by : (x : Output) → FitsOn conn v x → NoHellos (frame_in conn x ++ sent_on conn os) → (NoHellos (sent_on conn os) → AllOf (IsSpokenIn v) (sent_on conn os)) → AllOf (IsSpokenIn v) (frame_in conn x ++ sent_on conn os)
    by (Send n m) fits c rest = sent m (n == conn) (λ same. fits (eqb-true n conn same)) c rest
    by (Started task) fits c rest = rest c
    by (Ended task outcome) fits c rest = rest c
    by (Withdrawn ids) fits c rest = rest c
    by (Denied why) fits c rest = rest c
    by (Dial peer) fits c rest = rest c
    by (Close n) fits c rest = rest c
    by (Ready task) fits c rest = rest c
