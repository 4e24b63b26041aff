-- What the rules look at before they let an event in.
use Rattle.std.proofs.Common.{◌≡◌, ℕ, ◌<◌, ◌^◌, arith, Bool, true, false, cond, List, [], Option, None, Some, refl, true≢false}
use Rattle.std.specs.Prelude.{◌&&◌, ◌||◌, not, is_some, nat_le}
use Rattle.std.proofs.lemmas.Bool.Decides.{nat_tests}
use Rattle.uuid.specs.declared.Uuid.{Uuid}
use Rattle.sp_rules.specs.Classes.{Setting}
use Rattle.sp_rules.specs.Events.{Event, Lookup, Moment, Opened, Refused}
use Rattle.sp_rules.specs.Refusals.{Refusal, Strange, WornOut, checks, first_refusal, is_give_back, is_worn, refusal, refuse_if, was_asked}
use Rattle.sp_rules.specs.State.{State, Connection, connection_at, is_dialling, is_open}
use Rattle.sp_state.specs.LetIn.{IsLetIn}

or-left : (a b : Bool) → (a || b) ≡ false → a ≡ false
or-left true b h = h
or-left false b h = refl

or-right : (a b : Bool) → (a || b) ≡ false → b ≡ false
or-right true b h = absurd (true≢false h)
or-right false b h = h

below : (n : ℕ) → nat_le (2 ^ 63) n ≡ false → n < 2 ^ 63
below n early = grind (arith, nat_tests)

-- ---- numbers

-- No number has come to 2^63.
pub record AreFew (s : State) : Type 0 where
  pub objects : s.objects_made < 2 ^ 63
  pub tasks : s.tasks_made < 2 ^ 63
  pub calls : s.calls_made < 2 ^ 63

pub not-worn : (s : State) → is_worn s ≡ false → AreFew s
not-worn s fresh =
    let others = or-right (nat_le (2 ^ 63) s.objects_made) _ fresh in
    let more = or-right (nat_le (2 ^ 63) s.tasks_made) _ others in record {
      objects = below s.objects_made (or-left (nat_le (2 ^ 63) s.objects_made) _ fresh);
      tasks = below s.tasks_made (or-left (nat_le (2 ^ 63) s.tasks_made) _ others);
      calls = below s.calls_made (or-left (nat_le (2 ^ 63) s.calls_made) _ more);
    }

-- ---- events

-- a space that lets in an event from outside is not worn out, and there is no reason to refuse it
pub record IsFree (g : Setting) (s : State) (e : Event) : Type 0 where
  pub fresh : is_worn s ≡ false
  pub first : first_refusal (checks g [] s e) ≡ None

let-in : (g : Setting) (s : State) (e : Event) → is_give_back e ≡ false → IsLetIn g s e → IsFree g s e
unfolding refusal
let-in g s e outside lets = let both = of (is_worn s) (is_give_back e) outside lets in record { fresh = both.0; first = both.1 }
  where
    of : (w b : Bool) → b ≡ false → cond (w && not b) (Some WornOut) (first_refusal (checks g [] s e)) ≡ None → (w ≡ false) × (first_refusal (checks g [] s e) ≡ None)
    of true true outside lets = absurd (true≢false outside)
    of true false outside lets = cc
    of false b outside lets = (refl, lets)

only-check : (fails : Bool) (why : Refusal) → first_refusal (refuse_if fails why) ≡ None → fails ≡ false
only-check true why none = cc
only-check false why none = refl

not-false : (b : Bool) → not b ≡ false → b ≡ true
not-false true h = refl
not-false false h = absurd (true≢false h)

not-some : (o : Option Connection) → is_some o ≡ false → o ≡ None
not-some None h = refl
not-some (Some c) h = absurd (true≢false h)

pub let-moment : (g : Setting) (s : State) (moment : ℕ) → IsLetIn g s (Moment moment) → moment < 2 ^ 63
let-moment g s moment lets = below moment (only-check (nat_le (2 ^ 63) moment) WornOut (let-in g s (Moment moment) refl lets).first)

pub let-lookup : (g : Setting) (s : State) (peer : Uuid) (name : List ℕ) → IsLetIn g s (Lookup peer name) → is_worn s ≡ false
let-lookup g s peer name lets = (let-in g s (Lookup peer name) refl lets).fresh

-- A connection that opens is not open, and its peer was dialled if it is to have been.
pub record MayOpen (s : State) (conn : ℕ) (dialled : Option Uuid) : Type 0 where
  pub free : connection_at s conn ≡ None
  pub asked : was_asked s dialled ≡ true

pub let-opened : (g : Setting) (s : State) (conn : ℕ) (dialled : Option Uuid) → IsLetIn g s (Opened conn dialled) → MayOpen s conn dialled
let-opened g s conn dialled lets =
    let none = only-check (is_open s conn || not (was_asked s dialled)) Strange (let-in g s (Opened conn dialled) refl lets).first in record {
      free = not-some (connection_at s conn) (or-left (is_open s conn) (not (was_asked s dialled)) none);
      asked = not-false (was_asked s dialled) (or-right (is_open s conn) (not (was_asked s dialled)) none);
    }

pub let-refused : (g : Setting) (s : State) (peer : Uuid) → IsLetIn g s (Refused peer) → is_dialling s peer ≡ true
let-refused g s peer lets = not-false (is_dialling s peer) (only-check (not (is_dialling s peer)) Strange (let-in g s (Refused peer) refl lets).first)
