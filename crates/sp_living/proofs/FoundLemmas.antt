-- What is found under a number: calls and lookups, dirty and clean calls, connections.
use Rattle.std.proofs.Common.{◌≡◌, ℕ, Bool, true, false, cond, List, [], ◌∷◌, Option, None, Some, refl, sym, ap, ◌∙◌, true≢false}
use Rattle.std.specs.Prelude.{filter, find, not, ◌==◌, ◌&&◌, option_and_then}
use Rattle.std.proofs.lemmas.Bool.{eqb-true}
use Rattle.dgc_client.specs.History as lease_events
use Rattle.sp_rules.specs.Frames.{group_told, has_sequence, tells_of, tells_on}
use Rattle.sp_rules.specs.ParkedFrames.{has_number, is_call_on, is_out_on, is_unanswered_on}
use Rattle.sp_rules.specs.State.{State, Asked, Calls, LooksUp, Tells, Connection, Request, Stage, Waits, Out, Answered, connection_at}
use Rattle.sp_requests.specs.Asking.{asks_by, first_of, group_at, told}
use Rattle.sp_requests.specs.declared.asked.Asker.{Asker}
use Rattle.sp_requests.specs.declared.asked.OutGroup.{OutGroup}
use Rattle.sp_transport.specs.Answers.{asker_in, tell_leases}

-- what is found is so
pub found-is : {A : Type 0} (is : A → Bool) (xs : List A) (x : A) → find is xs ≡ Some x → is x ≡ true
found-is is [] x f = cc
found-is is (y ∷ ys) x f = by (is y) refl f (λ later. found-is is ys x later)
  where
    by : (b : Bool) → is y ≡ b → cond b (Some y) (find is ys) ≡ Some x → (find is ys ≡ Some x → is x ≡ true) → is x ≡ true
    by true here same go = let it : y ≡ x = cc in ap is (sym it) ∙ here
    by false apart same go = go same

pub number-of : (s : State) (conn : ℕ) (c : Connection) → connection_at s conn ≡ Some c → c.number ≡ conn
number-of s conn c there = eqb-true c.number conn (found-is (λ (d : Connection). d.number == conn) s.connections c there)

second : (a b : Bool) → (a && b) ≡ true → b ≡ true
second true b h = h
second false b h = absurd (true≢false (sym h))

-- ---- calls and lookups

no-call : (number : ℕ) (a : Asked) → has_number number a ≡ true → first_of (asks_by a) ≡ None → ⊥
no-call number (Calls n task lent kind m) has none = cc
no-call number (LooksUp n task name) has none = cc
no-call number (Tells call group) has none = true≢false (sym has)

-- a call or lookup of a number is found, if anyone asks by it
pub none-asks : (conn number : ℕ) (rs : List Request) → None ≡ option_and_then asker_in (find (is_call_on conn number) rs) → find (is_call_on conn number) rs ≡ None
none-asks conn number rs none = by (find (is_call_on conn number) rs) refl none
  where
    by : (o : Option Request) → find (is_call_on conn number) rs ≡ o → None ≡ option_and_then asker_in o → o ≡ None
    by None there n = refl
    by (Some r) there n = absurd (no-call number r.asked (second (is_out_on conn r.stage) (has_number number r.asked) (found-is (is_call_on conn number) rs r there)) (sym n))

pub record IsAskedBy (by : Asker) (o : Option Request) : Type 0 where
  pub row : Request
  pub there : o ≡ Some row
  pub asks : first_of (asks_by row.asked) ≡ Some by

pub one-asks : (by : Asker) (o : Option Request) → Some by ≡ option_and_then asker_in o → IsAskedBy by o
one-asks by None is = cc
one-asks by (Some r) is = record { row = r; there = refl; asks = sym is }

-- ---- dirty and clean calls

-- Dirty or clean calls of a group are out: this is told of them.
pub record IsTold (out : OutGroup) (o : Option Request) : Type 0 where
  pub row : Request
  pub there : o ≡ Some row
  pub tells : (event : ℕ → lease_events.Event) (s : State) → group_told event row.asked s ≡ tell_leases out.group (event out.call) s

one-told : (out : OutGroup) (stage : Stage) (a : Asked) → Some out ≡ first_of (group_at stage a) → (event : ℕ → lease_events.Event) (s : State) → group_told event a s ≡ tell_leases out.group (event out.call) s
one-told out Waits a is event s = cc
one-told out (Out conn sequence) (Calls n task lent kind m) is event s = cc
one-told out (Out conn sequence) (LooksUp n task name) is event s = cc
one-told out (Out conn sequence) (Tells call group) is event s = let its : out ≡ record { call = call; group = group } = cc in ap (λ (o : OutGroup). tell_leases o.group (event o.call) s) (sym its)
one-told out (Answered conn) a is event s = cc

pub told-so : (out : OutGroup) (o : Option Request) → Some out ≡ option_and_then told o → IsTold out o
told-so out None is = cc
told-so out (Some r) is = record { row = r; there = refl; tells = λ event s. one-told out r.stage r.asked is event s }

none-told : (dirty : Bool) (conn sequence : ℕ) (stage : Stage) (a : Asked) → (is_unanswered_on conn stage && (has_sequence sequence stage && tells_of dirty a)) ≡ true → None ≡ first_of (group_at stage a) → ⊥
none-told dirty conn sequence Waits a is none = true≢false (sym is)
none-told dirty conn sequence (Out c n) (Calls k task lent kind m) is none = true≢false (sym (second (n == sequence) false (second (c == conn) _ is)))
none-told dirty conn sequence (Out c n) (LooksUp k task name) is none = true≢false (sym (second (n == sequence) false (second (c == conn) _ is)))
none-told dirty conn sequence (Out c n) (Tells call group) is none = cc
none-told dirty conn sequence (Answered c) a is none = true≢false (sym is)

pub none-tells : (dirty : Bool) (conn sequence : ℕ) (rs : List Request) → None ≡ option_and_then told (find (tells_on dirty conn sequence) rs) → find (tells_on dirty conn sequence) rs ≡ None
none-tells dirty conn sequence rs none = by (find (tells_on dirty conn sequence) rs) refl none
  where
    by : (o : Option Request) → find (tells_on dirty conn sequence) rs ≡ o → None ≡ option_and_then told o → o ≡ None
    by None there n = refl
    by (Some r) there n = absurd (none-told dirty conn sequence r.stage r.asked (found-is (tells_on dirty conn sequence) rs r there) n)

-- what is not found is not taken away
pub none-found : {A : Type 0} (is : A → Bool) (xs : List A) → find is xs ≡ None → filter (λ x. not (is x)) xs ≡ xs
none-found is [] none = refl
none-found {A} is (y ∷ ys) none = by (is y) none (λ later. none-found is ys later)
  where
    by : (b : Bool) → cond b (Some y) (find is ys) ≡ None → (find is ys ≡ None → filter (λ x. not (is x)) ys ≡ ys)
        → cond (not b) (y ∷ filter (λ x. not (is x)) ys) (filter (λ x. not (is x)) ys) ≡ y ∷ ys
    by true n go = cc
    by false n go = ap (λ l. y ∷ l) (go n)
