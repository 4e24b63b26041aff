-- All that was asked of a peer, as it ends: what the rows of a table tell of the requests.
use Rattle.std.proofs.Common.{◌≡◌, ℕ, zero, suc, ◌+◌, ◌<◌, ◌≤◌, Bool, true, false, cond, List, [], ◌∷◌, ◌++◌, length, get_or, take, Option, None, Some, is_some, map, nat_eq, refl, sym, ap, subst, ◌∙◌, true≢false, add-one, arith}
use Rattle.std.specs.Prelude.{◌==◌, not, find, option_and_then}
use Rattle.std.specs.List.{flat_map, list_any}
use Rattle.std.specs.Map.{keys_of, values_of, lookup}
use Rattle.std.proofs.lemmas.Bool.{eq-eqb, ne_eqb}
use Rattle.std.proofs.lemmas.List.{append-nil}
use Rattle.net_message.specs.declared.message.Message.{Message}
use Rattle.rising_map.specs.Rows.{AreAbove, Rises}
use Rattle.sp_rules.specs.Endings.{is_group}
use Rattle.sp_rules.specs.Laws.{AllOf}
use Rattle.sp_rules.specs.ParkedFrames.{is_call_on}
use Rattle.sp_rules.specs.Requests.{is_waiting}
use Rattle.sp_rules.specs.State as rules
use Rattle.sp_requests.specs.declared.asked.Asked.{Asked}
use Rattle.sp_requests.specs.declared.asked.Asked.TheVariants as asked
use Rattle.sp_requests.specs.declared.asked.Asker.{Asker}
use Rattle.sp_requests.specs.declared.asked.Asker.TheVariants as asker
use Rattle.sp_requests.specs.declared.asked.OutCall.{OutCall}
use Rattle.sp_requests.specs.declared.asked.OutGroup.{OutGroup}
use Rattle.sp_requests.specs.declared.asked.ResultKind.{ResultKind}
use Rattle.sp_requests.specs.declared.asked.ResultKind.TheVariants as result
use Rattle.sp_requests.specs.declared.ended.EndedCall.{EndedCall}
use Rattle.sp_requests.specs.Asking.{IsOfCall, IsOn, asked_of, asks_by, call_at, call_row, calls_in, group_at, group_in, group_row, groups_in, kind_of, out_row, result_kind, shown}
use Rattle.sp_requests.specs.Ends.{asker_of, ended_at, ended_call, ended_group, in_turn, out_among, waiting_among, waiting_group}
use Rattle.sp_requests.proofs.AskingLemmas.{found-call}

-- ---- what waits

abbrev pub call_by : Option Asker → List EndedCall
call_by None = []
call_by (Some by) = record { asker = by; unsent = false } ∷ []

abbrev pub waiting_call : Asked → List EndedCall
waiting_call item = call_by (asker_of item)

kind-again : (k : ResultKind) → result_kind (kind_of k) ≡ k
kind-again result.Int = refl
kind-again result.IntArray = refl
kind-again result.Reference = refl
kind-again result.Nothing = refl

call-of : (unsent : List ℕ) (item : Asked) → waiting_call item ≡ map (ended_at unsent rules.Waits) (asks_by (asked_of item))
call-of unsent (asked.Call number task lent kind message) = λ j. record { asker = asker.Call task lent (sym (kind-again kind) j); unsent = false } ∷ []
call-of unsent (asked.Lookup number task name) = refl
call-of unsent (asked.Tell call group) = refl

group-of : (item : Asked) → waiting_group item ≡ values_of (group_in 0 (asked_of item))
group-of (asked.Call number task lent kind message) = refl
group-of (asked.Lookup number task name) = refl
group-of (asked.Tell call group) = refl

abbrev Waiting : rules.Request → Type 0
Waiting r = is_waiting r.stage ≡ true

waits-at : (unsent : List ℕ) (stage : rules.Stage) (question : rules.Asked) → is_waiting stage ≡ true → map (ended_at unsent rules.Waits) (asks_by question) ≡ map (ended_at unsent stage) (asks_by question)
waits-at unsent rules.Waits question e = refl
waits-at unsent (rules.Out c s) question e = absurd (true≢false (sym e))
waits-at unsent (rules.Answered c) question e = absurd (true≢false (sym e))

among-waits : (rows : List rules.Request) → AllOf Waiting (waiting_among rows)
among-waits [] = tt
among-waits (r ∷ rs) = pick (is_waiting r.stage) refl (among-waits rs)
  where
    pick : (b : Bool) → is_waiting r.stage ≡ b → AllOf Waiting (waiting_among rs) → AllOf Waiting (cond b (r ∷ waiting_among rs) (waiting_among rs))
    pick true e go = (e, go)
    pick false e go = go

same-parts : {B : Type 0} (f : Asked → List B) (h : rules.Request → List B) → ((item : Asked) (r : rules.Request) → is_waiting r.stage ≡ true → asked_of item ≡ r.asked → f item ≡ h r) → (items : List Asked) (rows : List rules.Request) → AllOf Waiting rows
    → map asked_of items ≡ map (λ (r : rules.Request). r.asked) rows → flat_map f items ≡ flat_map h rows
same-parts f h each [] [] a e = refl
same-parts f h each [] (r ∷ rs) a e = cc
same-parts f h each (i ∷ is) [] a e = cc
same-parts f h each (i ∷ is) (r ∷ rs) a e =
    let head : asked_of i ≡ r.asked = cc in
    let tail : map asked_of is ≡ map (λ (q : rules.Request). q.asked) rs = cc in
    let first = each i r a.0 head in
    let rest = same-parts f h each is rs a.1 tail in λ j. first j ++ rest j

pub waiting-calls : (unsent : List ℕ) (items : List Asked) (rows : List rules.Request) → map asked_of items ≡ map (λ (r : rules.Request). r.asked) (waiting_among rows) → flat_map waiting_call items ≡ flat_map (ended_call unsent) (waiting_among rows)
waiting-calls unsent items rows e =
    same-parts waiting_call (ended_call unsent) (λ item r w same. call-of unsent item ∙ ap (λ q. map (ended_at unsent rules.Waits) (asks_by q)) same ∙ waits-at unsent r.stage r.asked w) items (waiting_among rows) (among-waits rows) e

pub waiting-groups : (items : List Asked) (rows : List rules.Request) → map asked_of items ≡ map (λ (r : rules.Request). r.asked) (waiting_among rows) → flat_map waiting_group items ≡ flat_map ended_group (waiting_among rows)
waiting-groups items rows e =
    same-parts waiting_group ended_group (λ item r w same. group-of item ∙ ap (λ q. values_of (group_in 0 q)) same) items (waiting_among rows) (among-waits rows) e

-- ---- what is out

abbrev pub ended_row : List ℕ → ℕ × OutCall → EndedCall
ended_row unsent row = record { asker = row.1.asker; unsent = list_any (◌==◌ row.0) unsent }

map-join : {A B : Type 0} (f : A → B) (xs ys : List A) → map f (xs ++ ys) ≡ map f xs ++ map f ys
map-join f [] ys = refl
map-join f (x ∷ xs) ys = ap (λ l. f x ∷ l) (map-join f xs ys)

values-join : {T : Type 0} (xs ys : List (ℕ × T)) → values_of (xs ++ ys) ≡ values_of xs ++ values_of ys
values-join [] ys = refl
values-join (x ∷ xs) ys = ap (λ l. x.1 ∷ l) (values-join xs ys)

row-of : (unsent : List ℕ) (sent : List Message) (answered : Bool) (askers : List (ℕ × Asker)) → map (ended_row unsent) (map (out_row sent answered) askers) ≡ map (λ row. record { asker = row.1; unsent = list_any (◌==◌ row.0) unsent }) askers
row-of unsent sent answered [] = refl
row-of unsent sent answered (x ∷ xs) = ap (λ l. record { asker = x.1; unsent = list_any (◌==◌ x.0) unsent } ∷ l) (row-of unsent sent answered xs)

pub out-calls : (unsent : List ℕ) (sent : List Message) (rows : List rules.Request) → map (ended_row unsent) (calls_in sent rows) ≡ flat_map (ended_call unsent) (out_among rows)
out-calls unsent sent [] = refl
out-calls unsent sent (r ∷ rs) = map-join (ended_row unsent) (call_row sent r) (calls_in sent rs) ∙ pick r.stage refl (out-calls unsent sent rs)
  where
    pick : (stage : rules.Stage) → r.stage ≡ stage → map (ended_row unsent) (calls_in sent rs) ≡ flat_map (ended_call unsent) (out_among rs)
        → map (ended_row unsent) (call_at sent r.stage r.asked) ++ map (ended_row unsent) (calls_in sent rs) ≡ flat_map (ended_call unsent) (cond (not (is_waiting r.stage)) (r ∷ out_among rs) (out_among rs))
    pick rules.Waits e go =
        ap (λ (s : rules.Stage). map (ended_row unsent) (call_at sent s r.asked) ++ map (ended_row unsent) (calls_in sent rs)) e ∙ go
        ∙ sym (ap (λ (s : rules.Stage). flat_map (ended_call unsent) (cond (not (is_waiting s)) (r ∷ out_among rs) (out_among rs))) e)
    pick (rules.Out c s) e go =
        ap (λ (s : rules.Stage). map (ended_row unsent) (call_at sent s r.asked) ++ map (ended_row unsent) (calls_in sent rs)) e
        ∙ (λ j. row-of unsent sent false (asks_by r.asked) j ++ go j)
        ∙ sym (ap (λ (s : rules.Stage). map (ended_at unsent s) (asks_by r.asked) ++ flat_map (ended_call unsent) (out_among rs)) e)
        ∙ sym (ap (λ (s : rules.Stage). flat_map (ended_call unsent) (cond (not (is_waiting s)) (r ∷ out_among rs) (out_among rs))) e)
    pick (rules.Answered c) e go =
        ap (λ (s : rules.Stage). map (ended_row unsent) (call_at sent s r.asked) ++ map (ended_row unsent) (calls_in sent rs)) e
        ∙ (λ j. row-of unsent sent true (asks_by r.asked) j ++ go j)
        ∙ sym (ap (λ (s : rules.Stage). map (ended_at unsent s) (asks_by r.asked) ++ flat_map (ended_call unsent) (out_among rs)) e)
        ∙ sym (ap (λ (s : rules.Stage). flat_map (ended_call unsent) (cond (not (is_waiting s)) (r ∷ out_among rs) (out_among rs))) e)

one-group : (sequence : ℕ) (question : rules.Asked) → values_of (group_in sequence question) ≡ values_of (group_in 0 question)
one-group sequence (rules.Calls number task lent kind m) = refl
one-group sequence (rules.LooksUp number task name) = refl
one-group sequence (rules.Tells call group) = refl

no-group-ends : (question : rules.Asked) → is_group question ≡ false → values_of (group_in 0 question) ≡ []
no-group-ends (rules.Calls number task lent kind m) e = refl
no-group-ends (rules.LooksUp number task name) e = refl
no-group-ends (rules.Tells call group) e = absurd (true≢false e)

pub out-groups : (rows : List rules.Request) → AllOf (λ (r : rules.Request). IsOfCall r.stage r.asked) rows → values_of (groups_in rows) ≡ flat_map ended_group (out_among rows)
out-groups [] a = refl
out-groups (r ∷ rs) a = values-join (group_row r) (groups_in rs) ∙ pick r.stage refl a.0 (out-groups rs a.1)
  where
    rest : List OutGroup
    rest = flat_map ended_group (out_among rs)

    among : rules.Stage → List OutGroup
    among s = flat_map ended_group (cond (not (is_waiting s)) (r ∷ out_among rs) (out_among rs))

    pick : (stage : rules.Stage) → r.stage ≡ stage → IsOfCall r.stage r.asked → values_of (groups_in rs) ≡ rest → values_of (group_at r.stage r.asked) ++ values_of (groups_in rs) ≡ among r.stage
    pick rules.Waits e is go = ap (λ (s : rules.Stage). values_of (group_at s r.asked) ++ values_of (groups_in rs)) e ∙ go ∙ sym (ap among e)
    pick (rules.Out c s) e is go = ap (λ (t : rules.Stage). values_of (group_at t r.asked) ++ values_of (groups_in rs)) e ∙ (λ j. one-group s r.asked j ++ go j) ∙ sym (ap among e)
    pick (rules.Answered c) e is go =
        let none = no-group-ends r.asked (subst (λ (t : rules.Stage). IsOfCall t r.asked) e is) in
        ap (λ (t : rules.Stage). values_of (group_at t r.asked) ++ values_of (groups_in rs)) e ∙ go ∙ sym (ap (λ l. l ++ rest) none) ∙ sym (ap among e)

-- ---- the row at an index

above-at : (n : ℕ) (ns : List ℕ) (i : ℕ) → AreAbove n ns → i < length ns → n < get_or ns i 0
above-at n [] i a h = absurd (omega arith)
above-at n (m ∷ ms) zero a h = a.0
above-at n (m ∷ ms) (suc i) a h = above-at n ms i a.1 (omega arith)

-- A row is found by its number.
pub row-at : {T : Type 0} (rows : List (ℕ × T)) (i : ℕ) → Rises (keys_of rows) → i < length (keys_of rows)
    → (row : ℕ × T) × ((row.0 ≡ get_or (keys_of rows) i 0) × ((lookup (nat_eq (get_or (keys_of rows) i 0)) rows ≡ Some row.1) × (take (suc i) rows ≡ take i rows ++ row ∷ [])))
row-at [] i rises h = absurd (omega arith)
row-at {T} (r ∷ rs) zero rises h = (r, (refl, (ap (λ b. cond b (Some r.1) (lookup (nat_eq r.0) rs)) (eq-eqb r.0 r.0 refl), refl)))
row-at {T} (r ∷ rs) (suc i) rises h =
    let rest = row-at rs i rises.1 (omega arith) in
    let n = get_or (keys_of rs) i 0 in
    let low : r.0 < n = above-at r.0 (keys_of rs) i rises.0 (omega arith) in
    (rest.0, (rest.1.0, (ap (λ b. cond b (Some r.1) (lookup (nat_eq n) rs)) (ne_eqb n r.0 (λ same. omega (arith, low, same))) ∙ rest.1.1.0, ap (λ l. r ∷ l) rest.1.1.1)))

-- a call that is kept is one of the requests
pub kept-found : (conn n : ℕ) (sent : List Message) (rows : List rules.Request) (call : OutCall) → AllOf (λ (r : rules.Request). IsOn conn r.stage) rows → lookup (nat_eq n) (calls_in sent rows) ≡ Some call → is_some (find (is_call_on conn n) rows) ≡ true
kept-found conn n sent rows call on found = pick (find (is_call_on conn n) rows) (sym (found-call conn n sent rows on) ∙ found)
  where
    pick : (o : Option rules.Request) → option_and_then (shown sent) o ≡ Some call → is_some o ≡ true
    pick None e = cc
    pick (Some r) e = refl

-- ---- lists that are taken whole

pub take-whole : {A : Type 0} (xs : List A) (i : ℕ) → length xs ≤ i → take i xs ≡ xs
take-whole [] zero h = refl
take-whole [] (suc i) h = refl
take-whole (x ∷ xs) zero h = absurd (omega arith)
take-whole (x ∷ xs) (suc i) h = ap (λ l. x ∷ l) (take-whole xs i (omega arith))

pub length-keys : {T : Type 0} (rows : List (ℕ × T)) → length (keys_of rows) ≡ length rows
length-keys [] = refl
length-keys (r ∷ rs) = ap suc (length-keys rs)

-- one more of the calls that are out
pub one-more : (unsent : List ℕ) (rows : List (ℕ × OutCall)) (i : ℕ) (row : ℕ × OutCall) (old : List EndedCall) (new : EndedCall) → take (suc i) rows ≡ take i rows ++ row ∷ [] → old ≡ map (ended_row unsent) (take i rows) → new ≡ ended_row unsent row
    → old ++ new ∷ [] ≡ map (ended_row unsent) (take (i + 1) rows)
one-more unsent rows i row old new more so is =
    (λ j. so j ++ is j ∷ []) ∙ sym (map-join (ended_row unsent) (take i rows) (row ∷ [])) ∙ sym (ap (map (ended_row unsent)) more) ∙ sym (ap (λ k. map (ended_row unsent) (take k rows)) (add-one i))

-- ---- requests of which all wait, or none does

all-wait : (rows : List rules.Request) → AllOf Waiting rows → (out_among rows ≡ []) × (waiting_among rows ≡ rows)
all-wait [] a = (refl, refl)
all-wait (r ∷ rs) a =
    let rest = all-wait rs a.1 in (
      ap (λ b. cond (not b) (r ∷ out_among rs) (out_among rs)) a.0 ∙ rest.0,
      ap (λ b. cond b (r ∷ waiting_among rs) (waiting_among rs)) a.0 ∙ ap (λ l. r ∷ l) rest.1,
    )

none-waits : (rows : List rules.Request) → AllOf (λ (r : rules.Request). is_waiting r.stage ≡ false) rows → (out_among rows ≡ rows) × (waiting_among rows ≡ [])
none-waits [] a = (refl, refl)
none-waits (r ∷ rs) a =
    let rest = none-waits rs a.1 in (
      ap (λ b. cond (not b) (r ∷ out_among rs) (out_among rs)) a.0 ∙ ap (λ l. r ∷ l) rest.0,
      ap (λ b. cond b (r ∷ waiting_among rs) (waiting_among rs)) a.0 ∙ rest.1,
    )

-- Before the Hello all of them wait, after it none does: then they end in the order in which they were made.
pub in-turn-before : (rows : List rules.Request) → AllOf (λ (r : rules.Request). is_waiting r.stage ≡ true) rows → in_turn rows ≡ rows
in-turn-before rows a = let e = all-wait rows a in (λ j. e.0 j ++ e.1 j)

pub in-turn-after : (rows : List rules.Request) → AllOf (λ (r : rules.Request). is_waiting r.stage ≡ false) rows → in_turn rows ≡ rows
in-turn-after rows a = let e = none-waits rows a in (λ j. e.0 j ++ e.1 j) ∙ append-nil rows
