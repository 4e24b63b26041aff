use Rattle.std.proofs.Common.{◌≡◌, ℕ, zero, suc, ◌+◌, ◌*◌, ◌-◌, ◌<◌, ◌≤◌, Bool, true, false, cond, List, [], ◌∷◌, ◌++◌, length, is_some, filter, map, take, nat_eq, refl, sym, ap, subst, ◌∙◌, true≢false, arith, Vec, Global}
use Rattle.std.specs.Prelude.{◌||◌, ◌==◌, ◌^◌, min, not, nat_le, find}
use Rattle.std.specs.List.{flat_map, list_any}
use Rattle.std.specs.Map.{keys_of, lookup}
use Rattle.std.proofs.lemmas.Bool.{eq-eqb, ne_eqb, leb-true, leb-false}
use Rattle.std.proofs.lemmas.List.{append-nil}
use Rattle.std.proofs.lemmas.List.Folds.{list_any-append}
use Rattle.net_message.specs.declared.message.Message.{Message}
use Rattle.net_message.specs.declared.message.Message.TheVariants as message
use Rattle.rising_map.specs.Rows.{AreBelow, AreRows}
use Rattle.sp_rules.proofs.AllLemmas.{all-more, or-left, or-right}
use Rattle.sp_rules.specs.Endings.{call_number_in}
use Rattle.sp_rules.specs.Laws.{AllOf}
use Rattle.sp_rules.specs.ParkedFrames.{is_call_on}
use Rattle.sp_rules.specs.Requests.{is_waiting}
use Rattle.uuid.specs.declared.Uuid.{Uuid}
use Rattle.std.proofs.Common.{length-append}
use Rattle.sp_rules.specs.State as rules
use Rattle.sp_requests.specs.declared.requests.Requests.{Requests}
use Rattle.sp_requests.specs.declared.asked.Asked.{Asked}
use Rattle.sp_requests.specs.declared.asked.Asker.{Asker}
use Rattle.sp_requests.specs.declared.asked.OutCall.{OutCall}
use Rattle.sp_requests.specs.Asking.{AreRequests, IsNamed, IsOfCall, IsOn, asked_of, asks_by, call_at, call_row, calls_in, group_in, group_row, groups_in, last_call, last_sequence, newest, out_row, index_of, sequence_in, waiting_in, was_sent}
use Rattle.sp_requests.proofs.AskingLemmas.{all-join, all-left, all-right, flat-more, found-some, gone-call, length-found}

pub is-le : (m n : ℕ) → m ≤ n → nat_le m n ≡ true
is-le m n h = pick (nat_le m n) refl
  where
    pick : (b : Bool) → nat_le m n ≡ b → b ≡ true
    pick true e = refl
    pick false e = let gt : n < m = leb-false m n e in absurd (omega (arith, gt, h))

pub not-le : (m n : ℕ) → n < m → nat_le m n ≡ false
not-le m n h = pick (nat_le m n) refl
  where
    pick : (b : Bool) → nat_le m n ≡ b → b ≡ false
    pick true e = let le : m ≤ n = leb-true m n e in absurd (omega (arith, le, h))
    pick false e = refl

suc-le : (a b u : ℕ) → nat_le a (b + u) ≡ nat_le (suc a) (b + suc u)
suc-le a b u = pick (nat_le a (b + u)) refl
  where
    pick : (t : Bool) → nat_le a (b + u) ≡ t → t ≡ nat_le (suc a) (b + suc u)
    pick true e = let le : a ≤ b + u = leb-true a (b + u) e in sym (is-le (suc a) (b + suc u) (omega (arith, le)))
    pick false e = let gt : b + u < a = leb-false a (b + u) e in sym (not-le (suc a) (b + suc u) (omega (arith, gt)))

-- ---- frames that go out

-- the frame is of none of these calls
abbrev IsOfNone : Message → List ℕ → Type 0
IsOfNone m numbers = AllOf (λ (n : ℕ). list_any (◌==◌ n) (call_number_in m) ≡ false) numbers

pub keys-append : {T : Type 0} (xs ys : List (ℕ × T)) → keys_of (xs ++ ys) ≡ keys_of xs ++ keys_of ys
keys-append [] ys = refl
keys-append (x ∷ xs) ys = ap (λ (l : List ℕ). x.0 ∷ l) (keys-append xs ys)

rows-sent : (m : Message) (sent : List Message) (answered : Bool) (askers : List (ℕ × Asker)) → IsOfNone m (keys_of (map (out_row sent answered) askers)) → map (out_row (m ∷ sent) answered) askers ≡ map (out_row sent answered) askers
rows-sent m sent answered [] none = refl
rows-sent m sent answered (x ∷ xs) none =
    let index = ap (λ b. cond b (length sent) (index_of x.0 sent)) none.0 in
    let first : out_row (m ∷ sent) answered x ≡ out_row sent answered x = λ j. (x.0, record { asker = x.1; answered = answered; index = index j }) in
    let rest = rows-sent m sent answered xs none.1 in λ j. first j ∷ rest j

row-sent : (m : Message) (sent : List Message) (stage : rules.Stage) (question : rules.Asked) → IsOfNone m (keys_of (call_at sent stage question)) → call_at (m ∷ sent) stage question ≡ call_at sent stage question
row-sent m sent rules.Waits question none = refl
row-sent m sent (rules.Out c sequence) question none = rows-sent m sent false (asks_by question) none
row-sent m sent (rules.Answered c) question none = rows-sent m sent true (asks_by question) none

-- a frame of another call, or of none, changes no row
pub calls-sent : (m : Message) (sent : List Message) (rows : List rules.Request) → IsOfNone m (keys_of (calls_in sent rows)) → calls_in (m ∷ sent) rows ≡ calls_in sent rows
calls-sent m sent [] none = refl
calls-sent m sent (r ∷ rs) none =
    let Is : ℕ → Type 0 = λ n. list_any (◌==◌ n) (call_number_in m) ≡ false in
    let both = subst (λ (l : List ℕ). AllOf Is l) (keys-append (call_row sent r) (calls_in sent rs)) none in
    let first = row-sent m sent r.stage r.asked (all-left Is (keys_of (call_row sent r)) (keys_of (calls_in sent rs)) both) in
    let rest = calls-sent m sent rs (all-right Is (keys_of (call_row sent r)) (keys_of (calls_in sent rs)) both) in λ j. first j ++ rest j

-- a frame that is no call's
pub of-none : (m : Message) (numbers : List ℕ) → call_number_in m ≡ [] → IsOfNone m numbers
of-none m [] e = tt
of-none m (n ∷ ns) e = (ap (list_any (◌==◌ n)) e, of-none m ns e)

-- the frame of a call above these
pub of-above : (m : Message) (number : ℕ) (numbers : List ℕ) → call_number_in m ≡ number ∷ [] → AreBelow number numbers → IsOfNone m numbers
of-above m number [] e below = tt
of-above m number (n ∷ ns) e below =
    let low : n < number = below.0 in
    (ap (list_any (◌==◌ n)) e ∙ ap (λ b. b || false) (ne_eqb n number (λ same. omega (arith, low, same))), of-above m number ns e below.1)

pub below-more : (n m : ℕ) (numbers : List ℕ) → n ≤ m → AreBelow n numbers → AreBelow m numbers
below-more n m [] h a = tt
below-more n m (k ∷ ks) h a = let low : k < n = a.0 in (omega (arith, low, h), below-more n m ks h a.1)

pub below-last : (n k : ℕ) (numbers : List ℕ) → AreBelow n numbers → k < n → AreBelow n (numbers ++ k ∷ [])
below-last n k [] a h = (h, tt)
below-last n k (m ∷ ms) a h = (a.0, below-last n k ms a.1 h)

-- what went out stays sent
pub still-sent : (m : Message) (sent : List Message) (rows : List (ℕ × OutCall)) → AllOf (λ (row : ℕ × OutCall). was_sent row.0 sent ≡ true) rows → AllOf (λ (row : ℕ × OutCall). was_sent row.0 (m ∷ sent) ≡ true) rows
still-sent m sent [] a = tt
still-sent m sent (r ∷ rs) a =
    (list_any-append (◌==◌ r.0) (call_number_in m) (flat_map call_number_in sent) ∙ or-right (list_any (◌==◌ r.0) (call_number_in m)) (was_sent r.0 sent) a.0, still-sent m sent rs a.1)

-- how many frames may go out
pub fits : (n calls last_call last_sequence : ℕ) → n + calls ≤ 1 + (2 * last_call + last_sequence) → last_call < 2 ^ 64 → last_sequence < 2 ^ 64 → min (n + 1) (2 ^ 128 - 1) ≡ suc n
fits n calls last_call last_sequence few low least = omega (arith, few, low, least)

-- ---- a frame that is no call's goes out

pub no-call-last : (m : Message) (sent : List Message) → call_number_in m ≡ [] → last_call (m ∷ sent) ≡ last_call sent
no-call-last m sent e = ap (λ (l : List ℕ). newest (l ++ flat_map call_number_in sent)) e

pub no-sequence-last : (m : Message) (sent : List Message) → sequence_in m ≡ [] → last_sequence (m ∷ sent) ≡ last_sequence sent
no-sequence-last m sent e = ap (λ (l : List ℕ). newest (l ++ flat_map sequence_in sent)) e

pub frame-sent : (conn : ℕ) (rows : List rules.Request) (sent : List Message) (m : Message) (old new : Requests) → new.waiting ≡ old.waiting → new.calls ≡ old.calls → new.groups ≡ old.groups → new.frames ≡ suc (length sent)
    → call_number_in m ≡ [] → sequence_in m ≡ [] → suc (length sent) + length (calls_in sent rows) ≤ 1 + (2 * last_call sent + last_sequence sent) → AreRequests conn rows sent old → AreRequests conn rows (m ∷ sent) new
frame-sent conn rows sent m old new waiting calls groups frames none neither few a =
    let lc = no-call-last m sent none in
    let ls = no-sequence-last m sent neither in
    let same = calls-sent m sent rows (of-none m (keys_of (calls_in sent rows)) none) in record {
      on = a.on;
      answered = a.answered;
      named = a.named;
      waiting = ap (λ (w : Vec Asked Global). map asked_of w.items) waiting ∙ a.waiting;
      calls = rw (same, calls) a.calls;
      groups = rw (groups) a.groups;
      were_sent = rw (same) (still-sent m sent (calls_in sent rows) a.were_sent);
      frames = frames;
      called = rw (same, lc) a.called;
      told_of = rw (ls) a.told_of;
      call_fits = rw (lc) a.call_fits;
      sequence_fits = rw (ls) a.sequence_fits;
      few = rw (same, lc, ls) few;
    }

-- ---- a call goes out

-- a call is no dirty or clean call
call-alone : (number : ℕ) (m : Message) → call_number_in m ≡ number ∷ [] → sequence_in m ≡ []
call-alone number (message.Dirty sequence period objects) e = cc
call-alone number (message.Clean sequence strong objects) e = cc
call-alone number _ e = refl

no-group-in : (sequence number : ℕ) (by : Asker) (question : rules.Asked) → asks_by question ≡ (number, by) ∷ [] → group_in sequence question ≡ []
no-group-in sequence number by (rules.Calls k task lent kind m) e = refl
no-group-in sequence number by (rules.LooksUp k task name) e = refl
no-group-in sequence number by (rules.Tells call group) e = cc

pub waiting-more : (rows : List rules.Request) (r : rules.Request) → is_waiting r.stage ≡ false → waiting_in (rows ++ r ∷ []) ≡ waiting_in rows
waiting-more [] r e = ap (λ b. map (λ (x : rules.Request). x.asked) (cond b (r ∷ []) [])) e
waiting-more (x ∷ xs) r e = pick (is_waiting x.stage) (waiting-more xs r e)
  where
    among : List rules.Request → List rules.Request
    among l = filter (λ (y : rules.Request). is_waiting y.stage) l

    pick : (b : Bool) → waiting_in (xs ++ r ∷ []) ≡ waiting_in xs → map (λ (y : rules.Request). y.asked) (cond b (x ∷ among (xs ++ r ∷ [])) (among (xs ++ r ∷ []))) ≡ map (λ (y : rules.Request). y.asked) (cond b (x ∷ among xs) (among xs))
    pick true go = ap (λ l. x.asked ∷ l) go
    pick false go = go

pub call-sent : (conn number : ℕ) (by : Asker) (rows : List rules.Request) (sent : List Message) (peer : Uuid) (question : rules.Asked) (m : Message) (old new : Requests) → new.waiting ≡ old.waiting → new.groups ≡ old.groups → new.frames ≡ suc (length sent)
    → number < 2 ^ 64 → last_call sent < number → asks_by question ≡ (number, by) ∷ [] → IsNamed question → call_number_in m ≡ number ∷ []
    → ((calls : List (ℕ × OutCall)) → AreRows calls old.calls → AreBelow number (keys_of calls) → AreRows (calls ++ (number, record { asker = by; answered = false; index = old.frames }) ∷ []) new.calls)
    → AreRequests conn rows sent old → AreRequests conn (rows ++ record { peer = peer; asked = question; stage = rules.Out conn 0 } ∷ []) (m ∷ sent) new
call-sent conn number by rows sent peer question m old new waiting groups frames small above asks named its pushed a =
    let lc : last_call (m ∷ sent) ≡ number = ap (λ (l : List ℕ). newest (l ++ flat_map call_number_in sent)) its in
    let ls = no-sequence-last m sent (call-alone number m its) in
    let r : rules.Request = record { peer = peer; asked = question; stage = rules.Out conn 0 } in
    let call : OutCall = record { asker = by; answered = false; index = old.frames } in
    let below : AreBelow number (keys_of (calls_in sent rows)) = below-more (suc (last_call sent)) number (keys_of (calls_in sent rows)) (omega (arith, above)) a.called in
    let same = calls-sent m sent rows (of-above m number (keys_of (calls_in sent rows)) its below) in
    let mine : list_any (◌==◌ number) (call_number_in m) ≡ true = ap (list_any (◌==◌ number)) its ∙ ap (λ b. b || false) (eq-eqb number number refl) in
    let index : index_of number (m ∷ sent) ≡ old.frames = ap (λ b. cond b (length sent) (index_of number sent)) mine ∙ sym a.frames in
    let row : call_row (m ∷ sent) r ≡ (number, call) ∷ [] = ap (map (out_row (m ∷ sent) false)) asks ∙ (λ j. (number, record { asker = by; answered = false; index = index j }) ∷ []) in
    let all : calls_in (m ∷ sent) (rows ++ r ∷ []) ≡ calls_in sent rows ++ (number, call) ∷ [] = flat-more (call_row (m ∷ sent)) rows r ∙ (λ j. same j ++ row j) in
    let told : groups_in (rows ++ r ∷ []) ≡ groups_in rows = flat-more group_row rows r ∙ ap (λ l. groups_in rows ++ l) (no-group-in 0 number by question asks) ∙ append-nil (groups_in rows) in
    let count : length (calls_in sent rows ++ (number, call) ∷ []) ≡ length (calls_in sent rows) + 1 = length-append (calls_in sent rows) ((number, call) ∷ []) in record {
      on = all-more (λ (x : rules.Request). IsOn conn x.stage) rows r a.on refl;
      answered = all-more (λ (x : rules.Request). IsOfCall x.stage x.asked) rows r a.answered tt;
      named = all-more (λ (x : rules.Request). IsNamed x.asked) rows r a.named named;
      waiting = ap (λ (w : Vec Asked Global). map asked_of w.items) waiting ∙ a.waiting ∙ sym (waiting-more rows r refl);
      calls = rw (all) (pushed (calls_in sent rows) a.calls below);
      groups = rw (told, groups) a.groups;
      were_sent = rw (all) (all-join (λ (x : ℕ × OutCall). was_sent x.0 (m ∷ sent) ≡ true) (calls_in sent rows) ((number, call) ∷ []) (still-sent m sent (calls_in sent rows) a.were_sent)
          (list_any-append (◌==◌ number) (call_number_in m) (flat_map call_number_in sent) ∙ or-left (list_any (◌==◌ number) (call_number_in m)) (was_sent number sent) mine, tt));
      frames = frames;
      called = rw (all, lc, keys-append (calls_in sent rows) ((number, call) ∷ [])) (below-last (suc number) number (keys_of (calls_in sent rows)) (below-more number (suc number) (keys_of (calls_in sent rows)) (omega arith) below) (omega arith));
      told_of = rw (told, ls) a.told_of;
      call_fits = rw (lc) small;
      sequence_fits = rw (ls) a.sequence_fits;
      few = rw (all, count, lc, ls) (omega (arith, a.few, above));
    }

-- ---- a call is acknowledged

pub acknowledge-call : (conn n : ℕ) (rows : List rules.Request) (sent : List Message) (m : Message) (old mid new : Requests) → AreRequests conn (filter (λ (r : rules.Request). not (is_call_on conn n r)) rows) sent mid
    → new ≡ record mid { frames = new.frames } → new.frames ≡ suc (length sent) → call_number_in m ≡ [] → sequence_in m ≡ [] → is_some (find (is_call_on conn n) rows) ≡ true → AreRequests conn rows sent old
    → AreRequests conn (filter (λ (r : rules.Request). not (is_call_on conn n r)) rows) (m ∷ sent) new
acknowledge-call conn n rows sent m old mid new b others frames none neither there a =
    let left = filter (λ (r : rules.Request). not (is_call_on conn n r)) rows in
    let gone = gone-call conn n sent rows a.on a.calls.rises in
    let found : is_some (lookup (nat_eq n) (calls_in sent rows)) ≡ true = found-some conn n sent rows a.on there in
    let count : length (calls_in sent left) + 1 ≡ length (calls_in sent rows) = ap (λ l. length l + 1) gone ∙ length-found n (calls_in sent rows) found in
    frame-sent conn left sent m mid new (ap (λ (t : Requests). t.waiting) others) (ap (λ (t : Requests). t.calls) others) (ap (λ (t : Requests). t.groups) others) frames none neither
    (omega (arith, count, a.few)) b

-- ---- frames that were not sent whole

pub index-below : (n : ℕ) (sent : List Message) → was_sent n sent ≡ true → index_of n sent < length sent
index-below n [] e = absurd (true≢false (sym e))
index-below n (m ∷ sent) e = pick (list_any (◌==◌ n) (call_number_in m)) refl (index-below n sent)
  where
    pick : (b : Bool) → list_any (◌==◌ n) (call_number_in m) ≡ b → (was_sent n sent ≡ true → index_of n sent < length sent) → cond b (length sent) (index_of n sent) < length (m ∷ sent)
    pick true f go = omega arith
    pick false f go =
        let there : was_sent n sent ≡ true = ap (λ b. b || was_sent n sent) (sym f) ∙ sym (list_any-append (◌==◌ n) (call_number_in m) (flat_map call_number_in sent)) ∙ e in
        let low = go there in omega (arith, low)

-- A call is among the last frames if no more went out since.
pub unsent : (n : ℕ) (sent : List Message) (u : ℕ) → was_sent n sent ≡ true → list_any (◌==◌ n) (flat_map call_number_in (take u sent)) ≡ nat_le (length sent) (index_of n sent + u)
unsent n [] u e = absurd (true≢false (sym e))
unsent n (m ∷ sent) zero e = let low = index-below n (m ∷ sent) e in sym (not-le (length (m ∷ sent)) (index_of n (m ∷ sent) + 0) (omega (arith, low)))
unsent n (m ∷ sent) (suc u) e =
    list_any-append (◌==◌ n) (call_number_in m) (flat_map call_number_in (take u sent)) ∙ pick (list_any (◌==◌ n) (call_number_in m)) refl (unsent n sent u)
  where
    last : Bool
    last = list_any (◌==◌ n) (flat_map call_number_in (take u sent))

    pick : (b : Bool) → list_any (◌==◌ n) (call_number_in m) ≡ b → (was_sent n sent ≡ true → last ≡ nat_le (length sent) (index_of n sent + u)) → (b || last) ≡ nat_le (length (m ∷ sent)) (cond b (length sent) (index_of n sent) + suc u)
    pick true f go = sym (is-le (length (m ∷ sent)) (length sent + suc u) (omega arith))
    pick false f go =
        let there : was_sent n sent ≡ true = ap (λ b. b || was_sent n sent) (sym f) ∙ sym (list_any-append (◌==◌ n) (call_number_in m) (flat_map call_number_in sent)) ∙ e in
        go there ∙ suc-le (length sent) (index_of n sent) u

pub sums : (index n calls last_call last_sequence u : ℕ) → index < n → n + calls ≤ 1 + (2 * last_call + last_sequence) → last_call < 2 ^ 64 → last_sequence < 2 ^ 64 → u < 2 ^ 64 → min (index + u) (2 ^ 128 - 1) ≡ index + u
sums index n calls last_call last_sequence u below few low least small = omega (arith, below, few, low, least, small)
