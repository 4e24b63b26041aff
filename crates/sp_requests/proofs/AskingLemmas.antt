use Rattle.std.proofs.Common.{◌≡◌, ℕ, suc, ◌+◌, ◌<◌, ◌≤◌, ◌⊎◌, inl, inr, Bool, true, false, cond, List, [], ◌∷◌, ◌++◌, length, Option, None, Some, is_some, filter, map, nat_eq, refl, sym, ap, subst, ◌∙◌, true≢false, append_assoc, arith, Vec, Global}
use Rattle.std.specs.Prelude.{◌&&◌, ◌==◌, not, find, option_and_then, Result, Ok, Err, IfOk}
use Rattle.std.specs.Cmp.{nat_eq_equiv}
use Rattle.std.specs.List.{flat_map}
use Rattle.std.specs.Map.{keys_of, lookup, remove_entry, set_value}
use Rattle.std.proofs.lemmas.Map.{keys-set_value, length-set_value}
use Rattle.std.proofs.lemmas.Bool.{eqb-true, eq-eqb, ne_eqb}
use Rattle.std.proofs.lemmas.List.{append-nil}
use Rattle.net_message.specs.declared.message.Message.{Message}
use Rattle.rising_map.specs.Rows.{AreAbove, AreBelow, AreRows, Rises}
use Rattle.sp_rules.specs.Endings.{is_group}
use Rattle.sp_rules.specs.Frames.{answered_on}
use Rattle.sp_rules.proofs.AllLemmas.{all-filter, none-found}
use Rattle.sp_rules.specs.Laws.{AllOf}
use Rattle.sp_rules.specs.ParkedFrames.{has_number, is_call_on, is_out_on}
use Rattle.sp_rules.specs.Requests.{is_waiting}
use Rattle.sp_rules.specs.State as rules
use Rattle.sp_requests.specs.declared.requests.Requests.{Requests}
use Rattle.sp_requests.specs.declared.asked.Asked.{Asked}
use Rattle.sp_requests.specs.declared.asked.Asker.{Asker}
use Rattle.sp_requests.specs.declared.asked.OutCall.{OutCall}
use Rattle.sp_requests.specs.Asking.{AreRequests, IsNamed, IsOfCall, IsOn, asked_of, asks_by, call_at, call_row, calls_in, first_of, group_at, group_row, groups_in, last_call, out_row, index_of, shown, waiting_in, was_sent}

-- ---- tests

pub and-false : (b : Bool) → (b && false) ≡ false
and-false true = refl
and-false false = refl

-- ---- lists

pub flat-more : {A B : Type 0} (f : A → List B) (xs : List A) (y : A) → flat_map f (xs ++ y ∷ []) ≡ flat_map f xs ++ f y
flat-more f [] y = append-nil (f y)
flat-more f (x ∷ xs) y = ap (λ l. f x ++ l) (flat-more f xs y) ∙ sym (append_assoc (f x) (flat_map f xs) (f y))

-- those that give nothing may go
pub flat-filter : {A B : Type 0} (f : A → List B) (p : A → Bool) (xs : List A) → AllOf (λ (x : A). p x ≡ true → f x ≡ []) xs → flat_map f (filter (λ (x : A). not (p x)) xs) ≡ flat_map f xs
flat-filter f p [] a = refl
flat-filter {A} f p (x ∷ xs) a = pick (p x) refl (flat-filter f p xs a.1)
  where
    rest : List A
    rest = filter (λ (y : A). not (p y)) xs

    pick : (b : Bool) → p x ≡ b → flat_map f rest ≡ flat_map f xs → flat_map f (cond (not b) (x ∷ rest) rest) ≡ f x ++ flat_map f xs
    pick true e go = go ∙ sym (ap (λ l. l ++ flat_map f xs) (a.0 e))
    pick false e go = ap (λ l. f x ++ l) go

pub filter-filter : {A : Type 0} (w p : A → Bool) (xs : List A) → AllOf (λ (x : A). p x ≡ true → w x ≡ false) xs → filter w (filter (λ (x : A). not (p x)) xs) ≡ filter w xs
filter-filter w p [] a = refl
filter-filter {A} w p (x ∷ xs) a = pick (p x) refl (filter-filter w p xs a.1)
  where
    rest : List A
    rest = filter (λ (y : A). not (p y)) xs

    pick : (b : Bool) → p x ≡ b → filter w rest ≡ filter w xs → filter w (cond (not b) (x ∷ rest) rest) ≡ cond (w x) (x ∷ filter w xs) (filter w xs)
    pick true e go = go ∙ sym (ap (λ t. cond t (x ∷ filter w xs) (filter w xs)) (a.0 e))
    pick false e go = ap (λ l. cond (w x) (x ∷ l) l) go

pub all-of : {A : Type 0} {P : A → Type 0} (xs : List A) → ((x : A) → P x) → AllOf P xs
all-of [] f = tt
all-of (x ∷ xs) f = (f x, all-of xs f)

pub all-left : {A : Type 0} (P : A → Type 0) (xs ys : List A) → AllOf P (xs ++ ys) → AllOf P xs
all-left P [] ys a = tt
all-left P (x ∷ xs) ys a = (a.0, all-left P xs ys a.1)

pub all-right : {A : Type 0} (P : A → Type 0) (xs ys : List A) → AllOf P (xs ++ ys) → AllOf P ys
all-right P [] ys a = a
all-right P (x ∷ xs) ys a = all-right P xs ys a.1

pub all-join : {A : Type 0} (P : A → Type 0) (xs ys : List A) → AllOf P xs → AllOf P ys → AllOf P (xs ++ ys)
all-join P [] ys a b = b
all-join P (x ∷ xs) ys a b = (a.0, all-join P xs ys a.1 b)

pub flat-all-filter : {A B : Type 0} (P : B → Type 0) (f : A → List B) (q : A → Bool) (xs : List A) → AllOf P (flat_map f xs) → AllOf P (flat_map f (filter q xs))
flat-all-filter P f q [] a = tt
flat-all-filter {A} P f q (x ∷ xs) a = pick (q x) (flat-all-filter P f q xs (all-right P (f x) (flat_map f xs) a))
  where
    pick : (b : Bool) → AllOf P (flat_map f (filter q xs)) → AllOf P (flat_map f (cond b (x ∷ filter q xs) (filter q xs)))
    pick true go = all-join P (f x) (flat_map f (filter q xs)) (all-left P (f x) (flat_map f xs) a) go
    pick false go = go

-- ---- one request

-- a call or lookup that is out
pub record IsCall (conn : ℕ) (sent : List Message) (stage : rules.Stage) (question : rules.Asked) : Type 0 where
  pub number : ℕ
  pub asker : Asker
  pub answered : Bool
  pub asks : asks_by question ≡ (number, asker) ∷ []
  pub row : call_at sent stage question ≡ out_row sent answered (number, asker) ∷ []
  pub is : (n : ℕ) → (is_out_on conn stage && has_number n question) ≡ (number == n)

-- what is no such one
pub record IsOther (conn : ℕ) (sent : List Message) (stage : rules.Stage) (question : rules.Asked) : Type 0 where
  pub row : call_at sent stage question ≡ []
  pub is : (n : ℕ) → (is_out_on conn stage && has_number n question) ≡ false

pub call-cases : (conn : ℕ) (sent : List Message) (stage : rules.Stage) (question : rules.Asked) → IsOn conn stage → IsCall conn sent stage question ⊎ IsOther conn sent stage question
call-cases conn sent rules.Waits question on = inr (record { row = refl; is = λ n. refl })
call-cases conn sent (rules.Out c sequence) (rules.Calls number task lent kind m) on = inl (record { number = number; asker = _; answered = false; asks = refl; row = refl; is = λ n. ap (λ b. b && (number == n)) (eq-eqb c conn on) })
call-cases conn sent (rules.Out c sequence) (rules.LooksUp number task name) on = inl (record { number = number; asker = _; answered = false; asks = refl; row = refl; is = λ n. ap (λ b. b && (number == n)) (eq-eqb c conn on) })
call-cases conn sent (rules.Out c sequence) (rules.Tells call group) on = inr (record { row = refl; is = λ n. and-false (c == conn) })
call-cases conn sent (rules.Answered c) (rules.Calls number task lent kind m) on = inl (record { number = number; asker = _; answered = true; asks = refl; row = refl; is = λ n. ap (λ b. b && (number == n)) (eq-eqb c conn on) })
call-cases conn sent (rules.Answered c) (rules.LooksUp number task name) on = inl (record { number = number; asker = _; answered = true; asks = refl; row = refl; is = λ n. ap (λ b. b && (number == n)) (eq-eqb c conn on) })
call-cases conn sent (rules.Answered c) (rules.Tells call group) on = inr (record { row = refl; is = λ n. and-false (c == conn) })

pub no-group : (conn n : ℕ) (stage : rules.Stage) (question : rules.Asked) → (is_out_on conn stage && has_number n question) ≡ true → group_at stage question ≡ []
no-group conn n rules.Waits question e = refl
no-group conn n (rules.Out c sequence) (rules.Calls number task lent kind m) e = refl
no-group conn n (rules.Out c sequence) (rules.LooksUp number task name) e = refl
no-group conn n (rules.Out c sequence) (rules.Tells call group) e = absurd (true≢false (sym e ∙ and-false (c == conn)))
no-group conn n (rules.Answered c) question e = refl

pub no-wait : (conn n : ℕ) (stage : rules.Stage) (question : rules.Asked) → (is_out_on conn stage && has_number n question) ≡ true → is_waiting stage ≡ false
no-wait conn n rules.Waits question e = absurd (true≢false (sym e))
no-wait conn n (rules.Out c sequence) question e = refl
no-wait conn n (rules.Answered c) question e = refl

-- ---- calls that are found

pub found-call : (conn n : ℕ) (sent : List Message) (rows : List rules.Request) → AllOf (λ (r : rules.Request). IsOn conn r.stage) rows
    → lookup (nat_eq n) (calls_in sent rows) ≡ option_and_then (shown sent) (find (is_call_on conn n) rows)
found-call conn n sent [] on = refl
found-call conn n sent (r ∷ rs) on = pick (call-cases conn sent r.stage r.asked on.0) (found-call conn n sent rs on.1)
  where
    rest : List (ℕ × OutCall)
    rest = calls_in sent rs

    others : Option rules.Request
    others = find (is_call_on conn n) rs

    here : (k : ℕ) (call : OutCall) → call_row sent r ≡ (k, call) ∷ [] → (b : Bool) → lookup (nat_eq n) rest ≡ option_and_then (shown sent) others
        → cond b (Some call) (lookup (nat_eq n) rest) ≡ option_and_then (shown sent) (cond b (Some r) others)
    here k call row true go = sym (ap first_of row)
    here k call row false go = go

    pick : IsCall conn sent r.stage r.asked ⊎ IsOther conn sent r.stage r.asked → lookup (nat_eq n) rest ≡ option_and_then (shown sent) others
        → lookup (nat_eq n) (call_row sent r ++ rest) ≡ option_and_then (shown sent) (cond (is_call_on conn n r) (Some r) others)
    pick (inl c) go =
        ap (λ l. lookup (nat_eq n) (l ++ rest)) c.row
        ∙ ap (λ b. cond b (Some (out_row sent c.answered (c.number, c.asker)).1) (lookup (nat_eq n) rest)) (nat_eq_equiv.symm n c.number)
        ∙ here c.number (out_row sent c.answered (c.number, c.asker)).1 c.row (c.number == n) go
        ∙ sym (ap (λ b. option_and_then (shown sent) (cond b (Some r) others)) (c.is n))
    pick (inr c) go = ap (λ l. lookup (nat_eq n) (l ++ rest)) c.row ∙ go ∙ sym (ap (λ b. option_and_then (shown sent) (cond b (Some r) others)) (c.is n))

pub found-some : (conn n : ℕ) (sent : List Message) (rows : List rules.Request) → AllOf (λ (r : rules.Request). IsOn conn r.stage) rows → is_some (find (is_call_on conn n) rows) ≡ true → is_some (lookup (nat_eq n) (calls_in sent rows)) ≡ true
found-some conn n sent [] on e = absurd (true≢false (sym e))
found-some conn n sent (r ∷ rs) on e = pick (call-cases conn sent r.stage r.asked on.0) (found-some conn n sent rs on.1)
  where
    rest : List (ℕ × OutCall)
    rest = calls_in sent rs

    at : (b : Bool) (call : OutCall) → is_some (cond b (Some r) (find (is_call_on conn n) rs)) ≡ true → (is_some (find (is_call_on conn n) rs) ≡ true → is_some (lookup (nat_eq n) rest) ≡ true) → is_some (cond b (Some call) (lookup (nat_eq n) rest)) ≡ true
    at true call f go = refl
    at false call f go = go f

    pick : IsCall conn sent r.stage r.asked ⊎ IsOther conn sent r.stage r.asked → (is_some (find (is_call_on conn n) rs) ≡ true → is_some (lookup (nat_eq n) rest) ≡ true) → is_some (lookup (nat_eq n) (call_row sent r ++ rest)) ≡ true
    pick (inl c) go =
        ap (λ l. is_some (lookup (nat_eq n) (l ++ rest))) c.row ∙ ap (λ b. is_some (cond b (Some (out_row sent c.answered (c.number, c.asker)).1) (lookup (nat_eq n) rest))) (nat_eq_equiv.symm n c.number)
        ∙ at (c.number == n) (out_row sent c.answered (c.number, c.asker)).1 (ap (λ b. is_some (cond b (Some r) (find (is_call_on conn n) rs))) (sym (c.is n)) ∙ e) go
    pick (inr c) go = ap (λ l. is_some (lookup (nat_eq n) (l ++ rest))) c.row ∙ go (ap (λ b. is_some (cond b (Some r) (find (is_call_on conn n) rs))) (sym (c.is n)) ∙ e)

-- where no row is found none is out
pub none-out : (conn n : ℕ) (sent : List Message) (rows : List rules.Request) → AllOf (λ (r : rules.Request). IsOn conn r.stage) rows → lookup (nat_eq n) (calls_in sent rows) ≡ None → find (is_call_on conn n) rows ≡ None
none-out conn n sent rows on none = pick (find (is_call_on conn n) rows) refl
  where
    pick : (o : Option rules.Request) → find (is_call_on conn n) rows ≡ o → o ≡ None
    pick None e = refl
    pick (Some r) e = absurd (true≢false (sym (found-some conn n sent rows on (ap is_some e)) ∙ ap is_some none))

-- where a row is found one is out
pub some-out : (conn n : ℕ) (sent : List Message) (rows : List rules.Request) (call : OutCall) → AllOf (λ (r : rules.Request). IsOn conn r.stage) rows → AllOf (λ (row : ℕ × OutCall). was_sent row.0 sent ≡ true) (calls_in sent rows)
    → lookup (nat_eq n) (calls_in sent rows) ≡ Some call → (call.index ≡ index_of n sent) × (was_sent n sent ≡ true)
some-out conn n sent [] call on were f = cc
some-out conn n sent (r ∷ rs) call on were f = pick (call-cases conn sent r.stage r.asked on.0) (λ w e. some-out conn n sent rs call on.1 w e)
  where
    rest : List (ℕ × OutCall)
    rest = calls_in sent rs

    Result : Type 0
    Result = (call.index ≡ index_of n sent) × (was_sent n sent ≡ true)

    Were : List (ℕ × OutCall) → Type 0
    Were l = AllOf (λ (row : ℕ × OutCall). was_sent row.0 sent ≡ true) l

    at : (k : ℕ) (by : Asker) (answered : Bool) → Were (out_row sent answered (k, by) ∷ rest) → (b : Bool) → nat_eq n k ≡ b → cond b (Some (out_row sent answered (k, by)).1) (lookup (nat_eq n) rest) ≡ Some call → (Were rest → lookup (nat_eq n) rest ≡ Some call → Result) → Result
    at k by answered w true e g go =
        let same : n ≡ k = eqb-true n k e in let its : (out_row sent answered (k, by)).1 ≡ call = cc in
        (sym (ap (λ (x : OutCall). x.index) its) ∙ ap (λ m. index_of m sent) (sym same), ap (λ m. was_sent m sent) same ∙ w.0)
    at k by answered w false e g go = go w.1 g

    pick : IsCall conn sent r.stage r.asked ⊎ IsOther conn sent r.stage r.asked → (Were rest → lookup (nat_eq n) rest ≡ Some call → Result) → Result
    pick (inl c) go =
        at c.number c.asker c.answered (subst (λ (l : List (ℕ × OutCall)). Were (l ++ rest)) c.row were) (nat_eq n c.number) refl (sym (ap (λ l. lookup (nat_eq n) (l ++ rest)) c.row) ∙ f) go
    pick (inr c) go = go (subst (λ (l : List (ℕ × OutCall)). Were (l ++ rest)) c.row were) (sym (ap (λ l. lookup (nat_eq n) (l ++ rest)) c.row) ∙ f)

-- ---- calls that go

-- no call of this number is out
pub kept-all : (conn n : ℕ) (sent : List Message) (rows : List rules.Request) → AllOf (λ (r : rules.Request). IsOn conn r.stage) rows → AreAbove n (keys_of (calls_in sent rows)) → AllOf (λ (r : rules.Request). is_call_on conn n r ≡ false) rows
kept-all conn n sent [] on above = tt
kept-all conn n sent (r ∷ rs) on above = pick (call-cases conn sent r.stage r.asked on.0) (λ a. kept-all conn n sent rs on.1 a)
  where
    pick : IsCall conn sent r.stage r.asked ⊎ IsOther conn sent r.stage r.asked → (AreAbove n (keys_of (calls_in sent rs)) → AllOf (λ (x : rules.Request). is_call_on conn n x ≡ false) rs) → AllOf (λ (x : rules.Request). is_call_on conn n x ≡ false) (r ∷ rs)
    pick (inl c) go =
        let a = subst (λ (l : List (ℕ × OutCall)). AreAbove n (keys_of (l ++ calls_in sent rs))) c.row above in
        let low : n < c.number = a.0 in (c.is n ∙ ne_eqb c.number n (λ same. omega (arith, low, same)), go a.1)
    pick (inr c) go = (c.is n, go (subst (λ (l : List (ℕ × OutCall)). AreAbove n (keys_of (l ++ calls_in sent rs))) c.row above))

pub none-gone : {A : Type 0} (p : A → Bool) (xs : List A) → AllOf (λ (x : A). p x ≡ false) xs → filter (λ (x : A). not (p x)) xs ≡ xs
none-gone p [] a = refl
none-gone {A} p (x ∷ xs) a = ap (λ b. cond (not b) (x ∷ rest) rest) a.0 ∙ ap (λ l. x ∷ l) (none-gone p xs a.1)
  where
    rest : List A
    rest = filter (λ (y : A). not (p y)) xs

pub gone-call : (conn n : ℕ) (sent : List Message) (rows : List rules.Request) → AllOf (λ (r : rules.Request). IsOn conn r.stage) rows → Rises (keys_of (calls_in sent rows))
    → calls_in sent (filter (λ (r : rules.Request). not (is_call_on conn n r)) rows) ≡ remove_entry (nat_eq n) (calls_in sent rows)
gone-call conn n sent [] on rises = refl
gone-call conn n sent (r ∷ rs) on rises = pick (call-cases conn sent r.stage r.asked on.0) (λ a. gone-call conn n sent rs on.1 a)
  where
    left : List rules.Request
    left = filter (λ (x : rules.Request). not (is_call_on conn n x)) rs

    rest : List (ℕ × OutCall)
    rest = calls_in sent rs

    at : (k : ℕ) (call : OutCall) → call_row sent r ≡ (k, call) ∷ [] → AreAbove k (keys_of rest) → (b : Bool) → (k == n) ≡ b → calls_in sent left ≡ remove_entry (nat_eq n) rest
        → calls_in sent (cond (not b) (r ∷ left) left) ≡ cond b rest ((k, call) ∷ remove_entry (nat_eq n) rest)
    at k call row above true e go =
        ap (calls_in sent) (none-gone (is_call_on conn n) rs (kept-all conn n sent rs on.1 (subst (λ (m : ℕ). AreAbove m (keys_of rest)) (eqb-true k n e) above)))
    at k call row above false e go = ap (λ l. l ++ calls_in sent left) row ∙ ap (λ l. (k, call) ∷ l) go

    pick : IsCall conn sent r.stage r.asked ⊎ IsOther conn sent r.stage r.asked → (Rises (keys_of rest) → calls_in sent left ≡ remove_entry (nat_eq n) rest)
        → calls_in sent (cond (not (is_call_on conn n r)) (r ∷ left) left) ≡ remove_entry (nat_eq n) (call_row sent r ++ rest)
    pick (inl c) go =
        let a = subst (λ (l : List (ℕ × OutCall)). Rises (keys_of (l ++ rest))) c.row rises in
        let call : OutCall = (out_row sent c.answered (c.number, c.asker)).1 in
        ap (λ b. calls_in sent (cond (not b) (r ∷ left) left)) (c.is n) ∙ at c.number call c.row a.0 (c.number == n) refl (go a.1)
        ∙ ap (λ b. cond b rest ((c.number, call) ∷ remove_entry (nat_eq n) rest)) (sym (nat_eq_equiv.symm n c.number))
        ∙ sym (ap (λ l. remove_entry (nat_eq n) (l ++ rest)) c.row)
    pick (inr c) go =
        let a = subst (λ (l : List (ℕ × OutCall)). Rises (keys_of (l ++ rest))) c.row rises in
        ap (λ b. calls_in sent (cond (not b) (r ∷ left) left)) (c.is n) ∙ ap (λ l. l ++ calls_in sent left) c.row ∙ go a ∙ sym (ap (λ l. remove_entry (nat_eq n) (l ++ rest)) c.row)

-- nothing else goes with a call
pub gone-groups : (conn n : ℕ) (rows : List rules.Request) → groups_in (filter (λ (r : rules.Request). not (is_call_on conn n r)) rows) ≡ groups_in rows
gone-groups conn n rows = flat-filter group_row (is_call_on conn n) rows (all-of rows (λ r e. no-group conn n r.stage r.asked e))

pub gone-waiting : (conn n : ℕ) (rows : List rules.Request) → waiting_in (filter (λ (r : rules.Request). not (is_call_on conn n r)) rows) ≡ waiting_in rows
gone-waiting conn n rows =
    ap (map (λ (r : rules.Request). r.asked)) (filter-filter (λ (r : rules.Request). is_waiting r.stage) (is_call_on conn n) rows (all-of rows (λ r e. no-wait conn n r.stage r.asked e)))

pub below-removed : {T : Type 0} (m n : ℕ) (rows : List (ℕ × T)) → AreBelow m (keys_of rows) → AreBelow m (keys_of (remove_entry (nat_eq n) rows))
below-removed m n [] a = tt
below-removed {T} m n (r ∷ rs) a = pick (nat_eq n r.0) (below-removed m n rs a.1)
  where
    pick : (t : Bool) → AreBelow m (keys_of (remove_entry (nat_eq n) rs)) → AreBelow m (keys_of (cond t rs (r ∷ remove_entry (nat_eq n) rs)))
    pick true go = a.1
    pick false go = (a.0, go)

pub length-removed : {T : Type 0} (n : ℕ) (rows : List (ℕ × T)) → length (remove_entry (nat_eq n) rows) ≤ length rows
length-removed n [] = omega arith
length-removed {T} n (r ∷ rs) = pick (nat_eq n r.0) (length-removed n rs)
  where
    pick : (t : Bool) → length (remove_entry (nat_eq n) rs) ≤ length rs → length (cond t rs (r ∷ remove_entry (nat_eq n) rs)) ≤ length (r ∷ rs)
    pick true go = omega arith
    pick false go = omega (arith, go)

pub length-found : {T : Type 0} (n : ℕ) (rows : List (ℕ × T)) → is_some (lookup (nat_eq n) rows) ≡ true → length (remove_entry (nat_eq n) rows) + 1 ≡ length rows
length-found n [] e = absurd (true≢false (sym e))
length-found {T} n (r ∷ rs) e = pick (nat_eq n r.0) e (length-found n rs)
  where
    pick : (t : Bool) → is_some (cond t (Some r.1) (lookup (nat_eq n) rs)) ≡ true → (is_some (lookup (nat_eq n) rs) ≡ true → length (remove_entry (nat_eq n) rs) + 1 ≡ length rs) → length (cond t rs (r ∷ remove_entry (nat_eq n) rs)) + 1 ≡ length (r ∷ rs)
    pick true f go = omega arith
    pick false f go = let rest = go f in omega (arith, rest)

-- ---- tables

-- a call that is let go
pub take-call : (conn n : ℕ) (rows : List rules.Request) (sent : List Message) (old new : Requests) → new.waiting ≡ old.waiting → new.groups ≡ old.groups → new.frames ≡ old.frames
    → ((calls : List (ℕ × OutCall)) → AreRows calls old.calls → AreRows (remove_entry (nat_eq n) calls) new.calls) → AreRequests conn rows sent old → AreRequests conn (filter (λ (r : rules.Request). not (is_call_on conn n r)) rows) sent new
take-call conn n rows sent old new waiting groups frames calls a =
    let gone = gone-call conn n sent rows a.on a.calls.rises in record {
      on = all-filter (λ (r : rules.Request). IsOn conn r.stage) (λ (r : rules.Request). not (is_call_on conn n r)) rows a.on;
      answered = all-filter (λ (x : rules.Request). IsOfCall x.stage x.asked) (λ (r : rules.Request). not (is_call_on conn n r)) rows a.answered;
      named = all-filter (λ (x : rules.Request). IsNamed x.asked) (λ (r : rules.Request). not (is_call_on conn n r)) rows a.named;
      waiting = ap (λ (w : Vec Asked Global). map asked_of w.items) waiting ∙ a.waiting ∙ sym (gone-waiting conn n rows);
      calls = subst (λ (l : List (ℕ × OutCall)). AreRows l new.calls) (sym gone) (calls (calls_in sent rows) a.calls);
      groups = rw (gone-groups conn n rows, groups) a.groups;
      were_sent = flat-all-filter (λ (row : ℕ × OutCall). was_sent row.0 sent ≡ true) (call_row sent) (λ (r : rules.Request). not (is_call_on conn n r)) rows a.were_sent;
      frames = frames ∙ a.frames;
      called = rw (gone) (below-removed (suc (last_call sent)) n (calls_in sent rows) a.called);
      told_of = rw (gone-groups conn n rows) a.told_of;
      call_fits = a.call_fits;
      sequence_fits = a.sequence_fits;
      few = rw (gone) (omega (arith, a.few, length-removed n (calls_in sent rows)));
    }

-- ---- calls that are answered

none-marked : (conn n : ℕ) (rows : List rules.Request) → AllOf (λ (r : rules.Request). is_call_on conn n r ≡ false) rows → map (answered_on conn n) rows ≡ rows
none-marked conn n [] a = refl
none-marked conn n (r ∷ rs) a =
    let first : answered_on conn n r ≡ r = ap (λ b. cond b (record r { stage = rules.Answered conn }) r) a.0 in let rest = none-marked conn n rs a.1 in λ j. first j ∷ rest j

pub marked-call : (conn n : ℕ) (sent : List Message) (call : OutCall) (rows : List rules.Request) → AllOf (λ (r : rules.Request). IsOn conn r.stage) rows → Rises (keys_of (calls_in sent rows)) → lookup (nat_eq n) (calls_in sent rows) ≡ Some call
    → calls_in sent (map (answered_on conn n) rows) ≡ set_value (nat_eq n) (calls_in sent rows) (record call { answered = true })
marked-call conn n sent call [] on rises found = refl
marked-call conn n sent call (r ∷ rs) on rises found = pick (call-cases conn sent r.stage r.asked on.0) (λ a f. marked-call conn n sent call rs on.1 a f)
  where
    rest : List (ℕ × OutCall)
    rest = calls_in sent rs

    marked : OutCall
    marked = record call { answered = true }

    at : (c : IsCall conn sent r.stage r.asked) → Rises (keys_of (out_row sent c.answered (c.number, c.asker) ∷ rest)) → (b : Bool) → (c.number == n) ≡ b
        → cond b (Some (out_row sent c.answered (c.number, c.asker)).1) (lookup (nat_eq n) rest) ≡ Some call
        → (Rises (keys_of rest) → lookup (nat_eq n) rest ≡ Some call → calls_in sent (map (answered_on conn n) rs) ≡ set_value (nat_eq n) rest marked)
        → call_row sent (cond b (record r { stage = rules.Answered conn }) r) ++ calls_in sent (map (answered_on conn n) rs)
        ≡ cond b ((c.number, marked) ∷ rest) (out_row sent c.answered (c.number, c.asker) ∷ set_value (nat_eq n) rest marked)
    at c up true e f go =
        let is : (out_row sent c.answered (c.number, c.asker)).1 ≡ call = cc in
        let row : call_row sent (record r { stage = rules.Answered conn }) ≡ (c.number, marked) ∷ [] = ap (map (out_row sent true)) c.asks ∙ (λ j. (c.number, record (is j) { answered = true }) ∷ []) in
        let others = ap (calls_in sent) (none-marked conn n rs (kept-all conn n sent rs on.1 (subst (λ (m : ℕ). AreAbove m (keys_of rest)) (eqb-true c.number n e) up.0))) in λ j. row j ++ others j
    at c up false e f go = let tail = go up.1 f in λ j. c.row j ++ tail j

    pick : IsCall conn sent r.stage r.asked ⊎ IsOther conn sent r.stage r.asked → (Rises (keys_of rest) → lookup (nat_eq n) rest ≡ Some call → calls_in sent (map (answered_on conn n) rs) ≡ set_value (nat_eq n) rest marked)
        → call_row sent (answered_on conn n r) ++ calls_in sent (map (answered_on conn n) rs) ≡ set_value (nat_eq n) (call_row sent r ++ rest) marked
    pick (inl c) go =
        let up = subst (λ (l : List (ℕ × OutCall)). Rises (keys_of (l ++ rest))) c.row rises in
        let first = out_row sent c.answered (c.number, c.asker) in
        let f : cond (c.number == n) (Some first.1) (lookup (nat_eq n) rest) ≡ Some call =
        ap (λ b. cond b (Some first.1) (lookup (nat_eq n) rest)) (sym (nat_eq_equiv.symm n c.number)) ∙ sym (ap (λ l. lookup (nat_eq n) (l ++ rest)) c.row) ∙ found in
        ap (λ b. call_row sent (cond b (record r { stage = rules.Answered conn }) r) ++ calls_in sent (map (answered_on conn n) rs)) (c.is n)
        ∙ at c up (c.number == n) refl f go ∙ ap (λ b. cond b ((c.number, marked) ∷ rest) (first ∷ set_value (nat_eq n) rest marked)) (sym (nat_eq_equiv.symm n c.number))
        ∙ sym (ap (λ l. set_value (nat_eq n) (l ++ rest) marked) c.row)
    pick (inr c) go =
        let up = subst (λ (l : List (ℕ × OutCall)). Rises (keys_of (l ++ rest))) c.row rises in
        let f : lookup (nat_eq n) rest ≡ Some call = sym (ap (λ l. lookup (nat_eq n) (l ++ rest)) c.row) ∙ found in
        ap (λ b. call_row sent (cond b (record r { stage = rules.Answered conn }) r) ++ calls_in sent (map (answered_on conn n) rs)) (c.is n)
        ∙ (λ j. c.row j ++ go up f j) ∙ sym (ap (λ l. set_value (nat_eq n) (l ++ rest) marked) c.row)

-- nothing else changes with a call
pub marked-groups : (conn n : ℕ) (rows : List rules.Request) → groups_in (map (answered_on conn n) rows) ≡ groups_in rows
marked-groups conn n [] = refl
marked-groups conn n (r ∷ rs) = let first = pick (is_call_on conn n r) refl in let rest = marked-groups conn n rs in λ j. first j ++ rest j
  where
    pick : (b : Bool) → is_call_on conn n r ≡ b → group_row (cond b (record r { stage = rules.Answered conn }) r) ≡ group_row r
    pick true e = sym (no-group conn n r.stage r.asked e)
    pick false e = refl

pub marked-waiting : (conn n : ℕ) (rows : List rules.Request) → waiting_in (map (answered_on conn n) rows) ≡ waiting_in rows
marked-waiting conn n [] = refl
marked-waiting conn n (r ∷ rs) = pick (is_call_on conn n r) refl (marked-waiting conn n rs)
  where
    among : List rules.Request → List rules.Request
    among l = filter (λ (y : rules.Request). is_waiting y.stage) l

    asked : List rules.Request → List rules.Asked
    asked l = map (λ (y : rules.Request). y.asked) l

    new : List rules.Request
    new = map (answered_on conn n) rs

    same : (b : Bool) → asked (among new) ≡ asked (among rs) → asked (cond b (r ∷ among new) (among new)) ≡ asked (cond b (r ∷ among rs) (among rs))
    same true go = ap (λ l. r.asked ∷ l) go
    same false go = go

    pick : (b : Bool) → is_call_on conn n r ≡ b → asked (among new) ≡ asked (among rs) → asked (among (cond b (record r { stage = rules.Answered conn }) r ∷ new)) ≡ asked (among (r ∷ rs))
    pick true e go = go ∙ sym (ap (λ b. asked (cond b (r ∷ among rs) (among rs))) (no-wait conn n r.stage r.asked e))
    pick false e go = same (is_waiting r.stage) go

marked-on : (conn n : ℕ) (rows : List rules.Request) → AllOf (λ (r : rules.Request). IsOn conn r.stage) rows → AllOf (λ (r : rules.Request). IsOn conn r.stage) (map (answered_on conn n) rows)
marked-on conn n [] a = tt
marked-on conn n (r ∷ rs) a = (pick (is_call_on conn n r), marked-on conn n rs a.1)
  where
    pick : (b : Bool) → IsOn conn (cond b (record r { stage = rules.Answered conn }) r).stage
    pick true = refl
    pick false = a.0

call-no-group : (conn n : ℕ) (stage : rules.Stage) (question : rules.Asked) → (is_out_on conn stage && has_number n question) ≡ true → is_group question ≡ false
call-no-group conn n stage (rules.Calls number task lent kind m) e = refl
call-no-group conn n stage (rules.LooksUp number task name) e = refl
call-no-group conn n stage (rules.Tells call group) e = absurd (true≢false (sym e ∙ and-false (is_out_on conn stage)))

marked-answered : (conn n : ℕ) (rows : List rules.Request) → AllOf (λ (r : rules.Request). IsOfCall r.stage r.asked) rows → AllOf (λ (r : rules.Request). IsOfCall r.stage r.asked) (map (answered_on conn n) rows)
marked-answered conn n [] a = tt
marked-answered conn n (r ∷ rs) a = (pick (is_call_on conn n r) refl, marked-answered conn n rs a.1)
  where
    its : Bool → rules.Request
    its b = cond b (record r { stage = rules.Answered conn }) r

    pick : (b : Bool) → is_call_on conn n r ≡ b → IsOfCall (its b).stage (its b).asked
    pick true e = call-no-group conn n r.stage r.asked e
    pick false e = a.0

marked-named : (conn n : ℕ) (rows : List rules.Request) → AllOf (λ (r : rules.Request). IsNamed r.asked) rows → AllOf (λ (r : rules.Request). IsNamed r.asked) (map (answered_on conn n) rows)
marked-named conn n [] a = tt
marked-named conn n (r ∷ rs) a = (pick (is_call_on conn n r), marked-named conn n rs a.1)
  where
    pick : (b : Bool) → IsNamed (cond b (record r { stage = rules.Answered conn }) r).asked
    pick true = a.0
    pick false = a.0

all-set : (P : ℕ → Type 0) (n : ℕ) (call : OutCall) (rows : List (ℕ × OutCall)) → AllOf (λ (row : ℕ × OutCall). P row.0) rows → AllOf (λ (row : ℕ × OutCall). P row.0) (set_value (nat_eq n) rows call)
all-set P n call [] a = tt
all-set P n call (r ∷ rs) a = pick (nat_eq n r.0) (all-set P n call rs a.1)
  where
    pick : (b : Bool) → AllOf (λ (row : ℕ × OutCall). P row.0) (set_value (nat_eq n) rs call) → AllOf (λ (row : ℕ × OutCall). P row.0) (cond b ((r.0, call) ∷ rs) (r ∷ set_value (nat_eq n) rs call))
    pick true go = (a.0, a.1)
    pick false go = (a.0, go)

-- a call that is answered
pub mark-call : (conn n : ℕ) (rows : List rules.Request) (sent : List Message) (call : OutCall) (old new : Requests) → new ≡ record old { calls = new.calls } → ((calls : List (ℕ × OutCall)) → AreRows calls old.calls → AreRows (set_value (nat_eq n) calls (record call { answered = true })) new.calls)
    → lookup (nat_eq n) (calls_in sent rows) ≡ Some call → AreRequests conn rows sent old → AreRequests conn (map (answered_on conn n) rows) sent new
mark-call conn n rows sent call old new others calls found a =
    let marked = marked-call conn n sent call rows a.on a.calls.rises found in
    let mine : OutCall = record call { answered = true } in
    let length_is : length (set_value (nat_eq n) (calls_in sent rows) mine) ≡ length (calls_in sent rows) = length-set_value (nat_eq n) (calls_in sent rows) mine in
    let keys_are : keys_of (set_value (nat_eq n) (calls_in sent rows) mine) ≡ keys_of (calls_in sent rows) = keys-set_value (nat_eq n) (calls_in sent rows) mine in
    let gs : new.groups ≡ old.groups = ap (λ (t : Requests). t.groups) others in record {
      on = marked-on conn n rows a.on;
      answered = marked-answered conn n rows a.answered;
      named = marked-named conn n rows a.named;
      waiting = ap (λ (t : Requests). map asked_of t.waiting.items) others ∙ a.waiting ∙ sym (marked-waiting conn n rows);
      calls = subst (λ (l : List (ℕ × OutCall)). AreRows l new.calls) (sym marked) (calls (calls_in sent rows) a.calls);
      groups = rw (marked-groups conn n rows, gs) a.groups;
      were_sent = rw (marked) (all-set (λ (k : ℕ). was_sent k sent ≡ true) n mine (calls_in sent rows) a.were_sent);
      frames = ap (λ (t : Requests). t.frames) others ∙ a.frames;
      called = rw (marked, keys_are) a.called;
      told_of = rw (marked-groups conn n rows) a.told_of;
      call_fits = a.call_fits;
      sequence_fits = a.sequence_fits;
      few = rw (marked, length_is) a.few;
    }

-- no call of the number is out
pub unmarked : (conn n : ℕ) (rows : List rules.Request) (sent : List Message) (old : Requests) → find (is_call_on conn n) rows ≡ None → AreRequests conn rows sent old → AreRequests conn (map (answered_on conn n) rows) sent old
unmarked conn n rows sent old none a = subst (λ (l : List rules.Request). AreRequests conn l sent old) (sym (none-marked conn n rows (none-found (is_call_on conn n) rows none))) a

-- no call went out before the first frame
pub none-sent : (rows : List (ℕ × OutCall)) → AllOf (λ (row : ℕ × OutCall). was_sent row.0 [] ≡ true) rows → rows ≡ []
none-sent [] a = refl
none-sent (r ∷ rs) a = absurd (true≢false (sym a.0))

pub if-ok : {A E : Type 0} (r : Result A E) (P Q : A → Type 0) → ((x : A) → P x → Q x) → IfOk r P → IfOk r Q
if-ok (Ok x) P Q each h = each x h
if-ok (Err e) P Q each h = h
