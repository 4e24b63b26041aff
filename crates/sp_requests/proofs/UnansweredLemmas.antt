-- The call or lookup of a number that has no answer: the one of that number, if it has none.
use Rattle.std.proofs.Common.{◌≡◌, ◌⊎◌, inl, inr, ℕ, ◌<◌, Bool, true, false, cond, List, [], ◌∷◌, ◌++◌, Option, None, Some, nat_eq, refl, sym, ap, subst, ◌∙◌, arith}
use Rattle.std.specs.Prelude.{◌&&◌, ◌==◌, not, find, option_and_then}
use Rattle.std.specs.Cmp.{nat_eq_equiv}
use Rattle.std.specs.Map.{keys_of, lookup}
use Rattle.std.proofs.lemmas.Bool.{eqb-true, eq-eqb, ne_eqb}
use Rattle.net_message.specs.declared.message.Message.{Message}
use Rattle.rising_map.specs.Rows.{AreAbove, Rises}
use Rattle.sp_rules.specs.Laws.{AllOf}
use Rattle.sp_rules.specs.ParkedFrames.{has_number, is_asked_on, is_unanswered_on}
use Rattle.sp_rules.specs.State as rules
use Rattle.sp_requests.specs.declared.asked.Asker.{Asker}
use Rattle.sp_requests.specs.declared.asked.OutCall.{OutCall}
use Rattle.sp_requests.specs.Asking.{IsOn, call_at, call_row, calls_in, first_of, out_row, shown}
use Rattle.sp_requests.proofs.AskingLemmas.{and-false}

-- a call that has no answer
abbrev pub unanswered : Option OutCall → Option OutCall
unanswered None = None
unanswered (Some call) = cond call.answered None (Some call)

-- a call or lookup that is out, and what is none
record IsAsked (conn : ℕ) (sent : List Message) (stage : rules.Stage) (question : rules.Asked) : Type 0 where
  pub number : ℕ
  pub asker : Asker
  pub answered : Bool
  pub row : call_at sent stage question ≡ out_row sent answered (number, asker) ∷ []
  pub is : (n : ℕ) → (is_unanswered_on conn stage && has_number n question) ≡ (not answered && (number == n))

record IsUnasked (conn : ℕ) (sent : List Message) (stage : rules.Stage) (question : rules.Asked) : Type 0 where
  pub row : call_at sent stage question ≡ []
  pub is : (n : ℕ) → (is_unanswered_on conn stage && has_number n question) ≡ false

asked-cases : (conn : ℕ) (sent : List Message) (stage : rules.Stage) (question : rules.Asked) → IsOn conn stage → IsAsked conn sent stage question ⊎ IsUnasked conn sent stage question
asked-cases conn sent rules.Waits question on = inr (record { row = refl; is = λ n. refl })
asked-cases conn sent (rules.Out c sequence) (rules.Calls number task lent kind m) on = inl (record { number = number; asker = _; answered = false; row = refl; is = λ n. ap (λ b. b && (number == n)) (eq-eqb c conn on) })
asked-cases conn sent (rules.Out c sequence) (rules.LooksUp number task name) on = inl (record { number = number; asker = _; answered = false; row = refl; is = λ n. ap (λ b. b && (number == n)) (eq-eqb c conn on) })
asked-cases conn sent (rules.Out c sequence) (rules.Tells call group) on = inr (record { row = refl; is = λ n. and-false (c == conn) })
asked-cases conn sent (rules.Answered c) (rules.Calls number task lent kind m) on = inl (record { number = number; asker = _; answered = true; row = refl; is = λ n. refl })
asked-cases conn sent (rules.Answered c) (rules.LooksUp number task name) on = inl (record { number = number; asker = _; answered = true; row = refl; is = λ n. refl })
asked-cases conn sent (rules.Answered c) (rules.Tells call group) on = inr (record { row = refl; is = λ n. refl })

above-none : {T : Type 0} (n : ℕ) (rows : List (ℕ × T)) → AreAbove n (keys_of rows) → lookup (nat_eq n) rows ≡ None
above-none n [] a = refl
above-none n (r ∷ rs) a = let low : n < r.0 = a.0 in ap (λ b. cond b (Some r.1) (lookup (nat_eq n) rs)) (ne_eqb n r.0 (λ same. omega (arith, low, same))) ∙ above-none n rs a.1

pub found-asked : (conn n : ℕ) (sent : List Message) (rows : List rules.Request) → AllOf (λ (r : rules.Request). IsOn conn r.stage) rows → Rises (keys_of (calls_in sent rows))
    → unanswered (lookup (nat_eq n) (calls_in sent rows)) ≡ option_and_then (shown sent) (find (is_asked_on conn n) rows)
found-asked conn n sent [] on rises = refl
found-asked conn n sent (r ∷ rs) on rises = pick (asked-cases conn sent r.stage r.asked on.0) (found-asked conn n sent rs on.1)
  where
    rest : List (ℕ × OutCall)
    rest = calls_in sent rs

    others : Option rules.Request
    others = find (is_asked_on conn n) rs

    here : (k : ℕ) (by : Asker) (answered : Bool) → call_row sent r ≡ out_row sent answered (k, by) ∷ [] → AreAbove k (keys_of rest) → (b : Bool) → (k == n) ≡ b → unanswered (lookup (nat_eq n) rest) ≡ option_and_then (shown sent) others
        → unanswered (cond b (Some (out_row sent answered (k, by)).1) (lookup (nat_eq n) rest)) ≡ option_and_then (shown sent) (cond (not answered && b) (Some r) others)
    here k by true row above true same go = sym (ap unanswered (ap (λ m. lookup (nat_eq m) rest) (sym (eqb-true k n same)) ∙ above-none k rest above)) ∙ go
    here k by false row above true same go = sym (ap first_of row)
    here k by true row above false same go = go
    here k by false row above false same go = go

    pick : IsAsked conn sent r.stage r.asked ⊎ IsUnasked conn sent r.stage r.asked → (Rises (keys_of rest) → unanswered (lookup (nat_eq n) rest) ≡ option_and_then (shown sent) others)
        → unanswered (lookup (nat_eq n) (call_row sent r ++ rest)) ≡ option_and_then (shown sent) (cond (is_asked_on conn n r) (Some r) others)
    pick (inl c) go =
        let up = subst (λ (l : List (ℕ × OutCall)). Rises (keys_of (l ++ rest))) c.row rises in
        ap (λ l. unanswered (lookup (nat_eq n) (l ++ rest))) c.row
        ∙ ap (λ b. unanswered (cond b (Some (out_row sent c.answered (c.number, c.asker)).1) (lookup (nat_eq n) rest))) (nat_eq_equiv.symm n c.number)
        ∙ here c.number c.asker c.answered c.row up.0 (c.number == n) refl (go up.1)
        ∙ sym (ap (λ b. option_and_then (shown sent) (cond b (Some r) others)) (c.is n))
    pick (inr c) go =
        let up = subst (λ (l : List (ℕ × OutCall)). Rises (keys_of (l ++ rest))) c.row rises in
        ap (λ l. unanswered (lookup (nat_eq n) (l ++ rest))) c.row ∙ go up ∙ sym (ap (λ b. option_and_then (shown sent) (cond b (Some r) others)) (c.is n))
