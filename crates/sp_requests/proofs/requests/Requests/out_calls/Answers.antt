use Rattle.std.proofs.Common.{◌≡◌, ◌<◌, ◌≤◌, List, ℕ, length, get_or, nat_eq, Some, sym, ap, subst, ◌∙◌, arith}
use Rattle.std.specs.Prelude.{◌==◌}
use Rattle.std.specs.List.{list_any}
use Rattle.std.specs.Map.{keys_of, lookup}
use Rattle.sp_requests.specs.declared.ended.EndedCall.{EndedCall}
use Rattle.sp_requests.specs.Asking.{calls_in}
use Rattle.sp_requests.specs.Ends.{unsent_among}
use Rattle.sp_requests.proofs.AskingLemmas.{found-call}
use Rattle.sp_requests.proofs.EndLemmas.{ended_row, kept-found, length-keys, one-more, out-calls, row-at, take-whole}
use Rattle.sp_requests.proofs.requests.Requests.out_calls.Goals as goal
use Rattle.sp_requests.proofs.requests.Requests.out_calls.Goals.{in-Some+in_ok-push, in_default}

pub loop-number-preserved : goal.loop-number-preserved
loop-number-preserved c = λ conn rows sent a.
    let i = c.loop-number.number-index in
    let calls = calls_in sent rows in
    let unsent = unsent_among c.args.unsent sent in
    let keys : c.deref-number-items.result.now ≡ keys_of calls = c.deref-number-items.ensures.value ∙ c.in_ok-numbers.ensures calls a.calls in
    let at = row-at calls i a.calls.rises (subst (λ (l : List ℕ). i < length l) keys c.loop-number-test.true) in
    let n = get_or c.deref-number-items.result.now i 0 in
    let same : n ≡ get_or (keys_of calls) i 0 = ap (λ (l : List ℕ). get_or l i 0) keys in
    let found : lookup (nat_eq n) calls ≡ Some at.0.1 = ap (λ k. lookup (nat_eq k) calls) same ∙ at.1.1.0 in
    let told : c.call.result ≡ Some at.0.1 = c.call.ensures conn rows sent a ∙ sym (found-call conn n sent rows a.on) ∙ found in
    elim c.match-call.branch [
      | in-Some+in_ok-push w ↦
          let its : w.in-Some.call ≡ at.0.1 = (let is = w.in-Some.is in cc) in
          let which : w.is_unsent.result ≡ list_any (◌==◌ at.0.0) unsent = w.is_unsent.ensures conn rows sent a (kept-found conn n sent rows at.0.1 a.on found) ∙ ap (λ k. list_any (◌==◌ k) unsent) (same ∙ sym at.1.0) in
          let new : EndedCall = record { asker = w.in-Some.call.asker; unsent = w.is_unsent.result } in
          let is : new ≡ ended_row unsent at.0 = (λ j. record { asker = (its j).asker; unsent = which j }) in
          ap (λ v. v.items) w.calls-is ∙ w.in_ok-push.ensures.items ∙ one-more unsent calls i at.0 c.loop-number.calls.items new at.1.1.1 (c.loop-number.invariant conn rows sent a) is
      | in_default w ↦ absurd (w.in_default.not-Some at.0.1 told)
    ]

pub returns : goal.returns
returns c = λ conn rows sent a.
    let calls = calls_in sent rows in
    let keys : c.deref-number-items.result.now ≡ keys_of calls = c.deref-number-items.ensures.value ∙ c.in_ok-numbers.ensures calls a.calls in
    let all : length calls ≤ c.loop-number.number-index = omega (arith, ap length keys, length-keys calls) in
    c.loop-number.invariant conn rows sent a ∙ ap (λ l. Rattle.std.specs.Prelude.map (ended_row (unsent_among c.args.unsent sent)) l) (take-whole calls c.loop-number.number-index all) ∙ out-calls (unsent_among c.args.unsent sent) sent rows
