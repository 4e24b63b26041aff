-- A table does not tell the order of two frames that are no calls. (For the crate that sends frames in another order than it counts them.)
use Rattle.std.proofs.Common.{◌≡◌, ℕ, suc, Bool, true, false, cond, List, [], ◌∷◌, ◌++◌, length, map, refl, sym, ap, subst, ◌∙◌}
use Rattle.std.specs.Prelude.{◌==◌}
use Rattle.std.specs.List.{flat_map, list_any}
use Rattle.net_message.specs.declared.message.Message.{Message}
use Rattle.rising_map.specs.Rows.{AreRows}
use Rattle.sp_rules.specs.Endings.{call_number_in}
use Rattle.sp_rules.specs.Laws.{AllOf}
use Rattle.sp_rules.specs.State as rules
use Rattle.sp_requests.specs.declared.asked.Asker.{Asker}
use Rattle.sp_requests.specs.declared.asked.OutCall.{OutCall}
use Rattle.sp_requests.specs.declared.requests.Requests.{Requests}
use Rattle.sp_requests.specs.Asking.{AreRequests, asks_by, call_at, calls_in, last_call, last_sequence, newest, out_row, index_of, sequence_in, was_sent}

-- Two lists of frames have the same calls in the same order, each after the same number of frames, and the same dirty and clean calls in the same order.
pub record AreAlike (sent others : List Message) : Type 0 where
  pub calls : map call_number_in sent ≡ map call_number_in others
  pub sequences : flat_map sequence_in sent ≡ flat_map sequence_in others

join : List (List ℕ) → List ℕ
join [] = []
join (ns ∷ nss) = ns ++ join nss

abbrev index_in : ℕ → List (List ℕ) → ℕ
index_in n [] = 0
index_in n (ns ∷ nss) = cond (list_any (◌==◌ n) ns) (length nss) (index_in n nss)

all-numbers : (sent : List Message) → flat_map call_number_in sent ≡ join (map call_number_in sent)
unfolding join
all-numbers [] = refl
all-numbers (m ∷ ms) = ap (λ l. call_number_in m ++ l) (all-numbers ms)

length-is : (sent : List Message) → length sent ≡ length (map call_number_in sent)
length-is [] = refl
length-is (m ∷ ms) = ap suc (length-is ms)

index-is : (n : ℕ) (sent : List Message) → index_of n sent ≡ index_in n (map call_number_in sent)
index-is n [] = refl
index-is n (m ∷ ms) = let same = length-is ms in let rest = index-is n ms in λ j. cond (list_any (◌==◌ n) (call_number_in m)) (same j) (rest j)

rows-alike : (sent others : List Message) (answered : Bool) (askers : List (ℕ × Asker)) → ((n : ℕ) → index_of n sent ≡ index_of n others) → map (out_row sent answered) askers ≡ map (out_row others answered) askers
rows-alike sent others answered [] same = refl
rows-alike sent others answered (x ∷ xs) same =
    let rest = rows-alike sent others answered xs same in λ j. (x.0, record { asker = x.1; answered = answered; index = same x.0 j }) ∷ rest j

row-alike : (sent others : List Message) (stage : rules.Stage) (question : rules.Asked) → ((n : ℕ) → index_of n sent ≡ index_of n others) → call_at sent stage question ≡ call_at others stage question
row-alike sent others rules.Waits question same = refl
row-alike sent others (rules.Out c s) question same = rows-alike sent others false (asks_by question) same
row-alike sent others (rules.Answered c) question same = rows-alike sent others true (asks_by question) same

calls-alike : (sent others : List Message) (rows : List rules.Request) → ((n : ℕ) → index_of n sent ≡ index_of n others) → calls_in sent rows ≡ calls_in others rows
calls-alike sent others [] same = refl
calls-alike sent others (r ∷ rs) same = let first = row-alike sent others r.stage r.asked same in let rest = calls-alike sent others rs same in λ j. first j ++ rest j

pub sent-alike : {conn : ℕ} {rows : List rules.Request} {sent others : List Message} {table : Requests} → AreAlike sent others → AreRequests conn rows sent table → AreRequests conn rows others table
sent-alike {conn} {rows} {sent} {others} {table} alike a =
    let numbers : flat_map call_number_in sent ≡ flat_map call_number_in others = all-numbers sent ∙ ap join alike.calls ∙ sym (all-numbers others) in
    let calls = calls-alike sent others rows (λ n. index-is n sent ∙ ap (index_in n) alike.calls ∙ sym (index-is n others)) in
    let count : length sent ≡ length others = length-is sent ∙ ap length alike.calls ∙ sym (length-is others) in
    let lc : last_call sent ≡ last_call others = ap newest numbers in
    let ls : last_sequence sent ≡ last_sequence others = ap newest alike.sequences in record {
      on = a.on;
      answered = a.answered;
      named = a.named;
      waiting = a.waiting;
      calls = subst (λ l. AreRows l table.calls) calls a.calls;
      groups = a.groups;
      were_sent = subst (λ (l : List (ℕ × OutCall)). AllOf (λ (row : ℕ × OutCall). was_sent row.0 others ≡ true) l) calls (subst (λ (l : List ℕ). AllOf (λ (row : ℕ × OutCall). list_any (◌==◌ row.0) l ≡ true) (calls_in sent rows)) numbers a.were_sent);
      frames = a.frames ∙ count;
      called = rw (← calls, ← lc) a.called;
      told_of = rw (← ls) a.told_of;
      call_fits = rw (← lc) a.call_fits;
      sequence_fits = rw (← ls) a.sequence_fits;
      few = rw (← count, ← calls, ← lc, ← ls) a.few;
    }
