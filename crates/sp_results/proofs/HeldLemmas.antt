use Rattle.std.proofs.Common.{◌≡◌, ℕ, suc, ◌+◌, false, List, [], ◌∷◌, ◌++◌, filter, Option, None, Some, is_some, nat_eq, refl, sym, ap, subst, ◌∙◌, true≢false, add-one, arith}
use Rattle.std.specs.Prelude.{not}
use Rattle.std.specs.List.{list_any}
use Rattle.std.specs.Map.{keys_of, values_of, lookup, remove_entry}
use Rattle.space_ids.specs.declared.value.Value.{Value}
use Rattle.rising_map.specs.Rows.{AreBelow, AreRows, Rises}
use Rattle.sp_rules.specs.Frames.{is_acked_by}
use Rattle.sp_rules.specs.State.{KeptResult, Acked}
use Rattle.sp_results.specs.Held.{AreCallResults, acked_row, numbers_on, valued}
use Rattle.sp_results.specs.Numbers.{AreTickets, with_number, without_number}
use Rattle.sp_results.specs.declared.call_results.CallResults.{CallResults}
use Rattle.sp_results.proofs.AckLemmas.{found-acked, none-acked, numbers-unacked, orphans-unacked}
use Rattle.sp_results.proofs.CallLemmas.{Results, acked-of-call, any-of, any-values, filter-of, filter-values, filters-turn, of-calls-more}
use Rattle.sp_results.proofs.NumberLemmas.{agree}
use Rattle.sp_results.proofs.TicketLemmas.{Row, Rows, acked, any-acked, below-last, below-left, below-more, keys-more, keys-valued, numbers-more, orphans-more, unacked, valued-more, values-more}

-- ---- whether a result waits for an Ack

pub any-acked-of : (moment conn number : ℕ) (results : Results) (table : CallResults) → (a : AreCallResults moment results table) → is_some (lookup (nat_eq number) (numbers_on a.rows conn)) ≡ list_any (is_acked_by conn number) results
any-acked-of moment conn number results table a =
    sym (any-acked conn number a.rows) ∙ sym (any-values (is_acked_by conn number) a.rows) ∙ ap (list_any (is_acked_by conn number)) a.are
    ∙ any-of (is_acked_by conn number) _ (acked-of-call conn number) results

none-from : {A : Type 0} (o : Option A) → is_some o ≡ false → o ≡ None
none-from None h = refl
none-from (Some x) h = absurd (true≢false h)

-- those that wait for an Ack, among rows and among all results
pub filter-acked-of : (moment conn number : ℕ) (results : Results) (table : CallResults) → (a : AreCallResults moment results table) → values_of (filter (acked conn number) a.rows) ≡ filter (is_acked_by conn number) results
filter-acked-of moment conn number results table a =
    sym (filter-values (is_acked_by conn number) a.rows) ∙ ap (filter (is_acked_by conn number)) a.are ∙ filter-of (is_acked_by conn number) _ (acked-of-call conn number) results

pub none-acked-of : (moment conn number : ℕ) (results : Results) (table : CallResults) → (a : AreCallResults moment results table) → lookup (nat_eq number) (numbers_on a.rows conn) ≡ None → filter (is_acked_by conn number) results ≡ []
none-acked-of moment conn number results table a none = sym (filter-acked-of moment conn number results table a) ∙ ap values_of (none-acked conn number a.rows none).0

pub rises-of : (rows : Rows) (table : CallResults) → AreRows (valued rows) table.values → Rises (keys_of rows)
rises-of rows table a = subst Rises (keys-valued rows) a.rises

-- the value of the result that waits for an Ack
pub value-of : (moment conn number ticket : ℕ) (results : Results) (table : CallResults) → (a : AreCallResults moment results table) → lookup (nat_eq number) (numbers_on a.rows conn) ≡ Some ticket
    → filter (is_acked_by conn number) results ≡ acked_row conn number (lookup (nat_eq ticket) (valued a.rows))
value-of moment conn number ticket results table a found =
    let one = found-acked conn number ticket a.rows found (rises-of a.rows table a.ticketed.values) (a.ticketed.waiting.once conn) in
    sym (filter-acked-of moment conn number results table a) ∙ ap values_of one.one ∙ sym (ap (acked_row conn number) one.found)

-- ---- a result is held

pub hold : (moment conn number : ℕ) (value : Option Value) (results : Results) (old new : CallResults) → new.orphans ≡ old.orphans → new.last ≡ old.last + 1
    → ((rows : Rows) → AreRows (valued rows) old.values → AreBelow (old.last + 1) (keys_of (valued rows)) → AreRows (valued rows ++ (old.last + 1, value) ∷ []) new.values)
    → ((rows : Rows) → AreTickets (numbers_on rows) old.unacknowledged → lookup (nat_eq number) (numbers_on rows conn) ≡ None → AreTickets (with_number conn number (old.last + 1) (numbers_on rows)) new.unacknowledged)
    → AreCallResults moment results old → list_any (is_acked_by conn number) results ≡ false → AreCallResults moment (results ++ record { until = Acked conn number; value = value } ∷ []) new
hold moment conn number value results old new same last values waiting a none =
    let t = old.last + 1 in
    let row : Row = (t, record { until = Acked conn number; value = value }) in
    let low : AreBelow t (keys_of a.rows) = subst (λ (n : ℕ). AreBelow n (keys_of a.rows)) (sym (add-one old.last)) a.ticketed.given in record {
      rows = a.rows ++ row ∷ [];
      are = values-more a.rows row ∙ ap (λ (l : Results). l ++ row.1 ∷ []) a.are ∙ sym (of-calls-more conn number value results);
      ticketed = record {
        values = rw (valued-more a.rows row) (values a.rows a.ticketed.values (rw (keys-valued a.rows) low));
        waiting = agree (with_number conn number t (numbers_on a.rows)) (numbers_on (a.rows ++ row ∷ [])) new.unacknowledged (λ q. numbers-more conn number t value a.rows q)
            (waiting a.rows a.ticketed.waiting (none-from (lookup (nat_eq number) (numbers_on a.rows conn)) (any-acked-of moment conn number results old a ∙ none)));
        ended = rw (orphans-more conn number t value a.rows, same) a.ticketed.ended;
        in_order = rw (same) a.ticketed.in_order;
        within = rw (same) a.ticketed.within;
        given = rw (keys-more a.rows row, last) (below-last (suc t) t (keys_of a.rows) (below-more t (suc t) (keys_of a.rows) (omega arith) low) (omega arith));
      };
    }

-- ---- a result goes with its Ack

pub release : (moment conn number ticket : ℕ) (results : Results) (old new : CallResults) → new.orphans ≡ old.orphans → new.last ≡ old.last
    → ((rows : Rows) → AreRows (valued rows) old.values → AreRows (remove_entry (nat_eq ticket) (valued rows)) new.values)
    → ((rows : Rows) → AreTickets (numbers_on rows) old.unacknowledged → AreTickets (without_number conn number (numbers_on rows)) new.unacknowledged)
    → (a : AreCallResults moment results old) → lookup (nat_eq number) (numbers_on a.rows conn) ≡ Some ticket → AreCallResults moment (filter (λ (r : KeptResult). not (is_acked_by conn number r)) results) new
release moment conn number ticket results old new same last values waiting a found =
    let one = found-acked conn number ticket a.rows found (rises-of a.rows old a.ticketed.values) (a.ticketed.waiting.once conn) in
    let rest : Rows = filter (unacked conn number) a.rows in record {
      rows = rest;
      are = sym (filter-values (λ (r : KeptResult). not (is_acked_by conn number r)) a.rows) ∙ ap (filter (λ (r : KeptResult). not (is_acked_by conn number r))) a.are
          ∙ filters-turn (λ (r : KeptResult). not (is_acked_by conn number r)) _ results;
      ticketed = record {
        values = subst (λ (l : List (ℕ × Option Value)). AreRows l new.values) one.others (values a.rows a.ticketed.values);
        waiting = agree (without_number conn number (numbers_on a.rows)) (numbers_on rest) new.unacknowledged (λ q. numbers-unacked conn number a.rows q) (waiting a.rows a.ticketed.waiting);
        ended = rw (orphans-unacked conn number a.rows, same) a.ticketed.ended;
        in_order = rw (same) a.ticketed.in_order;
        within = rw (same) a.ticketed.within;
        given = rw (last) (below-left (unacked conn number) (suc old.last) a.rows a.ticketed.given);
      };
    }

-- there is none
pub unreleased : (moment conn number : ℕ) (results : Results) (old new : CallResults) → new.values ≡ old.values → new.orphans ≡ old.orphans → new.last ≡ old.last
    → ((rows : Rows) → AreTickets (numbers_on rows) old.unacknowledged → AreTickets (without_number conn number (numbers_on rows)) new.unacknowledged)
    → (a : AreCallResults moment results old) → lookup (nat_eq number) (numbers_on a.rows conn) ≡ None → AreCallResults moment (filter (λ (r : KeptResult). not (is_acked_by conn number r)) results) new
unreleased moment conn number results old new values same last waiting a none =
    let rest : Rows = filter (unacked conn number) a.rows in
    let all : rest ≡ a.rows = (none-acked conn number a.rows none).1 in record {
      rows = rest;
      are = sym (filter-values (λ (r : KeptResult). not (is_acked_by conn number r)) a.rows) ∙ ap (filter (λ (r : KeptResult). not (is_acked_by conn number r))) a.are
          ∙ filters-turn (λ (r : KeptResult). not (is_acked_by conn number r)) _ results;
      ticketed = record {
        values = rw (values) (subst (λ (l : Rows). AreRows (valued l) old.values) (sym all) a.ticketed.values);
        waiting = agree (without_number conn number (numbers_on a.rows)) (numbers_on rest) new.unacknowledged (λ q. numbers-unacked conn number a.rows q) (waiting a.rows a.ticketed.waiting);
        ended = rw (orphans-unacked conn number a.rows, same) a.ticketed.ended;
        in_order = rw (same) a.ticketed.in_order;
        within = rw (same) a.ticketed.within;
        given = rw (last) (below-left (unacked conn number) (suc old.last) a.rows a.ticketed.given);
      };
    }
