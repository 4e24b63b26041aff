use Rattle.std.proofs.Common.{◌≡◌, ◌++◌, ◌∷◌, [], drop, take, vec_len, vec_capacity, append_assoc, sym, ap, subst, ◌∙◌, arith}
use Rattle.std.specs.Map.{values_of}
use Rattle.rising_map.specs.Rows.{AreRows}
use Rattle.rising_map.proofs.RowLemmas.{next-of}
use Rattle.rising_map.proofs.map.RisingMap.take_all_reserved.Goals as goal
use Rattle.rising_map.proofs.map.RisingMap.take_all_reserved.Goals.{in-Some, in-None}

pub loop-number-preserved : goal.loop-number-preserved
loop-number-preserved g c = elim c.match-take.branch [
  | in-Some w ↦ record {
    len = let more = ap vec_len w.taken-is in omega (arith, c.loop-number.invariant.len, w.push_reserved.ensures.len, more);
    capacity = ap vec_capacity w.taken-is ∙ w.push_reserved.ensures.capacity ∙ c.loop-number.invariant.capacity;
    rows = λ rows a keys.
        let i = c.loop-number.number-index in
        let next = next-of c.args.numbers.now rows i keys c.loop-number-test.true in
        let its : w.in-Some.row ≡ next.row = (let found = c.take.ensures.row (drop i rows) (c.loop-number.invariant.left rows a keys) ∙ next.found in cc) in
        ap (λ v. v.items) w.taken-is ∙ w.push_reserved.ensures.items ∙ ap (λ l. l ++ w.in-Some.row ∷ []) (c.loop-number.invariant.rows rows a keys)
        ∙ append_assoc c.args.taken.now.items (take i (values_of rows)) (w.in-Some.row ∷ []) ∙ ap (λ x. c.args.taken.now.items ++ (take i (values_of rows) ++ x ∷ [])) its ∙ sym (ap (λ l. c.args.taken.now.items ++ l) next.more);
    left = λ rows a keys.
        let i = c.loop-number.number-index in
        let next = next-of c.args.numbers.now rows i keys c.loop-number-test.true in
        subst (λ l. AreRows l c.take.new.self) next.removed (c.take.ensures.taken (drop i rows) (c.loop-number.invariant.left rows a keys));
  }
  | in-None w ↦ record {
    len = let more = ap vec_len w.taken-is in omega (arith, c.loop-number.invariant.len, more);
    capacity = ap vec_capacity w.taken-is ∙ c.loop-number.invariant.capacity;
    rows = λ rows a keys.
        let i = c.loop-number.number-index in
        let next = next-of c.args.numbers.now rows i keys c.loop-number-test.true in
        let found = c.take.ensures.row (drop i rows) (c.loop-number.invariant.left rows a keys) ∙ next.found in cc;
    left = λ rows a keys.
        let i = c.loop-number.number-index in
        let next = next-of c.args.numbers.now rows i keys c.loop-number-test.true in
        subst (λ l. AreRows l c.take.new.self) next.removed (c.take.ensures.taken (drop i rows) (c.loop-number.invariant.left rows a keys));
  }
]
