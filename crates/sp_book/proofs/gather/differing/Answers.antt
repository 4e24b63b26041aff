use Rattle.std.proofs.Common.{arith, ◌≡◌, ◌<◌, ◌≤◌, ◌+◌, ℕ, List, Option, Some, None, get_or, length, map, take, sym, subst}
use Rattle.std.specs.Prelude.{All, IfNone, IsSome}
use Rattle.std.proofs.lemmas.Bool.{false≢true}
use Rattle.std.proofs.lemmas.List.{take_all}
use Rattle.std.proofs.lemmas.List.Elements.{All-more}
use Rattle.sp_book.specs.Passes.{Seen, calls_since, standing}
use Rattle.sp_history.specs.Entries.{numbered_entry}
use Rattle.sp_book.proofs.gather.differing.Goals as goal
use Rattle.sp_book.proofs.gather.differing.Goals.{then-not-stands, else-not-stands}

differs : (A : Type 0) (o : Option ℕ) → IsSome o → IfNone o A
differs A (Some n) is = tt
differs A None is = absurd (false≢true is)

one_more : (P : Seen → Type 0) (xs : List Seen) (i : ℕ) (p : Seen) (o : Option ℕ) → i < length xs → p ≡ get_or xs i p → P p → IfNone o (All P (take i xs)) → IfNone o (All P (take (i + 1) xs))
one_more P xs i p (Some n) below is holds so_far = tt
one_more P xs i p None below is holds so_far = All-more P xs i p below so_far (subst P is holds)

all_of : (P : Seen → Type 0) (xs : List Seen) (i : ℕ) (o : Option ℕ) → length xs ≤ i → IfNone o (All P (take i xs)) → IfNone o (All P xs)
all_of P xs i (Some n) past so_far = tt
all_of P xs i None past so_far = subst (All P) (take_all i xs past) so_far

pub loop-index-preserved : goal.loop-index-preserved
loop-index-preserved g c =
    let stands : Seen → Type 0 = λ p. standing p.number (map numbered_entry c.args.entries.now) ≡ calls_since c.args.cut p in
    let xs = c.args.passes.now.items in
    let i = c.loop-index.index in
    let below : i < length xs = omega (arith, c.loop-index-test.true, c.len-index-end.ensures, c.args.passes.now.ok.0) in
    elim c.if-not-stands.branch [
      | then-not-stands w ↦ subst (λ (o : Option ℕ). IfNone o (All stands (take (i + 1) xs))) (sym w.lowest-is) (differs (All stands (take (i + 1) xs)) w.lower-lowest.result w.lower-lowest.ensures)
      | else-not-stands w ↦
          subst (λ (o : Option ℕ). IfNone o (All stands (take (i + 1) xs))) (sym w.lowest-is)
          (one_more stands xs i c.index-pass.result.now c.loop-index.lowest below c.index-pass.ensures (c.stands.ensures w.if-not-stands.false) c.loop-index.invariant)
    ]

pub returns : goal.returns
returns g c =
    let stands : Seen → Type 0 = λ p. standing p.number (map numbered_entry c.args.entries.now) ≡ calls_since c.args.cut p in
    let xs = c.args.passes.now.items in
    all_of stands xs c.loop-index.index c.loop-index.lowest (omega (arith, c.loop-index-test.false, c.len-index-end.ensures, c.args.passes.now.ok.0)) c.loop-index.invariant
