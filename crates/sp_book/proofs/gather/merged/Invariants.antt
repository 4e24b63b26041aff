use Rattle.std.specs.Prelude.{◌≡◌, ◌≤◌, ◌+◌, ℕ, length, vec_len}
use Rattle.std.specs.List.{sum_by}
use Rattle.crossbeam_queue.specs.Passes.{IsPassOf, view}
use Rattle.sp_book.proofs.gather.merged.Given as goal

-- what was put together and what is still in the passes is all that there was
abbrev pub invariant-loop-pass : goal.invariant-loop-pass
invariant-loop-pass g l = record {
  parts : l.rest.parts + vec_len l.passes ≡ l.fn.rest.parts + vec_len l.fn.passes;
  apart : l.rest.parts ≤ g.N.Ledger.parts;
  amount : l.rest.amount + sum_by (λ p. length p.calls) l.passes.items ≡ l.fn.rest.amount + sum_by (λ p. length p.calls) l.fn.passes.items;
  queue : IsPassOf l.queue l.writer;
  seats : (view l.writer).parts + vec_len l.passes ≡ (view l.fn.writer).parts + vec_len l.fn.passes;
  pushes : (view l.writer).pushes ≡ (view l.fn.writer).pushes;
  taken : (h : ℕ × ℕ → ℕ) → sum_by h (view l.writer).taken + sum_by (λ p. sum_by h p.known.taken) l.passes.items ≡ sum_by h (view l.fn.writer).taken + sum_by (λ p. sum_by h p.known.taken) l.fn.passes.items;
}

abbrev pub decreases-loop-pass : goal.decreases-loop-pass
decreases-loop-pass g l = vec_len l.passes
