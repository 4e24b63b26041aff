-- For how many more notes there is room: `n` notes stand in a list of capacity `c`, and what is told of them in one of capacity `t`.
use Rattle.std.proofs.Common.{◌≡◌, ℕ, ◌+◌, ◌-◌, ◌<◌, ◌≤◌, arith}
use Rattle.std.specs.Prelude.{min}

pub grows : (n m c d t u : ℕ) → m ≡ n → c ≤ d → t ≤ u → min (c - n) (t - n) ≤ min (d - m) (u - m)
grows n m c d t u same notes told = omega arith

pub reserves : (n c t k none more : ℕ) → n + k ≤ c → none ≡ 0 → more ≡ c → none + more ≤ t → k ≤ min (c - n) (t - n)
reserves n c t k none more notes zero all told = omega arith

pub fits : (n c t : ℕ) → 0 < min (c - n) (t - n) → n < c
fits n c t room = omega arith

pub tells : (n m c t : ℕ) → m ≡ n + 1 → 0 < min (c - n) (t - n) → m ≤ t
tells n m c t more room = omega arith

pub one-less : (n m c d t : ℕ) → m ≡ n + 1 → d ≡ c → 0 < min (c - n) (t - n) → min (c - n) (t - n) ≡ min (d - m) (t - m) + 1
one-less n m c d t more same room = omega arith

pub within : (a b c d : ℕ) → a ≡ b → c ≡ d → b ≤ d → a ≤ c
within a b c d left right le = omega arith
