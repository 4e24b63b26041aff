-- What the queue of ready tasks holds, and what each seat knows. (This project's own.)
use Rattle.std.specs.Prelude.{◌≡◌, ℕ, ◌+◌, ◌-◌, ◌<◌, ◌^◌, suc, Bool, true, false, List, [], ◌∷◌, ◌++◌, length, All}
use Rattle.std.specs.List.{sum_by}
use mathlib.Core.Option.{some}
use lib.ListN.{get_elem?}
use Rattle.sp_ready.specs.declared.rule.Known.{Known}

abbrev pub known : ℕ → Bool → List ℕ → List (ℕ × ℕ) → Known
known parts pushes pushed taken = record { parts = parts; pushes = pushes; pushed = pushed; taken = taken }

-- how many parts there are: a seat for each number below it
abbrev pub all_parts : ℕ
all_parts = 2 ^ 32

-- the seat that puts notices in, before any
abbrev pub writer_at_first : Known
writer_at_first = known all_parts true [] []

-- a seat that takes notices, before any
abbrev pub newcomer : Known
newcomer = known 1 false [] []

-- a seat that was given back
abbrev pub spent : Known
spent = known 0 false [] []

abbrev pub without_part : Known → Known
without_part v = known (v.parts - 1) v.pushes v.pushed v.taken

abbrev pub with_pushed : Known → ℕ → Known
with_pushed v notice = known v.parts v.pushes (v.pushed ++ notice ∷ []) v.taken

abbrev pub with_taken : Known → ℕ → ℕ → Known
with_taken v place notice = known v.parts v.pushes v.pushed (v.taken ++ (place, notice) ∷ [])

-- a seat with what another knows, which took notices
abbrev pub joined : Known → Known → Known
joined v w = known (v.parts + w.parts) v.pushes v.pushed (v.taken ++ w.taken)

-- each notice with its place, from n on
abbrev pub numbered : ℕ → List ℕ → List (ℕ × ℕ)
numbered n [] = []
numbered n (x ∷ xs) = (n, x) ∷ numbered (suc n) xs

-- each place is below n
abbrev pub Below : ℕ → List (ℕ × ℕ) → Type 0
Below n taken = All (λ p. p.0 < n) taken

-- a seat took the notice, at a place behind those of all that it took before
abbrev pub Took : Known → ℕ → Known → Type 0
Took v notice w = (place : ℕ) × Below place v.taken × (w ≡ with_taken v place notice)

-- one seat puts in, and knows what was put in; no seat took at a place from n on; a seat with no part took nothing
abbrev pub Fits : ℕ → List ℕ → ℕ → ℕ → Known → Type 0
Fits writer pushed n port v = (v.pushes ≡ true → (port ≡ writer) × (v.pushed ≡ pushed)) × Below n v.taken × (v.parts ≡ 0 → v.taken ≡ [])

-- The queue holds what was put in without its first ones. Those, with their places, are what the seats took, however they are weighed: so
-- each once, and at no other place.
abbrev pub Queued : List ℕ → List Known → Type 0
Queued items views =
    (writer : ℕ) × (pushed : List ℕ) × (gone : List ℕ)
    × (pushed ≡ gone ++ items)
    × ((port : ℕ) (v : Known) → get_elem? views port ≡ some v → Fits writer pushed (length gone) port v)
    × (sum_by (λ v. v.parts) views ≡ all_parts)
    × ((h : ℕ × ℕ → ℕ) → sum_by (λ v. sum_by h v.taken) views ≡ sum_by h (numbered 0 gone))

-- what was put in is what was taken, each at its place and once, and then what the queue holds
abbrev pub AllTaken : Known → List ℕ → Type 0
AllTaken v items = (gone : List ℕ) × (v.pushed ≡ gone ++ items) × ((h : ℕ × ℕ → ℕ) → sum_by h v.taken ≡ sum_by h (numbered 0 gone))
