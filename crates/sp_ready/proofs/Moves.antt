-- Each move keeps the rule of the queue.
use Rattle.std.proofs.Common.{◌≡◌, ◌≢◌, ◌≤◌, ◌<◌, ◌+◌, ℕ, zero, suc, true, false, true≢false, List, [], ◌∷◌, ◌++◌, length, set, sym, refl, ap, ◌∙◌, subst, ⊎_elim, append_assoc, length-append, arith}
use Rattle.std.specs.List.{sum_by}
use Rattle.std.proofs.lemmas.List.Sums.{sum_by-cons, sum_by-append, sum_by_push}
use Rattle.std.proofs.lemmas.List.Elements.{All-append, All-push}
use mathlib.Core.Option.{some, some-injective, some-ne-none}
use lib.ListN.{get_elem?}
use Rattle.crossbeam_queue.specs.Fifo.{Pushes, Pops, Forks, Merges, Learns}
use Rattle.crossbeam_queue.proofs.Lists.{at_set, at_snoc}
use Rattle.sp_ready.specs.declared.rule.Known.{Known}
use Rattle.sp_ready.specs.Notices.{known, all_parts, writer_at_first, newcomer, spent, without_part, with_pushed, with_taken, joined, numbered, Below, Took, Fits, Queued, AllTaken}

abbrev AllOf : (ℕ → Known → Type 0) → List Known → Type 0
AllOf F views = (port : ℕ) (v : Known) → get_elem? views port ≡ some v → F port v

all_set : (F : ℕ → Known → Type 0) (views : List Known) (port : ℕ) (w : Known) → F port w → ((j : ℕ) (u : Known) → j ≢ port → get_elem? views j ≡ some u → F j u) → AllOf F (set views port w)
all_set F views port w mine others j u e = ⊎_elim (λ (x : (j ≡ port) × (w ≡ u)). subst (λ (y : ℕ × Known). F y.0 y.1) (λ i. (sym x.0 i, x.1 i)) mine)
    (λ (x : (j ≢ port) × (get_elem? views j ≡ some u)). others j u x.0 x.1) (at_set views port j w u e)

total_set : (f : Known → ℕ) (views : List Known) (port : ℕ) (v w : Known) → get_elem? views port ≡ some v → sum_by f (set views port w) + f v ≡ sum_by f views + f w
total_set f [] port v w e = absurd (some-ne-none v (sym e))
total_set f (x ∷ xs) zero v w e = let is : x ≡ v = some-injective x v e in omega (arith, sum_by-cons f x xs, sum_by-cons f w xs, ap f is)
total_set f (x ∷ xs) (suc port) v w e = let rest = total_set f xs port v w e in omega (arith, rest, sum_by-cons f x xs, sum_by-cons f x (set xs port w))

wider : (n m : ℕ) (taken : List (ℕ × ℕ)) → n ≤ m → Below n taken → Below m taken
wider n m taken le b k d lt = omega (arith, b k d lt, le)

nothing_below : (n : ℕ) → Below n []
nothing_below n k d lt = absurd (omega (arith, lt))

numbered_push : (n : ℕ) (xs : List ℕ) (x : ℕ) → numbered n (xs ++ x ∷ []) ≡ numbered n xs ++ (n + length xs, x) ∷ []
numbered_push n [] x = ap (λ (k : ℕ). (k, x) ∷ []) (omega arith)
numbered_push n (y ∷ ys) x = ap (λ (l : List (ℕ × ℕ)). (n, y) ∷ l) (numbered_push (suc n) ys x ∙ ap (λ (k : ℕ). numbered (suc n) ys ++ (k, x) ∷ []) (omega arith))

none_left : (f : Known → ℕ) (views : List Known) → ((j : ℕ) (u : Known) → get_elem? views j ≡ some u → u.parts ≡ 0 → f u ≡ 0) → sum_by (λ u. u.parts) views ≡ 0 → sum_by f views ≡ 0
none_left f [] idle e = refl
none_left f (x ∷ xs) idle e =
    let s = sum_by-cons (λ (u : Known). u.parts) x xs in
    let rest = none_left f xs (λ j u at. idle (suc j) u at) (omega (arith, s, e)) in
    omega (arith, sum_by-cons f x xs, rest, idle 0 x refl (omega (arith, s, e)))

whole : (f : Known → ℕ) (views : List Known) (port : ℕ) (v : Known) → get_elem? views port ≡ some v → ((j : ℕ) (u : Known) → get_elem? views j ≡ some u → u.parts ≡ 0 → f u ≡ 0)
    → sum_by (λ u. u.parts) views ≡ v.parts → sum_by f views ≡ f v
whole f [] port v at idle e = absurd (some-ne-none v (sym at))
whole f (x ∷ xs) zero v at idle e =
    let is = some-injective x v at in
    let s = sum_by-cons (λ (u : Known). u.parts) x xs in
    let rest = none_left f xs (λ j u at. idle (suc j) u at) (omega (arith, s, e, ap (λ (u : Known). u.parts) is)) in
    omega (arith, sum_by-cons f x xs, rest, ap f is)
whole f (x ∷ xs) (suc port) v at idle e =
    let s = sum_by-cons (λ (u : Known). u.parts) x xs in
    let many = total_set (λ (u : Known). u.parts) xs port v (known 0 false [] []) at in
    let rest = whole f xs port v at (λ j u at. idle (suc j) u at) (omega (arith, s, e, many)) in
    omega (arith, sum_by-cons f x xs, rest, idle 0 x refl (omega (arith, s, e, many)))

single : (x u : Known) (j : ℕ) → get_elem? (x ∷ []) j ≡ some u → j ≡ 0
single x u zero e = refl
single x u (suc j) e = absurd (some-ne-none u (sym e))

pub begins : Queued [] (writer_at_first ∷ [])
begins = (0, [], [], refl, all_set (Fits 0 [] 0) (writer_at_first ∷ []) 0 writer_at_first ((λ _. (refl, refl)), nothing_below 0, λ _. refl) (λ j u other e. absurd (other (single _ u j e))), refl, λ f. refl)

pub puts : (n port : ℕ) (v : Known) (x : ℕ) → v.pushes ≡ true → Pushes Queued n port v x (λ w. w ≡ with_pushed v x)
puts n port v x may items views room h at = let w : Known = with_pushed v x in let mine = h.4 port v at in let pushed = h.1 ++ x ∷ [] in (
  w,
  (
    h.0,
    pushed,
    h.2,
    ap (λ l. l ++ x ∷ []) h.3 ∙ append_assoc h.2 items (x ∷ []),
    all_set (Fits h.0 pushed (length h.2)) views port w ((λ _. ((mine.0 may).0, ap (λ l. l ++ x ∷ []) (mine.0 may).1)), mine.1, mine.2)
        (λ j u other e. let o = h.4 j u e in ((λ p. absurd (other ((o.0 p).0 ∙ sym (mine.0 may).0))), o.1, o.2)),
    (let s = total_set (λ u. u.parts) views port v w at in let p = h.5 in omega (arith, s, p)),
    (λ f. let s = total_set (λ u. sum_by f u.taken) views port v w at in let p = h.6 f in omega (arith, s, p)),
  ),
  refl,
)

pub takes : (port : ℕ) (v : Known) → 0 < v.parts → Pops Queued port v (Took v)
takes port v part x items views h at = let k = length h.2 in let w : Known = with_taken v k x in let mine = h.4 port v at in let gone = h.2 ++ x ∷ [] in
    let more : k < length gone = omega (arith, length-append h.2 (x ∷ [])) in
    let F = Fits h.0 h.1 (length gone) in (
      w,
      (
        h.0,
        h.1,
        gone,
        h.3 ∙ sym (append_assoc h.2 (x ∷ []) items),
        all_set F views port w (mine.0, All-push (λ (p : ℕ × ℕ). p.0 < length gone) v.taken (k, x) (wider k (length gone) v.taken (omega (arith, more)) mine.1) more, λ none. absurd (omega (arith, none, part)))
            (λ j u other e. let o = h.4 j u e in (o.0, wider k (length gone) u.taken (omega (arith, more)) o.1, o.2)),
        (let s = total_set (λ u. u.parts) views port v w at in let p = h.5 in omega (arith, s, p)),
        (λ f. let s = total_set (λ u. sum_by f u.taken) views port v w at in let p = h.6 f in
            let n = ap (sum_by f) (numbered_push 0 h.2 x) in
            let place : 0 + k ≡ k = omega arith in
            omega (arith, s, p, n, sum_by_push f v.taken (k, x), sum_by_push f (numbered 0 h.2) (0 + k, x), ap (λ (i : ℕ). f (i, x)) place)),
      ),
      (k, mine.1, refl),
    )

pub forks : (port : ℕ) (v : Known) → 1 < v.parts → Forks Queued port v (without_part v) newcomer
forks port v many items views h at = let l : Known = without_part v in let r : Known = newcomer in let mine = h.4 port v at in let vs : List Known = set views port l in
    let F = Fits h.0 h.1 (length h.2) in
    let old : AllOf F vs = all_set F views port l (mine.0, mine.1, λ none. absurd (omega (arith, none, many))) (λ j u other e. h.4 j u e) in (
      h.0,
      h.1,
      h.2,
      h.3,
      (λ j u e. ⊎_elim (λ x. old j u x) (λ (is : r ≡ u). subst (λ (y : Known). F j y) is ((λ p. absurd (true≢false (sym p))), nothing_below (length h.2), λ none. refl)) (at_snoc vs r u j e)),
      (let s = total_set (λ u. u.parts) views port v l at in let p = h.5 in omega (arith, s, p, many, sum_by_push (λ (u : Known). u.parts) vs r)),
      (λ f. let s = total_set (λ u. sum_by f u.taken) views port v l at in let p = h.6 f in omega (arith, s, p, sum_by_push (λ (u : Known). sum_by f u.taken) vs r)),
    )

pub merges : (port : ℕ) (v : Known) (other : ℕ) (u : Known) → u.pushes ≡ false → 0 < u.parts → Merges Queued port v other u (joined v u) spent
merges port v other u quiet part items views h at two at' = let both : Known = joined v u in let mine = h.4 port v at in
    let vs : List Known = set views port both in
    let was : get_elem? views other ≡ some u = ⊎_elim (λ x. absurd (two x.0)) (λ x. x.1) (at_set views port other both u at') in let theirs = h.4 other u was in
    let F = Fits h.0 h.1 (length h.2) in
    let now : AllOf F vs = all_set F views port both (mine.0, All-append (λ (p : ℕ × ℕ). p.0 < length h.2) v.taken u.taken mine.1 theirs.1, λ none. absurd (omega (arith, none, part))) (λ j y apart e. h.4 j y e) in (
      h.0,
      h.1,
      h.2,
      h.3,
      all_set F vs other spent ((λ p. absurd (true≢false (sym p))), nothing_below (length h.2), λ none. refl) (λ j y apart e. now j y e),
      (let s = total_set (λ y. y.parts) views port v both at in let t = total_set (λ y. y.parts) vs other u spent at' in let p = h.5 in omega (arith, s, t, p)),
      (λ f. let s = total_set (λ y. sum_by f y.taken) views port v both at in let t = total_set (λ y. sum_by f y.taken) vs other u spent at' in let p = h.6 f in
          omega (arith, s, t, p, sum_by-append f v.taken u.taken)),
    )

pub counts : (port : ℕ) (v : Known) → v.pushes ≡ true → v.parts ≡ all_parts → Learns Queued port v (AllTaken v)
counts port v may every items views h at = let mine = h.4 port v at in
    (h.2, (mine.0 may).1 ∙ h.3, λ f. sym (whole (λ y. sum_by f y.taken) views port v at (λ j u e none. ap (sum_by f) ((h.4 j u e).2 none)) (h.5 ∙ sym every)) ∙ h.6 f)
