-- Frames go, fail or are dropped one after the other: so all of them may be taken out first.
use Rattle.std.proofs.Common.{◌≡◌, Bool, true, false, cond, List, [], ◌∷◌, ◌++◌, Some, refl, sym, ap, subst, ◌∙◌, append_assoc}
use Rattle.std.specs.Prelude.{filter, find, not, ◌&&◌}
use Rattle.std.proofs.lemmas.Bool.{eq-eqb}
use Rattle.sp_rules.specs.Classes.{Setting}
use Rattle.sp_rules.specs.Endings.{unpark}
use Rattle.sp_rules.specs.Holders.{drop_ids}
use Rattle.sp_rules.specs.Lists.{each, with_some}
use Rattle.sp_rules.specs.ParkedFrames.{fail_frame, fail_parked, go, go_frame, is_parked_at, let_go_parked, take_parked}
use Rattle.sp_rules.specs.State.{State, ParkedFrame}
use Rattle.sp_endings.specs.Passing.{give_up, let_references_go, pass_on}
use Rattle.sp_living.specs.Frames.{AreOnce, with_parked}
use Rattle.sp_living.proofs.OnceLemmas.{Apart, at-other}
use Rattle.sp_endings.proofs.ApartLemmas.{give-apart, let-apart, pass-apart}

-- ---- one of the frames that are parked once

at-self : (p : ParkedFrame) → is_parked_at p.conn p.number p ≡ true
at-self p = λ j. eq-eqb p.conn p.conn refl j && eq-eqb p.number p.number refl j

-- those before one that is parked once, and those after it
pub apart-before : (x : ParkedFrame) (kept rest : List ParkedFrame) → AreOnce (kept ++ x ∷ rest) → Apart x kept
apart-before x [] rest once = tt
apart-before x (k ∷ ks) rest once = (at-other x k ∙ met ks once.0, apart-before x ks rest once.1)
  where
    met : (qs : List ParkedFrame) → Apart k (qs ++ x ∷ rest) → is_parked_at k.conn k.number x ≡ false
    met [] all = all.0
    met (q ∷ qs) all = met qs all.1

pub apart-after : (x : ParkedFrame) (kept rest : List ParkedFrame) → AreOnce (kept ++ x ∷ rest) → Apart x rest
apart-after x [] rest once = once.0
apart-after x (k ∷ ks) rest once = apart-after x ks rest once.1

none-at : (x : ParkedFrame) (ps : List ParkedFrame) → Apart x ps → filter (is_parked_at x.conn x.number) ps ≡ []
none-at x [] all = refl
none-at x (p ∷ ps) all = ap (λ b. cond b (p ∷ filter (is_parked_at x.conn x.number) ps) (filter (is_parked_at x.conn x.number) ps)) all.0 ∙ none-at x ps all.1

others-at : (x : ParkedFrame) (ps : List ParkedFrame) → Apart x ps → filter (λ (q : ParkedFrame). not (is_parked_at x.conn x.number q)) ps ≡ ps
others-at x [] all = refl
others-at x (p ∷ ps) all =
    ap (λ b. cond (not b) (p ∷ filter (λ (q : ParkedFrame). not (is_parked_at x.conn x.number q)) ps) (filter (λ (q : ParkedFrame). not (is_parked_at x.conn x.number q)) ps)) all.0
    ∙ ap (λ qs. p ∷ qs) (others-at x ps all.1)

-- what is under the connection and number of one that is parked once
pub filter-at : (x : ParkedFrame) (kept rest : List ParkedFrame) → AreOnce (kept ++ x ∷ rest) → filter (is_parked_at x.conn x.number) (kept ++ x ∷ rest) ≡ x ∷ []
filter-at x [] rest once =
    ap (λ b. cond b (x ∷ filter (is_parked_at x.conn x.number) rest) (filter (is_parked_at x.conn x.number) rest)) (at-self x)
    ∙ ap (λ qs. x ∷ qs) (none-at x rest once.0)
filter-at x (k ∷ ks) rest once =
    let before : Apart x (k ∷ ks) = apart-before x (k ∷ ks) rest once in
    ap (λ b. cond b (k ∷ filter (is_parked_at x.conn x.number) (ks ++ x ∷ rest)) (filter (is_parked_at x.conn x.number) (ks ++ x ∷ rest))) before.0
    ∙ filter-at x ks rest once.1

pub filter-others : (x : ParkedFrame) (kept rest : List ParkedFrame) → AreOnce (kept ++ x ∷ rest) → filter (λ (q : ParkedFrame). not (is_parked_at x.conn x.number q)) (kept ++ x ∷ rest) ≡ kept ++ rest
filter-others x [] rest once =
    ap (λ b. cond (not b) (x ∷ filter (λ (q : ParkedFrame). not (is_parked_at x.conn x.number q)) rest) (filter (λ (q : ParkedFrame). not (is_parked_at x.conn x.number q)) rest)) (at-self x)
    ∙ others-at x rest once.0
filter-others x (k ∷ ks) rest once =
    let before : Apart x (k ∷ ks) = apart-before x (k ∷ ks) rest once in
    ap (λ b. cond (not b) (k ∷ filter (λ (q : ParkedFrame). not (is_parked_at x.conn x.number q)) (ks ++ x ∷ rest)) (filter (λ (q : ParkedFrame). not (is_parked_at x.conn x.number q)) (ks ++ x ∷ rest))) before.0
    ∙ ap (λ qs. k ∷ qs) (filter-others x ks rest once.1)

pub find-at : (x : ParkedFrame) (kept rest : List ParkedFrame) → AreOnce (kept ++ x ∷ rest) → find (is_parked_at x.conn x.number) (kept ++ x ∷ rest) ≡ Some x
find-at x [] rest once = ap (λ b. cond b (Some x) (find (is_parked_at x.conn x.number) rest)) (at-self x)
find-at x (k ∷ ks) rest once =
    let before : Apart x (k ∷ ks) = apart-before x (k ∷ ks) rest once in
    ap (λ b. cond b (Some k) (find (is_parked_at x.conn x.number) (ks ++ x ∷ rest))) before.0
    ∙ find-at x ks rest once.1

-- the others are parked once too
pub once-without : (x : ParkedFrame) (kept rest : List ParkedFrame) → AreOnce (kept ++ x ∷ rest) → AreOnce (kept ++ rest)
once-without x [] rest once = once.1
once-without x (k ∷ ks) rest once = (less ks once.0, once-without x ks rest once.1)
  where
    less : (qs : List ParkedFrame) → Apart k (qs ++ x ∷ rest) → Apart k (qs ++ rest)
    less [] all = all.1
    less (q ∷ qs) all = (all.0, less qs all.1)

-- ---- one frame

let-go : (x : ParkedFrame) (parked : List ParkedFrame) (s : State) → filter (is_parked_at x.conn x.number) parked ≡ x ∷ [] → let_go_parked x parked s ≡ drop_ids x.references s
unfolding each
let-go x parked s one = ap (λ qs. each (λ t (q : ParkedFrame). drop_ids q.references t) qs s) one

left : (x : ParkedFrame) (kept rest : List ParkedFrame) (s : State) → s.parked ≡ kept ++ x ∷ rest → AreOnce (kept ++ x ∷ rest) → take_parked x s ≡ with_parked (kept ++ rest) s
left x kept rest s are once = ap (λ ps. with_parked ps s) (ap (filter (λ (q : ParkedFrame). not (is_parked_at x.conn x.number q))) are ∙ filter-others x kept rest once)

-- what happens to a frame as it stands among others, and as it has been taken out
pub record Takes (step one : State → ParkedFrame → State) : Type 0 where
  pub taken : (x : ParkedFrame) (kept rest : List ParkedFrame) (s : State) → s.parked ≡ kept ++ x ∷ rest → AreOnce (kept ++ x ∷ rest) → step s x ≡ one (with_parked (kept ++ rest) s) x
  pub apart : (x : ParkedFrame) (ps : List ParkedFrame) (s : State) → one (with_parked ps s) x ≡ with_parked ps (one s x)

pub takes-go : (g : Setting) → Takes (go g) (pass_on g)
unfolding go
takes-go g = record {
  taken = λ x kept rest s are once.
      let one : filter (is_parked_at x.conn x.number) s.parked ≡ x ∷ [] = ap (filter (is_parked_at x.conn x.number)) are ∙ filter-at x kept rest once in
      ap (λ o. with_some o s (λ q. let_go_parked x s.parked (go_frame g q q.frame (take_parked x s)))) (ap (find (is_parked_at x.conn x.number)) are ∙ find-at x kept rest once)
      ∙ let-go x s.parked (go_frame g x x.frame (take_parked x s)) one
      ∙ ap (λ t. drop_ids x.references (go_frame g x x.frame t)) (left x kept rest s are once);
  apart = λ x ps s. pass-apart g x ps s;
}

pub takes-fail : (g : Setting) → Takes (fail_parked g) (give_up g)
unfolding fail_parked
takes-fail g = record {
  taken = λ x kept rest s are once.
      let one : filter (is_parked_at x.conn x.number) s.parked ≡ x ∷ [] = ap (filter (is_parked_at x.conn x.number)) are ∙ filter-at x kept rest once in
      ap (fail_frame g x x.frame) (let-go x s.parked (take_parked x s) one)
      ∙ ap (λ t. fail_frame g x x.frame (drop_ids x.references t)) (left x kept rest s are once);
  apart = λ x ps s. give-apart g x ps s;
}

pub takes-unpark : Takes unpark let_references_go
takes-unpark = record {
  taken = λ x kept rest s are once.
      let one : filter (is_parked_at x.conn x.number) s.parked ≡ x ∷ [] = ap (filter (is_parked_at x.conn x.number)) are ∙ filter-at x kept rest once in
      let-go x s.parked (take_parked x s) one
      ∙ ap (drop_ids x.references) (left x kept rest s are once);
  apart = λ x ps s. let-apart x ps s;
}

-- ---- all of those of which this is true

-- Those of which it is true may be taken out first, if all are parked once.
pub each-taken : (step one : State → ParkedFrame → State) → Takes step one → (is : ParkedFrame → Bool) (kept rest : List ParkedFrame) (s : State) → s.parked ≡ kept ++ rest → AreOnce (kept ++ rest)
    → each step (filter is rest) s ≡ each one (filter is rest) (with_parked (kept ++ filter (λ p. not (is p)) rest) s)
unfolding each
each-taken step one takes is kept [] s are once = ap (λ ps. with_parked ps s) are
each-taken step one takes is kept (x ∷ rest) s are once =
    elim (is x) as (λ b. each step (cond b (x ∷ filter is rest) (filter is rest)) s
    ≡ each one (cond b (x ∷ filter is rest) (filter is rest)) (with_parked (kept ++ cond (not b) (x ∷ filter (λ p. not (is p)) rest) (filter (λ p. not (is p)) rest)) s)) [
      | true ↦
          let now = one (with_parked (kept ++ rest) s) x in
          let here : now.parked ≡ kept ++ rest = ap (λ (t : State). t.parked) (takes.apart x (kept ++ rest) s) in
          ap (each step (filter is rest)) (takes.taken x kept rest s are once)
          ∙ each-taken step one takes is kept rest now here (once-without x kept rest once)
          ∙ ap (each one (filter is rest)) (ap (with_parked (kept ++ filter (λ p. not (is p)) rest)) (takes.apart x (kept ++ rest) s) ∙ sym (takes.apart x (kept ++ filter (λ p. not (is p)) rest) s))
      | false ↦
          let same : (qs : List ParkedFrame) → (kept ++ x ∷ []) ++ qs ≡ kept ++ x ∷ qs = λ qs. append_assoc kept (x ∷ []) qs in
          each-taken step one takes is (kept ++ x ∷ []) rest s (are ∙ sym (same rest)) (subst AreOnce (sym (same rest)) once)
          ∙ ap (λ ps. each one (filter is rest) (with_parked ps s)) (same (filter (λ p. not (is p)) rest))
    ]

pub all-taken : (step one : State → ParkedFrame → State) → Takes step one → (is : ParkedFrame → Bool) (s : State) → AreOnce s.parked
    → each step (filter is s.parked) s ≡ each one (filter is s.parked) (with_parked (filter (λ p. not (is p)) s.parked) s)
all-taken step one takes is s once = each-taken step one takes is [] s.parked s refl once
