-- Frames of which one is parked under each connection and number.
use Rattle.std.proofs.Common.{◌≡◌, Bool, true, false, cond, List, [], ◌∷◌, ◌++◌, refl, ◌∙◌, true≢false}
use Rattle.std.specs.Prelude.{filter, ◌==◌, ◌&&◌, ◌||◌}
use Rattle.std.specs.List.{list_any}
use Rattle.std.proofs.lemmas.Cmp.{nat_eq_equiv}
use Rattle.sp_rules.specs.Laws.{AllOf}
use Rattle.sp_rules.specs.ParkedFrames.{is_parked_at}
use Rattle.sp_rules.specs.State.{ParkedFrame}
use Rattle.sp_living.specs.Frames.{AreOnce}

both : (a b c d : Bool) → a ≡ c → b ≡ d → (a && b) ≡ (c && d)
both a b c d e f = λ j. e j && f j

pub at-other : (p q : ParkedFrame) → is_parked_at p.conn p.number q ≡ is_parked_at q.conn q.number p
at-other p q = both (q.conn == p.conn) (q.number == p.number) (p.conn == q.conn) (p.number == q.number) (nat_eq_equiv.symm q.conn p.conn) (nat_eq_equiv.symm q.number p.number)

-- none of these is under the connection and number of this one
abbrev pub Apart : ParkedFrame → List ParkedFrame → Type 0
Apart p ps = AllOf (λ (q : ParkedFrame). is_parked_at p.conn p.number q ≡ false) ps

pub once-filter : (is : ParkedFrame → Bool) (ps : List ParkedFrame) → AreOnce ps → AreOnce (filter is ps)
once-filter is [] once = tt
once-filter is (p ∷ ps) once =
    let rest = once-filter is ps once.1 in
    elim (is p) as (λ b. AreOnce (cond b (p ∷ filter is ps) (filter is ps))) [ true ↦ (fewer ps once.0, rest) | false ↦ rest ]
  where
    fewer : (qs : List ParkedFrame) → Apart p qs → Apart p (filter is qs)
    fewer [] all = tt
    fewer (q ∷ qs) all =
        let more = fewer qs all.1 in
        elim (is q) as (λ b. Apart p (cond b (q ∷ filter is qs) (filter is qs))) [ true ↦ (all.0, more) | false ↦ more ]

first-false : (a b : Bool) → (a || b) ≡ false → a ≡ false
first-false true b h = h
first-false false b h = refl

second-false : (a b : Bool) → (a || b) ≡ false → b ≡ false
second-false true b h = absurd (true≢false h)
second-false false b h = h

-- one more under another connection or number
pub once-more : (ps : List ParkedFrame) (x : ParkedFrame) → AreOnce ps → list_any (is_parked_at x.conn x.number) ps ≡ false → AreOnce (ps ++ x ∷ [])
once-more [] x once none = (tt, tt)
once-more (p ∷ ps) x once none = (
  more ps once.0,
  once-more ps x once.1 (second-false (is_parked_at x.conn x.number p) (list_any (is_parked_at x.conn x.number) ps) none),
)
  where
    more : (qs : List ParkedFrame) → Apart p qs → Apart p (qs ++ x ∷ [])
    more [] all = (at-other p x ∙ first-false (is_parked_at x.conn x.number p) (list_any (is_parked_at x.conn x.number) ps) none, tt)
    more (q ∷ qs) all = (all.0, more qs all.1)
