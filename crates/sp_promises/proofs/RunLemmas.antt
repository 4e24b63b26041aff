-- Values that stand for the worlds that events have made.
use Rattle.std.proofs.Common.{◌≡◌, ◌<◌, ℕ, zero, suc, List, [], ◌∷◌, ◌++◌, refl, subst, take, arith}
use Rattle.std.specs.Prelude.{All}
use Rattle.sp_promises.specs.WorldRuns.{IsNew, IsRun, IsSameWorld}
use Rattle.sp_rules.specs.Classes.{Setting}
use Rattle.sp_rules.specs.State.{State}
use Rattle.sp_rules.specs.Worlds as rules
use Rattle.sp_rules.specs.Worlds.{new_world}
use Rattle.sp_world.specs.Forgotten.{without_outputs}
use Rattle.sp_world.specs.Waitings.{AreNew, IsWorld}
use Rattle.sp_world.specs.declared.world.World.{World}
use Rattle.sp_promises.proofs.LateLemmas.{nothing-forgotten, run-same, still-same}

pub begun : {S : Type 0} (is_space : Setting → State → S → Type 0) (ss : List S) (world : World S) → All (IsNew is_space) ss
    → ((settings : List Setting) → AreNew is_space settings ss → IsWorld is_space (new_world settings) world) → IsRun is_space ss [] world
unfolding rules.run
begun is_space ss world all stands = record {
  new = all;
  stands = λ settings new. record { kept = new_world settings; same = nothing-forgotten (new_world settings); stands = stands settings new };
}

-- after an event
pub grown : {S : Type 0} (is_space : Setting → State → S → Type 0) (ss : List S) (es : List rules.WorldEvent) (e : rules.WorldEvent) (old new : World S)
    → ((w : rules.World) (some others : List rules.WorldEvent) → rules.run (rules.run w some) others ≡ rules.run w (some ++ others))
    → ((w : rules.World) → IsWorld is_space w old → IsWorld is_space (rules.run w (e ∷ [])) new)
    → IsRun is_space ss es old → IsRun is_space ss (es ++ e ∷ []) new
grown is_space ss es e old new pieces makes r = record {
  new = r.new;
  stands = λ settings these.
      let k = r.stands settings these in
      record {
        kept = rules.run k.kept (e ∷ []);
        same = subst (λ (w : rules.World). IsSameWorld w (rules.run k.kept (e ∷ []))) (pieces (new_world settings) es (e ∷ [])) (run-same (e ∷ []) k.same);
        stands = makes k.kept k.stands;
      };
}

-- the same world in another value
pub still : {S : Type 0} (is_space : Setting → State → S → Type 0) (ss : List S) (es : List rules.WorldEvent) (old new : World S)
    → ((w : rules.World) → IsWorld is_space w old → IsWorld is_space w new) → IsRun is_space ss es old → IsRun is_space ss es new
still is_space ss es old new makes r = record {
  new = r.new;
  stands = λ settings these.
      let k = r.stands settings these in
      record { kept = k.kept; same = k.same; stands = makes k.kept k.stands };
}

-- after what a space answered was let go
pub forgotten : {S : Type 0} (is_space : Setting → State → S → Type 0) (ss : List S) (es : List rules.WorldEvent) (i : ℕ) (old new : World S)
    → ((w : rules.World) → IsWorld is_space w old → IsWorld is_space (without_outputs i w) new) → IsRun is_space ss es old → IsRun is_space ss es new
forgotten is_space ss es i old new makes r = record {
  new = r.new;
  stands = λ settings these.
      let k = r.stands settings these in
      record {
        kept = without_outputs i k.kept;
        same = still-same (rules.run (new_world settings) es) k.kept i k.same;
        stands = makes k.kept k.stands;
      };
}

-- of one event none has happened
pub not-made : {S : Type 0} (is_space : Setting → State → S → Type 0) (w : rules.World) (n : ℕ) (e : rules.WorldEvent) (new : World S) → n ≡ 0
    → IsWorld is_space (rules.run w (take n (e ∷ []))) new → IsWorld is_space w new
unfolding rules.run
not-made is_space w n e new none h = subst (λ (m : ℕ). IsWorld is_space (rules.run w (take m (e ∷ []))) new) none h

one-taken : (n : ℕ) (e : rules.WorldEvent) → 0 < n → take n (e ∷ []) ≡ e ∷ []
one-taken zero e lt = absurd (omega arith)
one-taken (suc zero) e lt = refl
one-taken (suc (suc n)) e lt = refl

-- or it has
pub one-made : {S : Type 0} (is_space : Setting → State → S → Type 0) (w : rules.World) (n : ℕ) (e : rules.WorldEvent) (new : World S) → 0 < n
    → IsWorld is_space (rules.run w (take n (e ∷ []))) new → IsWorld is_space (rules.run w (e ∷ [])) new
one-made is_space w n e new some h = subst (λ (es : List rules.WorldEvent). IsWorld is_space (rules.run w es) new) (one-taken n e some) h
