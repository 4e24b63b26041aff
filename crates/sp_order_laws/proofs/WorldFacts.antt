-- What is known of each space of a world: its history, what it answered, and that no number of a connection comes again.
use mathlib.Core.Path.{sym, ap, subst, ◌∙◌}
use Rattle.std.proofs.Common.{arith, inl, inr}
use Rattle.std.specs.List.{flat_map}
use Rattle.std.specs.Prelude.{◌≡◌, ◌≤◌, refl, ℕ, zero, suc, ◌+◌, List, [], ◌∷◌, ◌++◌, Some, slice_get}
use Rattle.net_message.specs.declared.message.Message.{Message}
use Rattle.sp_rules.specs.Classes.{Setting}
use Rattle.sp_rules.specs.Events.{Event, Output}
use Rattle.sp_rules.specs.Laws.{AllOf, HasHistory, RisesWithin}
use Rattle.sp_rules.specs.Lists.{total}
use Rattle.sp_rules.specs.Origins.{IsTaken, HasTaken}
use Rattle.sp_rules.specs.Space
use Rattle.sp_rules.specs.State.{State}
use Rattle.sp_rules.specs.Worlds.{Space, WorldEvent, grown, new_space, run, new_world}
use Rattle.sp_rules.proofs.AllLemmas.{some-none, all-with}
use Rattle.sp_rules.proofs.OwnLemmas.{histories_are_taken, some-same}
use Rattle.sp_rules.proofs.WorldLemmas.{all_hold}
use Rattle.sp_laws.specs.Inbound.{OpensOnce}
use Rattle.sp_laws.specs.Others.{IsOpenedOnce}
use Rattle.sp_laws.proofs.OnceRules.{connections_are_opened_once}
use Rattle.sp_order_laws.specs.Delivered.{outputs_in, outputs_at, AreSomeOf}
use Rattle.sp_order_laws.proofs.NoteLemmas.{rises-after, rises-rest}

-- ---- spaces

-- The state and the outputs of a space are those of its history.
record Replays (s : Space) : Type 0 where
  state : HasHistory s
  outputs : s.outputs ≡ Space.all_outputs s.setting s.history

replays-on : (e : Event) (s : Space) → Replays s → Replays (grown e s)
unfolding Space.state_of Space.outputs_of
replays-on e s k = record {
  state = ap (λ t. (Space.on s.setting e t).0) k.state;
  outputs = ap (λ (os : List Output). os ++ (Space.on s.setting e s.state).1) k.outputs ∙ ap (λ (t : State). Space.all_outputs s.setting s.history ++ (Space.on s.setting e t).1) k.state;
}

replays-new : (g : Setting) → Replays (new_space g)
unfolding Space.state_of
replays-new g = record { state = refl; outputs = refl }

pub record Known (s : Space) : Type 0 where
  pub state : HasHistory s
  pub outputs : s.outputs ≡ Space.all_outputs s.setting s.history
  pub taken : IsTaken s.setting s.history
  pub once : OpensOnce s.history

pub all_known : (settings : List Setting) (events : List WorldEvent) → AllOf Known (run (new_world settings) events).spaces
all_known settings events = all-with (λ (s : Space). Replays s × HasTaken s) IsOpenedOnce Known _ (λ s a b. record { state = a.0.state; outputs = a.0.outputs; taken = a.1; once = b.0 })
    (all-with Replays HasTaken (λ (s : Space). Replays s × HasTaken s) _ (λ s a b. (a, b)) (all_hold {P = Replays} (record { grows = λ e s lent t k. replays-on e s k }) replays-new settings events) (histories_are_taken settings events))
    (connections_are_opened_once settings events).spaces

pub at-all : {A : Type 0} (P : A → Type 0) (n : ℕ) (xs : List A) (x : A) → slice_get xs n ≡ Some x → AllOf P xs → P x
at-all P n [] x e a = absurd (some-none x (sym e))
at-all P zero (y ∷ xs) x e a = subst P (some-same e) a.0
at-all P (suc n) (y ∷ xs) x e a = at-all P n xs x e a.1

-- what a space that is there answered
pub outputs-there : (spaces : List Space) (n : ℕ) (s : Space) → slice_get spaces n ≡ Some s → outputs_at spaces n ≡ s.outputs
outputs-there spaces n s is = ap outputs_in is

-- ---- some of a list

pub some-rise : (f : Message → List ℕ) (n top : ℕ) (xs ys : List Message) → AreSomeOf xs ys → RisesWithin n top (flat_map f ys) → RisesWithin n top (flat_map f xs)
some-rise f n top [] ys a r = last ys n r
  where
    last : (zs : List Message) (m : ℕ) → RisesWithin m top (flat_map f zs) → m ≤ top
    last zs m k = Rattle.sp_order_laws.proofs.NoteLemmas.rises-below m top (flat_map f zs) k
some-rise f n top (x ∷ xs) [] a r = absurd a
some-rise f n top (x ∷ xs) (y ∷ ys) (inl a) r = subst (λ m. RisesWithin n top (f m ++ flat_map f xs)) (sym a.0) (rises-after n top (f y) (flat_map f ys) (flat_map f xs) (λ m k. some-rise f m top xs ys a.1 k) r)
some-rise f n top (x ∷ xs) (y ∷ ys) (inr a) r = some-rise f n top (x ∷ xs) ys a (rises-rest n top (f y) (flat_map f ys) r)

pub some-total : (f : Message → ℕ) (xs ys : List Message) → AreSomeOf xs ys → total f xs ≤ total f ys
some-total f [] ys a = omega arith
some-total f (x ∷ xs) [] a = absurd a
some-total f (x ∷ xs) (y ∷ ys) (inl a) = let e : f x ≡ f y = ap f a.0 in let b : total f xs ≤ total f ys = some-total f xs ys a.1 in omega arith
some-total f (x ∷ xs) (y ∷ ys) (inr a) = let b : f x + total f xs ≤ total f ys = some-total f (x ∷ xs) ys a in omega arith
