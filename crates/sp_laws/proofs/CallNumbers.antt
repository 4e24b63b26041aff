-- The numbers of a space's calls rise.
use mathlib.Core.Path.{sym, subst}
use Rattle.std.specs.Prelude.{◌≡◌, refl, ℕ, ◌+◌, ◌≤◌, true, false, List, [], ◌∷◌, None, Some}
use Rattle.std.proofs.Common.{arith}
use Rattle.std.proofs.lemmas.Bool.{true≢false}
use Rattle.sp_rules.specs.Behaviours.{Op, Create, Get, Put, Call}
use Rattle.sp_rules.specs.Classes.{Setting}
use Rattle.sp_rules.specs.Events.{Event, Moment, Sweep, Root, RootAck, Bind, Rebind, Unbind, Lookup, Opened, Refused, Received, Closed, ReadFailed, Bad, WriteFailed, Committed, Parked, GivenBack, Finished}
use Rattle.sp_rules.specs.Lists.{with_some}
use Rattle.sp_rules.specs.LivingTasks
use Rattle.sp_rules.specs.Space
use Rattle.sp_rules.specs.State.{State, Living, Origin, OfRoot, OfCall, ready_at}
use Rattle.sp_rules.specs.Tasks.{Stand, Runs, AsksFor, HasEnded, stand, steps}
use Rattle.sp_laws.specs.Trees.{Part, is_of, left_in, is_call, stands_at_call, FitsTree, FitsHistory}
use Rattle.sp_laws.proofs.TreeOfTasks.{Tags, tag_parts, Within, park_call_within}
use Rattle.sp_laws.proofs.TreeOfSpaces.{Leaves, finish-leaves, on-leaves, tags-of}

-- of nothing
abbrev none : Part
none = record { roots = λ id. false; calls = λ number. false; frames = λ conn number. false }

none-of : (id : ℕ) (origin : Origin) → false ≡ is_of none id origin
none-of id OfRoot = refl
none-of id (OfCall conn number) = refl

none-fits : (s : State) (e : Event) → FitsTree none s e
none-fits s (Parked id k) = λ t is calls. none-of t.id t.origin
none-fits s (Opened conn None) = tt
none-fits s (Opened conn (Some peer)) = λ number. refl
none-fits s (Moment moment) = tt
none-fits s Sweep = tt
none-fits s (Root method arguments fuel) = tt
none-fits s (RootAck task) = tt
none-fits s (Bind name value) = tt
none-fits s (Rebind name value) = tt
none-fits s (Unbind name) = tt
none-fits s (Lookup peer name) = tt
none-fits s (Refused peer) = tt
none-fits s (Received conn m) = tt
none-fits s (Closed conn) = tt
none-fits s (ReadFailed conn) = tt
none-fits s (Bad conn) = tt
none-fits s (WriteFailed conn unsent) = tt
none-fits s (Committed task k op) = tt
none-fits s (GivenBack task k) = tt
none-fits s (Finished task k) = tt

none-history : (g : Setting) (h : List Event) → FitsHistory none g h
none-history g [] = tt
none-history g (e ∷ h) = (none-fits (Space.state_of g h) e, none-history g h)

raised : {low : ℕ} (s : State) (high : ℕ) → high ≤ s.calls_made → Tags low none [] (tag_parts s) → Tags high none [] (tag_parts s)
raised s high le e = record { calls = le; ids = e.ids; requests = e.requests; fresh = e.fresh; also = e.also; connections = e.connections }

-- no event takes a number back
pub calls-rise : (g : Setting) (h : List Event) (e : Event) → (Space.state_of g h).calls_made ≤ (Space.on g e (Space.state_of g h)).0.calls_made
calls-rise g h e =
    let s : State = Space.state_of g h in
    let le : s.calls_made ≤ s.calls_made = omega arith in
    (on-leaves none g e s (none-fits s e) (raised s s.calls_made le (tags-of none g h (none-history g h)))).1.calls

-- a call that is made has the next number
made-by : (g : Setting) (s : State) (id k : ℕ) (t : Living) → ready_at s id ≡ Some t → stands_at_call (stand (steps k t.task)) ≡ true → s.calls_made + 1 ≤ (LivingTasks.park_call g id k s).calls_made
unfolding LivingTasks.park_call
made-by g s id k t is calls = subst (λ o. s.calls_made + 1 ≤ (with_some o s (λ u. LivingTasks.park_at g id k u (stand (steps k u.task)) s)).calls_made) (sym is) (at (stand (steps k t.task)) calls)
  where
    op-made : (op : Op) → is_call op ≡ true → s.calls_made + 1 ≤ (LivingTasks.park_op g id k t op s).calls_made
    op-made (Create class) c = absurd (true≢false (sym c))
    op-made (Get object slot) c = absurd (true≢false (sym c))
    op-made (Put object slot value) c = absurd (true≢false (sym c))
    op-made (Call target method arguments) c = omega arith

    at : (stands : Stand) → stands_at_call stands ≡ true → s.calls_made + 1 ≤ (LivingTasks.park_at g id k t stands s).calls_made
    at Runs c = absurd (true≢false (sym c))
    at (AsksFor op) c = op-made op c
    at (HasEnded outcome) c = absurd (true≢false (sym c))

pub call-made : (g : Setting) (h : List Event) (id k : ℕ) (t : Living) → ready_at (Space.state_of g h) id ≡ Some t → stands_at_call (stand (steps k t.task)) ≡ true
    → (Space.state_of g h).calls_made + 1 ≤ (Space.on g (Parked id k) (Space.state_of g h)).0.calls_made
unfolding Space.on Space.happen
call-made g h id k t is calls =
    let s : State = Space.state_of g h in
    let n : ℕ = left_in none s in
    let self : n ≤ n = omega arith in
    let parked : Within 0 none [] n (LivingTasks.park_call g id k s) = park_call_within g id k (λ u there c. none-of u.id u.origin) (record { bound = self; tags = tags-of none g h (none-history g h) }) in
    let high : Within (s.calls_made + 1) none [] n (LivingTasks.park_call g id k s) = record { bound = parked.bound; tags = raised (LivingTasks.park_call g id k s) (s.calls_made + 1) (made-by g s id k t is calls) parked.tags } in
    let out : Leaves (s.calls_made + 1) none n (Space.finish_event true (LivingTasks.park_call g id k s)) = finish-leaves true high in
    out.tags.calls
