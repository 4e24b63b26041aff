-- Chains of types: what they have, one type after the other, and what stays as the row of nodes grows.
use Rattle.std.proofs.Common.{◌≡◌, ℕ, zero, suc, ◌+◌, ◌-◌, ◌<◌, ◌≤◌, Bool, true, false, ◌||◌, Option, Some, None, List, [], ◌∷◌, ◌++◌, length, take, drop, refl, ap, sym, subst, ◌∙◌, arith, append_assoc}
use Rattle.std.specs.Prelude.{slice_get, IsSomeAnd}
use Rattle.std.specs.List.{AllByRecursion, list_any}
use Rattle.std.specs.Option.{option_map_or}
use Rattle.std.proofs.lemmas.List.{append-nil, drop-set, drop_all, length-append, length-set, take-append-le, take_all}
use Rattle.std.proofs.lemmas.List.Folds.{list_any-append}
use Rattle.std.proofs.lemmas.Option.{slice_get_within}
use Rattle.std.specs.List.{slice_set}
use Rattle.ver_frames.specs.Chains.{FrameStands, Keeps, Stands, StandTo, types_of, types_to}
use Rattle.ver_frames.specs.StackMapFormat.{is_uninit_this}
use Rattle.ver_frames.specs.declared.chain.TypeChain.{TypeChain}
use Rattle.ver_frames.specs.declared.chain.TypeNode.{TypeNode}
use Rattle.ver_frames.specs.declared.raw_frame.RawFrame.{RawFrame}
use Rattle.ver_frames.specs.declared.vtype.VType.{VType}

-- ---- the last type of a chain

-- the node of the last type, the types before it, and all of them
pub record Last (nodes : List TypeNode) (n last : ℕ) : Type 0 where
  pub node : TypeNode
  pub at : slice_get nodes last ≡ Some node
  pub inside : last < length nodes
  pub before : StandTo nodes n node.before
  pub types : types_to nodes (suc n) last ≡ types_to nodes n node.before ++ node.kind ∷ []

pub last_of : (nodes : List TypeNode) (n last : ℕ) → StandTo nodes (suc n) last → Last nodes n last
unfolding StandTo types_to
last_of nodes n last stands = of_node (slice_get nodes last) refl stands
  where
    of_node : (o : Option TypeNode) → slice_get nodes last ≡ o → IsSomeAnd o (λ (node : TypeNode). StandTo nodes n node.before) → Last nodes n last
    of_node None e s = absurd s
    of_node (Some node) e s = record { node = node; at = e; inside = slice_get_within nodes last node e; before = s; types = rw e refl }

pub last_stands : (nodes : List TypeNode) (n last : ℕ) (node : TypeNode) → slice_get nodes last ≡ Some node → StandTo nodes n node.before → StandTo nodes (suc n) last
unfolding StandTo
last_stands nodes n last node at before = rw at before

pub last_types : (nodes : List TypeNode) (n last : ℕ) (node : TypeNode) → slice_get nodes last ≡ Some node → types_to nodes (suc n) last ≡ types_to nodes n node.before ++ node.kind ∷ []
unfolding types_to
last_types nodes n last node at = rw at refl

-- ---- how many

pub long_to : (nodes : List TypeNode) (n last : ℕ) → StandTo nodes n last → length (types_to nodes n last) ≡ n
unfolding types_to
long_to nodes zero last stands = refl
long_to nodes (suc n) last stands =
    let l = last_of nodes n last stands in
    let others = long_to nodes n l.node.before l.before in
    let joined = length-append (types_to nodes n l.node.before) (l.node.kind ∷ []) in
    rw (l.types) (omega (arith, others, joined))

pub chain_long : (nodes : List TypeNode) (chain : TypeChain) → Stands nodes chain → chain.count ≡ length (types_of nodes chain)
chain_long nodes chain stands = sym (long_to nodes chain.count chain.last stands)

-- ---- as the row grows

among : (nodes : List TypeNode) (more : TypeNode) (k : ℕ) (node : TypeNode) → slice_get nodes k ≡ Some node → slice_get (nodes ++ more ∷ []) k ≡ Some node
among [] more k node e = absurd (cc)
among (n ∷ ns) more zero node e = e
among (n ∷ ns) more (suc k) node e = among ns more k node e

at_end : (nodes : List TypeNode) (more : TypeNode) → slice_get (nodes ++ more ∷ []) (length nodes) ≡ Some more
at_end [] more = refl
at_end (n ∷ ns) more = at_end ns more

grown : (nodes : List TypeNode) (more : TypeNode) (n last : ℕ) → StandTo nodes n last
    → StandTo (nodes ++ more ∷ []) n last × (types_to (nodes ++ more ∷ []) n last ≡ types_to nodes n last)
unfolding StandTo types_to
grown nodes more zero last stands = (tt, refl)
grown nodes more (suc n) last stands =
    let l = last_of nodes n last stands in
    let others = grown nodes more n l.node.before l.before in
    let at : slice_get (nodes ++ more ∷ []) last ≡ Some l.node = among nodes more last l.node l.at in (
      last_stands (nodes ++ more ∷ []) n last l.node at others.0,
      last_types (nodes ++ more ∷ []) n last l.node at ∙ ap (λ (ts : List VType). ts ++ l.node.kind ∷ []) others.1 ∙ sym l.types,
    )

pub keeps_all : (nodes : List TypeNode) → Keeps nodes nodes
unfolding Keeps
keeps_all nodes n last stands = (stands, refl)

pub keeps_more : (nodes : List TypeNode) (more : TypeNode) → Keeps nodes (nodes ++ more ∷ [])
unfolding Keeps
keeps_more nodes more n last stands = grown nodes more n last stands

pub keeps_on : (first second third : List TypeNode) → Keeps first second → Keeps second third → Keeps first third
unfolding Keeps
keeps_on first second third one two n last stands =
    let a = one n last stands in
    let b = two n last a.0 in (b.0, b.1 ∙ a.1)

pub kept_stands : (old new : List TypeNode) (chain : TypeChain) → Keeps old new → Stands old chain → Stands new chain
unfolding Keeps
kept_stands old new chain keeps stands = (keeps chain.count chain.last stands).0

pub kept_types : (old new : List TypeNode) (chain : TypeChain) → Keeps old new → Stands old chain → types_of new chain ≡ types_of old chain
unfolding Keeps
kept_types old new chain keeps stands = (keeps chain.count chain.last stands).1

-- a chain with one more type
pub appended : (nodes : List TypeNode) (chain : TypeChain) (kind : VType) → Stands nodes chain
    → Stands (nodes ++ record { kind = kind; before = chain.last } ∷ []) (record { last = length nodes; count = suc chain.count })
    × (types_of (nodes ++ record { kind = kind; before = chain.last } ∷ []) (record { last = length nodes; count = suc chain.count }) ≡ types_of nodes chain ++ kind ∷ [])
appended nodes chain kind stands =
    let more : TypeNode = record { kind = kind; before = chain.last } in
    let at = at_end nodes more in
    let old = grown nodes more chain.count chain.last stands in (
      last_stands (nodes ++ more ∷ []) chain.count (length nodes) more at old.0,
      last_types (nodes ++ more ∷ []) chain.count (length nodes) more at ∙ ap (λ (ts : List VType). ts ++ kind ∷ []) old.1,
    )

-- the same, if the index of the end and the number of types are given
pub appended_at : (nodes : List TypeNode) (chain : TypeChain) (kind : VType) (end count : ℕ) → Stands nodes chain → end ≡ length nodes → count ≡ suc chain.count
    → StandTo (nodes ++ record { kind = kind; before = chain.last } ∷ []) count end
    × (types_to (nodes ++ record { kind = kind; before = chain.last } ∷ []) count end ≡ types_of nodes chain ++ kind ∷ [])
appended_at nodes chain kind end count stands e f =
    let more : List TypeNode = nodes ++ record { kind = kind; before = chain.last } ∷ [] in
    let all = appended nodes chain kind stands in (
      subst (λ (n : ℕ). StandTo more n end) (sym f) (subst (λ (k : ℕ). StandTo more (suc chain.count) k) (sym e) all.0),
      subst (λ (n : ℕ). types_to more n end ≡ types_of nodes chain ++ kind ∷ []) (sym f)
          (subst (λ (k : ℕ). types_to more (suc chain.count) k ≡ types_of nodes chain ++ kind ∷ []) (sym e) all.1),
    )

-- no types stand anywhere
pub none_stand : (nodes : List TypeNode) (last : ℕ) → StandTo nodes 0 last
unfolding StandTo
none_stand nodes last = tt

pub none_types : (nodes : List TypeNode) (last : ℕ) → types_to nodes 0 last ≡ []
unfolding types_to
none_types nodes last = refl

-- ---- one type less

-- the first types are those of the chain without its last
pub shortened : (nodes : List TypeNode) (n last keeps : ℕ) (node : TypeNode) → StandTo nodes (suc n) last → slice_get nodes last ≡ Some node → keeps ≤ n
    → StandTo nodes n node.before × (take keeps (types_to nodes n node.before) ≡ take keeps (types_to nodes (suc n) last))
shortened nodes n last keeps node stands at le =
    let l = last_of nodes n last stands in
    let same : l.node ≡ node = same_node l.node node (sym l.at ∙ at) in
    let before : StandTo nodes n node.before = subst (λ (x : TypeNode). StandTo nodes n x.before) same l.before in
    let long : length (types_to nodes n node.before) ≡ n = long_to nodes n node.before before in
    (before, sym (ap (take keeps) (last_types nodes n last node at) ∙ take-append-le keeps (types_to nodes n node.before) (node.kind ∷ []) (omega (arith, long, le))))
  where
    same_node : (a b : TypeNode) → ◌≡◌ {A = Option TypeNode} (Some a) (Some b) → a ≡ b
    same_node a b e = cc

-- ---- the types of a chain are written

-- n types are still to be written, and those after them are written
pub written : (nodes : List TypeNode) (n last : ℕ) (node : TypeNode) (written_types all : List VType) → StandTo nodes (suc n) last → slice_get nodes last ≡ Some node → n < length written_types
    → types_to nodes (suc n) last ++ drop (suc n) written_types ≡ all
    → types_to nodes n node.before ++ drop n (slice_set written_types n node.kind) ≡ all
written nodes n last node written_types all stands at inside so_far =
    let set_at = drop-set written_types n node.kind inside in
    let next : n + 1 ≡ suc n = omega arith in
    let types = last_types nodes n last node at in
    rw (set_at, next) (sym (append_assoc (types_to nodes n node.before) (node.kind ∷ []) (drop (suc n) written_types)) ∙ ap (λ (ts : List VType). ts ++ drop (suc n) written_types) (sym types) ∙ so_far)

-- ---- a step of a loop over a chain, from its last type on

pub inside : (nodes : List TypeNode) (count last : ℕ) → 0 < count → StandTo nodes count last → last < length nodes
inside nodes zero last some stands = absurd (omega arith)
inside nodes (suc n) last some stands = (last_of nodes n last stands).inside

-- the types before
pub stands_before : (nodes : List TypeNode) (count next last : ℕ) (node : TypeNode) → count ≡ suc next → StandTo nodes count last → slice_get nodes last ≡ Some node → StandTo nodes next node.before
stands_before nodes count next last node e stands at =
    (shortened nodes next last next node (subst (λ (n : ℕ). StandTo nodes n last) e stands) at (omega arith)).0

pub shorten_step : (nodes : List TypeNode) (count next last keeps : ℕ) (node : TypeNode) (all : List VType) → count ≡ suc next → keeps ≤ next → StandTo nodes count last → slice_get nodes last ≡ Some node
    → take keeps (types_to nodes count last) ≡ all → take keeps (types_to nodes next node.before) ≡ all
shorten_step nodes count next last keeps node all e le stands at so_far =
    (shortened nodes next last keeps node (subst (λ (n : ℕ). StandTo nodes n last) e stands) at le).1 ∙ subst (λ (n : ℕ). take keeps (types_to nodes n last) ≡ all) e so_far

pub shorten_end : (nodes : List TypeNode) (count last keeps : ℕ) (all : List VType) → count ≡ keeps → StandTo nodes count last → take keeps (types_to nodes count last) ≡ all → types_to nodes count last ≡ all
shorten_end nodes count last keeps all e stands so_far =
    let long : length (types_to nodes count last) ≡ count = long_to nodes count last stands in
    sym (take_all keeps (types_to nodes count last) (omega (arith, long, e))) ∙ so_far

pub write_step : (nodes : List TypeNode) (count next last : ℕ) (node : TypeNode) (types all : List VType) → count ≡ suc next → StandTo nodes count last → slice_get nodes last ≡ Some node → next < length types
    → types_to nodes count last ++ drop count types ≡ all → types_to nodes next node.before ++ drop next (slice_set types next node.kind) ≡ all
write_step nodes count next last node types all e stands at inside_types so_far =
    written nodes next last node types all (subst (λ (n : ℕ). StandTo nodes n last) e stands) at inside_types
    (subst (λ (n : ℕ). types_to nodes n last ++ drop n types ≡ all) e so_far)

pub write_end : (nodes : List TypeNode) (count last : ℕ) (types all : List VType) → count ≡ 0 → types_to nodes count last ++ drop count types ≡ all → types ≡ all
unfolding types_to
write_end nodes zero last types all e so_far = so_far
write_end nodes (suc n) last types all e so_far = absurd (omega (arith, e))

any_last : (found : Bool) (b : Bool) → b ≡ false → (found || (b || false)) ≡ found
any_last true b e = refl
any_last false b e = rw e refl

any_end : (found : Bool) (b : Bool) → b ≡ true → true ≡ (found || (b || false))
any_end true b e = refl
any_end false b e = rw e refl

any_split : (nodes : List TypeNode) (count next last : ℕ) (node : TypeNode) → count ≡ suc next → slice_get nodes last ≡ Some node
    → list_any is_uninit_this (types_to nodes count last) ≡ (list_any is_uninit_this (types_to nodes next node.before) || (is_uninit_this node.kind || false))
any_split nodes count next last node e at =
    subst (λ (n : ℕ). list_any is_uninit_this (types_to nodes n last) ≡ (list_any is_uninit_this (types_to nodes next node.before) || (is_uninit_this node.kind || false))) (sym e)
    (ap (list_any is_uninit_this) (last_types nodes next last node at) ∙ list_any-append is_uninit_this (types_to nodes next node.before) (node.kind ∷ []))

pub any_step : (nodes : List TypeNode) (count next last : ℕ) (node : TypeNode) (all : Bool) → count ≡ suc next → slice_get nodes last ≡ Some node → is_uninit_this node.kind ≡ false
    → list_any is_uninit_this (types_to nodes count last) ≡ all → list_any is_uninit_this (types_to nodes next node.before) ≡ all
any_step nodes count next last node all e at fails so_far =
    sym (any_split nodes count next last node e at ∙ any_last (list_any is_uninit_this (types_to nodes next node.before)) (is_uninit_this node.kind) fails) ∙ so_far

pub any_found : (nodes : List TypeNode) (count next last : ℕ) (node : TypeNode) (all : Bool) → count ≡ suc next → slice_get nodes last ≡ Some node → is_uninit_this node.kind ≡ true
    → list_any is_uninit_this (types_to nodes count last) ≡ all → true ≡ all
any_found nodes count next last node all e at passes so_far =
    any_end (list_any is_uninit_this (types_to nodes next node.before)) (is_uninit_this node.kind) passes ∙ sym (any_split nodes count next last node e at) ∙ so_far

pub any_none : (nodes : List TypeNode) (count last : ℕ) (all : Bool) → count ≡ 0 → list_any is_uninit_this (types_to nodes count last) ≡ all → false ≡ all
unfolding types_to
any_none nodes zero last all e so_far = so_far
any_none nodes (suc n) last all e so_far = absurd (omega (arith, e))
