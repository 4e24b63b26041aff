-- Each root has its tree: the calls that are noted as they are made are those of it.
use mathlib.Core.Path.{sym, ap, subst, ◌∙◌}
use Rattle.std.specs.Prelude.{◌≡◌, refl, zero, suc, ℕ, ◌+◌, ◌≤◌, ◌==◌, ◌&&◌, not, nat_le, cond, Bool, true, false, List, [], ◌∷◌, ◌++◌, length, map, slice_get, Option, None, Some, if◌then◌else◌}
use Rattle.std.proofs.Common.{arith}
use Rattle.std.proofs.lemmas.Bool.{true≢false, leb-true, le-leb}
use Rattle.uuid.specs.declared.Uuid.{Uuid}
use Rattle.sp_rules.specs.Behaviours.{Behaviour, Plain, Asks, Ends, Over}
use Rattle.sp_rules.specs.Classes.{Setting}
use Rattle.sp_rules.specs.Events.{Event, Moment, Sweep, Root, RootAck, Bind, Rebind, Unbind, Lookup, Opened, Refused, Received, Closed, ReadFailed, Bad, WriteFailed, Committed, Parked, GivenBack, Finished}
use Rattle.sp_rules.specs.Laws.{AllOf, HasHistory}
use Rattle.sp_rules.specs.Lists.{at_index, total}
use Rattle.sp_rules.specs.Space
use Rattle.sp_rules.specs.State.{State, Living, Origin, OfRoot, OfCall, task_at, ready_at}
use Rattle.sp_rules.specs.Tasks
use Rattle.sp_rules.specs.Tasks.{Stand, Runs, AsksFor, HasEnded, stand, steps}
use Rattle.sp_rules.specs.Worlds.{World, Space, grown}
use Rattle.sp_rules.proofs.AllLemmas.{some-none}
use Rattle.sp_rules.proofs.FuelSums.{value_in, found-value, total-find}
use Rattle.sp_rules.proofs.OwnLemmas.{some-same}
use Rattle.sp_laws.specs.Roots.{with_calls}
use Rattle.sp_laws.specs.Trees.{Tree, Part, part_of, is_of, has_task, counted, task_part, root_part, roots_in, roots_at, stands_at_call, FitsTree, FitsHistory, AllFrom, IsTree, total_from, space_part, spent, root_fuel}
use Rattle.sp_laws.proofs.CallNumbers.{calls-rise}
use Rattle.sp_laws.proofs.TreeOfWorlds.{Holds, index_from, index-of, all-set, grown-history}

-- ---- what was given

-- how many calls each space made
abbrev pub calls_in : List Space → ℕ → ℕ
calls_in [] i = 0
calls_in (s ∷ ss) zero = s.state.calls_made
calls_in (s ∷ ss) (suc i) = calls_in ss i

-- a task that a call started has a call that was made
abbrev pub KnownOrigin : (ℕ → ℕ) → (ℕ → ℕ) → Origin → Type 0
KnownOrigin made dialler OfRoot = Unit {0}
KnownOrigin made dialler (OfCall conn number) = number ≤ made (dialler conn)

abbrev pub DialledBy : (ℕ → ℕ) → ℕ → ℕ → Option Uuid → Type 0
DialledBy dialler i conn None = Unit {0}
DialledBy dialler i conn (Some peer) = dialler conn ≡ i

abbrev pub KnownEvent : (ℕ → ℕ) → (ℕ → ℕ) → ℕ → State → Event → Type 0
KnownEvent made dialler i s (Parked id k) = (t : Living) → ready_at s id ≡ Some t → stands_at_call (stand (steps k t.task)) ≡ true → (s.calls_made + 1 ≤ made i) × KnownOrigin made dialler t.origin
KnownEvent made dialler i s (Opened conn dialled) = DialledBy dialler i conn dialled
KnownEvent made dialler i s _ = Unit {0}

abbrev pub Known : (ℕ → ℕ) → (ℕ → ℕ) → ℕ → Setting → List Event → Type 0
Known made dialler i g [] = Unit {0}
Known made dialler i g (e ∷ h) = KnownEvent made dialler i (Space.state_of g h) e × Known made dialler i g h

-- an event of which nothing is asked
abbrev pub Quiet : Event → Type 0
Quiet (Parked id k) = ⊥
Quiet (Opened conn dialled) = ⊥
Quiet _ = Unit {0}

pub quiet-known : (made dialler : ℕ → ℕ) (i : ℕ) (s : State) (e : Event) → Quiet e → KnownEvent made dialler i s e
quiet-known made dialler i s (Parked id k) q = absurd q
quiet-known made dialler i s (Opened conn dialled) q = absurd q
quiet-known made dialler i s (Moment moment) q = tt
quiet-known made dialler i s Sweep q = tt
quiet-known made dialler i s (Root method arguments fuel) q = tt
quiet-known made dialler i s (RootAck task) q = tt
quiet-known made dialler i s (Bind name value) q = tt
quiet-known made dialler i s (Rebind name value) q = tt
quiet-known made dialler i s (Unbind name) q = tt
quiet-known made dialler i s (Lookup peer name) q = tt
quiet-known made dialler i s (Refused peer) q = tt
quiet-known made dialler i s (Received conn m) q = tt
quiet-known made dialler i s (Closed conn) q = tt
quiet-known made dialler i s (ReadFailed conn) q = tt
quiet-known made dialler i s (Bad conn) q = tt
quiet-known made dialler i s (WriteFailed conn unsent) q = tt
quiet-known made dialler i s (Committed task k op) q = tt
quiet-known made dialler i s (GivenBack task k) q = tt
quiet-known made dialler i s (Finished task k) q = tt

pub quiet-fits : (p : Part) (s : State) (e : Event) → Quiet e → FitsTree p s e
quiet-fits p s (Parked id k) q = absurd q
quiet-fits p s (Opened conn dialled) q = absurd q
quiet-fits p s (Moment moment) q = tt
quiet-fits p s Sweep q = tt
quiet-fits p s (Root method arguments fuel) q = tt
quiet-fits p s (RootAck task) q = tt
quiet-fits p s (Bind name value) q = tt
quiet-fits p s (Rebind name value) q = tt
quiet-fits p s (Unbind name) q = tt
quiet-fits p s (Lookup peer name) q = tt
quiet-fits p s (Refused peer) q = tt
quiet-fits p s (Received conn m) q = tt
quiet-fits p s (Closed conn) q = tt
quiet-fits p s (ReadFailed conn) q = tt
quiet-fits p s (Bad conn) q = tt
quiet-fits p s (WriteFailed conn unsent) q = tt
quiet-fits p s (Committed task k op) q = tt
quiet-fits p s (GivenBack task k) q = tt
quiet-fits p s (Finished task k) q = tt

-- an event of which something is asked, with what held, or one of which nothing is asked
data Sort : Event → Type 0 where
  Parks : (id k : ℕ) → Sort (Parked id k)
  Opens : (conn : ℕ) (dialled : Option Uuid) → Sort (Opened conn dialled)
  IsQuiet : {e : Event} (quiet : Quiet e) → Sort e

sort-of : (e : Event) → Sort e
sort-of (Parked id k) = Parks id k
sort-of (Opened conn dialled) = Opens conn dialled
sort-of (Moment moment) = IsQuiet tt
sort-of Sweep = IsQuiet tt
sort-of (Root method arguments fuel) = IsQuiet tt
sort-of (RootAck task) = IsQuiet tt
sort-of (Bind name value) = IsQuiet tt
sort-of (Rebind name value) = IsQuiet tt
sort-of (Unbind name) = IsQuiet tt
sort-of (Lookup peer name) = IsQuiet tt
sort-of (Refused peer) = IsQuiet tt
sort-of (Received conn m) = IsQuiet tt
sort-of (Closed conn) = IsQuiet tt
sort-of (ReadFailed conn) = IsQuiet tt
sort-of (Bad conn) = IsQuiet tt
sort-of (WriteFailed conn unsent) = IsQuiet tt
sort-of (Committed task k op) = IsQuiet tt
sort-of (GivenBack task k) = IsQuiet tt
sort-of (Finished task k) = IsQuiet tt

-- numbers that are given stay given
pub origin-more : (made more dialler : ℕ → ℕ) → ((a : ℕ) → made a ≤ more a) → (origin : Origin) → KnownOrigin made dialler origin → KnownOrigin more dialler origin
origin-more made more dialler le OfRoot k = tt
origin-more made more dialler le (OfCall conn number) k = let a : made (dialler conn) ≤ more (dialler conn) = le (dialler conn) in omega (arith, k)

known-more : (made more dialler : ℕ → ℕ) (i : ℕ) → ((a : ℕ) → made a ≤ more a) → (g : Setting) (h : List Event) → Known made dialler i g h → Known more dialler i g h
known-more made more dialler i le g [] k = tt
known-more made more dialler i le g (e ∷ h) k = (one (sort-of e) k.0, known-more made more dialler i le g h k.1)
  where
    one : {e : Event} → Sort e → KnownEvent made dialler i (Space.state_of g h) e → KnownEvent more dialler i (Space.state_of g h) e
    one (Parks id j) f = λ t is calls. let a : made i ≤ more i = le i in let b : (Space.state_of g h).calls_made + 1 ≤ made i = (f t is calls).0 in (omega (arith, a, b), origin-more made more dialler le t.origin (f t is calls).1)
    one (Opens conn dialled) f = f
    one {e} (IsQuiet q) f = quiet-known more dialler i (Space.state_of g h) e q

-- ---- calls that were made keep their tree

unfoldable pub AgreesOn : (ℕ → ℕ) → (ℕ → ℕ → Bool) → (ℕ → ℕ → Bool) → Type 0
AgreesOn made has other = (a n : ℕ) → n ≤ made a → other a n ≡ has a n

pub origin-agrees : (tree : Tree) (made : ℕ → ℕ) (has other : ℕ → ℕ → Bool) → AgreesOn made has other → (i id : ℕ) (origin : Origin) → KnownOrigin made tree.dialler origin
    → is_of (part_of (with_calls tree other) i) id origin ≡ is_of (part_of (with_calls tree has) i) id origin
unfolding AgreesOn
origin-agrees tree made has other same i id OfRoot k = refl
origin-agrees tree made has other same i id (OfCall conn number) k = same (tree.dialler conn) number k

fits-agrees : (tree : Tree) (made : ℕ → ℕ) (has other : ℕ → ℕ → Bool) → AgreesOn made has other → (i : ℕ) (g : Setting) (h : List Event) → Known made tree.dialler i g h
    → FitsHistory (part_of (with_calls tree has) i) g h → FitsHistory (part_of (with_calls tree other) i) g h
unfolding AgreesOn
fits-agrees tree made has other same i g [] k f = tt
fits-agrees tree made has other same i g (e ∷ h) k f = (one (sort-of e) k.0 f.0, fits-agrees tree made has other same i g h k.1 f.1)
  where
    one : {e : Event} → Sort e → KnownEvent made tree.dialler i (Space.state_of g h) e → FitsTree (part_of (with_calls tree has) i) (Space.state_of g h) e → FitsTree (part_of (with_calls tree other) i) (Space.state_of g h) e
    one (Parks id j) known fits = λ t is calls.
        same i ((Space.state_of g h).calls_made + 1) (known t is calls).0 ∙ fits t is calls ∙ sym (origin-agrees tree made has other same i t.id t.origin (known t is calls).1)
    one (Opens conn None) known fits = tt
    one (Opens conn (Some peer)) known fits = λ number. ap (λ a. other a number) known
    one {e} (IsQuiet q) known fits = quiet-fits (part_of (with_calls tree other) i) (Space.state_of g h) e q

-- ---- what was not made is of no tree

-- all calls that were not made yet
abbrev pub late : (ℕ → ℕ) → (ℕ → ℕ) → Tree
late made dialler = record { has_root = λ i id. false; has_call = λ i number. not (nat_le number (made i)); dialler = dialler }

made-false : (m n : ℕ) → m ≤ n → not (nat_le m n) ≡ false
made-false m n le = ap not (le-leb m n le)

late-origin : (made dialler : ℕ → ℕ) (i id : ℕ) (origin : Origin) → KnownOrigin made dialler origin → is_of (part_of (late made dialler) i) id origin ≡ false
late-origin made dialler i id OfRoot k = refl
late-origin made dialler i id (OfCall conn number) k = made-false number (made (dialler conn)) k

late-fits : (made dialler : ℕ → ℕ) (i : ℕ) (g : Setting) (h : List Event) → Known made dialler i g h → FitsHistory (part_of (late made dialler) i) g h
late-fits made dialler i g [] k = tt
late-fits made dialler i g (e ∷ h) k = (one (sort-of e) k.0, late-fits made dialler i g h k.1)
  where
    one : {e : Event} → Sort e → KnownEvent made dialler i (Space.state_of g h) e → FitsTree (part_of (late made dialler) i) (Space.state_of g h) e
    one (Parks id j) known = λ t is calls. made-false ((Space.state_of g h).calls_made + 1) (made i) (known t is calls).0 ∙ sym (late-origin made dialler i t.id t.origin (known t is calls).1)
    one (Opens conn None) known = tt
    one (Opens conn (Some peer)) known = λ number. ap (λ a. not (nat_le number (made a))) known
    one {e} (IsQuiet q) known = quiet-fits (part_of (late made dialler) i) (Space.state_of g h) e q

no-root : (made dialler : ℕ → ℕ) (i : ℕ) (s : State) (e : Event) → root_part (part_of (late made dialler) i) s e ≡ 0
no-root made dialler i s (Moment moment) = refl
no-root made dialler i s Sweep = refl
no-root made dialler i s (Root method arguments fuel) = refl
no-root made dialler i s (RootAck task) = refl
no-root made dialler i s (Bind name value) = refl
no-root made dialler i s (Rebind name value) = refl
no-root made dialler i s (Unbind name) = refl
no-root made dialler i s (Lookup peer name) = refl
no-root made dialler i s (Opened conn dialled) = refl
no-root made dialler i s (Refused peer) = refl
no-root made dialler i s (Received conn m) = refl
no-root made dialler i s (Closed conn) = refl
no-root made dialler i s (ReadFailed conn) = refl
no-root made dialler i s (Bad conn) = refl
no-root made dialler i s (WriteFailed conn unsent) = refl
no-root made dialler i s (Committed task k op) = refl
no-root made dialler i s (Parked task k) = refl
no-root made dialler i s (GivenBack task k) = refl
no-root made dialler i s (Finished task k) = refl

no-roots : (made dialler : ℕ → ℕ) (i : ℕ) (g : Setting) (h : List Event) → roots_in (part_of (late made dialler) i) g h ≡ 0
no-roots made dialler i g [] = refl
no-roots made dialler i g (e ∷ h) =
    let a : root_part (part_of (late made dialler) i) (Space.state_of g h) e ≡ 0 = no-root made dialler i (Space.state_of g h) e in
    let b : roots_in (part_of (late made dialler) i) g h ≡ 0 = no-roots made dialler i g h in omega arith

no-fuel : (made dialler : ℕ → ℕ) (j : ℕ) (spaces : List Space) → total_from (roots_at (late made dialler)) j spaces ≡ 0
no-fuel made dialler j [] = refl
no-fuel made dialler j (s ∷ ss) =
    let a : roots_at (late made dialler) j s ≡ 0 = no-roots made dialler j s.setting s.history in
    let b : total_from (roots_at (late made dialler)) (suc j) ss ≡ 0 = no-fuel made dialler (suc j) ss in omega arith

-- ---- lists, with indices

all-weaken-from : {A : Type 0} (P Q : ℕ → A → Type 0) (j : ℕ) (xs : List A) → ((i : ℕ) (x : A) → P i x → Q i x) → AllFrom P j xs → AllFrom Q j xs
all-weaken-from P Q j [] k a = tt
all-weaken-from P Q j (x ∷ xs) k a = (k j x a.0, all-weaken-from P Q (suc j) xs k a.1)

all-with-from : {A : Type 0} (P Q R : ℕ → A → Type 0) (j : ℕ) (xs : List A) → ((i : ℕ) (x : A) → P i x → Q i x → R i x) → AllFrom P j xs → AllFrom Q j xs → AllFrom R j xs
all-with-from P Q R j [] k a b = tt
all-with-from P Q R j (x ∷ xs) k a b = (k j x a.0 b.0, all-with-from P Q R (suc j) xs k a.1 b.1)

set-from : {A : Type 0} (P : ℕ → A → Type 0) (g : A → A) (i j : ℕ) (xs : List A) (x : A) → slice_get xs i ≡ Some x → (P (index_from i j) x → P (index_from i j) (g x)) → AllFrom P j xs → AllFrom P j (at_index g i xs)
set-from P g i j [] x is k a = tt
set-from P g zero j (y ∷ xs) x is k a = (subst (λ z. P j z → P j (g z)) (sym (some-same is)) k a.0, a.1)
set-from P g (suc i) j (y ∷ xs) x is k a = (a.0, set-from P g i (suc j) xs x is k a.1)

in-sum : {A : Type 0} (f : ℕ → A → ℕ) (i j : ℕ) (xs : List A) (x : A) → slice_get xs i ≡ Some x → f (index_from i j) x ≤ total_from f j xs
in-sum f i j [] x is = absurd (some-none x (sym is))
in-sum f zero j (y ∷ xs) x is = let e : f j y ≡ f j x = ap (f j) (some-same is) in omega arith
in-sum f (suc i) j (y ∷ xs) x is = let e : f (index_from i (suc j)) x ≤ total_from f (suc j) xs = in-sum f i (suc j) xs x is in omega arith

in-total : {A : Type 0} (f : ℕ → A → ℕ) (i : ℕ) (xs : List A) (x : A) → slice_get xs i ≡ Some x → f i x ≤ total_from f 0 xs
in-total f i xs x is = subst (λ n. f n x ≤ total_from f 0 xs) (index-of i) (in-sum f i 0 xs x is)

-- ---- a task that makes a call has a call that was made, or a root

has-fuel : (b : Behaviour) (fuel : ℕ) → stands_at_call (Tasks.stand_at b fuel) ≡ true → 1 ≤ fuel
has-fuel (Over outcome) fuel c = absurd (true≢false (sym c))
has-fuel (Plain next) zero c = absurd (true≢false (sym c))
has-fuel (Plain next) (suc fuel) c = omega arith
has-fuel (Asks op next) zero c = absurd (true≢false (sym c))
has-fuel (Asks op next) (suc fuel) c = omega arith
has-fuel (Ends outcome) zero c = absurd (true≢false (sym c))
has-fuel (Ends outcome) (suc fuel) c = omega arith

has-units : (t : Living) → stands_at_call (stand t.task) ≡ true → 1 ≤ t.task.fuel
unfolding Tasks.stand
has-units t c = has-fuel t.task.behaviour t.task.fuel c

not-counted : (b : Bool) (n : ℕ) → 1 ≤ n → counted b n ≤ 0 → b ≡ false
not-counted true n le z = absurd (omega (arith, le, z))
not-counted false n le z = refl

pub fresh-origin : (dialler : ℕ → ℕ) (w : World) (i id : ℕ) (s : Space) (t : Living) → Holds (late (calls_in w.spaces) dialler) 0 w → AllFrom (λ j (u : Space). Known (calls_in w.spaces) dialler j u.setting u.history) 0 w.spaces
    → slice_get w.spaces i ≡ Some s → task_at s.state id ≡ Some t → stands_at_call (stand t.task) ≡ true → KnownOrigin (calls_in w.spaces) dialler t.origin
unfolding value_in
fresh-origin dialler w i id s t holds known is there calls = of t.origin not-of
  where
    made : ℕ → ℕ
    made = calls_in w.spaces

    tree : Tree
    tree = late made dialler

    v : Part
    v = part_of tree i

    fits : IsTree tree w
    fits = all-weaken-from (λ j (u : Space). Known made dialler j u.setting u.history) (λ j (u : Space). FitsHistory (part_of tree j) u.setting u.history) 0 w.spaces (λ j u k. late-fits made dialler j u.setting u.history k) known

    nothing : counted (has_task v t) (Rattle.sp_rules.specs.Fuel.task_units t) ≤ 0
    nothing =
        let b : spent tree w + 0 ≤ root_fuel tree w = holds.bound fits in
        let z : root_fuel tree w ≡ 0 = no-fuel made dialler 0 w.spaces in
        let a : space_part tree i s ≤ total_from (space_part tree) 0 w.spaces = in-total (space_part tree) i w.spaces s is in
        let was : value_in (task_part v) (task_at s.state id) ≡ task_part v t = found-value (task_part v) (task_at s.state id) t there in
        let q : value_in (task_part v) (task_at s.state id) + total (task_part v) (Rattle.std.specs.Prelude.filter (λ (u : Living). not (u.id == id)) s.state.tasks) ≤ total (task_part v) s.state.tasks = total-find (task_part v) (λ (u : Living). u.id == id) s.state.tasks in
        omega arith

    not-of : is_of v t.id t.origin ≡ false
    not-of = let fuel : 1 ≤ t.task.fuel = has-units t calls in not-counted (has_task v t) (Rattle.sp_rules.specs.Fuel.task_units t) (omega arith) nothing

    not-not : (b : Bool) → not b ≡ false → b ≡ true
    not-not true e = refl
    not-not false e = absurd (true≢false e)

    of : (origin : Origin) → is_of v t.id origin ≡ false → KnownOrigin made dialler origin
    of OfRoot e = tt
    of (OfCall conn number) e = leb-true number (made (dialler conn)) (not-not (nat_le number (made (dialler conn))) e)

-- ---- what is kept

pub record Grown (tree : Tree) (has : ℕ → ℕ → Bool) (spaces : List Space) : Type 0 where
  pub fits : AllFrom (λ i (s : Space). FitsHistory (part_of (with_calls tree has) i) s.setting s.history) 0 spaces
  pub known : AllFrom (λ i (s : Space). Known (calls_in spaces) tree.dialler i s.setting s.history) 0 spaces
  pub histories : AllOf HasHistory spaces

-- calls that are noted later
pub noted : {tree : Tree} {has : ℕ → ℕ → Bool} {spaces : List Space} (other : ℕ → ℕ → Bool) → AgreesOn (calls_in spaces) has other → Grown tree has spaces → Grown tree other spaces
noted {tree} {has} {spaces} other same e = record {
  fits = all-with-from (λ i (s : Space). Known (calls_in spaces) tree.dialler i s.setting s.history) (λ i (s : Space). FitsHistory (part_of (with_calls tree has) i) s.setting s.history) (λ i (s : Space). FitsHistory (part_of (with_calls tree other) i) s.setting s.history) 0 spaces
      (λ i s k f. fits-agrees tree (calls_in spaces) has other same i s.setting s.history k f) e.known e.fits;
  known = e.known;
  histories = e.histories;
}

pub calls-grow : (e : Event) (i : ℕ) (spaces : List Space) → AllOf HasHistory spaces → (a : ℕ) → calls_in spaces a ≤ calls_in (at_index (grown e) i spaces) a
calls-grow e i [] h a = omega arith
calls-grow e zero (s ∷ ss) h zero = subst (λ x. x.calls_made ≤ (Space.on s.setting e x).0.calls_made) (sym h.0) (calls-rise s.setting s.history e)
calls-grow e zero (s ∷ ss) h (suc a) = omega arith
calls-grow e (suc i) (s ∷ ss) h zero = omega arith
calls-grow e (suc i) (s ∷ ss) h (suc a) = calls-grow e i ss h.1 a

pub calls-here : (i : ℕ) (spaces : List Space) (s : Space) → slice_get spaces i ≡ Some s → calls_in spaces i ≡ s.state.calls_made
calls-here i [] s is = absurd (some-none s (sym is))
calls-here zero (t ∷ ts) s is = ap (λ (u : Space). u.state.calls_made) (some-same is)
calls-here (suc i) (t ∷ ts) s is = calls-here i ts s is

pub calls-set : (e : Event) (i : ℕ) (spaces : List Space) (s : Space) → slice_get spaces i ≡ Some s → calls_in (at_index (grown e) i spaces) i ≡ (Space.on s.setting e s.state).0.calls_made
calls-set e i [] s is = absurd (some-none s (sym is))
calls-set e zero (t ∷ ts) s is = ap (λ (u : Space). (Space.on u.setting e u.state).0.calls_made) (some-same is)
calls-set e (suc i) (t ∷ ts) s is = calls-set e i ts s is

abbrev pub past : Space → State
past s = Space.state_of s.setting s.history

pub take-grown : {tree : Tree} {has : ℕ → ℕ → Bool} {spaces : List Space} (i : ℕ) (e : Event) (s : Space) → slice_get spaces i ≡ Some s → FitsTree (part_of (with_calls tree has) i) (past s) e → KnownEvent (calls_in (at_index (grown e) i spaces)) tree.dialler i (past s) e
    → Grown tree has spaces → Grown tree has (at_index (grown e) i spaces)
take-grown {tree} {has} {spaces} i e s is fits known h = record {
  fits = set-from (λ j (u : Space). FitsHistory (part_of (with_calls tree has) j) u.setting u.history) (grown e) i 0 spaces s is (λ f. (subst (λ n. FitsTree (part_of (with_calls tree has) n) (past s) e) (sym (index-of i)) fits, f)) h.fits;
  known = set-from (λ j (u : Space). Known (calls_in (at_index (grown e) i spaces)) tree.dialler j u.setting u.history) (grown e) i 0 spaces s is (λ f. (subst (λ n. KnownEvent (calls_in (at_index (grown e) i spaces)) tree.dialler n (past s) e) (sym (index-of i)) known, f))
      (all-weaken-from (λ j (u : Space). Known (calls_in spaces) tree.dialler j u.setting u.history) (λ j (u : Space). Known (calls_in (at_index (grown e) i spaces)) tree.dialler j u.setting u.history) 0 spaces
      (λ j u k. known-more (calls_in spaces) (calls_in (at_index (grown e) i spaces)) tree.dialler j (calls-grow e i spaces h.histories) u.setting u.history k) h.known);
  histories = all-set HasHistory (grown e) i spaces (grown-history e) h.histories;
}
