-- What is asked of peers stays what tasks ask, and what is parked fits what was asked and what was called, through every event.
use mathlib.Core.Path.{sym, ap, subst, ◌∙◌}
use Rattle.std.proofs.Common.{arith, inl, inr}
use Rattle.std.proofs.lemmas.Bool.{true≢false, leb-true}
use Rattle.std.specs.List.{list_any}
use Rattle.std.specs.Prelude.{◌≡◌, ◌⊎◌, refl, ℕ, ◌+◌, ◌≤◌, ◌||◌, not, nat_le, cond, Bool, true, false, List, [], ◌∷◌, ◌++◌, Option, Some, filter, find, map, if◌then◌else◌}
use Rattle.space_ids.specs.declared.ids.ClassId.{ClassId}
use Rattle.space_ids.specs.declared.ids.ObjId.{ObjId}
use Rattle.space_ids.specs.declared.ids.Ref.{Ref}
use Rattle.space_ids.specs.declared.value.Value.{Value}
use Rattle.sp_rules.specs.Behaviours.{Reply, GivesBack, Throws}
use Rattle.sp_rules.specs.Classes.{Setting, Kind, fit_kinds, fits_result}
use Rattle.sp_rules.specs.Events.{Event, Refused, Received, Closed, ReadFailed, Bad, WriteFailed, Parked}
use Rattle.sp_rules.specs.Frames
use Rattle.sp_rules.specs.Holders
use Rattle.sp_rules.specs.Laws.{AllOf, RisesWithin}
use Rattle.sp_rules.specs.Lists.{total}
use Rattle.sp_rules.specs.ParkedFrames
use Rattle.sp_rules.specs.References.{references_in, references_of, is_id}
use Rattle.sp_rules.specs.State.{State, Object, Stored, Living, Origin, OfRoot, OfCall, Until, RootAcked, Acked, Passed, Request, Asked, Calls, LooksUp, Tells, Out, Answered, Frame, CallFrame, ReturnedFrame, ParkedFrame, standing, ready_at, object_at}
use Rattle.sp_rules.specs.Tasks.{steps}
use Rattle.sp_rules.proofs.AllLemmas.{all-filter, all-found, all-map, all-more, all-weaken, found-is}
use Rattle.sp_rules.proofs.FuelSums.{found-value, total-find, value_in}
use Rattle.sp_rules.proofs.NumberLemmas.{Fresh}
use Rattle.sp_rules.proofs.OwnLemmas.{and-left, and-right, some-same}
use Rattle.sp_rules.proofs.SweepLemmas.{one-id}
use Rattle.sp_laws.specs.Waiting.{count}
use Rattle.sp_laws.proofs.FlowRules.{Owed, Removed, Inbound, removed, of_origin, of_until}
use Rattle.sp_laws.proofs.WaitHistories.{waits-begin}
use Rattle.sp_laws.proofs.WaitLemmas.{asked_sum, flow_sum, one_of, Waits, waits_flow}
use Rattle.sp_laws.proofs.EventRules.{View, Flows, Begins, EventParts, event_parts, IsFrom, is_ending, is_storing, is_unreached, is_unwritten}
use Rattle.sp_laws.specs.Calls.{AreRemote, FitsCall, IsAtCall, IsCallOf, IsFailing, StartsBy}

-- ---- what is asked

-- it was asked before
abbrev pub Was : List Request → Asked → Type 0
Was [] asked = ⊥
Was (q ∷ rs) asked = (q.asked ≡ asked) ⊎ Was rs asked

pub was-all : (P : Asked → Type 0) (rs : List Request) (asked : Asked) → AllOf (λ (q : Request). P q.asked) rs → Was rs asked → P asked
was-all P [] asked a was = absurd was
was-all P (q ∷ rs) asked a (inl same) = subst P same a.0
was-all P (q ∷ rs) asked a (inr was) = was-all P rs asked a.1 was

each-was : (rs : List Request) → AllOf (λ (q : Request). Was rs q.asked) rs
each-was [] = tt
each-was (q ∷ rs) = (inl refl, all-weaken (λ (p : Request). Was rs p.asked) (λ (p : Request). Was (q ∷ rs) p.asked) rs (λ p was. inr was) (each-was rs))

-- the event parks the call of a task
pub record IsNewCall (g : Setting) (s : State) (e : Event) (task fuel : ℕ) (kind : Kind) : Type 0 where
  pub made : ℕ
  pub is : e ≡ Parked task made
  pub row : Living
  pub ready : ready_at s task ≡ Some row
  pub at : IsAtCall g (steps made row.task) fuel kind

-- the event asks for it, under a number that was not given before
abbrev pub IsNew : Setting → State → Event → Asked → Type 0
IsNew g s e (Calls number task fuel kind m) = (s.calls_made + 1 ≤ number) × IsNewCall g s e task fuel kind
IsNew g s e (LooksUp number task name) = s.calls_made + 1 ≤ number
IsNew g s e (Tells call group) = Unit {0}

abbrev pub IsAsked : Setting → State → Event → Asked → Type 0
IsAsked g s e asked = Was s.requests asked ⊎ IsNew g s e asked

abbrev Asks : Setting → State → Event → Request → Type 0
Asks g s e q = IsAsked g s e q.asked

abbrev OwedAsked : Setting → State → Event → Owed → Type 0
OwedAsked g s e (Removed peer asked) = IsAsked g s e asked
OwedAsked g s e (Inbound conn number) = Unit {0}

-- a reply fits what was asked: of lookups nothing is said
abbrev pub FitsReply : Setting → Reply → Asked → Type 0
FitsReply g reply (Calls number task fuel kind m) = FitsCall g fuel kind reply
FitsReply g reply (LooksUp number task name) = Unit {0}
FitsReply g reply (Tells call group) = Unit {0}

-- ---- what is parked

-- a value and fuel fit what was asked
abbrev pub FitsAsked : Setting → Option Value → ℕ → Asked → Type 0
FitsAsked g value fuel asked = (Frames.fits_asked asked value fuel ≡ true) × AreRemote g (references_in value)

-- A call of a method on an object, as long as that stands, passes the tests.
pub record CallPasses (g : Setting) (s : State) (target : ObjId) (method : ℕ) (arguments : List Value) : Type 0 where
  pub made : target.0 ≤ s.objects_made
  pub may : (o : Object) → object_at s target ≡ Some o → g.classes.may_call o.class method ≡ true
  pub fits : fit_kinds (g.classes.parameters method) arguments ≡ true
  pub remote : AreRemote g (references_of arguments)

-- A result under a number fits what was asked under it.
pub record ResultFits (g : Setting) (s : State) (number : ℕ) (value : Option Value) (fuel : ℕ) : Type 0 where
  pub given : number ≤ s.calls_made
  pub fits : AllOf (λ (q : Request). ParkedFrames.has_number number q.asked ≡ true → FitsAsked g value fuel q.asked) s.requests

abbrev pub FrameFits : Setting → State → ℕ → Frame → Type 0
FrameFits g s number (CallFrame target method fuel arguments) = CallPasses g s target method arguments
FrameFits g s number (ReturnedFrame value fuel) = ResultFits g s number value fuel

abbrev pub IsKnown : Setting → State → ParkedFrame → Type 0
IsKnown g s p = FrameFits g s p.number p.frame

-- ---- what is kept in an event

pub record Goes (g : Setting) (before : State) (e : Event) (l : List Owed) (s : EventParts) : Type 0 where
  pub requests : AllOf (Asks g before e) s.requests
  pub fresh : AllOf (Asks g before e) s.fresh
  pub owed : AllOf (OwedAsked g before e) l
  pub frames : AllOf (IsKnown g before) s.parked
  pub given : before.calls_made ≤ s.calls_made
  pub store : is_storing e ≡ false → s.store ≡ before.store

all-removed : (g : Setting) (before : State) (e : Event) (rs : List Request) (l : List Owed) → AllOf (Asks g before e) rs → AllOf (OwedAsked g before e) l → AllOf (OwedAsked g before e) (removed rs ++ l)
all-removed g before e [] l a b = b
all-removed g before e (q ∷ rs) l a b = (a.0, all-removed g before e rs l a.1 b)

of-removed : (g : Setting) (before : State) (e : Event) (rs : List Request) (l : List Owed) → AllOf (OwedAsked g before e) (removed rs ++ l) → AllOf (Asks g before e) rs × AllOf (OwedAsked g before e) l
of-removed g before e [] l a = (tt, a)
of-removed g before e (q ∷ rs) l a = let rest = of-removed g before e rs l a.1 in ((a.0, rest.0), rest.1)

from-owed : (g : Setting) (before : State) (e : Event) (o : Origin) (l : List Owed) → AllOf (OwedAsked g before e) (of_origin o ++ l) → AllOf (OwedAsked g before e) l
from-owed g before e OfRoot l a = a
from-owed g before e (OfCall conn k) l a = a.1

to-owed : (g : Setting) (before : State) (e : Event) (o : Origin) (l : List Owed) → AllOf (OwedAsked g before e) l → AllOf (OwedAsked g before e) (of_origin o ++ l)
to-owed g before e OfRoot l a = a
to-owed g before e (OfCall conn k) l a = (tt, a)

until-owed : (g : Setting) (before : State) (e : Event) (u : Until) (l : List Owed) → AllOf (OwedAsked g before e) (of_until u ++ l) → AllOf (OwedAsked g before e) l
until-owed g before e (RootAcked id) l a = a
until-owed g before e (Acked conn k) l a = a.1
until-owed g before e (Passed moment) l a = a

goes : {g : Setting} {before : State} {e : Event} {l m : List Owed} {s : EventParts} → AllOf (OwedAsked g before e) m → Goes g before e l s → Goes g before e m s
goes a k = record { requests = k.requests; fresh = k.fresh; owed = a; frames = k.frames; given = k.given; store = k.store }

requests-are : {g : Setting} {before : State} {e : Event} {l : List Owed} (s : State) (rs : List Request) → AllOf (Asks g before e) rs → Goes g before e l (event_parts s) → Goes g before e l (event_parts (record s { requests = rs }))
requests-are s rs a k = record { requests = a; fresh = k.fresh; owed = k.owed; frames = k.frames; given = k.given; store = k.store }

frames-are : {g : Setting} {before : State} {e : Event} {l : List Owed} (s : State) (ps : List ParkedFrame) → AllOf (IsKnown g before) ps → Goes g before e l (event_parts s) → Goes g before e l (event_parts (record s { parked = ps }))
frames-are s ps a k = record { requests = k.requests; fresh = k.fresh; owed = k.owed; frames = a; given = k.given; store = k.store }

same : {g : Setting} {before : State} {e : Event} {l : List Owed} {s : EventParts} (u : EventParts) → u.requests ≡ s.requests → u.fresh ≡ s.fresh → u.parked ≡ s.parked → u.calls_made ≡ s.calls_made → u.store ≡ s.store → Goes g before e l s → Goes g before e l u
same {g} {before} {e} u a b c d f k = record {
  requests = subst (AllOf (Asks g before e)) (sym a) k.requests;
  fresh = subst (AllOf (Asks g before e)) (sym b) k.fresh;
  owed = k.owed;
  frames = subst (AllOf (IsKnown g before)) (sym c) k.frames;
  given = subst (λ n. before.calls_made ≤ n) (sym d) k.given;
  store = λ no. f ∙ k.store no;
}

-- ---- replies

-- with a result what was asked ends as it fits
result-fits : (g : Setting) (value : Option Value) (fuel : ℕ) (asked : Asked) → FitsAsked g value fuel asked → FitsReply g (GivesBack value fuel) asked
result-fits g value fuel (Calls number task lent kind m) a = (and-left (fits_result kind value) (nat_le fuel lent) a.0, leb-true fuel lent (and-right (fits_result kind value) (nat_le fuel lent) a.0), a.1)
result-fits g value fuel (LooksUp number task name) a = tt
result-fits g value fuel (Tells call group) a = tt

pub result-ends : (g : Setting) (before : State) (p : ParkedFrame) (value : Option Value) (fuel : ℕ) (asked : Asked) → IsKnown g before p → p.frame ≡ ReturnedFrame value fuel → ParkedFrames.has_number p.number asked ≡ true → Was before.requests asked → FitsReply g (GivesBack value fuel) asked
result-ends g before p value fuel asked known is has was =
    let r : ResultFits g before p.number value fuel = subst (FrameFits g before p.number) is known in
    result-fits g value fuel asked (was-all (λ a. ParkedFrames.has_number p.number a ≡ true → FitsAsked g value fuel a) before.requests asked r.fits was has)

fails-fit : (g : Setting) (class : ClassId) → IsFailing g class → (asked : Asked) → FitsReply g (Throws class) asked
fails-fit g class a (Calls number task fuel kind m) = inr a
fails-fit g class a (LooksUp number task name) = tt
fails-fit g class a (Tells call group) = tt

thrown-fits : (g : Setting) (class : ClassId) (asked : Asked) → FitsReply g (Frames.thrown_reply g class) asked
thrown-fits g class (Calls number task fuel kind m) = pick (g.classes.is_throwable class) refl
  where
    pick : (b : Bool) → g.classes.is_throwable class ≡ b → FitsCall g fuel kind (Throws (if b then class else g.classes.unmarshal))
    pick true is = inl is
    pick false is = inr (inl refl)
thrown-fits g class (LooksUp number task name) = tt
thrown-fits g class (Tells call group) = tt

spent-fits : (g : Setting) (asked : Asked) → FitsReply g (Frames.spent_reply g asked) asked
spent-fits g (Calls number task fuel kind m) = tt
spent-fits g (LooksUp number task name) = tt
spent-fits g (Tells call group) = tt

unreached-ends : (e : Event) → is_unreached e ≡ true → is_ending e ≡ true
unreached-ends (Refused peer) is = refl
unreached-ends (Received conn m) is = refl
unreached-ends _ is = absurd (true≢false (sym is))

unwritten-ends : (e : Event) → is_unwritten e ≡ true → is_ending e ≡ true
unwritten-ends (WriteFailed conn unsent) is = refl
unwritten-ends _ is = absurd (true≢false (sym is))

ending-stores : (e : Event) → is_ending e ≡ true → is_storing e ≡ false
ending-stores (Refused peer) is = refl
ending-stores (Received conn m) is = refl
ending-stores (Closed conn) is = refl
ending-stores (ReadFailed conn) is = refl
ending-stores (Bad conn) is = refl
ending-stores (WriteFailed conn unsent) is = refl
ending-stores _ is = absurd (true≢false (sym is))

-- with what an event ends what was asked
abbrev pub EndsWith : Setting → State → Event → Asked → Reply → Type 0
EndsWith g before e asked reply = (is_ending e ≡ true) × (Was before.requests asked → FitsReply g reply asked)

-- ---- through the rules

abbrev pub call_view : Setting → State → Event → View
call_view g before e = record {
  setting = g;
  event = e;
  Dialled = λ c d. Unit {0};
  Answers = λ c m. Unit {0};
  Known = IsKnown g before;
  Fails = λ class. (is_ending e ≡ true) × IsFailing g class;
  Ends = EndsWith g before e;
  Starts = StartsBy g before e;
  Speaks = λ c version. Unit {0};
  Fits = λ c ids. Unit {0};
  Keeps = λ l s. Waits l s × Goes g before e l (event_parts s);
}

all-unit : {A : Type 0} (xs : List A) → AllOf (λ (x : A). Unit {0}) xs
all-unit [] = tt
all-unit (x ∷ xs) = (tt, all-unit xs)

all-from : (g : Setting) (before : State) (e : Event) (ts : List Living) → AllOf (λ (u : Living). IsFrom (call_view g before e) u.origin) ts
all-from g before e [] = tt
all-from g before e (u ∷ ts) = (one u.origin, all-from g before e ts)
  where
    one : (o : Origin) → IsFrom (call_view g before e) o
    one OfRoot = tt
    one (OfCall c n) = tt

-- a call that passed the tests starts what is selected on its object
call-starts : (g : Setting) (before : State) (e : Event) (l : List Owed) (s : State) (p : ParkedFrame) (target : ObjId) (method fuel : ℕ) (arguments : List Value) (o : Object) (selected : ℕ) → is_ending e ≡ true → Goes g before e l (event_parts s) → IsKnown g before p
    → p.frame ≡ CallFrame target method fuel arguments → object_at s target ≡ Some o → g.classes.selected o.class method ≡ Some selected
    → IsCallOf g before selected (Rattle.space_ids.specs.declared.value.Value.TheVariants.Ref (record { space = g.id; id = target; class = o.class }) ∷ arguments)
call-starts g before e l s p target method fuel arguments o selected going k known is stands finds =
    let passes : CallPasses g before target method arguments = subst (FrameFits g before p.number) is known in
    let there : object_at before target ≡ Some o = ap (λ (store : List Stored). find (λ (x : Object). is_id x.id target) (standing store)) (sym (k.store (ending-stores e going))) ∙ stands in
    record {
      target = target;
      object = o;
      method = method;
      arguments = arguments;
      there = there;
      selects = finds;
      may = passes.may o there;
      fits = passes.fits;
      remote = passes.remote;
      values_are = refl;
    }

pub call_flow : (g : Setting) (before : State) (e : Event) → Flows (call_view g before e)
call_flow g before e = record {
  known = λ l s k. k.1.frames;
  dialled = λ l s k. all-unit s.connections;
  origins = λ l s k. all-from g before e s.tasks;
  sided = λ p a. tt;
  fails = λ asked class a. (a.0, λ was. fails-fit g class a.1 asked);
  starts = λ l s p target method fuel arguments o n going k known is stands finds. call-starts g before e l s p target method fuel arguments o n going k.1 known is stands finds;
  gives = λ p value fuel asked is known eq has. (is, result-ends g before p value fuel asked known eq has);
  refuses = λ c n class is. tt;
  finds = λ c n name r is own. tt;
  speaks = λ c version. tt;
  fits = λ c ids. tt;
  quiet = λ l s u eq k. (W.quiet l s u (ap (λ (c : EventParts). record { calls_made = c.calls_made; tasks_made = c.tasks_made; tasks = c.tasks; requests = c.requests; fresh = c.fresh; results = c.results; connections = c.connections; parked = c.parked }) eq) k.0, subst (Goes g before e l) (sym eq) k.1);
  says = λ l s output is so k. (W.quiet l s _ refl k.0, same _ refl refl refl refl refl k.1);
  sends = λ l s turn c m may held k. (W.quiet l s _ refl k.0, same _ refl refl refl refl refl k.1);
  clears = λ s k. (W.quiet [] s _ refl k.0, same _ refl refl refl refl refl k.1);
  stores = λ l s store is k. (W.quiet l s _ refl k.0, record { requests = k.1.requests; fresh = k.1.fresh; owed = k.1.owed; frames = k.1.frames; given = k.1.given; store = λ no. absurd (true≢false (sym is ∙ no)) });
  adds = λ l s q k. (W.adds l s q k.0, goes k.1.owed.1 (requests-are s _ (all-more (Asks g before e) s.requests q k.1.requests k.1.owed.0) k.1));
  calls_out = λ l s turn c peer n id lent kind m there k.
      let q : Request = record { peer = peer; asked = Calls n id lent kind m; stage = Out c 0 } in
      (W.quiet l (record s { requests = s.requests ++ q ∷ [] }) _ refl (W.adds l s q k.0), same _ refl refl refl refl refl (goes k.1.owed.1 (requests-are s (s.requests ++ q ∷ []) (all-more (Asks g before e) s.requests q k.1.requests k.1.owed.0) k.1)));
  looks_out = λ l s turn c peer n id name there k.
      let q : Request = record { peer = peer; asked = LooksUp n id name; stage = Out c 0 } in
      (W.quiet l (record s { requests = s.requests ++ q ∷ [] }) _ refl (W.adds l s q k.0), same _ refl refl refl refl refl (goes k.1.owed.1 (requests-are s (s.requests ++ q ∷ []) (all-more (Asks g before e) s.requests q k.1.requests k.1.owed.0) k.1)));
  tells = λ l s q call group eq k. (W.tells l s q call group eq k.0, requests-are s _ (all-more (Asks g before e) s.requests q k.1.requests (subst (IsAsked g before e) (sym eq) (inr tt))) k.1);
  told = λ l s peer call group k. (W.told l s peer call group k.0, goes k.1.owed.1 k.1);
  unfresh = λ l s k. (W.unfresh l s k.0, record { requests = k.1.requests; fresh = tt; owed = all-removed g before e s.fresh l k.1.fresh k.1.owed; frames = k.1.frames; given = k.1.given; store = k.1.store });
  removes = λ l s is k. (W.removes l s is k.0, goes (all-removed g before e (filter is s.requests) l (all-filter (Asks g before e) is s.requests k.1.requests) k.1.owed) (requests-are s _ (all-filter (Asks g before e) (λ q. not (is q)) s.requests k.1.requests) k.1));
  sorts = λ l s is rs k.
      let x = of-removed g before e rs l k.1.owed in
      (W.sorts l s is rs k.0, goes (all-removed g before e (filter (λ q. not (is q)) rs) (removed (filter is rs) ++ l) (all-filter (Asks g before e) (λ q. not (is q)) rs x.0) (all-removed g before e (filter is rs) l (all-filter (Asks g before e) is rs x.0) x.1)) k.1);
  removes_one = λ l s finds is n q eq passes has k. (W.removes_one l s finds is n q eq passes has k.0, goes (all-found (Asks g before e) finds s.requests q eq k.1.requests, k.1.owed) (requests-are s _ (all-filter (Asks g before e) (λ p. not (is p)) s.requests k.1.requests) k.1));
  removes_told = λ l s dirty c sequence k. (W.removes_told l s dirty c sequence k.0, requests-are s _ (all-filter (Asks g before e) (λ q. not (Frames.tells_on dirty c sequence q)) s.requests k.1.requests) k.1);
  answers = λ l s c n k. (W.answers l s c n k.0, requests-are s _ (all-map (Asks g before e) (Asks g before e) (Frames.answered_on c n) s.requests (λ q a. answered c q a (ParkedFrames.is_call_on c n q)) k.1.requests) k.1);
  begins = λ l s origin method arguments fuel going at k. (
    W.begins l s origin method arguments fuel k.0,
    record { requests = k.1.requests; fresh = k.1.fresh; owed = from-owed g before e origin l k.1.owed; frames = k.1.frames; given = k.1.given; store = k.1.store },
  );
  ends = λ l s id v over is k. (W.ends l s id v is k.0, same _ refl refl refl refl refl (goes (to-owed g before e v.origin l k.1.owed) k.1));
  replies = λ l s peer n id lent kind m reply v may is k. (W.replies l s peer n id lent kind m reply v is k.0, same _ refl refl refl refl refl (goes k.1.owed.1 k.1));
  replies_none = λ l s peer n id lent kind m is k. (W.replies_none l s peer n id lent kind m is k.0, goes k.1.owed.1 k.1);
  looked_up = λ l s peer n id name reply may k. (W.quiet l s _ refl (W.looked_up l s peer n id name k.0), same _ refl refl refl refl refl (goes k.1.owed.1 k.1));
  works = λ l s id v f lent row ready is k. (W.works l s id v f row ready is k.0, same _ refl refl refl refl refl k.1);
  keeps = λ l s until value k. (W.keeps l s until value k.0, same _ refl refl refl refl refl (goes (until-owed g before e until l k.1.owed) k.1));
  results_go = λ l s is goes k. (W.results_go l s is k.0, same _ refl refl refl refl refl k.1);
  falls = λ l s c n k. (W.falls l s c n k.0, goes k.1.owed.1 k.1);
  row = λ l s c f a b d k. (W.row l s c f a b d k.0, same _ refl refl refl refl refl k.1);
  counts = λ l s c n d there is low k. (W.counts l s c n d is low k.0, same _ refl refl refl refl refl (goes (tt, k.1.owed) k.1));
  parks_call = λ l s p going known is k. (W.parks_call l s p is k.0, goes k.1.owed.1 (frames-are s _ (all-more (IsKnown g before) s.parked p k.1.frames known) k.1));
  parks_result = λ l s p known is k. (W.parks_result l s p is k.0, frames-are s _ (all-more (IsKnown g before) s.parked p k.1.frames known) k.1);
  takes = λ l s p k. (W.takes l s p k.0, frames-are s _ (all-filter (IsKnown g before) (λ q. not (ParkedFrames.is_parked_at p.conn p.number q)) s.parked k.1.frames) k.1);
  takes_call = λ l s p q is call k. (W.takes_call l s p q is call k.0, goes (tt, k.1.owed) (frames-are s _ (all-filter (IsKnown g before) (λ x. not (ParkedFrames.is_parked_at p.conn p.number x)) s.parked k.1.frames) k.1));
  closes = λ l s c why k. (W.closes l s c k.0, same _ refl refl refl refl refl k.1);
}
  where
    W : Rattle.sp_laws.proofs.FlowRules.Flows g Waits
    W = waits_flow g

    answered : (c : ℕ) (q : Request) → Asks g before e q → (b : Bool) → Asks g before e (if◌then◌else◌ {A = Request} b (record q { stage = Answered c }) q)
    answered c q a true = a
    answered c q a false = a

-- ---- what an event brings

-- each of what rises is no more than the last
none-above : (n last : ℕ) (os : List Object) → RisesWithin n last (map (λ (o : Object). o.id.0) os) → (n ≤ last) × AllOf (λ (o : Object). o.id.0 ≤ last) os
none-above n last [] r = (r, tt)
none-above n last (o ∷ os) r =
    let rest = none-above o.id.0 last os r.1 in
    let a : n + 1 ≤ o.id.0 = r.0 in
    let b : o.id.0 ≤ last = rest.0 in
    (omega arith, (b, rest.1))

or-left : (a b : Bool) → a || b ≡ false → a ≡ false
or-left true b e = absurd (true≢false e)
or-left false b e = refl

or-right : (a b : Bool) → a || b ≡ false → b ≡ false
or-right true b e = absurd (true≢false e)
or-right false b e = e

not-false : (b : Bool) → not b ≡ false → b ≡ true
not-false true e = refl
not-false false e = absurd (true≢false e)

-- references that are not refused are of remote classes
unrefused : (g : Setting) (s : State) (refs : List Ref) → list_any (Holders.is_refused g s) refs ≡ false → AreRemote g refs
unrefused g s [] e = tt
unrefused g s (r ∷ refs) e =
    (not-false (g.classes.is_remote r.class) (or-left (not (g.classes.is_remote r.class)) _ (or-left (Holders.is_refused g s r) _ e)), unrefused g s refs (or-right (Holders.is_refused g s r) _ e))

-- the request that is found is the only one of its number
no-number : (k : ℕ) (rs : List Request) (asked : Asked) → asked_sum (one_of k) rs ≡ 0 → AllOf (λ (p : Request). ParkedFrames.has_number k p.asked ≡ true → p.asked ≡ asked) rs
no-number k [] asked none = tt
no-number k (p ∷ rs) asked none = ((λ has. absurd (let a : count (ParkedFrames.has_number k p.asked) ≡ 1 = ap count has in omega (arith, none))), no-number k rs asked (omega (arith, none)))

found-counts : (k : ℕ) (finds : Request → Bool) (rs : List Request) (q : Request) → find finds rs ≡ Some q → ParkedFrames.has_number k q.asked ≡ true → 1 ≤ asked_sum (one_of k) rs
found-counts k finds rs q is has =
    let a : count (ParkedFrames.has_number k q.asked) ≡ 1 = ap count has in
    let b : value_in (λ (p : Request). one_of k p.asked) (find finds rs) + total (λ (p : Request). one_of k p.asked) (filter (λ p. not (finds p)) rs) ≤ asked_sum (one_of k) rs = total-find (λ (p : Request). one_of k p.asked) finds rs in
    let c : value_in (λ (p : Request). one_of k p.asked) (find finds rs) ≡ one_of k q.asked = found-value (λ (p : Request). one_of k p.asked) (find finds rs) q is in
    omega (arith, a, b, c)

one-number : (k : ℕ) (finds : Request → Bool) (rs : List Request) (q : Request) → find finds rs ≡ Some q → ParkedFrames.has_number k q.asked ≡ true → asked_sum (one_of k) rs ≤ 1 → AllOf (λ (p : Request). ParkedFrames.has_number k p.asked ≡ true → p.asked ≡ q.asked) rs
one-number k finds [] q is has few = tt
one-number k finds (p ∷ rs) q is has few = pick (finds p) is (one-number k finds rs q)
  where
    pick : (b : Bool) → cond b (Some p) (find finds rs) ≡ Some q → (find finds rs ≡ Some q → ParkedFrames.has_number k q.asked ≡ true → asked_sum (one_of k) rs ≤ 1 → AllOf (λ (x : Request). ParkedFrames.has_number k x.asked ≡ true → x.asked ≡ q.asked) rs)
        → AllOf (λ (x : Request). ParkedFrames.has_number k x.asked ≡ true → x.asked ≡ q.asked) (p ∷ rs)
    pick true f rest =
        let same : p.asked ≡ q.asked = ap (λ (x : Request). x.asked) (some-same f) in
        let a : count (ParkedFrames.has_number k p.asked) ≡ 1 = ap (one_of k) same ∙ ap count has in
        ((λ x. same), no-number k rs q.asked (omega (arith, few, a)))
    pick false f rest =
        let more : 1 ≤ asked_sum (one_of k) rs = found-counts k finds rs q f has in
        ((λ x. absurd (let a : count (ParkedFrames.has_number k p.asked) ≡ 1 = ap count x in omega (arith, few, a, more))), rest f has (omega (arith, few)))

small : (b : Bool) → count b ≤ 1
small true = omega arith
small false = omega arith

is-one : (b : Bool) → 1 ≤ count b → b ≡ true
is-one true le = refl
is-one false le = absurd (omega (arith, le))

-- a result that came fits what was asked under its number
came-fits : (g : Setting) (s : State) (conn number : ℕ) (value : Option Value) (fuel : ℕ) (q : Request) → Waits [] s → find (ParkedFrames.is_asked_on conn number) s.requests ≡ Some q → Frames.fits_asked q.asked value fuel ≡ true → list_any (Holders.is_refused g s) (references_in value) ≡ false → ResultFits g s number value fuel
came-fits g s conn number value fuel q waits found fits names =
    let has : ParkedFrames.has_number number q.asked ≡ true = and-right (ParkedFrames.is_unanswered_on conn q.stage) _ (found-is (ParkedFrames.is_asked_on conn number) s.requests q found) in
    let sum : flow_sum (one_of number) [] s ≤ count (nat_le number s.calls_made) = waits.numbers number in
    let some : 1 ≤ asked_sum (one_of number) s.requests = found-counts number (ParkedFrames.is_asked_on conn number) s.requests q found has in
    let few : count (nat_le number s.calls_made) ≤ 1 = small (nat_le number s.calls_made) in
    record {
      given = leb-true number s.calls_made (is-one (nat_le number s.calls_made) (omega (arith, sum, some)));
      fits = all-weaken (λ (p : Request). ParkedFrames.has_number number p.asked ≡ true → p.asked ≡ q.asked) (λ (p : Request). ParkedFrames.has_number number p.asked ≡ true → FitsAsked g value fuel p.asked) s.requests
          (λ p one x. subst (FitsAsked g value fuel) (sym (one x)) (fits, unrefused g s (references_in value) names))
          (one-number number (ParkedFrames.is_asked_on conn number) s.requests q found has (omega (arith, sum, few)));
    }

-- a call that came passed the tests
came-passes : (g : Setting) (s : State) (target : ObjId) (o : Object) (method : ℕ) (arguments : List Value) → Fresh s → object_at s target ≡ Some o → g.classes.may_call o.class method ≡ true → fit_kinds (g.classes.parameters method) arguments ≡ true → list_any (Holders.is_refused g s) (references_of arguments) ≡ false
    → CallPasses g s o.id method arguments
came-passes g s target o method arguments numbers stands may fits names =
    let here : o.id ≡ target = one-id o.id target (found-is (λ (x : Object). is_id x.id target) (standing s.store) o stands) in
    record {
      made = all-found (λ (x : Object). x.id.0 ≤ s.objects_made) (λ (x : Object). is_id x.id target) (standing s.store) o stands (none-above 0 s.objects_made (standing s.store) numbers.0).1;
      may = λ x there. subst (λ (y : Object). g.classes.may_call y.class method ≡ true) (some-same (sym stands ∙ ap (object_at s) (sym here) ∙ there)) may;
      fits = fits;
      remote = unrefused g s (references_of arguments) names;
    }

pub call-begin : (g : Setting) (s : State) (e : Event) → s.fresh ≡ [] → Waits [] s → Fresh s → Begins (call_view g s e) s
call-begin g s e none waits numbers = record {
  opens = λ c dialled is k. (B.opens c dialled is k.0, same _ refl refl refl refl refl k.1);
  parks = λ id n v target method arguments is ready stands k. (
    B.parks id n v target method arguments is ready stands k.0,
    record {
      requests = k.1.requests;
      fresh = (inr (omega arith, record { made = n; is = is; row = v; ready = ready; at = record { target = target; method = method; arguments = arguments; stands = stands; lends = refl; gives = refl } }), tt);
      owed = tt;
      frames = k.1.frames;
      given = omega arith;
      store = k.1.store;
    },
  );
  looks = λ peer name is k. (B.looks peer name is k.0, record { requests = k.1.requests; fresh = (inr (omega arith), tt); owed = tt; frames = k.1.frames; given = omega arith; store = k.1.store });
  roots = λ method arguments fuel is. (fuel, is);
  unmarshal = λ is. (is, inl refl);
  connect = λ is. (unreached-ends e is, inr (inl refl));
  marshal = λ is. (unwritten-ends e is, inr (inr refl));
  threw = λ c n class is q found has. (ap is_ending is, λ was. thrown-fits g class q.asked);
  spent = λ c n is q found has. (ap is_ending is, λ was. spent-fits g q.asked);
  finished = λ id n v outcome c m is ready stands origin. tt;
  call_came = λ p target o method fuel arguments is there stands may fits names. subst (FrameFits g s p.number) (sym is) (came-passes g s target o method arguments numbers stands may fits names);
  result_came = λ p value fuel is frame there q found fits names. subst (FrameFits g s p.number) (sym frame) (came-fits g s p.conn p.number value fuel q waits found fits names);
}
  where
    B : Rattle.sp_laws.proofs.FlowRules.Begins g Waits s e
    B = waits-begin g s e none

-- as an event begins
pub call-start : (g : Setting) (s : State) (e : Event) → s.fresh ≡ [] → Waits [] s → AllOf (IsKnown g s) s.parked → Waits [] s × Goes g s e [] (event_parts s)
call-start g s e none waits known = (
  waits,
  record {
    requests = all-weaken (λ (q : Request). Was s.requests q.asked) (Asks g s e) s.requests (λ q was. inl was) (each-was s.requests);
    fresh = subst (AllOf (Asks g s e)) (sym none) tt;
    owed = tt;
    frames = known;
    given = omega arith;
    store = λ no. refl;
  },
)
