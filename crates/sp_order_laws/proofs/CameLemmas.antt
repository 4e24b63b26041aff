-- A result that waits for leases came on its connection, through every event.
use mathlib.Core.Path.{sym, ap, subst}
use Rattle.std.proofs.Common.{inl, inr}
use Rattle.std.proofs.lemmas.Bool.{true≢false, eq-eqb}
use Rattle.std.specs.Prelude.{◌≡◌, refl, ℕ, ◌==◌, not, Bool, true, false, List, [], ◌∷◌, ◌++◌, Option, if◌then◌else◌}
use Rattle.net_message.specs.declared.message.Message.TheVariants as message
use Rattle.space_ids.specs.declared.value.Value.{Value}
use Rattle.sp_rules.specs.Classes.{Setting}
use Rattle.sp_rules.specs.Events.{Event, Received}
use Rattle.sp_rules.specs.Frames
use Rattle.sp_rules.specs.Laws.{AllOf}
use Rattle.sp_rules.specs.ParkedFrames
use Rattle.sp_rules.specs.Space
use Rattle.sp_rules.specs.State.{State, Living, Origin, OfRoot, OfCall, Frame, CallFrame, ReturnedFrame, ParkedFrame, opening}
use Rattle.sp_rules.proofs.AllLemmas.{all-weaken, all-more, all-filter}
use Rattle.sp_laws.proofs.EventRules.{View, Flows, Begins, EventParts, IsFrom, on_flow}
use Rattle.sp_order_laws.specs.Delivered.{came_on, frame_of}
use Rattle.sp_order_laws.specs.Ends.{IsOneOf, CameAs, ParkedResultsCame}

-- ---- one of a list

pub one-left : {A : Type 0} (x : A) (xs ys : List A) → IsOneOf x xs → IsOneOf x (xs ++ ys)
one-left x [] ys a = absurd a
one-left x (z ∷ zs) ys (inl e) = inl e
one-left x (z ∷ zs) ys (inr a) = inr (one-left x zs ys a)

pub one-right : {A : Type 0} (x : A) (xs ys : List A) → IsOneOf x ys → IsOneOf x (xs ++ ys)
one-right x [] ys a = a
one-right x (z ∷ zs) ys a = inr (one-right x zs ys a)

-- ---- through the rules

abbrev Came : List Event → ParkedFrame → Type 0
Came h p = CameAs h p p.frame

abbrev view : Setting → Event → List Event → View
view g e h = record {
  setting = g;
  event = e;
  Dialled = λ c d. Unit {0};
  Answers = λ c m. Unit {0};
  Known = Came (e ∷ h);
  Fails = λ c. Unit {0};
  Ends = λ a r. Unit {0};
  Starts = λ o n a. Unit {0};
  Speaks = λ c version. Unit {0};
  Fits = λ c ids. Unit {0};
  Keeps = λ l s. AllOf (Came (e ∷ h)) s.parked;
}

all-unit : {A : Type 0} (xs : List A) → AllOf (λ (x : A). Unit {0}) xs
all-unit [] = tt
all-unit (x ∷ xs) = (tt, all-unit xs)

all-from : (g : Setting) (e : Event) (h : List Event) (ts : List Living) → AllOf (λ (t : Living). IsFrom (view g e h) t.origin) ts
all-from g e h [] = tt
all-from g e h (t ∷ ts) = (one t.origin, all-from g e h ts)
  where
    one : (o : Origin) → IsFrom (view g e h) o
    one OfRoot = tt
    one (OfCall c n) = tt

came_flow : (g : Setting) (e : Event) (h : List Event) → Flows (view g e h)
came_flow g e h = record {
  known = λ l s k. k;
  dialled = λ l s k. all-unit s.connections;
  origins = λ l s k. all-from g e h s.tasks;
  sided = λ p a. tt;
  fails = λ asked class a. tt;
  starts = λ l s p target method fuel arguments o n going k known is stands finds. tt;
  gives = λ p value fuel asked is a b c. tt;
  refuses = λ c n class is. tt;
  finds = λ c n name r is own. tt;
  speaks = λ c version. tt;
  fits = λ c ids. tt;
  quiet = λ l s t eq k. subst (λ (c : EventParts). AllOf (Came (e ∷ h)) c.parked) (sym eq) k;
  says = λ l s output is so k. k;
  sends = λ l s turn c m may held k. k;
  clears = λ s k. k;
  stores = λ l s store is k. k;
  adds = λ l s q k. k;
  calls_out = λ l s turn c peer number task lent kind m there k. k;
  looks_out = λ l s turn c peer number task name there k. k;
  tells = λ l s q call group eq k. k;
  told = λ l s peer call group k. k;
  unfresh = λ l s k. k;
  removes = λ l s is k. k;
  sorts = λ l s is rs k. k;
  removes_one = λ l s finds is n q eq passes has k. k;
  removes_told = λ l s dirty c sequence k. k;
  answers = λ l s c n k. k;
  begins = λ l s origin method arguments fuel going at k. k;
  ends = λ l s id t over is k. k;
  replies = λ l s peer number task lent kind m reply t may is k. k;
  replies_none = λ l s peer number task lent kind m is k. k;
  looked_up = λ l s peer number task name reply may k. k;
  works = λ l s id t f lent row ready is k. k;
  keeps = λ l s until value k. k;
  results_go = λ l s is goes k. k;
  falls = λ l s c n k. k;
  row = λ l s at f num last dialled k. k;
  counts = λ l s at number c there is low k. k;
  parks_call = λ l s p going known is k. all-more (Came (e ∷ h)) s.parked p k known;
  parks_result = λ l s p known is k. all-more (Came (e ∷ h)) s.parked p k known;
  takes = λ l s p k. all-filter (Came (e ∷ h)) (λ q. not (ParkedFrames.is_parked_at p.conn p.number q)) s.parked k;
  takes_call = λ l s p q is call k. all-filter (Came (e ∷ h)) (λ x. not (ParkedFrames.is_parked_at p.conn p.number x)) s.parked k;
  closes = λ l s at why k. k;
}

came-begin : (g : Setting) (s : State) (e : Event) (h : List Event) → Begins (view g e h) s
came-begin g s e h = record {
  opens = λ c dialled is k. k;
  parks = λ id n t target method arguments is ready stands k. k;
  looks = λ peer name is k. k;
  roots = λ method arguments fuel is. tt;
  unmarshal = λ is. tt;
  connect = λ is. tt;
  marshal = λ is. tt;
  threw = λ c n class is q found has. tt;
  spent = λ c n is q found has. tt;
  finished = λ id n t outcome c m is ready stands origin. tt;
  call_came = λ p target o method passed arguments is there stands may fit names. call p p.frame (ap Frames.is_call_frame is);
  result_came = λ p value fuel is frame there q found fits names. subst (CameAs (e ∷ h) p) (sym frame) (now p value fuel is);
}
  where
    call : (p : ParkedFrame) (f : Frame) → Frames.is_call_frame f ≡ true → CameAs (e ∷ h) p f
    call p (CallFrame target method fuel arguments) is = tt
    call p (ReturnedFrame value fuel) is = absurd (true≢false (sym is))

    now : (p : ParkedFrame) (value : Option Value) (fuel : ℕ) → e ≡ Received p.conn (message.Returned p.number fuel value) → IsOneOf (message.Returned p.number fuel value) (came_on p.conn (e ∷ h))
    now p value fuel is = one-right (message.Returned p.number fuel value) (came_on p.conn h) (frame_of p.conn e) (subst (λ d. IsOneOf (message.Returned p.number fuel value) (frame_of p.conn d)) (sym is) (here (p.conn == p.conn) (eq-eqb p.conn p.conn refl)))
      where
        here : (b : Bool) → b ≡ true → IsOneOf (message.Returned p.number fuel value) (if b then message.Returned p.number fuel value ∷ [] else [])
        here true f = inl refl
        here false f = absurd (true≢false (sym f))

-- what came before came
wider : (e : Event) (h : List Event) (p : ParkedFrame) → Came h p → Came (e ∷ h) p
wider e h p a = by p.frame a
  where
    by : (f : Frame) → CameAs h p f → CameAs (e ∷ h) p f
    by (CallFrame target method fuel arguments) b = tt
    by (ReturnedFrame value fuel) b = one-left (message.Returned p.number fuel value) (came_on p.conn h) (frame_of p.conn e) b

pub parked_results_came : ParkedResultsCame
unfolding Space.state_of opening
parked_results_came g [] = tt
parked_results_came g (e ∷ h) = on_flow (came_flow g e h) (Space.state_of g h) (came-begin g (Space.state_of g h) e h) (all-weaken (Came h) (Came (e ∷ h)) (Space.state_of g h).parked (λ p a. wider e h p a) (parked_results_came g h))
