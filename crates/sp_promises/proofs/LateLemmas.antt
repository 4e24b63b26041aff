-- What happens in a world makes the same of one of whose outputs the last are kept.
use Rattle.std.proofs.Common.{◌≡◌, ◌∙◌, ◌+◌, ℕ, zero, suc, Bool, true, false, List, [], ◌∷◌, ◌++◌, Option, None, Some, refl, sym, ap, subst, length, cond, not, ltb}
use Rattle.std.specs.Prelude.{slice_get, if◌then◌else◌}
use Rattle.std.specs.List.{prefix_len}
use Rattle.std.specs.Str.{bytes_eq}
use Rattle.std.proofs.lemmas.List.{append_assoc, append-nil}
use Rattle.net_message.specs.declared.message.Message.{Message}
use Rattle.uuid.specs.declared.Uuid.{Uuid}
use Rattle.sp_promises.specs.WorldRuns.{AreLate, IsLate, IsSameWorld}
use Rattle.sp_rules.specs.Classes.{Setting}
use Rattle.sp_rules.specs.Events.{Event, Output, Started, Ended, Withdrawn, Denied, Send, Dial, Close, Ready, ReadFailed, WriteFailed, Opened, Refused, Received, Closed}
use Rattle.sp_rules.specs.Lists.{each, with_some, at_index}
use Rattle.sp_rules.specs.Refusals.{NotLent, refusal}
use Rattle.sp_rules.specs.Space.{on}
use Rattle.sp_rules.specs.State.{State, task_at}
use Rattle.sp_rules.specs.Worlds as rules
use Rattle.sp_rules.specs.Worlds.{World, Space, End, Pipe, grown, put, acts, act, take_event, lent_for, number_of, asks_for, after, happens, run, WorldEvent, Own, Step, Open, Refuse, Accept, Deliver, ReadFails, WriteFails}
use Rattle.sp_world.specs.Forgotten.{silent, without_outputs}

-- ---- a space

late-is : (whole kept : Space) → IsLate whole kept → record whole { outputs = kept.outputs } ≡ kept
late-is whole kept late =
    ap {A = Setting} {B = Space} (λ x. record { setting = x; history = whole.history; state = whole.state; outputs = kept.outputs }) (sym late.setting)
    ∙ ap {A = List Event} {B = Space} (λ x. record { setting = kept.setting; history = x; state = whole.state; outputs = kept.outputs }) (sym late.history)
    ∙ ap {A = State} {B = Space} (λ x. record { setting = kept.setting; history = kept.history; state = x; outputs = kept.outputs }) (sym late.state)

all-kept : (s : Space) → IsLate s s
all-kept s = record { setting = refl; history = refl; state = refl; before = []; outputs = refl }

silent-late : (whole kept : Space) → IsLate whole kept → IsLate whole (silent kept)
silent-late whole kept late = record {
  setting = late.setting;
  history = late.history;
  state = late.state;
  before = late.before ++ kept.outputs;
  outputs = late.outputs ∙ sym (append-nil (late.before ++ kept.outputs));
}

grown-late : (e : Event) (s : Space) (outs before : List Output) → s.outputs ≡ before ++ outs → IsLate (grown e s) (grown e (record s { outputs = outs }))
grown-late e s outs before p = record {
  setting = refl;
  history = refl;
  state = refl;
  before = before;
  outputs = ap (λ (l : List Output). l ++ (on s.setting e s.state).1) p ∙ append_assoc before outs (on s.setting e s.state).1;
}

grown-both : (e : Event) (whole kept : Space) → IsLate whole kept → IsLate (grown e whole) (grown e kept)
grown-both e whole kept late = subst (λ (x : Space). IsLate (grown e whole) (grown e x)) (late-is whole kept late) (grown-late e whole kept.outputs late.before late.outputs)

-- ---- spaces

all-same : (ss : List Space) → AreLate ss ss
all-same [] = tt
all-same (s ∷ ss) = (all-kept s, all-same ss)

at-both : (f : Space → Space) → ((s t : Space) → IsLate s t → IsLate (f s) (f t)) → (i : ℕ) (ss ts : List Space) → AreLate ss ts → AreLate (at_index f i ss) (at_index f i ts)
at-both f k i [] [] a = tt
at-both f k i [] (t ∷ ts) a = absurd a
at-both f k i (s ∷ ss) [] a = absurd a
at-both f k zero (s ∷ ss) (t ∷ ts) a = (k s t a.0, a.1)
at-both f k (suc i) (s ∷ ss) (t ∷ ts) a = (a.0, at-both f k i ss ts a.1)

silent-at : (i : ℕ) (ss ts : List Space) → AreLate ss ts → AreLate ss (at_index silent i ts)
silent-at i [] [] a = tt
silent-at i [] (t ∷ ts) a = absurd a
silent-at i (s ∷ ss) [] a = absurd a
silent-at zero (s ∷ ss) (t ∷ ts) a = (silent-late s t a.0, a.1)
silent-at (suc i) (s ∷ ss) (t ∷ ts) a = (a.0, silent-at i ss ts a.1)

AreLateAt : Option Space → Option Space → Type 0
AreLateAt None None = Unit {0}
AreLateAt None (Some t) = ⊥
AreLateAt (Some s) None = ⊥
AreLateAt (Some s) (Some t) = IsLate s t

there : (i : ℕ) (ss ts : List Space) → AreLate ss ts → AreLateAt (slice_get ss i) (slice_get ts i)
unfolding AreLateAt
there i [] [] a = tt
there i [] (t ∷ ts) a = absurd a
there i (s ∷ ss) [] a = absurd a
there zero (s ∷ ss) (t ∷ ts) a = a.0
there (suc i) (s ∷ ss) (t ∷ ts) a = there i ss ts a.1

-- ---- numbers and ids

abbrev other_id : Uuid → Space → Bool
other_id peer s = not (bytes_eq s.setting.id peer)

prefix-same : (peer : Uuid) (ss ts : List Space) → AreLate ss ts → prefix_len (other_id peer) ts ≡ prefix_len (other_id peer) ss
prefix-same peer [] [] a = refl
prefix-same peer [] (t ∷ ts) a = absurd a
prefix-same peer (s ∷ ss) [] a = absurd a
prefix-same peer (s ∷ ss) (t ∷ ts) a =
    ap (λ (g : Setting). cond (not (bytes_eq g.id peer)) (1 + prefix_len (other_id peer) ts) 0) a.0.setting
    ∙ ap (λ (n : ℕ). cond (other_id peer s) (1 + n) 0) (prefix-same peer ss ts a.1)

length-same : (ss ts : List Space) → AreLate ss ts → length ts ≡ length ss
length-same [] [] a = refl
length-same [] (t ∷ ts) a = absurd a
length-same (s ∷ ss) [] a = absurd a
length-same (s ∷ ss) (t ∷ ts) a = ap suc (length-same ss ts a.1)

number-same : (peer : Uuid) (ss ts : List Space) → AreLate ss ts → number_of ts peer ≡ number_of ss peer
number-same peer ss ts a =
    ap (λ (n : ℕ). cond (ltb n (length ts)) (Some n) None) (prefix-same peer ss ts a)
    ∙ ap (λ (n : ℕ). cond (ltb (prefix_len (other_id peer) ss) n) (Some (prefix_len (other_id peer) ss)) None) (length-same ss ts a)

id-same : (x y : Option Space) → AreLateAt x y → rules.id_in y ≡ rules.id_in x
unfolding AreLateAt
id-same None None a = refl
id-same None (Some t) a = absurd a
id-same (Some s) None a = absurd a
id-same (Some s) (Some t) a = ap (λ (g : Setting). Some g.id) a.setting

-- ---- worlds

same-is : (whole kept : World) → IsSameWorld whole kept → record whole { spaces = kept.spaces } ≡ kept
same-is whole kept same =
    ap {A = List Pipe} {B = World} (λ x. record { spaces = kept.spaces; pipes = x; asked = whole.asked; refused = whole.refused }) (sym same.pipes)
    ∙ ap {A = List (ℕ × ℕ)} {B = World} (λ x. record { spaces = kept.spaces; pipes = kept.pipes; asked = x; refused = whole.refused }) (sym same.asked)
    ∙ ap {B = World} (λ x. record { spaces = kept.spaces; pipes = kept.pipes; asked = kept.asked; refused = x }) (sym same.refused)

pub nothing-forgotten : (w : World) → IsSameWorld w w
nothing-forgotten w = record { spaces = all-same w.spaces; pipes = refl; asked = refl; refused = refl }

pub still-same : (whole kept : World) (i : ℕ) → IsSameWorld whole kept → IsSameWorld whole (without_outputs i kept)
still-same whole kept i same = record { spaces = silent-at i whole.spaces kept.spaces same.spaces; pipes = same.pipes; asked = same.asked; refused = same.refused }

if-same : {t u v w : World} (b : Bool) → IsSameWorld t u → IsSameWorld v w → IsSameWorld (if b then t else v) (if b then u else w)
if-same true e f = e
if-same false e f = f

some-same : {A : Type 0} {t u : World} (x : Option A) (f g : A → World) → IsSameWorld t u → ((a : A) → IsSameWorld (f a) (g a)) → IsSameWorld (with_some x t f) (with_some x u g)
some-same None f g e h = e
some-same (Some a) f g e h = h a

space-same : {t u : World} (x y : Option Space) (f g : Space → World) → AreLateAt x y → IsSameWorld t u → ((s t : Space) → IsLate s t → IsSameWorld (f s) (g t)) → IsSameWorld (with_some x t f) (with_some y u g)
unfolding AreLateAt
space-same None None f g a e h = e
space-same None (Some t) f g a e h = absurd a
space-same (Some s) None f g a e h = absurd a
space-same (Some s) (Some t) f g a e h = h s t a

asks-same : {v w : World} (i : ℕ) (j : Option ℕ) → IsSameWorld v w → IsSameWorld (asks_for i j v) (asks_for i j w)
asks-same i None h = h
asks-same i (Some j) h = record { spaces = h.spaces; pipes = h.pipes; asked = ap (λ (l : List (ℕ × ℕ)). l ++ (i, j) ∷ []) h.asked; refused = h.refused }

put-same : {v w : World} (i : ℕ) (o : Output) → IsSameWorld v w → IsSameWorld (put i v o) (put i w o)
put-same i (Started task) h = h
put-same i (Ended task outcome) h = h
put-same i (Withdrawn ids) h = h
put-same i (Denied why) h = h
put-same i (Send conn m) h = record { spaces = h.spaces; pipes = ap (at_index (λ (p : Pipe). rules.set_side (rules.queue_up m) (rules.other (rules.end_of i p)) p) conn) h.pipes; asked = h.asked; refused = h.refused }
put-same {v} {w} i (Dial peer) h =
    subst (λ (j : Option ℕ). IsSameWorld (asks_for i (number_of v.spaces peer) v) (asks_for i j w)) (sym (number-same peer v.spaces w.spaces h.spaces)) (asks-same i (number_of v.spaces peer) h)
put-same i (Close conn) h = record { spaces = h.spaces; pipes = ap (at_index (λ (p : Pipe). rules.set_side rules.ends (rules.end_of i p) p) conn) h.pipes; asked = h.asked; refused = h.refused }
put-same i (Ready task) h = h

each-same : (i : ℕ) (os : List Output) {v w : World} → IsSameWorld v w → IsSameWorld (each (put i) os v) (each (put i) os w)
unfolding each
each-same i [] h = h
each-same i (o ∷ os) h = each-same i os (put-same i o h)

-- ---- events of a space

take-same : (i : ℕ) (e : Event) (s : Space) (outs : List Output) {v w : World} → IsSameWorld v w → IsSameWorld (take_event i e s v) (take_event i e (record s { outputs = outs }) w)
unfolding take_event
take-same i e s outs {v} {w} h = each-same i (on s.setting e s.state).1
    (record { spaces = at-both (grown e) (grown-both e) i v.spaces w.spaces h.spaces; pipes = h.pipes; asked = h.asked; refused = h.refused })

acts-same : (i : ℕ) (es : List Event) {a b v w : World} → IsSameWorld a b → IsSameWorld v w → IsSameWorld (acts a i es v) (acts b i es w)
unfolding acts
acts-same i [] old now = now
acts-same i (e ∷ es) {a} {b} {v} {w} old now = space-same (slice_get v.spaces i) (slice_get w.spaces i) _ _ (there i v.spaces w.spaces now.spaces) old (λ s t late.
    subst (λ (x : Space). IsSameWorld
    (with_some (refusal s.setting (lent_for e) s.state e) (acts a i es (take_event i e s v)) (λ why. record a { refused = Some why }))
    (with_some (refusal x.setting (lent_for e) x.state e) (acts b i es (take_event i e x w)) (λ why. record b { refused = Some why })))
    (late-is s t late)
    (some-same (refusal s.setting (lent_for e) s.state e) _ _ (acts-same i es old (take-same i e s t.outputs now))
    (λ why. record { spaces = old.spaces; pipes = old.pipes; asked = old.asked; refused = refl })))

step-same : (i id : ℕ) (v : World) (ss : List Space) → AreLate v.spaces ss → IsSameWorld (rules.step_task i id v) (rules.step_task i id (record v { spaces = ss }))
unfolding rules.step_task
step-same i id v ss late = space-same (slice_get v.spaces i) (slice_get ss i) _ _ (there i v.spaces ss late) base (λ s t one.
    subst (λ (x : Space). IsSameWorld
    (with_some (task_at s.state id) (record v { refused = Some NotLent }) (λ t. if t.waits then record v { refused = Some NotLent } else acts v i (rules.step_events id t.task) v))
    (with_some (task_at x.state id) (record v { spaces = ss; refused = Some NotLent }) (λ t. if t.waits then record v { spaces = ss; refused = Some NotLent } else acts (record v { spaces = ss }) i (rules.step_events id t.task) (record v { spaces = ss }))))
    (late-is s t one)
    (some-same (task_at s.state id) _ _ refused (λ t. if-same t.waits refused (acts-same i (rules.step_events id t.task) base base))))
  where
    base : IsSameWorld v (record v { spaces = ss })
    base = record { spaces = late; pipes = refl; asked = refl; refused = refl }

    refused : IsSameWorld (record v { refused = Some NotLent }) (record v { spaces = ss; refused = Some NotLent })
    refused = record { spaces = late; pipes = refl; asked = refl; refused = refl }

-- ---- what happens

-- a world with spaces of whose outputs the last are kept
like : (v : World) (ss : List Space) → AreLate v.spaces ss → IsSameWorld v (record v { spaces = ss })
like v ss late = record { spaces = late; pipes = refl; asked = refl; refused = refl }

happens-same : (e : WorldEvent) (v : World) (ss : List Space) → AreLate v.spaces ss → IsSameWorld (happens e v) (happens e (record v { spaces = ss }))
unfolding rules.open_pipe rules.refuse rules.accept rules.deliver rules.read_fails rules.write_fails
happens-same (Own i e) v ss late = if-same (rules.is_own e) (acts-same i (e ∷ []) (like v ss late) (like v ss late)) (like v ss late)
happens-same (Step i task) v ss late = step-same i task v ss late
happens-same (Open a b) v ss late = if-same (rules.is_asked a b v)
    (subst (λ (x : Option Uuid). IsSameWorld (act v a (Opened (length v.pipes) (rules.id_at b v)) opened) (act (record v { spaces = ss }) a (Opened (length v.pipes) x) (record opened { spaces = ss })))
    (sym (id-same (slice_get v.spaces b) (slice_get ss b) (there b v.spaces ss late)))
    (acts-same a (Opened (length v.pipes) (rules.id_at b v) ∷ []) (like v ss late) (like opened ss late)))
    (like v ss late)
  where
    opened : World
    opened = record v { asked = rules.without_pair a b v.asked; pipes = v.pipes ++ rules.new_pipe a b ∷ [] }
happens-same (Refuse a b) v ss late = if-same (rules.is_asked a b v)
    (subst (λ (x : Option Uuid). IsSameWorld (rules.refuse_to v a (rules.id_at b v) told) (rules.refuse_to (record v { spaces = ss }) a x (record told { spaces = ss })))
    (sym (id-same (slice_get v.spaces b) (slice_get ss b) (there b v.spaces ss late)))
    (to (rules.id_at b v)))
    (like v ss late)
  where
    told : World
    told = record v { asked = rules.without_pair a b v.asked }

    to : (peer : Option Uuid) → IsSameWorld (rules.refuse_to v a peer told) (rules.refuse_to (record v { spaces = ss }) a peer (record told { spaces = ss }))
    to None = like v ss late
    to (Some peer) = acts-same a (Refused peer ∷ []) (like v ss late) (like told ss late)
happens-same (Accept conn) v ss late = some-same (slice_get v.pipes conn) _ _ (like v ss late) (λ p. at p.accepter.space p.accepter.phase)
  where
    at : (space : ℕ) (phase : rules.Phase) → IsSameWorld (rules.accept_at conn v space phase) (rules.accept_at conn (record v { spaces = ss }) space phase)
    at space rules.Unopened = acts-same space (Opened conn None ∷ []) (like v ss late) (like (rules.on_side rules.begin_side conn rules.Accepter v) ss late)
    at space rules.Live = like v ss late
    at space rules.Over = like v ss late
happens-same (Deliver conn to) v ss late = some-same (slice_get v.pipes conn) _ _ (like v ss late) (λ p.
    if-same (rules.is_live (rules.side to p).phase) (first (rules.side to p).space (rules.is_ended (rules.side (rules.other to) p).phase) (rules.side to p).queue) (like v ss late))
  where
    first : (space : ℕ) (over : Bool) (queue : List Message) → IsSameWorld (rules.deliver_first conn to v space over queue) (rules.deliver_first conn to (record v { spaces = ss }) space over queue)
    first space over (m ∷ ms) = acts-same space (Received conn m ∷ []) (like v ss late) (like (rules.on_side rules.take_front conn to v) ss late)
    first space true [] = acts-same space (Closed conn ∷ []) (like v ss late) (like (rules.on_side rules.ends conn to v) ss late)
    first space false [] = like v ss late
happens-same (ReadFails conn at) v ss late = some-same (slice_get v.pipes conn) _ _ (like v ss late) (λ p.
    if-same (rules.is_live (rules.side at p).phase) (acts-same (rules.side at p).space (ReadFailed conn ∷ []) (like v ss late) (like (rules.on_side rules.ends conn at v) ss late)) (like v ss late))
happens-same (WriteFails conn at unsent) v ss late = some-same (slice_get v.pipes conn) _ _ (like v ss late) (λ p.
    if-same (rules.is_live (rules.side at p).phase)
    (acts-same (rules.side at p).space (WriteFailed conn (rules.lost unsent at p) ∷ []) (like v ss late)
    (like (rules.on_side rules.ends conn at (rules.on_side (rules.cut_end (rules.lost unsent at p)) conn (rules.other at) v)) ss late)) (like v ss late))

after-same : (e : WorldEvent) {v w : World} → IsSameWorld v w → IsSameWorld (after v e) (after w e)
unfolding after
after-same e {v} {w} h = subst (λ (x : World). IsSameWorld (happens e (record v { refused = None })) (happens e (record x { refused = None }))) (same-is v w h)
    (happens-same e (record v { refused = None }) w.spaces h.spaces)

pub run-same : (es : List WorldEvent) {v w : World} → IsSameWorld v w → IsSameWorld (run v es) (run w es)
unfolding run
run-same [] h = h
run-same (e ∷ es) h = run-same es (after-same e h)
