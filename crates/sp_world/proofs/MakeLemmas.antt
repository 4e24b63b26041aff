-- What is made of a value that stands for a world, by what a space was told.
use Rattle.std.proofs.Common.{◌≡◌, ◌∙◌, ℕ, ◌⊎◌, inl, inr, Bool, true, false, List, Option, None, Some, refl, sym, ap, subst, set, drop, map}
use Rattle.std.specs.Prelude.{Result, Ok, Err, IfOk, IfErr, OnErr, is_err, is_none, slice_get}
use Rattle.std.proofs.lemmas.Bool.{true≢false}
use Rattle.sp_rules.specs.Classes.{Setting}
use Rattle.sp_rules.specs.Events.{Event}
use Rattle.sp_rules.specs.Lists.{with_some}
use Rattle.sp_rules.specs.Refusals.{Refusal}
use Rattle.sp_rules.specs.State.{State}
use Rattle.sp_rules.specs.Worlds as rules
use Rattle.sp_rules.specs.Worlds.{act, step_task}
use Rattle.sp_events.specs.FaultNames.{RefusesOrLacks}
use Rattle.sp_events.specs.declared.fault.CoreFault.{CoreFault}
use Rattle.sp_events.specs.declared.fault.CoreFault.TheVariants as fault
use Rattle.sp_outputs.specs.Notes.{output_of}
use Rattle.sp_outputs.specs.declared.output.Output.{Output}
use Rattle.sp_pipes.specs.Connections.{has_frames_or_end}
use Rattle.sp_world.specs.Happenings.{TellsRefusal}
use Rattle.sp_world.specs.Residents.{AreResidents, IsResident, TakesRow, one_event, refused_event, refused_step, step_events_of}
use Rattle.sp_world.specs.Steps.{step_at}
use Rattle.sp_world.specs.Waitings.{Awaits, IsHeard, IsStill, IsWired, IsWorld, Keeps, Makes, Missed, MissedBy, Took, is_settled, left_of, row_of, writer_of}
use Rattle.sp_world.specs.declared.resident.Resident.{Resident}
use Rattle.sp_world.specs.declared.wiring.Wiring.{Wiring}
use Rattle.sp_world.specs.declared.world.Waiting.{Waiting}
use Rattle.sp_world.specs.declared.world.World.{World}
use Rattle.sp_world.proofs.ActLemmas.{acts-taken, step-nowhere, step-refused, step-taken}
use Rattle.sp_world.proofs.ResidentLemmas.{resident-kept}
use Rattle.sp_world.proofs.WiringLemmas.{all-err, none-left}
use Rattle.sp_world.proofs.WorldLemmas.{heard, missed, none-there, still-waits, told-missed, told-taken, world-kept, world-same, world-took}

-- ---- what is taken up of an answer

memory-or : (f : CoreFault) → (f ≡ fault.Memory) ⊎ (f ≡ fault.Memory → ⊥)
memory-or (fault.Start why) = inr (λ e. cc)
memory-or fault.UnknownTask = inr (λ e. cc)
memory-or fault.NotLent = inr (λ e. cc)
memory-or fault.NotHeld = inr (λ e. cc)
memory-or fault.WrongKind = inr (λ e. cc)
memory-or fault.Strange = inr (λ e. cc)
memory-or fault.WornOut = inr (λ e. cc)
memory-or fault.Busy = inr (λ e. cc)
memory-or fault.Memory = inl refl

none-ok : {E : Type 0} (P : Bool → Type 0) (x : Result Bool E) → is_err x ≡ true → IfOk x P
none-ok P (Ok b) e = absurd (true≢false (sym e))
none-ok P (Err f) e = tt

-- how an answer is taken up: the facts that `hear` ensures
pub record IsTakenUp {S E : Type 0} (i : ℕ) (answer : Result ℕ CoreFault) (mid new : World S) (result : Result Bool E) : Type 0 where
  pub taken : IfOk answer (λ row. (result ≡ Ok true) × (new ≡ record mid { waiting = Some (record { writer = i; row = row; next = 0 }); refused = None }))
  pub lacks : answer ≡ Err fault.Memory → (is_err result ≡ true) × (new ≡ mid)
  pub refused : IfErr answer (λ f. (f ≡ fault.Memory → ⊥) → (result ≡ Ok false) × (new ≡ record mid { refused = Some f }))

-- what a space answered: the facts that a resident ensures
pub record Answers {S : Type 0} (is_space : Setting → State → S → Type 0) (why : rules.Space → Option Refusal) (events : rules.Space → List Event) (r t : Resident S) (answer : Result ℕ CoreFault) : Type 0 where
  pub taken : IfOk answer (λ row. (s : rules.Space) → IsResident is_space s r → TakesRow is_space s (why s) (events s) row t)
  pub refused : IfErr answer (λ f. (s : rules.Space) → IsResident is_space s r → RefusesOrLacks (why s) f)
  pub same : OnErr answer ((s : rules.Space) → IsResident is_space s r → IsResident is_space s t)

pub heard-of : {S E : Type 0} (is_space : Setting → State → S → Type 0) (i : ℕ) (why : rules.Space → Option Refusal) (events : rules.Space → List Event) (old mid new : World S) (r t : Resident S) (answer : Result ℕ CoreFault) (result : Result Bool E)
    → is_settled mid ≡ true → slice_get old.residents.items i ≡ Some r → mid.residents.items ≡ set old.residents.items i t → Answers is_space why events r t answer → IsTakenUp i answer mid new result
    → IfOk result (λ b. IsHeard is_space i why events b old new)
heard-of {S} {E} is_space i why events old mid new r t (Ok row) result still at items k h =
    subst (λ (x : Result Bool E). IfOk x (λ b. IsHeard is_space i why events b old new)) (sym h.taken.0)
    (heard is_space i row why events old new r t at
    (ap (λ (w : World S). w.residents.items) h.taken.1 ∙ items) (ap (λ (w : World S). w.waiting) h.taken.1) (ap (λ (w : World S). w.refused) h.taken.1) k.taken)
heard-of {S} {E} is_space i why events old mid new r t (Err f) result still at items k h = by (memory-or f)
  where
    by : (f ≡ fault.Memory) ⊎ (f ≡ fault.Memory → ⊥) → IfOk result (λ b. IsHeard is_space i why events b old new)
    by (inl m) = none-ok (λ b. IsHeard is_space i why events b old new) result (h.lacks (ap Err m)).0
    by (inr n) = let q = h.refused n in
        subst (λ (x : Result Bool E). IfOk x (λ b. IsHeard is_space i why events b old new)) (sym q.0)
        (missed is_space i why events old new r t f at
        (ap (λ (w : World S). w.residents.items) q.1 ∙ items) (ap (λ (w : World S). w.refused) q.1) (ap (λ (w : World S). is_settled w) q.1 ∙ still) n k.refused k.same)

pub kept-of : {S E : Type 0} (is_space : Setting → State → S → Type 0) (i : ℕ) (why : rules.Space → Option Refusal) (events : rules.Space → List Event) (old mid new : World S) (r t : Resident S) (answer : Result ℕ CoreFault) (result : Result Bool E)
    → slice_get old.residents.items i ≡ Some r → mid.residents.items ≡ set old.residents.items i t → mid.refused ≡ old.refused → mid.waiting ≡ old.waiting → mid.wiring ≡ old.wiring
    → Answers is_space why events r t answer → IsTakenUp i answer mid new result → OnErr result (Keeps is_space old new)
kept-of {S} {E} is_space i why events old mid new r t (Ok row) result at items refused waiting wiring k h = subst (λ (x : Result Bool E). OnErr x (Keeps is_space old new)) (sym h.taken.0) tt
kept-of {S} {E} is_space i why events old mid new r t (Err f) result at items refused waiting wiring k h = by (memory-or f)
  where
    by : (f ≡ fault.Memory) ⊎ (f ≡ fault.Memory → ⊥) → OnErr result (Keeps is_space old new)
    by (inl m) = let q = h.lacks (ap Err m) in all-err result (record {
      spaces = λ spaces a. subst (AreResidents is_space spaces) (sym (ap (λ (w : World S). w.residents.items) q.1 ∙ items)) (resident-kept is_space spaces old.residents.items i r t a at k.same);
      refused = ap (λ (w : World S). w.refused) q.1 ∙ refused;
      waiting = ap (λ (w : World S). w.waiting) q.1 ∙ waiting;
      wired = λ w a. subst (IsWired w) (sym (ap (λ (u : World S). u.wiring) q.1 ∙ wiring)) a;
    })
    by (inr n) = subst (λ (x : Result Bool E). OnErr x (Keeps is_space old new)) (sym (h.refused n).0) tt

pub wiring-of : {S E : Type 0} (i : ℕ) (mid new : World S) (answer : Result ℕ CoreFault) (result : Result Bool E) → IsTakenUp i answer mid new result → new.wiring ≡ mid.wiring
wiring-of {S} i mid new (Ok row) result h = ap (λ (w : World S). w.wiring) h.taken.1
wiring-of {S} i mid new (Err f) result h = by (memory-or f)
  where
    by : (f ≡ fault.Memory) ⊎ (f ≡ fault.Memory → ⊥) → new.wiring ≡ mid.wiring
    by (inl m) = ap (λ (w : World S). w.wiring) (h.lacks (ap Err m)).1
    by (inr n) = ap (λ (w : World S). w.wiring) (h.refused n).1

-- ---- what is made

pub still-makes-nothing : {S : Type 0} (is_space : Setting → State → S → Type 0) (f : rules.World → rules.World) (old new : World S)
    → ((w : rules.World) → IsStill is_space w old → f w ≡ w) → new.residents.items ≡ old.residents.items → new.refused ≡ None → is_settled new ≡ true
    → ((w : rules.World) → IsWired w old.wiring → IsWired w new.wiring) → Makes is_space f old new
still-makes-nothing is_space f old new e residents refused still wired = λ w h none. world-same is_space w (f w) old new (e w h) h none residents refused still (wired w h.wired)

pub makes-nothing : {S : Type 0} (is_space : Setting → State → S → Type 0) (f : rules.World → rules.World) (old new : World S)
    → ((w : rules.World) → IsWired w old.wiring → f w ≡ w) → new.residents.items ≡ old.residents.items → new.refused ≡ None → is_settled new ≡ true
    → ((w : rules.World) → IsWired w old.wiring → IsWired w new.wiring) → Makes is_space f old new
makes-nothing is_space f old new e = still-makes-nothing is_space f old new (λ w h. e w h.wired)

pub still-makes-other : {S : Type 0} (is_space : Setting → State → S → Type 0) (f k : rules.World → rules.World) (old new : World S)
    → ((w : rules.World) → IsStill is_space w old → k w ≡ f w) → Makes is_space f old new → Makes is_space k old new
still-makes-other is_space f k old new e made = λ w h none. subst (λ (u : rules.World). IsWorld is_space u new) (sym (e w h)) (made w h none)

pub makes-other : {S : Type 0} (is_space : Setting → State → S → Type 0) (f k : rules.World → rules.World) (old new : World S)
    → ((w : rules.World) → IsWired w old.wiring → k w ≡ f w) → Makes is_space f old new → Makes is_space k old new
makes-other is_space f k old new e made = still-makes-other is_space f k old new (λ w h. e w h.wired) made

-- a space took an event, for which the world was prepared
pub makes-taken : {S : Type 0} (is_space : Setting → State → S → Type 0) (i : ℕ) (e : Event) (f prepare : rules.World → rules.World) (old mid new : World S) (b : Bool)
    → b ≡ true → IsHeard is_space i (refused_event e) (one_event e) b old mid
    → ((w : rules.World) → IsStill is_space w old → f w ≡ act w i e (prepare w)) → ((w : rules.World) → (prepare w).spaces ≡ w.spaces) → ((w : rules.World) → (prepare w).refused ≡ w.refused)
    → new.residents.items ≡ mid.residents.items → new.waiting ≡ mid.waiting → new.refused ≡ mid.refused
    → ((w : rules.World) → IsWired w old.wiring → IsWired (prepare w) new.wiring) → Makes is_space f old new
makes-taken is_space i e f prepare old mid new b taken told is ps pr residents waiting refused wired = λ w h none.
    told-taken is_space i e w (prepare w) (f w) mid new (subst (λ (x : Bool). IsHeard is_space i (refused_event e) (one_event e) x old mid) taken told w.spaces h.spaces)
    (is w h) (ps w) (pr w ∙ none) residents waiting refused (wired w h.wired)

-- there is no such space, or it refused the event
pub makes-missed : {S : Type 0} (is_space : Setting → State → S → Type 0) (i : ℕ) (e : Event) (f prepare : rules.World → rules.World) (old mid new : World S) (b : Bool)
    → b ≡ false → IsHeard is_space i (refused_event e) (one_event e) b old mid
    → ((w : rules.World) → IsStill is_space w old → f w ≡ act w i e (prepare w)) → ((w : rules.World) → (prepare w).spaces ≡ w.spaces)
    → new.residents.items ≡ mid.residents.items → new.waiting ≡ mid.waiting → new.refused ≡ mid.refused
    → ((w : rules.World) → IsWired w old.wiring → IsWired w new.wiring) → Makes is_space f old new
makes-missed is_space i e f prepare old mid new b not told is ps residents waiting refused wired = λ w h none.
    told-missed is_space i e w (prepare w) (f w) mid new (subst (λ (x : Bool). IsHeard is_space i (refused_event e) (one_event e) x old mid) not told w.spaces h.spaces)
    (is w h) (ps w) none residents waiting refused (wired w h.wired)

-- one event of a space, in the world as it is
pub makes-told : {S : Type 0} (is_space : Setting → State → S → Type 0) (i : ℕ) (e : Event) (f : rules.World → rules.World) (old new : World S) (b : Bool)
    → IsHeard is_space i (refused_event e) (one_event e) b old new → ((w : rules.World) → f w ≡ act w i e w) → new.wiring ≡ old.wiring → Makes is_space f old new
makes-told is_space i e f old new true heard is wiring =
    makes-taken is_space i e f (λ w. w) old new new true refl heard (λ w h. is w) (λ w. refl) (λ w. refl) refl refl refl (λ w a. subst (IsWired w) (sym wiring) a)
makes-told is_space i e f old new false heard is wiring =
    makes-missed is_space i e f (λ w. w) old new new false refl heard (λ w h. is w) (λ w. refl) refl refl refl (λ w a. subst (IsWired w) (sym wiring) a)

-- one instruction of a task
pub makes-step : {S : Type 0} (is_space : Setting → State → S → Type 0) (i id : ℕ) (old new : World S) (b : Bool)
    → IsHeard is_space i (refused_step id) (step_events_of id) b old new → new.wiring ≡ old.wiring → Makes is_space (step_task i id) old new
makes-step {S} is_space i id old new true heard wiring = λ w h none.
    let t : Took is_space w.spaces i (refused_step id) (step_events_of id) new = heard w.spaces h.spaces in
    let q = step-taken i id w t.space t.there t.accepted in
    world-took is_space w.spaces i (refused_step id) (step_events_of id) new new (step_task i id w) w t refl none refl refl refl (subst (IsWired w) (sym wiring) h.wired)
    (q.0 ∙ acts-taken w i (step_at t.space.state id) w t.space t.there q.1)
makes-step {S} is_space i id old new false heard wiring = λ w h none. refused w h none (heard w.spaces h.spaces)
  where
    refused : (w : rules.World) → IsStill is_space w old → w.refused ≡ None → Missed is_space w.spaces i (refused_step id) new → IsWorld is_space (step_task i id w) new
    refused w h none m = by (slice_get w.spaces i) refl m.missed
      where
        by : (o : Option rules.Space) → slice_get w.spaces i ≡ o → MissedBy (refused_step id) o new.refused → IsWorld is_space (step_task i id w) new
        by None at k = world-kept is_space w (step_task i id w) None new (step-nowhere i id w at ∙ ap (λ (x : Option Refusal). record w { refused = x }) none)
            m.residents (subst (TellsRefusal None) (sym k) tt) m.still (subst (IsWired w) (sym wiring) h.wired)
        by (Some s) at k = world-kept is_space w (step_task i id w) (Some k.0) new (step-refused i id w s k.0 at k.1.0)
            m.residents k.1.1 m.still (subst (IsWired w) (sym wiring) h.wired)

-- ---- it stays the same world

pub keeps-settled : {S : Type 0} (is_space : Setting → State → S → Type 0) (old new : World S) → Keeps is_space old new → is_settled old ≡ true → is_settled new ≡ true
keeps-settled is_space old new k still = ap is_none k.waiting ∙ still

-- ---- events of a world

still-wired-at : {S : Type 0} (w : rules.World) (x : Option Waiting) (residents : List (Resident S)) (wiring : Wiring) → x ≡ None → Awaits w (writer_of x) (left_of x residents) wiring → IsWired w wiring
still-wired-at {S} w x residents wiring e a = none-left w 0 wiring (subst (λ (y : Option Waiting). Awaits w (writer_of y) (left_of y residents) wiring) e a)

pub still-wired : {S : Type 0} (is_space : Setting → State → S → Type 0) (w : rules.World) (world : World S) → is_settled world ≡ true → IsWorld is_space w world → IsWired w world.wiring
still-wired is_space w world still h = still-wired-at w world.waiting world.residents.items world.wiring (none-there world.waiting still) h.waiting

pub event-made : {S : Type 0} (is_space : Setting → State → S → Type 0) (e : rules.WorldEvent) (w : rules.World) (mid new : World S)
    → is_settled mid ≡ true → Makes is_space (rules.happens e) mid new → IsWorld is_space w mid → IsWorld is_space (rules.after w e) new
unfolding rules.after
event-made is_space e w mid new still made h =
    let wired = still-wired is_space w mid still h in
    made (record w { refused = None }) (record { spaces = h.spaces; wired = record { numbers = wired.numbers; pipes = wired.pipes; dials = wired.dials } }) refl

pub keeps-world : {S : Type 0} (is_space : Setting → State → S → Type 0) (w : rules.World) (old new : World S) → is_settled old ≡ true → Keeps is_space old new → IsWorld is_space w old → IsWorld is_space w new
keeps-world is_space w old new still k h = record {
  spaces = k.spaces w.spaces h.spaces;
  refused = subst (TellsRefusal w.refused) (sym k.refused) h.refused;
  waiting = still-waits w new (keeps-settled is_space old new k still) (k.wired w (still-wired is_space w old still h));
}

-- ---- what is still to be put into the queues

awaits-row : {S : Type 0} (is_space : Setting → State → S → Type 0) (w : rules.World) (old : World S) (x : Waiting) (row : List Output) → old.waiting ≡ Some x
    → map output_of row ≡ row_of (slice_get old.residents.items x.writer) x.row → IsWorld is_space w old → Awaits w x.writer (drop x.next (map output_of row)) old.wiring
awaits-row {S} is_space w old x row is outputs h =
    subst (λ os. Awaits w x.writer (drop x.next os) old.wiring) (sym outputs)
    (subst (λ (y : Option Waiting). Awaits w (writer_of y) (left_of y old.residents.items) old.wiring) is h.waiting)

pub settle-done : {S : Type 0} (is_space : Setting → State → S → Type 0) (w : rules.World) (old new : World S) (x : Waiting) (row : List Output) → old.waiting ≡ Some x
    → map output_of row ≡ row_of (slice_get old.residents.items x.writer) x.row → new.residents.items ≡ old.residents.items → new.refused ≡ old.refused → new.waiting ≡ None
    → (Awaits w x.writer (drop x.next (map output_of row)) old.wiring → IsWired w new.wiring) → IsWorld is_space w old → IsWorld is_space w new
settle-done is_space w old new x row is outputs residents refused none done h = record {
  spaces = subst (AreResidents is_space w.spaces) (sym residents) h.spaces;
  refused = subst (TellsRefusal w.refused) (sym refused) h.refused;
  waiting = still-waits w new (ap is_none none) (done (awaits-row is_space w old x row is outputs h));
}

pub settle-rest : {S : Type 0} (is_space : Setting → State → S → Type 0) (w : rules.World) (old new : World S) (x : Waiting) (n : ℕ) (row : List Output) → old.waiting ≡ Some x
    → map output_of row ≡ row_of (slice_get old.residents.items x.writer) x.row → new.residents.items ≡ old.residents.items → new.refused ≡ old.refused → new.waiting ≡ Some (record x { next = n })
    → (Awaits w x.writer (drop x.next (map output_of row)) old.wiring → Awaits w x.writer (drop n (map output_of row)) new.wiring) → IsWorld is_space w old → IsWorld is_space w new
settle-rest {S} is_space w old new x n row is outputs residents refused some rest h = record {
  spaces = subst (AreResidents is_space w.spaces) (sym residents) h.spaces;
  refused = subst (TellsRefusal w.refused) (sym refused) h.refused;
  waiting = subst (λ (y : Option Waiting). Awaits w (writer_of y) (left_of y new.residents.items) new.wiring) (sym some)
      (subst (λ (rs : List (Resident S)). Awaits w x.writer (drop n (row_of (slice_get rs x.writer) x.row)) new.wiring) (sym residents)
      (subst (λ os. Awaits w x.writer (drop n os) new.wiring) outputs (rest (awaits-row is_space w old x row is outputs h))));
}

-- ---- what is shown

pub shown-queued : (o : Option rules.Pipe) (to : rules.End) → has_frames_or_end to o ≡ with_some o false (rules.may_deliver to)
shown-queued None to = refl
shown-queued (Some p) to = refl

pub keeps-after : {S : Type 0} (is_space : Setting → State → S → Type 0) (old mid new : World S) → mid.residents.items ≡ old.residents.items → mid.refused ≡ old.refused → mid.waiting ≡ old.waiting
    → ((w : rules.World) → IsWired w old.wiring → IsWired w mid.wiring) → Keeps is_space mid new → Keeps is_space old new
keeps-after {S} is_space old mid new residents refused waiting wired k = record {
  spaces = λ ss a. k.spaces ss (subst (AreResidents is_space ss) (sym residents) a);
  refused = k.refused ∙ refused;
  waiting = k.waiting ∙ waiting;
  wired = λ w h. k.wired w (wired w h);
}
