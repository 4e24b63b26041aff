-- Values that stand for worlds of the rules of spaces.
use Rattle.std.proofs.Common.{◌≡◌, ◌∙◌, ℕ, inl, inr, true, false, List, [], ◌∷◌, Option, None, Some, refl, sym, ap, subst, set}
use Rattle.std.specs.Prelude.{is_none, slice_get}
use Rattle.std.proofs.lemmas.Bool.{true≢false}
use Rattle.sp_rules.specs.Classes.{Setting}
use Rattle.sp_rules.specs.Events.{Event, Output}
use Rattle.sp_rules.specs.Lists.{at_index, each}
use Rattle.sp_rules.specs.Refusals.{Refusal}
use Rattle.sp_rules.specs.State.{State}
use Rattle.sp_rules.specs.Worlds as rules
use Rattle.sp_rules.specs.Worlds.{act, acts, number_of, put}
use Rattle.sp_events.specs.FaultNames.{RefusesOrLacks}
use Rattle.sp_events.specs.declared.fault.CoreFault.{CoreFault}
use Rattle.sp_events.specs.declared.fault.CoreFault.TheVariants as fault
use Rattle.sp_world.specs.Happenings.{TellsRefusal}
use Rattle.sp_world.specs.Residents.{AreResidents, IsResident, TakesRow, grown_all, one_event, refused_event}
use Rattle.sp_world.specs.Steps.{answers_to}
use Rattle.sp_world.specs.Waitings.{Awaits, IsHeard, IsStill, IsWired, IsWorld, Missed, MissedBy, Took, is_settled, left_of, row_of, writer_of}
use Rattle.sp_world.specs.declared.resident.Resident.{Resident}
use Rattle.sp_world.specs.declared.wiring.Wiring.{Wiring}
use Rattle.sp_world.specs.declared.world.Waiting.{Waiting}
use Rattle.sp_world.specs.declared.world.World.{World}
use Rattle.sp_world.proofs.ActLemmas.{acts-nowhere, acts-refused, acts-taken, grow, grown-setting, number-same, puts-refused, puts-spaces}
use Rattle.sp_world.proofs.ResidentLemmas.{nobody-at, resident-at, resident-kept, resident-set, set-there}

-- ---- nothing is still to be put into the queues

pub none-there : {A : Type 0} (x : Option A) → is_none x ≡ true → x ≡ None
none-there None e = refl
none-there (Some a) e = absurd (true≢false (sym e))

-- ---- what a space was told

pub heard : {S : Type 0} (is_space : Setting → State → S → Type 0) (i row : ℕ) (why : rules.Space → Option Refusal) (events : rules.Space → List Event) (old new : World S) (r t : Resident S)
    → slice_get old.residents.items i ≡ Some r → new.residents.items ≡ set old.residents.items i t
    → new.waiting ≡ Some (record { writer = i; row = row; next = 0 }) → new.refused ≡ None
    → ((s : rules.Space) → IsResident is_space s r → TakesRow is_space s (why s) (events s) row t)
    → IsHeard is_space i why events true old new
heard {S} is_space i row why events old new r t at items wait refused takes = λ spaces a.
    let q = resident-at is_space spaces old.residents.items i r a at in
    let k = takes q.0 q.1.1 in
    record {
      space = q.0;
      there = q.1.0;
      accepted = k.accepted;
      residents = subst (AreResidents is_space (at_index (grown_all (events q.0)) i spaces)) (sym items)
          (resident-set is_space (grown_all (events q.0)) spaces old.residents.items i q.0 t a q.1.0 k.resident);
      left = ap (λ (x : Option Waiting). left_of x new.residents.items) wait
          ∙ ap (λ (rs : List (Resident S)). row_of (slice_get rs i) row) items
          ∙ ap (λ (o : Option (Resident S)). row_of o row) (set-there old.residents.items i r t at)
          ∙ k.answers;
      writer = ap writer_of wait;
      refused = refused;
    }

pub missed : {S : Type 0} (is_space : Setting → State → S → Type 0) (i : ℕ) (why : rules.Space → Option Refusal) (events : rules.Space → List Event) (old new : World S) (r t : Resident S) (f : CoreFault)
    → slice_get old.residents.items i ≡ Some r → new.residents.items ≡ set old.residents.items i t
    → new.refused ≡ Some f → is_settled new ≡ true → (f ≡ fault.Memory → ⊥)
    → ((s : rules.Space) → IsResident is_space s r → RefusesOrLacks (why s) f) → ((s : rules.Space) → IsResident is_space s r → IsResident is_space s t)
    → IsHeard is_space i why events false old new
missed {S} is_space i why events old new r t f at items refused still real refuses same = λ spaces a.
    let q = resident-at is_space spaces old.residents.items i r a at in
    record {
      missed = subst (λ (o : Option rules.Space). MissedBy why o new.refused) (sym q.1.0)
          (by (why q.0) (refuses q.0 q.1.1));
      residents = subst (AreResidents is_space spaces) (sym items) (resident-kept is_space spaces old.residents.items i r t a at same);
      still = still;
    }
  where
    by : (x : Option Refusal) → RefusesOrLacks x f → (y : Refusal) × ((x ≡ Some y) × TellsRefusal (Some y) new.refused)
    by None (inl m) = absurd (real m)
    by None (inr m) = absurd (real m)
    by (Some y) (inl m) = absurd (real m)
    by (Some y) (inr n) = (y, (refl, subst (TellsRefusal (Some y)) (sym refused) n))

pub nobody : {S : Type 0} (is_space : Setting → State → S → Type 0) (i : ℕ) (why : rules.Space → Option Refusal) (events : rules.Space → List Event) (old new : World S)
    → slice_get old.residents.items i ≡ None → new.residents.items ≡ old.residents.items → new.refused ≡ None → is_settled new ≡ true → IsHeard is_space i why events false old new
nobody is_space i why events old new none items refused still = λ spaces a. record {
  missed = subst (λ (o : Option rules.Space). MissedBy why o new.refused) (sym (nobody-at is_space spaces old.residents.items i a none)) refused;
  residents = subst (AreResidents is_space spaces) (sym items) a;
  still = still;
}

-- ---- worlds

pub wired-grow : (f : rules.Space → rules.Space) → ((s : rules.Space) → (f s).setting ≡ s.setting) → (i : ℕ) (p : rules.World) (wiring : Wiring) → IsWired p wiring → IsWired (grow f i p) wiring
wired-grow f k i p wiring h = record {
  numbers = λ peer. h.numbers peer ∙ sym (number-same f k i p.spaces peer);
  pipes = h.pipes;
  dials = h.dials;
}

-- a space took events
pub world-took : {S : Type 0} (is_space : Setting → State → S → Type 0) (spaces : List rules.Space) (i : ℕ) (why : rules.Space → Option Refusal) (events : rules.Space → List Event) (mid new : World S) (v p : rules.World)
    (t : Took is_space spaces i why events mid) → p.spaces ≡ spaces → p.refused ≡ None
    → new.residents.items ≡ mid.residents.items → new.waiting ≡ mid.waiting → new.refused ≡ mid.refused → IsWired p new.wiring
    → v ≡ each (put i) (answers_to t.space.setting t.space.state (events t.space)) (grow (grown_all (events t.space)) i p)
    → IsWorld is_space v new
world-took {S} is_space spaces i why events mid new v p t ps pr residents waiting refused wired e =
    let es : List Event = events t.space in
    let outs : List Output = answers_to t.space.setting t.space.state es in
    let base : rules.World = grow (grown_all es) i p in
    let left : left_of new.waiting new.residents.items ≡ outs = ap (λ (x : Option Waiting). left_of x new.residents.items) waiting ∙ ap (left_of mid.waiting) residents ∙ t.left in
    let writer : writer_of new.waiting ≡ i = ap writer_of waiting ∙ t.writer in
    record {
      spaces = subst (λ (ss : List rules.Space). AreResidents is_space ss new.residents.items)
          (sym (ap (λ (u : rules.World). u.spaces) e ∙ puts-spaces i outs base ∙ ap (at_index (grown_all es) i) ps))
          (subst (AreResidents is_space (at_index (grown_all es) i spaces)) (sym residents) t.residents);
      refused = subst (λ (x : Option Refusal). TellsRefusal x new.refused) (sym (ap (λ (u : rules.World). u.refused) e ∙ puts-refused i outs base ∙ pr))
          (subst (TellsRefusal None) (sym (refused ∙ t.refused)) tt);
      waiting = record {
        base = base;
        wired = wired-grow (grown_all es) (grown-setting es) i p new.wiring wired;
        is = e ∙ ap (λ (os : List Output). each (put i) os base) (sym left) ∙ ap (λ (n : ℕ). each (put n) (left_of new.waiting new.residents.items) base) (sym writer);
      };
    }

pub still-waits : {S : Type 0} (v : rules.World) (new : World S) → is_settled new ≡ true → IsWired v new.wiring → Awaits v (writer_of new.waiting) (left_of new.waiting new.residents.items) new.wiring
unfolding each
still-waits {S} v new still wired = subst (λ (x : Option Waiting). Awaits v (writer_of x) (left_of x new.residents.items) new.wiring) (sym (none-there new.waiting still))
    (record { base = v; wired = wired; is = refl })

-- no space took anything, but for what is told of a refusal
pub world-kept : {S : Type 0} (is_space : Setting → State → S → Type 0) (w v : rules.World) (x : Option Refusal) (new : World S)
    → v ≡ record w { refused = x } → AreResidents is_space w.spaces new.residents.items → TellsRefusal x new.refused → is_settled new ≡ true → IsWired w new.wiring → IsWorld is_space v new
world-kept {S} is_space w v x new e spaces tells still wired = subst (λ (u : rules.World). IsWorld is_space u new) (sym e) (record {
  spaces = spaces;
  refused = tells;
  waiting = still-waits (record w { refused = x }) new still (record { numbers = wired.numbers; pipes = wired.pipes; dials = wired.dials });
})

-- nothing fits
pub world-same : {S : Type 0} (is_space : Setting → State → S → Type 0) (w v : rules.World) (old new : World S)
    → v ≡ w → IsStill is_space w old → w.refused ≡ None → new.residents.items ≡ old.residents.items → new.refused ≡ None → is_settled new ≡ true → IsWired w new.wiring → IsWorld is_space v new
world-same {S} is_space w v old new e h none residents refused still wired = world-kept is_space w v None new
    (e ∙ ap (λ (x : Option Refusal). record w { refused = x }) none)
    (subst (AreResidents is_space w.spaces) (sym residents) h.spaces) (subst (TellsRefusal None) (sym refused) tt) still wired

-- one event, of which a space is told in a world that is prepared for it
pub told-taken : {S : Type 0} (is_space : Setting → State → S → Type 0) (i : ℕ) (e : Event) (w p v : rules.World) (mid new : World S)
    → Took is_space w.spaces i (refused_event e) (one_event e) mid → v ≡ act w i e p → p.spaces ≡ w.spaces → p.refused ≡ None
    → new.residents.items ≡ mid.residents.items → new.waiting ≡ mid.waiting → new.refused ≡ mid.refused → IsWired p new.wiring → IsWorld is_space v new
told-taken {S} is_space i e w p v mid new t is ps pr residents waiting refused wired =
    world-took is_space w.spaces i (refused_event e) (one_event e) mid new v p t ps pr residents waiting refused wired
    (is ∙ acts-taken w i (e ∷ []) p t.space (subst (λ (ss : List rules.Space). slice_get ss i ≡ Some t.space) (sym ps) t.there) t.accepted)

pub told-missed : {S : Type 0} (is_space : Setting → State → S → Type 0) (i : ℕ) (e : Event) (w p v : rules.World) (mid new : World S)
    → Missed is_space w.spaces i (refused_event e) mid → v ≡ act w i e p → p.spaces ≡ w.spaces → w.refused ≡ None
    → new.residents.items ≡ mid.residents.items → new.waiting ≡ mid.waiting → new.refused ≡ mid.refused → IsWired w new.wiring → IsWorld is_space v new
told-missed {S} is_space i e w p v mid new m is ps none residents waiting refused wired =
    by (slice_get w.spaces i) refl m.missed
  where
    spaces : AreResidents is_space w.spaces new.residents.items
    spaces = subst (AreResidents is_space w.spaces) (sym residents) m.residents

    still : is_settled new ≡ true
    still = ap is_none waiting ∙ m.still

    by : (o : Option rules.Space) → slice_get w.spaces i ≡ o → MissedBy (refused_event e) o mid.refused → IsWorld is_space v new
    by None at k = world-kept is_space w v None new
        (is ∙ acts-nowhere w i e [] p (subst (λ (ss : List rules.Space). slice_get ss i ≡ None) (sym ps) at) ∙ ap (λ (x : Option Refusal). record w { refused = x }) none)
        spaces (subst (TellsRefusal None) (sym (refused ∙ k)) tt) still wired
    by (Some s) at k = world-kept is_space w v (Some k.0) new
        (is ∙ acts-refused w i (e ∷ []) p s k.0 (subst (λ (ss : List rules.Space). slice_get ss i ≡ Some s) (sym ps) at) k.1.0)
        spaces (subst (TellsRefusal (Some k.0)) (sym refused) k.1.1) still wired
