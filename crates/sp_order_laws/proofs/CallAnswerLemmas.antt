-- Calls end by the outcomes of their tasks, by exceptions of callees in which they started none, or by failures.
use mathlib.Core.Path.{sym, ap, subst, ◌∙◌}
use Rattle.std.proofs.Common.{inl, inr}
use Rattle.std.proofs.lemmas.Bool.{true≢false, eq-eqb}
use Rattle.std.specs.Prelude.{◌≡◌, ◌⊎◌, refl, ℕ, ◌==◌, cond, Bool, true, false, List, [], ◌∷◌, ◌++◌, Option, Some, slice_get, find}
use Rattle.net_message.specs.declared.message.Message.TheVariants as message
use Rattle.net_message.specs.declared.message.Message.{Message}
use Rattle.sp_rules.specs.Behaviours.{Reply}
use Rattle.sp_rules.specs.Classes.{Setting}
use Rattle.sp_rules.specs.Events.{Event, Received}
use Rattle.sp_rules.specs.Laws.{AllOf}
use Rattle.sp_rules.specs.Origins.{IsTaken}
use Rattle.sp_rules.specs.ParkedFrames.{has_number}
use Rattle.sp_rules.specs.Space
use Rattle.sp_rules.specs.State.{Living, Request, Asked, Calls}
use Rattle.sp_rules.specs.Worlds.{World, Space, End, Dialler, Accepter, side, other, run, new_world}
use Rattle.sp_rules.proofs.AllLemmas.{some-none}
use Rattle.sp_rules.proofs.OwnLemmas.{some-same}
use Rattle.sp_laws.specs.Answers.{IsAnswer, IsOutcome, IsRefused}
use Rattle.sp_laws.specs.CallEnds.{WaitsOn, IsGiven}
use Rattle.sp_laws.specs.Directions.{FramesGoTheirWay}
use Rattle.sp_laws.specs.Inbound.{OpensOnce}
use Rattle.sp_laws.specs.Sent.{IsCallRefusal, IsUnbound}
use Rattle.sp_laws.specs.Waiting.{WaitingTasksHaveOneCall}
use Rattle.sp_laws.proofs.CallEvents.{Was}
use Rattle.sp_order_laws.specs.CallAnswers.{StartsNone, RefusedCallsStartNone, IsRefusedBy, IsCallEnd, CallsEndAsAnswered}
use Rattle.sp_order_laws.specs.Delivered.{came_on, frame_of, sent_on, outputs_at, Delivers, WhatComesWasSent}
use Rattle.sp_order_laws.specs.Ends.{IsOneOf, IsAnswered, Says, IsToldBy, IsOfFailure, CallsEndByCallees}
use Rattle.sp_order_laws.proofs.KindLemmas.{LooksUpNone, calls-look-up-none}
use Rattle.sp_order_laws.proofs.UnbrokenLaws.{came-now}
use Rattle.sp_order_laws.proofs.WelcomeLemmas.{one-left, one-some, one-output}
use Rattle.sp_order_laws.proofs.WorldFacts.{Known, all_known, at-all, outputs-there}

-- ---- what came, and what is asked

found-was : (is : Request → Bool) (rs : List Request) (q : Request) (asked : Asked) → find is rs ≡ Some q → q.asked ≡ asked → Was rs asked
found-was is [] q asked e same = absurd (some-none q (sym e))
found-was is (x ∷ rs) q asked e same = pick (is x) e (λ f. found-was is rs q asked f same)
  where
    pick : (b : Bool) → cond b (Some x) (find is rs) ≡ Some q → (find is rs ≡ Some q → Was rs asked) → Was (x ∷ rs) asked
    pick true f rest = inl (ap (λ (y : Request). y.asked) (some-same f) ∙ same)
    pick false f rest = inr (rest f)

came-in : (conn : ℕ) (m : Message) (later : List Event) (e : Event) (before h : List Event) → later ++ e ∷ before ≡ h → e ≡ Received conn m → IsOneOf m (came_on conn h)
came-in conn m later e before h same is = subst (λ l. IsOneOf m (came_on conn l)) same (then later)
  where
    then : (es : List Event) → IsOneOf m (came_on conn (es ++ e ∷ before))
    then [] = came-now conn m e before is
    then (x ∷ es) = one-left m (came_on conn (es ++ e ∷ before)) (frame_of conn x) (then es)

-- what came at the callee was sent by the space that calls
was-sent : (w : World) → Delivers w → (i conn : ℕ) (s : Space) (m n : Message) (a : IsAnswered w i conn m) → slice_get w.spaces i ≡ Some s → IsOneOf n (came_on conn a.callee.history) → IsOneOf n (sent_on conn s.outputs)
was-sent w d i conn s m n a at came = subst (λ os. IsOneOf n (sent_on conn os)) (outputs-there w.spaces i s at) (from a.end a.here a.there)
  where
    from : (end : End) → (side end a.pipe).space ≡ i → slice_get w.spaces (side (other end) a.pipe).space ≡ Some a.callee → IsOneOf n (sent_on conn (outputs_at w.spaces i))
    from Dialler here there = subst (λ j. IsOneOf n (sent_on conn (outputs_at w.spaces j))) here
        (one-some n (came_on conn a.callee.history ++ a.pipe.accepter.queue) _ (one-left n (came_on conn a.callee.history) a.pipe.accepter.queue came) (d.brings conn a.pipe Accepter a.joins a.callee there))
    from Accepter here there = subst (λ j. IsOneOf n (sent_on conn (outputs_at w.spaces j))) here
        (one-some n (came_on conn a.callee.history ++ a.pipe.dialler.queue) _ (one-left n (came_on conn a.callee.history) a.pipe.dialler.queue came) (d.brings conn a.pipe Dialler a.joins a.callee there))

-- ---- ends

says-threw : (g : Setting) (number n : ℕ) (class : Rattle.space_ids.specs.declared.ids.ClassId.ClassId) (m : Message) (reply : Reply) → m ≡ message.Threw n class → Says g number m reply → n ≡ number
says-threw g number n class m reply same says = (subst (λ x. Says g number x reply) same says).0

says-returned : (g : Setting) (number n : ℕ) (value : Option Rattle.space_ids.specs.declared.value.Value.Value) (m : Message) (reply : Reply) → m ≡ message.Returned n 0 value → Says g number m reply → n ≡ number
says-returned g number n value m reply same says = (subst (λ x. Says g number x reply) same says).0

pub calls_end_as_answered : FramesGoTheirWay → WaitingTasksHaveOneCall → WhatComesWasSent → CallsEndByCallees → RefusedCallsStartNone → CallsEndAsAnswered
calls_end_as_answered ways waits comes ends refuses settings events i s later e h at split number task lent kind m q t found asked lives =
    let x = ends settings events i s later e h at split number task lent kind m q t found asked lives in (x.0, (x.1.0, by x.0 x.1.1))
  where
    w : World
    w = run (new_world settings) events

    rs : List Request
    rs = (Space.state_of s.setting h).requests

    known : Known s
    known = at-all Known i w.spaces s at (all_known settings events)

    then-taken : (g : Setting) (es l : List Event) → IsTaken g (es ++ l) → IsTaken g l
    then-taken g [] l k = k
    then-taken g (y ∷ es) l k = then-taken g es l k.1

    then-once : (es l : List Event) → OpensOnce (es ++ l) → OpensOnce l
    then-once [] l k = k
    then-once (y ∷ es) l k = then-once es l k.1

    append-after : (es : List Event) → (es ++ e ∷ []) ++ h ≡ es ++ e ∷ h
    append-after [] = refl
    append-after (y ∷ es) = ap (λ (l : List Event). y ∷ l) (append-after es)

    none : AllOf (LooksUpNone number) (Space.all_outputs s.setting s.history)
    none = subst (λ l. AllOf (LooksUpNone number) (Space.all_outputs s.setting l)) (append-after later ∙ split)
        (calls-look-up-none ways waits s.setting number task lent kind m h (later ++ e ∷ []) (then-taken s.setting (e ∷ []) h (then-taken s.setting later (e ∷ h) (subst (IsTaken s.setting) (sym split) known.taken)))
        (then-once (e ∷ []) h (then-once later (e ∷ h) (subst OpensOnce (sym split) known.once))) (found-was (λ (p : Request). has_number number p.asked) rs q (Calls number task lent kind m) found asked))

    -- the callee got no look-up of the number
    no-lookup : (conn n : ℕ) (name : List ℕ) (frame : Message) (a : IsAnswered w i conn frame) → n ≡ number → a.event ≡ Received conn (message.Lookup n name) → ⊥
    no-lookup conn n name frame a same is =
        let came : IsOneOf (message.Lookup n name) (came_on conn a.callee.history) = came-in conn (message.Lookup n name) a.later a.event a.before a.callee.history a.part is in
        let sent : IsOneOf (message.Lookup n name) (sent_on conn (Space.all_outputs s.setting s.history)) = subst (λ os. IsOneOf (message.Lookup n name) (sent_on conn os)) known.outputs (was-sent w (comes settings events) i conn s frame (message.Lookup n name) a at came) in
        let other-number : (n == number) ≡ false = one-output (LooksUpNone number) conn (message.Lookup n name) (Space.all_outputs s.setting s.history) none sent in
        true≢false (sym (eq-eqb n number same) ∙ other-number)

    refused : (reply : Reply) (told : IsToldBy w i s.setting rs number reply) (r : IsRefused told.answered.callee.setting told.answered.event told.conn told.frame)
        → IsCallRefusal told.answered.callee.setting r.class ⊎ IsUnbound told.answered.callee.setting told.answered.event told.conn r.number r.class → r.number ≡ number → IsRefusedBy told.answered.callee told.conn number told.frame
    refused reply told r (inl why) same = record {
      class = r.class;
      says = r.says ∙ ap (λ n. message.Threw n r.class) same;
      why = why;
      none = subst (λ n. StartsNone told.answered.callee.setting told.answered.callee.history told.conn n) same
          (refuses settings events (side (other told.answered.end) told.answered.pipe).space told.answered.callee told.answered.later told.answered.event told.answered.before told.conn told.frame told.answered.there told.answered.part told.answered.sent r);
    }
    refused reply told r (inr unbound) same = absurd (no-lookup told.conn r.number unbound.name told.frame told.answered same unbound.came)

    ended : (reply : Reply) (told : IsToldBy w i s.setting rs number reply)
        → IsAnswer told.answered.callee.setting (Space.state_of told.answered.callee.setting told.answered.before) told.answered.event told.conn told.frame
        → IsOutcome told.answered.callee.setting (Space.state_of told.answered.callee.setting told.answered.before) told.answered.event told.conn told.frame ⊎ IsRefusedBy told.answered.callee told.conn number told.frame
    ended reply told (inl outcome) = inl outcome
    ended reply told (inr (inl r)) = inr (refused reply told r r.refusal.why (says-threw s.setting number r.number r.class told.frame reply r.says told.says))
    ended reply told (inr (inr f)) = absurd (no-lookup told.conn f.number f.name told.frame told.answered (says-returned s.setting number f.number _ told.frame reply f.says told.says) f.came)

    by : (u : Living) → WaitsOn t u ⊎ ((reply : Reply) × (IsGiven reply t u × (IsToldBy w i s.setting rs number reply ⊎ IsOfFailure s.setting e reply)))
        → WaitsOn t u ⊎ ((reply : Reply) × (IsGiven reply t u × (IsCallEnd w i s.setting rs number reply ⊎ IsOfFailure s.setting e reply)))
    by u (inl waits-on) = inl waits-on
    by u (inr y) = inr (y.0, (y.1.0, reply-ends y.0 y.1.1))
      where
        reply-ends : (reply : Reply) → IsToldBy w i s.setting rs number reply ⊎ IsOfFailure s.setting e reply → IsCallEnd w i s.setting rs number reply ⊎ IsOfFailure s.setting e reply
        reply-ends reply (inl told) = inl (record { told = told; ends = ended reply told told.answered.answer })
        reply-ends reply (inr failure) = inr failure
