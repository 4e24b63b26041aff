-- Calls, dirty and clean calls, and results stand in one part of a world at a time.
use mathlib.Core.Path.{sym, ap, subst, ◌∙◌}
use Rattle.std.proofs.Common.{arith, inl, inr}
use Rattle.std.proofs.lemmas.Bool.{true≢false, eqb-true, eq-eqb}
use Rattle.std.specs.List.{flat_map}
use Rattle.std.specs.Prelude.{◌≡◌, ◌≤◌, ◌⊎◌, refl, ℕ, ◌+◌, ◌==◌, ◌&&◌, nat_le, Bool, true, false, List, [], ◌∷◌, ◌++◌, Option, Some, slice_get, if◌then◌else◌}
use Rattle.dgc_client.specs.Table.{numbers_of}
use Rattle.net_message.specs.declared.message.Message.{Message}
use Rattle.net_message.specs.declared.message.Message.TheVariants as message
use Rattle.sp_rules.specs.Endings.{call_number_in}
use Rattle.sp_rules.specs.Events.{Output, Started, Ended, Withdrawn, Denied, Send, Dial, Close, Ready}
use Rattle.sp_rules.specs.Laws.{AllOf, RisesWithin}
use Rattle.sp_rules.specs.Lists.{total}
use Rattle.sp_rules.specs.ParkedFrames.{has_number}
use Rattle.sp_rules.specs.Requests.{is_waiting}
use Rattle.sp_rules.specs.Space
use Rattle.sp_rules.specs.State.{State, Request, Asked, Calls, LooksUp, Tells}
use Rattle.sp_rules.specs.Worlds.{World, Space, Dialler, Accepter, Pipe, run, new_world}
use Rattle.sp_laws.specs.Waiting.{count}
use Rattle.sp_laws.specs.Directions.{FramesGoTheirWay}
use Rattle.sp_order_laws.specs.Delivered.{came_on, sent_on, AreSomeOf, Delivers, WhatComesWasSent}
use Rattle.sp_order_laws.specs.Ends.{IsOneOf}
use Rattle.sp_order_laws.specs.Answering.{Exchange, CallReply, GroupReply, ResultAck, answered_in, result_in, reply_in, times, times_asked, times_answered, under_way}
use Rattle.sp_order_laws.specs.Places.{waiting_to_go, CallsGoOutOnce, IsBetween, call_stands, call_answered, group_stands, result_stands, CallsStandOnceIn, EachCallStandsOnce, GroupsStandOnceIn, EachGroupIsAnsweredOnce, SentResult, ResultsStandOnceIn, EachResultIsAcknowledgedOnce}
use Rattle.sp_order_laws.specs.Rising.{sequence_in, frames_in, call_numbers, sequence_numbers}
use Rattle.sp_order_laws.proofs.NoteLemmas.{flat-append, sent, sent-none}
use Rattle.sp_order_laws.proofs.RisingMoves.{times-append, number_of, waiting_number, calls_in}
use Rattle.sp_order_laws.proofs.RisingLaws.{Risen, risen-of, sequence_numbers_rise}
use Rattle.sp_order_laws.proofs.AnsweringLaws.{frames_are_answered_once}
use Rattle.sp_order_laws.proofs.WorldFacts.{Known, all_known, at-all, outputs-there, some-total}

-- ---- a call goes out once

waits-as : (k : ℕ) (rs : List Request) → total (λ (q : Request). count (is_waiting q.stage && has_number k q.asked)) rs ≡ times k (flat_map waiting_number rs)
waits-as k [] = refl
waits-as k (q ∷ rs) =
    let a : times k (waiting_number q ++ flat_map waiting_number rs) ≡ times k (waiting_number q) + times k (flat_map waiting_number rs) = times-append k (waiting_number q) (flat_map waiting_number rs) in
    let b : total (λ (p : Request). count (is_waiting p.stage && has_number k p.asked)) rs ≡ times k (flat_map waiting_number rs) = waits-as k rs in
    let c : count (is_waiting q.stage && has_number k q.asked) ≡ times k (waiting_number q) = one (is_waiting q.stage) q.asked in omega arith
  where
    one : (b : Bool) (asked : Asked) → count (b && has_number k asked) ≡ times k (if b then number_of (record { peer = q.peer; asked = asked; stage = q.stage }) else [])
    one true (Calls number task lent kind m) = let a : count (number == k) ≡ count (number == k) + 0 = omega arith in a
    one true (LooksUp number task name) = let a : count (number == k) ≡ count (number == k) + 0 = omega arith in a
    one true (Tells call group) = refl
    one false asked = refl

calls-of : (os : List Output) → call_numbers (frames_in os) ≡ flat_map calls_in os
calls-of [] = refl
calls-of (o ∷ os) = flat-append call_number_in (Rattle.sp_order_laws.specs.Rising.frame o) (frames_in os) ∙ ap (λ (l : List ℕ). calls_in o ++ l) (calls-of os)

small : (b : Bool) → count b ≤ 1
small true = omega arith
small false = omega arith

pub calls_go_out_once : FramesGoTheirWay → CallsGoOutOnce
calls_go_out_once ways g h k taken once = by (Space.state_of g h) (risen-of ways g h taken once)
  where
    outs : List Output
    outs = Space.all_outputs g h

    by : (s : State) → Risen outs s → times k (call_numbers (frames_in outs)) + waiting_to_go k s ≤ 1
    by s r =
        let a : times k (sent calls_in outs s.notes) + (times k (flat_map waiting_number s.requests) + 0) ≤ count (nat_le k s.calls_made) = r.rising.once k in
        let b : count (nat_le k s.calls_made) ≤ 1 = small (nat_le k s.calls_made) in
        let c : times k (call_numbers (frames_in outs)) ≡ times k (sent calls_in outs s.notes) = ap (times k) (calls-of outs ∙ (sym (sent-none calls_in outs) ∙ ap (sent calls_in outs) (sym r.rested.notes))) in
        let d : waiting_to_go k s ≡ times k (flat_map waiting_number s.requests) = waits-as k s.requests in omega arith

-- ---- numbers in frames

-- numbers of frames, counted frame by frame
times-flat : (f : Message → List ℕ) (k : ℕ) (ms : List Message) → times k (flat_map f ms) ≡ total (λ m. times k (f m)) ms
times-flat f k [] = refl
times-flat f k (m ∷ ms) = let a : times k (f m ++ flat_map f ms) ≡ times k (f m) + times k (flat_map f ms) = times-append k (f m) (flat_map f ms) in let b : times k (flat_map f ms) ≡ total (λ n. times k (f n)) ms = times-flat f k ms in omega arith

-- what came and what is on its way is some of what was sent
some-times : (f : Message → List ℕ) (k : ℕ) (xs ys zs : List Message) → AreSomeOf (xs ++ ys) zs → times k (flat_map f xs) + times k (flat_map f ys) ≤ times k (flat_map f zs)
some-times f k xs ys zs a =
    let b : total (λ m. times k (f m)) (xs ++ ys) ≤ total (λ m. times k (f m)) zs = some-total (λ m. times k (f m)) (xs ++ ys) zs a in
    let c : times k (flat_map f (xs ++ ys)) ≡ total (λ m. times k (f m)) (xs ++ ys) = times-flat f k (xs ++ ys) in
    let d : times k (flat_map f zs) ≡ total (λ m. times k (f m)) zs = times-flat f k zs in
    let e : times k (flat_map f (xs ++ ys)) ≡ times k (flat_map f xs) + times k (flat_map f ys) = ap (times k) (flat-append f xs ys) ∙ times-append k (flat_map f xs) (flat_map f ys) in omega arith

-- what one frame says no more often, many do not
fewer-times : (f g : Message → List ℕ) (k : ℕ) → ((m : Message) → times k (f m) ≤ times k (g m)) → (ms : List Message) → times k (flat_map f ms) ≤ times k (flat_map g ms)
fewer-times f g k le [] = omega arith
fewer-times f g k le (m ∷ ms) =
    let a : times k (f m) ≤ times k (g m) = le m in let b : times k (flat_map f ms) ≤ times k (flat_map g ms) = fewer-times f g k le ms in
    let c : times k (f m ++ flat_map f ms) ≡ times k (f m) + times k (flat_map f ms) = times-append k (f m) (flat_map f ms) in
    let d : times k (g m ++ flat_map g ms) ≡ times k (g m) + times k (flat_map g ms) = times-append k (g m) (flat_map g ms) in omega arith

-- a result is a reply
result-reply : (k : ℕ) (m : Message) → times k (result_in m) ≤ times k (reply_in m)
result-reply k (message.Hello version space digest) = omega arith
result-reply k (message.Call number object method fuel arguments) = omega arith
result-reply k (message.Returned number fuel value) = omega arith
result-reply k (message.Threw number class) = omega arith
result-reply k (message.Spent number) = omega arith
result-reply k (message.Ack number) = omega arith
result-reply k (message.Dirty sequence period objects) = omega arith
result-reply k (message.Lease sequence period) = omega arith
result-reply k (message.Clean sequence strong objects) = omega arith
result-reply k (message.Cleaned sequence) = omega arith
result-reply k (message.Lookup number name) = omega arith

-- what was sent on two connections is no more than all that was sent
two-connections : (f : Message → List ℕ) (k c d : ℕ) (os : List Output) → (c ≡ d → ⊥) → times k (flat_map f (sent_on c os)) + times k (flat_map f (sent_on d os)) ≤ times k (flat_map f (frames_in os))
two-connections f k c d [] apart = omega arith
two-connections f k c d (Started task ∷ os) apart = two-connections f k c d os apart
two-connections f k c d (Ended task outcome ∷ os) apart = two-connections f k c d os apart
two-connections f k c d (Withdrawn ids ∷ os) apart = two-connections f k c d os apart
two-connections f k c d (Denied why ∷ os) apart = two-connections f k c d os apart
two-connections f k c d (Send n m ∷ os) apart = pick (n == c) refl (n == d) refl (two-connections f k c d os apart)
  where
    pick : (a : Bool) → (n == c) ≡ a → (b : Bool) → (n == d) ≡ b → times k (flat_map f (sent_on c os)) + times k (flat_map f (sent_on d os)) ≤ times k (flat_map f (frames_in os))
        → times k (flat_map f ((if a then m ∷ [] else []) ++ sent_on c os)) + times k (flat_map f ((if b then m ∷ [] else []) ++ sent_on d os)) ≤ times k (f m ++ flat_map f (frames_in os))
    pick true e true g rest = absurd (apart (sym (eqb-true n c e) ∙ eqb-true n d g))
    pick true e false g rest =
        let x : times k (f m ++ flat_map f (sent_on c os)) ≡ times k (f m) + times k (flat_map f (sent_on c os)) = times-append k (f m) (flat_map f (sent_on c os)) in
        let y : times k (f m ++ flat_map f (frames_in os)) ≡ times k (f m) + times k (flat_map f (frames_in os)) = times-append k (f m) (flat_map f (frames_in os)) in omega arith
    pick false e true g rest =
        let x : times k (f m ++ flat_map f (sent_on d os)) ≡ times k (f m) + times k (flat_map f (sent_on d os)) = times-append k (f m) (flat_map f (sent_on d os)) in
        let y : times k (f m ++ flat_map f (frames_in os)) ≡ times k (f m) + times k (flat_map f (frames_in os)) = times-append k (f m) (flat_map f (frames_in os)) in omega arith
    pick false e false g rest = let y : times k (f m ++ flat_map f (frames_in os)) ≡ times k (f m) + times k (flat_map f (frames_in os)) = times-append k (f m) (flat_map f (frames_in os)) in omega arith
two-connections f k c d (Dial peer ∷ os) apart = two-connections f k c d os apart
two-connections f k c d (Close n ∷ os) apart = two-connections f k c d os apart
two-connections f k c d (Ready task ∷ os) apart = two-connections f k c d os apart

one-connection : (f : Message → List ℕ) (k c : ℕ) (os : List Output) → times k (flat_map f (sent_on c os)) ≤ times k (flat_map f (frames_in os))
one-connection f k c os = let a : times k (flat_map f (sent_on c os)) + times k (flat_map f (sent_on (c + 1) os)) ≤ times k (flat_map f (frames_in os)) = two-connections f k c (c + 1) os (λ e. omega (arith, e)) in omega arith

-- numbers that rise stand once
pub rises-once : (k n top : ℕ) (xs : List ℕ) → RisesWithin n top xs → times k xs + count (nat_le k n) ≤ 1
rises-once k n top [] r = let a : count (nat_le k n) ≤ 1 = small (nat_le k n) in omega arith
rises-once k n top (x ∷ xs) r = pick (x == k) refl (nat_le k n) refl (nat_le k x) refl (rises-once k x top xs r.1)
  where
    above : n + 1 ≤ x
    above = r.0

    pick : (a : Bool) → (x == k) ≡ a → (b : Bool) → nat_le k n ≡ b → (c : Bool) → nat_le k x ≡ c → times k xs + count c ≤ 1 → (count a + times k xs) + count b ≤ 1
    pick true e true f c g rest = let p : x ≡ k = eqb-true x k e in let q : k ≤ n = Rattle.std.proofs.lemmas.Bool.leb-true k n f in let s : n + 1 ≤ x = above in absurd (omega (arith, p, q, s))
    pick true e false f true g rest = omega arith
    pick true e false f false g rest = let p : x ≡ k = eqb-true x k e in let q : Rattle.std.specs.Prelude.◌<◌ x k = Rattle.std.proofs.lemmas.Bool.leb-false k x g in absurd (omega (arith, p, q))
    pick false e true f true g rest = omega arith
    pick false e true f false g rest = let q : k ≤ n = Rattle.std.proofs.lemmas.Bool.leb-true k n f in let t : Rattle.std.specs.Prelude.◌<◌ x k = Rattle.std.proofs.lemmas.Bool.leb-false k x g in let s : n + 1 ≤ x = above in absurd (omega (arith, q, s, t))
    pick false e false f true g rest = omega arith
    pick false e false f false g rest = omega arith

-- ---- a connection and its two spaces

-- what is known of a connection, and of one number there
record Between (conn k : ℕ) (p : Pipe) (a b : Space) : Type 0 where
  there : AreSomeOf (came_on conn b.history ++ p.accepter.queue) (sent_on conn a.outputs)
  back : AreSomeOf (came_on conn a.history ++ p.dialler.queue) (sent_on conn b.outputs)
  answers : (x : Exchange) → under_way x conn k b.state + times_answered x k (sent_on conn b.outputs) ≤ times_asked x k (came_on conn b.history)
  acks : under_way ResultAck conn k a.state + times_answered ResultAck k (sent_on conn a.outputs) ≤ times_asked ResultAck k (came_on conn a.history)

answers-of : FramesGoTheirWay → (s : Space) → Known s → (x : Exchange) (conn k : ℕ) → under_way x conn k s.state + times_answered x k (sent_on conn s.outputs) ≤ times_asked x k (came_on conn s.history)
answers-of ways s known x conn k = subst (λ os. under_way x conn k s.state + times_answered x k (sent_on conn os) ≤ times_asked x k (came_on conn s.history)) (sym known.outputs)
    (subst (λ t. under_way x conn k t + times_answered x k (sent_on conn (Space.all_outputs s.setting s.history)) ≤ times_asked x k (came_on conn s.history)) (sym known.state) (frames_are_answered_once ways s.setting s.history x conn k known.taken known.once))

between : FramesGoTheirWay → (w : World) → Delivers w → AllOf Known w.spaces → (conn k : ℕ) (p : Pipe) (a b : Space) → IsBetween w conn p a b → Between conn k p a b
between ways w comes all conn k p a b is = record {
  there = subst (λ os. AreSomeOf (came_on conn b.history ++ p.accepter.queue) (sent_on conn os)) (outputs-there w.spaces p.dialler.space a is.dialled) (comes.brings conn p Accepter is.pipe b is.accepted);
  back = subst (λ os. AreSomeOf (came_on conn a.history ++ p.dialler.queue) (sent_on conn os)) (outputs-there w.spaces p.accepter.space b is.accepted) (comes.brings conn p Dialler is.pipe a is.dialled);
  answers = λ x. answers-of ways b (at-all Known p.accepter.space w.spaces b is.accepted all) x conn k;
  acks = answers-of ways a (at-all Known p.dialler.space w.spaces a is.dialled all) ResultAck conn k;
}

-- a call stands on a connection no more often than it was sent there
calls-stand : {conn k : ℕ} {p : Pipe} {a b : Space} → Between conn k p a b → call_stands conn k p a b ≤ times k (call_numbers (sent_on conn a.outputs))
calls-stand {conn} {k} {p} {a} {b} f =
    let c : times k (flat_map call_number_in (came_on conn b.history)) + times k (flat_map call_number_in p.accepter.queue) ≤ times k (call_numbers (sent_on conn a.outputs)) = some-times call_number_in k (came_on conn b.history) p.accepter.queue (sent_on conn a.outputs) f.there in
    let d : under_way CallReply conn k b.state + times_answered CallReply k (sent_on conn b.outputs) ≤ times k (flat_map call_number_in (came_on conn b.history)) = f.answers CallReply in
    let e : times k (flat_map reply_in (came_on conn a.history)) + times k (flat_map reply_in p.dialler.queue) ≤ times_answered CallReply k (sent_on conn b.outputs) = some-times reply_in k (came_on conn a.history) p.dialler.queue (sent_on conn b.outputs) f.back in
    let g : under_way ResultAck conn k a.state + times_answered ResultAck k (sent_on conn a.outputs) ≤ times k (flat_map result_in (came_on conn a.history)) = f.acks in
    let h : times k (flat_map result_in (came_on conn a.history)) ≤ times k (flat_map reply_in (came_on conn a.history)) = fewer-times result_in reply_in k (result-reply k) (came_on conn a.history) in
    let i : under_way CallReply conn k b.state + times k (flat_map reply_in p.dialler.queue) + times k (flat_map reply_in (came_on conn a.history)) ≤ times k (flat_map call_number_in (came_on conn b.history)) = omega arith in
    let j : under_way ResultAck conn k a.state ≤ times k (flat_map reply_in (came_on conn a.history)) = omega arith in omega arith

-- answers that came and those on their way
answered-both : (x : Exchange) (k : ℕ) (xs ys : List Message) → times_answered x k (xs ++ ys) ≡ times_answered x k xs + times_answered x k ys
answered-both x k xs ys = ap (times k) (flat-append (answered_in x) xs ys) ∙ times-append k (flat_map (answered_in x) xs) (flat_map (answered_in x) ys)

calls-answered : {conn k : ℕ} {p : Pipe} {a b : Space} → Between conn k p a b → call_answered conn k p a b ≤ times k (call_numbers (sent_on conn a.outputs))
calls-answered {conn} {k} {p} {a} {b} f =
    let c : times k (flat_map call_number_in (came_on conn b.history)) + times k (flat_map call_number_in p.accepter.queue) ≤ times k (call_numbers (sent_on conn a.outputs)) = some-times call_number_in k (came_on conn b.history) p.accepter.queue (sent_on conn a.outputs) f.there in
    let d : under_way CallReply conn k b.state + times_answered CallReply k (sent_on conn b.outputs) ≤ times k (flat_map call_number_in (came_on conn b.history)) = f.answers CallReply in
    let e : times_answered CallReply k (came_on conn a.history) + times_answered CallReply k p.dialler.queue ≤ times_answered CallReply k (sent_on conn b.outputs) = some-times reply_in k (came_on conn a.history) p.dialler.queue (sent_on conn b.outputs) f.back in
    let g : times_answered CallReply k (came_on conn a.history ++ p.dialler.queue) ≡ times_answered CallReply k (came_on conn a.history) + times_answered CallReply k p.dialler.queue = answered-both CallReply k (came_on conn a.history) p.dialler.queue in omega arith

groups-stand : {conn k : ℕ} {p : Pipe} {a b : Space} → Between conn k p a b → group_stands conn k p a ≤ times k (sequence_numbers (sent_on conn a.outputs))
groups-stand {conn} {k} {p} {a} {b} f =
    let c : times k (flat_map sequence_in (came_on conn b.history)) + times k (flat_map sequence_in p.accepter.queue) ≤ times k (sequence_numbers (sent_on conn a.outputs)) = some-times sequence_in k (came_on conn b.history) p.accepter.queue (sent_on conn a.outputs) f.there in
    let d : under_way GroupReply conn k b.state + times_answered GroupReply k (sent_on conn b.outputs) ≤ times k (flat_map sequence_in (came_on conn b.history)) = f.answers GroupReply in
    let e : times_answered GroupReply k (came_on conn a.history) + times_answered GroupReply k p.dialler.queue ≤ times_answered GroupReply k (sent_on conn b.outputs) = some-times (answered_in GroupReply) k (came_on conn a.history) p.dialler.queue (sent_on conn b.outputs) f.back in
    let g : times_answered GroupReply k (came_on conn a.history ++ p.dialler.queue) ≡ times_answered GroupReply k (came_on conn a.history) + times_answered GroupReply k p.dialler.queue = answered-both GroupReply k (came_on conn a.history) p.dialler.queue in omega arith

results-stand : {conn k : ℕ} {p : Pipe} {a b : Space} → Between conn k p a b → result_stands conn k p a b ≤ times k (call_numbers (sent_on conn a.outputs))
results-stand {conn} {k} {p} {a} {b} f =
    let c : times k (flat_map call_number_in (came_on conn b.history)) + times k (flat_map call_number_in p.accepter.queue) ≤ times k (call_numbers (sent_on conn a.outputs)) = some-times call_number_in k (came_on conn b.history) p.accepter.queue (sent_on conn a.outputs) f.there in
    let d : under_way CallReply conn k b.state + times k (flat_map reply_in (sent_on conn b.outputs)) ≤ times k (flat_map call_number_in (came_on conn b.history)) = f.answers CallReply in
    let e : times k (flat_map result_in (came_on conn a.history)) + times k (flat_map result_in p.dialler.queue) ≤ times k (flat_map result_in (sent_on conn b.outputs)) = some-times result_in k (came_on conn a.history) p.dialler.queue (sent_on conn b.outputs) f.back in
    let g : under_way ResultAck conn k a.state + times k (flat_map (answered_in ResultAck) (sent_on conn a.outputs)) ≤ times k (flat_map result_in (came_on conn a.history)) = f.acks in
    let h : times k (flat_map result_in (sent_on conn b.outputs)) ≤ times k (flat_map reply_in (sent_on conn b.outputs)) = fewer-times result_in reply_in k (result-reply k) (sent_on conn b.outputs) in
    let i : times k (flat_map (answered_in ResultAck) (came_on conn b.history)) + times k (flat_map (answered_in ResultAck) p.accepter.queue) ≤ times k (flat_map (answered_in ResultAck) (sent_on conn a.outputs)) = some-times (answered_in ResultAck) k (came_on conn b.history) p.accepter.queue (sent_on conn a.outputs) f.there in
    let j : times k (flat_map (answered_in ResultAck) (came_on conn b.history ++ p.accepter.queue)) ≡ times k (flat_map (answered_in ResultAck) (came_on conn b.history)) + times k (flat_map (answered_in ResultAck) p.accepter.queue)
    = ap (times k) (flat-append (answered_in ResultAck) (came_on conn b.history) p.accepter.queue) ∙ times-append k (flat_map (answered_in ResultAck) (came_on conn b.history)) (flat_map (answered_in ResultAck) p.accepter.queue) in omega arith

-- a result that stands in a list
result-of : (k : ℕ) (ms : List Message) → 1 ≤ times k (flat_map result_in ms) → (fuel : ℕ) × ((value : Option Rattle.space_ids.specs.declared.value.Value.Value) × IsOneOf (message.Returned k fuel value) ms)
result-of k [] le = absurd (omega (arith, le))
result-of k (m ∷ ms) le = by m le (λ j. result-of k ms j)
  where
    Of : List Message → Type 0
    Of ns = (fuel : ℕ) × ((value : Option Rattle.space_ids.specs.declared.value.Value.Value) × IsOneOf (message.Returned k fuel value) ns)

    later : (n : Message) → Of ms → Of (n ∷ ms)
    later n x = (x.0, (x.1.0, inr x.1.1))

    by : (n : Message) → 1 ≤ times k (result_in n ++ flat_map result_in ms) → (1 ≤ times k (flat_map result_in ms) → Of ms) → Of (n ∷ ms)
    by (message.Returned number fuel value) j rest = pick (number == k) refl j
      where
        pick : (b : Bool) → (number == k) ≡ b → 1 ≤ count b + times k (flat_map result_in ms) → Of (message.Returned number fuel value ∷ ms)
        pick true e i = (fuel, (value, inl (ap (λ n. message.Returned n fuel value) (sym (eqb-true number k e)))))
        pick false e i = later (message.Returned number fuel value) (rest (omega (arith, i)))
    by (message.Hello version space digest) j rest = later _ (rest j)
    by (message.Call number object method fuel arguments) j rest = later _ (rest j)
    by (message.Threw number class) j rest = later _ (rest j)
    by (message.Spent number) j rest = later _ (rest j)
    by (message.Ack number) j rest = later _ (rest j)
    by (message.Dirty sequence period objects) j rest = later _ (rest j)
    by (message.Lease sequence period) j rest = later _ (rest j)
    by (message.Clean sequence strong objects) j rest = later _ (rest j)
    by (message.Cleaned sequence) j rest = later _ (rest j)
    by (message.Lookup number name) j rest = later _ (rest j)

result-sent : {conn k : ℕ} {p : Pipe} {a b : Space} → Between conn k p a b → 1 ≤ times_answered ResultAck k p.accepter.queue → SentResult conn k b
result-sent {conn} {k} {p} {a} {b} f le = found (result-of k (sent_on conn b.outputs) (let e : times k (flat_map result_in (came_on conn a.history)) + times k (flat_map result_in p.dialler.queue) ≤ times k (flat_map result_in (sent_on conn b.outputs)) = some-times result_in k (came_on conn a.history) p.dialler.queue (sent_on conn b.outputs) f.back in
    let g : under_way ResultAck conn k a.state + times k (flat_map (answered_in ResultAck) (sent_on conn a.outputs)) ≤ times k (flat_map result_in (came_on conn a.history)) = f.acks in
    let i : times k (flat_map (answered_in ResultAck) (came_on conn b.history)) + times k (flat_map (answered_in ResultAck) p.accepter.queue) ≤ times k (flat_map (answered_in ResultAck) (sent_on conn a.outputs)) = some-times (answered_in ResultAck) k (came_on conn b.history) p.accepter.queue (sent_on conn a.outputs) f.there in
    let l : 1 ≤ times k (flat_map (answered_in ResultAck) p.accepter.queue) = le in omega arith))
  where
    found : (fuel : ℕ) × ((value : Option Rattle.space_ids.specs.declared.value.Value.Value) × IsOneOf (message.Returned k fuel value) (sent_on conn b.outputs)) → SentResult conn k b
    found x = record { fuel = x.0; value = x.1.0; sent = x.1.1 }

-- ---- the laws

goes-out : FramesGoTheirWay → (s : Space) → Known s → (k : ℕ) → times k (call_numbers (frames_in s.outputs)) + waiting_to_go k s.state ≤ 1
goes-out ways s known k = subst (λ os. times k (call_numbers (frames_in os)) + waiting_to_go k s.state ≤ 1) (sym known.outputs)
    (subst (λ t. times k (call_numbers (frames_in (Space.all_outputs s.setting s.history))) + waiting_to_go k t ≤ 1) (sym known.state) (calls_go_out_once ways s.setting s.history k known.taken known.once))

sequence-once : FramesGoTheirWay → (s : Space) → Known s → (k : ℕ) → times k (sequence_numbers (frames_in s.outputs)) ≤ 1
sequence-once ways s known k = subst (λ os. times k (sequence_numbers (frames_in os)) ≤ 1) (sym known.outputs)
    (let a : times k (sequence_numbers (frames_in (Space.all_outputs s.setting s.history))) + count (nat_le k 0) ≤ 1 = rises-once k 0 (numbers_of (Space.state_of s.setting s.history).leases) (sequence_numbers (frames_in (Space.all_outputs s.setting s.history))) (sequence_numbers_rise ways s.setting s.history known.taken known.once) in omega arith)

calls_in_world : FramesGoTheirWay → (w : World) → Delivers w → AllOf Known w.spaces → CallsStandOnceIn w
calls_in_world ways w comes all = record {
  once = λ conn k p a b is.
      let c : call_stands conn k p a b ≤ times k (call_numbers (sent_on conn a.outputs)) = calls-stand (between ways w comes all conn k p a b is) in
      let d : times k (call_numbers (sent_on conn a.outputs)) ≤ times k (call_numbers (frames_in a.outputs)) = one-connection call_number_in k conn a.outputs in
      let e : times k (call_numbers (frames_in a.outputs)) + waiting_to_go k a.state ≤ 1 = goes-out ways a (at-all Known p.dialler.space w.spaces a is.dialled all) k in omega arith;
  answered = λ conn k p a b is.
      let c : call_answered conn k p a b ≤ times k (call_numbers (sent_on conn a.outputs)) = calls-answered (between ways w comes all conn k p a b is) in
      let d : times k (call_numbers (sent_on conn a.outputs)) ≤ times k (call_numbers (frames_in a.outputs)) = one-connection call_number_in k conn a.outputs in
      let e : times k (call_numbers (frames_in a.outputs)) + waiting_to_go k a.state ≤ 1 = goes-out ways a (at-all Known p.dialler.space w.spaces a is.dialled all) k in omega arith;
  apart = λ conn d k p q a b c other is also.
      let x : call_stands conn k p a b ≤ times k (call_numbers (sent_on conn a.outputs)) = calls-stand (between ways w comes all conn k p a b is) in
      let y : call_stands d k q a c ≤ times k (call_numbers (sent_on d a.outputs)) = calls-stand (between ways w comes all d k q a c also) in
      let z : times k (call_numbers (sent_on conn a.outputs)) + times k (call_numbers (sent_on d a.outputs)) ≤ times k (call_numbers (frames_in a.outputs)) = two-connections call_number_in k conn d a.outputs other in
      let e : times k (call_numbers (frames_in a.outputs)) + waiting_to_go k a.state ≤ 1 = goes-out ways a (at-all Known p.dialler.space w.spaces a is.dialled all) k in omega arith;
}

groups_in_world : FramesGoTheirWay → (w : World) → Delivers w → AllOf Known w.spaces → GroupsStandOnceIn w
groups_in_world ways w comes all = record {
  once = λ conn k p a b is.
      let c : group_stands conn k p a ≤ times k (sequence_numbers (sent_on conn a.outputs)) = groups-stand (between ways w comes all conn k p a b is) in
      let d : times k (sequence_numbers (sent_on conn a.outputs)) ≤ times k (sequence_numbers (frames_in a.outputs)) = one-connection sequence_in k conn a.outputs in
      let e : times k (sequence_numbers (frames_in a.outputs)) ≤ 1 = sequence-once ways a (at-all Known p.dialler.space w.spaces a is.dialled all) k in omega arith;
  apart = λ conn d k p q a b c other is also.
      let x : group_stands conn k p a ≤ times k (sequence_numbers (sent_on conn a.outputs)) = groups-stand (between ways w comes all conn k p a b is) in
      let y : group_stands d k q a ≤ times k (sequence_numbers (sent_on d a.outputs)) = groups-stand (between ways w comes all d k q a c also) in
      let z : times k (sequence_numbers (sent_on conn a.outputs)) + times k (sequence_numbers (sent_on d a.outputs)) ≤ times k (sequence_numbers (frames_in a.outputs)) = two-connections sequence_in k conn d a.outputs other in
      let e : times k (sequence_numbers (frames_in a.outputs)) ≤ 1 = sequence-once ways a (at-all Known p.dialler.space w.spaces a is.dialled all) k in omega arith;
}

results_in_world : FramesGoTheirWay → (w : World) → Delivers w → AllOf Known w.spaces → ResultsStandOnceIn w
results_in_world ways w comes all = record {
  once = λ conn k p a b is.
      let c : result_stands conn k p a b ≤ times k (call_numbers (sent_on conn a.outputs)) = results-stand (between ways w comes all conn k p a b is) in
      let d : times k (call_numbers (sent_on conn a.outputs)) ≤ times k (call_numbers (frames_in a.outputs)) = one-connection call_number_in k conn a.outputs in
      let e : times k (call_numbers (frames_in a.outputs)) + waiting_to_go k a.state ≤ 1 = goes-out ways a (at-all Known p.dialler.space w.spaces a is.dialled all) k in omega arith;
  sent = λ conn k p a b is le. result-sent (between ways w comes all conn k p a b is) le;
}

pub each_call_stands_once : FramesGoTheirWay → WhatComesWasSent → EachCallStandsOnce
each_call_stands_once ways comes settings events = calls_in_world ways (run (new_world settings) events) (comes settings events) (all_known settings events)

pub each_group_is_answered_once : FramesGoTheirWay → WhatComesWasSent → EachGroupIsAnsweredOnce
each_group_is_answered_once ways comes settings events = groups_in_world ways (run (new_world settings) events) (comes settings events) (all_known settings events)

pub each_result_is_acknowledged_once : FramesGoTheirWay → WhatComesWasSent → EachResultIsAcknowledgedOnce
each_result_is_acknowledged_once ways comes settings events = results_in_world ways (run (new_world settings) events) (comes settings events) (all_known settings events)
