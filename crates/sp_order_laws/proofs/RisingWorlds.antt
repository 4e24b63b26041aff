-- Numbers rise in every run of every world.
use mathlib.Core.Path.{sym, subst}
use Rattle.std.specs.List.{flat_map}
use Rattle.std.specs.Prelude.{ℕ, ◌==◌, Bool, true, false, List, [], ◌∷◌, ◌++◌, if◌then◌else◌}
use Rattle.dgc_client.specs.Table.{numbers_of}
use Rattle.net_message.specs.declared.message.Message.{Message}
use Rattle.sp_rules.specs.Events.{Output, Started, Ended, Withdrawn, Denied, Send, Dial, Close, Ready}
use Rattle.sp_rules.specs.Laws.{AllOf, RisesWithin}
use Rattle.sp_rules.specs.Space
use Rattle.sp_rules.specs.Worlds.{Space, Accepter, run, new_world}
use Rattle.sp_rules.proofs.AllLemmas.{all-weaken}
use Rattle.sp_laws.specs.Directions.{FramesGoTheirWay}
use Rattle.sp_order_laws.specs.Delivered.{came_on, sent_on, AreSomeOf, WhatComesWasSent}
use Rattle.sp_order_laws.specs.Rising.{sequence_in, frames_in, call_numbers, sequence_numbers, Rise, SendsInOrder, NumbersRise}
use Rattle.sp_order_laws.proofs.NoteLemmas.{rises-after, rises-rest}
use Rattle.sp_order_laws.proofs.RisingLaws.{call_numbers_rise, sequence_numbers_rise}
use Rattle.sp_order_laws.proofs.WorldFacts.{Known, all_known, at-all, outputs-there, some-rise}

-- the frames of one connection among all
one-connection : (f : Message → List ℕ) (conn n top : ℕ) (os : List Output) → RisesWithin n top (flat_map f (frames_in os)) → RisesWithin n top (flat_map f (sent_on conn os))
one-connection f conn n top [] r = r
one-connection f conn n top (Started task ∷ os) r = one-connection f conn n top os r
one-connection f conn n top (Ended task outcome ∷ os) r = one-connection f conn n top os r
one-connection f conn n top (Withdrawn ids ∷ os) r = one-connection f conn n top os r
one-connection f conn n top (Denied why ∷ os) r = one-connection f conn n top os r
one-connection f conn n top (Send c m ∷ os) r = pick (c == conn) (λ k j. one-connection f conn k top os j)
  where
    pick : (b : Bool) → ((k : ℕ) → RisesWithin k top (flat_map f (frames_in os)) → RisesWithin k top (flat_map f (sent_on conn os))) → RisesWithin n top (flat_map f ((if b then m ∷ [] else []) ++ sent_on conn os))
    pick true rest = rises-after n top (f m) (flat_map f (frames_in os)) (flat_map f (sent_on conn os)) rest r
    pick false rest = rest n (rises-rest n top (f m) (flat_map f (frames_in os)) r)
one-connection f conn n top (Dial peer ∷ os) r = one-connection f conn n top os r
one-connection f conn n top (Close c ∷ os) r = one-connection f conn n top os r
one-connection f conn n top (Ready task ∷ os) r = one-connection f conn n top os r

sends : FramesGoTheirWay → (s : Space) → Known s → SendsInOrder s
sends ways s k conn = record {
  calls = subst (λ os. RisesWithin 0 s.state.calls_made (call_numbers (sent_on conn os))) (sym k.outputs)
      (subst (λ t. RisesWithin 0 t.calls_made (call_numbers (sent_on conn (Space.all_outputs s.setting s.history)))) (sym k.state) (call_numbers_rise ways s.setting s.history conn k.taken k.once));
  sequences = one-connection sequence_in conn 0 (numbers_of s.state.leases) s.outputs (subst (λ os. RisesWithin 0 (numbers_of s.state.leases) (sequence_numbers (frames_in os))) (sym k.outputs)
      (subst (λ t. RisesWithin 0 (numbers_of t.leases) (sequence_numbers (frames_in (Space.all_outputs s.setting s.history)))) (sym k.state) (sequence_numbers_rise ways s.setting s.history k.taken k.once)));
}

pub numbers_rise : FramesGoTheirWay → WhatComesWasSent → NumbersRise
numbers_rise ways comes settings events = record {
  sent = spaces;
  brought = λ conn p is a b dials accepts. of-some conn a (at-all SendsInOrder p.dialler.space (run (new_world settings) events).spaces a dials spaces)
      (subst (λ os. AreSomeOf (came_on conn b.history ++ p.accepter.queue) (sent_on conn os)) (outputs-there (run (new_world settings) events).spaces p.dialler.space a dials) ((comes settings events).brings conn p Accepter is b accepts));
}
  where
    spaces : AllOf SendsInOrder (run (new_world settings) events).spaces
    spaces = all-weaken Known SendsInOrder (run (new_world settings) events).spaces (λ s k. sends ways s k) (all_known settings events)

    of-some : (conn : ℕ) (a : Space) {ms : List Message} → SendsInOrder a → AreSomeOf ms (sent_on conn a.outputs) → Rise a.state.calls_made (numbers_of a.state.leases) ms
    of-some conn a {ms} r some = record {
      calls = some-rise Rattle.sp_rules.specs.Endings.call_number_in 0 a.state.calls_made ms (sent_on conn a.outputs) some (r conn).calls;
      sequences = some-rise sequence_in 0 (numbers_of a.state.leases) ms (sent_on conn a.outputs) some (r conn).sequences;
    }
