use Rattle.std.proofs.Common.{take}
use Rattle.dgc_list.specs.Remembered.{after_dirty}
use Rattle.dgc_list.specs.Objects.{AreKnown, ArePlanned, IsCovered, Tells}
use Rattle.dgc_list.proofs.calls.tell_dirty.Given as goal

-- the call was made on the objects so far, and the client keeps its room and its expiries
abbrev pub invariant-loop-id : goal.invariant-loop-id
invariant-loop-id l = record {
  told : Tells (after_dirty l.number l.expires) l.client (take l.id-index l.ids) l.initial.objects l.objects;
  known : AreKnown l.client l.ids l.objects;
  planned : ArePlanned l.client l.ids l.number l.expires l.initial.objects l.expiries;
  covered : IsCovered l.initial.objects l.initial.expiries → IsCovered l.objects l.expiries;
}
