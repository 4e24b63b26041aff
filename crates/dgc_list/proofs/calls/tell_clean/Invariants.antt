use Rattle.std.proofs.Common.{take, IsTrue}
use Rattle.dgc_list.specs.Remembered.{after_clean}
use Rattle.dgc_list.specs.Objects.{AreKnown, IsCovered, Tells}
use Rattle.dgc_list.proofs.calls.tell_clean.Given as goal

-- the call was made on the objects so far, and the client keeps its room if the call is strong
abbrev pub invariant-loop-id : goal.invariant-loop-id
invariant-loop-id l = record {
  told : Tells (after_clean l.number l.strong) l.client (take l.id-index l.ids) l.initial.objects l.objects;
  known : IsTrue l.strong → AreKnown l.client l.ids l.objects;
  covered : IsCovered l.initial.objects l.initial.expiries → IsCovered l.objects l.expiries;
}
