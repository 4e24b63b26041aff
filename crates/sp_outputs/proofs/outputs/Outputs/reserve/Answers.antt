use Rattle.std.proofs.Common.{ap, ◌∙◌, vec_len, vec_capacity}
use Rattle.std.proofs.Math.Nat.{le_refl}
use Rattle.std.proofs.lemmas.Result.{on_ok_weaker}
use Rattle.sp_outputs.specs.Notes.{noted, notes_of, room}
use Rattle.sp_outputs.proofs.RoomLemmas.{grows, reserves}
use Rattle.sp_outputs.proofs.outputs.Outputs.reserve.Goals as goal

pub returns-in_err-reserve-clause-same : goal.returns-in_err-reserve-clause-same
unfolding notes_of
returns-in_err-reserve-clause-same c = ap noted c.reserve.ensures.items

pub returns-in_err-reserve-clause-room : goal.returns-in_err-reserve-clause-room
unfolding room
returns-in_err-reserve-clause-room c =
    let told = vec_capacity c.args.self.now.told in
    grows (vec_len c.args.self.now.notes) (vec_len c.reserve.new.self) (vec_capacity c.args.self.now.notes) (vec_capacity c.reserve.new.self) told told c.reserve.ensures.len c.reserve.ensures.capacity (le_refl told)

pub returns-clause-same : goal.returns-clause-same
unfolding notes_of
returns-clause-same c = ap noted c.reserve.ensures.items

pub returns-clause-room : goal.returns-clause-room
unfolding room
returns-clause-room c =
    grows (vec_len c.args.self.now.notes) (vec_len c.reserve.new.self) (vec_capacity c.args.self.now.notes) (vec_capacity c.reserve.new.self) (vec_capacity c.args.self.now.told) (vec_capacity c.reserve-2.new.self)
    c.reserve.ensures.len c.reserve.ensures.capacity c.reserve-2.ensures.capacity

pub returns-clause-ok : goal.returns-clause-ok
unfolding room
returns-clause-ok c =
    on_ok_weaker c.reserve-2.result
    (reserves (vec_len c.reserve.new.self) (vec_capacity c.reserve.new.self) (vec_capacity c.reserve-2.new.self) c.args.notes (vec_len c.reserve-2.new.self) c.capacity.result
    c.in_ok-reserve.ensures.ok (c.reserve-2.ensures.len ∙ c.args.self.now.none_told) c.capacity.ensures)
    c.reserve-2.ensures.ok
