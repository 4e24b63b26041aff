use Rattle.std.proofs.Common.{◌≡◌, List, Option, Some, true, refl, sym, ap, subst, ◌∙◌, vec_len, vec_capacity, [], ◌∷◌}
use Rattle.std.specs.List.{list_all}
use Rattle.std.proofs.lemmas.Grind.{flat_map-append}
use Rattle.sp_outputs.specs.Notes.{noted, noted_at, notes_of, room}
use Rattle.sp_outputs.specs.Said.{is_noted}
use Rattle.sp_outputs.specs.declared.note.Note.{Note}
use Rattle.sp_outputs.specs.declared.note.Note.TheVariants.{Sends}
use Rattle.sp_outputs.proofs.RoomLemmas.{fits, one-less, tells}
use Rattle.sp_outputs.proofs.SlotLemmas.{one-noted}
use Rattle.sp_outputs.proofs.outputs.Outputs.send_reserved.Goals as goal

pub push_reserved-requires : goal.push_reserved-requires
unfolding room
push_reserved-requires c = fits (vec_len c.args.self.now.notes) (vec_capacity c.args.self.now.notes) (vec_capacity c.args.self.now.told) c.requires

pub invariant_of-self : goal.invariant_of-self
unfolding room
invariant_of-self c = record {
  said = subst (λ (l : List (Option Note)). list_all is_noted l ≡ true) (sym c.push_reserved.ensures.items) (one-noted c.args.self.now.notes.items (Some (Sends c.args.turn c.args.conn c.args.message)) c.args.self.now.said refl);
  none_told = c.args.self.now.none_told;
  room_to_tell = tells (vec_len c.args.self.now.notes) (vec_len c.push_reserved.new.self) (vec_capacity c.args.self.now.notes) (vec_capacity c.args.self.now.told) c.push_reserved.ensures.len c.requires;
}

pub returns-clause-notes : goal.returns-clause-notes
unfolding notes_of
returns-clause-notes c = ap noted c.push_reserved.ensures.items ∙ flat_map-append noted_at c.args.self.now.notes.items (Some (Sends c.args.turn c.args.conn c.args.message) ∷ [])

pub returns-clause-room : goal.returns-clause-room
unfolding room
returns-clause-room c =
    one-less (vec_len c.args.self.now.notes) (vec_len c.push_reserved.new.self) (vec_capacity c.args.self.now.notes) (vec_capacity c.push_reserved.new.self) (vec_capacity c.args.self.now.told)
    c.push_reserved.ensures.len c.push_reserved.ensures.capacity c.requires
