use Rattle.std.proofs.Common.{◌≡◌, ◌+◌, ◌++◌, Bool, true, List, [], Option, refl, sym, ap, ◌∙◌, map, length, take, drop, vec_len, vec_capacity, Vec, Global, add-one, arith}
use Rattle.std.specs.Prelude.{◌==◌}
use Rattle.std.proofs.Math.Nat.{add-zero, zero-add}
use Rattle.std.proofs.lemmas.Bool.{eqb-true}
use Rattle.std.proofs.lemmas.List.{nil_from_length, take_at}
use Rattle.sp_rules.specs.Events as rules
use Rattle.sp_rules.specs.Events.{in_order}
use Rattle.sp_outputs.specs.Frames.{frames_in}
use Rattle.sp_outputs.specs.Notes.{noted, notes_of, output_of}
use Rattle.sp_outputs.specs.Ranks.{has_rank}
use Rattle.sp_outputs.specs.declared.note.Note.{Note}
use Rattle.sp_outputs.specs.declared.output.Output.{Output}
use Rattle.sp_outputs.proofs.OrderLemmas.{any-from, from_rank, from-zero, of_others, of-from, others-from}
use Rattle.sp_outputs.proofs.RoomLemmas.{within}
use Rattle.sp_outputs.proofs.SlotLemmas.{all-noted, none-left}
use Rattle.sp_outputs.proofs.TurnLemmas.{in-turns}
use Rattle.sp_outputs.proofs.outputs.Outputs.take_in_order.Goals as goal

-- nothing is noted
none-noted : (notes : Vec (Option Note) Global) (is : Bool) → is ≡ (vec_len notes == 0) → is ≡ true → notes.items ≡ []
none-noted notes is tells empty = nil_from_length notes.items (sym notes.ok.0 ∙ eqb-true (vec_len notes) 0 (sym tells ∙ empty))

pub returns-then-is_empty-clause-ordered : goal.returns-then-is_empty-clause-ordered
unfolding notes_of in_order
returns-then-is_empty-clause-ordered c =
    ap (map output_of) c.new.ensures.items ∙ sym (ap (λ (l : List (Option Note)). in_order (noted l)) (none-noted c.args.self.now.notes c.is_empty.result c.is_empty.ensures c.if-is_empty.true))

pub returns-then-is_empty-clause-frames : goal.returns-then-is_empty-clause-frames
returns-then-is_empty-clause-frames c = ap frames_in (returns-then-is_empty-clause-ordered c) ∙ in-turns (notes_of c.args.self.now)

pub returns-then-is_empty-clause-whole : goal.returns-then-is_empty-clause-whole
unfolding notes_of
returns-then-is_empty-clause-whole c =
    ap length c.new.ensures.items ∙ sym (ap (λ (l : List (Option Note)). length (noted l)) (none-noted c.args.self.now.notes c.is_empty.result c.is_empty.ensures c.if-is_empty.true))

pub returns-then-is_empty-clause-notes : goal.returns-then-is_empty-clause-notes
unfolding notes_of
returns-then-is_empty-clause-notes c = ap noted (none-noted c.args.self.now.notes c.is_empty.result c.is_empty.ensures c.if-is_empty.true)

pub tell_there-requires-clause-there : goal.tell_there-requires-clause-there
tell_there-requires-clause-there c =
    let all = noted c.replace-notes.result.items in
    let rank = c.loop-rank.rank in
    c.ranks_of-ranks.ensures rank c.loop-rank-test.true
    ∙ ap (λ (l : List rules.Note). has_rank l rank) (ap noted c.deref.ensures.value ∙ sym (ap (λ (v : Vec (Option Note) Global). noted v.items) c.replace-notes.ensures.value))
    ∙ sym (any-from rank all) ∙ sym (ap (λ (l : List rules.Note). has_rank l rank) (ap noted c.deref_mut.ensures.value ∙ c.loop-rank.invariant.left))

pub loop-rank-init : goal.loop-rank-init
loop-rank-init c =
    let notes = c.args.self.now.notes in
    let none : vec_len c.replace-told.result ≡ 0 = ap (λ (v : Vec Output Global). vec_len v) c.replace-told.ensures.value ∙ c.args.self.now.none_told in
    let count : length (noted c.replace-notes.result.items) ≡ vec_len notes = ap (λ (v : Vec (Option Note) Global). length (noted v.items)) c.replace-notes.ensures.value ∙ all-noted notes.items c.args.self.now.said ∙ sym notes.ok.0 in
    let room : vec_capacity c.replace-told.result ≡ vec_capacity c.args.self.now.told = ap (λ (v : Vec Output Global). vec_capacity v) c.replace-told.ensures.value in
    record {
      told = ap (map output_of) (nil_from_length c.replace-told.result.items (sym c.replace-told.result.ok.0 ∙ none));
      left = sym (from-zero (noted c.replace-notes.result.items));
      count = ap (λ n. n + length (noted c.replace-notes.result.items)) none ∙ zero-add (length (noted c.replace-notes.result.items));
      room = within (length (noted c.replace-notes.result.items)) (vec_len notes) (vec_capacity c.replace-told.result) (vec_capacity c.args.self.now.told) count room c.args.self.now.room_to_tell;
    }

pub loop-rank-preserved : goal.loop-rank-preserved
loop-rank-preserved c =
    let all = noted c.replace-notes.result.items in
    let rank = c.loop-rank.rank in
    let told = c.tell_there.new.told in
    let len : length c.tell_there.new.slots ≡ c.loop-rank.notes.len = omega (arith, c.tell_there.auto.slots, c.deref_mut.ensures.len) in
    let back : take c.loop-rank.notes.len (c.tell_there.new.slots ++ drop (length c.tell_there.new.slots) c.loop-rank.notes.items) ≡ c.tell_there.new.slots =
    take_at c.tell_there.new.slots (drop (length c.tell_there.new.slots) c.loop-rank.notes.items) c.loop-rank.notes.len len in
    record {
      told = c.tell_there.ensures.told ∙ ap (λ (l : List (Option Note)). map output_of c.loop-rank.told.items ++ rules.of_rank (noted l) rank) c.deref_mut.ensures.value
          ∙ (λ i. c.loop-rank.invariant.told i ++ rules.of_rank (c.loop-rank.invariant.left i) rank) ∙ ap (λ l. rules.of_ranks rank all ++ l) (of-from rank all)
          ∙ ap (λ k. rules.of_ranks k all) (sym (add-one rank));
      left = ap noted back ∙ c.tell_there.ensures.others ∙ ap (λ (l : List (Option Note)). of_others rank (noted l)) c.deref_mut.ensures.value
          ∙ ap (of_others rank) c.loop-rank.invariant.left ∙ others-from rank all ∙ ap (λ k. from_rank k all) (sym (add-one rank));
      count = ap (λ (l : List (Option Note)). vec_len told + length (noted l)) back ∙ c.tell_there.ensures.count
          ∙ ap (λ (l : List (Option Note)). vec_len c.loop-rank.told + length (noted l)) c.deref_mut.ensures.value ∙ c.loop-rank.invariant.count;
      room = within (length all) (length all) (vec_capacity told) (vec_capacity c.loop-rank.told) refl c.tell_there.ensures.capacity c.loop-rank.invariant.room;
    }

pub returns-clause-ordered : goal.returns-clause-ordered
unfolding notes_of in_order
returns-clause-ordered c =
    let last : c.loop-rank.rank ≡ 14 = omega arith in
    c.loop-rank.invariant.told ∙ ap (λ k. rules.of_ranks k (noted c.replace-notes.result.items)) last ∙ ap (λ (v : Vec (Option Note) Global). rules.of_ranks 14 (noted v.items)) c.replace-notes.ensures.value

pub returns-clause-frames : goal.returns-clause-frames
returns-clause-frames c = ap frames_in (returns-clause-ordered c) ∙ in-turns (notes_of c.args.self.now)

pub returns-clause-whole : goal.returns-clause-whole
unfolding notes_of
returns-clause-whole c =
    let told = c.loop-rank.told in
    let last : c.loop-rank.rank ≡ 14 = omega arith in
    let none = c.loop-rank.invariant.left ∙ ap (λ k. from_rank k (noted c.replace-notes.result.items)) last ∙ ap (λ (v : Vec (Option Note) Global). from_rank 14 (noted v.items)) c.replace-notes.ensures.value
    ∙ none-left c.args.self.now.notes.items c.args.self.now.said in
    sym told.ok.0 ∙ sym (add-zero (vec_len told)) ∙ ap (λ (l : List rules.Note). vec_len told + length l) (sym none) ∙ c.loop-rank.invariant.count ∙ ap (λ (v : Vec (Option Note) Global). length (noted v.items)) c.replace-notes.ensures.value

pub returns-clause-notes : goal.returns-clause-notes
unfolding notes_of
returns-clause-notes c = ap noted c.clear.ensures.items
