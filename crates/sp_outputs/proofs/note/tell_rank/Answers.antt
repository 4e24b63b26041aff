use Rattle.std.proofs.Common.{◌≡◌, ◌+◌, ◌<◌, ◌≤◌, List, length, get_or, set, sym, ap, subst, ◌∙◌, vec_len, arith}
use Rattle.std.specs.Prelude.{option_to_list}
use Rattle.std.proofs.lemmas.List.{get_or_default}
use Rattle.sp_outputs.specs.Notes.{noted, noted_at}
use Rattle.sp_outputs.specs.declared.output.Output.{Output}
use Rattle.sp_outputs.proofs.SlotLemmas.{ArePassed, one-counted, one-passed, one-there}
use Rattle.sp_outputs.proofs.note.tell_rank.Goals as goal

pub tell-requires : goal.tell-requires
tell-requires c =
    let i = c.loop-slot.slot-index in
    let slots = c.loop-slot.slots in
    let below : i < length slots = omega arith in
    let item = get_or slots i c.slot-item.result in
    let there : length (noted_at item) ≤ length (noted slots) = one-there i slots item below (get_or_default slots i c.slot-item.result item below) in
    let count : length (option_to_list c.take_of_rank.result) + length (noted_at c.take_of_rank.new.slot) ≡ length (noted_at item) = c.take_of_rank.ensures.count in
    omega (arith, there, count, c.loop-slot.invariant.count, c.loop-slot.invariant.capacity, c.requires)

pub loop-slot-preserved : goal.loop-slot-preserved
loop-slot-preserved c =
    let i = c.loop-slot.slot-index in
    let slots = c.loop-slot.slots in
    let below : i < length slots = omega arith in
    let item = get_or slots i c.slot-item.result in
    let is : item ≡ get_or slots i item = get_or_default slots i c.slot-item.result item below in
    let out = c.take_of_rank.result in
    let new = c.take_of_rank.new.slot in
    record {
      passed = subst (λ (l : List Output). ArePassed c.args.rank (i + 1) c.args.slots.now (set slots i new) c.args.told.now.items l) (sym c.tell.ensures.items)
          (one-passed c.args.rank i c.args.slots.now slots c.args.told.now.items c.loop-slot.told.items item new out below is c.take_of_rank.ensures.taken c.take_of_rank.ensures.others c.loop-slot.invariant.passed);
      count = ap (λ n. n + length (noted (set slots i new))) c.tell.ensures.len
          ∙ one-counted i (vec_len c.loop-slot.told) (length (option_to_list out)) (vec_len c.args.told.now) c.args.slots.now slots item new below is c.take_of_rank.ensures.count c.loop-slot.invariant.count;
      capacity = c.tell.ensures.capacity ∙ c.loop-slot.invariant.capacity;
    }
