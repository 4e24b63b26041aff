use Rattle.std.proofs.Common.{rules, ◌∙◌}
use Rattle.std.specs.Int.{w64}
use Rattle.std.proofs.lemmas.Int.{to_z-of_z}
use Rattle.std.proofs.lemmas.List.Sorted.{answers_always}
use Rattle.cf_insns.specs.Listing.{offsets}
use Rattle.cf_insns.proofs.Searches.{searched, begins_at-number, begins_at-before}
use Rattle.cf_insns.proofs.decoder.begins_at.Goals as goal

-- the closure gives an entry's offset
pub returns-in-Ok : goal.returns-in-Ok
returns-in-Ok c =
    let facts = c.binary_search_by_key.ensures in
    let by_offset = facts.position (λ entry. entry.0) (answers_always _ _ _ (λ f a r g called. search rules)) in
    c.is_ok.ensures.value
    ∙ searched c.args.listing.now c.requires c.in-Ok.target c.binary_search_by_key.result facts.bound by_offset
    ∙ begins_at-number (offsets c.args.listing.now) c.args.target c.in-Ok.target (rw (to_z-of_z w64 c.args.target c.ranges.target) at c.in-Ok.ensures)

pub returns-in-Err : goal.returns-in-Err
returns-in-Err c =
    begins_at-before (offsets c.args.listing.now) c.args.target c.ranges.target (rw (to_z-of_z w64 c.args.target c.ranges.target) at c.in-Err.ensures)
