use Rattle.std.proofs.Common.{ap, sym, ◌∙◌}
use Rattle.std.proofs.lemmas.Nat.{from_le_bytes-to_le_bytes_8}
use Rattle.std.specs.Hash.{le_bytes}
use Rattle.table_copies.specs.Hashes.{with_number}
use Rattle.table_copies.proofs.number_hasher.NumberHasherHasher.write_u64.Goals as goal

pub returns : goal.returns
unfolding le_bytes
returns c = c.take.ensures ∙ ap (with_number c.args.self.now) (sym (from_le_bytes-to_le_bytes_8 c.args.number c.ranges.number.fits))
