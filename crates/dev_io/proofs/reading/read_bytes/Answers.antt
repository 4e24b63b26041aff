use Rattle.std.proofs.Common.{length, take, arith, rules}
use Rattle.std.proofs.lemmas.List.{length-take}
use Rattle.dev_io.proofs.Pieces.{all_at_end, front_of_many}
use Rattle.dev_io.proofs.reading.read_bytes.Goals as goal
use Rattle.dev_io.proofs.reading.read_bytes.Goals.{then-not-more-via-then-not-more, then-not-more-via-else-not-more+then-len-most}

pub returns-then-not-more-clause-all : goal.returns-then-not-more-clause-all
returns-then-not-more-clause-all g c =
    let before = g.S.Source.remaining c.args.source.now in
    let mid = g.S.Source.remaining c.pieces.source in
    let after = g.S.Source.remaining c.read_piece.new.source in
    let asked = length (take c.min-asked.result c.pieces.buffer) in
    elim c.then-not-more.branch [
      | then-not-more-via-then-not-more w ↦ all_at_end c.args.most before mid after c.pieces.bytes.items c.read_piece.new.bytes.items c.pieces.invariant.passed c.in_ok-more.ensures.given (search rules) (omega arith)
      | then-not-more-via-else-not-more+then-len-most w ↦ front_of_many c.args.most before mid after asked c.pieces.bytes.items c.read_piece.new.bytes.items c.pieces.invariant.passed c.in_ok-more.ensures.given (omega arith) (omega (arith, length-take c.min-asked.result c.pieces.buffer)) (omega arith)
    ]
