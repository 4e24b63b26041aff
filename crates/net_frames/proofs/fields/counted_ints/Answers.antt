use Rattle.std.proofs.Common.{◌≡◌, ◌++◌, length, take, drop, Ok, sym, ◌∙◌, arith}
use Rattle.std.proofs.lemmas.List.{take_at}
use Rattle.net_frames.specs.Reading.{items_at, int_at}
use Rattle.net_frames.proofs.Ints.{too_few, all_read}
use Rattle.net_frames.proofs.fields.counted_ints.Goals as goal

pub returns-then-bytes-count : goal.returns-then-bytes-count
returns-then-bytes-count c = too_few c.args.count c.args.bytes.now (omega (arith, c.if-bytes-count.true))

pub returns : goal.returns
returns c =
    let ints = c.read_i32_into.new.dst in
    let room : c.resize.new.self.len ≡ c.args.count = c.in_ok-resize.ensures.len in
    let many : length ints ≡ c.args.count = omega (arith, c.read_i32_into.auto.dst, c.as_mut_slice.ensures.len, room) in
    let whole : c.args.bytes.now ≡ c.split_at.result.0.now ++ c.split_at.result.1.now = c.split_at.ensures.by_index.0 in
    let all : take c.resize.new.self.len (ints ++ drop (length ints) c.resize.new.self.items) ≡ ints =
    take_at ints (drop (length ints) c.resize.new.self.items) c.resize.new.self.len (omega (arith, many, room)) in
    (λ i. items_at int_at (sym many i) (whole i))
    ∙ all_read ints c.split_at.result.0.now c.split_at.result.1.now (omega (arith, c.split_at.ensures.front_len, many)) c.read_i32_into.ensures
    ∙ (λ i. Ok (sym all i, c.split_at.result.1.now))
