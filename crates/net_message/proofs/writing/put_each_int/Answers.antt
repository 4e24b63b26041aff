use Rattle.std.proofs.Common.{◌≡◌, ℕ, ◌+◌, ◌-◌, ◌*◌, List, [], ◌++◌, length, take, drop, refl, ap, ◌∙◌, arith}
use Rattle.std.specs.Prelude.{ℤ}
use Rattle.std.specs.Int.{w32, cast_unsigned}
use Rattle.std.specs.List.{flat_map}
use Rattle.std.proofs.lemmas.List.{append-nil, drop_all, length-append, length-drop, take_at}
use borrow.Rule.Slice.PartMut.{post_of}
use Rattle.byteorder.specs.Endian.{big_bytes}
use Rattle.net_message.specs.Wire.{number_bytes, int_bytes}
use Rattle.net_message.proofs.Lengths.{length-ints}
use Rattle.net_message.proofs.writing.put_each_int.Goals as goal

spelled : (ns : List ℤ) → flat_map (λ n. big_bytes 4 (cast_unsigned w32 n)) ns ≡ flat_map int_bytes ns
unfolding int_bytes number_bytes
spelled ns = refl

pub returns-clause-items : goal.returns-clause-items
returns-clause-items c =
    let start = c.len-start.result in
    let room = c.as_mut_slice.result.now in
    let before = c.args.out.now.items in
    let ints = flat_map int_bytes c.args.ints.now in
    let value : room ≡ c.advance_mut.new.self.items = c.as_mut_slice.ensures.value in
    let at : start ≡ length before = c.len-start.ensures.value in
    let front : take start room ≡ before =
    ap (λ (n : ℕ). take n room) at ∙ ap (λ (bytes : List ℕ). take (length before) bytes) value ∙ c.advance_mut.ensures.front in
    let long : length c.advance_mut.new.self.items ≡ length before + 4 * length c.args.ints.now = c.advance_mut.ensures.len in
    let none : post_of start (length room - start) room ≡ [] =
    drop_all (length room - start) (drop start room) (omega (arith, length-drop start room)) in
    let whole : take start room ++ (c.write_i32_into.new.dst ++ post_of start (length room - start) room) ≡ before ++ ints =
    (λ i. front i ++ ((c.write_i32_into.ensures ∙ spelled c.args.ints.now) i ++ none i)) ∙ ap (λ (bytes : List ℕ). before ++ bytes) (append-nil ints) in
    ap (λ (bytes : List ℕ). take (length c.advance_mut.new.self.items) (bytes ++ drop (length bytes) c.advance_mut.new.self.items)) whole
    ∙ take_at (before ++ ints) (drop (length (before ++ ints)) c.advance_mut.new.self.items) (length c.advance_mut.new.self.items) (omega (arith, long, length-append before ints, length-ints c.args.ints.now))
