use Rattle.std.proofs.Common.{◌≡◌, ◌∙◌, List, ap, map, take, drop, ℕ}
use Rattle.std.specs.Int.{w32, cast_signed}
use Rattle.std.proofs.lemmas.Result.{IfOk-weaker}
use Rattle.vm_heap.proofs.Images.{ints_read}
use Rattle.vm_heap.proofs.words.Words.ints.Goals as goal

pub returns : goal.returns
returns c =
    let these : c.split_at-2.result.0.now ≡ take c.args.count (drop c.args.start c.self.inside.bits.items) =
    c.split_at-2.ensures.front ∙ ap (λ (bits : List ℕ). take c.args.count bits) (c.split_at.ensures.back ∙ ap (λ (bits : List ℕ). drop c.args.start bits) c.as_slice.ensures.value) in
    IfOk-weaker c.ints_of.result _ _
    (λ copy is. λ ints e.
    is ∙ ap (λ (bits : List ℕ). map (λ n. cast_signed w32 n) bits) these
    ∙ ints_read c.self.inside.tags.value c.self.inside.bits.items c.args.start c.args.count ints c.self.invariant (rw (← c.self.view_is) at e))
    c.ints_of.ensures
