use Rattle.std.proofs.Common.{arith, ◌≤◌, ◌-◌, ℕ, List, length, take, drop, subst, sym}
use Rattle.cf_text.proofs.Parts.{length_part, rest_part}
use Rattle.cf_text.proofs.text.Text.advance.Goals as goal

pub returns : goal.returns
returns c =
    let i = c.self.inside in
    let long = length_part i.start i.end i.bytes.items c.self.invariant.0 c.self.invariant.1 in
    let held : c.args.count ≤ length (take (i.end - i.start) (drop i.start i.bytes.items)) = subst (λ (l : List ℕ). c.args.count ≤ length l) (sym c.self.view_is) c.requires.within in
    let within : c.args.count ≤ i.end - i.start = omega (arith, long, held) in
    rw (sym c.self.view_is) (sym (rest_part c.args.count i.start i.end i.bytes.items within c.self.invariant.0))

pub invariant_of-self : goal.invariant_of-self
invariant_of-self c =
    let i = c.self.inside in
    let long = length_part i.start i.end i.bytes.items c.self.invariant.0 c.self.invariant.1 in
    let held : c.args.count ≤ length (take (i.end - i.start) (drop i.start i.bytes.items)) = subst (λ (l : List ℕ). c.args.count ≤ length l) (sym c.self.view_is) c.requires.within in
    let ordered = c.self.invariant.0 in
    (omega (arith, long, held, ordered), c.self.invariant.1)
