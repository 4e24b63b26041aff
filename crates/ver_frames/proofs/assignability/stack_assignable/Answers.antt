use Rattle.std.proofs.Common.{◌≡◌, ◌↔◌, IsTrue, List, length, reverse, ap, subst, arith}
use Rattle.std.proofs.lemmas.List.{length-reverse}
use Rattle.ver_frames.proofs.Chains.{chain_long}
use Rattle.ver_frames.proofs.ChainZips.{both_ways, lengths_differ}
use Rattle.ver_frames.proofs.Fillings.{first_all}
use Rattle.ver_frames.proofs.Zips.{zip_backwards}
use Rattle.ver_frames.specs.Assignable.{AreAssignable, IsAssignable}
use Rattle.ver_frames.specs.Chains.{types_of}
use Rattle.ver_frames.specs.Frames.{Frame, first_types}
use Rattle.ver_frames.specs.declared.vtype.VType.{VType}
use Rattle.ver_frames.proofs.assignability.stack_assignable.Goals as goal

pub returns-then-stack-asked : goal.returns-then-stack-asked
returns-then-stack-asked c =
    let i = c.asked.inside in
    let types : List VType = types_of i.nodes.now i.stack in
    let stack : List VType = c.stack-stack.result.now in
    let count = chain_long i.nodes.now i.stack c.asked.invariant.1 in
    let given_long : length (reverse stack) ≡ length c.args.given.now.stack = ap (λ (ts : List VType). length ts) c.stack-stack.ensures in
    let asked_long : length (reverse types) ≡ length c.args.asked.now.stack = ap (λ (f : Frame). length f.stack) c.asked.view_is in
    let given_same : length (reverse stack) ≡ length stack = length-reverse stack in
    let asked_same : length (reverse types) ≡ length types = length-reverse types in
    lengths_differ c.args.classes.now c.args.given.now.stack c.args.asked.now.stack (λ same.
    c.if-stack-asked.true (omega (arith, same, given_long, asked_long, given_same, asked_same, count)))

pub returns : goal.returns
returns c =
    let i = c.asked.inside in
    let classes = c.args.classes.now in
    let types : List VType = types_of i.nodes.now i.stack in
    let stack : List VType = c.stack-stack.result.now in
    let first : first_types i.stack.count stack ≡ stack = first_all stack i.stack.count c.if-stack-asked.false in
    let walked : IsTrue c.chain_assignable.result ↔ AreAssignable classes stack types =
    subst (λ (ts : List VType). IsTrue c.chain_assignable.result ↔ AreAssignable classes ts types) first c.chain_assignable.ensures in
    let both : IsTrue c.chain_assignable.result ↔ AreAssignable classes (reverse stack) (reverse types) =
    both_ways (IsTrue c.chain_assignable.result) (AreAssignable classes stack types) (AreAssignable classes (reverse stack) (reverse types)) walked (zip_backwards (IsAssignable classes) stack types) in
    subst (λ (ts : List VType). IsTrue c.chain_assignable.result ↔ AreAssignable classes ts c.args.asked.now.stack) c.stack-stack.ensures
    (subst (λ (f : Frame). IsTrue c.chain_assignable.result ↔ AreAssignable classes (reverse stack) f.stack) c.asked.view_is both)
