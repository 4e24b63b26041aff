use Rattle.std.proofs.Common.{◌≡◌, ◌↔◌, ℕ, IsTrue, List, length, ap, subst, sym, arith}
use Rattle.ver_frames.proofs.Chains.{chain_long}
use Rattle.ver_frames.proofs.ChainZips.{both_ways, filled_zip, turned}
use Rattle.ver_frames.specs.Assignable.{AreAssignable}
use Rattle.ver_frames.specs.Chains.{types_of}
use Rattle.ver_frames.specs.Frames.{Frame, filled, first_types}
use Rattle.ver_frames.specs.declared.vtype.VType.{VType}
use Rattle.ver_frames.proofs.assignability.locals_assignable.Goals as goal

pub returns : goal.returns
returns c =
    let i = c.asked.inside in
    let classes = c.args.classes.now in
    let types : List VType = types_of i.nodes.now i.locals in
    let stored : List VType = c.stored_locals.result.now in
    let n : ℕ = length c.args.given.now.locals in
    let count = chain_long i.nodes.now i.locals c.asked.invariant.0 in
    let given_long : n ≡ length (filled n stored) = ap (λ (ts : List VType). length ts) c.stored_locals.ensures in
    let asked_long : length (filled i.max_locals types) ≡ length c.args.asked.now.locals = ap (λ (f : Frame). length f.locals) c.asked.view_is in
    let long : length (filled n stored) ≡ length (filled i.max_locals types) = omega (arith, given_long, asked_long, c.local_count.ensures, c.local_count-2.ensures, c.if-local_count.false) in
    let zip = filled_zip classes n i.max_locals stored types long in
    let walked : IsTrue c.chain_assignable.result ↔ AreAssignable classes (first_types (length types) stored) types =
    subst (λ (k : ℕ). IsTrue c.chain_assignable.result ↔ AreAssignable classes (first_types k stored) types) count c.chain_assignable.ensures in
    let same : IsTrue c.chain_assignable.result ↔ AreAssignable classes (filled n stored) (filled i.max_locals types) =
    both_ways (IsTrue c.chain_assignable.result) (AreAssignable classes (first_types (length types) stored) types) (AreAssignable classes (filled n stored) (filled i.max_locals types)) walked
    (turned (AreAssignable classes (filled n stored) (filled i.max_locals types)) (AreAssignable classes (first_types (length types) stored) types) zip) in
    subst (λ (ts : List VType). IsTrue c.chain_assignable.result ↔ AreAssignable classes ts c.args.asked.now.locals) (sym c.stored_locals.ensures)
    (subst (λ (f : Frame). IsTrue c.chain_assignable.result ↔ AreAssignable classes (filled n stored) f.locals) c.asked.view_is same)
