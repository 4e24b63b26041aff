use Rattle.std.proofs.Common.{◌≡◌, ◌+◌, ◌<◌, List, length, sym, subst, ap, ◌∙◌, arith}
use Rattle.std.specs.Prelude.{IsSome}
use Rattle.cls_set.specs.declared.class.Class.{Class}
use Rattle.cls_link.specs.Links.{Links, declared_from}
use Rattle.cls_link.specs.Numbers.{number_in}
use Rattle.cls_search.specs.MethodSearches.{method_in}
use Rattle.cls_link.proofs.MethodNumbers.{length_starts, number_small, stands, start_read, zip_length}
use Rattle.cls_link.proofs.linked.Linked.number.Goals as goal

pub index-first-requires : goal.index-first-requires
index-first-requires c =
    let set = c.self.inside.set in
    let same : set ≡ c.args.self.now.classes = ap (λ (l : Links). l.classes) c.self.view_is in
    let s = stands set c.args.method (subst (λ (cs : List Class). IsSome (method_in cs c.args.method)) (sym same) c.requires) in
    let kept = ap length c.self.invariant.1 in
    let all = length_starts 0 set in
    let whole = c.self.inside.first.ok.0 in
    omega (arith, s.class_within, kept, all, whole, c.from.ensures)

pub overflow_add-result : goal.overflow_add-result
overflow_add-result c =
    let set = c.self.inside.set in
    let same : set ≡ c.args.self.now.classes = ap (λ (l : Links). l.classes) c.self.view_is in
    let s = stands set c.args.method (subst (λ (cs : List Class). IsSome (method_in cs c.args.method)) (sym same) c.requires) in
    let start = start_read set c.self.inside.first.items c.args.method.class.0 c.from.result c.index-first.result.now c.self.invariant.1 s.class_within c.from.ensures c.index-first.ensures in
    let below = number_small set c.args.method s in
    let all = zip_length set (declared_from 0 set) c.self.inside.methods.items c.self.invariant.0.methods in
    omega (arith, start, below, all, c.self.invariant.0.few)

pub overflow_cast-result : goal.overflow_cast-result
overflow_cast-result c =
    let set = c.self.inside.set in
    let same : set ≡ c.args.self.now.classes = ap (λ (l : Links). l.classes) c.self.view_is in
    let s = stands set c.args.method (subst (λ (cs : List Class). IsSome (method_in cs c.args.method)) (sym same) c.requires) in
    let start = start_read set c.self.inside.first.items c.args.method.class.0 c.from.result c.index-first.result.now c.self.invariant.1 s.class_within c.from.ensures c.index-first.ensures in
    let below = number_small set c.args.method s in
    let all = zip_length set (declared_from 0 set) c.self.inside.methods.items c.self.invariant.0.methods in
    omega (arith, start, below, all, c.self.invariant.0.few)

pub returns-clause-number : goal.returns-clause-number
returns-clause-number c =
    let set = c.self.inside.set in
    let same : set ≡ c.args.self.now.classes = ap (λ (l : Links). l.classes) c.self.view_is in
    let s = stands set c.args.method (subst (λ (cs : List Class). IsSome (method_in cs c.args.method)) (sym same) c.requires) in
    let start = start_read set c.self.inside.first.items c.args.method.class.0 c.from.result c.index-first.result.now c.self.invariant.1 s.class_within c.from.ensures c.index-first.ensures in
    ap (λ i. record { 0 = i + c.args.method.index }) start ∙ ap (λ (cs : List Class). number_in cs c.args.method) same

pub returns-clause-within : goal.returns-clause-within
returns-clause-within c =
    let set = c.self.inside.set in
    let same : set ≡ c.args.self.now.classes = ap (λ (l : Links). l.classes) c.self.view_is in
    let s = stands set c.args.method (subst (λ (cs : List Class). IsSome (method_in cs c.args.method)) (sym same) c.requires) in
    let start = start_read set c.self.inside.first.items c.args.method.class.0 c.from.result c.index-first.result.now c.self.invariant.1 s.class_within c.from.ensures c.index-first.ensures in
    let below = number_small set c.args.method s in
    let all = zip_length set (declared_from 0 set) c.self.inside.methods.items c.self.invariant.0.methods in
    subst (λ (l : Links). c.index-first.result.now + c.args.method.index < length l.methods) c.self.view_is (omega (arith, start, below, all))
