use Rattle.std.proofs.Common.{◌≡◌, ◌<◌, Some, length, get_or, sym, subst, ap, ◌∙◌, arith}
use Rattle.std.proofs.lemmas.Option.{get_or_from_slice_get, slice_get_within}
use Rattle.cls_set.proofs.Hierarchy.{same_some}
use Rattle.cls_set.specs.declared.class.Class.{Class}
use Rattle.cls_link.specs.Links.{Links, declared_methods, method_at}
use Rattle.cls_link.proofs.MethodNumbers.{zip_length}
use Rattle.cls_link.proofs.DeclaredIndexes.{at_number}
use Rattle.cls_link.proofs.linked.Linked.declaration.Goals as goal

pub class-class-requires : goal.class-class-requires
class-class-requires c =
    let set = c.self.inside.set in
    let methods = c.self.inside.methods.items in
    let all = zip_length set (declared_methods set) methods c.self.invariant.0.methods in
    let whole = ap (λ (l : Links). length l.methods) c.self.view_is in
    let at = at_number set methods c.args.method.0 c.index-entry.result.now c.self.invariant.0.methods (omega (arith, all, whole, c.requires)) c.index-entry.ensures in
    slice_get_within set c.index-entry.result.now.class.0 at.class at.class_at

pub bounds-as_slice-from : goal.bounds-as_slice-from
bounds-as_slice-from c =
    let set = c.self.inside.set in
    let methods = c.self.inside.methods.items in
    let all = zip_length set (declared_methods set) methods c.self.invariant.0.methods in
    let whole = ap (λ (l : Links). length l.methods) c.self.view_is in
    let at = at_number set methods c.args.method.0 c.index-entry.result.now c.self.invariant.0.methods (omega (arith, all, whole, c.requires)) c.index-entry.ensures in
    let same : at.class ≡ c.class-class.result.now = same_some (sym at.class_at ∙ c.class-class.ensures) in
    let here = slice_get_within at.class.file.methods c.index-entry.result.now.index at.method at.method_there in
    let there : c.index-entry.result.now.index < length c.as_slice.result.now = subst (λ ms. c.index-entry.result.now.index < length ms) (ap (λ (k : Class). k.file.methods) same ∙ sym c.as_slice.ensures.items) here in
    omega (arith, there, c.from.ensures)

pub returns-clause-declared : goal.returns-clause-declared
returns-clause-declared c =
    let set = c.self.inside.set in
    let methods = c.self.inside.methods.items in
    let all = zip_length set (declared_methods set) methods c.self.invariant.0.methods in
    let whole = ap (λ (l : Links). length l.methods) c.self.view_is in
    let at = at_number set methods c.args.method.0 c.index-entry.result.now c.self.invariant.0.methods (omega (arith, all, whole, c.requires)) c.index-entry.ensures in
    let same : at.class ≡ c.class-class.result.now = same_some (sym at.class_at ∙ c.class-class.ensures) in
    let d = c.index-as_slice-from.result in
    let found : d ≡ at.method =
    c.index-as_slice-from.is
    ∙ (ap (λ ms. get_or ms c.from.result d) (c.as_slice.ensures.items ∙ ap (λ (k : Class). k.file.methods) (sym same))
    ∙ (ap (λ n. get_or at.class.file.methods n d) c.from.ensures ∙ get_or_from_slice_get at.class.file.methods c.index-entry.result.now.index at.method d at.method_there)) in
    ap (λ (l : Links). method_at l.classes c.args.method) (sym c.self.view_is) ∙ (at.declared ∙ ap (λ x. Some x) (sym found))
