use Rattle.std.proofs.Common.{◌≡◌, ◌<◌, ◌∙◌, List, Some, length, ap, refl, subst, sym}
use Rattle.std.specs.Prelude.{slice_get}
use Rattle.std.proofs.lemmas.Option.{get_or_from_slice_get, slice_get_read, slice_get_within}
use Rattle.cf_text.specs.declared.types.FieldType.{FieldType}
use Rattle.cf_text.proofs.Indexed.{type_at}
use Rattle.cf_text.proofs.parameters.ParametersIndexUsize.index.Goals as goal

pub bounds-as_slice-index : goal.bounds-as_slice-index
bounds-as_slice-index c =
    let long : length c.args.self.now ≡ length c.self.inside.indices.items = ap length (sym c.self.view_is) ∙ c.self.invariant in
    let read : slice_get c.self.inside.indices.items c.args.index ≡ Some c.index.result.now = slice_get_read c.self.inside.indices.items (length c.args.self.now) c.args.index c.index.result.now long c.requires c.index.ensures in
    let at = type_at c.self.inside.types c.self.inside.indices.items c.args.index c.index.result.now c.self.invariant read in
    let within : c.index.result.now < length c.self.inside.types = slice_get_within c.self.inside.types c.index.result.now at.0 at.2 in
    subst (λ (types : List FieldType). c.index.result.now < length types) (sym (c.as_slice.ensures ∙ c.deref.ensures)) within

pub returns : goal.returns
returns c =
    let long : length c.args.self.now ≡ length c.self.inside.indices.items = ap length (sym c.self.view_is) ∙ c.self.invariant in
    let read : slice_get c.self.inside.indices.items c.args.index ≡ Some c.index.result.now = slice_get_read c.self.inside.indices.items (length c.args.self.now) c.args.index c.index.result.now long c.requires c.index.ensures in
    let at = type_at c.self.inside.types c.self.inside.indices.items c.args.index c.index.result.now c.self.invariant read in
    let slice : c.as_slice.result.now ≡ c.self.inside.types = c.as_slice.ensures ∙ c.deref.ensures in
    let within : c.index.result.now < length c.as_slice.result.now = subst (λ (types : List FieldType). c.index.result.now < length types) (sym slice) (slice_get_within c.self.inside.types c.index.result.now at.0 at.2) in
    let found : slice_get c.args.self.now c.args.index ≡ Some c.index-as_slice-index.result =
    ap (λ (types : List FieldType). slice_get types c.args.index) (sym c.self.view_is) ∙ at.1 ∙ sym at.2
    ∙ ap (λ (types : List FieldType). slice_get types c.index.result.now) (sym slice)
    ∙ slice_get_read c.as_slice.result.now (length c.as_slice.result.now) c.index.result.now c.index-as_slice-index.result refl within c.index-as_slice-index.is in
    sym (get_or_from_slice_get c.args.self.now c.args.index c.index-as_slice-index.result c.index-as_slice-index.result found)
