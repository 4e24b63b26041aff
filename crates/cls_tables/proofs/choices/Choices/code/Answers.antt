use Rattle.std.proofs.Common.{◌≡◌, ◌<◌, Some, length, get_or, sym, ap, subst, ◌∙◌}
use Rattle.std.specs.Prelude.{slice_get, slice_index_or}
use Rattle.std.proofs.lemmas.Option.{slice_get-get_or}
use Rattle.cls_tables.proofs.RowReads.{row_long, row_read}
use Rattle.cls_tables.proofs.choices.Choices.code.Goals as goal

pub bounds-as_slice-method : goal.bounds-as_slice-method
bounds-as_slice-method c =
    let self = c.args.self.now in
    let row = c.in-Some.row.now in
    let found : slice_get c.deref.result.now c.from.result ≡ Some row = slice_get-get_or c.deref.result.now c.from.result row c.in-Some.ensures.lookup.3.0 ∙ ap Some (sym (c.in-Some.ensures.lookup.3.1 row)) in
    let there = subst (λ xs. slice_get xs c.args.class.0 ≡ Some row) c.deref.ensures.value (subst (λ i. slice_get c.deref.result.now i ≡ Some row) c.from.ensures found) in
    let long = row_long self.keys.levels self.keys.keys.items self.nodes.items self.roots.items self.rows.items c.args.class.0 row c.requires.rows c.requires.class there in
    subst (λ n. c.args.method.0 < n) (sym (ap length c.as_slice.ensures ∙ long)) c.requires.method

pub returns-in-Some : goal.returns-in-Some
returns-in-Some c =
    let self = c.args.self.now in
    let row = c.in-Some.row.now in
    let found : slice_get c.deref.result.now c.from.result ≡ Some row = slice_get-get_or c.deref.result.now c.from.result row c.in-Some.ensures.lookup.3.0 ∙ ap Some (sym (c.in-Some.ensures.lookup.3.1 row)) in
    let there = subst (λ xs. slice_get xs c.args.class.0 ≡ Some row) c.deref.ensures.value (subst (λ i. slice_get c.deref.result.now i ≡ Some row) c.from.ensures found) in
    ap (λ xs. slice_index_or xs c.args.method.0 0) c.as_slice.ensures
    ∙ row_read self.keys.levels self.keys.keys.items self.nodes.items self.roots.items self.rows.items c.args.class.0 row c.requires.rows c.requires.class there c.args.method.0 c.requires.method
