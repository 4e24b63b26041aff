use Rattle.std.proofs.Common.{◌≡◌, ◌<◌, ◌∙◌, ◌++◌, ◌∷◌, [], List, Some, ap, arith, length, sym, take}
use Rattle.std.specs.Prelude.{slice_get}
use Rattle.std.proofs.lemmas.List.{length-take-le, take_more}
use Rattle.cf_text.specs.declared.types.FieldType.{FieldType}
use Rattle.cf_text.specs.TypesAt.{types_at}
use Rattle.cf_text.proofs.Indexed.{types_push}
use Rattle.cf_text.proofs.interning.TypeTable.indices_of.Goals as goal

pub loop-kind-preserved : goal.loop-kind-preserved
loop-kind-preserved c =
    let table : List FieldType = c.args.self.now.types in
    let kinds : List FieldType = c.args.kinds.now in
    let within : c.loop-kind.kind-index < length kinds = omega (arith, c.loop-kind-test.true) in
    let long : length (types_at table c.loop-kind.indices.items) ≡ length c.loop-kind.indices.items =
    ap length c.loop-kind.invariant.types ∙ length-take-le c.loop-kind.kind-index kinds (omega (arith, within)) ∙ sym c.loop-kind.invariant.all in
    let found : slice_get table c.in-Some.index ≡ Some c.kind-item.result =
    ap (λ (types : List FieldType). slice_get types c.in-Some.index) (sym (c.as_slice.ensures ∙ c.deref.ensures)) ∙ c.in-Some.ensures ∙ ap (λ (kind : FieldType). Some kind) c.deref-in-loop-kind.ensures in
    record {
      types = ap (types_at table) c.in_ok-push.ensures.items ∙ types_push table c.loop-kind.indices.items c.in-Some.index c.kind-item.result long found
          ∙ ap (λ (front : List FieldType). front ++ c.kind-item.result ∷ []) c.loop-kind.invariant.types
          ∙ ap (λ (kind : FieldType). take c.loop-kind.kind-index kinds ++ kind ∷ []) c.kind-item.is
          ∙ sym (take_more kinds c.loop-kind.kind-index c.kind-item.result within);
      all = omega (arith, ap length c.in_ok-push.ensures.items, c.loop-kind.invariant.all, c.in_ok-push.ensures.len);
    }
