use Rattle.std.proofs.Common.{◌∙◌, ◌++◌, ◌∷◌, [], List, ap, sym, subst, append_assoc}
use Rattle.std.specs.Vec.Iter.{into_iter_items}
use Rattle.cf_reader.specs.declared.class_file.ClassFile.{ClassFile}
use Rattle.std.specs.Prelude.{All}
use Rattle.std.proofs.lemmas.List.Elements.{All-push}
use Rattle.cf_reader.specs.WellFormed.{IsWellFormed}
use Rattle.cls_set.proofs.arranging.class_files.Goals as goal

pub loop-class-preserved : goal.loop-class-preserved
loop-class-preserved c =
    let files = c.loop-class.files.items in
    let file = c.into_file.result in
    let rest = into_iter_items c.next.new.self in (
      ap (λ xs. xs ++ rest) c.in_ok-push.ensures.items
          ∙ (append_assoc files (file ∷ []) rest
          ∙ (ap (λ (x : ClassFile). files ++ (x ∷ rest)) c.into_file.ensures.same ∙ (ap (λ (xs : List ClassFile). files ++ xs) (sym c.in-Some.ensures.steps.0) ∙ c.loop-class.invariant.0))),
      subst (All IsWellFormed) (sym c.in_ok-push.ensures.items)
          (All-push IsWellFormed c.loop-class.files.items c.into_file.result c.loop-class.invariant.1 c.into_file.ensures.well_formed),
    )
