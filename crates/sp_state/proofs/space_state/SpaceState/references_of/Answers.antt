use Rattle.std.proofs.Common.{◌≡◌, ◌++◌, List, None, Some, sym, ap, ◌∙◌, take}
use Rattle.std.specs.Prelude.{option_map}
use Rattle.std.specs.List.{flat_map}
use Rattle.std.proofs.lemmas.List.{append-nil}
use Rattle.space_ids.specs.declared.ids.Ref.{Ref}
use Rattle.sp_rules.specs.References.{references_of}
use Rattle.sp_state.specs.Sweeping.{fields_at}
use Rattle.sp_state.proofs.LoopLemmas.{fields-none, fields-some, flat-read}
use Rattle.sp_state.proofs.space_state.SpaceState.references_of.Goals as goal
use Rattle.sp_state.proofs.space_state.SpaceState.references_of.Goals.{in-Some+in_ok-push_references, in_default}

pub loop-id-preserved : goal.loop-id-preserved
loop-id-preserved c = λ g s is.
    let told = c.fields_of.ensures g s is.owner in
    elim c.match-fields_of.branch [
      | in-Some+in_ok-push_references w ↦
          let here : Some w.in-Some.fields.now ≡ _ = ap (option_map (λ fields. fields.now)) (sym w.in-Some.is) ∙ told in
          ap (λ v. v.items) w.references-is ∙ w.in_ok-push_references.ensures
          ∙ ap (λ (rs : List Ref). rs ++ references_of w.in-Some.fields.now) (c.loop-id.invariant g s is)
          ∙ ap (λ (rs : List Ref). flat_map (fields_at g s) (take c.loop-id.id-index c.args.ids.now) ++ rs) (fields-some g s _ w.in-Some.fields.now here)
          ∙ sym (flat-read (fields_at g s) c.args.ids.now c.loop-id.id-index (record { 0 = 0 }) c.loop-id-test.true)
      | in_default w ↦
          let none : None ≡ _ = ap (option_map (λ fields. fields.now)) (sym w.in_default.is) ∙ told in
          ap (λ v. v.items) w.references-is ∙ c.loop-id.invariant g s is ∙ sym (append-nil (flat_map (fields_at g s) (take c.loop-id.id-index c.args.ids.now)))
          ∙ ap (λ (rs : List Ref). flat_map (fields_at g s) (take c.loop-id.id-index c.args.ids.now) ++ rs) (sym (fields-none g s _ none))
          ∙ sym (flat-read (fields_at g s) c.args.ids.now c.loop-id.id-index (record { 0 = 0 }) c.loop-id-test.true)
    ]
