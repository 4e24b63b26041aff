use Rattle.std.proofs.Common.{◌≡◌, List, refl, ap, subst, ◌∙◌}
use Rattle.std.specs.List.{flat_map}
use Rattle.std.proofs.lemmas.Result.{on_ok_weaker}
use Rattle.space_ids.specs.declared.ids.ObjId.{ObjId}
use Rattle.sp_rules.specs.Events.{Withdrawn}
use Rattle.sp_rules.specs.Holders.{drop}
use Rattle.sp_rules.specs.References.{foreign_ids}
use Rattle.sp_rules.specs.State.{State, say}
use Rattle.sp_owner.specs.Owners.{IsOwner, owner_parts, without}
use Rattle.sp_living.specs.Livings.{IsLiving}
use Rattle.sp_state.specs.Spaces.{IsSpace}
use Rattle.sp_state.specs.Sweeping.{fields_at}
use Rattle.sp_state.specs.declared.space_state.SpaceState.{SpaceState}
use Rattle.sp_state.proofs.QuietLemmas.{drop_keeps, parts-quiet}
use Rattle.sp_state.proofs.SpaceLemmas.{living-still, quiet}
use Rattle.sp_state.proofs.SweepLemmas.{without-numbered, without-still}
use Rattle.sp_tasks.proofs.LentLemmas.{lent-same, on-any}
use Rattle.sp_state.proofs.space_state.SpaceState.withdraw.Goals as goal

pub returns-clause-withdrawn : goal.returns-clause-withdrawn
returns-clause-withdrawn c = on_ok_weaker c.say.result (λ said. λ g s is.
    let ids = c.args.ids.items in
    let gone : State = without ids s in
    let x : SpaceState = record c.args.self.now { owner = c.withdraw.new.self } in
    let living = subst (λ (t : State). IsLiving g t c.args.self.now.living) (without-still ids s) (living-still g (owner_parts gone) s c.args.self.now.living is.living) in
    let owner = subst (λ (xs : List ObjId). IsOwner g (without xs s) c.withdraw.new.self) c.as_slice-gone.ensures.value (c.in_ok-withdraw.ensures g s is.owner) in
    let now : IsSpace g gone x = record { id = is.id; version = is.version; digest = is.digest; numbers = without-numbered ids s is.numbers; owner = owner; living = living } in
    let refs : c.as_slice-dropped.result.now ≡ flat_map (fields_at g s) ids = c.as_slice-dropped.ensures.value ∙ c.in_ok-references.ensures g s is ∙ ap (flat_map (fields_at g s)) c.as_slice-gone.ensures.value in
    let left : State = drop g c.as_slice-dropped.result.now gone in
    let told : State = say (Withdrawn c.new.result) left in
    let done = quiet g gone told x c.say.new.self (drop_keeps (parts-quiet g (owner_parts gone)) {s = gone} (foreign_ids g.id c.as_slice-dropped.result.now) refl) (said g left (c.drop_holders.ensures.dropped g gone living)) now in
    subst (λ (t : State). IsSpace g t (record x { living = c.say.new.self })) (λ j. say (Withdrawn (c.new.ensures j)) (drop g (refs j) gone)) done) c.say.ensures.said

pub returns-clause-lent : goal.returns-clause-lent
returns-clause-lent c = on-any c.say.result (lent-same (c.say.ensures.tasks ∙ c.drop_holders.ensures.tasks))
