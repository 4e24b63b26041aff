use Rattle.std.proofs.Common.{◌≡◌, List, refl, sym, ap, subst, ◌∙◌, fold, []}
use Rattle.std.specs.List.{IsDistinct}
use Rattle.std.proofs.lemmas.Result.{on_ok_weaker}
use Rattle.dgc_client.specs.Table.{is_same, with_reference}
use Rattle.space_ids.specs.declared.ids.ForeignId.{ForeignId}
use Rattle.uuid.specs.declared.Uuid.{Uuid}
use Rattle.sp_rules.specs.ParkedFrames.{park_frame}
use Rattle.sp_rules.specs.References.{foreign_ids, references_in}
use Rattle.sp_rules.specs.State.{State, ReturnedFrame}
use Rattle.sp_owner.specs.Owners.{owner_parts}
use Rattle.sp_transport.specs.Answers.{park_answer}
use Rattle.sp_state.specs.Spaces.{IsSpace}
use Rattle.sp_state.proofs.AnswerLemmas.{result-foreign}
use Rattle.sp_state.proofs.QuietLemmas.{park_frame_keeps, parts-quiet}
use Rattle.sp_state.proofs.SpaceLemmas.{quiet}
use Rattle.sp_tasks.proofs.LentLemmas.{lent-next}
use Rattle.sp_state.proofs.space_state.SpaceState.park_returned.Goals as goal

pub park-requires : goal.park-requires
park-requires w c = subst (IsDistinct is_same) (sym c.new.ensures) c.in_ok-references.ensures.distinct

pub returns-clause-parked : goal.returns-clause-parked
returns-clause-parked w c = on_ok_weaker c.park.result (λ parked. λ g s row peer is tells on dialled.
    let conn = c.args.conn in
    let number = c.args.number in
    let value = c.args.value in
    let fuel = c.args.fuel in
    let t : State = park_answer conn number s in
    let living = c.answer.ensures.answered g s row peer is.living on.there dialled in
    let same : c.new.result ≡ foreign_ids g.id (references_in value) =
    c.new.ensures ∙ c.in_ok-references.ensures.foreign ∙ ap (λ (own : Uuid). fold with_reference [] (foreign_ids own (references_in value))) is.id ∙ result-foreign g.id value in
    let now = quiet g s (park_frame g conn number (ReturnedFrame value fuel) c.new.result t) c.args.self.now c.park.new.living
    (park_frame_keeps (parts-quiet g (owner_parts s)) {s = t} conn number (ReturnedFrame value fuel) c.new.result refl)
    (parked g t living tells (c.store.ensures g s is.owner)) is in
    subst (λ (ids : List ForeignId). IsSpace g (park_frame g conn number (ReturnedFrame value fuel) ids t) (record c.args.self.now { living = c.park.new.living })) same now) c.park.ensures.parked

pub returns-clause-lent : goal.returns-clause-lent
returns-clause-lent w c = on_ok_weaker c.park.result (λ parked. lent-next c.answer.ensures.tasks parked) c.park.ensures.lent
