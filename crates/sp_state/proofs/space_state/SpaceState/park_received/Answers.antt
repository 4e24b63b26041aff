use Rattle.std.proofs.Common.{◌≡◌, List, refl, sym, subst, ◌∙◌, fold, []}
use Rattle.std.specs.List.{IsDistinct}
use Rattle.std.proofs.lemmas.Result.{on_ok_weaker}
use Rattle.dgc_client.specs.Table.{is_same, with_reference}
use Rattle.space_ids.specs.declared.ids.ForeignId.{ForeignId}
use Rattle.sp_rules.specs.ParkedFrames.{park_frame}
use Rattle.sp_rules.specs.References.{foreign_ids, references_of}
use Rattle.sp_rules.specs.State.{CallFrame}
use Rattle.sp_owner.specs.Owners.{owner_parts}
use Rattle.sp_state.specs.Receiving.{foreign_among}
use Rattle.sp_state.specs.Spaces.{IsSpace}
use Rattle.sp_state.proofs.QuietLemmas.{park_frame_keeps, parts-quiet}
use Rattle.sp_state.proofs.SpaceLemmas.{quiet}
use Rattle.sp_state.proofs.space_state.SpaceState.park_received.Goals as goal

pub park-requires : goal.park-requires
park-requires w c = subst (IsDistinct is_same) (sym c.new.ensures) c.in_ok-references.ensures.distinct

pub returns-clause-parked : goal.returns-clause-parked
returns-clause-parked w c = on_ok_weaker c.park.result (λ parked. λ g s is tells.
    let k = c.args.call in
    let conn = c.args.conn in
    let number = c.args.number in
    let same : c.new.result ≡ foreign_among g.id k.arguments =
    c.new.ensures ∙ c.in_ok-references.ensures.foreign ∙ (λ j. fold with_reference [] (foreign_ids (is.id j) (references_of (c.as_slice.ensures j)))) in
    let now = quiet g s (park_frame g conn number (CallFrame k.target k.method k.fuel k.arguments) c.new.result s) c.args.self.now c.park.new.living
    (park_frame_keeps (parts-quiet g (owner_parts s)) {s = s} conn number (CallFrame k.target k.method k.fuel k.arguments) c.new.result refl)
    (parked g s is.living tells (c.store.ensures g s is.owner)) is in
    subst (λ (ids : List ForeignId). IsSpace g (park_frame g conn number (CallFrame k.target k.method k.fuel k.arguments) ids s) (record c.args.self.now { living = c.park.new.living })) same now) c.park.ensures.parked
