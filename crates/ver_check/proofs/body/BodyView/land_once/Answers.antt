use Rattle.std.proofs.Common.{◌≡◌, Bool, false, true, List, ◌∙◌, ap, subst, sym}
use Rattle.std.specs.Prelude.{slice_index_or}
use Rattle.ver_check.proofs.Landings.{lands_there, one_more_marked}
use Rattle.ver_check.specs.Bodies.{declared_at}
use Rattle.ver_check.specs.Indices.{frame_of}
use Rattle.ver_check.specs.Landed.{LandsOnMarked}
use Rattle.ver_check.proofs.body.BodyView.land_once.Goals as goal

pub returns-then-is_marked : goal.returns-then-is_marked
returns-then-is_marked c =
    let body = c.args.self.now in
    let index = c.index_at-index.result in
    let same = c.from.ensures in
    let found = c.index_at-index.ensures in
    let at : frame_of body.declared index ≡ declared_at body c.args.target = cc in
    let marked : slice_index_or c.args.marks.now.items index false ≡ true =
    sym (ap (λ (marks : List Bool). slice_index_or marks index false) c.deref.ensures.value) ∙ sym c.is_marked.ensures ∙ c.if-is_marked.true in
    record { settles = λ from. lands_there body c.args.frame.now c.args.marks.now.items index c.args.target c.requires marked at; marked = c.requires }

pub returns-in_ok-land-clause-marked : goal.returns-in_ok-land-clause-marked
returns-in_ok-land-clause-marked c =
    let body = c.args.self.now in
    let index = c.index_at-index.result in
    let same = c.from.ensures in
    let found = c.index_at-index.ensures in
    let at : frame_of body.declared index ≡ declared_at body c.args.target = cc in
    subst (LandsOnMarked body c.args.frame.now) (sym c.mark.ensures)
    (one_more_marked body c.args.frame.now c.args.marks.now.items index c.args.target c.requires at (c.in_ok-land.ensures 0))
