use Rattle.std.proofs.Common.{◌∙◌, ℕ, ◌<◌, ◌∷◌, ◌++◌, [], Option, ap, refl, subst, sym}
use Rattle.uuid.specs.declared.Uuid.{Uuid}
use Rattle.sp_rules.specs.Events.{Opened}
use Rattle.sp_rules.specs.Worlds.{act, id_at, new_pipe, without_pair}
use Rattle.sp_pipes.specs.Connections.{ArePipes, room}
use Rattle.sp_world.specs.Waitings.{IsWired, open_next}
use Rattle.sp_world.specs.declared.wiring.Wiring.{Wiring}
use Rattle.sp_world.proofs.MakeLemmas.{keeps-after, makes-missed, makes-taken}
use Rattle.sp_world.proofs.WiringLemmas.{all-err, wired-all, wired-pipes}
use Rattle.sp_world.proofs.world.World.open_asked.Goals as goal

pub open_reserved-requires : goal.open_reserved-requires
open_reserved-requires g c = subst (λ (x : Wiring). 0 < room x.pipes) (sym c.bring.ensures.wiring) c.in_ok-reserve.ensures.ok

pub returns-in_err-reserve-clause-kept : goal.returns-in_err-reserve-clause-kept
returns-in_err-reserve-clause-kept g c = all-err c.from_residual.result (record {
  spaces = λ ss a. a;
  refused = refl;
  waiting = refl;
  wired = λ w h. wired-pipes w w c.args.self.now.wiring (record c.args.self.now.wiring { pipes = c.reserve.new.self }) refl refl refl refl (c.reserve.ensures.same w.pipes h.pipes) h;
})

pub returns-in_err-taken-clause-kept : goal.returns-in_err-taken-clause-kept
returns-in_err-taken-clause-kept g c =
    let old = c.args.self.now in
    all-err c.from_residual-in_err-taken.result
    (keeps-after g.S.WorldSpace.is_space old (record old { wiring = record old.wiring { pipes = c.reserve.new.self } }) c.bring.new.self refl refl refl
    (λ w h. wired-pipes w w old.wiring (record old.wiring { pipes = c.reserve.new.self }) refl refl refl refl (c.reserve.ensures.same w.pipes h.pipes) h) c.in_err-taken.ensures.kept)

pub returns-then-taken-clause-made : goal.returns-then-taken-clause-made
returns-then-taken-clause-made g c =
    let old = c.args.self.now in
    let a = c.args.dialler in
    let b = c.args.dialled in
    makes-taken g.S.WorldSpace.is_space a (Opened c.len.result c.id.result) (open_next a b) (λ w. record w { asked = without_pair a b w.asked; pipes = w.pipes ++ new_pipe a b ∷ [] }) old c.bring.new.self _ c.in_ok-taken.taken c.if-taken.true c.in_ok-taken.ensures.heard
    (λ w h. ap (λ (n : ℕ). act w a (Opened n (id_at b w)) (record w { asked = without_pair a b w.asked; pipes = w.pipes ++ new_pipe a b ∷ [] })) (sym (c.len.ensures w.pipes (c.reserve.ensures.same w.pipes h.wired.pipes)))
    ∙ ap (λ (o : Option Uuid). act w a (Opened c.len.result o) (record w { asked = without_pair a b w.asked; pipes = w.pipes ++ new_pipe a b ∷ [] })) (sym (c.id.ensures w h.spaces)))
    (λ w. refl) (λ w. refl) refl refl refl
    (λ w h. wired-all w (record w { asked = without_pair a b w.asked; pipes = w.pipes ++ new_pipe a b ∷ [] }) old.wiring _ refl
    (ap (λ (x : Wiring). x.numbers) c.bring.ensures.wiring)
    (ap (without_pair a b) (h.dials ∙ sym (ap (λ (x : Wiring). Rattle.sp_pipes.specs.Asked.asked x.dials) c.bring.ensures.wiring)) ∙ sym c.remove.ensures)
    (c.open_reserved.ensures w.pipes (subst (λ (x : Wiring). ArePipes w.pipes x.pipes) (sym c.bring.ensures.wiring) (c.reserve.ensures.same w.pipes h.pipes))) h)

pub returns-clause-made : goal.returns-clause-made
returns-clause-made g c =
    let old = c.args.self.now in
    let a = c.args.dialler in
    let b = c.args.dialled in
    makes-missed g.S.WorldSpace.is_space a (Opened c.len.result c.id.result) (open_next a b) (λ w. record w { asked = without_pair a b w.asked; pipes = w.pipes ++ new_pipe a b ∷ [] }) old c.bring.new.self c.bring.new.self c.in_ok-taken.taken c.if-taken.false c.in_ok-taken.ensures.heard
    (λ w h. ap (λ (n : ℕ). act w a (Opened n (id_at b w)) (record w { asked = without_pair a b w.asked; pipes = w.pipes ++ new_pipe a b ∷ [] })) (sym (c.len.ensures w.pipes (c.reserve.ensures.same w.pipes h.wired.pipes)))
    ∙ ap (λ (o : Option Uuid). act w a (Opened c.len.result o) (record w { asked = without_pair a b w.asked; pipes = w.pipes ++ new_pipe a b ∷ [] })) (sym (c.id.ensures w h.spaces)))
    (λ w. refl) refl refl refl
    (λ w h. subst (IsWired w) (sym c.bring.ensures.wiring) (wired-pipes w w old.wiring _ refl refl refl refl (c.reserve.ensures.same w.pipes h.pipes) h))
