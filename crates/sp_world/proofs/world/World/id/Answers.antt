use Rattle.std.proofs.Common.{◌∙◌, ap, sym}
use Rattle.std.specs.Prelude.{Some, option_copied}
use Rattle.sp_rules.specs.Worlds.{id_in}
use Rattle.sp_world.proofs.ResidentLemmas.{nobody-at, resident-at}
use Rattle.sp_world.proofs.world.World.id.Goals as goal

pub returns-in-Some : goal.returns-in-Some
returns-in-Some g c = λ w h.
    let q = resident-at g.S.WorldSpace.is_space w.spaces c.args.self.now.residents.items c.args.number c.in-Some.resident.now h (sym c.resident.ensures ∙ ap option_copied c.in-Some.is) in
    ap Some (c.id.ensures q.0.setting q.0.state q.1.1.space) ∙ sym (ap id_in q.1.0)

pub returns-in-None : goal.returns-in-None
returns-in-None g c = λ w h. sym (ap id_in (nobody-at g.S.WorldSpace.is_space w.spaces c.args.self.now.residents.items c.args.number h (sym c.resident.ensures ∙ ap option_copied c.in-None.is)))
