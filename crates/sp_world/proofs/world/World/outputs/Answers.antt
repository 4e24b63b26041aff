use Rattle.std.proofs.Common.{◌∙◌, ap, sym}
use Rattle.std.specs.Prelude.{Some, option_copied, option_map}
use Rattle.sp_rules.specs.Worlds.{Space}
use Rattle.sp_world.specs.Residents.{told}
use Rattle.sp_world.proofs.ResidentLemmas.{nobody-at, resident-at}
use Rattle.sp_world.proofs.world.World.outputs.Goals as goal

pub returns-in-Some : goal.returns-in-Some
returns-in-Some g c = λ w h.
    let q = resident-at g.S.WorldSpace.is_space w.spaces c.args.self.now.residents.items c.args.number c.in-Some.resident.now h.spaces (sym c.resident.ensures ∙ ap option_copied c.in-Some.is) in
    ap Some (ap told c.as_slice.ensures.value ∙ sym q.1.1.outputs) ∙ sym (ap (option_map (λ (s : Space). s.outputs)) q.1.0)

pub returns-in-None : goal.returns-in-None
returns-in-None g c = λ w h.
    sym (ap (option_map (λ (s : Space). s.outputs)) (nobody-at g.S.WorldSpace.is_space w.spaces c.args.self.now.residents.items c.args.number h.spaces (sym c.resident.ensures ∙ ap option_copied c.in-None.is)))
