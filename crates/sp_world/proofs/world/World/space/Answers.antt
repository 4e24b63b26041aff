use Rattle.std.proofs.Common.{◌∙◌, Option, None, Some, ap, subst, sym}
use Rattle.std.specs.Prelude.{option_copied}
use Rattle.sp_rules.specs.Worlds.{Space}
use Rattle.sp_world.specs.Waitings.{IsSpaceAt}
use Rattle.sp_world.proofs.ResidentLemmas.{nobody-at, resident-at}
use Rattle.sp_world.proofs.world.World.space.Goals as goal

pub returns-in-Some : goal.returns-in-Some
returns-in-Some g c = λ w h.
    let q = resident-at g.S.WorldSpace.is_space w.spaces c.args.self.now.residents.items c.args.number c.in-Some.resident.now h.spaces (sym c.resident.ensures ∙ ap option_copied c.in-Some.is) in
    subst (λ (o : Option Space). IsSpaceAt g.S.WorldSpace.is_space o (Some c.in-Some.resident.now.space)) (sym q.1.0) q.1.1.space

pub returns-in-None : goal.returns-in-None
returns-in-None g c = λ w h.
    subst (λ (o : Option Space). IsSpaceAt g.S.WorldSpace.is_space o None) (sym (nobody-at g.S.WorldSpace.is_space w.spaces c.args.self.now.residents.items c.args.number h.spaces (sym c.resident.ensures ∙ ap option_copied c.in-None.is))) tt
