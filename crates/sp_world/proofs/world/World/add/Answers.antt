use Rattle.std.proofs.Common.{◌∙◌, refl, sym}
use Rattle.sp_world.proofs.EnterLemmas.{added, many-new}
use Rattle.sp_world.proofs.MakeLemmas.{still-wired}
use Rattle.sp_rules.specs.State.{opening}
use Rattle.sp_rules.specs.Worlds.{new_world}
use Rattle.sp_world.proofs.world.World.add.Goals as goal

pub returns-clause-world : goal.returns-clause-world
returns-clause-world g c = λ settings s h is.
    added g.S.WorldSpace.is_space settings s c.args.self.now _ c.new.result c.in_ok-push.ensures.items (c.new.ensures s is) refl c.requires
    (c.in_ok-enter.ensures settings s (sym (c.id-id.ensures s opening is)) (many-new g.S.WorldSpace.is_space settings c.args.self.now h ∙ sym (c.len.ensures ∙ c.args.self.now.residents.ok.0)) (still-wired g.S.WorldSpace.is_space (new_world settings) c.args.self.now c.requires h)) h
