use Rattle.std.proofs.Common.{◌∙◌, ℕ, ◌≤◌, List, refl, subst, sym, length}
use Rattle.std.proofs.lemmas.Option.{slice_get_past, slice_get_read}
use Rattle.sp_rules.specs.Worlds.{Space}
use Rattle.sp_world.specs.Residents.{AreResidents}
use Rattle.sp_world.proofs.ForgetLemmas.{nobody-silent, silent-at, world-silent}
use Rattle.sp_world.proofs.world.World.forget_outputs.Goals as goal

pub returns-clause-world : goal.returns-clause-world
returns-clause-world g c = λ w h.
    let old = c.args.self.now in
    let there = slice_get_read old.residents.items c.len.result c.args.number c.index_mut.result.now (c.len.ensures ∙ old.residents.ok.0) c.if-number-len.false c.index_mut.ensures.value in
    world-silent g.S.WorldSpace.is_space w old _ c.args.number c.requires
    (silent-at g.S.WorldSpace.is_space w.spaces old.residents.items c.args.number c.index_mut.result.now c.forget.new.self h.spaces there c.forget.ensures) refl c.requires refl h

pub returns-then-number-len-clause-world : goal.returns-then-number-len-clause-world
returns-then-number-len-clause-world g c = λ w h.
    let old = c.args.self.now in
    let le : length old.residents.items ≤ c.args.number = subst (λ (n : ℕ). n ≤ c.args.number) (c.len.ensures ∙ old.residents.ok.0) c.if-number-len.true in
    world-silent g.S.WorldSpace.is_space w old old c.args.number c.requires
    (subst (λ (ss : List Space). AreResidents g.S.WorldSpace.is_space ss old.residents.items) (sym (nobody-silent g.S.WorldSpace.is_space w.spaces old.residents.items c.args.number h.spaces (slice_get_past old.residents.items c.args.number le))) h.spaces) refl c.requires refl h
