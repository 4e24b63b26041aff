use Rattle.std.proofs.Common.{◌∙◌, ℕ, ◌≤◌, None, refl, subst, length}
use Rattle.std.specs.Vec.{with_item}
use Rattle.std.proofs.lemmas.Option.{slice_get_past, slice_get_read}
use Rattle.sp_rules.specs.Events.{Root}
use Rattle.sp_world.specs.Residents.{one_event, refused_event}
use Rattle.sp_world.proofs.MakeLemmas.{heard-of, kept-of, wiring-of}
use Rattle.sp_world.proofs.WorldLemmas.{nobody}
use Rattle.sp_world.proofs.world.World.tell_root.Goals as goal

pub returns-then-space-len-clause-heard : goal.returns-then-space-len-clause-heard
returns-then-space-len-clause-heard g c =
    let le : length c.args.self.now.residents.items ≤ c.args.space = subst (λ (n : ℕ). n ≤ c.args.space) (c.len.ensures ∙ c.args.self.now.residents.ok.0) c.if-space-len.true in
    nobody g.S.WorldSpace.is_space c.args.space (refused_event (Root c.args.method c.args.arguments.now c.args.fuel)) (one_event (Root c.args.method c.args.arguments.now c.args.fuel)) c.args.self.now (record c.args.self.now { refused = None })
    (slice_get_past c.args.self.now.residents.items c.args.space le) refl refl c.requires

pub returns-clause-heard : goal.returns-clause-heard
returns-clause-heard g c =
    let old = c.args.self.now in
    let mid = record old { residents = with_item old.residents c.args.space c.root-answer.new.self } in
    let there = slice_get_read old.residents.items c.len.result c.args.space c.index_mut.result.now (c.len.ensures ∙ old.residents.ok.0) c.if-space-len.false c.index_mut.ensures.value in
    heard-of g.S.WorldSpace.is_space c.args.space (refused_event (Root c.args.method c.args.arguments.now c.args.fuel)) (one_event (Root c.args.method c.args.arguments.now c.args.fuel)) old mid c.hear.new.self c.index_mut.result.now c.root-answer.new.self c.root-answer.result c.hear.result
    c.requires there refl
    (record { taken = c.root-answer.ensures.taken; refused = c.root-answer.ensures.refused; same = c.root-answer.ensures.same })
    (record { taken = c.hear.ensures.taken; lacks = c.hear.ensures.lacks; refused = c.hear.ensures.refused })

pub returns-clause-kept : goal.returns-clause-kept
returns-clause-kept g c =
    let old = c.args.self.now in
    let mid = record old { residents = with_item old.residents c.args.space c.root-answer.new.self } in
    let there = slice_get_read old.residents.items c.len.result c.args.space c.index_mut.result.now (c.len.ensures ∙ old.residents.ok.0) c.if-space-len.false c.index_mut.ensures.value in
    kept-of g.S.WorldSpace.is_space c.args.space (refused_event (Root c.args.method c.args.arguments.now c.args.fuel)) (one_event (Root c.args.method c.args.arguments.now c.args.fuel)) old mid c.hear.new.self c.index_mut.result.now c.root-answer.new.self c.root-answer.result c.hear.result
    there refl refl refl refl
    (record { taken = c.root-answer.ensures.taken; refused = c.root-answer.ensures.refused; same = c.root-answer.ensures.same })
    (record { taken = c.hear.ensures.taken; lacks = c.hear.ensures.lacks; refused = c.hear.ensures.refused })

pub returns-clause-wiring : goal.returns-clause-wiring
returns-clause-wiring g c =
    let old = c.args.self.now in
    let mid = record old { residents = with_item old.residents c.args.space c.root-answer.new.self } in
    wiring-of c.args.space mid c.hear.new.self c.root-answer.result c.hear.result
    (record { taken = c.hear.ensures.taken; lacks = c.hear.ensures.lacks; refused = c.hear.ensures.refused })
