use Rattle.std.proofs.Common.{◌≡◌, ◌+◌, ◌≤◌, ℕ, List, [], ◌∷◌, ◌++◌, refl, sym, subst, take, arith}
use Rattle.sim_shows.specs.Lines.{AreLines, sights}
use Rattle.sim_shows.specs.declared.script_space.Shown.{Shown}
use Rattle.sim_shows.proofs.ShownLemmas.{all-first, first-more, lines-more}
use Rattle.sim_shows.proofs.shown_run.lines_of.Goals as goal

pub returns-in_default : goal.returns-in_default
returns-in_default g c = λ w s h.
    let below : c.loop-index.index ≤ 18446744073709551615 = omega (arith, c.loop-index-test.true) in
    subst (λ (xs : List Shown). AreLines (g.S.Named.is_named c.args.space.now) c.args.name.now xs c.loop-index.lines.items)
    (all-first (sights s) c.loop-index.index 18446744073709551615 (c.in_default.ensures w s h) below) (c.loop-index.invariant w s h)

pub loop-index-preserved : goal.loop-index-preserved
loop-index-preserved g c = λ w s h.
    subst (λ (xs : List Shown). AreLines (g.S.Named.is_named c.args.space.now) c.args.name.now xs c.put_object.new.text.items)
    (sym (first-more (sights s) c.loop-index.index (c.loop-index.index + 1) c.in-Some.shown (c.in-Some.ensures w s h) refl))
    (subst (λ (t : List ℕ). AreLines (g.S.Named.is_named c.args.space.now) c.args.name.now (take c.loop-index.index (sights s) ++ c.in-Some.shown ∷ []) t) (sym c.in_ok-put_object.ensures.line.2)
    (lines-more (g.S.Named.is_named c.args.space.now) c.args.name.now (take c.loop-index.index (sights s)) c.in-Some.shown c.loop-index.lines.items c.in_ok-put_object.ensures.line.0 c.in_ok-put_object.ensures.line.1 (c.loop-index.invariant w s h)))

pub returns : goal.returns
returns g c = λ w s h.
    let last : c.loop-index.index ≡ 18446744073709551615 = omega (arith, c.loop-index-test.false, c.loop-index.auto.index-end) in
    subst (λ (n : ℕ). AreLines (g.S.Named.is_named c.args.space.now) c.args.name.now (take n (sights s)) c.loop-index.lines.items) last (c.loop-index.invariant w s h)
