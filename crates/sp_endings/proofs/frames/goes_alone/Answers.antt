use Rattle.std.proofs.Common.{length, sym, ◌∙◌, true≢false}
use Rattle.std.proofs.lemmas.Bool.{eqb-true}
use Rattle.std.proofs.lemmas.List.{nil_from_length}
use Rattle.sp_endings.proofs.AloneLemmas.{no-frame}
use Rattle.sp_endings.proofs.frames.goes_alone.Goals as goal

pub returns-then-bare : goal.returns-then-bare
returns-then-bare c = λ none g s a.
    let p = c.parked.ensures g s a in
    let named = c.as_slice-named.result.now in (
      sym c.as_slice-named.ensures ∙ nil_from_length named (eqb-true (length named) 0 (sym c.is_empty-bare.ensures ∙ c.if-bare.true)),
      no-frame p.frames s.parked p.are (sym (c.is_empty.ensures p.frames p.ticketed) ∙ none),
    )

pub returns-else-bare : goal.returns-else-bare
returns-else-bare c = λ none. absurd (true≢false (sym none))
