use Rattle.std.proofs.Common.{◌≡◌, ℕ, Bool, true, false, refl, sym, ap, subst, ◌∙◌, true≢false}
use Rattle.std.specs.Prelude.{◌&&◌}
use Rattle.std.specs.Str.{bytes_eq}
use Rattle.std.proofs.lemmas.Result.{on_ok_weaker}
use Rattle.std.proofs.lemmas.Slice.Eq.{bytes_eq-Decides}
use Rattle.sp_rules.specs.Endings.{close}
use Rattle.sp_rules.specs.State.{State}
use Rattle.sp_state.specs.Hellos.{answer_of, take_answer, take_hello}
use Rattle.sp_state.specs.Spaces.{IsSpace}
use Rattle.sp_state.proofs.FrameLemmas.{closed-at, hello-dialled, hello-other, space-is}
use Rattle.sp_state.proofs.space_state.SpaceState.hello_of_dialled.Goals as goal

second : (a b : Bool) → (a && b) ≡ true → b ≡ true
second true b h = h
second false b h = absurd (true≢false (sym h))

pub returns-then-is_of-clause-got : goal.returns-then-is_of-clause-got
returns-then-is_of-clause-got w c = on_ok_weaker c.answered_hello.result (λ answered. λ g s row is silent tells on spoken dialled fresh.
    let hello = c.args.hello in
    let peer = c.args.peer.now in
    let both = sym (c.is_of.ensures g s is) ∙ c.if-is_of.true in
    let who = (bytes_eq-Decides hello.space peer).0 (second (bytes_eq hello.digest g.digest) (bytes_eq hello.space peer) both) in
    let answer = c.answer_of.ensures ∙ ap (λ (v : ℕ). answer_of v hello.version) (sym spoken) in
    space-is g (take_answer g row peer hello.space (answer_of row.version hello.version) s) (take_hello g row hello s) c.answered_hello.new.self (hello-dialled g row hello s peer dialled both)
    (subst (λ (t : State). IsSpace g t c.answered_hello.new.self) (λ j. take_answer g row peer (sym who j) (answer j) s) (answered g s row is silent tells on dialled fresh))) c.answered_hello.ensures.got

pub returns-clause-got : goal.returns-clause-got
returns-clause-got w c = on_ok_weaker c.close.result (λ now. λ g s row is silent tells on spoken dialled fresh.
    let hello = c.args.hello in
    let other = sym (c.is_of.ensures g s is) ∙ c.if-is_of.false in
    space-is g (close g g.classes.connect row.number s) (take_hello g row hello s) c.close.new.self (hello-other g row hello s c.args.peer.now dialled other)
    (closed-at g g.classes.connect c.args.conn s row c.close.new.self on (now g s is silent tells))) c.close.ensures.closed
