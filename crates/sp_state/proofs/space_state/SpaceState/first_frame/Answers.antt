use Rattle.std.proofs.Common.{sym, ap, ◌∙◌}
use Rattle.std.proofs.lemmas.Result.{on_ok_weaker}
use Rattle.sp_requests.specs.declared.connection.Connection.{Connection}
use Rattle.sp_rules.specs.Endings.{close}
use Rattle.sp_rules.specs.Frames.{first_frame}
use Rattle.sp_state.specs.Hellos.{take_hello}
use Rattle.sp_state.proofs.AnswerLemmas.{none-left}
use Rattle.sp_state.proofs.FrameLemmas.{closed-at, first-hello, first-other, space-is}
use Rattle.sp_state.proofs.space_state.SpaceState.first_frame.Goals as goal

pub returns-in_default-clause-got : goal.returns-in_default-clause-got
returns-in_default-clause-got w c = on_ok_weaker c.close.result (λ now. λ g s row is silent tells on seen fresh.
    let m = c.args.message in
    space-is g (close g g.classes.unmarshal row.number s) (first_frame g row m s) c.close.new.self
    (first-other g row m s (sym (none-left c.hello_in.result c.in_default.not-Some) ∙ c.hello_in.ensures))
    (closed-at g g.classes.unmarshal c.args.conn s row c.close.new.self on (now g s is silent tells))) c.close.ensures.closed

pub returns-in-Some-dialled-clause-got : goal.returns-in-Some-dialled-clause-got
returns-in-Some-dialled-clause-got w c = on_ok_weaker c.hello_of_dialled.result (λ now. λ g s row is silent tells on seen fresh.
    let m = c.args.message in
    let hello = c.in-Some.hello in
    space-is g (take_hello g row hello s) (first_frame g row m s) c.hello_of_dialled.new.self (first-hello g row m s hello (sym c.in-Some.is ∙ c.hello_in.ensures))
    (now g s row is silent tells on (sym (ap (λ (k : Connection). k.version) seen)) (sym (ap (λ (k : Connection). k.dialled) seen) ∙ c.in-Some-dialled.is) fresh)) c.hello_of_dialled.ensures.got

pub returns-clause-got : goal.returns-clause-got
returns-clause-got w c = on_ok_weaker c.hello.result (λ now. λ g s row is silent tells on seen fresh.
    let m = c.args.message in
    let hello = c.in-Some.hello in
    space-is g (take_hello g row hello s) (first_frame g row m s) c.hello.new.self (first-hello g row m s hello (sym c.in-Some.is ∙ c.hello_in.ensures))
    (now g s row is silent tells on (sym (ap (λ (k : Connection). k.dialled) seen) ∙ c.in-None.is))) c.hello.ensures.got
