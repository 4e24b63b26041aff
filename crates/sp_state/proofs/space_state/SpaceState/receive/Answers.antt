use Rattle.std.proofs.Common.{◌≡◌, true, false, sym, ap, ◌∙◌}
use Rattle.std.specs.Prelude.{is_none, is_some}
use Rattle.std.proofs.lemmas.Result.{on_ok_weaker}
use Rattle.sp_requests.specs.declared.connection.Connection.{Connection}
use Rattle.sp_rules.specs.Endings.{close}
use Rattle.sp_rules.specs.Frames.{first_frame, got, is_asking, is_wrong_way, receive}
use Rattle.sp_state.proofs.FrameLemmas.{answers-here, asks-there, closed-at, first-peer, received-first, received-right, none-so, received-wrong, space-is}
use Rattle.sp_state.proofs.space_state.SpaceState.receive.Goals as goal

pub returns-then-is_first-clause-received : goal.returns-then-is_first-clause-received
returns-then-is_first-clause-received w c = on_ok_weaker c.first_frame.result (λ now. λ g s row is silent tells on seen.
    let m = c.args.message in
    let peer : is_none row.peer ≡ true = ap (λ (k : Connection). is_none k.peer) (sym seen) ∙ none-so c.args.connection.peer c.is_none-is_first.result c.is_none-is_first.ensures ∙ c.if-is_first.true in
    space-is g (first_frame g row m s) (receive g row m s) c.first_frame.new.self (received-first g row m s peer)
    (now g s row is silent tells on seen (first-peer row.peer peer))) c.first_frame.ensures.got

pub returns-then-is_wrong_way-clause-received : goal.returns-then-is_wrong_way-clause-received
returns-then-is_wrong_way-clause-received w c = on_ok_weaker c.close.result (λ now. λ g s row is silent tells on seen.
    let m = c.args.message in
    let peer : is_none row.peer ≡ false = ap (λ (k : Connection). is_none k.peer) (sym seen) ∙ none-so c.args.connection.peer c.is_none-is_first.result c.is_none-is_first.ensures ∙ c.if-is_first.false in
    let way : is_wrong_way (is_asking m) (is_some row.dialled) ≡ true =
    ap (λ (k : Connection). is_wrong_way (is_asking m) (is_some k.dialled)) (sym seen)
    ∙ (λ j. is_wrong_way (sym c.is_asking-asks.ensures j) (sym c.is_some-dialled.ensures j)) ∙ sym c.is_wrong_way.ensures ∙ c.if-is_wrong_way.true in
    space-is g (close g g.classes.unmarshal row.number s) (receive g row m s) c.close.new.self (received-wrong g row m s peer way)
    (closed-at g g.classes.unmarshal c.args.conn s row c.close.new.self on (now g s is silent tells))) c.close.ensures.closed

pub returns-then-asks-clause-received : goal.returns-then-asks-clause-received
returns-then-asks-clause-received w c = on_ok_weaker c.receive_asking.result (λ now. λ g s row is silent tells on seen.
    let m = c.args.message in
    let peer : is_none row.peer ≡ false = ap (λ (k : Connection). is_none k.peer) (sym seen) ∙ none-so c.args.connection.peer c.is_none-is_first.result c.is_none-is_first.ensures ∙ c.if-is_first.false in
    let way : is_wrong_way (is_asking m) (is_some row.dialled) ≡ false =
    ap (λ (k : Connection). is_wrong_way (is_asking m) (is_some k.dialled)) (sym seen)
    ∙ (λ j. is_wrong_way (sym c.is_asking-asks.ensures j) (sym c.is_some-dialled.ensures j)) ∙ sym c.is_wrong_way.ensures ∙ c.if-is_wrong_way.false in
    space-is g (got g row m s) (receive g row m s) c.receive_asking.new.self (received-right g row m s peer way)
    (now g s row is silent tells on seen (asks-there (is_asking m) row.dialled (sym c.is_asking-asks.ensures ∙ c.if-asks.true) way))) c.receive_asking.ensures.got

pub returns-else-asks-clause-received : goal.returns-else-asks-clause-received
returns-else-asks-clause-received w c = on_ok_weaker c.receive_answer.result (λ now. λ g s row is silent tells on seen.
    let m = c.args.message in
    let peer : is_none row.peer ≡ false = ap (λ (k : Connection). is_none k.peer) (sym seen) ∙ none-so c.args.connection.peer c.is_none-is_first.result c.is_none-is_first.ensures ∙ c.if-is_first.false in
    let way : is_wrong_way (is_asking m) (is_some row.dialled) ≡ false =
    ap (λ (k : Connection). is_wrong_way (is_asking m) (is_some k.dialled)) (sym seen)
    ∙ (λ j. is_wrong_way (sym c.is_asking-asks.ensures j) (sym c.is_some-dialled.ensures j)) ∙ sym c.is_wrong_way.ensures ∙ c.if-is_wrong_way.false in
    let mine = answers-here (is_asking m) row.dialled (sym c.is_asking-asks.ensures ∙ c.if-asks.false) way in
    space-is g (got g row m s) (receive g row m s) c.receive_answer.new.self (received-right g row m s peer way)
    (now g s row mine.peer is silent tells on mine.is)) c.receive_answer.ensures.got
