use Rattle.std.proofs.Common.{◌≡◌, [], None, Some, Option, map, sym, ap, subst, ◌∙◌, refl, filter}
use Rattle.std.specs.List.{flat_map}
use Rattle.uuid.specs.declared.Uuid.{Uuid}
use Rattle.sp_requests.specs.Ends.{ended_group}
use Rattle.sp_rules.specs.Endings.{is_of_connection, orphan, unsent_calls, without_connection}
use Rattle.sp_rules.specs.ParkedFrames.{remove_requests}
use Rattle.sp_rules.specs.State.{State}
use Rattle.sp_transport.specs.Answers.{ended_as}
use Rattle.sp_living.specs.Livings.{IsLiving}
use Rattle.sp_living.proofs.EndLemmas.{none-ends, none-removed}
use Rattle.sp_living.proofs.LivingLemmas.{moved}
use Rattle.sp_living.proofs.TableLemmas.{transport-beside}
use Rattle.sp_living.proofs.living.Living.take_connection.Goals as goal

-- one that this space dialled
pub returns-in_ok-ending-in-Some-clause-ended : goal.returns-in_ok-ending-in-Some-clause-ended
returns-in_ok-ending-in-Some-clause-ended c = λ g s line a quiet there same.
    let conn = c.args.conn in
    let kept : State = record s { results = map (orphan conn s.moment) s.results } in
    let before = c.in_ok-orphan_results.ensures.orphaned g s a in
    let dialled : line.dialled ≡ Some c.in-Some.peer = same ∙ c.in-Some.is in
    let ending = c.in_ok-ending-in-Some.ensures.ending kept line conn before.transport quiet there dialled in
    c.end_reserved.ensures.ended kept line c.args.unsent before.transport quiet there dialled ending

pub returns-in_ok-ending-in-Some-clause-left : goal.returns-in_ok-ending-in-Some-clause-left
returns-in_ok-ending-in-Some-clause-left c = λ g s line a quiet there same.
    let conn = c.args.conn in
    let kept : State = record s { results = map (orphan conn s.moment) s.results } in
    let before = c.in_ok-orphan_results.ensures.orphaned g s a in
    let dialled : line.dialled ≡ Some c.in-Some.peer = same ∙ c.in-Some.is in
    let gone = c.end_reserved.ensures.left kept line before.transport quiet there dialled in
    let left : State = remove_requests (is_of_connection conn line.dialled) (without_connection conn s) in
    moved g kept left c.orphan_results.new.self c.end_reserved.new.self refl
    (λ t. transport-beside (remove_requests (is_of_connection conn line.dialled) (without_connection conn kept)) kept.results kept.parked c.end_reserved.new.self gone) before

-- one that a peer dialled
pub returns-in-None-clause-ended : goal.returns-in-None-clause-ended
returns-in-None-clause-ended c = λ g s line a quiet there same.
    let conn = c.args.conn in
    let dialled : line.dialled ≡ None = same ∙ c.in-None.is in
    let none : filter (is_of_connection conn line.dialled) s.requests ≡ [] = ap (λ (o : Option Uuid). filter (is_of_connection conn o) s.requests) dialled ∙ none-ends conn s.requests in
    record {
      calls = c.new.ensures.items ∙ sym (ap (flat_map (ended_as (unsent_calls s conn c.args.unsent))) none);
      groups = c.new-in-None.ensures.items ∙ sym (ap (flat_map ended_group) none);
    }

pub returns-in-None-clause-left : goal.returns-in-None-clause-left
returns-in-None-clause-left c = λ g s line a quiet there same.
    let conn = c.args.conn in
    let kept : State = record s { results = map (orphan conn s.moment) s.results } in
    let left : State = without_connection conn s in
    let dialled : line.dialled ≡ None = same ∙ c.in-None.is in
    let before = c.in_ok-orphan_results.ensures.orphaned g s a in
    let closed = transport-beside (without_connection conn kept) kept.results kept.parked c.close.new.self (c.close.ensures.closed kept line before.transport quiet there dialled) in
    let living = moved g kept left c.orphan_results.new.self c.close.new.self refl (λ t. closed) before in
    subst (λ (u : State). IsLiving g u (record c.orphan_results.new.self { transport = c.close.new.self }))
    (sym (ap (λ (o : Option Uuid). remove_requests (is_of_connection conn o) left) dialled ∙ none-removed conn left)) living
