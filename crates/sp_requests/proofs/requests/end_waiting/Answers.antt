use Rattle.std.proofs.Common.{◌≡◌, ◌++◌, [], sym, ap, ◌∙◌, append-nil}
use Rattle.std.specs.List.{flat_map}
use Rattle.std.proofs.lemmas.List.{nil_from_length}
use Rattle.sp_requests.specs.Ends.{waiting_group}
use Rattle.sp_requests.proofs.EndLemmas.{waiting-groups}
use Rattle.sp_requests.proofs.requests.end_waiting.Goals as goal

pub returns : goal.returns
returns c = λ rows same.
    let none : c.loop-asked.asked-iterator.rest.items ≡ [] = nil_from_length _ (sym c.loop-asked.asked-iterator.rest.ok.0 ∙ (c.in-None.ensures).steps.0) in
    let all : c.loop-asked.yielded ≡ c.args.waiting.items = sym (append-nil c.loop-asked.yielded) ∙ ap (λ l. c.loop-asked.yielded ++ l) (sym none) ∙ sym c.loop-asked.invariant.whole in
    c.loop-asked.invariant.items ∙ ap (λ l. c.args.groups.now.items ++ flat_map waiting_group l) all ∙ ap (λ l. c.args.groups.now.items ++ l) (waiting-groups c.args.waiting.items rows same)
