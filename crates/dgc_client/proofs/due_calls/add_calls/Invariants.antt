use Rattle.std.proofs.Common.{◌≡◌, ◌+◌, ◌++◌, length, take, filter, vec_len, vec_capacity}
use Rattle.dgc_client.specs.Groups.{is_of}
use Rattle.dgc_client.proofs.due_calls.add_calls.Given as goal

-- the calls so far that are of the peer and kind are added
abbrev pub invariant-loop-call : goal.invariant-loop-call
invariant-loop-call l =
    (l.ordered.items ≡ l.initial.ordered.items ++ filter (is_of l.peer l.kind) (take l.call-index l.calls))
    × (vec_len l.ordered ≡ vec_len l.initial.ordered + length (filter (is_of l.peer l.kind) (take l.call-index l.calls)))
    × (vec_capacity l.ordered ≡ vec_capacity l.initial.ordered)
