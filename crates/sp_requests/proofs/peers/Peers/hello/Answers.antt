use Rattle.std.proofs.Common.{◌≡◌, Some, refl, sym, ◌∙◌}
use Rattle.net_message.specs.declared.message.Message.TheVariants as message
use Rattle.sp_requests.specs.Tables.{opened}
use Rattle.sp_rules.proofs.LineLemmas.{same-peer, to-last}
use Rattle.sp_requests.specs.Peers.{of_peer}
use Rattle.sp_requests.specs.AllAsked.{row_of}
use Rattle.sp_requests.proofs.AskedLemmas.{changed-sent, opened-line, row-waits}
use Rattle.sp_requests.proofs.RowLemmas.{changed-at, le-same, other-row, room-then}
use Rattle.sp_requests.proofs.peers.Peers.hello.Goals as goal

pub returns-clause-sent : goal.returns-clause-sent
returns-clause-sent c = λ connections requests conn version space digest a free none.
    let found : row_of c.args.peer.now c.args.self.now ≡ Some c.index_mut.result.now = sym c.in-Some.ensures.value ∙ c.index_mut.ensures.value in
    changed-sent {c = opened conn (Some c.args.peer.now)} (message.Hello version space digest) (changed-at c.args.self.now c.args.peer.now c.in-Some.index c.index_mut.result.now c.hello.new.self c.in-Some.ensures.unique (sym c.in-Some.ensures.index) c.index_mut.ensures.value) (to-last connections (opened conn (Some c.args.peer.now)) c.args.peer.now none (same-peer c.args.peer.now))
    (c.hello.ensures.sent conn version (of_peer c.args.peer.now requests) space digest (row-waits c.args.peer.now none found a conn)) (λ q e. refl) (opened-line c.args.peer.now conn free none found a)

pub returns-clause-room : goal.returns-clause-room
returns-clause-room c = λ w k g room.
    let found : row_of c.args.peer.now c.args.self.now ≡ Some c.index_mut.result.now = sym c.in-Some.ensures.value ∙ c.index_mut.ensures.value in
    room-then w k g w k g (changed-at c.args.self.now c.args.peer.now c.in-Some.index c.index_mut.result.now c.hello.new.self c.in-Some.ensures.unique (sym c.in-Some.ensures.index) c.index_mut.ensures.value) found (λ r. (le-same _ _ _ r.0 c.hello.ensures.waiting_room, le-same _ _ _ r.1 c.hello.ensures.call_room, le-same _ _ _ r.2 c.hello.ensures.group_room)) room

pub returns-clause-others : goal.returns-clause-others
returns-clause-others c = λ q apart. other-row (changed-at c.args.self.now c.args.peer.now c.in-Some.index c.index_mut.result.now c.hello.new.self c.in-Some.ensures.unique (sym c.in-Some.ensures.index) c.index_mut.ensures.value) q apart
