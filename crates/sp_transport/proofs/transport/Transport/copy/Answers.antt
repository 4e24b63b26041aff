use Rattle.std.proofs.Common.{sym, ◌∙◌}
use Rattle.sp_transport.proofs.transport.Transport.copy.Goals as goal

pub returns : goal.returns
returns c = record {
  copied = λ s was fresh notes. record {
    leases = c.in_ok-copy.ensures.copied _ was.leases;
    connections = c.in_ok-copy-2.ensures.copied _ _ was.connections;
    noted = λ peer. c.in_ok-copy-3.ensures peer ∙ was.noted peer;
    asked = c.in_ok-copy-4.ensures.copied _ _ was.asked;
    calls_made = was.calls_made;
    groups_made = was.groups_made;
    fresh = sym fresh;
    notes = c.new.ensures ∙ sym notes;
    lines = was.lines;
  };
}
