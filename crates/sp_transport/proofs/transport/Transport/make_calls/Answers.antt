use Rattle.std.proofs.Common.{ℕ, ◌+◌, ap, ◌∙◌}
use Rattle.sp_transport.proofs.MakingLemmas.{now-calls}
use Rattle.sp_transport.proofs.transport.Transport.make_calls.Goals as goal

pub returns-clause-made : goal.returns-clause-made
returns-clause-made c = λ s a.
    now-calls s c.args.self.now c.args.group.now c.in-Some.call c.made.new.self ((c.in-Some.ensures).1 ∙ ap (λ (n : ℕ). n + 1) a.groups_made) (c.made.ensures.made s.leases a.leases) a
