use Rattle.std.proofs.Common.{Some, sym, ap, ◌∙◌}
use Rattle.sp_requests.specs.declared.connection.Link.{Link}
use Rattle.sp_requests.proofs.TableLemmas.{dialling-link, other-link}
use Rattle.sp_core.proofs.CheckLemmas.{no-link, other-open}
use Rattle.sp_core.proofs.space_core.SpaceCore.is_dialling.Goals as goal

pub returns-in-Some-Dialling : goal.returns-in-Some-Dialling
returns-in-Some-Dialling c = λ g s is.
    let t = c.transport.ensures g s (c.living.ensures.stands g s is.state) in
    sym (dialling-link c.args.peer.now s.connections s.dialling (sym (sym (c.in-Some-Dialling.is ∙ ap (λ (l : Link). Some l) c.in-Some-Dialling.field-0-is) ∙ c.link.ensures s t)))

pub returns-in-Some-Open : goal.returns-in-Some-Open
returns-in-Some-Open c = λ g s is.
    let t = c.transport.ensures g s (c.living.ensures.stands g s is.state) in
    sym (other-link c.args.peer.now s.connections s.dialling _ (sym (c.in-Some-Open.is ∙ ap (λ (l : Link). Some l) c.in-Some-Open.field-0-is) ∙ c.link.ensures s t) (other-open _))

pub returns-in-None : goal.returns-in-None
returns-in-None c = λ g s is.
    let t = c.transport.ensures g s (c.living.ensures.stands g s is.state) in
    sym (other-link c.args.peer.now s.connections s.dialling c.link.result (c.link.ensures s t) (no-link c.link.result c.in-None.is))
