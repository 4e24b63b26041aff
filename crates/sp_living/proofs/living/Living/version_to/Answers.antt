use Rattle.std.proofs.Common.{cond, sym, ap, ◌∙◌}
use Rattle.sp_living.proofs.living.Living.version_to.Goals as goal

pub returns-then-is_noted : goal.returns-then-is_noted
returns-then-is_noted c = λ g s a of. sym (ap (λ b. cond b 1 g.version) (sym (c.is_noted.ensures s a.transport) ∙ c.if-is_noted.true))

pub returns-else-is_noted : goal.returns-else-is_noted
returns-else-is_noted c = λ g s a of. of ∙ sym (ap (λ b. cond b 1 g.version) (sym (c.is_noted.ensures s a.transport) ∙ c.if-is_noted.false))
