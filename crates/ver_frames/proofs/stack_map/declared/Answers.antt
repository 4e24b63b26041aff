use Rattle.ver_frames.proofs.StackMapLaws.{given_found, given_only}
use Rattle.ver_frames.proofs.stack_map.declared.Goals as goal

pub returns-clause-found : goal.returns-clause-found
returns-clause-found c = given_found (λ v. v) c.args.method.now c.declared_or_none.result c.declared_or_none.ensures.declared

pub returns-clause-only : goal.returns-clause-only
returns-clause-only c = given_only (λ v. v) c.args.method.now c.declared_or_none.result c.declared_or_none.ensures.declared
