use Rattle.std.specs.Prelude.{Result, Ok, Err, IfOk}
use Rattle.sp_behaviours.proofs.CrossingLemmas.{remote_rules_are_kept}
use Rattle.pipe_rows.proofs.program.made_program.Goals as goal

if-ok : {T E : Type 0} (r : Result T E) (P Q : T → Type 0) → ((x : T) → P x → Q x) → IfOk r P → IfOk r Q
if-ok (Ok x) P Q f p = f x p
if-ok (Err e) P Q f p = tt

pub returns : goal.returns
returns c = if-ok c.program_of.result _ _ (λ program p. remote_rules_are_kept p.classes _ p.set p.linked.set p.makes_a_set) c.program_of.ensures.program
