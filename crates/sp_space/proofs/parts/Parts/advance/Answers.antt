use Rattle.std.proofs.Common.{◌≡◌, true, sym, subst}
use Rattle.std.specs.Prelude.{is_some}
use Rattle.sp_machines.specs.Coming.{IsAskedBy}
use Rattle.sp_space.specs.Machines.{machine_at}
use Rattle.sp_space.proofs.HandLemmas.{level-some}
use Rattle.sp_space.proofs.NextLemmas.{comes-next, still-stands}
use Rattle.sp_machines.proofs.ResultLemmas.{if-err, if-ok, on-err}
use Rattle.sp_space.proofs.parts.Parts.advance.Goals as goal

-- its machine is there
pub next-requires : goal.next-requires
next-requires c =
    let k = c.requires.known in
    subst (λ n. is_some (machine_at n c.args.self.now.machines) ≡ true) (sym c.id.ensures)
    (level-some c.args.self.now.program.now k.setting k.is.living (machine_at c.args.hand.task.id c.args.self.now.machines) k.is.level)

pub take-requires-clause-known : goal.take-requires-clause-known
take-requires-clause-known c =
    let k = c.requires.known in
    record {
      setting = k.setting;
      history = k.history;
      is = comes-next k.setting k.history c.args.self.now c.next.new.self c.args.hand c.id.result c.in-Ok.next c.id.ensures k.is c.next.ensures.level c.in-Ok.ensures.next c.next.ensures.others;
    }

pub take-requires-clause-asked : goal.take-requires-clause-asked
take-requires-clause-asked c = subst (λ n. IsAskedBy c.in-Ok.next (machine_at n c.next.new.self)) c.id.ensures c.in-Ok.ensures.asked

pub fail-requires-clause-known : goal.fail-requires-clause-known
fail-requires-clause-known c =
    let k = c.requires.known in
    record {
      setting = k.setting;
      history = k.history;
      is = still-stands k.setting k.history c.args.self.now c.next.new.self c.args.hand c.id.result c.id.ensures k.is c.next.ensures.level c.next.ensures.others;
    }

pub returns-in-Ok-clause-done : goal.returns-in-Ok-clause-done
returns-in-Ok-clause-done c =
    if-ok c.take.result _ _ (λ outputs done. λ g h l.
    done g h (comes-next g h c.args.self.now c.next.new.self c.args.hand c.id.result c.in-Ok.next c.id.ensures l c.next.ensures.level c.in-Ok.ensures.next c.next.ensures.others)) c.take.ensures.done

pub returns-in-Ok-clause-refused : goal.returns-in-Ok-clause-refused
returns-in-Ok-clause-refused c =
    if-err c.take.result _ _ (λ fault refused. λ g h l.
    refused g h (comes-next g h c.args.self.now c.next.new.self c.args.hand c.id.result c.in-Ok.next c.id.ensures l c.next.ensures.level c.in-Ok.ensures.next c.next.ensures.others)) c.take.ensures.refused

pub returns-in-Ok-clause-same : goal.returns-in-Ok-clause-same
returns-in-Ok-clause-same c =
    on-err c.take.result _ _ (λ same. λ g h l.
    same g h (comes-next g h c.args.self.now c.next.new.self c.args.hand c.id.result c.in-Ok.next c.id.ensures l c.next.ensures.level c.in-Ok.ensures.next c.next.ensures.others)) c.take.ensures.same

pub returns-in-Err-clause-same : goal.returns-in-Err-clause-same
returns-in-Err-clause-same c = λ g h l.
    c.fail.ensures.same g h (still-stands g h c.args.self.now c.next.new.self c.args.hand c.id.result c.id.ensures l c.next.ensures.level c.next.ensures.others)
