use Rattle.std.proofs.Common.{◌≤◌, subst, arith}
use Rattle.std.proofs.lemmas.Result.{IfOk-weaker}
use Rattle.dgc_client.specs.declared.picked.Question.{Question}
use Rattle.dgc_index.specs.Plans.{half_at, end_at}
use Rattle.dgc_client.specs.Table.{leases_of}
use Rattle.dgc_client.specs.Touched.{IsAnswered, reference_of}
use Rattle.dgc_client.proofs.SoundLemmas.{renewed-planned, lapsed-planned}
use Rattle.dgc_client.proofs.table.Clients.questioned.Goals as goal

pub returns-in-Renewed : goal.returns-in-Renewed
returns-in-Renewed c = IfOk-weaker c.up_to.result _ _
    (λ found there s at below answered.
    let last = c.last_moment-last.ensures.moment in
    let late : c.args.self.now.leases.moment ≤ c.in-Renewed.moment = omega arith in
    let small : c.in-Renewed.moment ≤ 18446744073709551615 = omega arith in
    let p = renewed-planned c.args.self.now s c.in-Renewed.moment small late c.last_moment-last.ensures.each at
    (subst (λ (q : Question). IsAnswered (reference_of q) (leases_of c.args.self.now.leases) at) c.in-Renewed.is answered) in
    there (record { moment = half_at p.0; index = at }) p.1 below p.2.half) c.up_to.ensures

pub returns-in-Lapses : goal.returns-in-Lapses
returns-in-Lapses c = IfOk-weaker c.up_to-in-Lapses.result _ _
    (λ found there s at below answered.
    let last = c.last_moment-last.ensures.moment in
    let late : c.args.self.now.leases.moment ≤ c.in-Lapses.moment = omega arith in
    let small : c.in-Lapses.moment ≤ 18446744073709551615 = omega arith in
    let p = lapsed-planned c.args.self.now s c.in-Lapses.moment small late c.last_moment-last.ensures.each at
    (subst (λ (q : Question). IsAnswered (reference_of q) (leases_of c.args.self.now.leases) at) c.in-Lapses.is answered) in
    there (record { moment = end_at p.0; index = at }) p.1 below p.2.end) c.up_to-in-Lapses.ensures

pub returns-in_default : goal.returns-in_default
returns-in_default c = IfOk-weaker c.up_to-in_default.result _ _ (λ found there s at below answered. there at below) c.up_to-in_default.ensures.there
