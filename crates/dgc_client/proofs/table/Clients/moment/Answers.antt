use Rattle.std.proofs.Common.{◌≡◌, ◌≤◌, true, max, refl, arith}
use Rattle.dgc_client.specs.declared.table.Clients.{Clients}
use Rattle.dgc_client.proofs.TableLemmas.{after-pass}
use Rattle.dgc_client.proofs.SoundLemmas.{sound-pass}
use Rattle.dgc_client.proofs.table.Clients.moment.Goals as goal

pub returns-then-moment-last_moment-clause-moment : goal.returns-then-moment-last_moment-clause-moment
returns-then-moment-last_moment-clause-moment c = λ h was.
    let below = c.last_moment.ensures.moment in
    let self = c.plan_anew.new.self in
    let greatest : self.leases.moment ≡ max self.leases.moment c.args.moment = omega arith in
    after-pass h self self c.args.moment greatest refl (c.last_moment.ensures.early c.args.moment (omega arith)) (λ s. s) (c.plan_anew.ensures.same h was)

pub returns-clause-moment : goal.returns-clause-moment
returns-clause-moment c = λ h was.
    let below = c.last_moment.ensures.moment in
    let self = c.plan_anew.new.self in
    let late : self.leases.moment ≤ c.args.moment = omega arith in
    let small : c.args.moment ≤ 18446744073709551615 = omega arith in
    let now : c.pass.new.self.moment ≡ c.args.moment = (let greatest = c.pass.ensures.moment in omega arith) in
    let new : Clients = record { leases = c.pass.new.self; touched = c.join.new.self; later = c.clear.new.self; plans = self.plans; moved = true; numbers = self.numbers } in
    after-pass h self new c.args.moment c.pass.ensures.moment refl c.pass.ensures.leases
    (sound-pass self new c.args.moment small late c.last_moment.ensures.each c.pass.ensures.leases now c.join.ensures.kept c.join.ensures.joined refl refl) (c.plan_anew.ensures.same h was)
