use Rattle.std.proofs.Common.{◌≡◌, map, refl, ap, ◌∙◌, Vec, Global}
use Rattle.sp_requests.specs.declared.asked.Asked.{Asked}
use Rattle.sp_requests.specs.Asking.{asked_of, waiting_in}
use Rattle.sp_requests.proofs.GroupLemmas.{take-waiting, waiting-named}
use Rattle.sp_requests.proofs.requests.Requests.take_waiting.Goals as goal

pub returns-clause-taken : goal.returns-clause-taken
returns-clause-taken c = λ conn rows sent a. take-waiting conn rows sent c.args.self.now _ refl (ap (λ (v : Vec Asked Global). v.items) c.replace.ensures.after ∙ c.new.ensures.items) a

pub returns-clause-named : goal.returns-clause-named
returns-clause-named c = λ conn rows sent a.
    let same : map asked_of c.replace.result.items ≡ waiting_in rows = ap (λ (v : Vec Asked Global). map asked_of v.items) c.replace.ensures.value ∙ a.waiting in
    waiting-named rows (map asked_of c.replace.result.items) same a.named
