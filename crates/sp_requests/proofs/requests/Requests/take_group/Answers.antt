use Rattle.std.proofs.Common.{◌≡◌, None, refl, sym, ap, ◌∙◌, rules}
use Rattle.sp_requests.specs.Asking.{groups_in}
use Rattle.sp_requests.proofs.GroupLemmas.{found-group, is_kind, leave-group, not-found, take-group}
use Rattle.sp_requests.proofs.requests.Requests.take_group.Goals as goal

pub returns-in_err-get-clause-group : goal.returns-in_err-get-clause-group
returns-in_err-get-clause-group c = λ conn rows sent a.
    let none : c.from_residual.result ≡ None = search rules in
    none ∙ not-found conn c.args.sequence c.args.dirty rows a.on a.groups.rises (λ g f. let h = c.in_err-get.ensures (groups_in rows) a.groups in cc)

pub returns-in_err-get-clause-taken : goal.returns-in_err-get-clause-taken
returns-in_err-get-clause-taken c = λ conn rows sent a. leave-group conn c.args.sequence c.args.dirty rows sent c.args.self.now (λ g f. let h = c.in_err-get.ensures (groups_in rows) a.groups in cc) a

pub returns-then-is_kind-clause-group : goal.returns-then-is_kind-clause-group
returns-then-is_kind-clause-group c = λ conn rows sent a.
    let found = sym (c.in_ok-get.ensures (groups_in rows) a.groups) in
    c.take.ensures.row (groups_in rows) a.groups ∙ found ∙ found-group conn c.args.sequence c.args.dirty rows c.in_ok-get.field-0.now a.on found (sym c.is_kind.ensures ∙ c.if-is_kind.true)

pub returns-then-is_kind-clause-taken : goal.returns-then-is_kind-clause-taken
returns-then-is_kind-clause-taken c = λ conn rows sent a.
    take-group conn c.args.sequence c.args.dirty rows sent c.in_ok-get.field-0.now c.args.self.now _ refl (c.take.ensures.taken (groups_in rows) a.groups) (sym (c.in_ok-get.ensures (groups_in rows) a.groups)) (sym c.is_kind.ensures ∙ c.if-is_kind.true) a

pub returns-else-is_kind-clause-group : goal.returns-else-is_kind-clause-group
returns-else-is_kind-clause-group c = λ conn rows sent a.
    not-found conn c.args.sequence c.args.dirty rows a.on a.groups.rises
    (λ g f. let same : g ≡ c.in_ok-get.field-0.now = (let h = c.in_ok-get.ensures (groups_in rows) a.groups in cc) in ap (is_kind c.args.dirty) same ∙ sym c.is_kind.ensures ∙ c.if-is_kind.false)

pub returns-else-is_kind-clause-taken : goal.returns-else-is_kind-clause-taken
returns-else-is_kind-clause-taken c = λ conn rows sent a.
    leave-group conn c.args.sequence c.args.dirty rows sent c.args.self.now
    (λ g f. let same : g ≡ c.in_ok-get.field-0.now = (let h = c.in_ok-get.ensures (groups_in rows) a.groups in cc) in ap (is_kind c.args.dirty) same ∙ sym c.is_kind.ensures ∙ c.if-is_kind.false) a
