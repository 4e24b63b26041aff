use Rattle.std.proofs.Common.{ap, inl, inr, not, rules, ◌∙◌}
use Rattle.cf_descriptors.specs.MemberKeys.{Key}
use Rattle.cf_descriptors.proofs.MemberKeyLaws.{key-put, key-tells, none-tells}
use Rattle.cf_descriptors.proofs.member_keys.MemberKeys.add.Goals as goal

pub returns-in_default-clause-value : goal.returns-in_default-clause-value
returns-in_default-clause-value c = λ members are. none-tells c.args.pool.now c.args.member.now (inl (search rules)) members

pub returns-in_default-utf8-clause-value : goal.returns-in_default-utf8-clause-value
returns-in_default-utf8-clause-value c = λ members are. none-tells c.args.pool.now c.args.member.now (inr (search rules)) members

pub returns-clause-value : goal.returns-clause-value
returns-clause-value c = λ members are.
    let key : Key = c.key.result in
    c.in_ok-insert.ensures.added ∙ ap not (key-tells c.args.pool.now c.args.member.now key c.key.ensures.key (search rules) (search rules) c.args.self.now members are)

pub returns-clause-added : goal.returns-clause-added
returns-clause-added c = λ members are.
    let key : Key = c.key.result in
    key-put c.args.pool.now c.args.member.now key c.key.ensures.key (search rules) (search rules) c.args.self.now (record { keys = c.insert.new.self }) members c.in_ok-insert.ensures.updates.0 are
