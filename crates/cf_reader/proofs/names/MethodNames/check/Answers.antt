use Rattle.std.proofs.Common.{sym, ◌∙◌}
use Rattle.cf_reader.specs.MemberNames.{IsMethodName}
use Rattle.cf_reader.proofs.NamesKept.{method_name, name_more}
use Rattle.cf_reader.proofs.names.MethodNames.check.Goals as goal

pub returns-then-contains-clause-value : goal.returns-then-contains-clause-value
returns-then-contains-clause-value c = c.requires.known c.args.name.value (sym c.contains.ensures ∙ c.if-contains.true) c.args.name.at

pub returns-clause-known : goal.returns-clause-known
returns-clause-known c =
    let pool = c.args.pool.now in
    let name = c.args.name in
    name_more (IsMethodName pool) c.args.self.now.kept c.insert.new.self name.value c.in_ok-insert.ensures.updates.0
    (method_name pool name.value name.at (sym c.in_ok-check_method_name.ensures)) c.requires.known
