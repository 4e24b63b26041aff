use Rattle.std.proofs.Common.{◌≡◌, Some, nat_eq, refl, sym, ◌∙◌}
use Rattle.std.specs.Map.{lookup}
use Rattle.std.specs.Cmp.{nat_eq_equiv}
use Rattle.indexmap.proofs.CallerLemmas.{updates-with_value_at}
use Rattle.sp_rules.specs.State as rules
use Rattle.sp_requests.specs.declared.connection.Connection.{Connection}
use Rattle.sp_requests.proofs.TableLemmas.{change, entry-at, none-from, unchange}
use Rattle.sp_requests.proofs.connections.Connections.speak.Goals as goal

pub returns-in-Some-clause-spoken : goal.returns-in-Some-clause-spoken
returns-in-Some-clause-spoken c = λ rows dialling a.
    let m = c.args.self.now.rows in
    let x = c.index_mut.result.now in
    let there : lookup (nat_eq c.args.conn) m.entries ≡ Some x = sym c.in-Some.ensures.value ∙ c.index_mut.ensures.value in
    let spoken : Connection → Connection = λ y. record y { version = c.args.version } in
    let entry = entry-at c.args.conn m.entries c.in-Some.index x (sym c.in-Some.ensures.index) c.index_mut.ensures.value in
    change (λ (r : rules.Connection). record r { version = c.args.version }) (record { number = λ r. refl; dialled = λ r. refl }) spoken (λ r. refl) rows dialling c.args.self.now _ c.args.conn x there refl
    (λ q. (updates-with_value_at m c.in-Some.index (spoken x) nat_eq_equiv c.in-Some.ensures.unique c.args.conn x entry).0 q) a

pub returns-in-None-clause-spoken : goal.returns-in-None-clause-spoken
returns-in-None-clause-spoken c = λ rows dialling a.
    unchange (λ (r : rules.Connection). record r { version = c.args.version }) rows dialling c.args.self.now c.args.conn
    (none-from (lookup (nat_eq c.args.conn) c.args.self.now.rows.entries) c.in-None.ensures.found) a
