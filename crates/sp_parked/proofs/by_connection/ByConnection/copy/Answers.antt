use Rattle.std.proofs.Common.{◌≡◌, [], nat_eq}
use Rattle.std.specs.Map.{lookup}
use Rattle.rising_map.specs.Rows.{AreRows, HasRowsOf}
use Rattle.rising_map.specs.declared.map.RisingMap.{RisingMap}
use Rattle.sp_parked.specs.ByReferences.{pairs}
use Rattle.table_copies.proofs.CopyLemmas.{lookup-copied, match-copied}
use Rattle.sp_parked.proofs.by_connection.ByConnection.copy.Goals as goal

pub returns : goal.returns
returns c = λ holds was.
    let copies = HasRowsOf (λ (one other : Unit {0}). other ≡ one) in record {
      at = λ key.
          match-copied nat_eq copies (holds key ≡ []) (λ (m : RisingMap (Unit {0})). AreRows (pairs (holds key)) m) (λ m copy same rows. same (λ one other h. h) _ rows) (lookup (nat_eq key) c.args.self.now.tickets.entries) (lookup (nat_eq key) c.in_ok-copy_map.field-0.entries)
          (lookup-copied nat_eq copies (nat_eq key) c.args.self.now.tickets.entries c.in_ok-copy_map.field-0.entries c.in_ok-copy_map.ensures) (was.at key);
    }
