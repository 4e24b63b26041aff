use Rattle.std.proofs.Common.{◌≡◌, ℕ, List, [], nat_eq, ap, ◌∙◌}
use Rattle.std.specs.Map.{lookup}
use Rattle.sp_results.specs.declared.unacknowledged.Numbers.{Numbers}
use Rattle.table_copies.proofs.CopyLemmas.{lookup-copied, match-copied}
use Rattle.sp_results.proofs.unacknowledged.Unacknowledged.copy.Goals as goal

pub returns : goal.returns
returns c = λ holds was.
    let copies = λ (m copy : Numbers). copy.tickets.entries ≡ m.tickets.entries in record {
      at = λ conn.
          match-copied nat_eq copies (holds conn ≡ []) (λ (m : Numbers). (number : ℕ) → lookup (nat_eq number) m.tickets.entries ≡ lookup (nat_eq number) (holds conn))
          (λ m copy same there number. ap (λ (es : List (ℕ × ℕ)). lookup (nat_eq number) es) same ∙ there number)
          (lookup (nat_eq conn) c.args.self.now.numbers.entries) (lookup (nat_eq conn) c.in_ok-copy_map.field-0.entries)
          (lookup-copied nat_eq copies (nat_eq conn) c.args.self.now.numbers.entries c.in_ok-copy_map.field-0.entries c.in_ok-copy_map.ensures) (was.at conn);
      once = was.once;
    }
