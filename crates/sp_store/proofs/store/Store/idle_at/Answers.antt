use Rattle.std.proofs.Common.{◌≡◌, ℕ, Option, sym, ap, ◌∙◌}
use Rattle.std.specs.Prelude.{nat_lt, option_map, unwrap_or, ◌||◌}
use Rattle.sp_rules.specs.References.{is_id_in}
use Rattle.sp_store.specs.Instances.{Remote}
use Rattle.sp_store.proofs.StoreLemmas.{held-by, pick}
use Rattle.sp_store.proofs.store.Store.idle_at.Goals as goal

pub returns-then-is_needed : goal.returns-then-is_needed
returns-then-is_needed c =
    let rows = c.args.self.now.objects.entries in
    let holds : held-by rows c.in_ok-id.id.now ≡ c.in_ok-id.instance.now.holds = ap (λ (o : Option Remote). unwrap_or (option_map (λ (x : Remote). x.holds) o) 0) c.in_ok-id.ensures.value in
    pick (held-by rows) (is_id_in c.args.named.now) rows c.args.index c.in_ok-id.id.now c.in_ok-id.instance.now _ c.in_ok-id.ensures.entry
    (ap (λ (n : ℕ). nat_lt 0 n || is_id_in c.args.named.now c.in_ok-id.id.now) holds ∙ sym c.is_needed.ensures ∙ c.if-is_needed.true)

pub returns-else-is_needed : goal.returns-else-is_needed
returns-else-is_needed c =
    let rows = c.args.self.now.objects.entries in
    let holds : held-by rows c.in_ok-id.id.now ≡ c.in_ok-id.instance.now.holds = ap (λ (o : Option Remote). unwrap_or (option_map (λ (x : Remote). x.holds) o) 0) c.in_ok-id.ensures.value in
    pick (held-by rows) (is_id_in c.args.named.now) rows c.args.index c.in_ok-id.id.now c.in_ok-id.instance.now _ c.in_ok-id.ensures.entry
    (ap (λ (n : ℕ). nat_lt 0 n || is_id_in c.args.named.now c.in_ok-id.id.now) holds ∙ sym c.is_needed.ensures ∙ c.if-is_needed.false)
