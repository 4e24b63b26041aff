use Rattle.std.proofs.Common.{◌≡◌, ◌++◌, ◌∷◌, [], Some, sym, ap, cond, ◌∙◌, nat_eq}
use Rattle.std.specs.Map.{lookup}
use Rattle.std.specs.Cmp.{nat_eq_equiv}
use Rattle.indexmap.proofs.CallerLemmas.{updates-with_value_at}
use Rattle.sp_results.specs.declared.unacknowledged.Numbers.{Numbers}
use Rattle.sp_results.proofs.NumberLemmas.{Pairs, changed, distinct-more, entry-at, lookup-more, there}
use Rattle.sp_results.proofs.unacknowledged.Unacknowledged.add_reserved.Goals as goal

pub returns : goal.returns
returns c = record {
  added = λ holds a none.
      let m = c.args.self.now.numbers in
      let x = c.index_mut.result.now in
      let r = c.args.conn in
      let y : Numbers = record { tickets = c.insert.new.self } in
      let found : lookup (nat_eq r) m.entries ≡ Some x = sym c.in-Some.ensures.value ∙ c.index_mut.ensures.value in
      let entry = entry-at r m.entries c.in-Some.index x (sym c.in-Some.ensures.index) c.index_mut.ensures.value in
      let fits = there holds c.args.self.now r x found a in
      changed (λ (l : Pairs). l ++ (c.args.number, c.args.ticket) ∷ []) holds c.args.self.now _ r y (λ q. (updates-with_value_at m c.in-Some.index y nat_eq_equiv c.in-Some.ensures.unique r x entry).0 q)
      (λ q. c.in-Ok.ensures.updates.0 q ∙ ap (λ o. cond (nat_eq c.args.number q) (Some c.args.ticket) o) (fits q) ∙ sym (lookup-more c.args.number c.args.ticket q (holds r) none))
      (distinct-more c.args.number c.args.ticket (holds r) none (a.once r)) a;
}
