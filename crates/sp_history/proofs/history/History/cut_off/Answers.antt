use Rattle.std.proofs.Common.{rules, arith, ◌≡◌, ◌+◌, ◌++◌, [], map, sym, subst}
use Rattle.sp_history.specs.Entries.{numbered_entry, outputs_in_all}
use Rattle.sp_history.specs.Logs.{IsKept, Log, start_of, state_in}
use Rattle.sp_history.proofs.CutLemmas.{counted_there, cut_there, room_after, stands_there, starts_there, waits_there}
use Rattle.sp_history.proofs.history.History.cut_off.Goals as goal

pub invariant_of-self : goal.invariant_of-self
invariant_of-self g c =
    let n = g.N.Setup.setting in
    let cut = c.self.inside.past.value in
    let h = c.self.inside.entries.items in
    let w = outputs_in_all c.self.inside.waiting.items in
    let all = c.of-past.result.value in
    let there = c.of-before.result.value in
    let grown : all ≡ cut ++ map numbered_entry h = search rules in
    let waited : there ≡ w = search rules in
    let none : c.replace-entries.new.dest.items ≡ [] = search rules in
    let based = subst (λ (l : Log). g.S.Lender.is_base n (state_in n l) c.args.base) (sym c.self.view_is) c.requires.base in
    let count = counted_there cut all h grown in (
      stands_there (λ t. g.S.Lender.is_space n t c.self.inside.space) n cut all h c.replace-entries.new.dest.items grown none c.self.invariant.0,
      waits_there n (start_of n all) there w c.replace-entries.new.dest.items waited none,
      search rules,
      search rules,
      search rules,
      cut_there n cut all c.self.inside.before.value there w h grown waited c.self.invariant.5 c.self.invariant.1,
      subst (λ o. IsKept (g.S.Lender.is_base n) n all o) (sym c.replace-base.ensures.after) (starts_there (λ t. g.S.Lender.is_base n t c.args.base) n cut all h grown based),
      omega (arith, count, c.self.invariant.7, c.len.ensures, c.self.inside.entries.ok.0),
      room_after (c.self.inside.cut + c.len.result) c.self.inside.limit c.limit_after-limit.result c.limit_after-limit.ensures (omega (arith, c.self.invariant.2, c.self.invariant.8, c.len.ensures)),
    )
