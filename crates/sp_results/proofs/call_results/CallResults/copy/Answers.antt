use Rattle.std.proofs.Common.{◌≡◌, ℕ, ◌+◌, List, sym, subst, rules}
use Rattle.std.proofs.lemmas.List.Elements.{same_from_all_zip}
use Rattle.sp_results.specs.Ended.{AreFrom, AreUntil}
use Rattle.sp_results.specs.Held.{orphans_in}
use Rattle.sp_results.specs.Numbers.{HaveSame}
use Rattle.sp_results.specs.declared.orphans.Orphan.{Orphan}
use Rattle.sp_results.proofs.call_results.CallResults.copy.Goals as goal

pub returns : goal.returns
returns c =
    let queue : c.in_ok-clone.field-0.queue.items ≡ c.args.self.now.orphans.queue.items = search (rules, same_from_all_zip) in record {
      copied = λ moment results was.
          let t = was.ticketed in record {
            rows = was.rows;
            are = was.are;
            ticketed = record {
              values = c.in_ok-copy.ensures.copied (λ value copy same. same) _ t.values;
              waiting = c.in_ok-copy-2.ensures _ t.waiting;
              ended = subst (λ (os : List Orphan). HaveSame os (orphans_in was.rows)) (sym queue) t.ended;
              in_order = subst (λ (os : List Orphan). AreFrom 0 os) (sym queue) t.in_order;
              within = subst (λ (os : List Orphan). AreUntil (moment + 600000) os) (sym queue) t.within;
              given = t.given;
            };
          };
    }
