use Rattle.std.proofs.Common.{arith, ℕ, sym, subst, ◌∙◌, map}
use Rattle.sp_results.specs.Held.{AreCallResults}
use Rattle.sp_results.proofs.RootLemmas.{roots-orphaned}
use Rattle.sp_rules.specs.Endings.{orphan}
use Rattle.sp_living.proofs.TableLemmas.{results-changed}
use Rattle.sp_living.proofs.living.Living.orphan_results.Goals as goal

pub returns-clause-orphaned : goal.returns-clause-orphaned
returns-clause-orphaned c = λ g s a.
    let conn = c.args.conn in
    let before : AreCallResults c.args.self.now.moment s.results c.args.self.now.call_results = subst (λ (m : ℕ). AreCallResults m s.results c.args.self.now.call_results) (sym a.moment.same) a.results.of_calls in
    let after = c.end_reserved.ensures s.results (c.reserve_end.ensures.same c.args.self.now.moment s.results before) in
    results-changed g s c.args.self.now (map (orphan conn s.moment) s.results) c.end_reserved.new.self a (record {
      of_own = a.results.of_own ∙ sym (roots-orphaned conn s.moment s.results);
      of_calls = subst (λ (m : ℕ). AreCallResults m (map (orphan conn m) s.results) c.end_reserved.new.self) a.moment.same after;
    })

pub returns-then-self-ge-END_OF_TIME-clause-orphaned : goal.returns-then-self-ge-END_OF_TIME-clause-orphaned
returns-then-self-ge-END_OF_TIME-clause-orphaned c = λ g s a. let same = a.moment.same in let fits = a.moment.fits in absurd (omega arith)
