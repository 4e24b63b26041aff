use Rattle.sp_parked.proofs.parked.Parked.copy.Goals as goal

pub returns-clause-copied : goal.returns-clause-copied
returns-clause-copied c = λ frames was. record {
  rows = c.in_ok-copy.ensures.copied (λ frame copy same. same) _ was.rows;
  named = c.in_ok-copy-2.ensures _ was.named;
  came = c.in_ok-copy-3.ensures _ was.came;
  given = was.given;
  counted = was.counted;
}
