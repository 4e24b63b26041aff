use Rattle.std.proofs.Common.{add-one, arith}
use Rattle.sp_words.proofs.Spelled.{all_words, no_values, of_none, of_some, one_more}
use Rattle.sp_words.proofs.words.values_of.Goals as goal

pub returns-in-None : goal.returns-in-None
returns-in-None c = no_values c.args.words.now c.loop-word.word-index _ (omega (arith, c.loop-word-test.true, c.loop-word.auto.word-index-end)) (of_none _ _ _ c.in-None.is c.in_ok-value.ensures)

pub loop-word-preserved : goal.loop-word-preserved
loop-word-preserved c =
    rw (add-one c.loop-word.word-index, (c.in_ok-push-in-Some.ensures).items)
    (one_more c.args.words.now c.loop-word.word-index _ c.loop-word.values.items c.in-Some.value
    (omega (arith, c.loop-word-test.true, c.loop-word.auto.word-index-end)) c.loop-word.invariant (of_some _ _ _ _ c.in-Some.is c.in_ok-value.ensures))

pub returns : goal.returns
returns c = all_words c.args.words.now c.loop-word.word-index c.loop-word.values.items (omega (arith, c.loop-word-test.false, c.loop-word.auto.word-index-end)) c.loop-word.invariant
