use Rattle.std.proofs.lemmas.Result.{IfOk-weaker}
use Rattle.dgc_client.specs.declared.picked.Question.TheVariants.{Renewed}
use Rattle.dgc_client.proofs.TableLemmas.{picked}
use Rattle.dgc_client.proofs.table.Clients.renewals.Goals as goal

pub returns : goal.returns
returns c = IfOk-weaker c.picked.result _ _ (λ references is h was. picked (Renewed c.args.moment) h c.args.self.now references.items c.picked.ensures.distinct (is was.sound) was) c.picked.ensures.references
