use Rattle.std.proofs.Common.{[], sym}
use Rattle.cls_search.specs.Searches.Finds.{here}
use Rattle.cls_search.proofs.fields.find_field.Goals as goal

pub returns-in-Some-clause-found : goal.returns-in-Some-clause-found
returns-in-Some-clause-found c = here c.args.class [] c.in-Some.field (sym c.in-Some.ensures.found)
