use Rattle.std.proofs.Common.{Some, None}
use Rattle.cls_link.specs.Selections as selections
use Rattle.cls_link.proofs.ByNumber.{named}
use Rattle.cls_link.proofs.linked.Linked.select.Goals as goal

pub selected-requires-clause-set : goal.selected-requires-clause-set
selected-requires-clause-set c = c.declaration-resolved.ensures.links.set

pub returns-in-Some : goal.returns-in-Some
returns-in-Some c =
    record {
      method = c.declaration-resolved.result.now;
      declared = c.declaration-resolved.ensures.declared;
      found = Some c.in-Some.method;
      search = named c.args.self.now.classes c.args.class _ c.as_bytes-name.ensures c.as_bytes.ensures c.in-Some.ensures.found;
      selected = c.selection.ensures;
    }

pub returns-in-None : goal.returns-in-None
returns-in-None c =
    record {
      method = c.declaration-resolved.result.now;
      declared = c.declaration-resolved.ensures.declared;
      found = None;
      search = named c.args.self.now.classes c.args.class _ c.as_bytes-name.ensures c.as_bytes.ensures c.in-None.ensures.found;
      selected = selections.IsSelection.absent;
    }
