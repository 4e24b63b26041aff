use Rattle.cls_set.proofs.Descends.{first_pushed}
use Rattle.cls_set.proofs.descending.Trees.start.Goals as goal

pub returns : goal.returns
returns c =
    record {
      empty = first_pushed c.new-nodes.result.items c.push.new.self.items _ c.new-nodes.ensures.items c.in_ok-push.ensures.items;
      nothing = c.nothing.result;
      first = first_pushed c.new-known.result.items c.push-2.new.self.items _ c.new-known.ensures.items c.in_ok-push-2.ensures.items;
      none = λ low home f. (c.nothing.ensures low home).0 f;
    }
