use Rattle.std.proofs.Common.{◌+◌, ap, refl}
use Rattle.dgc_list.proofs.ListLemmas.{after-dirty}
use Rattle.dgc_list.proofs.list.RefList.dirty_reserved.Goals as goal

pub returns-clause-told : goal.returns-clause-told
returns-clause-told c = λ h after.
    after-dirty h c.args.self.now _ c.args.client.now c.args.objects.now c.args.number c.args.period _
    (ap (λ granted. c.args.self.now.moment + granted) c.min-granted.ensures) refl c.tell_dirty.ensures.told c.tell_dirty.ensures.covered after
