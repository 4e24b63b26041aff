use Rattle.std.proofs.Common.{refl}
use Rattle.dgc_list.proofs.ListLemmas.{after-clean}
use Rattle.dgc_list.proofs.list.RefList.clean_reserved.Goals as goal

pub returns : goal.returns
returns c = λ h after. after-clean h c.args.self.now _ c.args.client.now c.args.objects.now c.args.number c.args.strong refl
    c.tell_clean.ensures.told c.tell_clean.ensures.covered after
