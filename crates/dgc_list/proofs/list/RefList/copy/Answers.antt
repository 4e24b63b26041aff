use Rattle.std.proofs.Common.{◌≡◌, List, ℕ, sym, ap, subst, ◌∙◌, rules}
use Rattle.std.proofs.lemmas.List.Elements.{same_from_all_zip}
use Rattle.space_ids.specs.declared.ids.ObjId.{ObjId}
use Rattle.dgc_list.specs.declared.expiries.Expiry.{Expiry}
use Rattle.dgc_list.specs.declared.remembered.Remembered.{Remembered}
use Rattle.dgc_list.specs.Clients.{leased}
use Rattle.dgc_list.specs.Objects.{IsCovered}
use Rattle.dgc_list.specs.Objects.{clients_at, remembered_at}
use Rattle.dgc_list.proofs.list.RefList.copy.Goals as goal

pub returns : goal.returns
returns c =
    let old = c.args.self.now in
    let objects : c.in_ok-copy.field-0 ≡ old.objects = c.in_ok-copy.ensures in
    let expiries : c.in_ok-clone.field-0 ≡ old.expiries = search (rules, same_from_all_zip) in
    record {
      copied = λ h was. record {
        moment = was.moment;
        remembered = λ client object. ap (λ (all : List (ObjId × List (List ℕ × Remembered))). remembered_at all object client) objects ∙ was.remembered client object;
        clients = λ object. ap (λ (all : List (ObjId × List (List ℕ × Remembered))). leased (clients_at all object)) objects ∙ was.clients object;
        covered =
            subst (λ (all : List (ObjId × List (List ℕ × Remembered))). IsCovered all c.in_ok-clone.field-0) (sym objects)
            (subst (λ (row : List Expiry). IsCovered old.objects row) (sym expiries) was.covered);
      };
    }
