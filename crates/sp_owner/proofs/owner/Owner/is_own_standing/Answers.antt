use Rattle.std.proofs.Common.{◌≡◌, List, ℕ, sym, ap, ◌∙◌, true}
use Rattle.std.specs.Str.{bytes_eq}
use Rattle.sp_rules.specs.State.{object_at}
use Rattle.sp_owner.proofs.OwnerLemmas.{own-none, own-some}
use Rattle.sp_owner.proofs.owner.Owner.is_own_standing.Goals as goal

pub returns-in-Some : goal.returns-in-Some
returns-in-Some c = λ g s is.
    let r = c.args.reference.now in
    let own : bytes_eq r.space g.id ≡ true = ap (λ (id : List ℕ). bytes_eq r.space id) (sym is.id) ∙ sym c.eq.ensures ∙ c.if-eq.true in
    c.eq-in-Some.ensures ∙ own-some (bytes_eq r.space g.id) (object_at s r.id) c.in-Some.class r.class own (c.in-Some.ensures g s.store is.store)

pub returns-in-None : goal.returns-in-None
returns-in-None c = λ g s is.
    let r = c.args.reference.now in
    own-none (bytes_eq r.space g.id) (object_at s r.id) r.class (c.in-None.ensures g s.store is.store)
