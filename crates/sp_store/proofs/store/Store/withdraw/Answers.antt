use Rattle.std.proofs.Common.{◌≡◌, List, cond, filter, length, rules, sym, ap, subst, ◌∙◌}
use Rattle.std.specs.Prelude.{not}
use Rattle.std.proofs.lemmas.Bool.{eqb-true, eqb-false}
use Rattle.indexmap.proofs.CallerLemmas.{filter-RetainsPairs}
use Rattle.space_ids.specs.declared.ids.ObjId.{ObjId}
use Rattle.sp_rules.specs.References.{is_id_in}
use Rattle.sp_rules.specs.State.{Stored}
use Rattle.sp_store.specs.Instances.{Remote}
use Rattle.sp_store.specs.Stores.{IsAfter, holds_of}
use Rattle.sp_store.proofs.StoreLemmas.{holds-gone, none-in, stored-gone, swept-none, swept-some}
use Rattle.sp_store.proofs.store.Store.withdraw.Goals as goal

pub returns-clause-ok : goal.returns-clause-ok
returns-clause-ok c = λ g h after.
    let rows : List (ObjId × Remote) = c.args.self.now.objects.entries in
    let filtered : c.retain.new.self.entries ≡ filter (λ (e : ObjId × Remote). not (is_id_in c.in_ok-gone.gone e.0)) rows =
    filter-RetainsPairs _ _ _ (λ k v b w g call. search rules) _ _ c.retain.ensures.filtered in
    subst (λ (h : List Stored). IsAfter g h (record c.args.self.now { objects = c.retain.new.self })) (sym (swept-some c.args.ids.now h (eqb-false (length c.args.ids.now) 0 (sym c.is_empty.ensures ∙ c.if-is_empty.false)))) (record {
      own = after.own;
      stored = stored-gone g h c.args.self.now.last.0 rows _ c.args.ids.now
          (filtered ∙ (λ j. filter (λ (e : ObjId × Remote). not (c.in_ok-gone.ensures e.0 j)) rows)) after.stored;
    })

pub returns-clause-holds : goal.returns-clause-holds
returns-clause-holds c = λ id.
    let rows : List (ObjId × Remote) = c.args.self.now.objects.entries in
    let filtered : c.retain.new.self.entries ≡ filter (λ (e : ObjId × Remote). not (is_id_in c.in_ok-gone.gone e.0)) rows =
    filter-RetainsPairs _ _ _ (λ k v b w g call. search rules) _ _ c.retain.ensures.filtered in
    holds-gone rows _ c.args.ids.now (filtered ∙ (λ j. filter (λ (e : ObjId × Remote). not (c.in_ok-gone.ensures e.0 j)) rows)) id

pub returns-then-is_empty-clause-ok : goal.returns-then-is_empty-clause-ok
returns-then-is_empty-clause-ok c = λ g h after.
    subst (λ (h : List Stored). IsAfter g h c.args.self.now) (sym (swept-none c.args.ids.now h (eqb-true (length c.args.ids.now) 0 (sym c.is_empty.ensures ∙ c.if-is_empty.true)))) after

pub returns-then-is_empty-clause-holds : goal.returns-then-is_empty-clause-holds
returns-then-is_empty-clause-holds c = λ id.
    sym (ap (λ t. cond t 0 (holds_of c.args.self.now id)) (none-in c.args.ids.now id (eqb-true (length c.args.ids.now) 0 (sym c.is_empty.ensures ∙ c.if-is_empty.true))))
