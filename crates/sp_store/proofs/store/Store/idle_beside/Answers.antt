use Rattle.std.proofs.Common.{◌≡◌, ◌∷◌, ◌++◌, [], List, Bool, filter, length, take, sym, ap, ◌∙◌, rules, arith}
use Rattle.std.specs.Prelude.{nat_lt, not, ◌||◌, ◌<◌, Some, None}
use Rattle.std.proofs.lemmas.List.{append-nil, length-map}
use Rattle.indexmap.specs.IndexMap.{keys}
use Rattle.space_ids.specs.declared.ids.ObjId.{ObjId}
use Rattle.sp_rules.specs.References.{is_id_in}
use Rattle.sp_store.specs.Instances.{Remote}
use Rattle.sp_store.specs.Stores.{holds_of}
use Rattle.sp_store.proofs.StoreLemmas.{idle-more}
use Rattle.sp_store.proofs.store.Store.idle_beside.Goals as goal
use Rattle.sp_store.proofs.store.Store.idle_beside.Goals.{in-Some+in_ok-push-in-Some, in-None}

pub loop-index-preserved : goal.loop-index-preserved
loop-index-preserved c =
    let q : ObjId → Bool = λ id. nat_lt 0 (holds_of c.args.self.now id) || is_id_in c.args.named.now id in
    let ks : List ObjId = keys c.args.self.now.objects in
    let within : c.loop-index.index < length ks = omega (arith, c.len-index-end.ensures.len, c.loop-index-test.true, length-map c.args.self.now.objects.entries (λ (e : ObjId × Remote). e.0)) in
    let so-far : c.loop-index.ids.items ≡ filter (λ id. not (q id)) (take c.loop-index.index ks) = c.loop-index.invariant in
    elim c.match-idle_at.branch [
      | in-Some+in_ok-push-in-Some w ↦
          let pushed : w.push.new.self.items ≡ c.loop-index.ids.items ++ w.in-Some.id ∷ [] = search (rules, w.in_ok-push-in-Some.ensures) in
          rw w.ids-is (pushed ∙ ap (λ (ids : List ObjId). ids ++ w.in-Some.id ∷ []) so-far
          ∙ sym (idle-more q ks c.loop-index.index (Some w.in-Some.id) within w.in-Some.ensures))
      | in-None w ↦
          rw w.ids-is (so-far
          ∙ sym (idle-more q ks c.loop-index.index None within w.in-None.ensures ∙ append-nil (filter (λ id. not (q id)) (take c.loop-index.index ks))))
    ]
