use Rattle.std.proofs.Common.{◌≡◌, ℕ, ◌+◌, Bool, true, false, cond, Option, None, Some, sym, ap, ◌∙◌, arith}
use Rattle.std.specs.Map.{lookup}
use Rattle.indexmap.specs.IndexMap.{insert_entry}
use Rattle.indexmap.proofs.CallerLemmas.{insert_entry-new}
use Rattle.space_ids.specs.declared.ids.ObjId.{ObjId}
use Rattle.sp_rules.specs.References.{is_id}
use Rattle.sp_store.specs.Instances.{Remote}
use Rattle.sp_store.specs.Stores.{is_full_after, next_after}
use Rattle.sp_store.proofs.StoreLemmas.{holds-new, stored-made}
use Rattle.sp_store.proofs.store.Store.create_reserved.Goals as goal

pub returns-then-is_full-clause-id : goal.returns-then-is_full-clause-id
returns-then-is_full-clause-id c = λ g h after.
    let full : is_full_after h ≡ true = sym (c.is_full.ensures g h after) ∙ c.if-is_full.true in
    sym (ap (λ (t : Bool). cond t None (Some (next_after h))) full)

pub returns-clause-id : goal.returns-clause-id
returns-clause-id c = λ g h after.
    let room : is_full_after h ≡ false = sym (c.is_full.ensures g h after) ∙ c.if-is_full.false in
    let next : ℕ → Option ObjId = λ n. Some (record { 0 = n + 1 }) in
    ap next after.stored.made_is ∙ sym (ap (λ (t : Bool). cond t None (Some (next_after h))) room)

pub returns-clause-made : goal.returns-clause-made
returns-clause-made c = λ g h after blank.
    let m = c.args.self.now.objects in
    let id : ObjId = record { 0 = c.args.self.now.last.0 + 1 } in
    let x : Remote = record { class = c.args.class; fields = c.args.fields.items; holds = 0 } in
    record {
      own = after.own;
      stored = stored-made g h c.args.self.now.last.0 m.entries _ id x (omega arith) blank
          (c.in-Ok.ensures.entries ∙ ap (λ (v : Remote). insert_entry is_id m.entries id v) c.new.ensures ∙ insert_entry-new is_id m id x (after.stored.below id (omega arith)))
          (λ q. c.in-Ok.ensures.updates.0 q ∙ ap (λ (v : Remote). cond (is_id id q) (Some v) (lookup (is_id q) m.entries)) c.new.ensures) after.stored;
    }

pub returns-clause-holds : goal.returns-clause-holds
returns-clause-holds c = λ g h other after.
    let m = c.args.self.now.objects in
    let id : ObjId = record { 0 = c.args.self.now.last.0 + 1 } in
    holds-new m.entries _ id c.new.result (after.stored.below id (omega arith)) (ap (λ (o : Remote). o.holds) c.new.ensures) (λ q. c.in-Ok.ensures.updates.0 q) other
