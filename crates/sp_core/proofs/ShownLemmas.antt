-- What a core shows.
use Rattle.std.proofs.Common.{◌≡◌, ℕ, Bool, true, false, cond, nat_eq, List, [], ◌∷◌, Option, None, Some, refl, sym, ap, ◌∙◌, map}
use Rattle.std.specs.Prelude.{not, find, filter, length, ◌==◌, ◌||◌, option_map, unwrap_or}
use Rattle.std.specs.List.{IsDistinct, AllByRecursion, list_any}
use Rattle.std.specs.Cmp.{nat_eq_equiv}
use Rattle.std.specs.Map.{keys_of}
use Rattle.std.proofs.lemmas.Map.Keys.{IsDistinct-head, IsDistinct-tail}
use Rattle.dgc_list.specs.History.{clients_of}
use Rattle.space_ids.specs.declared.ids.ClassId.{ClassId}
use Rattle.space_ids.specs.declared.ids.ObjId.{ObjId}
use Rattle.sp_registry.specs.declared.registry.Binding.{Binding}
use Rattle.sp_rules.specs.Classes.{Setting}
use Rattle.sp_rules.specs.Laws.{AllOf}
use Rattle.sp_rules.specs.References.{is_id}
use Rattle.sp_rules.specs.State.{State, Living, Object}
use Rattle.sp_tasks.specs.Rows.{TaskRow, first_ready, is_ready, row_of}
use Rattle.sp_living.specs.Views.{Seen, seen, seen_row}
use Rattle.sp_owner.specs.Owners as owners
use Rattle.sp_core.specs.Cores.{IsCore, Lends}
use Rattle.sp_core.specs.Shown.{lowest_ready, shown}
use Rattle.sp_core.specs.declared.space_core.SpaceCore.{SpaceCore}

-- ---- the lowest task that is not lent

flag : Option TaskRow → Bool
flag o = unwrap_or (option_map (λ (row : TaskRow). row.lent) o) false

-- each row is found under its id
own-rows : (es : List (ℕ × TaskRow)) → IsDistinct nat_eq (keys_of es) → AllOf (λ (row : ℕ × TaskRow). row_of row.0 es ≡ Some row.1) es
own-rows [] distinct = tt
own-rows (e ∷ es) distinct = (
  ap (λ b. cond b (Some e.1) (row_of e.0 es)) (nat_eq_equiv.refl e.0),
  after es (IsDistinct-head nat_eq e.0 (keys_of es) distinct) (own-rows es (IsDistinct-tail nat_eq e.0 (keys_of es) distinct)),
)
  where
    after : (xs : List (ℕ × TaskRow)) → AllByRecursion (λ k. nat_eq e.0 k ≡ false) (keys_of xs) → AllOf (λ (row : ℕ × TaskRow). row_of row.0 es ≡ Some row.1) xs → AllOf (λ (row : ℕ × TaskRow). row_of row.0 (e ∷ es) ≡ Some row.1) xs
    after [] apart all = tt
    after (x ∷ xs) apart all = (ap (λ b. cond b (Some e.1) (row_of x.0 es)) (sym (nat_eq_equiv.symm e.0 x.0) ∙ apart.0) ∙ all.0, after xs apart.1 all.1)

abbrev free : List ℕ → Seen → Bool
free lent x = not (x.waits || list_any (◌==◌ x.id) lent)

rows-free : (lent : List ℕ) (es : List (ℕ × TaskRow)) → AllOf (λ (row : ℕ × TaskRow). list_any (◌==◌ row.0) lent ≡ row.1.lent) es
    → option_map (λ (x : Seen). x.id) (find (free lent) (map seen_row es)) ≡ first_ready es
rows-free lent [] all = refl
rows-free lent (e ∷ es) all =
    ap (λ b. option_map (λ (x : Seen). x.id) (cond (not (e.1.waits || b)) (Some (seen_row e)) (find (free lent) (map seen_row es)))) all.0
    ∙ elim (e.1.waits || e.1.lent) as (λ b. option_map (λ (x : Seen). x.id) (cond (not b) (Some (seen_row e)) (find (free lent) (map seen_row es))) ≡ option_map (λ (row : ℕ × TaskRow). row.0) (cond (not b) (Some e) (find (λ (row : ℕ × TaskRow). is_ready row.1) es))) [
      | true ↦ rows-free lent es all.1
      | false ↦ refl
    ]

tasks-free : (lent : List ℕ) (ts : List Living)
    → option_map (λ (x : Seen). x.id) (find (free lent) (map seen ts)) ≡ option_map (λ (t : Living). t.id) (find (λ (t : Living). not (t.waits || list_any (◌==◌ t.id) lent)) ts)
tasks-free lent [] = refl
tasks-free lent (t ∷ ts) =
    elim (t.waits || list_any (◌==◌ t.id) lent) as (λ b. option_map (λ (x : Seen). x.id) (cond (not b) (Some (seen t)) (find (free lent) (map seen ts))) ≡ option_map (λ (t : Living). t.id) (cond (not b) (Some t) (find (λ (t : Living). not (t.waits || list_any (◌==◌ t.id) lent)) ts))) [
      | true ↦ tasks-free lent ts
      | false ↦ refl
    ]

flags : (lent : List ℕ) (es xs : List (ℕ × TaskRow)) → ((id : ℕ) → list_any (◌==◌ id) lent ≡ flag (row_of id es)) → AllOf (λ (row : ℕ × TaskRow). row_of row.0 es ≡ Some row.1) xs → AllOf (λ (row : ℕ × TaskRow). list_any (◌==◌ row.0) lent ≡ row.1.lent) xs
unfolding flag
flags lent es [] lends all = tt
flags lent es (x ∷ xs) lends all = (lends x.0 ∙ ap flag all.0, flags lent es xs lends all.1)

pub ready-lowest : (g : Setting) (s : State) (core : SpaceCore) (lent : List ℕ) (r : Option ℕ) → r ≡ first_ready core.state.living.tasks.rows → IsDistinct nat_eq (keys_of core.state.living.tasks.rows) → IsCore g s core → Lends core lent
    → r ≡ lowest_ready lent s
unfolding flag
ready-lowest g s core lent r first distinct is lends =
    let es = core.state.living.tasks.rows in
    first ∙ sym (rows-free lent es (flags lent es es lends (own-rows es distinct)))
    ∙ ap (λ (xs : List Seen). option_map (λ (x : Seen). x.id) (find (free lent) xs)) is.state.living.tasks.rows ∙ tasks-free lent s.tasks

-- ---- objects

pub none-shown : (s : State) (o : Option Object) → None ≡ option_map owners.told o → None ≡ option_map (shown s) o
none-shown s None h = refl
none-shown s (Some x) h = cc

pub object-shown : (s : State) (o : Option Object) (id : ObjId) (class : ClassId) (names entries : ℕ) → (let p : ObjId × ClassId = (id, class) in Some p ≡ option_map owners.told o)
    → names ≡ length (filter (λ (b : Binding). is_id b.object id) s.owner.names) → entries ≡ length (clients_of s.owner.entries id)
    → Some (record { id = id; class = class; names = names; entries = entries }) ≡ option_map (shown s) o
object-shown s None id class names entries h n e = cc
object-shown s (Some x) id class names entries h n e =
    let same : (id, class) ≡ (x.id, x.class) = ap (λ (p : Option (ObjId × ClassId)). unwrap_or p (id, class)) h in
    (λ j. Some (record { id = id; class = class; names = n j; entries = e j }))
    ∙ (λ j. Some (record { id = (same j).0; class = (same j).1; names = length (filter (λ (b : Binding). is_id b.object (same j).0) s.owner.names); entries = length (clients_of s.owner.entries (same j).0) }))
