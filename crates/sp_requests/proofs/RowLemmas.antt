-- The rows of peers in a table: what a change of one row leaves of the others.
use Rattle.std.proofs.Common.{◌≡◌, ℕ, zero, suc, ◌+◌, ◌<◌, ◌≤◌, Bool, true, false, cond, List, [], ◌∷◌, length, get_or, slice_get, position, Option, None, Some, is_some, refl, sym, ap, subst, ◌∙◌, true≢false, arith}
use Rattle.std.specs.Prelude.{Result, Ok, Err, OnOk}
use Rattle.std.specs.Cmp.{IsEquivalence}
use Rattle.std.specs.Map.{keys_of, lookup, values_of}
use Rattle.std.specs.Str.{bytes_eq}
use Rattle.std.proofs.lemmas.List.Quantifiers.{position-Some}
use Rattle.indexmap.specs.IndexMap.{IsUnique, with_value_at}
use Rattle.indexmap.proofs.CallerLemmas.{updates-with_value_at}
use Rattle.uuid.specs.declared.Uuid.{Uuid}
use Rattle.sp_rules.proofs.LineLemmas.{one-peer, other-way, same-peer}
use Rattle.sp_requests.specs.declared.requests.Requests.{Requests}
use Rattle.sp_requests.specs.declared.peers.Peers.{Peers}
use Rattle.sp_requests.specs.AllAsked.{HasRoom, IsRoom, row_of}

-- ---- peers

pub peer-laws : IsEquivalence bytes_eq
peer-laws = record { refl = same-peer; symm = both; congr = λ x y z e. ap (λ (p : Uuid). bytes_eq p z) (one-peer x y e) }
  where
    both : (x y : List ℕ) → bytes_eq x y ≡ bytes_eq y x
    both x y = pick (bytes_eq x y) refl
      where
        pick : (b : Bool) → bytes_eq x y ≡ b → b ≡ bytes_eq y x
        pick true e = sym (subst (λ (p : Uuid). bytes_eq p x ≡ true) (one-peer x y e) (same-peer x))
        pick false e = sym (other-way x y e)

-- ---- rows by index

entry-here : (r : Uuid) (es : List (Uuid × Requests)) (i : ℕ) (v : Requests) → i < length (keys_of es) → r ≡ get_or (keys_of es) i r → slice_get (values_of es) i ≡ Some v → slice_get es i ≡ Some (r, v)
entry-here r [] i v within key value = absurd (omega arith)
entry-here r (e ∷ es) zero v within key value = let mine : e.1 ≡ v = cc in λ j. Some (sym key j, mine j)
entry-here r (e ∷ es) (suc i) v within key value = entry-here r es i v (omega arith) key value

-- what stands at the index of a peer
entry-at : (r : Uuid) (es : List (Uuid × Requests)) (i : ℕ) (v : Requests) → position (bytes_eq r) (keys_of es) ≡ Some i → slice_get (values_of es) i ≡ Some v → slice_get es i ≡ Some (r, v)
entry-at r es i v index value =
    let at = position-Some (bytes_eq r) (keys_of es) i r index in entry-here r es i v at.0 (one-peer r (get_or (keys_of es) i r) at.1) value

pub none-from : (o : Option Requests) → false ≡ is_some o → o ≡ None
none-from None h = refl
none-from (Some x) h = absurd (true≢false (sym h))

-- ---- one row changes

-- The row of one peer becomes this one, and no other changes.
pub record IsChange (old new : Peers) (peer : Uuid) (row : Option Requests) : Type 0 where
  pub updates : (q : Uuid) → row_of q new ≡ cond (bytes_eq peer q) row (row_of q old)

-- the row at the index of a peer changes
pub changed-at : (old : Peers) (peer : Uuid) (i : ℕ) (x y : Requests) → IsUnique bytes_eq old.rows → position (bytes_eq peer) (keys_of old.rows.entries) ≡ Some i → slice_get (values_of old.rows.entries) i ≡ Some x
    → IsChange old (record old { rows = with_value_at old.rows i y }) peer (Some y)
changed-at old peer i x y unique index value = record {
  updates = λ q. (updates-with_value_at old.rows i y peer-laws unique peer x (entry-at peer old.rows.entries i x index value)).0 q;
}

pub row-now : {old new : Peers} {peer : Uuid} {row : Option Requests} → IsChange old new peer row → row_of peer new ≡ row
row-now {old} {new} {peer} {row} step = step.updates peer ∙ ap (λ b. cond b row (row_of peer old)) (same-peer peer)

pub other-row : {old new : Peers} {peer : Uuid} {row : Option Requests} → IsChange old new peer row → (q : Uuid) → bytes_eq peer q ≡ false → row_of q new ≡ row_of q old
other-row {old} {new} {peer} {row} step q apart = step.updates q ∙ ap (λ b. cond b row (row_of q old)) apart

-- a row that is let go is there no more
pub gone-now : (peer : Uuid) (old new : List (Uuid × Requests)) → ((q : Uuid) → lookup (bytes_eq q) new ≡ cond (bytes_eq peer q) None (lookup (bytes_eq q) old)) → lookup (bytes_eq peer) new ≡ None
gone-now peer old new updates = updates peer ∙ ap (λ b. cond b None (lookup (bytes_eq peer) old)) (same-peer peer)

-- ---- room

-- the room in a row that changes
pub room-then : {old new : Peers} {peer : Uuid} {x y : Requests} (w c g u d h : ℕ) → IsChange old new peer (Some y) → row_of peer old ≡ Some x → (IsRoom (Some x) w c g → IsRoom (Some y) u d h) → HasRoom peer w c g old → HasRoom peer u d h new
room-then {old} {new} {peer} {x} {y} w c g u d h step found then room =
    subst (λ (o : Option Requests). IsRoom o u d h) (sym (row-now step)) (then (subst (λ (o : Option Requests). IsRoom o w c g) found room))

-- the room in any row, if one is put in
pub room-put : (peer q : Uuid) (y : Requests) (rows : Uuid → Option Requests) (now : Option Requests) (w c g : ℕ) → now ≡ cond (bytes_eq peer q) (Some y) (rows q) → (IsRoom (rows peer) w c g → IsRoom (Some y) w c g) → IsRoom (rows q) w c g → IsRoom now w c g
room-put peer q y rows now w c g update then room = subst (λ (o : Option Requests). IsRoom o w c g) (sym update) (pick (bytes_eq peer q) refl)
  where
    pick : (b : Bool) → bytes_eq peer q ≡ b → IsRoom (cond b (Some y) (rows q)) w c g
    pick true e = then (subst (λ (p : Uuid). IsRoom (rows p) w c g) (sym (one-peer peer q e)) room)
    pick false e = room

-- of any peer, if one row has no less
pub room-any : {old new : Peers} {peer : Uuid} {y : Requests} (q : Uuid) (w c g : ℕ) → IsChange old new peer (Some y) → (IsRoom (row_of peer old) w c g → IsRoom (Some y) w c g) → HasRoom q w c g old → HasRoom q w c g new
room-any {old} {new} {peer} {y} q w c g step then room = room-put peer q y (λ p. row_of p old) (row_of q new) w c g (step.updates q) then room

pub le-same : (w a b : ℕ) → w ≤ a → b ≡ a → w ≤ b
le-same w a b h e = omega (arith, h, e)

pub le-more : (w a b : ℕ) → w ≤ a → a ≤ b → w ≤ b
le-more w a b h e = omega (arith, h, e)

pub le-less : (w a b : ℕ) → w + 1 ≤ a → a ≤ b + 1 → w ≤ b
le-less w a b h e = omega (arith, h, e)

pub on-ok : {A E : Type 0} (r : Result A E) (P Q R S : Type 0) → (P → Q → R → S) → OnOk r P → OnOk r Q → OnOk r R → OnOk r S
on-ok (Ok x) P Q R S all p q r = all p q r
on-ok (Err e) P Q R S all p q r = p
