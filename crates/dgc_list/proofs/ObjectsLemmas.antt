use Rattle.std.proofs.Common.{◌≡◌, ℕ, Bool, true, false, cond, List, [], Option, None, Some, is_some, IsSome, refl, sym, ap, subst, ◌∙◌}
use Rattle.std.specs.Prelude.{unwrap_or}
use Rattle.std.specs.Map.{lookup}
use Rattle.std.proofs.lemmas.Bool.{eqb-true, eq-eqb}
use Rattle.space_ids.specs.declared.ids.ObjId.{ObjId}
use Rattle.dgc_list.specs.declared.remembered.Remembered.{Remembered}
use Rattle.dgc_list.specs.Clients.{IsSame}
use Rattle.dgc_list.specs.Objects.{is_same, clients_at}

-- ids that are the same are one
pub same-object : (a b : ObjId) → is_same a b ≡ true → a ≡ b
same-object a b h = let p = eqb-true a.0 b.0 h in λ i. record { 0 = p i }

pub is_same-refl : (a : ObjId) → is_same a a ≡ true
is_same-refl a = eq-eqb a.0 a.0 refl

pub some-is : {X : Type 0} (v : X) (x : Option X) → Some v ≡ x → IsSome x
some-is v x h = subst (λ o. IsSome o) h refl

pub found-at : (objects : List (ObjId × List (List ℕ × Remembered))) (object : ObjId) (clients : List (List ℕ × Remembered))
    → Some clients ≡ lookup (is_same object) objects → clients_at objects object ≡ clients
found-at objects object clients h = ap (λ o. unwrap_or o []) (sym h)

pub none-at : (objects : List (ObjId × List (List ℕ × Remembered))) (object : ObjId)
    → lookup (is_same object) objects ≡ None → clients_at objects object ≡ []
none-at objects object h = ap (λ o. unwrap_or o []) h

or-none : (t : Bool) (w : List (List ℕ × Remembered)) (x : Option (List (List ℕ × Remembered))) → unwrap_or (cond t (Some w) x) [] ≡ cond t w (unwrap_or x [])
or-none true w x = refl
or-none false w x = refl

-- a change of one object's clients
pub clients-changed : (object : ObjId) (w : List (List ℕ × Remembered)) (old new : List (ObjId × List (List ℕ × Remembered)))
    → ((q : ObjId) → lookup (is_same q) new ≡ cond (is_same object q) (Some w) (lookup (is_same q) old))
    → (q : ObjId) → clients_at new q ≡ cond (is_same object q) w (clients_at old q)
clients-changed object w old new at q = ap (λ o. unwrap_or o []) (at q) ∙ or-none (is_same object q) w (lookup (is_same q) old)

pub changed-here : (object : ObjId) (w : List (List ℕ × Remembered)) (old new : List (ObjId × List (List ℕ × Remembered)))
    → ((q : ObjId) → lookup (is_same q) new ≡ cond (is_same object q) (Some w) (lookup (is_same q) old)) → clients_at new object ≡ w
changed-here object w old new at = clients-changed object w old new at object ∙ ap (λ t. cond t w (clients_at old object)) (is_same-refl object)

pub changed-other : (object : ObjId) (w : List (List ℕ × Remembered)) (old new : List (ObjId × List (List ℕ × Remembered)))
    → ((q : ObjId) → lookup (is_same q) new ≡ cond (is_same object q) (Some w) (lookup (is_same q) old))
    → (q : ObjId) → is_same object q ≡ false → clients_at new q ≡ clients_at old q
changed-other object w old new at q apart = clients-changed object w old new at q ∙ ap (λ t. cond t w (clients_at old q)) apart

pub same-refl : (es : List (List ℕ × Remembered)) → IsSame es es
same-refl es = record { remembered = λ _. refl; leased = refl; known = λ _ h. h }

pub same-trans : (a b c : List (List ℕ × Remembered)) → IsSame a b → IsSame b c → IsSame a c
same-trans a b c f g = record {
  remembered = λ q. g.remembered q ∙ f.remembered q;
  leased = g.leased ∙ f.leased;
  known = λ q h. g.known q (f.known q h);
}

pub same-along : (a b : List (List ℕ × Remembered)) → b ≡ a → IsSame a b
same-along a b h = subst (λ (es : List (List ℕ × Remembered)). IsSame a es) (sym h) (same-refl a)

-- if the changed object's clients stay the same, those of each object do
pub same-changed : (object : ObjId) (w : List (List ℕ × Remembered)) (old new : List (ObjId × List (List ℕ × Remembered)))
    → ((q : ObjId) → lookup (is_same q) new ≡ cond (is_same object q) (Some w) (lookup (is_same q) old))
    → IsSame (clients_at old object) w → (q : ObjId) → IsSame (clients_at old q) (clients_at new q)
same-changed object w old new at same q =
    elim (is_same object q) as (λ t. is_same object q ≡ t → IsSame (clients_at old q) (clients_at new q)) [
      | true ↦ λ here. subst (λ (o : ObjId). IsSame (clients_at old o) (clients_at new o)) (same-object object q here)
          (same-trans (clients_at old object) w (clients_at new object) same (same-along w (clients_at new object) (changed-here object w old new at)))
      | false ↦ λ apart. same-along (clients_at old q) (clients_at new q) (changed-other object w old new at q apart)
    ] refl

-- an object that gets room has no clients
pub clients-added : (object : ObjId) (old new : List (ObjId × List (List ℕ × Remembered))) → is_some (lookup (is_same object) old) ≡ false
    → ((q : ObjId) → lookup (is_same q) new ≡ cond (is_same object q) (Some []) (lookup (is_same q) old))
    → (q : ObjId) → clients_at new q ≡ clients_at old q
clients-added object old new absent at q =
    elim (is_same object q) as (λ t. is_same object q ≡ t → clients_at new q ≡ clients_at old q) [
      | true ↦ λ here. subst (λ (o : ObjId). clients_at new o ≡ clients_at old o) (same-object object q here)
          (changed-here object [] old new at ∙ sym (none-at old object (none-from (lookup (is_same object) old) absent)))
      | false ↦ changed-other object [] old new at q
    ] refl
  where
    none-from : (x : Option (List (List ℕ × Remembered))) → is_some x ≡ false → x ≡ None
    none-from None h = refl
    none-from (Some v) h = cc
