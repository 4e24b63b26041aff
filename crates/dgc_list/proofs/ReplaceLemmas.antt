-- What is remembered of one client of one object is replaced, and the expiry of the entry before goes.
use Rattle.std.proofs.Common.{◌≡◌, ℕ, Bool, true, false, cond, ◌&&◌, ◌||◌, List, [], ◌∷◌, ◌++◌, Some, refl, sym, ap, subst, ◌∙◌, Contains, inl, inr}
use Rattle.std.specs.Prelude.{◌⊎◌}
use Rattle.std.specs.Str.{bytes_eq}
use Rattle.std.proofs.lemmas.Bool.{false≢true}
use Rattle.space_ids.specs.declared.ids.ObjId.{ObjId}
use Rattle.dgc_list.specs.declared.expiries.Expiry.{Expiry}
use Rattle.dgc_list.specs.declared.remembered.Remembered.{Remembered}
use Rattle.dgc_list.specs.Remembered.{after_dirty, is_late}
use Rattle.dgc_list.specs.Clients.{Sets}
use Rattle.dgc_list.specs.Objects.{is_same, clients_at, remembered_at, is_named, ArePlanned, IsCovered, Tells}
use Rattle.dgc_list.proofs.CallsLemmas.{same-client, bytes_eq-refl, named-push}
use Rattle.dgc_list.proofs.ObjectsLemmas.{same-object, is_same-refl}
use Rattle.dgc_list.proofs.MomentLemmas.{remembered-set}
use Rattle.dgc_list.proofs.RememberedLemmas.{dirty-keeps}

-- this client and object
both : (id o : ObjId) (client c : List ℕ) → (is_same id o && bytes_eq client c) ≡ true → (id ≡ o) × (client ≡ c)
both id o client c h = elim (is_same id o) as (λ t. is_same id o ≡ t → (t && bytes_eq client c) ≡ true → (id ≡ o) × (client ≡ c))
    [ true ↦ λ same k. (same-object id o same, same-client client c k) | false ↦ λ _ k. absurd (false≢true k) ] refl h

is-own : (id o : ObjId) (client c : List ℕ) → id ≡ o → client ≡ c → (is_same id o && bytes_eq client c) ≡ true
is-own id o client c same_id same_client = subst (λ (x : ObjId). (is_same id x && bytes_eq client c) ≡ true) same_id
    (subst (λ (y : List ℕ). (is_same id id && bytes_eq client y) ≡ true) same_client (rw (is_same-refl id) (bytes_eq-refl client)))

module _ (id : ObjId) (client : List ℕ) (r : Remembered) (now new : List (ObjId × List (List ℕ × Remembered))) (expiries left : List Expiry)
    (set : Sets client r (clients_at now id) (clients_at new id)) (others : (o : ObjId) → is_same id o ≡ false → clients_at new o ≡ clients_at now o)
    (keeps : (other : Expiry) → Contains expiries other → (id ≡ other.object → client ≡ other.client → r.expires ≡ Some other.moment) → Contains left other)
    (planned : (m : ℕ) → r.expires ≡ Some m → Contains expiries (record { moment = m; object = id; client = client })) where
  changed : (o : ObjId) (c : List ℕ) → remembered_at new o c ≡ cond (is_same id o && bytes_eq client c) r (remembered_at now o c)
  changed = remembered-set id client r now new set others

  own-base : (at : ℕ) → r.expires ≡ Some at → Contains left (record { moment = at; object = id; client = client })
  own-base at stands = keeps (record { moment = at; object = id; client = client }) (planned at stands) (λ _ _. stands)

  own-left : (o : ObjId) (c : List ℕ) (at : ℕ) → (id ≡ o) × (client ≡ c) → r.expires ≡ Some at → Contains left (record { moment = at; object = o; client = c })
  own-left o c at same stands =
      subst (λ (x : ObjId). Contains left (record { moment = at; object = x; client = c })) same.0
      (subst (λ (y : List ℕ). Contains left (record { moment = at; object = id; client = y })) same.1 (own-base at stands))

  -- each entry that stands then has its expiry among those left
  pub covered-replaced : IsCovered now expiries → IsCovered new left
  covered-replaced covered o c at stands =
      elim (is_same id o && bytes_eq client c) as (λ t. (is_same id o && bytes_eq client c) ≡ t → Contains left (record { moment = at; object = o; client = c })) [
        | true ↦ λ here. own-left o c at (both id o client c here)
            (ap (λ (x : Remembered). x.expires) (sym (changed o c ∙ ap (λ t. cond t r (remembered_at now o c)) here)) ∙ stands)
        | false ↦ λ apart. keeps (record { moment = at; object = o; client = c })
            (covered o c at (ap (λ (x : Remembered). x.expires) (sym (changed o c ∙ ap (λ t. cond t r (remembered_at now o c)) apart)) ∙ stands))
            (λ same_id same_client. absurd (false≢true (sym apart ∙ is-own id o client c same_id same_client)))
      ] refl

-- if a dirty call sets an entry until the moment of the entry before, the moment stays
pub dirty-same : (n e : ℕ) (r : Remembered) → r.expires ≡ Some e → (after_dirty n e r).expires ≡ Some e
dirty-same n e r stands =
    elim (is_late r n) as (λ t. (cond t r (record { number = Some n; strong = r.strong; expires = Some e })).expires ≡ Some e) [ true ↦ stands | false ↦ refl ]

-- what a late call finds again
late-again : (n e : ℕ) (r : Remembered) (named : Bool) → is_late r n ≡ true → cond named (after_dirty n e r) r ≡ r
late-again n e r true late = rw late refl
late-again n e r false late = refl

-- an entry that a dirty call leaves stood before it, or the call is not late and sets it until its own moment
pub dirty-stands : (n e : ℕ) (first now : Remembered) (named : Bool) → now ≡ cond named (after_dirty n e first) first
    → (at : ℕ) → (after_dirty n e now).expires ≡ Some at → (now.expires ≡ Some at) ⊎ ((is_late first n ≡ false) × (e ≡ at))
dirty-stands n e first now named is at stands =
    elim (is_late first n) as (λ t. is_late first n ≡ t → (now.expires ≡ Some at) ⊎ ((is_late first n ≡ false) × (e ≡ at))) [
      | true ↦ λ late. inl (let same : now ≡ first = is ∙ late-again n e first named late in
          ap (λ (x : Remembered). x.expires) (sym (late-now now (ap (λ (x : Remembered). is_late x n) same ∙ late))) ∙ stands)
      | false ↦ λ fresh. elim (dirty-keeps n e now at stands) as (λ _. (now.expires ≡ Some at) ⊎ ((is_late first n ≡ false) × (e ≡ at)))
          [ inl before ↦ inl before | inr own ↦ inr (fresh, own) ]
    ] refl
  where
    late-now : (r : Remembered) → is_late r n ≡ true → after_dirty n e r ≡ r
    late-now r late = rw late refl

-- an entry that a dirty call leaves has its expiry in the row
pub planned-dirty : (n e : ℕ) (client : List ℕ) (ids : List ObjId) (id : ObjId) (first now : List (ObjId × List (List ℕ × Remembered))) (expiries : List Expiry)
    → Tells (after_dirty n e) client ids first now
    → (is_late (remembered_at first id client) n ≡ false → Contains expiries (record { moment = e; object = id; client = client }))
    → IsCovered now expiries → (at : ℕ) → (after_dirty n e (remembered_at now id client)).expires ≡ Some at → Contains expiries (record { moment = at; object = id; client = client })
planned-dirty n e client ids id first now expiries told planned covered at stands =
    let own : remembered_at now id client ≡ cond (is_named id ids) (after_dirty n e (remembered_at first id client)) (remembered_at first id client) =
    told.remembered_is id client ∙ ap (λ t. cond (t && is_named id ids) (after_dirty n e (remembered_at first id client)) (remembered_at first id client)) (bytes_eq-refl client) in
    elim (dirty-stands n e (remembered_at first id client) (remembered_at now id client) (is_named id ids) own at stands) as (λ _. Contains expiries (record { moment = at; object = id; client = client })) [
      | inl before ↦ covered id client at before
      | inr set ↦ subst (λ (m : ℕ). Contains expiries (record { moment = m; object = id; client = client })) set.1 (planned set.0)
    ]

-- the expiries of one more object are in the row
pub planned-push : (client : List ℕ) (ids : List ObjId) (id : ObjId) (number moment : ℕ) (objects : List (ObjId × List (List ℕ × Remembered))) (expiries more : List Expiry)
    → ArePlanned client ids number moment objects expiries → ((other : Expiry) → Contains expiries other → Contains more other)
    → (is_late (remembered_at objects id client) number ≡ false → Contains more (record { moment = moment; object = id; client = client }))
    → ArePlanned client (ids ++ id ∷ []) number moment objects more
planned-push client ids id number moment objects expiries more planned kept own object named fresh =
    elim (is_named object ids) as (λ t. is_named object ids ≡ t → (t || is_same object id) ≡ true → Contains more (record { moment = moment; object = object; client = client })) [
      | true ↦ λ before _. kept (record { moment = moment; object = object; client = client }) (planned object before fresh)
      | false ↦ λ _ same. let is : object ≡ id = same-object object id same in
          subst (λ (x : ObjId). Contains more (record { moment = moment; object = x; client = client })) (sym is)
          (own (subst (λ (x : ObjId). is_late (remembered_at objects x client) number ≡ false) is fresh))
    ] refl (sym (named-push object ids id) ∙ named)
