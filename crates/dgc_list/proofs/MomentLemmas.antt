use Rattle.std.proofs.Common.{◌≡◌, ℕ, ◌<◌, ◌≤◌, Bool, true, false, cond, not, ◌&&◌, filter, List, [], ◌∷◌, Option, None, Some, is_some, refl, sym, ap, subst, ◌∙◌, arith, Contains, inl, inr}
use Rattle.std.specs.Prelude.{◌⊎◌}
use Rattle.std.specs.Str.{bytes_eq}
use Rattle.std.proofs.lemmas.Bool.{false≢true}
use Rattle.space_ids.specs.declared.ids.ObjId.{ObjId}
use Rattle.dgc_list.specs.declared.expiries.Expiry.{Expiry}
use Rattle.dgc_list.specs.declared.remembered.Remembered.{Remembered}
use Rattle.dgc_list.specs.Remembered.{after_moment}
use Rattle.dgc_list.specs.Clients.{remembered_in, leased, leased_after, without, Sets}
use Rattle.dgc_list.specs.Objects.{is_same, clients_at, remembered_at, Expires, IsCovered}
use Rattle.dgc_list.proofs.CallsLemmas.{same-client, bytes_eq-refl}
use Rattle.dgc_list.proofs.ObjectsLemmas.{same-object, is_same-refl}
use Rattle.dgc_list.proofs.RememberedLemmas.{moment-twice, moment-keeps}

-- tests that answer alike keep alike
pub filter-like : {X : Type 0} (p q : X → Bool) → ((x : X) → p x ≡ q x) → (xs : List X) → filter p xs ≡ filter q xs
filter-like p q same [] = refl
filter-like p q same (x ∷ xs) = ap (λ t. cond t (x ∷ filter p xs) (filter p xs)) (same x) ∙ ap (λ rest. cond (q x) (x ∷ rest) rest) (filter-like p q same xs)

pub filter-filter : {X : Type 0} (p q : X → Bool) (xs : List X) → filter q (filter p xs) ≡ filter (λ x. p x && q x) xs
filter-filter p q [] = refl
filter-filter p q (x ∷ xs) =
    elim (p x) as (λ t. filter q (cond t (x ∷ filter p xs) (filter p xs)) ≡ cond (t && q x) (x ∷ filter (λ x. p x && q x) xs) (filter (λ x. p x && q x) xs))
    [ true ↦ ap (λ rest. cond (q x) (x ∷ rest) rest) (filter-filter p q xs) | false ↦ filter-filter p q xs ]

-- what one change leaves of what is remembered
pub remembered-set : (id : ObjId) (client : List ℕ) (r : Remembered) (now new : List (ObjId × List (List ℕ × Remembered)))
    → Sets client r (clients_at now id) (clients_at new id) → ((o : ObjId) → is_same id o ≡ false → clients_at new o ≡ clients_at now o)
    → (o : ObjId) (c : List ℕ) → remembered_at new o c ≡ cond (is_same id o && bytes_eq client c) r (remembered_at now o c)
remembered-set id client r now new set others o c =
    elim (is_same id o) as (λ t. is_same id o ≡ t → remembered_at new o c ≡ cond (t && bytes_eq client c) r (remembered_at now o c)) [
      | true ↦ λ same. subst (λ (x : ObjId). remembered_at new x c ≡ cond (bytes_eq client c) r (remembered_at now x c)) (same-object id o same) (set.remembered_is c)
      | false ↦ λ apart. ap (λ (es : List (List ℕ × Remembered)). remembered_in es c) (others o apart)
    ] refl

module _ (moment : ℕ) (id : ObjId) (client : List ℕ) (old now new : List (ObjId × List (List ℕ × Remembered))) (so_far : Expires moment old now)
    (set : Sets client (after_moment moment (remembered_at now id client)) (clients_at now id) (clients_at new id))
    (others : (o : ObjId) → is_same id o ≡ false → clients_at new o ≡ clients_at now o) where
  changed : (o : ObjId) (c : List ℕ) → remembered_at new o c ≡ cond (is_same id o && bytes_eq client c) (after_moment moment (remembered_at now id client)) (remembered_at now o c)
  changed = remembered-set id client (after_moment moment (remembered_at now id client)) now new set others

  -- this client and object, or another
  both : (o : ObjId) (c : List ℕ) → (is_same id o && bytes_eq client c) ≡ true → (id ≡ o) × (client ≡ c)
  both o c h = elim (is_same id o) as (λ t. is_same id o ≡ t → (t && bytes_eq client c) ≡ true → (id ≡ o) × (client ≡ c))
      [ true ↦ λ same k. (same-object id o same, same-client client c k) | false ↦ λ _ k. absurd (false≢true k) ] refl h

  own-again : (o : ObjId) (c : List ℕ) → (id ≡ o) × (client ≡ c) → after_moment moment (after_moment moment (remembered_at now id client)) ≡ after_moment moment (remembered_at now o c)
  own-again o c same = moment-twice moment (remembered_at now id client)
      ∙ subst (λ (x : ObjId). after_moment moment (remembered_at now id client) ≡ after_moment moment (remembered_at now x c)) same.0
      (subst (λ (x : List ℕ). after_moment moment (remembered_at now id client) ≡ after_moment moment (remembered_at now id x)) same.1 refl)

  remembered-next : (o : ObjId) (c : List ℕ) → after_moment moment (remembered_at new o c) ≡ after_moment moment (remembered_at now o c)
  remembered-next o c = ap (after_moment moment) (changed o c)
      ∙ (elim (is_same id o && bytes_eq client c) as (λ t. (is_same id o && bytes_eq client c) ≡ t
      → after_moment moment (cond t (after_moment moment (remembered_at now id client)) (remembered_at now o c)) ≡ after_moment moment (remembered_at now o c))
      [ true ↦ λ here. own-again o c (both o c here) | false ↦ λ _. refl ] refl)

  -- whether a client of the object has an entry, after the change
  stands-next : (c : List ℕ) → is_some (remembered_at new id c).expires
      ≡ cond (bytes_eq client c) (is_some (after_moment moment (remembered_at now id client)).expires) (is_some (remembered_at now id c).expires)
  stands-next c = ap (λ (r : Remembered). is_some r.expires) (set.remembered_is c)
      ∙ (elim (bytes_eq client c) as (λ t. is_some (cond t (after_moment moment (remembered_at now id client)) (remembered_at now id c)).expires
      ≡ cond t (is_some (after_moment moment (remembered_at now id client)).expires) (is_some (remembered_at now id c).expires)) [ true ↦ refl | false ↦ refl ])

  -- the test after the change is the one before, or that of all but the client
  same-test : (t : Bool) → is_some (remembered_at now id client).expires ≡ t → is_some (after_moment moment (remembered_at now id client)).expires ≡ t
      → (c : List ℕ) → is_some (remembered_at now id c).expires ≡ is_some (remembered_at new id c).expires
  same-test t h g c = sym (stands-next c ∙ (elim (bytes_eq client c) as (λ e. bytes_eq client c ≡ e
      → cond e (is_some (after_moment moment (remembered_at now id client)).expires) (is_some (remembered_at now id c).expires) ≡ is_some (remembered_at now id c).expires)
      [ true ↦ λ same. g ∙ sym h ∙ ap (λ (x : List ℕ). is_some (remembered_at now id x).expires) (same-client client c same) | false ↦ λ _. refl ] refl))

  less-test : is_some (after_moment moment (remembered_at now id client)).expires ≡ false
      → (c : List ℕ) → (is_some (remembered_at now id c).expires && not (bytes_eq client c)) ≡ is_some (remembered_at new id c).expires
  less-test g c = sym (stands-next c ∙ (elim (bytes_eq client c) as (λ e. cond e (is_some (after_moment moment (remembered_at now id client)).expires) (is_some (remembered_at now id c).expires)
      ≡ (is_some (remembered_at now id c).expires && not e))
      [ true ↦ g ∙ sym (and-false (is_some (remembered_at now id c).expires)) | false ↦ sym (and-true (is_some (remembered_at now id c).expires)) ]))
    where
      and-false : (t : Bool) → (t && false) ≡ false
      and-false true = refl
      and-false false = refl

      and-true : (t : Bool) → (t && true) ≡ t
      and-true true = refl
      and-true false = refl

  leased-next : (xs : List (List ℕ)) (had has : Bool) → is_some (remembered_at now id client).expires ≡ had
      → is_some (after_moment moment (remembered_at now id client)).expires ≡ has
      → leased (clients_at now id) ≡ filter (λ c. is_some (remembered_at now id c).expires) xs
      → leased_after client had has (leased (clients_at now id)) ≡ filter (λ c. is_some (remembered_at new id c).expires) xs
  leased-next xs true true h g stood = stood ∙ filter-like _ _ (same-test true h g) xs
  leased-next xs false false h g stood = stood ∙ filter-like _ _ (same-test false h g) xs
  leased-next xs true false h g stood = ap (without client) stood
      ∙ filter-filter (λ c. is_some (remembered_at now id c).expires) (λ c. not (bytes_eq client c)) xs ∙ filter-like _ _ (less-test g) xs
  leased-next xs false true h g stood = absurd (none-new (remembered_at now id client) h g)
    where
      none-new : (r : Remembered) → is_some r.expires ≡ false → is_some (after_moment moment r).expires ≡ true → ⊥
      none-new r h g = by (after_moment moment r).expires refl g
        where
          by : (o : Option ℕ) → (after_moment moment r).expires ≡ o → is_some o ≡ true → ⊥
          by None _ k = false≢true k
          by (Some at) e _ = false≢true (sym h ∙ ap is_some (moment-keeps moment r at e).0)

  pub expires-next : Expires moment old new
  expires-next = record {
    remembered_is = λ o c. remembered-next o c ∙ so_far.remembered_is o c;
    leased_is = λ o stand. elim (is_same id o) as (λ t. is_same id o ≡ t → leased (clients_at new o) ≡ filter (λ c. is_some (remembered_at new o c).expires) (leased (clients_at old o))) [
      | true ↦ λ same. subst (λ (x : ObjId). leased (clients_at new x) ≡ filter (λ c. is_some (remembered_at new x c).expires) (leased (clients_at old o))) (same-object id o same)
          (set.leased_is ∙ leased-next (leased (clients_at old o)) _ _ refl refl
          (subst (λ (x : ObjId). leased (clients_at now x) ≡ filter (λ c. is_some (remembered_at now x c).expires) (leased (clients_at old o))) (sym (same-object id o same)) (so_far.leased_is o stand)))
      | false ↦ λ apart. subst (λ (es : List (List ℕ × Remembered)). leased es ≡ filter (λ c. is_some (remembered_in es c).expires) (leased (clients_at old o))) (sym (others o apart)) (so_far.leased_is o stand)
    ] refl;
  }

  -- each entry left has its expiry among those left
  pub covered-next : (expiries left : List Expiry) (gone : Expiry) → gone.object ≡ id → gone.client ≡ client → gone.moment ≤ moment
      → ((other : Expiry) → Contains expiries other → (other ≡ gone) ⊎ Contains left other) → IsCovered now expiries → IsCovered new left
  covered-next expiries left gone at_object at_client reached others_left covered o c at stands =
      elim (is_same id o && bytes_eq client c) as (λ t. (is_same id o && bytes_eq client c) ≡ t → Contains left (record { moment = at; object = o; client = c })) [
        | true ↦ λ here. own-left (both o c here)
        | false ↦ λ apart. other-left apart
      ] refl
    where
      own-base : (remembered_at new id client).expires ≡ Some at → Contains left (record { moment = at; object = id; client = client })
      own-base stands_here =
          let is = set.remembered_is client ∙ ap (λ t. cond t (after_moment moment (remembered_at now id client)) (remembered_at now id client)) (bytes_eq-refl client) in
          let kept = moment-keeps moment (remembered_at now id client) at (ap (λ (r : Remembered). r.expires) (sym is) ∙ stands_here) in
          elim (others_left (record { moment = at; object = id; client = client }) (covered id client at kept.0)) as (λ _. Contains left (record { moment = at; object = id; client = client })) [
            | inl same ↦ absurd (let late : moment < at = kept.1 in let now_gone : at ≡ gone.moment = ap (λ (e : Expiry). e.moment) same in omega arith)
            | inr there ↦ there
          ]

      own-left : (id ≡ o) × (client ≡ c) → Contains left (record { moment = at; object = o; client = c })
      own-left same =
          subst (λ (x : ObjId). (remembered_at new x c).expires ≡ Some at → Contains left (record { moment = at; object = x; client = c })) same.0
          (subst (λ (y : List ℕ). (remembered_at new id y).expires ≡ Some at → Contains left (record { moment = at; object = id; client = y })) same.1 own-base) stands

      is-own : (id ≡ o) × (client ≡ c) → (is_same id o && bytes_eq client c) ≡ true
      is-own same = subst (λ (x : ObjId). (is_same id x && bytes_eq client c) ≡ true) same.0
          (subst (λ (y : List ℕ). (is_same id id && bytes_eq client y) ≡ true) same.1 (rw (is_same-refl id) (bytes_eq-refl client)))

      other-left : (is_same id o && bytes_eq client c) ≡ false → Contains left (record { moment = at; object = o; client = c })
      other-left apart =
          let before : (remembered_at now o c).expires ≡ Some at =
          ap (λ (r : Remembered). r.expires) (sym (changed o c ∙ ap (λ t. cond t (after_moment moment (remembered_at now id client)) (remembered_at now o c)) apart)) ∙ stands in
          elim (others_left (record { moment = at; object = o; client = c }) (covered o c at before)) as (λ _. Contains left (record { moment = at; object = o; client = c })) [
            | inl same ↦ absurd (false≢true (sym apart ∙ is-own (sym at_object ∙ sym (ap (λ (e : Expiry). e.object) same), sym at_client ∙ sym (ap (λ (e : Expiry). e.client) same))))
            | inr there ↦ there
          ]
