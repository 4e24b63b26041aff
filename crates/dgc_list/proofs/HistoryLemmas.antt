use Rattle.std.proofs.Common.{◌≡◌, ℕ, Bool, true, false, cond, not, ◌&&◌, filter, List, [], ◌∷◌, ◌++◌, refl, sym, ap, subst, ◌∙◌}
use Rattle.std.specs.List.{list_all}
use Rattle.std.specs.Str.{bytes_eq}
use Rattle.std.proofs.lemmas.Bool.{false≢true}
use Rattle.space_ids.specs.declared.ids.ObjId.{ObjId}
use Rattle.dgc_list.specs.Clients.{leased_after}
use Rattle.dgc_list.specs.Objects.{is_same, is_named}
use Rattle.dgc_list.specs.History.{Call, is_told, is_leased, clients_of}
use Rattle.dgc_list.specs.History.Call.{Dirty, Clean, Moment, Forget}
use Rattle.dgc_list.proofs.CallsLemmas.{same-client}

both-true : (s t : Bool) → s ≡ true → t ≡ true → (s && t) ≡ true
both-true true t h g = g
both-true false t h g = absurd (false≢true h)

first-true : (s t : Bool) → (s && t) ≡ true → s ≡ true
first-true true t h = refl
first-true false t h = h

second-true : (s t : Bool) → (s && t) ≡ true → t ≡ true
second-true true t h = h
second-true false t h = absurd (false≢true h)

-- a test that all pass keeps all
pub filter-all : {X : Type 0} (p : X → Bool) (xs : List X) → list_all p xs ≡ true → filter p xs ≡ xs
filter-all p [] h = refl
filter-all p (x ∷ xs) h =
    rw (first-true (p x) (list_all p xs) h) (ap (λ rest. x ∷ rest) (filter-all p xs (second-true (p x) (list_all p xs) h)))

-- those that pass one test and another pass a third
all-kept : {X : Type 0} (p q r : X → Bool) → ((x : X) → p x ≡ true → q x ≡ true → r x ≡ true) → (xs : List X) → list_all p xs ≡ true → list_all r (filter q xs) ≡ true
all-kept p q r pass [] h = refl
all-kept p q r pass (x ∷ xs) h =
    let rest = all-kept p q r pass xs (second-true (p x) (list_all p xs) h) in
    elim (q x) as (λ t. q x ≡ t → list_all r (cond t (x ∷ filter q xs) (filter q xs)) ≡ true)
    [ true ↦ λ here. both-true (r x) (list_all r (filter q xs)) (pass x (first-true (p x) (list_all p xs) h) here) rest | false ↦ λ _. rest ] refl

all-like : {X : Type 0} (p r : X → Bool) → ((x : X) → p x ≡ true → r x ≡ true) → (xs : List X) → list_all p xs ≡ true → list_all r xs ≡ true
all-like p r pass [] h = refl
all-like p r pass (x ∷ xs) h =
    both-true (r x) (list_all r xs) (pass x (first-true (p x) (list_all p xs) h)) (all-like p r pass xs (second-true (p x) (list_all p xs) h))

all-push : {X : Type 0} (r : X → Bool) (xs : List X) (y : X) → list_all r xs ≡ true → r y ≡ true → list_all r (xs ++ y ∷ []) ≡ true
all-push r [] y h g = both-true (r y) true g refl
all-push r (x ∷ xs) y h g = both-true (r x) (list_all r (xs ++ y ∷ [])) (first-true (r x) (list_all r xs) h) (all-push r xs y (second-true (r x) (list_all r xs) h) g)

-- after one client's call the clients that are listed are still those with an entry
all-after : (client : List ℕ) (p r : List ℕ → Bool) (cs : List (List ℕ)) → ((c : List ℕ) → bytes_eq client c ≡ false → r c ≡ p c)
    → (had has : Bool) → p client ≡ had → r client ≡ has → list_all p cs ≡ true → list_all r (leased_after client had has cs) ≡ true
all-after client p r cs others had has h g all = by had has h g
  where
    stays : has ≡ true → (c : List ℕ) → p c ≡ true → r c ≡ true
    stays set c there = elim (bytes_eq client c) as (λ t. bytes_eq client c ≡ t → r c ≡ true)
        [ true ↦ λ same. subst (λ (x : List ℕ). r x ≡ true) (same-client client c same) (g ∙ set) | false ↦ λ apart. others c apart ∙ there ] refl

    not-own : had ≡ false → (c : List ℕ) → p c ≡ true → r c ≡ true
    not-own bare c there = elim (bytes_eq client c) as (λ t. bytes_eq client c ≡ t → r c ≡ true)
        [ true ↦ λ same. absurd (false≢true (sym bare ∙ sym h ∙ ap p (same-client client c same) ∙ there)) | false ↦ λ apart. others c apart ∙ there ] refl

    others-kept : (c : List ℕ) → p c ≡ true → not (bytes_eq client c) ≡ true → r c ≡ true
    others-kept c there apart = elim (bytes_eq client c) as (λ t. bytes_eq client c ≡ t → not t ≡ true → r c ≡ true)
        [ true ↦ λ _ k. absurd (false≢true k) | false ↦ λ k _. others c k ∙ there ] refl apart

    by : (s t : Bool) → p client ≡ s → r client ≡ t → list_all r (leased_after client s t cs) ≡ true
    by true true a b = all-like p r (stays (sym g ∙ b)) cs all
    by true false a b = all-kept p (λ c. not (bytes_eq client c)) r others-kept cs all
    by false true a b = all-push r cs client (all-like p r (stays (sym g ∙ b)) cs all) b
    by false false a b = all-like p r (not-own (sym h ∙ a)) cs all

told-own : (client c : List ℕ) (objects : List ObjId) (o : ObjId) → bytes_eq client c ≡ false → is_told client objects c o ≡ false
told-own client c objects o apart = rw apart refl

-- each client that is listed has an entry
pub all-leased : (h : List Call) (o : ObjId) → list_all (λ c. is_leased h c o) (clients_of h o) ≡ true
all-leased [] o = refl
all-leased (Dirty client objects number period ∷ h) o =
    elim (is_named o objects) as (λ t. is_named o objects ≡ t → list_all (λ c. is_leased (Dirty client objects number period ∷ h) c o)
    (cond t (leased_after client (is_leased h client o) (is_leased (Dirty client objects number period ∷ h) client o) (clients_of h o)) (clients_of h o)) ≡ true) [
      | true ↦ λ _. all-after client (λ c. is_leased h c o) (λ c. is_leased (Dirty client objects number period ∷ h) c o) (clients_of h o)
          (λ c apart. rw (told-own client c objects o apart) refl) _ _ refl refl (all-leased h o)
      | false ↦ λ other. all-like (λ c. is_leased h c o) (λ c. is_leased (Dirty client objects number period ∷ h) c o) (λ c there. rw (other, no (bytes_eq client c)) there) (clients_of h o) (all-leased h o)
    ] refl
  where
    no : (t : Bool) → (t && false) ≡ false
    no true = refl
    no false = refl
all-leased (Clean client objects number strong ∷ h) o =
    elim (is_named o objects) as (λ t. is_named o objects ≡ t → list_all (λ c. is_leased (Clean client objects number strong ∷ h) c o)
    (cond t (leased_after client (is_leased h client o) (is_leased (Clean client objects number strong ∷ h) client o) (clients_of h o)) (clients_of h o)) ≡ true) [
      | true ↦ λ _. all-after client (λ c. is_leased h c o) (λ c. is_leased (Clean client objects number strong ∷ h) c o) (clients_of h o)
          (λ c apart. rw (told-own client c objects o apart) refl) _ _ refl refl (all-leased h o)
      | false ↦ λ other. all-like (λ c. is_leased h c o) (λ c. is_leased (Clean client objects number strong ∷ h) c o) (λ c there. rw (other, no (bytes_eq client c)) there) (clients_of h o) (all-leased h o)
    ] refl
  where
    no : (t : Bool) → (t && false) ≡ false
    no true = refl
    no false = refl
all-leased (Moment moment ∷ h) o =
    all-kept (λ c. is_leased h c o) (λ c. is_leased (Moment moment ∷ h) c o) (λ c. is_leased (Moment moment ∷ h) c o) (λ c _ there. there) (clients_of h o) (all-leased h o)
all-leased (Forget object ∷ h) o =
    elim (is_same object o) as (λ t. is_same object o ≡ t → list_all (λ c. is_leased (Forget object ∷ h) c o) (cond t [] (clients_of h o)) ≡ true) [
      | true ↦ λ _. refl
      | false ↦ λ other. all-like (λ c. is_leased h c o) (λ c. is_leased (Forget object ∷ h) c o) (λ c there. rw other there) (clients_of h o) (all-leased h o)
    ] refl
