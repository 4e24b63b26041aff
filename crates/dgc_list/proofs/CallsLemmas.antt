use Rattle.std.proofs.Common.{◌≡◌, ℕ, zero, suc, ◌<◌, Bool, true, false, cond, ◌&&◌, ◌||◌, List, [], ◌∷◌, ◌++◌, length, get_or, is_some, IsTrue, refl, sym, ap, subst, ◌∙◌, arith}
use Rattle.std.specs.Str.{bytes_eq}
use Rattle.std.proofs.lemmas.Bool.{eqb-true, eq-eqb, false≢true}
use Rattle.std.proofs.lemmas.Slice.Eq.{bytes_eq-Decides}
use Rattle.space_ids.specs.declared.ids.ObjId.{ObjId}
use Rattle.dgc_list.specs.declared.remembered.Remembered.{Remembered}
use Rattle.dgc_list.specs.Remembered.{is_blank}
use Rattle.dgc_list.specs.Clients.{remembered_in, is_known, leased, leased_after, Sets}
use Rattle.dgc_list.specs.Objects.{is_same, clients_at, remembered_at, is_named, AreKnown, Tells}
use Rattle.dgc_list.proofs.ObjectsLemmas.{same-object, is_same-refl}
use Rattle.dgc_list.proofs.RememberedLemmas.{known-some}

pub same-client : (a b : List ℕ) → bytes_eq a b ≡ true → a ≡ b
same-client a b h = (bytes_eq-Decides a b).0 h

pub bytes_eq-refl : (a : List ℕ) → bytes_eq a a ≡ true
bytes_eq-refl a = (bytes_eq-Decides a a).1 refl

is_same-sym : (a b : ObjId) → is_same a b ≡ true → is_same b a ≡ true
is_same-sym a b h = eq-eqb b.0 a.0 (sym (eqb-true a.0 b.0 h))

-- whether an object is one of these or a further one
pub named-push : (o : ObjId) (ids : List ObjId) (id : ObjId) → is_named o (ids ++ id ∷ []) ≡ (is_named o ids || is_same o id)
named-push o [] id = elim (is_same o id) as (λ t. (t || false) ≡ t) [ true ↦ refl | false ↦ refl ]
named-push o (x ∷ xs) id =
    elim (is_same o x) as (λ t. (t || is_named o (xs ++ id ∷ [])) ≡ ((t || is_named o xs) || is_same o id)) [ true ↦ refl | false ↦ named-push o xs id ]

named-last : (o : ObjId) (ids : List ObjId) → is_named o (ids ++ o ∷ []) ≡ true
named-last o ids = named-push o ids o ∙ elim (is_named o ids) as (λ t. (t || is_same o o) ≡ true) [ true ↦ refl | false ↦ is_same-refl o ]

pub named-other : (o : ObjId) (ids : List ObjId) (id : ObjId) → is_same id o ≡ false → is_named o (ids ++ id ∷ []) ≡ is_named o ids
named-other o ids id apart = named-push o ids id ∙ or-false (is_named o ids) (is_same o id) (flip (is_same o id) refl)
  where
    or-false : (s t : Bool) → t ≡ false → (s || t) ≡ s
    or-false true t h = refl
    or-false false t h = h

    flip : (t : Bool) → is_same o id ≡ t → t ≡ false
    flip true h = absurd (false≢true (sym apart ∙ is_same-sym o id h))
    flip false h = refl

pub leased_after-same : (c : List ℕ) (t : Bool) (cs : List (List ℕ)) → leased_after c t t cs ≡ cs
leased_after-same c true cs = refl
leased_after-same c false cs = refl

module _ (f : Remembered → Remembered) (idem : (r : Remembered) → f (f r) ≡ f r) (client : List ℕ) where
  -- no call was made yet
  pub tells-none : (objects : List (ObjId × List (List ℕ × Remembered))) → Tells f client [] objects objects
  tells-none objects = record {
    remembered_is = λ o c. elim (bytes_eq client c) as (λ t. remembered_at objects o c ≡ cond (t && false) (f (remembered_at objects o c)) (remembered_at objects o c)) [ true ↦ refl | false ↦ refl ];
    leased_is = λ o. refl;
  }

  module _ (ids : List ObjId) (id : ObjId) (old now new : List (ObjId × List (List ℕ × Remembered))) (told : Tells f client ids old now)
      (set : Sets client (f (remembered_at now id client)) (clients_at now id) (clients_at new id))
      (others : (o : ObjId) → is_same id o ≡ false → clients_at new o ≡ clients_at now o) where
    -- what was remembered of the client, after the call once more
    again : (named : Bool) → remembered_at now id client ≡ cond named (f (remembered_at old id client)) (remembered_at old id client)
        → f (remembered_at now id client) ≡ f (remembered_at old id client)
    again true h = ap f h ∙ idem (remembered_at old id client)
    again false h = ap f h

    own : remembered_at now id client ≡ cond (is_named id ids) (f (remembered_at old id client)) (remembered_at old id client)
    own = told.remembered_is id client ∙ ap (λ t. cond (t && is_named id ids) (f (remembered_at old id client)) (remembered_at old id client)) (bytes_eq-refl client)

    told-here : (c : List ℕ) → remembered_at new id c ≡ cond (bytes_eq client c && true) (f (remembered_at old id c)) (remembered_at old id c)
    told-here c = elim (bytes_eq client c) as (λ t. bytes_eq client c ≡ t → remembered_at new id c ≡ cond (t && true) (f (remembered_at old id c)) (remembered_at old id c)) [
      | true ↦ λ same. subst (λ (x : List ℕ). remembered_at new id x ≡ f (remembered_at old id x)) (same-client client c same)
          (set.remembered_is client ∙ ap (λ t. cond t (f (remembered_at now id client)) (remembered_at now id client)) (bytes_eq-refl client) ∙ again (is_named id ids) own)
      | false ↦ λ apart. set.remembered_is c ∙ ap (λ t. cond t (f (remembered_at now id client)) (remembered_at now id c)) apart
          ∙ told.remembered_is id c ∙ ap (λ t. cond (t && is_named id ids) (f (remembered_at old id c)) (remembered_at old id c)) apart
    ] refl

    set-twice : (named : Bool) → remembered_at now id client ≡ cond named (f (remembered_at old id client)) (remembered_at old id client)
        → leased (clients_at now id) ≡ cond named (leased_after client (is_some (remembered_at old id client).expires) (is_some (f (remembered_at old id client)).expires) (leased (clients_at old id))) (leased (clients_at old id))
        → leased_after client (is_some (remembered_at now id client).expires) (is_some (f (remembered_at now id client)).expires) (leased (clients_at now id))
        ≡ leased_after client (is_some (remembered_at old id client).expires) (is_some (f (remembered_at old id client)).expires) (leased (clients_at old id))
    set-twice true h l = rw (h, idem (remembered_at old id client)) (leased_after-same client (is_some (f (remembered_at old id client)).expires) (leased (clients_at now id)) ∙ l)
    set-twice false h l = rw (h, l) refl

    -- the call on one more object
    pub tells-push : Tells f client (ids ++ id ∷ []) old new
    tells-push = record {
      remembered_is = λ o c. elim (is_same id o) as (λ t. is_same id o ≡ t → remembered_at new o c
          ≡ cond (bytes_eq client c && is_named o (ids ++ id ∷ [])) (f (remembered_at old o c)) (remembered_at old o c)) [
            | true ↦ λ same. subst (λ (x : ObjId). remembered_at new x c ≡ cond (bytes_eq client c && is_named x (ids ++ id ∷ [])) (f (remembered_at old x c)) (remembered_at old x c)) (same-object id o same)
                (told-here c ∙ ap (λ t. cond (bytes_eq client c && t) (f (remembered_at old id c)) (remembered_at old id c)) (sym (named-last id ids)))
            | false ↦ λ apart. ap (λ (es : List (List ℕ × Remembered)). remembered_in es c) (others o apart) ∙ told.remembered_is o c
                ∙ ap (λ t. cond (bytes_eq client c && t) (f (remembered_at old o c)) (remembered_at old o c)) (sym (named-other o ids id apart))
          ] refl;
      leased_is = λ o. elim (is_same id o) as (λ t. is_same id o ≡ t → leased (clients_at new o) ≡ cond (is_named o (ids ++ id ∷ []))
          (leased_after client (is_some (remembered_at old o client).expires) (is_some (f (remembered_at old o client)).expires) (leased (clients_at old o))) (leased (clients_at old o))) [
            | true ↦ λ same. subst (λ (x : ObjId). leased (clients_at new x) ≡ cond (is_named x (ids ++ id ∷ []))
                (leased_after client (is_some (remembered_at old x client).expires) (is_some (f (remembered_at old x client)).expires) (leased (clients_at old x))) (leased (clients_at old x))) (same-object id o same)
                (rw (named-last id ids) (set.leased_is ∙ set-twice (is_named id ids) own (told.leased_is id)))
            | false ↦ λ apart. ap leased (others o apart) ∙ told.leased_is o
                ∙ ap (λ t. cond t (leased_after client (is_some (remembered_at old o client).expires) (is_some (f (remembered_at old o client)).expires) (leased (clients_at old o))) (leased (clients_at old o)))
                (sym (named-other o ids id apart))
          ] refl;
    }

-- the client keeps its room at the objects if something is left to remember
pub known-kept : (client : List ℕ) (ids : List ObjId) (id : ObjId) (r : Remembered) (now new : List (ObjId × List (List ℕ × Remembered)))
    → Sets client r (clients_at now id) (clients_at new id) → is_blank r ≡ false
    → ((o : ObjId) → is_same id o ≡ false → clients_at new o ≡ clients_at now o) → AreKnown client ids now → AreKnown client ids new
known-kept client ids id r now new set some others known o named =
    elim (is_same id o) as (λ t. is_same id o ≡ t → IsTrue (is_known (clients_at new o) client)) [
      | true ↦ λ same. subst (λ (x : ObjId). IsTrue (is_known (clients_at new x) client)) (same-object id o same)
          (known-some (clients_at new id) client r (set.remembered_is client ∙ ap (λ t. cond t r (remembered_at now id client)) (bytes_eq-refl client)) some)
      | false ↦ λ apart. subst (λ (es : List (List ℕ × Remembered)). IsTrue (is_known es client)) (sym (others o apart)) (known o named)
    ] refl

pub or-left : (s t : Bool) → s ≡ true → IsTrue (s || t)
or-left true t h = refl
or-left false t h = absurd (false≢true h)

-- an object of the row is named in it
pub named-at : (ids : List ObjId) (i : ℕ) (d : ObjId) → i < length ids → IsTrue (is_named (get_or ids i d) ids)
named-at [] i d h = absurd (omega arith)
named-at (x ∷ xs) zero d h = or-left (is_same x x) (is_named x xs) (is_same-refl x)
named-at (x ∷ xs) (suc i) d h = or-right (is_same (get_or xs i d) x) (is_named (get_or xs i d) xs) (named-at xs i d (omega arith))
  where
    or-right : (s t : Bool) → IsTrue t → IsTrue (s || t)
    or-right true t h = refl
    or-right false t h = h
