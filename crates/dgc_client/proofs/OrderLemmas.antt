use Rattle.std.proofs.Common.{◌≡◌, ℕ, Bool, true, false, cond, ◌&&◌, ◌||◌, List, [], ◌∷◌, ◌++◌, filter, refl, sym, ap, subst, ◌∙◌}
use Rattle.std.specs.Prelude.{map, fold, if◌then◌else◌}
use Rattle.std.specs.List.{flat_map, list_any}
use Rattle.std.specs.Str.{bytes_eq}
use Rattle.std.proofs.lemmas.Bool.{false≢true}
use Rattle.std.proofs.lemmas.List.{append-nil}
use Rattle.std.proofs.lemmas.List.Elements.{filter-append}
use Rattle.std.proofs.lemmas.Slice.Eq.{bytes_eq-Decides}
use Rattle.dgc_client.specs.declared.groups.DueCall.{DueCall}
use Rattle.dgc_client.specs.declared.lease.Due.{Due}
use Rattle.dgc_client.specs.declared.lease.Due.TheVariants.{Dirty, Clean}
use Rattle.dgc_client.specs.Groups.{is_same_answer, is_same_kind, is_of, is_clean_kind, is_clean, with_peer, peers_of, cleans_of_peer, in_order, calls_of, grouped}
use Rattle.dgc_client.proofs.GroupsLemmas.{same-kind, left-true, right-true, are-grouping}

same-bytes : (p q : List ℕ) → bytes_eq p q ≡ true → p ≡ q
same-bytes p q h = (bytes_eq-Decides p q).0 h

pub self-bytes : (p : List ℕ) → bytes_eq p p ≡ true
self-bytes p = (bytes_eq-Decides p p).1 refl

-- peers that differ one way differ the other way
swap-bytes : (p q : List ℕ) → bytes_eq p q ≡ false → bytes_eq q p ≡ false
swap-bytes p q h = elim (bytes_eq q p) as (λ t. bytes_eq q p ≡ t → t ≡ false) [
  | true ↦ λ g. absurd (false≢true (sym h ∙ subst (λ (x : List ℕ). bytes_eq x q ≡ true) (same-bytes q p g) (self-bytes q)))
  | false ↦ λ _. refl
] refl

pub at-peer : (p : List ℕ) (k : Due) (call : DueCall) → is_of p k call ≡ true → call.reference.space ≡ p
at-peer p k call h = same-bytes call.reference.space p (left-true (bytes_eq call.reference.space p) (is_same_kind call.kind k) h)

of-kind : (p : List ℕ) (k : Due) (call : DueCall) → is_of p k call ≡ true → call.kind ≡ k
of-kind p k call h = same-kind call.kind k (right-true (bytes_eq call.reference.space p) (is_same_kind call.kind k) h)

twice : (f : DueCall → Bool) (calls : List DueCall) → filter f (filter f calls) ≡ filter f calls
twice f [] = refl
twice f (call ∷ calls) = elim (f call) as (λ t. f call ≡ t → filter f (cond t (call ∷ filter f calls) (filter f calls)) ≡ cond t (call ∷ filter f calls) (filter f calls)) [
  | true ↦ λ h. ap (λ t. cond t (call ∷ filter f (filter f calls)) (filter f (filter f calls))) h ∙ ap (λ (rest : List DueCall). call ∷ rest) (twice f calls)
  | false ↦ λ _. twice f calls
] refl

-- calls of one peer and kind are of no other
apart : (p q : List ℕ) (k j : Due) → (bytes_eq q p && is_same_kind j k) ≡ false → (calls : List DueCall) → filter (is_of p k) (filter (is_of q j) calls) ≡ []
apart p q k j h [] = refl
apart p q k j h (call ∷ calls) = elim (is_of q j call) as (λ t. is_of q j call ≡ t → filter (is_of p k) (cond t (call ∷ filter (is_of q j) calls) (filter (is_of q j) calls)) ≡ []) [
  | true ↦ λ mine.
      let other : is_of p k call ≡ false = (λ i. bytes_eq (at-peer q j call mine i) p && is_same_kind (of-kind q j call mine i) k) ∙ h in
      ap (λ t. cond t (call ∷ filter (is_of p k) (filter (is_of q j) calls)) (filter (is_of p k) (filter (is_of q j) calls))) other ∙ apart p q k j h calls
  | false ↦ λ _. apart p q k j h calls
] refl

no-peer : (p q : List ℕ) (k j : Due) → bytes_eq q p ≡ false → (bytes_eq q p && is_same_kind j k) ≡ false
no-peer p q k j h = ap (λ t. t && is_same_kind j k) h

no-kind : (t s : Bool) → s ≡ false → (t && s) ≡ false
no-kind true s h = h
no-kind false s h = refl

filter-flat_map : (f : DueCall → Bool) (g : List ℕ → List DueCall) (ps : List (List ℕ)) → filter f (flat_map g ps) ≡ flat_map (λ p. filter f (g p)) ps
filter-flat_map f g [] = refl
filter-flat_map f g (p ∷ ps) = filter-append f (g p) (flat_map g ps) ∙ ap (λ (rest : List DueCall). filter f (g p) ++ rest) (filter-flat_map f g ps)

pub nothing : (g : List ℕ → List DueCall) (ps : List (List ℕ)) → ((p : List ℕ) → g p ≡ []) → flat_map g ps ≡ []
nothing g [] none = refl
nothing g (p ∷ ps) none = ap (λ (x : List DueCall). x ++ flat_map g ps) (none p) ∙ nothing g ps none

-- each peer stands once
abbrev pub StandOnce : List (List ℕ) → Type 0
StandOnce [] = Unit {0}
StandOnce (p ∷ ps) = (list_any (bytes_eq p) ps ≡ false) × StandOnce ps

-- what one peer alone gives
alone : (p : List ℕ) (mine : List DueCall) (g : List ℕ → List DueCall) (ps : List (List ℕ)) → StandOnce ps → ((q : List ℕ) → bytes_eq q p ≡ false → g q ≡ []) → g p ≡ mine
    → flat_map g ps ≡ cond (list_any (bytes_eq p) ps) mine []
alone p mine g [] once others own = refl
alone p mine g (q ∷ ps) once others own = by (bytes_eq p q) refl (alone p mine g ps once.1 others own)
  where
    by : (t : Bool) → bytes_eq p q ≡ t → flat_map g ps ≡ cond (list_any (bytes_eq p) ps) mine [] → g q ++ flat_map g ps ≡ cond (t || list_any (bytes_eq p) ps) mine []
    by true same more =
        let is : q ≡ p = sym (same-bytes p q same) in
        let gone : list_any (bytes_eq p) ps ≡ false = subst (λ (x : List ℕ). list_any (bytes_eq x) ps ≡ false) is once.0 in
        (λ i. g (is i) ++ flat_map g ps) ∙ ap (λ (x : List DueCall). x ++ flat_map g ps) own
        ∙ ap (λ (rest : List DueCall). mine ++ rest) (more ∙ ap (λ t. cond t mine []) gone) ∙ append-nil mine
    by false differ more = ap (λ (x : List DueCall). x ++ flat_map g ps) (others q (swap-bytes p q differ)) ∙ more

any-push : (p x : List ℕ) (ps : List (List ℕ)) → list_any (bytes_eq p) (ps ++ x ∷ []) ≡ (list_any (bytes_eq p) ps || bytes_eq p x)
any-push p x [] = by (bytes_eq p x)
  where
    by : (t : Bool) → (t || false) ≡ t
    by true = refl
    by false = refl
any-push p x (q ∷ ps) = by (bytes_eq p q) (any-push p x ps)
  where
    by : (t : Bool) → list_any (bytes_eq p) (ps ++ x ∷ []) ≡ (list_any (bytes_eq p) ps || bytes_eq p x) → (t || list_any (bytes_eq p) (ps ++ x ∷ [])) ≡ ((t || list_any (bytes_eq p) ps) || bytes_eq p x)
    by true more = refl
    by false more = more

pub left-false : (s t : Bool) → (s || t) ≡ false → s ≡ false
left-false true t h = h
left-false false t h = refl

pub right-false : (s t : Bool) → (s || t) ≡ false → t ≡ false
right-false true t h = absurd (false≢true (sym h))
right-false false t h = h

once-push : (x : List ℕ) (ps : List (List ℕ)) → StandOnce ps → list_any (bytes_eq x) ps ≡ false → StandOnce (ps ++ x ∷ [])
once-push x [] once new_one = (refl, tt)
once-push x (p ∷ ps) once new_one =
    let differ : bytes_eq x p ≡ false = left-false (bytes_eq x p) (list_any (bytes_eq x) ps) new_one in
    (any-push p x ps ∙ ap (λ t. t || bytes_eq p x) once.0 ∙ swap-bytes x p differ, once-push x ps once.1 (right-false (bytes_eq x p) (list_any (bytes_eq x) ps) new_one))

once-with : (ps : List (List ℕ)) (x : List ℕ) → StandOnce ps → StandOnce (with_peer ps x)
once-with ps x once = elim (list_any (bytes_eq x) ps) as (λ t. list_any (bytes_eq x) ps ≡ t → StandOnce (if t then ps else ps ++ x ∷ [])) [ true ↦ λ _. once | false ↦ λ h. once-push x ps once h ] refl

once-all : (xs ps : List (List ℕ)) → StandOnce ps → StandOnce (fold with_peer ps xs)
once-all [] ps once = once
once-all (x ∷ xs) ps once = once-all xs (with_peer ps x) (once-with ps x once)

none-once : StandOnce []
none-once = tt

or-left : (s t : Bool) → s ≡ true → (s || t) ≡ true
or-left true t h = refl
or-left false t h = absurd (false≢true h)

or-right : (s t : Bool) → t ≡ true → (s || t) ≡ true
or-right true t h = refl
or-right false t h = h

kept-with : (p x : List ℕ) (ps : List (List ℕ)) → list_any (bytes_eq p) ps ≡ true → list_any (bytes_eq p) (with_peer ps x) ≡ true
kept-with p x ps h = elim (list_any (bytes_eq x) ps) as (λ t. list_any (bytes_eq p) (if t then ps else ps ++ x ∷ []) ≡ true) [ true ↦ h | false ↦ any-push p x ps ∙ or-left _ _ h ]

kept-all : (p : List ℕ) (xs ps : List (List ℕ)) → list_any (bytes_eq p) ps ≡ true → list_any (bytes_eq p) (fold with_peer ps xs) ≡ true
kept-all p [] ps h = h
kept-all p (x ∷ xs) ps h = kept-all p xs (with_peer ps x) (kept-with p x ps h)

there-with : (p x : List ℕ) (ps : List (List ℕ)) → bytes_eq p x ≡ true → list_any (bytes_eq p) (with_peer ps x) ≡ true
there-with p x ps h = elim (list_any (bytes_eq x) ps) as (λ t. list_any (bytes_eq x) ps ≡ t → list_any (bytes_eq p) (if t then ps else ps ++ x ∷ []) ≡ true) [
  | true ↦ λ g. subst (λ (q : List ℕ). list_any (bytes_eq q) ps ≡ true) (sym (same-bytes p x h)) g
  | false ↦ λ _. any-push p x ps ∙ or-right _ _ h
] refl

-- each peer of a call is there
there-all : (p : List ℕ) (xs ps : List (List ℕ)) → list_any (bytes_eq p) xs ≡ true → list_any (bytes_eq p) (fold with_peer ps xs) ≡ true
there-all p [] ps h = absurd (false≢true h)
there-all p (x ∷ xs) ps h = elim (bytes_eq p x) as (λ t. bytes_eq p x ≡ t → (t || list_any (bytes_eq p) xs) ≡ true → list_any (bytes_eq p) (fold with_peer (with_peer ps x) xs) ≡ true) [
  | true ↦ λ same _. kept-all p xs (with_peer ps x) (there-with p x ps same)
  | false ↦ λ _ rest. there-all p xs (with_peer ps x) rest
] refl h

answer-self : (t : Bool) → is_same_answer t t ≡ true
answer-self true = refl
answer-self false = refl

-- the calls that are clean, or not, as the kind is
abbrev alike : Due → List DueCall → List DueCall
alike k calls = filter (λ call. is_same_answer (is_clean call) (is_clean_kind k)) calls

abbrev spaces : List DueCall → List (List ℕ)
spaces calls = map (λ (call : DueCall). call.reference.space) calls

shown : (p : List ℕ) (call : DueCall) (calls : List DueCall) (t : Bool) → t ≡ true → list_any (bytes_eq p) (spaces (cond t (call ∷ calls) calls)) ≡ false → bytes_eq p call.reference.space ≡ false
shown p call calls true e h = left-false (bytes_eq p call.reference.space) (list_any (bytes_eq p) (spaces calls)) h
shown p call calls false e h = absurd (false≢true e)

left_out : (p : List ℕ) (call : DueCall) (calls : List DueCall) (t : Bool) → list_any (bytes_eq p) (spaces (cond t (call ∷ calls) calls)) ≡ false → list_any (bytes_eq p) (spaces calls) ≡ false
left_out p call calls true h = right-false (bytes_eq p call.reference.space) (list_any (bytes_eq p) (spaces calls)) h
left_out p call calls false h = h

-- a peer that is not among those of its kind of calls has none
none-of : (p : List ℕ) (k : Due) (calls : List DueCall) → list_any (bytes_eq p) (spaces (alike k calls)) ≡ false → filter (is_of p k) calls ≡ []
none-of p k [] h = refl
none-of p k (call ∷ calls) h = elim (is_of p k call) as (λ t. is_of p k call ≡ t → cond t (call ∷ filter (is_of p k) calls) (filter (is_of p k) calls) ≡ []) [
  | true ↦ λ mine.
      let counts : is_same_answer (is_clean call) (is_clean_kind k) ≡ true = ap (λ (j : Due). is_same_answer (is_clean_kind j) (is_clean_kind k)) (of-kind p k call mine) ∙ answer-self (is_clean_kind k) in
      let here : bytes_eq p call.reference.space ≡ true = subst (λ (q : List ℕ). bytes_eq p q ≡ true) (sym (at-peer p k call mine)) (self-bytes p) in
      absurd (false≢true (sym (shown p call (alike k calls) (is_same_answer (is_clean call) (is_clean_kind k)) counts h) ∙ here))
  | false ↦ λ _. none-of p k calls (left_out p call (alike k calls) (is_same_answer (is_clean call) (is_clean_kind k)) h)
] refl

-- all calls of a peer and kind, or none if it is no peer of such calls
all-or-none : (p : List ℕ) (k : Due) (calls : List DueCall) → cond (list_any (bytes_eq p) (peers_of (is_clean_kind k) calls)) (filter (is_of p k) calls) [] ≡ filter (is_of p k) calls
all-or-none p k calls = elim (list_any (bytes_eq p) (peers_of (is_clean_kind k) calls)) as (λ t. list_any (bytes_eq p) (peers_of (is_clean_kind k) calls) ≡ t → cond t (filter (is_of p k) calls) [] ≡ filter (is_of p k) calls) [
  | true ↦ λ _. refl
  | false ↦ λ gone. sym (none-of p k calls (elim (list_any (bytes_eq p) (spaces (alike k calls))) as (λ t. list_any (bytes_eq p) (spaces (alike k calls)) ≡ t → t ≡ false) [
    | true ↦ λ here. absurd (false≢true (sym gone ∙ there-all p (spaces (alike k calls)) [] here))
    | false ↦ λ _. refl
  ] refl))
] refl

pub once-peers : (clean : Bool) (calls : List DueCall) → StandOnce (peers_of clean calls)
once-peers clean calls = once-all (map (λ (call : DueCall). call.reference.space) (filter (λ call. is_same_answer (is_clean call) clean) calls)) [] none-once

-- calls of a kind among those of that kind
own-part : (p : List ℕ) (k : Due) (calls : List DueCall) (g : List ℕ → List DueCall)
    → ((q : List ℕ) → bytes_eq q p ≡ false → filter (is_of p k) (g q) ≡ []) → filter (is_of p k) (g p) ≡ filter (is_of p k) calls
    → filter (is_of p k) (flat_map g (peers_of (is_clean_kind k) calls)) ≡ filter (is_of p k) calls
own-part p k calls g others own =
    filter-flat_map (is_of p k) g (peers_of (is_clean_kind k) calls)
    ∙ alone p (filter (is_of p k) calls) (λ q. filter (is_of p k) (g q)) (peers_of (is_clean_kind k) calls) (once-peers (is_clean_kind k) calls) others own
    ∙ all-or-none p k calls

cleans-split : (p q : List ℕ) (k : Due) (calls : List DueCall) → filter (is_of p k) (cleans_of_peer calls q) ≡ filter (is_of p k) (filter (is_of q (Clean true)) calls) ++ filter (is_of p k) (filter (is_of q (Clean false)) calls)
cleans-split p q k calls = filter-append (is_of p k) (filter (is_of q (Clean true)) calls) (filter (is_of q (Clean false)) calls)

-- the clean calls of a peer, from those of one
cleans-own : (p : List ℕ) (s : Bool) (calls : List DueCall) → filter (is_of p (Clean s)) (cleans_of_peer calls p) ≡ filter (is_of p (Clean s)) calls
cleans-own p true calls = cleans-split p p (Clean true) calls
    ∙ (λ i. twice (is_of p (Clean true)) calls i ++ apart p p (Clean true) (Clean false) (no-kind (bytes_eq p p) false refl) calls i) ∙ append-nil (filter (is_of p (Clean true)) calls)
cleans-own p false calls = cleans-split p p (Clean false) calls
    ∙ (λ i. apart p p (Clean false) (Clean true) (no-kind (bytes_eq p p) false refl) calls i ++ twice (is_of p (Clean false)) calls i)

-- The order keeps the calls of each peer and kind, in their order.
pub order-keeps : (p : List ℕ) (k : Due) (calls : List DueCall) → filter (is_of p k) (in_order calls) ≡ filter (is_of p k) calls
order-keeps p Dirty calls =
    filter-append (is_of p Dirty) (flat_map (cleans_of_peer calls) (peers_of true calls)) (flat_map (λ peer. filter (is_of peer Dirty) calls) (peers_of false calls))
    ∙ (λ i. (filter-flat_map (is_of p Dirty) (cleans_of_peer calls) (peers_of true calls) ∙ nothing (λ q. filter (is_of p Dirty) (cleans_of_peer calls q)) (peers_of true calls)
    (λ q. cleans-split p q Dirty calls ∙ (λ j. apart p q Dirty (Clean true) (no-kind (bytes_eq q p) false refl) calls j ++ apart p q Dirty (Clean false) (no-kind (bytes_eq q p) false refl) calls j))) i
    ++ own-part p Dirty calls (λ peer. filter (is_of peer Dirty) calls) (λ q h. apart p q Dirty Dirty (no-peer p q Dirty Dirty h) calls) (twice (is_of p Dirty) calls) i)
order-keeps p (Clean s) calls =
    filter-append (is_of p (Clean s)) (flat_map (cleans_of_peer calls) (peers_of true calls)) (flat_map (λ peer. filter (is_of peer Dirty) calls) (peers_of false calls))
    ∙ (λ i. own-part p (Clean s) calls (cleans_of_peer calls)
    (λ q h. cleans-split p q (Clean s) calls ∙ (λ j. apart p q (Clean s) (Clean true) (no-peer p q (Clean s) (Clean true) h) calls j ++ apart p q (Clean s) (Clean false) (no-peer p q (Clean s) (Clean false) h) calls j))
    (cleans-own p s calls) i
    ++ (filter-flat_map (is_of p (Clean s)) (λ peer. filter (is_of peer Dirty) calls) (peers_of false calls) ∙ nothing (λ q. filter (is_of p (Clean s)) (filter (is_of q Dirty) calls)) (peers_of false calls)
    (λ q. apart p q (Clean s) Dirty (no-kind (bytes_eq q p) false refl) calls)) i)
    ∙ append-nil (filter (is_of p (Clean s)) calls)

-- The groups of a peer and kind, joined, are the calls of that peer and kind.
pub groups-keep : (p : List ℕ) (k : Due) (calls : List DueCall) → filter (is_of p k) (flat_map calls_of (grouped (in_order calls))) ≡ filter (is_of p k) calls
groups-keep p k calls = ap (filter (is_of p k)) (are-grouping (in_order calls)).joined ∙ order-keeps p k calls
