-- What is done for each of a list in turn, as the list grows; and what is asked of peers, beside references that are let go.
use Rattle.std.proofs.Common.{◌≡◌, ℕ, ◌+◌, ◌<◌, ◌++◌, Bool, List, [], ◌∷◌, get_or, length, map, refl, sym, ap, ◌∙◌, take}
use Rattle.std.proofs.lemmas.Grind.{take_at_read}
use Rattle.std.proofs.lemmas.List.{map-append}
use Rattle.std.specs.Prelude.{filter, not}
use Rattle.space_ids.specs.declared.ids.ForeignId.{ForeignId}
use Rattle.sp_rules.specs.Endings.{unpark}
use Rattle.sp_rules.specs.Holders.{drop_ids, holder_goes}
use Rattle.sp_rules.specs.Lists.{each}
use Rattle.sp_rules.specs.ParkedFrames.{is_parked_at, remove_requests, take_parked}
use Rattle.sp_rules.specs.State.{State, ParkedFrame, Request}

pub each-more : {S A : Type 0} (f : S → A → S) (xs : List A) (x : A) (s : S) → each f (xs ++ x ∷ []) s ≡ f (each f xs s) x
unfolding each
each-more f [] x s = refl
each-more f (y ∷ ys) x s = each-more f ys x (f s y)

next : {A : Type 0} (xs : List A) (i : ℕ) (x : A) → i < length xs → x ≡ get_or xs i x → take (i + 1) xs ≡ take i xs ++ x ∷ []
next {A} xs i x within is = (take_at_read xs i x within).1 ∙ ap (λ (y : A). take i xs ++ y ∷ []) (sym is)

pub each-next : {S A : Type 0} (f : S → A → S) (xs : List A) (i : ℕ) (x : A) (s : S) → i < length xs → x ≡ get_or xs i x → each f (take (i + 1) xs) s ≡ f (each f (take i xs) s) x
each-next {A = A} f xs i x s within is = ap (λ (l : List A). each f l s) (next xs i x within is) ∙ each-more f (take i xs) x s

pub each-next-of : {S A B : Type 0} (f : S → B → S) (h : A → B) (xs : List A) (i : ℕ) (x : A) (s : S) → i < length xs → x ≡ get_or xs i x
    → each f (map h (take (i + 1) xs)) s ≡ f (each f (map h (take i xs)) s) (h x)
each-next-of {A = A} {B = B} f h xs i x s within is =
    ap (λ (l : List B). each f l s) (ap (map h) (next xs i x within is) ∙ map-append h (take i xs) (x ∷ []))
    ∙ each-more f (map h (take i xs)) (h x) s

-- the same of one that is read with this in place of none
pub each-read : {S A : Type 0} (f : S → A → S) (xs : List A) (i : ℕ) (d : A) (s : S) → i < length xs → each f (take (i + 1) xs) s ≡ f (each f (take i xs) s) (get_or xs i d)
each-read {A = A} f xs i d s within = ap (λ (l : List A). each f l s) ((take_at_read xs i d within).1) ∙ each-more f (take i xs) (get_or xs i d) s

pub each-read-of : {S A B : Type 0} (f : S → B → S) (h : A → B) (xs : List A) (i : ℕ) (d : A) (s : S) → i < length xs
    → each f (map h (take (i + 1) xs)) s ≡ f (each f (map h (take i xs)) s) (h (get_or xs i d))
each-read-of {A = A} {B = B} f h xs i d s within =
    ap (λ (l : List B). each f l s) (ap (map h) ((take_at_read xs i d within).1) ∙ map-append h (take i xs) (get_or xs i d ∷ []))
    ∙ each-more f (map h (take i xs)) (h (get_or xs i d)) s

pub each-none : {S A : Type 0} (f : S → A → S) (s : S) → each f [] s ≡ s
unfolding each
each-none f s = refl

-- ---- what is asked of peers, beside references that are let go

abbrev with_requests : List Request → State → State
with_requests rs s = record s { requests = rs }

drop-asks : (ids : List ForeignId) (rs : List Request) (s : State) → drop_ids ids (with_requests rs s) ≡ with_requests rs (drop_ids ids s)
unfolding drop_ids each
drop-asks [] rs s = refl
drop-asks (x ∷ xs) rs s = drop-asks xs rs (holder_goes s x)

let-asks : (ps : List ParkedFrame) (rs : List Request) (s : State)
    → each (λ t (q : ParkedFrame). drop_ids q.references t) ps (with_requests rs s) ≡ with_requests rs (each (λ t (q : ParkedFrame). drop_ids q.references t) ps s)
unfolding each
let-asks [] rs s = refl
let-asks (p ∷ ps) rs s = ap (each (λ t (q : ParkedFrame). drop_ids q.references t) ps) (drop-asks p.references rs s) ∙ let-asks ps rs (drop_ids p.references s)

unpark-asks : (ps : List ParkedFrame) (rs : List Request) (s : State) → each unpark ps (with_requests rs s) ≡ with_requests rs (each unpark ps s)
unfolding each
unpark-asks [] rs s = refl
unpark-asks (p ∷ ps) rs s =
    ap (each unpark ps) (let-asks (filter (is_parked_at p.conn p.number) s.parked) rs (take_parked p s)) ∙ unpark-asks ps rs (unpark s p)

-- what is asked stays as frames are dropped
pub unpark-requests : (ps : List ParkedFrame) (s : State) → (each unpark ps s).requests ≡ s.requests
unpark-requests ps s = ap (λ (t : State). t.requests) (unpark-asks ps s.requests s)

-- requests end before or after frames are dropped
pub unpark-removed : (is : Request → Bool) (ps : List ParkedFrame) (s : State) → each unpark ps (remove_requests is s) ≡ remove_requests is (each unpark ps s)
unpark-removed is ps s =
    unpark-asks ps (filter (λ (r : Request). not (is r)) s.requests) s
    ∙ ap (λ rs. with_requests (filter (λ (r : Request). not (is r)) rs) (each unpark ps s)) (sym (unpark-requests ps s))
