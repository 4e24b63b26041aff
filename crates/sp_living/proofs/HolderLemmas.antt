-- Holders of the foreign references among references, one after the other.
use Rattle.std.proofs.Common.{◌≡◌, ℕ, ◌+◌, ◌<◌, Bool, true, false, cond, List, [], ◌∷◌, ◌++◌, refl, sym, ap, ◌∙◌, take, get_or, length, append-nil}
use Rattle.std.specs.Prelude.{not}
use Rattle.std.proofs.lemmas.Grind.{flat_map-append, take_at_read}
use Rattle.std.specs.Str.{bytes_eq}
use Rattle.space_ids.specs.declared.ids.ForeignId.{ForeignId}
use Rattle.space_ids.specs.declared.ids.Ref.{Ref}
use Rattle.uuid.specs.declared.Uuid.{Uuid}
use Rattle.sp_rules.specs.Classes.{Setting}
use Rattle.sp_rules.specs.Holders.{drop, drop_ids, hold, hold_ids, holder_comes, holder_goes}
use Rattle.sp_rules.specs.References.{foreign_id, foreign_ids}
use Rattle.sp_rules.specs.State.{State}
use Rattle.sp_living.proofs.LivingLemmas.{dropped-append, dropped-none, dropped-one, held-append, held-none, held-one}

next : (refs : List Ref) (i : ℕ) (r : Ref) → i < length refs → r ≡ get_or refs i r → take (i + 1) refs ≡ take i refs ++ r ∷ []
next refs i r lt is = (take_at_read refs i r lt).1 ∙ ap (λ (x : Ref). take i refs ++ x ∷ []) (sym is)

-- the foreign ones so far, and that of one more
foreign-next : (own : Uuid) (refs : List Ref) (i : ℕ) (r : Ref) → i < length refs → r ≡ get_or refs i r
    → foreign_ids own (take (i + 1) refs) ≡ foreign_ids own (take i refs) ++ foreign_id own r
foreign-next own refs i r lt is =
    ap (foreign_ids own) (next refs i r lt is) ∙ flat_map-append (foreign_id own) (take i refs) (r ∷ []) ∙ ap (λ (xs : List ForeignId). foreign_ids own (take i refs) ++ xs) (append-nil (foreign_id own r))

pub hold-next : (g : Setting) (refs : List Ref) (i : ℕ) (r : Ref) (s : State) → i < length refs → r ≡ get_or refs i r
    → hold g (take (i + 1) refs) s ≡ hold_ids (foreign_id g.id r) (hold g (take i refs) s)
hold-next g refs i r s lt is = ap (λ (ids : List ForeignId). hold_ids ids s) (foreign-next g.id refs i r lt is) ∙ held-append (foreign_ids g.id (take i refs)) (foreign_id g.id r) s

pub drop-next : (g : Setting) (refs : List Ref) (i : ℕ) (r : Ref) (s : State) → i < length refs → r ≡ get_or refs i r
    → drop g (take (i + 1) refs) s ≡ drop_ids (foreign_id g.id r) (drop g (take i refs) s)
drop-next g refs i r s lt is = ap (λ (ids : List ForeignId). drop_ids ids s) (foreign-next g.id refs i r lt is) ∙ dropped-append (foreign_ids g.id (take i refs)) (foreign_id g.id r) s

-- one alone
pub hold-one : (g : Setting) (r : Ref) (s : State) → hold g (r ∷ []) s ≡ hold_ids (foreign_id g.id r) s
hold-one g r s = ap (λ (ids : List ForeignId). hold_ids ids s) (append-nil (foreign_id g.id r))

pub drop-one : (g : Setting) (r : Ref) (s : State) → drop g (r ∷ []) s ≡ drop_ids (foreign_id g.id r) s
drop-one g r s = ap (λ (ids : List ForeignId). drop_ids ids s) (append-nil (foreign_id g.id r))

-- of an own reference none is foreign
own-none : (own : Uuid) (r : Ref) → bytes_eq r.space own ≡ true → foreign_id own r ≡ []
own-none own r h = ap (λ (b : Bool). cond b [] (record { space = r.space; id = r.id } ∷ [])) h

foreign-some : (own : Uuid) (r : Ref) → bytes_eq r.space own ≡ false → foreign_id own r ≡ record { space = r.space; id = r.id } ∷ []
foreign-some own r h = ap (λ (b : Bool). cond b [] (record { space = r.space; id = r.id } ∷ [])) h

pub hold-own : (own : Uuid) (r : Ref) (s : State) → bytes_eq r.space own ≡ true → hold_ids (foreign_id own r) s ≡ s
hold-own own r s h = ap (λ (ids : List ForeignId). hold_ids ids s) (own-none own r h) ∙ held-none s

pub drop-own : (own : Uuid) (r : Ref) (s : State) → bytes_eq r.space own ≡ true → drop_ids (foreign_id own r) s ≡ s
drop-own own r s h = ap (λ (ids : List ForeignId). drop_ids ids s) (own-none own r h) ∙ dropped-none s

pub hold-foreign : (own : Uuid) (r : Ref) (s : State) → bytes_eq r.space own ≡ false → hold_ids (foreign_id own r) s ≡ holder_comes s (record { space = r.space; id = r.id })
hold-foreign own r s h = ap (λ (ids : List ForeignId). hold_ids ids s) (foreign-some own r h) ∙ held-one (record { space = r.space; id = r.id }) s

pub drop-foreign : (own : Uuid) (r : Ref) (s : State) → bytes_eq r.space own ≡ false → drop_ids (foreign_id own r) s ≡ holder_goes s (record { space = r.space; id = r.id })
drop-foreign own r s h = ap (λ (ids : List ForeignId). drop_ids ids s) (foreign-some own r h) ∙ dropped-one (record { space = r.space; id = r.id }) s

pub not-true : (b : Bool) → not b ≡ true → b ≡ false
not-true true h = cc
not-true false h = refl

pub not-false : (b : Bool) → not b ≡ false → b ≡ true
not-false true h = refl
not-false false h = cc
