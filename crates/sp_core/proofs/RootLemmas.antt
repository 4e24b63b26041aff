-- Why roots are refused.
use Rattle.std.proofs.Common.{◌≡◌, ℕ, zero, suc, ◌+◌, ◌<◌, Bool, true, false, cond, List, [], ◌∷◌, ◌++◌, Option, None, Some, refl, sym, ap, ◌∙◌, length, get_or, take, arith}
use Rattle.std.specs.Prelude.{nat_lt, not, ◌&&◌, is_some, option_map}
use Rattle.std.specs.List.{list_all}
use Rattle.std.specs.Str.{bytes_eq}
use Rattle.uuid.specs.declared.Uuid.{Uuid}
use Rattle.sp_rules.specs.Holders.{has_holder, is_own_standing, lease_now}
use Rattle.std.proofs.lemmas.List.{append-nil, take_more}
use Rattle.std.proofs.lemmas.Grind.{flat_map-append}
use Rattle.space_ids.specs.declared.ids.Ref.{Ref}
use Rattle.space_ids.specs.declared.value.Value.{Value}
use Rattle.sp_events.specs.FaultNames.{start_refusal}
use Rattle.sp_events.specs.declared.fault.StartFault.{StartFault}
use Rattle.sp_rules.specs.Classes.{Setting}
use Rattle.sp_rules.specs.Events.{Root}
use Rattle.sp_rules.specs.Frames.{is_busy}
use Rattle.sp_rules.specs.References.{reference_of, references_of}
use Rattle.sp_rules.specs.Refusals.{NotHeld, WrongKind, Busy, checks, first_refusal, is_root_argument, refusal_number, refuse_if, refuse_start}
use Rattle.sp_rules.specs.State.{State}
use Rattle.sp_core.specs.Roots.{root_number}

by-cases : (refused : Option StartFault) (may_have is_over busy : Bool)
    → option_map refusal_number (first_refusal (refuse_start (option_map start_refusal refused) ++ (refuse_if (not may_have) NotHeld ++ (refuse_if is_over WrongKind ++ refuse_if busy Busy))))
    ≡ root_number refused may_have is_over busy
by-cases (Some f) may_have is_over busy = refl
by-cases None false is_over busy = refl
by-cases None true true busy = refl
by-cases None true false true = refl
by-cases None true false false = refl

pub root-checks : (g : Setting) (lent : List ℕ) (s : State) (method : ℕ) (arguments : List Value) (fuel : ℕ) (refused : Option StartFault) (may_have is_over busy : Bool)
    → g.classes.start_refusal g.id method arguments ≡ option_map start_refusal refused
    → may_have ≡ list_all (is_root_argument g s) (references_of arguments) → is_over ≡ nat_lt g.limits.fuel fuel → busy ≡ is_busy s
    → option_map refusal_number (first_refusal (checks g lent s (Root method arguments fuel))) ≡ root_number refused may_have is_over busy
root-checks g lent s method arguments fuel refused may_have is_over busy told may over busies =
    (λ j. option_map refusal_number (first_refusal (refuse_start (told j) ++ (refuse_if (not (sym may j)) NotHeld ++ (refuse_if (sym over j) WrongKind ++ refuse_if (sym busies j) Busy)))))
    ∙ by-cases refused may_have is_over busy

-- ---- the references among values

and-false : (t : Bool) → (t && false) ≡ false
and-false true = refl
and-false false = refl

all-of-both : (p : Ref → Bool) (xs ys : List Ref) → list_all p (xs ++ ys) ≡ (list_all p xs && list_all p ys)
all-of-both p [] ys = refl
all-of-both p (x ∷ xs) ys = elim (p x) as (λ t. (t && list_all p (xs ++ ys)) ≡ ((t && list_all p xs) && list_all p ys)) [ true ↦ all-of-both p xs ys | false ↦ refl ]

pub all-more : (p : Ref → Bool) (xs : List Value) (i : ℕ) (d : Value) → i < length xs → list_all p (references_of (take i xs)) ≡ true → list_all p (reference_of (get_or xs i d)) ≡ true
    → list_all p (references_of (take (i + 1) xs)) ≡ true
all-more p xs i d within so_far now =
    let v = get_or xs i d in
    ap (λ vs. list_all p (references_of vs)) (take_more xs i d within)
    ∙ ap (list_all p) (flat_map-append reference_of (take i xs) (v ∷ []) ∙ ap (λ rs. references_of (take i xs) ++ rs) (append-nil (reference_of v)))
    ∙ all-of-both p (references_of (take i xs)) (reference_of v) ∙ (λ j. so_far j && now j)

pub all-fails : (p : Ref → Bool) (xs : List Value) (i : ℕ) (d : Value) → i < length xs → list_all p (reference_of (get_or xs i d)) ≡ false → list_all p (references_of xs) ≡ false
all-fails p [] i d within now = absurd (omega arith)
all-fails p (x ∷ xs) zero d within now = all-of-both p (reference_of x) (references_of xs) ∙ ap (λ t. t && list_all p (references_of xs)) now
all-fails p (x ∷ xs) (suc i) d within now =
    all-of-both p (reference_of x) (references_of xs) ∙ ap (λ t. list_all p (reference_of x) && t) (all-fails p xs i d (omega arith) now) ∙ and-false (list_all p (reference_of x))

-- ---- one reference

pub own-argument : (g : Setting) (s : State) (r : Ref) (own : Uuid) (is : Bool) → own ≡ g.id → bytes_eq r.space own ≡ true → is ≡ is_own_standing g s r → is ≡ is_root_argument g s r
own-argument g s r own is id here standing =
    standing ∙ sym (ap (λ t. cond t (is_own_standing g s r) (has_holder g s r && is_some (lease_now s (record { space = r.space; id = r.id })).lease)) (ap (bytes_eq r.space) (sym id) ∙ here))

leased-of : (g : Setting) (s : State) (r : Ref) (own : Uuid) → own ≡ g.id → bytes_eq r.space own ≡ false
    → is_root_argument g s r ≡ (has_holder g s r && is_some (lease_now s (record { space = r.space; id = r.id })).lease)
leased-of g s r own id away =
    ap (λ t. cond t (is_own_standing g s r) (has_holder g s r && is_some (lease_now s (record { space = r.space; id = r.id })).lease)) (ap (bytes_eq r.space) (sym id) ∙ away)

pub leased-argument : (g : Setting) (s : State) (r : Ref) (own : Uuid) (held leased : Bool) → own ≡ g.id → bytes_eq r.space own ≡ false → held ≡ has_holder g s r
    → leased ≡ is_some (lease_now s (record { space = r.space; id = r.id })).lease → leased ≡ true → held ≡ is_root_argument g s r
leased-argument g s r own held leased id away holds leases is_so =
    holds ∙ sym (and-true (has_holder g s r)) ∙ (λ j. has_holder g s r && (sym is_so ∙ leases) j) ∙ sym (leased-of g s r own id away)
  where
    and-true : (t : Bool) → (t && true) ≡ t
    and-true true = refl
    and-true false = refl

pub free-argument : (g : Setting) (s : State) (r : Ref) (own : Uuid) (leased : Bool) → own ≡ g.id → bytes_eq r.space own ≡ false
    → leased ≡ is_some (lease_now s (record { space = r.space; id = r.id })).lease → leased ≡ false → false ≡ is_root_argument g s r
free-argument g s r own leased id away leases not_so =
    sym (and-false (has_holder g s r)) ∙ (λ j. has_holder g s r && (sym not_so ∙ leases) j) ∙ sym (leased-of g s r own id away)
