-- What stays when a task comes by a reference, and what stands at the reference's row.
use Rattle.std.proofs.Common.{◌≡◌, ℕ, zero, suc, Bool, true, false, List, [], ◌∷◌, ◌++◌, length, refl, ap, sym, subst, ◌∙◌, Option, Some, None}
use Rattle.std.specs.Prelude.{◌==◌, ◌&&◌, nat_lt, get_or, slice_get, if◌then◌else◌}
use Rattle.std.specs.Str.{bytes_eq}
use Rattle.std.proofs.lemmas.Bool.{eqb-true}
use Rattle.std.proofs.lemmas.List.Quantifiers.{position-Some}
use Rattle.std.proofs.lemmas.Option.{slice_get-get_or}
use Rattle.std.proofs.lemmas.Slice.Eq.{bytes_eq-Decides}
use Rattle.space_ids.specs.declared.ids.ClassId.{ClassId}
use Rattle.space_ids.specs.declared.ids.Ref.{Ref}
use Rattle.vm_heap.specs.References.{Table, is_same_reference, row_for, row_of, row_or_new, with_reference, with_reference_unless}
use Rattle.vm_heap.specs.Tagged.{ReferenceRow}
use Rattle.vm_typing.specs.Fits.{Held, Pointee, OfSpace, OfStub, remote_pointee, pointee_at}
use Rattle.vm_typing.proofs.Kept.{Keeps, KeepsCells}
use Rattle.vm_typing.proofs.Kept as kept
use Rattle.vm_typing.proofs.Objects.{both_true}
use Rattle.vm_typing.proofs.Turns.{get_front}

-- the same reference stands for an object of the same space and class
same_pointee : (table : Table) (r x : Ref) → is_same_reference r x ≡ true → remote_pointee table x ≡ remote_pointee table r
same_pointee table r x same =
    let both = both_true (bytes_eq r.space x.space) (r.id.0 == x.id.0 && r.class.0 == x.class.0) same in
    let more = both_true (r.id.0 == x.id.0) (r.class.0 == x.class.0) both.1 in
    let space : r.space ≡ x.space = (bytes_eq-Decides r.space x.space).0 both.0 in
    let number : r.class.0 ≡ x.class.0 = eqb-true r.class.0 x.class.0 more.1 in
    let class : r.class ≡ x.class = ap (λ (n : ℕ). record { 0 = n }) number in
    ap (λ s. if bytes_eq s table.own then OfSpace x.class else OfStub x.class) (sym space)
    ∙ ap (λ (c : ClassId). if bytes_eq r.space table.own then OfSpace c else OfStub c) (sym class)

get_more : {A : Type 0} (xs ys : List A) (n : ℕ) (x : A) → slice_get xs n ≡ Some x → slice_get (xs ++ ys) n ≡ Some x
get_more [] ys n x e = absurd (cc)
get_more (z ∷ xs) ys zero x e = e
get_more (z ∷ xs) ys (suc n) x e = get_more xs ys n x e

-- what a task holds once it has come by the reference: nothing that it held changes
pub record Comes (before after : Held) (reference : Ref) (row : ℕ) : Type 0 where
  pub keeps : Keeps before after
  pub there : pointee_at after (ReferenceRow row) ≡ Some (remote_pointee before.references reference)

-- a reference that the task has come by stands at its row
pub known_there : (held : Held) (r : Ref) (row : ℕ) → row_of held.references.rows r ≡ Some row → pointee_at held (ReferenceRow row) ≡ Some (remote_pointee held.references r)
unfolding row_of
known_there held r row is =
    let first = position-Some (is_same_reference r) held.references.rows row r is in
    let found : slice_get held.references.rows row ≡ Some (get_or held.references.rows row r) = slice_get-get_or held.references.rows row r first.0 in
    rw found (ap (λ (p : Pointee). Some p) (same_pointee held.references r (get_or held.references.rows row r) first.1))

itself : (held : Held) → Keeps held held
itself held = record { heap = kept.all_kept held.cells; own = refl; rows = λ row reference is. is }

pub comes : (held : Held) (r : Ref) (row : ℕ) → row_for r held.references ≡ Some row
    → Comes held (record held { references = with_reference r held.references }) r row
comes held r row is = at (row_of held.references.rows r) refl is
  where
    new : (b : Bool) → (if b then Some (length held.references.rows) else None) ≡ Some row
        → Comes held (record held { references = if b then record held.references { rows = held.references.rows ++ r ∷ [] } else held.references }) r row
    new false e = absurd (cc)
    new true e =
        let last : length held.references.rows ≡ row = cc in
        let found : slice_get (held.references.rows ++ r ∷ []) row ≡ Some r =
        subst (λ (n : ℕ). slice_get (held.references.rows ++ r ∷ []) n ≡ Some r) last (get_front held.references.rows [] r) in
        record {
          keeps = record {
            heap = kept.all_kept held.cells;
            own = refl;
            rows = λ k x there. get_more held.references.rows (r ∷ []) k x there;
          };
          there = rw found refl;
        }

    at : (o : Option ℕ) → row_of held.references.rows r ≡ o → row_or_new held.references o ≡ Some row
        → Comes held (record held { references = with_reference_unless r held.references o }) r row
    at None e f = new (nat_lt (length held.references.rows) held.references.limit) f
    at (Some k) e f = let here : k ≡ row = cc in record { keeps = itself held; there = known_there held r row (e ∙ ap (λ (n : ℕ). Some n) here) }
