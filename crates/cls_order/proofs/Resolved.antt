use Rattle.std.proofs.Common.{◌≡◌, ◌≢◌, ℕ, ◌+◌, List, [], ◌∷◌, length, get_or, map, refl, sym, subst, ap, ◌∙◌, arith}
use Rattle.std.specs.List.{AllWithin, HoldsAt}
use Rattle.std.proofs.lemmas.List.{length-map}
use Rattle.std.proofs.lemmas.List.Elements.{AllWithin-more}
use Rattle.cls_order.specs.declared.entries.Entry.{Entry}
use Rattle.cls_order.specs.declared.fault.SetFault.{SetFault}
use Rattle.cls_order.specs.Building.{kept, origins_of, IsAbsentFault}
use Rattle.cls_order.specs.Classes.{names}
use Rattle.cls_order.specs.Entries.{classes_of}
use Rattle.cls_order.specs.Sets.{Origin, origin}

names_from_kept : (entries : List Entry) → names (classes_of entries) ≡ map (λ (k : Origin × ℕ). k.0.0.name) (map kept entries)
names_from_kept [] = refl
names_from_kept (m ∷ ms) = ap (λ ns. m.class.file.name ∷ ns) (names_from_kept ms)

-- resolving changes no name and no length
pub names_kept : (xs ys : List Entry) → map kept xs ≡ map kept ys → names (classes_of xs) ≡ names (classes_of ys)
names_kept xs ys e = names_from_kept xs ∙ (ap (map (λ (k : Origin × ℕ). k.0.0.name)) e ∙ sym (names_from_kept ys))

origins_from_kept : (entries : List Entry) → origins_of entries ≡ map (λ (k : Origin × ℕ). k.0) (map kept entries)
origins_from_kept [] = refl
origins_from_kept (m ∷ ms) = ap (λ os. origin m.class ∷ os) (origins_from_kept ms)

pub origins_kept : (xs ys : List Entry) → map kept xs ≡ map kept ys → origins_of xs ≡ origins_of ys
origins_kept xs ys e = origins_from_kept xs ∙ (ap (map (λ (k : Origin × ℕ). k.0)) e ∙ sym (origins_from_kept ys))

-- an absent supertype, if the entries are those of before but for what resolving changes
pub absent_kept : (xs ys : List Entry) (e : SetFault) → map kept xs ≡ map kept ys → IsAbsentFault (names (classes_of xs)) (origins_of xs) e → IsAbsentFault (names (classes_of ys)) (origins_of ys) e
absent_kept xs ys e same h =
    subst (λ ns. IsAbsentFault ns (origins_of ys) e) (names_kept xs ys same) (subst (λ os. IsAbsentFault (names (classes_of xs)) os e) (origins_kept xs ys same) h)

pub length_kept : (xs ys : List Entry) → map kept xs ≡ map kept ys → length xs ≡ length ys
length_kept xs ys e = sym (length-map xs kept) ∙ (ap length e ∙ length-map ys kept)

-- one more is resolved
pub AllWithin-next : (P : Entry → Type 0) (old new : List Entry) (i : ℕ) → AllWithin P old 0 i → ((k : ℕ) (d : Entry) → k ≢ i → get_or new k d ≡ get_or old k d) → HoldsAt P new i → AllWithin P new 0 (i + 1)
AllWithin-next P old new i all others here =
    AllWithin-more P new 0 i (λ k d low high. let ne : k ≢ i = omega arith in subst P (sym (others k d ne)) (all k d low high)) here
