-- Two lists related item by item, read from their ends.
use Rattle.std.proofs.Common.{List, [], ◌∷◌, reverse, ◌↔◌}
use Rattle.std.specs.List.{AllZip}
use Rattle.std.proofs.lemmas.List.{reverse-reverse}
use mathlib.Core.List.{reverse_aux}

zip_onto : {A B : Type 0} (R : A → B → Type 0) (xs front : List A) (ys others : List B) → AllZip R xs ys → AllZip R front others → AllZip R (reverse_aux xs front) (reverse_aux ys others)
zip_onto R [] front [] others h so_far = so_far
zip_onto R [] front (y ∷ ys) others h so_far = absurd h
zip_onto R (x ∷ xs) front [] others h so_far = absurd h
zip_onto R (x ∷ xs) front (y ∷ ys) others h so_far = zip_onto R xs (x ∷ front) ys (y ∷ others) h.1 (h.0, so_far)

-- the lists are related exactly if they are so backwards
pub zip_backwards : {A B : Type 0} (R : A → B → Type 0) (xs : List A) (ys : List B) → AllZip R xs ys ↔ AllZip R (reverse xs) (reverse ys)
zip_backwards R xs ys =
    (λ h. zip_onto R xs [] ys [] h tt, λ h. let back : AllZip R (reverse (reverse xs)) (reverse (reverse ys)) = zip_onto R (reverse xs) [] (reverse ys) [] h tt in simp reverse-reverse at back)
