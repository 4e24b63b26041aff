use Rattle.std.proofs.Common.{◌≡◌, ℕ, suc, ◌+◌, true, false, List, [], ◌∷◌, ◌++◌, length, map, refl, sym, ap, ◌∙◌, arith, add-zero, zero-add}
use Rattle.cf_reader.specs.declared.class_file.ClassFile.{ClassFile}
use Rattle.cls_order.specs.declared.entries.Entry.{Entry}
use Rattle.cls_order.specs.BuiltIn.{built_in_files}
use Rattle.cls_order.specs.Building.{ranked_from, unresolved}
use Rattle.cls_order.specs.Sets.{Origin, origins}

pub length_ranked : (k : ℕ) (os : List Origin) → length (ranked_from k os) ≡ length os
length_ranked k [] = refl
length_ranked k (o ∷ os) = ap suc (length_ranked (suc k) os)

suc_moves : (k n : ℕ) → suc k + n ≡ k + suc n
suc_moves k n = omega arith

pub ranked_append : (k : ℕ) (xs ys : List Origin) → ranked_from k (xs ++ ys) ≡ ranked_from k xs ++ ranked_from (k + length xs) ys
ranked_append k [] ys = ap (λ n. ranked_from n ys) (sym (add-zero k))
ranked_append k (x ∷ xs) ys =
    ap (λ ms. record { class = unresolved x; rank = k } ∷ ms) (ranked_append (suc k) xs ys ∙ ap (λ n. ranked_from (suc k) xs ++ ranked_from n ys) (suc_moves k (length xs)))

pub started : (start first : List Entry) (built : List ClassFile) → start ≡ [] → built ≡ built_in_files → first ≡ start ++ ranked_from (length start) (map (λ file. (file, true)) built) → first ≡ ranked_from 0 (map (λ file. (file, true)) built_in_files)
started start first built none is e =
    e ∙ (ap (λ ms. ms ++ ranked_from (length ms) (map (λ (file : ClassFile). (file, true)) built)) none ∙ ap (λ fs. ranked_from 0 (map (λ (file : ClassFile). (file, true)) fs)) is)

-- what adding the built-in classes and then the files' leaves
pub gathered : (first second : List Entry) (files : List ClassFile) → first ≡ ranked_from 0 (map (λ file. (file, true)) built_in_files) → second ≡ first ++ ranked_from (length first) (map (λ file. (file, false)) files) → second ≡ ranked_from 0 (origins files)
gathered first second files e f =
    let built = map (λ (file : ClassFile). (file, true)) built_in_files in
    let given = map (λ (file : ClassFile). (file, false)) files in
    f ∙ (ap (λ ms. ms ++ ranked_from (length ms) given) e ∙ (ap (λ n. ranked_from 0 built ++ ranked_from n given) (length_ranked 0 built ∙ sym (zero-add (length built))) ∙ sym (ranked_append 0 built given)))
