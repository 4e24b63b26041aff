-- A class file that is too long is known as such by its front.
use Rattle.std.proofs.Common.{◌≡◌, ℕ, ◌<◌, List, length, take, Option, Some, None, Result, Err, refl, sym, ap, ◌∙◌, arith, subst, inl, inr}
use Rattle.std.specs.Prelude.{IfSome}
use Rattle.std.proofs.lemmas.Bool.{cases_lt, lt-leb}
use Rattle.std.proofs.lemmas.List.{length-take, take_all}
use Rattle.cf_text.specs.declared.fault.ReadFault.{ReadFault}
use Rattle.cf_text.specs.declared.fault.ReadFault.TheVariants.{Broken}
use Rattle.cf_text.specs.declared.fault.Rule.TheVariants.{TooLarge}
use Rattle.cf_text.specs.Demands.{verdict}
use Rattle.cf_reader.specs.declared.class_file.ClassFile.{ClassFile}
use Rattle.cf_load.specs.declared.load_fault.LoadFault.{LoadFault}
use Rattle.cf_reader.specs.Builds.{reading_of}
use Rattle.cf_layout.specs.Layouts.{file_at, layout_of}
use Rattle.cf_load.specs.Loads.{Loads}

-- what is too long is refused as such, however long
too_large : (bytes : List ℕ) → 1048576 < length bytes → reading_of bytes ≡ Err (Broken TooLarge 1048576)
unfolding reading_of layout_of file_at verdict
too_large bytes long = rw (lt-leb (length bytes) 1048576 long) refl

-- the front of the bytes reads as all of them
pub reading-front : (bytes : List ℕ) → reading_of (take 1048577 bytes) ≡ reading_of bytes
reading-front bytes =
    elim (cases_lt 1048576 (length bytes)) [
      | inl long ↦ too_large (take 1048577 bytes) (omega (arith, length-take 1048577 bytes)) ∙ sym (too_large bytes long)
      | inr few ↦ ap reading_of (take_all 1048577 bytes (omega arith))
    ]

-- a reading of all that a source had, from the reading of the front
pub loaded : (before : Option (List ℕ)) (front : List ℕ) (answer : Result ClassFile LoadFault)
    → IfSome before (λ all. front ≡ take 1048577 all) → Loads (reading_of front) answer → IfSome before (λ all. Loads (reading_of all) answer)
loaded None front answer known given = tt
loaded (Some all) front answer known given =
    let same : reading_of front ≡ reading_of all = ap reading_of known ∙ reading-front all in
    subst (λ (reading : Result ClassFile ReadFault). Loads reading answer) same given
