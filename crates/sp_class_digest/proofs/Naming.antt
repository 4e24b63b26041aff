-- What holds of each of some files, and of one file more.
use Rattle.cf_layout.specs.FileFormat.{LaysOut, file_format}
use Rattle.cf_layout.specs.declared.items.Layout.{Layout}
use Rattle.cf_reader.specs.declared.class_file.ClassFile.{ClassFile}
use Rattle.cf_text.specs.Reading.{Fails}
use Rattle.cf_text.specs.declared.fault.ReadFault.{ReadFault}
use Rattle.cf_text.specs.declared.fault.ReadFault.TheVariants.{Broken, Memory}
use Rattle.cf_text.specs.declared.fault.Rule.{Rule}
use Rattle.sp_class_digest.specs.ClassDigests.{IsClassFile}
use Rattle.sp_files.specs.Files.{AreSpelled}
use Rattle.sp_files.specs.declared.files.ClassBytes.{ClassBytes}
use Rattle.std.proofs.lemmas.Bool.{leb-true}
use Rattle.std.proofs.Common.{All, arith, Ok, ◌≡◌, ◌++◌, ◌<◌, ◌≤◌, ◌∙◌, ℕ, zero, suc, List, [], ◌∷◌, Some, length, get_or, ap, sym, subst}
use Rattle.std.proofs.lemmas.Option.{slice_get-get_or}
use Rattle.std.specs.Prelude.{take, slice_get}
use Rattle.std.specs.List.{AllZip}

-- what an index gives
pub found : {A : Type 0} (xs : List A) (index : ℕ) (x : A) → index < length xs → x ≡ get_or xs index x → slice_get xs index ≡ Some x
found {A} xs index x within is = slice_get-get_or xs index x within ∙ ap {A = A} (λ y. Some y) (sym is)

pub zip-next : {A B : Type 0} (P : A → B → Type 0) (xs : List A) (index : ℕ) (x : A) (ys : List B) (y : B)
    → slice_get xs index ≡ Some x → AllZip P (take index xs) ys → P x y → AllZip P (take (suc index) xs) (ys ++ y ∷ [])
zip-next P [] index x ys y is before holds = absurd (cc)
zip-next P (a ∷ xs) zero x [] y is before holds =
    let same : a ≡ x = cc in
    (subst (λ b. P b y) (sym same) holds, tt)
zip-next P (a ∷ xs) zero x (b ∷ ys) y is before holds = absurd before
zip-next P (a ∷ xs) (suc index) x [] y is before holds = absurd before
zip-next P (a ∷ xs) (suc index) x (b ∷ ys) y is before holds = (before.0, zip-next P xs index x ys y is before.1 holds)

pub zip-at : {A B : Type 0} (P : A → B → Type 0) (xs : List A) (ys : List B) (index : ℕ) (x : A) (y : B)
    → slice_get xs index ≡ Some x → slice_get ys index ≡ Some y → AllZip P xs ys → P x y
zip-at P [] ys index x y is there all = absurd (cc)
zip-at P (a ∷ xs) [] index x y is there all = absurd all
zip-at P (a ∷ xs) (b ∷ ys) zero x y is there all =
    let same : a ≡ x = cc in
    let other : b ≡ y = cc in
    subst (λ c. P c y) same (subst (P a) other all.0)
zip-at P (a ∷ xs) (b ∷ ys) (suc index) x y is there all = zip-at P xs ys index x y is there all.1

-- each of the files that spell class files is one
pub class-files : (files : List ClassBytes) (classes : List ClassFile) → AreSpelled files classes → All IsClassFile files
class-files [] classes spelled k d below = absurd (omega (arith, below))
class-files (file ∷ files) [] spelled k d below = absurd spelled
class-files (file ∷ files) (class ∷ classes) spelled zero d below = (class, spelled.0)
class-files (file ∷ files) (class ∷ classes) spelled (suc k) d below = class-files files classes spelled.1 k d (omega (arith, below))

-- what is laid out as a class file is not longer than one may be
pub short-file : (bytes : List ℕ) (layout : Layout) → LaysOut bytes layout → length bytes < 4294967296
unfolding file_format
short-file bytes layout laid =
    let few : length bytes ≤ 1048576 = leb-true (length bytes) 1048576 laid.1.0 in
    omega (arith, few)

-- a reading that has an answer fails for want of memory alone
pub not-broken : (class : ClassFile) (fault : ReadFault) (rule : Rule) (at : ℕ) → Fails (Ok class) fault → fault ≡ Broken rule at → ⊥
not-broken class (Broken other place) rule at fails is = absurd (cc)
not-broken class Memory rule at fails is = absurd (cc)
