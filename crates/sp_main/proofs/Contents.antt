-- Files that are read one after the other.
use Rattle.std.proofs.Common.{◌≡◌, ◌++◌, ◌∷◌, [], ℕ, List, Option, String, Global, refl, string_bytes, sym, subst}
use Rattle.std.specs.List.{AllZip}
use Rattle.sp_main.specs.Folders.{AreRead, AfterFile, IsContent}
use Rattle.sp_files.specs.declared.files.ClassBytes.{ClassBytes}
use Rattle.sp_files.specs.declared.files.Content.{Content}
use Rattle.sp_files.specs.declared.files.Content.TheVariants.{Bytes, Unreadable}

-- the device of a file gave all of it
abbrev pub IsWhole : Content → Type 0
IsWhole (Bytes bytes) = Unit {0}
IsWhole Unreadable = ⊥

module _ (gives : List ℕ → Option (List ℕ) → Type 0) where
  -- the files of these paths, each whole
  abbrev pub AreWhole : List (String Global) → List ClassBytes → Type 0
  AreWhole paths files = AllZip (λ path file. (file.path ≡ path) × IsContent 1048577 (gives (string_bytes path)) file.content × IsWhole file.content) paths files

  pub one_file_more : (paths : List (String Global)) (files : List ClassBytes) (path : String Global) (file : ClassBytes) → AreWhole paths files → file.path ≡ path
      → IsContent 1048577 (gives (string_bytes path)) file.content → IsWhole file.content → AreWhole (paths ++ path ∷ []) (files ++ file ∷ [])
  one_file_more [] [] path file whole is content now = ((is, content, now), tt)
  one_file_more [] (f ∷ files) path file whole is content now = absurd whole
  one_file_more (p ∷ paths) [] path file whole is content now = absurd whole
  one_file_more (p ∷ paths) (f ∷ files) path file whole is content now = (whole.0, one_file_more paths files path file whole.1 is content now)

  -- what follows a whole file
  after_whole : (content : Content) (rest : Type 0) (files : List ClassBytes) → IsWhole content → rest → AfterFile content rest files
  after_whole (Bytes bytes) rest files whole read = read
  after_whole Unreadable rest files whole read = absurd whole

  -- all files are whole
  pub all_read : (paths : List (String Global)) (files : List ClassBytes) → AreWhole paths files → AreRead gives paths files
  all_read [] [] whole = tt
  all_read [] (f ∷ files) whole = whole
  all_read (p ∷ paths) [] whole = whole
  all_read (p ∷ paths) (f ∷ files) whole = (whole.0.0, whole.0.1, after_whole f.content _ files whole.0.2 (all_read paths files whole.1))

  -- the last file is not
  pub last_unreadable : (paths rest : List (String Global)) (files : List ClassBytes) (path : String Global) (file : ClassBytes) → AreWhole paths files → file.path ≡ path
      → IsContent 1048577 (gives (string_bytes path)) file.content → file.content ≡ Unreadable → AreRead gives (paths ++ path ∷ rest) (files ++ file ∷ [])
  last_unreadable [] rest [] path file whole is content now = (is, content, subst (λ (c : Content). AfterFile c (AreRead gives rest []) []) (sym now) refl)
  last_unreadable [] rest (f ∷ files) path file whole is content now = absurd whole
  last_unreadable (p ∷ paths) rest [] path file whole is content now = absurd whole
  last_unreadable (p ∷ paths) rest (f ∷ files) path file whole is content now =
      (whole.0.0, whole.0.1, after_whole f.content _ (files ++ file ∷ []) whole.0.2 (last_unreadable paths rest files path file whole.1 is content now))

-- a device that did not fail gave all
pub whole_default : (content : Content) → (content ≡ Unreadable → ⊥) → IsWhole content
whole_default (Bytes bytes) readable = tt
whole_default Unreadable readable = absurd (readable refl)
