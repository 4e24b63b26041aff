-- What a folder tells of its files: their paths, and the bytes of each. (This project's own.)
use Rattle.std.specs.Prelude.{◌≡◌, ◌∷◌, [], ⊤, ℕ, List, Option, String, IfSome, string_bytes, take}
use Rattle.std.specs.Global.{Global}
use Rattle.sp_files.specs.declared.files.ClassBytes.{ClassBytes}
use Rattle.sp_files.specs.declared.files.Content.{Content}
use Rattle.sp_files.specs.declared.files.Content.TheVariants.{Bytes, Unreadable}

-- the content of a file is what its device gave: all of its bytes, or its first `most`
abbrev pub IsContent : (most : ℕ) → (gives : Option (List ℕ) → Type 0) → Content → Type 0
IsContent most gives (Bytes bytes) = (known : Option (List ℕ)) × gives known × IfSome known (λ all. bytes.items ≡ take most all)
IsContent most gives Unreadable = ⊤

-- the files after one: none if its device failed
abbrev pub AfterFile : Content → (rest : Type 0) → List ClassBytes → Type 0
AfterFile (Bytes bytes) rest files = rest
AfterFile Unreadable rest files = files ≡ []

-- the files of these paths are read in their order, up to the first whose device fails; of a file are read all of its bytes, or one more
-- than a class file may have
abbrev pub AreRead : (gives : List ℕ → Option (List ℕ) → Type 0) → List (String Global) → List ClassBytes → Type 0
AreRead gives [] [] = ⊤
AreRead gives [] (file ∷ files) = ⊥
AreRead gives (path ∷ paths) [] = ⊥
AreRead gives (path ∷ paths) (file ∷ files) =
    (file.path ≡ path) × IsContent 1048577 (gives (string_bytes path)) file.content × AfterFile file.content (AreRead gives paths files) files

-- what a folder tells: of a listing by the folder's path, and of the bytes of the file at a path
pub record Telling : Type 1 where
  pub lists : List ℕ → List (String Global) → Type 0
  pub gives : List ℕ → Option (List ℕ) → Type 0

abbrev pub told_by : (lists : List ℕ → List (String Global) → Type 0) → (gives : List ℕ → Option (List ℕ) → Type 0) → Telling
told_by lists gives = record { lists = lists; gives = gives }

-- class files are those of a folder
pub record AreFilesOf (telling : Telling) (folder : List ℕ) (files : List ClassBytes) : Type 0 where
  pub paths : List (String Global)
  pub listed : telling.lists folder paths
  pub read : AreRead telling.gives paths files
