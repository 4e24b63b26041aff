-- The paths of class files in a folder. (This project's own; POSIX 3.170 and 4.13 for names of entries.)
use Rattle.std.specs.Prelude.{◌≡◌, ◌⊎◌, ◌<◌, ◌==◌, ◌++◌, ◌∷◌, [], if◌then◌else◌, ℕ, false, List, All, codes, eqb, length, string_bytes}
use Rattle.std.specs.List.{ends_with, list_any}
use Rattle.sp_words.specs.declared.folder.Found.{Found}
use Rattle.sp_words.specs.declared.folder.FolderFault.{FolderFault}
use Rattle.sp_words.specs.declared.folder.FolderFault.TheVariants.{CannotRead, Memory}

-- A name of an entry of a folder: it has a byte and no slash, and is neither of the two names that stand for the folder
-- itself and for the one above it (POSIX 3.170, 4.13)
pub record IsEntryName (name : List ℕ) : Type 0 where
  pub some : 0 < length name
  pub flat : list_any (λ byte. byte == 47) name ≡ false
  pub below : name ≡ codes "." → ⊥
  pub inside : name ≡ codes ".." → ⊥

-- the path of a name in a folder: one slash stands between, which may be the folder's last byte
abbrev pub joined : List ℕ → List ℕ → List ℕ
joined folder name = if ends_with eqb folder (47 ∷ []) then folder ++ name else folder ++ (47 ∷ name)

-- the path to which a list of names leads from a folder
unfoldable pub path_of : List ℕ → List (List ℕ) → List ℕ
path_of folder [] = folder
path_of folder (name ∷ names) = path_of (joined folder name) names

-- a path is the folder's own, or that of a folder below it
pub record IsBelow (folder path : List ℕ) : Type 0 where
  pub names : List (List ℕ)
  pub entries : All IsEntryName names
  pub path_is : path ≡ path_of folder names

-- the path of a class file in a folder or below it: its name ends in `.class`
pub record IsClassPath (folder path : List ℕ) : Type 0 where
  pub parent : List ℕ
  pub below : IsBelow folder parent
  pub name : List ℕ
  pub entry : IsEntryName name
  pub stem : List ℕ
  pub is_class : name ≡ stem ++ codes ".class"
  pub path_is : path ≡ joined parent name

-- what was found so far below a folder
abbrev pub AreBelow : List ℕ → Found → Type 0
AreBelow folder found = All (λ path. IsClassPath folder (string_bytes path)) found.files.items × All (λ path. IsBelow folder (string_bytes path)) found.folders.items

-- a path is one of an entry of the folder, or of a folder below it; its name may be written in other bytes than it has
pub record IsEntryBelow (folder path : List ℕ) : Type 0 where
  pub parent : List ℕ
  pub below : IsBelow folder parent
  pub written : List ℕ
  pub path_is : path ≡ joined parent written

-- a fault names the folder, one below it, or an entry of one of these
abbrev pub NamesBelow : List ℕ → FolderFault → Type 0
NamesBelow folder (CannotRead path) = IsBelow folder (string_bytes path) ⊎ IsEntryBelow folder (string_bytes path)
NamesBelow folder Memory = Unit {0}

-- what was found stays below each folder that this one is below
abbrev pub Keeps : (folder : List ℕ) → (old new : Found) → Type 0
Keeps folder old new = (root : List ℕ) → IsBelow root folder → AreBelow root old → AreBelow root new

-- a fault names what is below each folder that this one is below
abbrev pub Blames : (folder : List ℕ) → FolderFault → Type 0
Blames folder fault = (root : List ℕ) → IsBelow root folder → NamesBelow root fault
