-- The digest of class files: SHA-256 over them in the order of their names, each with its length in four bytes before it. (This project's own.)
use Rattle.std.specs.Prelude.{◌≡◌, ◌<◌, ◌^◌, ◌++◌, ℕ, List, length, map}
use Rattle.std.specs.Int.{w32, to_be_bytes}
use Rattle.std.specs.List.{concat}
use Rattle.std.specs.List.Sorted.{IsPermutation, IsSortedBy}
use Rattle.std.specs.Cmp.Lexicographic.{slice_cmp}
use Rattle.std.specs.Ordering.{is_lt, nat_cmp}
use Rattle.sha2.specs.Sha256.{sha256}
use Rattle.sp_digest.specs.declared.files.NamedFile.{NamedFile}

-- its length fits in four bytes
abbrev pub IsShort : NamedFile → Type 0
IsShort file = length file.bytes.now < 2 ^ 32

-- a file with its length before it, the highest byte first
abbrev pub counted : NamedFile → List ℕ
counted file = to_be_bytes w32 (length file.bytes.now) ++ file.bytes.now

-- the message of which the digest is made
abbrev pub spelled : List NamedFile → List ℕ
spelled files = concat (map counted files)

-- none has a name below the name of one before it, byte by byte
abbrev pub AreInOrder : List NamedFile → Type 0
AreInOrder files = IsSortedBy (λ a b. is_lt (slice_cmp nat_cmp a.name.now b.name.now)) files

-- the digest of the files in the order of their names
pub record IsDigest (files : List NamedFile) (digest : List ℕ) : Type 0 where
  pub ordered : List NamedFile
  pub same : IsPermutation files ordered
  pub in_order : AreInOrder ordered
  pub made : digest ≡ sha256 (spelled ordered)
