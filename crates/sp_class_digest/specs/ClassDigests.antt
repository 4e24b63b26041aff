-- The digest of the files of a class set: SHA-256 over them in the order of the names of their classes, each with its length in four bytes before it. (This project's own rule.)
use Rattle.std.specs.Prelude.{◌≡◌, ℕ, List}
use Rattle.std.specs.List.{AllZip}
use Rattle.cf_layout.specs.declared.items.Layout.{Layout}
use Rattle.cf_reader.specs.declared.class_file.ClassFile.{ClassFile}
use Rattle.cf_reader.specs.Spells.{IsInProfile, Spells}
use Rattle.sp_files.specs.declared.files.ClassBytes.{ClassBytes}
use Rattle.sp_files.specs.declared.files.Content.{Content}
use Rattle.sp_files.specs.declared.files.Content.TheVariants.{Bytes, Unreadable}
use Rattle.sp_files.specs.Files.{IsSpelled}
use Rattle.sp_files.specs.Programs.{IsProgram}
use Rattle.cls_link.specs.Links.{Links}
use Rattle.sp_digest.specs.Digests.{IsDigest}
use Rattle.sp_digest.specs.declared.files.NamedFile.{NamedFile}

-- the files make a program
abbrev pub MakeAProgram : List ClassBytes → Type 0
MakeAProgram files = (program : Links) × IsProgram files program

-- the bytes spell a class file (JVMS 4.1), in profile
abbrev pub SpellsAClass : List ℕ → Type 0
SpellsAClass bytes = (class : ClassFile) × (layout : Layout) × Spells bytes layout class × IsInProfile bytes layout

-- the file was read, and spells one
abbrev pub IsClassFile : ClassBytes → Type 0
IsClassFile file = (class : ClassFile) × IsSpelled file.content class

-- the bytes spell a class of this name (JVMS 4.1), in profile
pub record NamesClass (bytes name : List ℕ) : Type 0 where
  pub layout : Layout
  pub class : ClassFile
  pub spells : Spells bytes layout class
  pub in_profile : IsInProfile bytes layout
  pub is : name ≡ class.name

abbrev pub HasNameIn : Content → List ℕ → Type 0
HasNameIn (Bytes bytes) name = NamesClass bytes.items name
HasNameIn Unreadable name = ⊥

-- so those of a file
abbrev pub HasName : ClassBytes → List ℕ → Type 0
HasName file name = HasNameIn file.content name

abbrev pub HasBytes : Content → List ℕ → Type 0
HasBytes (Bytes bytes) given = given ≡ bytes.items
HasBytes Unreadable given = ⊥

-- the file, with its own bytes and the name of the class that they spell
pub record IsNamed (file : ClassBytes) (named : NamedFile) : Type 0 where
  pub name : HasName file named.name.now
  pub bytes : HasBytes file.content named.bytes.now

-- The digest is that of the files, each with the name of its class.
pub record IsClassDigest (files : List ClassBytes) (digest : List ℕ) : Type 0 where
  pub named : List NamedFile
  pub each : AllZip IsNamed files named
  pub made : IsDigest named digest
