-- What the methods that a class inherits under one name and descriptor forbid of its own one, as they are gathered on the way down. (This project's own.)
use Rattle.std.specs.Prelude.{◌≢◌, ◌⊎◌, ℕ, List, IsTrue}
use Rattle.cf_reader.specs.declared.class_file.Method.{Method}
use Rattle.cf_reader.specs.declared.flags.TheConstants.Flags.{PRIVATE, STATIC, FINAL}
use Rattle.cls_set.specs.declared.inheriting.Inherited.{Inherited}
use Rattle.cls_set.specs.declared.inheriting.Packages.{Packages}
use Rattle.cls_set.specs.declared.inheriting.Packages.TheVariants.{Nowhere, In, Several}
use Rattle.cls_set.specs.Rules.{Has, HasPackageAccess}

-- one of the packages is not this one
abbrev pub HasOther : Packages → List ℕ → Type 0
HasOther Nowhere home = ⊥
HasOther (In known) home = known.now ≢ home
HasOther Several home = Unit {0}

-- a method of a class of a package may not stand below one of these
abbrev pub Forbids : Inherited → Method → List ℕ → Type 0
Forbids inherited low home =
    (Has low.flags.bits STATIC × IsTrue inherited.has_instance)
    ⊎ ((¬ Has low.flags.bits STATIC) × (IsTrue inherited.has_fixed ⊎ ((IsTrue inherited.has_instance × Has low.flags.bits PRIVATE) ⊎ HasOther inherited.packages home)))

-- a method of a class of a package may not stand below one, which is not private, of a class of another one
abbrev pub IsBarred : Method → List ℕ → Method → List ℕ → Type 0
IsBarred low home high from =
    (¬ Has high.flags.bits PRIVATE)
    × ((Has low.flags.bits STATIC × (¬ Has high.flags.bits STATIC))
    ⊎ ((¬ Has low.flags.bits STATIC) × ((Has high.flags.bits FINAL ⊎ Has high.flags.bits STATIC) ⊎ (Has low.flags.bits PRIVATE ⊎ (HasPackageAccess high × (from ≢ home))))))
