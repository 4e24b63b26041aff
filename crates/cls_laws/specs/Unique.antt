-- What class files make is one: JVMS 5.3.5 derives each class from its bytes, and 5.4.3 resolves what code names.
use Rattle.std.specs.Prelude.{◌≡◌, List}
use Rattle.cf_reader.specs.declared.class_file.ClassFile.{ClassFile}
use Rattle.cls_link.specs.Links.{Links, AreLinks}
use Rattle.cls_order.specs.declared.class.Class.{Class}
use Rattle.cls_order.specs.Sets.{HasClasses, IsClassSet}

-- class sets that have the classes of the same files are the same
abbrev pub FilesMakeOneSet : Type 0
FilesMakeOneSet =
    (files : List ClassFile) (a b : List Class) → HasClasses files a → HasClasses files b → IsClassSet a → IsClassSet b → a ≡ b

-- linked class sets of the same classes are the same
abbrev pub SetsAreLinkedOnce : Type 0
SetsAreLinkedOnce = (a b : Links) → AreLinks a → AreLinks b → a.classes ≡ b.classes → a ≡ b
