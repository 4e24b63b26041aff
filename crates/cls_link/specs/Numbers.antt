-- How the number of a method is found: it comes after those of the classes before its own. (This project's own.)
use Rattle.std.specs.Prelude.{ℕ, ◌+◌, List, [], ◌∷◌, length, take}
use Rattle.cls_set.specs.declared.class.Class.{Class}
use Rattle.cls_link.specs.declared.linked_code.MethodId.{MethodId}
use Rattle.cls_search.specs.declared.methods.MethodIndex.{MethodIndex}
use Rattle.cls_link.specs.Links.{declared_from}

-- the number of the first method of each class; that of the first class has the number n
abbrev pub starts : ℕ → List Class → List ℕ
starts n [] = []
starts n (c ∷ cs) = n ∷ starts (n + length c.file.methods) cs

-- the number of a method: after those of the classes before its own
abbrev pub number_in : List Class → MethodIndex → MethodId
number_in classes m = record { 0 = length (declared_from 0 (take m.class.0 classes)) + m.index }
