-- What the rules of spaces are told of a linked set is so. (This project's own.)
use Rattle.cls_link.specs.Links.{Links, AreLinks}
use Rattle.sp_behaviours.specs.Classes.{classes_of}
use Rattle.sp_behaviours.specs.Told.{AreTold}

-- What is told of a linked set is so of its classes.
abbrev pub SetsAreTold : Type 0
SetsAreTold = (links : Links) → AreLinks links → AreTold links.classes (classes_of links)
