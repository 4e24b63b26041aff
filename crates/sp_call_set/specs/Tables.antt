-- What is known of the tables of a program's class set: they are of its linked set. (This project's own.)
use Rattle.std.specs.Prelude.{◌≡◌, List}
use Rattle.cls_link.specs.Links.{Links}
use Rattle.space_ids.specs.declared.ids.ClassId.{ClassId}
use Rattle.sp_call_set.specs.Calls.{remote_interfaces}
use Rattle.sp_call_set.specs.Named.{AreNamed}
use Rattle.sp_call_set.specs.declared.named.NamedClasses.{NamedClasses}

pub record IsCallSet (links : Links) (looked_up : Links) (rows : List ClassId) (numbers : NamedClasses) : Type 0 where
  pub tables : looked_up ≡ links
  pub interfaces : rows ≡ remote_interfaces links.classes
  pub named : AreNamed links.classes numbers
