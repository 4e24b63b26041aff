-- Objects that have no reason to stay, by their ids. (This project's own; the Java RMI specification, 3.3.)
use Rattle.std.specs.Prelude.{List, [], option_map, unwrap_or, map}
use Rattle.std.specs.List.{flat_map}
use Rattle.space_ids.specs.declared.ids.ObjId.{ObjId}
use Rattle.space_ids.specs.declared.ids.Ref.{Ref}
use Rattle.sp_rules.specs.Classes.{Setting}
use Rattle.sp_rules.specs.Events.{Withdrawn}
use Rattle.sp_rules.specs.Holders.{drop, fields_of}
use Rattle.sp_rules.specs.OwnEvents.{without_reason}
use Rattle.sp_rules.specs.References.{references_of}
use Rattle.sp_rules.specs.State.{State, Object, object_at, say}
use Rattle.sp_owner.specs.Owners.{without}

-- the ids of the objects that have no reason to stay
abbrev pub idle_of : Setting → State → List ObjId
idle_of g s = map (λ (o : Object). o.id) (without_reason g s)

-- the references in the fields of an object, if it stands
abbrev pub fields_at : Setting → State → ObjId → List Ref
fields_at g s id = unwrap_or (option_map (λ (o : Object). references_of (fields_of g s o)) (object_at s id)) []

-- the state in which these objects are withdrawn, and the references in their fields let go
abbrev pub withdrawn : Setting → List ObjId → State → State
withdrawn g ids s = say (Withdrawn ids) (drop g (flat_map (fields_at g s) ids) (without ids s))
