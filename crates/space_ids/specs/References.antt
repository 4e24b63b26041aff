-- When references are the same. (Java RMI specification, 2.6, on references.)
use Rattle.std.specs.Prelude.{◌&&◌, ◌==◌, Bool}
use Rattle.std.specs.Str.{bytes_eq}
use Rattle.space_ids.specs.declared.ids.Ref.{Ref}

-- two references are the same if their space, id and class are
abbrev pub is_same_reference : Ref → Ref → Bool
is_same_reference a b = bytes_eq a.space b.space && (a.id.0 == b.id.0 && a.class.0 == b.class.0)
