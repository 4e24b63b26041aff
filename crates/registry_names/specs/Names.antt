-- Which names a registry binds: 1 to 255 ASCII letters, digits, `_` and `.` (this project's own rule; the Java RMI specification, 6.1, has a name be any string).
use Rattle.std.specs.Prelude.{ℕ, Bool, List, length, ◌&&◌, ◌||◌, ◌==◌, nat_le}
use Rattle.std.specs.Char.{is_ascii_alphanumeric}
use Rattle.std.specs.List.{list_all}

-- whether a byte may stand in a name: an ASCII letter or digit, `_` or `.`
abbrev pub is_name_byte : ℕ → Bool
is_name_byte byte = is_ascii_alphanumeric byte || byte == 95 || byte == 46

-- whether these bytes may name an object: 1 to 255 of those
abbrev pub is_name : List ℕ → Bool
is_name bytes = nat_le 1 (length bytes) && nat_le (length bytes) 255 && list_all is_name_byte bytes
