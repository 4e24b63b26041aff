-- How many bytes values and bodies take, by counting their fields. (This project's own.)
use Rattle.std.specs.Prelude.{ℕ, ◌+◌, ◌*◌, List, [], ◌∷◌, length, Option, Some, None}
use Rattle.space_ids.specs.declared.value.Value.{Value}
use Rattle.space_ids.specs.declared.value.Value.TheVariants as values
use Rattle.net_message.specs.declared.message.Message.{Message}
use Rattle.net_message.specs.declared.message.Message.TheVariants.{Hello, Call, Returned, Threw, Spent, Ack, Dirty, Lease, Clean, Cleaned, Lookup}

unfoldable pub value_size : Value → ℕ
value_size values.Null = 1
value_size (values.Int n) = 5
value_size (values.Ints ns) = 5 + 4 * length ns
value_size (values.Ref r) = 27

abbrev pub values_size : List Value → ℕ
values_size [] = 0
values_size (value ∷ values) = value_size value + values_size values

unfoldable pub result_size : Option Value → ℕ
result_size None = 1
result_size (Some value) = 1 + value_size value

unfoldable pub body_size : Message → ℕ
body_size (Hello version space digest) = 50
body_size (Call number object method fuel arguments) = 30 + values_size arguments
body_size (Returned number fuel value) = 17 + result_size value
body_size (Threw number class) = 11
body_size (Spent number) = 9
body_size (Ack number) = 9
body_size (Dirty sequence period objects) = 19 + 8 * length objects
body_size (Lease sequence period) = 17
body_size (Clean sequence strong objects) = 12 + 8 * length objects
body_size (Cleaned sequence) = 9
body_size (Lookup number name) = 10 + length name
