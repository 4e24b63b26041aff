-- The two forms in which the clients of an object are kept.
use Rattle.std.specs.Prelude.{ℕ, List}
use Rattle.dgc_list.specs.declared.clients.Form.{Form}
use Rattle.dgc_list.specs.declared.clients.Form.TheVariants.{Few, Many}
use Rattle.dgc_list.specs.declared.remembered.Remembered.{Remembered}

-- the clients, in the order of the row or of the table
abbrev pub clients_in : Form → List (List ℕ × Remembered)
clients_in (Few row) = row
clients_in (Many table) = table.value
