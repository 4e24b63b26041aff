-- In which direction frames go: the space that dialled asks, by Call, Lookup, Ack, Dirty and Clean; the other end answers, by Returned, Threw, Spent, Lease and Cleaned; both say Hello (this project's own protocol).
use Rattle.std.specs.Prelude.{◌⊎◌, ℕ, Bool, true, false}
use Rattle.net_message.specs.declared.message.Message.{Message}
use Rattle.net_message.specs.declared.message.Message.TheVariants as message
pub use Rattle.sp_laws.specs.Sent.{is_send}

-- A frame that asks goes out on a connection that was dialled, one that answers on one that was not, a Hello on either.
abbrev pub MaySend : (ℕ → Bool → Type 0) → ℕ → Message → Type 0
MaySend Dialled conn (message.Hello version space digest) = Dialled conn true ⊎ Dialled conn false
MaySend Dialled conn (message.Call number object method fuel arguments) = Dialled conn true
MaySend Dialled conn (message.Lookup number name) = Dialled conn true
MaySend Dialled conn (message.Ack number) = Dialled conn true
MaySend Dialled conn (message.Dirty sequence period objects) = Dialled conn true
MaySend Dialled conn (message.Clean sequence strong objects) = Dialled conn true
MaySend Dialled conn (message.Returned number fuel value) = Dialled conn false
MaySend Dialled conn (message.Threw number class) = Dialled conn false
MaySend Dialled conn (message.Spent number) = Dialled conn false
MaySend Dialled conn (message.Lease sequence period) = Dialled conn false
MaySend Dialled conn (message.Cleaned sequence) = Dialled conn false
