-- The first frame of a connection that opens. (This project's own protocol.)
use Rattle.std.specs.Prelude.{ℕ, ◌≡◌, List}
use Rattle.net_message.specs.declared.message.Message.{Message}
use Rattle.net_message.specs.declared.message.Message.TheVariants as message
use Rattle.uuid.specs.declared.Uuid.{Uuid}

-- The frame is a Hello.
pub record IsHello (m : Message) : Type 0 where
  pub version : ℕ
  pub space : Uuid
  pub digest : List ℕ
  pub says : m ≡ message.Hello version space digest
