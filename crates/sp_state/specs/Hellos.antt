-- The first frame of a connection. (This project's own protocol.)
use Rattle.std.specs.Prelude.{ℕ, ◌==◌, ◌&&◌, nat_le, Option, None, Some, if◌then◌else◌}
use Rattle.std.specs.Str.{bytes_eq}
use Rattle.net_message.specs.declared.message.Message.{Message}
use Rattle.net_message.specs.declared.message.Message.TheVariants as message
use Rattle.uuid.specs.declared.Uuid.{Uuid}
use Rattle.sp_rules.specs.Classes.{Setting}
use Rattle.sp_rules.specs.Endings.{close, redial}
use Rattle.sp_rules.specs.Frames.{answer_hello, greeted}
use Rattle.sp_rules.specs.Lists.{with_some}
use Rattle.sp_rules.specs.Requests.{flush_waiting}
use Rattle.sp_rules.specs.State.{State, Connection}
use Rattle.sp_state.specs.declared.hello.Answer.{Answer}
use Rattle.sp_state.specs.declared.hello.Answer.TheVariants.{Agrees, OnlyVersion1, Other}
use Rattle.sp_state.specs.declared.hello.Hello.{Hello}

-- what a Hello says, if a frame is one
abbrev pub hello_in : Message → Option Hello
hello_in (message.Hello version space digest) = Some (record { version = version; space = space; digest = digest })
hello_in _ = None

-- what the version says with which a peer answers that was dialled, if this one was said
abbrev pub answer_of : ℕ → ℕ → Answer
answer_of said version = if version == said then Agrees else (if nat_le 2 said && version == 1 then OnlyVersion1 else Other)

-- The peer that was dialled answers so, by this name.
abbrev pub take_answer : Setting → Connection → Uuid → Uuid → Answer → State → State
take_answer g c peer space Agrees s = flush_waiting peer c.number (greeted space c.number s)
take_answer g c peer space OnlyVersion1 s = redial peer c.number s
take_answer g c peer space Other s = close g g.classes.unmarshal c.number s

-- A Hello with another digest, with another id than was dialled, or of a version that the space does not speak closes the connection.
abbrev pub take_hello : Setting → Connection → Hello → State → State
take_hello g c hello s = with_some c.dialled
    (if bytes_eq hello.digest g.digest && nat_le hello.version g.version then answer_hello g hello.version c.number (greeted hello.space c.number s)
    else close g g.classes.unmarshal c.number s)
    (λ peer. if bytes_eq hello.digest g.digest && bytes_eq hello.space peer then take_answer g c peer hello.space (answer_of c.version hello.version) s
    else close g g.classes.connect c.number s)
