-- Of what kind the outputs of a space are, and with which exceptions calls are refused: NoSuchObjectException, UnmarshalException, ServerError, NotBoundException (Java RMI specification, appendix A; frames are this project's own protocol).
use Rattle.std.specs.Prelude.{◌≡◌, ◌⊎◌, ℕ, Bool, true, false, List}
use Rattle.net_message.specs.declared.message.Message.{Message}
use Rattle.net_message.specs.declared.message.Message.TheVariants as message
use Rattle.space_ids.specs.declared.ids.ClassId.{ClassId}
use Rattle.sp_rules.specs.Classes.{Setting}
use Rattle.sp_rules.specs.Events.{Event, Received, Output, Send}
use Rattle.sp_laws.specs.Changes.{IsOfSpace}

abbrev pub is_send : Output → Bool
is_send (Send conn m) = true
is_send _ = false

abbrev pub is_hello : Message → Bool
is_hello (message.Hello version space digest) = true
is_hello _ = false

-- the exceptions of a Call that starts no task
abbrev pub IsCallRefusal : Setting → ClassId → Type 0
IsCallRefusal g class =
    (class ≡ g.classes.no_such_object) ⊎ ((class ≡ g.classes.unmarshal) ⊎ (class ≡ g.classes.server_error))

-- A Lookup of this number comes on the connection with the event, and throws NotBoundException.
pub record IsUnbound (g : Setting) (e : Event) (conn number : ℕ) (class : ClassId) : Type 0 where
  pub name : List ℕ
  pub came : e ≡ Received conn (message.Lookup number name)
  pub class_is : class ≡ g.classes.not_bound

-- The exception answers a call or lookup that starts no task, and the event is of no task.
pub record IsRefusal (g : Setting) (e : Event) (conn number : ℕ) (class : ClassId) : Type 0 where
  pub apart : IsOfSpace e
  pub why : IsCallRefusal g class ⊎ IsUnbound g e conn number class
