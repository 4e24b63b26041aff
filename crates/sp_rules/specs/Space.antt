-- A space: what an event makes of its state, what it answers, and the state that a history of events leaves. (This project's own rule: one event is one change of the state.)
use Rattle.std.specs.Prelude.{◌++◌, Bool, true, false, List, [], ◌∷◌}
use Rattle.sp_registry.specs.Bindings as registry
use Rattle.sp_rules.specs.Classes.{Setting}
use Rattle.sp_rules.specs.Endings.{end_connection, by_unmarshal, fail_write}
use Rattle.sp_rules.specs.Events.{Event, Moment, Sweep, Root, RootAck, Bind, Rebind, Unbind, Lookup, Opened, Refused, Received, Closed, ReadFailed, Bad, WriteFailed, Committed, Parked, GivenBack, Finished, Output, Send, in_order}
use Rattle.sp_rules.specs.Frames.{release}
use Rattle.sp_rules.specs.Holders.{own_object}
use Rattle.sp_rules.specs.Lists.{each}
use Rattle.sp_rules.specs.LivingTasks.{add_task, commit, park_call, give_back, finish_task}
use Rattle.sp_rules.specs.OwnEvents.{on_moment, on_sweep, set_names, is_of_root, on_lookup, on_opened, on_refused, received_on}
use Rattle.sp_rules.specs.Requests.{settle}
use Rattle.sp_rules.specs.State.{State, OfRoot, Connection, opening, connection_at, set_connection}

-- what an event makes of the state, before its end
unfoldable pub happen : Setting → Event → State → State
happen g (Moment moment) s = on_moment g moment s
happen g Sweep s = on_sweep g s
happen g (Root method arguments fuel) s = add_task g OfRoot method arguments fuel s
happen g (RootAck task) s = release g (is_of_root task) s
happen g (Bind name value) s = set_names (registry.bind s.owner.names name (own_object g s value)) s
happen g (Rebind name value) s = set_names (registry.rebind s.owner.names name (own_object g s value)) s
happen g (Unbind name) s = set_names (registry.unbind s.owner.names name) s
happen g (Lookup peer name) s = on_lookup g peer name s
happen g (Opened conn dialled) s = on_opened g conn dialled s
happen g (Refused peer) s = on_refused g peer s
happen g (Received conn m) s = received_on g (connection_at s conn) m s
happen g (Closed conn) s = end_connection g (by_unmarshal g) conn s
happen g (ReadFailed conn) s = end_connection g (by_unmarshal g) conn s
happen g (Bad conn) s = end_connection g (by_unmarshal g) conn s
happen g (WriteFailed conn unsent) s = fail_write g conn unsent s
happen g (Committed task k op) s = commit g task k op s
happen g (Parked task k) s = park_call g task k s
happen g (GivenBack task k) s = give_back task k s
happen g (Finished task k) s = finish_task g task k s

-- Commits and give-backs answer nothing; a clean or dirty call that is due after one goes out with the next event that does.
abbrev pub answers_outputs : Event → Bool
answers_outputs (Committed task k op) = false
answers_outputs (GivenBack task k) = false
answers_outputs _ = true

-- A connection remembers what was sent on it.
abbrev pub record_sent : State → Output → State
record_sent s (Send conn m) = set_connection (λ (c : Connection). record c { sent = m ∷ c.sent }) conn s
record_sent s _ = s

abbrev pub conclude : State → List Output → State × List Output
conclude s outputs = (each record_sent outputs (record s { notes = [] }), outputs)

abbrev pub finish_event : Bool → State → State × List Output
finish_event true s = let t = settle s in conclude t (in_order t.notes)
finish_event false s = (s, [])

-- what an event makes of the state, and what it answers
unfoldable pub on : Setting → Event → State → State × List Output
on g e s = finish_event (answers_outputs e) (happen g e s)

-- the state that a history, newest event first, leaves
unfoldable pub state_of : Setting → List Event → State
state_of g [] = opening
state_of g (e ∷ h) = (on g e (state_of g h)).0

-- what an event answers after a history
unfoldable pub outputs_of : Setting → List Event → Event → List Output
outputs_of g h e = (on g e (state_of g h)).1

-- all that a history answers, oldest first
abbrev pub all_outputs : Setting → List Event → List Output
all_outputs g [] = []
all_outputs g (e ∷ h) = all_outputs g h ++ outputs_of g h e
