-- The lines of a script, and what they do to a world of the scripts' classes: how the worked scripts of spaces are played. (This project's own rule; docs/SPACE.md says the lines.)
use Rattle.std.specs.Prelude.{ℕ, zero, suc, ◌+◌, ◌==◌, ◌&&◌, nat_lt, List, [], ◌∷◌, ◌++◌, Option, None, Some, filter, map, find, length, slice_get, if◌then◌else◌}
use Rattle.std.specs.List.{list_all}
use Rattle.dgc_list.specs.History.{clients_of}
use Rattle.sp_registry.specs.declared.registry.Binding.{Binding}
use Rattle.uuid.specs.declared.Uuid.{Uuid}
use Rattle.space_ids.specs.declared.value.Value.{Value}
use Rattle.space_ids.specs.declared.value.Value.TheVariants as values
use Rattle.sp_rules.specs.Behaviours.{Outcome, Returned, Threw, Spent}
use Rattle.sp_rules.specs.Events.{Event, Output, Ended, Moment, Sweep, Root, RootAck, Bind, Rebind, Unbind, Lookup}
use Rattle.sp_rules.specs.Lists.{with_some, total}
use Rattle.sp_rules.specs.References.{is_id}
use Rattle.sp_rules.specs.Refusals.{Refusal}
use Rattle.sp_rules.specs.State.{State, Living, Object, standing}
use Rattle.sp_rules.specs.Worlds.{World, Space, Dialler, Accepter, Pipe, WorldEvent, WriteFails, ReadFails, Own, Step, Open, Refuse, Accept, Deliver, new_world, after, id_at, may_deliver, is_unopened}
use Rattle.sp_scripts.specs.Programs.{setting_of}

-- ---- settling

abbrev pub first_asked : List (ℕ × ℕ) → Option WorldEvent
first_asked [] = None
first_asked (p ∷ ps) = Some (Open p.0 p.1)

abbrev pub or_else : Option WorldEvent → Option WorldEvent → Option WorldEvent
or_else None e = e
or_else (Some e) f = Some e

abbrev pub first_accept : ℕ → List Pipe → Option WorldEvent
first_accept n [] = None
first_accept n (p ∷ ps) = if is_unopened p.accepter.phase then Some (Accept n) else first_accept (suc n) ps

abbrev pub first_pipe : ℕ → List Pipe → Option WorldEvent
first_pipe n [] = None
first_pipe n (p ∷ ps) =
    if may_deliver Accepter p then Some (Deliver n Accepter) else (if may_deliver Dialler p then Some (Deliver n Dialler) else first_pipe (suc n) ps)

abbrev pub first_task : ℕ → List Living → Option WorldEvent
first_task i [] = None
first_task i (t ∷ ts) = if t.waits then first_task i ts else Some (Step i t.id)

abbrev pub first_ready : ℕ → List Space → Option WorldEvent
first_ready i [] = None
first_ready i (s ∷ ss) = or_else (first_task i s.state.tasks) (first_ready (suc i) ss)

abbrev pub possible : World → Option WorldEvent
possible w = or_else (first_asked w.asked) (or_else (first_accept 0 w.pipes) (or_else (first_pipe 0 w.pipes) (first_ready 0 w.spaces)))

-- settle gives a world the first event that is possible, at most n times
unfoldable pub settle_world : ℕ → World → World
settle_world zero w = w
settle_world (suc n) w = elim (possible w) [ None ↦ w | Some e ↦ settle_world n (after w e) ]

-- the same, with a Sweep of a space after each event
unfoldable pub settle_swept : ℕ → ℕ → World → World
settle_swept i zero w = w
settle_swept i (suc n) w = elim (possible w) [ None ↦ w | Some e ↦ settle_swept i n (after (after w e) (Own i Sweep)) ]

-- ---- lines

pub data Argument : Type 0 where
  Variable : (var : ℕ) → Argument
  Literal : (value : Value) → Argument

pub data Line : Type 0 where
  RootLine : (space var fuel method : ℕ) (arguments : List Argument) → Line
  AckLine : (space var : ℕ) → Line
  BindLine RebindLine : (space : ℕ) (name : List ℕ) (var : ℕ) → Line
  UnbindLine : (space : ℕ) (name : List ℕ) → Line
  LookupLine : (space peer : ℕ) (name : List ℕ) (var : ℕ) → Line
  OpenLine RefuseLine DeliverLine ReplyLine ReadFailLine : (space peer : ℕ) → Line
  WriteFailLine : (space peer unsent : ℕ) → Line
  MomentLine : (space moment : ℕ) → Line
  SweepLine StepLine ShowLine : (space : ℕ) → Line
  SettleLine : Line
  -- settle, with a sweep of a space after each event
  SweptLine : (space : ℕ) → Line
  -- one event of the world
  EventLine : (event : WorldEvent) → Line

pub record Var : Type 0 where
  pub var : ℕ
  pub space : ℕ
  pub task : ℕ

-- space, id, class, names, entries
pub record Shown : Type 0 where
  pub space : ℕ
  pub id : ℕ
  pub class : ℕ
  pub names : ℕ
  pub entries : ℕ

pub record Sim : Type 0 where
  pub world : World
  pub vars : List Var
  pub shown : List Shown
  pub bad : Option ℕ

abbrev pub ended_in : ℕ → List Output → Option Outcome
ended_in task [] = None
ended_in task (Ended t outcome ∷ os) = if t == task then Some outcome else ended_in task os
ended_in task (o ∷ os) = ended_in task os

abbrev pub outcome_of : World → Var → Option Outcome
outcome_of w v = with_some (slice_get w.spaces v.space) None (λ s. ended_in v.task s.outputs)

abbrev pub returned_in : Option Outcome → Option Value
returned_in None = None
returned_in (Some (Returned value)) = value
returned_in (Some (Threw class)) = None
returned_in (Some Spent) = None

abbrev pub var_at : Sim → ℕ → Option Var
var_at s var = find (λ (v : Var). v.var == var) s.vars

abbrev pub value_of : Sim → ℕ → Option Value
value_of s var = with_some (var_at s var) None (λ v. returned_in (outcome_of s.world v))

abbrev pub argument_of : Sim → Argument → Option Value
argument_of s (Variable var) = value_of s var
argument_of s (Literal value) = Some value

abbrev pub arguments_of : Sim → List Argument → Option (List Value)
arguments_of s [] = Some []
arguments_of s (a ∷ more) = with_some (argument_of s a) None (λ v. with_some (arguments_of s more) None (λ vs. Some (v ∷ vs)))

abbrev pub does : WorldEvent → Sim → Sim
does e s = record s { world = after s.world e }

abbrev pub bad_at : ℕ → Sim → Sim
bad_at k s = record s { bad = Some k }

abbrev pub bad_if : ℕ → Option Refusal → Sim → Sim
bad_if k None s = s
bad_if k (Some why) s = bad_at k s

abbrev pub next_task : World → ℕ → ℕ
next_task w i = with_some (slice_get w.spaces i) 0 (λ s. s.state.tasks_made + 1)

abbrev pub with_var : ℕ → ℕ → Sim → Sim
with_var var space s = record s { vars = s.vars ++ record { var = var; space = space; task = next_task s.world space } ∷ [] }

abbrev pub root_of : ℕ → ℕ → ℕ → ℕ → ℕ → Sim → Option (List Value) → Sim
root_of k space var fuel method s None = bad_at k s
root_of k space var fuel method s (Some vs) =
    let t = does (Own space (Root method vs fuel)) (with_var var space s) in bad_if k t.world.refused t

abbrev pub name_of : ℕ → (Value → Event) → ℕ → Sim → Option Value → Sim
name_of k event space s None = bad_at k s
name_of k event space s (Some v) = does (Own space (event v)) s

abbrev pub newest : ℕ → ℕ → ℕ → List Pipe → Option ℕ
newest a b n [] = None
newest a b n (p ∷ ps) = with_some (newest a b (suc n) ps) (if p.dialler.space == a && p.accepter.space == b then Some n else None) (λ m. Some m)

abbrev pub on_newest : ℕ → ℕ → (ℕ → WorldEvent) → Sim → Sim
on_newest a b event s = with_some (newest a b 0 s.world.pipes) s (λ n. does (event n) s)

abbrev pub step_of : ℕ → Sim → Sim
step_of i s = with_some (slice_get s.world.spaces i) s (λ space. with_some (first_task i space.state.tasks) s (λ e. does e s))

abbrev pub count_names : State → Object → ℕ
count_names s o = length (filter (λ (b : Binding). is_id b.object o.id) s.owner.names)

abbrev pub show_object : ℕ → State → Object → Shown
show_object i s o = record { space = i; id = o.id.0; class = o.class.0; names = count_names s o; entries = length (clients_of s.owner.entries o.id) }

abbrev pub show_of : ℕ → Sim → Sim
show_of i s = with_some (slice_get s.world.spaces i) s (λ space.
    record s { shown = s.shown ++ map (show_object i space.state) (standing space.state.store) })

abbrev pub peer_of : Sim → ℕ → Uuid
peer_of s i = with_some (id_at i s.world) [] (λ u. u)

abbrev pub accepts : ℕ → Sim → Sim
accepts before s = if nat_lt before (length s.world.pipes) then does (Accept before) s else s

abbrev pub line_of : ℕ → Line → Sim → Sim
line_of k (RootLine space var fuel method arguments) s = root_of k space var fuel method s (arguments_of s arguments)
line_of k (AckLine space var) s = with_some (var_at s var) (bad_at k s) (λ v. if v.space == space then does (Own space (RootAck v.task)) s else s)
line_of k (BindLine space name var) s = name_of k (Bind name) space s (value_of s var)
line_of k (RebindLine space name var) s = name_of k (Rebind name) space s (value_of s var)
line_of k (UnbindLine space name) s = does (Own space (Unbind name)) s
line_of k (LookupLine space peer name var) s = let t = does (Own space (Lookup (peer_of s peer) name)) (with_var var space s) in bad_if k t.world.refused t
line_of k (OpenLine a b) s = accepts (length s.world.pipes) (does (Open a b) s)
line_of k (RefuseLine a b) s = does (Refuse a b) s
line_of k (DeliverLine a b) s = on_newest a b (λ n. Deliver n Accepter) s
line_of k (ReplyLine a b) s = on_newest a b (λ n. Deliver n Dialler) s
line_of k (ReadFailLine a b) s = on_newest a b (λ n. ReadFails n Dialler) s
line_of k (WriteFailLine a b unsent) s = on_newest a b (λ n. WriteFails n Dialler unsent) s
line_of k (MomentLine space moment) s = does (Own space (Moment moment)) s
line_of k (SweepLine space) s = does (Own space Sweep) s
line_of k (StepLine space) s = step_of space s
line_of k (ShowLine space) s = show_of space s
line_of k (SweptLine space) s = record s { world = settle_swept space 100000 s.world }
line_of k (EventLine event) s = does event s
line_of k SettleLine s = record s { world = settle_world 100000 s.world }

-- the spaces that a line names
abbrev pub spaces_in : Line → List ℕ
spaces_in (RootLine space var fuel method arguments) = space ∷ []
spaces_in (AckLine space var) = space ∷ []
spaces_in (BindLine space name var) = space ∷ []
spaces_in (RebindLine space name var) = space ∷ []
spaces_in (UnbindLine space name) = space ∷ []
spaces_in (LookupLine space peer name var) = space ∷ peer ∷ []
spaces_in (OpenLine space peer) = space ∷ peer ∷ []
spaces_in (RefuseLine space peer) = space ∷ peer ∷ []
spaces_in (DeliverLine space peer) = space ∷ peer ∷ []
spaces_in (ReplyLine space peer) = space ∷ peer ∷ []
spaces_in (ReadFailLine space peer) = space ∷ peer ∷ []
spaces_in (WriteFailLine space peer unsent) = space ∷ peer ∷ []
spaces_in (MomentLine space moment) = space ∷ []
spaces_in (SweepLine space) = space ∷ []
spaces_in (StepLine space) = space ∷ []
spaces_in (ShowLine space) = space ∷ []
spaces_in (SweptLine space) = space ∷ []
spaces_in (EventLine event) = []
spaces_in SettleLine = []

-- A line that names a space that is not there is bad.
abbrev pub unless_bad : ℕ → Line → Option ℕ → Sim → Sim
unless_bad k line (Some bad) s = s
unless_bad k line None s = if list_all (λ i. nat_lt i (length s.world.spaces)) (spaces_in line) then line_of k line s else bad_at k s

unfoldable pub run_lines : ℕ → List Line → Sim → Sim
run_lines k [] s = s
run_lines k (line ∷ lines) s = run_lines (suc k) lines (unless_bad k line s.bad s)

abbrev pub spaces_from : ℕ → ℕ → List Uuid
spaces_from n zero = []
spaces_from n (suc m) = (n ∷ []) ∷ spaces_from (suc n) m

-- a script of n spaces: its bad line, what it shows, and the outcomes of its roots and lookups
abbrev pub played : ℕ → List Line → Sim
played n lines = run_lines (suc n) lines (record { world = new_world (map setting_of (spaces_from 1 n)); vars = []; shown = []; bad = None })

-- as a script prints it: references without their class
abbrev pub printed_value : Option Value → Option Value
printed_value None = None
printed_value (Some values.Null) = Some values.Null
printed_value (Some (values.Int n)) = Some (values.Int n)
printed_value (Some (values.Ints ns)) = Some (values.Ints ns)
printed_value (Some (values.Ref r)) = Some (values.Ref (record r { class = record { 0 = 0 } }))

abbrev pub printed : Option Outcome → Option Outcome
printed None = None
printed (Some (Returned value)) = Some (Returned (printed_value value))
printed (Some (Threw class)) = Some (Threw class)
printed (Some Spent) = Some Spent

abbrev pub seen_of : Sim → Option ℕ × List Shown × List (Option Outcome)
seen_of s = (s.bad, s.shown, map (λ v. printed (outcome_of s.world v)) s.vars)

abbrev pub seen : ℕ → List Line → Option ℕ × List Shown × List (Option Outcome)
seen n lines = seen_of (played n lines)

abbrev pub bad_line : ℕ → List Line → Option ℕ
bad_line n lines = (played n lines).bad

-- how a root or a lookup ends that returns a reference
abbrev pub reference : ℕ → ℕ → Outcome
reference space id = Returned (Some (values.Ref (record { space = space ∷ []; id = record { 0 = id }; class = record { 0 = 0 } })))

-- the instructions of the tasks that ended in each space, and how many tasks and lookups there were in all
abbrev pub spent_of : Sim → List ℕ × ℕ
spent_of s = (map (λ (space : Space). space.state.retired) s.world.spaces, total (λ (space : Space). space.state.tasks_made) s.world.spaces)

-- what is seen of a script, and what was spent in it
abbrev pub seen_and_spent : ℕ → List Line → (Option ℕ × List Shown × List (Option Outcome)) × List ℕ × ℕ
seen_and_spent n lines = both (played n lines)
  where
    both : Sim → (Option ℕ × List Shown × List (Option Outcome)) × List ℕ × ℕ
    both s = (seen_of s, (spent_of s).0, (spent_of s).1)
