-- Between events nothing is noted, and no call waits to be asked: so it is after each event.
use Rattle.std.proofs.Common.{◌≡◌, ℕ, Bool, true, false, List, [], ◌∷◌, Option, None, Some, refl, subst, sym, ap}
use Rattle.std.specs.Prelude.{is_some, ◌||◌, if◌then◌else◌}
use Rattle.dgc_client.specs.Groups as groups
use Rattle.space_ids.specs.declared.ids.ForeignId.{ForeignId}
use Rattle.dgc_client.specs.declared.groups.Group.{Group}
use Rattle.sp_rules.specs.Behaviours.{Op, Create, Get, Put, Call}
use Rattle.sp_rules.specs.Classes.{Setting}
use Rattle.sp_rules.specs.Events.{Event, Committed, GivenBack, Output, Started, Ended, Withdrawn, Denied, Send, Dial, Close, Ready, Turn, in_order}
use Rattle.sp_rules.specs.Holders.{drop_ids, hold_ids, holder_comes, holder_goes}
use Rattle.sp_rules.specs.Lists.{each, with_some}
use Rattle.sp_rules.specs.LivingTasks as tasks
use Rattle.sp_rules.specs.LivingTasks.{after_op, commit, give_back}
use Rattle.sp_rules.specs.Requests as requests
use Rattle.sp_rules.specs.Requests.{settle}
use Rattle.sp_rules.specs.Space.{answers_outputs, finish_event, happen, on, record_sent}
use Rattle.sp_rules.specs.State as state
use Rattle.sp_rules.specs.State.{State, Living, Request, Asked, Calls, LooksUp, Tells, connection_to, is_open, opening, ready_at}
use Rattle.sp_rules.specs.Tasks as steps
use Rattle.sp_state.specs.Spaces.{IsAtRest}

pub opening-rest : IsAtRest opening
unfolding opening
opening-rest = record { notes = refl; fresh = refl }

-- ---- what asks leave

each-keeps : (P : State → Type 0) {A : Type 0} (f : State → A → State) → ((s : State) (x : A) → P s → P (f s x)) → (xs : List A) (s : State) → P s → P (each f xs s)
unfolding each
each-keeps P f h [] s is = is
each-keeps P f h (x ∷ xs) s is = each-keeps P f h xs (f s x) (h s x is)

abbrev NoFresh : State → Type 0
NoFresh s = s.fresh ≡ []

either : (P : State → Type 0) (b : Bool) (s t : State) → P s → P t → P (if b then s else t)
either P true s t is is-t = is
either P false s t is is-t = is-t

part-fresh : (s : State) (turn : Turn) (conn call : ℕ) (part : Group) → NoFresh s → NoFresh (requests.part_goes_out turn conn call s part)
unfolding requests.part_goes_out state.send
part-fresh s turn conn call part is = either NoFresh (is_open s conn) _ _ is is

ask-fresh : (s : State) (q : Request) → NoFresh s → NoFresh (requests.ask s q)
unfolding requests.ask requests.dial requests.go_out state.send
ask-fresh s q is = by (requests.hello_came (connection_to s q.peer))
  where
    goes : (turn : Turn) (conn : ℕ) (asked : Asked) → NoFresh (requests.goes_out turn conn q.peer asked s)
    goes turn conn (Calls number task lent kind m) = either NoFresh (is_open s conn) _ _ is is
    goes turn conn (LooksUp number task name) = either NoFresh (is_open s conn) _ _ is is
    goes turn conn (Tells call group) = each-keeps NoFresh (requests.part_goes_out turn conn call) (λ t part fresh. part-fresh t turn conn call part fresh) (groups.parts_of (requests.most_on s conn) group) s is

    by : (o : Option ℕ) → NoFresh (with_some o (requests.dial q.peer (requests.add_request q s)) (λ conn. requests.go_out (requests.turn_asked q.asked) conn q s))
    by None = either NoFresh (is_some (connection_to s q.peer) || state.is_dialling s q.peer) _ _ is is
    by (Some conn) = goes (requests.turn_asked q.asked) conn q.asked

-- ---- the end of an event

sent-rest : (s : State) (o : Output) → IsAtRest s → IsAtRest (record_sent s o)
sent-rest s (Started task) is = is
sent-rest s (Ended task outcome) is = is
sent-rest s (Withdrawn ids) is = is
sent-rest s (Denied fault) is = is
sent-rest s (Send conn m) is = record { notes = is.notes; fresh = is.fresh }
sent-rest s (Dial peer) is = is
sent-rest s (Close conn) is = is
sent-rest s (Ready task) is = is

finished-rest : (s : State) → IsAtRest (finish_event true s).0
unfolding settle requests.ask_fresh
finished-rest s = each-keeps IsAtRest record_sent sent-rest (in_order (settle s).notes) (record (settle s) { notes = [] }) (record { notes = refl; fresh = asked (requests.make_due s) })
  where
    asked : (t : State) → NoFresh (each requests.ask t.fresh (record t { fresh = [] }))
    asked t = each-keeps NoFresh requests.ask ask-fresh t.fresh (record t { fresh = [] }) refl

-- ---- commits, and tasks that are given back

held-rest : (ids : List ForeignId) (s : State) → IsAtRest s → IsAtRest (hold_ids ids s)
unfolding hold_ids
held-rest ids s is = each-keeps IsAtRest holder_comes (λ t r rest. record { notes = rest.notes; fresh = rest.fresh }) ids s is

dropped-rest : (ids : List ForeignId) (s : State) → IsAtRest s → IsAtRest (drop_ids ids s)
unfolding drop_ids
dropped-rest ids s is = each-keeps IsAtRest holder_goes (λ t r rest. record { notes = rest.notes; fresh = rest.fresh }) ids s is

done-rest : (g : Setting) (op : Op) (s : State) → IsAtRest s → IsAtRest (after_op g op s)
unfolding after_op
done-rest g (Create class) s is = either IsAtRest (tasks.is_full s) _ _ is (record { notes = is.notes; fresh = is.fresh })
done-rest g (Get id slot) s is = is
done-rest g (Put id slot value) s is = dropped-rest _ _ (held-rest _ _ (record { notes = is.notes; fresh = is.fresh }))
done-rest g (Call target method arguments) s is = is

committed-rest : (g : Setting) (id k : ℕ) (op : Op) (s : State) → IsAtRest s → IsAtRest (commit g id k op s)
unfolding commit
committed-rest g id k op s is = by (ready_at s id)
  where
    by : (o : Option Living) → IsAtRest (with_some o s (λ t. after_op g op (Rattle.sp_rules.specs.Holders.hold g (steps.gained t.task (steps.answer g (tasks.op_reply g op s) (steps.steps k t.task)))
        (state.set_task (λ (u : Living). tasks.after_reply g (tasks.op_reply g op s) (tasks.after_steps k u)) id s))))
    by None = is
    by (Some t) = done-rest g op _ (held-rest _ _ (record { notes = is.notes; fresh = is.fresh }))

back-rest : (id k : ℕ) (s : State) → IsAtRest s → IsAtRest (give_back id k s)
unfolding give_back
back-rest id k s is = by (ready_at s id)
  where
    by : (o : Option Living) → IsAtRest (with_some o s (λ t. state.set_task (tasks.after_steps k) id s))
    by None = is
    by (Some t) = record { notes = is.notes; fresh = is.fresh }

-- ---- all events

pub commit-rest : (g : Setting) (id k : ℕ) (op : Op) (s : State) → IsAtRest s → IsAtRest (on g (Committed id k op) s).0
unfolding on happen
commit-rest g id k op s is = committed-rest g id k op s is

pub given-rest : (g : Setting) (id k : ℕ) (s : State) → IsAtRest s → IsAtRest (on g (GivenBack id k) s).0
unfolding on happen
given-rest g id k s is = back-rest id k s is

pub answer-rest : (g : Setting) (e : Event) (s : State) → answers_outputs e ≡ true → IsAtRest (on g e s).0
unfolding on
answer-rest g e s answers = subst (λ (b : Bool). IsAtRest (finish_event b (happen g e s)).0) (sym answers) (finished-rest (happen g e s))
