-- What is asked of peers leaves tasks, results and parked frames.
use Rattle.std.proofs.Common.{◌≡◌, ℕ, ◌+◌, true, false, cond, List, [], ◌∷◌, ◌++◌, Option, None, Some, refl, ◌∙◌}
use Rattle.std.specs.Prelude.{◌||◌, filter, is_some}
use Rattle.dgc_client.specs.Groups as groups
use Rattle.dgc_client.specs.Table as client
use Rattle.dgc_client.specs.declared.groups.Group.{Group}
use Rattle.net_message.specs.declared.message.Message.TheVariants as message
use Rattle.uuid.specs.declared.Uuid.{Uuid}
use Rattle.sp_rules.specs.Events.{Dial, Turn, Waited}
use Rattle.sp_rules.specs.Lists.{each, with_some}
use Rattle.sp_rules.specs.Requests.{add_request, ask, ask_fresh, dial, due_groups, flush_waiting, go_out, goes_out, group_frame, hello_came, make_due, make_group, most_on, part_goes_out, settle, turn_asked, waits_for, without_waiting}
use Rattle.sp_rules.specs.State.{State, Asked, Calls, LooksUp, Tells, Out, Request, Waits, connection_to, is_dialling, say}
use Rattle.sp_living.proofs.LivingLemmas.{own_of, sent-own}

each-own : {A : Type 0} (f : State → A → State) → ((s : State) (x : A) → own_of (f s x) ≡ own_of s) → (xs : List A) (s : State) → own_of (each f xs s) ≡ own_of s
unfolding each
each-own f keeps [] s = refl
each-own f keeps (x ∷ xs) s = each-own f keeps xs (f s x) ∙ keeps s x

-- ---- going out

part-own : (turn : Turn) (conn call : ℕ) (s : State) (part : Group) → own_of (part_goes_out turn conn call s part) ≡ own_of s
unfolding part_goes_out
part-own turn conn call s part =
    sent-own turn conn (group_frame part.kind (client.numbers_of s.leases + 1) part.ids)
    (add_request (record { peer = part.peer; asked = Tells call part; stage = Out conn (client.numbers_of s.leases + 1) }) (record s { leases = client.sent part call s.leases }))

goes-own : (turn : Turn) (conn : ℕ) (peer : Uuid) (a : Asked) (s : State) → own_of (goes_out turn conn peer a s) ≡ own_of s
goes-own turn conn peer (Calls number task lent kind m) s = sent-own turn conn m (add_request (record { peer = peer; asked = Calls number task lent kind m; stage = Out conn 0 }) s)
goes-own turn conn peer (LooksUp number task name) s = sent-own turn conn (message.Lookup number name) (add_request (record { peer = peer; asked = LooksUp number task name; stage = Out conn 0 }) s)
goes-own turn conn peer (Tells call group) s = each-own (part_goes_out turn conn call) (part-own turn conn call) (groups.parts_of (most_on s conn) group) s

out-own : (turn : Turn) (conn : ℕ) (r : Request) (s : State) → own_of (go_out turn conn r s) ≡ own_of s
unfolding go_out
out-own turn conn r s = goes-own turn conn r.peer r.asked s

pub flush-own : (peer : Uuid) (conn : ℕ) (s : State) → own_of (flush_waiting peer conn s) ≡ own_of s
unfolding flush_waiting
flush-own peer conn s = each-own (λ t r. go_out Waited conn r t) (λ t r. out-own Waited conn r t) (filter (waits_for peer) s.requests) (without_waiting peer s)

-- ---- the end of an event

pub dial-own : (peer : Uuid) (s : State) → own_of (dial peer s) ≡ own_of s
unfolding dial
dial-own peer s = elim (is_some (connection_to s peer) || is_dialling s peer) as (λ b. own_of (cond b s (say (Dial peer) (record s { dialling = s.dialling ++ peer ∷ [] }))) ≡ own_of s) [ true ↦ refl | false ↦ refl ]

ask-own : (s : State) (r : Request) → own_of (ask s r) ≡ own_of s
unfolding ask
ask-own s r = by (hello_came (connection_to s r.peer))
  where
    by : (o : Option ℕ) → own_of (with_some o (dial r.peer (add_request r s)) (λ conn. go_out (turn_asked r.asked) conn r s)) ≡ own_of s
    by None = dial-own r.peer (add_request r s)
    by (Some conn) = out-own (turn_asked r.asked) conn r s

group-own : (s : State) (group : Group) → own_of (make_group s group) ≡ own_of s
unfolding make_group
group-own s group = ask-own (record s { groups_made = s.groups_made + 1; leases = client.made group (s.groups_made + 1) s.leases }) (record { peer = group.peer; asked = Tells (s.groups_made + 1) group; stage = Waits })

due-own : (s : State) → own_of (make_due s) ≡ own_of s
unfolding make_due
due-own s = each-own make_group group-own (due_groups s.leases) s

fresh-own : (s : State) → own_of (ask_fresh s) ≡ own_of s
unfolding ask_fresh
fresh-own s = each-own ask ask-own s.fresh (record s { fresh = [] })

pub settle-own : (s : State) → own_of (settle s) ≡ own_of s
unfolding settle
settle-own s = fresh-own (make_due s) ∙ due-own s
