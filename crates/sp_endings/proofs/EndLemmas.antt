-- What was asked of a peer, as all of it ends.
use Rattle.std.proofs.Common.{◌≡◌, ℕ, ◌++◌, Bool, true, false, cond, List, [], ◌∷◌, Option, None, Some, refl, sym, ap, ◌∙◌, map}
use Rattle.std.specs.Prelude.{filter, not, ◌==◌}
use Rattle.std.specs.List.{flat_map, list_any}
use Rattle.net_message.specs.declared.message.Message.{Message}
use Rattle.space_ids.specs.declared.ids.ClassId.{ClassId}
use Rattle.uuid.specs.declared.Uuid.{Uuid}
use Rattle.sp_rules.specs.Behaviours.{Throws}
use Rattle.sp_rules.specs.Classes.{Setting, Kind}
use Rattle.sp_rules.specs.Endings.{end_asked, end_connection, end_request, end_requests, is_group, is_of_connection, unpark, why_unsent, without_connection}
use Rattle.sp_rules.specs.Lists.{each, with_some}
use Rattle.sp_rules.specs.LivingTasks.{reply_to}
use Rattle.sp_rules.specs.OwnEvents.{dialled_no_more, on_refused}
use Rattle.sp_rules.specs.ParkedFrames.{remove_requests}
use Rattle.sp_rules.specs.Requests.{waits_for}
use Rattle.sp_rules.specs.State.{State, Asked, Calls, LooksUp, Tells, Connection, ParkedFrame, Request, connection_at}
use Rattle.sp_requests.specs.Asking.{asks_by, first_of, result_kind}
use Rattle.sp_requests.specs.Ends.{ended_group}
use Rattle.sp_requests.specs.declared.asked.Asker.{Asker}
use Rattle.sp_requests.specs.declared.asked.Asker.TheVariants as asker
use Rattle.sp_requests.specs.declared.asked.OutGroup.{OutGroup}
use Rattle.sp_requests.specs.declared.asked.ResultKind.TheVariants as result
use Rattle.sp_requests.specs.declared.ended.EndedCall.{EndedCall}
use Rattle.sp_transport.specs.Answers.{ended_as}
use Rattle.sp_endings.specs.Ends.{AreThrown, asked_by, end_call, end_each, fail_out, thrown_at}
use Rattle.sp_endings.specs.declared.thrown.Thrown.{Thrown}
use Rattle.sp_endings.proofs.EachLemmas.{unpark-removed, unpark-requests}

-- ---- calls and lookups

-- who asks so
pub asks-so : (by : Asker) → first_of (asks_by (asked_by by)) ≡ Some by
asks-so (asker.Call task lent result.Int) = refl
asks-so (asker.Call task lent result.IntArray) = refl
asks-so (asker.Call task lent result.Reference) = refl
asks-so (asker.Call task lent result.Nothing) = refl
asks-so (asker.Lookup task) = refl

ended : List ℕ → ℕ × Asker → EndedCall
ended unsent row = record { asker = row.1; unsent = list_any (◌==◌ row.0) unsent }

end-call-is : (g : Setting) (class : ClassId) (number task lent : ℕ) (kind : Kind) (m : Message) (s : State)
    → reply_to g (Calls number task lent kind m) (Throws class) s ≡ reply_to g (asked_by (asker.Call task lent (result_kind kind))) (Throws class) s
unfolding reply_to
end-call-is g class number task lent kind m s = refl

end-lookup-is : (g : Setting) (class : ClassId) (number task : ℕ) (name : List ℕ) (s : State)
    → reply_to g (LooksUp number task name) (Throws class) s ≡ reply_to g (asked_by (asker.Lookup task)) (Throws class) s
unfolding reply_to
end-lookup-is g class number task name s = refl

-- one request, and then the others
one-call : (g : Setting) (why : Asked → ClassId) (unsent : List ℕ) (thrown : Thrown) → AreThrown why unsent thrown → (r : Request) (others : List Request) (calls : List EndedCall)
    → ((t : State) → each (end_request g why) others t ≡ each (end_call g thrown) calls t)
    → (a : Asked) → r.asked ≡ a → (s : State)
    → each (end_request g why) (cond (not (is_group a)) (r ∷ others) others) s
    ≡ each (end_call g thrown) (map (λ (row : ℕ × Asker). record { asker = row.1; unsent = list_any (◌==◌ row.0) unsent }) (asks_by a) ++ calls) s
unfolding each
one-call g why unsent thrown are r others calls go (Calls number task lent kind m) is s =
    ap (each (end_request g why) others)
    (ap (λ (a : Asked). end_asked g (why a) a s) is
    ∙ ap (λ (c : ClassId). reply_to g (Calls number task lent kind m) (Throws c) s) (are (Calls number task lent kind m) number (asker.Call task lent (result_kind kind)) refl)
    ∙ end-call-is g (thrown_at thrown (list_any (◌==◌ number) unsent)) number task lent kind m s)
    ∙ go (end_call g thrown s (record { asker = asker.Call task lent (result_kind kind); unsent = list_any (◌==◌ number) unsent }))
one-call g why unsent thrown are r others calls go (LooksUp number task name) is s =
    ap (each (end_request g why) others)
    (ap (λ (a : Asked). end_asked g (why a) a s) is
    ∙ ap (λ (c : ClassId). reply_to g (LooksUp number task name) (Throws c) s) (are (LooksUp number task name) number (asker.Lookup task) refl)
    ∙ end-lookup-is g (thrown_at thrown (list_any (◌==◌ number) unsent)) number task name s)
    ∙ go (end_call g thrown s (record { asker = asker.Lookup task; unsent = list_any (◌==◌ number) unsent }))
one-call g why unsent thrown are r others calls go (Tells call group) is s = go s

-- calls and lookups end, as the end of all that is asked tells them
pub calls-end : (g : Setting) (why : Asked → ClassId) (unsent : List ℕ) (thrown : Thrown) → AreThrown why unsent thrown → (requests : List Request) (s : State)
    → each (end_request g why) (filter (λ (r : Request). not (is_group r.asked)) requests) s ≡ each (end_call g thrown) (flat_map (ended_as unsent) requests) s
unfolding each
calls-end g why unsent thrown are [] s = refl
calls-end g why unsent thrown are (r ∷ rs) s =
    one-call g why unsent thrown are r (filter (λ (r : Request). not (is_group r.asked)) rs) (flat_map (ended_as unsent) rs) (λ t. calls-end g why unsent thrown are rs t) r.asked refl s

-- ---- dirty and clean calls

one-group : (g : Setting) (why : Asked → ClassId) (r : Request) (others : List Request) (groups : List OutGroup)
    → ((t : State) → each (end_request g why) others t ≡ each (fail_out g) groups t)
    → (a : Asked) → r.asked ≡ a → (s : State)
    → each (end_request g why) (cond (is_group a) (r ∷ others) others) s ≡ each (fail_out g) (ended_group (record r { asked = a }) ++ groups) s
unfolding each
one-group g why r others groups go (Calls number task lent kind m) is s = go s
one-group g why r others groups go (LooksUp number task name) is s = go s
one-group g why r others groups go (Tells call group) is s =
    ap (each (end_request g why) others) (ap (λ (a : Asked). end_asked g (why a) a s) is) ∙ go (fail_out g s (record { call = call; group = group }))

pub groups-fail : (g : Setting) (why : Asked → ClassId) (requests : List Request) (s : State)
    → each (end_request g why) (filter (λ (r : Request). is_group r.asked) requests) s ≡ each (fail_out g) (flat_map ended_group requests) s
unfolding each
groups-fail g why [] s = refl
groups-fail g why (r ∷ rs) s =
    one-group g why r (filter (λ (r : Request). is_group r.asked) rs) (flat_map ended_group rs) (λ t. groups-fail g why rs t) r.asked refl s

-- ---- by which classes

pub thrown-all : (class : ClassId) (unsent : List ℕ) → AreThrown (λ (asked : Asked). class) unsent (record { unsent = class; others = class })
thrown-all class unsent asked number by is = same (list_any (◌==◌ number) unsent)
  where
    same : (b : Bool) → class ≡ cond b class class
    same true = refl
    same false = refl

one-row : (x y : ℕ × Asker) → x ∷ [] ≡ y ∷ [] → x ≡ y
one-row x y is = cc

pub thrown-unsent : (g : Setting) (unsent : List ℕ) → AreThrown (why_unsent g unsent) unsent (record { unsent = g.classes.marshal; others = g.classes.unmarshal })
thrown-unsent g unsent (Calls n task lent kind m) number by is =
    let row = one-row (n, asker.Call task lent (result_kind kind)) (number, by) is in let its : n ≡ number = ap (λ (r : ℕ × Asker). r.0) row in ap (λ (k : ℕ). cond (list_any (◌==◌ k) unsent) g.classes.marshal g.classes.unmarshal) its
thrown-unsent g unsent (LooksUp n task name) number by is =
    let row = one-row (n, asker.Lookup task) (number, by) is in let its : n ≡ number = ap (λ (r : ℕ × Asker). r.0) row in ap (λ (k : ℕ). cond (list_any (◌==◌ k) unsent) g.classes.marshal g.classes.unmarshal) its
thrown-unsent g unsent (Tells call group) number by is = cc

-- ---- connections

-- what ends with an open connection: what is asked goes before frames are dropped, or after
pub connection-ends : (g : Setting) (why : Asked → ClassId) (conn : ℕ) (c : Connection) (s : State) → connection_at s conn ≡ Some c
    → end_connection g why conn s
    ≡ end_each g why (filter (is_of_connection conn c.dialled) s.requests)
    (each unpark (filter (λ (p : ParkedFrame). p.conn == conn) s.parked) (remove_requests (is_of_connection conn c.dialled) (without_connection conn s)))
unfolding end_connection end_requests
connection-ends g why conn c s there =
    ap (λ (o : Option Connection). with_some o s (λ (d : Connection). end_requests g (is_of_connection conn d.dialled) why (each unpark ps (without_connection conn s)))) there
    ∙ (λ j. end_each g why (filter (is_of_connection conn c.dialled) (unpark-requests ps (without_connection conn s) j)) (sym (unpark-removed (is_of_connection conn c.dialled) ps (without_connection conn s)) j))
  where
    ps : List ParkedFrame
    ps = filter (λ (p : ParkedFrame). p.conn == conn) s.parked

-- one that is not open does not end
pub connection-stays : (g : Setting) (why : Asked → ClassId) (conn : ℕ) (s : State) → connection_at s conn ≡ None → end_connection g why conn s ≡ s
unfolding end_connection
connection-stays g why conn s none =
    ap (λ (o : Option Connection). with_some o s (λ (d : Connection). end_requests g (is_of_connection conn d.dialled) why (each unpark (filter (λ (p : ParkedFrame). p.conn == conn) s.parked) (without_connection conn s)))) none

pub refused-is : (g : Setting) (peer : Uuid) (s : State)
    → on_refused g peer s ≡ end_each g (λ (asked : Asked). g.classes.connect) (filter (waits_for peer) s.requests) (remove_requests (waits_for peer) (dialled_no_more (Some peer) s))
unfolding on_refused end_requests
refused-is g peer s = refl
