-- The end of an event: each connection remembers what was sent on it, in the order in which it went out.
use Rattle.std.proofs.Common.{◌≡◌, ℕ, ◌≤◌, Bool, true, false, cond, List, [], ◌∷◌, ◌++◌, Option, None, Some, is_some, map, refl, sym, ap, subst, ◌∙◌, true≢false}
use Rattle.std.specs.Prelude.{◌||◌, fold}
use Rattle.std.specs.List.{flat_map, list_any}
use Rattle.std.specs.Str.{bytes_eq}
use Rattle.net_message.specs.declared.message.Message.{Message}
use Rattle.uuid.specs.declared.Uuid.{Uuid}
use Rattle.sp_rules.proofs.AllLemmas.{all-weaken}
use Rattle.sp_rules.proofs.LineLemmas.{To}
use Rattle.sp_rules.specs.Endings.{call_number_in}
use Rattle.sp_rules.specs.Events.{Output, Started, Ended, Withdrawn, Denied, Send, Dial, Close, Ready, in_order}
use Rattle.sp_rules.specs.Lines.{WaitsForHello, dialled_to}
use Rattle.sp_rules.specs.Lists.{each}
use Rattle.sp_rules.specs.Requests.{hello_came}
use Rattle.sp_rules.specs.Space.{conclude, record_sent}
use Rattle.sp_rules.specs.State.{State, Connection, is_to}
use Rattle.sp_requests.proofs.TableLemmas as tables
use Rattle.sp_requests.specs.Tables.{AreConnections}
use Rattle.sp_requests.specs.declared.connections.Connections.{Connections}
use Rattle.sp_requests.specs.Asking.{newest}
use Rattle.sp_requests.proofs.CoreLemmas.{IsSameLine, lines-alike}
use Rattle.sp_outputs.specs.Notes.{notes_of}
use Rattle.sp_outputs.specs.declared.outputs.Outputs.{Outputs}
use Rattle.sp_transport.specs.Said.{AreLinesAlike, CountAlike, IsLineAlike, output_sent, recorded_in_order, said}
use Rattle.sp_transport.specs.Transports.{AreLines, IsLine, IsTransport, WentAfterHello, asked_up_to, line_parts}
use Rattle.sp_transport.specs.declared.transport.Transport.{Transport}
use Rattle.dgc_client.specs.Table as client
use Rattle.sp_transport.proofs.SaidLemmas.{AreSameFound, AreSameRows, alike-self, rows-dialled, rows-noted}

-- ---- what the rules make of it

recorded-outputs : (os : List Output) (s : State) → fold record_sent s os ≡ record s { connections = fold output_sent s.connections os }
recorded-outputs [] s = refl
recorded-outputs (Started task ∷ os) s = recorded-outputs os s
recorded-outputs (Ended task outcome ∷ os) s = recorded-outputs os s
recorded-outputs (Withdrawn ids ∷ os) s = recorded-outputs os s
recorded-outputs (Denied fault ∷ os) s = recorded-outputs os s
recorded-outputs (Send conn m ∷ os) s = recorded-outputs os (record_sent s (Send conn m))
recorded-outputs (Dial peer ∷ os) s = recorded-outputs os s
recorded-outputs (Close conn ∷ os) s = recorded-outputs os s
recorded-outputs (Ready task ∷ os) s = recorded-outputs os s

concluded-is : (s : State) → (conclude s (in_order s.notes)).0 ≡ record s { connections = recorded_in_order s.connections s.notes; notes = [] }
unfolding each
concluded-is s = recorded-outputs (in_order s.notes) (record s { notes = [] })

-- ---- connections that are alike

join : List (List ℕ) → List ℕ
join [] = []
join (ns ∷ nss) = ns ++ join nss

all-numbers : (ms : List Message) → flat_map call_number_in ms ≡ join (map call_number_in ms)
unfolding join
all-numbers [] = refl
all-numbers (m ∷ ms) = ap (λ (l : List ℕ). call_number_in m ++ l) (all-numbers ms)

same-numbers : {a b : List Message} → CountAlike a b → flat_map call_number_in a ≡ flat_map call_number_in b
same-numbers {a} {b} e = all-numbers a ∙ (ap join e.calls ∙ sym (all-numbers b))

dialled-some : (q : Uuid) (o : Option Uuid) → is_to q o ≡ true → is_some o ≡ true
dialled-some q None e = absurd (true≢false (sym e))
dialled-some q (Some p) e = refl

-- the connections that were dialled to a peer are one, and count alike
alike-lines : (cs ds : List Connection) (q : Uuid) → AreLinesAlike cs ds → IsSameLine (dialled_to cs q) (dialled_to ds q)
alike-lines [] [] q a = tt
alike-lines [] (d ∷ ds) q a = absurd a
alike-lines (c ∷ cs) [] q a = absurd a
alike-lines (c ∷ cs) (d ∷ ds) q a =
    subst (λ (o : Option Uuid). IsSameLine (dialled_to (c ∷ cs) q) (cond (is_to q o) (Some d) (dialled_to ds q))) a.0.dialled (pick (To q c) refl (alike-lines cs ds q a.1))
  where
    pick : (b : Bool) → To q c ≡ b → IsSameLine (dialled_to cs q) (dialled_to ds q) → IsSameLine (cond b (Some c) (dialled_to cs q)) (cond b (Some d) (dialled_to ds q))
    pick true to go = let counts = a.0.sent (dialled-some q c.dialled to) in (a.0.number, record { calls = counts.calls; sequences = counts.sequences })
    pick false to go = go

rows-alike : (cs ds : List Connection) → AreLinesAlike cs ds → AreSameRows cs ds
rows-alike [] [] a = tt
rows-alike [] (d ∷ ds) a = absurd a
rows-alike (c ∷ cs) [] a = absurd a
rows-alike (c ∷ cs) (d ∷ ds) a = (record { number = a.0.number; dialled = a.0.dialled; peer = a.0.peer }, rows-alike cs ds a.1)

-- The line before, of one that counts alike.
record IsLineBefore (o : Option Connection) (d : Connection) : Type 0 where
  pub row : Connection
  pub there : o ≡ Some row
  pub alike : IsLineAlike row d
  pub dialled : is_some row.dialled ≡ true

line-before : (cs ds : List Connection) (q : Uuid) (d : Connection) → AreLinesAlike cs ds → dialled_to ds q ≡ Some d → IsLineBefore (dialled_to cs q) d
line-before [] [] q d a e = absurd (nothing d e)
  where
    nothing : (x : Connection) → None ≡ Some x → ⊥
    nothing x h = cc
line-before [] (y ∷ ds) q d a e = absurd a
line-before (x ∷ cs) [] q d a e = absurd a
line-before (x ∷ cs) (y ∷ ds) q d a e = pick (To q x) refl (subst (λ (o : Option Uuid). cond (is_to q o) (Some y) (dialled_to ds q) ≡ Some d) (sym a.0.dialled) e) (λ f. line-before cs ds q d a.1 f)
  where
    only : (u v : Connection) → Some u ≡ Some v → u ≡ v
    only u v h = cc

    lift : To q x ≡ false → IsLineBefore (dialled_to cs q) d → IsLineBefore (dialled_to (x ∷ cs) q) d
    lift out b = record { row = b.row; there = ap (λ t. cond t (Some x) (dialled_to cs q)) out ∙ b.there; alike = b.alike; dialled = b.dialled }

    pick : (b : Bool) → To q x ≡ b → cond b (Some y) (dialled_to ds q) ≡ Some d → (dialled_to ds q ≡ Some d → IsLineBefore (dialled_to cs q) d) → IsLineBefore (dialled_to (x ∷ cs) q) d
    pick true to f go = record { row = x; there = ap (λ t. cond t (Some x) (dialled_to cs q)) to; alike = subst (IsLineAlike x) (only y d f) a.0; dialled = dialled-some q x.dialled to }
    pick false to f go = lift to (go f)

line-alike : (asked told : ℕ) (c d : Connection) → IsLineAlike c d → is_some c.dialled ≡ true → IsLine asked told c → IsLine asked told d
line-alike asked told c d alike some a =
    let counts = alike.sent some in
    let numbers : flat_map call_number_in c.sent ≡ flat_map call_number_in d.sent = same-numbers counts in record {
      called = subst (λ (l : List ℕ). newest l ≤ asked) numbers a.called;
      told_of = subst (λ (l : List ℕ). newest l ≤ told) counts.sequences a.told_of;
      quiet = λ none. sym numbers ∙ a.quiet (alike.peer ∙ none);
    }

-- ---- tables

output-connections : (o : Output) (cs : List Connection) (dialling : List Uuid) (table : Connections) → AreConnections cs dialling table → AreConnections (output_sent cs o) dialling table
output-connections (Started task) cs dialling table a = a
output-connections (Ended task outcome) cs dialling table a = a
output-connections (Withdrawn ids) cs dialling table a = a
output-connections (Denied fault) cs dialling table a = a
output-connections (Send conn m) cs dialling table a = tables.sent (λ (c : Connection). record c { sent = m ∷ c.sent }) (record { number = λ c. refl; dialled = λ c. refl }) (λ c. refl) cs dialling table conn a
output-connections (Dial peer) cs dialling table a = a
output-connections (Close conn) cs dialling table a = a
output-connections (Ready task) cs dialling table a = a

outputs-connections : (os : List Output) (cs : List Connection) (dialling : List Uuid) (table : Connections) → AreConnections cs dialling table → AreConnections (fold output_sent cs os) dialling table
outputs-connections [] cs dialling table a = a
outputs-connections (o ∷ os) cs dialling table a = outputs-connections os (output_sent cs o) dialling table (output-connections o cs dialling table a)

found-some : (o p : Option Connection) → AreSameFound o p → is_some p ≡ is_some o
found-some None None a = refl
found-some None (Some d) a = absurd a
found-some (Some c) None a = absurd a
found-some (Some c) (Some d) a = refl

found-hello : (o p : Option Connection) → AreSameFound o p → hello_came p ≡ hello_came o
found-hello None None a = refl
found-hello None (Some d) a = absurd a
found-hello (Some c) None a = absurd a
found-hello (Some c) (Some d) a = sym (ap (λ (p : Option Uuid). cond (is_some p) (Some c.number) None) a.peer ∙ ap (λ (n : ℕ). cond (is_some d.peer) (Some n) None) a.number)

rows-then : (cs ds es : List Connection) → AreSameRows cs ds → AreSameRows ds es → AreSameRows cs es
rows-then [] [] [] a b = tt
rows-then [] [] (e ∷ es) a b = absurd b
rows-then [] (d ∷ ds) es a b = absurd a
rows-then (c ∷ cs) [] es a b = absurd a
rows-then (c ∷ cs) (d ∷ ds) [] a b = absurd b
rows-then (c ∷ cs) (d ∷ ds) (e ∷ es) a b = (record { number = a.0.number ∙ b.0.number; dialled = a.0.dialled ∙ b.0.dialled; peer = a.0.peer ∙ b.0.peer }, rows-then cs ds es a.1 b.1)

-- ---- the whole

pub now-concluded : (s : State) (t : Transport) (outputs : Outputs) → notes_of outputs ≡ [] → IsTransport s t → IsTransport (conclude s (in_order s.notes)).0 (record t { outputs = outputs })
unfolding in_order
now-concluded s t outputs none a =
    subst (λ (u : State). IsTransport u (record t { outputs = outputs })) (sym (concluded-is s)) (record {
      leases = a.leases;
      connections = links;
      noted = a.noted;
      asked = lines-alike (λ q. alike-lines (said s) cs q a.lines.alike) links.numbered_once links.dialled_once a.asked;
      calls_made = a.calls_made;
      groups_made = a.groups_made;
      fresh = a.fresh;
      notes = none;
      lines = ended;
    })
  where
    cs : List Connection
    cs = recorded_in_order s.connections s.notes

    links : AreConnections cs s.dialling t.connections
    links = outputs-connections (in_order s.notes) s.connections s.dialling t.connections a.connections

    same : (q : Uuid) → AreSameFound (dialled_to s.connections q) (dialled_to cs q)
    same q = rows-dialled s.connections cs q (rows-then s.connections (said s) cs (rows-noted s.notes s.connections) (rows-alike (said s) cs a.lines.alike))

    line : (q : Uuid) (d : Connection) → IsLineBefore (dialled_to (said s) q) d → IsLine (asked_up_to s.calls_made s.fresh) (client.numbers_of s.leases) d
    line q d b = line-alike (asked_up_to s.calls_made s.fresh) (client.numbers_of s.leases) b.row d b.alike b.dialled (a.lines.sent q b.row b.there)

    ended : AreLines (record (line_parts s) { connections = cs; notes = [] })
    ended = record {
      sent = λ q d e. line q d (line-before (said s) cs q d a.lines.alike e);
      waiting = all-weaken (WaitsForHello s.connections s.dialling) (WaitsForHello cs s.dialling) s.requests (λ r w is. let x = w is in (
        ap (λ b. b || list_any (bytes_eq r.peer) s.dialling) (found-some (dialled_to s.connections r.peer) (dialled_to cs r.peer) (same r.peer)) ∙ x.0,
        found-hello (dialled_to s.connections r.peer) (dialled_to cs r.peer) (same r.peer) ∙ x.1,
      )) a.lines.waiting;
      out = all-weaken (WentAfterHello s.connections) (WentAfterHello cs) s.requests (λ r w is. ap is_some (found-hello (dialled_to s.connections r.peer) (dialled_to cs r.peer) (same r.peer)) ∙ w is) a.lines.out;
      rising = a.lines.rising;
      fresh_is = a.lines.fresh_is;
      noted = tt;
      alike = alike-self cs;
    }
