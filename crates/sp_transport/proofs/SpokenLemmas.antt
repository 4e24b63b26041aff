-- A space says Hello on a connection with a version: what was noted there stays, and who waits for whom.
use Rattle.std.proofs.Common.{◌≡◌, ℕ, Bool, true, false, cond, List, [], ◌∷◌, Some, is_some, ◌⊎◌, inl, inr, refl, sym, ap, subst, ◌∙◌}
use Rattle.std.specs.Prelude.{◌==◌, ◌||◌, fold}
use Rattle.std.specs.List.{list_any}
use Rattle.std.specs.Str.{bytes_eq}
use Rattle.net_message.specs.declared.message.Message.{Message}
use Rattle.dgc_client.specs.Table as client
use Rattle.uuid.specs.declared.Uuid.{Uuid}
use Rattle.sp_rules.proofs.AllLemmas.{all-weaken}
use Rattle.sp_rules.proofs.LineLemmas.{row-hello, row-some}
use Rattle.sp_rules.specs.Events.{Output, Started, Ended, Withdrawn, Denied, Send, Dial, Close, Ready, Note, Says, Sends, in_order}
use Rattle.sp_rules.specs.Frames.{of_version}
use Rattle.sp_rules.specs.Lines.{WaitsForHello, dialled_to}
use Rattle.sp_rules.specs.Requests.{hello_came}
use Rattle.sp_rules.specs.State.{State, Connection}
use Rattle.sp_requests.specs.Tables.{AreConnections}
use Rattle.sp_requests.specs.declared.connections.Connections.{Connections}
use Rattle.sp_requests.specs.AllAsked.{AreAsked, sent_on}
use Rattle.sp_requests.proofs.CoreLemmas.{row-asked}
use Rattle.sp_transport.specs.Said.{AreLinesAlike, output_sent, recorded, recorded_in_order}
use Rattle.sp_transport.specs.Transports.{IsLine, IsTransport, WentAfterHello, asked_up_to}
use Rattle.sp_transport.specs.declared.transport.Transport.{Transport}
use Rattle.sp_transport.proofs.OpeningLemmas.{changed}
use Rattle.sp_transport.proofs.RowLemmas.{IsChangedOn, change-found}

abbrev spoken : ℕ → Connection → Connection
spoken version c = record c { version = version }

-- ---- frames are noted whatever the version

sent-spoken : (version conn n : ℕ) (m : Message) (cs : List Connection) → sent_on n m (changed (spoken version) conn cs) ≡ changed (spoken version) conn (sent_on n m cs)
sent-spoken version conn n m [] = refl
sent-spoken version conn n m (c ∷ cs) = by (c.number == conn) refl (c.number == n) refl (sent-spoken version conn n m cs)
  where
    new : Connection → Connection
    new x = record x { sent = m ∷ x.sent }

    by : (b : Bool) → (c.number == conn) ≡ b → (d : Bool) → (c.number == n) ≡ d → sent_on n m (changed (spoken version) conn cs) ≡ changed (spoken version) conn (sent_on n m cs)
        → sent_on n m (cond b (spoken version c ∷ cs) (c ∷ changed (spoken version) conn cs)) ≡ changed (spoken version) conn (cond d (new c ∷ cs) (c ∷ sent_on n m cs))
    by true e true f go = ap (λ x. cond x (new (spoken version c) ∷ cs) (spoken version c ∷ sent_on n m cs)) f ∙ sym (ap (λ x. cond x (spoken version (new c) ∷ cs) (new c ∷ changed (spoken version) conn cs)) e)
    by true e false f go = ap (λ x. cond x (new (spoken version c) ∷ cs) (spoken version c ∷ sent_on n m cs)) f ∙ sym (ap (λ x. cond x (spoken version c ∷ sent_on n m cs) (c ∷ changed (spoken version) conn (sent_on n m cs))) e)
    by false e true f go = ap (λ x. cond x (new c ∷ changed (spoken version) conn cs) (c ∷ sent_on n m (changed (spoken version) conn cs))) f ∙ sym (ap (λ x. cond x (spoken version (new c) ∷ cs) (new c ∷ changed (spoken version) conn cs)) e)
    by false e false f go = ap (λ x. cond x (new c ∷ changed (spoken version) conn cs) (c ∷ sent_on n m (changed (spoken version) conn cs))) f ∙ (ap (λ (l : List Connection). c ∷ l) go ∙ sym (ap (λ x. cond x (spoken version c ∷ sent_on n m cs) (c ∷ changed (spoken version) conn (sent_on n m cs))) e))

recorded-spoken : (version conn : ℕ) (notes : List Note) (cs : List Connection) → recorded (changed (spoken version) conn cs) notes ≡ changed (spoken version) conn (recorded cs notes)
recorded-spoken version conn [] cs = refl
recorded-spoken version conn (Says output ∷ notes) cs = recorded-spoken version conn notes cs
recorded-spoken version conn (Sends turn n m ∷ notes) cs = ap (λ (l : List Connection). recorded l notes) (sent-spoken version conn n m cs) ∙ recorded-spoken version conn notes (sent_on n m cs)

outputs-spoken : (version conn : ℕ) (outputs : List Output) (cs : List Connection) → fold output_sent (changed (spoken version) conn cs) outputs ≡ changed (spoken version) conn (fold output_sent cs outputs)
outputs-spoken version conn [] cs = refl
outputs-spoken version conn (Send n m ∷ outputs) cs = ap (λ (l : List Connection). fold output_sent l outputs) (sent-spoken version conn n m cs) ∙ outputs-spoken version conn outputs (sent_on n m cs)
outputs-spoken version conn (Started task ∷ outputs) cs = outputs-spoken version conn outputs cs
outputs-spoken version conn (Ended task outcome ∷ outputs) cs = outputs-spoken version conn outputs cs
outputs-spoken version conn (Withdrawn ids ∷ outputs) cs = outputs-spoken version conn outputs cs
outputs-spoken version conn (Denied why ∷ outputs) cs = outputs-spoken version conn outputs cs
outputs-spoken version conn (Dial peer ∷ outputs) cs = outputs-spoken version conn outputs cs
outputs-spoken version conn (Close c ∷ outputs) cs = outputs-spoken version conn outputs cs
outputs-spoken version conn (Ready task ∷ outputs) cs = outputs-spoken version conn outputs cs

alike-spoken : (version conn : ℕ) (cs ds : List Connection) → AreLinesAlike cs ds → AreLinesAlike (changed (spoken version) conn cs) (changed (spoken version) conn ds)
alike-spoken version conn [] [] a = tt
alike-spoken version conn [] (d ∷ ds) a = absurd a
alike-spoken version conn (c ∷ cs) [] a = absurd a
alike-spoken version conn (c ∷ cs) (d ∷ ds) a = by (c.number == conn) refl (alike-spoken version conn cs ds a.1)
  where
    by : (b : Bool) → (c.number == conn) ≡ b → AreLinesAlike (changed (spoken version) conn cs) (changed (spoken version) conn ds)
        → AreLinesAlike (cond b (spoken version c ∷ cs) (c ∷ changed (spoken version) conn cs)) (changed (spoken version) conn (d ∷ ds))
    by true e rest = subst (λ x. AreLinesAlike (spoken version c ∷ cs) (cond x (spoken version d ∷ ds) (d ∷ changed (spoken version) conn ds))) (sym (ap (λ n. n == conn) (sym a.0.number) ∙ e))
        (record { number = a.0.number; dialled = a.0.dialled; peer = a.0.peer; sent = a.0.sent }, a.1)
    by false e rest = subst (λ x. AreLinesAlike (c ∷ changed (spoken version) conn cs) (cond x (spoken version d ∷ ds) (d ∷ changed (spoken version) conn ds))) (sym (ap (λ n. n == conn) (sym a.0.number) ∙ e)) (a.0, rest)

-- ---- the whole

pub now-spoken : (s : State) (t : Transport) (version conn : ℕ) (connections : Connections) → AreConnections (changed (spoken version) conn s.connections) s.dialling connections → IsTransport s t → IsTransport (of_version version conn s) (record t { connections = connections })
now-spoken s t version conn connections links a = record {
  leases = a.leases;
  connections = links;
  noted = a.noted;
  asked = subst (λ (l : List Connection). AreAsked l s.requests t.peers) (sym (recorded-spoken version conn s.notes s.connections)) (row-asked (λ (d : Connection). d.number == conn) (spoken version) (record { number = λ d. refl; dialled = λ d. refl }) (λ d. refl) a.asked);
  calls_made = a.calls_made;
  groups_made = a.groups_made;
  fresh = a.fresh;
  notes = a.notes;
  lines = record {
    sent = λ q d e. line q d (change-found conn (spoken version) (recorded s.connections s.notes) q d (λ x. refl) (subst (λ (l : List Connection). dialled_to l q ≡ Some d) (recorded-spoken version conn s.notes s.connections) e));
    waiting = all-weaken (WaitsForHello s.connections s.dialling) (WaitsForHello cs s.dialling) s.requests (λ r w is. let x = w is in (
      ap (λ b. b || list_any (bytes_eq r.peer) s.dialling) (row-some (λ (d : Connection). d.number == conn) (spoken version) (record { number = λ d. refl; dialled = λ d. refl }) s.connections r.peer) ∙ x.0,
      same r.peer ∙ x.1,
    )) a.lines.waiting;
    out = all-weaken (WentAfterHello s.connections) (WentAfterHello cs) s.requests (λ r w is. ap is_some (same r.peer) ∙ w is) a.lines.out;
    rising = a.lines.rising;
    fresh_is = a.lines.fresh_is;
    noted = a.lines.noted;
    alike = subst (λ (l : List Connection). AreLinesAlike l (recorded_in_order cs s.notes)) (sym (recorded-spoken version conn s.notes s.connections))
        (subst (λ (l : List Connection). AreLinesAlike (changed (spoken version) conn (recorded s.connections s.notes)) l) (sym (outputs-spoken version conn (in_order s.notes) s.connections)) (alike-spoken version conn (recorded s.connections s.notes) (recorded_in_order s.connections s.notes) a.lines.alike));
  };
}
  where
    cs : List Connection
    cs = changed (spoken version) conn s.connections

    line : (q : Uuid) (d : Connection) → (dialled_to (recorded s.connections s.notes) q ≡ Some d) ⊎ IsChangedOn (spoken version) (dialled_to (recorded s.connections s.notes) q) d → IsLine (asked_up_to s.calls_made s.fresh) (client.numbers_of s.leases) d
    line q d (inl f) = a.lines.sent q d f
    line q d (inr x) = let old = a.lines.sent q x.before x.there in subst (IsLine (asked_up_to s.calls_made s.fresh) (client.numbers_of s.leases)) (sym x.is) (record { called = old.called; told_of = old.told_of; quiet = old.quiet })

    same : (q : Uuid) → hello_came (dialled_to cs q) ≡ hello_came (dialled_to s.connections q)
    same q = row-hello (λ (d : Connection). d.number == conn) (spoken version) (record { number = λ d. refl; dialled = λ d. refl }) s.connections q (λ d found. inr refl)
