-- What was told of a stream are its first events.
use Rattle.std.proofs.Common.{◌≡◌, ℕ, ◌+◌, Bool, true, List, [], ◌∷◌, ◌++◌, Option, Some, None, length, take, refl, sym, ap, subst, ◌∙◌, append_assoc, append-nil, true≢false}
use Rattle.std.specs.Prelude.{Result, Ok, map, option_to_list}
use Rattle.std.proofs.lemmas.List.{get_or-append-add, take_at}
use Rattle.net_message.specs.declared.fault.WireFault.{WireFault}
use Rattle.net_message.specs.declared.message.Message.{Message}
use Rattle.net_message.specs.Wire.{IsWire}
use Rattle.net_frames.specs.Stream.{AreBytes, Held, Rest, Stopped, Stream}
use Rattle.net_frames.proofs.FieldLaws.{ok_not_err}
use Rattle.net_frames.proofs.FrontLaws.{partial_front, breaks_front, wire_front}
use Rattle.net_frames.proofs.StreamLaws.{one_reading, rest_of, then_rest, two_readings}
use Rattle.sp_rules.specs.Events as rules
use Rattle.sp_inflow.specs.declared.arrivals.Arrival.{Arrival}
use Rattle.sp_inflow.specs.declared.arrivals.Arrival.TheVariants.{Received, Closed, ReadFailed, Bad}
use Rattle.sp_inflow.specs.Arriving.{Course, IsRead, FailsAfter, end_of, event_of, events_of}
use Rattle.sp_inflow.specs.Telling.{AreTold, Begins, Incoming, Stands}

-- what is told so far, and what the rest says, are the reading of all
reading : (bytes : List ℕ) (messages : List Message) (rest : List ℕ) (held : Held) → Begins bytes messages rest → Stream rest [] held → Stream bytes messages held
reading bytes [] rest held b s = subst (λ (x : List ℕ). Stream x [] held) (sym b) s
reading bytes (m ∷ messages) rest held b s = subst (λ (x : List ℕ). Stream x (m ∷ messages) held) (sym b.2.1) (then_rest b.0 b.1 m messages held b.2.0 (reading b.1 messages rest held b.2.2 s))

no-front : (x : Message × List ℕ) → ◌≡◌ {A = Result (Option (Message × List ℕ)) WireFault} (Ok None) (Ok (Some x)) → ⊥
no-front x e = absurd cc

-- bytes that begin with a frame are no end
no-end : (first others : List ℕ) (m : Message) (held : Held) → AreBytes (first ++ others) → IsWire first m → Stream (first ++ others) [] held → ⊥
unfolding Stream
no-end first others m (Rest x) h wire s = no-front (m, others) (sym (partial_front (first ++ others) s.0) ∙ wire_front first others m wire)
no-end first others m (Stopped f) h wire s = ok_not_err (Some (m, others)) f (sym (wire_front first others m wire) ∙ breaks_front (first ++ others) f h s)

first-frame : (first others : List ℕ) (m n : Message) (ms : List Message) (held : Held) → IsWire first m → Stream (first ++ others) (n ∷ ms) held → m ≡ n
unfolding Stream
first-frame first others m n ms held wire s = (two_readings first s.0 others s.1 m n wire s.2.0 s.2.1).0

bytes-after : (first others : List ℕ) → AreBytes (first ++ others) → AreBytes others
bytes-after first others h i = rw (← get_or-append-add first others i 0) (h (length first + i))

-- any reading of the bytes has the frames that were told first
goes-first : (bytes : List ℕ) (messages ms : List Message) (rest : List ℕ) (held : Held) → AreBytes bytes → Begins bytes messages rest → Stream bytes ms held → (more : List Message) × (ms ≡ messages ++ more)
goes-first bytes [] ms rest held h b s = (ms, refl)
goes-first bytes (m ∷ messages) [] rest held h b s = absurd (no-end b.0 b.1 m held (subst AreBytes b.2.1 h) b.2.0 (subst (λ (x : List ℕ). Stream x [] held) b.2.1 s))
goes-first bytes (m ∷ messages) (n ∷ ms) rest held h b s =
    let a = subst (λ (x : List ℕ). Stream x (n ∷ ms) held) b.2.1 s in
    let same = first-frame b.0 b.1 m n ms held b.2.0 a in
    let r = rest_of b.0 b.1 m ms held b.2.0 (subst (λ (k : Message). Stream (b.0 ++ b.1) (k ∷ ms) held) (sym same) a) in
    let later = goes-first b.1 messages ms rest held (bytes-after b.0 b.1 (subst AreBytes b.2.1 h)) b.2.2 r in
    (later.0, ap (λ (k : Message). k ∷ ms) (sym same) ∙ ap (λ (l : List Message). m ∷ l) later.1)

-- the events of what was told
events : (conn : ℕ) (messages : List Message) (last : List Arrival) → map (event_of conn) (map (λ m. Received m) messages ++ last) ≡ map (λ m. rules.Received conn m) messages ++ map (event_of conn) last
events conn [] last = refl
events conn (m ∷ messages) last = ap (λ (l : List rules.Event). rules.Received conn m ∷ l) (events conn messages last)

received-on : (conn : ℕ) (messages more : List Message) → map (λ m. rules.Received conn m) (messages ++ more) ≡ map (λ m. rules.Received conn m) messages ++ map (λ m. rules.Received conn m) more
received-on conn [] more = refl
received-on conn (m ∷ messages) more = ap (λ (l : List rules.Event). rules.Received conn m ∷ l) (received-on conn messages more)

take-first : (messages more : List Message) → take (length messages) (messages ++ more) ≡ messages
take-first messages more = take_at messages more (length messages) refl

abbrev IsFirst : ℕ → List Message → Held → List Arrival → Bool → Type 0
IsFirst conn messages held told ended = (course : Course) × (more : List rules.Event) × ((map (event_of conn) told ++ more ≡ events_of conn messages held course) × (ended ≡ true → more ≡ []))

module _ {S : Type 0} (remaining : S → Option (List ℕ)) where
  by-end : (conn : ℕ) (bytes : List ℕ) (ms : List Message) (held : Held) (messages : List Message) (end : Option Arrival) (rest : List ℕ) (incoming : Incoming S)
      → AreBytes bytes → Stream bytes ms held → Begins bytes messages rest → Stands remaining end rest incoming
      → IsFirst conn ms held (map (λ m. Received m) messages ++ option_to_list end) incoming.ended
  by-end conn bytes ms held messages None rest incoming h s b stands =
      let first = goes-first bytes messages ms rest held h b s in (
        IsRead,
        map (λ m. rules.Received conn m) first.0 ++ end_of conn held ∷ [],
        (
          ap (λ (l : List rules.Event). l ++ (map (λ m. rules.Received conn m) first.0 ++ end_of conn held ∷ [])) (events conn messages [] ∙ append-nil (map (λ m. rules.Received conn m) messages))
              ∙ sym (append_assoc (map (λ m. rules.Received conn m) messages) (map (λ m. rules.Received conn m) first.0) (end_of conn held ∷ []))
              ∙ ap (λ (l : List rules.Event). l ++ end_of conn held ∷ []) (sym (received-on conn messages first.0) ∙ ap (map (λ m. rules.Received conn m)) (sym first.1)),
          λ yes. absurd (true≢false (sym yes ∙ stands.0)),
        ),
      )
  by-end conn bytes ms held messages (Some (Received m)) rest incoming h s b stands = absurd stands
  by-end conn bytes ms held messages (Some Closed) rest incoming h s b stands =
      let one = one_reading bytes messages ms (Rest stands.1.0) held h (reading bytes messages rest (Rest stands.1.0) b stands.1.1) s in (
        IsRead,
        [],
        (
          append-nil (map (event_of conn) (map (λ m. Received m) messages ++ Closed ∷ [])) ∙ events conn messages (Closed ∷ []) ∙ (λ i. map (λ m. rules.Received conn m) (one.0 i) ++ end_of conn (one.1 i) ∷ []),
          λ yes. refl,
        ),
      )
  by-end conn bytes ms held messages (Some ReadFailed) rest incoming h s b stands =
      let first = goes-first bytes messages ms rest held h b s in (
        FailsAfter (length messages),
        [],
        (
          append-nil (map (event_of conn) (map (λ m. Received m) messages ++ ReadFailed ∷ [])) ∙ events conn messages (ReadFailed ∷ [])
              ∙ ap (λ (l : List Message). map (λ m. rules.Received conn m) l ++ rules.ReadFailed conn ∷ []) (sym (take-first messages first.0) ∙ ap (take (length messages)) (sym first.1)),
          λ yes. refl,
        ),
      )
  by-end conn bytes ms held messages (Some Bad) rest incoming h s b stands =
      let one = one_reading bytes messages ms (Stopped stands.1.0) held h (reading bytes messages rest (Stopped stands.1.0) b stands.1.1) s in (
        IsRead,
        [],
        (
          append-nil (map (event_of conn) (map (λ m. Received m) messages ++ Bad ∷ [])) ∙ events conn messages (Bad ∷ []) ∙ (λ i. map (λ m. rules.Received conn m) (one.0 i) ++ end_of conn (one.1 i) ∷ []),
          λ yes. refl,
        ),
      )

  pub first-events : (conn : ℕ) (bytes : List ℕ) (messages : List Message) (held : Held) (told : List Arrival) (incoming : Incoming S)
      → AreBytes bytes → Stream bytes messages held → AreTold remaining bytes told incoming
      → (course : Course) × (more : List rules.Event) × ((map (event_of conn) told ++ more ≡ events_of conn messages held course) × (incoming.ended ≡ true → more ≡ []))
  first-events conn bytes messages held told incoming h s t =
      subst (λ (l : List Arrival). IsFirst conn messages held l incoming.ended) (sym t.are) (by-end conn bytes messages held t.messages t.end t.rest incoming h s t.begins t.stands)
