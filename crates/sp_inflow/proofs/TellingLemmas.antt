-- What was told of the bytes of a stream, call by call.
use Rattle.std.proofs.Common.{◌≡◌, ℕ, Bool, false, List, [], ◌∷◌, ◌++◌, Option, Some, None, refl, sym, ap, subst, ◌∙◌, append-nil, true≢false}
use Rattle.std.specs.Prelude.{Result, Ok, Err, IsTrue, map, option_to_list}
use Rattle.std.specs.Option.{MatchOption}
use Rattle.std.specs.Io.KnownBytes.{Consumes, Keeps, prepend_known}
use Rattle.std.specs.declared.alloc.AllocError.{AllocError}
use Rattle.net_message.specs.declared.fault.WireFault.{WireFault}
use Rattle.net_message.specs.declared.message.Message.{Message}
use Rattle.net_message.specs.Wire.{IsWire}
use Rattle.net_engine.specs.declared.inbound.Inflow.{Inflow}
use Rattle.net_engine.specs.declared.inbound.Inflow.TheVariants as inflows
use Rattle.net_engine.specs.Engine.{Receiver, left, Goes, Receives, Answers}
use Rattle.net_engine.proofs.Calls.{ends-closed, ends-bad}
use Rattle.sp_inflow.specs.declared.arrivals.Arrival.{Arrival}
use Rattle.sp_inflow.specs.declared.arrivals.Arrival.TheVariants.{Received, Closed, ReadFailed, Bad}
use Rattle.sp_inflow.specs.Arriving.{arrival_of, is_end}
use Rattle.sp_inflow.specs.Telling.{AreTold, Begins, HasCause, Incoming, Stands}

-- one frame more
begins-more : (bytes : List ℕ) (messages : List Message) (first rest : List ℕ) (message : Message) → IsWire first message → Begins bytes messages (first ++ rest) → Begins bytes (messages ++ message ∷ []) rest
begins-more bytes [] first rest message wire begins = (first, rest, (wire, begins, refl))
begins-more bytes (m ∷ messages) first rest message wire b = (b.0, b.1, (b.2.0, b.2.1, begins-more b.1 messages first rest message wire b.2.2))

received-more : (messages : List Message) (message : Message) → map (λ m. Received m) messages ++ Received message ∷ [] ≡ map (λ m. Received m) (messages ++ message ∷ [])
received-more [] message = refl
received-more (m ∷ messages) message = ap (λ (l : List Arrival). Received m ∷ l) (received-more messages message)

none-some : {A : Type 0} (x : A) → None ≡ Some x → ⊥
none-some x h = cc

some-none : {A : Type 0} (x : A) → Some x ≡ None → ⊥
some-none x h = cc

kept : (old new : Option (List ℕ)) (bytes : List ℕ) → old ≡ Some bytes → Keeps old new → new ≡ Some bytes
kept None new bytes is keeps = absurd (none-some bytes is)
kept (Some xs) None bytes is keeps = absurd keeps
kept (Some xs) (Some ys) bytes is keeps = let same : xs ≡ bytes = cc in ap (λ (z : List ℕ). Some z) (keeps ∙ same)

takes : (old new : Option (List ℕ)) (bytes frame : List ℕ) → old ≡ Some bytes → Consumes old new frame → (rest : List ℕ) × ((new ≡ Some rest) × (bytes ≡ frame ++ rest))
takes None new bytes frame is consumes = absurd (none-some bytes is)
takes (Some xs) None bytes frame is consumes = absurd consumes
takes (Some xs) (Some ys) bytes frame is consumes = let same : xs ≡ bytes = cc in (ys, (refl, sym same ∙ consumes))

module _ {S : Type 0} (remaining : S → Option (List ℕ)) (has_failed : S → Bool) where
  -- nothing is told at first
  pub none-told : (source : S) (room : ℕ) (bytes : List ℕ) → remaining source ≡ Some bytes → AreTold remaining bytes [] (record { receiver = record { source = source; held = []; fault = None; room = room }; ended = false })
  none-told source room bytes is = record {
    messages = [];
    end = None;
    rest = bytes;
    begins = refl;
    are = refl;
    stands = (refl, refl, ap (prepend_known []) is);
  }

  -- what a call does if no fault ended the stream
  goes : (old : Receiver S) (result : Result Inflow AllocError) (new : Receiver S) → old.fault ≡ None → Receives remaining has_failed old result new → Goes remaining has_failed old result new
  goes old result new none receives = by old.fault none receives
    where
      by : (o : Option WireFault) → o ≡ None → MatchOption o (Goes remaining has_failed old result new) (λ fault. (result ≡ Ok (inflows.Bad fault)) × (new ≡ old)) → Goes remaining has_failed old result new
      by None is h = h
      by (Some f) is h = absurd (some-none f is)

  failed-bad : (fault : WireFault) → ◌≡◌ {A = Result Inflow AllocError} (Ok inflows.ReadFailed) (Ok (inflows.Bad fault)) → ⊥
  failed-bad fault h = cc

  -- a read failed only if the source has
  pub has-cause : (old new : Receiver S) (inflow : Inflow) → Receives remaining has_failed old (Ok inflow) new → HasCause has_failed (Some (arrival_of inflow)) new.source
  has-cause old new (inflows.Frame message) receives = tt
  has-cause old new (inflows.Closed inside) receives = tt
  has-cause old new (inflows.Bad fault) receives = tt
  has-cause old new inflows.ReadFailed receives = by old.fault receives
    where
      by : (o : Option WireFault) → MatchOption o (Goes remaining has_failed old (Ok inflows.ReadFailed) new) (λ fault. (◌≡◌ {A = Result Inflow AllocError} (Ok inflows.ReadFailed) (Ok (inflows.Bad fault))) × (new ≡ old)) → IsTrue (has_failed new.source)
      by None h = h.1
      by (Some f) h = absurd (failed-bad f h.0)

  -- what stands of a stream that has not ended
  goes-on : (end : Option Arrival) (rest : List ℕ) (incoming : Incoming S) → incoming.ended ≡ false → Stands remaining end rest incoming
      → (end ≡ None) × ((incoming.receiver.fault ≡ None) × (left remaining incoming.receiver ≡ Some rest))
  goes-on None rest incoming not s = (refl, (s.1, s.2))
  goes-on (Some (Received m)) rest incoming not s = absurd s
  goes-on (Some Closed) rest incoming not s = absurd (true≢false (sym s.0 ∙ not))
  goes-on (Some ReadFailed) rest incoming not s = absurd (true≢false (sym s ∙ not))
  goes-on (Some Bad) rest incoming not s = absurd (true≢false (sym s.0 ∙ not))

  -- one arrival more
  pub one-told : (bytes : List ℕ) (told : List Arrival) (old new : Incoming S) (inflow : Inflow) → old.ended ≡ false → new.ended ≡ is_end (arrival_of inflow)
      → Receives remaining has_failed old.receiver (Ok inflow) new.receiver → AreTold remaining bytes told old → AreTold remaining bytes (told ++ arrival_of inflow ∷ []) new
  unfolding Answers
  one-told bytes told old new (inflows.Frame message) not ended receives t =
      let s = goes-on t.end t.rest old not t.stands in
      let g = goes old.receiver (Ok (inflows.Frame message)) new.receiver s.1.0 receives in
      let k = takes (left remaining old.receiver) (remaining new.receiver.source) t.rest g.0 s.1.1 g.1.1 in
      record {
        messages = t.messages ++ message ∷ [];
        end = None;
        rest = k.0;
        begins = begins-more bytes t.messages g.0 k.0 message g.1.0 (subst (Begins bytes t.messages) k.1.1 t.begins);
        are = ap (λ (l : List Arrival). l ++ Received message ∷ []) (t.are ∙ ap (λ e. map (λ m. Received m) t.messages ++ option_to_list e) s.0 ∙ append-nil (map (λ m. Received m) t.messages))
            ∙ received-more t.messages message ∙ sym (append-nil (map (λ m. Received m) (t.messages ++ message ∷ [])));
        stands = (ended, g.1.3, (λ i. prepend_known (g.1.2 i) (k.1.0 i)));
      }
  one-told bytes told old new (inflows.Closed inside) not ended receives t =
      let s = goes-on t.end t.rest old not t.stands in record {
        messages = t.messages;
        end = Some Closed;
        rest = t.rest;
        begins = t.begins;
        are = ap (λ (l : List Arrival). l ++ Closed ∷ []) (t.are ∙ ap (λ e. map (λ m. Received m) t.messages ++ option_to_list e) s.0 ∙ append-nil (map (λ m. Received m) t.messages));
        stands = (ended, (new.receiver.held, ends-closed remaining has_failed old.receiver old.receiver new.receiver [] t.rest inside s.1.0 s.1.1 refl receives));
      }
  one-told bytes told old new inflows.ReadFailed not ended receives t =
      let s = goes-on t.end t.rest old not t.stands in record {
        messages = t.messages;
        end = Some ReadFailed;
        rest = t.rest;
        begins = t.begins;
        are = ap (λ (l : List Arrival). l ++ ReadFailed ∷ []) (t.are ∙ ap (λ e. map (λ m. Received m) t.messages ++ option_to_list e) s.0 ∙ append-nil (map (λ m. Received m) t.messages));
        stands = ended;
      }
  one-told bytes told old new (inflows.Bad fault) not ended receives t =
      let s = goes-on t.end t.rest old not t.stands in record {
        messages = t.messages;
        end = Some Bad;
        rest = t.rest;
        begins = t.begins;
        are = ap (λ (l : List Arrival). l ++ Bad ∷ []) (t.are ∙ ap (λ e. map (λ m. Received m) t.messages ++ option_to_list e) s.0 ∙ append-nil (map (λ m. Received m) t.messages));
        stands = (ended, (fault, ends-bad remaining has_failed old.receiver old.receiver new.receiver [] t.rest fault s.1.0 s.1.1 refl receives));
      }

  -- at out of memory the stream goes on as before
  pub still-told : (bytes : List ℕ) (told : List Arrival) (old new : Incoming S) (error : AllocError) → old.ended ≡ false → new.ended ≡ false
      → Receives remaining has_failed old.receiver (Err error) new.receiver → AreTold remaining bytes told old → AreTold remaining bytes told new
  still-told bytes told old new error not still receives t =
      let s = goes-on t.end t.rest old not t.stands in
      let g = goes old.receiver (Err error) new.receiver s.1.0 receives in
      record {
        messages = t.messages;
        end = None;
        rest = t.rest;
        begins = t.begins;
        are = t.are ∙ ap (λ e. map (λ m. Received m) t.messages ++ option_to_list e) s.0;
        stands = (still, g.1, kept (left remaining old.receiver) (left remaining new.receiver) t.rest s.1.1 g.0);
      }
