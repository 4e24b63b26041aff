-- Several calls, one after the other.
use Rattle.std.proofs.Common.{◌≡◌, ℕ, Bool, List, [], ◌∷◌, ◌++◌, take, drop, Option, Some, None, refl, sym, ap, subst, ◌∙◌, arith, length-append, length-drop}
use Rattle.std.specs.Prelude.{Result, Ok, Err}
use Rattle.std.specs.Option.{MatchOption}
use Rattle.std.specs.Io.KnownBytes.{Consumes, Keeps, IsAtEnd, prepend_known}
use Rattle.std.specs.declared.alloc.AllocError.{AllocError}
use Rattle.std.proofs.lemmas.List.{append-nil, drop-append-le, take-append-le}
use Rattle.net_message.specs.declared.fault.WireFault.{WireFault}
use Rattle.net_message.specs.declared.fault.WireFault.TheVariants as faults
use Rattle.net_message.specs.declared.message.Message.{Message}
use Rattle.net_frames.specs.Stream.{Rest, Stopped, Stream, Breaks, BreaksIn, HasBody, IsBodyLength, IsPartial, first_body, told_length}
use Rattle.net_frames.proofs.StreamLaws.{told_stays, then_rest}
use Rattle.net_engine.specs.declared.inbound.Inflow.{Inflow}
use Rattle.net_engine.specs.declared.inbound.Inflow.TheVariants as inflows
use Rattle.net_engine.specs.Engine.{Receiver, left, Goes, Receives, Answers, frames_in}

body_stays : (bytes more : List ℕ) → HasBody bytes → HasBody (bytes ++ more) × (first_body (bytes ++ more) ≡ first_body bytes)
unfolding first_body
body_stays bytes more has =
    let told = told_stays bytes more (omega (arith, has.1)) in
    let cut : drop 4 (bytes ++ more) ≡ drop 4 bytes ++ more = drop-append-le 4 bytes more (omega (arith, has.1)) in (
      ((omega (arith, told, has.0.0), omega (arith, told, has.0.1)), omega (arith, told, has.1, length-append bytes more)),
      ap (λ (k : ℕ). take k (drop 4 (bytes ++ more))) told ∙ ap (take (told_length bytes)) cut ∙ take-append-le (told_length bytes) (drop 4 bytes) more (omega (arith, has.1, length-drop 4 bytes)),
    )

-- bytes that follow do not mend a fault
breaks_stays : (bytes more : List ℕ) (fault : WireFault) → Breaks fault bytes → Breaks fault (bytes ++ more)
unfolding Breaks
breaks_stays bytes more faults.Length b = (omega (arith, b.0, length-append bytes more), λ fits. b.1 (subst IsBodyLength (told_stays bytes more b.0) fits))
breaks_stays bytes more faults.Kind b = let stays = body_stays bytes more b.0 in (stays.0, subst (BreaksIn faults.Kind) (sym stays.1) b.1)
breaks_stays bytes more faults.Body b = let stays = body_stays bytes more b.0 in (stays.0, subst (BreaksIn faults.Body) (sym stays.1) b.1)
breaks_stays bytes more faults.Trailing b = let stays = body_stays bytes more b.0 in (stays.0, subst (BreaksIn faults.Trailing) (sym stays.1) b.1)

module _ {S : Type 0} (remaining : S → Option (List ℕ)) (has_failed : S → Bool) where
  -- what is known of the bytes
  kept : (old new : Option (List ℕ)) (bytes : List ℕ) → old ≡ Some bytes → Keeps old new → new ≡ Some bytes
  kept None new bytes is keeps = cc
  kept (Some xs) None bytes is keeps = absurd keeps
  kept (Some xs) (Some ys) bytes is keeps = let same : xs ≡ bytes = cc in ap (λ (z : List ℕ). Some z) (keeps ∙ same)

  -- the known bytes begin with those that are held
  begins : (held bytes : List ℕ) (known : Option (List ℕ)) → prepend_known held known ≡ Some bytes → (more : List ℕ) × (bytes ≡ held ++ more)
  begins held bytes None is = absurd (none-some bytes is)
    where
      none-some : (xs : List ℕ) → None ≡ Some xs → ⊥
      none-some xs h = cc
  begins held bytes (Some more) is = let same : held ++ more ≡ bytes = cc in (more, sym same)

  -- the known bytes are the frame's, and then what the source has
  takes : (old : Option (List ℕ)) (new : Option (List ℕ)) (bytes frame : List ℕ) → old ≡ Some bytes → Consumes old new frame → (rest : List ℕ) × ((new ≡ Some rest) × (bytes ≡ frame ++ rest))
  takes None new bytes frame is consumes = absurd (none-some bytes is)
    where
      none-some : (xs : List ℕ) → None ≡ Some xs → ⊥
      none-some xs h = cc
  takes (Some xs) None bytes frame is consumes = absurd consumes
  takes (Some xs) (Some ys) bytes frame is consumes = let same : xs ≡ bytes = cc in (ys, (refl, sym same ∙ consumes))

  -- at the end of the stream all that is left is held
  at-end : (held bytes : List ℕ) (known : Option (List ℕ)) → prepend_known held known ≡ Some bytes → IsAtEnd known → held ≡ bytes
  at-end held bytes None is end = absurd (none-some bytes is)
    where
      none-some : (xs : List ℕ) → None ≡ Some xs → ⊥
      none-some xs h = cc
  at-end held bytes (Some more) is end =
      let same : held ++ more ≡ bytes = cc in sym (append-nil held) ∙ ap (λ (x : List ℕ). held ++ x) (sym end) ∙ same

  -- what a call does if no fault ended the stream
  goes : (old : Receiver S) (result : Result Inflow AllocError) (new : Receiver S) → old.fault ≡ None → Receives remaining has_failed old result new → Goes remaining has_failed old result new
  goes old result new none receives = by old.fault none receives
    where
      by : (o : Option WireFault) → o ≡ None → MatchOption o (Goes remaining has_failed old result new) (λ fault. (result ≡ Ok (inflows.Bad fault)) × (new ≡ old)) → Goes remaining has_failed old result new
      by None is h = h
      by (Some f) is h = absurd (some-none f is)
        where
          some-none : (f : WireFault) → Some f ≡ None → ⊥
          some-none f h = cc

  -- a fault stays
  stays : (old : Receiver S) (result : Result Inflow AllocError) (new : Receiver S) (f : WireFault) → old.fault ≡ Some f → Receives remaining has_failed old result new → (result ≡ Ok (inflows.Bad f)) × (new ≡ old)
  stays old result new f some receives = subst (λ (o : Option WireFault). MatchOption o (Goes remaining has_failed old result new) (λ fault. (result ≡ Ok (inflows.Bad fault)) × (new ≡ old))) some receives

  -- after a fault no frame comes
  stopped : (results : List (Result Inflow AllocError)) (old new : Receiver S) (f : WireFault) → old.fault ≡ Some f → Answers remaining has_failed old results new → (new.fault ≡ Some f) × (frames_in results ≡ [])
  unfolding Answers
  stopped [] old new f is h = (ap (λ (r : Receiver S). r.fault) h ∙ is, refl)
  stopped (result ∷ results) old new f is h =
      let stay = stays old result h.0 f is h.1.0 in
      let later = stopped results h.0 new f (ap (λ (r : Receiver S). r.fault) stay.1 ∙ is) h.1.1 in
      (later.0, subst (λ (r : Result Inflow AllocError). frames_in (r ∷ results) ≡ []) (sym stay.0) later.1)

  closed-bad : (r : Result Inflow AllocError) (inside : Bool) (f : WireFault) → r ≡ Ok (inflows.Closed inside) → r ≡ Ok (inflows.Bad f) → ⊥
  closed-bad r inside f h g = cc

  same-fault : (r : Result Inflow AllocError) (f g : WireFault) → r ≡ Ok (inflows.Bad f) → r ≡ Ok (inflows.Bad g) → f ≡ g
  same-fault r f g h k = cc

  pub ends-closed : (old between new : Receiver S) (results : List (Result Inflow AllocError)) (bytes : List ℕ) (inside : Bool) → old.fault ≡ None → left remaining old ≡ Some bytes
      → Answers remaining has_failed old results between → Receives remaining has_failed between (Ok (inflows.Closed inside)) new → Stream bytes (frames_in results) (Rest new.held)
  unfolding Answers Stream
  ends-closed old between new [] bytes inside none is h last =
      let g = goes between (Ok (inflows.Closed inside)) new (ap (λ (r : Receiver S). r.fault) h ∙ none) last in
      let same = kept (left remaining between) (left remaining new) bytes (ap (left remaining) h ∙ is) g.0 in
      let all : new.held ≡ bytes = at-end new.held bytes (remaining new.source) same g.1 in
      (subst IsPartial all g.2, all)
  ends-closed old between new (Ok (inflows.Frame message) ∷ results) bytes inside none is h last =
      let g = goes old (Ok (inflows.Frame message)) h.0 none h.1.0 in
      let t = takes (left remaining old) (remaining h.0.source) bytes g.0 is g.1.1 in
      let next : left remaining h.0 ≡ Some t.0 = λ i. prepend_known (g.1.2 i) (t.1.0 i) in
      let more = ends-closed h.0 between new results t.0 inside g.1.3 next h.1.1 last in
      subst (λ (x : List ℕ). Stream x (message ∷ frames_in results) (Rest new.held)) (sym t.1.1) (then_rest g.0 t.0 message (frames_in results) (Rest new.held) g.1.0 more)
  ends-closed old between new (Ok (inflows.Closed ended) ∷ results) bytes inside none is h last =
      let g = goes old (Ok (inflows.Closed ended)) h.0 none h.1.0 in
      ends-closed h.0 between new results bytes inside g.4 (kept (left remaining old) (left remaining h.0) bytes is g.0) h.1.1 last
  ends-closed old between new (Ok inflows.ReadFailed ∷ results) bytes inside none is h last =
      let g = goes old (Ok inflows.ReadFailed) h.0 none h.1.0 in
      ends-closed h.0 between new results bytes inside g.3 (kept (left remaining old) (left remaining h.0) bytes is g.0) h.1.1 last
  ends-closed old between new (Ok (inflows.Bad f) ∷ results) bytes inside none is h last =
      let g = goes old (Ok (inflows.Bad f)) h.0 none h.1.0 in
      let later = stopped results h.0 between f g.2 h.1.1 in
      absurd (closed-bad (Ok (inflows.Closed inside)) inside f refl (stays between (Ok (inflows.Closed inside)) new f later.0 last).0)
  ends-closed old between new (Err error ∷ results) bytes inside none is h last =
      let g = goes old (Err error) h.0 none h.1.0 in
      ends-closed h.0 between new results bytes inside g.1 (kept (left remaining old) (left remaining h.0) bytes is g.0) h.1.1 last

  -- a fault that is answered is one of the bytes left
  breaks-left : (new : Receiver S) (bytes : List ℕ) (fault : WireFault) → left remaining new ≡ Some bytes → Breaks fault new.held → Breaks fault bytes
  breaks-left new bytes fault is breaks =
      let all = begins new.held bytes (remaining new.source) is in subst (Breaks fault) (sym all.1) (breaks_stays new.held all.0 fault breaks)

  pub ends-bad : (old between new : Receiver S) (results : List (Result Inflow AllocError)) (bytes : List ℕ) (fault : WireFault) → old.fault ≡ None → left remaining old ≡ Some bytes
      → Answers remaining has_failed old results between → Receives remaining has_failed between (Ok (inflows.Bad fault)) new → Stream bytes (frames_in results) (Stopped fault)
  unfolding Answers Stream
  ends-bad old between new [] bytes fault none is h last =
      let g = goes between (Ok (inflows.Bad fault)) new (ap (λ (r : Receiver S). r.fault) h ∙ none) last in
      breaks-left new bytes fault (kept (left remaining between) (left remaining new) bytes (ap (left remaining) h ∙ is) g.0) g.1.0
  ends-bad old between new (Ok (inflows.Frame message) ∷ results) bytes fault none is h last =
      let g = goes old (Ok (inflows.Frame message)) h.0 none h.1.0 in
      let t = takes (left remaining old) (remaining h.0.source) bytes g.0 is g.1.1 in
      let next : left remaining h.0 ≡ Some t.0 = λ i. prepend_known (g.1.2 i) (t.1.0 i) in
      let more = ends-bad h.0 between new results t.0 fault g.1.3 next h.1.1 last in
      subst (λ (x : List ℕ). Stream x (message ∷ frames_in results) (Stopped fault)) (sym t.1.1) (then_rest g.0 t.0 message (frames_in results) (Stopped fault) g.1.0 more)
  ends-bad old between new (Ok (inflows.Closed ended) ∷ results) bytes fault none is h last =
      let g = goes old (Ok (inflows.Closed ended)) h.0 none h.1.0 in
      ends-bad h.0 between new results bytes fault g.4 (kept (left remaining old) (left remaining h.0) bytes is g.0) h.1.1 last
  ends-bad old between new (Ok inflows.ReadFailed ∷ results) bytes fault none is h last =
      let g = goes old (Ok inflows.ReadFailed) h.0 none h.1.0 in
      ends-bad h.0 between new results bytes fault g.3 (kept (left remaining old) (left remaining h.0) bytes is g.0) h.1.1 last
  ends-bad old between new (Ok (inflows.Bad f) ∷ results) bytes fault none is h last =
      let g = goes old (Ok (inflows.Bad f)) h.0 none h.1.0 in
      let later = stopped results h.0 between f g.2 h.1.1 in
      let told : fault ≡ f = same-fault (Ok (inflows.Bad fault)) fault f refl (stays between (Ok (inflows.Bad fault)) new f later.0 last).0 in
      let breaks : Breaks f bytes = breaks-left h.0 bytes f (kept (left remaining old) (left remaining h.0) bytes is g.0) g.1.0 in
      subst (λ (ms : List Message). Stream bytes ms (Stopped fault)) (sym later.1) (subst (λ (x : WireFault). Breaks x bytes) (sym told) breaks)
  ends-bad old between new (Err error ∷ results) bytes fault none is h last =
      let g = goes old (Err error) h.0 none h.1.0 in
      ends-bad h.0 between new results bytes fault g.1 (kept (left remaining old) (left remaining h.0) bytes is g.0) h.1.1 last
