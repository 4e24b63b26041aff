-- What a dirty call on its way names stands: who sent the reference holds it.
use mathlib.Core.Path.{sym, ap, subst, ◌∙◌}
use Rattle.std.proofs.Common.{arith, inl, inr}
use Rattle.std.proofs.lemmas.Bool.{true≢false}
use Rattle.std.proofs.lemmas.Slice.Eq.{bytes_eq-Decides}
use Rattle.std.specs.Prelude.{◌≡◌, ◌⊎◌, refl, ℕ, ◌+◌, ◌≤◌, ◌==◌, not, is_some, option_map, Bool, true, false, List, [], ◌∷◌, Option, None, Some, fold, slice_get}
use Rattle.std.specs.Str.{bytes_eq}
use Rattle.dgc_client.specs.Lease.{is_made}
use Rattle.dgc_client.specs.Table as client
use Rattle.dgc_client.specs.declared.lease.Made.{Made}
use Rattle.space_ids.specs.declared.ids.ForeignId.{ForeignId}
use Rattle.space_ids.specs.declared.ids.ObjId.{ObjId}
use Rattle.space_ids.specs.declared.ids.Ref.{Ref}
use Rattle.space_ids.specs.declared.value.Value.{Value}
use Rattle.uuid.specs.declared.Uuid.{Uuid}
use Rattle.sp_rules.specs.Classes.{Setting}
use Rattle.sp_rules.specs.Frames.{is_call_frame}
use Rattle.sp_rules.specs.Holders.{times_in, lease_now}
use Rattle.sp_rules.specs.Laws.{AllOf, stands}
use Rattle.sp_rules.specs.Origins.{IsRight}
use Rattle.sp_rules.specs.References.{foreign_ids, is_reference_in, references_in, references_of}
use Rattle.sp_rules.specs.State.{State, Living, KeptResult, Acked, Frame, CallFrame, ReturnedFrame, ParkedFrame}
use Rattle.sp_rules.specs.Worlds.{World, Space, Pipe, id_in}
use Rattle.sp_rules.proofs.AllLemmas.{some-none, all-pass}
use Rattle.sp_rules.proofs.OriginsOfFrames.{Matches, Waits}
use Rattle.sp_rules.proofs.OwnLemmas.{own-only, has-some}
use Rattle.sp_laws.specs.Answered.{AreInPlace, CameOn, IsGreeted}
use Rattle.sp_order_laws.specs.Ends.{IsOneOf}
use Rattle.sp_order_laws.specs.Places.{IsBetween}
use Rattle.sp_order_laws.proofs.WorldFacts.{Known, at-all}
use Rattle.sp_order_laws.specs.Senders.{CallerHolds}
use Rattle.sp_order_laws.specs.Unbroken.{IsJoined, ends_at}
use Rattle.sp_order_laws.proofs.WelcomeFrames.{row-opened}
use Rattle.sp_order_laws.proofs.WelcomeLemmas.{Facts}
use Rattle.sp_held_laws.specs.Granted.{is_granted, started_of, awaited_of}
use Rattle.sp_held_laws.specs.Steps.{has_entry_for}
use Rattle.sp_held_laws.proofs.FreeLemmas.{one-of}
use Rattle.sp_held_laws.specs.Entries.{GrantedHaveEntries, IsDirtyOut}
use Rattle.sp_held_laws.specs.Lost.{IsReferenceTo}
use Rattle.sp_held_laws.specs.Premises.{HoldersAreFew}
use Rattle.sp_held_laws.proofs.BetweenLemmas.{one-space, spoke-by}
use Rattle.sp_held_laws.proofs.GivenLaws.{Below, Quiet, AreFew, held-granted, dirty-awaited, own-stand}
use Rattle.sp_held_laws.proofs.HolderLemmas.{found-one, some-counts, one-held, counted-is, is-counted, folded-times, task-has, result-has, entry-stands, class-stands}

-- What is known of a world, and of a reference there: what is granted has entries.
pub record Entered (settings : List Setting) (r : ForeignId) (w : World) : Type 0 where
  pub below : Below
  pub quiet : Quiet settings w
  pub few : HoldersAreFew r w
  pub granted : GrantedHaveEntries r w

known-at : {settings : List Setting} {r : ForeignId} {w : World} → Entered settings r w → (i : ℕ) (a : Space)
    → slice_get w.spaces i ≡ Some a → Known a
known-at {settings} {r} {w} E i a at = at-all Known i w.spaces a at E.quiet.given.facts.known

few-at : {settings : List Setting} {r : ForeignId} {w : World} → Entered settings r w → (i : ℕ) (a : Space)
    → slice_get w.spaces i ≡ Some a → AreFew r a.state
few-at {settings} {r} {w} E i a at = at-all (λ (s : Space). AreFew r s.state) i w.spaces a at E.few

-- the object of a reference for which its owner has an entry stands
pub kept-stands : {settings : List Setting} {r : ForeignId} {w : World} → Entered settings r w
    → (j : ℕ) (b : Space) (c : Uuid) → slice_get w.spaces j ≡ Some b → has_entry_for b.state c r.id ≡ true
    → stands b.state r.id ≡ true
kept-stands {settings} {r} {w} E j b c atj has =
    let k : Known b = known-at E j b atj in
    subst (λ (s : State). stands s r.id ≡ true) (sym k.state)
    (entry-stands b.setting b.history c r.id (subst (λ (s : State). has_entry_for s c r.id ≡ true) k.state has))

-- what a space has stands at its owner, that space or another
pub has-stands : {settings : List Setting} {r : ForeignId} {w : World} → Entered settings r w
    → (k j : ℕ) (u b : Space) (x : Ref) → slice_get w.spaces k ≡ Some u → slice_get w.spaces j ≡ Some b
    → r.space ≡ b.setting.id → IsReferenceTo r x → IsRight u.setting u.state x
    → (bytes_eq x.space u.setting.id ≡ false → 1 ≤ started_of u.setting u.state r) → stands b.state r.id ≡ true
has-stands {settings} {r} {w} E k j u b x at atj own n right started = by (bytes_eq x.space u.setting.id) refl
  where
    by : (c : Bool) → bytes_eq x.space u.setting.id ≡ c → stands b.state r.id ≡ true
    by true e =
        let same : u ≡ b = one-space E.quiet.given.facts k j u b at atj
        (sym ((bytes_eq-Decides x.space u.setting.id).0 e) ∙ (sym n.space ∙ own)) in
        subst (λ (s : Space). stands s.state r.id ≡ true) same
        (subst (λ (i : ObjId). stands u.state i ≡ true) (sym n.id) (class-stands u.state x.id x.class (right e)))
    by false e =
        let granted : is_granted u.state r ≡ true =
        (held-granted E.below r u (known-at E k u at) (few-at E k u at)).held (started e) in
        kept-stands E j b u.setting.id atj
        (E.granted u b (record {
          client = k;
          owner = j;
          here = at;
          there = atj;
          foreign =
              subst (λ (i : Uuid). bytes_eq i u.setting.id ≡ false) (sym n.space) e;
          own = own;
        }) granted)

-- ---- calls and results

-- of a call: what its caller holds stands
pub held-by-caller : {settings : List Setting} {r : ForeignId} {w : World} → Entered settings r w
    → (k j : ℕ) (u b a : Space) (target : ObjId) (arguments : List Value) → slice_get w.spaces k ≡ Some u
    → slice_get w.spaces j ≡ Some b → r.space ≡ b.setting.id → (h : CallerHolds u a target arguments)
    → (x : Ref) → IsOneOf x (h.object ∷ references_of arguments) → IsReferenceTo r x → stands b.state r.id ≡ true
held-by-caller {settings} {r} {w} E k j u b a target arguments at atj own h x o n =
    has-stands E k j u b x at atj own n (one-of (IsRight u.setting u.state) h.row.task.held x rights x-held)
    (λ foreign. task-has u.setting u.state r h.row row-there
    (is-counted u.setting r h.row.task.held x x-held n foreign))
  where
    row-there : IsOneOf h.row u.state.tasks
    row-there = found-one (λ (t : Living). t.id == h.task) u.state.tasks h.row h.lives

    x-held : IsOneOf x h.row.task.held
    x-held = one-held h.row.task.held x
        (one-of (λ (y : Ref). is_reference_in h.row.task.held y ≡ true) (h.object ∷ references_of arguments) x
        (all-pass (is_reference_in h.row.task.held) (h.object ∷ references_of arguments) h.held) o)

    rights : AllOf (IsRight u.setting u.state) h.row.task.held
    rights = one-of (λ (t : Living). AllOf (IsRight u.setting u.state) t.task.held) u.state.tasks h.row
        (own-stand u (known-at E k u at)).tasks row-there

-- of a result: what is held until its Ack stands
pub held-as-result : {settings : List Setting} {r : ForeignId} {w : World} → Entered settings r w
    → (k j conn number : ℕ) (u b : Space) (value : Option Value) → slice_get w.spaces k ≡ Some u
    → slice_get w.spaces j ≡ Some b → r.space ≡ b.setting.id
    → IsOneOf (record { until = Acked conn number; value = value }) u.state.results
    → (x : Ref) → IsOneOf x (references_in value) → IsReferenceTo r x → stands b.state r.id ≡ true
held-as-result {settings} {r} {w} E k j conn number u b value at atj own kept x o n =
    has-stands E k j u b x at atj own n (one-of (IsRight u.setting u.state) (references_in value) x rights o)
    (λ foreign. result-has u.setting u.state r (record { until = Acked conn number; value = value }) kept
    (is-counted u.setting r (references_in value) x o n foreign))
  where
    rights : AllOf (IsRight u.setting u.state) (references_in value)
    rights = one-of (λ (y : KeptResult). AllOf (IsRight u.setting u.state) (references_in y.value)) u.state.results
        (record { until = Acked conn number; value = value }) (own-stand u (known-at E k u at)).results kept

-- ---- frames that wait for the lease

module _ {settings : List Setting} {r : ForeignId} {w : World} (E : Entered settings r w) (i j : ℕ) (a b : Space)
    (at : slice_get w.spaces i ≡ Some a) (atj : slice_get w.spaces j ≡ Some b) (own : r.space ≡ b.setting.id) where
  by-caller : (p : ParkedFrame) (q : Pipe) (u : Space) (target : ObjId) (method fuel : ℕ) (arguments : List Value)
      → IsOneOf (record {
        conn = p.conn;
        number = p.number;
        frame =
            CallFrame target method fuel arguments;
        references = p.references;
      }) a.state.parked
      → Matches a.setting (CallFrame target method fuel arguments) p.references
      → 1 ≤ times_in r p.references → IsBetween w p.conn q u a → stands b.state r.id ≡ true
  by-caller p q u target method fuel arguments there matches le between =
      let le2 : 1 ≤ times_in r (fold client.with_reference [] (foreign_ids a.setting.id (references_of arguments))) =
      subst (λ (l : List ForeignId). 1 ≤ times_in r l) matches le in
      let c : times_in r (fold client.with_reference [] (foreign_ids a.setting.id (references_of arguments))) ≤
      times_in r [] + times_in r (foreign_ids a.setting.id (references_of arguments)) =
      folded-times r [] (foreign_ids a.setting.id (references_of arguments)) in
      let z : times_in r [] ≡ 0 = refl in
      let x = counted-is a.setting r (references_of arguments) (omega (arith, le2, c, z)) in
      let h : CallerHolds u a target arguments =
      E.quiet.hold.calls p.conn p.number q u a target method fuel arguments between (inr (p.references, there)) in
      held-by-caller E q.dialler.space j u b a target arguments between.dialled atj own h x.0 (inr x.1.0) x.1.1

  by-callee : (p : ParkedFrame) (q : Pipe) (u : Space) (value : Option Value) (fuel : ℕ)
      → IsOneOf (record {
        conn = p.conn;
        number = p.number;
        frame = ReturnedFrame value fuel;
        references =
            p.references;
      }) a.state.parked → Matches a.setting (ReturnedFrame value fuel) p.references
      → 1 ≤ times_in r p.references → IsBetween w p.conn q a u → stands b.state r.id ≡ true
  by-callee p q u value fuel there matches le between =
      let x = counted-is a.setting r (references_in value)
      (subst (λ (l : List ForeignId). 1 ≤ times_in r l) matches le) in
      held-as-result E q.accepter.space j p.conn p.number u b value between.accepted atj own
      (E.quiet.hold.results p.conn p.number q a u fuel value between (inr (p.references, there))) x.0 x.1.0 x.1.1

  parked-stands : (p : ParkedFrame) → IsOneOf p a.state.parked → 1 ≤ times_in r p.references
      → stands b.state r.id ≡ true
  parked-stands p there le = by p.frame refl
    where
      F : Facts settings w
      F = E.quiet.given.facts

      matches : Matches a.setting p.frame p.references
      matches =
          let k : Known a = known-at E i a at in
          (one-of (Waits a.setting) a.state.parked p
          (subst (λ (s : State). AllOf (Waits a.setting) s.parked) (sym k.state)
          (own-only a.setting a.history k.taken).parts.kept) there).0

      greeted : IsGreeted a.state.connections p.conn (not (is_call_frame p.frame))
      greeted = one-of (CameOn a.state.connections) a.state.parked p
          (at-all (λ (s : Space). AreInPlace s.state) i w.spaces a at F.places).parked there

      joined : IsJoined w.spaces i greeted.row.dialled (ends_at w.pipes p.conn)
      joined = row-opened F i p.conn a greeted.row at greeted.found

      as-frame : (f : Frame) → p.frame ≡ f
          → IsOneOf (record { conn = p.conn; number = p.number; frame = f; references = p.references }) a.state.parked
      as-frame f e = subst (λ (x : Frame).
          IsOneOf (record { conn = p.conn; number = p.number; frame = x; references = p.references }) a.state.parked)
          e there

      spoken : (peer : Uuid) × (greeted.row.peer ≡ Some peer)
      spoken = has-some greeted.row.peer greeted.greeted

      to-accepter : (o : Option Pipe) → slice_get w.pipes p.conn ≡ o → (d : Option Uuid) → is_some d ≡ false
          → IsJoined w.spaces i d (option_map (λ (q : Pipe). (q.dialler.space, q.accepter.space)) o)
          → (q : Pipe) × ((slice_get w.pipes p.conn ≡ Some q) × (q.accepter.space ≡ i))
      to-accepter None e None f k = absurd k
      to-accepter (Some q) e None f k = (q, (e, k))
      to-accepter o e (Some d) f k = absurd (true≢false f)

      called : (target : ObjId) (method fuel : ℕ) (arguments : List Value)
          → p.frame ≡ CallFrame target method fuel arguments → stands b.state r.id ≡ true
      called target method fuel arguments e =
          let q = to-accepter (slice_get w.pipes p.conn) refl greeted.row.dialled
          (greeted.end ∙ ap (λ (x : Frame). not (is_call_frame x)) e) joined in
          let at-a : slice_get w.spaces q.0.accepter.space ≡ Some a = ap (slice_get w.spaces) q.1.1 ∙ at in
          let u = spoke-by E.quiet.given p.conn q.0 a greeted.row spoken.0 q.1.0 at-a greeted.found spoken.1 in
          by-caller p q.0 u.0 target method fuel arguments (as-frame (CallFrame target method fuel arguments) e)
          (subst (λ (x : Frame). Matches a.setting x p.references) e matches) le
          (record { pipe = q.1.0; dialled = u.1.0; accepted = at-a })

      to-dialler : (o : Option Pipe) → slice_get w.pipes p.conn ≡ o → (d : Option Uuid) → is_some d ≡ true
          → IsJoined w.spaces i d (option_map (λ (q : Pipe). (q.dialler.space, q.accepter.space)) o)
          → (q : Pipe) × ((slice_get w.pipes p.conn ≡ Some q) ×
          ((q.dialler.space ≡ i) × ((peer : Uuid) × (id_in (slice_get w.spaces q.accepter.space) ≡ Some peer))))
      to-dialler o e None f k = absurd (true≢false (sym f))
      to-dialler None e (Some d) f k = absurd k
      to-dialler (Some q) e (Some d) f k = (q, (e, (k.0, (d, k.1))))

      is-space : (o : Option Space) (peer : Uuid) → id_in o ≡ Some peer → (u : Space) × (o ≡ Some u)
      is-space None peer e = absurd (some-none peer (sym e))
      is-space (Some u) peer e = (u, refl)

      returned : (value : Option Value) (fuel : ℕ) → p.frame ≡ ReturnedFrame value fuel → stands b.state r.id ≡ true
      returned value fuel e =
          let q = to-dialler (slice_get w.pipes p.conn) refl greeted.row.dialled
          (greeted.end ∙ ap (λ (x : Frame). not (is_call_frame x)) e) joined in
          let u = is-space (slice_get w.spaces q.0.accepter.space) q.1.1.1.0 q.1.1.1.1 in
          by-callee p q.0 u.0 value fuel (as-frame (ReturnedFrame value fuel) e)
          (subst (λ (x : Frame). Matches a.setting x p.references) e matches) le
          (record { pipe = q.1.0; dialled = ap (slice_get w.spaces) q.1.1.0 ∙ at; accepted = u.1 })

      by : (f : Frame) → p.frame ≡ f → stands b.state r.id ≡ true
      by (CallFrame target method fuel arguments) e = called target method fuel arguments e
      by (ReturnedFrame value fuel) e = returned value fuel e

  -- what a dirty call on its way names stands
  pub dirty-stands : (conn n : ℕ) → bytes_eq r.space a.setting.id ≡ false → IsDirtyOut a.state conn n r
      → stands b.state r.id ≡ true
  dirty-stands conn n foreign d =
      by (dirty-awaited E.below r a (known-at E i a at) (few-at E i a at)
      (some-made (lease_now a.state r).dirty d.made))
    where
      some-made : (o : Option Made) → is_made o d.call ≡ true → is_some o ≡ true
      some-made None e = absurd (true≢false (sym e))
      some-made (Some m) e = refl

      by : (is_granted a.state r ≡ true) ⊎ (1 ≤ awaited_of a.state r) → stands b.state r.id ≡ true
      by (inl granted) = kept-stands E j b a.setting.id atj
          (E.granted a b (record { client = i; owner = j; here = at; there = atj; foreign = foreign; own = own })
          granted)
      by (inr le) = let p = some-counts (λ (x : ParkedFrame). times_in r x.references) a.state.parked le
          in parked-stands p.0 p.1.0 p.1.1
