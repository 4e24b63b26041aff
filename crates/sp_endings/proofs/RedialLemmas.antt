-- A connection is given up to dial its peer again: what is parked there goes first or last, to the same end.
use Rattle.std.proofs.Common.{◌≡◌, ℕ, List, [], ◌∷◌, refl, sym, ap, ◌∙◌}
use Rattle.std.specs.Prelude.{◌==◌, filter}
use Rattle.space_ids.specs.declared.ids.ForeignId.{ForeignId}
use Rattle.uuid.specs.declared.Uuid.{Uuid}
use Rattle.sp_rules.specs.Endings.{note_peer, redial, unpark, without_connection}
use Rattle.sp_rules.specs.Events.{Close}
use Rattle.sp_rules.specs.Holders.{drop_ids, holder_goes}
use Rattle.sp_rules.specs.Lists.{each}
use Rattle.sp_rules.specs.ParkedFrames.{is_parked_at, take_parked}
use Rattle.sp_rules.specs.Requests.{dial}
use Rattle.sp_rules.specs.State.{State, ParkedFrame, say}

-- ---- each of a list, before or after something else

each-through : {A : Type 0} (h : State → State) (f : State → A → State) → ((t : State) (x : A) → f (h t) x ≡ h (f t x)) → (xs : List A) (s : State) → each f xs (h s) ≡ h (each f xs s)
unfolding each
each-through h f same [] s = refl
each-through h f same (x ∷ xs) s = ap (λ (t : State). each f xs t) (same s x) ∙ each-through h f same xs (f s x)

-- the peer is noted and the connection gone
abbrev gives_up : Uuid → ℕ → State → State
gives_up peer conn s = without_connection conn (note_peer peer s)

drops-through : (peer : Uuid) (conn : ℕ) (ids : List ForeignId) (s : State) → drop_ids ids (gives_up peer conn s) ≡ gives_up peer conn (drop_ids ids s)
unfolding drop_ids
drops-through peer conn ids s = each-through (gives_up peer conn) holder_goes (λ t r. refl) ids s

unparks-through : (peer : Uuid) (conn : ℕ) (s : State) (p : ParkedFrame) → unpark (gives_up peer conn s) p ≡ gives_up peer conn (unpark s p)
unparks-through peer conn s p = each-through (gives_up peer conn) (λ t (q : ParkedFrame). drop_ids q.references t) (λ t q. drops-through peer conn q.references t) (filter (is_parked_at p.conn p.number) s.parked) (take_parked p s)

pub redial-parts : (peer : Uuid) (conn : ℕ) (s : State) → dial peer (say (Close conn) (gives_up peer conn (each unpark (filter (λ (p : ParkedFrame). p.conn == conn) s.parked) s))) ≡ redial peer conn s
unfolding redial
redial-parts peer conn s = ap (λ (t : State). dial peer (say (Close conn) t)) (sym (each-through (gives_up peer conn) unpark (unparks-through peer conn) (filter (λ (p : ParkedFrame). p.conn == conn) s.parked) s))

-- ---- what stays

each-same : {A X : Type 0} (view : State → X) (f : State → A → State) → ((t : State) (x : A) → view (f t x) ≡ view t) → (xs : List A) (s : State) → view (each f xs s) ≡ view s
unfolding each
each-same view f same [] s = refl
each-same view f same (x ∷ xs) s = each-same view f same xs (f s x) ∙ same s x

drops-same : {X : Type 0} (view : State → X) → ((t : State) (r : ForeignId) → view (holder_goes t r) ≡ view t) → (ids : List ForeignId) (t : State) → view (drop_ids ids t) ≡ view t
unfolding drop_ids
drops-same view goes ids t = each-same view holder_goes goes ids t

pub unparked-same : {X : Type 0} (view : State → X) → ((t : State) (r : ForeignId) → view (holder_goes t r) ≡ view t) → ((t : State) (p : ParkedFrame) → view (take_parked p t) ≡ view t) → (frames : List ParkedFrame) (s : State) → view (each unpark frames s) ≡ view s
unparked-same view goes takes frames s = each-same view unpark one frames s
  where
    one : (t : State) (p : ParkedFrame) → view (unpark t p) ≡ view t
    one t p = each-same view (λ u (q : ParkedFrame). drop_ids q.references u) (λ u q. drops-same view goes q.references u) (filter (is_parked_at p.conn p.number) t.parked) (take_parked p t) ∙ takes t p
