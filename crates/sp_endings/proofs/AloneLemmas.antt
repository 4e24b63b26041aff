-- A frame that comes where none waits, and that waits for nothing itself, goes at once.
use Rattle.std.proofs.Common.{◌≡◌, ℕ, true, false, cond, List, [], ◌∷◌, ◌++◌, map, length, refl, sym, ap, ◌∙◌, true≢false}
use Rattle.std.specs.Prelude.{filter, is_none, not}
use Rattle.std.specs.List.{list_all}
use Rattle.space_ids.specs.declared.ids.ForeignId.{ForeignId}
use Rattle.rising_map.specs.Rows.{first_row}
use Rattle.sp_parked.specs.Parkings.{parked_of}
use Rattle.sp_parked.specs.declared.frame.ParkedFrame.{ParkedFrame as Waiting}
use Rattle.sp_rules.specs.Classes.{Setting}
use Rattle.sp_rules.specs.Frames.{is_call_frame}
use Rattle.sp_rules.specs.Holders.{hold_ids}
use Rattle.sp_rules.specs.Lists.{each}
use Rattle.sp_rules.specs.ParkedFrames.{go, go_all, has_lease, park_frame}
use Rattle.sp_rules.specs.State.{State, ParkedFrame}
use Rattle.sp_endings.specs.Passing.{pass_on}
use Rattle.sp_living.specs.Frames.{is_free, with_parked}
use Rattle.sp_endings.proofs.TakingLemmas.{all-taken, takes-go}

pub goes-alone : (g : Setting) (s : State) (p : ParkedFrame) → p.references ≡ [] → s.parked ≡ [] → park_frame g p.conn p.number p.frame p.references s ≡ pass_on g s p
unfolding park_frame go_all each hold_ids
goes-alone g s p free none =
    let one : State = with_parked (p ∷ []) s in
    let is : is_free one p ≡ true = ap (list_all (has_lease one)) free in
    ap (λ (ids : List ForeignId). go_all g (hold_ids ids (with_parked (s.parked ++ p ∷ []) s))) free
    ∙ ap (λ (ps : List ParkedFrame). go_all g (with_parked (ps ++ p ∷ []) s)) none
    ∙ all-taken (go g) (pass_on g) (takes-go g) (is_free one) one (tt, tt)
    ∙ ap (λ b. each (pass_on g) (cond b (p ∷ []) []) (with_parked (cond (not b) (p ∷ []) []) s)) is
    ∙ ap (λ (ps : List ParkedFrame). pass_on g (with_parked ps s) p) (sym none)

-- a table without a row is of no frame
pub no-frame : (rows : List (ℕ × Waiting)) (parked : List ParkedFrame) → map (λ (row : ℕ × Waiting). parked_of row.1) rows ≡ parked → is_none (first_row rows) ≡ true → parked ≡ []
no-frame [] parked are none = sym are
no-frame (row ∷ rows) parked are none = absurd (true≢false (sym none))

pub no-call : (rows : List (ℕ × Waiting)) → is_none (first_row rows) ≡ true → 0 ≡ length (filter (λ (row : ℕ × Waiting). is_call_frame (parked_of row.1).frame) rows)
no-call [] none = refl
no-call (row ∷ rows) none = absurd (true≢false (sym none))
