-- Worlds after what one of their spaces answered was let go.
use Rattle.std.proofs.Common.{◌≡◌, ◌∙◌, ℕ, zero, suc, List, [], ◌∷◌, None, Some, true, refl, sym, ap, subst, set}
use Rattle.std.specs.Prelude.{slice_get}
use Rattle.std.proofs.lemmas.Option.{none-some}
use Rattle.sp_rules.specs.Classes.{Setting}
use Rattle.sp_rules.specs.Lists.{at_index}
use Rattle.sp_rules.specs.State.{State}
use Rattle.sp_rules.specs.Worlds as rules
use Rattle.sp_world.specs.Forgotten.{silent, without_outputs}
use Rattle.sp_world.specs.Happenings.{TellsRefusal}
use Rattle.sp_world.specs.Residents.{AreResidents, IsResident}
use Rattle.sp_world.specs.Waitings.{IsWired, IsWorld, is_settled}
use Rattle.sp_world.specs.declared.resident.Resident.{Resident}
use Rattle.sp_world.specs.declared.world.World.{World}
use Rattle.sp_world.proofs.MakeLemmas.{still-wired}
use Rattle.sp_world.proofs.ResidentLemmas.{resident-at, resident-set}
use Rattle.sp_world.proofs.WorldLemmas.{still-waits, wired-grow}

-- the spaces, of which one is as if it had answered nothing
pub silent-at : {S : Type 0} (is_space : Setting → State → S → Type 0) (ss : List rules.Space) (rs : List (Resident S)) (i : ℕ) (r t : Resident S)
    → AreResidents is_space ss rs → slice_get rs i ≡ Some r → ((s : rules.Space) → IsResident is_space s r → IsResident is_space (silent s) t)
    → AreResidents is_space (at_index silent i ss) (set rs i t)
silent-at is_space ss rs i r t a e k =
    let q = resident-at is_space ss rs i r a e in
    resident-set is_space silent ss rs i q.0 t a q.1.0 (k q.0 q.1.1)

-- a number past the last changes none
pub nobody-silent : {S : Type 0} (is_space : Setting → State → S → Type 0) (ss : List rules.Space) (rs : List (Resident S)) (i : ℕ)
    → AreResidents is_space ss rs → slice_get rs i ≡ None → at_index silent i ss ≡ ss
nobody-silent is_space [] [] i a e = refl
nobody-silent is_space [] (r ∷ rs) i a e = absurd a
nobody-silent is_space (s ∷ ss) [] i a e = absurd a
nobody-silent is_space (s ∷ ss) (r ∷ rs) zero a e = absurd (none-some r (sym e))
nobody-silent is_space (s ∷ ss) (r ∷ rs) (suc i) a e = ap (λ (l : List rules.Space). s ∷ l) (nobody-silent is_space ss rs i a.1 e)

-- a world in which the spaces are those, and nothing is still to be put into the queues
pub world-silent : {S : Type 0} (is_space : Setting → State → S → Type 0) (w : rules.World) (old new : World S) (i : ℕ) → is_settled old ≡ true
    → AreResidents is_space (at_index silent i w.spaces) new.residents.items → new.refused ≡ old.refused → is_settled new ≡ true → new.wiring ≡ old.wiring
    → IsWorld is_space w old → IsWorld is_space (without_outputs i w) new
world-silent is_space w old new i settled residents refused still wiring h = record {
  spaces = residents;
  refused = subst (TellsRefusal w.refused) (sym refused) h.refused;
  waiting = still-waits (without_outputs i w) new still
      (subst (IsWired (without_outputs i w)) (sym wiring) (wired-grow silent (λ s. refl) i w old.wiring (still-wired is_space w old settled h)));
}
