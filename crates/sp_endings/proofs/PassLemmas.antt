-- What becomes of a parked call, as the calls on the parts tell it.
use Rattle.std.proofs.Common.{◌≡◌, ℕ, ◌++◌, List, [], ◌∷◌, Option, None, Some, refl, sym, ap, ◌∙◌}
use Rattle.std.specs.Prelude.{option_map}
use Rattle.space_ids.specs.declared.ids.ForeignId.{ForeignId}
use Rattle.space_ids.specs.declared.ids.ObjId.{ObjId}
use Rattle.space_ids.specs.declared.ids.Ref.{Ref}
use Rattle.space_ids.specs.declared.value.Value.{Value}
use Rattle.uuid.specs.declared.Uuid.{Uuid}
use Rattle.sp_rules.specs.Classes.{Setting}
use Rattle.sp_rules.specs.Holders.{hold_ids}
use Rattle.sp_rules.specs.Lists.{with_some}
use Rattle.sp_rules.specs.ParkedFrames.{start_call, start_selected}
use Rattle.sp_rules.specs.State.{State, Object, ParkedFrame, object_at}
use Rattle.sp_living.specs.Frames.{with_parked}
use Rattle.sp_endings.proofs.ApartLemmas.{hold-apart}

-- ---- a call

starts : (g : Setting) (s : State) (conn number : ℕ) (target : ObjId) (method fuel : ℕ) (arguments : List Value) (receiver : Ref) (o : Option Object)
    → ◌≡◌ {A = Option Ref} (Some receiver) (option_map (λ (o : Object). record { space = g.id; id = target; class = o.class }) o)
    → with_some o s (λ (o : Object). start_selected g conn number (record { space = g.id; id = target; class = o.class }) (g.classes.selected o.class method) fuel arguments s)
    ≡ start_selected g conn number receiver (g.classes.selected receiver.class method) fuel arguments s
starts g s conn number target method fuel arguments receiver None is = cc
starts g s conn number target method fuel arguments receiver (Some o) is =
    let its : receiver ≡ record { space = g.id; id = target; class = o.class } = cc in
    ap (λ (r : Ref). start_selected g conn number r (g.classes.selected r.class method) fuel arguments s) (sym its)

-- the target stands
pub call-starts : (g : Setting) (s : State) (p : ParkedFrame) (conn number : ℕ) (target : ObjId) (method fuel : ℕ) (arguments : List Value) (receiver : Ref) (selected : Option ℕ)
    → p.conn ≡ conn → p.number ≡ number
    → ◌≡◌ {A = Option Ref} (Some receiver) (option_map (λ (o : Object). record { space = g.id; id = target; class = o.class }) (object_at s target))
    → selected ≡ g.classes.selected receiver.class method
    → start_call g p target method fuel arguments s ≡ start_selected g conn number receiver selected fuel arguments s
unfolding start_call
call-starts g s p conn number target method fuel arguments receiver selected c n is found =
    (λ j. with_some (object_at s target) s (λ (o : Object). start_selected g (c j) (n j) (record { space = g.id; id = target; class = o.class }) (g.classes.selected o.class method) fuel arguments s))
    ∙ starts g s conn number target method fuel arguments receiver (object_at s target) is
    ∙ ap (λ (m : Option ℕ). start_selected g conn number receiver m fuel arguments s) (sym found)

no-object : (space : Uuid) (target : ObjId) (o : Option Object) → ◌≡◌ {A = Option Ref} None (option_map (λ (o : Object). record { space = space; id = target; class = o.class }) o) → o ≡ None
no-object space target None is = refl
no-object space target (Some o) is = cc

-- the target does not stand
pub call-drops : (g : Setting) (s : State) (p : ParkedFrame) (target : ObjId) (method fuel : ℕ) (arguments : List Value)
    → ◌≡◌ {A = Option Ref} None (option_map (λ (o : Object). record { space = g.id; id = target; class = o.class }) (object_at s target))
    → start_call g p target method fuel arguments s ≡ s
unfolding start_call
call-drops g s p target method fuel arguments is =
    ap (λ (o : Option Object). with_some o s (λ (o : Object). start_selected g p.conn p.number (record { space = g.id; id = target; class = o.class }) (g.classes.selected o.class method) fuel arguments s)) (no-object g.id target (object_at s target) is)

-- ---- a frame that is parked

-- its references are held before it is parked, or after
pub park-apart : (refs : List ForeignId) (p : ParkedFrame) (s : State) → with_parked ((hold_ids refs s).parked ++ p ∷ []) (hold_ids refs s) ≡ hold_ids refs (with_parked (s.parked ++ p ∷ []) s)
park-apart refs p s =
    ap (λ (ps : List ParkedFrame). with_parked (ps ++ p ∷ []) (hold_ids refs s)) (ap (λ (t : State). t.parked) (hold-apart refs s.parked s))
    ∙ sym (hold-apart refs (s.parked ++ p ∷ []) s)
