-- Operations on the store: what fits, and why they are refused.
use Rattle.std.proofs.Common.{◌≡◌, ℕ, Bool, true, false, cond, List, [], ◌++◌, Option, None, Some, refl, sym, ap, ◌∙◌}
use Rattle.std.specs.Prelude.{◌&&◌, not, is_some, option_and_then, option_map, slice_get, unwrap_or}
use Rattle.space_ids.specs.declared.ids.ClassId.{ClassId}
use Rattle.space_ids.specs.declared.value.Value.{Value}
use Rattle.sp_rules.specs.Behaviours.{Op}
use Rattle.sp_rules.specs.Classes.{Setting, field_kind, fits_field, fits_kind}
use Rattle.sp_rules.specs.Events.{Committed}
use Rattle.sp_rules.specs.Refusals.{NotHeld, WrongKind, check_committed, fits_store, has_field, holds_op, is_worn, stand_after, stands_at, takes_value, refusal, refusal_number, first_refusal, refuse_if}
use Rattle.sp_rules.specs.Space.{happen, on}
use Rattle.sp_rules.specs.LivingTasks.{commit, give_back}
use Rattle.sp_rules.specs.State.{State, Object, task_at}
use Rattle.sp_tasks.specs.Rows.{Hand}
use Rattle.sp_requests.specs.ClassSets.{kind_of}
use Rattle.sp_requests.specs.declared.class_set.FieldKind.{FieldKind}
use Rattle.sp_core.specs.Cores.{IsCore, Lends, lends, lent_as}
use Rattle.sp_core.specs.declared.space_core.SpaceCore.{SpaceCore}
use Rattle.sp_core.proofs.HandLemmas.{hand-number}

-- ---- what fits

pub kind-has : (g : Setting) (k : Option FieldKind) (o : Option Object) (slot : ℕ) → option_map kind_of k ≡ option_and_then (λ (o : Object). field_kind g.classes o.class slot) o → is_some k ≡ has_field g o slot
kind-has g None None slot e = refl
kind-has g (Some k) None slot e = cc
kind-has g None (Some o) slot e = ap is_some e
kind-has g (Some k) (Some o) slot e = ap is_some e

pub kind-fits : (g : Setting) (k : FieldKind) (o : Option Object) (slot : ℕ) (v : Value) → Some (kind_of k) ≡ option_and_then (λ (o : Object). field_kind g.classes o.class slot) o → fits_kind (kind_of k) v ≡ takes_value g o slot v
kind-fits g k None slot v e = cc
kind-fits g k (Some o) slot v e = ap (λ x. fits_field x v) e

pub kind-none : (g : Setting) (o : Option Object) (slot : ℕ) (v : Value) → None ≡ option_and_then (λ (o : Object). field_kind g.classes o.class slot) o → false ≡ takes_value g o slot v
kind-none g None slot v e = refl
kind-none g (Some o) slot v e = ap (λ x. fits_field x v) e

-- ---- refusals

first-of : (held fits at : Bool) → option_map refusal_number (first_refusal (refuse_if (not held) NotHeld ++ (refuse_if (not fits) WrongKind ++ refuse_if (not at) WrongKind))) ≡ cond held (cond (fits && at) None (Some 93)) (Some 92)
first-of true true true = refl
first-of true true false = refl
first-of true false at = refl
first-of false fits at = refl

-- of a lent task
pub commit-number : (g : Setting) (s : State) (core : SpaceCore) (hand : Hand) (lent : List ℕ) (op : Op) (worn : Bool) → IsCore g s core → Lends core lent → worn ≡ is_worn s → lends core hand ≡ true
    → option_map refusal_number (refusal g (lent_as s hand lent) s (Committed hand.id hand.made op))
    ≡ cond worn (Some 98) (cond (holds_op g (task_at s hand.id) op) (cond (fits_store g s op && stands_at op (stand_after hand.made (task_at s hand.id))) None (Some 93)) (Some 92))
commit-number g s core hand lent op worn is lending w here =
    let held = holds_op g (task_at s hand.id) op in
    let at = stand_after hand.made (task_at s hand.id) in
    hand-number g s core hand lent (Committed hand.id hand.made op) (refuse_if (not held) NotHeld ++ check_committed g s op at) worn true is lending refl refl w (sym here)
    ∙ ap (λ n. cond worn (Some 98) n) (first-of held (fits_store g s op) (stands_at op at))

pub unheld : (held : Bool) (n : Option ℕ) → held ≡ false → cond held n (Some 92) ≡ Some 92
unheld held n apart = ap (λ b. cond b n (Some 92)) apart

pub kind-of-class : (g : Setting) (class : ClassId) (o : Option Object) (slot : ℕ) → Some class ≡ option_map (λ (o : Object). o.class) o
    → slice_get (g.classes.fields class) slot ≡ option_and_then (λ (o : Object). field_kind g.classes o.class slot) o
kind-of-class g class None slot e = cc
kind-of-class g class (Some o) slot e = ap (λ (k : Option ClassId). slice_get (g.classes.fields (unwrap_or k class)) slot) e

pub no-class : (g : Setting) (o : Option Object) (slot : ℕ) → None ≡ option_map (λ (o : Object). o.class) o → option_map kind_of None ≡ option_and_then (λ (o : Object). field_kind g.classes o.class slot) o
no-class g None slot e = refl
no-class g (Some o) slot e = cc

-- ---- what happens

pub commit-outputs : (g : Setting) (s : State) (id k : ℕ) (op : Op) → (on g (Committed id k op) s).1 ≡ []
unfolding on
commit-outputs g s id k op = refl

pub on-commit : (g : Setting) (s : State) (id k : ℕ) (op : Op) → (on g (Committed id k op) s).0 ≡ commit g id k op s
unfolding on happen
on-commit g s id k op = refl

pub back-outputs : (g : Setting) (s : State) (id k : ℕ) → (on g (Rattle.sp_rules.specs.Events.GivenBack id k) s).1 ≡ []
unfolding on
back-outputs g s id k = refl

pub on-back : (g : Setting) (s : State) (id k : ℕ) → (on g (Rattle.sp_rules.specs.Events.GivenBack id k) s).0 ≡ give_back id k s
unfolding on happen
on-back g s id k = refl
