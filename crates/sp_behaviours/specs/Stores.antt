-- What stands in a space that refused no event: remote objects, whose fields hold what their kinds say. (This project's own rules of what is refused.)
use Rattle.std.specs.Prelude.{◌≡◌, ℕ, true, List, Some}
use Rattle.std.specs.Str.{bytes_eq}
use Rattle.space_ids.specs.declared.ids.ObjId.{ObjId}
use Rattle.space_ids.specs.declared.ids.Ref.{Ref}
use Rattle.space_ids.specs.declared.value.Value.{Value}
use Rattle.sp_rules.specs.Classes.{Setting, field_kind, fits_field}
use Rattle.sp_rules.specs.Events.{Event}
use Rattle.sp_rules.specs.Holders.{class_is, fields_of, references_of_frame}
use Rattle.sp_rules.specs.Laws.{AllOf}
use Rattle.sp_rules.specs.Origins.{IsTaken}
use Rattle.sp_rules.specs.References.{is_reference_in, references_in, references_of}
use Rattle.sp_rules.specs.Space.{state_of}
use Rattle.sp_rules.specs.State.{State, Living, Object, KeptResult, ParkedFrame, object_at, last_written, standing, task_at}

pub record StoreFits (g : Setting) (s : State) : Type 0 where
  -- each standing object is of a remote class that is not abstract
  pub remote : (id : ObjId) (o : Object) → object_at s id ≡ Some o → g.classes.is_remote o.class ≡ true
  -- what was put last into a field of it is a value of the field's kind
  pub written : (id : ObjId) (o : Object) (slot : ℕ) (value : Value) → object_at s id ≡ Some o → last_written s.store id slot ≡ Some value
      → fits_field (field_kind g.classes o.class slot) value ≡ true

-- So it is after every history that a space took.
abbrev pub StoresFit : Type 0
StoresFit = (g : Setting) (h : List Event) → IsTaken g h → StoreFits g (state_of g h)

-- An own reference that a living task holds is of an object that stands, of the reference's class.
abbrev pub HeldObjectsStand : Type 0
HeldObjectsStand =
    (g : Setting) (h : List Event) (id : ℕ) (t : Living) (r : Ref) → IsTaken g h → task_at (state_of g h) id ≡ Some t → is_reference_in t.task.held r ≡ true
    → bytes_eq r.space g.id ≡ true → class_is r.class (object_at (state_of g h) r.id) ≡ true

-- ---- references

-- a reference of a remote class that is not abstract
abbrev pub IsOfRemote : Setting → Ref → Type 0
IsOfRemote g r = g.classes.is_remote r.class ≡ true

-- The references in a space are of such classes: those that tasks hold, those in the fields of standing objects, in held results, and in parked frames.
pub record AreOfRemote (g : Setting) (s : State) : Type 0 where
  pub tasks : AllOf (λ (t : Living). AllOf (IsOfRemote g) t.task.held) s.tasks
  pub fields : AllOf (λ (o : Object). AllOf (IsOfRemote g) (references_of (fields_of g s o))) (standing s.store)
  pub results : AllOf (λ (k : KeptResult). AllOf (IsOfRemote g) (references_in k.value)) s.results
  pub parked : AllOf (λ (p : ParkedFrame). AllOf (IsOfRemote g) (references_of_frame p.frame)) s.parked

-- So they are after every history that a space took.
abbrev pub ReferencesAreRemote : Type 0
ReferencesAreRemote = (g : Setting) (h : List Event) → IsTaken g h → AreOfRemote g (state_of g h)
