-- What tasks call and what they are answered, and at what tasks start (Java RMI specification, 2.4 on methods, 2.6 on references, 3.1 and appendix A on results; that fuel is lent and given back is this project's own rule).
use Rattle.std.specs.Prelude.{◌≡◌, ◌⊎◌, ◌≤◌, ℕ, true, List, ◌∷◌, Some}
use Rattle.space_ids.specs.declared.ids.ClassId.{ClassId}
use Rattle.space_ids.specs.declared.ids.ObjId.{ObjId}
use Rattle.space_ids.specs.declared.ids.Ref.{Ref}
use Rattle.space_ids.specs.declared.value.Value.{Value}
use Rattle.space_ids.specs.declared.value.Value.TheVariants as value
use Rattle.sp_rules.specs.Behaviours.{Call, Reply, Gives, GivesBack, Throws, RunsOut}
use Rattle.sp_rules.specs.Classes.{Setting, Kind, fit_kinds, fits_result}
use Rattle.sp_rules.specs.Events.{Event, Root}
use Rattle.sp_rules.specs.Laws.{AllOf}
use Rattle.sp_rules.specs.References.{references_in, references_of}
use Rattle.sp_rules.specs.Runs.{replayed}
use Rattle.sp_rules.specs.State.{State, Living, Object, Origin, OfRoot, OfCall, object_at}
use Rattle.sp_rules.specs.Tasks.{Task, AsksFor, lent, stand, steps}

-- the references are of remote classes that are not abstract
abbrev pub AreRemote : Setting → List Ref → Type 0
AreRemote g references = AllOf (λ (r : Ref). g.classes.is_remote r.class ≡ true) references

-- ---- calls

-- The point to which its own instructions brought a task since its last reply. One that waits has lent the fuel that it had there.
abbrev pub point : Setting → Living → Task
point g t = steps t.steps (replayed g t.began t.given)

-- A task stands at a call for which it lends this fuel, and which gives this kind of result.
pub record IsAtCall (g : Setting) (t : Task) (fuel : ℕ) (kind : Kind) : Type 0 where
  pub target : Ref
  pub method : ℕ
  pub arguments : List Value
  pub stands : stand t ≡ AsksFor (Call target method arguments)
  pub lends : fuel ≡ lent t
  pub gives : kind ≡ g.classes.result method

-- the exceptions of failures
abbrev pub IsFailing : Setting → ClassId → Type 0
IsFailing g class = (class ≡ g.classes.unmarshal) ⊎ ((class ≡ g.classes.connect) ⊎ (class ≡ g.classes.marshal))

-- A reply fits a call of this fuel and this kind of result: a value of the kind, whose references are of remote classes, and no more fuel than was lent; an exception
-- that is a Throwable, or that of a failure; or that the callee's fuel was spent.
abbrev pub FitsCall : Setting → ℕ → Kind → Reply → Type 0
FitsCall g fuel kind (Gives value) = ⊥
FitsCall g fuel kind (GivesBack value back) = (fits_result kind value ≡ true) × (back ≤ fuel) × AreRemote g (references_in value)
FitsCall g fuel kind (Throws class) = (g.classes.is_throwable class ≡ true) ⊎ IsFailing g class
FitsCall g fuel kind RunsOut = Unit {0}

-- A reply fits the call at which a task stands that waits.
pub record IsFitting (g : Setting) (t : Living) (reply : Reply) : Type 0 where
  pub fuel : ℕ
  pub kind : Kind
  pub at : IsAtCall g (point g t) fuel kind
  pub fits : FitsCall g fuel kind reply

-- ---- starts

-- A method and values that a call of a method selects on an object that stands: the object's class has that in a remote interface, and the arguments are of its
-- parameters' kinds. The values are the object's reference and the arguments.
pub record IsCallOf (g : Setting) (s : State) (selected : ℕ) (values : List Value) : Type 0 where
  pub target : ObjId
  pub object : Object
  pub method : ℕ
  pub arguments : List Value
  pub there : object_at s target ≡ Some object
  pub selects : g.classes.selected object.class method ≡ Some selected
  pub may : g.classes.may_call object.class method ≡ true
  pub fits : fit_kinds (g.classes.parameters method) arguments ≡ true
  pub remote : AreRemote g (references_of arguments)
  pub values_are : values ≡ value.Ref (record { space = g.id; id = target; class = object.class }) ∷ arguments

-- A task starts as the root that an event is, or by a call.
abbrev pub StartsBy : Setting → State → Event → Origin → ℕ → List Value → Type 0
StartsBy g s e OfRoot method values = (fuel : ℕ) × (e ≡ Root method values fuel)
StartsBy g s e (OfCall conn number) method values = IsCallOf g s method values
