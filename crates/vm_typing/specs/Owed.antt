-- What linking (JVMS 5.4) and type checking (JVMS 4.10.1) owe of a program, so that a machine that runs it is never stuck.
use Rattle.std.specs.Prelude.{◌≡◌, ℕ, ◌<◌, ◌≤◌, true, false, Option, Some, None, List, [], ◌∷◌, ◌++◌, length, slice_get, codes}
use Rattle.space_ids.specs.declared.ids.ClassId.{ClassId}
use Rattle.cls_set.specs.Classes.{name_at}
use Rattle.ver_frames.specs.Assignable.{IsObjectAssignable, IsAssignable, AreAssignable}
use Rattle.ver_frames.specs.declared.vtype.VType.{VType}
use Rattle.ver_frames.specs.declared.vtype.VType.TheVariants as vtype
use Rattle.vm_heap.specs.declared.heap.WordKind.{WordKind}
use Rattle.vm_heap.specs.declared.heap.WordKind.TheVariants as kind
use Rattle.vm_act.specs.declared.crossing.Parameter.{Parameter}
use Rattle.vm_act.specs.declared.crossing.Parameter.TheVariants as parameter
use Rattle.vm_act.specs.declared.calls.Callee.{Callee}
use Rattle.vm_act.specs.declared.calls.Selected.{Selected}
use Rattle.vm_act.specs.declared.calls.Selected.TheVariants as selected
use Rattle.vm_act.specs.declared.objects.Referent.{Referent}
use Rattle.vm_act.specs.declared.objects.Referent.TheVariants as referent
use Rattle.vm_typing.specs.World.{World, IsKnown, IsPlain, ArePlain, parameters, opening, Enters}

-- What is owed of a method: the first clauses by the linker, the last one by the type checker.
pub record MethodOwed (w : World) (number : ℕ) : Type 0 where
  pub locals : length (parameters (w.method number)) ≤ (w.method number).max_locals
  pub plain : ArePlain (w.method number).arguments
  pub result : (t : VType) → (w.method number).result ≡ Some t → IsPlain t
  -- an `<init>` gives nothing
  pub void : (w.method number).is_init ≡ true → (w.method number).result ≡ None
  -- each instruction has an offset of its own
  pub index : (index : ℕ) → index < (w.method number).count → (w.method number).index_at ((w.method number).offset_at index) ≡ index
  pub opens : Enters w number 0 (opening (w.method number))

-- What the linker owes of the classes, and of each method.
pub record Owed (w : World) : Type 0 where
  -- java/lang/Object is the one class of this name
  pub object : IsKnown w w.object
  pub object_named : (class : ClassId) → name_at w.classes class ≡ Some (codes "java/lang/Object") → w.object ≡ class
  -- standing for a class is transitive
  pub further : (a b c : ClassId) → IsKnown w a → IsObjectAssignable w.classes a b → IsObjectAssignable w.classes b c
      → IsObjectAssignable w.classes a c
  -- a field keeps its slot and its type in what may stand for its class
  pub inherits : (a b : ClassId) (slot : ℕ) (t : VType) → IsKnown w a → IsObjectAssignable w.classes a b
      → slice_get (w.fields b) slot ≡ Some t → slice_get (w.fields a) slot ≡ Some t
  -- java/lang/Object has no fields, so no array has one
  pub object_fields : w.fields w.object ≡ []
  pub fields : (class : ClassId) (slot : ℕ) (t : VType) → slice_get (w.fields class) slot ≡ Some t → IsPlain t
  pub methods : (number : ℕ) → w.has_code number ≡ true → MethodOwed w number

-- what a field of a type holds at first is of that type
abbrev pub HasKind : VType → WordKind → Type 0
HasKind vtype.Int kind.Int = Unit {0}
HasKind (vtype.Object class) kind.Reference = Unit {0}
HasKind vtype.IntArray kind.Reference = Unit {0}
HasKind t k = ⊥

-- what a machine is given of a method agrees with its types
pub record IsCallee (w : World) (callee : Callee) : Type 0 where
  pub known : w.has_code callee.method ≡ true
  pub arguments : callee.arguments ≡ length (parameters (w.method callee.method))
  pub max_locals : callee.max_locals ≡ (w.method callee.method).max_locals
  pub max_stack : callee.max_stack ≡ (w.method callee.method).max_stack
  pub begins_uninit : callee.begins_uninit ≡ (w.method callee.method).begins_uninit

-- a method that a class selects: it has the arguments and the result of the one that was named, and is declared by the class or above
pub record SelectsMethod (w : World) (class : ClassId) (arguments : List VType) (result : Option VType) (callee : Callee) : Type 0 where
  pub agrees : IsCallee w callee
  pub normal : (w.method callee.method).is_init ≡ false
  pub passed : (w.method callee.method).arguments ≡ vtype.Object (w.method callee.method).owner ∷ arguments
  pub gives : (w.method callee.method).result ≡ result
  pub above : IsObjectAssignable w.classes class (w.method callee.method).owner

-- what the linker owes of a selection: if it finds a method, that one may be run
abbrev pub Selects : World → ClassId → List VType → Option VType → Selected → Type 0
Selects w class arguments result (selected.Method callee) = SelectsMethod w class arguments result callee
Selects w class arguments result selected.Abstract = Unit {0}
Selects w class arguments result selected.NotPublic = Unit {0}
Selects w class arguments result selected.NotImplemented = Unit {0}

-- the operands on top may be passed if these types are asked, the last one on top, and `below` is what lies under them
pub record Passes (w : World) (asked stack below : List VType) : Type 0 where
  pub given : List VType
  pub whole : stack ≡ given ++ below
  pub to : AreAssignable w.classes given asked

-- the types that a load, a store or a comparison of a kind moves
abbrev pub Moves : WordKind → VType → Type 0
Moves kind.Int vtype.Int = Unit {0}
Moves kind.Reference vtype.Null = Unit {0}
Moves kind.Reference (vtype.Object class) = Unit {0}
Moves kind.Reference vtype.IntArray = Unit {0}
Moves kind.Reference (vtype.Uninitialized offset) = Unit {0}
Moves kind.Reference vtype.UninitializedThis = Unit {0}
Moves k t = ⊥

-- a parameter of a type, in a call of a stub
abbrev pub Takes : Parameter → VType → Type 0
Takes parameter.Int vtype.Int = Unit {0}
Takes parameter.Ints vtype.IntArray = Unit {0}
Takes parameter.Reference (vtype.Object class) = Unit {0}
Takes p t = ⊥

-- putfield may write a field of the class into an object of a type: one that may stand for the class, or the receiver of an `<init>` of
-- the class itself, before it calls another one (JVMS 4.10.1.9, putfield)
abbrev pub MayWrite : World → ClassId → ClassId → VType → Type 0
MayWrite w owner class vtype.UninitializedThis = owner ≡ class
MayWrite w owner class vtype.Top = ⊥
MayWrite w owner class vtype.Int = ⊥
MayWrite w owner class vtype.Null = Unit {0}
MayWrite w owner class (vtype.Object c) = IsObjectAssignable w.classes c class
MayWrite w owner class vtype.IntArray = IsAssignable w.classes vtype.IntArray (vtype.Object class)
MayWrite w owner class (vtype.Uninitialized offset) = ⊥

-- initialised references, and null
abbrev pub Refers : VType → Type 0
Refers vtype.Top = ⊥
Refers vtype.Int = ⊥
Refers vtype.Null = Unit {0}
Refers (vtype.Object class) = Unit {0}
Refers vtype.IntArray = Unit {0}
Refers (vtype.Uninitialized offset) = ⊥
Refers vtype.UninitializedThis = ⊥

-- what a reference of a type stands for may stand for the type; an array and a stub are used as objects of java/lang/Object
abbrev pub IsOne : World → VType → Referent → Type 0
IsOne w t referent.Null = Unit {0}
IsOne w (vtype.Object class) (referent.Object b) = IsKnown w b × IsObjectAssignable w.classes b class
IsOne w (vtype.Object class) referent.Ints = IsKnown w w.object × IsObjectAssignable w.classes w.object class
IsOne w (vtype.Object class) (referent.Stub reference) = IsKnown w w.object × IsObjectAssignable w.classes w.object class
IsOne w vtype.IntArray referent.Ints = Unit {0}
IsOne w t r = ⊥

-- the same of the type that a cast asks: null is of each
abbrev pub CastFits : World → VType → Referent → Type 0
CastFits w (vtype.Object class) referent.Null = Unit {0}
CastFits w (vtype.Object class) (referent.Object b) = IsKnown w b × IsObjectAssignable w.classes b class
CastFits w (vtype.Object class) referent.Ints = IsKnown w w.object × IsObjectAssignable w.classes w.object class
CastFits w (vtype.Object class) (referent.Stub reference) = IsKnown w w.object × IsObjectAssignable w.classes w.object class
CastFits w vtype.IntArray referent.Null = Unit {0}
CastFits w vtype.IntArray (referent.Object b) = ⊥
CastFits w vtype.IntArray referent.Ints = Unit {0}
CastFits w vtype.IntArray (referent.Stub reference) = ⊥
CastFits w t r = ⊥

-- what every class set gives of what is owed: java/lang/Object is above each class, and standing for a class is transitive
pub record SetsGive (w : World) : Type 0 where
  pub object : IsKnown w w.object
  pub object_named : (class : ClassId) → name_at w.classes class ≡ Some (codes "java/lang/Object") → w.object ≡ class
  pub further : (a b c : ClassId) → IsKnown w a → IsObjectAssignable w.classes a b → IsObjectAssignable w.classes b c
      → IsObjectAssignable w.classes a c
