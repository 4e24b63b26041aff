-- The replies of the rules fit what a machine asks.
use mathlib.Core.Path.{sym, subst}
use Rattle.std.specs.Prelude.{◌≡◌, refl, ℕ, ◌<◌, Bool, true, false, length, IsSome, List, Option, None, Some, slice_get, IsSomeAnd, if◌then◌else◌}
use Rattle.std.specs.Str.{bytes_eq}
use Rattle.std.proofs.Common.{inl}
use Rattle.std.proofs.lemmas.Bool.{true≢false}
use Rattle.std.proofs.lemmas.Option.{slice_get_within}
use Rattle.std.proofs.lemmas.Slice.Eq.{bytes_eq-Decides}
use Rattle.cls_set.proofs.Hierarchy.{some_of}
use Rattle.cls_set.specs.Classes.{IsInterface}
use Rattle.cls_set.specs.Subtypes.{IsRemote}
use Rattle.cls_set.specs.declared.class.Class.{Class}
use Rattle.space_ids.specs.declared.ids.ClassId.{ClassId}
use Rattle.space_ids.specs.declared.ids.Ref.{Ref}
use Rattle.space_ids.specs.declared.value.Value.{Value}
use Rattle.space_ids.specs.declared.value.Value.TheVariants as values
use Rattle.sp_behaviours.specs.Behaviours.{held_of, value_of}
use Rattle.sp_rules.specs.Behaviours as rules
use Rattle.sp_rules.specs.Classes.{Classes, Setting, IntKind, ReferenceKind, fits_kind, field_kind}
use Rattle.sp_rules.specs.Events.{Event}
use Rattle.sp_rules.specs.Laws.{AllOf}
use Rattle.sp_rules.specs.LivingTasks
use Rattle.sp_rules.specs.References.{reference_of}
use Rattle.sp_rules.specs.Space.{state_of}
use Rattle.sp_rules.specs.State.{State, Object, object_at}
use Rattle.ver_frames.specs.declared.vtype.VType.{VType}
use Rattle.ver_frames.specs.declared.vtype.VType.TheVariants as vtype
use Rattle.vm_act.specs.declared.asked.Asked.TheVariants as asked
use Rattle.vm_act.specs.declared.asked.FieldValue.{FieldValue}
use Rattle.vm_act.specs.declared.asked.FieldValue.TheVariants as field
use Rattle.vm_heap.specs.References.{Table, is_own}
use Rattle.vm_replies.specs.Replies.{fields_world}
use Rattle.vm_step.specs.Run.{IsReply}
use Rattle.vm_typing.specs.Asking.{ValueFits}
use Rattle.vm_typing.specs.Fits.{IsA, OfSpace, OfStub, There}
use Rattle.vm_laws.specs.Files.{types_of}
use Rattle.sp_behaviours.specs.Replies.{AskedObjectsStand, FitsAsked, IsAskedOf, RepliesFit}
use Rattle.sp_behaviours.specs.Stores.{AreOfRemote, IsOfRemote, StoreFits}
use Rattle.sp_behaviours.specs.Told.{AreTold, AreRemoteFields, CanBeHeld, IsKindOf}
use Rattle.sp_behaviours.proofs.FieldLemmas
use Rattle.sp_behaviours.proofs.FieldLemmas.{found, held_objects_stand, value-of}
use Rattle.sp_behaviours.proofs.ReferenceLemmas.{references_are_remote}
use Rattle.sp_behaviours.proofs.StoreLemmas.{stores_fit}

-- a remote class is one of the set
remote-known : (classes : List Class) (class : ClassId) → IsRemote classes class → class.0 < length classes
remote-known classes class is =
    let c = some_of (slice_get classes class.0) (λ (c : Class). ¬ IsInterface c) is.is_class in
    slice_get_within classes class.0 c.0 c.1

-- A reference of a remote class stands for an object of an interface: one of the space's own objects, or a stub.
pub remote-is : (classes : List Class) (rules : Classes) → AreTold classes rules → (given class : ClassId) → IsSomeAnd (slice_get classes class.0) IsInterface → rules.is_remote given ≡ true → (own : Bool)
    → IsA (fields_world classes) class (if own then OfSpace given else OfStub given)
remote-is classes rules told given class interface is true = (remote-known classes given (told.remote given is), inl interface, told.remote given is)
remote-is classes rules told given class interface is false = (told.object, inl interface, (remote-known classes given (told.remote given is), told.remote given is))

-- ---- what a field holds, as the reply to a Get

module _ (g : Setting) (classes : List Class) (table : Table) (told : AreTold classes g.classes) (object : Ref) (slot : ℕ) where
  -- the value is the reply that is asked for
  abbrev Held : Value → Type 0
  Held v = There (IsReply classes table (asked.Get object slot)) (held_of (Some v))

  abbrev HasType : VType → Type 0
  HasType t = slice_get (types_of classes object.class) slot ≡ Some t

  int-held : (v : Value) → fits_kind IntKind v ≡ true → HasType vtype.Int → Held v
  int-held (values.Int n) fits e = subst (There (λ (t : VType). ValueFits (fields_world classes) table t (field.Int n))) (sym e) tt
  int-held values.Null fits e = absurd (true≢false (sym fits))
  int-held (values.Ints ns) fits e = absurd (true≢false (sym fits))
  int-held (values.Ref r) fits e = absurd (true≢false (sym fits))

  reference-held : (class : ClassId) → CanBeHeld classes (vtype.Object class) → (v : Value) → fits_kind ReferenceKind v ≡ true → AllOf (IsOfRemote g) (reference_of v) → HasType (vtype.Object class) → Held v
  reference-held class interface values.Null fits kept e = subst (There (λ (t : VType). ValueFits (fields_world classes) table t field.Null)) (sym e) tt
  reference-held class interface (values.Ref r) fits kept e =
      subst (There (λ (t : VType). ValueFits (fields_world classes) table t (field.Reference r))) (sym e) (remote-is classes g.classes told r.class class interface kept.0 (is_own table r))
  reference-held class interface (values.Int n) fits kept e = absurd (true≢false (sym fits))
  reference-held class interface (values.Ints ns) fits kept e = absurd (true≢false (sym fits))

  module _ (s : State) (stored : StoreFits g s) (remote : AreOfRemote g s) (o : Object) (there : object_at s object.id ≡ Some o) where
    by-type : (t : VType) → HasType t → IsKindOf t (field_kind g.classes o.class slot) → CanBeHeld classes t → Held (value-of g s object.id slot o)
    by-type vtype.Int e kind can = int-held (value-of g s object.id slot o) (FieldLemmas.of-kind g s stored remote object.id o there slot IntKind kind refl) e
    by-type (vtype.Object class) e kind can =
        reference-held class can (value-of g s object.id slot o) (FieldLemmas.of-kind g s stored remote object.id o there slot ReferenceKind kind refl)
        (FieldLemmas.kept g s stored remote object.id o there slot ReferenceKind kind) e
    by-type vtype.Top e kind can = absurd can
    by-type vtype.Null e kind can = absurd can
    by-type vtype.IntArray e kind can = absurd can
    by-type (vtype.Uninitialized offset) e kind can = absurd can
    by-type vtype.UninitializedThis e kind can = absurd can

-- ---- all that is asked

module _ (g : Setting) (h : List Event) (classes : List Class) (table : Table) (told : AreTold classes g.classes) (kept : AreRemoteFields classes) where
  make : (class : ClassId) → IsAskedOf g h classes table (asked.Create class) → FitsAsked classes table (asked.Create class) (LivingTasks.op_reply g (rules.Create class) (state_of g h))
  unfolding LivingTasks.op_reply
  make class a = pick (LivingTasks.is_full (state_of g h))
    where
      pick : (full : Bool) → FitsAsked classes table (asked.Create class)
          (if full then rules.Throws g.classes.out_of_memory else rules.Gives (Some (values.Ref (record { space = g.id; id = LivingTasks.next_object (state_of g h); class = class }))))
      pick true = told.memory
      pick false = (subst (λ own. bytes_eq g.id own ≡ true) (sym a.own) ((bytes_eq-Decides g.id g.id).1 refl), refl)

  typed : (object : Ref) (slot : ℕ) → IsAskedOf g h classes table (asked.Get object slot) → (o : Object) → object_at (state_of g h) object.id ≡ Some o → o.class ≡ object.class
      → (t : Option VType) → slice_get (types_of classes object.class) slot ≡ t → There (IsReply classes table (asked.Get object slot)) (held_of (Some (value-of g (state_of g h) object.id slot o)))
  typed object slot a o there same None e = absurd (true≢false (sym (subst IsSome e a.fits.1)))
  typed object slot a o there same (Some t) e =
      by-type g classes table told object slot (state_of g h) (stores_fit g h a.taken) (references_are_remote g h a.taken) o there t e
      (subst (λ (class : ClassId). IsKindOf t (field_kind g.classes class slot)) (sym same) (told.fields object.class slot t a.fits.0.2 e)) (kept object.class slot t a.fits.0.2 e)

  get : (object : Ref) (slot : ℕ) → IsAskedOf g h classes table (asked.Get object slot) → FitsAsked classes table (asked.Get object slot) (LivingTasks.op_reply g (rules.Get object.id slot) (state_of g h))
  unfolding LivingTasks.op_reply
  get object slot a =
      let x : (o : Object) × (object_at (state_of g h) object.id ≡ Some o) × (o.class ≡ object.class) = found (state_of g h) object.id object.class a.stands in
      subst (λ (o : Option Object). FitsAsked classes table (asked.Get object slot) (rules.Gives (LivingTasks.value_at g (state_of g h) object.id slot o))) (sym x.1)
      (typed object slot a x.0 x.1 x.2 (slice_get (types_of classes object.class) slot) refl)

  put : (object : Ref) (slot : ℕ) (value : FieldValue) → FitsAsked classes table (asked.Put object slot value) (LivingTasks.op_reply g (rules.Put object.id slot (value_of value)) (state_of g h))
  unfolding LivingTasks.op_reply
  put object slot value = tt

pub replies_fit : RepliesFit
replies_fit g h classes table (asked.Create class) arguments told kept a = make g h classes table told kept class a
replies_fit g h classes table (asked.Get object slot) arguments told kept a = get g h classes table told kept object slot a
replies_fit g h classes table (asked.Put object slot value) arguments told kept a = put g h classes table told kept object slot value
replies_fit g h classes table (asked.Call target method count) arguments told kept a = absurd a.store

pub asked_objects_stand : AskedObjectsStand
asked_objects_stand g h id t classes table (asked.Create class) taken is own asks held = tt
asked_objects_stand g h id t classes table (asked.Get object slot) taken is own asks held =
    held_objects_stand g h id t object taken is held (subst (λ mine. bytes_eq object.space mine ≡ true) own asks.0.0)
asked_objects_stand g h id t classes table (asked.Put object slot value) taken is own asks held = tt
asked_objects_stand g h id t classes table (asked.Call target method count) taken is own asks held = tt
