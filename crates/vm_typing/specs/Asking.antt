-- What a typed machine asks of its task's space, and the replies that fit (JVMS 6.5: new, getfield, putfield, invokeinterface). A field of a
-- remote object may hold an int, null, or a reference to a remote object; so may what a call gives, or an array.
use Rattle.std.specs.Prelude.{◌≡◌, true, false, IsSome, Option, Some, None, length, option_map, reverse, slice_get}
use Rattle.space_ids.specs.declared.ids.ClassId.{ClassId}
use Rattle.space_ids.specs.declared.ids.Ref.{Ref}
use Rattle.space_ids.specs.declared.value.Value.{Value}
use Rattle.space_ids.specs.declared.value.Value.TheVariants as value
use Rattle.cls_set.specs.Subtypes.{IsRemote}
use Rattle.ver_frames.specs.declared.vtype.VType.{VType}
use Rattle.ver_frames.specs.declared.vtype.VType.TheVariants as vtype
use Rattle.vm_heap.specs.References.{Table, is_own}
use Rattle.vm_act.specs.Crossing.{crosses, values_of}
use Rattle.vm_act.specs.declared.asked.Asked.{Asked}
use Rattle.vm_act.specs.declared.asked.Asked.TheVariants as ask
use Rattle.vm_act.specs.declared.asked.FieldValue.{FieldValue}
use Rattle.vm_act.specs.declared.asked.FieldValue.TheVariants as field
use Rattle.vm_act.specs.declared.asked.Reply.{Reply}
use Rattle.vm_act.specs.declared.asked.Reply.TheVariants as reply
use Rattle.vm_act.specs.declared.machine.Machine.{Machine}
use Rattle.vm_typing.specs.World.{World, IsKnown}
use Rattle.vm_typing.specs.Fits.{remote_pointee, IsA, There}

-- a reference to a remote object, or to a stub, that may stand for an object of a class
abbrev pub RefersTo : World → Table → ClassId → Ref → Type 0
RefersTo w table class reference = IsA w class (remote_pointee table reference)

-- what a field of a remote object holds is of a type
abbrev pub ValueFits : World → Table → VType → FieldValue → Type 0
ValueFits w table vtype.Int (field.Int n) = Unit {0}
ValueFits w table (vtype.Object class) field.Null = Unit {0}
ValueFits w table (vtype.Object class) (field.Reference reference) = RefersTo w table class reference
ValueFits w table vtype.IntArray field.Null = Unit {0}
ValueFits w table t value = ⊥

-- an object of the own space, of a remote class
abbrev pub IsOwnObject : World → Table → Ref → Type 0
IsOwnObject w table object = (is_own table object ≡ true) × IsKnown w object.class × IsRemote w.classes object.class

-- an object of another space, of a remote class
abbrev pub IsForeignObject : World → Table → Ref → Type 0
IsForeignObject w table object = (is_own table object ≡ false) × IsKnown w object.class × IsRemote w.classes object.class

-- What is asked is of typed words: a new object of a remote class; what a field of an own object holds, which its class has; that such a
-- field hold a value of its type; a call on an object of another space
abbrev pub AskedFits : World → Table → Asked → Type 0
AskedFits w table (ask.Create class) = IsKnown w class × IsRemote w.classes class
AskedFits w table (ask.Get object slot) = IsOwnObject w table object × IsSome (slice_get (w.fields object.class) slot)
AskedFits w table (ask.Put object slot value) =
    IsOwnObject w table object × There (λ t. ValueFits w table t value) (slice_get (w.fields object.class) slot)
AskedFits w table (ask.Call target method count) = IsForeignObject w table target

-- the arguments of a call lie on top, and cross
abbrev pub CallCrosses : World → Asked → Machine → Type 0
CallCrosses w (ask.Create class) m = Unit {0}
CallCrosses w (ask.Get object slot) m = Unit {0}
CallCrosses w (ask.Put object slot written) m = Unit {0}
CallCrosses w (ask.Call target method count) m =
    (count ≡ length (w.takes method))
    × (option_map crosses (values_of (reverse (w.takes method)) m.references m.heap.cells m.stack.frame.operands) ≡ Some true)

-- what a call gives is of the type of its method's result
abbrev pub CrossedFits : World → Table → VType → Value → Type 0
CrossedFits w table vtype.Int (value.Int n) = Unit {0}
CrossedFits w table (vtype.Object class) value.Null = Unit {0}
CrossedFits w table (vtype.Object class) (value.Ref reference) = RefersTo w table class reference
CrossedFits w table vtype.IntArray value.Null = Unit {0}
CrossedFits w table vtype.IntArray (value.Ints elements) = Unit {0}
CrossedFits w table t v = ⊥

abbrev pub ResultFits : World → Table → Option VType → Option Value → Type 0
ResultFits w table None None = Unit {0}
ResultFits w table None (Some v) = ⊥
ResultFits w table (Some t) None = ⊥
ResultFits w table (Some t) (Some v) = CrossedFits w table t v

-- A reply is of the kind, and of the type, that is asked: an own object of the class; a value of the field's type; what a method of this
-- result gives, or that its fuel was spent; or an exception of a class of the set is thrown
abbrev pub ReplyFits : World → Table → Asked → Reply → Type 0
ReplyFits w table (ask.Create class) (reply.Made reference) = (is_own table reference ≡ true) × (reference.class ≡ class)
ReplyFits w table (ask.Create class) (reply.Holds value) = ⊥
ReplyFits w table (ask.Create class) reply.Written = ⊥
ReplyFits w table (ask.Create class) (reply.Returned given fuel) = ⊥
ReplyFits w table (ask.Create class) reply.RunsOut = ⊥
ReplyFits w table (ask.Create class) (reply.Throws thrown) = IsKnown w thrown
ReplyFits w table (ask.Get object slot) (reply.Made reference) = ⊥
ReplyFits w table (ask.Get object slot) (reply.Holds value) =
    There (λ t. ValueFits w table t value) (slice_get (w.fields object.class) slot)
ReplyFits w table (ask.Get object slot) reply.Written = ⊥
ReplyFits w table (ask.Get object slot) (reply.Returned given fuel) = ⊥
ReplyFits w table (ask.Get object slot) reply.RunsOut = ⊥
ReplyFits w table (ask.Get object slot) (reply.Throws thrown) = IsKnown w thrown
ReplyFits w table (ask.Put object slot value) (reply.Made reference) = ⊥
ReplyFits w table (ask.Put object slot value) (reply.Holds other) = ⊥
ReplyFits w table (ask.Put object slot value) reply.Written = Unit {0}
ReplyFits w table (ask.Put object slot value) (reply.Returned given fuel) = ⊥
ReplyFits w table (ask.Put object slot value) reply.RunsOut = ⊥
ReplyFits w table (ask.Put object slot value) (reply.Throws thrown) = IsKnown w thrown
ReplyFits w table (ask.Call target method count) (reply.Made reference) = ⊥
ReplyFits w table (ask.Call target method count) (reply.Holds value) = ⊥
ReplyFits w table (ask.Call target method count) reply.Written = ⊥
ReplyFits w table (ask.Call target method count) (reply.Returned given fuel) = ResultFits w table (w.gives method) given
ReplyFits w table (ask.Call target method count) reply.RunsOut = Unit {0}
ReplyFits w table (ask.Call target method count) (reply.Throws thrown) = IsKnown w thrown
