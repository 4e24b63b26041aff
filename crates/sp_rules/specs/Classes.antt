-- What a space asks of its class set, and what is settled when a space is made. A remote interface is java/rmi/Remote or extends it; a remote class is a class that implements one (Java RMI specification, 2.4 and 4.1).
use Rattle.std.specs.Prelude.{ℕ, Bool, true, false, List, [], ◌∷◌, Option, None, Some, ◌&&◌, pos, slice_get, if◌then◌else◌}
use Rattle.space_ids.specs.declared.ids.ClassId.{ClassId}
use Rattle.uuid.specs.declared.Uuid.{Uuid}
use Rattle.space_ids.specs.declared.value.Value.{Value}
use Rattle.space_ids.specs.declared.value.Value.TheVariants as values
use Rattle.sp_rules.specs.Behaviours.{Behaviour}

-- What a method of a remote interface takes and gives, and what a field of a remote class holds: an int (a boolean is the int that it is carried as), an array of ints, a reference of a remote interface; a result may be nothing. A field is no array.
pub data Kind : Type 0 where
  IntKind : Kind
  IntArrayKind : Kind
  ReferenceKind : Kind
  VoidKind : Kind

-- Why a method is not started.
pub data StartRefusal : Type 0 where
  AbsentMethod : StartRefusal
  BadSignature : StartRefusal
  BadArgument : StartRefusal

-- What a task may use: words of heap, words of stack, distinct references, units of fuel.
pub record Limits : Type 0 where
  pub heap : ℕ
  pub stack : ℕ
  pub references : ℕ
  pub fuel : ℕ

-- What the rules ask of a class set. Classes and methods are given by their numbers.
pub record Classes : Type 0 where
  -- the class is a remote class that is not abstract
  pub is_remote : ClassId → Bool
  -- a remote interface of the class declares or inherits the method
  pub may_call : ClassId → ℕ → Bool
  -- what a method takes and gives
  pub parameters : ℕ → List Kind
  pub result : ℕ → Kind
  -- the method that a call of this one runs on an object of the class, if selection finds one
  pub selected : ClassId → ℕ → Option ℕ
  -- why a task of the space does not start at a method with these arguments, if so
  pub start_refusal : Uuid → ℕ → List Value → Option StartRefusal
  -- what a task of the space does that starts at a method with these arguments and this fuel. If an array among them does not fit its heap,
  -- it is over and threw OutOfMemoryError; else, if its first frame does not fit its stack, StackOverflowError.
  pub behaviour : Uuid → Limits → ℕ → List Value → ℕ → Behaviour
  -- the kinds of the fields of a remote class, inherited ones too, by slot
  pub fields : ClassId → List Kind
  pub is_throwable : ClassId → Bool
  pub is_error : ClassId → Bool
  pub is_remote_exception : ClassId → Bool
  -- the classes that the rules throw: of java/lang OutOfMemoryError, of java/rmi the others
  pub out_of_memory : ClassId
  pub no_such_object : ClassId
  pub unmarshal : ClassId
  pub marshal : ClassId
  pub connect : ClassId
  pub server_error : ClassId
  pub server_exception : ClassId
  pub not_bound : ClassId

-- What is settled as a space is made: its classes and their digest, its id, the limits of its tasks, and the highest version of the frames that it speaks, 1 or 2.
pub record Setting : Type 0 where
  pub classes : Classes
  pub id : Uuid
  pub digest : List ℕ
  pub limits : Limits
  pub version : ℕ

-- ---- kinds

-- whether a value is of a kind: null is an array and a reference
abbrev pub fits_kind : Kind → Value → Bool
fits_kind IntKind (values.Int n) = true
fits_kind IntArrayKind values.Null = true
fits_kind IntArrayKind (values.Ints ns) = true
fits_kind ReferenceKind values.Null = true
fits_kind ReferenceKind (values.Ref r) = true
fits_kind kind value = false

-- whether the arguments are one for each parameter, of its kind
abbrev pub fit_kinds : List Kind → List Value → Bool
fit_kinds [] [] = true
fit_kinds [] (v ∷ vs) = false
fit_kinds (k ∷ ks) [] = false
fit_kinds (k ∷ ks) (v ∷ vs) = fits_kind k v && fit_kinds ks vs

-- whether a result is of a kind
abbrev pub fits_result : Kind → Option Value → Bool
fits_result VoidKind None = true
fits_result VoidKind (Some v) = false
fits_result IntKind None = false
fits_result IntKind (Some v) = fits_kind IntKind v
fits_result IntArrayKind None = false
fits_result IntArrayKind (Some v) = fits_kind IntArrayKind v
fits_result ReferenceKind None = false
fits_result ReferenceKind (Some v) = fits_kind ReferenceKind v

-- A field to which nothing was put holds 0 or null.
abbrev pub blank : Option Kind → Value
blank None = values.Null
blank (Some IntKind) = values.Int (pos 0)
blank (Some IntArrayKind) = values.Null
blank (Some ReferenceKind) = values.Null
blank (Some VoidKind) = values.Null

-- whether a slot is one of these fields, and a value of its kind
abbrev pub fits_field : Option Kind → Value → Bool
fits_field None v = false
fits_field (Some k) v = fits_kind k v

-- the kind of a field of a class
abbrev pub field_kind : Classes → ClassId → ℕ → Option Kind
field_kind classes class slot = slice_get (classes.fields class) slot

-- An Error that a callee throws reaches its caller as ServerError, a RemoteException as ServerException, any other class as itself (Java RMI specification, appendix A).
abbrev pub told_class : Classes → ClassId → ClassId
told_class classes class =
    if classes.is_error class then classes.server_error
    else (if classes.is_remote_exception class then classes.server_exception else class)
