-- A registry binds names to remote objects of its own: `bind`, `rebind`, `unbind`, `lookup` and `list` (Java RMI specification, 6.1: `java.rmi.registry.Registry`). Which names are allowed, and the order of the bindings, are this project's own rules.
use Rattle.std.specs.Prelude.{◌≡◌, ℕ, Bool, List, [], ◌∷◌, ◌++◌, Option, None, Some, Result, Ok, Err, is_some, length, ◌<◌, remove, slice_set, if◌then◌else◌}
use Rattle.std.specs.List.{slice_index_or}
use Rattle.std.specs.Str.{bytes_eq}
use Rattle.space_ids.specs.declared.ids.ObjId.{ObjId}
use Rattle.sp_registry.specs.declared.fault.RegistryFault.{RegistryFault}
use Rattle.sp_registry.specs.declared.fault.RegistryFault.TheVariants.{AlreadyBound, NotBound, BadName, NotOwn}
use Rattle.sp_registry.specs.declared.fault.BindFault.{BindFault}
use Rattle.sp_registry.specs.declared.fault.BindFault.TheVariants.{Memory, Denied}
use Rattle.sp_registry.specs.declared.registry.Binding.{Binding}
use Rattle.registry_names.specs.Names.{is_name}

-- what a registry is seen as: its bindings, in the order in which the names were bound
pub record Names : Type 0 where
  pub bindings : List Binding

-- whether the binding is of that name
abbrev pub is_of : List ℕ → Binding → Bool
is_of name binding = bytes_eq binding.name name

-- the object that the name is bound to
abbrev pub lookup : List Binding → List ℕ → Option ObjId
lookup [] name = None
lookup (binding ∷ bindings) name = if is_of name binding then Some binding.object else lookup bindings name

-- the bindings with the name bound to the object: at its index if it was bound, else at the end
abbrev pub rebound : List Binding → List ℕ → ObjId → List Binding
rebound [] name object = record { name = name; object = object } ∷ []
rebound (binding ∷ bindings) name object =
    if is_of name binding then record binding { object = object } ∷ bindings else binding ∷ rebound bindings name object

-- the bindings without the name's
abbrev pub unbound : List Binding → List ℕ → List Binding
unbound [] name = []
unbound (binding ∷ bindings) name = if is_of name binding then bindings else binding ∷ unbound bindings name

-- the name's binding stands at this index: what it is bound to, and what a change there leaves
pub record IsIndexOf (bindings : List Binding) (name : List ℕ) (index : ℕ) : Type 0 where
  pub within : index < length bindings
  pub bound : (other : Binding) → lookup bindings name ≡ Some (slice_index_or bindings index other).object
  pub rebinds : (other : Binding) (object : ObjId)
      → rebound bindings name object ≡ slice_set bindings index (record (slice_index_or bindings index other) { object = object })
  pub unbinds : unbound bindings name ≡ remove bindings index

-- each name is bound once
abbrev pub HasNamesOnce : List Binding → Type 0
HasNamesOnce [] = Unit {0}
HasNamesOnce (binding ∷ bindings) = (lookup bindings binding.name ≡ None) × HasNamesOnce bindings

-- the object, which has to be an own standing one
abbrev pub own : Option ObjId → Result ObjId RegistryFault
own None = Err NotOwn
own (Some object) = Ok object

-- the object that may be bound to the name: a bad name counts before an object that is not its own
abbrev pub allowed : List ℕ → Option ObjId → Result ObjId RegistryFault
allowed name object = if is_name name then own object else Err BadName

-- what binding a name to an allowed object leaves
abbrev pub bind_allowed : List Binding → List ℕ → Result ObjId RegistryFault → Result (List Binding) RegistryFault
bind_allowed bindings name (Err fault) = Err fault
bind_allowed bindings name (Ok object) =
    if is_some (lookup bindings name) then Err AlreadyBound else Ok (bindings ++ record { name = name; object = object } ∷ [])

-- what binding a name leaves, or why it is denied
abbrev pub bind : List Binding → List ℕ → Option ObjId → Result (List Binding) RegistryFault
bind bindings name object = bind_allowed bindings name (allowed name object)

-- what binding a name anew to an allowed object leaves
abbrev pub rebind_allowed : List Binding → List ℕ → Result ObjId RegistryFault → Result (List Binding) RegistryFault
rebind_allowed bindings name (Err fault) = Err fault
rebind_allowed bindings name (Ok object) = Ok (rebound bindings name object)

-- what binding a name anew leaves, or why it is denied
abbrev pub rebind : List Binding → List ℕ → Option ObjId → Result (List Binding) RegistryFault
rebind bindings name object = rebind_allowed bindings name (allowed name object)

-- what taking a name away leaves, or why it is denied
abbrev pub unbind : List Binding → List ℕ → Result (List Binding) RegistryFault
unbind bindings name =
    if is_name name then (if is_some (lookup bindings name) then Ok (unbound bindings name) else Err NotBound) else Err BadName

-- a change that ends so is refused with this fault: the denial if there is one, else out of memory
abbrev pub Refuses : Result (List Binding) RegistryFault → BindFault → Type 0
Refuses (Err denied) fault = fault ≡ Denied denied
Refuses (Ok bindings) fault = fault ≡ Memory
