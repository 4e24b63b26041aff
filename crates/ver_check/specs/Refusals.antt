-- What the answer of checking a class set says (JVMS 4.10): all methods are type safe, or the first one that is not breaks a rule.
use Rattle.std.specs.Prelude.{◌≡◌, ℕ, Option, Result, Ok, Err, IsSomeAnd, option_and_then, slice_get}
use Rattle.cls_link.specs.Links.{Links}
use Rattle.ver_check.specs.Acceptance.{subject_of}
use Rattle.ver_check.specs.Faults.{IsMethodFault, IsNamed}
use Rattle.ver_check.specs.declared.check.BodyFault.{BodyFault}
use Rattle.ver_check.specs.declared.check.BodyFault.TheVariants as body
use Rattle.ver_rules.specs.declared.fault.CheckFault.{CheckFault}
use Rattle.ver_rules.specs.declared.fault.CheckFault.TheVariants as fault
use Rattle.ver_frames.specs.Method.{Subject}

-- the answer is a value of which the first statement holds, or a broken rule and the second holds, or out of memory
abbrev pub SettlesSet : {X : Type 0} → Result X CheckFault → (X → Type 0) → Type 0 → Type 0
SettlesSet (Ok x) So not_so = So x
SettlesSet (Err (fault.Broken rule class method descriptor at)) So not_so = not_so
SettlesSet (Err fault.Memory) So not_so = Unit {0}

-- the fault of a set is that of a method, by its names, unless memory ran out
abbrev pub IsFaultOf : Subject → CheckFault → Type 0
IsFaultOf m fault.Memory = Unit {0}
IsFaultOf m (fault.Broken rule class method descriptor at) = IsNamed m class method descriptor × IsMethodFault m rule at

-- the same of a method, if it has code
abbrev pub IsFaultIn : Option Subject → CheckFault → Type 0
IsFaultIn m fault.Memory = Unit {0}
IsFaultIn m (fault.Broken rule class method descriptor at) = IsSomeAnd m (λ m. IsNamed m class method descriptor × IsMethodFault m rule at)

-- the same of the method with this number
abbrev pub IsFaultAt : Links → ℕ → CheckFault → Type 0
IsFaultAt links index fault = IsFaultIn (option_and_then (subject_of links.classes) (slice_get links.methods index)) fault

-- the fault of a set says the fault of a body, with the names of its method, unless memory ran out
abbrev pub Names : Subject → BodyFault → CheckFault → Type 0
Names m (body.Broken rule at) (fault.Broken named class method descriptor offset) = (named ≡ rule) × (offset ≡ at) × IsNamed m class method descriptor
Names m (body.Broken rule at) fault.Memory = Unit {0}
Names m body.Memory told = told ≡ fault.Memory
