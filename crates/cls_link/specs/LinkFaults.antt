-- What is demanded of the methods of a class set (JVMS 4.9.1, 5.4.3), and which fault is named if one breaks a rule: the order of
-- faults is this project's own.
use Rattle.std.specs.Prelude.{◌≡◌, ℕ, Option, Some, None, List, ◌∷◌, ◌++◌, IsSomeAnd, IfSome, All, MatchOption}
use Rattle.cf_insns.specs.declared.fault.CodeFault.{CodeFault}
use Rattle.cf_insns.specs.declared.fault.CodeFault.TheVariants as code
use Rattle.cf_insns.specs.declared.fault.CodeRule.{CodeRule}
use Rattle.cf_insns.specs.declared.insn.Insn.{Insn}
use Rattle.cf_insns.specs.Faults.{IsBroken}
use Rattle.cf_insns.specs.Listing.{Listing, IsListing}
use Rattle.cls_set.specs.declared.Method.{Method}
use Rattle.cls_set.specs.declared.class.Class.{Class}
use Rattle.space_ids.specs.declared.ids.ClassId.{ClassId}
use Rattle.cls_link.specs.declared.fault.LinkFault.{LinkFault}
use Rattle.cls_link.specs.declared.fault.LinkFault.TheVariants.{Broken, Memory}
use Rattle.cls_resolve.specs.declared.rule.LinkRule.{LinkRule}
use Rattle.cls_resolve.specs.declared.rule.LinkRule.TheVariants.{Code}
use Rattle.cls_link.specs.declared.stop.Stop.{Stop}
use Rattle.cls_link.specs.declared.stop.Stop.TheVariants as stop
use Rattle.cls_resolve.specs.declared.references.Asked.{Asked}
use Rattle.cls_resolve.specs.LinkRules.{order, IsFirstBroken}
use Rattle.cls_link.specs.Links.{Declared, declared_methods, IsSoundAt}
use Rattle.cls_resolve.specs.References.{asked_of}

-- ---- what is demanded of code

-- code of a method of a class has a listing, of which no instruction breaks a rule on what it names
pub record IsSoundCode (classes : List Class) (class : ClassId) (method : Method) (bytes : List ℕ) : Type 0 where
  pub listing : Listing
  pub read : IsListing bytes listing
  pub sound : All (IsSoundAt classes class method) listing

-- a method has such code, or none
abbrev pub IsSoundMethod : List Class → Declared → Type 0
IsSoundMethod classes d = IfSome d.method.code (λ code. IsSoundCode classes d.class d.method code.bytes)

-- no method of the classes breaks a rule
abbrev pub AreSound : List Class → Type 0
AreSound classes = All (IsSoundMethod classes) (declared_methods classes)

-- ---- faults

-- the rule that an instruction of a method of a class breaks first on what it names, if any
abbrev pub ComesTo : List Class → ClassId → Method → Insn → Option LinkRule → Type 0
ComesTo classes class method insn answer =
    MatchOption (asked_of insn) (answer ≡ None) (λ a. IsFirstBroken classes (record { class = class; method = method; asked = a.0; index = a.1 }) order answer)

-- the instruction at an offset of a listing breaks the rule, and those before it break none
pub record IsFirstUnsound (classes : List Class) (class : ClassId) (method : Method) (listing : Listing) (rule : LinkRule) (at : ℕ) : Type 0 where
  pub before : Listing
  pub insn : Insn
  pub after : Listing
  pub whole : listing ≡ before ++ (at, insn) ∷ after
  pub sound : All (IsSoundAt classes class method) before
  pub asked : Asked
  pub index : ℕ
  pub asks : asked_of insn ≡ Some (asked, index)
  pub broken : IsFirstBroken classes (record { class = class; method = method; asked = asked; index = index }) order (Some rule)

-- the rule that code of a method of a class breaks first, and the offset of the instruction that breaks it
pub data IsCodeFault (classes : List Class) (class : ClassId) (method : Method) (bytes : List ℕ) : LinkRule → ℕ → Type 0 where
  -- the code has no listing
  unlisted : (rule : CodeRule) (at : ℕ) → IsBroken bytes rule at → ((listing : Listing) → ¬ IsListing bytes listing) → IsCodeFault classes class method bytes (Code rule) at
  -- it has one, and an instruction breaks a rule on what it names
  unsound : (rule : LinkRule) (at : ℕ) (listing : Listing) → IsListing bytes listing → IsFirstUnsound classes class method listing rule at
      → IsCodeFault classes class method bytes rule at

-- what is wrong with a method, unless memory ran out
abbrev pub IsMethodFault : List Class → Declared → LinkFault → Type 0
IsMethodFault classes d Memory = Unit {0}
IsMethodFault classes d (Broken rule class method descriptor at) =
    (class ≡ d.class_name) × (method ≡ d.method.name) × (descriptor ≡ d.method.descriptor)
    × IsSomeAnd d.method.code (λ code. IsCodeFault classes d.class d.method code.bytes rule at)

-- the fault is that of one of the methods, and those before it break no rule
pub record IsFirstFault (classes : List Class) (ds : List Declared) (fault : LinkFault) : Type 0 where
  pub before : List Declared
  pub faulty : Declared
  pub after : List Declared
  pub whole : ds ≡ before ++ faulty ∷ after
  pub sound : All (IsSoundMethod classes) before
  pub wrong : IsMethodFault classes faulty fault

-- the fault of these methods, unless memory ran out
abbrev pub IsFaultOf : List Class → List Declared → LinkFault → Type 0
IsFaultOf classes ds Memory = Unit {0}
IsFaultOf classes ds (Broken rule class method descriptor at) = IsFirstFault classes ds (Broken rule class method descriptor at)

-- the fault of classes that are not linked, unless memory ran out
abbrev pub IsLinkFault : List Class → LinkFault → Type 0
IsLinkFault classes fault = IsFaultOf classes (declared_methods classes) fault

-- why an instruction of a method of a class at an offset is not linked, unless memory ran out
abbrev pub IsInsnStop : List Class → ClassId → Method → ℕ → Insn → Stop → Type 0
IsInsnStop classes class method at insn stop.Memory = Unit {0}
IsInsnStop classes class method at insn (stop.Broken rule index) = (index ≡ at) × ComesTo classes class method insn (Some rule)

-- why a listing of a method of a class is not linked, unless memory ran out
abbrev pub IsListingStop : List Class → ClassId → Method → Listing → Stop → Type 0
IsListingStop classes class method listing stop.Memory = Unit {0}
IsListingStop classes class method listing (stop.Broken rule at) = IsFirstUnsound classes class method listing rule at

-- ---- the fault that is answered

-- why code is not linked that has no listing
abbrev pub stop_of : CodeFault → Stop
stop_of code.Memory = stop.Memory
stop_of (code.Broken rule at) = stop.Broken (Code rule) at

-- why code is not linked, unless memory ran out
abbrev pub IsCodeStop : List Class → ClassId → Method → List ℕ → Stop → Type 0
IsCodeStop classes class method bytes stop.Memory = Unit {0}
IsCodeStop classes class method bytes (stop.Broken rule at) = IsCodeFault classes class method bytes rule at

-- the fault of code, with the names of its class and method
abbrev pub IsNamedFault : Stop → List ℕ → Method → LinkFault → Type 0
IsNamedFault stop.Memory class m fault = fault ≡ Memory
IsNamedFault (stop.Broken rule at) class m fault = fault ≡ Broken rule class m.name m.descriptor at
