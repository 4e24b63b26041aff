-- How the rules on members are looked for, a check for each; `LinkRules` states them. (This project's own.)
use Rattle.std.specs.Prelude.{◌≡◌, ◌≢◌, ◌⊎◌, ℕ, true, false, Option, Some, None, Result, Ok, Err, List, [], ◌∷◌, IsTrue}
use Rattle.cf_pool.specs.declared.pool.MemberKind.{MemberKind}
use Rattle.cf_pool.specs.declared.pool.MemberKind.TheVariants as kind
use Rattle.cf_reader.specs.declared.flags.TheConstants.Flags.{FINAL, INTERFACE, PRIVATE, STATIC}
use Rattle.cls_set.specs.Rules.{Has}
use Rattle.space_ids.specs.declared.ids.ClassId.{ClassId}
use Rattle.cls_resolve.specs.declared.rule.LinkRule.{LinkRule}
use Rattle.cls_resolve.specs.declared.rule.LinkRule.TheVariants as rule
use Rattle.cls_resolve.specs.declared.references.MemberOperation.{MemberOperation}
use Rattle.cls_resolve.specs.declared.references.MemberOperation.TheVariants.{InvokeSpecial, InvokeVirtual, PutField}
use Rattle.cls_resolve.specs.LinkRules.{Check}
use Rattle.cls_resolve.specs.References.{kind_taken, takes_static}
use Rattle.cls_search.specs.MethodSearches.{is_initializer}

-- an entry of this kind names a member of a class with these flags
abbrev pub FitsClass : MemberKind → ℕ → Type 0
FitsClass kind.Field flags = Unit {0}
FitsClass kind.Method flags = ¬ Has flags INTERFACE
FitsClass kind.InterfaceMethod flags = Has flags INTERFACE

-- the broken rule, if any
abbrev pub broken_of : {A : Type 0} → Result A LinkRule → Option LinkRule
broken_of (Ok x) = None
broken_of (Err rule) = Some rule

-- an instruction other than invokespecial names `<init>`
abbrev pub CallsInitializer : MemberOperation → MemberKind → List ℕ → Type 0
CallsInitializer operation k name = (k ≢ kind.Field) × IsTrue (is_initializer name) × (operation ≢ InvokeSpecial)

-- an entry of this kind and name is not what an instruction takes, for a class with these flags
abbrev pub IsWrongEntry : MemberOperation → MemberKind → List ℕ → ℕ → Type 0
IsWrongEntry operation k name flags = (k ≢ kind_taken operation) ⊎ ((¬ FitsClass k flags) ⊎ CallsInitializer operation k name)

-- a static member for one of instances, or the other way round
abbrev pub IsMismatch : MemberOperation → ℕ → Type 0
IsMismatch operation flags = ((takes_static operation ≡ true) × (¬ Has flags STATIC)) ⊎ ((takes_static operation ≡ false) × Has flags STATIC)

-- a final field is written in another class, or outside an `<init>`
abbrev pub IsFinalWrite : MemberOperation → ClassId → List ℕ → ClassId → ℕ → Type 0
IsFinalWrite operation user method owner flags = (operation ≡ PutField) × Has flags FINAL × ((user ≢ owner) ⊎ (¬ IsTrue (is_initializer method)))

-- invokevirtual of a private method
abbrev pub IsPrivateCall : MemberOperation → ℕ → Type 0
IsPrivateCall operation flags = (operation ≡ InvokeVirtual) × Has flags PRIVATE

-- the rule on a member of this kind that is not found
abbrev pub absent_rule : MemberKind → LinkRule
absent_rule kind.Field = rule.AbsentField
absent_rule kind.Method = rule.AbsentMethod
absent_rule kind.InterfaceMethod = rule.AbsentMethod

-- the checks of a member that is found
abbrev pub of_use : List Check
of_use = Check.hidden_member ∷ Check.static_mismatch ∷ Check.final_field ∷ Check.private_virtual ∷ []
