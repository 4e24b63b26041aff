-- The rules one after the other.
use Rattle.std.proofs.Common.{◌≡◌, ℕ, suc, ◌<◌, ◌≤◌, inl, inr, List, nat_eq, refl, sym, subst, ap, ◌∙◌, arith}
use Rattle.std.specs.Prelude.{cond}
use Rattle.cf_reader.specs.declared.class_file.ClassFile.{ClassFile}
use Rattle.cls_order.specs.declared.fault.SetFault.{SetFault}
use Rattle.cls_order.specs.declared.fault.SetFault.TheVariants.{Broken, Memory}
use Rattle.cls_order.specs.declared.fault.SetRule.{SetRule}
use Rattle.cls_order.specs.declared.fault.SetRule.TheVariants.{Duplicate, AbsentClass, Cycle, BadSuper, FinalSuper, RemoteField, RemoteMethod, Override, TooMany}
use Rattle.cls_order.specs.FaultNames.{set_rule_number}
use Rattle.cls_set.specs.Faults.{IsKept, IsSetFault, MakeASet}
use Rattle.cls_order.proofs.Walks.{before}

-- the rules with a number below this one are kept
abbrev pub AreKeptBelow : List ClassFile → ℕ → Type 0
AreKeptBelow files n = (other : SetRule) → set_rule_number other < n → IsKept files other

abbrev rule_at : ℕ → SetRule
rule_at n =
    cond (nat_eq n 30) Duplicate
    (cond (nat_eq n 31) AbsentClass
    (cond (nat_eq n 32) Cycle
    (cond (nat_eq n 33) BadSuper
    (cond (nat_eq n 34) FinalSuper
    (cond (nat_eq n 35) RemoteField
    (cond (nat_eq n 36) RemoteMethod
    (cond (nat_eq n 37) Override TooMany)))))))

rule_of_number : (r : SetRule) → rule_at (set_rule_number r) ≡ r
rule_of_number Duplicate = refl
rule_of_number TooMany = refl
rule_of_number AbsentClass = refl
rule_of_number Cycle = refl
rule_of_number BadSuper = refl
rule_of_number FinalSuper = refl
rule_of_number RemoteField = refl
rule_of_number RemoteMethod = refl
rule_of_number Override = refl

same_rule : (a b : SetRule) → set_rule_number a ≡ set_rule_number b → a ≡ b
same_rule a b e = sym (rule_of_number a) ∙ (ap rule_at e ∙ rule_of_number b)

pub kept_next : (files : List ClassFile) (rule : SetRule) (n : ℕ) → set_rule_number rule ≡ n → AreKeptBelow files n → IsKept files rule → AreKeptBelow files (suc n)
kept_next files rule n is old here other l =
    elim (before (set_rule_number other) n) [
      | inl low ↦ old other low
      | inr high ↦ let same : set_rule_number rule ≡ set_rule_number other = omega (arith, is, l, high) in subst (IsKept files) (same_rule rule other same) here
    ]

pub lowest : (rule : SetRule) → 30 ≤ set_rule_number rule
lowest Duplicate = omega arith
lowest AbsentClass = omega arith
lowest Cycle = omega arith
lowest BadSuper = omega arith
lowest FinalSuper = omega arith
lowest RemoteField = omega arith
lowest RemoteMethod = omega arith
lowest Override = omega arith
lowest TooMany = omega arith

-- files that make a set have no fault
pub only_memory : (files : List ClassFile) → MakeASet files → (fault : SetFault) → IsSetFault files fault → fault ≡ Memory
only_memory files make Memory h = refl
only_memory files make (Broken Duplicate name) h = absurd (make Duplicate name h.0.twice)
only_memory files make (Broken TooMany name) h = let few = make TooMany in let many = h.0.many in absurd (omega (arith, few, many))
only_memory files make (Broken AbsentClass name) h = absurd (make AbsentClass h.0.class h.0.stands h.0.absent)
only_memory files make (Broken Cycle name) h = absurd (make Cycle name h.0.cycle)
only_memory files make (Broken BadSuper name) h = absurd (make BadSuper h.0.class h.0.stands h.0.broken)
only_memory files make (Broken FinalSuper name) h = absurd (make FinalSuper h.0.class h.0.stands h.0.broken)
only_memory files make (Broken RemoteField name) h = absurd (make RemoteField h.0.class h.0.stands h.0.broken)
only_memory files make (Broken RemoteMethod name) h = absurd (make RemoteMethod h.0.class h.0.stands h.0.broken)
only_memory files make (Broken Override name) h = absurd (make Override h.0.class h.0.stands h.0.broken)
