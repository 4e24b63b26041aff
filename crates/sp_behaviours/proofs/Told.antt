-- What is told of the classes of a linked set.
use Rattle.std.proofs.Common.{◌≡◌, ℕ, Some, List, sym, ap, ◌∙◌}
use Rattle.std.specs.Prelude.{unwrap_or}
use Rattle.cls_set.specs.Classes.{number_of}
use Rattle.cls_set.specs.declared.class.Class.{Class}
use Rattle.space_ids.specs.declared.ids.ClassId.{ClassId}
use Rattle.sp_rules.specs.Classes.{Classes}
use Rattle.sp_behaviours.specs.Classes.{class_named}

-- what is so of the rules' classes is so of those that equal them
pub told : {A : Type 0} (part : Classes → A) (c d : Classes) (x : A) → x ≡ part d → c ≡ d → x ≡ part c
told part c d x is same = is ∙ sym (ap part same)

pub named_is : (classes : List Class) (name : List ℕ) (id : ClassId) → number_of classes name ≡ Some id → id ≡ class_named classes name
named_is classes name id is = sym (ap (λ o. unwrap_or o (record { 0 = 0 })) is)
