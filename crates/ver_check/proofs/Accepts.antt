-- From each method to all of them.
use Rattle.std.proofs.Common.{◌≡◌, ℕ, ◌<◌, Option, Some, None, Result, Ok, Err, List, length, refl, sym, ap, subst}
use Rattle.std.specs.Prelude.{slice_get, option_and_then, IfErr, IfSome, IsSomeAnd}
use Rattle.std.proofs.lemmas.Option.{option_and_then_some}
use Rattle.cls_link.specs.Links.{Links}
use Rattle.cls_link.specs.declared.linked_code.LinkedCode.{LinkedCode}
use Rattle.cls_link.specs.declared.linked_code.LinkedMethod.{LinkedMethod}
use Rattle.cls_set.specs.declared.class.Class.{Class}
use Rattle.ver_check.specs.Acceptance.{IsSafeAt, subject_of}
use Rattle.ver_check.specs.Faults.{IsCheckFault, IsMethodFault, IsNamed}
use Rattle.ver_check.specs.Listed.{IsListed}
use Rattle.ver_check.specs.Refusals.{IsFaultAt, IsFaultIn, IsFaultOf}
use Rattle.ver_rules.specs.declared.fault.CheckFault.{CheckFault}
use Rattle.ver_rules.specs.declared.fault.CheckFault.TheVariants as fault
use Rattle.ver_frames.specs.Method.{Subject}

some_of : (o : Option Subject) (P : Subject → Type 0) → IsSomeAnd o P → (m : Subject) × (o ≡ Some m) × P m
some_of None P h = absurd h
some_of (Some m) P h = (m, refl, h)

-- the fault of a method, before which all are type safe, is that of the class set
pub first_fault : (e : CheckFault) (links : Links) (index : ℕ) → index < length links.methods → ((k : ℕ) → k < index → IsSafeAt links k) → IsFaultAt links index e → IsCheckFault links e
first_fault (fault.Broken rule class method descriptor at) links index inside before wrong =
    let found = some_of (option_and_then (subject_of links.classes) (slice_get links.methods index)) (λ m. IsNamed m class method descriptor × IsMethodFault m rule at) wrong in
    record {
      index = index;
      inside = inside;
      before = before;
      subject = found.0;
      stands = found.1;
      named = found.2.0;
      wrong = found.2.1;
    }
first_fault fault.Memory links index inside before wrong = tt

of_subject : (e : CheckFault) (o : Option Subject) → IsSomeAnd o (λ m. IsFaultOf m e) → IsFaultIn o e
of_subject (fault.Broken rule class method descriptor at) o wrong = wrong
of_subject fault.Memory o wrong = tt

-- the fault of a method is that of the method with its number
pub fault_at : (links : Links) (index : ℕ) (m : LinkedMethod) (r : Result (Unit {0}) CheckFault) → slice_get links.methods index ≡ Some m
    → IfErr r (λ e. IsSomeAnd (subject_of links.classes m) (λ s. IsFaultOf s e)) → IfErr r (IsFaultAt links index)
fault_at links index m (Ok x) at wrong = tt
fault_at links index m (Err e) at wrong =
    subst (λ (o : Option LinkedMethod). IsFaultIn (option_and_then (subject_of links.classes) o) e) (sym at) (of_subject e (subject_of links.classes m) wrong)

listed_of : (c : Option LinkedCode) (code : LinkedCode) → c ≡ Some code → IfSome c IsListed → IsListed code
listed_of None code is listed = absurd (cc)
listed_of (Some other) code is listed =
    let same : other ≡ code = cc in
    subst (λ (x : LinkedCode). IsListed x) same listed

linked_of : (s t : Subject) → ◌≡◌ {A = Option Subject} (Some s) (Some t) → s.linked ≡ t.linked
linked_of s t e = let same : s ≡ t = cc in ap (λ (x : Subject). x.linked) same

-- the code of a method as checking sees it is listed
pub subject_listed : (classes : List Class) (m : LinkedMethod) (s : Subject) → subject_of classes m ≡ Some s → IfSome m.code IsListed → IsListed s.linked
unfolding subject_of
subject_listed classes m s e listed =
    option_and_then_some _ m.code s e (λ linked is in_class.
    option_and_then_some _ (slice_get classes m.class.0) s in_class (λ class class_is in_methods.
    option_and_then_some _ (slice_get class.file.methods m.index) s in_methods (λ method method_is in_code.
    option_and_then_some _ method.code s in_code (λ code code_is found.
    subst (λ (x : LinkedCode). IsListed x)
    (linked_of (record { classes = classes; class_id = m.class; class = class; method = method; code = code; linked = linked }) s found)
    (listed_of m.code linked is listed)))))
