-- What class files give, if they break no rule, is one; and so is what texts name.
use Rattle.std.proofs.Common.{◌≡◌, ◌∙◌, inl, inr, ℕ, zero, suc, List, [], ◌∷◌, Some, None, arith, refl, subst, sym}
use Rattle.std.specs.Prelude.{Option, Ok, Err, length, slice_get}
use Rattle.std.proofs.lemmas.Option.{slice_get_within}
use Rattle.cf_reader.proofs.SpellsLaws.{one_class}
use Rattle.cf_reader.specs.declared.class_file.ClassFile.{ClassFile}
use Rattle.cf_load.specs.declared.load_fault.LoadFault.TheVariants as load
use Rattle.cf_text.specs.Reading.{Fails}
use Rattle.cf_text.specs.declared.fault.ReadFault.{ReadFault}
use Rattle.cf_text.specs.declared.fault.ReadFault.TheVariants as read
use Rattle.cls_laws.proofs.Links.{one_linking}
use Rattle.cls_laws.proofs.Sets.{one_set}
use Rattle.cls_link.specs.Links.{Links}
use Rattle.cls_link.specs.declared.linked_code.MethodId.{MethodId}
use Rattle.cls_set.proofs.Walks.{before}
use Rattle.cls_set.specs.Classes.{number_of}
use Rattle.cls_set.specs.Sets.{HasClasses, IsClassSet}
use Rattle.cls_set.specs.declared.class.Class.{Class}
use Rattle.space_ids.specs.declared.ids.ClassId.{ClassId}
use Rattle.sp_files.proofs.Named.{named_not_before, one_split}
use Rattle.sp_files.specs.Only.{IsReadOut}
use Rattle.sp_files.specs.Files.{AreSpelled, IsSpelled}
use Rattle.sp_files.specs.Names.{IsParenthesisAt, NamesMethod, NamesNoneBefore, NamesSplit, first_split, no_class, no_method}
use Rattle.sp_files.specs.Programs.{IsProgram}
use Rattle.sp_files.specs.declared.files.ClassBytes.{ClassBytes}
use Rattle.sp_files.specs.declared.files.Content.{Content}
use Rattle.sp_files.specs.declared.files.Content.TheVariants.{Bytes, Unreadable}
use Rattle.ver_check.specs.Refusals.{SettlesSet}
use Rattle.ver_rules.specs.declared.fault.CheckFault.{CheckFault}
use Rattle.ver_rules.specs.declared.fault.CheckFault.TheVariants as check

-- ---- reading

-- what is spelled is refused only if memory ran out
pub spelled_out : (class : ClassFile) (fault : ReadFault) → Fails (Ok class) fault → IsReadOut (load.Read fault)
spelled_out class read.Memory fails = refl
spelled_out class (read.Broken rule at) fails = absurd (cc)

pub one_spelled : (content : Content) (c d : ClassFile) → IsSpelled content c → IsSpelled content d → c ≡ d
one_spelled (Bytes bytes) c d a b = one_class bytes.items a.0 b.0 c d a.1 b.1
one_spelled Unreadable c d a b = absurd a

pub one_list : (files : List ClassBytes) (cs ds : List ClassFile) → AreSpelled files cs → AreSpelled files ds → cs ≡ ds
one_list [] [] [] a b = refl
one_list [] [] (d ∷ ds) a b = absurd b
one_list [] (c ∷ cs) ds a b = absurd a
one_list (f ∷ files) [] ds a b = absurd a
one_list (f ∷ files) (c ∷ cs) [] a b = absurd b
one_list (f ∷ files) (c ∷ cs) (d ∷ ds) a b =
    let first : c ≡ d = one_spelled f.content c d a.0 b.0 in
    let others : cs ≡ ds = one_list files cs ds a.1 b.1 in
    cc

-- the class file of one of the files
pub spelled_at : (files : List ClassBytes) (classes : List ClassFile) (index : ℕ) (file : ClassBytes) → slice_get files index ≡ Some file → AreSpelled files classes
    → (class : ClassFile) × IsSpelled file.content class
spelled_at [] classes index file is spelled = absurd (cc)
spelled_at (f ∷ files) [] index file is spelled = absurd spelled
spelled_at (f ∷ files) (c ∷ classes) zero file is spelled =
    let same : f ≡ file = cc in
    (c, subst (λ (g : ClassBytes). IsSpelled g.content c) same spelled.0)
spelled_at (f ∷ files) (c ∷ classes) (suc index) file is spelled = spelled_at files classes index file is spelled.1

-- ---- checks

-- a type safe set is refused only if memory ran out
pub safe_out : {X : Type 0} (So : X → Type 0) (Is : Type 0) (fault : CheckFault) → SettlesSet (Err fault) So (¬ Is) → Is → fault ≡ check.Memory
safe_out So Is check.Memory settles is = refl
safe_out So Is (check.Broken rule class method descriptor at) settles is = absurd (settles is)

-- ---- names

some_none : {X : Type 0} {x : X} → Some x ≡ None → ⊥
some_none e = cc

finds_nothing : (program : Links) (class text : List ℕ) (holder : ClassId) (index : ℕ) (method : MethodId) → number_of program.classes class ≡ Some holder
    → IsParenthesisAt text index → NamesSplit program.classes holder text index (Some method) → (other : ClassId) → number_of program.classes class ≡ Some other
    → NamesNoneBefore program.classes other text (length text) → ⊥
finds_nothing program class text holder index method at opens split other also nothing =
    let holders : Some other ≡ Some holder = sym also ∙ at in
    let same : other ≡ holder = cc in
    let none = subst (λ (h : ClassId). NamesNoneBefore program.classes h text (length text)) same nothing in
    named_not_before program.classes holder text (length text) index method none (slice_get_within text index 40 opens) opens split

one_first : (classes : List Class) (class : ClassId) (text : List ℕ) (i j : ℕ) (m n : MethodId) → IsParenthesisAt text i → NamesSplit classes class text i (Some m)
    → NamesNoneBefore classes class text i → IsParenthesisAt text j → NamesSplit classes class text j (Some n) → NamesNoneBefore classes class text j → Some m ≡ Some n
one_first classes class text i j m n opens split none opens2 split2 none2 =
    elim (before i j) [
      | inl less ↦ absurd (named_not_before classes class text j i m none2 less opens split)
      | inr least ↦
          elim (before j i) [
            | inl less ↦ absurd (named_not_before classes class text i j n none less opens2 split2)
            | inr most ↦
                let same : i ≡ j = omega (arith, least, most) in
                one_split classes class text j (Some m) (Some n) (subst (λ (k : ℕ). NamesSplit classes class text k (Some m)) same split) split2
          ]
    ]

-- a text names one method
pub one_named : (program : Links) (class text : List ℕ) (a b : Option MethodId) → NamesMethod program class text a → NamesMethod program class text b → a ≡ b
one_named program class text a b (no_class none) (no_class too) = refl
one_named program class text a b (no_class none) (no_method holder at nothing) = refl
one_named program class text a b (no_class none) (first_split holder index method at opens split first) = absurd (some_none (sym at ∙ none))
one_named program class text a b (no_method holder at nothing) (no_class none) = refl
one_named program class text a b (no_method holder at nothing) (no_method holder2 at2 nothing2) = refl
one_named program class text a b (no_method holder at nothing) (first_split holder2 index method at2 opens split first) =
    absurd (finds_nothing program class text holder2 index method at2 opens split holder at nothing)
one_named program class text a b (first_split holder index method at opens split first) (no_class none) = absurd (some_none (sym at ∙ none))
one_named program class text a b (first_split holder index method at opens split first) (no_method holder2 at2 nothing) =
    absurd (finds_nothing program class text holder index method at opens split holder2 at2 nothing)
one_named program class text a b (first_split holder index method at opens split first) (first_split holder2 index2 method2 at2 opens2 split2 first2) =
    let holders : Some holder ≡ Some holder2 = sym at ∙ at2 in
    let same : holder ≡ holder2 = cc in
    let here = subst (λ (h : ClassId). NamesSplit program.classes h text index (Some method)) same split in
    let none = subst (λ (h : ClassId). NamesNoneBefore program.classes h text index) same first in
    one_first program.classes holder2 text index index2 method method2 opens here none opens2 split2 first2

-- ---- programs

-- the files make one program
pub one_program : (files : List ClassBytes) (p q : Links) → IsProgram files p → IsProgram files q → p ≡ q
one_program files p q a b =
    let same : a.classes ≡ b.classes = one_list files a.classes b.classes a.spelled b.spelled in
    let has = subst (λ (cs : List ClassFile). HasClasses cs p.classes) same a.set in
    one_linking p q a.linked b.linked (one_set b.classes p.classes q.classes has b.set a.linked.set b.linked.set)

-- class sets of the files are that of their program
pub same_set : (files : List ClassBytes) (read : List ClassFile) (set : List Class) (program : Links) → AreSpelled files read → HasClasses read set → IsClassSet set
    → IsProgram files program → set ≡ program.classes
same_set files read set program spelled has whole is =
    let same : read ≡ is.classes = one_list files read is.classes spelled is.spelled in
    one_set is.classes set program.classes (subst (λ (cs : List ClassFile). HasClasses cs set) same has) is.set whole is.linked.set
