-- A class is read exactly if the bytes spell it, in profile, and a refusal names a rule that fails.
use Rattle.std.proofs.Common.{◌≡◌, ℕ, Bool, true, false, cond, List, [], ◌∷◌, Result, Ok, Err, ◌⊎◌, refl, sym, ap, ◌∙◌, subst, inl, inr}
use Rattle.std.specs.Prelude.{IfOk, IfErr}
use Rattle.cf_text.specs.declared.fault.Rule.{Rule}
use Rattle.cf_text.specs.declared.fault.ReadFault.{ReadFault}
use Rattle.cf_text.specs.declared.fault.ReadFault.TheVariants.{Broken, Memory}
use Rattle.cf_text.specs.Reading.{Gives}
use Rattle.cf_text.specs.Reading.{◌>>=◌ as ◌then◌}
use Rattle.cf_text.specs.Demands.{Demand, verdict}
use Rattle.cf_text.specs.Formats.{Reads}
use Rattle.cf_text.proofs.FormatLaws.{one_stands}
use Rattle.cf_reader.specs.declared.class_file.ClassFile.{ClassFile}
use Rattle.cf_layout.specs.declared.items.Layout.{Layout}
use Rattle.cf_reader.specs.Builds.{class_from, reading_of}
use Rattle.cf_reader.specs.Checks.{demands}
use Rattle.cf_layout.specs.Layouts.{file_at, layout_of}
use Rattle.cf_layout.specs.FileFormat.{LaysOut, file_format}
use Rattle.cf_reader.specs.Spells.{AreDemands, AreInProfile, AreSound, Breaks, IsAtFault, IsInProfile, Spells, WayToFail, is_profile}
use Rattle.cf_reader.specs.Spells.WayToFail.{no_layout, no_demand}
use Rattle.cf_layout.specs.CodeFormat.{Insides}
use Rattle.cf_layout.specs.ReadInsides.{insides_of}
use Rattle.cf_reader.specs.Says.{SaysClass}
use Rattle.cf_layout.proofs.CodeLaws.{insides_read, one_inside}
use Rattle.cf_layout.proofs.FileLaws.{file_reads}
use Rattle.cf_reader.proofs.SaysLaws.{AllHold, all_hold, class_again, class_says}

-- ---- verdicts

abbrev made : ClassFile → Result ClassFile ReadFault
made class = Ok class

abbrev ok : Result (Unit {0}) ReadFault
ok = Ok tt

judged_ok : (holds : Bool) (d : Demand) (rest : Result (Unit {0}) ReadFault) → cond holds rest (Err (Broken d.rule d.at)) ≡ ok → (holds ≡ true) × (rest ≡ ok)
judged_ok true d rest e = (refl, e)
judged_ok false d rest e = absurd cc

pub verdict-sound : (ds : List Demand) → verdict ds ≡ ok → AreSound ds
unfolding verdict
verdict-sound [] e = tt
verdict-sound (d ∷ ds) e = let h = judged_ok d.holds d (verdict ds) e in (λ _. h.0, verdict-sound ds h.1)

pub verdict-in_profile : (ds : List Demand) → verdict ds ≡ ok → AreInProfile ds
unfolding verdict
verdict-in_profile [] e = tt
verdict-in_profile (d ∷ ds) e = let h = judged_ok d.holds d (verdict ds) e in (λ _. h.0, verdict-in_profile ds h.1)

holds_either : (profile holds : Bool) → (profile ≡ false → holds ≡ true) → (profile ≡ true → holds ≡ true) → holds ≡ true
holds_either true holds sound in_profile = in_profile refl
holds_either false holds sound in_profile = sound refl

pub verdict-ok : (ds : List Demand) → AreSound ds → AreInProfile ds → verdict ds ≡ ok
unfolding verdict
verdict-ok [] sound in_profile = refl
verdict-ok (d ∷ ds) sound in_profile =
    let here : d.holds ≡ true = holds_either (is_profile d.rule) d.holds sound.0 in_profile.0 in
    rw here (verdict-ok ds sound.1 in_profile.1)

judged_err : (holds : Bool) (d : Demand) (rest : Result (Unit {0}) ReadFault) (rule : Rule) (at : ℕ) (Later : Type 0)
    → (rest ≡ Err (Broken rule at) → Later) → cond holds rest (Err (Broken d.rule d.at)) ≡ Err (Broken rule at)
    → ((holds ≡ false) × (rule ≡ d.rule) × (at ≡ d.at)) ⊎ ((holds ≡ true) × Later)
judged_err true d rest rule at Later later e = inr (refl, later e)
judged_err false d rest rule at Later later e = inl (refl, cc, cc)

pub verdict-breaks : (ds : List Demand) (rule : Rule) (at : ℕ) → verdict ds ≡ Err (Broken rule at) → Breaks ds rule at
unfolding verdict Breaks
verdict-breaks [] rule at e = absurd cc
verdict-breaks (d ∷ ds) rule at e = judged_err d.holds d (verdict ds) rule at (Breaks ds rule at) (verdict-breaks ds rule at) e

-- ---- what is demanded

-- the demands that are judged
abbrev asked_of : List ℕ → Layout → List Demand
asked_of bytes layout = demands (insides_of bytes) layout

demanded : (bytes : List ℕ) (layout : Layout) → AreDemands bytes layout (asked_of bytes layout)
demanded bytes layout = (insides_of bytes, insides_read bytes, refl)

one_demanded : (bytes : List ℕ) (layout : Layout) (asked : List Demand) → AreDemands bytes layout asked → asked ≡ asked_of bytes layout
one_demanded bytes layout asked are = are.2 ∙ ap (λ (insides : Insides). demands insides layout) (one_inside bytes are.0 are.1)

-- of what is spelled and in profile every demand holds
pub all_asked : (bytes : List ℕ) (layout : Layout) (class : ClassFile) (spells : Spells bytes layout class) → IsInProfile bytes layout → AllHold spells.asked
all_asked bytes layout class spells in_profile =
    let same : in_profile.0 ≡ spells.asked = one_demanded bytes layout in_profile.0 in_profile.1 ∙ sym (one_demanded bytes layout spells.asked spells.demanded) in
    all_hold spells.asked (verdict-ok spells.asked spells.sound (subst AreInProfile same in_profile.2))

-- ---- the reading, from its parts

equal : (c d : ClassFile) → made c ≡ made d → c ≡ d
equal c d e = cc

-- if all demands hold, the class that is made is the one that the layout says
said : (bytes : List ℕ) (layout : Layout) (class : ClassFile) → verdict (asked_of bytes layout) ≡ ok → class_from bytes layout ≡ Ok class → SaysClass bytes layout class
said bytes layout class holds is =
    let says = class_says bytes layout holds in
    subst (SaysClass bytes layout) (equal says.0 class (sym (class_again bytes layout says.0 says.1) ∙ is)) says.1

-- what follows the layout
abbrev rest_of : List ℕ → Layout → Result ClassFile ReadFault
rest_of bytes layout = verdict (asked_of bytes layout) then (λ _. class_from bytes layout)

checked : (v : Result (Unit {0}) ReadFault) (says : Result ClassFile ReadFault) (class : ClassFile) → (v then (λ _. says)) ≡ Ok class → (v ≡ ok) × (says ≡ Ok class)
checked (Ok x) says class e = (refl, e)
checked (Err fault) says class e = absurd cc

found_by : (bytes : List ℕ) (r : Result (Layout × ℕ) ReadFault) → Reads r 0 (file_format bytes) → (class : ClassFile)
    → ((r then (λ file. Ok file.0)) then rest_of bytes) ≡ Ok class → (layout : Layout) × Spells bytes layout class × IsInProfile bytes layout
found_by bytes (Ok x) reads class e =
    let asked = asked_of bytes x.0 in
    let h = checked (verdict asked) (class_from bytes x.0) class e in (
      x.0,
      record {
        laid_out = (x.1, reads.takes x refl);
        asked = asked;
        demanded = demanded bytes x.0;
        sound = verdict-sound asked h.0;
        says = said bytes x.0 class h.0 h.1;
      },
      (asked, demanded bytes x.0, verdict-in_profile asked h.0),
    )
found_by bytes (Err fault) reads class e = absurd cc

-- a class can be made if all demands hold
never_unmade : (bytes : List ℕ) (layout : Layout) (fault : ReadFault) → verdict (asked_of bytes layout) ≡ ok → class_from bytes layout ≡ Err fault → ⊥
never_unmade bytes layout fault holds e =
    let says = class_says bytes layout holds in
    apart says.0 (sym (class_again bytes layout says.0 says.1) ∙ e)
  where
    apart : (class : ClassFile) → made class ≡ Err fault → ⊥
    apart class e = cc

-- a fault of the second pass
undemanded : (bytes : List ℕ) (layout : Layout) → LaysOut bytes layout → (v : Result (Unit {0}) ReadFault) → verdict (asked_of bytes layout) ≡ v → (rule : Rule) (at : ℕ)
    → (v then (λ _. class_from bytes layout)) ≡ Err (Broken rule at) → WayToFail bytes rule at
undemanded bytes layout laid_out (Ok x) is rule at e = absurd (never_unmade bytes layout (Broken rule at) is e)
undemanded bytes layout laid_out (Err fault) is rule at e =
    let same : fault ≡ Broken rule at = cc in
    no_demand layout (asked_of bytes layout) laid_out (demanded bytes layout) (verdict-breaks (asked_of bytes layout) rule at (is ∙ ap Err same))

failed_by : (bytes : List ℕ) (r : Result (Layout × ℕ) ReadFault) → Reads r 0 (file_format bytes) → (rule : Rule) (at : ℕ)
    → ((r then (λ file. Ok file.0)) then rest_of bytes) ≡ Err (Broken rule at) → WayToFail bytes rule at
failed_by bytes (Ok x) reads rule at e = undemanded bytes x.0 (x.1, reads.takes x refl) (verdict (asked_of bytes x.0)) refl rule at e
failed_by bytes (Err fault) reads rule at e =
    let same : fault ≡ Broken rule at = cc in
    no_layout (reads.fails (Broken rule at) (ap Err same))

reading-found : (bytes : List ℕ) (class : ClassFile) → reading_of bytes ≡ Ok class → (layout : Layout) × Spells bytes layout class × IsInProfile bytes layout
unfolding reading_of layout_of
reading-found bytes class e = found_by bytes (file_at bytes) (file_reads bytes) class e

reading-again : (bytes : List ℕ) (layout : Layout) (class : ClassFile) → Spells bytes layout class → IsInProfile bytes layout → reading_of bytes ≡ Ok class
unfolding reading_of layout_of
reading-again bytes layout class spells in_profile =
    let file : file_at bytes ≡ Ok (layout, spells.laid_out.0) = (file_reads bytes).again (layout, spells.laid_out.0) spells.laid_out.1 in
    let sound : AreSound (asked_of bytes layout) = subst AreSound (one_demanded bytes layout spells.asked spells.demanded) spells.sound in
    let in_profile_too : AreInProfile (asked_of bytes layout) = subst AreInProfile (one_demanded bytes layout in_profile.0 in_profile.1) in_profile.2 in
    let holds : verdict (asked_of bytes layout) ≡ ok = verdict-ok (asked_of bytes layout) sound in_profile_too in
    rw (file, holds, class_again bytes layout class spells.says) refl

reading-fails : (bytes : List ℕ) (rule : Rule) (at : ℕ) → reading_of bytes ≡ Err (Broken rule at) → WayToFail bytes rule at
unfolding reading_of layout_of
reading-fails bytes rule at e = failed_by bytes (file_at bytes) (file_reads bytes) rule at e

-- ---- what an answer says

pub class_found : (bytes : List ℕ) (answer : Result ClassFile ReadFault) → Gives (reading_of bytes) answer
    → IfOk answer (λ class. (layout : Layout) × Spells bytes layout class × IsInProfile bytes layout)
class_found bytes (Ok class) given = reading-found bytes class given
class_found bytes (Err fault) given = tt

pub class_only : (bytes : List ℕ) (answer : Result ClassFile ReadFault) → Gives (reading_of bytes) answer
    → (layout : Layout) (class : ClassFile) → Spells bytes layout class → IsInProfile bytes layout → Gives (Ok class) answer
class_only bytes answer given layout class spells in_profile =
    subst (λ (r : Result ClassFile ReadFault). Gives r answer) (reading-again bytes layout class spells in_profile) given

pub class_fault : (bytes : List ℕ) (answer : Result ClassFile ReadFault) → Gives (reading_of bytes) answer → IfErr answer (IsAtFault bytes)
class_fault bytes (Ok class) given = tt
class_fault bytes (Err (Broken rule at)) given = reading-fails bytes rule at given
class_fault bytes (Err Memory) given = tt

-- no bytes have two layouts, and so none spell two class files
pub one_layout : (bytes : List ℕ) (l m : Layout) → LaysOut bytes l → LaysOut bytes m → l ≡ m
one_layout bytes l m a b = ap (λ (x : Layout × ℕ). x.0) (one_stands (file_reads bytes) (l, a.0) (m, b.0) a.1 b.1)

pub one_class : (bytes : List ℕ) (l m : Layout) (c d : ClassFile) → Spells bytes l c → Spells bytes m d → c ≡ d
one_class bytes l m c d a b =
    let same : l ≡ m = one_layout bytes l m a.laid_out b.laid_out in
    equal c d (sym (class_again bytes l c a.says) ∙ ap (class_from bytes) same ∙ class_again bytes m d b.says)
