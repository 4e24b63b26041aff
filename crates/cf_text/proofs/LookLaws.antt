-- Readings of looks, put together.
use Rattle.std.proofs.Common.{◌≡◌, ◌+◌, ℕ, Bool, true, false, cond, leb, List, [], ◌∷◌, length, Result, Ok, Err, refl, sym, ap, ◌∙◌, inl, inr, arith}
use Rattle.std.proofs.lemmas.Bool.{false≢true, leb-true, leb-false}
use Rattle.cf_text.specs.declared.fault.Rule.{Rule}
use Rattle.cf_text.specs.declared.fault.Rule.TheVariants.{Truncated}
use Rattle.cf_text.specs.declared.fault.ReadFault.{ReadFault}
use Rattle.cf_text.specs.declared.fault.ReadFault.TheVariants.{Broken, Memory}
use Rattle.cf_text.specs.Reading.{◌>>=◌ as ◌then◌}
use Rattle.cf_text.specs.Numbers.{skip_at}
use Rattle.cf_text.specs.Demands.{verdict}
use Rattle.cf_text.specs.Formats.{Format, Reads}
use Rattle.cf_text.specs.Looks.{Look, Tells, Finds, standing, passing, known, ◌>>=◌, keeping, choosing}
use Rattle.cf_text.proofs.FormatLaws.{broken_is}

-- an answer that is no fault
abbrev answered : {A : Type 0} → A → Result A ReadFault
answered x = Ok x

pub standing_tells : {A : Type 0} {reading : Result (A × ℕ) ReadFault} {from : ℕ} {format : Format A} → Reads reading from format → Tells reading (standing format from)
standing_tells reads = record {
  takes = reads.takes;
  again = reads.again;
  fails = λ rule at e. reads.fails (Broken rule at) e;
  refuses = reads.refuses;
  ample = reads.ample;
}

pub known_tells : {A : Type 0} (a : A) → Tells (answered a) (known a)
known_tells {A} a = record {
  takes = λ x e. taken x e;
  again = λ x h. ap Ok (sym h);
  fails = λ rule at e. absurd cc;
  refuses = λ rule at h. absurd h;
  ample = λ e. cc;
}
  where
    taken : (x : A) → answered a ≡ answered x → x ≡ a
    taken x e = cc

passing_tells_by : (n : ℕ) (bytes : List ℕ) (from : ℕ) (b : Bool) → leb (from + n) (length bytes) ≡ b → Tells (cond b (answered (from + n)) (Err (Broken Truncated from))) (passing n bytes from)
passing_tells_by n bytes from true test = record {
  takes = λ to e. record { end = ended to e; inside = omega (arith, leb-true _ _ test, ended to e) };
  again = λ to h. ap Ok (sym h.end);
  fails = λ rule at e. absurd cc;
  refuses = λ rule at h. absurd (omega (arith, leb-true _ _ test, h.short));
  ample = λ e. cc;
}
  where
    ended : (to : ℕ) → answered (from + n) ≡ answered to → to ≡ from + n
    ended to e = cc
passing_tells_by n bytes from false test = record {
  takes = λ to e. absurd cc;
  again = λ to h. absurd (omega (arith, leb-false _ _ test, h.end, h.inside));
  fails = λ rule at e. record { short = leb-false _ _ test; rule_is = cc; at_is = cc };
  refuses = λ rule at h. ap Err (broken_is (sym h.rule_is) (sym h.at_is));
  ample = λ e. cc;
}

pub passing_tells : (n : ℕ) (bytes : List ℕ) (from : ℕ) → Tells (skip_at n bytes from) (passing n bytes from)
passing_tells n bytes from = passing_tells_by n bytes from (leb (from + n) (length bytes)) refl

module _ {A B : Type 0} (one : Look A) (next : A → Result B ReadFault) (other : A → Look B) (second : (x : A) → Tells (next x) (other x)) where
  then_taken : (r : Result A ReadFault) → Tells r one → (y : B) → (r then next) ≡ Ok y → (one >>= other).Is y
  then_taken (Ok x) first y e = (x, first.takes x refl, (second x).takes y e)
  then_taken (Err fault) first y e = absurd cc

  then_failed : (r : Result A ReadFault) → Tells r one → (rule : Rule) (at : ℕ) → (r then next) ≡ Err (Broken rule at) → (one >>= other).Fails rule at
  then_failed (Ok x) first rule at e = inr (x, first.takes x refl, (second x).fails rule at e)
  then_failed (Err failed) first rule at e =
      let same : failed ≡ Broken rule at = cc in
      inl (first.fails rule at (ap Err same))

  then_refused : (r : Result A ReadFault) → Tells r one → (rule : Rule) (at : ℕ) → (one >>= other).Fails rule at → (r then next) ≡ Err (Broken rule at)
  then_refused r first rule at h =
      elim h [
        | inl failed ↦ ap (λ (q : Result A ReadFault). q then next) (first.refuses rule at failed)
        | inr later ↦ ap (λ (q : Result A ReadFault). q then next) (first.again later.0 later.1) ∙ (second later.0).refuses rule at later.2
      ]

  then_ample : (r : Result A ReadFault) → Tells r one → (r then next) ≡ Err Memory → ⊥
  then_ample (Ok x) first e = (second x).ample e
  then_ample (Err (Broken rule at)) first e = cc
  then_ample (Err Memory) first e = first.ample refl

pub then_tells : {A B : Type 0} {reading : Result A ReadFault} {one : Look A} {next : A → Result B ReadFault} {other : A → Look B}
    → Tells reading one → ((x : A) → Tells (next x) (other x)) → Tells (reading then next) (one >>= other)
then_tells {A} {B} {reading} {one} {next} {other} first second = record {
  takes = λ y e. then_taken one next other second reading first y e;
  again = λ y h. ap (λ (r : Result A ReadFault). r then next) (first.again h.0 h.1) ∙ (second h.0).again y h.2;
  fails = λ rule at e. then_failed one next other second reading first rule at e;
  refuses = λ rule at h. then_refused one next other second reading first rule at h;
  ample = λ e. then_ample one next other second reading first e;
}

-- a reading that is equal to one of a look
pub tells_along : {A : Type 0} {reading other : Result A ReadFault} {look : Look A} → other ≡ reading → Tells reading look → Tells other look
tells_along same tells = record {
  takes = λ x e. tells.takes x (sym same ∙ e);
  again = λ x h. same ∙ tells.again x h;
  fails = λ rule at e. tells.fails rule at (sym same ∙ e);
  refuses = λ rule at h. same ∙ tells.refuses rule at h;
  ample = λ e. tells.ample (sym same ∙ e);
}

pub keeping_tells : (holds : Bool) (rule : Rule) (at : ℕ) → Tells (verdict (record { at = at; rule = rule; holds = holds } ∷ [])) (keeping holds rule at)
unfolding verdict
keeping_tells true rule at = record {
  takes = λ x e. refl;
  again = λ x h. refl;
  fails = λ r a e. absurd cc;
  refuses = λ r a h. absurd (false≢true (sym h.0));
  ample = λ e. cc;
}
keeping_tells false rule at = record {
  takes = λ x e. absurd cc;
  again = λ x h. absurd (false≢true h);
  fails = λ r a e. (refl, cc, cc);
  refuses = λ r a h. ap Err (broken_is (sym h.1) (sym h.2));
  ample = λ e. cc;
}

pub choosing_tells : {A : Type 0} (test : Bool) {reading other : Result A ReadFault} {one two : Look A} → Tells reading one → Tells other two
    → Tells (cond test reading other) (choosing test one two)
choosing_tells true first second = record {
  takes = λ x e. inl (refl, first.takes x e);
  again = λ x h. elim h [ inl here ↦ first.again x here.1 | inr there ↦ absurd (false≢true (sym there.0)) ];
  fails = λ rule at e. inl (refl, first.fails rule at e);
  refuses = λ rule at h. elim h [ inl here ↦ first.refuses rule at here.1 | inr there ↦ absurd (false≢true (sym there.0)) ];
  ample = first.ample;
}
choosing_tells false first second = record {
  takes = λ x e. inr (refl, second.takes x e);
  again = λ x h. elim h [ inl here ↦ absurd (false≢true here.0) | inr there ↦ second.again x there.1 ];
  fails = λ rule at e. inr (refl, second.fails rule at e);
  refuses = λ rule at h. elim h [ inl here ↦ absurd (false≢true here.0) | inr there ↦ second.refuses rule at there.1 ];
  ample = second.ample;
}

-- ---- outcomes

-- what a reading gives is what is found
pub found_by : {A : Type 0} (reading : Result A ReadFault) (look : Look A) → Tells reading look → Finds look reading
found_by (Ok x) look tells = tells.takes x refl
found_by (Err (Broken rule at)) look tells = tells.fails rule at refl
found_by (Err Memory) look tells = tells.ample refl

-- and no other outcome is
pub only_found : {A : Type 0} (reading outcome : Result A ReadFault) (look : Look A) → Tells reading look → Finds look outcome → outcome ≡ reading
only_found reading (Ok x) look tells finds = sym (tells.again x finds)
only_found reading (Err (Broken rule at)) look tells finds = sym (tells.refuses rule at finds)
only_found reading (Err Memory) look tells finds = absurd finds
