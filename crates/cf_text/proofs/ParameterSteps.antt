-- Reading parameters one after the other, as the loop does.
use Rattle.std.proofs.Common.{◌≡◌, ℕ, suc, ◌+◌, ◌-◌, ◌<◌, ◌≤◌, List, [], ◌∷◌, ◌++◌, drop, true, false, Result, Ok, Err, refl, sym, ◌∙◌, arith}
use Rattle.cf_text.specs.declared.fault.ReadFault.{ReadFault}
use Rattle.cf_text.specs.declared.fault.ReadFault.TheVariants.{Broken, Memory}
use Rattle.cf_text.specs.declared.types.FieldType.{FieldType}
use Rattle.cf_text.specs.Reading.{Fails}
use Rattle.cf_text.specs.Types.{begins_with, field_type_of, malformed, parameters_of}
use Rattle.cf_text.proofs.Loops.{with_front, with_front-push, with_front-end}

-- Of at most `most` types `done` were read; they are the front of the list.
module _ (front : List FieldType) (most done at : ℕ) (text : List ℕ) (all : Result (List FieldType × List ℕ) ReadFault)
    (so_far : with_front front (parameters_of (most - done) at text) ≡ all) where
  pub parameters-close : done < most → begins_with 41 text ≡ true → all ≡ Ok (front, drop 1 text)
  unfolding parameters_of
  parameters-close more closes =
      let left : most - done ≡ suc (most - (done + 1)) = omega arith in
      let one : with_front front (parameters_of (most - done) at text) ≡ Ok (front, drop 1 text) = rw (left, closes) (with_front-end front (drop 1 text)) in
      sym so_far ∙ one

  pub parameters-go_on : (first : FieldType) (after : List ℕ) → done < most → begins_with 41 text ≡ false → field_type_of at text ≡ Ok (first, after)
      → with_front (front ++ first ∷ []) (parameters_of (most - (done + 1)) at after) ≡ all
  unfolding parameters_of
  parameters-go_on first after more unclosed step =
      let left : most - done ≡ suc (most - (done + 1)) = omega arith in
      let one : with_front front (parameters_of (most - done) at text) ≡ with_front (front ++ first ∷ []) (parameters_of (most - (done + 1)) at after) =
      rw (left, unclosed, step) (with_front-push front first (parameters_of (most - (done + 1)) at after)) in
      sym one ∙ so_far

  pub parameters-fail : (fault : ReadFault) → done < most → begins_with 41 text ≡ false → Fails (field_type_of at text) fault → Fails all fault
  unfolding parameters_of
  parameters-fail (Broken rule position) more unclosed fails =
      let left : most - done ≡ suc (most - (done + 1)) = omega arith in
      let one : with_front front (parameters_of (most - done) at text) ≡ Err (Broken rule position) = rw (left, unclosed, fails) refl in
      sym so_far ∙ one
  parameters-fail Memory more unclosed fails = tt

  pub parameters-none : most ≤ done → all ≡ malformed at
  unfolding parameters_of
  parameters-none none =
      let left : most - done ≡ 0 = omega arith in
      let one : with_front front (parameters_of (most - done) at text) ≡ malformed at = rw left refl in
      sym so_far ∙ one
