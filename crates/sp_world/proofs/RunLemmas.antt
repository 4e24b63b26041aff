-- A run of a world, one event longer.
use Rattle.std.proofs.Common.{◌≡◌, ◌∙◌, ℕ, zero, suc, ◌≤◌, List, [], ◌∷◌, ◌++◌, Some, refl, sym, ap, subst, arith, length, map, take}
use Rattle.std.specs.Prelude.{true, false, Result, Ok, Err, OnErr, OnOk, is_err, slice_get}
use Rattle.std.proofs.lemmas.Bool.{true≢false}
use Rattle.std.proofs.lemmas.List.{length-map}
use Rattle.std.proofs.lemmas.Option.{none-some, same_Some}
use Rattle.sp_rules.specs.Worlds.{World, WorldEvent as Happening, after, run}
use Rattle.sp_world.specs.Happenings.{happening_of}
use Rattle.sp_world.specs.declared.event.WorldEvent.{WorldEvent}

run-more : (w : World) (es : List Happening) (e : Happening) → run w (es ++ e ∷ []) ≡ after (run w es) e
unfolding run
run-more w [] e = refl
run-more w (x ∷ es) e = run-more (after w x) es e

take-one : (events : List WorldEvent) (n : ℕ) (e : WorldEvent) → slice_get events n ≡ Some e → take (suc n) (map happening_of events) ≡ take n (map happening_of events) ++ happening_of e ∷ []
take-one [] n e is = absurd (none-some e is)
take-one (x ∷ events) zero e is = ap (λ (y : WorldEvent). happening_of y ∷ []) (same_Some x e is)
take-one (x ∷ events) (suc n) e is = ap (λ (l : List Happening). happening_of x ∷ l) (take-one events n e is)

pub one-more : (w : World) (events : List WorldEvent) (n m : ℕ) (e : WorldEvent) → slice_get events n ≡ Some e → m ≡ suc n
    → run w (take m (map happening_of events)) ≡ after (run w (take n (map happening_of events))) (happening_of e)
one-more w events n m e is more = ap (λ (k : ℕ). run w (take k (map happening_of events))) more ∙ ap (run w) (take-one events n e is) ∙ run-more w (take n (map happening_of events)) (happening_of e)

take-whole : {A : Type 0} (xs : List A) (n : ℕ) → length xs ≤ n → take n xs ≡ xs
take-whole [] zero le = refl
take-whole [] (suc n) le = refl
take-whole (x ∷ xs) zero le = absurd (omega (arith, le))
take-whole {A} (x ∷ xs) (suc n) le = ap (λ (l : List A). x ∷ l) (take-whole xs n (omega (arith, le)))

pub all-made : (w : World) (events : List WorldEvent) (n : ℕ) → length events ≤ n → run w (take n (map happening_of events)) ≡ run w (map happening_of events)
all-made w events n le = ap (run w) (take-whole (map happening_of events) n (subst (λ (m : ℕ). m ≤ n) (sym (length-map events happening_of)) le))

pub none-made : (w : World) → run w [] ≡ w
unfolding run
none-made w = refl

pub of-ok : {T E P : Type 0} (r : Result T E) → is_err r ≡ false → OnOk r P → P
of-ok (Ok x) e p = p
of-ok (Err f) e p = absurd (true≢false e)

pub of-err : {T E P : Type 0} (r : Result T E) → is_err r ≡ true → OnErr r P → P
of-err (Ok x) e p = absurd (true≢false (sym e))
of-err (Err f) e p = p
