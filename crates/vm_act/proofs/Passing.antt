-- The arguments of a remote call, one after the other.
use Rattle.std.proofs.Common.{◌≡◌, ℕ, zero, suc, ◌+◌, ◌-◌, ◌<◌, ◌≤◌, Bool, true, false, List, [], ◌∷◌, ◌++◌, length, map, drop, reverse, get_or, refl, ap, sym, subst, ◌∙◌, add-one, arith, Option, Some, None, le-leb}
use Rattle.std.specs.Prelude.{nat_le, IsSome, option_map, option_and_then, slice_get}
use Rattle.std.proofs.lemmas.Bool.{leb-false, lt-leb}
use Rattle.std.proofs.lemmas.List.{get_or-map, get_or-reverse, length-map, length-reverse}
use Rattle.std.proofs.lemmas.Option.{slice_get-get_or}
use Rattle.space_ids.specs.declared.value.Value.{Value}
use Rattle.vm_heap.specs.Tagged.{Tagged}
use Rattle.vm_heap.specs.Heap.{Cell}
use Rattle.vm_heap.specs.References.{Table}
use Rattle.vm_act.specs.declared.crossing.Parameter.{Parameter}
use Rattle.vm_act.specs.Crossing.{AllCross, Crosses, call_bytes, crosses, most_bytes, value_as, value_bytes, values_bytes, values_of, with_last, with_last_of}

-- what a parameter takes, counted from the last on
pub taken_at : {A B : Type 0} (f : A → B) (xs : List A) (index depth : ℕ) (d : A) → index < length xs → depth ≡ length xs - 1 - index
    → slice_get (reverse (map f xs)) depth ≡ Some (f (get_or xs index d))
taken_at f xs index depth d within is =
    let size : length (map f xs) ≡ length xs = length-map xs f in
    let inside : depth < length (reverse (map f xs)) = omega (arith, length-reverse (map f xs)) in
    let back : length (map f xs) - 1 - depth ≡ index = omega arith in
    slice_get-get_or (reverse (map f xs)) depth (f d) inside
    ∙ ap (λ (b : _). Some b) (get_or-reverse (map f xs) depth (f d) (omega arith) ∙ (ap (λ (k : ℕ). get_or (map f xs) k (f d)) back ∙ get_or-map f xs index d (f d) within))

bytes_last : (values : List Value) (last : Value) → values_bytes (values ++ last ∷ []) ≡ values_bytes values + value_bytes last
unfolding values_bytes
bytes_last [] last = omega arith
bytes_last (v ∷ values) last = omega (arith, bytes_last values last)

module _ (table : Table) (cells : List Cell) where
  abbrev of : List Parameter → List Tagged → Option (Option (List Value))
  of parameters operands = values_of parameters table cells operands

  -- what is known of the first parameter and the operand on top
  record First (takes : Parameter) (parameters : List Parameter) (operands : List Tagged) : Type 0 where
    top : Tagged
    below : List Tagged
    whole : operands ≡ top ∷ below
    value : Option Value
    is : value_as takes table cells top ≡ Some value
    rest : IsSome (of parameters below)

  first_of : (takes : Parameter) (parameters : List Parameter) (operands : List Tagged) → IsSome (of (takes ∷ parameters) operands) → First takes parameters operands
  unfolding values_of
  first_of takes parameters [] some = absurd (cc)
  first_of takes parameters (v ∷ operands) some = at (value_as takes table cells v) refl (of parameters operands) refl some
    where
      at : (o : Option (Option Value)) → value_as takes table cells v ≡ o → (r : Option (Option (List Value))) → of parameters operands ≡ r → IsSome (with_last_of o r)
          → First takes parameters (v ∷ operands)
      at None is r rest some = absurd (cc)
      at (Some value) is None rest some = absurd (cc)
      at (Some value) is (Some values) rest some = record { top = v; below = operands; whole = refl; value = value; is = is; rest = rw rest refl }

  empty : (operands : List Tagged) → of [] operands ≡ Some (Some [])
  unfolding values_of
  empty operands = refl

  dropped_none : (k : ℕ) (operands : List Tagged) → of (drop k []) operands ≡ Some (Some [])
  dropped_none zero operands = empty operands
  dropped_none (suc k) operands = empty operands

  -- the arguments from a depth on are there if all are
  pub some_from : (k : ℕ) (parameters : List Parameter) (operands : List Tagged) → IsSome (of parameters operands) → IsSome (of (drop k parameters) (drop k operands))
  some_from zero parameters operands some = some
  some_from (suc k) [] operands some = subst IsSome (sym (dropped_none (suc k) (drop (suc k) operands))) refl
  some_from (suc k) (takes ∷ parameters) operands some =
      let f : First takes parameters operands = first_of takes parameters operands some in
      subst (λ (os : List Tagged). IsSome (of (drop k parameters) (drop (suc k) os))) (sym f.whole) (some_from k parameters f.below f.rest)

  one_more : (takes : Parameter) (parameters : List Parameter) (v : Tagged) (operands : List Tagged)
      → of (takes ∷ parameters) (v ∷ operands) ≡ with_last_of (value_as takes table cells v) (of parameters operands)
  unfolding values_of
  one_more takes parameters v operands = refl

  -- at a depth there is an operand, of the parameter's kind
  pub record At (k : ℕ) (takes : Parameter) (parameters : List Parameter) (operands : List Tagged) : Type 0 where
    pub value : Option Value
    pub is : option_and_then (value_as takes table cells) (slice_get operands k) ≡ Some value
    pub more : of (drop k parameters) (drop k operands) ≡ with_last_of (Some value) (of (drop (suc k) parameters) (drop (suc k) operands))

  pub at_depth : (k : ℕ) (takes : Parameter) (parameters : List Parameter) (operands : List Tagged) → IsSome (of parameters operands) → slice_get parameters k ≡ Some takes
      → At k takes parameters operands
  at_depth k takes [] operands some there = absurd (cc)
  at_depth zero takes (p ∷ parameters) operands some there =
      let same : p ≡ takes = cc in
      let f : First p parameters operands = first_of p parameters operands some in
      let is : value_as takes table cells f.top ≡ Some f.value = subst (λ (q : Parameter). value_as q table cells f.top ≡ Some f.value) same f.is in
      record {
        value = f.value;
        is = ap (λ (os : List Tagged). option_and_then (value_as takes table cells) (slice_get os 0)) f.whole ∙ is;
        more = ap (λ (os : List Tagged). of (p ∷ parameters) os) f.whole
            ∙ (one_more p parameters f.top f.below
            ∙ (ap (λ (o : Option (Option Value)). with_last_of o (of parameters f.below)) f.is
            ∙ ap (λ (os : List Tagged). with_last_of (Some f.value) (of parameters (drop 1 os))) (sym f.whole)));
      }
  at_depth (suc k) takes (p ∷ parameters) operands some there =
      let f : First p parameters operands = first_of p parameters operands some in
      let a : At k takes parameters f.below = at_depth k takes parameters f.below f.rest there in
      record {
        value = a.value;
        is = ap (λ (os : List Tagged). option_and_then (value_as takes table cells) (slice_get os (suc k))) f.whole ∙ a.is;
        more = ap (λ (os : List Tagged). of (drop k parameters) (drop (suc k) os)) f.whole
            ∙ (a.more ∙ ap (λ (os : List Tagged). with_last_of (Some a.value) (of (drop (suc k) parameters) (drop (suc (suc k)) os))) (sym f.whole));
      }

  -- ---- whether a call crosses

  more_fails : (last : Option (Option Value)) (o : Option (Option (List Value))) → IsSome (with_last_of last o) → option_map crosses o ≡ Some false
      → option_map crosses (with_last_of last o) ≡ Some false
  more_fails None o some fails = absurd (cc)
  more_fails (Some None) None some fails = absurd (cc)
  more_fails (Some None) (Some values) some fails = refl
  more_fails (Some (Some last)) None some fails = absurd (cc)
  more_fails (Some (Some last)) (Some None) some fails = refl
  more_fails (Some (Some last)) (Some (Some values)) some fails =
      let over : most_bytes < call_bytes + values_bytes values = leb-false (call_bytes + values_bytes values) most_bytes (cc) in
      ap (λ (b : Bool). Some b) (lt-leb (call_bytes + values_bytes (values ++ last ∷ [])) most_bytes (omega (arith, bytes_last values last, over)))

  none_bytes : values_bytes [] ≡ 0
  unfolding values_bytes
  none_bytes = refl

  none_crosses : option_map crosses (Some (Some [])) ≡ Some true
  unfolding values_bytes
  none_crosses = refl

  -- if it does not with the arguments from a depth on, it does not with all
  pub fails_from : (k : ℕ) (parameters : List Parameter) (operands : List Tagged) → IsSome (of parameters operands)
      → option_map crosses (of (drop k parameters) (drop k operands)) ≡ Some false → option_map crosses (of parameters operands) ≡ Some false
  fails_from zero parameters operands some fails = fails
  fails_from (suc k) [] operands some fails =
      absurd (let e : option_map crosses (of (drop (suc k) []) (drop (suc k) operands)) ≡ Some true = ap (option_map crosses) (dropped_none (suc k) (drop (suc k) operands)) ∙ none_crosses in cc)
  fails_from (suc k) (takes ∷ parameters) operands some fails =
      let f : First takes parameters operands = first_of takes parameters operands some in
      let rest : option_map crosses (of parameters f.below) ≡ Some false =
      fails_from k parameters f.below f.rest (subst (λ (os : List Tagged). option_map crosses (of (drop k parameters) (drop (suc k) os)) ≡ Some false) f.whole fails) in
      let whole : of (takes ∷ parameters) operands ≡ with_last_of (value_as takes table cells f.top) (of parameters f.below) =
      ap (λ (os : List Tagged). of (takes ∷ parameters) os) f.whole ∙ one_more takes parameters f.top f.below in
      subst (λ (o : Option (Option (List Value))). option_map crosses o ≡ Some false) (sym whole)
      (more_fails (value_as takes table cells f.top) (of parameters f.below) (subst IsSome whole some) rest)

  -- the arguments from a depth on cross, and leave so many bytes of a frame
  pub record Leaves (k : ℕ) (parameters : List Parameter) (operands : List Tagged) (left : ℕ) : Type 0 where
    pub values : List Value
    pub is : of (drop k parameters) (drop k operands) ≡ Some (Some values)
    pub size : call_bytes + values_bytes values + left ≡ most_bytes

  all_gone : (k : ℕ) (xs : List Parameter) → length xs ≤ k → drop k xs ≡ []
  all_gone zero [] h = refl
  all_gone (suc k) [] h = refl
  all_gone zero (x ∷ xs) h = absurd (omega (arith, h))
  all_gone (suc k) (x ∷ xs) h = all_gone k xs (omega (arith, h))

  -- before the first one
  pub leaves_all : (k : ℕ) (parameters : List Parameter) (operands : List Tagged) → length parameters ≤ k → Leaves k parameters operands (most_bytes - call_bytes)
  leaves_all k parameters operands h = record {
    values = [];
    is = ap (λ (ps : List Parameter). of ps (drop k operands)) (all_gone k parameters h) ∙ empty (drop k operands);
    size = omega (arith, none_bytes);
  }

  -- one more
  pub leaves_more : (k : ℕ) (takes : Parameter) (parameters : List Parameter) (operands : List Tagged) (left bytes : ℕ) → IsSome (of parameters operands)
      → slice_get parameters k ≡ Some takes → option_map (option_map value_bytes) (option_and_then (value_as takes table cells) (slice_get operands k)) ≡ Some (Some bytes)
      → bytes ≤ left → Leaves (suc k) parameters operands left → Leaves k parameters operands (left - bytes)
  leaves_more k takes parameters operands left bytes some there so enough leaves = by (at_depth k takes parameters operands some there)
    where
      by : At k takes parameters operands → Leaves k parameters operands (left - bytes)
      by a = at a.value refl (ap (option_map (option_map value_bytes)) (sym a.is) ∙ so)
        where
          at : (o : Option Value) → a.value ≡ o → option_map (option_map value_bytes) (Some a.value) ≡ Some (Some bytes) → Leaves k parameters operands (left - bytes)
          at None is size = absurd (let e : option_map (option_map value_bytes) (Some None) ≡ Some (Some bytes) = subst (λ (o : Option Value). option_map (option_map value_bytes) (Some o) ≡ Some (Some bytes)) is size in cc)
          at (Some last) is size =
              let e : option_map (option_map value_bytes) (Some (Some last)) ≡ Some (Some bytes) = subst (λ (o : Option Value). option_map (option_map value_bytes) (Some o) ≡ Some (Some bytes)) is size in
              let bytes_are : value_bytes last ≡ bytes = cc in
              record {
                values = leaves.values ++ last ∷ [];
                is = a.more ∙ (ap (λ (o : Option Value). with_last_of (Some o) (of (drop (suc k) parameters) (drop (suc k) operands))) is
                    ∙ ap (λ (o : Option (Option (List Value))). with_last_of (Some (Some last)) o) leaves.is);
                size = omega (arith, leaves.size, bytes_last leaves.values last, bytes_are, enough);
              }

  -- one that cannot cross, or for which too few bytes are left
  pub leaves_none : (k : ℕ) (takes : Parameter) (parameters : List Parameter) (operands : List Tagged) (left : ℕ) (size : Option ℕ) → IsSome (of parameters operands)
      → slice_get parameters k ≡ Some takes → option_map (option_map value_bytes) (option_and_then (value_as takes table cells) (slice_get operands k)) ≡ Some size
      → ((bytes : ℕ) → size ≡ Some bytes → left < bytes) → Leaves (suc k) parameters operands left → option_map crosses (of parameters operands) ≡ Some false
  leaves_none k takes parameters operands left size some there so over leaves = fails_from k parameters operands some (by (at_depth k takes parameters operands some there))
    where
      by : At k takes parameters operands → option_map crosses (of (drop k parameters) (drop k operands)) ≡ Some false
      by a = at a.value refl (ap (option_map (option_map value_bytes)) (sym a.is) ∙ so)
        where
          at : (o : Option Value) → a.value ≡ o → option_map (option_map value_bytes) (Some a.value) ≡ Some size → option_map crosses (of (drop k parameters) (drop k operands)) ≡ Some false
          at None is e = ap (option_map crosses) (a.more ∙ (ap (λ (o : Option Value). with_last_of (Some o) (of (drop (suc k) parameters) (drop (suc k) operands))) is
              ∙ ap (λ (o : Option (Option (List Value))). with_last_of (Some None) o) leaves.is))
          at (Some last) is e =
              let e' : option_map (option_map value_bytes) (Some (Some last)) ≡ Some size = subst (λ (o : Option Value). option_map (option_map value_bytes) (Some o) ≡ Some size) is e in
              let less : left < value_bytes last = over (value_bytes last) (cc) in
              ap (option_map crosses) (a.more ∙ (ap (λ (o : Option Value). with_last_of (Some o) (of (drop (suc k) parameters) (drop (suc k) operands))) is
              ∙ ap (λ (o : Option (Option (List Value))). with_last_of (Some (Some last)) o) leaves.is))
              ∙ ap (λ (b : Bool). Some b) (lt-leb (call_bytes + values_bytes (leaves.values ++ last ∷ [])) most_bytes (omega (arith, leaves.size, bytes_last leaves.values last, less)))

  -- all of them do
  pub leaves_whole : (parameters : List Parameter) (operands : List Tagged) (left : ℕ) → Leaves 0 parameters operands left → option_map crosses (of parameters operands) ≡ Some true
  leaves_whole parameters operands left leaves =
      ap (option_map crosses) leaves.is ∙ ap (λ (b : Bool). Some b) (le-leb (call_bytes + values_bytes leaves.values) most_bytes (omega (arith, leaves.size)))

  -- ---- copies of them

  crossed : (last : Option (Option Value)) (o : Option (Option (List Value))) → AllCross (with_last_of last o) → AllCross o
  crossed None o all = absurd all
  crossed (Some None) None all = absurd all
  crossed (Some None) (Some None) all = absurd all
  crossed (Some None) (Some (Some values)) all = absurd all
  crossed (Some (Some last)) None all = absurd all
  crossed (Some (Some last)) (Some None) all = absurd all
  crossed (Some (Some last)) (Some (Some values)) all = tt

  is_some : (o : Option (Option (List Value))) → AllCross o → IsSome o
  is_some None all = absurd all
  is_some (Some None) all = absurd all
  is_some (Some (Some values)) all = refl

  -- those from a depth on cross if all do
  pub cross_from : (k : ℕ) (parameters : List Parameter) (operands : List Tagged) → AllCross (of parameters operands) → AllCross (of (drop k parameters) (drop k operands))
  cross_from zero parameters operands all = all
  cross_from (suc k) [] operands all = subst AllCross (sym (dropped_none (suc k) (drop (suc k) operands))) tt
  cross_from (suc k) (takes ∷ parameters) operands all =
      let f : First takes parameters operands = first_of takes parameters operands (is_some (of (takes ∷ parameters) operands) all) in
      let whole : of (takes ∷ parameters) operands ≡ with_last_of (value_as takes table cells f.top) (of parameters f.below) =
      ap (λ (os : List Tagged). of (takes ∷ parameters) os) f.whole ∙ one_more takes parameters f.top f.below in
      let rest : AllCross (of parameters f.below) = crossed (value_as takes table cells f.top) (of parameters f.below) (subst AllCross whole all) in
      subst (λ (os : List Tagged). AllCross (of (drop k parameters) (drop (suc k) os))) (sym f.whole) (cross_from k parameters f.below rest)

  -- one at a depth crosses
  pub crosses_at : (k : ℕ) (takes : Parameter) (parameters : List Parameter) (operands : List Tagged) → AllCross (of parameters operands) → slice_get parameters k ≡ Some takes
      → Crosses (option_and_then (value_as takes table cells) (slice_get operands k))
  crosses_at k takes parameters operands all there = by (at_depth k takes parameters operands (is_some (of parameters operands) all) there)
    where
      one : (o : Option Value) (rest : Option (Option (List Value))) → AllCross (with_last_of (Some o) rest) → Crosses (Some o)
      one None None all = absurd all
      one None (Some None) all = absurd all
      one None (Some (Some values)) all = absurd all
      one (Some last) rest all = tt

      by : At k takes parameters operands → Crosses (option_and_then (value_as takes table cells) (slice_get operands k))
      by a = subst Crosses (sym a.is) (one a.value (of (drop (suc k) parameters) (drop (suc k) operands)) (subst AllCross a.more (cross_from k parameters operands all)))

  -- before the first copy, one copy more, and all
  pub copies_none : (k : ℕ) (parameters : List Parameter) (operands : List Tagged) → length parameters ≤ k → of (drop k parameters) (drop k operands) ≡ Some (Some [])
  copies_none k parameters operands h = ap (λ (ps : List Parameter). of ps (drop k operands)) (all_gone k parameters h) ∙ empty (drop k operands)

  pub copies_more : (k : ℕ) (takes : Parameter) (parameters : List Parameter) (operands : List Tagged) (last : Value) (values : List Value) → AllCross (of parameters operands)
      → slice_get parameters k ≡ Some takes → option_and_then (value_as takes table cells) (slice_get operands k) ≡ Some (Some last)
      → of (drop (suc k) parameters) (drop (suc k) operands) ≡ Some (Some values) → of (drop k parameters) (drop k operands) ≡ Some (Some (values ++ last ∷ []))
  copies_more k takes parameters operands last values all there is rest = by (at_depth k takes parameters operands (is_some (of parameters operands) all) there)
    where
      by : At k takes parameters operands → of (drop k parameters) (drop k operands) ≡ Some (Some (values ++ last ∷ []))
      by a =
          let same : Some a.value ≡ Some (Some last) = sym a.is ∙ is in
          a.more ∙ (ap (λ (o : Option (Option Value)). with_last_of o (of (drop (suc k) parameters) (drop (suc k) operands))) same
          ∙ ap (λ (o : Option (Option (List Value))). with_last_of (Some (Some last)) o) rest)
