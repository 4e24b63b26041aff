use Rattle.std.proofs.Common.{◌≡◌, ℕ, ◌+◌, ◌-◌, ◌≤◌, Bool, true, false, cond, List, [], ◌∷◌, ◌++◌, length, map, filter, Option, None, Some, is_some, IsTrue, refl, sym, ap, subst, ◌∙◌, arith}
use Rattle.std.specs.Prelude.{unwrap_or, count_by}
use Rattle.std.specs.List.{IsDistinct, AllByRecursion}
use Rattle.std.specs.Cmp.{IsEquivalence}
use Rattle.std.specs.Map.{lookup, lookup_entry, keys_of, remove_entry, set_value}
use Rattle.std.specs.Str.{bytes_eq}
use Rattle.std.proofs.lemmas.Bool.{false≢true}
use Rattle.std.proofs.lemmas.List.{take_all, length-map}
use Rattle.std.proofs.lemmas.List.Sums.{length-filter}
use Rattle.std.proofs.lemmas.Map.{lookup-remove_entry, lookup-set_value}
use Rattle.std.proofs.lemmas.Map.Keys.{IsDistinct-head, IsDistinct-tail, IsDistinct-cons, IsDistinct-push}
use Rattle.std.proofs.lemmas.Map.Made.{is_some-lookup}
use Rattle.std.proofs.lemmas.Slice.Eq.{bytes_eq-Decides}
use Rattle.std.specs.Cmp.Lexicographic.{nat_list_eq_equiv}
use Rattle.lru.specs.LruCache.{LruCache, demoted, put_entries}
use Rattle.dgc_list.specs.declared.remembered.Remembered.{Remembered}
use Rattle.dgc_list.specs.Remembered.{blank}
use Rattle.dgc_list.specs.Clients.{remembered_in, is_known, leased, leased_after, without, IsSame, Sets}

pub bytes_eq-laws : IsEquivalence bytes_eq
bytes_eq-laws = nat_list_eq_equiv

bytes_eq-refl : (c : List ℕ) → bytes_eq c c ≡ true
bytes_eq-refl c = (bytes_eq-Decides c c).1 refl

-- clients that are known are all others: none is taken out
without-absent : (c : List ℕ) (es : List (List ℕ × Remembered)) → AllByRecursion (λ k. bytes_eq c k ≡ false) (keys_of es) → without c (leased es) ≡ leased es
without-absent c [] h = refl
without-absent c (e ∷ es) h =
    elim (is_some e.1.expires) as (λ t. without c (cond t (e.0 ∷ leased es) (leased es)) ≡ cond t (e.0 ∷ leased es) (leased es))
    [ true ↦ rw h.0 (ap (λ cs. e.0 ∷ cs) (without-absent c es h.1)) | false ↦ without-absent c es h.1 ]

-- the same if the first name is only equal to the client
absent-same : (a b : List ℕ) (ks : List (List ℕ)) → a ≡ b → AllByRecursion (λ k. bytes_eq a k ≡ false) ks → AllByRecursion (λ k. bytes_eq b k ≡ false) ks
absent-same a b ks same h = subst (λ (x : List ℕ). AllByRecursion (λ k. bytes_eq x k ≡ false) ks) same h

-- the client's own entry comes first, and none of it follows
without-first : (c : List ℕ) (e : List ℕ × Remembered) (es : List (List ℕ × Remembered)) → bytes_eq c e.0 ≡ true
    → AllByRecursion (λ k. bytes_eq c k ≡ false) (keys_of es) → without c (leased (e ∷ es)) ≡ leased es
without-first c e es here absent =
    elim (is_some e.1.expires) as (λ t. without c (cond t (e.0 ∷ leased es) (leased es)) ≡ leased es)
    [ true ↦ rw here (without-absent c es absent) | false ↦ without-absent c es absent ]

-- another's entry comes first
without-cons : (c : List ℕ) (e : List ℕ × Remembered) (es fs : List (List ℕ × Remembered)) → bytes_eq c e.0 ≡ false
    → leased fs ≡ without c (leased es) → leased (e ∷ fs) ≡ without c (leased (e ∷ es))
without-cons c e es fs apart h =
    elim (is_some e.1.expires) as (λ t. cond t (e.0 ∷ leased fs) (leased fs) ≡ without c (cond t (e.0 ∷ leased es) (leased es)))
    [ true ↦ rw apart (ap (λ cs. e.0 ∷ cs) h) | false ↦ h ]

leased-bare : (e : List ℕ × Remembered) (es : List (List ℕ × Remembered)) → is_some e.1.expires ≡ false → leased (e ∷ es) ≡ leased es
leased-bare e es bare = rw bare refl

-- the client's own index is written
put-first : (c : List ℕ) (r : Remembered) (e : List ℕ × Remembered) (es : List (List ℕ × Remembered)) → without c (leased (e ∷ es)) ≡ leased es
    → (had has : Bool) → is_some e.1.expires ≡ had → is_some r.expires ≡ has → (IsTrue has → IsTrue had)
    → leased ((e.0, r) ∷ es) ≡ leased_after c had has (leased (e ∷ es))
put-first c r e es alone true true h g may = rw (h, g) refl
put-first c r e es alone true false h g may = rw g (sym alone)
put-first c r e es alone false true h g may = absurd (false≢true (may refl))
put-first c r e es alone false false h g may = rw (h, g) refl

-- another's index stands before it
put-cons : (c : List ℕ) (e : List ℕ × Remembered) (es fs : List (List ℕ × Remembered)) → bytes_eq c e.0 ≡ false → (had has : Bool) → (IsTrue has → IsTrue had)
    → leased fs ≡ leased_after c had has (leased es) → leased (e ∷ fs) ≡ leased_after c had has (leased (e ∷ es))
put-cons c e es fs apart true true may h = rw h refl
put-cons c e es fs apart true false may h = without-cons c e es fs apart h
put-cons c e es fs apart false true may h = absurd (false≢true (may refl))
put-cons c e es fs apart false false may h = rw h refl

-- what follows the client's own entry does not name it
rest-absent : (c : List ℕ) (e : List ℕ × Remembered) (es : List (List ℕ × Remembered)) → IsDistinct bytes_eq (e.0 ∷ keys_of es) → bytes_eq c e.0 ≡ true
    → AllByRecursion (λ k. bytes_eq c k ≡ false) (keys_of es)
rest-absent c e es distinct here =
    absent-same e.0 c (keys_of es) (sym ((bytes_eq-Decides c e.0).0 here)) (IsDistinct-head bytes_eq e.0 (keys_of es) distinct)

-- taking a client out takes its entry out
leased-remove : (c : List ℕ) (es : List (List ℕ × Remembered)) → IsDistinct bytes_eq (keys_of es) → leased (remove_entry (bytes_eq c) es) ≡ without c (leased es)
leased-remove c [] distinct = refl
leased-remove c (e ∷ es) distinct =
    let tail = IsDistinct-tail bytes_eq e.0 (keys_of es) distinct in
    elim (bytes_eq c e.0) as (λ t. bytes_eq c e.0 ≡ t → leased (cond t es (e ∷ remove_entry (bytes_eq c) es)) ≡ without c (leased (e ∷ es))) [
      | true ↦ λ here. sym (without-first c e es here (rest-absent c e es distinct here))
      | false ↦ λ apart. without-cons c e es (remove_entry (bytes_eq c) es) apart (leased-remove c es tail)
    ] refl

-- a client without an entry is not among those with one
without-unleased : (c : List ℕ) (es : List (List ℕ × Remembered)) → IsDistinct bytes_eq (keys_of es)
    → is_some (remembered_in es c).expires ≡ false → without c (leased es) ≡ leased es
without-unleased c [] distinct bare = refl
without-unleased c (e ∷ es) distinct bare =
    let tail = IsDistinct-tail bytes_eq e.0 (keys_of es) distinct in
    elim (bytes_eq c e.0) as (λ t. bytes_eq c e.0 ≡ t → is_some (unwrap_or (cond t (Some e.1) (lookup (bytes_eq c) es)) blank).expires ≡ false
    → without c (leased (e ∷ es)) ≡ leased (e ∷ es)) [
      | true ↦ λ here none. without-first c e es here (rest-absent c e es distinct here) ∙ sym (leased-bare e es none)
      | false ↦ λ apart none. sym (without-cons c e es es apart (sym (without-unleased c es tail none)))
    ] refl bare

-- writing at the same index, if no entry is set anew
leased-put : (c : List ℕ) (r : Remembered) (es : List (List ℕ × Remembered)) → IsDistinct bytes_eq (keys_of es)
    → IsTrue (is_known es c) → (IsTrue (is_some r.expires) → IsTrue (is_some (remembered_in es c).expires))
    → leased (set_value (bytes_eq c) es r) ≡ leased_after c (is_some (remembered_in es c).expires) (is_some r.expires) (leased es)
leased-put c r [] distinct known kept = cc
leased-put c r (e ∷ es) distinct known kept =
    let tail = IsDistinct-tail bytes_eq e.0 (keys_of es) distinct in
    elim (bytes_eq c e.0) as (λ t. bytes_eq c e.0 ≡ t → IsTrue (is_some (cond t (Some e.1) (lookup (bytes_eq c) es)))
    → (IsTrue (is_some r.expires) → IsTrue (is_some (unwrap_or (cond t (Some e.1) (lookup (bytes_eq c) es)) blank).expires))
    → leased (cond t ((e.0, r) ∷ es) (e ∷ set_value (bytes_eq c) es r))
    ≡ leased_after c (is_some (unwrap_or (cond t (Some e.1) (lookup (bytes_eq c) es)) blank).expires) (is_some r.expires) (leased (e ∷ es))) [
      | true ↦ λ here _ may. put-first c r e es (without-first c e es here (rest-absent c e es distinct here)) (is_some e.1.expires) (is_some r.expires) refl refl may
      | false ↦ λ apart there may. put-cons c e es (set_value (bytes_eq c) es r) apart (is_some (remembered_in es c).expires) (is_some r.expires) may (leased-put c r es tail there may)
    ] refl known kept

-- taking a client out, by whether it had an entry
leased-taken : (c : List ℕ) (es : List (List ℕ × Remembered)) → IsDistinct bytes_eq (keys_of es)
    → leased (remove_entry (bytes_eq c) es) ≡ leased_after c (is_some (remembered_in es c).expires) false (leased es)
leased-taken c es distinct =
    elim (is_some (remembered_in es c).expires) as (λ had. is_some (remembered_in es c).expires ≡ had → leased (remove_entry (bytes_eq c) es) ≡ leased_after c had false (leased es)) [
      | true ↦ λ _. leased-remove c es distinct
      | false ↦ λ bare. leased-remove c es distinct ∙ without-unleased c es distinct bare
    ] refl

or-blank : (t : Bool) (w x : Option Remembered) → unwrap_or (cond t w x) blank ≡ cond t (unwrap_or w blank) (unwrap_or x blank)
or-blank true w x = refl
or-blank false w x = refl

still-known : (t : Bool) (w x : Option Remembered) → t ≡ false → IsTrue (is_some x) → IsTrue (is_some (cond t w x))
still-known t w x apart there = rw apart there

-- a change of one key, and of the order of the entries
sets-from : (c : List ℕ) (r : Remembered) (w : Option Remembered) (old new : List (List ℕ × Remembered))
    → ((q : List ℕ) → lookup (bytes_eq q) new ≡ cond (bytes_eq c q) w (lookup (bytes_eq q) old)) → unwrap_or w blank ≡ r
    → leased new ≡ leased_after c (is_some (remembered_in old c).expires) (is_some r.expires) (leased old) → Sets c r old new
sets-from c r w old new at is order = record {
  remembered_is = λ q. ap (λ o. unwrap_or o blank) (at q) ∙ or-blank (bytes_eq c q) w (lookup (bytes_eq q) old) ∙ ap (λ x. cond (bytes_eq c q) x (remembered_in old q)) is;
  leased_is = order;
  known = λ q there apart. subst (λ (o : Option Remembered). IsTrue (is_some o)) (sym (at q)) (still-known (bytes_eq c q) w (lookup (bytes_eq q) old) apart there);
}

-- an entry after all others
leased-last : (c : List ℕ) (r : Remembered) (es : List (List ℕ × Remembered)) → is_some r.expires ≡ true → leased (es ++ (c, r) ∷ []) ≡ leased es ++ c ∷ []
leased-last c r [] set = rw set refl
leased-last c r (e ∷ es) set =
    elim (is_some e.1.expires) as (λ t. cond t (e.0 ∷ leased (es ++ (c, r) ∷ [])) (leased (es ++ (c, r) ∷ [])) ≡ cond t (e.0 ∷ leased es) (leased es) ++ c ∷ [])
    [ true ↦ ap (λ cs. e.0 ∷ cs) (leased-last c r es set) | false ↦ leased-last c r es set ]

-- an entry that is set anew after all others
leased-put_last : (c : List ℕ) (r : Remembered) (es : List (List ℕ × Remembered)) → IsDistinct bytes_eq (keys_of es)
    → is_some (remembered_in es c).expires ≡ false → is_some r.expires ≡ true
    → leased (remove_entry (bytes_eq c) es ++ (c, r) ∷ []) ≡ leased_after c (is_some (remembered_in es c).expires) (is_some r.expires) (leased es)
leased-put_last c r es distinct bare set =
    rw (bare, set, leased-last c r (remove_entry (bytes_eq c) es) set, leased-remove c es distinct)
    (ap (λ cs. cs ++ c ∷ []) (without-unleased c es distinct bare))

-- the entry of a client that has room
entry-here : (c : List ℕ) (es : List (List ℕ × Remembered)) → IsTrue (is_known es c) → (v : Remembered) × (lookup_entry (bytes_eq c) es ≡ Some (c, v))
entry-here c [] there = cc
entry-here c (e ∷ es) there =
    elim (bytes_eq c e.0) as (λ t. bytes_eq c e.0 ≡ t → IsTrue (is_some (cond t (Some e.1) (lookup (bytes_eq c) es))) → (v : Remembered) × (cond t (Some e) (lookup_entry (bytes_eq c) es) ≡ Some (c, v))) [
      | true ↦ λ here _. (e.1, ap (λ (k : List ℕ). Some (k, e.1)) (sym ((bytes_eq-Decides c e.0).0 here)))
      | false ↦ λ _ rest. entry-here c es rest
    ] refl there

entry-none : (c : List ℕ) (es : List (List ℕ × Remembered)) → lookup (bytes_eq c) es ≡ None → lookup_entry (bytes_eq c) es ≡ None
entry-none c [] absent = refl
entry-none c (e ∷ es) absent =
    elim (bytes_eq c e.0) as (λ t. cond t (Some e.1) (lookup (bytes_eq c) es) ≡ None → cond t (Some e) (lookup_entry (bytes_eq c) es) ≡ None) [
      | true ↦ λ none. cc
      | false ↦ λ none. entry-none c es none
    ] absent

-- a client that has room is written, and goes after all others
pub demoted-put : (c : List ℕ) (r : Remembered) (cache : LruCache (List ℕ) Remembered) → IsTrue (is_known cache.entries c)
    → demoted (bytes_eq c) (put_entries bytes_eq cache c r) ≡ remove_entry (bytes_eq c) cache.entries ++ (c, r) ∷ []
demoted-put c r cache there = let (v, found) = entry-here c cache.entries there in rw (found, bytes_eq-refl c) refl

-- a client that has no room gets it before all others, and none of these goes
pub put-new : (c : List ℕ) (r : Remembered) (cache : LruCache (List ℕ) Remembered) → lookup (bytes_eq c) cache.entries ≡ None
    → length cache.entries + 1 ≤ cache.cap → put_entries bytes_eq cache c r ≡ (c, r) ∷ cache.entries
put-new c r cache absent fits =
    let few : length cache.entries ≤ cache.cap - 1 = omega arith in
    rw (entry-none c cache.entries absent) (ap (λ es. (c, r) ∷ es) (take_all (cache.cap - 1) cache.entries few))

-- and goes after them
pub demoted-new : (c : List ℕ) (r : Remembered) (es : List (List ℕ × Remembered)) → demoted (bytes_eq c) ((c, r) ∷ es) ≡ es ++ (c, r) ∷ []
demoted-new c r es = rw (bytes_eq-refl c) refl

one-key : (c x y : List ℕ) → bytes_eq c x ≡ true → bytes_eq c y ≡ bytes_eq x y
one-key c x y here = ap (λ k. bytes_eq k y) ((bytes_eq-Decides c x).0 here)

-- what is found once a client is written, taken out, or set after all others
lookup-written : (c q : List ℕ) (r : Remembered) (es : List (List ℕ × Remembered)) → IsTrue (is_known es c)
    → lookup (bytes_eq q) (set_value (bytes_eq c) es r) ≡ cond (bytes_eq c q) (Some r) (lookup (bytes_eq q) es)
lookup-written c q r es there = lookup-set_value bytes_eq-laws (bytes_eq c) (one-key c) q r es there

lookup-taken : (c q : List ℕ) (es : List (List ℕ × Remembered)) → IsDistinct bytes_eq (keys_of es)
    → lookup (bytes_eq q) (remove_entry (bytes_eq c) es) ≡ cond (bytes_eq c q) None (lookup (bytes_eq q) es)
lookup-taken c q es distinct = lookup-remove_entry bytes_eq-laws (bytes_eq c) (one-key c) q es distinct

lookup-push : (test : List ℕ → Bool) (e : List ℕ × Remembered) (es : List (List ℕ × Remembered))
    → lookup test (es ++ e ∷ []) ≡ cond (is_some (lookup test es)) (lookup test es) (cond (test e.0) (Some e.1) None)
lookup-push test e [] = refl
lookup-push test e (x ∷ es) =
    elim (test x.0) as (λ t. cond t (Some x.1) (lookup test (es ++ e ∷ []))
    ≡ cond (is_some (cond t (Some x.1) (lookup test es))) (cond t (Some x.1) (lookup test es)) (cond (test e.0) (Some e.1) None))
    [ true ↦ refl | false ↦ lookup-push test e es ]

or-itself : (o : Option Remembered) → cond (is_some o) o None ≡ o
or-itself None = refl
or-itself (Some r) = refl

apart-flips : (c q : List ℕ) → bytes_eq c q ≡ false → bytes_eq q c ≡ false
apart-flips c q apart = bytes_eq-laws.symm q c ∙ apart

lookup-put_last : (c q : List ℕ) (r : Remembered) (es : List (List ℕ × Remembered)) → IsDistinct bytes_eq (keys_of es)
    → lookup (bytes_eq q) (remove_entry (bytes_eq c) es ++ (c, r) ∷ []) ≡ cond (bytes_eq c q) (Some r) (lookup (bytes_eq q) es)
lookup-put_last c q r es distinct =
    lookup-push (bytes_eq q) (c, r) (remove_entry (bytes_eq c) es)
    ∙ (rw (lookup-taken c q es distinct) (elim (bytes_eq c q) as (λ t. bytes_eq c q ≡ t
    → cond (is_some (cond t None (lookup (bytes_eq q) es))) (cond t None (lookup (bytes_eq q) es)) (cond (bytes_eq q c) (Some r) None) ≡ cond t (Some r) (lookup (bytes_eq q) es)) [
      | true ↦ λ same. let flipped : bytes_eq q c ≡ true = sym (one-key c q c same) ∙ bytes_eq-refl c in rw flipped refl
      | false ↦ λ apart. rw (apart-flips c q apart) (or-itself (lookup (bytes_eq q) es))
    ] refl))

-- each client stands once after one is taken out, or set after all others
absent-removed : (c k : List ℕ) (es : List (List ℕ × Remembered)) → AllByRecursion (λ x. bytes_eq k x ≡ false) (keys_of es)
    → AllByRecursion (λ x. bytes_eq k x ≡ false) (keys_of (remove_entry (bytes_eq c) es))
absent-removed c k [] h = h
absent-removed c k (e ∷ es) h =
    elim (bytes_eq c e.0) as (λ t. AllByRecursion (λ x. bytes_eq k x ≡ false) (keys_of (cond t es (e ∷ remove_entry (bytes_eq c) es))))
    [ true ↦ h.1 | false ↦ (h.0, absent-removed c k es h.1) ]

pub distinct-removed : (c : List ℕ) (es : List (List ℕ × Remembered)) → IsDistinct bytes_eq (keys_of es) → IsDistinct bytes_eq (keys_of (remove_entry (bytes_eq c) es))
distinct-removed c [] distinct = distinct
distinct-removed c (e ∷ es) distinct =
    let tail = IsDistinct-tail bytes_eq e.0 (keys_of es) distinct in
    elim (bytes_eq c e.0) as (λ t. IsDistinct bytes_eq (keys_of (cond t es (e ∷ remove_entry (bytes_eq c) es)))) [
      | true ↦ tail
      | false ↦ IsDistinct-cons bytes_eq e.0 (keys_of (remove_entry (bytes_eq c) es)) (absent-removed c e.0 es (IsDistinct-head bytes_eq e.0 (keys_of es) distinct)) (distinct-removed c es tail)
    ]

keys-push : (es : List (List ℕ × Remembered)) (e : List ℕ × Remembered) → keys_of (es ++ e ∷ []) ≡ keys_of es ++ e.0 ∷ []
keys-push [] e = refl
keys-push (x ∷ es) e = ap (λ (ks : List (List ℕ)). x.0 ∷ ks) (keys-push es e)

pub distinct-put_last : (c : List ℕ) (r : Remembered) (es : List (List ℕ × Remembered)) → IsDistinct bytes_eq (keys_of es)
    → IsDistinct bytes_eq (keys_of (remove_entry (bytes_eq c) es ++ (c, r) ∷ []))
distinct-put_last c r es distinct =
    let gone : lookup (bytes_eq c) (remove_entry (bytes_eq c) es) ≡ None = rw (lookup-taken c c es distinct, bytes_eq-refl c) refl in
    rw (keys-push (remove_entry (bytes_eq c) es) (c, r)) (IsDistinct-push bytes_eq-laws (keys_of (remove_entry (bytes_eq c) es)) c (distinct-removed c es distinct)
    (sym (is_some-lookup (bytes_eq c) (remove_entry (bytes_eq c) es)) ∙ ap (λ o. is_some o) gone))

pub distinct-none : IsDistinct bytes_eq []
unfolding IsDistinct
distinct-none = tt

-- a client is set after all others, and each stands once
pub distinct-pushed : (c : List ℕ) (r : Remembered) (es : List (List ℕ × Remembered)) → IsDistinct bytes_eq (keys_of es) → is_known es c ≡ false
    → IsDistinct bytes_eq (keys_of (es ++ (c, r) ∷ []))
distinct-pushed c r es distinct absent =
    rw (keys-push es (c, r)) (IsDistinct-push bytes_eq-laws (keys_of es) c distinct (sym (is_some-lookup (bytes_eq c) es) ∙ absent))

-- nothing is remembered of a client that gets room
blank-pushed : (o : Option Remembered) (t : Bool) → unwrap_or (cond (is_some o) o (cond t (Some blank) None)) blank ≡ unwrap_or o blank
blank-pushed (Some r) t = refl
blank-pushed None true = refl
blank-pushed None false = refl

still-pushed : (o p : Option Remembered) → IsTrue (is_some o) → IsTrue (is_some (cond (is_some o) o p))
still-pushed (Some r) p there = refl
still-pushed None p there = absurd (false≢true there)

or-last : (o : Option Remembered) (r : Remembered) → IsTrue (is_some (cond (is_some o) o (Some r)))
or-last (Some v) r = refl
or-last None r = refl

leased-blank : (c : List ℕ) (es : List (List ℕ × Remembered)) → leased (es ++ (c, blank) ∷ []) ≡ leased es
leased-blank c [] = refl
leased-blank c (e ∷ es) =
    elim (is_some e.1.expires) as (λ t. cond t (e.0 ∷ leased (es ++ (c, blank) ∷ [])) (leased (es ++ (c, blank) ∷ [])) ≡ cond t (e.0 ∷ leased es) (leased es))
    [ true ↦ ap (λ cs. e.0 ∷ cs) (leased-blank c es) | false ↦ leased-blank c es ]

-- room for a client changes nothing that is remembered
pub same-pushed : (c : List ℕ) (es : List (List ℕ × Remembered)) → IsSame es (es ++ (c, blank) ∷ [])
same-pushed c es = record {
  remembered = λ q. ap (λ o. unwrap_or o blank) (lookup-push (bytes_eq q) (c, blank) es) ∙ blank-pushed (lookup (bytes_eq q) es) (bytes_eq q c);
  leased = leased-blank c es;
  known = λ q there. rw (lookup-push (bytes_eq q) (c, blank) es) (still-pushed (lookup (bytes_eq q) es) (cond (bytes_eq q c) (Some blank) None) there);
}

pub known-pushed : (c : List ℕ) (r : Remembered) (es : List (List ℕ × Remembered)) → IsTrue (is_known (es ++ (c, r) ∷ []) c)
known-pushed c r es = rw (lookup-push (bytes_eq c) (c, r) es, bytes_eq-refl c) (or-last (lookup (bytes_eq c) es) r)

-- what a client's removal, a change at its index, and a change at the end leave
pub sets-taken : (c : List ℕ) (es : List (List ℕ × Remembered)) → IsDistinct bytes_eq (keys_of es) → Sets c blank es (remove_entry (bytes_eq c) es)
sets-taken c es distinct =
    sets-from c blank None es (remove_entry (bytes_eq c) es) (λ q. lookup-taken c q es distinct) refl (leased-taken c es distinct)

pub gone-taken : (c : List ℕ) (es : List (List ℕ × Remembered)) → IsDistinct bytes_eq (keys_of es) → is_known (remove_entry (bytes_eq c) es) c ≡ false
gone-taken c es distinct = rw (lookup-taken c c es distinct, bytes_eq-refl c) refl

pub sets-put : (c : List ℕ) (r : Remembered) (es : List (List ℕ × Remembered)) → IsDistinct bytes_eq (keys_of es) → IsTrue (is_known es c)
    → (IsTrue (is_some r.expires) → IsTrue (is_some (remembered_in es c).expires)) → Sets c r es (set_value (bytes_eq c) es r)
sets-put c r es distinct known kept =
    sets-from c r (Some r) es (set_value (bytes_eq c) es r) (λ q. lookup-written c q r es known) refl (leased-put c r es distinct known kept)

pub sets-put_last : (c : List ℕ) (r : Remembered) (es : List (List ℕ × Remembered)) → IsDistinct bytes_eq (keys_of es)
    → is_some (remembered_in es c).expires ≡ false → is_some r.expires ≡ true → Sets c r es (remove_entry (bytes_eq c) es ++ (c, r) ∷ [])
sets-put_last c r es distinct none set =
    sets-from c r (Some r) es (remove_entry (bytes_eq c) es ++ (c, r) ∷ []) (λ q. lookup-put_last c q r es distinct) refl (leased-put_last c r es distinct none set)

pub lookup-none_from : (o : Option Remembered) → is_some o ≡ false → o ≡ None
lookup-none_from None h = refl
lookup-none_from (Some r) h = cc

-- the clients with an entry, as a filter
pub leased_filter : (es : List (List ℕ × Remembered)) → leased es ≡ map (λ (e : List ℕ × Remembered). e.0) (filter (λ (e : List ℕ × Remembered). is_some e.1.expires) es)
leased_filter [] = refl
leased_filter (e ∷ es) =
    elim (is_some e.1.expires) as (λ t. cond t (e.0 ∷ leased es) (leased es) ≡ map (λ (x : List ℕ × Remembered). x.0) (cond t (e ∷ filter (λ (x : List ℕ × Remembered). is_some x.1.expires) es) (filter (λ (x : List ℕ × Remembered). is_some x.1.expires) es)))
    [ true ↦ ap (λ cs. e.0 ∷ cs) (leased_filter es) | false ↦ leased_filter es ]

pub leased_count : (es : List (List ℕ × Remembered)) → length (leased es) ≡ count_by (λ (e : List ℕ × Remembered). is_some e.1.expires) es
leased_count es = ap length (leased_filter es) ∙ length-map (filter (λ (e : List ℕ × Remembered). is_some e.1.expires) es) (λ (e : List ℕ × Remembered). e.0)
    ∙ length-filter (λ (e : List ℕ × Remembered). is_some e.1.expires) es
