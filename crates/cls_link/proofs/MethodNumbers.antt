use Rattle.std.proofs.Common.{◌≡◌, ◌≢◌, ℕ, zero, suc, ◌+◌, ◌<◌, ◌≤◌, inl, inr, true, false, Option, Some, None, List, [], ◌∷◌, ◌++◌, length, get_or, take, drop, refl, sym, subst, ap, ◌∙◌, arith, add-one, add-zero, zero-add, append-nil, append_assoc}
use Rattle.std.specs.Prelude.{All, ◌&&◌, IsSome, bytes_eq, cond, nat_eq, option_and_then, option_map, slice_get}
use Rattle.std.specs.List.{AllZip}
use Rattle.std.proofs.lemmas.Bool.Decides.{nat_tests}
use Rattle.std.proofs.lemmas.List.{get_or_default, length-append, length-take-le}
use Rattle.std.proofs.lemmas.List.Elements.{All-append, All-cons, All-head, All-nil, All-tail, All-weaker}
use Rattle.std.proofs.lemmas.Option.{get_or_from_slice_get, slice_get_cases}
use Rattle.cls_set.specs.declared.Method.{Method}
use Rattle.cls_set.specs.declared.class.Class.{Class}
use Rattle.space_ids.specs.declared.ids.ClassId.{ClassId}
use Rattle.cls_link.specs.declared.linked_code.LinkedMethod.{LinkedMethod}
use Rattle.cls_link.specs.Links.{Declared, IsLinked, declared_in, declared_from, is_declared_as, number_from, number_of}
use Rattle.cls_search.specs.declared.methods.MethodIndex.{MethodIndex}
use Rattle.cls_link.specs.Numbers.{number_in, starts}
use Rattle.cls_search.specs.MethodSearches.{first_from, method_in, own_method}

suc_moves : (p i : ℕ) → suc p + i ≡ p + suc i
suc_moves p i = omega arith

next : (s k : ℕ) → suc (s + k) ≡ s + suc k
next s k = omega arith

no_number : (m n : ℕ) → m ≢ n → nat_eq m n ≡ false
no_number m n e = grind (arith, nat_tests)

same_number : (n : ℕ) → nat_eq n n ≡ true
same_number n = grind (arith, nat_tests)

start : (n : ℕ) → 0 + n ≡ n + 0
start n = omega arith

pub length_in : (class : ClassId) (name : List ℕ) (p : ℕ) (ms : List Method) → length (declared_in class name p ms) ≡ length ms
length_in class name p [] = refl
length_in class name p (m ∷ ms) = ap suc (length_in class name (suc p) ms)

abbrev Between : ℕ → ℕ → Declared → Type 0
Between low high d = (low ≤ d.class.0) × (d.class.0 < high)

-- the classes of declared methods
in_class : (class : ClassId) (name : List ℕ) (p : ℕ) (ms : List Method) (high : ℕ) → class.0 < high → All (Between class.0 high) (declared_in class name p ms)
in_class class name p [] high h = All-nil (Between class.0 high)
in_class class name p (m ∷ ms) high h =
    All-cons (Between class.0 high) (record { class = class; class_name = name; index = p; method = m }) (declared_in class name (suc p) ms) (omega arith, h) (in_class class name (suc p) ms high h)

classes_between : (k : ℕ) (cs : List Class) → All (Between k (k + length cs)) (declared_from k cs)
classes_between k [] = All-nil (Between k (k + length {A = Class} []))
classes_between k (c ∷ cs) =
    All-append (Between k (k + length (c ∷ cs))) (declared_in (record { 0 = k }) c.file.name 0 c.file.methods) (declared_from (suc k) cs)
    (in_class (record { 0 = k }) c.file.name 0 c.file.methods (k + length (c ∷ cs)) (omega arith))
    (All-weaker (Between (suc k) (suc k + length cs)) (Between k (k + length (c ∷ cs))) (λ d b. let low = b.0 in let high = b.1 in (omega (arith, low), omega (arith, high))) (declared_from (suc k) cs) (classes_between (suc k) cs))

other_class : (d : Declared) (class : ClassId) (n t : List ℕ) → d.class.0 ≢ class.0 → is_declared_as class n t d ≡ false
other_class d class n t ne = let e = no_number d.class.0 class.0 ne in rw e refl

-- what is not declared so is passed
number_passed : (k : ℕ) (pre rest : List Declared) (class : ClassId) (n t : List ℕ) → All (λ d. d.class.0 ≢ class.0) pre → number_from k (pre ++ rest) class n t ≡ number_from (k + length pre) rest class n t
number_passed k [] rest class n t none = ap (λ i. number_from i rest class n t) (sym (add-zero k))
number_passed k (d ∷ pre) rest class n t none =
    let e = other_class d class n t (All-head (λ d. d.class.0 ≢ class.0) d pre none) in
    rw e (number_passed (suc k) pre rest class n t (All-tail (λ d. d.class.0 ≢ class.0) d pre none) ∙ ap (λ i. number_from i rest class n t) (suc_moves k (length pre)))

number_none : (k : ℕ) (ds : List Declared) (class : ClassId) (n t : List ℕ) → All (λ d. d.class.0 ≢ class.0) ds → number_from k ds class n t ≡ None
number_none k ds class n t none = subst (λ xs. number_from k xs class n t ≡ None) (append-nil ds) (number_passed k ds [] class n t none)

-- the number of a method by its index in its class
number_among : (s k p : ℕ) (class : ClassId) (name : List ℕ) (ms : List Method) (post : List Declared) (n t : List ℕ) → All (λ d. d.class.0 ≢ class.0) post → number_from (s + k) (declared_in class name p ms ++ post) class n t ≡ option_map (λ i. record { 0 = s + i }) (first_from k ms n t)
number_among s k p class name [] post n t none = number_none (s + k) post class n t none
number_among s k p class name (m ∷ ms) post n t none =
    let own = same_number class.0 in
    rw own
    (elim (bytes_eq m.name n && bytes_eq m.descriptor t) as (λ b. cond b (Some (record { 0 = s + k })) (number_from (suc (s + k)) (declared_in class name (suc p) ms ++ post) class n t) ≡ option_map (λ i. record { 0 = s + i }) (cond b (Some k) (first_from (suc k) ms n t))) [
      | true ↦ refl
      | false ↦ ap (λ i. number_from i (declared_in class name (suc p) ms ++ post) class n t) (next s k) ∙ number_among s (suc k) (suc p) class name ms post n t none
    ])

declared_around : (k : ℕ) (cs : List Class) (n : ℕ) (d : Class) → n < length cs → declared_from k cs ≡ declared_from k (take n cs) ++ (declared_in (record { 0 = k + n }) (get_or cs n d).file.name 0 (get_or cs n d).file.methods ++ declared_from (suc (k + n)) (drop (suc n) cs))
declared_around k [] n d h = absurd (omega arith)
declared_around k (c ∷ cs) zero d h = ap (λ i. declared_in (record { 0 = i }) c.file.name 0 c.file.methods ++ declared_from (suc i) cs) (sym (add-zero k))
declared_around k (c ∷ cs) (suc n) d h =
    let first = declared_in (record { 0 = k }) c.file.name 0 c.file.methods in
    let last = λ (i : ℕ). declared_in (record { 0 = i }) (get_or cs n d).file.name 0 (get_or cs n d).file.methods ++ declared_from (suc i) (drop (suc n) cs) in
    ap (λ ds. first ++ ds) (declared_around (suc k) cs n d (omega arith) ∙ ap (λ i. declared_from (suc k) (take n cs) ++ last i) (suc_moves k n)) ∙ sym (append_assoc first (declared_from (suc k) (take n cs)) (last (k + suc n)))

-- the number of a method of a class is the number of the class's first and its index
pub number_by_index : (cs : List Class) (class : ClassId) (c : Class) (n t : List ℕ) → class.0 < length cs → c ≡ get_or cs class.0 c → number_of cs class n t ≡ option_map (λ i. record { 0 = length (declared_from 0 (take class.0 cs)) + i }) (first_from 0 c.file.methods n t)
number_by_index cs class c n t h is =
    let pre = declared_from 0 (take class.0 cs) in
    let post = declared_from (suc (0 + class.0)) (drop (suc class.0) cs) in
    let own = λ (k : Class). declared_in (record { 0 = 0 + class.0 }) k.file.name 0 k.file.methods in
    let whole : declared_from 0 cs ≡ pre ++ (own c ++ post) = declared_around 0 cs class.0 c h ∙ ap (λ k. pre ++ (own k ++ post)) (sym is) in
    let before : All (λ d. d.class.0 ≢ class.0) pre =
    All-weaker (Between 0 (0 + length (take class.0 cs))) (λ d. d.class.0 ≢ class.0) (λ d b. let high = b.1 in let few = length-take-le class.0 cs (omega arith) in omega (arith, high, few)) pre (classes_between 0 (take class.0 cs)) in
    let following : All (λ d. d.class.0 ≢ class.0) post =
    All-weaker (Between (suc (0 + class.0)) (suc (0 + class.0) + length (drop (suc class.0) cs))) (λ d. d.class.0 ≢ class.0) (λ d b. let low = b.0 in omega (arith, low)) post (classes_between (suc (0 + class.0)) (drop (suc class.0) cs)) in
    ap (λ ds. number_from 0 ds class n t) whole
    ∙ (number_passed 0 pre (own c ++ post) class n t before
    ∙ (ap (λ i. number_from i (own c ++ post) class n t) (start (length pre))
    ∙ (ap (λ i. number_from (length pre + 0) (declared_in (record { 0 = i }) c.file.name 0 c.file.methods ++ post) class n t) (zero-add class.0)
    ∙ number_among (length pre) 0 0 class c.file.name c.file.methods post n t following)))

-- the number at which the methods of a class start
starts_at : (s k : ℕ) (cs : List Class) (n : ℕ) → n < length cs → get_or (starts s cs) n 0 ≡ s + length (declared_from k (take n cs))
starts_at s k [] n h = absurd (omega arith)
starts_at s k (c ∷ cs) zero h = sym (add-zero s)
starts_at s k (c ∷ cs) (suc n) h =
    let own = declared_in (record { 0 = k }) c.file.name 0 c.file.methods in
    let rest = starts_at (s + length c.file.methods) (suc k) cs n (omega arith) in
    let all = length-append own (declared_from (suc k) (take n cs)) in
    let few = length_in (record { 0 = k }) c.file.name 0 c.file.methods in
    omega (arith, rest, all, few)

pub start_of : (cs : List Class) (n : ℕ) → n < length cs → get_or (starts 0 cs) n 0 ≡ length (declared_from 0 (take n cs))
start_of cs n h = starts_at 0 0 cs n h ∙ zero-add (length (declared_from 0 (take n cs)))

pub length_starts : (s : ℕ) (cs : List Class) → length (starts s cs) ≡ length cs
length_starts s [] = refl
length_starts s (c ∷ cs) = ap suc (length_starts (s + length c.file.methods) cs)

-- one more class
starts_next : (s k : ℕ) (cs : List Class) (n : ℕ) → n < length cs → starts s (take (suc n) cs) ≡ starts s (take n cs) ++ (s + length (declared_from k (take n cs))) ∷ []
starts_next s k [] n h = absurd (omega arith)
starts_next s k (c ∷ cs) zero h = ap (λ i. i ∷ []) (sym (add-zero s))
starts_next s k (c ∷ cs) (suc n) h =
    let own = declared_in (record { 0 = k }) c.file.name 0 c.file.methods in
    let all = length-append own (declared_from (suc k) (take n cs)) in
    let few = length_in (record { 0 = k }) c.file.name 0 c.file.methods in
    let same : (s + length c.file.methods) + length (declared_from (suc k) (take n cs)) ≡ s + length (own ++ declared_from (suc k) (take n cs)) = omega (arith, all, few) in
    ap (λ xs. s ∷ xs) (starts_next (s + length c.file.methods) (suc k) cs n (omega arith) ∙ ap (λ i. starts (s + length c.file.methods) (take n cs) ++ i ∷ []) same)

pub starts_more : (cs : List Class) (n : ℕ) → n < length cs → starts 0 (take (n + 1) cs) ≡ starts 0 (take n cs) ++ length (declared_from 0 (take n cs)) ∷ []
starts_more cs n h = rw add-one (starts_next 0 0 cs n h ∙ ap (λ i. starts 0 (take n cs) ++ i ∷ []) (zero-add (length (declared_from 0 (take n cs)))))

-- a method's number is below the number of methods
pub number_below : (cs : List Class) (n : ℕ) (c : Class) (index : ℕ) → n < length cs → c ≡ get_or cs n c → index < length c.file.methods → length (declared_from 0 (take n cs)) + index < length (declared_from 0 cs)
number_below cs n c index h is within =
    let own = λ (k : Class). declared_in (record { 0 = 0 + n }) k.file.name 0 k.file.methods in
    let pre = declared_from 0 (take n cs) in
    let post = declared_from (suc (0 + n)) (drop (suc n) cs) in
    let whole : declared_from 0 cs ≡ pre ++ (own c ++ post) = declared_around 0 cs n c h ∙ ap (λ k. pre ++ (own k ++ post)) (sym is) in
    let all = ap length whole in
    let first = length-append pre (own c ++ post) in
    let second = length-append (own c) post in
    let few = length_in (record { 0 = 0 + n }) c.file.name 0 c.file.methods in
    omega (arith, all, first, second, few, within)

-- the number of a class's first method, as it is kept
pub start_read : (cs : List Class) (first : List ℕ) (n k f : ℕ) → first ≡ starts 0 cs → n < length cs → k ≡ n → f ≡ get_or first k f → f ≡ length (declared_from 0 (take n cs))
start_read cs first n k f kept h same is =
    let within : n < length (starts 0 cs) = subst (λ i. n < i) (sym (length_starts 0 cs)) h in
    is ∙ (ap (λ i. get_or first i f) same ∙ (ap (λ xs. get_or xs n f) kept ∙ (get_or_default (starts 0 cs) n f 0 within ∙ start_of cs n h)))

-- no class declares a method if the set has no such class
number_absent : (cs : List Class) (class : ClassId) (n t : List ℕ) → length cs ≤ class.0 → number_of cs class n t ≡ None
number_absent cs class n t h =
    number_none 0 (declared_from 0 cs) class n t
    (All-weaker (Between 0 (0 + length cs)) (λ d. d.class.0 ≢ class.0) (λ d b. let high = b.1 in omega (arith, high, h)) (declared_from 0 cs) (classes_between 0 cs))

numbers : (cs : List Class) (class : ClassId) (o : Option ℕ) → option_map (λ i. record { 0 = length (declared_from 0 (take class.0 cs)) + i }) o ≡ option_map (number_in cs) (option_map (λ i. record { class = class; index = i }) o)
numbers cs class None = refl
numbers cs class (Some i) = refl

abbrev own_of : ClassId → List ℕ → List ℕ → Class → Option MethodIndex
own_of class n t c = option_map (λ i. record { class = class; index = i }) (first_from 0 c.file.methods n t)

-- the number of a class's method is that of what it declares
pub number_found : (cs : List Class) (class : ClassId) (n t : List ℕ) → number_of cs class n t ≡ option_map (number_in cs) (own_method cs n t class)
number_found cs class n t =
    elim (slice_get_cases cs class.0).1 [
      | inl r ↦
          number_by_index cs class r.0 n t r.1 (sym r.3)
          ∙ (numbers cs class (first_from 0 r.0.file.methods n t) ∙ ap (λ o. option_map (number_in cs) (option_and_then (own_of class n t) o)) (sym r.2))
      | inr r ↦ number_absent cs class n t r.0 ∙ ap (λ o. option_map (number_in cs) (option_and_then (own_of class n t) o)) (sym r.1)
    ]

-- a method of the set: its class, and its index there
pub record StandsIn (cs : List Class) (m : MethodIndex) : Type 0 where
  pub c : Class
  pub at : slice_get cs m.class.0 ≡ Some c
  pub class_within : m.class.0 < length cs
  pub within : m.index < length c.file.methods

none_not : {X : Type 0} (o : Option X) → o ≡ None → IsSome o → ⊥
none_not o e h = let n : false ≡ true = subst IsSome e h in cc

pub stands : (cs : List Class) (m : MethodIndex) → IsSome (method_in cs m) → StandsIn cs m
stands cs m h =
    let there : Option Class → Option Method = option_and_then (λ (k : Class). slice_get k.file.methods m.index) in
    elim (slice_get_cases cs m.class.0).1 [
      | inl r ↦
          elim (slice_get_cases r.0.file.methods m.index).1 [
            | inl s ↦ record { c = r.0; at = r.2; class_within = r.1; within = s.1 }
            | inr s ↦ absurd (none_not (method_in cs m) (ap there r.2 ∙ s.1) h)
          ]
      | inr r ↦ absurd (none_not (method_in cs m) (ap there r.1) h)
    ]

-- its number is below the number of methods
pub number_small : (cs : List Class) (m : MethodIndex) → StandsIn cs m → length (declared_from 0 (take m.class.0 cs)) + m.index < length (declared_from 0 cs)
number_small cs m s = number_below cs m.class.0 s.c m.index s.class_within (sym (get_or_from_slice_get cs m.class.0 s.c s.c s.at)) s.within

pub zip_length : (classes : List Class) (ds : List Declared) (ms : List LinkedMethod) → AllZip (IsLinked classes) ds ms → length ds ≡ length ms
zip_length classes [] [] all = refl
zip_length classes [] (m ∷ ms) all = absurd all
zip_length classes (d ∷ ds) [] all = absurd all
zip_length classes (d ∷ ds) (m ∷ ms) all = ap suc (zip_length classes ds ms all.1)

-- the start of one more class is kept
pub starts_pushed : (classes cs : List Class) (n : ℕ) (old new : List ℕ) (count : ℕ) (ms : List LinkedMethod) → n < length cs → old ≡ starts 0 (take n cs) → AllZip (IsLinked classes) (declared_from 0 (take n cs)) ms → count ≡ length ms → new ≡ old ++ count ∷ [] → new ≡ starts 0 (take (n + 1) cs)
starts_pushed classes cs n old new count ms h kept all is e =
    e ∙ (ap (λ xs. xs ++ count ∷ []) kept ∙ (ap (λ i. starts 0 (take n cs) ++ i ∷ []) (is ∙ sym (zip_length classes (declared_from 0 (take n cs)) ms all)) ∙ sym (starts_more cs n h)))
