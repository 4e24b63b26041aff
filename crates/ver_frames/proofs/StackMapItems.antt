-- What is read of items is what they say, and what they say is read.
use Rattle.std.proofs.Common.{◌≡◌, ℕ, zero, suc, ◌+◌, ◌*◌, Bool, true, false, Option, Some, None, List, [], ◌∷◌, length, refl, ap, sym, subst, ◌∙◌, eqb, arith}
use Rattle.std.specs.Prelude.{if◌then◌else◌, option_and_then, option_map}
use Rattle.std.proofs.lemmas.Bool.{eqb-true}
use Rattle.ver_frames.specs.Method.{Subject}
use Rattle.ver_frames.specs.StackMap.{after_item, after_items, item, items, u2}
use Rattle.ver_frames.specs.StackMapFormat.{SaysType, SayTypes, made_type, object_type, two_bytes}
use Rattle.ver_frames.specs.StackMapFormat.SaysType.{top, integer, null, uninitialized_this, object, uninitialized}
use Rattle.ver_frames.specs.StackMapFormat.SayTypes.{none, one_more}
use Rattle.ver_frames.specs.declared.vtype.VType.{VType}
use Rattle.ver_frames.specs.declared.vtype.VType.TheVariants.{Top, Int, Null, UninitializedThis}
use Rattle.ver_frames.proofs.FrameLimits.{both_options}

-- ---- tests, options and numbers

-- a fact of what a test chooses
pub by_test : {A : Type 0} (P : A → Type 0) (test : Bool) (x y : A) → (test ≡ true → P x) → (test ≡ false → P y) → P (if test then x else y)
by_test P true x y passed failed = passed refl
by_test P false x y passed failed = failed refl

pub same_some : {A : Type 0} (x y : A) → ◌≡◌ {A = Option A} (Some x) (Some y) → x ≡ y
same_some x y e = cc

pub none_some : {A B : Type 0} (y : A) → ◌≡◌ {A = Option A} None (Some y) → B
none_some y e = absurd (cc)

mapped : {A B : Type 0} (o : Option A) (f : A → B) (y : B) → option_map f o ≡ Some y → (x : A) × (o ≡ Some x) × (f x ≡ y)
mapped None f y e = absurd (cc)
mapped (Some x) f y e = (x, refl, same_some (f x) y e)

-- the two bytes of a number
pub two_of : (bytes : List ℕ) (found : ℕ × List ℕ) → u2 bytes ≡ Some found
    → (high : ℕ) × (low : ℕ) × (bytes ≡ high ∷ low ∷ found.1) × (found.0 ≡ two_bytes high low)
two_of [] found e = absurd (cc)
two_of (byte ∷ []) found e = absurd (cc)
two_of (high ∷ low ∷ rest) found e =
    let same : ◌≡◌ {A = ℕ × List ℕ} (256 * high + low, rest) found = same_some _ found e in
    (high, low, ap (λ (p : ℕ × List ℕ). high ∷ low ∷ p.1) same, sym (ap (λ (p : ℕ × List ℕ). p.0) same))

-- ---- one item

says_as : (m : Subject) (bytes other : List ℕ) (said found : VType × List ℕ) → bytes ≡ other → said ≡ found → SaysType m bytes said.0 said.1 → SaysType m other found.0 found.1
says_as m bytes other said found e f says =
    subst (λ (b : List ℕ). SaysType m b found.0 found.1) e (subst (λ (p : VType × List ℕ). SaysType m bytes p.0 p.1) f says)

-- an item whose tag is the whole of it
tagged : (m : Subject) (tag number : ℕ) (rest : List ℕ) (type : VType) (found : VType × List ℕ) → eqb tag number ≡ true → ◌≡◌ {A = Option (VType × List ℕ)} (Some (type, rest)) (Some found)
    → SaysType m (number ∷ rest) type rest → SaysType m (tag ∷ rest) found.0 found.1
tagged m tag number rest type found is e says =
    says_as m (number ∷ rest) (tag ∷ rest) (type, rest) found (ap (λ (n : ℕ). n ∷ rest) (sym (eqb-true tag number is))) (same_some (type, rest) found e) says

abbrev object_item : Subject → List ℕ → Option (VType × List ℕ)
object_item m rest = option_and_then (λ index. option_map (λ t. (t, index.1)) (object_type m index.0)) (u2 rest)

object_says : (m : Subject) (tag : ℕ) (rest : List ℕ) (found : VType × List ℕ) → eqb tag 7 ≡ true → object_item m rest ≡ Some found → SaysType m (tag ∷ rest) found.0 found.1
object_says m tag rest found is e =
    let index = both_options (u2 rest) _ found e in
    let type = mapped (object_type m index.0.0) (λ (t : VType). (t, index.0.1)) found index.1.1 in
    let two = two_of rest index.0 index.1.0 in
    let named : object_type m (two_bytes two.0 two.1) ≡ Some type.0 = subst (λ (n : ℕ). object_type m n ≡ Some type.0) two.3 type.1 in
    let bytes : 7 ∷ two.0 ∷ two.1 ∷ index.0.1 ≡ tag ∷ rest = sym (ap (λ (n : ℕ). n ∷ rest) (eqb-true tag 7 is) ∙ ap (λ (r : List ℕ). 7 ∷ r) two.2) in
    says_as m (7 ∷ two.0 ∷ two.1 ∷ index.0.1) (tag ∷ rest) (type.0, index.0.1) found bytes type.2 (object two.0 two.1 index.0.1 type.0 named)

abbrev made_item : Subject → List ℕ → Option (VType × List ℕ)
made_item m rest = option_and_then (λ offset. option_map (λ t. (t, offset.1)) (made_type m offset.0)) (u2 rest)

made_says : (m : Subject) (tag : ℕ) (rest : List ℕ) (found : VType × List ℕ) → eqb tag 8 ≡ true → made_item m rest ≡ Some found → SaysType m (tag ∷ rest) found.0 found.1
made_says m tag rest found is e =
    let offset = both_options (u2 rest) _ found e in
    let type = mapped (made_type m offset.0.0) (λ (t : VType). (t, offset.0.1)) found offset.1.1 in
    let two = two_of rest offset.0 offset.1.0 in
    let made : made_type m (two_bytes two.0 two.1) ≡ Some type.0 = subst (λ (n : ℕ). made_type m n ≡ Some type.0) two.3 type.1 in
    let bytes : 8 ∷ two.0 ∷ two.1 ∷ offset.0.1 ≡ tag ∷ rest = sym (ap (λ (n : ℕ). n ∷ rest) (eqb-true tag 8 is) ∙ ap (λ (r : List ℕ). 8 ∷ r) two.2) in
    says_as m (8 ∷ two.0 ∷ two.1 ∷ offset.0.1) (tag ∷ rest) (type.0, offset.0.1) found bytes type.2 (uninitialized two.0 two.1 offset.0.1 type.0 made)

-- what is read of an item it says
pub item_says : (m : Subject) (bytes : List ℕ) (found : VType × List ℕ) → item m bytes ≡ Some found → SaysType m bytes found.0 found.1
unfolding item
item_says m [] found e = absurd (cc)
item_says m (tag ∷ rest) found e =
    let P : Option (VType × List ℕ) → Type 0 = λ o. o ≡ Some found → SaysType m (tag ∷ rest) found.0 found.1 in
    by_test P (eqb tag 0) _ _ (λ is e. tagged m tag 0 rest Top found is e (top rest))
    (λ not_0. by_test P (eqb tag 1) _ _ (λ is e. tagged m tag 1 rest Int found is e (integer rest))
    (λ not_1. by_test P (eqb tag 5) _ _ (λ is e. tagged m tag 5 rest Null found is e (null rest))
    (λ not_5. by_test P (eqb tag 6) _ _ (λ is e. tagged m tag 6 rest UninitializedThis found is e (uninitialized_this rest))
    (λ not_6. by_test P (eqb tag 7) _ _ (λ is e. object_says m tag rest found is e)
    (λ not_7. by_test P (eqb tag 8) _ _ (λ is e. made_says m tag rest found is e)
    (λ not_8 e. absurd (cc))))))) e

-- what an item says is read of it
pub says_again : (m : Subject) {bytes rest : List ℕ} {type : VType} → SaysType m bytes type rest → item m bytes ≡ Some (type, rest)
unfolding item
says_again m (top rest) = refl
says_again m (integer rest) = refl
says_again m (null rest) = refl
says_again m (uninitialized_this rest) = refl
says_again m (object high low rest type named) = rw named refl
says_again m (uninitialized high low rest type made) = rw made refl

-- the bytes after an item are found without its type
pub says_after : (m : Subject) {bytes rest : List ℕ} {type : VType} → SaysType m bytes type rest → after_item bytes ≡ Some rest
unfolding after_item
says_after m (top rest) = refl
says_after m (integer rest) = refl
says_after m (null rest) = refl
says_after m (uninitialized_this rest) = refl
says_after m (object high low rest type named) = refl
says_after m (uninitialized high low rest type made) = refl

-- ---- n items

-- n items say these types
abbrev pub SayMany : Subject → ℕ → List ℕ → List VType × List ℕ → Type 0
SayMany m n bytes found = SayTypes m bytes found.0 found.1 × (length found.0 ≡ n)

-- what is read of n items they say
pub items_say : (m : Subject) (n : ℕ) (bytes : List ℕ) (found : List VType × List ℕ) → items m n bytes ≡ Some found → SayMany m n bytes found
unfolding items
items_say m zero bytes found e = subst (λ (p : List VType × List ℕ). SayMany m 0 bytes p) (same_some ([], bytes) found e) (none bytes, refl)
items_say m (suc n) bytes found e =
    let first = both_options (item m bytes) _ found e in
    let others = mapped (items m n first.0.1) (λ (o : List VType × List ℕ). (first.0.0 ∷ o.0, o.1)) found first.1.1 in
    let say = items_say m n first.0.1 others.0 others.1 in
    subst (λ (p : List VType × List ℕ). SayMany m (suc n) bytes p) others.2
    (one_more bytes first.0.1 others.0.1 first.0.0 others.0.0 (item_says m bytes first.0 first.1.0) say.0, ap suc say.1)

-- what n items say is read of them
pub types_again : (m : Subject) {bytes rest : List ℕ} {types : List VType} → SayTypes m bytes types rest → items m (length types) bytes ≡ Some (types, rest)
unfolding items
types_again m (none rest) = refl
types_again m (one_more bytes between rest type types first others) = rw (says_again m first, types_again m others) refl

-- the bytes after n items are found without their types
pub types_after : (m : Subject) {bytes rest : List ℕ} {types : List VType} → SayTypes m bytes types rest → after_items (length types) bytes ≡ Some rest
unfolding after_items
types_after m (none rest) = refl
types_after m (one_more bytes between rest type types first others) = rw (says_after m first) (types_after m others)

-- no item says no type
pub say_none : (m : Subject) (bytes rest : List ℕ) (types : List VType) → SayTypes m bytes types rest → length types ≡ 0 → (types ≡ []) × (rest ≡ bytes)
say_none m bytes rest types (none end) e = (refl, refl)
say_none m bytes rest types (one_more b between end type others first more) e = absurd (omega (arith, e))

-- one item says one type
pub say_one : (m : Subject) (bytes rest : List ℕ) (types : List VType) → SayTypes m bytes types rest → length types ≡ 1 → (type : VType) × (types ≡ type ∷ []) × SaysType m bytes type rest
say_one m bytes rest types (none end) e = absurd (omega (arith, e))
say_one m bytes rest types (one_more b between end type others first more) e =
    let last = say_none m between end others more (omega (arith, e)) in
    (type, ap (λ (ts : List VType). type ∷ ts) last.0, subst (λ (r : List ℕ). SaysType m b type r) (sym last.1) first)
