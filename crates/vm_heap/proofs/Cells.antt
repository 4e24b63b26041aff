-- The indices at which the words of an object or an array lie in the heap's row.
use Rattle.std.proofs.Common.{◌≡◌, ℕ, zero, suc, ◌+◌, ◌-◌, ◌<◌, ◌≤◌, List, [], ◌∷◌, ◌++◌, length, map, take, drop, refl, ap, sym, ◌∙◌, arith, append_assoc, length-append, Option, Some, None, slice_get, slice_set, Bool, true, false, nat_eq, nat_lt}
use Rattle.std.specs.Prelude.{ℤ, pos, replicate, if◌then◌else◌, IsSome, option_and_then}
use Rattle.space_ids.specs.declared.ids.ClassId.{ClassId}
use Rattle.vm_heap.specs.declared.heap.WordKind.{WordKind}
use Rattle.std.proofs.lemmas.Bool.{ltb-false, eqb-true}
use Rattle.std.proofs.lemmas.List.{drop_at, take_at}
use Rattle.std.proofs.lemmas.Option.{slice_get_within}
use Rattle.vm_heap.specs.Tagged.{Tagged, Int, Null, Local, Remote, Fresh, This, Unset, Head, OfClass, OfInts, Length, IsInt, int_of, IsFirstHead, class_of_head}
use Rattle.vm_heap.specs.Heap.{Cell, Object, Ints, cost, cell_at, changed_at, spelling, spelled, class_of, field_of, field_at, length_of, length_at, element_of, element_at, with_field, with_element, cell_with_field, cell_with_element, all_cost, default}

pub length-map : {A B : Type 0} (f : A → B) (xs : List A) → length (map f xs) ≡ length xs
length-map f [] = refl
length-map f (x ∷ xs) = ap suc (length-map f xs)

pub length-spelling : (cell : Cell) → length (spelling cell) ≡ cost cell
unfolding spelling cost
length-spelling (Object class fields) = omega arith
length-spelling (Ints elements) = omega (arith, length-map Int elements)

get-before : {A : Type 0} (xs ys : List A) (k : ℕ) → k < length xs → slice_get (xs ++ ys) k ≡ slice_get xs k
get-before [] ys k h = absurd (omega arith)
get-before (x ∷ xs) ys zero h = refl
get-before (x ∷ xs) ys (suc k) h = get-before xs ys k (omega arith)

get-after : {A : Type 0} (xs ys : List A) (k : ℕ) → slice_get (xs ++ ys) (length xs + k) ≡ slice_get ys k
get-after [] ys k = let e : zero + k ≡ k = omega arith in rw e refl
get-after (x ∷ xs) ys k = let e : suc (length xs) + k ≡ suc (length xs + k) = omega arith in rw e (get-after xs ys k)

set-before : {A : Type 0} (xs ys : List A) (k : ℕ) (v : A) → k < length xs → slice_set (xs ++ ys) k v ≡ slice_set xs k v ++ ys
set-before [] ys k v h = absurd (omega arith)
set-before (x ∷ xs) ys zero v h = refl
set-before (x ∷ xs) ys (suc k) v h = ap (λ (zs : _). x ∷ zs) (set-before xs ys k v (omega arith))

set-after : {A : Type 0} (xs ys : List A) (k : ℕ) (v : A) → slice_set (xs ++ ys) (length xs + k) v ≡ xs ++ slice_set ys k v
set-after [] ys k v = let e : zero + k ≡ k = omega arith in rw e refl
set-after (x ∷ xs) ys k v = let e : suc (length xs) + k ≡ suc (length xs + k) = omega arith in rw e (ap (λ (zs : _). x ∷ zs) (set-after xs ys k v))

-- the words of a cell stand in the row from its address on
pub cell_word : (cells : List Cell) (address k : ℕ) (cell : Cell) (v : Tagged) → cell_at cells address ≡ Some cell → slice_get (spelling cell) k ≡ Some v
    → slice_get (spelled cells) (address + k) ≡ Some v
unfolding cell_at spelled
cell_word [] address k cell v e is = absurd (cc)
cell_word (c ∷ cells) address k cell v e is = at_first (λ found. cell_word cells (address - cost c) k cell v found is) (nat_eq address 0) refl e
  where
    later : (cell_at cells (address - cost c) ≡ Some cell → slice_get (spelled cells) (address - cost c + k) ≡ Some v)
        → (b : Bool) → nat_lt address (cost c) ≡ b → (if b then None else cell_at cells (address - cost c)) ≡ Some cell
        → slice_get (spelling c ++ spelled cells) (address + k) ≡ Some v
    later again true lt found = absurd (cc)
    later again false lt found =
        let past : cost c ≤ address = ltb-false address (cost c) lt in
        let there : address + k ≡ length (spelling c) + (address - cost c + k) = omega (arith, length-spelling c) in
        rw there (get-after (spelling c) (spelled cells) (address - cost c + k) ∙ again found)

    at_first : (cell_at cells (address - cost c) ≡ Some cell → slice_get (spelled cells) (address - cost c + k) ≡ Some v)
        → (b : Bool) → nat_eq address 0 ≡ b → (if b then Some c else (if nat_lt address (cost c) then None else cell_at cells (address - cost c))) ≡ Some cell
        → slice_get (spelling c ++ spelled cells) (address + k) ≡ Some v
    at_first again true eq found =
        let same : c ≡ cell = cc in
        let none : address ≡ 0 = eqb-true address 0 eq in
        let there : address + k ≡ k = omega arith in
        let is' : slice_get (spelling c) k ≡ Some v = rw same is in
        rw there (get-before (spelling c) (spelled cells) k (slice_get_within (spelling c) k v is') ∙ is')
    at_first again false eq found = later again (nat_lt address (cost c)) refl found

-- where the words of a cell lie in the row
record Lies (cells : List Cell) (address : ℕ) (cell : Cell) : Type 0 where
  before : List Tagged
  after : List Tagged
  row : spelled cells ≡ before ++ (spelling cell ++ after)
  at : length before ≡ address

lies : (cells : List Cell) (address : ℕ) (cell : Cell) → cell_at cells address ≡ Some cell → Lies cells address cell
unfolding cell_at spelled
lies [] address cell e = absurd (cc)
lies (c ∷ cells) address cell e = at_first (λ found. lies cells (address - cost c) cell found) (nat_eq address 0) refl e
  where
    later : (cell_at cells (address - cost c) ≡ Some cell → Lies cells (address - cost c) cell)
        → (b : Bool) → nat_lt address (cost c) ≡ b → (if b then None else cell_at cells (address - cost c)) ≡ Some cell → Lies (c ∷ cells) address cell
    later again true lt found = absurd (cc)
    later again false lt found =
        let past : cost c ≤ address = ltb-false address (cost c) lt in
        let rest = again found in
        record {
          before = spelling c ++ rest.before;
          after = rest.after;
          row = ap (λ (zs : List Tagged). spelling c ++ zs) rest.row ∙ sym (append_assoc (spelling c) rest.before (spelling cell ++ rest.after));
          at = omega (arith, length-append (spelling c) rest.before, length-spelling c, rest.at);
        }

    at_first : (cell_at cells (address - cost c) ≡ Some cell → Lies cells (address - cost c) cell)
        → (b : Bool) → nat_eq address 0 ≡ b → (if b then Some c else (if nat_lt address (cost c) then None else cell_at cells (address - cost c))) ≡ Some cell
        → Lies (c ∷ cells) address cell
    at_first again true eq found =
        let same : c ≡ cell = cc in
        let none : address ≡ 0 = eqb-true address 0 eq in
        record { before = []; after = spelled cells; row = ap (λ (x : Cell). spelling x ++ spelled cells) same; at = sym none }
    at_first again false eq found = later again (nat_lt address (cost c)) refl found

-- the elements of an array lie after its two first words
pub record Array (cells : List Cell) (address count : ℕ) : Type 0 where
  pub elements : List ℤ
  pub is : cell_at cells address ≡ Some (Ints elements)
  pub read : take count (drop (address + 2) (spelled cells)) ≡ map Int elements
  pub inside : address + 2 + count ≤ length (spelled cells)

array_at : (cells : List Cell) (address : ℕ) (elements : List ℤ) → cell_at cells address ≡ Some (Ints elements) → Array cells address (length elements)
unfolding spelling
array_at cells address elements is =
    let at = lies cells address (Ints elements) is in
    let heads : List Tagged = at.before ++ Head OfInts ∷ Head (Length (length elements)) ∷ [] in
    let row : spelled cells ≡ heads ++ (map Int elements ++ at.after) =
    at.row ∙ sym (append_assoc at.before (Head OfInts ∷ Head (Length (length elements)) ∷ []) (map Int elements ++ at.after)) in
    let two : length heads ≡ address + 2 = omega (arith, length-append at.before (Head OfInts ∷ Head (Length (length elements)) ∷ []), at.at) in
    let long : length (spelled cells) ≡ length heads + (length elements + length at.after) =
    ap length row ∙ omega (arith, length-append heads (map Int elements ++ at.after), length-append (map Int elements) at.after, length-map Int elements) in
    record {
      elements = elements;
      is = is;
      read =
          rw (row, drop_at heads (map Int elements ++ at.after) (address + 2) two)
          (take_at (map Int elements) at.after (length elements) (length-map Int elements));
      inside = omega (arith, long, two);
    }

pub array_lies : (cells : List Cell) (address count : ℕ) → length_at address cells ≡ Some count → Array cells address count
array_lies cells address count e = of (cell_at cells address) refl e
  where
    of : (o : Option Cell) → cell_at cells address ≡ o → option_and_then length_of o ≡ Some count → Array cells address count
    of None is f = absurd (cc)
    of (Some (Object c fields)) is f = absurd (cc)
    of (Some (Ints elements)) is f = let same : length elements ≡ count = cc in rw same at (array_at cells address elements is)

-- a cell of which one word changes
pub cell_set : (change : Cell → Cell) (cells : List Cell) (address k : ℕ) (cell : Cell) (v : Tagged) → cell_at cells address ≡ Some cell
    → k < length (spelling cell) → spelling (change cell) ≡ slice_set (spelling cell) k v
    → spelled (changed_at change address cells) ≡ slice_set (spelled cells) (address + k) v
unfolding cell_at spelled changed_at
cell_set change [] address k cell v e h is = absurd (cc)
cell_set change (c ∷ cells) address k cell v e h is = at_first (λ found. cell_set change cells (address - cost c) k cell v found h is) (nat_eq address 0) refl e
  where
    later : (cell_at cells (address - cost c) ≡ Some cell → spelled (changed_at change (address - cost c) cells) ≡ slice_set (spelled cells) (address - cost c + k) v)
        → (b : Bool) → nat_lt address (cost c) ≡ b → (if b then None else cell_at cells (address - cost c)) ≡ Some cell
        → spelling c ++ spelled (changed_at change (address - cost c) cells) ≡ slice_set (spelling c ++ spelled cells) (address + k) v
    later again true lt found = absurd (cc)
    later again false lt found =
        let past : cost c ≤ address = ltb-false address (cost c) lt in
        let there : address + k ≡ length (spelling c) + (address - cost c + k) = omega (arith, length-spelling c) in
        rw there (ap (λ (zs : List Tagged). spelling c ++ zs) (again found)
        ∙ sym (set-after (spelling c) (spelled cells) (address - cost c + k) v))

    at_first : (cell_at cells (address - cost c) ≡ Some cell → spelled (changed_at change (address - cost c) cells) ≡ slice_set (spelled cells) (address - cost c + k) v)
        → (b : Bool) → nat_eq address 0 ≡ b → (if b then Some c else (if nat_lt address (cost c) then None else cell_at cells (address - cost c))) ≡ Some cell
        → spelled (if b then change c ∷ cells else c ∷ changed_at change (address - cost c) cells) ≡ slice_set (spelling c ++ spelled cells) (address + k) v
    at_first again true eq found =
        let same : c ≡ cell = cc in
        let none : address ≡ 0 = eqb-true address 0 eq in
        let there : address + k ≡ k = omega arith in
        let is' : spelling (change c) ≡ slice_set (spelling c) k v = rw same is in
        let h' : k < length (spelling c) = rw same h in
        rw there (ap (λ (zs : List Tagged). zs ++ spelled cells) is' ∙ sym (set-before (spelling c) (spelled cells) k v h'))
    at_first again false eq found = later again (nat_lt address (cost c)) refl found

-- what stands at an address
pub record Stands (cells : List Cell) (address k : ℕ) (v : Tagged) : Type 0 where
  pub read : slice_get (spelled cells) (address + k) ≡ Some v
  pub inside : address + k < length (spelled cells)

stands : (cells : List Cell) (address k : ℕ) (cell : Cell) (v : Tagged) → cell_at cells address ≡ Some cell → slice_get (spelling cell) k ≡ Some v → Stands cells address k v
stands cells address k cell v e is =
    let read : slice_get (spelled cells) (address + k) ≡ Some v = cell_word cells address k cell v e is in
    record { read = read; inside = slice_get_within (spelled cells) (address + k) v read }

-- the first word of an object or an array
pub first_of : Cell → Tagged
first_of (Object class fields) = Head (OfClass class)
first_of (Ints elements) = Head OfInts

first_in : (cell : Cell) → slice_get (spelling cell) 0 ≡ Some (first_of cell)
unfolding spelling first_of
first_in (Object class fields) = refl
first_in (Ints elements) = refl

pub first_stands : (cells : List Cell) (address : ℕ) (cell : Cell) → cell_at cells address ≡ Some cell → Stands cells address 0 (first_of cell)
first_stands cells address cell is = stands cells address 0 cell (first_of cell) is (first_in cell)

pub first_is : (cell : Cell) → IsFirstHead (first_of cell)
unfolding first_of
first_is (Object class fields) = tt
first_is (Ints elements) = tt

pub class_first : (cell : Cell) → class_of_head (first_of cell) ≡ class_of cell
unfolding first_of
class_first (Object class fields) = refl
class_first (Ints elements) = refl

pub field_stands : (cells : List Cell) (address slot : ℕ) (v : Tagged) → field_at address slot cells ≡ Some v → Stands cells address (suc slot) v
unfolding spelling
field_stands cells address slot v e = of (cell_at cells address) refl e
  where
    of : (o : Option Cell) → cell_at cells address ≡ o → option_and_then (field_of slot) o ≡ Some v → Stands cells address (suc slot) v
    of None is f = absurd (cc)
    of (Some (Object c fields)) is f = stands cells address (suc slot) (Object c fields) v is f
    of (Some (Ints elements)) is f = absurd (cc)

pub length_stands : (cells : List Cell) (address n : ℕ) → length_at address cells ≡ Some n → Stands cells address 1 (Head (Length n))
unfolding spelling
length_stands cells address n e = of (cell_at cells address) refl e
  where
    of : (o : Option Cell) → cell_at cells address ≡ o → option_and_then length_of o ≡ Some n → Stands cells address 1 (Head (Length n))
    of None is f = absurd (cc)
    of (Some (Object c fields)) is f = absurd (cc)
    of (Some (Ints elements)) is f = let same : length elements ≡ n = cc in stands cells address 1 (Ints elements) (Head (Length n)) is (rw same refl)

get-map : (elements : List ℤ) (index : ℕ) (n : ℤ) → slice_get elements index ≡ Some n → slice_get (map Int elements) index ≡ Some (Int n)
get-map [] index n e = absurd (cc)
get-map (i ∷ elements) zero n e = let same : i ≡ n = cc in rw same refl
get-map (i ∷ elements) (suc index) n e = get-map elements index n e

set-map : (elements : List ℤ) (index : ℕ) (n : ℤ) → map Int (slice_set elements index n) ≡ slice_set (map Int elements) index (Int n)
set-map [] index n = refl
set-map (i ∷ elements) zero n = refl
set-map (i ∷ elements) (suc index) n = ap (λ (zs : List Tagged). Int i ∷ zs) (set-map elements index n)

pub length-set : {A : Type 0} (xs : List A) (at : ℕ) (x : A) → length (slice_set xs at x) ≡ length xs
length-set [] at x = refl
length-set (y ∷ xs) zero x = refl
length-set (y ∷ xs) (suc at) x = ap suc (length-set xs at x)

pub element_stands : (cells : List Cell) (address index : ℕ) (n : ℤ) → element_at address index cells ≡ Some n → Stands cells address (suc (suc index)) (Int n)
unfolding spelling
element_stands cells address index n e = of (cell_at cells address) refl e
  where
    of : (o : Option Cell) → cell_at cells address ≡ o → option_and_then (element_of index) o ≡ Some n → Stands cells address (suc (suc index)) (Int n)
    of None is f = absurd (cc)
    of (Some (Object c fields)) is f = absurd (cc)
    of (Some (Ints elements)) is f = stands cells address (suc (suc index)) (Ints elements) (Int n) is (get-map elements index n f)

pub field_written : (cells : List Cell) (address slot : ℕ) (v was : Tagged) → field_at address slot cells ≡ Some was
    → spelled (with_field address slot v cells) ≡ slice_set (spelled cells) (address + suc slot) v
unfolding spelling
field_written cells address slot v was e = of (cell_at cells address) refl e
  where
    of : (o : Option Cell) → cell_at cells address ≡ o → option_and_then (field_of slot) o ≡ Some was
        → spelled (with_field address slot v cells) ≡ slice_set (spelled cells) (address + suc slot) v
    of None is f = absurd (cc)
    of (Some (Object c fields)) is f =
        let there : slot < length fields = slice_get_within fields slot was f in
        cell_set (cell_with_field slot v) cells address (suc slot) (Object c fields) v is (omega arith) refl
    of (Some (Ints elements)) is f = absurd (cc)

pub element_written : (cells : List Cell) (address index : ℕ) (n was : ℤ) → element_at address index cells ≡ Some was
    → spelled (with_element address index n cells) ≡ slice_set (spelled cells) (address + suc (suc index)) (Int n)
unfolding spelling
element_written cells address index n was e = of (cell_at cells address) refl e
  where
    of : (o : Option Cell) → cell_at cells address ≡ o → option_and_then (element_of index) o ≡ Some was
        → spelled (with_element address index n cells) ≡ slice_set (spelled cells) (address + suc (suc index)) (Int n)
    of None is f = absurd (cc)
    of (Some (Object c fields)) is f = absurd (cc)
    of (Some (Ints elements)) is f =
        let there : index < length elements = slice_get_within elements index was f in
        cell_set (cell_with_element index n) cells address (suc (suc index)) (Ints elements) (Int n) is (omega (arith, length-map Int elements))
        (rw (length-set elements index n, set-map elements index n) refl)

pub length-replicate : {A : Type 0} (n : ℕ) (x : A) → length (replicate n x) ≡ n
length-replicate zero x = refl
length-replicate (suc n) x = ap suc (length-replicate n x)

-- what is there
pub some : {A : Type 0} (o : Option A) → IsSome o → (x : A) × (o ≡ Some x)
some None h = absurd (cc)
some (Some x) h = (x, refl)

-- what was read at an index
pub read_is : (values : List Tagged) (cells : List Cell) (address k index : ℕ) (v r : Tagged) → values ≡ spelled cells → Stands cells address k v
    → index ≡ address + k → slice_get values index ≡ Some r → r ≡ v
read_is values cells address k index v r row there where_is is =
    let read : slice_get values index ≡ Some v = rw (row, where_is) there.read in
    let both : Path (Option Tagged) (Some r) (Some v) = sym is ∙ read in
    cc

-- that index lies in the row
pub read_in : (values : List Tagged) (cells : List Cell) (address k : ℕ) (v : Tagged) → values ≡ spelled cells → Stands cells address k v → address + k < length values
read_in values cells address k v row there = rw row there.inside

-- an int is that of its number
pub int_is : (v : Tagged) → IsInt v → v ≡ Int (int_of v)
int_is (Int n) is = refl
int_is Null is = absurd is
int_is (Local a) is = absurd is
int_is (Remote row) is = absurd is
int_is (Fresh o a) is = absurd is
int_is (This a) is = absurd is
int_is Unset is = absurd is
int_is (Head header) is = absurd is

-- the row with one more cell
pub spelled-add : (cells : List Cell) (cell : Cell) → spelled (cells ++ cell ∷ []) ≡ spelled cells ++ spelling cell
unfolding spelled
spelled-add [] cell = append-none (spelling cell)
  where
    append-none : (xs : List Tagged) → xs ++ [] ≡ xs
    append-none [] = refl
    append-none (x ∷ xs) = ap (λ (zs : List Tagged). x ∷ zs) (append-none xs)
spelled-add (c ∷ cells) cell = ap (λ (zs : List Tagged). spelling c ++ zs) (spelled-add cells cell) ∙ sym (append_assoc (spelling c) (spelled cells) (spelling cell))

pub length-spelled : (cells : List Cell) → length (spelled cells) ≡ all_cost cells
unfolding spelled all_cost
length-spelled [] = refl
length-spelled (c ∷ cells) = omega (arith, length-append (spelling c) (spelled cells), length-spelling c, length-spelled cells)

pub cost-object : (class : ClassId) (kinds : List WordKind) → cost (Object class (map default kinds)) ≡ length kinds + 1
unfolding cost
cost-object class kinds = omega (arith, length-map default kinds)

pub cost-elements : (elements : List ℤ) → cost (Ints elements) ≡ length elements + 2
unfolding cost
cost-elements elements = omega arith

pub cost-ints : (count : ℕ) → cost (Ints (replicate count (pos 0))) ≡ count + 2
cost-ints count = omega (arith, cost-elements (replicate count (pos 0)), length-replicate count (pos 0))

-- what was added is the new object, or array
pub object_added : (values : List Tagged) (cells : List Cell) (class : ClassId) (fields : List Tagged) → values ≡ spelled cells
    → (values ++ Head (OfClass class) ∷ []) ++ fields ≡ spelled (cells ++ Object class fields ∷ [])
unfolding spelling
object_added values cells class fields row = rw row (append_assoc (spelled cells) (Head (OfClass class) ∷ []) fields ∙ sym (spelled-add cells (Object class fields)))

pub copy_added : (values : List Tagged) (cells : List Cell) (count : ℕ) (elements : List ℤ) → count ≡ length elements → values ≡ spelled cells
    → ((values ++ Head OfInts ∷ []) ++ Head (Length count) ∷ []) ++ map Int elements ≡ spelled (cells ++ Ints elements ∷ [])
unfolding spelling
copy_added values cells count elements n row =
    rw row
    (append_assoc (spelled cells ++ Head OfInts ∷ []) (Head (Length count) ∷ []) (map Int elements)
    ∙ (append_assoc (spelled cells) (Head OfInts ∷ []) (Head (Length count) ∷ map Int elements)
    ∙ (ap (λ (k : ℕ). spelled cells ++ Head OfInts ∷ Head (Length k) ∷ map Int elements) n
    ∙ sym (spelled-add cells (Ints elements)))))

pub ints_added : (values : List Tagged) (cells : List Cell) (count : ℕ) → values ≡ spelled cells
    → ((values ++ Head OfInts ∷ []) ++ Head (Length count) ∷ []) ++ map Int (replicate count (pos 0)) ≡ spelled (cells ++ Ints (replicate count (pos 0)) ∷ [])
ints_added values cells count row = copy_added values cells count (replicate count (pos 0)) (sym (length-replicate count (pos 0))) row

pub length-added : (cells : List Cell) (cell : Cell) → length (spelled (cells ++ cell ∷ [])) ≡ length (spelled cells) + cost cell
length-added cells cell = rw (spelled-add cells cell) (omega (arith, length-append (spelled cells) (spelling cell), length-spelling cell))
