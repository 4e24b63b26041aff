-- The methods that a class declares and inherits, one method after the other.
use Rattle.std.proofs.Common.{◌≡◌, ◌⊎◌, inl, inr, ℕ, zero, suc, ◌+◌, ◌-◌, ◌<◌, ◌%◌, ◌/◌, Bool, true, false, Option, Some, None, List, [], ◌∷◌, length, get_or, drop, take, refl, sym, subst, ap, ◌∙◌, arith}
use Rattle.std.specs.Prelude.{◌==◌, ◌&&◌, bytes_eq, if◌then◌else◌, nat_eq, option_and_then, option_map, slice_get}
use Rattle.std.specs.Option.{option_map_or}
use Rattle.std.proofs.lemmas.Bool.Decides.{nat_tests}
use Rattle.std.proofs.lemmas.List.{drop_more}
use Rattle.std.proofs.lemmas.Option.{get_or_from_slice_get, slice_get_cases, slice_get_within}
use Rattle.cls_link.proofs.MethodNumbers.{number_by_index}
use Rattle.cls_link.specs.Links.{declared_from, method_at, number_of}
use Rattle.cls_link.specs.Selections.{instance_method, is_static}
use Rattle.cls_link.specs.declared.linked_code.MethodId.{MethodId}
use Rattle.cls_search.specs.MethodSearches.{first_from, method_in}
use Rattle.cls_link.specs.Numbers.{number_in}
use Rattle.cls_set.proofs.Hierarchy.{same_read}
use Rattle.cf_reader.specs.declared.class_file.Method.{Method}
use Rattle.cls_set.specs.declared.class.Class.{Class}
use Rattle.space_ids.specs.declared.ids.ClassId.{ClassId}
use Rattle.cls_tables.proofs.Grown.{find_on}
use Rattle.cls_search.proofs.Found.{up_none, up_superclass}
use Rattle.cls_search.specs.Searches as searches
use Rattle.cls_tables.specs.Choices.{code_or, first_code, own_code, AreKeys, IsChosen}
use Rattle.cls_tables.specs.Kinds.{Starts}
use Rattle.cls_tables.specs.Numbers.{is_same}
use Rattle.cls_tables.specs.Trees.{agree, child, find, IsTree}
use Rattle.cls_tables.specs.declared.trees.Node.{Node}

cases : (b : Bool) → (b ≡ true) ⊎ (b ≡ false)
cases true = inl refl
cases false = inr refl

both : (a b : Bool) → (a && b) ≡ true → (a ≡ true) × (b ≡ true)
both true true e = (refl, refl)
both true false e = absurd (let h : false ≡ true = e in cc)
both false b e = absurd (let h : false ≡ true = e in cc)

nat_is : (m n : ℕ) → nat_eq m n ≡ true → m ≡ n
nat_is m n e = grind (arith, nat_tests)

-- keys that agree find the same
pub find_agree : (nodes : List Node) (levels root a b : ℕ) → agree levels a b ≡ true → find nodes levels root a ≡ find nodes levels root b
find_agree nodes zero root a b e = refl
find_agree nodes (suc levels) root a b e =
    let p = both (nat_eq (a % 2) (b % 2)) (agree levels (a / 2) (b / 2)) e in
    let bit = nat_is (a % 2) (b % 2) p.0 in
    find_agree nodes levels (child (slice_get nodes root) a) (a / 2) (b / 2) p.1
    ∙ ap (λ i. find nodes levels i (b / 2)) (child_same (slice_get nodes root) a b bit)
  where
    child_same : (o : Option Node) (a b : ℕ) → a % 2 ≡ b % 2 → child o a ≡ child o b
    child_same None a b e = refl
    child_same (Some node) a b e = ap (λ x. if x == 0 then node.even else node.odd) e

-- the number of the first method that a class declares with a name and a descriptor, from this index on
abbrev pub number_first : List Class → ClassId → List Method → ℕ → Method → Option MethodId
number_first classes class ms i m = option_map (λ j. record { 0 = length (declared_from 0 (take class.0 classes)) + j }) (first_from i (drop i ms) m.name m.descriptor)

one_more : (i : ℕ) → i + 1 ≡ suc i
one_more i = omega arith

place_next : (ms : List Method) (i : ℕ) (own : Method) (n t : List ℕ) → i < length ms → own ≡ get_or ms i own
    → first_from i (drop i ms) n t ≡ (if bytes_eq own.name n && bytes_eq own.descriptor t then Some i else first_from (suc i) (drop (suc i) ms) n t)
place_next ms i own n t inside is =
    ap (λ xs. first_from i xs n t) (drop_more ms i own inside ∙ (ap (λ x. x ∷ drop (i + 1) ms) (sym is) ∙ ap (λ k. own ∷ drop k ms) (one_more i)))

-- the methods of a class
abbrev pub methods_in : List Class → ClassId → List Method
methods_in classes class = option_map_or (λ (c : Class). c.file.methods) (slice_get classes class.0) []

-- what is so of the tree of a class, where its methods from this index on are in it
abbrev pub IsSoFar : List Class → ℕ → List ℕ → ClassId → List Method → List Node → List Node → ℕ → ℕ → ℕ → Type 0
IsSoFar classes levels keys class ms old nodes above root i =
    (id : MethodId) (m : Method) → method_at classes id ≡ Some m
    → find nodes levels root (get_or keys id.0 0) ≡ first_code classes (number_first classes class ms i m) (find old levels above (get_or keys id.0 0))

pub so_at_first : (classes : List Class) (levels : ℕ) (keys : List ℕ) (class : ClassId) (ms : List Method) (old : List Node) (above n : ℕ) → n ≡ length ms
    → drop n ms ≡ [] → IsSoFar classes levels keys class ms old old above above n
so_at_first classes levels keys class ms old above n long none id m at =
    ap (λ xs. first_code classes (option_map (λ j. record { 0 = length (declared_from 0 (take class.0 classes)) + j }) (first_from n xs m.name m.descriptor)) (find old levels above (get_or keys id.0 0))) (sym none)

pub so_next : (classes : List Class) (levels : ℕ) (keys : List ℕ) (class : ClassId) (ms : List Method) (old mid new : List Node) (above root made i : ℕ) (own : MethodId) (m : Method) (key value : ℕ)
    → AreKeys classes levels keys → i < length ms → m ≡ get_or ms i m → method_at classes own ≡ Some m → own.0 ≡ length (declared_from 0 (take class.0 classes)) + i
    → key ≡ get_or keys own.0 0 → value ≡ own_code classes own (find mid levels above key) → Starts old mid → IsTree old levels above
    → ((k : ℕ) → find new levels made k ≡ (if agree levels k key then value else find mid levels root k))
    → IsSoFar classes levels keys class ms old mid above root (suc i) → IsSoFar classes levels keys class ms old new above made i
so_next classes levels keys class ms old mid new above root made i own m key value told inside is at number key_is value_is on tree found so id other there =
    let x = get_or keys id.0 0 in
    let inherited = find old levels above x in
    let same : agree levels x key ≡ is_same other m = ap (agree levels x) key_is ∙ told.told id own other m there at in
    let index = place_next ms i m other.name other.descriptor inside is in
    let start = length (declared_from 0 (take class.0 classes)) in
    let code = λ (o : Option ℕ). first_code classes (option_map (λ j. record { 0 = start + j }) o) inherited in
    elim (cases (is_same other m)) [
      | inl alike ↦
          let agrees = same ∙ alike in
          let from : find mid levels above key ≡ inherited = find_on on levels above key tree ∙ sym (find_agree old levels above x key agrees) in
          found x
          ∙ (ap (λ b. if b then value else find mid levels root x) agrees
          ∙ (value_is
          ∙ (ap (own_code classes own) from
          ∙ (ap (λ n. own_code classes (record { 0 = n }) inherited) number
          ∙ sym (ap code index ∙ ap (λ b. code (if b then Some i else first_from (suc i) (drop (suc i) ms) other.name other.descriptor)) alike)))))
      | inr unlike ↦
          found x
          ∙ (ap (λ b. if b then value else find mid levels root x) (same ∙ unlike)
          ∙ (so id other there
          ∙ sym (ap code index ∙ ap (λ b. code (if b then Some i else first_from (suc i) (drop (suc i) ms) other.name other.descriptor)) unlike)))
    ]

-- a method that is added as the code adds it: the next one to the front
pub record IsAdded (classes : List Class) (class : ClassId) (keys : List ℕ) (index : ℕ) (own : MethodId) (key : ℕ) : Type 0 where
  pub m : Method
  pub inside : index < length (methods_in classes class)
  pub is : m ≡ get_or (methods_in classes class) index m
  pub at : method_at classes own ≡ Some m
  pub number : own.0 ≡ length (declared_from 0 (take class.0 classes)) + index
  pub key_is : key ≡ get_or keys own.0 0

methods_are : (classes : List Class) (class : ClassId) (c : Class) → slice_get classes class.0 ≡ Some c → methods_in classes class ≡ c.file.methods
methods_are classes class c at = ap (λ (o : Option Class). option_map_or (λ (c : Class). c.file.methods) o []) at

pub is_added : (classes : List Class) (class : ClassId) (c : Class) (keys : List ℕ) (ms : List Method) (count index : ℕ) (own : MethodId) (key : ℕ) → slice_get classes class.0 ≡ Some c
    → ms ≡ c.file.methods → index < length ms → length keys ≡ count → own.0 < count → method_at classes own ≡ method_in classes (record { class = class; index = index })
    → own ≡ number_in classes (record { class = class; index = index }) → key ≡ get_or keys own.0 key → IsAdded classes class keys index own key
is_added classes class c keys ms count index own key at same inside one_each low there number is =
    let all = methods_are classes class c at in
    elim (slice_get_cases c.file.methods index).1 [
      | inl r ↦ record {
        m = r.0;
        inside = subst (λ xs. index < length xs) (sym all) r.1;
        is = sym r.3 ∙ ap (λ xs. get_or xs index r.0) (sym all);
        at = there ∙ (ap (option_and_then (λ (c : Class). slice_get c.file.methods index)) at ∙ r.2);
        number = ap (λ (id : MethodId). id.0) number;
        key_is = is ∙ same_read keys own.0 key 0 (omega (arith, one_each, low));
      }
      | inr r ↦ absurd (let long = ap length same in let over = r.0 in omega (arith, long, over, inside))
    ]

pub so_added : (classes : List Class) (levels : ℕ) (keys : List ℕ) (class : ClassId) (old mid new : List Node) (above root made n : ℕ) (own : MethodId) (key from value : ℕ)
    → AreKeys classes levels keys → 0 < n → IsAdded classes class keys (n - 1) own key → from ≡ find mid levels above key → value ≡ own_code classes own from → Starts old mid → IsTree old levels above
    → ((k : ℕ) → find new levels made k ≡ (if agree levels k key then value else find mid levels root k))
    → IsSoFar classes levels keys class (methods_in classes class) old mid above root n → IsSoFar classes levels keys class (methods_in classes class) old new above made (n - 1)
so_added classes levels keys class old mid new above root made n own key from value told more is inherited value_is on tree found so =
    let same : n ≡ suc (n - 1) = omega (arith, more) in
    so_next classes levels keys class (methods_in classes class) old mid new above root made (n - 1) own is.m key value told is.inside is.is is.at is.number is.key_is
    (value_is ∙ ap (own_code classes own) inherited) on tree found
    (subst (IsSoFar classes levels keys class (methods_in classes class) old mid above root) same so)

-- when all are in it
pub so_at_last : (classes : List Class) (levels : ℕ) (keys : List ℕ) (class : ClassId) (c : Class) (old nodes : List Node) (above root n : ℕ) → slice_get classes class.0 ≡ Some c → n ≡ 0
    → IsSoFar classes levels keys class (methods_in classes class) old nodes above root n → (id : MethodId) (m : Method) → method_at classes id ≡ Some m
    → find nodes levels root (get_or keys id.0 0) ≡ code_or (instance_method classes m.name m.descriptor class) (find old levels above (get_or keys id.0 0))
so_at_last classes levels keys class c old nodes above root n at none so id m there =
    let inherited = find old levels above (get_or keys id.0 0) in
    let here = number_by_index classes class c m.name m.descriptor (slice_get_within classes class.0 c at) (sym (get_or_from_slice_get classes class.0 c c at)) in
    so id m there
    ∙ (ap (λ k. first_code classes (number_first classes class (methods_in classes class) k m) inherited) none
    ∙ (ap (λ ms. first_code classes (number_first classes class ms 0 m) inherited) (methods_are classes class c at)
    ∙ (ap (λ o. first_code classes o inherited) (sym here) ∙ either (number_of classes class m.name m.descriptor) inherited)))
  where
    pick : (id : MethodId) (b : Bool) (inherited : ℕ) → (if b then inherited else suc id.0) ≡ code_or (if b then None else Some id) inherited
    pick id true inherited = refl
    pick id false inherited = refl

    either : (o : Option MethodId) (inherited : ℕ) → first_code classes o inherited
        ≡ code_or (option_and_then (λ id. if option_map_or is_static (method_at classes id) true then None else Some id) o) inherited
    either None inherited = refl
    either (Some id) inherited = pick id (option_map_or is_static (method_at classes id) true) inherited

-- what a class selects is its own, or what its superclass selects
pub chosen_below : (classes : List Class) (class superclass : ClassId) (c : Class) (m : Method) (code inherited : ℕ) → slice_get classes class.0 ≡ Some c → c.superclass ≡ Some superclass
    → code ≡ code_or (instance_method classes m.name m.descriptor class) inherited → IsChosen classes superclass m inherited → IsChosen classes class m code
chosen_below classes class superclass c m code inherited at up is above = by (instance_method classes m.name m.descriptor class) refl
  where
    by : (o : Option MethodId) → instance_method classes m.name m.descriptor class ≡ o → IsChosen classes class m code
    by None e = record {
      found = above.found;
      search = up_superclass classes (instance_method classes m.name m.descriptor) class c at superclass above.found e up above.search;
      is = is ∙ (ap (λ o. code_or o inherited) e ∙ above.is);
    }
    by (Some id) e = record { found = Some id; search = searches.Finds.here class [] id e; is = is ∙ ap (λ o. code_or o inherited) e }

pub chosen_root : (classes : List Class) (class : ClassId) (c : Class) (m : Method) (code inherited : ℕ) → slice_get classes class.0 ≡ Some c → c.superclass ≡ None
    → code ≡ code_or (instance_method classes m.name m.descriptor class) inherited → inherited ≡ 0 → IsChosen classes class m code
chosen_root classes class c m code inherited at root is none = by (instance_method classes m.name m.descriptor class) refl
  where
    by : (o : Option MethodId) → instance_method classes m.name m.descriptor class ≡ o → IsChosen classes class m code
    by None e = record {
      found = None;
      search = up_none classes (instance_method classes m.name m.descriptor) class c at e root;
      is = is ∙ (ap (λ o. code_or o inherited) e ∙ none);
    }
    by (Some id) e = record { found = Some id; search = searches.Finds.here class [] id e; is = is ∙ ap (λ o. code_or o inherited) e }
