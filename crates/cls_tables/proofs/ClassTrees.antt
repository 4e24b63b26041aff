-- The trees of what classes select, one class after the other.
use Rattle.std.proofs.Common.{◌≡◌, inl, inr, ℕ, ◌+◌, ◌<◌, ◌++◌, Bool, true, false, Option, Some, None, List, [], ◌∷◌, length, get_or, set, refl, sym, subst, ap, ◌∙◌, arith}
use Rattle.std.specs.Prelude.{if◌then◌else◌, option_and_then, option_map, slice_get, IfSome}
use Rattle.std.specs.Option.{option_map_or}
use Rattle.std.specs.List.{AllZip}
use Rattle.std.proofs.lemmas.List.{get_or_append_left, length-append, length-set}
use Rattle.std.proofs.Math.Seq.{get_or-append_seam}
use Rattle.std.proofs.lemmas.Option.{slice_get-get_or, slice_get_cases}
use Rattle.cls_set.proofs.Walks.{before}
use Rattle.cf_reader.specs.declared.class_file.Method.{Method}
use Rattle.cls_set.specs.declared.class.Class.{Class}
use Rattle.space_ids.specs.declared.ids.ClassId.{ClassId}
use Rattle.cls_search.proofs.Found.{found_own}
use Rattle.cls_search.specs.Searches.{Finds, superclass_of}
use Rattle.cls_link.proofs.MethodNumbers.{zip_length}
use Rattle.cls_link.specs.Links.{declared_methods, method_at, number_of, AreLinks, Declared, IsLinked, Links}
use Rattle.cls_link.specs.Selections.{instance_method, is_static}
use Rattle.cls_link.specs.declared.linked_code.LinkedMethod.{LinkedMethod}
use Rattle.cls_link.specs.declared.linked_code.MethodId.{MethodId}
use Rattle.cls_tables.proofs.Chosen.{chosen_below, chosen_root}
use Rattle.cls_tables.proofs.Grown.{find_empty, find_on, tree_on}
use Rattle.cls_tables.proofs.KindRows.{either, get_set_other, get_set_same, same_some, some_none}
use Rattle.cls_tables.proofs.Numbered.{method_within}
use Rattle.cls_tables.specs.Choices.{code_of, code_or, HasChoices, HaveChoices, HaveSome, IsAbove, IsChosen, IsSelected}
use Rattle.cls_tables.specs.Kinds.{Starts}
use Rattle.cls_tables.specs.Trees.{find, IsTree}
use Rattle.cls_tables.specs.declared.trees.Node.{Node}

module _ (classes : List Class) (levels : ℕ) (keys : List ℕ) where
  choices_on : (class : ClassId) (old new : List Node) (root : ℕ) → HasChoices classes levels keys class old root → Starts old new → HasChoices classes levels keys class new root
  choices_on class old new root has on = record {
    tree = tree_on on levels root has.tree;
    chosen = λ id m at. subst (IsChosen classes class m) (sym (find_on on levels root (get_or keys id.0 0) has.tree)) (has.chosen id m at);
  }

  -- what a class declares stands in its tree, beside what it inherits
  pub choices_made : (class : ClassId) (old new : List Node) (above root : ℕ) → IsAbove classes levels keys class old above → IsTree new levels root
      → ((id : MethodId) (m : Method) → method_at classes id ≡ Some m → find new levels root (get_or keys id.0 0) ≡ code_or (instance_method classes m.name m.descriptor class) (find old levels above (get_or keys id.0 0)))
      → HasChoices classes levels keys class new root
  choices_made class old new above root inherits tree own = record {
    tree = tree;
    chosen = λ id m at. inherits.inherited id m (find new levels root (get_or keys id.0 0)) at (own id m at);
  }

  -- the tree of a class is noted
  pub noted : (class : ClassId) (old new : List Node) (memo : List (Option ℕ)) (i root : ℕ) → HaveSome classes levels keys old memo → Starts old new → i ≡ class.0 → class.0 < length classes
      → HasChoices classes levels keys class new root → HaveSome classes levels keys new (set memo i (Some root))
  noted class old new memo i root have on same inside is =
      let one_each = have.one_each in
      record {
        one_each = length-set memo i (Some root) ∙ one_each;
        choices = λ other r at.
            elim (either other.0 i) [
              | inl e ↦
                  let here : slice_get (set memo i (Some root)) other.0 ≡ Some (Some root) = ap (slice_get (set memo i (Some root))) e ∙ get_set_same memo i (Some root) (omega (arith, same, inside, one_each)) in
                  let r_is : root ≡ r = same_some (same_some (sym here ∙ at)) in
                  subst (HasChoices classes levels keys other new) r_is (subst (λ n. HasChoices classes levels keys (record { 0 = n }) new root) (sym (e ∙ same)) is)
              | inr ne ↦ choices_on other old new r (have.choices other r (sym (get_set_other memo i other.0 (Some root) ne) ∙ at)) on
            ];
      }

  -- a class whose tree was made before
  pub made_before : (class : ClassId) (nodes : List Node) (memo : List (Option ℕ)) (i : ℕ) (o : Option ℕ) (root : ℕ) → HaveSome classes levels keys nodes memo → class.0 < length classes
      → i ≡ class.0 → o ≡ get_or memo i o → o ≡ Some root → HasChoices classes levels keys class nodes root
  made_before class nodes memo i o root have inside same at is =
      let one_each = have.one_each in
      have.choices class root
      (slice_get-get_or memo class.0 o (omega (arith, inside, one_each)) ∙ ap (λ x. Some x) (ap (λ n. get_or memo n o) (sym same) ∙ (sym at ∙ is)))

  pub none_made : (nodes : List Node) (memo : List (Option ℕ)) → length memo ≡ length classes → ((i : ℕ) (o : Option ℕ) → slice_get memo i ≡ Some o → o ≡ None) → HaveSome classes levels keys nodes memo
  none_made nodes memo long none = record { one_each = long; choices = λ class root at. absurd (some_none (none class.0 (Some root) at)) }

  -- what a class inherits is what its superclass selects
  pub above_superclass : (class superclass : ClassId) (c : Class) (nodes : List Node) (above : ℕ) → slice_get classes class.0 ≡ Some c → c.superclass ≡ Some superclass
      → HasChoices classes levels keys superclass nodes above → IsAbove classes levels keys class nodes above
  above_superclass class superclass c nodes above at up has = record {
    inherited = λ id m code there is. chosen_below classes class superclass c m code (find nodes levels above (get_or keys id.0 0)) at up is (has.chosen id m there);
  }

  -- a class without a superclass inherits nothing
  pub above_root : (class : ClassId) (c : Class) (nodes : List Node) → slice_get classes class.0 ≡ Some c → c.superclass ≡ None → slice_get nodes 0 ≡ Some (record { even = 0; odd = 0 })
      → IsAbove classes levels keys class nodes 0
  above_root class c nodes at root empty = record {
    inherited = λ id m code there is. chosen_root classes class c m code (find nodes levels 0 (get_or keys id.0 0)) at root is (find_empty nodes levels (get_or keys id.0 0) empty);
  }

  -- a class more
  pub root_added : (old new : List Node) (roots more : List ℕ) (k root : ℕ) → length roots ≡ k → Starts old new
      → ((class : ClassId) → class.0 < k → HasChoices classes levels keys class old (get_or roots class.0 0)) → HasChoices classes levels keys (record { 0 = k }) new root → more ≡ roots ++ root ∷ []
      → (length more ≡ k + 1) × ((class : ClassId) → class.0 < k + 1 → HasChoices classes levels keys class new (get_or more class.0 0))
  root_added old new roots more k root long on so_far is pushed = (
    (let all = ap length pushed in let one = length-append roots (root ∷ []) in omega (arith, all, one, long)),
    λ class low.
        elim (before class.0 k) [
          | inl less ↦
              subst (HasChoices classes levels keys class new) (sym (ap (λ xs. get_or xs class.0 0) pushed ∙ get_or_append_left roots (root ∷ []) 0 class.0 (omega (arith, less, long))))
              (choices_on class old new (get_or roots class.0 0) (so_far class less) on)
          | inr least ↦
              let same : k ≡ class.0 = omega (arith, least, low) in
              let last : class.0 ≡ length roots = omega (arith, same, long) in
              let e : get_or more class.0 0 ≡ root = ap (λ xs. get_or xs class.0 0) pushed ∙ (ap (λ i. get_or (roots ++ root ∷ []) i 0) last ∙ get_or-append_seam roots root [] 0) in
              subst (HasChoices classes levels keys class new) (sym e) (subst (λ i. HasChoices classes levels keys (record { 0 = i }) new root) same is)
        ],
  )

-- an instance method that a class declares has its number
own_within : (classes : List Class) (ms : List LinkedMethod) → AllZip (IsLinked classes) (declared_methods classes) ms → (n t : List ℕ) (c : ClassId) (id : MethodId)
    → instance_method classes n t c ≡ Some id → id.0 < length ms
own_within classes ms all n t c id is = by (number_of classes c n t) is
  where
    there : (x : MethodId) (o : Option Method) → method_at classes x ≡ o → option_map_or is_static o true ≡ false → x.0 < length ms
    there x None at e = absurd (let h : true ≡ false = e in cc)
    there x (Some m) at e = method_within classes ms all x m at

    pick : (x : MethodId) (b : Bool) → option_map_or is_static (method_at classes x) true ≡ b → ◌≡◌ {A = Option MethodId} (if b then None else Some x) (Some id) → id.0 < length ms
    pick x true e h = absurd (some_none (sym h))
    pick x false e h = subst (λ (y : MethodId). y.0 < length ms) (same_some h) (there x (method_at classes x) refl e)

    by : (o : Option MethodId) → option_and_then (λ x. if option_map_or is_static (method_at classes x) true then None else Some x) o ≡ Some id → id.0 < length ms
    by None e = absurd (some_none (sym e))
    by (Some x) e = pick x (option_map_or is_static (method_at classes x) true) refl e

code_same : (a b : Option MethodId) → code_of a ≡ code_of b → a ≡ b
code_same None None e = refl
code_same None (Some b) e = absurd (omega (arith, e))
code_same (Some a) None e = absurd (omega (arith, e))
code_same (Some a) (Some b) e = let same : a.0 ≡ b.0 = omega (arith, e) in ap (λ n. Some (record { 0 = n })) same

-- what is read from the trees
pub record IsRead (links : Links) (class : ClassId) (resolved : MethodId) (found : Option MethodId) : Type 0 where
  pub selected : IsSelected links.classes class resolved found
  pub within : IfSome found (λ id. id.0 < length links.methods)

pub read : (links : Links) (levels : ℕ) (keys : List ℕ) (nodes : List Node) (roots : List ℕ) (class : ClassId) (resolved : MethodId) (found : Option MethodId) → AreLinks links
    → HaveChoices links.classes levels keys nodes roots → class.0 < length links.classes → resolved.0 < length links.methods
    → find nodes levels (get_or roots class.0 0) (get_or keys resolved.0 0) ≡ code_of found → IsRead links class resolved found
read links levels keys nodes roots class resolved found are have inside low is =
    let long = zip_length links.classes (declared_methods links.classes) links.methods are.methods in
    elim (slice_get_cases (declared_methods links.classes) resolved.0).1 [
      | inl r ↦
          let m = r.0.method in
          let at : method_at links.classes resolved ≡ Some m = ap (option_map (λ (d : Declared). d.method)) r.2 in
          let h = (have.choices class inside).chosen resolved m at in
          let same : h.found ≡ found = code_same h.found found (sym h.is ∙ is) in
          let search = subst (λ o. Finds (superclass_of links.classes) (instance_method links.classes m.name m.descriptor) (class ∷ []) o) same h.search in
          record {
            selected = record { method = m; declared = at; search = search };
            within = found_own (superclass_of links.classes) (instance_method links.classes m.name m.descriptor) (λ id. id.0 < length links.methods)
                (λ c id e. own_within links.classes links.methods are.methods m.name m.descriptor c id e) search;
          }
      | inr r ↦ absurd (let over = r.0 in omega (arith, over, low, long))
    ]
