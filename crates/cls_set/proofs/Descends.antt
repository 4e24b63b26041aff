-- What classes inherit, one method and one class after the other.
use Rattle.std.proofs.Common.{◌≡◌, ◌≢◌, ℕ, ◌+◌, ◌<◌, ◌≤◌, ◌⊎◌, inl, inr, Bool, true, false, Some, None, List, [], ◌∷◌, ◌++◌, length, get_or, take, refl, sym, subst, ap, ◌∙◌, arith}
use Rattle.std.specs.Prelude.{◌↔◌, Contains, IsTrue, codes, if◌then◌else◌, set, slice_get}
use Rattle.std.proofs.lemmas.List.{get_or-set_other, get_or-set_same, length-map, length-set}
use Rattle.std.proofs.lemmas.List.Elements.{Contains-append_cases}
use Rattle.std.proofs.lemmas.Option.{slice_get-get_or, slice_get_within}
use Rattle.cf_reader.specs.declared.class_file.ClassFile.{ClassFile}
use Rattle.cf_reader.specs.declared.class_file.Method.{Method}
use Rattle.space_ids.specs.declared.ids.ClassId.{ClassId}
use Rattle.cls_order.specs.Building.{origins_of}
use Rattle.cls_order.specs.declared.class.Class.{Class}
use Rattle.cls_order.specs.declared.entries.Entry.{Entry}
use Rattle.cls_order.specs.Entries.{classes_of, AreArranged}
use Rattle.cls_order.specs.Marks.{IsByRank}
use Rattle.cls_order.specs.Subtypes.{IsDirectSupertype}
use Rattle.cls_order.proofs.Heights.{long_classes}
use Rattle.cls_order.proofs.Hierarchy.{same_some, some_and, true_false}
use Rattle.cls_order.proofs.Marks.{comes_before, single_index, standing_at}
use Rattle.cls_order.proofs.Walks.{before, same_or_other_index}
use Rattle.cls_set.specs.declared.descending.Trees.{Trees}
use Rattle.cls_set.specs.declared.descending.Walk.{Walk}
use Rattle.cls_set.specs.declared.inheriting.Inherited.{Inherited}
use Rattle.cls_set.specs.declared.key_numbers.Keys.{Keys}
use Rattle.cls_set.specs.Descending.{Above, AboveAndBelow, AreStarted, Declares, HasInherited, IsBarredBelow, IsDescending, IsGrown, Passes, Tells, root_above}
use Rattle.cls_set.specs.Inheriting.{Forbids, IsBarred}
use Rattle.cls_set.specs.KeyNumbers.{keys_at, keys_in, number_at, AreKeyNumbers}
use Rattle.cls_set.specs.Orders.{key_at, method_key, Key}
use Rattle.cls_set.specs.Rules as rules
use Rattle.cls_set.specs.Rules.{package_name, IsSuperclass, OverridesBadly}
use Rattle.cls_set.proofs.Orders.{key_read}
use Rattle.cls_set.proofs.Overrides.{bad_out, class_at, direct_in, direct_out, first_up, none_above}
use Rattle.cls_set.proofs.Supers.{superclass_in_set}
use Rattle.number_trees.specs.Rows.{Starts}
use Rattle.number_trees.specs.Trees.{agree, find}
use Rattle.number_trees.proofs.Grown.{find_empty, find_on, get_on, starts_both, starts_itself, tree_empty, tree_on}

-- the same methods under a name and a descriptor
module _ (S T : ClassFile → Method → Type 0) (key : Key) where
  pub barred_same : ((u : ClassFile) (h : Method) → method_key h ≡ key → S u h → T u h) → (low : Method) (home : List ℕ) → IsBarredBelow S key low home → IsBarredBelow T key low home
  barred_same f low home b = record { upper = b.upper; high = b.high; source = f b.upper b.high b.same b.source; same = b.same; barred = b.barred }

module _ (S T : ClassFile → Method → Type 0) (key : Key) (f : (u : ClassFile) (h : Method) → method_key h ≡ key → S u h → T u h)
    (g : (u : ClassFile) (h : Method) → method_key h ≡ key → T u h → S u h) where
  pub tells_same : (known : List Inherited) (index : ℕ) → Tells S key known index → Tells T key known index
  tells_same known index t =
      record {
        inherited = t.inherited;
        at = t.at;
        forbids = λ low home. (
          λ x. barred_same S T key f low home ((t.forbids low home).0 x),
          λ b. (t.forbids low home).1 (barred_same T S key g low home b),
        );
      }

pub tells_on : (S : ClassFile → Method → Type 0) (key : Key) {old new : List Inherited} → Starts old new → (index : ℕ) → Tells S key old index → Tells S key new index
tells_on S key {old} {new} on index t = record { inherited = t.inherited; at = get_on on index t.inherited t.at; forbids = t.forbids }

-- trees that go on, one after the other
pub grown_itself : (trees : Trees) → IsGrown trees trees
grown_itself trees = record { nodes = starts_itself trees.nodes.items; known = starts_itself trees.known.items }

pub grown_both : {old mid new : Trees} → IsGrown old mid → IsGrown mid new → IsGrown old new
grown_both {old} {mid} {new} a b = record { nodes = starts_both a.nodes b.nodes; known = starts_both a.known b.known }

pub first_pushed : {A : Type 0} (none xs : List A) (x : A) → none ≡ [] → xs ≡ none ++ x ∷ [] → slice_get xs 0 ≡ Some x
first_pushed none xs x empty pushed = ap (λ ys. slice_get ys 0) (pushed ∙ ap (λ ys. ys ++ x ∷ []) empty)

-- a method, as it is read
pub method_read : (file : ClassFile) (methods : List Method) (n : ℕ) (m : Method) → methods ≡ file.methods → n < length methods → m ≡ get_or methods n m → slice_get file.methods n ≡ Some m
method_read file methods n m same low is = ap (λ ms. slice_get ms n) (sym same) ∙ (slice_get-get_or methods n m low ∙ ap (λ x. Some x) (sym is))

-- none of the first n methods of a class may not stand below one of a superclass
abbrev pub NoneBarred : List Entry → ℕ → ℕ → Type 0
NoneBarred entries index n =
    (c : Class) → slice_get (classes_of entries) index ≡ Some c → (i : ℕ) (low : Method) → i < n → slice_get c.file.methods i ≡ Some low
    → (low.name ≢ codes "<init>") → IsBarredBelow (Above entries index) (method_key low) low (package_name c.file.name) → ⊥

module _ (entries : List Entry) (keys : Keys) where
  -- what a tree says stands as trees grow
  pub inherited_on : (old new : Trees) (root : ℕ) (S : ClassFile → Method → Type 0) → IsGrown old new → HasInherited entries keys old root S → HasInherited entries keys new root S
  inherited_on old new root S on h =
      record {
        tree = tree_on on.nodes keys.levels root h.tree;
        each = λ k i l.
            let key = key_at (keys_at entries k) i in
            subst (Tells S key new.known.items) (sym (find_on on.nodes keys.levels root (number_at keys.numbers.items k i) h.tree))
            (tells_on S key on.known (find old.nodes.items keys.levels root (number_at keys.numbers.items k i)) (h.each k i l));
      }

  pub inherited_same : (trees : Trees) (root : ℕ) (S T : ClassFile → Method → Type 0) → ((u : ClassFile) (h : Method) → S u h → T u h) → ((u : ClassFile) (h : Method) → T u h → S u h)
      → HasInherited entries keys trees root S → HasInherited entries keys trees root T
  inherited_same trees root S T f g h =
      record {
        tree = h.tree;
        each = λ k i l.
            tells_same S T (key_at (keys_at entries k) i) (λ u m _ s. f u m s) (λ u m _ t. g u m t) trees.known.items
            (find trees.nodes.items keys.levels root (number_at keys.numbers.items k i)) (h.each k i l);
      }

  module _ (index : ℕ) (c : Class) (is : slice_get (classes_of entries) index ≡ Some c) where
    pub keys_here : length (keys_at entries index) ≡ length c.file.methods
    keys_here = ap (λ o. length (keys_in o)) is ∙ length-map c.file.methods method_key

    pub key_here : (n : ℕ) (m : Method) → slice_get c.file.methods n ≡ Some m → key_at (keys_at entries index) n ≡ method_key m
    key_here n m at = ap (λ o. key_at (keys_in o) n) is ∙ key_read c.file n m at

    -- the first methods of the class
    pub none_yet : (trees : Trees) (root : ℕ) → HasInherited entries keys trees root (Above entries index) → HasInherited entries keys trees root (AboveAndBelow entries index 0)
    none_yet trees root h =
        inherited_same trees root (Above entries index) (AboveAndBelow entries index 0) (λ u m s. inl s)
        (λ u m t. elim t [ inl s ↦ s | inr o ↦ let low = o.4 in absurd (omega (arith, low)) ]) h

    pub all_passed : (trees : Trees) (root n : ℕ) → length c.file.methods ≤ n → HasInherited entries keys trees root (AboveAndBelow entries index n) → HasInherited entries keys trees root (Passes entries index)
    all_passed trees root n end h =
        inherited_same trees root (AboveAndBelow entries index n) (Passes entries index)
        (λ u m s.
        elim s [
          | inl a ↦ inl a
          | inr o ↦
              let inside = slice_get_within o.0.file.methods o.3 m o.5 in
              inr (o.0, o.1, o.2, (o.3, inside, same_some (sym (slice_get-get_or o.0.file.methods o.3 m inside) ∙ o.5)))
        ])
        (λ u m t.
        elim t [
          | inl a ↦ inl a
          | inr o ↦
              let at = o.3 in
              let low = at.1 in
              let same : o.0 ≡ c = same_some (sym o.1 ∙ is) in
              let long = ap (λ (x : Class). length x.file.methods) same in
              inr (o.0, o.1, o.2, at.0, omega (arith, low, long, end), slice_get-get_or o.0.file.methods at.0 m low ∙ ap (λ x. Some x) at.2)
        ])
        h

    -- a method more
    module _ (n : ℕ) (m : Method) (at : slice_get c.file.methods n ≡ Some m) where
      one_more : (u : ClassFile) (h : Method) → AboveAndBelow entries index n u h → AboveAndBelow entries index (n + 1) u h
      one_more u h (inl a) = inl a
      one_more u h (inr (d, e, f, i, low, there)) = inr (d, e, f, i, omega (arith, low), there)

      last_or_not : (u : ClassFile) (h : Method) → AboveAndBelow entries index (n + 1) u h → AboveAndBelow entries index n u h ⊎ ((u ≡ c.file) × (h ≡ m))
      last_or_not u h (inl a) = inl (inl a)
      last_or_not u h (inr (d, e, f, i, low, there)) =
          elim (before i n) [
            | inl less ↦ inl (inr (d, e, f, i, less, there))
            | inr more ↦
                let here : n ≡ i = omega (arith, low, more) in
                let same : d ≡ c = same_some (sym e ∙ is) in
                let file = ap (λ (x : Class). x.file) same in
                inr (
                  f ∙ file,
                  same_some (sym there ∙ (ap (λ (x : ClassFile). slice_get x.methods i) file ∙ (ap (slice_get c.file.methods) (sym here) ∙ at))),
                )
          ]

      module _ (old new : Trees) (root made : ℕ) (told : AreKeyNumbers entries keys.levels keys.numbers.items) (on : IsGrown old new) (inherited more : Inherited)
          (was : HasInherited entries keys old root (AboveAndBelow entries index n)) (d : Declares old new keys.levels root (number_at keys.numbers.items index n) more made)
          (read : (x : Inherited) → slice_get old.known.items (find old.nodes.items keys.levels root (number_at keys.numbers.items index n)) ≡ Some x → inherited ≡ x)
          (more_is : (low : Method) (home : List ℕ) → Forbids more low home ↔ (Forbids inherited low home ⊎ IsBarred low home m (package_name c.file.name))) where
        inside : n < length (keys_at entries index)
        inside = let low = slice_get_within c.file.methods n m at in let long = keys_here in omega (arith, low, long)

        abbrev own : Key
        own = key_at (keys_at entries index) n

        own_is : own ≡ method_key m
        own_is = key_here n m at

        old_tells : Tells (AboveAndBelow entries index n) own old.known.items (find old.nodes.items keys.levels root (number_at keys.numbers.items index n))
        old_tells = was.each index n inside

        -- what is known under its name and descriptor
        grown : (low : Method) (home : List ℕ) → Forbids more low home ↔ IsBarredBelow (AboveAndBelow entries index (n + 1)) own low home
        grown low home =
            let S = AboveAndBelow entries index n in
            let T = AboveAndBelow entries index (n + 1) in
            let same = read old_tells.inherited old_tells.at in
            let known = subst (λ (x : Inherited). Forbids x low home ↔ IsBarredBelow S own low home) (sym same) (old_tells.forbids low home) in (
              λ f.
                  elim ((more_is low home).0 f) [
                    | inl x ↦ barred_same S T own (λ u h _ s. one_more u h s) low home (known.0 x)
                    | inr b ↦ record { upper = c.file; high = m; source = inr (c, is, refl, n, omega arith, at); same = sym own_is; barred = b }
                  ],
              λ b.
                  (more_is low home).1
                  (elim (last_or_not b.upper b.high b.source) [
                    | inl s ↦ inl (known.1 (record { upper = b.upper; high = b.high; source = s; same = b.same; barred = b.barred }))
                    | inr l ↦
                        inr
                        (subst (λ (h : Method). IsBarred low home h (package_name c.file.name)) l.1
                        (subst (λ (u : ClassFile). IsBarred low home b.high (package_name u.name)) l.0 b.barred))
                  ]),
            )

        pub declared_more : HasInherited entries keys new made (AboveAndBelow entries index (n + 1))
        declared_more =
            record {
              tree = d.tree;
              each = λ k i l.
                  let S = AboveAndBelow entries index n in
                  let T = AboveAndBelow entries index (n + 1) in
                  let key = key_at (keys_at entries k) i in
                  let num = number_at keys.numbers.items k i in
                  let here = number_at keys.numbers.items index n in
                  let alike = told.told k i index n l inside in
                  elim (agree keys.levels num here) as (λ b. agree keys.levels num here ≡ b → Tells T key new.known.items (find new.nodes.items keys.levels made num)) [
                    | true ↦ λ e.
                        let same = alike.0 e in
                        let found = d.found num ∙ ap (λ b. if b then d.index else find old.nodes.items keys.levels root num) e in
                        subst (Tells T key new.known.items) (sym found)
                        (subst (λ x. Tells T x new.known.items d.index) (sym same) (record { inherited = more; at = d.at; forbids = grown }))
                    | false ↦ λ e.
                        let found = d.found num ∙ ap (λ b. if b then d.index else find old.nodes.items keys.levels root num) e in
                        subst (Tells T key new.known.items) (sym found)
                        (tells_same S T key (λ u h _ s. one_more u h s)
                        (λ u h is_key t.
                        elim (last_or_not u h t) [
                          | inl s ↦ s
                          | inr o ↦ absurd (true_false (sym (alike.1 (sym is_key ∙ (ap method_key o.1 ∙ sym (key_here n m at)))) ∙ e))
                        ])
                        new.known.items (find old.nodes.items keys.levels root num)
                        (tells_on S key on.known (find old.nodes.items keys.levels root num) (was.each k i l)))
                  ] refl;
            }

      -- the same by what was read
      pub declared_step : (old new : Trees) (root made x : ℕ) (home : List ℕ) (inherited more : Inherited) → AreKeyNumbers entries keys.levels keys.numbers.items → IsGrown old new
          → HasInherited entries keys old root (AboveAndBelow entries index n) → x ≡ number_at keys.numbers.items index n → home ≡ package_name c.file.name
          → Declares old new keys.levels root x more made
          → ((y : Inherited) → slice_get old.known.items (find old.nodes.items keys.levels root x) ≡ Some y → inherited ≡ y)
          → ((low : Method) (other : List ℕ) → Forbids more low other ↔ (Forbids inherited low other ⊎ IsBarred low other m home))
          → HasInherited entries keys new made (AboveAndBelow entries index (n + 1))
      declared_step old new root made x home inherited more told on was x_is home_is d read more_is =
          declared_more old new root made told on inherited more was (subst (λ z. Declares old new keys.levels root z more made) x_is d)
          (subst (λ z. (y : Inherited) → slice_get old.known.items (find old.nodes.items keys.levels root z) ≡ Some y → inherited ≡ y) x_is read)
          (subst (λ p. (low : Method) (other : List ℕ) → Forbids more low other ↔ (Forbids inherited low other ⊎ IsBarred low other m p)) home_is more_is)

    -- none of its first methods may not stand
    pub bad_none : (n : ℕ) → length c.file.methods ≤ n → NoneBarred entries index n → OverridesBadly (origins_of entries) c.file → ⊥
    bad_none n end none bad =
        let at = bad.declared in
        let there = slice_get-get_or c.file.methods at.0 bad.low at.1 ∙ ap (λ x. Some x) at.2 in
        let low = at.1 in
        none c is at.0 bad.low (omega (arith, low, end)) there bad.clash.not_init (bad_out entries index c is bad)

    module _ (n : ℕ) (m : Method) (at : slice_get c.file.methods n ≡ Some m) where
      pub one_not_barred : NoneBarred entries index n → ((m.name ≢ codes "<init>") → IsBarredBelow (Above entries index) (method_key m) m (package_name c.file.name) → ⊥) → NoneBarred entries index (n + 1)
      one_not_barred old none = λ d e i low h l named b.
          let same : d ≡ c = same_some (sym e ∙ is) in
          elim (before i n) [
            | inl less ↦ old d e i low less l named b
            | inr more ↦
                let last : i ≡ n = omega (arith, h, more) in
                let here : low ≡ m = same_some (sym l ∙ (ap (λ (x : Class). slice_get x.file.methods i) same ∙ (ap (slice_get c.file.methods) last ∙ at))) in
                none (subst (λ (x : Method). x.name ≢ codes "<init>") here named)
                (subst (λ (x : Method). IsBarredBelow (Above entries index) (method_key x) x (package_name c.file.name)) here
                (subst (λ (x : Class). IsBarredBelow (Above entries index) (method_key low) low (package_name x.file.name)) same b))
          ]

      -- what is known of it
      pub forbidden : (trees : Trees) (root : ℕ) → HasInherited entries keys trees root (Above entries index) → (inherited : Inherited)
          → ((x : Inherited) → slice_get trees.known.items (find trees.nodes.items keys.levels root (number_at keys.numbers.items index n)) ≡ Some x → inherited ≡ x)
          → Forbids inherited m (package_name c.file.name) ↔ IsBarredBelow (Above entries index) (method_key m) m (package_name c.file.name)
      forbidden trees root h inherited read =
          let low = slice_get_within c.file.methods n m at in
          let long = keys_here in
          let t = h.each index n (omega (arith, low, long)) in
          let told = subst (λ key. Forbids t.inherited m (package_name c.file.name) ↔ IsBarredBelow (Above entries index) key m (package_name c.file.name)) (key_here n m at) (t.forbids m (package_name c.file.name)) in
          subst (λ (x : Inherited). Forbids x m (package_name c.file.name) ↔ IsBarredBelow (Above entries index) (method_key m) m (package_name c.file.name)) (sym (read t.inherited t.at)) told

      -- and so what a test of it says
      pub tested : (trees : Trees) (root x : ℕ) (home : List ℕ) (inherited : Inherited) (b : Bool) → HasInherited entries keys trees root (Above entries index)
          → x ≡ number_at keys.numbers.items index n → home ≡ package_name c.file.name
          → ((y : Inherited) → slice_get trees.known.items (find trees.nodes.items keys.levels root x) ≡ Some y → inherited ≡ y)
          → (IsTrue b ↔ ((m.name ≢ codes "<init>") × Forbids inherited m home)) → IsTrue b ↔ ((m.name ≢ codes "<init>") × IsBarredBelow (Above entries index) (method_key m) m (package_name c.file.name))
      tested trees root x home inherited b h x_is home_is read told =
          let same = forbidden trees root h inherited
          (subst (λ z. (y : Inherited) → slice_get trees.known.items (find trees.nodes.items keys.levels root z) ≡ Some y → inherited ≡ y) x_is read) in
          let here = subst (λ p. IsTrue b ↔ ((m.name ≢ codes "<init>") × Forbids inherited m p)) home_is told in (
            λ e. let p = here.0 e in (p.0, same.0 p.1),
            λ p. here.1 (p.0, same.1 p.1),
          )

  -- what a class inherits is what its superclass passes on
  module _ (a : AreArranged entries) (index : ℕ) (c : Class) (is : slice_get (classes_of entries) index ≡ Some c) where
    pub from_superclass : (s : ClassId) (k : Class) → c.superclass ≡ Some s → slice_get (classes_of entries) s.0 ≡ Some k → (trees : Trees) (root : ℕ)
        → HasInherited entries keys trees root (Passes entries s.0) → HasInherited entries keys trees root (Above entries index)
    from_superclass s k up there trees root h =
        let among = class_at entries index c is in
        let direct = direct_in entries a c among s k up there in
        inherited_same trees root (Passes entries s.0) (Above entries index)
        (λ u m p.
        elim p [
          | inl o ↦
              let same : o.0 ≡ k = same_some (sym o.1 ∙ there) in
              (c, is, rules.IsSuperclass.further c.file k.file u direct (subst (λ (x : Class). IsSuperclass (origins_of entries) x.file u) same o.2), o.3)
          | inr o ↦
              let same : o.0 ≡ k = same_some (sym o.1 ∙ there) in
              let file = o.2 ∙ ap (λ (x : Class). x.file) same in (
                c,
                is,
                subst (IsSuperclass (origins_of entries) c.file) (sym file) (rules.IsSuperclass.direct c.file k.file direct),
                subst (λ (f : ClassFile). Contains f.methods m) (sym o.2) o.3,
              )
        ])
        (λ u m o.
        let same : o.0 ≡ c = same_some (sym o.1 ∙ is) in
        let first = first_up (origins_of entries) c.file u (subst (λ (x : Class). IsSuperclass (origins_of entries) x.file u) same o.2) in
        let file = direct_out entries a c among s k first.0 up there first.1 in
        elim first.2 [
          | inl e ↦ inr (k, there, e ∙ file, subst (λ (f : ClassFile). Contains f.methods m) (e ∙ file) o.3)
          | inr more ↦ inl (k, there, subst (λ (f : ClassFile). IsSuperclass (origins_of entries) f u) file more, o.3)
        ])
        h

    pub from_none : c.superclass ≡ None → (trees : Trees) → AreStarted trees → HasInherited entries keys trees 0 (Above entries index)
    from_none none trees start =
        record {
          tree = tree_empty trees.nodes.items keys.levels start.empty;
          each = λ k i l.
              subst (Tells (Above entries index) (key_at (keys_at entries k) i) trees.known.items)
              (sym (find_empty trees.nodes.items keys.levels (number_at keys.numbers.items k i) start.empty))
              (record {
                inherited = start.nothing;
                at = start.first;
                forbids = λ low home. (
                  λ f. absurd (start.none low home f),
                  λ b.
                      let o = b.source in
                      let same : o.0 ≡ c = same_some (sym o.1 ∙ is) in
                      let first = first_up (origins_of entries) c.file b.upper (subst (λ (x : Class). IsSuperclass (origins_of entries) x.file b.upper) same o.2) in
                      absurd (none_above entries a c (class_at entries index c is) first.0 none first.1),
                );
              });
        }

    -- and so at each step of a walk by rank
    pub inherited_here : (order : List ℕ) (step : ℕ) (walk : Walk) → IsByRank entries order → step < length order → get_or order step 0 ≡ index
        → IsDescending entries keys (take step order) walk → HasInherited entries keys walk.trees (root_above walk.roots.items c.superclass) (Above entries index)
    inherited_here order step walk ranked inside at d =
        elim c.superclass as (λ o. c.superclass ≡ o → HasInherited entries keys walk.trees (root_above walk.roots.items o) (Above entries index)) [
          | None ↦ λ none. from_none none walk.trees d.started
          | Some s ↦ λ up.
              let direct : IsDirectSupertype (classes_of entries) (record { 0 = index }) s = inl (some_and (slice_get (classes_of entries) index) (λ (x : Class). x.superclass ≡ Some s) c is up) in
              let low = superclass_in_set entries a c (class_at entries index c is) s up in
              let long = long_classes entries in
              let k = standing_at (classes_of entries) s.0 (omega (arith, low, long)) in
              from_superclass s k.0 up k.1 walk.trees (get_or walk.roots.items s.0 0) (d.passed s.0 (comes_before entries order step index s a ranked inside at direct))
        ] refl

  pub started_on : (old new : Trees) → IsGrown old new → AreStarted old → AreStarted new
  started_on old new on start =
      record {
        empty = get_on on.nodes 0 (record { even = 0; odd = 0 }) start.empty;
        nothing = start.nothing;
        first = get_on on.known 0 start.nothing start.first;
        none = start.none;
      }

  -- a class more
  pub class_more : (done : List ℕ) (old new : Walk) (index root : ℕ) (b : Bool) → IsDescending entries keys done old → index < length entries → IsGrown old.trees new.trees
      → HasInherited entries keys new.trees root (Passes entries index)
      → ((c : Class) → slice_get (classes_of entries) index ≡ Some c → IsTrue b ↔ OverridesBadly (origins_of entries) c.file)
      → new.roots.items ≡ set old.roots.items index root → new.told.items ≡ set old.told.items index b → IsDescending entries keys (done ++ index ∷ []) new
  class_more done old new index root b was inside on passes tells roots told =
      let low : index < length old.roots.items = let e = was.roots in omega (arith, inside, e) in
      let below : index < length old.told.items = let e = was.long in omega (arith, inside, e) in
      record {
        roots = ap (λ xs. length xs) roots ∙ (length-set old.roots.items index root ∙ was.roots);
        long = ap (λ xs. length xs) told ∙ (length-set old.told.items index b ∙ was.long);
        started = started_on old.trees new.trees on was.started;
        passed = λ k among.
            let P : ℕ → Type 0 = λ r. HasInherited entries keys new.trees r (Passes entries k) in
            let here : k ≡ index → P (get_or new.roots.items k 0) = λ e.
            subst P (sym (ap (λ xs. get_or xs k 0) roots ∙ (ap (λ i. get_or (set old.roots.items index root) i 0) e ∙ get_or-set_same old.roots.items index root 0 low)))
            (subst (λ i. HasInherited entries keys new.trees root (Passes entries i)) (sym e) passes)
            in
            same_or_other_index (P (get_or new.roots.items k 0)) k index here
            (λ ne.
            elim (Contains-append_cases done (index ∷ []) k among) [
              | inl earlier ↦
                  subst P (sym (ap (λ xs. get_or xs k 0) roots ∙ get_or-set_other old.roots.items index k root 0 ne))
                  (inherited_on old.trees new.trees (get_or old.roots.items k 0) (Passes entries k) on (was.passed k earlier))
              | inr last ↦ absurd (ne (single_index k index last))
            ]);
        told = λ k c among is.
            let P : Bool → Type 0 = λ t. IsTrue t ↔ OverridesBadly (origins_of entries) c.file in
            let here : k ≡ index → P (get_or new.told.items k false) = λ e.
            subst P (sym (ap (λ xs. get_or xs k false) told ∙ (ap (λ i. get_or (set old.told.items index b) i false) e ∙ get_or-set_same old.told.items index b false below)))
            (tells c (subst (λ i. slice_get (classes_of entries) i ≡ Some c) e is))
            in
            same_or_other_index (P (get_or new.told.items k false)) k index here
            (λ ne.
            elim (Contains-append_cases done (index ∷ []) k among) [
              | inl earlier ↦
                  subst P (sym (ap (λ xs. get_or xs k false) told ∙ get_or-set_other old.told.items index k b false ne)) (was.told k c earlier is)
              | inr last ↦ absurd (ne (single_index k index last))
            ]);
      }
