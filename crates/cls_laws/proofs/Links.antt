-- A class set is linked in one way.
use Rattle.std.proofs.Common.{◌≡◌, ℕ, suc, ◌<◌, ◌≤◌, inl, inr, Option, Some, None, List, [], ◌∷◌, length, get_or, refl, sym, subst, ap, ◌∙◌, arith}
use Rattle.std.specs.Prelude.{IsSomeAnd, MatchOption, slice_get}
use Rattle.std.specs.List.{AllZip}
use Rattle.std.proofs.lemmas.List.{ext_get_or}
use Rattle.std.proofs.lemmas.Option.{get_or_from_slice_get, slice_get-get_or}
use Rattle.cf_insns.specs.declared.insn.Insn.{Insn}
use Rattle.cf_insns.specs.Listing.{Listing, offsets}
use Rattle.cf_insns.proofs.Exact.{one_listing}
use Rattle.cf_reader.specs.declared.class_file.Code.{Code}
use Rattle.cls_set.specs.declared.Method.{Method}
use Rattle.cls_set.specs.declared.class.Class.{Class}
use Rattle.space_ids.specs.declared.ids.ClassId.{ClassId}
use Rattle.cls_link.specs.declared.linked_code.LinkedCode.{LinkedCode}
use Rattle.cls_link.specs.declared.linked_code.LinkedInsn.{LinkedInsn}
use Rattle.cls_link.specs.declared.linked_code.LinkedInsn.TheVariants as linked
use Rattle.cls_link.specs.declared.linked_code.LinkedMethod.{LinkedMethod}
use Rattle.cls_link.specs.declared.linked_code.LinkedSwitch.{LinkedSwitch}
use Rattle.cls_link.specs.LinkedForms as forms
use Rattle.cls_link.specs.LinkedForms.{AreNumbered, IsLinkedEntry, IsLinkedInsn, switch_index}
use Rattle.cls_link.specs.Links.{Declared, IsLinked, IsLinkedCode, Links, declared_methods}
use Rattle.cls_link.specs.Targets as targets
use Rattle.cls_link.specs.Targets.{IsLinkedSwitch, linked_insn}
use Rattle.cls_link.proofs.SwitchNumbers.{name_numbered, nameless_numbered}
use Rattle.cls_order.proofs.Walks.{before}
use Rattle.cls_laws.proofs.Names.{Names, names, names_nothing_else, one_name}
use Rattle.cls_laws.proofs.Switches.{one_switch, one_zip, switches, switches_nothing_else}
use Rattle.cls_laws.specs.Unique.{SetsAreLinkedOnce}

same_some : {X : Type 0} {x y : X} → Some x ≡ Some y → x ≡ y
same_some e = cc

some_none : {X : Type 0} {x : X} {o : Option X} → o ≡ Some x → o ≡ None → ⊥
some_none e f = cc

-- ---- instructions

module _ (classes : List Class) (user : ClassId) (at_all : List ℕ) (s t : List LinkedSwitch) where
  -- linked from the same instruction: two that are no switch are the same, and two that are go to the same
  data AreOne : LinkedInsn → LinkedInsn → Type 0 where
    plain : (l : LinkedInsn) → switch_index l ≡ None → AreOne l l
    both : (j k : ℕ) (x : LinkedSwitch) → slice_get s j ≡ Some x → slice_get t k ≡ Some x → AreOne (linked.Switch j) (linked.Switch k)

  plain_ones : (l m : LinkedInsn) → switch_index l ≡ None → l ≡ m → AreOne l m
  plain_ones l m none e = subst (λ x. AreOne l x) e (AreOne.plain l none)

  no_switch_named : (i : Insn) (at : ℕ) (x : LinkedSwitch) (l : LinkedInsn) → IsLinkedSwitch at_all at i x → Names classes user i l → ⊥
  no_switch_named i at x l (targets.IsLinkedSwitch.table default low branches target row to each) n = n
  no_switch_named i at x l (targets.IsLinkedSwitch.lookup default cases target keys row to of_cases each) n = n

  one_insn : (at : ℕ) (i : Insn) (l m : LinkedInsn) → IsLinkedInsn classes user at_all s at i l → IsLinkedInsn classes user at_all t at i m → AreOne l m
  one_insn at i l m (forms.IsLinkedInsn.nameless j x e) (forms.IsLinkedInsn.nameless k y f) = plain_ones l m (nameless_numbered at_all at i l e) (same_some (sym e ∙ f))
  one_insn at i l m (forms.IsLinkedInsn.nameless j x e) (forms.IsLinkedInsn.name k y n) = absurd (some_none e (names_nothing_else classes user at_all at i m n))
  one_insn at i l m (forms.IsLinkedInsn.nameless j x e) (forms.IsLinkedInsn.switch k n y is w) = absurd (some_none e (switches_nothing_else at_all at i y w))
  one_insn at i l m (forms.IsLinkedInsn.name j x n) (forms.IsLinkedInsn.nameless k y f) = absurd (some_none f (names_nothing_else classes user at_all at i l n))
  one_insn at i l m (forms.IsLinkedInsn.name j x n) (forms.IsLinkedInsn.name k y o) =
      plain_ones l m (name_numbered classes user i l n) (one_name classes user i l m (names classes user i l n) (names classes user i m o))
  one_insn at i l m (forms.IsLinkedInsn.name j x n) (forms.IsLinkedInsn.switch k o y is w) = absurd (no_switch_named i at y l w (names classes user i l n))
  one_insn at i l m (forms.IsLinkedInsn.switch j n x is w) (forms.IsLinkedInsn.nameless k y f) = absurd (some_none f (switches_nothing_else at_all at i x w))
  one_insn at i l m (forms.IsLinkedInsn.switch j n x is w) (forms.IsLinkedInsn.name k y o) = absurd (no_switch_named i at x m w (names classes user i m o))
  one_insn at i l m (forms.IsLinkedInsn.switch j n x is w) (forms.IsLinkedInsn.switch k o y too v) =
      AreOne.both n o x is (too ∙ ap (λ z. Some z) (one_switch at_all at i y x (switches at_all at i y v) (switches at_all at i x w)))

  -- what the instructions from a number of switches on have in common
  record AreOnes (first : ℕ) (xs ys : List LinkedInsn) (m n : ℕ) : Type 0 where
    pub insns : xs ≡ ys
    pub ends : m ≡ n
    pub switches : (j : ℕ) → first ≤ j → j < m → slice_get s j ≡ slice_get t j

  passed : (l : LinkedInsn) (xs : List LinkedInsn) (first end : ℕ) → switch_index l ≡ None → AreNumbered first (l ∷ xs) end → AreNumbered first xs end
  passed l xs first end none n = subst (λ o. MatchOption o (AreNumbered first xs end) (λ k. (k ≡ first) × AreNumbered (suc first) xs end)) none n

  one_more : (first : ℕ) (l m : LinkedInsn) (xs ys : List LinkedInsn) (a b : ℕ) → AreOne l m → AreNumbered first (l ∷ xs) a → AreNumbered first (m ∷ ys) b
      → ((k : ℕ) → AreNumbered k xs a → AreNumbered k ys b → AreOnes k xs ys a b) → AreOnes first (l ∷ xs) (m ∷ ys) a b
  one_more first l m xs ys a b (AreOne.plain k none) p q rest =
      let r = rest first (passed l xs first a none p) (passed m ys first b none q) in
      record { insns = ap (λ zs. k ∷ zs) r.insns; ends = r.ends; switches = r.switches }
  one_more first l m xs ys a b (AreOne.both j k x is too) p q rest =
      let r = rest (suc first) p.1 q.1 in
      let same : linked.Switch j ≡ linked.Switch k = ap (λ n. linked.Switch n) (p.0 ∙ sym q.0) in
      record {
        insns = ap (λ z. z ∷ xs) same ∙ ap (λ zs. linked.Switch k ∷ zs) r.insns;
        ends = r.ends;
        switches = λ n low high.
            elim (before first n) [
              | inl less ↦ r.switches n (omega (arith, less)) high
              | inr more ↦
                  let at : n ≡ first = omega (arith, low, more) in
                  ap (slice_get s) (at ∙ sym p.0) ∙ (is ∙ (sym too ∙ ap (slice_get t) (q.0 ∙ sym at)))
            ];
      }

  one_row : (first : ℕ) (listing : Listing) (xs ys : List LinkedInsn) (a b : ℕ) → AllZip (IsLinkedEntry classes user at_all s) listing xs → AllZip (IsLinkedEntry classes user at_all t) listing ys
      → AreNumbered first xs a → AreNumbered first ys b → AreOnes first xs ys a b
  one_row first [] [] [] a b p q m n = record { insns = refl; ends = sym m ∙ n; switches = λ j low high. absurd (omega (arith, m, low, high)) }
  one_row first [] [] (y ∷ ys) a b p q m n = absurd q
  one_row first [] (x ∷ xs) ys a b p q m n = absurd p
  one_row first (e ∷ es) [] ys a b p q m n = absurd p
  one_row first (e ∷ es) (x ∷ xs) [] a b p q m n = absurd q
  one_row first (e ∷ es) (x ∷ xs) (y ∷ ys) a b p q m n =
      one_more first x y xs ys a b (one_insn e.0 e.1 x y p.0 q.0) m n (λ k i j. one_row k es xs ys a b p.1 q.1 i j)

-- rows that hold the same at each index
same_row : (s t : List LinkedSwitch) → length s ≡ length t → ((j : ℕ) → 0 ≤ j → j < length s → slice_get s j ≡ slice_get t j) → s ≡ t
same_row [] [] long each = refl
same_row [] (y ∷ t) long each = cc
same_row (x ∷ s) t long each =
    ext_get_or x (x ∷ s) t long (λ i h. sym (get_or_from_slice_get t i (get_or (x ∷ s) i x) x (sym (each i (omega arith) h) ∙ slice_get-get_or (x ∷ s) i x h)))

-- ---- methods

abbrev made_code : List LinkedInsn → List ℕ → List LinkedSwitch → LinkedCode
made_code insns at switches = record { insns = insns; offsets = at; switches = switches }

abbrev made_method : ClassId → ℕ → Option LinkedCode → LinkedMethod
made_method class index code = record { class = class; index = index; code = code }

abbrev made_links : List Class → List LinkedMethod → Links
made_links classes methods = record { classes = classes; methods = methods }

module _ (classes : List Class) (class : ClassId) (method : Method) (bytes : List ℕ) where
  one_code : (a b : LinkedCode) → IsLinkedCode classes class method bytes a → IsLinkedCode classes class method bytes b → a ≡ b
  one_code a b p q =
      let listing : p.listing ≡ q.listing = one_listing bytes p.listing q.listing p.read q.read in
      let moved = subst (λ (l : Listing). AllZip (IsLinkedEntry classes class (offsets l) a.switches) l a.insns) listing p.insns in
      let ones = one_row classes class (offsets q.listing) a.switches b.switches 0 q.listing a.insns b.insns (length a.switches) (length b.switches) moved q.insns p.in_order q.in_order in
      let insns : a.insns ≡ b.insns = ones.insns in
      let rows : a.switches ≡ b.switches = same_row a.switches b.switches ones.ends ones.switches in
      let at : a.offsets ≡ b.offsets = p.offsets_of ∙ (ap offsets listing ∙ sym q.offsets_of) in
      ap (λ x. made_code x a.offsets a.switches) insns ∙ (ap (λ x. made_code b.insns x a.switches) at ∙ ap (λ x. made_code b.insns b.offsets x) rows)

  one_some : (a b : Option LinkedCode) → IsSomeAnd a (IsLinkedCode classes class method bytes) → IsSomeAnd b (IsLinkedCode classes class method bytes) → a ≡ b
  one_some None b p q = absurd p
  one_some (Some a) None p q = absurd q
  one_some (Some a) (Some b) p q = ap (λ x. Some x) (one_code a b p q)

one_or_none : (classes : List Class) (class : ClassId) (method : Method) (code : Option Code) (a b : Option LinkedCode)
    → MatchOption code (a ≡ None) (λ code. IsSomeAnd a (IsLinkedCode classes class method code.bytes))
    → MatchOption code (b ≡ None) (λ code. IsSomeAnd b (IsLinkedCode classes class method code.bytes)) → a ≡ b
one_or_none classes class method None a b p q = p ∙ sym q
one_or_none classes class method (Some code) a b p q = one_some classes class method code.bytes a b p q

one_method : (classes : List Class) (d : Declared) (m n : LinkedMethod) → IsLinked classes d m → IsLinked classes d n → m ≡ n
one_method classes d m n p q =
    let class : m.class ≡ n.class = p.class ∙ sym q.class in
    let index : m.index ≡ n.index = p.index ∙ sym q.index in
    let code : m.code ≡ n.code = one_or_none classes d.class d.method d.method.code m.code n.code p.code q.code in
    ap (λ x. made_method x m.index m.code) class ∙ (ap (λ x. made_method n.class x m.code) index ∙ ap (λ x. made_method n.class n.index x) code)

pub one_linking : SetsAreLinkedOnce
one_linking a b p q same =
    let moved = subst (λ (cs : List Class). AllZip (IsLinked cs) (declared_methods cs) a.methods) same p.methods in
    let methods : a.methods ≡ b.methods = one_zip (IsLinked b.classes) (one_method b.classes) (declared_methods b.classes) a.methods b.methods moved q.methods in
    ap (λ x. made_links x a.methods) same ∙ ap (λ x. made_links b.classes x) methods
