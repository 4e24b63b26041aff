-- What a switch goes to is one.
use Rattle.std.proofs.Common.{◌≡◌, ℕ, ℤ, Some, None, List, [], ◌∷◌, map, refl, sym, ap, ◌∙◌}
use Rattle.std.specs.List.{AllZip}
use Rattle.cf_insns.specs.declared.insn.Insn.{Insn}
use Rattle.cf_insns.specs.declared.insn.Insn.TheVariants as read
use Rattle.cf_insns.specs.declared.insn.SwitchCase.{SwitchCase}
use Rattle.cls_link.specs.declared.linked_code.LinkedSwitch.{LinkedSwitch}
use Rattle.cls_link.specs.declared.linked_code.LinkedSwitch.TheVariants as switch
use Rattle.cls_link.specs.Targets as targets
use Rattle.cls_link.specs.Targets.{GoesTo, IsLinkedSwitch, linked_insn}

same_some : {X : Type 0} {x y : X} → Some x ≡ Some y → x ≡ y
same_some e = cc

-- rows that are made of the same, element by element, are the same
pub one_zip : {A B : Type 0} (R : A → B → Type 0) → ((a : A) (x y : B) → R a x → R a y → x ≡ y) → (ns : List A) (xs ys : List B) → AllZip R ns xs → AllZip R ns ys → xs ≡ ys
one_zip R one [] [] [] p q = refl
one_zip R one [] [] (y ∷ ys) p q = absurd q
one_zip R one [] (x ∷ xs) ys p q = absurd p
one_zip R one (a ∷ ns) [] ys p q = absurd p
one_zip R one (a ∷ ns) (x ∷ xs) [] p q = absurd q
one_zip R one (a ∷ ns) (x ∷ xs) (y ∷ ys) p q =
    let first : x ≡ y = one a x y p.0 q.0 in
    let rest : xs ≡ ys = one_zip R one ns xs ys p.1 q.1 in
    cc

module _ (offsets : List ℕ) (at : ℕ) where
  one_target : (branch : ℤ) (x y : ℕ) → GoesTo offsets at branch x → GoesTo offsets at branch y → x ≡ y
  one_target branch x y p q = same_some (sym p ∙ q)

  abbrev pub Switches : Insn → LinkedSwitch → Type 0
  Switches (read.TableSwitch default low branches) s =
      (target : ℕ) × (row : List ℕ) × GoesTo offsets at default target × AllZip (GoesTo offsets at) branches row × (s ≡ switch.Table target low row)
  Switches (read.LookupSwitch default cases) s =
      (target : ℕ) × (keys : List ℤ) × (row : List ℕ) × GoesTo offsets at default target × (keys ≡ map (λ (c : SwitchCase). c.key) cases)
      × AllZip (λ (c : SwitchCase). GoesTo offsets at c.branch) cases row × (s ≡ switch.Lookup target keys row)
  Switches _ s = ⊥

  pub switches : (i : Insn) (s : LinkedSwitch) → IsLinkedSwitch offsets at i s → Switches i s
  switches i s (targets.IsLinkedSwitch.table default low branches target row to each) = (target, row, to, each, refl)
  switches i s (targets.IsLinkedSwitch.lookup default cases target keys row to of_cases each) = (target, keys, row, to, of_cases, each, refl)

  -- it has no other form
  pub switches_nothing_else : (i : Insn) (s : LinkedSwitch) → IsLinkedSwitch offsets at i s → linked_insn offsets at i ≡ None
  switches_nothing_else i s (targets.IsLinkedSwitch.table default low branches target row to each) = refl
  switches_nothing_else i s (targets.IsLinkedSwitch.lookup default cases target keys row to of_cases each) = refl

  pub one_switch : (i : Insn) (s t : LinkedSwitch) → Switches i s → Switches i t → s ≡ t
  one_switch (read.TableSwitch default low branches) s t (x, xs, to, each, e) (y, ys, too, all, f) =
      e
      ∙ (ap (λ z. switch.Table z low xs) (one_target default x y to too)
      ∙ (ap (λ z. switch.Table y low z) (one_zip (GoesTo offsets at) one_target branches xs ys each all) ∙ sym f))
  one_switch (read.LookupSwitch default cases) s t (x, ks, xs, to, of_cases, each, e) (y, ls, ys, too, by_cases, all, f) =
      e
      ∙ (ap (λ z. switch.Lookup z ks xs) (one_target default x y to too)
      ∙ (ap (λ z. switch.Lookup y z xs) (of_cases ∙ sym by_cases)
      ∙ (ap (λ z. switch.Lookup y ls z) (one_zip (λ (c : SwitchCase). GoesTo offsets at c.branch) (λ c m n p q. one_target c.branch m n p q) cases xs ys each all) ∙ sym f)))
  one_switch _ s t p q = absurd p
