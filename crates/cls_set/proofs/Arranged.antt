-- A set of classes that are arranged and break no rule.
use Rattle.std.proofs.Common.{◌≡◌, ◌-◌, ℕ, suc, ◌<◌, ◌≤◌, inl, inr, Bool, Option, Some, None, List, length, refl, sym, subst, ap, ◌∙◌, arith}
use Rattle.std.specs.Prelude.{All, Contains, IfSome, IsPermutation, IsSome, option_map, slice_get}
use Rattle.std.proofs.lemmas.List.{length-map}
use Rattle.std.proofs.lemmas.List.Sorted.{IsPermutation-sym, Contains-permutation, length_permutation}
use Rattle.std.proofs.lemmas.Option.{slice_get_cases}
use Rattle.cf_reader.specs.WellFormed.{IsWellFormed}
use Rattle.cf_reader.specs.declared.class_file.ClassFile.{ClassFile}
use Rattle.cls_order.specs.declared.entries.Entry.{Entry}
use Rattle.cls_order.specs.declared.fault.SetFault.{SetFault}
use Rattle.cls_order.specs.declared.fault.SetFault.TheVariants.{Broken, Memory}
use Rattle.cls_order.specs.declared.fault.SetRule.{SetRule}
use Rattle.cls_order.specs.declared.fault.SetRule.TheVariants as rules
use Rattle.cls_set.specs.declared.rules.ClassRule.{ClassRule}
use Rattle.cls_set.specs.declared.rules.ClassRule.TheVariants.{BadSuper, FinalSuper, RemoteField, RemoteMethod, Override}
use Rattle.cls_order.specs.Building.{origins_of, IsFaultOf}
use Rattle.cls_set.specs.ClassRules.{set_rule, AreOf, IsFirstRuleFault, KeepBelow}
use Rattle.cls_set.specs.Faults.{IsFirstToBreak, IsKept, IsSetFault, Keeps, MakeASet}
use Rattle.cls_order.specs.Entries.{classes_of, AreEntries, HaveTables}
use Rattle.cls_order.specs.FaultNames.{set_rule_number}
use Rattle.cls_order.specs.Sets.{Origin, origin, origins, HasClasses}
use Rattle.cls_set.proofs.Broken.{all_before, below_object, extended, first_held, implemented, kept_held, rooted}
use Rattle.cls_order.proofs.Origins.{origins_of_classes}
use Rattle.cls_set.proofs.Built.{built_in_stands, length_origins}
use Rattle.cls_order.proofs.Heights.{long_classes}
use Rattle.cls_order.proofs.Hierarchy.{rank_of, true_false}
use Rattle.cls_set.proofs.Stated.{as_built_in, complete, well_formed}
use Rattle.cls_order.proofs.Supertypes.{ranks}

module _ (files : List ClassFile) (entries : List Entry) (of : AreOf files entries) where
  forth : (o : Origin) → Contains (origins_of entries) o → Contains (origins files) o
  forth o among = Contains-permutation (origins_of entries) (origins files) o (IsPermutation-sym (origins files) (origins_of entries) of.held) among

  back : (o : Origin) → Contains (origins files) o → Contains (origins_of entries) o
  back o among = Contains-permutation (origins files) (origins_of entries) o of.held among

  kept : (rule : SetRule) → Keeps (origins_of entries) rule → Keeps (origins files) rule
  kept rule k = kept_held (origins_of entries) (origins files) forth back rule k

  broken : (rule : SetRule) (name : List ℕ) → IsFirstToBreak (origins_of entries) rule name → IsFirstToBreak (origins files) rule name
  broken rule name f = first_held (origins_of entries) (origins files) forth back rule name f

  -- the rules with a number below this one are kept if those on each class are, and the classes are few enough
  kept_at : (other : SetRule) (n : ℕ) → set_rule_number other < n → (set_rule_number rules.TooMany < n → IsKept files rules.TooMany) → KeepBelow (origins_of entries) n → IsKept files other
  kept_at rules.Duplicate n l few f = of.kept rules.Duplicate (omega arith)
  kept_at rules.TooMany n l few f = few l
  kept_at rules.AbsentClass n l few f = of.kept rules.AbsentClass (omega arith)
  kept_at rules.Cycle n l few f = of.kept rules.Cycle (omega arith)
  kept_at rules.BadSuper n l few f = kept rules.BadSuper (f BadSuper l)
  kept_at rules.FinalSuper n l few f = kept rules.FinalSuper (f FinalSuper l)
  kept_at rules.RemoteField n l few f = kept rules.RemoteField (f RemoteField l)
  kept_at rules.RemoteMethod n l few f = kept rules.RemoteMethod (f RemoteMethod l)
  kept_at rules.Override n l few f = kept rules.Override (f Override l)

  rule_broken : (rule : ClassRule) (name : List ℕ) → IsFirstToBreak (origins_of entries) (set_rule rule) name
      → (set_rule_number rules.TooMany < set_rule_number (set_rule rule) → IsKept files rules.TooMany) → KeepBelow (origins_of entries) (set_rule_number (set_rule rule)) → IsSetFault files (Broken (set_rule rule) name)
  rule_broken BadSuper name first few before = (broken rules.BadSuper name first, λ other l. kept_at other (set_rule_number rules.BadSuper) l few before)
  rule_broken FinalSuper name first few before = (broken rules.FinalSuper name first, λ other l. kept_at other (set_rule_number rules.FinalSuper) l few before)
  rule_broken RemoteField name first few before = (broken rules.RemoteField name first, λ other l. kept_at other (set_rule_number rules.RemoteField) l few before)
  rule_broken RemoteMethod name first few before = (broken rules.RemoteMethod name first, λ other l. kept_at other (set_rule_number rules.RemoteMethod) l few before)
  rule_broken Override name first few before = (broken rules.Override name first, λ other l. kept_at other (set_rule_number rules.Override) l few before)

  pub rule_fault : (fault : SetFault) → IsFirstRuleFault (origins_of entries) fault → IsSetFault files fault
  rule_fault Memory h = tt
  rule_fault (Broken r name) (rule, is, low, first, before) =
      subst (λ r. IsSetFault files (Broken r name)) (sym is)
      (rule_broken rule name (subst (λ r. IsFirstToBreak (origins_of entries) r name) is first)
      (λ high. let lower = subst (λ r. set_rule_number r < set_rule_number rules.TooMany) is low in absurd (omega (arith, high, lower)))
      (subst (λ r. KeepBelow (origins_of entries) (set_rule_number r)) is before))

  all_long : length entries ≡ length (origins files)
  all_long = sym (length-map entries (λ (m : Entry). origin m.class)) ∙ length_permutation (origins files) (origins_of entries) of.held

  -- the count of the classes
  pub many_fault : KeepBelow (origins_of entries) (set_rule_number rules.TooMany) → (last : Option (List ℕ)) → last ≡ option_map (λ (file : ClassFile). file.name) (slice_get files (length files - 1)) → (fault : SetFault) → 4096 < length entries → IfSome last (λ name. IsFaultOf rules.TooMany name fault) → IsSome last → IsSetFault files fault
  many_fault before (Some name) is (Broken rule n) over h some =
      let whole = all_long in
      subst (λ r. IsSetFault files (Broken r n)) (sym h.0) (
        record { many = omega (arith, whole, over); last = sym is ∙ ap (λ x. Some x) (sym h.1) },
        λ other l. kept_at other (set_rule_number rules.TooMany) l (λ high. absurd (omega (arith, high))) before,
      )
  many_fault before (Some name) is Memory over h some = tt
  many_fault before None is fault over h some = absurd (true_false (sym some))

  pub few_held : (last : Option (List ℕ)) → last ≡ option_map (λ (file : ClassFile). file.name) (slice_get files (length files - 1)) → (IsSome last → length entries ≤ 4096) → length entries ≤ 4096
  few_held last is few =
      elim (slice_get_cases files (length files - 1)).1 [
        | inl r ↦ few (subst IsSome (sym (is ∙ ap (option_map (λ (file : ClassFile). file.name)) r.2)) refl)
        | inr r ↦
            let whole = all_long in
            let both = length_origins files in
            let past = r.0 in
            omega (arith, whole, both, past)
      ]

  few_origins : length entries ≤ 4096 → IsKept files rules.TooMany
  few_origins few = let whole = all_long in omega (arith, whole, few)

  pub make_a_set : KeepBelow (origins_of entries) (set_rule_number rules.TooMany) → length entries ≤ 4096 → MakeASet files
  make_a_set before few rule = kept_at rule (suc (set_rule_number rule)) (omega arith) (λ _. few_origins few) (λ c l. all_before (origins_of entries) before c)

  pub has_classes : HasClasses files (classes_of entries)
  has_classes = subst (IsPermutation (origins files)) (sym (origins_of_classes entries)) of.held

  pub are_entries : All IsWellFormed files → KeepBelow (origins_of entries) (set_rule_number rules.TooMany) → length entries ≤ 4096 → (tables : List (List Bool)) → HaveTables (classes_of entries) tables → AreEntries entries tables
  are_entries well before few tables told =
      let classes = classes_of entries in
      let known = of.known in
      let keeps = subst (λ os. Keeps os rules.BadSuper) (sym (origins_of_classes entries)) (before BadSuper (omega arith)) in
      record {
        set = record {
          ordered = known.ordered;
          few = subst (λ n. n ≤ 4096) (sym (long_classes entries)) few;
          resolved = known.resolved;
          built_in = built_in_stands files classes has_classes;
          as_built_in = as_built_in files classes has_classes known.ordered known.resolved;
          well_formed = well_formed files classes has_classes well;
          complete = complete files classes has_classes (of.kept rules.AbsentClass (omega arith));
          rooted = rooted classes known.ordered known.resolved keeps;
          below_object = below_object classes known.ordered known.resolved keeps;
          extended = extended classes known.ordered known.resolved keeps;
          implemented = implemented classes known.ordered known.resolved keeps;
          rank = rank_of entries;
          ranked = ranks entries known.ranked;
        };
        ranked = known.ranked;
        tables = told;
      }
