use Rattle.std.proofs.Common.{◌≡◌, ℕ, zero, suc, ◌+◌, ◌<◌, true, false, Some, List, [], ◌∷◌, length, get_or, map, refl, sym, subst, ap, ◌∙◌, arith}
use Rattle.std.specs.Prelude.{All, Contains, IsPermutation, IsSome, bytes_eq, count_by, cond, slice_get}
use Rattle.std.specs.List.Sorted.{IsStrictlySortedBy}
use Rattle.std.proofs.lemmas.List.{get_or-map, length-append, length-map}
use Rattle.std.proofs.lemmas.List.Elements.{All-get_or, All-map, Contains-append_left}
use Rattle.std.proofs.lemmas.List.Sorted.{IsPermutation-map, IsPermutation-sym, Contains-permutation, sum_by-IsPermutation}
use Rattle.std.proofs.lemmas.Slice.Eq.{bytes_eq-Decides}
use Rattle.cf_reader.specs.declared.class_file.ClassFile.{ClassFile}
use Rattle.cls_order.specs.declared.class.Class.{Class}
use Rattle.cls_order.specs.declared.fault.SetFault.{SetFault}
use Rattle.cls_order.specs.declared.fault.SetFault.TheVariants.{Broken, Memory}
use Rattle.cls_order.specs.declared.fault.SetRule.TheVariants.{Duplicate, AbsentClass, Cycle}
use Rattle.cls_order.specs.declared.entries.Entry.{Entry}
use Rattle.cls_order.specs.BuiltIn.{built_ins, built_in_files, file_of}
use Rattle.cls_order.specs.Building.{ranked_from, kept, origins_of, IsAbsentFault, IsCycleFault, IsDuplicateFault, IsWhole}
use Rattle.cls_order.specs.Classes.{name_cmp, names, number_from, number_of}
use Rattle.cls_order.specs.Entries.{classes_of, AreArranged, IsRanked}
use Rattle.cls_order.specs.Sets.{Origin, origin, origins, origin_names, HasClasses, HasAbsent, IsResolved, IsFirstDuplicate, IsWithoutAbsent, IsWithoutCycles, IsWithoutDuplicates}
use Rattle.cls_set.specs.Faults.{IsSetFault}
use Rattle.cls_order.specs.Subtypes.{IsDirectSupertype}
use Rattle.cls_set.proofs.Turns.{AreKeptBelow, kept_next, lowest}
use Rattle.std.proofs.lemmas.Option.{slice_get-get_or, slice_get_within}
use Rattle.cls_order.proofs.Cycles.{more_named, none_own, standing}
use Rattle.cls_order.proofs.Origins.{origin_of, origins_ranked, names_from_origins, origins_of_classes, origins_from_kept}
use Rattle.cls_order.proofs.Resolved.{names_kept, origins_kept}
use Rattle.cls_order.proofs.Sorting.{matches, count_strict}
use Rattle.cls_order.proofs.Hierarchy.{rank_of, same_some}
use Rattle.cls_order.proofs.Supertypes.{ranks}

length_built_ins : length built_ins ≡ 29
unfolding built_ins
length_built_ins = refl

pub length_origins : (files : List ClassFile) → length (origins files) ≡ 29 + length files
length_origins files =
    let built : ClassFile → Origin = λ file. (file, true) in
    let own : ClassFile → Origin = λ file. (file, false) in
    length-append (map built built_in_files) (map own files)
    ∙ (ap (λ n. n + length (map own files)) (length-map built_in_files built ∙ (length-map built_ins file_of ∙ length_built_ins)) ∙ ap (λ n. 29 + n) (length-map files own))

-- a class that stands in the set has a number
named : (k : ℕ) (classes : List Class) (o : Origin) (i : ℕ) → i < length classes → get_or (map origin classes) i o ≡ o → IsSome (number_from k classes o.0.name)
named k [] o i h e = absurd (omega arith)
named k (c ∷ cs) o zero h e = rw ((bytes_eq-Decides c.file.name o.0.name).1 (ap (λ (o : Origin). o.0.name) e)) refl
named k (c ∷ cs) o (suc i) h e =
    elim (bytes_eq c.file.name o.0.name) as (λ b. IsSome (cond b (Some (record { 0 = k })) (number_from (suc k) cs o.0.name))) [
      | true ↦ refl
      | false ↦ named (suc k) cs o i (omega arith) e
    ]

pub built_in_stands : (files : List ClassFile) (classes : List Class) → HasClasses files classes → All (λ b. IsSome (number_of classes b.name)) built_ins
built_in_stands files classes has k d h =
    let b = get_or built_ins k d in
    let built : ClassFile → Origin = λ file. (file, true) in
    let o : Origin = (file_of b, true) in
    let at : get_or (map built (map file_of built_ins)) k o ≡ o =
    get_or-map built (map file_of built_ins) k (file_of d) o (rw length-map h) ∙ ap built (get_or-map file_of built_ins k d (file_of d) h) in
    let among : Contains (origins files) o = Contains-append_left (map built (map file_of built_ins)) (map (λ (file : ClassFile). (file, false)) files) o (k, rw (length-map, length-map) h, at) in
    let found = Contains-permutation (origins files) (map origin classes) o has among in
    named 0 classes o found.0 (rw length-map at found.1) found.2

-- entries that hold the classes of the files and the built-in ones
module _ (files : List ClassFile) (entries : List Entry) (all : IsPermutation (ranked_from 0 (origins files)) entries) where
  pub origins_held : IsPermutation (origins files) (map origin_of entries)
  origins_held = subst (λ os. IsPermutation os (map origin_of entries)) (origins_ranked 0 (origins files)) (IsPermutation-map origin_of (ranked_from 0 (origins files)) entries all)

  names_held : IsPermutation (origin_names files) (names (classes_of entries))
  names_held = subst (IsPermutation (origin_names files)) (sym (names_from_origins entries)) (IsPermutation-map (λ (o : Origin). o.0.name) (origins files) (map origin_of entries) origins_held)

  same_count : (name : List ℕ) → count_by (matches name) (names (classes_of entries)) ≡ count_by (matches name) (origin_names files)
  same_count name = sum_by-IsPermutation (λ n. cond (matches name n) 1 0) (origin_names files) (names (classes_of entries)) names_held

  pub duplicate_held : (name : List ℕ) → IsFirstDuplicate (names (classes_of entries)) name → IsFirstDuplicate (origin_names files) name
  duplicate_held name d =
      record {
        twice = subst (λ n. 1 < n) (same_count name) d.twice;
        first = λ other less twice. d.first other less (subst (λ n. 1 < n) (sym (same_count other)) twice);
      }

  pub duplicate_fault : (fault : SetFault) → IsDuplicateFault (names (classes_of entries)) fault → IsSetFault files fault
  duplicate_fault (Broken Duplicate name) h = (duplicate_held name h, λ other l. let low = lowest other in absurd (omega (arith, l, low)))
  duplicate_fault Memory h = tt
  duplicate_fault (Broken _ name) h = absurd h

  pub distinct : IsStrictlySortedBy name_cmp (names (classes_of entries)) → IsWithoutDuplicates (origin_names files)
  distinct ordered name twice =
      let once = count_strict name (names (classes_of entries)) ordered in
      let same = same_count name in
      absurd (omega (arith, once, same, twice))

  -- the rules so far are kept
  pub kept_distinct : IsStrictlySortedBy name_cmp (names (classes_of entries)) → AreKeptBelow files 31
  kept_distinct ordered = kept_next files Duplicate 30 refl (λ other l. let low = lowest other in absurd (omega (arith, l, low))) (distinct ordered)

  forth : (o : Origin) → Contains (origins files) o → Contains (origins_of entries) o
  forth o among = Contains-permutation (origins files) (origins_of entries) o origins_held among

  back : (o : Origin) → Contains (origins_of entries) o → Contains (origins files) o
  back o among = Contains-permutation (origins_of entries) (origins files) o (IsPermutation-sym (origins files) (origins_of entries) origins_held) among

  absent_out : (file : ClassFile) → HasAbsent (names (classes_of entries)) file → HasAbsent (origin_names files) file
  absent_out file h = record { name = h.name; mentioned = h.mentioned; absent = λ among. h.absent (Contains-permutation (origin_names files) (names (classes_of entries)) h.name names_held among) }

  absent_in : (file : ClassFile) → HasAbsent (origin_names files) file → HasAbsent (names (classes_of entries)) file
  absent_in file h =
      record {
        name = h.name;
        mentioned = h.mentioned;
        absent = λ among. h.absent (Contains-permutation (names (classes_of entries)) (origin_names files) h.name (IsPermutation-sym (origin_names files) (names (classes_of entries)) names_held) among);
      }

  pub absent_fault : IsStrictlySortedBy name_cmp (names (classes_of entries)) → (fault : SetFault) → IsAbsentFault (names (classes_of entries)) (origins_of entries) fault → IsSetFault files fault
  absent_fault ordered (Broken AbsentClass name) h = (
    record {
      class = h.class;
      stands = back h.class h.stands;
      named = h.named;
      absent = absent_out h.class.0 h.absent;
      first = λ other among less a. h.first other (forth other among) less (absent_in other.0 a);
    },
    kept_distinct ordered,
  )
  absent_fault ordered Memory h = tt
  absent_fault ordered (Broken _ name) h = absurd h

  -- the entries once they are resolved
  module _ (resolved : List Entry) (same : map kept resolved ≡ map kept entries) (ordered : IsStrictlySortedBy name_cmp (names (classes_of entries))) (found : All (λ m. IsWhole (names (classes_of entries)) m.class) resolved) where
    pub has_classes : HasClasses files (classes_of resolved)
    has_classes =
        subst (IsPermutation (origins files)) (sym (origins_of_classes resolved ∙ (origins_from_kept resolved ∙ (ap (map (λ (k : Origin × ℕ). k.0)) same ∙ sym (origins_from_kept entries))))) origins_held

    pub ordered_kept : IsStrictlySortedBy name_cmp (names (classes_of resolved))
    ordered_kept = subst (IsStrictlySortedBy name_cmp) (sym (names_kept resolved entries same)) ordered

    pub found_kept : All (IsResolved (names (classes_of resolved))) (classes_of resolved)
    found_kept =
        All-map (IsResolved (names (classes_of resolved))) (λ (m : Entry). m.class) resolved (subst (λ n. All (λ m. IsResolved n m.class) resolved) (sym (names_kept resolved entries same)) (λ k d h. (found k d h).resolved))

    inside : (o : Origin) → Contains (origins files) o → Contains (map origin (classes_of resolved)) o
    inside o among = subst (λ os. Contains os o) (sym (origins_of_classes resolved ∙ origins_kept resolved entries same)) (forth o among)

    whole_at : (i : ℕ) (c : Class) → slice_get (classes_of resolved) i ≡ Some c → IsWhole (names (classes_of entries)) c
    whole_at i c e =
        let h = slice_get_within (classes_of resolved) i c e in
        subst (IsWhole (names (classes_of entries))) (same_some (sym (slice_get-get_or (classes_of resolved) i c h) ∙ e))
        (All-get_or (IsWhole (names (classes_of entries))) (classes_of resolved) i c h (All-map (IsWhole (names (classes_of entries))) (λ (m : Entry). m.class) resolved found))

    pub complete : IsWithoutAbsent (origin_names files) (origins files)
    complete o among a =
        let at = standing (classes_of resolved) ordered_kept found_kept o (inside o among) in
        (whole_at at.0 at.1 at.2).present (subst (λ (o : Origin). HasAbsent (names (classes_of entries)) o.0) (sym at.3) (absent_in o.0 a))

    outside : (o : Origin) → Contains (origins_of resolved) o → Contains (origins files) o
    outside o among = back o (subst (λ os. Contains os o) (origins_kept resolved entries same) among)

    pub kept_complete : AreKeptBelow files 32
    kept_complete = kept_next files AbsentClass 31 refl (kept_distinct ordered) complete

    pub cycle_held : (fault : SetFault) → IsCycleFault (origins_of resolved) fault → IsSetFault files fault
    cycle_held (Broken Cycle name) h = (
      record {
        cycle = more_named (origins_of resolved) (origins files) outside name name h.cycle;
        first = λ other less s. h.first other less (more_named (origins files) (origins_of resolved) (λ o among. subst (λ os. Contains os o) (origins_of_classes resolved) (inside o among)) other other s);
      },
      kept_complete,
    )
    cycle_held Memory h = tt
    cycle_held (Broken _ name) h = absurd h

    -- once they are ranked too
    module _ (final : List Entry) (is_final : classes_of final ≡ classes_of resolved) (ranked : All (IsRanked final) final) where
      pub acyclic : IsWithoutCycles (origins files)
      acyclic x s =
          none_own (classes_of resolved) ordered_kept found_kept (rank_of final) (λ sub sup d. ranks final ranked sub sup (subst (λ cs. IsDirectSupertype cs sub sup) (sym is_final) d)) x
          (more_named (origins files) (map origin (classes_of resolved)) inside x x s)

      pub has_classes_ranked : HasClasses files (classes_of final)
      has_classes_ranked = subst (HasClasses files) (sym is_final) has_classes

      pub kept_acyclic : AreKeptBelow files 33
      kept_acyclic = kept_next files Cycle 32 refl kept_complete acyclic

      pub arranged : AreArranged final
      arranged =
          record {
            ordered = subst (λ cs. IsStrictlySortedBy name_cmp (names cs)) (sym is_final) ordered_kept;
            resolved = subst (λ cs. All (IsResolved (names cs)) cs) (sym is_final) found_kept;
            ranked = ranked;
          }

      pub held : IsPermutation (origins files) (origins_of final)
      held = subst (IsPermutation (origins files)) (origins_of_classes final) has_classes_ranked
