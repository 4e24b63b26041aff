-- What the classes of a set are because each is as its file says it: built in, or well formed, and naming no absent class.
use Rattle.std.proofs.Common.{◌≡◌, ℕ, ◌<◌, true, false, Option, Some, None, List, [], ◌∷◌, length, get_or, map, refl, sym, subst, ap, ◌∙◌}
use Rattle.std.specs.Prelude.{All, Contains, IsSome, slice_get}
use Rattle.std.specs.List.Sorted.{IsStrictlySortedBy}
use Rattle.std.proofs.lemmas.List.{get_or-map, length-map}
use Rattle.std.proofs.lemmas.List.Elements.{All-append, All-contains, All-map, Contains-append_left}
use Rattle.std.proofs.lemmas.List.Sorted.{IsPermutation-map, IsPermutation-sym, Contains-permutation}
use Rattle.std.proofs.lemmas.Option.{slice_get-get_or}
use Rattle.cf_reader.specs.WellFormed.{IsWellFormed}
use Rattle.cf_reader.specs.declared.class_file.ClassFile.{ClassFile}
use Rattle.cls_order.specs.declared.class.Class.{Class}
use Rattle.space_ids.specs.declared.ids.ClassId.{ClassId}
use Rattle.cls_order.specs.BuiltIn.{BuiltIn, built_in_files, built_ins, file_of}
use Rattle.cls_order.specs.Classes.{name_cmp, names, number_of}
use Rattle.cls_order.specs.Sets.{HasClasses, IsResolved, IsWithoutAbsent, Mentions, Origin, origin, origin_names, origins}
use Rattle.cls_order.proofs.Absent.{name_absent}
use Rattle.cls_order.proofs.BuiltInFiles.{file_well}
use Rattle.cls_order.proofs.Cycles.{class_named}
use Rattle.cls_set.proofs.Supers.{one_named}

abbrev is_well : Origin → Type 0
is_well o = IsWellFormed o.0

origins_well : (files : List ClassFile) → All IsWellFormed files → All is_well (origins files)
origins_well files all =
    let built : ClassFile → Origin = λ file. (file, true) in
    let given : ClassFile → Origin = λ file. (file, false) in
    All-append is_well (map built built_in_files) (map given files)
    (All-map is_well built built_in_files (All-map IsWellFormed file_of built_ins (λ k d h. file_well (get_or built_ins k d)))) (All-map is_well given files all)

module _ (files : List ClassFile) (classes : List Class) (held : HasClasses files classes) where
  among : (k : ℕ) (d : Class) → k < length classes → Contains (origins files) (origin (get_or classes k d))
  among k d h =
      let o = origin (get_or classes k d) in
      Contains-permutation (map origin classes) (origins files) o (IsPermutation-sym (origins files) (map origin classes) held)
      (k, subst (λ n. k < n) (sym (length-map classes origin)) h, get_or-map origin classes k d o h)

  pub well_formed : All IsWellFormed files → All (λ c. IsWellFormed c.file) classes
  well_formed all k d h = All-contains is_well (origins files) (origin (get_or classes k d)) (origins_well files all) (among k d h)

  -- the names of the set are those of the files and of the built-in classes
  names_from : (cs : List Class) → map (λ (o : Origin). o.0.name) (map origin cs) ≡ names cs
  names_from [] = refl
  names_from (c ∷ cs) = ap (λ ns. c.file.name ∷ ns) (names_from cs)

  name_stands : (name : List ℕ) → Contains (origin_names files) name → Contains (names classes) name
  name_stands name stands =
      subst (λ ns. Contains ns name) (names_from classes)
      (Contains-permutation (origin_names files) (map (λ (o : Origin). o.0.name) (map origin classes)) name
      (IsPermutation-map (λ (o : Origin). o.0.name) (origins files) (map origin classes) held) stands)

  pub complete : IsWithoutAbsent (origin_names files) (origins files) → All (λ c. (name : List ℕ) → Mentions c.file name → IsSome (number_of classes name)) classes
  complete without k d h name mentioned = by (number_of classes name) refl
    where
      by : (number : Option ClassId) → number_of classes name ≡ number → IsSome number
      by (Some id) e = refl
      by None e =
          absurd (without (origin (get_or classes k d)) (among k d h) (record {
            name = name;
            mentioned = mentioned;
            absent = λ stands. name_absent classes name e (name_stands name stands);
          }))

  module _ (ordered : IsStrictlySortedBy name_cmp (names classes)) (resolved : All (IsResolved (names classes)) classes) where
    built_in_among : (k : ℕ) (b : BuiltIn) → k < length built_ins → Contains (map origin classes) (file_of (get_or built_ins k b), true)
    built_in_among k b h =
        let built : ClassFile → Origin = λ file. (file, true) in
        let o : Origin = (file_of (get_or built_ins k b), true) in
        let at : get_or (map built (map file_of built_ins)) k o ≡ o =
        get_or-map built (map file_of built_ins) k (file_of b) o (subst (λ n. k < n) (sym (length-map built_ins file_of)) h) ∙ ap built (get_or-map file_of built_ins k b (file_of b) h) in
        let first : Contains (map built (map file_of built_ins)) o =
        (k, subst (λ n. k < n) (sym (length-map (map file_of built_ins) built ∙ length-map built_ins file_of)) h, at) in
        Contains-permutation (origins files) (map origin classes) o held (Contains-append_left (map built (map file_of built_ins)) (map (λ (file : ClassFile). (file, false)) files) o first)

    pub as_built_in : All (λ (b : BuiltIn). All (λ c. c.file.name ≡ b.name → c.file ≡ file_of b) classes) built_ins
    as_built_in j b hb k d h named =
        let own = get_or built_ins j b in
        let c = get_or classes k d in
        let there : slice_get classes k ≡ Some c = slice_get-get_or classes k d h in
        let called : slice_get (names classes) k ≡ Some own.name = class_named classes ordered resolved k c there ∙ ap (λ x. Some x) named in
        sym (one_named classes ordered resolved k c own.name (file_of own) there called (true, built_in_among j b hb, refl))
