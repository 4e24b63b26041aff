-- Which class breaks a rule first, and that none does.
use Rattle.std.proofs.Common.{◌≡◌, ◌≢◌, ℕ, ◌+◌, ◌<◌, ◌≤◌, ◌⊎◌, inl, inr, Bool, true, false, Option, Some, None, List, [], ◌∷◌, length, get_or, take, map, refl, sym, subst, ap, ◌∙◌, arith}
use Rattle.std.specs.Prelude.{◌↔◌, All, Contains, IsTrue, IsSomeAnd, bytes_eq, codes, slice_get}
use Rattle.std.specs.List.Sorted.{IsStrictlySortedBy}
use Rattle.std.proofs.lemmas.List.{get_or-map, length-map, take_more}
use Rattle.std.proofs.lemmas.List.Elements.{All-append, All-cons, All-nil}
use Rattle.std.proofs.lemmas.Option.{slice_get_cases, slice_get-get_or, slice_get_within}
use Rattle.std.proofs.lemmas.Slice.Eq.{bytes_eq-Decides}
use Rattle.cf_reader.specs.declared.class_file.ClassFile.{ClassFile}
use Rattle.cls_order.specs.declared.class.Class.{Class}
use Rattle.space_ids.specs.declared.ids.ClassId.{ClassId}
use Rattle.cls_order.specs.declared.entries.Entry.{Entry}
use Rattle.cls_order.specs.declared.fault.SetFault.{SetFault}
use Rattle.cls_order.specs.declared.fault.SetFault.TheVariants.{Broken, Memory}
use Rattle.cls_order.specs.declared.fault.SetRule.{SetRule}
use Rattle.cls_order.specs.declared.fault.SetRule.TheVariants.{BadSuper, FinalSuper, RemoteField, RemoteMethod, Override, TooMany}
use Rattle.cls_set.specs.declared.rules.ClassRule.{ClassRule}
use Rattle.cls_set.specs.declared.rules.ClassRule.TheVariants as class_rules
use Rattle.cf_reader.specs.declared.flags.TheConstants.Flags.{FINAL, INTERFACE}
use Rattle.cls_order.specs.Building.{origins_of, IsFaultOf}
use Rattle.cls_order.specs.Classes.{name_cmp, names, IsInterface}
use Rattle.cls_set.specs.ClassRules.{set_rule, ExtendsOneWith, ImplementsClass, IsBadlyRooted, IsFirstRuleFault, IsRuleFault, KeepBelow}
use Rattle.cls_set.specs.Faults.{IsFirstToBreak, Keeps}
use Rattle.cls_order.specs.FaultNames.{set_rule_number}
use Rattle.cls_order.specs.Entries.{classes_of}
use Rattle.cls_set.specs.Rules as rules
use Rattle.cf_text.specs.declared.types.FieldType.{FieldType}
use Rattle.cls_set.specs.Rules.{Breaks, CanBeKept, CanCross, Has, HasFieldNotKept, HasMethodNotCrossing, HasSuperclass, IsBelowRemote, IsItOrAbove, IsRemoteClass, IsRemoteInterface, IsSuperclass, NamesRemoteInterface, OverridesBadly}
use Rattle.cls_order.specs.Sets.{Origin, origin, IsResolved}
use Rattle.cls_order.specs.Subtypes.{Declares, Extends}
use Rattle.cls_order.proofs.Absent.{stands_among}
use Rattle.cls_order.proofs.Cycles.{later, more_named, resolved_read}
use Rattle.cls_order.proofs.Hierarchy.{class_read, none_some, same_some, some_and, some_of, true_false}
use Rattle.cls_order.proofs.Names.{name_of, name_read, length_names}
use Rattle.cls_set.proofs.Supers.{resolved_none, superclass_in, superinterface_in}
use Rattle.cls_order.proofs.Supertypes.{direct_within}
use Rattle.cls_order.proofs.Walks.{before}

-- of the classes up to an index none breaks the rule
abbrev pub AreWhole : List Entry → SetRule → ℕ → Type 0
AreWhole xs rule n = (k : ℕ) (c : Class) → k < n → slice_get (classes_of xs) k ≡ Some c → Breaks (origins_of xs) c.file rule → ⊥

-- the index of a class
placed : (xs : List Entry) (d : Entry) (o : Origin) → Contains (origins_of xs) o → (i : ℕ) × (i < length xs) × (origin (get_or xs i d).class ≡ o)
placed xs d o among =
    let of : Entry → Origin = λ m. origin m.class in
    let l : among.0 < length xs = subst (λ n. among.0 < n) (length-map xs of) among.1 in
    (among.0, l, sym (get_or-map of xs among.0 d o l) ∙ among.2)

name_slice : (xs : List Entry) (i : ℕ) (d : Entry) → i < length xs → slice_get (names (classes_of xs)) i ≡ Some (name_of (get_or xs i d))
name_slice xs i d h = slice_get-get_or (names (classes_of xs)) i [] (subst (λ n. i < n) (sym (length_names xs)) h) ∙ ap (λ n. Some n) (name_read xs i d [] h)

pub first_to_break : (xs : List Entry) (p : ℕ) (m : Entry) (rule : SetRule) → IsStrictlySortedBy name_cmp (names (classes_of xs)) → p < length xs → m ≡ get_or xs p m → AreWhole xs rule p → Breaks (origins_of xs) m.class.file rule → IsFirstToBreak (origins_of xs) rule (name_of m)
first_to_break xs p m rule ordered h is whole broken =
    record {
      class = origin m.class;
      stands = stands_among xs p m h is;
      named = refl;
      broken = broken;
      first = λ other among less b.
          let at = placed xs m other among in
          let here : slice_get (names (classes_of xs)) at.0 ≡ Some other.0.name = name_slice xs at.0 m at.1 ∙ ap (λ (o : Origin). Some o.0.name) at.2 in
          let there : slice_get (names (classes_of xs)) p ≡ Some (name_of m) = name_slice xs p m h ∙ ap (λ (x : Entry). Some x.class.file.name) (sym is) in
          let low : at.0 < p = later (names (classes_of xs)) at.0 p other.0.name (name_of m) ordered here there less in
          whole at.0 (get_or xs at.0 m).class low (class_read xs m at.0 at.0 refl at.1) (subst (λ (o : Origin). Breaks (origins_of xs) o.0 rule) (sym at.2) b);
    }

pub rule_fault : (classes : List Origin) (rule : SetRule) (name : List ℕ) (e : SetFault) → IsFirstToBreak classes rule name → IsFaultOf rule name e → IsRuleFault classes rule e
rule_fault classes rule name (Broken r n) first h = (h.0, subst (IsFirstToBreak classes rule) (sym h.1) first)
rule_fault classes rule name Memory first h = tt

pub any_member : (xs : List Entry) (k : ℕ) → k < length xs → Entry
any_member xs k h =
    elim (slice_get_cases xs k).1 [
      | inl r ↦ r.0
      | inr r ↦ absurd (omega (arith, h, r.0))
    ]

pub whole_keeps : (xs : List Entry) (rule : SetRule) (n : ℕ) → length xs ≤ n → AreWhole xs rule n → Keeps (origins_of xs) rule
whole_keeps xs rule n all whole o among b =
    let l : among.0 < length xs = subst (λ n. among.0 < n) (length-map xs (λ (m : Entry). origin m.class)) among.1 in
    let d = any_member xs among.0 l in
    let at = placed xs d o among in
    let low : at.0 < n = let inside = at.1 in omega (arith, inside, all) in
    whole at.0 (get_or xs at.0 d).class low (class_read xs d at.0 at.0 refl at.1) (subst (λ (o : Origin). Breaks (origins_of xs) o.0 rule) (sym at.2) b)

pub one_more : (xs : List Entry) (rule : SetRule) (n : ℕ) → AreWhole xs rule n → ((c : Class) → slice_get (classes_of xs) n ≡ Some c → Breaks (origins_of xs) c.file rule → ⊥) → AreWhole xs rule (n + 1)
one_more xs rule n old new k c l e =
    elim (before k n) [
      | inl low ↦ old k c low e
      | inr high ↦ let same : k ≡ n = omega (arith, l, high) in new c (subst (λ i. slice_get (classes_of xs) i ≡ Some c) same e)
    ]

-- what stands above among some classes stands above among more
superclass_more : (xs ys : List Origin) → ((o : Origin) → Contains xs o → Contains ys o) → (sub sup : ClassFile) → HasSuperclass xs sub sup → HasSuperclass ys sub sup
superclass_more xs ys also sub sup h = (h.0, h.1, (h.2.0, also (sup, h.2.0) h.2.1, h.2.2))

above_more : (xs ys : List Origin) → ((o : Origin) → Contains xs o → Contains ys o) → (sub sup : ClassFile) → IsSuperclass xs sub sup → IsSuperclass ys sub sup
above_more xs ys also sub sup (rules.IsSuperclass.direct a b h) = rules.IsSuperclass.direct a b (superclass_more xs ys also a b h)
above_more xs ys also sub sup (rules.IsSuperclass.further a m b h up) = rules.IsSuperclass.further a m b (superclass_more xs ys also a m h) (above_more xs ys also m b up)

overrides_more : (xs ys : List Origin) → ((o : Origin) → Contains xs o → Contains ys o) → (file : ClassFile) → OverridesBadly xs file → OverridesBadly ys file
overrides_more xs ys also file o =
    record { low = o.low; declared = o.declared; upper = o.upper; above = above_more xs ys also file o.upper o.above; high = o.high; inherited = o.inherited; clash = o.clash }

below_more : (xs ys : List Origin) → ((o : Origin) → Contains xs o → Contains ys o) → (name : List ℕ) → IsBelowRemote xs name → IsBelowRemote ys name
below_more xs ys also name (inl e) = inl e
below_more xs ys also name (inr s) = inr (more_named xs ys also name (codes "java/rmi/Remote") s)

it_or_above_more : (xs ys : List Origin) → ((o : Origin) → Contains xs o → Contains ys o) → (file upper : ClassFile) → IsItOrAbove xs file upper → IsItOrAbove ys file upper
it_or_above_more xs ys also file upper (inl e) = inl e
it_or_above_more xs ys also file upper (inr (n, s)) = inr ((n.0, also (upper, n.0) n.1, n.2), more_named xs ys also file.name upper.name s)

names_remote_more : (xs ys : List Origin) → ((o : Origin) → Contains xs o → Contains ys o) → (name : List ℕ) → NamesRemoteInterface xs name → NamesRemoteInterface ys name
names_remote_more xs ys also name r =
    record { interface = r.interface; named = (r.named.0, also (r.interface, r.named.0) r.named.1, r.named.2); remote = (r.remote.0, below_more xs ys also r.interface.name r.remote.1) }

kept_more : (xs ys : List Origin) → ((o : Origin) → Contains xs o → Contains ys o) → (type : FieldType) → CanBeKept xs type → CanBeKept ys type
kept_more xs ys also type (rules.CanBeKept.int d e) = rules.CanBeKept.int d e
kept_more xs ys also type (rules.CanBeKept.boolean d e) = rules.CanBeKept.boolean d e
kept_more xs ys also type (rules.CanBeKept.remote name d e r) = rules.CanBeKept.remote name d e (names_remote_more xs ys also name r)

crosses_more : (xs ys : List Origin) → ((o : Origin) → Contains xs o → Contains ys o) → (type : FieldType) → CanCross xs type → CanCross ys type
crosses_more xs ys also type (rules.CanCross.plain k) = rules.CanCross.plain (kept_more xs ys also type k)
crosses_more xs ys also type (rules.CanCross.ints d e) = rules.CanCross.ints d e

-- what breaks a rule among some classes breaks it among more
pub more_broken : (xs ys : List Origin) → ((o : Origin) → Contains xs o → Contains ys o) → ((o : Origin) → Contains ys o → Contains xs o) → (file : ClassFile) (rule : SetRule) → Breaks xs file rule → Breaks ys file rule
more_broken xs ys also back file rule (rules.Breaks.second_root e f) = rules.Breaks.second_root e f
more_broken xs ys also back file rule (rules.Breaks.interface_below_other h e) = rules.Breaks.interface_below_other h e
more_broken xs ys also back file rule (rules.Breaks.interface_extended sup h i) = rules.Breaks.interface_extended sup (h.0, h.1, (h.2.0, also (sup, h.2.0) h.2.1, h.2.2)) i
more_broken xs ys also back file rule (rules.Breaks.class_implemented sup h i) = rules.Breaks.class_implemented sup (h.0, h.1, (h.2.0, also (sup, h.2.0) h.2.1, h.2.2)) i
more_broken xs ys also back file rule (rules.Breaks.final_extended sup h i) = rules.Breaks.final_extended sup (h.0, h.1, (h.2.0, also (sup, h.2.0) h.2.1, h.2.2)) i
more_broken xs ys also back file rule (rules.Breaks.remote_field upper r above h) =
    rules.Breaks.remote_field upper (r.0, below_more xs ys also file.name r.1) (it_or_above_more xs ys also file upper above)
    (record { field = h.field; declared = h.declared; of_instances = h.of_instances; not_kept = λ k. h.not_kept (kept_more ys xs back h.field.kind k) })
more_broken xs ys also back file rule (rules.Breaks.remote_method upper r above h) =
    rules.Breaks.remote_method upper (r.0, below_more xs ys also file.name r.1) (it_or_above_more xs ys also file upper above)
    (record { of_interface = h.of_interface; method = h.method; declared = h.declared; type = h.type; used = h.used; not_crossing = λ k. h.not_crossing (crosses_more ys xs back h.type k) })
more_broken xs ys also back file rule (rules.Breaks.override o) = rules.Breaks.override (overrides_more xs ys also file o)

module _ (xs ys : List Origin) (forth : (o : Origin) → Contains xs o → Contains ys o) (back : (o : Origin) → Contains ys o → Contains xs o) (rule : SetRule) where
  pub first_held : (name : List ℕ) → IsFirstToBreak xs rule name → IsFirstToBreak ys rule name
  first_held name f =
      record {
        class = f.class;
        stands = forth f.class f.stands;
        named = f.named;
        broken = more_broken xs ys forth back f.class.0 rule f.broken;
        first = λ other among less b. f.first other (back other among) less (more_broken ys xs back forth other.0 rule b);
      }

  pub kept_held : Keeps xs rule → Keeps ys rule
  kept_held k o among b = k o (back o among) (more_broken ys xs back forth o.0 rule b)

same_name : (a b : List ℕ) → ((a ≢ b) → ⊥) → a ≡ b
same_name a b h =
    elim (bytes_eq a b) as (λ t. bytes_eq a b ≡ t → a ≡ b) [
      | true ↦ λ e. (bytes_eq-Decides a b).0 e
      | false ↦ λ e. absurd (h (λ same. true_false (sym ((bytes_eq-Decides a b).1 same) ∙ e)))
    ] refl

same_given : (o : Option (List ℕ)) (b : List ℕ) → ((o ≢ Some b) → ⊥) → o ≡ Some b
same_given None b h = absurd (h none_some)
same_given (Some a) b h = ap (λ x. Some x) (same_name a b (λ ne. h (λ e. ne (same_some e))))

-- what classes that keep the rule on superclasses have in common
module _ (classes : List Class) (ordered : IsStrictlySortedBy name_cmp (names classes)) (resolved : All (IsResolved (names classes)) classes) (keeps : Keeps (map origin classes) BadSuper) where
  stands : (k : ℕ) (d : Class) → k < length classes → Contains (map origin classes) (origin (get_or classes k d))
  stands k d h = (k, subst (λ n. k < n) (sym (length-map classes origin)) h, get_or-map origin classes k d (origin (get_or classes k d)) h)

  stood : (k : ℕ) (c : Class) → slice_get classes k ≡ Some c → Contains (map origin classes) (origin c)
  stood k c e =
      let h = slice_get_within classes k c e in
      let same : get_or classes k c ≡ c = same_some (sym (slice_get-get_or classes k c h) ∙ e) in
      subst (λ (c : Class). Contains (map origin classes) (origin c)) same (stands k c h)

  pub rooted : All (λ c. c.superclass ≡ None → c.file.name ≡ codes "java/lang/Object") classes
  rooted k d h e =
      let c = get_or classes k d in
      let r = resolved k d h in
      let none = resolved_none (names classes) c.superclass c.file.superclass r.superclass e in
      same_name c.file.name (codes "java/lang/Object") (λ ne. keeps (origin c) (stands k d h) (rules.Breaks.second_root none ne))

  pub below_object : All (λ c. IsInterface c → c.file.superclass ≡ Some (codes "java/lang/Object")) classes
  below_object k d h i =
      let c = get_or classes k d in
      same_given c.file.superclass (codes "java/lang/Object") (λ ne. keeps (origin c) (stands k d h) (rules.Breaks.interface_below_other i ne))

  pub extended : (sub sup : ClassId) → Extends classes sub sup → IsSomeAnd (slice_get classes sup.0) (λ c. ¬ IsInterface c)
  extended sub sup e =
      let c = some_of (slice_get classes sub.0) (λ c. c.superclass ≡ Some sup) e in
      elim (slice_get_cases classes sup.0).1 [
        | inl r ↦
            some_and (slice_get classes sup.0) (λ c. ¬ IsInterface c) r.0 r.2
            (λ i. keeps (origin c.0) (stood sub.0 c.0 c.1) (rules.Breaks.interface_extended r.0.file (superclass_in classes ordered resolved c.0 (resolved_read classes ordered resolved sub.0 c.0 c.1) sup r.0 c.2 r.2) i))
        | inr r ↦ let inside = direct_within classes resolved sub sup (inl e) in let past = r.0 in absurd (omega (arith, inside, past))
      ]

  pub implemented : (sub sup : ClassId) → Declares classes sub sup → IsSomeAnd (slice_get classes sup.0) IsInterface
  implemented sub sup e =
      let c = some_of (slice_get classes sub.0) (λ c. Contains c.interfaces sup) e in
      let r = resolved_read classes ordered resolved sub.0 c.0 c.1 in
      elim (slice_get_cases classes sup.0).1 [
        | inl s ↦
            some_and (slice_get classes sup.0) IsInterface s.0 s.2
            (λ off. keeps (origin c.0) (stood sub.0 c.0 c.1) (rules.Breaks.class_implemented s.0.file (superinterface_in classes ordered resolved c.0 r sup s.0 c.2 s.2) (λ has. has off)))
        | inr s ↦ let inside = direct_within classes resolved sub sup (inr e) in let past = s.0 in absurd (omega (arith, inside, past))
      ]

-- what holds of the elements so far and of the next holds of one element more
pub All-take_more : {X : Type 0} (P : X → Type 0) (xs : List X) (i : ℕ) (d : X) → i < length xs → All P (take i xs) → P (get_or xs i d) → All P (take (i + 1) xs)
All-take_more P xs i d h old new = subst (All P) (sym (take_more xs i d h)) (All-append P (take i xs) (get_or xs i d ∷ []) old (All-cons P (get_or xs i d) [] new (All-nil P)))

-- how a class breaks a rule
abbrev pub IsWay : List Origin → ClassFile → SetRule → Type 0
IsWay classes file BadSuper = IsBadlyRooted file ⊎ (ExtendsOneWith classes file INTERFACE ⊎ ImplementsClass classes file)
IsWay classes file FinalSuper = ExtendsOneWith classes file FINAL
IsWay classes file RemoteField = (upper : ClassFile) × IsRemoteClass classes file × IsItOrAbove classes file upper × HasFieldNotKept classes upper
IsWay classes file RemoteMethod = (upper : ClassFile) × IsRemoteInterface classes file × IsItOrAbove classes file upper × HasMethodNotCrossing classes upper
IsWay classes file Override = OverridesBadly classes file
IsWay classes file _ = ⊥

pub way : (classes : List Origin) (file : ClassFile) (rule : SetRule) → Breaks classes file rule → IsWay classes file rule
way classes file rule (rules.Breaks.second_root e f) = inl (inl (e, f))
way classes file rule (rules.Breaks.interface_below_other h e) = inl (inr (h, e))
way classes file rule (rules.Breaks.interface_extended sup h i) = inr (inl (sup, h, i))
way classes file rule (rules.Breaks.class_implemented sup h i) = inr (inr (sup, h, i))
way classes file rule (rules.Breaks.final_extended sup h i) = (sup, h, i)
way classes file rule (rules.Breaks.remote_field upper r above h) = (upper, r, above, h)
way classes file rule (rules.Breaks.remote_method upper r above h) = (upper, r, above, h)
way classes file rule (rules.Breaks.override o) = o

pub rooted_badly : (classes : List Origin) (file : ClassFile) → IsBadlyRooted file → Breaks classes file BadSuper
rooted_badly classes file (inl h) = rules.Breaks.second_root h.0 h.1
rooted_badly classes file (inr h) = rules.Breaks.interface_below_other h.0 h.1

-- the class at an index is one of the classes
pub class_among : (xs : List Entry) (p : ℕ) (m : Entry) → p < length xs → Contains (classes_of xs) (get_or xs p m).class
class_among xs p m h =
    (p, subst (λ n. p < n) (sym (length-map xs (λ (x : Entry). x.class))) h, get_or-map (λ (x : Entry). x.class) xs p m (get_or xs p m).class h)

pub first_fault : (classes : List Origin) (rule : ClassRule) (fault : SetFault) → set_rule_number (set_rule rule) < set_rule_number TooMany → IsRuleFault classes (set_rule rule) fault → KeepBelow classes (set_rule_number (set_rule rule)) → IsFirstRuleFault classes fault
first_fault classes rule (Broken r name) low h before =
    (rule, h.0, subst (λ r. set_rule_number r < set_rule_number TooMany) (sym h.0) low, subst (λ r. IsFirstToBreak classes r name) (sym h.0) h.1, subst (λ r. KeepBelow classes (set_rule_number r)) (sym h.0) before)
first_fault classes rule Memory low h before = tt

-- the rules are looked for one after the other
pub none_before : (classes : List Origin) → KeepBelow classes (set_rule_number BadSuper)
none_before classes class_rules.BadSuper l = absurd (omega (arith, l))
none_before classes class_rules.FinalSuper l = absurd (omega (arith, l))
none_before classes class_rules.RemoteField l = absurd (omega (arith, l))
none_before classes class_rules.RemoteMethod l = absurd (omega (arith, l))
none_before classes class_rules.Override l = absurd (omega (arith, l))

pub one_before : (classes : List Origin) → Keeps classes BadSuper → KeepBelow classes (set_rule_number FinalSuper)
one_before classes a class_rules.BadSuper l = a
one_before classes a class_rules.FinalSuper l = absurd (omega (arith, l))
one_before classes a class_rules.RemoteField l = absurd (omega (arith, l))
one_before classes a class_rules.RemoteMethod l = absurd (omega (arith, l))
one_before classes a class_rules.Override l = absurd (omega (arith, l))

pub two_before : (classes : List Origin) → Keeps classes BadSuper → Keeps classes FinalSuper → KeepBelow classes (set_rule_number RemoteField)
two_before classes a b class_rules.BadSuper l = a
two_before classes a b class_rules.FinalSuper l = b
two_before classes a b class_rules.RemoteField l = absurd (omega (arith, l))
two_before classes a b class_rules.RemoteMethod l = absurd (omega (arith, l))
two_before classes a b class_rules.Override l = absurd (omega (arith, l))

pub three_before : (classes : List Origin) → Keeps classes BadSuper → Keeps classes FinalSuper → Keeps classes RemoteField → KeepBelow classes (set_rule_number RemoteMethod)
three_before classes a b c class_rules.BadSuper l = a
three_before classes a b c class_rules.FinalSuper l = b
three_before classes a b c class_rules.RemoteField l = c
three_before classes a b c class_rules.RemoteMethod l = absurd (omega (arith, l))
three_before classes a b c class_rules.Override l = absurd (omega (arith, l))

pub four_before : (classes : List Origin) → Keeps classes BadSuper → Keeps classes FinalSuper → Keeps classes RemoteField → Keeps classes RemoteMethod → KeepBelow classes (set_rule_number Override)
four_before classes a b c d class_rules.BadSuper l = a
four_before classes a b c d class_rules.FinalSuper l = b
four_before classes a b c d class_rules.RemoteField l = c
four_before classes a b c d class_rules.RemoteMethod l = d
four_before classes a b c d class_rules.Override l = absurd (omega (arith, l))

pub five_before : (classes : List Origin) → Keeps classes BadSuper → Keeps classes FinalSuper → Keeps classes RemoteField → Keeps classes RemoteMethod → Keeps classes Override → KeepBelow classes (set_rule_number TooMany)
five_before classes a b c d e class_rules.BadSuper l = a
five_before classes a b c d e class_rules.FinalSuper l = b
five_before classes a b c d e class_rules.RemoteField l = c
five_before classes a b c d e class_rules.RemoteMethod l = d
five_before classes a b c d e class_rules.Override l = e

pub all_before : (classes : List Origin) → KeepBelow classes (set_rule_number TooMany) → (rule : ClassRule) → Keeps classes (set_rule rule)
all_before classes before class_rules.BadSuper = before class_rules.BadSuper (omega arith)
all_before classes before class_rules.FinalSuper = before class_rules.FinalSuper (omega arith)
all_before classes before class_rules.RemoteField = before class_rules.RemoteField (omega arith)
all_before classes before class_rules.RemoteMethod = before class_rules.RemoteMethod (omega arith)
all_before classes before class_rules.Override = before class_rules.Override (omega arith)

pub final_way : (classes : List Origin) (file : ClassFile) (r : Bool) → IsTrue r ↔ ExtendsOneWith classes file FINAL → IsTrue r ↔ Breaks classes file FinalSuper
final_way classes file r h = (λ e. let x = h.0 e in rules.Breaks.final_extended x.0 x.1 x.2, λ b. h.1 (way classes file FinalSuper b))

pub override_way : (classes : List Origin) (file : ClassFile) (r : Bool) → IsTrue r ↔ OverridesBadly classes file → IsTrue r ↔ Breaks classes file Override
override_way classes file r h = (λ e. rules.Breaks.override (h.0 e), λ b. h.1 (way classes file Override b))
