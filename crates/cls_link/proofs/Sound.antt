-- Code that breaks no rule on what it names, and the first instruction that breaks one.
use Rattle.std.proofs.Common.{◌≡◌, ℕ, zero, suc, ◌+◌, ◌<◌, Option, Some, None, Result, Ok, Err, List, [], ◌∷◌, ◌++◌, length, get_or, take, drop, refl, sym, subst, ap, ◌∙◌, arith}
use Rattle.std.specs.Prelude.{All, Contains, IfErr, IfSome, IsSomeAnd, MatchOption}
use Rattle.std.proofs.lemmas.List.{drop_more, take-append-drop, take_more}
use Rattle.std.proofs.lemmas.List.Elements.{All-push, All-head, All-tail}
use Rattle.cf_insns.specs.declared.fault.CodeFault.{CodeFault}
use Rattle.cf_insns.specs.declared.fault.CodeFault.TheVariants as code
use Rattle.cf_insns.specs.declared.insn.Insn.{Insn}
use Rattle.cf_insns.specs.Faults.{Explains}
use Rattle.cf_insns.specs.Listing.{Listing, IsListing}
use Rattle.cf_insns.proofs.Exact.{one_listing}
use Rattle.cls_set.specs.declared.Method.{Method}
use Rattle.cls_set.specs.declared.class.Class.{Class}
use Rattle.space_ids.specs.declared.ids.ClassId.{ClassId}
use Rattle.cls_link.specs.declared.fault.LinkFault.{LinkFault}
use Rattle.cls_link.specs.declared.fault.LinkFault.TheVariants.{Broken, Memory}
use Rattle.cls_resolve.specs.declared.rule.LinkRule.{LinkRule}
use Rattle.cls_link.specs.declared.linked_code.LinkedCode.{LinkedCode}
use Rattle.cls_resolve.specs.declared.references.Asked.{Asked}
use Rattle.cls_link.specs.declared.stop.Stop.{Stop}
use Rattle.cls_link.specs.declared.stop.Stop.TheVariants as stops
use Rattle.cls_link.specs.LinkFaults as faults
use Rattle.cls_link.specs.LinkFaults.{stop_of, AreSound, IsCodeFault, IsCodeStop, IsFirstUnsound, IsInsnStop, IsLinkFault, IsListingStop, IsMethodFault, IsNamedFault, IsSoundCode, IsSoundMethod}
use Rattle.cls_resolve.specs.LinkRules as rules
use Rattle.cls_resolve.specs.LinkRules.{order, Breaks, Check, IsFirstBroken, IsSound, Site}
use Rattle.cls_link.specs.Links.{Declared, IsSoundAt}
use Rattle.cls_resolve.specs.References.{asked_of}

all_following : {X : Type 0} (P : X → Type 0) (xs ys : List X) → All P (xs ++ ys) → All P ys
all_following P [] ys all = all
all_following P (x ∷ xs) ys all = all_following P xs ys (All-tail P x (xs ++ ys) all)

-- ---- at one instruction

pub kept : (classes : List Class) (site : Site) {cs : List Check} {r : Option LinkRule} → IsFirstBroken classes site cs r → r ≡ None → (check : Check) → Contains cs check → ¬ Breaks classes site check
kept classes site rules.IsFirstBroken.nothing e check (i, h, at) b = absurd (omega (arith, h))
kept classes site (rules.IsFirstBroken.here c rest is) e check among b = cc
kept classes site (rules.IsFirstBroken.further c rest r not_so f) e check (zero, h, at) b = not_so (subst (Breaks classes site) (sym at) b)
kept classes site (rules.IsFirstBroken.further c rest r not_so f) e check (suc i, h, at) b = kept classes site f e check (i, omega (arith, h), at) b

among_all : (check : Check) → Contains order check
among_all rules.Check.absent_class = (0, omega arith, refl)
among_all rules.Check.wrong_kind = (1, omega arith, refl)
among_all rules.Check.hidden_class = (2, omega arith, refl)
among_all rules.Check.abstract = (3, omega arith, refl)
among_all rules.Check.absent_field = (4, omega arith, refl)
among_all rules.Check.absent_method = (5, omega arith, refl)
among_all rules.Check.hidden_member = (6, omega arith, refl)
among_all rules.Check.static_mismatch = (7, omega arith, refl)
among_all rules.Check.final_field = (8, omega arith, refl)
among_all rules.Check.private_virtual = (9, omega arith, refl)

pub is_sound : (classes : List Class) (site : Site) → IsFirstBroken classes site order None → IsSound classes site
is_sound classes site f check b = kept classes site f refl check (among_all check) b

pub some_broken : (classes : List Class) (site : Site) {cs : List Check} {r : Option LinkRule} (rule : LinkRule) → IsFirstBroken classes site cs r → r ≡ Some rule → ¬ IsSound classes site
some_broken classes site rule rules.IsFirstBroken.nothing e s = cc
some_broken classes site rule (rules.IsFirstBroken.here c rest is) e s = s c is
some_broken classes site rule (rules.IsFirstBroken.further c rest r not_so f) e s = some_broken classes site rule f e s

-- what an instruction comes to
abbrev pub Outcome : List Class → ClassId → Method → Insn → Option LinkRule → Type 0
Outcome classes class method insn r = MatchOption (asked_of insn) (r ≡ None) (λ a. IsFirstBroken classes (record { class = class; method = method; asked = a.0; index = a.1 }) order r)

module _ (classes : List Class) (class : ClassId) (method : Method) where
  abbrev site : Asked × ℕ → Site
  site a = record { class = class; method = method; asked = a.0; index = a.1 }

  abbrev nothing : Option LinkRule
  nothing = None

  sound_from : (o : Option (Asked × ℕ)) → MatchOption o (nothing ≡ None) (λ a. IsFirstBroken classes (site a) order nothing) → IfSome o (λ a. IsSound classes (site a))
  sound_from None h = tt
  sound_from (Some a) h = is_sound classes (site a) h

  pub sound_at : (at : ℕ) (insn : Insn) → Outcome classes class method insn None → IsSoundAt classes class method (at, insn)
  sound_at at insn h = sound_from (asked_of insn) h

  record Asks (o : Option (Asked × ℕ)) (rule : LinkRule) : Type 0 where
    asked : Asked
    index : ℕ
    is : o ≡ Some (asked, index)
    broken : IsFirstBroken classes (site (asked, index)) order (Some rule)

  none_some : {rule : LinkRule} → Some rule ≡ None → ⊥
  none_some e = cc

  asks_from : (o : Option (Asked × ℕ)) (rule : LinkRule) → MatchOption o (Some rule ≡ None) (λ a. IsFirstBroken classes (site a) order (Some rule)) → Asks o rule
  asks_from None rule h = absurd (none_some h)
  asks_from (Some a) rule h = record { asked = a.0; index = a.1; is = refl; broken = h }

  pub unsound_at : (listing : Listing) (i at : ℕ) (insn : Insn) (rule : LinkRule) (d : ℕ × Insn) → i < length listing → (at, insn) ≡ get_or listing i d → All (IsSoundAt classes class method) (take i listing) → Outcome classes class method insn (Some rule) → IsFirstUnsound classes class method listing rule at
  unsound_at listing i at insn rule d h is sound outcome =
      let a = asks_from (asked_of insn) rule outcome in
      record {
        before = take i listing;
        insn = insn;
        after = drop (i + 1) listing;
        whole = sym (take-append-drop i listing) ∙ (ap (λ xs. take i listing ++ xs) (drop_more listing i d h) ∙ ap (λ x. take i listing ++ x ∷ drop (i + 1) listing) (sym is));
        sound = sound;
        asked = a.asked;
        index = a.index;
        asks = a.is;
        broken = a.broken;
      }

  pub sound_more : (listing : Listing) (i at : ℕ) (insn : Insn) (d : ℕ × Insn) → i < length listing → (at, insn) ≡ get_or listing i d → All (IsSoundAt classes class method) (take i listing) → Outcome classes class method insn None → All (IsSoundAt classes class method) (take (i + 1) listing)
  sound_more listing i at insn d h is sound outcome =
      subst (All (IsSoundAt classes class method)) (sym (take_more listing i d h))
      (All-push (IsSoundAt classes class method) (take i listing) (get_or listing i d) sound (subst (IsSoundAt classes class method) is (sound_at at insn outcome)))

  -- ---- code

  pub no_listing : (bytes : List ℕ) (fault : CodeFault) → Explains bytes fault → ((listing : Listing) → IsListing bytes listing → fault ≡ code.Memory) → IsCodeStop classes class method bytes (stop_of fault)
  no_listing bytes code.Memory why only = tt
  no_listing bytes (code.Broken rule at) why only = faults.IsCodeFault.unlisted rule at why (λ listing is. let e = only listing is in cc)

  pub insn_stop : (listing : Listing) (i at : ℕ) (insn : Insn) (d : ℕ × Insn) (why : Stop) → i < length listing → (at, insn) ≡ get_or listing i d → All (IsSoundAt classes class method) (take i listing) → IsInsnStop classes class method at insn why → IsListingStop classes class method listing why
  insn_stop listing i at insn d stops.Memory h is sound wrong = tt
  insn_stop listing i at insn d (stops.Broken rule index) h is sound wrong =
      subst (IsFirstUnsound classes class method listing rule) (sym wrong.0) (unsound_at listing i at insn rule d h is sound wrong.1)

  listing_stop : (bytes : List ℕ) (listing : Listing) (why : Stop) → IsListing bytes listing → IsListingStop classes class method listing why → IsCodeStop classes class method bytes why
  listing_stop bytes listing stops.Memory read wrong = tt
  listing_stop bytes listing (stops.Broken rule at) read wrong = faults.IsCodeFault.unsound rule at listing read wrong

  pub code_stop : (bytes : List ℕ) (listing : Listing) → IsListing bytes listing → (r : Result LinkedCode Stop) → IfErr r (IsListingStop classes class method listing) → IfErr r (IsCodeStop classes class method bytes)
  code_stop bytes listing read (Ok code) wrong = tt
  code_stop bytes listing read (Err why) wrong = listing_stop bytes listing why read wrong

  broken_site : (o : Option (Asked × ℕ)) (a : Asked × ℕ) (rule : LinkRule) → o ≡ Some a → IsFirstBroken classes (site a) order (Some rule) → ¬ IfSome o (λ a. IsSound classes (site a))
  broken_site None a rule e b s = cc
  broken_site (Some x) a rule e b s =
      let same : a ≡ x = cc in
      some_broken classes (site x) rule (subst (λ y. IsFirstBroken classes (site y) order (Some rule)) same b) refl s

  not_sound : (bytes : List ℕ) (rule : LinkRule) (at : ℕ) → IsCodeFault classes class method bytes rule at → ¬ IsSoundCode classes class method bytes
  not_sound bytes rule at (faults.IsCodeFault.unlisted r i why none) s = none s.listing s.read
  not_sound bytes rule at (faults.IsCodeFault.unsound r i listing read u) s =
      let same : s.listing ≡ u.before ++ (at, u.insn) ∷ u.after = one_listing bytes s.listing listing s.read read ∙ u.whole in
      let all = subst (All (IsSoundAt classes class method)) same s.sound in
      broken_site (asked_of u.insn) (u.asked, u.index) rule u.asks u.broken
      (All-head (IsSoundAt classes class method) (at, u.insn) u.after (all_following (IsSoundAt classes class method) u.before ((at, u.insn) ∷ u.after) all))

-- ---- methods

fault_not_sound : (classes : List Class) (d : Declared) (rule : LinkRule) (at : ℕ) → IsSomeAnd d.method.code (λ code. IsCodeFault classes d.class d.method code.bytes rule at) → ¬ IsSoundMethod classes d
fault_not_sound classes d rule at wrong sound =
    elim d.method.code as (λ o. IsSomeAnd o (λ code. IsCodeFault classes d.class d.method code.bytes rule at) → IfSome o (λ code. IsSoundCode classes d.class d.method code.bytes) → ⊥) [
      | None ↦ λ w s. absurd w
      | Some code ↦ λ w s. not_sound classes d.class d.method code.bytes rule at w s
    ] wrong sound

-- if no method breaks a rule, only memory ran out
pub only_memory : (classes : List Class) (fault : LinkFault) → IsLinkFault classes fault → AreSound classes → fault ≡ Memory
only_memory classes Memory f sound = refl
only_memory classes (Broken rule class method descriptor at) f sound =
    let all = subst (All (IsSoundMethod classes)) f.whole sound in
    absurd
    (fault_not_sound classes f.faulty rule at f.wrong.3
    (All-head (IsSoundMethod classes) f.faulty f.after (all_following (IsSoundMethod classes) f.before (f.faulty ∷ f.after) all)))
