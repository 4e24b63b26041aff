-- What an instruction calls through a remote interface is a method of it, or of one of its superinterfaces.
use Rattle.std.proofs.Common.{◌≡◌, inl, inr, ℕ, zero, suc, Bool, true, false, Option, Some, None, List, [], ◌∷◌, refl, sym, subst, ap, ◌∙◌}
use Rattle.std.specs.Prelude.{Contains, IfSome, IsSome, IsSomeAnd, MatchOption, if◌then◌else◌, option_map, slice_get}
use Rattle.std.specs.List.{AllZip}
use Rattle.std.proofs.lemmas.List.Elements.{All-cons, All-nil}
use Rattle.std.proofs.lemmas.Option.{slice_get_within, slice_get-get_or}
use Rattle.cf_insns.specs.Listing.{offsets}
use Rattle.cf_insns.specs.declared.insn.Insn.{Insn}
use Rattle.cf_insns.specs.declared.insn.Insn.TheVariants as read
use Rattle.cf_pool.specs.declared.pool.MemberKind.TheVariants as kind
use Rattle.cf_reader.specs.declared.class_file.Code.{Code}
use Rattle.cf_reader.specs.declared.class_file.Method.{Method}
use Rattle.cls_link.proofs.ByIndex.{method_numbered}
use Rattle.cls_link.specs.LinkedForms as forms
use Rattle.cls_link.specs.LinkedForms.{IsLinkedEntry, IsLinkedInsn, IsLinkedName}
use Rattle.cls_link.specs.Links.{Links, AreLinks, Declared, IsLinked, IsLinkedCode, declared_methods, method_at}
use Rattle.cls_link.specs.Targets.{linked_insn}
use Rattle.cls_link.specs.declared.linked_code.LinkedCode.{LinkedCode}
use Rattle.cls_link.specs.declared.linked_code.LinkedInsn.{LinkedInsn}
use Rattle.cls_link.specs.declared.linked_code.LinkedInsn.TheVariants as linked
use Rattle.cls_link.specs.declared.linked_code.LinkedSwitch.{LinkedSwitch}
use Rattle.cls_resolve.specs.Meanings.{IsMethodAt, method_of}
use Rattle.cls_search.specs.MethodSearches as methods
use Rattle.cls_search.specs.MethodSearches.{Resolves, is_interface, own_method, own_of_interface}
use Rattle.cls_search.specs.Searches.{supertypes_of}
use Rattle.cls_search.specs.declared.methods.MethodIndex.{MethodIndex}
use Rattle.cls_set.proofs.Hierarchy.{at_some, none_some, same_some}
use Rattle.cls_set.specs.Classes.{IsInterface}
use Rattle.cls_set.specs.Subtypes as types
use Rattle.cls_set.specs.Subtypes.{IsDirectSupertype, IsSubtype}
use Rattle.cls_set.specs.declared.class.Class.{Class}
use Rattle.space_ids.specs.declared.ids.ClassId.{ClassId}
use Rattle.sp_behaviours.specs.Follows.{IsCalledRemotely}
use Rattle.sp_rules.proofs.OwnLemmas.{and-left}
use Rattle.vm_code.proofs.Remotes.{interface_sound}
use Rattle.vm_code.specs.Classes.{is_below_remote}
use Rattle.vm_laws.proofs.Declared.{own_is}
use Rattle.vm_laws.proofs.Sets.{direct_in}
use Rattle.vm_laws.proofs.Searches.{found_where}
use Rattle.vm_laws.proofs.Subjects.{passes_both}
use Rattle.sp_behaviours.specs.Calls.{CalledMethodsCross, IsCrossing}
use Rattle.sp_behaviours.specs.Told.{AreRemoteMethods}

-- ---- what an instruction names

abbrev Named : List Class → ClassId → LinkedInsn → Type 0
Named classes user (linked.InvokeInterface count class member) = (index : ℕ) × (m : Method) × IsMethodAt classes user index kind.InterfaceMethod class member m
Named classes user i = Unit {0}

module _ (classes : List Class) (user : ClassId) where
  mapped : (o : Option ℕ) (f : ℕ → LinkedInsn) (i : LinkedInsn) → ((target : ℕ) → Named classes user (f target)) → option_map f o ≡ Some i → Named classes user i
  mapped None f i names e = absurd (none_some e)
  mapped (Some target) f i names e = subst (Named classes user) (same_some e) (names target)

  nameless : (all : List ℕ) (at : ℕ) (insn : Insn) (i : LinkedInsn) → linked_insn all at insn ≡ Some i → Named classes user i
  nameless all at read.Nop i e = subst (Named classes user) (same_some e) tt
  nameless all at read.Null i e = subst (Named classes user) (same_some e) tt
  nameless all at (read.Constant value) i e = subst (Named classes user) (same_some e) tt
  nameless all at (read.Load kind local) i e = subst (Named classes user) (same_some e) tt
  nameless all at (read.Store kind local) i e = subst (Named classes user) (same_some e) tt
  nameless all at (read.Increment local by) i e = subst (Named classes user) (same_some e) tt
  nameless all at (read.Stack operation) i e = subst (Named classes user) (same_some e) tt
  nameless all at (read.Unary operator) i e = subst (Named classes user) (same_some e) tt
  nameless all at (read.Binary operator) i e = subst (Named classes user) (same_some e) tt
  nameless all at (read.Array operation) i e = subst (Named classes user) (same_some e) tt
  nameless all at (read.ReturnValue kind) i e = subst (Named classes user) (same_some e) tt
  nameless all at read.Return i e = subst (Named classes user) (same_some e) tt
  nameless all at read.Throw i e = subst (Named classes user) (same_some e) tt
  nameless all at (read.If condition branch) i e = mapped _ (λ target. linked.If condition target) i (λ target. tt) e
  nameless all at (read.IfCompare condition branch) i e = mapped _ (λ target. linked.IfCompare condition target) i (λ target. tt) e
  nameless all at (read.IfSame equality branch) i e = mapped _ (λ target. linked.IfSame equality target) i (λ target. tt) e
  nameless all at (read.IfNull equality branch) i e = mapped _ (λ target. linked.IfNull equality target) i (λ target. tt) e
  nameless all at (read.Goto branch) i e = mapped _ (λ target. linked.Goto target) i (λ target. tt) e
  nameless all at insn i e = absurd (cc)

  by_name : {insn : Insn} {i : LinkedInsn} → IsLinkedName classes user insn i → Named classes user i
  by_name (forms.IsLinkedName.load_constant index value is) = tt
  by_name (forms.IsLinkedName.get_static index class m f is) = tt
  by_name (forms.IsLinkedName.get_field index class m f is) = tt
  by_name (forms.IsLinkedName.put_field index class m f is) = tt
  by_name (forms.IsLinkedName.invoke how index class m method is) = tt
  by_name (forms.IsLinkedName.invoke_interface index count class m method is) = (index, method, is)
  by_name (forms.IsLinkedName.new index class is) = tt
  by_name (forms.IsLinkedName.check_cast index type is) = tt
  by_name (forms.IsLinkedName.instance_of index type is) = tt

  by_link : (switches : List LinkedSwitch) (all : List ℕ) (at : ℕ) {insn : Insn} {i : LinkedInsn} → IsLinkedInsn classes user all switches at insn i → Named classes user i
  by_link switches all at (forms.IsLinkedInsn.nameless insn i e) = nameless all at insn i e
  by_link switches all at (forms.IsLinkedInsn.name insn i name) = by_name name
  by_link switches all at (forms.IsLinkedInsn.switch insn k s is to) = tt

zip_under : {A B : Type 0} (R : A → B → Type 0) (xs : List A) (ys : List B) (n : ℕ) (y : B) → AllZip R xs ys → slice_get ys n ≡ Some y → (x : A) × R x y
zip_under R [] [] n y all e = absurd (cc)
zip_under R [] (z ∷ ys) n y all e = absurd all
zip_under R (x ∷ xs) [] n y all e = absurd all
zip_under R (x ∷ xs) (z ∷ ys) zero y all e = (x, subst (R x) (same_some e) all.0)
zip_under R (x ∷ xs) (z ∷ ys) (suc n) y all e = zip_under R xs ys n y all.1 e

-- the code of a method that has some is linked
code_linked : (classes : List Class) (d : Declared) (code : LinkedCode) (o : Option LinkedCode) → o ≡ Some code → (c : Option Code)
    → MatchOption c (o ≡ None) (λ code. IsSomeAnd o (IsLinkedCode classes d.class d.method code.bytes)) → (bytes : List ℕ) × IsLinkedCode classes d.class d.method bytes code
code_linked classes d code o has None linked = absurd (cc)
code_linked classes d code o has (Some c) linked = (c.bytes, at_some o (IsLinkedCode classes d.class d.method c.bytes) code has linked)

-- ---- where it is found

pub contains-at : {A : Type 0} (xs : List A) (i : ℕ) (x : A) → slice_get xs i ≡ Some x → Contains xs x
contains-at xs i x e =
    let h = slice_get_within xs i x e in
    (i, h, same_some (sym (slice_get-get_or xs i x h) ∙ e))

module _ (classes : List Class) (interface : ClassId) where
  rises : (c s : ClassId) → IsSubtype classes interface c → Contains (supertypes_of classes c) s → IsSubtype classes interface s
  rises c s above among = next (direct_in (slice_get classes c.0) s among)
    where
      next : IsDirectSupertype classes c s → IsSubtype classes interface s
      next (inl up) = types.IsSubtype.through interface c s above (types.IsSubtype.superclass c s up)
      next (inr up) = types.IsSubtype.through interface c s above (types.IsSubtype.superinterface c s up)

  module _ (name : List ℕ) (own : ClassId → Option MethodIndex) where
    -- an interface has it of its own that is this one, or above it
    pub record IsFound (x : MethodIndex) : Type 0 where
      pub class : ClassId
      pub above : IsSubtype classes interface class
      pub interface_is : is_interface classes class ≡ true
      pub own_is : own class ≡ Some x

    of-interface : (x : MethodIndex) (c : ClassId) → IsSubtype classes interface c → own_of_interface classes own c ≡ Some x → IsFound x
    of-interface x c above e = on (is_interface classes c) refl e
      where
        on : (b : Bool) → is_interface classes c ≡ b → (if b then own c else None) ≡ Some x → IsFound x
        on true is e = record { class = c; above = above; interface_is = is; own_is = e }
        on false is e = absurd (none_some e)

    searched : (r : Option MethodIndex) (x : MethodIndex) → IfSome r (λ x. (c : ClassId) × (IsSubtype classes interface c × (own_of_interface classes own c ≡ Some x))) → r ≡ Some x → IsFound x
    searched None x found e = absurd (none_some e)
    searched (Some y) x found e = subst IsFound (same_some e) (of-interface y found.0 found.1.0 found.1.1)

    pub found-above : is_interface classes interface ≡ true → {r : Option MethodIndex} → Resolves classes interface name own r → (x : MethodIndex) → r ≡ Some x → IsFound x
    found-above is (methods.Resolves.of_class_alone init) x e = record { class = interface; above = types.IsSubtype.itself interface; interface_is = is; own_is = e }
    found-above is (methods.Resolves.in_superclasses m other of_class finds) x e = absurd (of_class is)
    found-above is (methods.Resolves.in_superinterfaces r other of_class none finds) x e = absurd (of_class is)
    found-above is (methods.Resolves.in_interfaces r other of_interface finds) x e =
        searched r x
        (found_where (supertypes_of classes) (own_of_interface classes own) (IsSubtype classes interface) rises finds
        (All-cons (IsSubtype classes interface) interface [] (types.IsSubtype.itself interface) (All-nil (IsSubtype classes interface)))) e

-- ---- calls

module _ (links : Links) (are : AreLinks links) (methods-cross : AreRemoteMethods links.classes) (number : ℕ) (call : IsCalledRemotely links number) where
  abbrev insn : LinkedInsn
  insn = linked.InvokeInterface call.count call.interface call.member

  is-named : (user : ClassId) × Named links.classes user insn
  is-named =
      let entry = passes_both (slice_get links.methods call.running) _ insn call.at in
      let code = passes_both entry.0.code _ insn entry.1.1 in
      let d = zip_under (IsLinked links.classes) (declared_methods links.classes) links.methods call.running entry.0 are.methods entry.1.0 in
      let is = code_linked links.classes d.0 code.0 entry.0.code code.1.0 d.0.method.code d.1.code in
      let read = zip_under (IsLinkedEntry links.classes d.0.class (offsets is.1.listing) code.0.switches) is.1.listing code.0.insns call.index insn is.1.insns code.1.1 in
      (d.0.class, by_link links.classes d.0.class code.0.switches (offsets is.1.listing) read.0.0 {insn = read.0.1} read.1)

  called-crosses : IsCrossing links.classes number
  called-crosses =
      let named = is-named in
      let m : Method = named.1.1 in
      let at : IsMethodAt links.classes named.0 named.1.0 kind.InterfaceMethod call.interface call.member m = named.1.2 in
      let interface : is_interface links.classes call.interface ≡ true = and-left (is_interface links.classes call.interface) (is_below_remote links.classes call.interface) call.remote in
      let found = found-above links.classes call.interface at.named.name (own_method links.classes at.named.name at.named.descriptor) interface at.resolved (method_of call.member) refl in
      let own = own_is links.classes found.class at.named.name at.named.descriptor (method_of call.member) found.own_is in
      let c = passes_both (slice_get links.classes call.member.class.0) _ m at.declared in
      let same : found.class ≡ call.member.class = sym own.same in
      let there : is_interface links.classes call.member.class ≡ true = subst (λ (c : ClassId). is_interface links.classes c ≡ true) same found.interface_is in
      let is : IsInterface c.0 = at_some (slice_get links.classes call.member.class.0) IsInterface c.0 c.1.0 (interface_sound links.classes call.member.class there) in
      let some : IsSome (methods.method_in links.classes (method_of call.member)) = subst IsSome (sym at.declared) refl in
      record {
        method = m;
        named = ap (λ (n : ℕ). method_at links.classes (record { 0 = n })) call.names ∙ (method_numbered links.classes (method_of call.member) some ∙ at.declared);
        crosses = methods-cross call.interface call.member.class c.0 m call.remote (subst (λ (c : ClassId). IsSubtype links.classes call.interface c) same found.above) c.1.0 is
            (contains-at c.0.file.methods call.member.index m c.1.1);
      }

pub called_methods_cross : CalledMethodsCross
called_methods_cross links are methods-cross number call = called-crosses links are methods-cross number call
