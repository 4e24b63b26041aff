-- The rows of objects, their fields, and casts.
use Rattle.std.proofs.Common.{◌≡◌, ◌⊎◌, inl, inr, ℕ, ◌<◌, Bool, true, false, not, List, [], ◌∷◌, length, map, refl, sym, subst, ap, ◌∙◌, Option, Some, None, Ok}
use Rattle.std.specs.Prelude.{option_map, nat_eq, ◌||◌, ◌&&◌, bytes_eq, codes, if◌then◌else◌, slice_get}
use Rattle.std.specs.List.{list_all, list_any}
use Rattle.std.specs.Option.{option_map_or}
use Rattle.std.proofs.lemmas.Bool.{eq-eqb}
use Rattle.std.proofs.lemmas.Option.{slice_get_within}
use Rattle.std.proofs.lemmas.Slice.Eq.{bytes_eq-Decides}
use Rattle.cf_reader.specs.declared.class_file.Field.{Field}
use Rattle.cf_reader.specs.declared.class_file.Method.{Method}
use Rattle.cls_link.specs.Links.{Links}
use Rattle.cls_link.specs.Targets.{index_from}
use Rattle.cls_link.specs.declared.linked_code.LinkedInsn.TheVariants as insn
use Rattle.cls_resolve.specs.Meanings.{field_of}
use Rattle.cls_resolve.specs.declared.named.CastType.{CastType}
use Rattle.cls_resolve.specs.declared.named.CastType.TheVariants as cast
use Rattle.cls_resolve.specs.declared.named.MemberIndex.{MemberIndex}
use Rattle.cls_set.proofs.Hierarchy.{equal, true_false}
use Rattle.cls_set.specs.Classes.{name_at}
use Rattle.cls_set.specs.Sets.{IsClassSet}
use Rattle.cls_set.specs.Subtypes.IsSubclass.{itself}
use Rattle.cls_set.specs.declared.class.Class.{Class}
use Rattle.space_ids.specs.declared.ids.ClassId.{ClassId}
use Rattle.ver_check.specs.Bodies.{Body, offset_at}
use Rattle.ver_check.specs.Effects.{cast_vtype, effect}
use Rattle.ver_check.specs.Members.{field_at, get_field, is_own_field, make_new, put_field, written_object}
use Rattle.ver_check.specs.Steps.{demand, found_or, give, take}
use Rattle.ver_rules.specs.Wants.{is_wanted}
use Rattle.ver_rules.specs.declared.fault.CheckRule.TheVariants as rule
use Rattle.ver_rules.specs.declared.want.Want.TheVariants as want
use Rattle.ver_frames.specs.Assignable.{IsAssignable, IsObjectAssignable}
use Rattle.ver_frames.specs.AssignableTest.{is_assignable}
use Rattle.ver_frames.specs.Changes as changes
use Rattle.ver_frames.specs.Frames.{Frame}
use Rattle.ver_frames.specs.Made.{made_at}
use Rattle.ver_frames.specs.StackMapFormat.{is_uninit_this}
use Rattle.ver_frames.specs.Types.{field_vtype}
use Rattle.ver_frames.specs.declared.vtype.VType.{VType}
use Rattle.ver_frames.specs.declared.vtype.VType.TheVariants as vtype
use Rattle.vm_act.specs.Objects as acts
use Rattle.vm_act.specs.Steps.{on_some, where_true}
use Rattle.vm_act.specs.declared.machine.Machine.{Machine}
use Rattle.vm_act.specs.declared.objects.Referent.{Referent}
use Rattle.vm_act.specs.declared.objects.Referent.TheVariants as referent
use Rattle.vm_code.proofs.Remotes.{interface_sound, remote_sound}
use Rattle.cls_search.specs.MethodSearches.{is_interface}
use Rattle.vm_code.specs.Classes.{implements_remotely, is_below_remote, is_instance, is_object, is_remote, is_remote_interface, is_subtype, passes}
use Rattle.vm_code.specs.Fields.{field_kind, kind_of, kinds_of, slot_of}
use Rattle.vm_code.specs.Fits as tests
use Rattle.vm_code.specs.Fits.{current_is, fits, fits_field, is_in_init, is_of_class, may_read, refers, takes_field}
use Rattle.vm_code.specs.Methods.{is_init}
use Rattle.vm_heap.specs.Tagged.{Tagged, Site, Int, Null, Local, Remote, Fresh, This, Unset, Head, object_at}
use Rattle.vm_heap.specs.declared.heap.WordKind.{WordKind}
use Rattle.vm_act.specs.Next.{Next}
use Rattle.vm_act.specs.Remote.{create, read_field, write_field}
use Rattle.vm_typing.proofs.Asks as asks
use Rattle.vm_typing.proofs.Objects as objects
use Rattle.vm_typing.proofs.Referents as referents
use Rattle.vm_typing.proofs.Leads.{Fits-assignable, at_site}
use Rattle.vm_typing.specs.Fits.{Held, held_by, pointee_at, IsA, There, Points, Marks, IsReceiver, Fits, AllFit}
use Rattle.vm_typing.specs.Laws.{Leads}
use Rattle.vm_typing.specs.Typed.{IsAt, marks_of}
use Rattle.vm_typing.specs.Owed.{CastFits, HasKind, IsOne, MayWrite, Owed, Refers}
use Rattle.vm_typing.specs.World.{World, IsKnown, cleared, is_made_at}
use Rattle.vm_laws.proofs.LookUps.{has_kind}
use Rattle.vm_laws.specs.Rows.{CastsTo, MakesObjects, NamesField, IsBodyOf, IsRow, ObjectRows}
use Rattle.vm_laws.proofs.Fitting.{and_true, object_passes, value_passes}
use Rattle.vm_laws.proofs.Stands.{fits_asked, next_is, room_for}
use Rattle.vm_laws.proofs.Takes.{demanded, found_is, gives, passes_then, same_ok, take_last, take_then}
use Rattle.vm_laws.proofs.Wants.{initialized_wanted}

-- ---- what a `new` made before

pub same_made : (offset : ℕ) (t : VType) → is_made_at offset t ≡ changes.is_made_at offset t
same_made offset vtype.Top = refl
same_made offset vtype.Int = refl
same_made offset vtype.Null = refl
same_made offset (vtype.Object class) = refl
same_made offset vtype.IntArray = refl
same_made offset (vtype.Uninitialized made) = refl
same_made offset vtype.UninitializedThis = refl

same_cleared : (offset : ℕ) (ts : List VType) → map (cleared offset) ts ≡ map (changes.cleared offset) ts
same_cleared offset [] = refl
same_cleared offset (t ∷ ts) =
    ap (λ (b : Bool). (if b then vtype.Top else t) ∷ map (cleared offset) ts) (same_made offset t)
    ∙ ap (λ (us : List VType). changes.cleared offset t ∷ us) (same_cleared offset ts)

none_made : (offset : ℕ) (ts : List VType) → not (list_any (changes.is_made_at offset) ts) ≡ true → list_all (λ t. not (is_made_at offset t)) ts ≡ true
none_made offset [] e = refl
none_made offset (t ∷ ts) e = rw (same_made offset t) (on (changes.is_made_at offset t) (list_any (changes.is_made_at offset) ts) e (none_made offset ts))
  where
    on : (a b : Bool) → not (a || b) ≡ true → (not b ≡ true → list_all (λ t. not (is_made_at offset t)) ts ≡ true) → (not a && list_all (λ t. not (is_made_at offset t)) ts) ≡ true
    on true b e go = absurd (true_false (sym e))
    on false b e go = go e

-- a test lets pass
pub let_pass : (w : World) (asked : Option VType) (held : Held) (b : Bool) (next : Next) → b ≡ true → Leads w asked held next → Leads w asked held (where_true b next)
let_pass w asked held b next e leads = subst (λ (c : Bool). Leads w asked held (where_true c next)) (sym e) leads

-- one of two steps
one_of : (w : World) (asked : Option VType) (held : Held) (b : Bool) (one other : Next) → (b ≡ true → Leads w asked held one) → Leads w asked held other
    → Leads w asked held (if b then one else other)
one_of w asked held true one other is is_not = is refl
one_of w asked held false one other is is_not = is_not

made_here : (body : Body) (index : ℕ) (class : ClassId) → slice_get body.insns index ≡ Some (insn.New class) → index_from 0 body.offsets (offset_at body index) ≡ Some index
    → made_at body.insns body.offsets (offset_at body index) ≡ Some class
unfolding made_at
made_here body index class is found = rw (found, is) refl

module _ (classes : List Class) where
  -- what may stand for a class may be written into
  may_write : (w : World) (owner class : ClassId) (s : VType) → IsAssignable w.classes s (vtype.Object class) → MayWrite w owner class s
  unfolding IsAssignable
  may_write w owner class vtype.Top e = absurd e
  may_write w owner class vtype.Int e = absurd e
  may_write w owner class vtype.Null e = tt
  may_write w owner class (vtype.Object c) e = e
  may_write w owner class vtype.IntArray e = e
  may_write w owner class (vtype.Uninitialized offset) e = absurd e
  may_write w owner class vtype.UninitializedThis e = absurd e

  is_this : (t : VType) → is_uninit_this t ≡ true → t ≡ vtype.UninitializedThis
  is_this vtype.Int e = absurd (true_false (sym e))
  is_this vtype.Top e = absurd (true_false (sym e))
  is_this vtype.Null e = absurd (true_false (sym e))
  is_this (vtype.Object class) e = absurd (true_false (sym e))
  is_this vtype.IntArray e = absurd (true_false (sym e))
  is_this (vtype.Uninitialized offset) e = absurd (true_false (sym e))
  is_this vtype.UninitializedThis e = refl

  either : (a b : Bool) → (a || b) ≡ true → (a ≡ true) ⊎ (b ≡ true)
  either true b e = inl refl
  either false b e = inr e

  first_of : (a b : Bool) → (a && b) ≡ true → a ≡ true
  first_of true b e = refl
  first_of false b e = e

  second : (a b : Bool) → (a && b) ≡ true → b ≡ true
  second true b e = e
  second false b e = absurd (true_false (sym e))

  this_or : (class : ClassId) (t : VType) → is_wanted classes (want.FitsOrThis class) t ≡ true → (t ≡ vtype.UninitializedThis) ⊎ (is_wanted classes (want.Fits (vtype.Object class)) t ≡ true)
  unfolding is_wanted
  this_or class t e =
      elim (either (is_uninit_this t) (is_assignable classes t (vtype.Object class)) e) [
        | inl is ↦ inl (is_this t is)
        | inr is ↦ inr is
      ]

  -- the object whose field is written
  written : (body : Body) (class : ClassId) (member : MemberIndex) (t : VType) → is_wanted classes (written_object body class member) t ≡ true
      → ((t ≡ vtype.UninitializedThis) × ((body.is_init ≡ true) × (body.class_id ≡ member.class))) ⊎ (is_wanted classes (want.Fits (vtype.Object class)) t ≡ true)
  written body class member t e = on (is_own_field body member) refl e
    where
      on : (b : Bool) → is_own_field body member ≡ b → is_wanted classes (if b then want.FitsOrThis class else want.Fits (vtype.Object class)) t ≡ true
          → ((t ≡ vtype.UninitializedThis) × ((body.is_init ≡ true) × (body.class_id ≡ member.class))) ⊎ (is_wanted classes (want.Fits (vtype.Object class)) t ≡ true)
      on true own e =
          elim (this_or class t e) [
            | inl is ↦ inl (is, (first_of body.is_init (nat_eq member.class.0 body.class_id.0) own, sym (equal member.class body.class_id (second body.is_init (nat_eq member.class.0 body.class_id.0) own))))
            | inr is ↦ inr is
          ]
      on false own e = inr e

  object_named : (class : ClassId) → is_object classes class ≡ true → name_at classes class ≡ Some (codes "java/lang/Object")
  object_named class e = on (name_at classes class) e
    where
      on : (o : Option (List ℕ)) → option_map_or (λ name. bytes_eq name (codes "java/lang/Object")) o false ≡ true → o ≡ Some (codes "java/lang/Object")
      on None e = absurd (true_false (sym e))
      on (Some name) e = ap (λ (n : List ℕ). Some n) ((bytes_eq-Decides name (codes "java/lang/Object")).0 e)

module _ (links : Links) (w : World) (owed : Owed w) (set : IsClassSet w.classes) (body : Body) where
  new_row : (class : ClassId) → IsRow links w body (insn.New class)
  unfolding effect make_new
  new_row class asked fresh receiver f after m s at =
      let makes : MakesObjects w class = s.names in
      let offset : ℕ = offset_at body m.stack.frame.index in
      let first = passes_then (demand rule.Uninitialized (not (list_any (changes.is_made_at offset) f.stack)) f) (λ g. give body (vtype.Uninitialized offset) (changes.map_locals (changes.cleared offset) g)) after s.effect in
      let test = demanded rule.Uninitialized (not (list_any (changes.is_made_at offset) f.stack)) f first.0 first.1.0 in
      let given = gives body (vtype.Uninitialized offset) (changes.map_locals (changes.cleared offset) f) after
      (subst (λ (g : Frame). give body (vtype.Uninitialized offset) (changes.map_locals (changes.cleared offset) g) ≡ Ok after) (sym test.1) first.1.1) in
      let within = slice_get_within body.insns m.stack.frame.index (insn.New class) s.is in
      let inside = subst (λ (count : ℕ). m.stack.frame.index < count) s.body_of.count within in
      let stands = s.body_of.offsets m.stack.frame.index in
      let names = s.body_of.made offset ∙ made_here body m.stack.frame.index class s.is (s.body_of.found m.stack.frame.index within) in
      let none = none_made offset f.stack test.0 in
      let room = room_for links w body (insn.New class) f after m s (length f.stack) given.0 in
      let next = next_is links w body (insn.New class) f after m s (record f { locals = map (cleared offset) f.locals; stack = vtype.Uninitialized offset ∷ f.stack })
      (ap (λ (locals : List VType). record f { locals = locals; stack = vtype.Uninitialized offset ∷ f.stack }) (same_cleared offset f.locals) ∙ given.1) refl in
      subst (λ (o : Option (List WordKind)). Leads w asked (held_by m) (on_some (λ kinds. if is_remote links.classes class then create class m else acts.new_object class kinds m) o))
      (sym (ap (λ (classes : List Class). kinds_of classes class) s.body_of.linked ∙ makes.held))
      (one_of w asked (held_by m) (is_remote links.classes class) (create class m) (acts.new_object class makes.kinds m)
      (λ is. asks.create-leads w owed asked (held_by m) fresh receiver class offset f m makes.known
      (remote_sound w.classes class (subst (λ (classes : List Class). is_remote classes class ≡ true) s.body_of.linked is)) inside stands names none room next at)
      (objects.new_object-leads w owed asked (held_by m) fresh receiver class makes.kinds offset f m makes.known makes.of_types inside stands names none room next at))

  -- the field that an instruction names
  field_named : (class : ClassId) (member : MemberIndex) (names : NamesField w class member) (found : Field) → body.classes ≡ w.classes → found_or rule.Mismatch (field_at body.classes member) ≡ Ok found
      → field_vtype body.classes found.kind ≡ field_vtype w.classes names.field.kind
  field_named class member names found same e =
      let is : field_at w.classes member ≡ Some found = subst (λ (classes : List Class). field_at classes member ≡ Some found) same (found_is rule.Mismatch (field_at body.classes member) found e) in
      ap (λ (classes : List Class). field_vtype classes found.kind) same ∙ ap (λ (g : Field). field_vtype w.classes g.kind) (one found names.field (sym is ∙ names.declared))
    where
      one : (a b : Field) → ◌≡◌ {A = Option Field} (Some a) (Some b) → a ≡ b
      one a b e = cc

  slot_there : (class : ClassId) (member : MemberIndex) (names : NamesField w class member) → links.classes ≡ w.classes → Some names.slot ≡ slot_of links.classes (field_of member)
  slot_there class member names same = sym (ap (λ (classes : List Class). slot_of classes (field_of member)) same ∙ names.kept)

  kind_there : (class : ClassId) (member : MemberIndex) (names : NamesField w class member) → links.classes ≡ w.classes
      → Some (kind_of names.field.kind) ≡ field_kind links.classes (field_of member)
  kind_there class member names same =
      sym (ap (λ (classes : List Class). field_kind classes (field_of member)) same ∙ ap (λ (o : Option Field). option_map (λ (f : Field). kind_of f.kind) o) names.declared)

  -- what the tests of getfield and putfield let pass

  typed_operands : (asked : Option VType) (fresh : ℕ → Site) (receiver : Site) (f : Frame) (m : Machine) → IsAt w asked fresh receiver f m → (types : List VType) → f.stack ≡ types
      → AllFit w (held_by m) (marks_of w m.stack.frame.method fresh receiver) types m.stack.frame.operands
  typed_operands asked fresh receiver f m at types e =
      subst (λ (ts : List VType). AllFit w (held_by m) (marks_of w m.stack.frame.method fresh receiver) ts m.stack.frame.operands) e at.frame.operands

  reads : (class : ClassId) (k : Marks) (m : Machine) (t : VType) (types : List VType) → IsAssignable w.classes t (vtype.Object class)
      → AllFit w (held_by m) k (t ∷ types) m.stack.frame.operands → may_read w.classes class m ≡ true
  unfolding may_read
  reads class k m t types to fit = by m.stack.frame.operands fit
    where
      by : (operands : List Tagged) → AllFit w (held_by m) k (t ∷ types) operands → option_map_or (refers (is_of_class w.classes class) m) (slice_get operands 0) false ≡ true
      by [] fit = absurd fit
      by (v ∷ rest) fit = object_passes w owed set m k class v (Fits-assignable w owed (held_by m) k t (vtype.Object class) v to fit.0)

  record TwoOperands (k : Marks) (m : Machine) (s t : VType) : Type 0 where
    value : Tagged
    target : Tagged
    one : slice_get m.stack.frame.operands 0 ≡ Some value
    other : slice_get m.stack.frame.operands 1 ≡ Some target
    fits : Fits w (held_by m) k s value
    rests : Fits w (held_by m) k t target

  two_operands : (k : Marks) (m : Machine) (s t : VType) (types : List VType) → AllFit w (held_by m) k (s ∷ t ∷ types) m.stack.frame.operands → TwoOperands k m s t
  two_operands k m s t types fit = by m.stack.frame.operands refl fit
    where
      by : (operands : List Tagged) → m.stack.frame.operands ≡ operands → AllFit w (held_by m) k (s ∷ t ∷ types) operands → TwoOperands k m s t
      by [] e fit = absurd fit
      by (v ∷ []) e fit = absurd fit.1
      by (v ∷ o ∷ rest) e fit = record { value = v; target = o; one = rw e refl; other = rw e refl; fits = fit.0; rests = fit.1.0 }

  writes : (class : ClassId) (member : MemberIndex) (names : NamesField w class member) (k : Marks) (m : Machine) → links.classes ≡ w.classes → (v o : Tagged)
      → slice_get m.stack.frame.operands 0 ≡ Some v → slice_get m.stack.frame.operands 1 ≡ Some o
      → Fits w (held_by m) k (field_vtype w.classes names.field.kind) v → takes_field links class (field_of member) m o ≡ true → tests.may_write links class member m ≡ true
  unfolding tests.may_write
  writes class member names k m linked v o one other fit to =
      let plain = owed.fields class names.slot (field_vtype w.classes names.field.kind) names.typed in
      let of_field : fits_field w.classes (field_of member) m v ≡ true =
      ap (λ (f : Option Field). option_map_or (λ (f : Field). fits w.classes f.kind m v) f false) names.declared ∙ value_passes w owed set m k names.field.kind v plain fit in
      rw (one, other) (and_true (fits_field links.classes (field_of member) m v) (takes_field links class (field_of member) m o)
      (subst (λ (classes : List Class). fits_field classes (field_of member) m v ≡ true) (sym linked) of_field) to)

  -- an object of the named class
  takes_named : (class : ClassId) (member : MemberIndex) (k : Marks) (m : Machine) → links.classes ≡ w.classes → (o : Tagged)
      → Points (IsA w class) (held_by m) o → takes_field links class (field_of member) m o ≡ true
  takes_named class member k m linked = by
    where
      passes_in : (o : Tagged) → Points (IsA w class) (held_by m) o → refers (is_of_class links.classes class) m o ≡ true
      passes_in o points =
          subst (λ (classes : List Class). refers (is_of_class classes class) m o ≡ true) (sym linked) (object_passes w owed set m k class o points)

      by : (o : Tagged) → Points (IsA w class) (held_by m) o → takes_field links class (field_of member) m o ≡ true
      by Null points = passes_in Null points
      by (Local address) points = passes_in (Local address) points
      by (Remote row) points = passes_in (Remote row) points
      by (Int n) points = absurd points
      by (Fresh index site) points = absurd points
      by (This site) points = absurd points
      by Unset points = absurd points
      by (Head header) points = absurd points

  -- the receiver of a running `<init>`, which declares the field
  takes_own : (class : ClassId) (member : MemberIndex) (k : Marks) (m : Machine) (of : IsBodyOf links w m.stack.frame.method body) (o : Tagged) → IsReceiver w (held_by m) k o
      → k.method.owner ≡ body.class_id → body.is_init ≡ true → body.class_id ≡ member.class → takes_field links class (field_of member) m o ≡ true
  takes_own class member k m of o is owner init own =
      let there : There (IsA w member.class) (pointee_at (held_by m) k.receiver) = subst (λ (c : ClassId). There (IsA w c) (pointee_at (held_by m) k.receiver)) (owner ∙ own) is.there in
      let passes_there = object_passes w owed set m k member.class (object_at k.receiver) (at_site (IsA w member.class) (held_by m) k.receiver there) in
      let in_init : is_in_init links m ≡ true = ap (λ (o : Option Method). option_map_or is_init o false) of.declared ∙ (sym of.named ∙ init) in
      let current : current_is links (λ current. nat_eq current.0 member.class.0) m ≡ true =
      ap (λ (o : Option ClassId). option_map_or (λ (c : ClassId). nat_eq c.0 member.class.0) o false) of.declared_by ∙ eq-eqb body.class_id.0 member.class.0 (ap (λ (c : ClassId). c.0) own) in
      subst (λ (v : Tagged). takes_field links class (field_of member) m v ≡ true) (sym is.is)
      (and_true (is_in_init links m) _ in_init
      (and_true (current_is links (λ current. nat_eq current.0 member.class.0) m) (refers (is_of_class links.classes member.class) m (object_at k.receiver)) current
      (subst (λ (classes : List Class). refers (is_of_class classes member.class) m (object_at k.receiver) ≡ true) (sym of.linked) passes_there)))

  get_row : (class : ClassId) (member : MemberIndex) → IsRow links w body (insn.GetField class member)
  unfolding effect get_field
  get_row class member asked fresh receiver f after m s at =
      let names : NamesField w class member = s.names in
      let first = passes_then (found_or rule.Mismatch (field_at body.classes member)) (λ field. get_field body class field f) after s.effect in
      let same = field_named class member names first.0 s.body_of.classes first.1.0 in
      let a = take_then body (want.Fits (vtype.Object class)) f (give body (field_vtype body.classes first.0.kind)) after first.1.1 in
      let given = gives body (field_vtype body.classes first.0.kind) (record f { stack = a.types }) after a.further in
      let to = fits_asked links w body (insn.GetField class member) f after m s set (vtype.Object class) a.top a.wanted in
      let_pass w asked (held_by m) (may_read links.classes class m) _
      (subst (λ (classes : List Class). may_read classes class m ≡ true) (sym s.body_of.linked)
      (reads class (marks_of w m.stack.frame.method fresh receiver) m a.top a.types to (typed_operands asked fresh receiver f m at (a.top ∷ a.types) a.stack)))
      (subst (λ (o : Option ℕ). Leads w asked (held_by m) (on_some (λ slot. read_field slot m) o)) (slot_there class member names s.body_of.linked)
      (asks.read_field-leads w owed asked (held_by m) fresh receiver class names.slot (field_vtype body.classes first.0.kind)
      (subst (λ (t : VType). slice_get (w.fields class) names.slot ≡ Some t) (sym same) names.typed) a.top a.types f m a.stack to
      (room_for links w body (insn.GetField class member) f after m s (length a.types) given.0)
      (next_is links w body (insn.GetField class member) f after m s (record f { stack = field_vtype body.classes first.0.kind ∷ a.types }) given.1 refl) at))

  put_row : (class : ClassId) (member : MemberIndex) → IsRow links w body (insn.PutField class member)
  unfolding effect put_field
  put_row class member asked fresh receiver f after m s at =
      let names : NamesField w class member = s.names in
      let first = passes_then (found_or rule.Mismatch (field_at body.classes member)) (λ field. put_field body class member field f) after s.effect in
      let t : VType = field_vtype body.classes first.0.kind in
      let same : t ≡ field_vtype w.classes names.field.kind = field_named class member names first.0 s.body_of.classes first.1.0 in
      let a = take_then body (want.Fits t) f (take body (written_object body class member)) after first.1.1 in
      let b = take_last body (written_object body class member) (record f { stack = a.types }) after a.further in
      let stack : f.stack ≡ a.top ∷ b.top ∷ b.types = subst (λ (types : List VType). f.stack ≡ a.top ∷ types) b.stack a.stack in
      let fits = fits_asked links w body (insn.PutField class member) f after m s set t a.top a.wanted in
      let next = next_is links w body (insn.PutField class member) f after m s (record f { stack = b.types }) (same_ok b.further) refl in
      let k : WordKind = kind_of names.field.kind in
      let marks = marks_of w m.stack.frame.method fresh receiver in
      let two = two_operands marks m a.top b.top b.types (typed_operands asked fresh receiver f m at (a.top ∷ b.top ∷ b.types) stack) in
      let kinds : HasKind t k =
      subst (λ (u : VType). HasKind u k) (sym same) (has_kind w.classes names.field.kind (owed.fields class names.slot (field_vtype w.classes names.field.kind) names.typed)) in
      let_pass w asked (held_by m) (tests.may_write links class member m) _
      (writes class member names marks m s.body_of.linked two.value two.target two.one two.other
      (Fits-assignable w owed (held_by m) marks a.top (field_vtype w.classes names.field.kind) two.value (subst (λ (u : VType). IsAssignable w.classes a.top u) same fits) two.fits)
      (elim (written body.classes body class member b.top b.wanted) [
        | inl own ↦ takes_own class member marks m s.body_of two.target (subst (λ (u : VType). Fits w (held_by m) marks u two.target) own.0 two.rests) (sym s.body_of.owner) own.1.0 own.1.1
        | inr of_class ↦ takes_named class member marks m s.body_of.linked two.target
            (Fits-assignable w owed (held_by m) marks b.top (vtype.Object class) two.target (fits_asked links w body (insn.PutField class member) f after m s set (vtype.Object class) b.top of_class) two.rests)
      ]))
      (subst (λ (o : Option ℕ). Leads w asked (held_by m) (on_some (λ slot. on_some (λ kind. write_field slot kind m) (field_kind links.classes (field_of member))) o))
      (slot_there class member names s.body_of.linked)
      (subst (λ (o : Option WordKind). Leads w asked (held_by m) (on_some (λ kind. write_field names.slot kind m) o)) (kind_there class member names s.body_of.linked)
      (elim (written body.classes body class member b.top b.wanted) [
        | inl own ↦ asks.write_field-leads w owed asked (held_by m) fresh receiver member.class names.slot t
            (subst (λ (u : VType). slice_get (w.fields member.class) names.slot ≡ Some u) (sym same) names.own) k a.top b.top b.types f m kinds stack fits
            (subst (λ (u : VType). MayWrite w (w.method m.stack.frame.method).owner member.class u) (sym own.0) (sym s.body_of.owner ∙ own.1.1)) next at
        | inr of_class ↦ asks.write_field-leads w owed asked (held_by m) fresh receiver class names.slot t
            (subst (λ (u : VType). slice_get (w.fields class) names.slot ≡ Some u) (sym same) names.typed) k a.top b.top b.types f m kinds stack fits
            (may_write body.classes w (w.method m.stack.frame.method).owner class b.top (fits_asked links w body (insn.PutField class member) f after m s set (vtype.Object class) b.top of_class)) next at
      ])))

  -- ---- casts

  cast_refers : (type : CastType) → Refers (cast_vtype type)
  cast_refers (cast.Class class) = tt
  cast_refers cast.IntArray = tt

  -- what is known of an object or an array on top
  one_known : (t : VType) (b : ClassId) → IsOne w t (referent.Object b) → IsKnown w b
  one_known vtype.Top b one = absurd one
  one_known vtype.Int b one = absurd one
  one_known vtype.Null b one = absurd one
  one_known (vtype.Object class) b one = one.0
  one_known vtype.IntArray b one = absurd one
  one_known (vtype.Uninitialized offset) b one = absurd one
  one_known vtype.UninitializedThis b one = absurd one

  first : (a b : Bool) → (a && b) ≡ true → a ≡ true
  first true b e = refl
  first false b e = absurd (true_false (sym e))

  one_holds : (a b : Bool) → (a || b) ≡ true → (a ≡ true) ⊎ (b ≡ true)
  one_holds true b e = inl refl
  one_holds false b e = inr e

  cast_fits : (type : CastType) → CastsTo w type → (t : VType) (r : Referent) → IsOne w t r → passes w.classes type r ≡ true → CastFits w (cast_vtype type) r
  cast_fits (cast.Class asked) casts t referent.Null one e = tt
  cast_fits (cast.Class asked) casts t (referent.Object b) one e = (one_known t b one, casts b (one_known t b one) e)
  cast_fits (cast.Class asked) casts t referent.Ints one e =
      (owed.object, subst (λ (c : ClassId). IsObjectAssignable w.classes w.object c) (owed.object_named asked (object_named w.classes asked e)) (inr (itself w.object)))
  cast_fits cast.IntArray casts t referent.Null one e = tt
  cast_fits cast.IntArray casts t (referent.Object b) one e = absurd (true_false (sym e))
  cast_fits cast.IntArray casts t referent.Ints one e = tt
  cast_fits (cast.Class asked) casts t (referent.Stub reference) one e =
      elim (one_holds (is_object w.classes asked) (implements_remotely w.classes reference.class asked) e) [
        | inl is ↦ (owed.object, subst (λ (c : ClassId). IsObjectAssignable w.classes w.object c) (owed.object_named asked (object_named w.classes asked is)) (inr (itself w.object)))
        | inr is ↦ (
          owed.object,
          inl (interface_sound w.classes asked (first (is_interface w.classes asked) (is_below_remote w.classes asked)
              (first (is_remote_interface w.classes asked) (is_subtype w.classes reference.class asked) is))),
        )
      ]
  cast_fits cast.IntArray casts t (referent.Stub reference) one e = absurd (true_false (sym e))

  check_row : (type : CastType) → IsRow links w body (insn.CheckCast type)
  unfolding effect
  check_row type asked fresh receiver f after m s at =
      let casts : CastsTo w type = s.names in
      let a = take_then body want.Initialized f (give body (cast_vtype type)) after s.effect in
      let given = gives body (cast_vtype type) (record f { stack = a.types }) after a.further in
      referents.cast-leads w owed asked (held_by m) fresh receiver (passes links.classes type) a.top (cast_vtype type) a.types f m a.stack
      (initialized_wanted body.classes a.top a.wanted) (cast_refers type)
      (λ r one is. cast_fits type casts a.top r one (subst (λ (classes : List Class). passes classes type r ≡ true) s.body_of.linked is))
      (next_is links w body (insn.CheckCast type) f after m s (record f { stack = cast_vtype type ∷ a.types }) given.1 refl) at

  instance_row : (type : CastType) → IsRow links w body (insn.InstanceOf type)
  unfolding effect
  instance_row type asked fresh receiver f after m s at =
      let a = take_then body want.Initialized f (give body vtype.Int) after s.effect in
      let given = gives body vtype.Int (record f { stack = a.types }) after a.further in
      referents.answer-leads w owed asked (held_by m) fresh receiver (is_instance links.classes type) a.top a.types f m a.stack
      (initialized_wanted body.classes a.top a.wanted)
      (room_for links w body (insn.InstanceOf type) f after m s (length a.types) given.0)
      (next_is links w body (insn.InstanceOf type) f after m s (record f { stack = vtype.Int ∷ a.types }) given.1 refl) at

  pub rows : ObjectRows links w body
  rows = record { new = new_row; get_field = get_row; put_field = put_row; check_cast = check_row; instance_of = instance_row }
