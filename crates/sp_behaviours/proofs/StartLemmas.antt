-- Tasks that begin have machines: as roots that are not refused, and by calls of what remote interfaces have.
use Rattle.std.proofs.Common.{◌≡◌, ℕ, Bool, true, false, Option, Some, None, List, [], ◌∷◌, ◌++◌, map, refl, sym, subst, ap, ◌∙◌}
use Rattle.std.specs.Prelude.{◌&&◌, ◌||◌, Contains, IsOk, if◌then◌else◌, length, not, option_and_then, option_map, slice_get}
use Rattle.std.specs.List.{list_all, list_any}
use Rattle.std.specs.Option.{option_map_or}
use Rattle.std.proofs.lemmas.Bool.{true≢false}
use Rattle.std.proofs.lemmas.Option.{get_or_from_slice_get, slice_get_within}
use Rattle.std.proofs.lemmas.Slice.Eq.{bytes_eq-Decides}
use Rattle.cf_reader.specs.declared.class_file.Method.{Method}
use Rattle.cf_text.specs.declared.types.FieldType.{FieldType}
use Rattle.cls_link.proofs.DeclaredIndexes.{at_number}
use Rattle.cls_link.specs.Links.{Links, Declared, IsLinked, declared_methods}
use Rattle.cls_link.specs.declared.linked_code.MethodId.{MethodId}
use Rattle.cls_search.specs.MethodSearches.{is_interface}
use Rattle.cls_set.proofs.Hierarchy.{at_some, same_some}
use Rattle.cls_set.specs.Classes.{IsInterface}
use Rattle.cls_set.specs.declared.class.Class.{Class}
use Rattle.space_ids.specs.declared.ids.ClassId.{ClassId}
use Rattle.space_ids.specs.declared.ids.Ref.{Ref}
use Rattle.space_ids.specs.declared.value.Value.{Value}
use Rattle.space_ids.specs.declared.value.Value.TheVariants as value
use Rattle.sp_behaviours.proofs.Selected.{selected_begins}
use Rattle.sp_behaviours.specs.Kinds.{kind_of_type}
use Rattle.sp_behaviours.specs.Receiving.{IsCallOn}
use Rattle.sp_behaviours.specs.Remote.{gives_method, has_method, is_abstract}
use Rattle.sp_behaviours.specs.Starts.{refusal_of}
use Rattle.sp_laws.specs.Calls.{AreRemote, IsCallOf, StartsBy}
use Rattle.sp_rules.proofs.OwnLemmas.{and-left, and-right, first-of, unrefused}
use Rattle.sp_rules.specs.Classes.{Classes, Kind, Setting, StartRefusal, IntArrayKind, IntKind, ReferenceKind, fit_kinds, fits_kind}
use Rattle.sp_rules.specs.Events.{Event, Root}
use Rattle.sp_rules.specs.Lists.{numbers_below}
use Rattle.sp_rules.specs.References.{reference_of, references_of}
use Rattle.sp_rules.specs.Refusals
use Rattle.sp_rules.specs.Refusals.{Check, first_refusal, refusal}
use Rattle.sp_rules.specs.Space.{state_of}
use Rattle.sp_rules.specs.State.{State, Origin, OfRoot, OfCall}
use Rattle.uuid.specs.declared.Uuid.{Uuid}
use Rattle.ver_frames.specs.Method.{is_static}
use Rattle.vm_code.proofs.Remotes.{interface_sound}
use Rattle.vm_code.proofs.Subtypes.{subtype_sound}
use Rattle.vm_code.specs.Classes.{is_remote, is_remote_interface, is_subtype}
use Rattle.vm_code.specs.Methods.{is_init, is_public}
use Rattle.vm_code.specs.Parameters.{is_array_type}
use Rattle.vm_step.specs.Begin.{begun}
use Rattle.vm_step.specs.Start.{crosses, fill, is_int_type, is_of_type, is_remote_type, startable, takes_crossing}
use Rattle.vm_step.specs.Start as machines
use Rattle.vm_step.specs.Subjects as subjects
use Rattle.vm_step.specs.declared.fault.StartFault.{StartFault}
use Rattle.vm_step.specs.declared.fault.StartFault.TheVariants as fault
use Rattle.vm_step.specs.declared.limits.Limits.{Limits}
use Rattle.vm_typing.proofs.Leads.{AllZip-get}
use Rattle.sp_behaviours.specs.Calls.{IsSettingOf}
use Rattle.sp_behaviours.specs.ReplyStarts.{TasksBegin}
use Rattle.sp_behaviours.specs.Stores.{StoreFits}
use Rattle.sp_behaviours.proofs.CrossingLemmas.{and-both}
use Rattle.sp_behaviours.proofs.FieldLemmas.{all-split}
use Rattle.sp_behaviours.proofs.NamedLemmas.{contains-at}
use Rattle.sp_behaviours.proofs.StoreLemmas.{stores_fit}

-- ---- roots

module _ (links : Links) (own : Uuid) (id : MethodId) (values : List Value) (limits : Limits) where
  abbrev refused : Bool → Bool → Bool → Option StartFault
  refused takes static filled = if not takes then Some fault.BadSignature else (if static && filled then None else Some fault.BadArgument)

  starts : (m : subjects.Declared) → startable links id ≡ Some m → (a b c : Bool) → takes_crossing links.classes m.method.types ≡ a → is_static m.method ≡ b
      → fill links.classes m.method.types.parameters values ≡ c → option_and_then refusal_of (refused a b c) ≡ None → IsOk (begun links own id values limits)
  starts m found true true true takes static filled none = rw (found, takes, static, filled) refl
  starts m found false b c takes static filled none = absurd (cc)
  starts m found true false c takes static filled none = absurd (cc)
  starts m found true true false takes static filled none = absurd (cc)

  root-begins : option_and_then refusal_of (machines.start_fault links id values) ≡ None → IsOk (begun links own id values limits)
  root-begins none = by (startable links id) refl none
    where
      by : (o : Option subjects.Declared) → startable links id ≡ o
          → option_and_then refusal_of (option_map_or (λ (m : subjects.Declared). machines.refusal links.classes m.method values) o (Some fault.AbsentMethod)) ≡ None → IsOk (begun links own id values limits)
      by None found none = absurd (cc)
      by (Some m) found none = starts m found (takes_crossing links.classes m.method.types) (is_static m.method) (fill links.classes m.method.types.parameters values) refl refl refl none

-- a root that is not refused may start
may-start : (o : Option StartRefusal) (more : List Check) → first_refusal (Refusals.refuse_start o ++ more) ≡ None → o ≡ None
may-start None more e = refl
may-start (Some why) more e = absurd (true≢false (first-of true (Refusals.CannotStart why) more e).0)

-- ---- arguments

any-one : (p : ℕ → Bool) (xs : List ℕ) → list_any p xs ≡ true → (x : ℕ) × (p x ≡ true)
any-one p [] e = absurd (true≢false (sym e))
any-one p (x ∷ xs) e = by (p x) refl e (any-one p xs)
  where
    by : (b : Bool) → p x ≡ b → (b || list_any p xs) ≡ true → (list_any p xs ≡ true → (x : ℕ) × (p x ≡ true)) → (x : ℕ) × (p x ≡ true)
    by true is e rest = (x, is)
    by false is e rest = rest e

module _ (links : Links) (g : Setting) (is : IsSettingOf links g) where
  abbrev classes : List Class
  classes = links.classes

  -- what may be remote by the rules is a remote class
  remote-class : (class : ClassId) → g.classes.is_remote class ≡ true → is_remote classes class ≡ true
  remote-class class e = and-left (is_remote classes class) (not (is_abstract classes class)) (sym (ap (λ (told : Classes). told.is_remote class) is.classes) ∙ e)

  -- an argument of the kind of a parameter that crosses is of its type
  is-of-type : (type : FieldType) (v : Value) → crosses classes type ≡ true → fits_kind (kind_of_type type) v ≡ true → AreRemote g (reference_of v) → is_of_type classes type v ≡ true
  is-of-type type v may fits remote = by (is_int_type type) (is_array_type type) refl refl may fits
    where
      ints : is_int_type type ≡ true → (v : Value) → fits_kind IntKind v ≡ true → is_of_type classes type v ≡ true
      ints e (value.Int n) fits = e
      ints e value.Null fits = absurd (true≢false (sym fits))
      ints e (value.Ints ns) fits = absurd (true≢false (sym fits))
      ints e (value.Ref r) fits = absurd (true≢false (sym fits))

      arrays : is_int_type type ≡ false → is_array_type type ≡ true → (v : Value) → fits_kind IntArrayKind v ≡ true → is_of_type classes type v ≡ true
      arrays e f value.Null fits = ap not e
      arrays e f (value.Ints ns) fits = f
      arrays e f (value.Int n) fits = absurd (true≢false (sym fits))
      arrays e f (value.Ref r) fits = absurd (true≢false (sym fits))

      references : is_int_type type ≡ false → is_remote_type classes type ≡ true → (v : Value) → fits_kind ReferenceKind v ≡ true → AreRemote g (reference_of v) → is_of_type classes type v ≡ true
      references e f value.Null fits remote = ap not e
      references e f (value.Ref r) fits remote = and-both (is_remote_type classes type) (is_remote classes r.class) f (remote-class r.class remote.0)
      references e f (value.Int n) fits remote = absurd (true≢false (sym fits))
      references e f (value.Ints ns) fits remote = absurd (true≢false (sym fits))

      by : (a b : Bool) → is_int_type type ≡ a → is_array_type type ≡ b → (a || (b || is_remote_type classes type)) ≡ true → fits_kind (if a then IntKind else (if b then IntArrayKind else ReferenceKind)) v ≡ true
          → is_of_type classes type v ≡ true
      by true b e f may fits = ints e v fits
      by false true e f may fits = arrays e f v fits
      by false false e f may fits = references e may v fits remote

  fills : (types : List FieldType) (values : List Value) → list_all (crosses classes) types ≡ true → fit_kinds (map kind_of_type types) values ≡ true → AreRemote g (references_of values) → fill classes types values ≡ true
  unfolding fill
  fills [] [] may fits remote = refl
  fills [] (v ∷ values) may fits remote = absurd (true≢false (sym fits))
  fills (type ∷ types) [] may fits remote = absurd (true≢false (sym fits))
  fills (type ∷ types) (v ∷ values) may fits remote =
      let parts = all-split (λ (r : Ref). g.classes.is_remote r.class ≡ true) (reference_of v) (references_of values) remote in
      and-both (is_of_type classes type v) (fill classes types values)
      (is-of-type type v (and-left (crosses classes type) (list_all (crosses classes) types) may) (and-left (fits_kind (kind_of_type type) v) (fit_kinds (map kind_of_type types) values) fits) parts.0)
      (fills types values (and-right (crosses classes type) (list_all (crosses classes) types) may) (and-right (fits_kind (kind_of_type type) v) (fit_kinds (map kind_of_type types) values) fits) parts.1)

  -- ---- calls

  -- the method of a number stands in its class
  record IsPlaced (d : Declared) : Type 0 where
    c : Class
    at : slice_get classes d.class.0 ≡ Some c
    there : Contains c.file.methods d.method

  placed : (number : ℕ) (d : Declared) → slice_get (declared_methods classes) number ≡ Some d → IsPlaced d
  placed number d at =
      let r = AllZip-get (IsLinked classes) (declared_methods classes) links.methods number d is.are.methods at in
      let p = at_number classes links.methods number r.0 is.are.methods (slice_get_within (declared_methods classes) number d at) (sym (get_or_from_slice_get links.methods number r.0 r.0 r.1.0)) in
      let declared : p.method ≡ d.method = same_some (sym p.declared ∙ ap (option_map (λ (d : Declared). d.method)) at) in
      record {
        c = p.class;
        at = subst (λ (c : ClassId). slice_get classes c.0 ≡ Some p.class) r.1.1.class p.class_at;
        there = subst (Contains p.class.file.methods) declared (contains-at p.class.file.methods r.0.index p.method p.method_there);
      }

  -- one of the class's remote interfaces has it
  record IsGiven (class : ClassId) (number : ℕ) : Type 0 where
    d : Declared
    at : slice_get (declared_methods classes) number ≡ Some d
    interface : ClassId
    gives : gives_method classes class d interface ≡ true

  given : (class : ClassId) (number : ℕ) → g.classes.may_call class number ≡ true → IsGiven class number
  given class number may = by (slice_get (declared_methods classes) number) refl (sym (ap (λ (told : Classes). told.may_call class number) is.classes) ∙ may)
    where
      by : (o : Option Declared) → slice_get (declared_methods classes) number ≡ o
          → option_map_or (λ (d : Declared). list_any (λ n. gives_method classes class d (record { 0 = n })) (numbers_below (length classes))) o false ≡ true → IsGiven class number
      by None at e = absurd (true≢false (sym e))
      by (Some d) at e =
          let one = any-one (λ n. gives_method classes class d (record { 0 = n })) (numbers_below (length classes)) e in
          record { d = d; at = at; interface = record { 0 = one.0 }; gives = one.1 }

  call-begins : (s : State) (stored : StoreFits g s) (selected : ℕ) (values : List Value) (limits : Limits) → IsCallOf g s selected values → IsOk (begun links g.id (record { 0 = selected }) values limits)
  call-begins s stored selected values limits call =
      let class : ClassId = call.object.class in
      let m = given class call.method call.may in
      let below = is_subtype classes class m.interface in
      let remote : is_remote_interface classes m.interface ≡ true = and-left (is_remote_interface classes m.interface) (below && has_method classes m.d m.interface) m.gives in
      let has : has_method classes m.d m.interface ≡ true = and-right below (has_method classes m.d m.interface) (and-right (is_remote_interface classes m.interface) (below && has_method classes m.d m.interface) m.gives) in
      let inherits : Bool = is_public m.d.method && (not (is_static m.d.method) && not (is_init m.d.method)) in
      let interface : is_interface classes m.d.class ≡ true = and-left (is_interface classes m.d.class) (is_subtype classes m.interface m.d.class && inherits) has in
      let up : (is_subtype classes m.interface m.d.class && inherits) ≡ true = and-right (is_interface classes m.d.class) (is_subtype classes m.interface m.d.class && inherits) has in
      let other : (not (is_static m.d.method) && not (is_init m.d.method)) ≡ true = and-right (is_public m.d.method) (not (is_static m.d.method) && not (is_init m.d.method)) (and-right (is_subtype classes m.interface m.d.class) inherits up) in
      let p = placed call.method m.d m.at in
      let cross : takes_crossing classes m.d.method.types ≡ true =
      is.methods m.interface m.d.class p.c m.d.method remote (subtype_sound classes m.interface m.d.class (and-left (is_subtype classes m.interface m.d.class) inherits up)).1 p.at
      (at_some (slice_get classes m.d.class.0) IsInterface p.c p.at (interface_sound classes m.d.class interface)) p.there in
      let parameters : g.classes.parameters call.method ≡ map kind_of_type m.d.method.types.parameters =
      ap (λ (told : Classes). told.parameters call.method) is.classes ∙ ap (λ (o : Option Declared). option_map_or (λ (m : Method). map kind_of_type m.types.parameters) (option_map (λ (d : Declared). d.method) o) []) m.at in
      let target : Ref = record { space = g.id; id = call.target; class = class } in
      let on : IsCallOn links g.id target call.method call.arguments = record {
        here = (bytes_eq-Decides g.id g.id).1 refl;
        remote = remote-class class (stored.remote call.target call.object call.there);
        method = m.d.method;
        named = ap (option_map (λ (d : Declared). d.method)) m.at;
        normal = none (is_init m.d.method) (and-right (not (is_static m.d.method)) (not (is_init m.d.method)) other);
        crosses = cross;
        filled = fills m.d.method.types.parameters call.arguments (and-left (list_all (crosses classes) m.d.method.types.parameters) _ cross) (subst (λ (kinds : List Kind). fit_kinds kinds call.arguments ≡ true) parameters call.fits) call.remote;
      } in
      let begins = selected_begins links g.id target call.method selected call.arguments limits is.are is.sound on (sym (ap (λ (told : Classes). told.selected class call.method) is.classes) ∙ call.selects) in
      subst (λ (values : List Value). IsOk (begun links g.id (record { 0 = selected }) values limits)) (sym call.values_are) (subst IsOk (sym begins.0) begins.1)
    where
      none : (b : Bool) → not b ≡ true → b ≡ false
      none true e = absurd (true≢false (sym e))
      none false e = refl

-- ---- all tasks

pub tasks_begin : TasksBegin
tasks_begin links g h e task is taken begins limits = by task.origin begins.starts
  where
    s : State
    s = state_of g h

    root : (fuel : ℕ) → e ≡ Root task.began.method task.began.arguments fuel → IsOk (begun links g.id (record { 0 = task.began.method }) task.began.arguments limits)
    root fuel same =
        let unrefused-root : refusal g taken.0.0 s (Root task.began.method task.began.arguments fuel) ≡ None = subst (λ (e : Event). refusal g taken.0.0 s e ≡ None) same taken.0.1 in
        let may : g.classes.start_refusal g.id task.began.method task.began.arguments ≡ None =
        may-start (g.classes.start_refusal g.id task.began.method task.began.arguments) _ (unrefused g taken.0.0 s (Root task.began.method task.began.arguments fuel) unrefused-root) in
        root-begins links g.id (record { 0 = task.began.method }) task.began.arguments limits (sym (ap (λ (told : Classes). told.start_refusal g.id task.began.method task.began.arguments) is.classes) ∙ may)

    by : (origin : Origin) → StartsBy g s e origin task.began.method task.began.arguments → IsOk (begun links g.id (record { 0 = task.began.method }) task.began.arguments limits)
    by OfRoot r = root r.0 r.1
    by (OfCall conn number) call = call-begins links g is s (stores_fit g h taken.1) task.began.method task.began.arguments limits call
