-- The replies of the rules are ones that machines take.
use Rattle.std.proofs.Common.{◌≡◌, inl, inr, ℕ, ◌<◌, ◌≤◌, Bool, true, false, Option, Some, None, List, [], length, refl, sym, subst, ap, ◌∙◌, arith}
use Rattle.std.specs.Prelude.{◌==◌, ◌&&◌, ◌||◌, IsSome, IsSomeAnd, codes, if◌then◌else◌, option_and_then, option_map, slice_get}
use Rattle.std.specs.List.{list_all}
use Rattle.std.specs.Option.{option_map_or, unwrap_or}
use Rattle.std.proofs.lemmas.Bool.{eqb-true, true≢false}
use Rattle.cf_reader.specs.declared.class_file.Method.{Method}
use Rattle.cf_text.specs.declared.types.ElementType.{ElementType}
use Rattle.cf_text.specs.declared.types.ElementType.TheVariants as elements
use Rattle.cf_text.specs.declared.types.FieldType.{FieldType}
use Rattle.cls_link.specs.Links.{Links}
use Rattle.cls_search.specs.MethodSearches.{is_interface}
use Rattle.cls_set.specs.Classes.{IsInterface, number_of}
use Rattle.cls_set.specs.declared.class.Class.{Class}
use Rattle.space_ids.specs.declared.ids.ClassId.{ClassId}
use Rattle.space_ids.specs.declared.ids.Ref.{Ref}
use Rattle.space_ids.specs.declared.value.Value.{Value}
use Rattle.space_ids.specs.declared.value.Value.TheVariants as value
use Rattle.sp_behaviours.proofs.Following.{lent-left, stands}
use Rattle.sp_behaviours.specs.Behaviours.{op_at, reply_of, IsOfStore}
use Rattle.sp_behaviours.specs.Follows.{Follows, HoldsAsked}
use Rattle.sp_behaviours.specs.Classes.{class_named}
use Rattle.sp_behaviours.specs.Kinds.{kind_of_type, result_kind}
use Rattle.sp_laws.specs.Calls.{AreRemote, FitsCall, IsFailing}
use Rattle.sp_rules.proofs.OwnLemmas.{and-left, and-right}
use Rattle.sp_rules.specs.Behaviours as rules
use Rattle.sp_rules.specs.Classes.{Classes, Kind, Setting, IntArrayKind, IntKind, ReferenceKind, VoidKind, fits_result}
use Rattle.sp_rules.specs.LivingTasks.{op_reply}
use Rattle.sp_rules.specs.References.{references_in}
use Rattle.sp_rules.specs.Space.{state_of}
use Rattle.sp_rules.specs.Tasks.{Stand, AsksFor}
use Rattle.ver_frames.specs.Types.{element_type, field_vtype, is_int}
use Rattle.ver_frames.specs.declared.vtype.VType.{VType}
use Rattle.ver_frames.specs.declared.vtype.VType.TheVariants as vtype
use Rattle.vm_act.specs.declared.asked.Asked.{Asked}
use Rattle.vm_act.specs.declared.asked.Asked.TheVariants as asked
use Rattle.vm_act.specs.declared.asked.Reply.{Reply}
use Rattle.vm_act.specs.declared.asked.Reply.TheVariants as reply
use Rattle.vm_act.specs.declared.machine.Machine.{Machine}
use Rattle.vm_code.proofs.Remotes.{interface_sound}
use Rattle.vm_code.proofs.Subtypes.{subtype_sound}
use Rattle.vm_code.specs.Classes.{is_below_remote, is_remote_interface, is_subtype}
use Rattle.vm_code.specs.Parameters.{is_array_element, is_array_type}
use Rattle.vm_heap.specs.References.{Table, is_own}
use Rattle.vm_replies.specs.Replies.{fields_world}
use Rattle.vm_laws.proofs.Sets.{number_known, object_stands}
use Rattle.vm_step.proofs.Runs.{at_once}
use Rattle.vm_step.specs.Run.{Waits, FitsFuel, IsAsked, IsReply}
use Rattle.vm_step.specs.Start.{crosses, is_int_element, is_int_type, is_remote_element, is_remote_type}
use Rattle.vm_step.specs.Task.{arguments_of}
use Rattle.vm_typing.specs.Asking.{CrossedFits, ResultFits}
use Rattle.vm_typing.specs.Fits.{There}
use Rattle.vm_typing.specs.World.{World}
use Rattle.vm_laws.specs.Worlds.{gives_at}
use Rattle.sp_behaviours.specs.Calls.{CallRepliesAreTaken, IsCrossing, IsSettingOf, IsTakenAs, StoreRepliesAreTaken}
use Rattle.sp_behaviours.specs.Replies.{FitsAsked, HoldsObject}
use Rattle.sp_behaviours.specs.Told.{AreTold}
use Rattle.sp_behaviours.proofs.NamedLemmas.{called_methods_cross}
use Rattle.sp_behaviours.proofs.RemoteLemmas.{plain}
use Rattle.sp_behaviours.proofs.ReplyLemmas.{asked_objects_stand, remote-is, replies_fit}
use Rattle.sp_behaviours.proofs.SetLemmas.{sets_are_told}

told-of : (links : Links) (g : Setting) → IsSettingOf links g → AreTold links.classes g.classes
told-of links g is = subst (AreTold links.classes) (sym is.classes) (sets_are_told links is.are)

-- ---- the replies of the store

any-fuel : (op : Asked) (given : Reply) (fuel : ℕ) → IsOfStore op → FitsFuel op given fuel
any-fuel (asked.Create class) given fuel store = tt
any-fuel (asked.Get object slot) given fuel store = tt
any-fuel (asked.Put object slot written) given fuel store = tt
any-fuel (asked.Call target method count) given fuel store = absurd store

taken-of : (classes : List Class) (op : Asked) (m : Machine) (fuel : ℕ) (r : rules.Reply) → IsOfStore op → FitsAsked classes m.references op r → IsTakenAs classes op m fuel r
taken-of classes op m fuel (rules.Gives v) store fits = by (reply_of op v) refl fits
  where
    by : (o : Option Reply) → reply_of op v ≡ o → There (IsReply classes m.references op) o → IsTakenAs classes op m fuel (rules.Gives v)
    by None e f = absurd f
    by (Some given) e f = record { given = given; told = e; due = (f, any-fuel op given fuel store) }
taken-of classes op m fuel (rules.GivesBack v back) store fits = absurd fits
taken-of classes op m fuel (rules.Throws class) store fits = record { given = reply.Throws class; told = refl; due = (fits, any-fuel op (reply.Throws class) fuel store) }
taken-of classes op m fuel rules.RunsOut store fits = absurd fits

holds-object : (op : Asked) (held : List Ref) → HoldsAsked held op → HoldsObject held op
holds-object (asked.Create class) held holds = tt
holds-object (asked.Get object slot) held holds = holds
holds-object (asked.Put object slot written) held holds = tt
holds-object (asked.Call target method count) held holds = tt

pub store_replies_are_taken : StoreRepliesAreTaken
store_replies_are_taken links g h id t op m fuel is taken lives follows store =
    let asks : IsAsked links.classes m.references op = (at_once links (Waits op m fuel) follows.never_stuck).0 in
    taken-of links.classes op m fuel (op_reply g (op_at links.classes op m) (state_of g h)) store
    (replies_fit g h links.classes m.references op (unwrap_or (arguments_of links.classes op m) []) (told-of links g is) is.fields
    (record {
      store = store;
      taken = taken;
      own = follows.held.0.own;
      fits = asks;
      stands = asked_objects_stand g h id t links.classes m.references op taken lives follows.held.0.own asks (holds-object op t.task.held follows.held.1);
    }))

-- ---- what calls give

module _ (classes : List Class) where
  int-element : (x : ElementType) → is_int_element x ≡ true → element_type classes x ≡ vtype.Int
  unfolding element_type
  int-element elements.Int is = refl
  int-element elements.Boolean is = refl
  int-element other is = absurd (true≢false (sym is))

  int-type : (type : FieldType) → is_int_type type ≡ true → field_vtype classes type ≡ vtype.Int
  int-type type is =
      plain classes type (eqb-true type.dimensions 0 (and-left (type.dimensions == 0) (is_int_element type.element) is))
      ∙ int-element type.element (and-right (type.dimensions == 0) (is_int_element type.element) is)

  array-element : (x : ElementType) → is_array_element x ≡ true → is_int x ≡ true
  array-element elements.Int is = refl
  array-element other is = absurd (true≢false (sym is))

  array-type : (type : FieldType) → is_array_type type ≡ true → field_vtype classes type ≡ vtype.IntArray
  unfolding field_vtype
  array-type type is =
      let d : type.dimensions ≡ 1 = eqb-true type.dimensions 1 (and-left (type.dimensions == 1) (is_array_element type.element) is) in
      let e : is_int type.element ≡ true = array-element type.element (and-right (type.dimensions == 1) (is_array_element type.element) is) in
      ap (λ (n : ℕ). if n == 0 then element_type classes type.element else (if (n == 1) && is_int type.element then vtype.IntArray else vtype.Top)) d
      ∙ ap (λ (b : Bool). if b then vtype.IntArray else vtype.Top) e

  -- an interface, as a type of references
  record IsReferred (t : VType) : Type 0 where
    id : ClassId
    is : t ≡ vtype.Object id
    interface : IsSomeAnd (slice_get classes id.0) IsInterface

  remote-named : (o : Option ClassId) → option_map_or (is_remote_interface classes) o false ≡ true → IsReferred (option_map_or vtype.Object o vtype.Top)
  remote-named None is = absurd (true≢false (sym is))
  remote-named (Some id) is = record { id = id; is = refl; interface = interface_sound classes id (and-left (is_interface classes id) (is_below_remote classes id) is) }

  remote-element : (x : ElementType) → is_remote_element classes x ≡ true → IsReferred (element_type classes x)
  unfolding element_type
  remote-element (elements.Class name) is = remote-named (number_of classes name) is
  remote-element other is = absurd (true≢false (sym is))

  remote-type : (type : FieldType) → is_remote_type classes type ≡ true → IsReferred (field_vtype classes type)
  remote-type type is =
      subst IsReferred (sym (plain classes type (eqb-true type.dimensions 0 (and-left (type.dimensions == 0) (is_remote_element classes type.element) is))))
      (remote-element type.element (and-right (type.dimensions == 0) (is_remote_element classes type.element) is))

module _ (links : Links) (g : Setting) (is : IsSettingOf links g) (table : Table) where
  abbrev classes : List Class
  classes = links.classes

  abbrev world : World
  world = fields_world classes

  int-fits : (t : VType) → t ≡ vtype.Int → (v : Option Value) → fits_result IntKind v ≡ true → ResultFits world table (Some t) v
  int-fits t e (Some (value.Int n)) fits = subst (λ (t : VType). CrossedFits world table t (value.Int n)) (sym e) tt
  int-fits t e None fits = absurd (true≢false (sym fits))
  int-fits t e (Some value.Null) fits = absurd (true≢false (sym fits))
  int-fits t e (Some (value.Ints ns)) fits = absurd (true≢false (sym fits))
  int-fits t e (Some (value.Ref r)) fits = absurd (true≢false (sym fits))

  array-fits : (t : VType) → t ≡ vtype.IntArray → (v : Option Value) → fits_result IntArrayKind v ≡ true → ResultFits world table (Some t) v
  array-fits t e (Some value.Null) fits = subst (λ (t : VType). CrossedFits world table t value.Null) (sym e) tt
  array-fits t e (Some (value.Ints ns)) fits = subst (λ (t : VType). CrossedFits world table t (value.Ints ns)) (sym e) tt
  array-fits t e None fits = absurd (true≢false (sym fits))
  array-fits t e (Some (value.Int n)) fits = absurd (true≢false (sym fits))
  array-fits t e (Some (value.Ref r)) fits = absurd (true≢false (sym fits))

  reference-fits : (t : VType) → IsReferred classes t → (v : Option Value) → fits_result ReferenceKind v ≡ true → AreRemote g (references_in v) → ResultFits world table (Some t) v
  reference-fits t to (Some value.Null) fits remote = subst (λ (t : VType). CrossedFits world table t value.Null) (sym to.is) tt
  reference-fits t to (Some (value.Ref r)) fits remote =
      subst (λ (t : VType). CrossedFits world table t (value.Ref r)) (sym to.is) (remote-is classes g.classes (told-of links g is) r.class to.id to.interface remote.0 (is_own table r))
  reference-fits t to None fits remote = absurd (true≢false (sym fits))
  reference-fits t to (Some (value.Int n)) fits remote = absurd (true≢false (sym fits))
  reference-fits t to (Some (value.Ints ns)) fits remote = absurd (true≢false (sym fits))

  typed-fits : (type : FieldType) → crosses classes type ≡ true → (v : Option Value) → fits_result (kind_of_type type) v ≡ true → AreRemote g (references_in v) → ResultFits world table (Some (field_vtype classes type)) v
  typed-fits type may v fits remote = by (is_int_type type) (is_array_type type) refl refl may fits
    where
      by : (a b : Bool) → is_int_type type ≡ a → is_array_type type ≡ b → (a || (b || is_remote_type classes type)) ≡ true → fits_result (if a then IntKind else (if b then IntArrayKind else ReferenceKind)) v ≡ true
          → ResultFits world table (Some (field_vtype classes type)) v
      by true b e f may fits = int-fits (field_vtype classes type) (int-type classes type e) v fits
      by false true e f may fits = array-fits (field_vtype classes type) (array-type classes type f) v fits
      by false false e f may fits = reference-fits (field_vtype classes type) (remote-type classes type may) v fits remote

  result-fits : (o : Option FieldType) → option_map_or (crosses classes) o true ≡ true → (v : Option Value) → fits_result (result_kind o) v ≡ true → AreRemote g (references_in v) → ResultFits world table (option_map (field_vtype classes) o) v
  result-fits None may None fits remote = tt
  result-fits None may (Some v) fits remote = absurd (true≢false (sym fits))
  result-fits (Some type) may v fits remote = typed-fits type may v fits remote

  -- what a method gives that crosses
  given-fits : (number : ℕ) → IsCrossing classes number → (v : Option Value) → fits_result (g.classes.result number) v ≡ true → AreRemote g (references_in v) → ResultFits world table (gives_at classes number) v
  given-fits number c v fits remote =
      let kind : g.classes.result number ≡ result_kind c.method.types.result =
      ap (λ (told : Classes). told.result number) is.classes ∙ ap (λ (o : Option Method). option_map_or (λ (m : Method). result_kind m.types.result) o VoidKind) c.named in
      subst (λ (o : Option VType). ResultFits world table o v) (sym (ap (option_and_then (λ (m : Method). option_map (field_vtype classes) m.types.result)) c.named))
      (result-fits c.method.types.result (and-right (list_all (crosses classes) c.method.types.parameters) (option_map_or (crosses classes) c.method.types.result true) c.crosses) v
      (subst (λ (k : Kind). fits_result k v ≡ true) kind fits) remote)

  -- ---- what calls throw

  some-class : 0 < length classes
  some-class = by (number_of classes (codes "java/lang/Object")) refl (object_stands classes is.are.set)
    where
      by : (o : Option ClassId) → number_of classes (codes "java/lang/Object") ≡ o → IsSome o → 0 < length classes
      by None e some = absurd (cc)
      by (Some id) e some = let low : id.0 < length classes = number_known classes (codes "java/lang/Object") id e in omega (arith, low)

  named-known : (name : List ℕ) → (class_named classes name).0 < length classes
  named-known name = by (number_of classes name) refl
    where
      by : (o : Option ClassId) → number_of classes name ≡ o → (unwrap_or o (record { 0 = 0 })).0 < length classes
      by None e = some-class
      by (Some id) e = number_known classes name id e

  failing-known : (class : ClassId) → IsFailing g class → class.0 < length classes
  failing-known class (inl same) =
      subst (λ (c : ClassId). c.0 < length classes) (sym (same ∙ ap (λ (told : Classes). told.unmarshal) is.classes)) (named-known (codes "java/rmi/UnmarshalException"))
  failing-known class (inr (inl same)) =
      subst (λ (c : ClassId). c.0 < length classes) (sym (same ∙ ap (λ (told : Classes). told.connect) is.classes)) (named-known (codes "java/rmi/ConnectException"))
  failing-known class (inr (inr same)) =
      subst (λ (c : ClassId). c.0 < length classes) (sym (same ∙ ap (λ (told : Classes). told.marshal) is.classes)) (named-known (codes "java/rmi/MarshalException"))

  below-known : (class : ClassId) (o : Option ClassId) → option_map_or (λ named. is_subtype classes class named) o false ≡ true → class.0 < length classes
  below-known class None e = absurd (true≢false (sym e))
  below-known class (Some named) e = (subtype_sound classes class named e).0

  throwable-known : (class : ClassId) → g.classes.is_throwable class ≡ true → class.0 < length classes
  throwable-known class e =
      below-known class (number_of classes (codes "java/lang/Throwable")) (sym (ap (λ (told : Classes). told.is_throwable class) is.classes) ∙ e)

-- ---- the replies to calls

-- the number of the method that is called
abbrev called : Stand → ℕ
called (AsksFor (rules.Call target method arguments)) = method
called _ = 0

module _ (links : Links) (g : Setting) (is : IsSettingOf links g) (target : Ref) (method count : ℕ) (m : Machine) (fuel : ℕ) where
  abbrev op : Asked
  op = asked.Call target method count

  replied : (kind : Kind) (lent : ℕ) → IsCrossing links.classes method → kind ≡ g.classes.result method → lent ≡ fuel → (r : rules.Reply) → FitsCall g lent kind r → IsTakenAs links.classes op m fuel r
  replied kind lent c gives lends (rules.Gives v) fits = absurd fits
  replied kind lent c gives lends (rules.GivesBack v back) fits = record {
    given = reply.Returned v back;
    told = refl;
    due = (given-fits links g is m.references method c v (subst (λ (k : Kind). fits_result k v ≡ true) gives fits.0) fits.2, subst (λ n. back ≤ n) lends fits.1);
  }
  replied kind lent c gives lends (rules.Throws class) (inl throwable) =
      record { given = reply.Throws class; told = refl; due = (throwable-known links g is m.references class throwable, omega arith) }
  replied kind lent c gives lends (rules.Throws class) (inr failing) =
      record { given = reply.Throws class; told = refl; due = (failing-known links g is m.references class failing, omega arith) }
  replied kind lent c gives lends rules.RunsOut fits = record { given = reply.RunsOut; told = refl; due = (tt, omega arith) }

pub call_replies_are_taken : CallRepliesAreTaken
call_replies_are_taken links g t op m fuel lent kind r is follows at fits = by op follows (sym at.stands ∙ stands links g t (Waits op m fuel) follows)
  where
    by : (op : Asked) → Follows links g t (Waits op m fuel) → AsksFor (rules.Call at.target at.method at.arguments) ≡ AsksFor (op_at links.classes op m) → IsTakenAs links.classes op m fuel r
    by (asked.Create class) f e = absurd (cc)
    by (asked.Get object slot) f e = absurd (cc)
    by (asked.Put object slot written) f e = absurd (cc)
    by (asked.Call target method count) f e =
        let number : at.method ≡ method = ap called e in
        replied links g is target method count m fuel kind lent (called_methods_cross links is.are is.methods method f.calls) (at.gives ∙ ap g.classes.result number) (at.lends ∙ lent-left links g t (asked.Call target method count) m fuel f) r fits
