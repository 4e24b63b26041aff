-- Effects keep the local variables of a frame, and its operands within those of the method.
use Rattle.std.proofs.Common.{◌≡◌, ℕ, suc, ◌==◌, ◌<◌, ◌≤◌, Bool, true, false, Option, Some, None, Result, Ok, Err, List, [], ◌∷◌, length, refl, subst, ◌∙◌, arith}
use Rattle.std.specs.Prelude.{nat_lt, if◌then◌else◌, map, slice_get, slice_set, is_none, not, IfOk}
use Rattle.std.specs.List.{list_any}
use Rattle.std.specs.Option.{option_map_or}
use Rattle.std.proofs.lemmas.Bool.Decides.{nat_tests}
use Rattle.std.proofs.lemmas.List.{length-map}
use Rattle.std.proofs.Math.ListN.{length-set}
use Rattle.cf_insns.specs.declared.insn.ArrayOperation.{ArrayOperation}
use Rattle.cf_insns.specs.declared.insn.ArrayOperation.TheVariants as array
use Rattle.cf_insns.specs.declared.insn.InvokeKind.{InvokeKind}
use Rattle.cf_insns.specs.declared.insn.InvokeKind.TheVariants.{Virtual, Special, Static}
use Rattle.cf_insns.specs.declared.insn.StackOperation.{StackOperation}
use Rattle.cf_insns.specs.declared.insn.StackOperation.TheVariants.{Pop, Pop2, Dup, DupX1, DupX2, Dup2, Dup2X1, Dup2X2, Swap}
use Rattle.cf_insns.specs.declared.insn.ValueKind.{ValueKind}
use Rattle.cf_insns.specs.declared.insn.ValueKind.TheVariants as kind
use Rattle.cf_reader.specs.declared.class_file.Field.{Field}
use Rattle.cf_reader.specs.declared.class_file.Method.{Method}
use Rattle.cf_text.specs.declared.types.FieldType.{FieldType}
use Rattle.cls_link.specs.declared.linked_code.LinkedInsn.{LinkedInsn}
use Rattle.cls_link.specs.declared.linked_code.LinkedInsn.TheVariants as insn
use Rattle.cls_resolve.specs.declared.named.MemberIndex.{MemberIndex}
use Rattle.space_ids.specs.declared.ids.ClassId.{ClassId}
use Rattle.ver_check.specs.Bodies.{Body}
use Rattle.ver_check.specs.Effects.{array_effect, cast_vtype, effect, reference_result, return_int, return_nothing, return_reference, throwable}
use Rattle.ver_check.specs.Members.{arguments_of, call, call_interface, call_special, call_static, call_super, call_virtual, construct, field_at, get_field, give_result, is_init, is_made_of, is_own_init, make_new, method_at, put_field, take_arguments, this_initialized, written_object}
use Rattle.ver_check.specs.Steps.{◌>>=◌, combined, demand, found_or, give, give_all, incremented, load, local_type, popped_into, rearranged, replaced, store, take, take_all, take_two, taken, taken_two}
use Rattle.ver_check.specs.Typing.{IsWithin}
use Rattle.ver_rules.specs.Wants.{is_int, is_wanted, kind_wanted, operand_fault}
use Rattle.ver_rules.specs.declared.fault.CheckRule.{CheckRule}
use Rattle.ver_rules.specs.declared.fault.CheckRule.TheVariants as rule
use Rattle.ver_rules.specs.declared.want.Want.{Want}
use Rattle.ver_rules.specs.declared.want.Want.TheVariants as want
use Rattle.ver_frames.specs.AssignableTest.{is_assignable}
use Rattle.ver_frames.specs.Changes.{cleared, is_made_at, made_is, map_locals, map_types, this_is}
use Rattle.ver_frames.specs.Frames.{Frame}
use Rattle.ver_frames.specs.Types.{field_vtype}
use Rattle.ver_frames.specs.declared.vtype.VType.{VType}
use Rattle.ver_frames.specs.declared.vtype.VType.TheVariants.{Top, Int, Null, Object, IntArray, Uninitialized, UninitializedThis}

-- two steps, one after the other
and_then : {A B : Type 0} (P : A → Type 0) (Q : B → Type 0) (r : Result A CheckRule) (k : A → Result B CheckRule) → IfOk r P → ((x : A) → P x → IfOk (k x) Q) → IfOk (r >>= k) Q
and_then P Q (Ok x) k here further = further x here
and_then P Q (Err e) k here further = tt

-- whatever there is
any : {A : Type 0} (r : Result A CheckRule) → IfOk r (λ x. Unit {0})
any (Ok x) = tt
any (Err e) = tt

chosen : {A : Type 0} (P : A → Type 0) (test : Bool) (x : A) (broken : CheckRule) → P x → IfOk (if test then Ok x else Err broken) P
chosen P true x broken fits = fits
chosen P false x broken fits = tt

module _ (body : Body) where
  abbrev Fits : Result Frame CheckRule → Type 0
  Fits r = IfOk r (λ f. IsWithin body f)

  next : (r : Result Frame CheckRule) (k : Frame → Result Frame CheckRule) → Fits r → ((f : Frame) → IsWithin body f → Fits (k f)) → Fits (r >>= k)
  next r k here further = and_then (λ f. IsWithin body f) (λ f. IsWithin body f) r k here further

  found : {A : Type 0} (r : Result A CheckRule) (k : A → Result Frame CheckRule) → ((x : A) → Fits (k x)) → Fits (r >>= k)
  found r k further = and_then (λ x. Unit {0}) (λ f. IsWithin body f) r k (any r) (λ x _. further x)

  -- ---- operands

  popped : (asked : Want) (locals stack : List VType) (flag : Bool) → IsWithin body (record { locals = locals; stack = stack; flag_this_uninit = flag })
      → IfOk (taken body asked (record { locals = locals; stack = stack; flag_this_uninit = flag })) (λ p. IsWithin body p.1)
  unfolding taken
  popped asked locals [] flag fits = tt
  popped asked locals (t ∷ below) flag fits =
      chosen (λ (p : VType × Frame). IsWithin body p.1) (is_wanted body.classes asked t) (t, record { locals = locals; stack = below; flag_this_uninit = flag }) (operand_fault asked t)
      (record { locals = fits.locals; stack = omega (arith, fits.stack) })

  taken_fits : (asked : Want) (f : Frame) → IsWithin body f → IfOk (taken body asked f) (λ p. IsWithin body p.1)
  taken_fits asked f fits = popped asked f.locals f.stack f.flag_this_uninit fits

  after_taken : (asked : Want) (f : Frame) (k : VType × Frame → Result Frame CheckRule) → IsWithin body f → ((p : VType × Frame) → IsWithin body p.1 → Fits (k p)) → Fits (taken body asked f >>= k)
  after_taken asked f k fits further = and_then (λ (p : VType × Frame). IsWithin body p.1) (λ f. IsWithin body f) (taken body asked f) k (taken_fits asked f fits) further

  take_fits : (asked : Want) (f : Frame) → IsWithin body f → Fits (take body asked f)
  take_fits asked f fits = after_taken asked f (λ top. Ok top.1) fits (λ p fits. fits)

  take_all_fits : (types : List VType) (f : Frame) → IsWithin body f → Fits (take_all body types f)
  unfolding take_all
  take_all_fits [] f fits = fits
  take_all_fits (t ∷ types) f fits = next (take body (want.Fits t) f) (take_all body types) (take_fits (want.Fits t) f fits) (λ g. take_all_fits types g)

  given : (test : Bool) (t : VType) (f : Frame) → nat_lt (length f.stack) body.max_stack ≡ test → IsWithin body f
      → Fits (if test then Ok (record f { stack = t ∷ f.stack }) else Err rule.Overflow)
  given true t f room fits =
      let lt : length f.stack < body.max_stack = grind (arith, nat_tests) in record { locals = fits.locals; stack = omega arith }
  given false t f room fits = tt

  give_fits : (t : VType) (f : Frame) → IsWithin body f → Fits (give body t f)
  unfolding give
  give_fits t f fits = given (nat_lt (length f.stack) body.max_stack) t f refl fits

  give_all_fits : (types : List VType) (f : Frame) → IsWithin body f → Fits (give_all body types f)
  unfolding give_all
  give_all_fits [] f fits = fits
  give_all_fits (t ∷ types) f fits = next (give body t f) (give_all body types) (give_fits t f fits) (λ g. give_all_fits types g)

  take_two_fits : (asked : Want) (f : Frame) → IsWithin body f → Fits (take_two body asked f)
  take_two_fits asked f fits = next (take body asked f) (take body asked) (take_fits asked f fits) (take_fits asked)

  replaced_fits : (asked : Want) (t : VType) (f : Frame) → IsWithin body f → Fits (replaced body asked t f)
  replaced_fits asked t f fits = next (take body asked f) (give body t) (take_fits asked f fits) (give_fits t)

  after_two : (f : Frame) (k : VType × VType × Frame → Result Frame CheckRule) → IsWithin body f → ((p : VType × VType × Frame) → IsWithin body p.2 → Fits (k p)) → Fits (taken_two body f >>= k)
  after_two f k fits further =
      and_then (λ (p : VType × VType × Frame). IsWithin body p.2) (λ f. IsWithin body f) (taken_two body f) k
      (and_then (λ (p : VType × Frame). IsWithin body p.1) (λ (p : VType × VType × Frame). IsWithin body p.2) (taken body want.Word f) (λ a. taken body want.Word a.1 >>= λ b. Ok (a.0, b.0, b.1)) (taken_fits want.Word f fits)
      (λ a fits. and_then (λ (p : VType × Frame). IsWithin body p.1) (λ (p : VType × VType × Frame). IsWithin body p.2) (taken body want.Word a.1) (λ b. Ok (a.0, b.0, b.1)) (taken_fits want.Word a.1 fits) (λ b fits. fits)))
      further

  rearranged_fits : (operation : StackOperation) (f : Frame) → IsWithin body f → Fits (rearranged body operation f)
  unfolding rearranged
  rearranged_fits Pop f fits = take_fits want.Word f fits
  rearranged_fits Pop2 f fits = take_two_fits want.Word f fits
  rearranged_fits Dup f fits = after_taken want.Word f (λ a. give_all body (a.0 ∷ a.0 ∷ []) a.1) fits (λ a. give_all_fits (a.0 ∷ a.0 ∷ []) a.1)
  rearranged_fits DupX1 f fits = after_two f (λ ab. give_all body (ab.0 ∷ ab.1 ∷ ab.0 ∷ []) ab.2) fits (λ ab. give_all_fits (ab.0 ∷ ab.1 ∷ ab.0 ∷ []) ab.2)
  rearranged_fits DupX2 f fits =
      after_two f (λ ab. taken body want.Word ab.2 >>= λ c. give_all body (ab.0 ∷ c.0 ∷ ab.1 ∷ ab.0 ∷ []) c.1) fits
      (λ ab fits. after_taken want.Word ab.2 (λ c. give_all body (ab.0 ∷ c.0 ∷ ab.1 ∷ ab.0 ∷ []) c.1) fits (λ c. give_all_fits (ab.0 ∷ c.0 ∷ ab.1 ∷ ab.0 ∷ []) c.1))
  rearranged_fits Dup2 f fits = after_two f (λ ab. give_all body (ab.1 ∷ ab.0 ∷ ab.1 ∷ ab.0 ∷ []) ab.2) fits (λ ab. give_all_fits (ab.1 ∷ ab.0 ∷ ab.1 ∷ ab.0 ∷ []) ab.2)
  rearranged_fits Dup2X1 f fits =
      after_two f (λ ab. taken body want.Word ab.2 >>= λ c. give_all body (ab.1 ∷ ab.0 ∷ c.0 ∷ ab.1 ∷ ab.0 ∷ []) c.1) fits
      (λ ab fits. after_taken want.Word ab.2 (λ c. give_all body (ab.1 ∷ ab.0 ∷ c.0 ∷ ab.1 ∷ ab.0 ∷ []) c.1) fits (λ c. give_all_fits (ab.1 ∷ ab.0 ∷ c.0 ∷ ab.1 ∷ ab.0 ∷ []) c.1))
  rearranged_fits Dup2X2 f fits =
      after_two f (λ ab. taken_two body ab.2 >>= λ cd. give_all body (ab.1 ∷ ab.0 ∷ cd.1 ∷ cd.0 ∷ ab.1 ∷ ab.0 ∷ []) cd.2) fits
      (λ ab fits. after_two ab.2 (λ cd. give_all body (ab.1 ∷ ab.0 ∷ cd.1 ∷ cd.0 ∷ ab.1 ∷ ab.0 ∷ []) cd.2) fits (λ cd. give_all_fits (ab.1 ∷ ab.0 ∷ cd.1 ∷ cd.0 ∷ ab.1 ∷ ab.0 ∷ []) cd.2))
  rearranged_fits Swap f fits = after_two f (λ ab. give_all body (ab.0 ∷ ab.1 ∷ []) ab.2) fits (λ ab. give_all_fits (ab.0 ∷ ab.1 ∷ []) ab.2)

  -- ---- local variables

  demand_fits : (broken : CheckRule) (test : Bool) (f : Frame) → IsWithin body f → Fits (demand broken test f)
  demand_fits broken test f fits = chosen (λ f. IsWithin body f) test f broken fits

  load_fits : (k : ValueKind) (n : ℕ) (f : Frame) → IsWithin body f → Fits (load body k n f)
  load_fits k n f fits = found (local_type body (kind_wanted k) n f) (λ t. give body t f) (λ t. give_fits t f fits)

  set_fits : (n : ℕ) (t : VType) (f : Frame) → IsWithin body f → IsWithin body (record f { locals = slice_set f.locals n t })
  set_fits n t f fits = record { locals = rw length-set fits.locals; stack = fits.stack }

  popped_into_fits : (k : ValueKind) (n : ℕ) (f : Frame) → IsWithin body f → Fits (popped_into body k n f)
  popped_into_fits k n f fits =
      after_taken (kind_wanted k) f (λ top. Ok (record top.1 { locals = slice_set top.1.locals n top.0 })) fits (λ top. set_fits n top.0 top.1)

  store_fits : (k : ValueKind) (n : ℕ) (f : Frame) → IsWithin body f → Fits (store body k n f)
  store_fits k n f fits =
      next (demand rule.Local (nat_lt n (length f.locals)) f) (popped_into body k n) (demand_fits rule.Local (nat_lt n (length f.locals)) f fits) (popped_into_fits k n)

  -- ---- members

  mapped : (change : VType → VType) (f : Frame) → IsWithin body f → IsWithin body (map_types change f)
  mapped change f fits =
      let locals : length (map change f.locals) ≡ length f.locals = length-map f.locals change in
      let stack : length (map change f.stack) ≡ length f.stack = length-map f.stack change in
      record { locals = locals ∙ fits.locals; stack = omega (arith, stack, fits.stack) }

  mapped_locals : (change : VType → VType) (f : Frame) → IsWithin body f → IsWithin body (map_locals change f)
  mapped_locals change f fits =
      let locals : length (map change f.locals) ≡ length f.locals = length-map f.locals change in
      record { locals = locals ∙ fits.locals; stack = fits.stack }

  get_field_fits : (class : ClassId) (field : Field) (f : Frame) → IsWithin body f → Fits (get_field body class field f)
  unfolding get_field
  get_field_fits class field f fits = replaced_fits (want.Fits (Object class)) (field_vtype body.classes field.kind) f fits

  put_field_fits : (class : ClassId) (m : MemberIndex) (field : Field) (f : Frame) → IsWithin body f → Fits (put_field body class m field f)
  unfolding put_field
  put_field_fits class m field f fits =
      next (take body (want.Fits (field_vtype body.classes field.kind)) f) (take body (written_object body class m))
      (take_fits (want.Fits (field_vtype body.classes field.kind)) f fits) (take_fits (written_object body class m))

  make_new_fits : (at : ℕ) (f : Frame) → IsWithin body f → Fits (make_new body at f)
  unfolding make_new
  make_new_fits at f fits =
      next (demand rule.Uninitialized (not (list_any (is_made_at at) f.stack)) f) (λ g. give body (Uninitialized at) (map_locals (cleared at) g))
      (demand_fits rule.Uninitialized (not (list_any (is_made_at at) f.stack)) f fits)
      (λ g fits. give_fits (Uninitialized at) (map_locals (cleared at) g) (mapped_locals (cleared at) g fits))

  result_fits : (method : Method) (f : Frame) → IsWithin body f → Fits (give_result body method f)
  unfolding give_result
  result_fits method f fits = of_result method.types.result
    where
      of_result : (o : Option FieldType) → Fits (option_map_or (λ (kind : FieldType). give body (field_vtype body.classes kind) f) o (Ok f))
      of_result None = fits
      of_result (Some kind) = give_fits (field_vtype body.classes kind) f fits

  arguments_fit : (method : Method) (f : Frame) → IsWithin body f → Fits (take_arguments body method f)
  arguments_fit method f fits = take_all_fits (arguments_of body method) f fits

  call_static_fits : (method : Method) (f : Frame) → IsWithin body f → Fits (call_static body method f)
  unfolding call_static
  call_static_fits method f fits = next (take_arguments body method f) (give_result body method) (arguments_fit method f fits) (result_fits method)

  receiver_fits : (method : Method) (asked : Want) (f : Frame) → IsWithin body f → Fits (take_arguments body method f >>= take body asked)
  receiver_fits method asked f fits = next (take_arguments body method f) (take body asked) (arguments_fit method f fits) (take_fits asked)

  call_virtual_fits : (class : ClassId) (method : Method) (f : Frame) → IsWithin body f → Fits (call_virtual body class method f)
  unfolding call_virtual
  call_virtual_fits class method f fits =
      next (take_arguments body method f >>= take body (want.Fits (Object class))) (give_result body method) (receiver_fits method (want.Fits (Object class)) f fits) (result_fits method)

  tested_fits : (method : Method) (asked : Want) (test : Bool) (f : Frame) → IsWithin body f
      → Fits (take_arguments body method f >>= take body asked >>= demand rule.Mismatch test >>= give_result body method)
  tested_fits method asked test f fits =
      next (take_arguments body method f >>= take body asked >>= demand rule.Mismatch test) (give_result body method)
      (next (take_arguments body method f >>= take body asked) (demand rule.Mismatch test) (receiver_fits method asked f fits) (demand_fits rule.Mismatch test))
      (result_fits method)

  call_interface_fits : (count : ℕ) (class : ClassId) (method : Method) (f : Frame) → IsWithin body f → Fits (call_interface body count class method f)
  unfolding call_interface
  call_interface_fits count class method f fits = tested_fits method (want.Fits (Object class)) (count == suc (length method.types.parameters)) f fits

  call_super_fits : (class : ClassId) (method : Method) (f : Frame) → IsWithin body f → Fits (call_super body class method f)
  unfolding call_super
  call_super_fits class method f fits =
      tested_fits method (want.Fits (Object body.class_id)) (is_assignable body.classes (Object body.class_id) (Object class)) f fits

  constructed : (class : ClassId) (locals stack : List VType) (flag : Bool) → IsWithin body (record { locals = locals; stack = stack; flag_this_uninit = flag })
      → Fits (construct body class (record { locals = locals; stack = stack; flag_this_uninit = flag }))
  unfolding construct
  constructed class locals [] flag fits = tt
  constructed class locals (Uninitialized offset ∷ below) flag fits =
      let f : Frame = record { locals = locals; stack = below; flag_this_uninit = flag } in
      chosen (λ f. IsWithin body f) (is_made_of body offset class) (map_types (made_is offset class) f) rule.Mismatch
      (mapped (made_is offset class) f (record { locals = fits.locals; stack = omega (arith, fits.stack) }))
  constructed class locals (UninitializedThis ∷ below) flag fits =
      let f : Frame = record { locals = locals; stack = below; flag_this_uninit = flag } in
      let within : IsWithin body (map_types (this_is body.class_id) f) = mapped (this_is body.class_id) f (record { locals = fits.locals; stack = omega (arith, fits.stack) }) in
      chosen (λ f. IsWithin body f) (is_own_init body class) (this_initialized body f) rule.Mismatch
      (record { locals = within.locals; stack = within.stack })
  constructed class locals (Top ∷ below) flag fits = tt
  constructed class locals (Int ∷ below) flag fits = tt
  constructed class locals (Null ∷ below) flag fits = tt
  constructed class locals (Object c ∷ below) flag fits = tt
  constructed class locals (IntArray ∷ below) flag fits = tt

  call_special_fits : (class : ClassId) (method : Method) (f : Frame) → IsWithin body f → Fits (call_special body class method f)
  unfolding call_special
  call_special_fits class method f fits = by_name (is_init method)
    where
      by_name : (test : Bool) → Fits (if test then take_arguments body method f >>= construct body class else call_super body class method f)
      by_name true = next (take_arguments body method f) (construct body class) (arguments_fit method f fits) (λ g fits. constructed class g.locals g.stack g.flag_this_uninit fits)
      by_name false = call_super_fits class method f fits

  call_fits : (k : InvokeKind) (class : ClassId) (method : Method) (f : Frame) → IsWithin body f → Fits (call body k class method f)
  unfolding call
  call_fits Virtual class method f fits = call_virtual_fits class method f fits
  call_fits Special class method f fits = call_special_fits class method f fits
  call_fits Static class method f fits = call_static_fits method f fits

  -- ---- all instructions

  array_fits : (operation : ArrayOperation) (f : Frame) → IsWithin body f → Fits (array_effect body operation f)
  unfolding array_effect
  array_fits array.New f fits = replaced_fits want.Int IntArray f fits
  array_fits array.Load f fits =
      next (take body want.Int f >>= take body (want.Fits IntArray)) (give body Int)
      (next (take body want.Int f) (take body (want.Fits IntArray)) (take_fits want.Int f fits) (take_fits (want.Fits IntArray))) (give_fits Int)
  array_fits array.Store f fits =
      next (take body want.Int f >>= take body want.Int) (take body (want.Fits IntArray)) (take_two_fits want.Int f fits) (take_fits (want.Fits IntArray))
  array_fits array.Length f fits = replaced_fits (want.Fits IntArray) Int f fits

  return_int_fits : (f : Frame) → IsWithin body f → Fits (return_int body f)
  unfolding return_int
  return_int_fits f fits =
      next (take body want.Int f) (demand rule.Return (option_map_or is_int body.result false)) (take_fits want.Int f fits) (demand_fits rule.Return (option_map_or is_int body.result false))

  return_reference_fits : (f : Frame) → IsWithin body f → Fits (return_reference body f)
  unfolding return_reference
  return_reference_fits f fits = of_result (reference_result body.result)
    where
      of_result : (o : Option VType) → Fits (option_map_or (λ (t : VType). take body (want.Fits t) f) o (take body want.Reference f >>= λ g. Err rule.Return))
      of_result None = next (take body want.Reference f) (λ g. Err rule.Return) (take_fits want.Reference f fits) (λ g fits. tt)
      of_result (Some t) = take_fits (want.Fits t) f fits

  return_nothing_fits : (f : Frame) → IsWithin body f → Fits (return_nothing body f)
  unfolding return_nothing
  return_nothing_fits f fits =
      next (demand rule.Uninitialized (not f.flag_this_uninit) f) (demand rule.Return (is_none body.result)) (demand_fits rule.Uninitialized (not f.flag_this_uninit) f fits) (demand_fits rule.Return (is_none body.result))

  effect_fits : (at : ℕ) (i : LinkedInsn) (f : Frame) → IsWithin body f → Fits (effect body at i f)
  unfolding effect
  effect_fits at insn.Nop f fits = fits
  effect_fits at insn.Null f fits = give_fits Null f fits
  effect_fits at (insn.Constant value) f fits = give_fits Int f fits
  effect_fits at (insn.Load k n) f fits = load_fits k n f fits
  effect_fits at (insn.Store k n) f fits = store_fits k n f fits
  effect_fits at (insn.Increment n by) f fits = found (local_type body want.Int n f) (λ t. Ok f) (λ t. fits)
  effect_fits at (insn.Stack operation) f fits = rearranged_fits operation f fits
  effect_fits at (insn.Unary operator) f fits = replaced_fits want.Int Int f fits
  effect_fits at (insn.Binary operator) f fits = next (take_two body want.Int f) (give body Int) (take_two_fits want.Int f fits) (give_fits Int)
  effect_fits at (insn.Array operation) f fits = array_fits operation f fits
  effect_fits at (insn.If condition target) f fits = take_fits want.Int f fits
  effect_fits at (insn.IfCompare condition target) f fits = take_two_fits want.Int f fits
  effect_fits at (insn.IfSame equality target) f fits = take_two_fits want.Reference f fits
  effect_fits at (insn.IfNull equality target) f fits = take_fits want.Reference f fits
  effect_fits at (insn.Goto target) f fits = fits
  effect_fits at (insn.Switch index) f fits = take_fits want.Int f fits
  effect_fits at (insn.ReturnValue kind.Int) f fits = return_int_fits f fits
  effect_fits at (insn.ReturnValue kind.Reference) f fits = return_reference_fits f fits
  effect_fits at insn.Return f fits = return_nothing_fits f fits
  effect_fits at insn.Throw f fits = take_fits (want.Fits (throwable body.classes)) f fits
  effect_fits at (insn.GetField class m) f fits = found (found_or rule.Mismatch (field_at body.classes m)) (λ field. get_field body class field f) (λ field. get_field_fits class field f fits)
  effect_fits at (insn.PutField class m) f fits = found (found_or rule.Mismatch (field_at body.classes m)) (λ field. put_field body class m field f) (λ field. put_field_fits class m field f fits)
  effect_fits at (insn.Invoke k class m) f fits = found (found_or rule.Mismatch (method_at body.classes m)) (λ method. call body k class method f) (λ method. call_fits k class method f fits)
  effect_fits at (insn.InvokeInterface count class m) f fits =
      found (found_or rule.Mismatch (method_at body.classes m)) (λ method. call_interface body count class method f) (λ method. call_interface_fits count class method f fits)
  effect_fits at (insn.New class) f fits = make_new_fits at f fits
  effect_fits at (insn.CheckCast type) f fits = replaced_fits want.Initialized (cast_vtype type) f fits
  effect_fits at (insn.InstanceOf type) f fits = replaced_fits want.Initialized Int f fits

  of_ok : (r : Result Frame CheckRule) (g : Frame) → Fits r → r ≡ Ok g → IsWithin body g
  of_ok (Ok f) g fits e = let same : f ≡ g = cc in subst (λ (h : Frame). IsWithin body h) same fits
  of_ok (Err broken) g fits e = absurd (cc)

  pub effect_within : (at : ℕ) (i : LinkedInsn) (f g : Frame) → IsWithin body f → effect body at i f ≡ Ok g → IsWithin body g
  effect_within at i f g fits e = of_ok (effect body at i f) g (effect_fits at i f fits) e
