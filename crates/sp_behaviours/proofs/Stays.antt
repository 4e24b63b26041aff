-- An instruction of a task's own leaves the references by which the task has come, and so does one that asks.
use Rattle.std.proofs.Common.{◌≡◌, ℕ, zero, suc, Bool, true, false, List, [], ◌∷◌, length, refl, ap, ◌∙◌, arith, Option, Some, None}
use Rattle.std.specs.Prelude.{ℤ, pos, negsuc, nat_lt, nat_le, replicate, slice_get, ◌+◌, ◌-◌, ◌^◌, ◌||◌, reverse, option_map, option_and_then, if◌then◌else◌}
use Rattle.std.specs.Int.{int_wrapping_add}
use Rattle.std.specs.Str.{bytes_eq}
use Rattle.std.proofs.lemmas.Cmp.{nat_list_eq_equiv}
use mir.Syntax.{w32}
use Rattle.cf_insns.specs.declared.insn.ArrayOperation.{ArrayOperation}
use Rattle.cf_insns.specs.declared.insn.ArrayOperation.TheVariants as array
use Rattle.cf_insns.specs.declared.insn.BinaryOperator.{BinaryOperator}
use Rattle.cf_insns.specs.declared.insn.Condition.{Condition}
use Rattle.cf_insns.specs.declared.insn.InvokeKind.{InvokeKind}
use Rattle.cf_insns.specs.declared.insn.InvokeKind.TheVariants as kind
use Rattle.cf_insns.specs.declared.insn.StackOperation.{StackOperation}
use Rattle.cf_insns.specs.declared.insn.StackOperation.TheVariants as stack
use Rattle.cf_insns.specs.declared.insn.UnaryOperator.{UnaryOperator}
use Rattle.cf_insns.specs.declared.insn.ValueKind.{ValueKind}
use Rattle.cf_insns.specs.declared.insn.ValueKind.TheVariants as value
use Rattle.cf_reader.specs.declared.class_file.Method.{Method}
use Rattle.cls_link.specs.Links.{Links}
use Rattle.cls_link.specs.declared.linked_code.LinkedInsn.{LinkedInsn}
use Rattle.cls_link.specs.declared.linked_code.LinkedInsn.TheVariants as insn
use Rattle.cls_link.specs.declared.linked_code.LinkedSwitch.{LinkedSwitch}
use Rattle.cls_link.specs.declared.linked_code.LinkedSwitch.TheVariants as switch
use Rattle.cls_link.specs.declared.linked_code.MethodId.{MethodId}
use Rattle.cls_resolve.specs.Meanings.{field_of, method_of}
use Rattle.cls_resolve.specs.declared.named.MemberIndex.{MemberIndex}
use Rattle.cls_search.specs.MethodSearches.{method_in}
use Rattle.cls_set.specs.declared.class.Class.{Class}
use Rattle.space_ids.specs.declared.ids.ClassId.{ClassId}
use Rattle.space_ids.specs.declared.ids.Ref.{Ref}
use Rattle.vm_heap.specs.Heap.{Cell, Object, Ints, cell_at, all_cost, cost, element_at, field_at, length_at, new_cell, with_element, with_field, with_new}
use Rattle.vm_heap.specs.References.{Table, is_own}
use Rattle.vm_heap.specs.Tagged.{Tagged, Int, Null, Local, Remote, Fresh, This, Unset, Head, Site, HeapAddress, ReferenceRow, pointer_at}
use Rattle.vm_heap.specs.declared.heap.WordKind.{WordKind}
use Rattle.vm_heap.specs.declared.word.Pointer.{Pointer}
use Rattle.vm_heap.specs.declared.word.Pointer.TheVariants as pointer
use Rattle.vm_stack.specs.Frames.{Frame, Frames, at_index, entered, frame_cost, initialised, pushed, with_local}
use Rattle.vm_act.specs.Arrays.{index_in, on_array, sized}
use Rattle.vm_act.specs.Calls.{are_passed, begin_receiver, construct, enter, invoke, leave, left, on_receiver, on_returned, return_int, return_nothing, return_reference, unchanged}
use Rattle.vm_act.specs.Calls as acts
use Rattle.vm_act.specs.Next.{Next, On, Ends, Asks, Stuck}
use Rattle.vm_act.specs.Crossing.{crosses, values_of}
use Rattle.vm_act.specs.Objects.{answer, cast, get_field, make, new_object, on_referent, put_at, put_field, referent_at, referent_in, referent_of, remote_referent, throw}
use Rattle.vm_act.specs.Remote.{ask, ask_call, ask_get, ask_put, create, is_remote_at, on_own, on_own_or_this, on_own_row, on_remote_site, push_copy, put_to, read_field, stored_as, write_field, write_stored}
use Rattle.vm_act.specs.Steps.{branch, go_on, is_initialised, is_int, is_kind, jump, load_as, on_int, on_object, on_own_address, on_own_object, on_reference, on_some, on_top, on_uninitialised, pop, pop_as, pop_int, pop_object, pop_reference, push, store, where_true, with_operands}
use Rattle.vm_act.specs.Switches.{lookup_target, table_target}
use Rattle.vm_act.specs.Words.{are_same, if_null, if_same, increment, is_wanted, load, store_top}
use Rattle.vm_act.specs.declared.asked.Asked.TheVariants as asked
use Rattle.vm_act.specs.declared.asked.FieldValue.{FieldValue}
use Rattle.vm_act.specs.declared.crossing.Parameter.{Parameter}
use Rattle.vm_act.specs.declared.calls.Callee.{Callee}
use Rattle.vm_act.specs.declared.calls.Selected.{Selected}
use Rattle.vm_act.specs.declared.calls.Selected.TheVariants as selected
use Rattle.vm_act.specs.declared.ending.Ending.{Ending}
use Rattle.vm_act.specs.declared.ending.Ending.TheVariants as ending
use Rattle.vm_act.specs.declared.ending.Thrown.TheVariants as thrown
use Rattle.vm_act.specs.declared.machine.Machine.{Machine}
use Rattle.vm_act.specs.declared.objects.Referent.{Referent}
use Rattle.vm_act.specs.declared.objects.Referent.TheVariants as referent
use Rattle.vm_code.specs.Act.{act, act_on_array, get_field_of, is_equal, new_of, put_field_of, rearrange, return_value, switch_at, switch_by, word_kind}
use Rattle.vm_code.specs.Calls.{call_interface, call_receiver, call_stub, invoke_interface, call_special, call_special_of, call_static, call_super, call_virtual, construct_chosen, current_class, id_of, invoke_on, invoke_unless_null}
use Rattle.vm_code.specs.Calls as calls
use Rattle.vm_code.specs.Classes.{implements_remotely, is_instance, is_remote, is_remote_interface, is_subtype, passes}
use Rattle.vm_code.specs.Fields.{field_kind, kinds_of, slot_of}
use Rattle.vm_code.specs.Fits.{may_call, may_read, may_return, may_return_value, may_throw, may_write, only_if}
use Rattle.vm_code.specs.Ints.{binary, if_compare, if_zero, push_result, unary}
use Rattle.vm_code.specs.Methods.{callee_of, chosen, init_begins_uninit, interface_selected, is_init, object_of, selected_of, special_start}
use Rattle.vm_code.specs.Parameters.{parameters_of}
use Rattle.vm_code.specs.Operators.{binary_result, condition_holds, unary_result}
use Rattle.vm_laws.specs.Steps as rows
use Rattle.vm_step.specs.Steps as insns
use Rattle.vm_step.specs.Steps.{crossing}
use Rattle.sp_rules.specs.References.{is_reference_in, is_same_reference}
use Rattle.sp_rules.proofs.OwnLemmas.{and-left}
use Rattle.sp_behaviours.specs.Follows.{HoldsAsked, IsAskedRemotely, IsCalledRemotely}

same_as_itself : (r : Ref) → is_same_reference r r ≡ true
same_as_itself r = let e : bytes_eq r.space r.space ≡ true = nat_list_eq_equiv.refl r.space in rw e grind arith

-- the reference of a row is among all of them
among : (rows : List Ref) (row : ℕ) (r : Ref) → slice_get rows row ≡ Some r → is_reference_in rows r ≡ true
among [] row r found = absurd (cc)
among (x ∷ xs) zero r found =
    let same : x ≡ r = cc in (λ j. is_same_reference r (same j) || is_reference_in xs r) ∙ ap (λ b. b || is_reference_in xs r) (same_as_itself r)
among (x ∷ xs) (suc n) r found = let rest = among xs n r found in elim (is_same_reference r x) as (λ b. (b || is_reference_in xs r) ≡ true) [ true ↦ refl | false ↦ rest ]

-- a stub is one of the references of its machine
stub_of : (table : Table) (o : Option Ref) (r : Ref) → option_map (remote_referent table) o ≡ Some (referent.Stub r) → o ≡ Some r
stub_of table None r e = absurd (cc)
stub_of table (Some x) r e = by (is_own table x) e
  where
    by : (b : Bool) → Some (if b then referent.Object x.class else referent.Stub x) ≡ Some (referent.Stub r) → Some x ≡ Some r
    by true is = absurd (cc)
    by false is = let same : x ≡ r = cc in ap (λ y. Some y) same

no_stub : (o : Option Cell) (r : Ref) → option_map referent_in o ≡ Some (referent.Stub r) → ⊥
no_stub None r e = absurd (cc)
no_stub (Some (Object class fields)) r e = absurd (cc)
no_stub (Some (Ints elements)) r e = absurd (cc)

stub_word : (table : Table) (cells : List Cell) (v : Tagged) (r : Ref) → referent_of table cells v ≡ Some (referent.Stub r) → is_reference_in table.rows r ≡ true
stub_word table cells (Int n) r e = absurd (cc)
stub_word table cells Null r e = absurd (cc)
stub_word table cells (Local address) r e = absurd (no_stub (cell_at cells address) r e)
stub_word table cells (Remote row) r e = among table.rows row r (stub_of table (slice_get table.rows row) r e)
stub_word table cells (Fresh index site) r e = absurd (cc)
stub_word table cells (This site) r e = absurd (cc)
stub_word table cells Unset r e = absurd (cc)
stub_word table cells (Head header) r e = absurd (cc)

stub_held : (m : Machine) (depth : ℕ) (r : Ref) → referent_at depth m ≡ Some (referent.Stub r) → is_reference_in m.references.rows r ≡ true
stub_held m depth r e = by (slice_get m.stack.frame.operands depth) e
  where
    by : (o : Option Tagged) → option_and_then (referent_of m.references m.heap.cells) o ≡ Some (referent.Stub r) → is_reference_in m.references.rows r ≡ true
    by None is = absurd (cc)
    by (Some v) is = stub_word m.references m.heap.cells v r is

-- the machine that goes on, or that asks, has these references, and it asks of one of them; what it calls is a method of a remote interface
abbrev pub Stays : Links → Table → Next → Type 0
Stays links table (On m) = m.references ≡ table
Stays links table (Ends ending) = Unit {0}
Stays links table (Asks op m) = (m.references ≡ table) × HoldsAsked m.references.rows op × IsAskedRemotely links op
Stays links table Stuck = Unit {0}

-- so it is after each machine that has them
abbrev pub Keeps : Links → Table → (Machine → Next) → Type 0
Keeps links table next = (m : Machine) → m.references ≡ table → Stays links table (next m)

module _ (links : Links) (table : Table) where
  -- ---- what instructions are made of

  choice : (b : Bool) (one other : Next) → Stays links table one → Stays links table other → Stays links table (if b then one else other)
  choice true one other first second = first
  choice false one other first second = second

  choice_is : (b : Bool) (one other : Next) → (b ≡ true → Stays links table one) → Stays links table other → Stays links table (if b then one else other)
  choice_is true one other first second = first refl
  choice_is false one other first second = second

  some : {A : Type 0} (next : A → Next) (o : Option A) → ((x : A) → Stays links table (next x)) → Stays links table (on_some next o)
  some next None stays = tt
  some next (Some x) stays = stays x

  some_is : {A : Type 0} (next : A → Next) (o : Option A) → ((x : A) → o ≡ Some x → Stays links table (next x)) → Stays links table (on_some next o)
  some_is next None stays = tt
  some_is next (Some x) stays = stays x refl

  whether : (b : Bool) (next : Next) → Stays links table next → Stays links table (where_true b next)
  whether b next stays = choice b next Stuck stays tt

  ints : (next : ℤ → Next) (v : Tagged) → ((n : ℤ) → Stays links table (next n)) → Stays links table (on_int next v)
  ints next (Int n) stays = stays n
  ints next v stays = tt

  references : (next : Pointer → Next) (v : Tagged) → ((at : Pointer) → Stays links table (next at)) → Stays links table (on_reference next v)
  references next (Int n) stays = tt
  references next Null stays = stays pointer.Null
  references next (Local address) stays = stays (pointer.Address address)
  references next (Remote row) stays = stays (pointer.Row row)
  references next (Fresh index site) stays = stays (pointer_at site)
  references next (This site) stays = stays (pointer_at site)
  references next Unset stays = tt
  references next (Head header) stays = tt

  objects : (next : ℕ → Next) (v : Tagged) → ((address : ℕ) → Stays links table (next address)) → Stays links table (on_object next v)
  objects next (Local address) stays = stays address
  objects next v stays = tt

  own_address : (next : ℕ → Next) (site : Site) → ((address : ℕ) → Stays links table (next address)) → Stays links table (on_own_address next site)
  own_address next (HeapAddress address) stays = stays address
  own_address next (ReferenceRow row) stays = tt

  own_objects : (next : ℕ → Next) (v : Tagged) → ((address : ℕ) → Stays links table (next address)) → Stays links table (on_own_object next v)
  own_objects next (Local address) stays = stays address
  own_objects next (This site) stays = own_address next site stays
  own_objects next v stays = tt

  uninitialised : (next : Next) (v : Tagged) → Stays links table next → Stays links table (on_uninitialised next v)
  uninitialised next (Fresh index site) stays = stays
  uninitialised next (This site) stays = stays
  uninitialised next v stays = tt

  pops : (next : Tagged → Machine → Next) → ((v : Tagged) → Keeps links table (next v)) → Keeps links table (pop next)
  pops next keeps m is = by m.stack.frame.operands
    where
      by : (operands : List Tagged) → Stays links table (on_top (λ v below. next v (with_operands below m)) operands)
      by [] = tt
      by (v ∷ below) = keeps v (with_operands below m) is

  pops_as : (test : Tagged → Bool) (next : Tagged → Machine → Next) → ((v : Tagged) → Keeps links table (next v)) → Keeps links table (pop_as test next)
  pops_as test next keeps = pops (λ v m. where_true (test v) (next v m)) (λ v m is. whether (test v) (next v m) (keeps v m is))

  pops_int : (next : ℤ → Machine → Next) → ((n : ℤ) → Keeps links table (next n)) → Keeps links table (pop_int next)
  pops_int next keeps = pops (λ v m. on_int (λ n. next n m) v) (λ v m is. ints (λ n. next n m) v (λ n. keeps n m is))

  pops_object : (next : ℕ → Machine → Next) → ((address : ℕ) → Keeps links table (next address)) → Keeps links table (pop_object next)
  pops_object next keeps = pops (λ v m. on_object (λ address. next address m) v) (λ v m is. objects (λ address. next address m) v (λ address. keeps address m is))

  pops_reference : (next : Pointer → Machine → Next) → ((at : Pointer) → Keeps links table (next at)) → Keeps links table (pop_reference next)
  pops_reference next keeps = pops (λ v m. on_reference (λ at. next at m) v) (λ v m is. references (λ at. next at m) v (λ at. keeps at m is))

  pub pushes : (v : Tagged) (next : Machine → Next) → Keeps links table next → Keeps links table (push v next)
  pushes v next keeps m is =
      let after : Machine = record m { stack = pushed v m.stack } in
      whether (nat_lt (length m.stack.frame.operands) m.stack.frame.room) (next after) (keeps after is)

  loads : (test : Tagged → Bool) (local : ℕ) (next : Tagged → Next) (m : Machine) → ((v : Tagged) → Stays links table (next v)) → Stays links table (load_as test local next m)
  loads test local next m stays =
      some (λ v. where_true (test v) (next v)) (slice_get m.stack.frame.locals local) (λ v. whether (test v) (next v) (stays v))

  stores : (local : ℕ) (v : Tagged) (next : Machine → Next) → Keeps links table next → Keeps links table (store local v next)
  stores local v next keeps m is =
      let after : Machine = record m { stack = with_local local v m.stack } in
      whether (nat_lt local (length m.stack.frame.locals)) (next after) (keeps after is)

  jumps : (target : ℕ) → Keeps links table (jump target)
  jumps target m is = is

  pub goes : Keeps links table go_on
  goes m is = is

  branches : (taken : Bool) (target : ℕ) → Keeps links table (branch taken target)
  branches taken target m is = choice taken (jump target m) (go_on m) (jumps target m is) (goes m is)

  -- ---- words

  load-keeps : (kind : WordKind) (local : ℕ) → Keeps links table (load kind local)
  load-keeps kind local m is = loads (is_kind kind) local (λ v. push v go_on m) m (λ v. pushes v go_on goes m is)

  store_top-keeps : (kind : WordKind) (local : ℕ) → Keeps links table (store_top kind local)
  store_top-keeps kind local = pops_as (is_kind kind) (λ v. store local v go_on) (λ v. stores local v go_on goes)

  increment-keeps : (local : ℕ) (more : ℤ) → Keeps links table (increment local more)
  increment-keeps local more m is =
      loads is_int local (on_int (λ n. store local (Int (int_wrapping_add w32 n more)) go_on m)) m
      (λ v. ints (λ n. store local (Int (int_wrapping_add w32 n more)) go_on m) v (λ n. stores local (Int (int_wrapping_add w32 n more)) go_on goes m is))

  rearrange-keeps : (operation : StackOperation) → Keeps links table (rearrange operation)
  rearrange-keeps stack.Pop = pops (λ a. go_on) (λ a. goes)
  rearrange-keeps stack.Pop2 = pops (λ a. pop (λ b. go_on)) (λ a. pops (λ b. go_on) (λ b. goes))
  rearrange-keeps stack.Dup = pops (λ a. push a (push a go_on)) (λ a. pushes a (push a go_on) (pushes a go_on goes))
  rearrange-keeps stack.DupX1 =
      pops (λ a. pop (λ b. push a (push b (push a go_on)))) (λ a. pops (λ b. push a (push b (push a go_on))) (λ b.
      pushes a (push b (push a go_on)) (pushes b (push a go_on) (pushes a go_on goes))))
  rearrange-keeps stack.DupX2 =
      pops (λ a. pop (λ b. pop (λ c. push a (push c (push b (push a go_on)))))) (λ a. pops (λ b. pop (λ c. push a (push c (push b (push a go_on))))) (λ b. pops (λ c. push a (push c (push b (push a go_on)))) (λ c.
      pushes a (push c (push b (push a go_on))) (pushes c (push b (push a go_on)) (pushes b (push a go_on) (pushes a go_on goes))))))
  rearrange-keeps stack.Dup2 =
      pops (λ a. pop (λ b. push b (push a (push b (push a go_on))))) (λ a. pops (λ b. push b (push a (push b (push a go_on)))) (λ b.
      pushes b (push a (push b (push a go_on))) (pushes a (push b (push a go_on)) (pushes b (push a go_on) (pushes a go_on goes)))))
  rearrange-keeps stack.Dup2X1 =
      pops (λ a. pop (λ b. pop (λ c. push b (push a (push c (push b (push a go_on))))))) (λ a. pops (λ b. pop (λ c. push b (push a (push c (push b (push a go_on)))))) (λ b. pops (λ c. push b (push a (push c (push b (push a go_on))))) (λ c.
      pushes b (push a (push c (push b (push a go_on)))) (pushes a (push c (push b (push a go_on))) (pushes c (push b (push a go_on)) (pushes b (push a go_on) (pushes a go_on goes)))))))
  rearrange-keeps stack.Dup2X2 =
      pops (λ a. pop (λ b. pop (λ c. pop (λ d. push b (push a (push d (push c (push b (push a go_on))))))))) (λ a. pops (λ b. pop (λ c. pop (λ d. push b (push a (push d (push c (push b (push a go_on)))))))) (λ b.
      pops (λ c. pop (λ d. push b (push a (push d (push c (push b (push a go_on))))))) (λ c. pops (λ d. push b (push a (push d (push c (push b (push a go_on)))))) (λ d.
      pushes b (push a (push d (push c (push b (push a go_on))))) (pushes a (push d (push c (push b (push a go_on)))) (pushes d (push c (push b (push a go_on))) (pushes c (push b (push a go_on))
      (pushes b (push a go_on) (pushes a go_on goes)))))))))
  rearrange-keeps stack.Swap = pops (λ a. pop (λ b. push a (push b go_on))) (λ a. pops (λ b. push a (push b go_on)) (λ b. pushes a (push b go_on) (pushes b go_on goes)))

  if_same-keeps : (equal : Bool) (target : ℕ) → Keeps links table (if_same equal target)
  if_same-keeps equal target =
      pops_reference (λ right. pop_reference (λ left. branch (is_wanted equal (are_same left right)) target)) (λ right.
      pops_reference (λ left. branch (is_wanted equal (are_same left right)) target) (λ left. branches (is_wanted equal (are_same left right)) target))

  if_null-keeps : (wanted : Bool) (target : ℕ) → Keeps links table (if_null wanted target)
  if_null-keeps wanted target =
      pops_reference (λ at. branch (is_wanted wanted (are_same at pointer.Null)) target) (λ at. branches (is_wanted wanted (are_same at pointer.Null)) target)

  -- ---- ints

  unary-keeps : (operator : UnaryOperator) → Keeps links table (unary operator)
  unary-keeps operator = pops_int (λ n. push (Int (unary_result operator n)) go_on) (λ n. pushes (Int (unary_result operator n)) go_on goes)

  result-keeps : (result : Option ℤ) → Keeps links table (push_result result)
  result-keeps None m is = tt
  result-keeps (Some n) m is = pushes (Int n) go_on goes m is

  binary-keeps : (operator : BinaryOperator) → Keeps links table (binary operator)
  binary-keeps operator =
      pops_int (λ right. pop_int (λ left. push_result (binary_result operator left right))) (λ right.
      pops_int (λ left. push_result (binary_result operator left right)) (λ left. result-keeps (binary_result operator left right)))

  if_zero-keeps : (condition : Condition) (target : ℕ) → Keeps links table (if_zero condition target)
  if_zero-keeps condition target =
      pops_int (λ n. branch (condition_holds condition n (pos 0)) target) (λ n. branches (condition_holds condition n (pos 0)) target)

  if_compare-keeps : (condition : Condition) (target : ℕ) → Keeps links table (if_compare condition target)
  if_compare-keeps condition target =
      pops_int (λ right. pop_int (λ left. branch (condition_holds condition left right) target)) (λ right.
      pops_int (λ left. branch (condition_holds condition left right) target) (λ left. branches (condition_holds condition left right) target))

  -- ---- arrays

  makes : (cell : Cell) (next : Machine → Next) → Keeps links table next → Keeps links table (make cell next)
  makes cell next keeps m is =
      let after : Machine = record m { heap = with_new cell m.heap } in
      choice (nat_le (cost cell) m.heap.free) (next after) (Ends (ending.Threw thrown.OutOfMemoryError)) (keeps after is) tt

  sizes : (n : ℤ) (next : ℕ → Next) → ((count : ℕ) → Stays links table (next count)) → Stays links table (sized n next)
  sizes (pos n) next stays = stays n
  sizes (negsuc n) next stays = tt

  indexes : (n : ℤ) (count : ℕ) (next : ℕ → Next) → ((index : ℕ) → Stays links table (next index)) → Stays links table (index_in n count next)
  indexes (pos n) count next stays = choice (nat_lt n count) (next n) (Ends (ending.Threw thrown.ArrayIndexOutOfBoundsException)) (stays n) tt
  indexes (negsuc n) count next stays = tt

  arrays : (address : ℕ) (next : ℕ → Next) (m : Machine) → ((count : ℕ) → Stays links table (next count)) → Stays links table (on_array address next m)
  arrays address next m stays = some next (length_at address m.heap.cells) stays

  -- the copy of an array that a call gives
  pub copy-keeps : (elements : List ℤ) → Keeps links table (push_copy elements)
  copy-keeps elements m is =
      choice (nat_lt (length elements) (2 ^ 31)) (make (Ints elements) (push (Local (all_cost m.heap.cells)) go_on) m) (Ends (ending.Threw thrown.OutOfMemoryError))
      (makes (Ints elements) (push (Local (all_cost m.heap.cells)) go_on) (pushes (Local (all_cost m.heap.cells)) go_on goes) m is) tt

  abbrev made_array : ℤ → Machine → Next
  made_array n m = sized n (λ count. make (Ints (replicate count (pos 0))) (push (Local (all_cost m.heap.cells)) go_on) m)

  made_array-keeps : (n : ℤ) → Keeps links table (made_array n)
  made_array-keeps n m is =
      sizes n (λ count. make (Ints (replicate count (pos 0))) (push (Local (all_cost m.heap.cells)) go_on) m)
      (λ count. makes (Ints (replicate count (pos 0))) (push (Local (all_cost m.heap.cells)) go_on) (pushes (Local (all_cost m.heap.cells)) go_on goes) m is)

  abbrev read_element : ℤ → ℕ → Machine → Next
  read_element i address m = on_array address (λ count. index_in i count (λ index. on_some (λ n. push (Int n) go_on m) (element_at address index m.heap.cells))) m

  read_element-keeps : (i : ℤ) (address : ℕ) → Keeps links table (read_element i address)
  read_element-keeps i address m is =
      arrays address (λ count. index_in i count (λ index. on_some (λ n. push (Int n) go_on m) (element_at address index m.heap.cells))) m (λ count.
      indexes i count (λ index. on_some (λ n. push (Int n) go_on m) (element_at address index m.heap.cells)) (λ index.
      some (λ n. push (Int n) go_on m) (element_at address index m.heap.cells) (λ n. pushes (Int n) go_on goes m is)))

  abbrev written : ℕ → ℕ → ℤ → Machine → Next
  written address index n m = on_some (λ was. go_on (record m { heap = record m.heap { cells = with_element address index n m.heap.cells } })) (element_at address index m.heap.cells)

  written-keeps : (address index : ℕ) (n : ℤ) → Keeps links table (written address index n)
  written-keeps address index n m is =
      some (λ was. go_on (record m { heap = record m.heap { cells = with_element address index n m.heap.cells } })) (element_at address index m.heap.cells)
      (λ was. goes (record m { heap = record m.heap { cells = with_element address index n m.heap.cells } }) is)

  abbrev write_element : ℤ → ℤ → ℕ → Machine → Next
  write_element n i address m = on_array address (λ count. index_in i count (λ index. written address index n m)) m

  write_element-keeps : (n i : ℤ) (address : ℕ) → Keeps links table (write_element n i address)
  write_element-keeps n i address m is =
      arrays address (λ count. index_in i count (λ index. written address index n m)) m (λ count.
      indexes i count (λ index. written address index n m) (λ index. written-keeps address index n m is))

  abbrev read_length : ℕ → Machine → Next
  read_length address m = on_array address (λ count. push (Int (pos count)) go_on m) m

  read_length-keeps : (address : ℕ) → Keeps links table (read_length address)
  read_length-keeps address m is = arrays address (λ count. push (Int (pos count)) go_on m) m (λ count. pushes (Int (pos count)) go_on goes m is)

  array-keeps : (operation : ArrayOperation) → Keeps links table (act_on_array operation)
  array-keeps array.New = pops_int made_array made_array-keeps
  array-keeps array.Load = pops_int (λ i. pop_object (read_element i)) (λ i. pops_object (read_element i) (read_element-keeps i))
  array-keeps array.Store =
      pops_int (λ n. pop_int (λ i. pop_object (write_element n i))) (λ n. pops_int (λ i. pop_object (write_element n i)) (λ i. pops_object (write_element n i) (write_element-keeps n i)))
  array-keeps array.Length = pops_object read_length read_length-keeps

  -- ---- objects

  get_field-keeps : (slot : ℕ) → Keeps links table (get_field slot)
  get_field-keeps slot =
      pops_object (λ address m. on_some (λ v. push v go_on m) (field_at address slot m.heap.cells)) (λ address m is.
      some (λ v. push v go_on m) (field_at address slot m.heap.cells) (λ v. pushes v go_on goes m is))

  put_at-stays : (slot : ℕ) (v : Tagged) (m : Machine) (address : ℕ) → m.references ≡ table → Stays links table (put_at slot v m address)
  put_at-stays slot v m address is =
      some (λ was. go_on (record m { heap = record m.heap { cells = with_field address slot v m.heap.cells } })) (field_at address slot m.heap.cells)
      (λ was. goes (record m { heap = record m.heap { cells = with_field address slot v m.heap.cells } }) is)

  put_field-keeps : (slot : ℕ) → Keeps links table (put_field slot)
  put_field-keeps slot =
      pops_as is_initialised (λ v. pop (λ object m. on_own_object (put_at slot v m) object)) (λ v.
      pops (λ object m. on_own_object (put_at slot v m) object) (λ object m is. own_objects (put_at slot v m) object (λ address. put_at-stays slot v m address is)))

  referents : (depth : ℕ) (next : Referent → Machine → Next) → ((r : Referent) → Keeps links table (next r)) → Keeps links table (on_referent depth next)
  referents depth next keeps m is = some (λ r. next r m) (referent_at depth m) (λ r. keeps r m is)

  cast-keeps : (passes : Bool) → Keeps links table (cast passes)
  cast-keeps passes m is = choice passes (go_on m) (Ends (ending.Threw thrown.ClassCastException)) (goes m is) tt

  answer-keeps : (is : Bool) → Keeps links table (answer is)
  answer-keeps is = pops (λ v. push (Int (if is then pos 1 else pos 0)) go_on) (λ v. pushes (Int (if is then pos 1 else pos 0)) go_on goes)

  throw-keeps : (r : Referent) → Keeps links table (throw r)
  throw-keeps referent.Null m is = tt
  throw-keeps (referent.Object class) m is = tt
  throw-keeps referent.Ints m is = tt
  throw-keeps (referent.Stub reference) m is = tt

  new-keeps : (classes : List Class) (class : ClassId) → Keeps links table (new_of classes class)
  new-keeps classes class m is =
      some (λ kinds. if is_remote classes class then create class m else new_object class kinds m) (kinds_of classes class) (λ kinds.
      choice (is_remote classes class) (create class m) (new_object class kinds m) (is, tt, tt)
      (makes (new_cell class kinds) (push (Fresh m.stack.frame.index (HeapAddress (all_cost m.heap.cells))) go_on) (pushes (Fresh m.stack.frame.index (HeapAddress (all_cost m.heap.cells))) go_on goes) m is))

  -- ---- remote objects

  own_row : (next : Ref → Next) (m : Machine) (row : ℕ) → ((r : Ref) → is_reference_in m.references.rows r ≡ true → Stays links table (next r)) → Stays links table (on_own_row next m row)
  own_row next m row stays =
      some_is (λ r. where_true (is_own m.references r) (next r)) (slice_get m.references.rows row)
      (λ r found. whether (is_own m.references r) (next r) (stays r (among m.references.rows row r found)))

  owns : (next : Ref → Next) (m : Machine) (v : Tagged) → ((r : Ref) → is_reference_in m.references.rows r ≡ true → Stays links table (next r)) → Stays links table (on_own next m v)
  owns next m (Remote row) stays = own_row next m row stays
  owns next m v stays = tt

  remote_site : (next : ℕ → Next) (site : Site) → ((row : ℕ) → Stays links table (next row)) → Stays links table (on_remote_site next site)
  remote_site next (HeapAddress address) stays = tt
  remote_site next (ReferenceRow row) stays = stays row

  owns_or_this : (next : Ref → Next) (m : Machine) (v : Tagged) → ((r : Ref) → is_reference_in m.references.rows r ≡ true → Stays links table (next r)) → Stays links table (on_own_or_this next m v)
  owns_or_this next m (Remote row) stays = own_row next m row stays
  owns_or_this next m (This site) stays = remote_site (on_own_row next m) site (λ row. own_row next m row stays)
  owns_or_this next m v stays = tt

  ask_get-keeps : (slot : ℕ) → Keeps links table (ask_get slot)
  ask_get-keeps slot =
      pops (λ object m. on_own (λ r. Asks (asked.Get r slot) m) m object) (λ object m is. owns (λ r. Asks (asked.Get r slot) m) m object (λ r held. (is, held, tt)))

  stored-stays : (object : Ref) (slot : ℕ) (m : Machine) → m.references ≡ table → is_reference_in m.references.rows object ≡ true → (stored : Option FieldValue) → Stays links table (write_stored object slot m stored)
  stored-stays object slot m is held None = tt
  stored-stays object slot m is held (Some v) = (is, held, tt)

  put_to-stays : (object : Ref) (slot : ℕ) (v : Tagged) (m : Machine) → m.references ≡ table → is_reference_in m.references.rows object ≡ true → Stays links table (put_to object slot v m)
  put_to-stays object slot v m is held = some (write_stored object slot m) (stored_as m v) (stored-stays object slot m is held)

  ask_put-keeps : (slot : ℕ) (kind : WordKind) → Keeps links table (ask_put slot kind)
  ask_put-keeps slot kind =
      pops_as (is_kind kind) (λ v. pop (λ object m. on_own_or_this (λ r. put_to r slot v m) m object)) (λ v.
      pops (λ object m. on_own_or_this (λ r. put_to r slot v m) m object) (λ object m is. owns_or_this (λ r. put_to r slot v m) m object (λ r held. put_to-stays r slot v m is held)))

  only_ifs : (test : Machine → Bool) (next : Machine → Next) → Keeps links table next → Keeps links table (only_if test next)
  only_ifs test next keeps m is = whether (test m) (next m) (keeps m is)

  get-keeps : (classes : List Class) (field : MemberIndex) → Keeps links table (get_field_of classes field)
  get-keeps classes field m is =
      some (λ slot. read_field slot m) (slot_of classes (field_of field)) (λ slot.
      some (λ remote. if remote then ask_get slot m else get_field slot m) (is_remote_at 0 m) (λ remote.
      choice remote (ask_get slot m) (get_field slot m) (ask_get-keeps slot m is) (get_field-keeps slot m is)))

  put-keeps : (classes : List Class) (field : MemberIndex) → Keeps links table (put_field_of classes field)
  put-keeps classes field m is =
      some (λ slot. on_some (λ kind. write_field slot kind m) (field_kind classes (field_of field))) (slot_of classes (field_of field)) (λ slot.
      some (λ kind. write_field slot kind m) (field_kind classes (field_of field)) (λ kind.
      some (λ remote. if remote then ask_put slot kind m else put_field slot m) (is_remote_at 1 m) (λ remote.
      choice remote (ask_put slot kind m) (put_field slot m) (ask_put-keeps slot kind m is) (put_field-keeps slot m is))))

  -- ---- calls and returns

  enters : (callee : Callee) (begin : Frames → Frames) → Keeps links table (enter callee begin)
  enters callee begin m is =
      let after : Next = On (record m { stack = begin (entered callee.method callee.arguments callee.max_locals callee.max_stack (at_index (m.stack.frame.index + 1) m.stack)) }) in
      whether (nat_le callee.arguments callee.max_locals) (if nat_le (frame_cost callee.max_locals callee.max_stack) m.stack.free then after else Ends (ending.Threw thrown.StackOverflowError))
      (choice (nat_le (frame_cost callee.max_locals callee.max_stack) m.stack.free) after (Ends (ending.Threw thrown.StackOverflowError)) is tt)

  call-keeps : (callee : Callee) → Keeps links table (acts.call callee)
  call-keeps callee m is = whether (are_passed callee.arguments m.stack.frame.operands) (enter callee unchanged m) (enters callee unchanged m is)

  abbrev constructed : Callee → Machine → Tagged → Next
  constructed callee m v = where_true (are_passed (callee.arguments - 1) m.stack.frame.operands) (enter callee (begin_receiver callee.begins_uninit) (record m { stack = initialised v m.stack }))

  constructed-stays : (callee : Callee) (m : Machine) → m.references ≡ table → (v : Tagged) → Stays links table (constructed callee m v)
  constructed-stays callee m is v =
      whether (are_passed (callee.arguments - 1) m.stack.frame.operands) (enter callee (begin_receiver callee.begins_uninit) (record m { stack = initialised v m.stack }))
      (enters callee (begin_receiver callee.begins_uninit) (record m { stack = initialised v m.stack }) is)

  construct-keeps : (callee : Callee) → Keeps links table (construct callee)
  construct-keeps callee m is =
      whether (nat_lt 0 callee.arguments) (on_receiver callee.arguments (λ v. on_uninitialised (constructed callee m v) v) m)
      (some (λ v. on_uninitialised (constructed callee m v) v) (slice_get m.stack.frame.operands (callee.arguments - 1)) (λ v. uninitialised (constructed callee m v) v (constructed-stays callee m is v)))

  invoke-keeps : (s : Selected) → Keeps links table (invoke s)
  invoke-keeps (selected.Method callee) m is = call-keeps callee m is
  invoke-keeps selected.Abstract m is = tt
  invoke-keeps selected.NotPublic m is = tt
  invoke-keeps selected.NotImplemented m is = tt

  invoke_on-keeps : (classes : List Class) (select : ClassId → Selected) (r : Referent) → Keeps links table (invoke_on classes select r)
  invoke_on-keeps classes select referent.Null m is = tt
  invoke_on-keeps classes select (referent.Object class) m is = invoke-keeps (select class) m is
  invoke_on-keeps classes select referent.Ints m is = some (λ object. invoke (select object) m) (object_of classes) (λ object. invoke-keeps (select object) m is)
  invoke_on-keeps classes select (referent.Stub reference) m is = some (λ object. invoke (select object) m) (object_of classes) (λ object. invoke-keeps (select object) m is)

  receiver-keeps : (classes : List Class) (method : Method) (select : ClassId → Selected) → Keeps links table (call_receiver classes method select)
  receiver-keeps classes method select = referents (length method.types.parameters) (invoke_on classes select) (invoke_on-keeps classes select)

  static-keeps : (classes : List Class) (member : MemberIndex) → Keeps links table (call_static classes member)
  static-keeps classes member m is =
      some (λ (method : Method). invoke (chosen (callee_of classes false (id_of classes member))) m) (method_in classes (method_of member))
      (λ method. invoke-keeps (chosen (callee_of classes false (id_of classes member))) m is)

  virtual-keeps : (classes : List Class) (member : MemberIndex) → Keeps links table (call_virtual classes member)
  virtual-keeps classes member m is =
      some (λ (method : Method). call_receiver classes method (λ class. selected_of classes class (id_of classes member)) m) (method_in classes (method_of member))
      (λ method. receiver-keeps classes method (λ class. selected_of classes class (id_of classes member)) m is)

  ask-stays : (target : Ref) (method count : ℕ) (crosses : Bool) (m : Machine) → m.references ≡ table → is_reference_in m.references.rows target ≡ true → IsCalledRemotely links method
      → Stays links table (ask target method count crosses m)
  ask-stays target method count crosses m is held remote =
      choice crosses (Asks (asked.Call target method count) m) (Ends (ending.Threw thrown.MarshalException)) (is, held, remote) tt

  ask_call-stays : (target : Ref) (method : ℕ) (parameters : List Parameter) (m : Machine) → m.references ≡ table → is_reference_in m.references.rows target ≡ true → IsCalledRemotely links method
      → Stays links table (ask_call target method parameters m)
  ask_call-stays target method parameters m is held remote =
      some (λ values. ask target method (length parameters) (crosses values) m) (values_of (reverse parameters) m.references m.heap.cells m.stack.frame.operands)
      (λ values. ask-stays target method (length parameters) (crosses values) m is held remote)

  -- an instruction that calls through this interface calls this method
  abbrev CallsThrough : ClassId → MethodId → Type 0
  CallsThrough interface id = is_remote_interface links.classes interface ≡ true → IsCalledRemotely links id.0

  stub-stays : (interface : ClassId) (id : MethodId) (method : Method) (r : Ref) (m : Machine) → CallsThrough interface id → m.references ≡ table → is_reference_in m.references.rows r ≡ true
      → Stays links table (call_stub links.classes interface id method r m)
  stub-stays interface id method r m through is held =
      choice_is (implements_remotely links.classes r.class interface) (ask_call r id.0 (parameters_of method) m) (invoke selected.NotImplemented m)
      (λ remote. ask_call-stays r id.0 (parameters_of method) m is held (through (and-left (is_remote_interface links.classes interface) (is_subtype links.classes r.class interface) remote))) tt

  interface_on-stays : (interface : ClassId) (id : MethodId) (method : Method) (depth : ℕ) (m : Machine) → CallsThrough interface id → m.references ≡ table → (r : Referent) → referent_at depth m ≡ Some r
      → Stays links table (invoke_interface links.classes interface id method r m)
  interface_on-stays interface id method depth m through is referent.Null found = tt
  interface_on-stays interface id method depth m through is (referent.Object class) found = invoke-keeps (interface_selected links.classes class interface id) m is
  interface_on-stays interface id method depth m through is referent.Ints found =
      some (λ object. invoke (interface_selected links.classes object interface id) m) (object_of links.classes) (λ object. invoke-keeps (interface_selected links.classes object interface id) m is)
  interface_on-stays interface id method depth m through is (referent.Stub r) found = stub-stays interface id method r m through is (stub_held m depth r found)

  interface-keeps : (interface : ClassId) (member : MemberIndex) → CallsThrough interface (id_of links.classes member) → Keeps links table (call_interface links.classes interface member)
  interface-keeps interface member through m is =
      some (λ (method : Method). on_referent (length method.types.parameters) (invoke_interface links.classes interface (id_of links.classes member) method) m) (method_in links.classes (method_of member)) (λ method.
      some_is (λ r. invoke_interface links.classes interface (id_of links.classes member) method r m) (referent_at (length method.types.parameters) m)
      (interface_on-stays interface (id_of links.classes member) method (length method.types.parameters) m through is))

  chosen-keeps : (s : Selected) → Keeps links table (construct_chosen s)
  chosen-keeps (selected.Method callee) m is = construct-keeps callee m is
  chosen-keeps selected.Abstract m is = tt
  chosen-keeps selected.NotPublic m is = tt
  chosen-keeps selected.NotImplemented m is = tt

  unless_null-keeps : (s : Selected) (r : Referent) → Keeps links table (invoke_unless_null s r)
  unless_null-keeps s referent.Null m is = tt
  unless_null-keeps s (referent.Object class) m is = invoke-keeps s m is
  unless_null-keeps s referent.Ints m is = invoke-keeps s m is
  unless_null-keeps s (referent.Stub reference) m is = invoke-keeps s m is

  super-keeps : (named : ClassId) (method : Method) (id : MethodId) → Keeps links table (call_super links named method id)
  super-keeps named method id m is =
      some (λ current. on_referent (length method.types.parameters) (invoke_unless_null (selected_of links.classes (special_start links.classes current named) id)) m) (current_class links m) (λ current.
      referents (length method.types.parameters) (invoke_unless_null (selected_of links.classes (special_start links.classes current named) id))
      (unless_null-keeps (selected_of links.classes (special_start links.classes current named) id)) m is)

  picks : (b : Bool) (one other : Machine → Next) → Keeps links table one → Keeps links table other → Keeps links table (if b then one else other)
  picks true one other first second = first
  picks false one other first second = second

  special_of-keeps : (named : ClassId) (member : MemberIndex) (method : Method) → Keeps links table (call_special_of links named member method)
  special_of-keeps named member method =
      picks (is_init method) (construct_chosen (chosen (callee_of links.classes (init_begins_uninit links.classes member.class) (id_of links.classes member)))) (call_super links named method (id_of links.classes member))
      (chosen-keeps (chosen (callee_of links.classes (init_begins_uninit links.classes member.class) (id_of links.classes member)))) (super-keeps named method (id_of links.classes member))

  special-keeps : (named : ClassId) (member : MemberIndex) → Keeps links table (call_special links named member)
  special-keeps named member m is =
      some (λ (method : Method). call_special_of links named member method m) (method_in links.classes (method_of member)) (λ method. special_of-keeps named member method m is)

  calls-keep : (how : InvokeKind) (named : ClassId) (member : MemberIndex) → Keeps links table (calls.call links how named member)
  calls-keep kind.Virtual named member = virtual-keeps links.classes member
  calls-keep kind.Special named member = special-keeps named member
  calls-keep kind.Static named member = static-keeps links.classes member

  lefts : (next : Machine → Next) (over : Ending) (m : Machine) (callers : List Frame) → Keeps links table next → m.references ≡ table → Stays links table (left next over m callers)
  lefts next over m [] keeps is = tt
  lefts next over m (frame ∷ []) keeps is = tt
  lefts next over m (frame ∷ below ∷ callers) keeps is =
      keeps (record m { stack = record { frame = frame; callers = below ∷ callers; free = m.stack.free + frame_cost (length m.stack.frame.locals) m.stack.frame.room } }) is

  on-keeps : Keeps links table On
  on-keeps m is = is

  leaves : (next : Machine → Next) (over : Ending) → Keeps links table next → Keeps links table (leave next over)
  leaves next over keeps m is = lefts next over m m.stack.callers keeps is

  returned : (next : Ending → Next) (m : Machine) (v : Tagged) → ((over : Ending) → Stays links table (next over)) → Stays links table (on_returned next m v)
  returned next m (Int n) stays = tt
  returned next m Null stays = stays (ending.ReturnedReference None)
  returned next m (Local address) stays = stays (ending.ReturnedReference (Some address))
  returned next m (Remote row) stays = some (λ r. next (ending.ReturnedRemote r)) (slice_get m.references.rows row) (λ r. stays (ending.ReturnedRemote r))
  returned next m v stays = tt

  return-keeps : (kind : ValueKind) → Keeps links table (return_value kind)
  return-keeps value.Int = pops_int (λ n. leave (push (Int n) On) (ending.ReturnedInt n)) (λ n. leaves (push (Int n) On) (ending.ReturnedInt n) (pushes (Int n) On on-keeps))
  return-keeps value.Reference =
      pops (λ v m. on_returned (λ over. leave (push v On) over m) m v) (λ v m is.
      returned (λ over. leave (push v On) over m) m v (λ over. leaves (push v On) over (pushes v On on-keeps) m is))

  -- ---- all instructions

  switch-keeps : (s : LinkedSwitch) → Keeps links table (switch_by s)
  switch-keeps (switch.Table default low targets) = pops_int (λ n. jump (table_target default low targets n)) (λ n. jumps (table_target default low targets n))
  switch-keeps (switch.Lookup default keys targets) = pops_int (λ n. jump (lookup_target default keys targets n)) (λ n. jumps (lookup_target default keys targets n))

  -- an instruction that stands in the code of the set
  pub act-keeps : (number index : ℕ) (i : LinkedInsn) → rows.insn_at links number index ≡ Some i → Keeps links table (act links i)
  act-keeps number index insn.Nop at = goes
  act-keeps number index insn.Null at = pushes Null go_on goes
  act-keeps number index (insn.Constant n) at = pushes (Int n) go_on goes
  act-keeps number index (insn.Load kind local) at = load-keeps (word_kind kind) local
  act-keeps number index (insn.Store kind local) at = store_top-keeps (word_kind kind) local
  act-keeps number index (insn.Increment local more) at = increment-keeps local more
  act-keeps number index (insn.Stack operation) at = rearrange-keeps operation
  act-keeps number index (insn.Unary operator) at = unary-keeps operator
  act-keeps number index (insn.Binary operator) at = binary-keeps operator
  act-keeps number index (insn.Array operation) at = array-keeps operation
  act-keeps number index (insn.If condition target) at = if_zero-keeps condition target
  act-keeps number index (insn.IfCompare condition target) at = if_compare-keeps condition target
  act-keeps number index (insn.IfSame equality target) at = if_same-keeps (is_equal equality) target
  act-keeps number index (insn.IfNull equality target) at = if_null-keeps (is_equal equality) target
  act-keeps number index (insn.Goto target) at = jumps target
  act-keeps number index (insn.Switch which) at = λ m is. some (λ s. switch_by s m) (switch_at links m.stack.frame.method which) (λ s. switch-keeps s m is)
  act-keeps number index (insn.ReturnValue kind) at = only_ifs (may_return_value links) (return_value kind) (return-keeps kind)
  act-keeps number index insn.Return at = only_ifs (may_return links) (leave On ending.ReturnedNothing) (leaves On ending.ReturnedNothing on-keeps)
  act-keeps number index insn.Throw at = only_ifs (may_throw links.classes) (on_referent 0 throw) (referents 0 throw throw-keeps)
  act-keeps number index (insn.GetField class field) at = only_ifs (may_read links.classes class) (get_field_of links.classes field) (get-keeps links.classes field)
  act-keeps number index (insn.PutField class field) at = only_ifs (may_write links class field) (put_field_of links.classes field) (put-keeps links.classes field)
  act-keeps number index (insn.Invoke how class method) at = only_ifs (may_call links how class method) (calls.call links how class method) (calls-keep how class method)
  act-keeps number index (insn.InvokeInterface count class method) at =
      only_ifs (may_call links kind.Virtual class method) (call_interface links.classes class method)
      (interface-keeps class method (λ remote. record { running = number; index = index; count = count; interface = class; member = method; at = at; remote = remote; names = refl }))
  act-keeps number index (insn.New class) at = new-keeps links.classes class
  act-keeps number index (insn.CheckCast type) at = referents 0 (λ r. cast (passes links.classes type r)) (λ r. cast-keeps (passes links.classes type r))
  act-keeps number index (insn.InstanceOf type) at = referents 0 (λ r. answer (is_instance links.classes type r)) (λ r. answer-keeps (is_instance links.classes type r))

crossing-stays : (links : Links) (table : Table) (ints : Bool) (n : Next) → Stays links table n → Stays links table (crossing ints n)
crossing-stays links table ints (On m) stays = stays
crossing-stays links table ints (Ends ending) stays = stays
crossing-stays links table ints (Asks op m) stays = stays
crossing-stays links table ints Stuck stays = stays

-- an instruction leaves the references of its machine
pub step-stays : (links : Links) (m : Machine) → Stays links m.references (insns.step links m)
step-stays links m =
    crossing-stays links m.references _ (rows.step links m)
    (some_is links m.references (λ i. act links i m) (rows.insn_at links m.stack.frame.method m.stack.frame.index)
    (λ i at. act-keeps links m.references m.stack.frame.method m.stack.frame.index i at m refl))
