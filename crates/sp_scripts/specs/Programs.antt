-- The static methods that scripts start, and the class set of the scripts. (This project's own worked examples: docs/SCRIPTS.md.)
use Rattle.std.specs.Prelude.{ℕ, zero, suc, ◌-◌, ◌==◌, ◌&&◌, ◌||◌, not, nat_lt, nat_le, Bool, false, List, [], ◌∷◌, ◌++◌, Option, None, Some, pos, if◌then◌else◌}
use Rattle.std.specs.Str.{bytes_eq}
use Rattle.uuid.specs.declared.Uuid.{Uuid}
use Rattle.space_ids.specs.declared.value.Value.{Value}
use Rattle.space_ids.specs.declared.value.Value.TheVariants as values
use Rattle.sp_rules.specs.Behaviours.{Behaviour, Ends, Returned}
use Rattle.sp_rules.specs.Classes.{Classes, Setting, Kind, IntKind, IntArrayKind, ReferenceKind, VoidKind, StartRefusal, AbsentMethod, BadArgument, fit_kinds}
use Rattle.sp_scripts.specs.Methods.{threw, plains, val, nat_of, int_value, arg, same, has, selection, Next, invoke, create, first_int, inner_of, body}
use Rattle.sp_scripts.specs.Names.{absent_method, abstract_method_error, adder_class, adder_copy, adder_make, adder_sum, adder_twice, array_index_exception, back_method, box_bump, box_class, box_clear, box_fetch, box_get, box_make, box_move, box_object, box_plain, box_put, box_same, bump_method, class_of, connect_exception, counter_bump, counter_class, counter_make, deep_class, deep_make, deep_run, divide_method, double_method, down_method, ends_class, ends_deep, ends_divide, ends_error, ends_flag, ends_make, ends_nil, ends_plainly, ends_remote, ends_spin, factory_churn, factory_class, factory_create, factory_make, factory_make_cell, flag_method, get_method, hidden_class, hidden_make, illegal_access_error, inc_method, incompatible_class_change_error, keep_method, lacks_class, lacks_make, link_back, link_class, link_fail, link_fresh, link_keep, link_make, link_next, link_relay, make_cell_method, make_method, marshal_exception, next_method, no_such_object_exception, not_bound_exception, null_pointer_exception, out_of_memory_error, p_class, p_go, p_join, p_make, peer_method, ping_method, plain_class, plain_error, plain_make, put_method, relay_method, remote_exception, server_error, server_exception, stack_overflow_error, sum_method, twice_class, unmarshal_exception, use_method, user_class, user_make, user_pass}

abbrev pub churn : ℕ → Uuid → Value → Next → Behaviour
churn zero own maker k = plains 3 (k (int_value 0))
churn (suc n) own maker k = plains 3 (invoke (inner_of own) own maker make_method [] (λ v. plains 3 (churn n own maker k)))

abbrev pub is_own : Uuid → Value → Bool
is_own own values.Null = false
is_own own (values.Int n) = false
is_own own (values.Ints ns) = false
is_own own (values.Ref r) = bytes_eq r.space own

abbrev pub plain : Uuid → Value → Behaviour
plain own values.Null = plains 5 (threw null_pointer_exception)
plain own (values.Int n) = plains 5 (threw null_pointer_exception)
plain own (values.Ints ns) = plains 5 (threw null_pointer_exception)
plain own (values.Ref r) = if not (has r.class.0 put_method) then plains 5 (threw incompatible_class_change_error) else (if bytes_eq r.space own then plains 8 (threw incompatible_class_change_error) else plains 5 (threw marshal_exception))

-- a static method that hands its first argument a call
abbrev pub calls : Uuid → ℕ → ℕ → List Value → Next → Behaviour
calls own n m [] k = threw null_pointer_exception
calls own n m (v ∷ vs) k = plains n (invoke (inner_of own) own v m vs k)

-- An array that is passed afar is a copy; at home it is the callee's too.
abbrev pub copy_of : Uuid → List Value → Next → Behaviour
copy_of own vs k = calls own 3 double_method (vs ++ values.Int (pos 0) ∷ []) (λ v. plains 4 (k (first_int (if is_own own (arg 0 vs) then val v else arg 1 vs))))

abbrev pub static : Uuid → ℕ → List Value → Next → Behaviour
static own m vs k =
    if m == counter_make then create counter_class 6 k
    else (if m == counter_bump then calls own 1 inc_method vs k
    else (if m == user_make then create user_class 6 k
    else (if m == user_pass then calls own 2 use_method vs k
    else (if m == p_make then create p_class 6 k
    else (if m == p_go then calls own 1 ping_method vs k
    else (if m == p_join then calls own 2 peer_method vs k
    else (if m == box_make then create box_class 6 k
    else (if m == box_put then calls own 2 put_method vs k
    else (if m == box_get then calls own 1 get_method vs k
    else (if m == box_bump then calls own 1 bump_method vs k
    else (if m == box_clear then calls own 2 put_method (vs ++ values.Null ∷ []) k
    else (if m == box_plain then plain own (arg 0 vs)
    else (if m == box_object then plains 4 (threw marshal_exception)
    else (if m == box_fetch then calls own 1 get_method vs (λ v. invoke (inner_of own) own (val v) inc_method [] k)
    else (if m == box_same then plains 4 (k (int_value (if same (arg 0 vs) (arg 1 vs) then 1 else 0)))
    else (if m == plain_make then create plain_class 6 k
    else (if m == ends_make then create ends_class 6 k
    else (if m == ends_divide then calls own 2 divide_method vs k
    else (if m == ends_flag then calls own 2 flag_method vs k
    else (if nat_le ends_error m && nat_le m ends_plainly then calls own 1 (m - 44) vs k
    else (if m == lacks_make then create lacks_class 6 k
    else (if m == hidden_make then create hidden_class 6 k
    else (if m == deep_make then create deep_class 6 k
    else (if m == deep_run then calls own 3 down_method vs k
    else (if m == link_make then create link_class 6 k
    else (if m == link_next then calls own 2 next_method vs k
    else (if m == link_relay then calls own 2 relay_method vs k
    else (if m == link_back then calls own 2 back_method vs k
    else (if m == link_keep then calls own 2 keep_method vs k
    else (if m == link_fresh then plains 2 (create counter_class 7 (λ v. calls own 0 back_method (vs ++ val v ∷ []) k))
    else (if m == factory_create then create factory_class 6 k
    else (if m == factory_make then calls own 1 make_method vs k
    else (if m == factory_make_cell then calls own 2 make_cell_method vs k
    else (if m == factory_churn then (if nat_of (arg 1 vs) == 0 then plains 3 (k (Some (arg 1 vs))) else churn (nat_of (arg 1 vs)) own (arg 0 vs) k)
    else (if m == link_fail then calls own 2 relay_method (vs ++ values.Null ∷ []) k
    else (if m == box_move then plains 2 (invoke (inner_of own) own (arg 0 vs) get_method [] (λ v. invoke (inner_of own) own (arg 1 vs) put_method (val v ∷ []) k))
    else (if m == adder_make then create adder_class 3 k
    else (if m == adder_sum then calls own 2 sum_method vs k
    else (if m == adder_twice then calls own 3 double_method vs k
    else (if m == adder_copy then copy_of own vs k
    else create twice_class 9 k))))))))))))))))))))))))))))))))))))))))

abbrev pub ends : Next
ends v = Ends (Returned v)

abbrev pub start_body : Uuid → ℕ → List Value → Behaviour
start_body own m [] = ends None
start_body own m (values.Null ∷ vs) = ends None
start_body own m (values.Int n ∷ vs) = ends None
start_body own m (values.Ints ns ∷ vs) = ends None
start_body own m (values.Ref r ∷ vs) = body 200 own m r vs ends

abbrev pub plan : Uuid → ℕ → List Value → Behaviour
plan own m vs = if nat_lt m counter_make then start_body own m vs else static own m vs ends

abbrev pub is_one_of : ℕ → List ℕ → Bool
is_one_of n [] = false
is_one_of n (m ∷ ms) = n == m || is_one_of n ms

-- what a method takes
abbrev pub parameters : ℕ → List Kind
parameters m =
    if is_one_of m (use_method ∷ peer_method ∷ put_method ∷ next_method ∷ relay_method ∷ back_method ∷ keep_method ∷ make_cell_method ∷ counter_bump ∷ p_go ∷ box_get ∷ box_bump ∷ box_clear ∷ box_plain ∷ box_fetch ∷ ends_error ∷ ends_remote ∷ ends_nil ∷ ends_spin ∷ ends_deep ∷ ends_plainly ∷ link_fresh ∷ factory_make ∷ link_fail ∷ []) then ReferenceKind ∷ []
    else (if is_one_of m (user_pass ∷ p_join ∷ box_put ∷ box_same ∷ link_next ∷ link_relay ∷ link_back ∷ link_keep ∷ factory_make_cell ∷ box_move ∷ []) then ReferenceKind ∷ ReferenceKind ∷ []
    else (if m == down_method then IntKind ∷ ReferenceKind ∷ []
    else (if m == divide_method || m == flag_method then IntKind ∷ []
    else (if is_one_of m (ends_divide ∷ ends_flag ∷ factory_churn ∷ []) then ReferenceKind ∷ IntKind ∷ []
    else (if m == deep_run then ReferenceKind ∷ IntKind ∷ ReferenceKind ∷ []
    else (if m == sum_method then IntArrayKind ∷ []
    else (if m == double_method then IntArrayKind ∷ IntKind ∷ []
    else (if m == adder_sum || m == adder_copy then ReferenceKind ∷ IntArrayKind ∷ []
    else (if m == adder_twice then ReferenceKind ∷ IntArrayKind ∷ IntKind ∷ []
    else [])))))))))

-- what a method of a remote interface gives
abbrev pub result : ℕ → Kind
result m =
    if is_one_of m (ping_method ∷ peer_method ∷ put_method ∷ next_method ∷ []) then VoidKind
    else (if is_one_of m (get_method ∷ back_method ∷ make_method ∷ make_cell_method ∷ []) then ReferenceKind
    else (if m == double_method then IntArrayKind else IntKind))

-- the fields of a class
abbrev pub fields : ℕ → List Kind
fields c =
    if c == counter_class || c == ends_class then IntKind ∷ []
    else (if is_one_of c (p_class ∷ box_class ∷ plain_class ∷ []) then ReferenceKind ∷ []
    else (if c == twice_class then IntKind ∷ ReferenceKind ∷ []
    else (if c == link_class then ReferenceKind ∷ ReferenceKind ∷ [] else [])))

-- Error and what is below it: its own class, OutOfMemoryError, ServerError is none, IncompatibleClassChangeError and those below it, StackOverflowError
abbrev pub is_error : ℕ → Bool
is_error c = is_one_of c (out_of_memory_error ∷ plain_error ∷ incompatible_class_change_error ∷ abstract_method_error ∷ illegal_access_error ∷ stack_overflow_error ∷ [])

-- RemoteException and what is below it, ServerError and ServerException among them
abbrev pub is_remote_exception : ℕ → Bool
is_remote_exception c = is_one_of c (no_such_object_exception ∷ unmarshal_exception ∷ marshal_exception ∷ connect_exception ∷ server_error ∷ server_exception ∷ remote_exception ∷ [])

abbrev pub selected : ℕ → Option ℕ → Option ℕ
selected m None = Some m
selected m (Some thrown) = None

abbrev pub start_refusal_of : ℕ → List Value → Option StartRefusal
start_refusal_of m vs = if m == absent_method then Some AbsentMethod else (if fit_kinds (parameters m) vs then None else Some BadArgument)

-- the class set of the scripts
abbrev pub script_classes : Classes
script_classes = record {
  is_remote = λ c. nat_le counter_class c.0 && nat_le c.0 factory_class;
  may_call = λ c m. has c.0 m;
  parameters = parameters;
  result = result;
  selected = λ c m. selected m (selection c.0 m);
  start_refusal = λ own m vs. start_refusal_of m vs;
  behaviour = λ own limits m vs fuel. plan own m vs;
  fields = λ c. fields c.0;
  is_throwable = λ c. nat_le out_of_memory_error c.0 && nat_le c.0 array_index_exception;
  is_error = λ c. is_error c.0;
  is_remote_exception = λ c. is_remote_exception c.0;
  out_of_memory = class_of out_of_memory_error;
  no_such_object = class_of no_such_object_exception;
  unmarshal = class_of unmarshal_exception;
  marshal = class_of marshal_exception;
  connect = class_of connect_exception;
  server_error = class_of server_error;
  server_exception = class_of server_exception;
  not_bound = class_of not_bound_exception;
}

-- a space of the scripts, with the limits that a space has by default
abbrev pub setting_of : Uuid → Setting
setting_of id = record {
  classes = script_classes;
  id = id;
  digest = 9 ∷ [];
  version = 1;
  limits = record { heap = 65536; stack = 16384; references = 1024; fuel = 1000000 };
}
