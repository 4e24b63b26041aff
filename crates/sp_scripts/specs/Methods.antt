-- What the methods of the scripts' remote classes do, as behaviours: instructions of their own, what they ask for, and how they end.
-- (This project's own worked examples: docs/SCRIPTS.md.)
use Rattle.std.specs.Prelude.{ℕ, zero, suc, ◌+◌, ◌==◌, ◌&&◌, ◌||◌, not, nat_le, Bool, true, false, List, [], ◌∷◌, Option, None, Some, ℤ, pos, negsuc, ◌+ℤ◌, length, if◌then◌else◌}
use Rattle.std.specs.Str.{bytes_eq}
use Rattle.uuid.specs.declared.Uuid.{Uuid}
use Rattle.space_ids.specs.declared.ids.ObjId.{ObjId}
use Rattle.space_ids.specs.declared.ids.Ref.{Ref}
use Rattle.space_ids.specs.declared.value.Value.{Value}
use Rattle.space_ids.specs.declared.value.Value.TheVariants as values
use Rattle.sp_rules.specs.Behaviours.{Behaviour, Plain, Asks, Ends, Create, Get, Put, Call, Threw}
use Rattle.sp_rules.specs.References.{is_same_reference}
use Rattle.sp_scripts.specs.Names.{abstract_method_error, adder_class, arithmetic_exception, array_index_exception, back_method, box_class, bump_method, class_of, counter_class, deep_class, deep_method, divide_method, double_method, down_method, ends_class, error_method, factory_class, flag_method, get_method, hidden_class, illegal_access_error, inc_method, incompatible_class_change_error, keep_method, lacks_class, link_class, make_cell_method, make_method, marshal_exception, next_method, nil_method, null_pointer_exception, p_class, peer_method, ping_method, plain_class, plain_error, plain_exception, plainly_method, put_method, relay_method, remote_exception, remote_method, spin_method, stack_overflow_error, sum_method, three_method, twice_class, use_method, user_class}

abbrev pub threw : ℕ → Behaviour
threw n = Ends (Threw (class_of n))

abbrev pub plains : ℕ → Behaviour → Behaviour
plains zero p = p
plains (suc n) p = Plain (plains n p)

abbrev pub val : Option Value → Value
val None = values.Null
val (Some v) = v

abbrev pub plus_one_int : ℤ → ℤ
plus_one_int (pos n) = pos (n + 1)
plus_one_int (negsuc n) = pos 0

abbrev pub plus_one : Option Value → Option Value
plus_one None = None
plus_one (Some values.Null) = None
plus_one (Some (values.Int n)) = Some (values.Int (plus_one_int n))
plus_one (Some (values.Ints ns)) = None
plus_one (Some (values.Ref r)) = None

abbrev pub nat_of_int : ℤ → ℕ
nat_of_int (pos n) = n
nat_of_int (negsuc n) = 0

abbrev pub nat_of : Value → ℕ
nat_of values.Null = 0
nat_of (values.Int n) = nat_of_int n
nat_of (values.Ints ns) = 0
nat_of (values.Ref r) = 0

abbrev pub int_value : ℕ → Option Value
int_value n = Some (values.Int (pos n))

abbrev pub is_null : Value → Bool
is_null values.Null = true
is_null (values.Int n) = false
is_null (values.Ints ns) = false
is_null (values.Ref r) = false

abbrev pub arg : ℕ → List Value → Value
arg n [] = values.Null
arg zero (v ∷ vs) = v
arg (suc n) (v ∷ vs) = arg n vs

abbrev pub same : Value → Value → Bool
same (values.Ref a) (values.Ref b) = is_same_reference a b
same a b = is_null a && is_null b

-- which methods a remote interface of a class has
abbrev pub has : ℕ → ℕ → Bool
has c m =
    if c == user_class then m == use_method else (if c == p_class then nat_le ping_method m && nat_le m peer_method else (if c == box_class || c == plain_class then nat_le put_method m && nat_le m bump_method
    else (if c == ends_class then nat_le divide_method m && nat_le m plainly_method else (if c == deep_class then m == down_method else (if c == link_class then nat_le next_method m && nat_le m keep_method
    else (if c == factory_class then nat_le make_method m && nat_le m make_cell_method else (if c == adder_class then nat_le sum_method m && nat_le m three_method else m == inc_method)))))))

abbrev pub selection : ℕ → ℕ → Option ℕ
selection c m = if c == lacks_class then Some abstract_method_error else (if c == hidden_class then Some illegal_access_error else None)

abbrev pub Next : Type 0
Next = Option Value → Behaviour

abbrev pub Inner : Type 0
Inner = ℕ → Ref → List Value → Next → Behaviour

abbrev pub home : Inner → Ref → ℕ → List Value → Next → Option ℕ → Behaviour
home inner r m arguments k (Some thrown) = threw thrown
home inner r m arguments k None = Plain (inner m r arguments (λ v. Plain (k v)))

-- invokeinterface
abbrev pub invoke : Inner → Uuid → Value → ℕ → List Value → Next → Behaviour
invoke inner own values.Null m arguments k = threw null_pointer_exception
invoke inner own (values.Int n) m arguments k = threw null_pointer_exception
invoke inner own (values.Ints ns) m arguments k = threw null_pointer_exception
invoke inner own (values.Ref r) m arguments k =
    if not (has r.class.0 m) then threw incompatible_class_change_error
    else (if bytes_eq r.space own then home inner r m arguments k (selection r.class.0 m) else Asks (Call r m arguments) k)

abbrev pub inc : Ref → Next → Behaviour
inc r k = Plain (Plain (Asks (Get r.id 0) (λ v. plains 3 (Asks (Put r.id 0 (val (plus_one v))) (λ w. k (plus_one v))))))

abbrev pub twice : Ref → Next → Behaviour
twice r k = plains 2 (inc r (λ v. plains 4 (inc r (λ w. Plain (k w)))))

abbrev pub hop : Inner → Uuid → Ref → ℕ → Value → Behaviour → Next → Behaviour
hop inner own r m v last k =
    Plain (Asks (Get r.id 0) (λ next. Plain (if is_null (val next) then last
    else Plain (Asks (Get r.id 0) (λ again. Plain (invoke inner own (val again) m (v ∷ []) k))))))

abbrev pub down : Inner → Uuid → Ref → ℕ → Value → Next → Behaviour
down inner own r zero other k = plains 3 (k (int_value 0))
down inner own r (suc n) other k =
    plains 7 (invoke inner own other down_method (values.Int (pos n) ∷ values.Ref r ∷ []) (λ v. plains 2 (k (plus_one v))))

-- of the numbers that scripts use
abbrev pub hundredth : ℕ → ℕ
hundredth n = if n == 1 then 100 else (if n == 2 then 50 else (if n == 3 then 33 else (if n == 4 then 25 else (if n == 5 then 20 else (if n == 6 then 16 else 14)))))

abbrev pub is_negative_int : ℤ → Bool
is_negative_int (pos n) = false
is_negative_int (negsuc n) = true

abbrev pub is_negative : Value → Bool
is_negative values.Null = false
is_negative (values.Int n) = is_negative_int n
is_negative (values.Ints ns) = false
is_negative (values.Ref r) = false

abbrev pub divide : Value → Next → Behaviour
divide v k = if is_negative v then plains 3 (k (Some (values.Int (negsuc 99))))
    else (if nat_of v == 0 then plains 2 (threw arithmetic_exception) else plains 3 (k (int_value (hundredth (nat_of v)))))

abbrev pub create : ℕ → ℕ → Next → Behaviour
create class n k = Asks (Create (class_of class)) (λ v. plains n (k v))

abbrev pub id_of : Value → ObjId
id_of values.Null = record { 0 = 0 }
id_of (values.Int n) = record { 0 = 0 }
id_of (values.Ints ns) = record { 0 = 0 }
id_of (values.Ref r) = r.id

abbrev pub make_cell : Value → Next → Behaviour
make_cell v k = create box_class 8 (λ r. Asks (Put (id_of (val r)) 0 v) (λ w. k r))

-- ---- arrays

abbrev pub sum_of : List ℤ → ℤ
sum_of [] = pos 0
sum_of (n ∷ ns) = n +ℤ sum_of ns

-- sum's loop, with 12 instructions an element
abbrev pub sum_ints : List ℤ → Behaviour → Behaviour
sum_ints [] last = plains 5 last
sum_ints (n ∷ ns) last = plains 12 (sum_ints ns last)

abbrev pub sum_body : Value → Next → Behaviour
sum_body values.Null k = plains 6 (threw null_pointer_exception)
sum_body (values.Int n) k = plains 6 (threw null_pointer_exception)
sum_body (values.Ints ns) k = plains 4 (sum_ints ns (k (Some (values.Int (sum_of ns)))))
sum_body (values.Ref r) k = plains 6 (threw null_pointer_exception)

-- the array with the element at an index doubled
abbrev pub doubled : ℕ → List ℤ → List ℤ
doubled i [] = []
doubled zero (n ∷ ns) = (n +ℤ n) ∷ ns
doubled (suc i) (n ∷ ns) = n ∷ doubled i ns

abbrev pub element : ℕ → List ℤ → ℤ
element i [] = pos 0
element zero (n ∷ ns) = n
element (suc i) (n ∷ ns) = element i ns

abbrev pub double_ints : List ℤ → ℕ → Next → Behaviour
double_ints ns i k = if nat_le (length ns) i then plains 4 (threw array_index_exception) else plains 9 (k (Some (values.Ints (doubled i ns))))

abbrev pub double_body : Value → Value → Next → Behaviour
double_body values.Null index k = plains 4 (threw null_pointer_exception)
double_body (values.Int n) index k = plains 4 (threw null_pointer_exception)
double_body (values.Ints ns) index k = double_ints ns (nat_of index) k
double_body (values.Ref r) index k = plains 4 (threw null_pointer_exception)

-- the first element of an array
abbrev pub first_int : Value → Option Value
first_int values.Null = None
first_int (values.Int n) = None
first_int (values.Ints ns) = Some (values.Int (element 0 ns))
first_int (values.Ref r) = None

abbrev pub body_of : Inner → Uuid → ℕ → Ref → List Value → Next → Behaviour
body_of inner own m r arguments k =
    if m == inc_method then (if r.class.0 == twice_class then twice r k else inc r k)
    else (if m == use_method then Plain (invoke inner own (arg 0 arguments) inc_method [] k)
    else (if m == ping_method then Plain (Asks (Get r.id 0) (λ v. invoke inner own (val v) ping_method [] k))
    else (if m == peer_method then plains 2 (Asks (Put r.id 0 (arg 0 arguments)) (λ v. k None))
    else (if m == put_method then (if r.class.0 == plain_class then plains 5 (threw incompatible_class_change_error) else plains 2 (Asks (Put r.id 0 (arg 0 arguments)) (λ v. k None)))
    else (if m == get_method then (if r.class.0 == plain_class then plains 4 (threw marshal_exception) else Plain (Asks (Get r.id 0) k))
    else (if m == bump_method then (if r.class.0 == plain_class then Plain (k (int_value 0)) else Plain (Asks (Get r.id 0) (λ v. invoke inner own (val v) inc_method [] k)))
    else (if m == down_method then down inner own r (nat_of (arg 0 arguments)) (arg 1 arguments) k
    else (if m == next_method then plains 2 (Asks (Put r.id 0 (arg 0 arguments)) (λ v. k None))
    else (if m == relay_method then hop inner own r relay_method (arg 0 arguments) (Plain (invoke inner own (arg 0 arguments) inc_method [] k)) k
    else (if m == back_method then hop inner own r back_method (arg 0 arguments) (Plain (k (Some (arg 0 arguments)))) k
    else (if m == keep_method then plains 2 (Asks (Put r.id 1 (arg 0 arguments)) (λ v. Plain (Asks (Get r.id 1) (λ w. invoke inner own (val w) inc_method [] k))))
    else (if m == make_method then Plain (create counter_class 7 k)
    else (if m == make_cell_method then make_cell (arg 0 arguments) k
    else (if m == divide_method then divide (arg 0 arguments) k
    else (if m == error_method then plains 4 (threw plain_error)
    else (if m == remote_method then plains 4 (threw remote_exception)
    else (if m == nil_method then Plain (threw null_pointer_exception)
    else (if m == spin_method then plains 700 (k None)
    else (if m == deep_method then plains 700 (threw stack_overflow_error)
    else (if m == flag_method then plains 2 (Asks (Put r.id 0 (arg 0 arguments)) (λ v. Plain (Asks (Get r.id 0) k)))
    else (if m == sum_method then sum_body (arg 0 arguments) k
    else (if m == double_method then double_body (arg 0 arguments) (arg 1 arguments) k
    else plains 4 (threw plain_exception)))))))))))))))))))))))

abbrev pub body : ℕ → Uuid → ℕ → Ref → List Value → Next → Behaviour
body zero own m r arguments k = threw stack_overflow_error
body (suc d) own m r arguments k = body_of (body d own) own m r arguments k

abbrev pub inner_of : Uuid → Inner
inner_of own = body 200 own
