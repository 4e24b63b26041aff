-- The numbers of the classes and methods of which the scripts are played: small remote classes, each with the static methods that scripts
-- start; `Methods` and `Programs` say what each method does. (This project's own worked examples: docs/SCRIPTS.md.)
use Rattle.std.specs.Prelude.{ℕ}
use Rattle.space_ids.specs.declared.ids.ClassId.{ClassId}

-- the class of this number
abbrev pub class_of : ℕ → ClassId
class_of n = record { 0 = n }

-- ---- remote classes

abbrev pub counter_class : ℕ
counter_class = 1

abbrev pub twice_class : ℕ
twice_class = 2

abbrev pub user_class : ℕ
user_class = 3

abbrev pub p_class : ℕ
p_class = 4

abbrev pub box_class : ℕ
box_class = 5

abbrev pub plain_class : ℕ
plain_class = 6

abbrev pub adder_class : ℕ
adder_class = 7

abbrev pub ends_class : ℕ
ends_class = 8

abbrev pub lacks_class : ℕ
lacks_class = 9

abbrev pub hidden_class : ℕ
hidden_class = 10

abbrev pub deep_class : ℕ
deep_class = 11

abbrev pub link_class : ℕ
link_class = 12

abbrev pub factory_class : ℕ
factory_class = 13

-- ---- what is thrown

abbrev pub out_of_memory_error : ℕ
out_of_memory_error = 100

abbrev pub no_such_object_exception : ℕ
no_such_object_exception = 101

abbrev pub unmarshal_exception : ℕ
unmarshal_exception = 102

abbrev pub marshal_exception : ℕ
marshal_exception = 103

abbrev pub connect_exception : ℕ
connect_exception = 104

abbrev pub server_error : ℕ
server_error = 105

abbrev pub not_bound_exception : ℕ
not_bound_exception = 106

abbrev pub server_exception : ℕ
server_exception = 107

abbrev pub null_pointer_exception : ℕ
null_pointer_exception = 108

abbrev pub arithmetic_exception : ℕ
arithmetic_exception = 109

abbrev pub plain_error : ℕ
plain_error = 110

abbrev pub remote_exception : ℕ
remote_exception = 111

abbrev pub plain_exception : ℕ
plain_exception = 112

abbrev pub incompatible_class_change_error : ℕ
incompatible_class_change_error = 113

abbrev pub abstract_method_error : ℕ
abstract_method_error = 114

abbrev pub illegal_access_error : ℕ
illegal_access_error = 115

abbrev pub stack_overflow_error : ℕ
stack_overflow_error = 116

abbrev pub array_index_exception : ℕ
array_index_exception = 117

-- ---- methods of remote interfaces

abbrev pub inc_method : ℕ
inc_method = 0

abbrev pub use_method : ℕ
use_method = 1

abbrev pub ping_method : ℕ
ping_method = 2

abbrev pub peer_method : ℕ
peer_method = 3

abbrev pub put_method : ℕ
put_method = 4

abbrev pub get_method : ℕ
get_method = 5

abbrev pub bump_method : ℕ
bump_method = 6

abbrev pub down_method : ℕ
down_method = 7

abbrev pub next_method : ℕ
next_method = 8

abbrev pub relay_method : ℕ
relay_method = 9

abbrev pub back_method : ℕ
back_method = 10

abbrev pub keep_method : ℕ
keep_method = 11

abbrev pub make_method : ℕ
make_method = 12

abbrev pub make_cell_method : ℕ
make_cell_method = 13

abbrev pub divide_method : ℕ
divide_method = 14

abbrev pub error_method : ℕ
error_method = 15

abbrev pub remote_method : ℕ
remote_method = 16

abbrev pub nil_method : ℕ
nil_method = 17

abbrev pub spin_method : ℕ
spin_method = 18

abbrev pub deep_method : ℕ
deep_method = 19

abbrev pub flag_method : ℕ
flag_method = 20

abbrev pub plainly_method : ℕ
plainly_method = 21

abbrev pub sum_method : ℕ
sum_method = 22

abbrev pub double_method : ℕ
double_method = 23

abbrev pub three_method : ℕ
three_method = 24

-- ---- static methods

abbrev pub counter_make : ℕ
counter_make = 40

abbrev pub counter_bump : ℕ
counter_bump = 41

abbrev pub user_make : ℕ
user_make = 42

abbrev pub user_pass : ℕ
user_pass = 43

abbrev pub p_make : ℕ
p_make = 44

abbrev pub p_go : ℕ
p_go = 45

abbrev pub p_join : ℕ
p_join = 46

abbrev pub box_make : ℕ
box_make = 47

abbrev pub box_put : ℕ
box_put = 48

abbrev pub box_get : ℕ
box_get = 49

abbrev pub box_bump : ℕ
box_bump = 50

abbrev pub box_clear : ℕ
box_clear = 51

abbrev pub box_plain : ℕ
box_plain = 52

abbrev pub box_object : ℕ
box_object = 53

abbrev pub box_fetch : ℕ
box_fetch = 54

abbrev pub box_same : ℕ
box_same = 55

abbrev pub plain_make : ℕ
plain_make = 56

abbrev pub ends_make : ℕ
ends_make = 57

abbrev pub ends_divide : ℕ
ends_divide = 58

abbrev pub ends_error : ℕ
ends_error = 59

abbrev pub ends_remote : ℕ
ends_remote = 60

abbrev pub ends_nil : ℕ
ends_nil = 61

abbrev pub ends_spin : ℕ
ends_spin = 62

abbrev pub ends_deep : ℕ
ends_deep = 63

abbrev pub ends_flag : ℕ
ends_flag = 64

abbrev pub ends_plainly : ℕ
ends_plainly = 65

abbrev pub lacks_make : ℕ
lacks_make = 66

abbrev pub hidden_make : ℕ
hidden_make = 67

abbrev pub deep_make : ℕ
deep_make = 68

abbrev pub deep_run : ℕ
deep_run = 69

abbrev pub link_make : ℕ
link_make = 70

abbrev pub link_next : ℕ
link_next = 71

abbrev pub link_relay : ℕ
link_relay = 72

abbrev pub link_back : ℕ
link_back = 73

abbrev pub link_keep : ℕ
link_keep = 74

abbrev pub link_fresh : ℕ
link_fresh = 75

abbrev pub factory_create : ℕ
factory_create = 76

abbrev pub factory_make : ℕ
factory_make = 77

abbrev pub factory_make_cell : ℕ
factory_make_cell = 78

abbrev pub factory_churn : ℕ
factory_churn = 79

abbrev pub twice_make : ℕ
twice_make = 80

abbrev pub link_fail : ℕ
link_fail = 81

abbrev pub box_move : ℕ
box_move = 82

abbrev pub adder_make : ℕ
adder_make = 83

abbrev pub adder_sum : ℕ
adder_sum = 84

abbrev pub adder_twice : ℕ
adder_twice = 85

abbrev pub adder_copy : ℕ
adder_copy = 86

abbrev pub absent_method : ℕ
absent_method = 999
