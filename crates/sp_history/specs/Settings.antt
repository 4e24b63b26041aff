-- The setting of no space. (This project's own.)
use Rattle.std.specs.Prelude.{false, None, []}
use Rattle.sp_rules.specs.Behaviours.{Over, Spent}
use Rattle.sp_rules.specs.Classes.{Setting, VoidKind}

abbrev pub no_setting : Setting
no_setting = record {
  classes = record {
    is_remote = λ c. false;
    may_call = λ c m. false;
    parameters = λ m. [];
    result = λ m. VoidKind;
    selected = λ c m. None;
    start_refusal = λ own m vs. None;
    behaviour = λ own limits m vs fuel. Over Spent;
    fields = λ c. [];
    is_throwable = λ c. false;
    is_error = λ c. false;
    is_remote_exception = λ c. false;
    out_of_memory = record { 0 = 0 };
    no_such_object = record { 0 = 0 };
    unmarshal = record { 0 = 0 };
    marshal = record { 0 = 0 };
    connect = record { 0 = 0 };
    server_error = record { 0 = 0 };
    server_exception = record { 0 = 0 };
    not_bound = record { 0 = 0 };
  };
  id = [];
  digest = [];
  version = 2;
  limits = record { heap = 0; stack = 0; references = 0; fuel = 0 };
}
