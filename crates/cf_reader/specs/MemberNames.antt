-- The names of members that were looked at (JVMS 4.2.2): such a name keeps the rules at each item that names it. (This project's own.)
use Rattle.std.specs.Prelude.{◌≡◌, ℕ, true, List, Ok}
use Rattle.std.specs.Ordering.{nat_cmp}
use Rattle.std.specs.BTreeSet.{contains}
use Rattle.cf_text.specs.Demands.{verdict}
use Rattle.cf_text.specs.Names.{is_name}
use Rattle.cf_pool.specs.declared.pool.Entry.{Entry}
use Rattle.cf_pool.specs.Pools.{named, utf8_at}
use Rattle.cf_reader.specs.declared.names.FieldNames.{FieldNames}
use Rattle.cf_reader.specs.declared.names.MethodNames.{MethodNames}
use Rattle.cf_reader.specs.Checks.{method_name_demands}

-- the text of an index is a name of fields; of methods
abbrev pub IsFieldName : List Entry → ℕ → Type 0
IsFieldName pool index = (at : ℕ) → verdict (named at (utf8_at pool index) is_name) ≡ Ok tt

abbrev pub IsMethodName : List Entry → ℕ → Type 0
IsMethodName pool index = (at : ℕ) → verdict (method_name_demands pool (record { at = at; value = index })) ≡ Ok tt

-- each index that is kept is one of these
abbrev pub AreFieldNames : List Entry → FieldNames → Type 0
AreFieldNames pool names = (index : ℕ) → contains nat_cmp names.kept index ≡ true → IsFieldName pool index

abbrev pub AreMethodNames : List Entry → MethodNames → Type 0
AreMethodNames pool names = (index : ℕ) → contains nat_cmp names.kept index ≡ true → IsMethodName pool index
