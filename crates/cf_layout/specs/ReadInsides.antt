-- The insides of attributes, as they are read: of a ConstantValue, a Code and a StackMapTable (JVMS 4.7.2, 4.7.3, 4.7.4).
use Rattle.std.specs.Prelude.{ℕ, List}
use Rattle.cf_layout.specs.Codes.{code_of, constant_of, table_of}
use Rattle.cf_layout.specs.CodeFormat.{Insides}

abbrev pub insides_of : List ℕ → Insides
insides_of bytes = record { constant = constant_of bytes; table = table_of bytes; code = code_of bytes }
