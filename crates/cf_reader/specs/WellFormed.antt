-- What is true of every class file in this project's profile, whatever bytes spell it (JVMS 4.3, 4.5, 4.6).
use Rattle.std.specs.Prelude.{◌≡◌, Bool, true, false, None, bytes_eq, codes, All}
use Rattle.cf_text.specs.Descriptors.{IsFieldType, IsMethodType}
use Rattle.cf_reader.specs.declared.class_file.ClassFile.{ClassFile}
use Rattle.cf_reader.specs.declared.class_file.Field.{Field}
use Rattle.cf_reader.specs.declared.class_file.Method.{Method}
use Rattle.cf_reader.specs.declared.flags.TheConstants.Flags.{INTERFACE, STATIC}
use Rattle.cf_reader.specs.Profile.{is_profile_type, method_type_in_profile}
use Rattle.cf_reader.specs.Rules.{has}

-- a field of a class, or of an interface
pub record IsWellFormedField (in_interface : Bool) (field : Field) : Type 0 where
  -- its type is the one that its descriptor spells, and of the profile
  pub spelled : IsFieldType field.descriptor field.kind
  pub in_profile : is_profile_type field.kind ≡ true
  -- "fields of interfaces are static" (JVMS 4.5)
  pub constant : in_interface ≡ true → has field.flags.bits STATIC ≡ true

pub record IsWellFormedMethod (method : Method) : Type 0 where
  -- its types are those that its descriptor spells, and of the profile
  pub spelled : IsMethodType method.descriptor method.types
  pub in_profile : method_type_in_profile method.types ≡ true
  -- an `<init>` is not static, and its result is void (JVMS 4.6, 4.3.3)
  pub initializer : bytes_eq method.name (codes "<init>") ≡ true → (has method.flags.bits STATIC ≡ false) × (method.types.result ≡ None)

pub record IsWellFormed (class : ClassFile) : Type 0 where
  pub fields : All (IsWellFormedField (has class.flags.bits INTERFACE)) class.fields
  pub methods : All IsWellFormedMethod class.methods
