-- Which access flags go together (JVMS 4.1, 4.5, 4.6).
use Rattle.std.specs.Prelude.{ℕ, Bool, ◌==◌, ◌&&◌, ◌||◌, not, bit_and, if◌then◌else◌}
use Rattle.cf_reader.specs.declared.flags.TheConstants.Flags.{PUBLIC, PRIVATE, PROTECTED, STATIC, FINAL, SUPER, SYNCHRONIZED, VOLATILE, BRIDGE, TRANSIENT, NATIVE, INTERFACE, ABSTRACT, STRICT}

-- one of the mask's flags is set
abbrev pub has : ℕ → ℕ → Bool
has bits mask = not (bit_and bits mask == 0)

-- at most one of public, private and protected
unfoldable pub has_one_access : ℕ → Bool
has_one_access bits =
    not (has bits PUBLIC && has bits PRIVATE) && not (has bits PUBLIC && has bits PROTECTED) && not (has bits PRIVATE && has bits PROTECTED)

-- An interface is abstract, and neither final nor marked as a class that has the flag 20 of old; another
-- class is not both final and abstract.
unfoldable pub class_flags_fit : ℕ → Bool
class_flags_fit bits =
    if has bits INTERFACE then has bits ABSTRACT && not (has bits FINAL) && not (has bits SUPER)
    else not (has bits FINAL && has bits ABSTRACT)

-- A field has one access, and is not both final and volatile; an interface's is public, static and final,
-- and not transient.
unfoldable pub field_flags_fit : Bool → ℕ → Bool
field_flags_fit in_interface bits =
    has_one_access bits && not (has bits FINAL && has bits VOLATILE)
    && (not in_interface || (has bits PUBLIC && has bits STATIC && has bits FINAL && not (has bits TRANSIENT)))

-- An abstract method has no Code, stands in an abstract class or an interface (a rule of this project), and
-- is none of what would need a body; another one has Code.
unfoldable pub has_fitting_body : ℕ → Bool → ℕ → Bool
has_fitting_body class has_code bits =
    if has bits ABSTRACT
    then not has_code && (has class ABSTRACT || has class INTERFACE) && not (has bits PRIVATE) && not (has bits STATIC)
    && not (has bits FINAL) && not (has bits SYNCHRONIZED) && not (has bits NATIVE) && not (has bits STRICT)
    else has_code

-- an <init> stands in a class, and is plain but for its access
unfoldable pub is_fitting_initializer : ℕ → ℕ → Bool
is_fitting_initializer class bits =
    not (has class INTERFACE) && not (has bits STATIC) && not (has bits FINAL) && not (has bits SYNCHRONIZED)
    && not (has bits BRIDGE) && not (has bits NATIVE) && not (has bits ABSTRACT)

-- a method's flags, in a class of these flags
unfoldable pub method_flags_fit : ℕ → Bool → Bool → ℕ → Bool
method_flags_fit class has_code is_initializer bits =
    has_one_access bits && has_fitting_body class has_code bits && (not is_initializer || is_fitting_initializer class bits)
