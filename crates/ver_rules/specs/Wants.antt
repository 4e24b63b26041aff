-- What an instruction asks of an operand or of a local variable (JVMS 4.10.1.9), and the fault of an operand that is not it.
use Rattle.std.specs.Prelude.{Bool, true, false, ◌||◌, ◌&&◌, if◌then◌else◌, List}
use Rattle.cf_insns.specs.declared.insn.ValueKind.{ValueKind}
use Rattle.cf_insns.specs.declared.insn.ValueKind.TheVariants as kind
use Rattle.cls_set.specs.declared.class.Class.{Class}
use Rattle.ver_rules.specs.declared.fault.CheckRule.{CheckRule}
use Rattle.ver_rules.specs.declared.fault.CheckRule.TheVariants as rule
use Rattle.ver_rules.specs.declared.want.Want.{Want}
use Rattle.ver_rules.specs.declared.want.Want.TheVariants as want
use Rattle.ver_frames.specs.AssignableTest.{is_assignable}
use Rattle.ver_frames.specs.StackMapFormat.{is_uninit_this}
use Rattle.ver_frames.specs.declared.vtype.VType.{VType}
use Rattle.ver_frames.specs.declared.vtype.VType.TheVariants.{Top, Int, Null, Object, IntArray, Uninitialized, UninitializedThis}

-- whether a type is int
abbrev pub is_int : VType → Bool
is_int Int = true
is_int _ = false

-- whether a type is that of a reference: null, a class, an array, or an object that is not initialized (JVMS 4.10.1.2)
abbrev pub is_reference : VType → Bool
is_reference Top = false
is_reference Int = false
is_reference _ = true

-- whether a type is that of a single word on the operand stack: any but top
abbrev pub is_word : VType → Bool
is_word Top = false
is_word _ = true

-- whether a type is assignable to java/lang/Object: null, a class, or an array
abbrev pub is_object : VType → Bool
is_object Null = true
is_object (Object class) = true
is_object IntArray = true
is_object _ = false

-- whether a type is that of an object that is not initialized
abbrev pub is_uninitialized : VType → Bool
is_uninitialized (Uninitialized offset) = true
is_uninitialized UninitializedThis = true
is_uninitialized _ = false

-- whether a type is what is asked
unfoldable pub is_wanted : List Class → Want → VType → Bool
is_wanted classes want.Int t = is_int t
is_wanted classes want.Word t = is_word t
is_wanted classes want.Reference t = is_reference t
is_wanted classes want.Initialized t = is_object t
is_wanted classes (want.Fits asked) t = is_assignable classes t asked
is_wanted classes (want.FitsOrThis class) t = is_uninit_this t || is_assignable classes t (Object class)

-- what a load, a store or a return of a kind asks
abbrev pub kind_wanted : ValueKind → Want
kind_wanted kind.Int = want.Int
kind_wanted kind.Reference = want.Reference

-- whether an initialized reference is asked
abbrev pub wants_object : Want → Bool
wants_object want.Int = false
wants_object want.Word = false
wants_object want.Reference = false
wants_object want.Initialized = true
wants_object (want.Fits asked) = is_object asked
wants_object (want.FitsOrThis class) = true

-- the broken rule if an operand is not what is asked: Uninitialized if an initialized object is asked and the operand is not initialized,
-- else Mismatch
abbrev pub operand_fault : Want → VType → CheckRule
operand_fault asked t = if wants_object asked && is_uninitialized t then rule.Uninitialized else rule.Mismatch
