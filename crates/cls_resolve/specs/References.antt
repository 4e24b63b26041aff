-- What an instruction asks of an index of the constant pool of its class (JVMS 4.9.1, 6.5).
use Rattle.std.specs.Prelude.{ℕ, Bool, true, false, Option, Some, None}
use Rattle.cf_pool.specs.declared.pool.MemberKind.{MemberKind}
use Rattle.cf_pool.specs.declared.pool.MemberKind.TheVariants as kind
use Rattle.cf_insns.specs.declared.insn.Insn.{Insn}
use Rattle.cf_insns.specs.declared.insn.Insn.TheVariants as read
use Rattle.cf_insns.specs.declared.insn.FieldOperation.{FieldOperation}
use Rattle.cf_insns.specs.declared.insn.FieldOperation.TheVariants as field
use Rattle.cf_insns.specs.declared.insn.InvokeKind.{InvokeKind}
use Rattle.cf_insns.specs.declared.insn.InvokeKind.TheVariants as invoke
use Rattle.cls_resolve.specs.declared.references.Asked.{Asked}
use Rattle.cls_resolve.specs.declared.references.Asked.TheVariants as asked
use Rattle.cls_resolve.specs.declared.references.MemberOperation.{MemberOperation}
use Rattle.cls_resolve.specs.declared.references.MemberOperation.TheVariants as member

-- getstatic, getfield, putfield
abbrev pub field_operation : FieldOperation → MemberOperation
field_operation field.GetStatic = member.GetStatic
field_operation field.GetField = member.GetField
field_operation field.PutField = member.PutField

-- invokevirtual, invokespecial, invokestatic
abbrev pub invoke_operation : InvokeKind → MemberOperation
invoke_operation invoke.Virtual = member.InvokeVirtual
invoke_operation invoke.Special = member.InvokeSpecial
invoke_operation invoke.Static = member.InvokeStatic

-- what an instruction asks, and of which index
abbrev pub asked_of : Insn → Option (Asked × ℕ)
asked_of (read.LoadConstant index) = Some (asked.Constant, index)
asked_of (read.Class operation index) = Some (asked.Class operation, index)
asked_of (read.Field operation index) = Some (asked.Member (field_operation operation), index)
asked_of (read.Invoke kind index) = Some (asked.Member (invoke_operation kind), index)
asked_of (read.InvokeInterface index count) = Some (asked.Member member.InvokeInterface, index)
asked_of _ = None

-- the kind of member entry that an instruction takes
abbrev pub kind_taken : MemberOperation → MemberKind
kind_taken member.GetStatic = kind.Field
kind_taken member.GetField = kind.Field
kind_taken member.PutField = kind.Field
kind_taken member.InvokeVirtual = kind.Method
kind_taken member.InvokeSpecial = kind.Method
kind_taken member.InvokeStatic = kind.Method
kind_taken member.InvokeInterface = kind.InterfaceMethod

-- whether an instruction takes a static member; the others take one of instances
abbrev pub takes_static : MemberOperation → Bool
takes_static member.GetStatic = true
takes_static member.InvokeStatic = true
takes_static _ = false
