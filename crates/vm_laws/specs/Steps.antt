-- Runs of linked code: the machine executes one instruction after the other (JVMS 2.11), and is never stuck.
use Rattle.std.specs.Prelude.{◌≡◌, ℕ, List, Option, Some, option_and_then, slice_get}
use Rattle.cls_link.specs.Links.{Links}
use Rattle.cls_link.specs.declared.linked_code.LinkedCode.{LinkedCode}
use Rattle.cls_link.specs.declared.linked_code.LinkedInsn.{LinkedInsn}
use Rattle.cls_link.specs.declared.linked_code.LinkedMethod.{LinkedMethod}
use Rattle.ver_frames.specs.Frames.{Frame}
use Rattle.ver_frames.specs.Method.{Subject}
use Rattle.ver_frames.specs.declared.vtype.VType.{VType}
use Rattle.vm_act.specs.Next.{Next, On}
use Rattle.vm_act.specs.Steps.{on_some}
use Rattle.vm_act.specs.declared.machine.Machine.{Machine}
use Rattle.vm_code.specs.Act.{act}
use Rattle.vm_typing.specs.Runs.{IsSound, Move, MovesFit, played, steps}
use Rattle.vm_typing.specs.Typed.{IsTyped}
use Rattle.vm_laws.specs.Worlds.{subject_at, world_of}
use Rattle.cls_link.specs.declared.linked_code.LinkedInsn.TheVariants as insn
use Rattle.space_ids.specs.declared.ids.ClassId.{ClassId}
use Rattle.vm_typing.specs.World.{World}
use Rattle.vm_laws.specs.Rows.{Names, NamesField, NamesInterface, NamesMethod}

-- the instruction of a method, by the method's number and its own index
abbrev pub insn_at : Links → ℕ → ℕ → Option LinkedInsn
insn_at links number index =
    option_and_then (λ (m : LinkedMethod). option_and_then (λ (code : LinkedCode). slice_get code.insns index) m.code) (slice_get links.methods number)

-- a step: the act of the instruction at which the machine stands, which there has to be
abbrev pub step : Links → Machine → Next
step links m = on_some (λ insn. act links insn m) (insn_at links m.stack.frame.method m.stack.frame.index)

-- what each instruction of the methods of a set names is there, and is as linking says
abbrev pub AreNamed : Links → (ℕ → ℕ → Frame) → Type 0
AreNamed links frames = (number : ℕ) (m : Subject) → subject_at links number ≡ Some m → (index : ℕ) (insn : LinkedInsn) → slice_get m.linked.insns index ≡ Some insn
    → Names (world_of links frames) m.class_id m.linked.switches insn

-- what linking gives of the fields and the methods that an instruction names
abbrev pub NamesMember : World → ClassId → LinkedInsn → Type 0
NamesMember w current (insn.GetField class field) = NamesField w class field
NamesMember w current (insn.PutField class field) = NamesField w class field
NamesMember w current (insn.Invoke kind class member) = NamesMethod w current kind class member
NamesMember w current (insn.InvokeInterface count class member) = NamesInterface w class member
NamesMember w current _ = Unit {0}

-- the fields and the methods that the instructions of a set name are there, and are as linking says
abbrev pub AreMembersNamed : Links → (ℕ → ℕ → Frame) → Type 0
AreMembersNamed links frames = (number : ℕ) (m : Subject) → subject_at links number ≡ Some m → (index : ℕ) (insn : LinkedInsn) → slice_get m.linked.insns index ≡ Some insn
    → NamesMember (world_of links frames) m.class_id insn

-- however many steps a typed machine makes, it is never stuck, and its task ends with what it may give
abbrev pub AreNeverStuck : Links → (ℕ → ℕ → Frame) → Type 0
AreNeverStuck links frames = (asked : Option VType) (m : Machine) → IsTyped (world_of links frames) asked m → (n : ℕ)
    → IsSound (world_of links frames) asked (steps (step links) n (On m))

-- the same if it is given replies to what it asks, each of which fits
abbrev pub AreNeverStuckByReplies : Links → (ℕ → ℕ → Frame) → Type 0
AreNeverStuckByReplies links frames = (asked : Option VType) (m : Machine) → IsTyped (world_of links frames) asked m → (moves : List Move)
    → MovesFit (world_of links frames) (step links) moves (On m) → IsSound (world_of links frames) asked (played (step links) moves (On m))
