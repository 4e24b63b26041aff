-- What the effects of instructions are made of: operands are popped and pushed, local variables read and changed (JVMS 4.10.1.4). Each
-- gives what comes, or the first broken rule.
use Rattle.std.specs.Prelude.{ℕ, Bool, nat_lt, if◌then◌else◌, Option, Some, None, Result, Ok, Err, List, [], ◌∷◌, length, slice_get, slice_set}
use Rattle.cf_insns.specs.declared.insn.StackOperation.{StackOperation}
use Rattle.cf_insns.specs.declared.insn.StackOperation.TheVariants.{Pop, Pop2, Dup, DupX1, DupX2, Dup2, Dup2X1, Dup2X2, Swap}
use Rattle.cf_insns.specs.declared.insn.ValueKind.{ValueKind}
use Rattle.ver_check.specs.Bodies.{Body}
use Rattle.ver_rules.specs.Wants.{is_wanted, kind_wanted, operand_fault}
use Rattle.ver_rules.specs.declared.fault.CheckRule.{CheckRule}
use Rattle.ver_rules.specs.declared.fault.CheckRule.TheVariants as rule
use Rattle.ver_rules.specs.declared.want.Want.{Want}
use Rattle.ver_rules.specs.declared.want.Want.TheVariants as want
use Rattle.ver_frames.specs.Frames.{Frame}
use Rattle.ver_frames.specs.declared.vtype.VType.{VType}
use Rattle.ver_frames.specs.declared.vtype.VType.TheVariants.{Int}

-- steps one after the other, up to the first that fails
infixl 10 ◌>>=◌
abbrev pub ◌>>=◌ : {A B : Type 0} → Result A CheckRule → (A → Result B CheckRule) → Result B CheckRule
(Ok x) >>= f = f x
(Err e) >>= f = Err e

-- the frame, if the test passes
abbrev pub demand : CheckRule → Bool → Frame → Result Frame CheckRule
demand broken test f = if test then Ok f else Err broken

-- what there is, if anything
abbrev pub found_or : {A : Type 0} → CheckRule → Option A → Result A CheckRule
found_or broken None = Err broken
found_or broken (Some x) = Ok x

-- ---- operands

-- the operand on top, which has to be what is asked, and the frame without it
unfoldable pub taken : Body → Want → Frame → Result (VType × Frame) CheckRule
taken body asked f = taken_from f.stack
  where
    taken_from : List VType → Result (VType × Frame) CheckRule
    taken_from [] = Err rule.Underflow
    taken_from (t ∷ below) = if is_wanted body.classes asked t then Ok (t, record f { stack = below }) else Err (operand_fault asked t)

-- the frame without the operand on top, which has to be what is asked
abbrev pub take : Body → Want → Frame → Result Frame CheckRule
take body asked f = taken body asked f >>= λ top. Ok top.1

-- the frame without the operands on top; each has to fit the type at its index, and the first type is that of the one on top
unfoldable pub take_all : Body → List VType → Frame → Result Frame CheckRule
take_all body [] f = Ok f
take_all body (t ∷ types) f = take body (want.Fits t) f >>= take_all body types

-- the frame with one more operand on top
unfoldable pub give : Body → VType → Frame → Result Frame CheckRule
give body t f =
    if nat_lt (length f.stack) body.max_stack then Ok (record f { stack = t ∷ f.stack }) else Err rule.Overflow

-- the frame with these operands put on top, one after the other
unfoldable pub give_all : Body → List VType → Frame → Result Frame CheckRule
give_all body [] f = Ok f
give_all body (t ∷ types) f = give body t f >>= give_all body types

-- the frame without the two operands on top
abbrev pub take_two : Body → Want → Frame → Result Frame CheckRule
take_two body asked f = take body asked f >>= take body asked

-- the frame with this operand instead of the one on top
abbrev pub replaced : Body → Want → VType → Frame → Result Frame CheckRule
replaced body asked t f = take body asked f >>= give body t

-- the frame with an int instead of two
abbrev pub combined : Body → Frame → Result Frame CheckRule
combined body f = take_two body want.Int f >>= give body Int

-- two words off the top, the one on top first, and the frame without them
abbrev pub taken_two : Body → Frame → Result (VType × VType × Frame) CheckRule
taken_two body f = taken body want.Word f >>= λ a. taken body want.Word a.1 >>= λ b. Ok (a.0, b.0, b.1)

-- pop to swap: words are taken off the top, of which a is the first, b the second, c the third and d the fourth, and these are put on
unfoldable pub rearranged : Body → StackOperation → Frame → Result Frame CheckRule
rearranged body Pop f = take body want.Word f
rearranged body Pop2 f = take body want.Word f >>= take body want.Word
rearranged body Dup f = taken body want.Word f >>= λ a. give_all body (a.0 ∷ a.0 ∷ []) a.1
rearranged body DupX1 f = taken_two body f >>= λ ab. give_all body (ab.0 ∷ ab.1 ∷ ab.0 ∷ []) ab.2
rearranged body DupX2 f =
    taken_two body f >>= λ ab. taken body want.Word ab.2 >>= λ c. give_all body (ab.0 ∷ c.0 ∷ ab.1 ∷ ab.0 ∷ []) c.1
rearranged body Dup2 f = taken_two body f >>= λ ab. give_all body (ab.1 ∷ ab.0 ∷ ab.1 ∷ ab.0 ∷ []) ab.2
rearranged body Dup2X1 f =
    taken_two body f >>= λ ab. taken body want.Word ab.2 >>= λ c. give_all body (ab.1 ∷ ab.0 ∷ c.0 ∷ ab.1 ∷ ab.0 ∷ []) c.1
rearranged body Dup2X2 f =
    taken_two body f >>= λ ab. taken_two body ab.2 >>= λ cd. give_all body (ab.1 ∷ ab.0 ∷ cd.1 ∷ cd.0 ∷ ab.1 ∷ ab.0 ∷ []) cd.2
rearranged body Swap f = taken_two body f >>= λ ab. give_all body (ab.0 ∷ ab.1 ∷ []) ab.2

-- ---- local variables

-- a type that is what is asked
abbrev pub passing : Body → Want → VType → Result VType CheckRule
passing body asked t = if is_wanted body.classes asked t then Ok t else Err rule.Local

-- the type of this local variable, which has to be what is asked
unfoldable pub local_type : Body → Want → ℕ → Frame → Result VType CheckRule
local_type body asked n f = found_or rule.Local (slice_get f.locals n) >>= passing body asked

-- pushes a local variable
abbrev pub load : Body → ValueKind → ℕ → Frame → Result Frame CheckRule
load body k n f = local_type body (kind_wanted k) n f >>= λ t. give body t f

-- pops into a local variable that there is
abbrev pub popped_into : Body → ValueKind → ℕ → Frame → Result Frame CheckRule
popped_into body k n f = taken body (kind_wanted k) f >>= λ top. Ok (record top.1 { locals = slice_set top.1.locals n top.0 })

-- pops into a local variable, which there has to be
abbrev pub store : Body → ValueKind → ℕ → Frame → Result Frame CheckRule
store body k n f = demand rule.Local (nat_lt n (length f.locals)) f >>= popped_into body k n

-- iinc: the frame, if the local variable is int
abbrev pub incremented : Body → ℕ → Frame → Result Frame CheckRule
incremented body n f = local_type body want.Int n f >>= λ t. Ok f
