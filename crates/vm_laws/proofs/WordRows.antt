-- The rows of constants, local variables and operands as such.
use Rattle.std.proofs.Common.{◌≡◌, ℕ, ◌+◌, ◌<◌, List, [], ◌∷◌, length, refl, sym, subst, ◌∙◌, Option, Some, Ok, arith}
use Rattle.std.specs.Prelude.{ℤ, nat_lt, slice_get, slice_set}
use Rattle.std.proofs.lemmas.Bool.Decides.{nat_tests}
use Rattle.cf_insns.specs.declared.insn.StackOperation.{StackOperation}
use Rattle.cf_insns.specs.declared.insn.StackOperation.TheVariants as stack
use Rattle.cf_insns.specs.declared.insn.ValueKind.{ValueKind}
use Rattle.cls_link.specs.Links.{Links}
use Rattle.cls_link.specs.declared.linked_code.LinkedInsn.TheVariants as insn
use Rattle.ver_check.specs.Bodies.{Body}
use Rattle.ver_check.specs.Effects.{effect}
use Rattle.ver_check.specs.Steps.{◌>>=◌, give, give_all, local_type, popped_into, rearranged, take, taken, taken_two}
use Rattle.ver_rules.specs.Wants.{kind_wanted}
use Rattle.ver_rules.specs.declared.fault.CheckRule.TheVariants as rule
use Rattle.ver_rules.specs.declared.want.Want.TheVariants as want
use Rattle.ver_frames.specs.Frames.{Frame}
use Rattle.ver_frames.specs.declared.vtype.VType.{VType}
use Rattle.ver_frames.specs.declared.vtype.VType.TheVariants as vtype
use Rattle.vm_act.specs.declared.machine.Machine.{Machine}
use Rattle.vm_code.specs.Act.{rearrange, word_kind}
use Rattle.vm_heap.specs.Tagged.{Site}
use Rattle.vm_typing.proofs.Words as leads
use Rattle.vm_typing.specs.Fits.{held_by}
use Rattle.vm_typing.specs.Laws.{Leads}
use Rattle.vm_typing.specs.Owed.{Owed}
use Rattle.vm_typing.specs.Typed.{IsAt}
use Rattle.vm_typing.specs.World.{World}
use Rattle.vm_laws.specs.Rows.{StandsAt, IsRow, WordRows}
use Rattle.vm_laws.proofs.Stands.{next_is, room_for}
use Rattle.vm_laws.proofs.Takes.{Checked, demanded, gives, gives_all, has_room, in_turn, local_is, passes_then, same_ok, take_last, take_then, taken_then}
use Rattle.vm_laws.proofs.Wants.{int_wanted, kind_moves}

-- two operands are taken off a frame, and the rest goes on
pub record TakesTwo {A : Type 0} (f : Frame) (k : VType × VType × Frame → Checked A) (y : A) : Type 0 where
  pub top : VType
  pub second : VType
  pub types : List VType
  pub stack : f.stack ≡ top ∷ second ∷ types
  pub further : k (top, second, record f { stack = types }) ≡ Ok y

taken_two_then : {A : Type 0} (body : Body) (f : Frame) (k : VType × VType × Frame → Checked A) (y : A) → (taken_two body f >>= k) ≡ Ok y → TakesTwo f k y
taken_two_then body f k y e =
    let first = taken_then body want.Word f (λ a. (taken body want.Word a.1 >>= λ b. Ok (a.0, b.0, b.1)) >>= k) y (sym (in_turn (taken body want.Word f) (λ a. taken body want.Word a.1 >>= λ b. Ok (a.0, b.0, b.1)) k) ∙ e) in
    let g : Frame = record f { stack = first.types } in
    let second = taken_then body want.Word g (λ b. k (first.top, b.0, b.1)) y (sym (in_turn (taken body want.Word g) (λ b. Ok (first.top, b.0, b.1)) k) ∙ first.further) in
    record {
      top = first.top;
      second = second.top;
      types = second.types;
      stack = subst (λ (types : List VType). f.stack ≡ first.top ∷ types) second.stack first.stack;
      further = second.further;
    }

module _ (links : Links) (w : World) (owed : Owed w) (body : Body) where
  nop : IsRow links w body insn.Nop
  unfolding effect
  nop asked fresh receiver f after m s at =
      leads.next-leads w owed asked (held_by m) fresh receiver f m (next_is links w body insn.Nop f after m s f (same_ok s.effect) refl) at

  null : IsRow links w body insn.Null
  unfolding effect
  null asked fresh receiver f after m s at =
      let given = gives body vtype.Null f after s.effect in
      leads.null-leads w owed asked (held_by m) fresh receiver f m (room_for links w body insn.Null f after m s (length f.stack) given.0)
      (next_is links w body insn.Null f after m s (record f { stack = vtype.Null ∷ f.stack }) given.1 refl) at

  constant : (n : ℤ) → IsRow links w body (insn.Constant n)
  unfolding effect
  constant n asked fresh receiver f after m s at =
      let given = gives body vtype.Int f after s.effect in
      leads.constant-leads w owed asked (held_by m) fresh receiver n f m (room_for links w body (insn.Constant n) f after m s (length f.stack) given.0)
      (next_is links w body (insn.Constant n) f after m s (record f { stack = vtype.Int ∷ f.stack }) given.1 refl) at

  load_row : (kind : ValueKind) (local : ℕ) → IsRow links w body (insn.Load kind local)
  unfolding effect
  load_row kind local asked fresh receiver f after m s at =
      let first = passes_then (local_type body (kind_wanted kind) local f) (λ t. give body t f) after s.effect in
      let is = local_is body (kind_wanted kind) local f first.0 first.1.0 in
      let given = gives body first.0 f after first.1.1 in
      leads.load_local-leads w owed asked (held_by m) fresh receiver (word_kind kind) local first.0 f m is.0 (kind_moves body.classes kind first.0 is.1)
      (room_for links w body (insn.Load kind local) f after m s (length f.stack) given.0)
      (next_is links w body (insn.Load kind local) f after m s (record f { stack = first.0 ∷ f.stack }) given.1 refl) at

  store_row : (kind : ValueKind) (local : ℕ) → IsRow links w body (insn.Store kind local)
  unfolding effect
  store_row kind local asked fresh receiver f after m s at =
      let first = passes_then _ (popped_into body kind local) after s.effect in
      let test = demanded rule.Local (nat_lt local (length f.locals)) f first.0 first.1.0 in
      let popped = taken_then body (kind_wanted kind) f (λ top. Ok (record top.1 { locals = slice_set top.1.locals local top.0 })) after
      (subst (λ (g : Frame). popped_into body kind local g ≡ Ok after) (sym test.1) first.1.1) in
      let inside = test.0 in
      leads.store_top-leads w owed asked (held_by m) fresh receiver (word_kind kind) local popped.top popped.types f m popped.stack
      (kind_moves body.classes kind popped.top popped.wanted) (grind (arith, nat_tests))
      (next_is links w body (insn.Store kind local) f after m s (record f { locals = slice_set f.locals local popped.top; stack = popped.types }) (same_ok popped.further) refl) at

  increment : (local : ℕ) (by : ℤ) → IsRow links w body (insn.Increment local by)
  unfolding effect
  increment local by asked fresh receiver f after m s at =
      let first = passes_then (local_type body want.Int local f) (λ t. Ok f) after s.effect in
      let is = local_is body want.Int local f first.0 first.1.0 in
      leads.increment-leads w owed asked (held_by m) fresh receiver local by f m
      (subst (λ (t : VType). slice_get f.locals local ≡ Some t) (int_wanted body.classes first.0 is.1) is.0)
      (next_is links w body (insn.Increment local by) f after m s f (same_ok first.1.1) refl) at

  -- ---- operands as such

  module _ (asked : Option VType) (fresh : ℕ → Site) (receiver : Site) (f after : Frame) (m : Machine) where
    abbrev Row : StackOperation → Type 0
    Row operation = StandsAt links w body (insn.Stack operation) f after m → IsAt w asked fresh receiver f m → Leads w asked (held_by m) (rearrange operation m)

    room_on : (operation : StackOperation) → StandsAt links w body (insn.Stack operation) f after m → (t : VType) (put types : List VType)
        → give_all body (t ∷ put) (record f { stack = types }) ≡ Ok after → length types + length put < (w.method m.stack.frame.method).max_stack
    room_on operation s t put types e = room_for links w body (insn.Stack operation) f after m s (length types + length put) (has_room body t put (record f { stack = types }) after e)

    pop_row : Row stack.Pop
    unfolding effect rearranged
    pop_row s at =
        let a = take_last body want.Word f after s.effect in
        leads.pop_one-leads w owed asked (held_by m) fresh receiver a.top a.types f m a.stack
        (next_is links w body (insn.Stack stack.Pop) f after m s (record f { stack = a.types }) (same_ok a.further) refl) at

    pop2_row : Row stack.Pop2
    unfolding effect rearranged
    pop2_row s at =
        let a = take_then body want.Word f (take body want.Word) after s.effect in
        let b = take_last body want.Word (record f { stack = a.types }) after a.further in
        leads.pop_two-leads w owed asked (held_by m) fresh receiver a.top b.top b.types f m (subst (λ (types : List VType). f.stack ≡ a.top ∷ types) b.stack a.stack)
        (next_is links w body (insn.Stack stack.Pop2) f after m s (record f { stack = b.types }) (same_ok b.further) refl) at

    dup_row : Row stack.Dup
    unfolding effect rearranged
    dup_row s at =
        let a = taken_then body want.Word f (λ a. give_all body (a.0 ∷ a.0 ∷ []) a.1) after s.effect in
        leads.dup-leads w owed asked (held_by m) fresh receiver a.top a.types f m a.stack (room_on stack.Dup s a.top (a.top ∷ []) a.types a.further)
        (next_is links w body (insn.Stack stack.Dup) f after m s (record f { stack = a.top ∷ a.top ∷ a.types }) (gives_all body (a.top ∷ a.top ∷ []) (record f { stack = a.types }) after a.further) refl) at

    dup_x1_row : Row stack.DupX1
    unfolding effect rearranged
    dup_x1_row s at =
        let ab = taken_two_then body f (λ ab. give_all body (ab.0 ∷ ab.1 ∷ ab.0 ∷ []) ab.2) after s.effect in
        leads.dup_x1-leads w owed asked (held_by m) fresh receiver ab.top ab.second ab.types f m ab.stack (room_on stack.DupX1 s ab.top (ab.second ∷ ab.top ∷ []) ab.types ab.further)
        (next_is links w body (insn.Stack stack.DupX1) f after m s (record f { stack = ab.top ∷ ab.second ∷ ab.top ∷ ab.types })
        (gives_all body (ab.top ∷ ab.second ∷ ab.top ∷ []) (record f { stack = ab.types }) after ab.further) refl) at

    dup_x2_row : Row stack.DupX2
    unfolding effect rearranged
    dup_x2_row s at =
        let ab = taken_two_then body f (λ ab. taken body want.Word ab.2 >>= λ c. give_all body (ab.0 ∷ c.0 ∷ ab.1 ∷ ab.0 ∷ []) c.1) after s.effect in
        let c = taken_then body want.Word (record f { stack = ab.types }) (λ c. give_all body (ab.top ∷ c.0 ∷ ab.second ∷ ab.top ∷ []) c.1) after ab.further in
        leads.dup_x2-leads w owed asked (held_by m) fresh receiver ab.top ab.second c.top c.types f m (subst (λ (types : List VType). f.stack ≡ ab.top ∷ ab.second ∷ types) c.stack ab.stack)
        (room_on stack.DupX2 s ab.top (c.top ∷ ab.second ∷ ab.top ∷ []) c.types c.further)
        (next_is links w body (insn.Stack stack.DupX2) f after m s (record f { stack = ab.top ∷ ab.second ∷ c.top ∷ ab.top ∷ c.types })
        (gives_all body (ab.top ∷ c.top ∷ ab.second ∷ ab.top ∷ []) (record f { stack = c.types }) after c.further) refl) at

    dup2_row : Row stack.Dup2
    unfolding effect rearranged
    dup2_row s at =
        let ab = taken_two_then body f (λ ab. give_all body (ab.1 ∷ ab.0 ∷ ab.1 ∷ ab.0 ∷ []) ab.2) after s.effect in
        leads.dup2-leads w owed asked (held_by m) fresh receiver ab.top ab.second ab.types f m ab.stack
        (room_on stack.Dup2 s ab.second (ab.top ∷ ab.second ∷ ab.top ∷ []) ab.types ab.further)
        (next_is links w body (insn.Stack stack.Dup2) f after m s (record f { stack = ab.top ∷ ab.second ∷ ab.top ∷ ab.second ∷ ab.types })
        (gives_all body (ab.second ∷ ab.top ∷ ab.second ∷ ab.top ∷ []) (record f { stack = ab.types }) after ab.further) refl) at

    dup2_x1_row : Row stack.Dup2X1
    unfolding effect rearranged
    dup2_x1_row s at =
        let ab = taken_two_then body f (λ ab. taken body want.Word ab.2 >>= λ c. give_all body (ab.1 ∷ ab.0 ∷ c.0 ∷ ab.1 ∷ ab.0 ∷ []) c.1) after s.effect in
        let c = taken_then body want.Word (record f { stack = ab.types }) (λ c. give_all body (ab.second ∷ ab.top ∷ c.0 ∷ ab.second ∷ ab.top ∷ []) c.1) after ab.further in
        leads.dup2_x1-leads w owed asked (held_by m) fresh receiver ab.top ab.second c.top c.types f m (subst (λ (types : List VType). f.stack ≡ ab.top ∷ ab.second ∷ types) c.stack ab.stack)
        (room_on stack.Dup2X1 s ab.second (ab.top ∷ c.top ∷ ab.second ∷ ab.top ∷ []) c.types c.further)
        (next_is links w body (insn.Stack stack.Dup2X1) f after m s (record f { stack = ab.top ∷ ab.second ∷ c.top ∷ ab.top ∷ ab.second ∷ c.types })
        (gives_all body (ab.second ∷ ab.top ∷ c.top ∷ ab.second ∷ ab.top ∷ []) (record f { stack = c.types }) after c.further) refl) at

    dup2_x2_row : Row stack.Dup2X2
    unfolding effect rearranged
    dup2_x2_row s at =
        let ab = taken_two_then body f (λ ab. taken_two body ab.2 >>= λ cd. give_all body (ab.1 ∷ ab.0 ∷ cd.1 ∷ cd.0 ∷ ab.1 ∷ ab.0 ∷ []) cd.2) after s.effect in
        let cd = taken_two_then body (record f { stack = ab.types }) (λ cd. give_all body (ab.second ∷ ab.top ∷ cd.1 ∷ cd.0 ∷ ab.second ∷ ab.top ∷ []) cd.2) after ab.further in
        leads.dup2_x2-leads w owed asked (held_by m) fresh receiver ab.top ab.second cd.top cd.second cd.types f m (subst (λ (types : List VType). f.stack ≡ ab.top ∷ ab.second ∷ types) cd.stack ab.stack)
        (room_on stack.Dup2X2 s ab.second (ab.top ∷ cd.second ∷ cd.top ∷ ab.second ∷ ab.top ∷ []) cd.types cd.further)
        (next_is links w body (insn.Stack stack.Dup2X2) f after m s (record f { stack = ab.top ∷ ab.second ∷ cd.top ∷ cd.second ∷ ab.top ∷ ab.second ∷ cd.types })
        (gives_all body (ab.second ∷ ab.top ∷ cd.second ∷ cd.top ∷ ab.second ∷ ab.top ∷ []) (record f { stack = cd.types }) after cd.further) refl) at

    swap_row : Row stack.Swap
    unfolding effect rearranged
    swap_row s at =
        let ab = taken_two_then body f (λ ab. give_all body (ab.0 ∷ ab.1 ∷ []) ab.2) after s.effect in
        leads.swap-leads w owed asked (held_by m) fresh receiver ab.top ab.second ab.types f m ab.stack (room_on stack.Swap s ab.top (ab.second ∷ []) ab.types ab.further)
        (next_is links w body (insn.Stack stack.Swap) f after m s (record f { stack = ab.second ∷ ab.top ∷ ab.types }) (gives_all body (ab.top ∷ ab.second ∷ []) (record f { stack = ab.types }) after ab.further) refl) at

  stack_row : (operation : StackOperation) → IsRow links w body (insn.Stack operation)
  stack_row stack.Pop = pop_row
  stack_row stack.Pop2 = pop2_row
  stack_row stack.Dup = dup_row
  stack_row stack.DupX1 = dup_x1_row
  stack_row stack.DupX2 = dup_x2_row
  stack_row stack.Dup2 = dup2_row
  stack_row stack.Dup2X1 = dup2_x1_row
  stack_row stack.Dup2X2 = dup2_x2_row
  stack_row stack.Swap = swap_row

  pub rows : WordRows links w body
  rows = record { nop = nop; null = null; constant = constant; load = load_row; store = store_row; increment = increment; stack = stack_row }
