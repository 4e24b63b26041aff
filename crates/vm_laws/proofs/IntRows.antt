-- The rows of operators on ints, of arrays of ints, and of branches.
use Rattle.std.proofs.Common.{◌≡◌, ℕ, ◌+◌, ◌<◌, true, List, [], ◌∷◌, length, refl, sym, subst, ◌∙◌, Option, Some, None, Ok}
use Rattle.std.specs.Prelude.{ℤ, pos, IsSome, slice_get}
use Rattle.std.specs.List.{AllByRecursion}
use Rattle.std.specs.Option.{option_map_or}
use Rattle.cf_insns.specs.declared.insn.ArrayOperation.{ArrayOperation}
use Rattle.cf_insns.specs.declared.insn.ArrayOperation.TheVariants as array
use Rattle.cf_insns.specs.declared.insn.BinaryOperator.{BinaryOperator}
use Rattle.cf_insns.specs.declared.insn.Condition.{Condition}
use Rattle.cf_insns.specs.declared.insn.Equality.{Equality}
use Rattle.cf_insns.specs.declared.insn.UnaryOperator.{UnaryOperator}
use Rattle.cls_link.specs.Links.{Links}
use Rattle.cls_link.specs.declared.linked_code.LinkedInsn.TheVariants as insn
use Rattle.cls_link.specs.declared.linked_code.LinkedSwitch.{LinkedSwitch}
use Rattle.cls_link.specs.declared.linked_code.LinkedSwitch.TheVariants as switch
use Rattle.cls_set.specs.Sets.{IsClassSet}
use Rattle.ver_check.specs.Bodies.{Body}
use Rattle.ver_check.specs.Effects.{array_effect, effect, switch_targets}
use Rattle.ver_check.specs.Steps.{◌>>=◌, give, take}
use Rattle.ver_rules.specs.Wants.{is_wanted}
use Rattle.ver_rules.specs.declared.want.Want.{Want}
use Rattle.ver_rules.specs.declared.want.Want.TheVariants as want
use Rattle.ver_frames.specs.Frames.{Frame}
use Rattle.ver_frames.specs.declared.vtype.VType.{VType}
use Rattle.ver_frames.specs.declared.vtype.VType.TheVariants as vtype
use Rattle.vm_act.specs.Steps.{on_some, with_operands}
use Rattle.vm_act.specs.declared.machine.Machine.{Machine}
use Rattle.vm_code.specs.Act.{is_equal, switch_at, switch_by}
use Rattle.vm_code.specs.Ints.{push_result}
use Rattle.vm_code.specs.Operators.{binary_result, condition_holds, unary_result}
use Rattle.vm_heap.specs.Tagged.{Site}
use Rattle.vm_typing.proofs.Objects as objects
use Rattle.vm_typing.proofs.Words as leads
use Rattle.vm_typing.specs.Fits.{Held, held_by}
use Rattle.vm_typing.specs.Laws.{Leads}
use Rattle.vm_typing.specs.Owed.{Owed}
use Rattle.vm_typing.specs.Typed.{IsAt}
use Rattle.vm_typing.specs.World.{World, Enters}
use Rattle.vm_laws.specs.Rows.{IsRow, IntRows}
use Rattle.vm_laws.proofs.Stands.{fits_asked, lands_is, next_is, room_for}
use Rattle.vm_laws.proofs.Takes.{Checked, gives, in_turn, same_ok, take_last, take_then}
use Rattle.vm_laws.proofs.Wants.{int_wanted, reference_wanted}

-- two operands of what is asked are taken off a frame, and the rest goes on
record TakesBoth {A : Type 0} (body : Body) (asked under : Want) (f : Frame) (k : Frame → Checked A) (y : A) : Type 0 where
  top : VType
  second : VType
  types : List VType
  stack : f.stack ≡ top ∷ second ∷ types
  wanted : is_wanted body.classes asked top ≡ true
  wanted_under : is_wanted body.classes under second ≡ true
  further : k (record f { stack = types }) ≡ Ok y

take_both : {A : Type 0} (body : Body) (asked under : Want) (f : Frame) (k : Frame → Checked A) (y : A) → ((take body asked f >>= take body under) >>= k) ≡ Ok y → TakesBoth body asked under f k y
take_both body asked under f k y e =
    let a = take_then body asked f (λ g. take body under g >>= k) y (sym (in_turn (take body asked f) (take body under) k) ∙ e) in
    let b = take_then body under (record f { stack = a.types }) k y a.further in
    record {
      top = a.top;
      second = b.top;
      types = b.types;
      stack = subst (λ (types : List VType). f.stack ≡ a.top ∷ types) b.stack a.stack;
      wanted = a.wanted;
      wanted_under = b.wanted;
      further = b.further;
    }

take_both_last : (body : Body) (asked under : Want) (f y : Frame) → (take body asked f >>= take body under) ≡ Ok y → TakesBoth body asked under f (λ g. Ok g) y
take_both_last body asked under f y e =
    let a = take_then body asked f (take body under) y e in
    let b = take_last body under (record f { stack = a.types }) y a.further in
    record {
      top = a.top;
      second = b.top;
      types = b.types;
      stack = subst (λ (types : List VType). f.stack ≡ a.top ∷ types) b.stack a.stack;
      wanted = a.wanted;
      wanted_under = b.wanted;
      further = b.further;
    }

module _ (links : Links) (w : World) (owed : Owed w) (set : IsClassSet w.classes) (body : Body) where
  int_on : (f : Frame) (t : VType) (types : List VType) → is_wanted body.classes want.Int t ≡ true → f.stack ≡ t ∷ types → f.stack ≡ vtype.Int ∷ types
  int_on f t types wanted stack = subst (λ (u : VType). f.stack ≡ u ∷ types) (int_wanted body.classes t wanted) stack

  int_over : (f : Frame) (t u : VType) (types : List VType) → is_wanted body.classes want.Int t ≡ true → f.stack ≡ t ∷ u ∷ types → f.stack ≡ vtype.Int ∷ u ∷ types
  int_over f t u types wanted stack = int_on f t (u ∷ types) wanted stack

  ints_on : (f : Frame) (t u : VType) (types : List VType) → is_wanted body.classes want.Int t ≡ true → is_wanted body.classes want.Int u ≡ true → f.stack ≡ t ∷ u ∷ types
      → f.stack ≡ vtype.Int ∷ vtype.Int ∷ types
  ints_on f t u types first second stack =
      subst (λ (v : VType). f.stack ≡ vtype.Int ∷ v ∷ types) (int_wanted body.classes u second) (int_over f t u types first stack)

  unary : (operator : UnaryOperator) → IsRow links w body (insn.Unary operator)
  unfolding effect
  unary operator asked fresh receiver f after m s at =
      let a = take_then body want.Int f (give body vtype.Int) after s.effect in
      let given = gives body vtype.Int (record f { stack = a.types }) after a.further in
      leads.unary-leads w owed asked (held_by m) fresh receiver (λ n. unary_result operator n) a.types f m (int_on f a.top a.types a.wanted a.stack)
      (room_for links w body (insn.Unary operator) f after m s (length a.types) given.0)
      (next_is links w body (insn.Unary operator) f after m s (record f { stack = vtype.Int ∷ a.types }) given.1 refl) at

  -- an operator whose result there may be none of
  result_leads : (asked : Option VType) (held : Held) (fresh : ℕ → Site) (receiver : Site) (types : List VType) (f : Frame) (m : Machine) → length types < (w.method m.stack.frame.method).max_stack
      → Enters w m.stack.frame.method (m.stack.frame.index + 1) (record f { stack = vtype.Int ∷ types }) → (o : Option ℤ)
      → IsAt w asked fresh receiver (record f { stack = types }) m → Leads w asked held (push_result o m)
  result_leads asked held fresh receiver types f m room enters None at = tt
  result_leads asked held fresh receiver types f m room enters (Some n) at = leads.int_pushed-leads w owed asked held fresh receiver n types f m room enters at

  binary : (operator : BinaryOperator) → IsRow links w body (insn.Binary operator)
  unfolding effect
  binary operator asked fresh receiver f after m s at =
      let ab = take_both body want.Int want.Int f (give body vtype.Int) after s.effect in
      let given = gives body vtype.Int (record f { stack = ab.types }) after ab.further in
      leads.two_ints-leads w owed asked (held_by m) fresh receiver (λ right left. push_result (binary_result operator left right)) ab.types f m
      (ints_on f ab.top ab.second ab.types ab.wanted ab.wanted_under ab.stack) at
      (λ right left below all. result_leads asked (held_by m) fresh receiver ab.types f (with_operands below m)
      (room_for links w body (insn.Binary operator) f after m s (length ab.types) given.0)
      (next_is links w body (insn.Binary operator) f after m s (record f { stack = vtype.Int ∷ ab.types }) given.1 refl) (binary_result operator left right) all)

  array_row : (operation : ArrayOperation) → IsRow links w body (insn.Array operation)
  unfolding effect array_effect
  array_row array.New asked fresh receiver f after m s at =
      let a = take_then body want.Int f (give body vtype.IntArray) after s.effect in
      let given = gives body vtype.IntArray (record f { stack = a.types }) after a.further in
      objects.new_array-leads w owed asked (held_by m) fresh receiver a.types f m (int_on f a.top a.types a.wanted a.stack)
      (room_for links w body (insn.Array array.New) f after m s (length a.types) given.0)
      (next_is links w body (insn.Array array.New) f after m s (record f { stack = vtype.IntArray ∷ a.types }) given.1 refl) at
  array_row array.Load asked fresh receiver f after m s at =
      let ab = take_both body want.Int (want.Fits vtype.IntArray) f (give body vtype.Int) after s.effect in
      let given = gives body vtype.Int (record f { stack = ab.types }) after ab.further in
      objects.array_load-leads w owed asked (held_by m) fresh receiver ab.second ab.types f m (int_over f ab.top ab.second ab.types ab.wanted ab.stack)
      (fits_asked links w body (insn.Array array.Load) f after m s set vtype.IntArray ab.second ab.wanted_under)
      (room_for links w body (insn.Array array.Load) f after m s (length ab.types) given.0)
      (next_is links w body (insn.Array array.Load) f after m s (record f { stack = vtype.Int ∷ ab.types }) given.1 refl) at
  array_row array.Store asked fresh receiver f after m s at =
      let a = take_then body want.Int f (λ g. take body want.Int g >>= take body (want.Fits vtype.IntArray)) after
      (sym (in_turn (take body want.Int f) (take body want.Int) (take body (want.Fits vtype.IntArray))) ∙ s.effect) in
      let bc = take_both_last body want.Int (want.Fits vtype.IntArray) (record f { stack = a.types }) after a.further in
      let under : a.types ≡ vtype.Int ∷ bc.second ∷ bc.types = int_over (record f { stack = a.types }) bc.top bc.second bc.types bc.wanted bc.stack in
      objects.array_store-leads w owed asked (held_by m) fresh receiver bc.second bc.types f m
      (subst (λ (types : List VType). f.stack ≡ vtype.Int ∷ types) under (int_on f a.top a.types a.wanted a.stack))
      (fits_asked links w body (insn.Array array.Store) f after m s set vtype.IntArray bc.second bc.wanted_under)
      (next_is links w body (insn.Array array.Store) f after m s (record f { stack = bc.types }) (same_ok bc.further) refl) at
  array_row array.Length asked fresh receiver f after m s at =
      let a = take_then body (want.Fits vtype.IntArray) f (give body vtype.Int) after s.effect in
      let given = gives body vtype.Int (record f { stack = a.types }) after a.further in
      objects.array_length-leads w owed asked (held_by m) fresh receiver a.top a.types f m a.stack
      (fits_asked links w body (insn.Array array.Length) f after m s set vtype.IntArray a.top a.wanted)
      (room_for links w body (insn.Array array.Length) f after m s (length a.types) given.0)
      (next_is links w body (insn.Array array.Length) f after m s (record f { stack = vtype.Int ∷ a.types }) given.1 refl) at

  -- ---- branches

  if_zero : (condition : Condition) (target : ℕ) → IsRow links w body (insn.If condition target)
  unfolding effect
  if_zero condition target asked fresh receiver f after m s at =
      let a = take_last body want.Int f after s.effect in
      leads.if_int-leads w owed asked (held_by m) fresh receiver (λ n. condition_holds condition n (pos 0)) target a.types f m (int_on f a.top a.types a.wanted a.stack)
      (next_is links w body (insn.If condition target) f after m s (record f { stack = a.types }) (same_ok a.further) refl)
      (lands_is links w body (insn.If condition target) f after m s (record f { stack = a.types }) (same_ok a.further)).0 at

  if_compare : (condition : Condition) (target : ℕ) → IsRow links w body (insn.IfCompare condition target)
  unfolding effect
  if_compare condition target asked fresh receiver f after m s at =
      let ab = take_both_last body want.Int want.Int f after s.effect in
      leads.if_ints-leads w owed asked (held_by m) fresh receiver (λ left right. condition_holds condition left right) target ab.types f m
      (ints_on f ab.top ab.second ab.types ab.wanted ab.wanted_under ab.stack)
      (next_is links w body (insn.IfCompare condition target) f after m s (record f { stack = ab.types }) (same_ok ab.further) refl)
      (lands_is links w body (insn.IfCompare condition target) f after m s (record f { stack = ab.types }) (same_ok ab.further)).0 at

  if_same : (equality : Equality) (target : ℕ) → IsRow links w body (insn.IfSame equality target)
  unfolding effect
  if_same equality target asked fresh receiver f after m s at =
      let ab = take_both_last body want.Reference want.Reference f after s.effect in
      leads.if_same-leads w owed asked (held_by m) fresh receiver (is_equal equality) target ab.top ab.second ab.types f m ab.stack
      (reference_wanted body.classes ab.top ab.wanted) (reference_wanted body.classes ab.second ab.wanted_under)
      (next_is links w body (insn.IfSame equality target) f after m s (record f { stack = ab.types }) (same_ok ab.further) refl)
      (lands_is links w body (insn.IfSame equality target) f after m s (record f { stack = ab.types }) (same_ok ab.further)).0 at

  if_null : (equality : Equality) (target : ℕ) → IsRow links w body (insn.IfNull equality target)
  unfolding effect
  if_null equality target asked fresh receiver f after m s at =
      let a = take_last body want.Reference f after s.effect in
      leads.if_null-leads w owed asked (held_by m) fresh receiver (is_equal equality) target a.top a.types f m a.stack (reference_wanted body.classes a.top a.wanted)
      (next_is links w body (insn.IfNull equality target) f after m s (record f { stack = a.types }) (same_ok a.further) refl)
      (lands_is links w body (insn.IfNull equality target) f after m s (record f { stack = a.types }) (same_ok a.further)).0 at

  goto : (target : ℕ) → IsRow links w body (insn.Goto target)
  unfolding effect
  goto target asked fresh receiver f after m s at =
      leads.jump_to-leads w owed asked (held_by m) fresh receiver target f m (lands_is links w body (insn.Goto target) f after m s f (same_ok s.effect)).0 at

  switch_row : (index : ℕ) → IsRow links w body (insn.Switch index)
  unfolding effect
  switch_row index asked fresh receiver f after m s at =
      let a = take_last body want.Int f after s.effect in
      on (slice_get body.switches index) refl s.names a.types (int_on f a.top a.types a.wanted a.stack)
      (lands_is links w body (insn.Switch index) f after m s (record f { stack = a.types }) (same_ok a.further))
    where
      by : (types : List VType) → f.stack ≡ vtype.Int ∷ types → (case : LinkedSwitch)
          → AllByRecursion (λ to. Enters w m.stack.frame.method to (record f { stack = types })) (switch_targets case) → Leads w asked (held_by m) (switch_by case m)
      by types stack (switch.Table default low targets) lands = leads.table_switch-leads w owed asked (held_by m) fresh receiver default low targets types f m stack lands at
      by types stack (switch.Lookup default keys targets) lands = leads.lookup_switch-leads w owed asked (held_by m) fresh receiver default keys targets types f m stack lands at

      on : (o : Option LinkedSwitch) → slice_get body.switches index ≡ o → IsSome o → (types : List VType) → f.stack ≡ vtype.Int ∷ types
          → AllByRecursion (λ to. Enters w m.stack.frame.method to (record f { stack = types })) (option_map_or switch_targets (slice_get body.switches index) [])
          → Leads w asked (held_by m) (on_some (λ case. switch_by case m) (switch_at links m.stack.frame.method index))
      on None is some types stack lands = absurd (cc)
      on (Some case) is some types stack lands =
          subst (λ (o : Option LinkedSwitch). Leads w asked (held_by m) (on_some (λ case. switch_by case m) o)) (sym (s.body_of.switches index ∙ is))
          (by types stack case (subst (λ (o : Option LinkedSwitch). AllByRecursion (λ to. Enters w m.stack.frame.method to (record f { stack = types })) (option_map_or switch_targets o [])) is lands))

  pub rows : IntRows links w body
  rows = record {
    unary = unary;
    binary = binary;
    array = array_row;
    if_zero = if_zero;
    if_compare = if_compare;
    if_same = if_same;
    if_null = if_null;
    goto = goto;
    switch = switch_row;
  }
