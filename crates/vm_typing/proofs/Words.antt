-- Local variables, operands, branches and switches: what they lead to is not stuck and fits.
use Rattle.std.proofs.Common.{◌≡◌, ℕ, zero, suc, ◌+◌, ◌<◌, Bool, List, [], ◌∷◌, length, refl, arith, Option, Some, None}
use Rattle.std.specs.Prelude.{ℤ, pos, negsuc, ◌-ℤ◌, get_or, slice_get, slice_set}
use Rattle.std.specs.Int.{int_wrapping_add}
use Rattle.std.specs.List.{AllByRecursion}
use mir.Syntax.{w32}
use Rattle.ver_frames.specs.Frames.{Frame}
use Rattle.ver_frames.specs.declared.vtype.VType.{VType}
use Rattle.ver_frames.specs.declared.vtype.VType.TheVariants as vtype
use Rattle.vm_heap.specs.declared.word.Pointer.TheVariants as pointer
use Rattle.vm_heap.specs.Tagged.{Tagged, Site, Int, Null}
use Rattle.vm_heap.specs.declared.heap.WordKind.{WordKind}
use Rattle.vm_heap.specs.declared.heap.WordKind.TheVariants as kind
use Rattle.vm_act.specs.Next.{Next}
use Rattle.vm_act.specs.Steps.{pop_int, pop, pop_reference, push, store, go_on, jump, branch, with_operands}
use Rattle.vm_act.specs.Words.{constant, null, load, store_top, increment, pop_one, pop_two, dup, dup_x1, dup_x2, dup2, dup2_x1, dup2_x2, swap, is_wanted, are_same, if_same, if_null}
use Rattle.vm_act.specs.Switches.{target_at, table_target, table_switch, case_of, case_target, lookup_target, lookup_switch}
use Rattle.vm_act.specs.declared.machine.Machine.{Machine}
use Rattle.vm_typing.specs.World.{World, Enters}
use Rattle.vm_typing.specs.Fits.{Held}
use Rattle.vm_typing.specs.Typed.{IsAt, IsTyped}
use Rattle.vm_typing.specs.Owed.{Owed, Moves}
use Rattle.vm_typing.specs.Leads.{LeadsTo}
use Rattle.vm_typing.proofs.Leads.{pop-leads, pop_kind-leads, pop_int-leads, pop_reference-leads, push-leads, load-leads, load_int-leads, store-leads, rewrite-leads, jump-leads, go_on-leads, branch-leads}

-- one of the targets, or the default one
target_of : {A : Type 0} (P : A → Type 0) (default : A) (targets : List A) (n : ℕ) → AllByRecursion P (default ∷ targets) → P (get_or targets n default)
target_of P default [] n all = all.0
target_of P default (t ∷ targets) zero all = all.1.0
target_of P default (t ∷ targets) (suc n) all = target_of P default targets n (all.0, all.1.1)

table_one : (P : ℕ → Type 0) (default : ℕ) (targets : List ℕ) (distance : ℤ) → AllByRecursion P (default ∷ targets) → P (target_at default targets distance)
table_one P default targets (pos n) all = target_of P default targets n all
table_one P default targets (negsuc n) all = all.0

case_one : (P : ℕ → Type 0) (default : ℕ) (targets : List ℕ) (case : Option ℕ) → AllByRecursion P (default ∷ targets) → P (case_target default targets case)
case_one P default targets None all = all.0
case_one P default targets (Some case) all = target_of P default targets case all

module _ (w : World) (owed : Owed w) (asked : Option VType) (held : Held) (fresh : ℕ → Site) (receiver : Site) where
  abbrev Typed : Machine → Type 0
  Typed = IsTyped w asked

  abbrev Leads : Next → Type 0
  Leads = LeadsTo w asked held Typed

  abbrev Here : Frame → Machine → Type 0
  Here = IsAt w asked fresh receiver

  -- the next instruction is one at which a frame with these operands comes in
  abbrev GoesOn : Machine → Frame → List VType → Type 0
  GoesOn m f types = Enters w m.stack.frame.method (m.stack.frame.index + 1) (record f { stack = types })

  pub constant-leads : (n : ℤ) (f : Frame) (m : Machine) → length f.stack < (w.method m.stack.frame.method).max_stack → GoesOn m f (vtype.Int ∷ f.stack) → Here f m → Leads (constant n m)
  constant-leads n f m room enters at =
      push-leads w owed asked held fresh receiver Typed (Int n) go_on vtype.Int f m room at tt (λ all. go_on-leads w owed asked held fresh receiver _ _ enters all)

  pub null-leads : (f : Frame) (m : Machine) → length f.stack < (w.method m.stack.frame.method).max_stack → GoesOn m f (vtype.Null ∷ f.stack) → Here f m → Leads (null m)
  null-leads f m room enters at =
      push-leads w owed asked held fresh receiver Typed Null go_on vtype.Null f m room at tt (λ all. go_on-leads w owed asked held fresh receiver _ _ enters all)

  pub load_local-leads : (moved : WordKind) (n : ℕ) (t : VType) (f : Frame) (m : Machine) → slice_get f.locals n ≡ Some t → Moves moved t
      → length f.stack < (w.method m.stack.frame.method).max_stack → GoesOn m f (t ∷ f.stack) → Here f m → Leads (load moved n m)
  load_local-leads moved n t f m e moves room enters at =
      load-leads w owed asked held fresh receiver Typed moved (λ v. push v go_on m) n t f m e moves at
      (λ v fit. push-leads w owed asked held fresh receiver Typed v go_on t f m room at fit (λ all. go_on-leads w owed asked held fresh receiver _ _ enters all))

  pub store_top-leads : (moved : WordKind) (n : ℕ) (t : VType) (types : List VType) (f : Frame) (m : Machine) → f.stack ≡ t ∷ types → Moves moved t → n < length f.locals
      → Enters w m.stack.frame.method (m.stack.frame.index + 1) (record f { locals = slice_set f.locals n t; stack = types }) → Here f m → Leads (store_top moved n m)
  store_top-leads moved n t types f m e moves within enters at =
      pop_kind-leads w owed asked held fresh receiver Typed moved (λ v. store n v go_on) f t types m e moves at
      (λ v below fit all. store-leads w owed asked held fresh receiver Typed n v go_on t (record f { stack = types }) (with_operands below m) within all fit
      (λ last. go_on-leads w owed asked held fresh receiver _ _ enters last))

  pub increment-leads : (n : ℕ) (by : ℤ) (f : Frame) (m : Machine) → slice_get f.locals n ≡ Some vtype.Int
      → Enters w m.stack.frame.method (m.stack.frame.index + 1) f → Here f m → Leads (increment n by m)
  increment-leads n by f m e enters at =
      load_int-leads w owed asked held fresh receiver Typed (λ z. store n (Int (int_wrapping_add w32 z by)) go_on m) n f m e at
      (λ z. rewrite-leads w owed asked held fresh receiver Typed n (Int (int_wrapping_add w32 z by)) go_on vtype.Int f m e at tt
      (λ all. go_on-leads w owed asked held fresh receiver f _ enters all))

  pub pop_one-leads : (a : VType) (types : List VType) (f : Frame) (m : Machine) → f.stack ≡ a ∷ types → GoesOn m f types → Here f m → Leads (pop_one m)
  pop_one-leads a types f m e enters at =
      pop-leads w owed asked held fresh receiver Typed (λ v. go_on) f a types m e at (λ v below fit all. go_on-leads w owed asked held fresh receiver _ _ enters all)

  pub pop_two-leads : (a b : VType) (types : List VType) (f : Frame) (m : Machine) → f.stack ≡ a ∷ b ∷ types → GoesOn m f types → Here f m → Leads (pop_two m)
  pop_two-leads a b types f m e enters at =
      pop-leads w owed asked held fresh receiver Typed (λ v. pop (λ u. go_on)) f a (b ∷ types) m e at
      (λ v below1 fit1 all1. pop-leads w owed asked held fresh receiver Typed (λ u. go_on) (record f { stack = b ∷ types }) b types (with_operands below1 m) refl all1
      (λ u below fit all. go_on-leads w owed asked held fresh receiver _ _ enters all))

  pub dup-leads : (a : VType) (types : List VType) (f : Frame) (m : Machine) → f.stack ≡ a ∷ types → length types + 1 < (w.method m.stack.frame.method).max_stack
      → GoesOn m f (a ∷ a ∷ types) → Here f m → Leads (dup m)
  dup-leads a types f m e room enters at =
      pop-leads w owed asked held fresh receiver Typed (λ v. push v (push v go_on)) f a types m e at
      (λ v below fit all. push-leads w owed asked held fresh receiver Typed v (push v go_on) a (record f { stack = types }) (with_operands below m) (omega arith) all fit
      (λ all1. push-leads w owed asked held fresh receiver Typed v go_on a (record f { stack = a ∷ types }) _ (omega arith) all1 fit
      (λ last. go_on-leads w owed asked held fresh receiver _ _ enters last)))

  pub dup_x1-leads : (a b : VType) (types : List VType) (f : Frame) (m : Machine) → f.stack ≡ a ∷ b ∷ types → length types + 2 < (w.method m.stack.frame.method).max_stack
      → GoesOn m f (a ∷ b ∷ a ∷ types) → Here f m → Leads (dup_x1 m)
  dup_x1-leads a b types f m e room enters at =
      pop-leads w owed asked held fresh receiver Typed (λ v1. pop (λ v2. push v1 (push v2 (push v1 go_on)))) f a (b ∷ types) m e at
      (λ v1 below1 fit1 all1. pop-leads w owed asked held fresh receiver Typed (λ v2. push v1 (push v2 (push v1 go_on))) (record f { stack = b ∷ types }) b types (with_operands below1 m) refl all1
      (λ v2 below2 fit2 all2. push-leads w owed asked held fresh receiver Typed v1 (push v2 (push v1 go_on)) a (record f { stack = types }) (with_operands below2 m) (omega arith) all2 fit1
      (λ put1. push-leads w owed asked held fresh receiver Typed v2 (push v1 go_on) b (record f { stack = a ∷ types }) _ (omega arith) put1 fit2
      (λ put2. push-leads w owed asked held fresh receiver Typed v1 go_on a (record f { stack = b ∷ a ∷ types }) _ (omega arith) put2 fit1
      (λ put3. go_on-leads w owed asked held fresh receiver _ _ enters put3)))))

  pub dup_x2-leads : (a b c : VType) (types : List VType) (f : Frame) (m : Machine) → f.stack ≡ a ∷ b ∷ c ∷ types → length types + 3 < (w.method m.stack.frame.method).max_stack
      → GoesOn m f (a ∷ b ∷ c ∷ a ∷ types) → Here f m → Leads (dup_x2 m)
  dup_x2-leads a b c types f m e room enters at =
      pop-leads w owed asked held fresh receiver Typed (λ v1. pop (λ v2. pop (λ v3. push v1 (push v3 (push v2 (push v1 go_on)))))) f a (b ∷ c ∷ types) m e at
      (λ v1 below1 fit1 all1. pop-leads w owed asked held fresh receiver Typed (λ v2. pop (λ v3. push v1 (push v3 (push v2 (push v1 go_on))))) (record f { stack = b ∷ c ∷ types }) b (c ∷ types) (with_operands below1 m) refl all1
      (λ v2 below2 fit2 all2. pop-leads w owed asked held fresh receiver Typed (λ v3. push v1 (push v3 (push v2 (push v1 go_on)))) (record f { stack = c ∷ types }) c types (with_operands below2 m) refl all2
      (λ v3 below3 fit3 all3. push-leads w owed asked held fresh receiver Typed v1 (push v3 (push v2 (push v1 go_on))) a (record f { stack = types }) (with_operands below3 m) (omega arith) all3 fit1
      (λ put1. push-leads w owed asked held fresh receiver Typed v3 (push v2 (push v1 go_on)) c (record f { stack = a ∷ types }) _ (omega arith) put1 fit3
      (λ put2. push-leads w owed asked held fresh receiver Typed v2 (push v1 go_on) b (record f { stack = c ∷ a ∷ types }) _ (omega arith) put2 fit2
      (λ put3. push-leads w owed asked held fresh receiver Typed v1 go_on a (record f { stack = b ∷ c ∷ a ∷ types }) _ (omega arith) put3 fit1
      (λ put4. go_on-leads w owed asked held fresh receiver _ _ enters put4)))))))

  pub dup2-leads : (a b : VType) (types : List VType) (f : Frame) (m : Machine) → f.stack ≡ a ∷ b ∷ types → length types + 3 < (w.method m.stack.frame.method).max_stack
      → GoesOn m f (a ∷ b ∷ a ∷ b ∷ types) → Here f m → Leads (dup2 m)
  dup2-leads a b types f m e room enters at =
      pop-leads w owed asked held fresh receiver Typed (λ v1. pop (λ v2. push v2 (push v1 (push v2 (push v1 go_on))))) f a (b ∷ types) m e at
      (λ v1 below1 fit1 all1. pop-leads w owed asked held fresh receiver Typed (λ v2. push v2 (push v1 (push v2 (push v1 go_on)))) (record f { stack = b ∷ types }) b types (with_operands below1 m) refl all1
      (λ v2 below2 fit2 all2. push-leads w owed asked held fresh receiver Typed v2 (push v1 (push v2 (push v1 go_on))) b (record f { stack = types }) (with_operands below2 m) (omega arith) all2 fit2
      (λ put1. push-leads w owed asked held fresh receiver Typed v1 (push v2 (push v1 go_on)) a (record f { stack = b ∷ types }) _ (omega arith) put1 fit1
      (λ put2. push-leads w owed asked held fresh receiver Typed v2 (push v1 go_on) b (record f { stack = a ∷ b ∷ types }) _ (omega arith) put2 fit2
      (λ put3. push-leads w owed asked held fresh receiver Typed v1 go_on a (record f { stack = b ∷ a ∷ b ∷ types }) _ (omega arith) put3 fit1
      (λ put4. go_on-leads w owed asked held fresh receiver _ _ enters put4))))))

  pub dup2_x1-leads : (a b c : VType) (types : List VType) (f : Frame) (m : Machine) → f.stack ≡ a ∷ b ∷ c ∷ types → length types + 4 < (w.method m.stack.frame.method).max_stack
      → GoesOn m f (a ∷ b ∷ c ∷ a ∷ b ∷ types) → Here f m → Leads (dup2_x1 m)
  dup2_x1-leads a b c types f m e room enters at =
      pop-leads w owed asked held fresh receiver Typed (λ v1. pop (λ v2. pop (λ v3. push v2 (push v1 (push v3 (push v2 (push v1 go_on))))))) f a (b ∷ c ∷ types) m e at
      (λ v1 below1 fit1 all1. pop-leads w owed asked held fresh receiver Typed (λ v2. pop (λ v3. push v2 (push v1 (push v3 (push v2 (push v1 go_on)))))) (record f { stack = b ∷ c ∷ types }) b (c ∷ types) (with_operands below1 m) refl all1
      (λ v2 below2 fit2 all2. pop-leads w owed asked held fresh receiver Typed (λ v3. push v2 (push v1 (push v3 (push v2 (push v1 go_on))))) (record f { stack = c ∷ types }) c types (with_operands below2 m) refl all2
      (λ v3 below3 fit3 all3. push-leads w owed asked held fresh receiver Typed v2 (push v1 (push v3 (push v2 (push v1 go_on)))) b (record f { stack = types }) (with_operands below3 m) (omega arith) all3 fit2
      (λ put1. push-leads w owed asked held fresh receiver Typed v1 (push v3 (push v2 (push v1 go_on))) a (record f { stack = b ∷ types }) _ (omega arith) put1 fit1
      (λ put2. push-leads w owed asked held fresh receiver Typed v3 (push v2 (push v1 go_on)) c (record f { stack = a ∷ b ∷ types }) _ (omega arith) put2 fit3
      (λ put3. push-leads w owed asked held fresh receiver Typed v2 (push v1 go_on) b (record f { stack = c ∷ a ∷ b ∷ types }) _ (omega arith) put3 fit2
      (λ put4. push-leads w owed asked held fresh receiver Typed v1 go_on a (record f { stack = b ∷ c ∷ a ∷ b ∷ types }) _ (omega arith) put4 fit1
      (λ put5. go_on-leads w owed asked held fresh receiver _ _ enters put5))))))))

  pub dup2_x2-leads : (a b c d : VType) (types : List VType) (f : Frame) (m : Machine) → f.stack ≡ a ∷ b ∷ c ∷ d ∷ types → length types + 5 < (w.method m.stack.frame.method).max_stack
      → GoesOn m f (a ∷ b ∷ c ∷ d ∷ a ∷ b ∷ types) → Here f m → Leads (dup2_x2 m)
  dup2_x2-leads a b c d types f m e room enters at =
      pop-leads w owed asked held fresh receiver Typed (λ v1. pop (λ v2. pop (λ v3. pop (λ v4. push v2 (push v1 (push v4 (push v3 (push v2 (push v1 go_on))))))))) f a (b ∷ c ∷ d ∷ types) m e at
      (λ v1 below1 fit1 all1. pop-leads w owed asked held fresh receiver Typed (λ v2. pop (λ v3. pop (λ v4. push v2 (push v1 (push v4 (push v3 (push v2 (push v1 go_on)))))))) (record f { stack = b ∷ c ∷ d ∷ types }) b (c ∷ d ∷ types) (with_operands below1 m) refl all1
      (λ v2 below2 fit2 all2. pop-leads w owed asked held fresh receiver Typed (λ v3. pop (λ v4. push v2 (push v1 (push v4 (push v3 (push v2 (push v1 go_on))))))) (record f { stack = c ∷ d ∷ types }) c (d ∷ types) (with_operands below2 m) refl all2
      (λ v3 below3 fit3 all3. pop-leads w owed asked held fresh receiver Typed (λ v4. push v2 (push v1 (push v4 (push v3 (push v2 (push v1 go_on)))))) (record f { stack = d ∷ types }) d types (with_operands below3 m) refl all3
      (λ v4 below4 fit4 all4. push-leads w owed asked held fresh receiver Typed v2 (push v1 (push v4 (push v3 (push v2 (push v1 go_on))))) b (record f { stack = types }) (with_operands below4 m) (omega arith) all4 fit2
      (λ put1. push-leads w owed asked held fresh receiver Typed v1 (push v4 (push v3 (push v2 (push v1 go_on)))) a (record f { stack = b ∷ types }) _ (omega arith) put1 fit1
      (λ put2. push-leads w owed asked held fresh receiver Typed v4 (push v3 (push v2 (push v1 go_on))) d (record f { stack = a ∷ b ∷ types }) _ (omega arith) put2 fit4
      (λ put3. push-leads w owed asked held fresh receiver Typed v3 (push v2 (push v1 go_on)) c (record f { stack = d ∷ a ∷ b ∷ types }) _ (omega arith) put3 fit3
      (λ put4. push-leads w owed asked held fresh receiver Typed v2 (push v1 go_on) b (record f { stack = c ∷ d ∷ a ∷ b ∷ types }) _ (omega arith) put4 fit2
      (λ put5. push-leads w owed asked held fresh receiver Typed v1 go_on a (record f { stack = b ∷ c ∷ d ∷ a ∷ b ∷ types }) _ (omega arith) put5 fit1
      (λ put6. go_on-leads w owed asked held fresh receiver _ _ enters put6))))))))))

  pub swap-leads : (a b : VType) (types : List VType) (f : Frame) (m : Machine) → f.stack ≡ a ∷ b ∷ types → length types + 1 < (w.method m.stack.frame.method).max_stack
      → GoesOn m f (b ∷ a ∷ types) → Here f m → Leads (swap m)
  swap-leads a b types f m e room enters at =
      pop-leads w owed asked held fresh receiver Typed (λ v. pop (λ u. push v (push u go_on))) f a (b ∷ types) m e at
      (λ v below1 fit1 all1. pop-leads w owed asked held fresh receiver Typed (λ u. push v (push u go_on)) (record f { stack = b ∷ types }) b types (with_operands below1 m) refl all1
      (λ u below fit2 all. push-leads w owed asked held fresh receiver Typed v (push u go_on) a (record f { stack = types }) (with_operands below m) (omega arith) all fit1
      (λ all2. push-leads w owed asked held fresh receiver Typed u go_on b (record f { stack = a ∷ types }) _ (omega arith) all2 fit2
      (λ last. go_on-leads w owed asked held fresh receiver _ _ enters last))))

  pub if_same-leads : (equal : Bool) (target : ℕ) (a b : VType) (types : List VType) (f : Frame) (m : Machine) → f.stack ≡ a ∷ b ∷ types → Moves kind.Reference a → Moves kind.Reference b
      → GoesOn m f types → Enters w m.stack.frame.method target (record f { stack = types }) → Here f m → Leads (if_same equal target m)
  if_same-leads equal target a b types f m e of_a of_b enters lands at =
      pop_reference-leads w owed asked held fresh receiver Typed (λ right. pop_reference (λ left. branch (is_wanted equal (are_same left right)) target)) f a (b ∷ types) m e of_a at
      (λ right below1 all1. pop_reference-leads w owed asked held fresh receiver Typed (λ left. branch (is_wanted equal (are_same left right)) target) (record f { stack = b ∷ types }) b types
      (with_operands below1 m) refl of_b all1
      (λ left below all. branch-leads w owed asked held fresh receiver (record f { stack = types }) (with_operands below m) (is_wanted equal (are_same left right)) target enters lands all))

  pub if_null-leads : (wanted : Bool) (target : ℕ) (a : VType) (types : List VType) (f : Frame) (m : Machine) → f.stack ≡ a ∷ types → Moves kind.Reference a
      → GoesOn m f types → Enters w m.stack.frame.method target (record f { stack = types }) → Here f m → Leads (if_null wanted target m)
  if_null-leads wanted target a types f m e of_a enters lands at =
      pop_reference-leads w owed asked held fresh receiver Typed (λ address. branch (is_wanted wanted (are_same address pointer.Null)) target) f a types m e of_a at
      (λ address below all. branch-leads w owed asked held fresh receiver (record f { stack = types }) (with_operands below m) (is_wanted wanted (are_same address pointer.Null)) target enters lands all)

  -- two ints on top, and what is made of them: the operators on ints and the comparisons
  pub two_ints-leads : (next : ℤ → ℤ → Machine → Next) (types : List VType) (f : Frame) (m : Machine) → f.stack ≡ vtype.Int ∷ vtype.Int ∷ types → Here f m
      → ((right left : ℤ) (below : List Tagged) → Here (record f { stack = types }) (with_operands below m) → Leads (next right left (with_operands below m)))
      → Leads (pop_int (λ right. pop_int (λ left. next right left)) m)
  two_ints-leads next types f m e at go =
      pop_int-leads w owed asked held fresh receiver Typed (λ right. pop_int (λ left. next right left)) f (vtype.Int ∷ types) m e at
      (λ right below1 all1. pop_int-leads w owed asked held fresh receiver Typed (λ left. next right left) (record f { stack = vtype.Int ∷ types }) types (with_operands below1 m) refl all1
      (λ left below all. go right left below all))

  -- an int is pushed instead of what was taken
  pub int_pushed-leads : (n : ℤ) (types : List VType) (f : Frame) (m : Machine) → length types < (w.method m.stack.frame.method).max_stack → GoesOn m f (vtype.Int ∷ types)
      → Here (record f { stack = types }) m → Leads (push (Int n) go_on m)
  int_pushed-leads n types f m room enters at =
      push-leads w owed asked held fresh receiver Typed (Int n) go_on vtype.Int (record f { stack = types }) m room at tt (λ all. go_on-leads w owed asked held fresh receiver _ _ enters all)

  -- an operator on two ints that has a result for all of them
  pub binary-leads : (result : ℤ → ℤ → ℤ) (types : List VType) (f : Frame) (m : Machine) → f.stack ≡ vtype.Int ∷ vtype.Int ∷ types
      → length types < (w.method m.stack.frame.method).max_stack → GoesOn m f (vtype.Int ∷ types) → Here f m
      → Leads (pop_int (λ right. pop_int (λ left. push (Int (result left right)) go_on)) m)
  binary-leads result types f m e room enters at =
      two_ints-leads (λ right left. push (Int (result left right)) go_on) types f m e at
      (λ right left below all. int_pushed-leads (result left right) types f (with_operands below m) room enters all)

  -- an operator on one int
  pub unary-leads : (result : ℤ → ℤ) (types : List VType) (f : Frame) (m : Machine) → f.stack ≡ vtype.Int ∷ types
      → length types < (w.method m.stack.frame.method).max_stack → GoesOn m f (vtype.Int ∷ types) → Here f m → Leads (pop_int (λ n. push (Int (result n)) go_on) m)
  unary-leads result types f m e room enters at =
      pop_int-leads w owed asked held fresh receiver Typed (λ n. push (Int (result n)) go_on) f types m e at
      (λ n below all. int_pushed-leads (result n) types f (with_operands below m) room enters all)

  -- a branch by a test of one int
  pub if_int-leads : (holds : ℤ → Bool) (target : ℕ) (types : List VType) (f : Frame) (m : Machine) → f.stack ≡ vtype.Int ∷ types
      → GoesOn m f types → Enters w m.stack.frame.method target (record f { stack = types }) → Here f m → Leads (pop_int (λ n. branch (holds n) target) m)
  if_int-leads holds target types f m e enters lands at =
      pop_int-leads w owed asked held fresh receiver Typed (λ n. branch (holds n) target) f types m e at
      (λ n below all. branch-leads w owed asked held fresh receiver (record f { stack = types }) (with_operands below m) (holds n) target enters lands all)

  -- a branch by a test of two ints
  pub if_ints-leads : (holds : ℤ → ℤ → Bool) (target : ℕ) (types : List VType) (f : Frame) (m : Machine) → f.stack ≡ vtype.Int ∷ vtype.Int ∷ types
      → GoesOn m f types → Enters w m.stack.frame.method target (record f { stack = types }) → Here f m
      → Leads (pop_int (λ right. pop_int (λ left. branch (holds left right) target)) m)
  if_ints-leads holds target types f m e enters lands at =
      two_ints-leads (λ right left. branch (holds left right) target) types f m e at
      (λ right left below all. branch-leads w owed asked held fresh receiver (record f { stack = types }) (with_operands below m) (holds left right) target enters lands all)

  -- goto
  pub jump_to-leads : (target : ℕ) (f : Frame) (m : Machine) → Enters w m.stack.frame.method target f → Here f m → Leads (jump target m)
  jump_to-leads target f m lands at = jump-leads w owed asked held fresh receiver f m target lands at

  -- nop
  pub next-leads : (f : Frame) (m : Machine) → Enters w m.stack.frame.method (m.stack.frame.index + 1) f → Here f m → Leads (go_on m)
  next-leads f m enters at = go_on-leads w owed asked held fresh receiver f m enters at

  pub table_switch-leads : (default : ℕ) (low : ℤ) (targets : List ℕ) (types : List VType) (f : Frame) (m : Machine) → f.stack ≡ vtype.Int ∷ types
      → AllByRecursion (λ to. Enters w m.stack.frame.method to (record f { stack = types })) (default ∷ targets) → Here f m → Leads (table_switch default low targets m)
  table_switch-leads default low targets types f m e lands at =
      pop_int-leads w owed asked held fresh receiver Typed (λ n. jump (table_target default low targets n)) f types m e at
      (λ n below all. jump-leads w owed asked held fresh receiver (record f { stack = types }) (with_operands below m) (table_target default low targets n)
      (table_one (λ to. Enters w m.stack.frame.method to (record f { stack = types })) default targets (n -ℤ low) lands) all)

  pub lookup_switch-leads : (default : ℕ) (keys : List ℤ) (targets : List ℕ) (types : List VType) (f : Frame) (m : Machine) → f.stack ≡ vtype.Int ∷ types
      → AllByRecursion (λ to. Enters w m.stack.frame.method to (record f { stack = types })) (default ∷ targets) → Here f m → Leads (lookup_switch default keys targets m)
  unfolding lookup_target
  lookup_switch-leads default keys targets types f m e lands at =
      pop_int-leads w owed asked held fresh receiver Typed (λ n. jump (lookup_target default keys targets n)) f types m e at
      (λ n below all. jump-leads w owed asked held fresh receiver (record f { stack = types }) (with_operands below m) (lookup_target default keys targets n)
      (case_one (λ to. Enters w m.stack.frame.method to (record f { stack = types })) default targets (case_of keys n) lands) all)
