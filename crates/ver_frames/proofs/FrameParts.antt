-- What the reading of a frame finds, part by part.
use Rattle.std.proofs.Common.{◌≡◌, ℕ, zero, suc, ◌+◌, ◌-◌, ◌<◌, ◌≤◌, Bool, true, false, Option, Some, Ok, List, [], ◌∷◌, ◌++◌, length, take, unwrap_or, refl, ap, sym, subst, arith}
use Rattle.std.specs.Prelude.{◌==◌, nat_le, option_and_then, Contains, slice_index_or}
use Rattle.std.specs.List.{list_any}
use Rattle.std.specs.Option.{option_map_or}
use Rattle.std.proofs.lemmas.Bool.{eqb-true, eq-eqb}
use Rattle.std.proofs.lemmas.Bool.Decides.{nat_tests}
use Rattle.std.proofs.lemmas.List.{length-append, length-take-le}
use Rattle.ver_frames.specs.Method.{Subject}
use Rattle.ver_frames.specs.StackMap.{or_broken, demand, kept, added, operands, after_items, delta, is_start, items, frame_after, frame}
use Rattle.ver_frames.specs.StackMapFormat.{IsFrameOf, Spelled, next_offset}
use Rattle.ver_frames.specs.declared.fault.StackMapRule.TheVariants.{Reserved, Chop, Locals, Offset, Kind}
use Rattle.ver_frames.specs.declared.vtype.VType.{VType}
use Rattle.ver_frames.proofs.FrameLimits.{at_most, both, passed, same_read, there}
use Rattle.ver_frames.proofs.StackMapItems.{SayMany, by_test, items_say, none_some, same_some, types_after, types_again}

-- the parts of a frame of this tag, with the bytes after each
pub record Parts (m : Subject) (last : Option ℕ) (before : List VType) (tag : ℕ) (rest : List ℕ) (read : Spelled × List ℕ) : Type 0 where
  pub distance : ℕ × List ℕ
  pub keeps : ℕ
  pub adds : ℕ × List ℕ
  pub locals : List VType × List ℕ
  pub pushes : ℕ × List ℕ
  pub stack : List VType × List ℕ
  pub distance_is : delta tag rest ≡ Some distance
  pub keeps_are : kept tag (length before) ≡ Some keeps
  pub adds_are : added tag distance.1 ≡ Some adds
  pub locals_are : SayMany m adds.0 adds.1 locals
  pub pushes_are : operands tag locals.1 ≡ Some pushes
  pub stack_is : SayMany m pushes.0 pushes.1 stack
  pub read_is : ◌≡◌ {A = Spelled × List ℕ} (record { offset = next_offset last distance.0; locals = take keeps before ++ locals.0; stack = stack.0 }, stack.1) read

-- ---- an instruction's start

among : (xs : List ℕ) (x k : ℕ) → k < length xs → slice_index_or xs k x ≡ x → list_any (λ y. y == x) xs ≡ true
among [] x k lt e = absurd (omega arith)
among (y ∷ ys) x zero lt e = rw (eq-eqb y x e)
among (y ∷ ys) x (suc k) lt e = let others = among ys x k (omega arith) e in grind (arith, nat_tests, others)

pub start_is : (m : Subject) (at : ℕ) → Contains m.linked.offsets at → is_start m at ≡ true
start_is m at there = among m.linked.offsets at there.0 there.1 there.2

by_head : (y : ℕ) (ys : List ℕ) (x : ℕ) (test : Bool) → (y == x) ≡ test → (list_any (λ z. z == x) ys ≡ true → Contains ys x) → list_any (λ z. z == x) (y ∷ ys) ≡ true
    → Contains (y ∷ ys) x
by_head y ys x true is others e = (0, omega arith, eqb-true y x is)
by_head y ys x false is others e =
    let there : Contains ys x = others (rw is at e) in
    (suc there.0, omega (arith, there.1), there.2)

contained : (xs : List ℕ) (x : ℕ) → list_any (λ y. y == x) xs ≡ true → Contains xs x
contained [] x e = absurd (cc)
contained (y ∷ ys) x e = by_head y ys x (y == x) refl (contained ys x) e

-- ---- what a frame keeps

pub kept_within : (tag count keeps : ℕ) → kept tag count ≡ Some keeps → keeps ≤ count
unfolding kept
kept_within tag count keeps e =
    let P : Option ℕ → Type 0 = λ o. o ≡ Some keeps → keeps ≤ count in
    by_test P (tag == 255) _ _ (λ is e. let same : 0 ≡ keeps = same_some 0 keeps e in omega (arith, same))
    (λ not_full. by_test P _ _ _ (λ is e. let same : count ≡ keeps = same_some count keeps e in omega (arith, same))
    (λ not_all. by_test P (nat_le (251 - tag) count) _ _ (λ is e. let same : count - (251 - tag) ≡ keeps = same_some _ keeps e in omega (arith, same))
    (λ not_few e. none_some keeps e))) e

locals_long : (keeps : ℕ) (before locals : List VType) → keeps ≤ length before → length (take keeps before ++ locals) ≡ keeps + length locals
locals_long keeps before locals le =
    let joined : length (take keeps before ++ locals) ≡ length (take keeps before) + length locals = length-append (take keeps before) locals in
    let taken : length (take keeps before) ≡ keeps = length-take-le keeps before le in
    omega (arith, joined, taken)

sum_below : (n a b c most : ℕ) → n ≡ a + b → b ≡ c → a + c ≤ most → n ≤ most
sum_below n a b c most e f le = omega (arith, e, f, le)

same_below : (n c most : ℕ) → n ≡ c → c ≤ most → n ≤ most
same_below n c most e le = omega (arith, e, le)

-- ---- from the reading to the parts

few_pushes : (most : ℕ) (o : Option (ℕ × List ℕ)) (p : ℕ × List ℕ) → o ≡ Some p → option_map_or (λ (count : ℕ × List ℕ). nat_le count.0 most) o true ≡ true → p.0 ≤ most
few_pushes most o p is e = at_most p.0 most (subst (λ (q : Option (ℕ × List ℕ)). option_map_or (λ (count : ℕ × List ℕ). nat_le count.0 most) q true ≡ true) is e)

-- what is read of a frame has parts, and is a frame of the method
pub frame_parts : (m : Subject) (last : Option ℕ) (before : List VType) (tag : ℕ) (rest : List ℕ) (read : Spelled × List ℕ) → frame m last before (tag ∷ rest) ≡ Ok read
    → Parts m last before tag rest read × IsFrameOf m read.0
unfolding frame frame_after
frame_parts m last before tag rest read e =
    let distance = both (or_broken Reserved (unwrap_or last 0) (delta tag rest)) _ read e in
    let at : ℕ = next_offset last distance.0.0 in
    let keeps = both (or_broken Chop at (kept tag (length before))) _ read distance.1.1 in
    let adds = both (or_broken Reserved at (added tag distance.0.1)) _ read keeps.1.1 in
    let holds : Option (ℕ × List ℕ) = option_and_then (operands tag) (after_items adds.0.0 adds.0.1) in
    let few = both (demand Locals at (nat_le (keeps.0 + adds.0.0) m.code.max_locals)) _ read adds.1.1 in
    let fit = both (demand Locals at (option_map_or (λ (count : ℕ × List ℕ). nat_le count.0 m.code.max_stack) holds true)) _ read few.1.1 in
    let starts = both (demand Offset at (is_start m at)) _ read fit.1.1 in
    let pushes = both (or_broken Kind at holds) _ read starts.1.1 in
    let locals = both (or_broken Kind at (items m adds.0.0 adds.0.1)) _ read pushes.1.1 in
    let stack = both (or_broken Kind at (items m pushes.0.0 pushes.0.1)) _ read locals.1.1 in
    let spelled : Spelled = record { offset = at; locals = take keeps.0 before ++ locals.0.0; stack = stack.0.0 } in
    let same : ◌≡◌ {A = Spelled × List ℕ} (spelled, stack.0.1) read = same_read (spelled, stack.0.1) read stack.1.1 in
    let kept_is : kept tag (length before) ≡ Some keeps.0 = there Chop at (kept tag (length before)) keeps.0 keeps.1.0 in
    let locals_say : SayMany m adds.0.0 adds.0.1 locals.0 = items_say m adds.0.0 adds.0.1 locals.0 (there Kind at (items m adds.0.0 adds.0.1) locals.0 locals.1.0) in
    let stack_say : SayMany m pushes.0.0 pushes.0.1 stack.0 = items_say m pushes.0.0 pushes.0.1 stack.0 (there Kind at (items m pushes.0.0 pushes.0.1) stack.0 stack.1.0) in
    let holds_are : holds ≡ Some pushes.0 = there Kind at holds pushes.0 pushes.1.0 in
    let after : after_items adds.0.0 adds.0.1 ≡ Some locals.0.1 = subst (λ (n : ℕ). after_items n adds.0.1 ≡ Some locals.0.1) locals_say.1 (types_after m locals_say.0) in
    let pushed : operands tag locals.0.1 ≡ Some pushes.0 = subst (λ (o : Option (List ℕ)). option_and_then (operands tag) o ≡ Some pushes.0) after holds_are in
    let long : length (take keeps.0 before ++ locals.0.0) ≡ keeps.0 + length locals.0.0 = locals_long keeps.0 before locals.0.0 (kept_within tag (length before) keeps.0 kept_is) in
    let enough : keeps.0 + adds.0.0 ≤ m.code.max_locals = at_most (keeps.0 + adds.0.0) m.code.max_locals (passed Locals at (nat_le (keeps.0 + adds.0.0) m.code.max_locals) few.0 few.1.0) in
    let room : pushes.0.0 ≤ m.code.max_stack = few_pushes m.code.max_stack holds pushes.0 holds_are (passed Locals at (option_map_or (λ (count : ℕ × List ℕ). nat_le count.0 m.code.max_stack) holds true) fit.0 fit.1.0) in
    let suited : IsFrameOf m spelled = record {
      locals = sum_below _ keeps.0 _ adds.0.0 m.code.max_locals long locals_say.1 enough;
      stack = same_below _ pushes.0.0 m.code.max_stack stack_say.1 room;
      starts = contained m.linked.offsets at (passed Offset at (is_start m at) starts.0 starts.1.0);
    } in (
      record {
        distance = distance.0;
        keeps = keeps.0;
        adds = adds.0;
        locals = locals.0;
        pushes = pushes.0;
        stack = stack.0;
        distance_is = there Reserved (unwrap_or last 0) (delta tag rest) distance.0 distance.1.0;
        keeps_are = kept_is;
        adds_are = there Reserved at (added tag distance.0.1) adds.0 adds.1.0;
        locals_are = locals_say;
        pushes_are = pushed;
        stack_is = stack_say;
        read_is = same;
      },
      subst (λ (p : Spelled × List ℕ). IsFrameOf m p.0) {x = (spelled, stack.0.1)} same suited,
    )

-- ---- from the parts to the reading

-- a frame of the method that has parts is read
pub parts_frame : (m : Subject) (last : Option ℕ) (before : List VType) (tag : ℕ) (rest : List ℕ) (read : Spelled × List ℕ) → Parts m last before tag rest read → IsFrameOf m read.0
    → frame m last before (tag ∷ rest) ≡ Ok read
unfolding frame frame_after
parts_frame m last before tag rest read p suited =
    let at : ℕ = next_offset last p.distance.0 in
    let spelled : Spelled = record { offset = at; locals = take p.keeps before ++ p.locals.0; stack = p.stack.0 } in
    let suits : IsFrameOf m spelled = subst (λ (q : Spelled × List ℕ). IsFrameOf m q.0) (sym p.read_is) suited in
    let after : after_items p.adds.0 p.adds.1 ≡ Some p.locals.1 = subst (λ (n : ℕ). after_items n p.adds.1 ≡ Some p.locals.1) p.locals_are.1 (types_after m p.locals_are.0) in
    let locals : items m p.adds.0 p.adds.1 ≡ Some p.locals = subst (λ (n : ℕ). items m n p.adds.1 ≡ Some p.locals) p.locals_are.1 (types_again m p.locals_are.0) in
    let stack : items m p.pushes.0 p.pushes.1 ≡ Some p.stack = subst (λ (n : ℕ). items m n p.pushes.1 ≡ Some p.stack) p.stack_is.1 (types_again m p.stack_is.0) in
    let long : length (take p.keeps before ++ p.locals.0) ≡ p.keeps + length p.locals.0 = locals_long p.keeps before p.locals.0 (kept_within tag (length before) p.keeps p.keeps_are) in
    let few : p.keeps + p.adds.0 ≤ m.code.max_locals = omega (arith, long, suits.locals, p.locals_are.1) in
    let enough : nat_le (p.keeps + p.adds.0) m.code.max_locals ≡ true = grind (arith, nat_tests, few) in
    let fits : p.pushes.0 ≤ m.code.max_stack = omega (arith, suits.stack, p.stack_is.1) in
    let room : nat_le p.pushes.0 m.code.max_stack ≡ true = grind (arith, nat_tests, fits) in
    let starts : is_start m at ≡ true = start_is m at suits.starts in
    rw (p.distance_is, p.keeps_are, p.adds_are, after, p.pushes_are, enough, room, starts, locals, stack) (ap (λ (q : Spelled × List ℕ). Ok q) p.read_is)
