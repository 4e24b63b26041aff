-- The parts of a frame are those of one of its kinds, and each kind has its parts.
use Rattle.std.proofs.Common.{◌≡◌, ℕ, suc, ◌+◌, ◌-◌, ◌<◌, ◌≤◌, Bool, true, false, Option, Some, None, List, [], ◌∷◌, ◌++◌, length, take, drop, refl, ap, sym, subst, ◌∙◌, arith}
use Rattle.std.specs.Prelude.{nat_le}
use Rattle.std.proofs.lemmas.Bool.Decides.{nat_tests}
use Rattle.std.proofs.lemmas.List.{append-nil, length-append, length-drop, take_all, take_at, take-append-drop}
use Rattle.ver_frames.specs.Method.{Subject}
use Rattle.ver_frames.specs.StackMap.{kept, added, operands, delta, u2}
use Rattle.ver_frames.specs.StackMapFormat.{SaysType, SayTypes, Spelled, SpellsFrame, next_offset, two_bytes}
use Rattle.ver_frames.specs.StackMapFormat.SayTypes.{none, one_more}
use Rattle.ver_frames.specs.StackMapFormat.SpellsFrame.{same_frame, same_locals_1_stack_item_frame, same_locals_1_stack_item_frame_extended, chop_frame, same_frame_extended, append_frame, full_frame}
use Rattle.ver_frames.specs.declared.vtype.VType.{VType}
use Rattle.ver_frames.proofs.FrameParts.{Parts}
use Rattle.ver_frames.proofs.StackMapItems.{SayMany, none_some, same_some, say_none, say_one, two_of}

-- ---- what the tags say

pub far_short : (tag : ℕ) (rest : List ℕ) → tag ≤ 63 → delta tag rest ≡ Some (tag, rest)
unfolding delta
far_short tag rest le = grind (arith, nat_tests)

pub far_one : (tag : ℕ) (rest : List ℕ) → 64 ≤ tag → tag ≤ 127 → delta tag rest ≡ Some (tag - 64, rest)
unfolding delta
far_one tag rest ge le = grind (arith, nat_tests)

pub far_given : (tag : ℕ) (rest : List ℕ) → 247 ≤ tag → tag ≤ 255 → delta tag rest ≡ u2 rest
unfolding delta
far_given tag rest ge le = grind (arith, nat_tests)

pub far_never : (tag : ℕ) (rest : List ℕ) → 128 ≤ tag → tag ≤ 246 → delta tag rest ≡ None
unfolding delta
far_never tag rest ge le = grind (arith, nat_tests)

pub far_above : (tag : ℕ) (rest : List ℕ) → 256 ≤ tag → delta tag rest ≡ None
unfolding delta
far_above tag rest ge = grind (arith, nat_tests)

pub keeps_low : (tag count : ℕ) → tag ≤ 247 → kept tag count ≡ Some count
unfolding kept
keeps_low tag count le = grind (arith, nat_tests)

pub keeps_high : (tag count : ℕ) → 251 ≤ tag → tag ≤ 254 → kept tag count ≡ Some count
unfolding kept
keeps_high tag count ge le = grind (arith, nat_tests)

pub keeps_chop : (tag count : ℕ) → 248 ≤ tag → tag ≤ 250 → 251 - tag ≤ count → kept tag count ≡ Some (count - (251 - tag))
unfolding kept
keeps_chop tag count ge le enough = grind (arith, nat_tests)

pub keeps_too_few : (tag count : ℕ) → 248 ≤ tag → tag ≤ 250 → count < 251 - tag → kept tag count ≡ None
unfolding kept
keeps_too_few tag count ge le few = grind (arith, nat_tests)

pub keeps_none : (count : ℕ) → kept 255 count ≡ Some 0
unfolding kept
keeps_none count = refl

pub adds_none : (tag : ℕ) (rest : List ℕ) → tag ≤ 251 → added tag rest ≡ Some (0, rest)
unfolding added
adds_none tag rest le = grind (arith, nat_tests)

pub adds_some : (tag : ℕ) (rest : List ℕ) → 252 ≤ tag → tag ≤ 254 → added tag rest ≡ Some (tag - 251, rest)
unfolding added
adds_some tag rest ge le = grind (arith, nat_tests)

pub adds_all : (rest : List ℕ) → added 255 rest ≡ u2 rest
unfolding added
adds_all rest = refl

pub pushes_low : (tag : ℕ) (rest : List ℕ) → tag ≤ 63 → operands tag rest ≡ Some (0, rest)
unfolding operands
pushes_low tag rest le = grind (arith, nat_tests)

pub pushes_one : (tag : ℕ) (rest : List ℕ) → 64 ≤ tag → tag ≤ 127 → operands tag rest ≡ Some (1, rest)
unfolding operands
pushes_one tag rest ge le = grind (arith, nat_tests)

pub pushes_extended : (rest : List ℕ) → operands 247 rest ≡ Some (1, rest)
unfolding operands
pushes_extended rest = refl

pub pushes_none : (tag : ℕ) (rest : List ℕ) → 248 ≤ tag → tag ≤ 254 → operands tag rest ≡ Some (0, rest)
unfolding operands
pushes_none tag rest ge le = grind (arith, nat_tests)

pub pushes_all : (rest : List ℕ) → operands 255 rest ≡ u2 rest
unfolding operands
pushes_all rest = refl

-- ---- the kinds

-- a number is at most k, or above it
split_by : {P : Type 0} (n k : ℕ) (test : Bool) → nat_le n k ≡ test → (n ≤ k → P) → (suc k ≤ n → P) → P
split_by n k true e below above = below (grind (arith, nat_tests, e))
split_by n k false e below above = above (grind (arith, nat_tests, e))

split : {P : Type 0} (n k : ℕ) → (n ≤ k → P) → (suc k ≤ n → P) → P
split n k below above = split_by n k (nat_le n k) refl below above

-- a frame as it is spelled, with the bytes after it
abbrev spelled_so : ℕ → List VType → List VType → List ℕ → Spelled × List ℕ
spelled_so offset locals stack end = (record { offset = offset; locals = locals; stack = stack }, end)

so_same : (offset offset' : ℕ) (locals locals' stack stack' : List VType) (end end' : List ℕ) → offset ≡ offset' → locals ≡ locals' → stack ≡ stack' → end ≡ end'
    → spelled_so offset locals stack end ≡ spelled_so offset' locals' stack' end'
so_same offset offset' locals locals' stack stack' end end' e f g h =
    ap (λ (n : ℕ). spelled_so n locals stack end) e ∙ ap (λ (l : List VType). spelled_so offset' l stack end) f ∙ ap (λ (s : List VType). spelled_so offset' locals' s end) g
    ∙ ap (λ (r : List ℕ). spelled_so offset' locals' stack' r) h

-- how many local variables a chop takes away, and its tag
taken_from : (gone all keeps less : ℕ) → gone ≡ all - keeps → keeps ≡ all - less → less ≤ all → gone ≡ less
taken_from gone all keeps less e f le = omega (arith, e, f, le)

from_251 : (gone tag : ℕ) → gone ≡ 251 - tag → tag ≤ 250 → 251 - gone ≡ tag
from_251 gone tag e le = omega (arith, e, le)

at_least_1 : (gone tag : ℕ) → gone ≡ 251 - tag → tag ≤ 250 → 1 ≤ gone
at_least_1 gone tag e le = omega (arith, e, le)

at_most_3 : (gone tag : ℕ) → gone ≡ 251 - tag → 248 ≤ tag → gone ≤ 3
at_most_3 gone tag e ge = omega (arith, e, ge)

abbrev far_is : ℕ → List ℕ → ℕ → Type 0
far_is tag rest n = delta tag rest ≡ Some (n, rest)

module _ (m : Subject) (last : Option ℕ) (before : List VType) where
  abbrev Spells : List ℕ → Spelled × List ℕ → Type 0
  Spells bytes read = SpellsFrame m last before bytes read.0 read.1

  spells_as : (bytes other : List ℕ) (said read : Spelled × List ℕ) → bytes ≡ other → said ≡ read → Spells bytes said → Spells other read
  spells_as bytes other said read e f spells = subst (λ (b : List ℕ). Spells b read) e (subst (λ (p : Spelled × List ℕ). Spells bytes p) f spells)

  -- all that is kept, and nothing added
  kept_all : (keeps : ℕ) (locals : List VType) → keeps ≡ length before → locals ≡ [] → before ≡ take keeps before ++ locals
  kept_all keeps locals e f =
      sym (ap (λ (ls : List VType). take keeps before ++ ls) f ∙ append-nil (take keeps before) ∙ ap (λ (n : ℕ). take n before) e ∙ take_all (length before) before (omega arith))

  -- an option has one value
  first_is : {A B : Type 0} (o : Option (A × B)) (p q : A × B) → o ≡ Some p → o ≡ Some q → p ≡ q
  first_is o p q e f = same_some p q (sym e ∙ f)

  number_is : (o : Option ℕ) (p q : ℕ) → o ≡ Some p → o ≡ Some q → p ≡ q
  number_is o p q e f = same_some p q (sym e ∙ f)

  -- without items no type is said
  nothing : (part : ℕ × List ℕ) (rest : List ℕ) (types : List VType × List ℕ) → part ≡ (0, rest) → SayMany m part.0 part.1 types → (types.0 ≡ []) × (types.1 ≡ rest)
  nothing part rest types e say =
      let none_say = say_none m part.1 types.1 types.0 say.0 (say.1 ∙ ap (λ (p : ℕ × List ℕ). p.0) e) in
      (none_say.0, none_say.1 ∙ ap (λ (p : ℕ × List ℕ). p.1) e)

  -- one item says one type
  single : (part : ℕ × List ℕ) (rest : List ℕ) (types : List VType × List ℕ) → part ≡ (1, rest) → SayMany m part.0 part.1 types
      → (type : VType) × (types.0 ≡ type ∷ []) × SaysType m rest type types.1
  single part rest types e say =
      let one = say_one m part.1 types.1 types.0 say.0 (say.1 ∙ ap (λ (p : ℕ × List ℕ). p.0) e) in
      (one.0, one.1, subst (λ (b : List ℕ). SaysType m b one.0 types.1) (ap (λ (p : ℕ × List ℕ). p.1) e) one.2)

  -- ---- from the parts to the kinds

  same_of : (tag : ℕ) (rest : List ℕ) (read : Spelled × List ℕ) → tag ≤ 63 → Parts m last before tag rest read → Spells (tag ∷ rest) read
  same_of tag rest read le p =
      let distance : p.distance ≡ (tag, rest) = first_is _ p.distance (tag, rest) p.distance_is (far_short tag rest le) in
      let keeps : p.keeps ≡ length before = number_is _ p.keeps (length before) p.keeps_are (keeps_low tag (length before) (omega (arith, le))) in
      let adds : p.adds ≡ (0, p.distance.1) = first_is _ p.adds _ p.adds_are (adds_none tag p.distance.1 (omega (arith, le))) in
      let locals = nothing p.adds p.distance.1 p.locals adds p.locals_are in
      let pushes : p.pushes ≡ (0, p.locals.1) = first_is _ p.pushes _ p.pushes_are (pushes_low tag p.locals.1 le) in
      let stack = nothing p.pushes p.locals.1 p.stack pushes p.stack_is in
      let end : rest ≡ p.stack.1 = sym (stack.1 ∙ locals.1 ∙ ap (λ (d : ℕ × List ℕ). d.1) distance) in
      spells_as (tag ∷ rest) (tag ∷ rest) (spelled_so (next_offset last tag) before [] rest) read refl
      (so_same _ _ _ _ _ _ _ _ (ap (λ (d : ℕ × List ℕ). next_offset last d.0) (sym distance)) (kept_all p.keeps p.locals.0 keeps locals.0) (sym stack.0) end ∙ p.read_is)
      (same_frame tag rest le)

  one_of : (tag : ℕ) (rest : List ℕ) (read : Spelled × List ℕ) → 64 ≤ tag → tag ≤ 127 → Parts m last before tag rest read → Spells (tag ∷ rest) read
  one_of tag rest read ge le p =
      let distance : p.distance ≡ (tag - 64, rest) = first_is _ p.distance (tag - 64, rest) p.distance_is (far_one tag rest ge le) in
      let keeps : p.keeps ≡ length before = number_is _ p.keeps (length before) p.keeps_are (keeps_low tag (length before) (omega (arith, le))) in
      let adds : p.adds ≡ (0, p.distance.1) = first_is _ p.adds _ p.adds_are (adds_none tag p.distance.1 (omega (arith, le))) in
      let locals = nothing p.adds p.distance.1 p.locals adds p.locals_are in
      let pushes : p.pushes ≡ (1, p.locals.1) = first_is _ p.pushes _ p.pushes_are (pushes_one tag p.locals.1 ge le) in
      let stack = single p.pushes p.locals.1 p.stack pushes p.stack_is in
      let following : p.locals.1 ≡ rest = locals.1 ∙ ap (λ (d : ℕ × List ℕ). d.1) distance in
      let says : SaysType m rest stack.0 p.stack.1 = subst (λ (b : List ℕ). SaysType m b stack.0 p.stack.1) following stack.2 in
      let tag_is : 64 + (tag - 64) ≡ tag = omega (arith, ge) in
      spells_as ((64 + (tag - 64)) ∷ rest) (tag ∷ rest) (spelled_so (next_offset last (tag - 64)) before (stack.0 ∷ []) p.stack.1) read (ap (λ (n : ℕ). n ∷ rest) tag_is)
      (so_same _ _ _ _ _ _ _ _ (ap (λ (d : ℕ × List ℕ). next_offset last d.0) (sym distance)) (kept_all p.keeps p.locals.0 keeps locals.0) (sym stack.1) refl ∙ p.read_is)
      (same_locals_1_stack_item_frame (tag - 64) rest p.stack.1 stack.0 (omega (arith, le)) says)

  -- the two bytes of an offset_delta that is given
  record Given (rest : List ℕ) (distance : ℕ × List ℕ) : Type 0 where
    high : ℕ
    low : ℕ
    bytes_are : rest ≡ high ∷ low ∷ distance.1
    delta_is : two_bytes high low ≡ distance.0

  given : (tag : ℕ) (rest : List ℕ) (read : Spelled × List ℕ) → 247 ≤ tag → tag ≤ 255 → (p : Parts m last before tag rest read) → Given rest p.distance
  given tag rest read ge le p =
      let two = two_of rest p.distance (sym (far_given tag rest ge le) ∙ p.distance_is) in
      record { high = two.0; low = two.1; bytes_are = two.2; delta_is = sym two.3 }

  extended_of : (rest : List ℕ) (read : Spelled × List ℕ) → Parts m last before 247 rest read → Spells (247 ∷ rest) read
  extended_of rest read p =
      let two = given 247 rest read (omega arith) (omega arith) p in
      let keeps : p.keeps ≡ length before = number_is _ p.keeps (length before) p.keeps_are (keeps_low 247 (length before) (omega arith)) in
      let adds : p.adds ≡ (0, p.distance.1) = first_is _ p.adds _ p.adds_are (adds_none 247 p.distance.1 (omega arith)) in
      let locals = nothing p.adds p.distance.1 p.locals adds p.locals_are in
      let pushes : p.pushes ≡ (1, p.locals.1) = first_is _ p.pushes _ p.pushes_are (pushes_extended p.locals.1) in
      let stack = single p.pushes p.locals.1 p.stack pushes p.stack_is in
      let says : SaysType m p.distance.1 stack.0 p.stack.1 = subst (λ (b : List ℕ). SaysType m b stack.0 p.stack.1) locals.1 stack.2 in
      spells_as (247 ∷ two.high ∷ two.low ∷ p.distance.1) (247 ∷ rest) (spelled_so (next_offset last (two_bytes two.high two.low)) before (stack.0 ∷ []) p.stack.1) read
      (ap (λ (r : List ℕ). 247 ∷ r) (sym two.bytes_are))
      (so_same _ _ _ _ _ _ _ _ (ap (λ (n : ℕ). next_offset last n) two.delta_is) (kept_all p.keeps p.locals.0 keeps locals.0) (sym stack.1) refl ∙ p.read_is)
      (same_locals_1_stack_item_frame_extended two.high two.low p.distance.1 p.stack.1 stack.0 says)

  same_extended_of : (rest : List ℕ) (read : Spelled × List ℕ) → Parts m last before 251 rest read → Spells (251 ∷ rest) read
  same_extended_of rest read p =
      let two = given 251 rest read (omega arith) (omega arith) p in
      let keeps : p.keeps ≡ length before = number_is _ p.keeps (length before) p.keeps_are (keeps_high 251 (length before) (omega arith) (omega arith)) in
      let adds : p.adds ≡ (0, p.distance.1) = first_is _ p.adds _ p.adds_are (adds_none 251 p.distance.1 (omega arith)) in
      let locals = nothing p.adds p.distance.1 p.locals adds p.locals_are in
      let pushes : p.pushes ≡ (0, p.locals.1) = first_is _ p.pushes _ p.pushes_are (pushes_none 251 p.locals.1 (omega arith) (omega arith)) in
      let stack = nothing p.pushes p.locals.1 p.stack pushes p.stack_is in
      spells_as (251 ∷ two.high ∷ two.low ∷ p.distance.1) (251 ∷ rest) (spelled_so (next_offset last (two_bytes two.high two.low)) before [] p.distance.1) read
      (ap (λ (r : List ℕ). 251 ∷ r) (sym two.bytes_are))
      (so_same _ _ _ _ _ _ _ _ (ap (λ (n : ℕ). next_offset last n) two.delta_is) (kept_all p.keeps p.locals.0 keeps locals.0) (sym stack.0) (sym (stack.1 ∙ locals.1)) ∙ p.read_is)
      (same_frame_extended two.high two.low p.distance.1)

  append_of : (tag : ℕ) (rest : List ℕ) (read : Spelled × List ℕ) → 252 ≤ tag → tag ≤ 254 → Parts m last before tag rest read → Spells (tag ∷ rest) read
  append_of tag rest read ge le p =
      let two = given tag rest read (omega (arith, ge)) (omega (arith, le)) p in
      let keeps : p.keeps ≡ length before = number_is _ p.keeps (length before) p.keeps_are (keeps_high tag (length before) (omega (arith, ge)) le) in
      let adds : p.adds ≡ (tag - 251, p.distance.1) = first_is _ p.adds _ p.adds_are (adds_some tag p.distance.1 ge le) in
      let pushes : p.pushes ≡ (0, p.locals.1) = first_is _ p.pushes _ p.pushes_are (pushes_none tag p.locals.1 (omega (arith, ge)) le) in
      let stack = nothing p.pushes p.locals.1 p.stack pushes p.stack_is in
      let say : SayTypes m p.distance.1 p.locals.0 p.locals.1 = subst (λ (a : ℕ × List ℕ). SayTypes m a.1 p.locals.0 p.locals.1) adds p.locals_are.0 in
      let long : length p.locals.0 ≡ tag - 251 = p.locals_are.1 ∙ ap (λ (a : ℕ × List ℕ). a.0) adds in
      let tag_is : 251 + length p.locals.0 ≡ tag = omega (arith, long, ge) in
      let all : before ++ p.locals.0 ≡ take p.keeps before ++ p.locals.0 =
      ap (λ (ls : List VType). ls ++ p.locals.0) (sym (ap (λ (n : ℕ). take n before) keeps ∙ take_all (length before) before (omega arith))) in
      spells_as ((251 + length p.locals.0) ∷ two.high ∷ two.low ∷ p.distance.1) (tag ∷ rest) (spelled_so (next_offset last (two_bytes two.high two.low)) (before ++ p.locals.0) [] p.locals.1) read
      (ap (λ (n : ℕ). n ∷ two.high ∷ two.low ∷ p.distance.1) tag_is ∙ ap (λ (r : List ℕ). tag ∷ r) (sym two.bytes_are))
      (so_same _ _ _ _ _ _ _ _ (ap (λ (n : ℕ). next_offset last n) two.delta_is) all (sym stack.0) (sym stack.1) ∙ p.read_is)
      (append_frame two.high two.low p.distance.1 p.locals.1 p.locals.0 (omega (arith, long, ge)) (omega (arith, long, le)) say)

  chop_of : (tag : ℕ) (rest : List ℕ) (read : Spelled × List ℕ) → 248 ≤ tag → tag ≤ 250 → Parts m last before tag rest read → Spells (tag ∷ rest) read
  chop_of tag rest read ge le p =
      let two = given tag rest read (omega (arith, ge)) (omega (arith, le)) p in
      let enough : 251 - tag ≤ length before =
      split (251 - tag) (length before) (λ few. few) (λ many. none_some p.keeps (sym (keeps_too_few tag (length before) ge le many) ∙ p.keeps_are)) in
      let keeps : p.keeps ≡ length before - (251 - tag) = number_is _ p.keeps _ p.keeps_are (keeps_chop tag (length before) ge le enough) in
      let adds : p.adds ≡ (0, p.distance.1) = first_is _ p.adds _ p.adds_are (adds_none tag p.distance.1 (omega (arith, le))) in
      let locals = nothing p.adds p.distance.1 p.locals adds p.locals_are in
      let pushes : p.pushes ≡ (0, p.locals.1) = first_is _ p.pushes _ p.pushes_are (pushes_none tag p.locals.1 ge (omega (arith, le))) in
      let stack = nothing p.pushes p.locals.1 p.stack pushes p.stack_is in
      let gone : List VType = drop p.keeps before in
      let whole : before ≡ take p.keeps before ++ gone = sym (take-append-drop p.keeps before) in
      let long : length gone ≡ length before - p.keeps = length-drop p.keeps before in
      let gone_is : length gone ≡ 251 - tag = taken_from (length gone) (length before) p.keeps (251 - tag) long keeps enough in
      let tag_is : 251 - length gone ≡ tag = from_251 (length gone) tag gone_is le in
      let kept_is : take p.keeps before ≡ take p.keeps before ++ p.locals.0 =
      sym (ap (λ (ls : List VType). take p.keeps before ++ ls) locals.0 ∙ append-nil (take p.keeps before)) in
      spells_as ((251 - length gone) ∷ two.high ∷ two.low ∷ p.distance.1) (tag ∷ rest) (spelled_so (next_offset last (two_bytes two.high two.low)) (take p.keeps before) [] p.distance.1) read
      (ap (λ (n : ℕ). n ∷ two.high ∷ two.low ∷ p.distance.1) tag_is ∙ ap (λ (r : List ℕ). tag ∷ r) (sym two.bytes_are))
      (so_same _ _ _ _ _ _ _ _ (ap (λ (n : ℕ). next_offset last n) two.delta_is) kept_is (sym stack.0) (sym (stack.1 ∙ locals.1)) ∙ p.read_is)
      (chop_frame two.high two.low p.distance.1 (take p.keeps before) gone (at_least_1 (length gone) tag gone_is le) (at_most_3 (length gone) tag gone_is ge) whole)

  full_of : (rest : List ℕ) (read : Spelled × List ℕ) → Parts m last before 255 rest read → Spells (255 ∷ rest) read
  full_of rest read p =
      let two = given 255 rest read (omega arith) (omega arith) p in
      let keeps : p.keeps ≡ 0 = number_is _ p.keeps 0 p.keeps_are (keeps_none (length before)) in
      let adds = two_of p.distance.1 p.adds (sym (adds_all p.distance.1) ∙ p.adds_are) in
      let pushes = two_of p.locals.1 p.pushes (sym (pushes_all p.locals.1) ∙ p.pushes_are) in
      let locals : SayTypes m p.adds.1 p.locals.0 (pushes.0 ∷ pushes.1 ∷ p.pushes.1) = subst (λ (b : List ℕ). SayTypes m p.adds.1 p.locals.0 b) pushes.2 p.locals_are.0 in
      let bytes : 255 ∷ two.high ∷ two.low ∷ adds.0 ∷ adds.1 ∷ p.adds.1 ≡ 255 ∷ rest =
      ap (λ (r : List ℕ). 255 ∷ two.high ∷ two.low ∷ r) (sym adds.2) ∙ ap (λ (r : List ℕ). 255 ∷ r) (sym two.bytes_are) in
      let kept_is : p.locals.0 ≡ take p.keeps before ++ p.locals.0 = ap (λ (n : ℕ). take n before ++ p.locals.0) (sym keeps) in
      spells_as (255 ∷ two.high ∷ two.low ∷ adds.0 ∷ adds.1 ∷ p.adds.1) (255 ∷ rest) (spelled_so (next_offset last (two_bytes two.high two.low)) p.locals.0 p.stack.0 p.stack.1) read bytes
      (so_same _ _ _ _ _ _ _ _ (ap (λ (n : ℕ). next_offset last n) two.delta_is) kept_is refl refl ∙ p.read_is)
      (full_frame two.high two.low adds.0 adds.1 pushes.0 pushes.1 p.adds.1 p.pushes.1 p.stack.1 p.locals.0 p.stack.0 (p.locals_are.1 ∙ adds.3) locals (p.stack_is.1 ∙ pushes.3) p.stack_is.0)

  -- a fact of the frames of a number as tag is one of this tag, if the tag is that number
  at_tag : (tag number : ℕ) (rest : List ℕ) (read : Spelled × List ℕ) → number ≤ tag → tag ≤ number → (Parts m last before number rest read → Spells (number ∷ rest) read)
      → Parts m last before tag rest read → Spells (tag ∷ rest) read
  at_tag tag number rest read ge le of p =
      let same : number ≡ tag = omega (arith, ge, le) in
      subst (λ (n : ℕ). Parts m last before n rest read → Spells (n ∷ rest) read) same of p

  -- a frame with parts is of one of the kinds
  pub parts_spell : (tag : ℕ) (rest : List ℕ) (read : Spelled × List ℕ) → Parts m last before tag rest read → SpellsFrame m last before (tag ∷ rest) read.0 read.1
  parts_spell tag rest read p =
      split tag 63 (λ le. same_of tag rest read le p)
      (λ above_63. split tag 127 (λ le. one_of tag rest read above_63 le p)
      (λ above_127. split tag 246 (λ le. none_some p.distance (sym (far_never tag rest above_127 le) ∙ p.distance_is))
      (λ above_246. split tag 247 (λ le. at_tag tag 247 rest read above_246 le (extended_of rest read) p)
      (λ above_247. split tag 250 (λ le. chop_of tag rest read above_247 le p)
      (λ above_250. split tag 251 (λ le. at_tag tag 251 rest read above_250 le (same_extended_of rest read) p)
      (λ above_251. split tag 254 (λ le. append_of tag rest read above_251 le p)
      (λ above_254. split tag 255 (λ le. at_tag tag 255 rest read above_254 le (full_of rest read) p)
      (λ above_255. none_some p.distance (sym (far_above tag rest above_255) ∙ p.distance_is)))))))))

  -- ---- from the kinds to the parts

  -- the whole list is taken
  all_taken : (added : List VType) → take (length before) before ++ added ≡ before ++ added
  all_taken added = ap (λ (ls : List VType). ls ++ added) (take_all (length before) before (omega arith))

  all_alone : take (length before) before ++ [] ≡ before
  all_alone = all_taken [] ∙ append-nil before

  -- the parts of a frame without items
  bare : (tag keeps : ℕ) (rest : List ℕ) (distance : ℕ × List ℕ) (locals : List VType) → delta tag rest ≡ Some distance → kept tag (length before) ≡ Some keeps → tag ≤ 251
      → operands tag distance.1 ≡ Some (0, distance.1) → take keeps before ++ [] ≡ locals
      → Parts m last before tag rest (spelled_so (next_offset last distance.0) locals [] distance.1)
  bare tag keeps rest distance locals far keeps_are le pushes_are locals_are = record {
    distance = distance;
    keeps = keeps;
    adds = (0, distance.1);
    locals = ([], distance.1);
    pushes = (0, distance.1);
    stack = ([], distance.1);
    distance_is = far;
    keeps_are = keeps_are;
    adds_are = adds_none tag distance.1 le;
    locals_are = (none distance.1, refl);
    pushes_are = pushes_are;
    stack_is = (none distance.1, refl);
    read_is = so_same _ _ _ _ _ _ _ _ refl locals_are refl refl;
  }

  -- the parts of a frame with one operand
  loaded : (tag : ℕ) (rest : List ℕ) (distance : ℕ × List ℕ) (operand : VType) (end : List ℕ) → delta tag rest ≡ Some distance → tag ≤ 247
      → operands tag distance.1 ≡ Some (1, distance.1) → SaysType m distance.1 operand end
      → Parts m last before tag rest (spelled_so (next_offset last distance.0) before (operand ∷ []) end)
  loaded tag rest distance operand end far le pushes_are says = record {
    distance = distance;
    keeps = length before;
    adds = (0, distance.1);
    locals = ([], distance.1);
    pushes = (1, distance.1);
    stack = (operand ∷ [], end);
    distance_is = far;
    keeps_are = keeps_low tag (length before) le;
    adds_are = adds_none tag distance.1 (omega (arith, le));
    locals_are = (none distance.1, refl);
    pushes_are = pushes_are;
    stack_is = (one_more distance.1 end end operand [] says (none end), refl);
    read_is = so_same _ _ _ _ _ _ _ _ refl all_alone refl refl;
  }

  -- a frame of one of the kinds has a tag and parts
  pub record Tagged (bytes : List ℕ) (read : Spelled × List ℕ) : Type 0 where
    pub tag : ℕ
    pub rest : List ℕ
    pub bytes_are : bytes ≡ tag ∷ rest
    pub parts : Parts m last before tag rest read

  pub spelled_parts : {bytes end : List ℕ} {spelled : Spelled} → SpellsFrame m last before bytes spelled end → Tagged bytes (spelled, end)
  spelled_parts (same_frame tag rest le) = record {
    tag = tag;
    rest = rest;
    bytes_are = refl;
    parts = bare tag (length before) rest (tag, rest) before (far_short tag rest le) (keeps_low tag (length before) (omega (arith, le))) (omega (arith, le)) (pushes_low tag rest le) all_alone;
  }
  spelled_parts (same_locals_1_stack_item_frame delta bytes rest operand le says) =
      let less : 64 + delta - 64 ≡ delta = omega arith in
      let far = subst (λ (n : ℕ). far_is (64 + delta) bytes n) less (far_one (64 + delta) bytes (omega arith) (omega (arith, le))) in
      record {
        tag = 64 + delta;
        rest = bytes;
        bytes_are = refl;
        parts = loaded (64 + delta) bytes (delta, bytes) operand rest far (omega (arith, le)) (pushes_one (64 + delta) bytes (omega arith) (omega (arith, le))) says;
      }
  spelled_parts (same_locals_1_stack_item_frame_extended high low bytes rest operand says) = record {
    tag = 247;
    rest = high ∷ low ∷ bytes;
    bytes_are = refl;
    parts = loaded 247 (high ∷ low ∷ bytes) (two_bytes high low, bytes) operand rest (far_given 247 (high ∷ low ∷ bytes) (omega arith) (omega arith)) (omega arith) (pushes_extended bytes) says;
  }
  spelled_parts (chop_frame high low rest kept_ones absent ge le whole) =
      let gone : ℕ = length absent in
      let long : length before ≡ length kept_ones + gone = ap length whole ∙ length-append kept_ones absent in
      let back : 251 - (251 - gone) ≡ gone = omega (arith, le) in
      let enough : 251 - (251 - gone) ≤ length before = omega (arith, back, long) in
      let keeps_is : length before - (251 - (251 - gone)) ≡ length kept_ones = omega (arith, back, long) in
      let keeps : kept (251 - gone) (length before) ≡ Some (length kept_ones) =
      keeps_chop (251 - gone) (length before) (omega (arith, le)) (omega (arith, ge)) enough ∙ ap (λ (n : ℕ). Some n) keeps_is in
      let taken : take (length kept_ones) before ++ [] ≡ kept_ones =
      append-nil (take (length kept_ones) before) ∙ ap (λ (ls : List VType). take (length kept_ones) ls) whole ∙ take_at kept_ones absent (length kept_ones) refl in
      record {
        tag = 251 - gone;
        rest = high ∷ low ∷ rest;
        bytes_are = refl;
        parts = bare (251 - gone) (length kept_ones) (high ∷ low ∷ rest) (two_bytes high low, rest) kept_ones (far_given (251 - gone) (high ∷ low ∷ rest) (omega (arith, le)) (omega arith))
            keeps (omega arith) (pushes_none (251 - gone) rest (omega (arith, le)) (omega arith)) taken;
      }
  spelled_parts (same_frame_extended high low rest) = record {
    tag = 251;
    rest = high ∷ low ∷ rest;
    bytes_are = refl;
    parts = bare 251 (length before) (high ∷ low ∷ rest) (two_bytes high low, rest) before (far_given 251 (high ∷ low ∷ rest) (omega arith) (omega arith))
        (keeps_high 251 (length before) (omega arith) (omega arith)) (omega arith) (pushes_none 251 rest (omega arith) (omega arith)) all_alone;
  }
  spelled_parts (append_frame high low bytes rest additional ge le say) =
      let count : ℕ = length additional in
      let less : 251 + count - 251 ≡ count = omega arith in
      record {
        tag = 251 + count;
        rest = high ∷ low ∷ bytes;
        bytes_are = refl;
        parts = record {
          distance = (two_bytes high low, bytes);
          keeps = length before;
          adds = (count, bytes);
          locals = (additional, rest);
          pushes = (0, rest);
          stack = ([], rest);
          distance_is = far_given (251 + count) (high ∷ low ∷ bytes) (omega arith) (omega (arith, le));
          keeps_are = keeps_high (251 + count) (length before) (omega arith) (omega (arith, le));
          adds_are = adds_some (251 + count) bytes (omega (arith, ge)) (omega (arith, le)) ∙ ap (λ (n : ℕ). Some (n, bytes)) less;
          locals_are = (say, refl);
          pushes_are = pushes_none (251 + count) rest (omega arith) (omega (arith, le));
          stack_is = (none rest, refl);
          read_is = so_same _ _ _ _ _ _ _ _ refl (all_taken additional) refl refl;
        };
      }
  spelled_parts (full_frame high low locals_high locals_low stack_high stack_low bytes between rest locals stack locals_long locals_say stack_long stack_say) = record {
    tag = 255;
    rest = high ∷ low ∷ locals_high ∷ locals_low ∷ bytes;
    bytes_are = refl;
    parts = record {
      distance = (two_bytes high low, locals_high ∷ locals_low ∷ bytes);
      keeps = 0;
      adds = (two_bytes locals_high locals_low, bytes);
      locals = (locals, stack_high ∷ stack_low ∷ between);
      pushes = (two_bytes stack_high stack_low, between);
      stack = (stack, rest);
      distance_is = far_given 255 (high ∷ low ∷ locals_high ∷ locals_low ∷ bytes) (omega arith) (omega arith);
      keeps_are = keeps_none (length before);
      adds_are = adds_all (locals_high ∷ locals_low ∷ bytes);
      locals_are = (locals_say, locals_long);
      pushes_are = pushes_all (stack_high ∷ stack_low ∷ between);
      stack_is = (stack_say, stack_long);
      read_is = refl;
    };
  }
