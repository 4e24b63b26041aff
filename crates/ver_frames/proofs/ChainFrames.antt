-- The frames of a method as chains, as they are read one after the other.
use Rattle.std.proofs.Common.{◌≡◌, ℕ, suc, ◌+◌, ◌-◌, ◌<◌, ◌≤◌, true, Option, Some, None, Result, Ok, List, [], ◌∷◌, ◌++◌, length, take, refl, ap, sym, subst, ◌∙◌, arith}
use Rattle.std.specs.Prelude.{map, nat_le, option_and_then}
use Rattle.std.specs.List.{AllByRecursion}
use Rattle.std.proofs.lemmas.Bool.Decides.{nat_tests}
use Rattle.ver_frames.proofs.Chains.{kept_stands, kept_types}
use Rattle.ver_frames.proofs.FrameLoops.{Frames, frames_left, with_frames}
use Rattle.ver_frames.specs.Chains.{FrameStands, Keeps, Stands, declared_in, spelled_in, types_of}
use Rattle.ver_frames.specs.Frames.{Frame}
use Rattle.ver_frames.specs.Method.{Subject}
use Rattle.ver_frames.proofs.StackMapItems.{same_some}
use Rattle.ver_frames.specs.StackMap.{added, after_items, frame, frame_after, frames, is_start, items, kept, operands, with_front}
use Rattle.ver_frames.specs.StackMapFormat.{Spelled, declared_by, declared_frame}
use Rattle.ver_frames.specs.declared.chain.TypeChain.{TypeChain}
use Rattle.ver_frames.specs.declared.chain.TypeNode.{TypeNode}
use Rattle.ver_frames.specs.declared.fault.StackMapFault.{StackMapFault}
use Rattle.ver_frames.specs.declared.raw_frame.RawFrame.{RawFrame}
use Rattle.ver_frames.specs.declared.vtype.VType.{VType}

-- ---- as the row of nodes grows

-- the frames that stood stand
pub frames_stand : (old new : List TypeNode) (fs : List RawFrame) → Keeps old new → AllByRecursion (FrameStands old) fs → AllByRecursion (FrameStands new) fs
frames_stand old new [] keeps stand = tt
frames_stand old new (f ∷ fs) keeps stand = (
  record { locals = kept_stands old new f.locals keeps stand.0.locals; stack = kept_stands old new f.stack keeps stand.0.stack },
  frames_stand old new fs keeps stand.1,
)

one_same : (old new : List TypeNode) (max_locals : ℕ) (f : RawFrame) → Keeps old new → FrameStands old f → declared_in max_locals new f ≡ declared_in max_locals old f
one_same old new max_locals f keeps stands =
    ap (λ (ts : List VType). (f.offset, declared_frame max_locals ts (types_of new f.stack))) (kept_types old new f.locals keeps stands.locals)
    ∙ ap (λ (ts : List VType). (f.offset, declared_frame max_locals (types_of old f.locals) ts)) (kept_types old new f.stack keeps stands.stack)

-- and declare the same
pub frames_same : (old new : List TypeNode) (max_locals : ℕ) (fs : List RawFrame) → Keeps old new → AllByRecursion (FrameStands old) fs
    → map (declared_in max_locals new) fs ≡ map (declared_in max_locals old) fs
frames_same old new max_locals [] keeps stand = refl
frames_same old new max_locals (f ∷ fs) keeps stand =
    ap (λ (d : ℕ × Frame). d ∷ map (declared_in max_locals new) fs) (one_same old new max_locals f keeps stand.0)
    ∙ ap (λ (ds : Frames). declared_in max_locals old f ∷ ds) (frames_same old new max_locals fs keeps stand.1)

-- ---- one more frame

pub stand_more : (nodes : List TypeNode) (fs : List RawFrame) (f : RawFrame) → AllByRecursion (FrameStands nodes) fs → FrameStands nodes f → AllByRecursion (FrameStands nodes) (fs ++ f ∷ [])
stand_more nodes [] f stand one = (one, tt)
stand_more nodes (g ∷ fs) f stand one = (stand.0, stand_more nodes fs f stand.1 one)

declared_more : (nodes : List TypeNode) (max_locals : ℕ) (fs : List RawFrame) (f : RawFrame) → map (declared_in max_locals nodes) (fs ++ f ∷ []) ≡ map (declared_in max_locals nodes) fs ++ declared_in max_locals nodes f ∷ []
declared_more nodes max_locals [] f = refl
declared_more nodes max_locals (g ∷ fs) f = ap (λ (ds : Frames). declared_in max_locals nodes g ∷ ds) (declared_more nodes max_locals fs f)

pub one_more_read : (m : Subject) (count i : ℕ) (old new : List TypeNode) (fs : List RawFrame) (last : Option ℕ) (before : TypeChain) (bytes rest : List ℕ) (f : RawFrame) (total : Result Frames StackMapFault)
    → i < count → Keeps old new → AllByRecursion (FrameStands old) fs → frame m last (types_of old before) bytes ≡ Ok (spelled_in new f, rest)
    → with_frames (map (declared_in m.code.max_locals old) fs) (frames m (count - i) last (types_of old before) bytes) ≡ total
    → with_frames (map (declared_in m.code.max_locals new) (fs ++ f ∷ [])) (frames m (count - (i + 1)) (Some f.offset) (types_of new f.locals) rest) ≡ total
one_more_read m count i old new fs last before bytes rest f total lt keeps stand here so_far =
    let next = frames_left m count i (map (declared_in m.code.max_locals old) fs) last (types_of old before) bytes (spelled_in new f) rest total lt here so_far in
    let same : map (declared_in m.code.max_locals new) (fs ++ f ∷ []) ≡ map (declared_in m.code.max_locals old) fs ++ declared_by m (spelled_in new f) ∷ [] =
    declared_more new m.code.max_locals fs f ∙ ap (λ (ds : Frames). ds ++ declared_in m.code.max_locals new f ∷ []) (frames_same old new m.code.max_locals fs keeps stand) in
    subst (λ (ds : Frames). with_frames ds (frames m (count - (i + 1)) (Some f.offset) (types_of new f.locals) rest) ≡ total) (sym same) next

-- ---- one frame, from its parts

-- what is read after a front
from_front : (front : List VType) (o : Option (List VType × List ℕ)) (types : List VType) (rest : List ℕ) → with_front front o ≡ Some (types, rest)
    → (found : List VType × List ℕ) × (o ≡ Some found) × (front ++ found.0 ≡ types) × (found.1 ≡ rest)
from_front front None types rest e = absurd (cc)
from_front front (Some found) types rest e =
    let same : ◌≡◌ {A = List VType × List ℕ} (front ++ found.0, found.1) (types, rest) = same_some (front ++ found.0, found.1) (types, rest) e in
    (found, refl, ap (λ (p : List VType × List ℕ). p.0) same, ap (λ (p : List VType × List ℕ). p.1) same)

so_read : (at : ℕ) (locals locals' stack stack' : List VType) (rest rest' : List ℕ) → locals ≡ locals' → stack ≡ stack' → rest ≡ rest'
    → ◌≡◌ {A = Result (Spelled × List ℕ) StackMapFault} (Ok (record { offset = at; locals = locals; stack = stack }, rest)) (Ok (record { offset = at; locals = locals'; stack = stack' }, rest'))
so_read at locals locals' stack stack' rest rest' e f g = λ i. Ok (record { offset = at; locals = e i; stack = f i }, g i)

pub frame_read : (m : Subject) (at : ℕ) (before : List VType) (tag : ℕ) (rest : List ℕ) (keeps : ℕ) (adds pushes : ℕ × List ℕ) (locals stack : List VType) (middle end : List ℕ)
    → kept tag (length before) ≡ Some keeps → added tag rest ≡ Some adds → option_and_then (operands tag) (after_items adds.0 adds.1) ≡ Some pushes
    → keeps + adds.0 ≤ m.code.max_locals → pushes.0 ≤ m.code.max_stack → is_start m at ≡ true
    → with_front (take keeps before) (items m adds.0 adds.1) ≡ Some (locals, middle) → with_front [] (items m pushes.0 pushes.1) ≡ Some (stack, end)
    → frame_after m at before tag rest ≡ Ok (record { offset = at; locals = locals; stack = stack }, end)
unfolding frame_after
frame_read m at before tag rest keeps adds pushes locals stack middle end keeps_is adds_are pushes_are few fits starts locals_read stack_read =
    let enough : nat_le (keeps + adds.0) m.code.max_locals ≡ true = grind (arith, nat_tests, few) in
    let room : nat_le pushes.0 m.code.max_stack ≡ true = grind (arith, nat_tests, fits) in
    let ls = from_front (take keeps before) (items m adds.0 adds.1) locals middle locals_read in
    let os = from_front [] (items m pushes.0 pushes.1) stack end stack_read in
    rw (keeps_is, adds_are, pushes_are, enough, room, starts, ls.1, os.1) (so_read at _ locals _ stack _ end ls.2 os.2 os.3)

-- the same read, at an offset and with local variables that are the same
pub read_same : (at at' : ℕ) (locals locals' stack : List VType) (rest : List ℕ) → at ≡ at' → locals ≡ locals'
    → ◌≡◌ {A = Result (Spelled × List ℕ) StackMapFault} (Ok (record { offset = at; locals = locals; stack = stack }, rest)) (Ok (record { offset = at'; locals = locals'; stack = stack }, rest))
read_same at at' locals locals' stack rest e f = λ i. Ok (record { offset = e i; locals = f i; stack = stack }, rest)
