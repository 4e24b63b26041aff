-- What is read of a StackMapTable is what it declares, in both directions.
use Rattle.std.proofs.Common.{◌≡◌, ℕ, zero, suc, Option, Some, None, Result, Ok, Err, List, [], ◌∷◌, length, refl, ap, sym, subst, ◌∙◌}
use Rattle.std.specs.Prelude.{map, IfOk, MatchOption}
use Rattle.std.specs.List.{AllByRecursion}
use Rattle.ver_frames.specs.Frames.{Frame}
use Rattle.ver_frames.specs.Gives.{Gives}
use Rattle.ver_frames.specs.Method.{Subject, argument_types}
use Rattle.ver_frames.specs.StackMap.{or_broken, declared_frames, frame, frames, frames_of, frames_of_table, u2}
use Rattle.ver_frames.specs.StackMapFormat.{DeclaresFrames, IsFrameOf, SpellFrames, Spelled, SpellsFrame, SpellsTable, declared_by, two_bytes}
use Rattle.ver_frames.specs.StackMapFormat.SpellFrames.{none, one_more}
use Rattle.ver_frames.specs.declared.fault.StackMapFault.{StackMapFault}
use Rattle.ver_frames.specs.declared.fault.StackMapRule.TheVariants.{Reserved}
use Rattle.ver_frames.specs.declared.vtype.VType.{VType}
use Rattle.ver_frames.proofs.FrameKinds.{parts_spell, spelled_parts}
use Rattle.ver_frames.proofs.FrameLimits.{both, same_frames, there}
use Rattle.ver_frames.proofs.FrameParts.{frame_parts, parts_frame}
use Rattle.ver_frames.proofs.StackMapItems.{two_of}

-- ---- one frame

abbrev IsSpelled : Subject → Option ℕ → List VType → List ℕ → Spelled × List ℕ → Type 0
IsSpelled m last before bytes read = SpellsFrame m last before bytes read.0 read.1 × IsFrameOf m read.0

frame_spells : (m : Subject) (last : Option ℕ) (before : List VType) (bytes : List ℕ) (read : Spelled × List ℕ) → frame m last before bytes ≡ Ok read → IsSpelled m last before bytes read
unfolding frame
frame_spells m last before [] read e = absurd (cc)
frame_spells m last before (tag ∷ rest) read e =
    let p = frame_parts m last before tag rest read e in
    (parts_spell m last before tag rest read p.0, p.1)

frame_again : (m : Subject) (last : Option ℕ) (before : List VType) (bytes end : List ℕ) (spelled : Spelled) → SpellsFrame m last before bytes spelled end → IsFrameOf m spelled
    → frame m last before bytes ≡ Ok (spelled, end)
frame_again m last before bytes end spelled spells suited =
    let t = spelled_parts m last before spells in
    subst (λ (b : List ℕ). frame m last before b ≡ Ok (spelled, end)) (sym t.bytes_are) (parts_frame m last before t.tag t.rest (spelled, end) t.parts suited)

-- ---- n frames

-- the n frames that bytes spell; each is one of the method
record Spelling (m : Subject) (n : ℕ) (last : Option ℕ) (before : List VType) (bytes : List ℕ) (declared : List (ℕ × Frame)) : Type 0 where
  spelled : List Spelled
  spells : SpellFrames m last before bytes spelled
  long : length spelled ≡ n
  suited : AllByRecursion (IsFrameOf m) spelled
  declared_are : declared ≡ map (declared_by m) spelled

frames_spell : (m : Subject) (n : ℕ) (last : Option ℕ) (before : List VType) (bytes : List ℕ) (ds : List (ℕ × Frame)) → frames m n last before bytes ≡ Ok ds → Spelling m n last before bytes ds
unfolding frames
frames_spell m zero last before [] ds e = record { spelled = []; spells = none last before; long = refl; suited = tt; declared_are = sym (same_frames [] ds e) }
frames_spell m zero last before (byte ∷ bytes) ds e = absurd (cc)
frames_spell m (suc n) last before bytes ds e =
    let first = both (frame m last before bytes) _ ds e in
    let others = both (frames m n (Some first.0.0.offset) first.0.0.locals first.0.1) _ ds first.1.1 in
    let one = frame_spells m last before bytes first.0 first.1.0 in
    let more = frames_spell m n (Some first.0.0.offset) first.0.0.locals first.0.1 others.0 others.1.0 in
    record {
      spelled = first.0.0 ∷ more.spelled;
      spells = one_more last before bytes first.0.1 first.0.0 more.spelled one.0 more.spells;
      long = ap suc more.long;
      suited = (one.1, more.suited);
      declared_are = sym (same_frames _ ds others.1.1) ∙ ap (λ (fs : List (ℕ × Frame)). declared_by m first.0.0 ∷ fs) more.declared_are;
    }

frames_again : (m : Subject) {last : Option ℕ} {before : List VType} {bytes : List ℕ} {spelled : List Spelled} → SpellFrames m last before bytes spelled → AllByRecursion (IsFrameOf m) spelled
    → frames m (length spelled) last before bytes ≡ Ok (map (declared_by m) spelled)
unfolding frames
frames_again m (none last before) suited = refl
frames_again m (one_more last before bytes rest first others spells more) suited =
    rw (frame_again m last before bytes rest first spells suited.0, frames_again m more suited.1) refl

-- ---- the table

-- what a method declares by its table, or without one
record Declared (m : Subject) (table : Option (List ℕ)) (declared : List (ℕ × Frame)) : Type 0 where
  spelled : List Spelled
  spells : MatchOption table (spelled ≡ []) (λ bytes. SpellsTable m bytes spelled)
  suited : AllByRecursion (IsFrameOf m) spelled
  declared_are : declared ≡ map (declared_by m) spelled

table_declares : (m : Subject) (table : Option (List ℕ)) (ds : List (ℕ × Frame)) → frames_of m table ≡ Ok ds → Declared m table ds
unfolding frames_of_table
table_declares m None ds e = record { spelled = []; spells = refl; suited = tt; declared_are = sym (same_frames [] ds e) }
table_declares m (Some bytes) ds e =
    let count = both (or_broken Reserved 0 (u2 bytes)) _ ds e in
    let two = two_of bytes count.0 (there Reserved 0 (u2 bytes) count.0 count.1.0) in
    let s = frames_spell m count.0.0 None (argument_types m) count.0.1 ds count.1.1 in
    record {
      spelled = s.spelled;
      spells = record { high = two.0; low = two.1; entries = count.0.1; bytes_are = two.2; number_is = s.long ∙ two.3; frames = s.spells };
      suited = s.suited;
      declared_are = s.declared_are;
    }

table_again : (m : Subject) (table : Option (List ℕ)) (ds : List (ℕ × Frame)) → Declared m table ds → frames_of m table ≡ Ok ds
unfolding frames_of_table
table_again m None ds d = ap (λ (fs : List (ℕ × Frame)). Ok fs) (sym (d.declared_are ∙ ap (λ (s : List Spelled). map (declared_by m) s) d.spells))
table_again m (Some bytes) ds d =
    let read : frames m (two_bytes d.spells.high d.spells.low) None (argument_types m) d.spells.entries ≡ Ok (map (declared_by m) d.spelled) =
    subst (λ (n : ℕ). frames m n None (argument_types m) d.spells.entries ≡ Ok (map (declared_by m) d.spelled)) d.spells.number_is (frames_again m d.spells.frames d.suited) in
    rw (d.spells.bytes_are) (read ∙ ap (λ (fs : List (ℕ × Frame)). Ok fs) (sym d.declared_are))

-- ---- the method

-- what is read a method declares
pub read_declares : (m : Subject) (ds : List (ℕ × Frame)) → declared_frames m ≡ Ok ds → DeclaresFrames m ds
unfolding declared_frames
read_declares m ds e =
    let d = table_declares m m.code.stack_map_table ds e in
    record { spelled = d.spelled; table = d.spells; suited = d.suited; declared_are = d.declared_are }

-- what a method declares is read
pub declares_again : (m : Subject) (ds : List (ℕ × Frame)) → DeclaresFrames m ds → declared_frames m ≡ Ok ds
unfolding declared_frames
declares_again m ds d = table_again m m.code.stack_map_table ds (record { spelled = d.spelled; spells = d.table; suited = d.suited; declared_are = d.declared_are })

-- what a function gives of the reading it gives of what the method declares

pub given_found : {X : Type 0} (view : X → List (ℕ × Frame)) (m : Subject) (r : Result X StackMapFault) → Gives view r (declared_frames m) → IfOk r (λ x. DeclaresFrames m (view x))
given_found view m (Ok x) gives = read_declares m (view x) gives
given_found view m (Err e) gives = tt

pub given_only : {X : Type 0} (view : X → List (ℕ × Frame)) (m : Subject) (r : Result X StackMapFault) → Gives view r (declared_frames m) → (ds : List (ℕ × Frame)) → DeclaresFrames m ds
    → Gives view r (Ok ds)
given_only view m r gives ds d = subst (λ (read : Result (List (ℕ × Frame)) StackMapFault). Gives view r read) (declares_again m ds d) gives
