use Rattle.std.proofs.Common.{ℕ, ◌+◌, List, [], ◌∷◌, ◌++◌, ap, ◌∙◌}
use Rattle.std.proofs.lemmas.List.{map-append}
use Rattle.sp_parked.specs.Parkings.{last_ticket, parked_of}
use Rattle.sp_parked.specs.declared.frame.ParkedFrame.{ParkedFrame}
use Rattle.sp_rules.specs.State as rules
use Rattle.sp_living.specs.Parts.{AreParkedIn}
use Rattle.sp_living.proofs.TableLemmas.{parked-changed}
use Rattle.sp_living.proofs.OnceLemmas.{once-more}
use Rattle.sp_living.proofs.living.Living.put_frame.Goals as goal

pub returns-clause-parked : goal.returns-clause-parked
returns-clause-parked c = λ g s a.
    let p = a.parked in
    let frame = c.args.frame in
    let row : ℕ × ParkedFrame = (last_ticket c.reserve.new.self + 1, frame) in
    let now : AreParkedIn (s.parked ++ parked_of frame ∷ []) c.park_reserved.new.self = record {
      frames = p.frames ++ row ∷ [];
      are = map-append (λ (row : ℕ × ParkedFrame). parked_of row.1) p.frames (row ∷ []) ∙ ap (λ (l : List rules.ParkedFrame). l ++ parked_of frame ∷ []) p.are;
      ticketed = c.park_reserved.ensures.parked p.frames (c.reserve.ensures.same p.frames p.ticketed);
      once = once-more s.parked (parked_of frame) p.once (c.in_ok-is_parked.ensures c.if-branch.false g s a);
    } in
    parked-changed g s c.args.self.now (s.parked ++ parked_of frame ∷ []) c.park_reserved.new.self a now
