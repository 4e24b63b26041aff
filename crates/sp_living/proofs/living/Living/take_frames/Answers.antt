use Rattle.std.proofs.Common.{◌≡◌, ℕ, ◌+◌, ◌<◌, Bool, List, [], ◌∷◌, ◌++◌, Option, take, get_or, length, nat_eq, map, sym, ap, subst, ◌∙◌, arith, append-nil}
use Rattle.std.specs.Prelude.{filter, not}
use Rattle.std.specs.Map.{keys_of, lookup}
use Rattle.std.proofs.lemmas.Grind.{take_at_read}
use Rattle.std.proofs.lemmas.List.{take_all}
use Rattle.sp_parked.specs.Parkings.{AreParked, parked_of}
use Rattle.sp_parked.specs.declared.frame.ParkedFrame.{ParkedFrame}
use Rattle.sp_rules.specs.State as rules
use Rattle.sp_living.specs.Frames.{with_parked}
use Rattle.sp_living.specs.Livings.{IsLiving}
use Rattle.sp_living.specs.Parts.{AreParkedIn}
use Rattle.sp_living.specs.declared.living.Living.{Living}
use Rattle.sp_living.proofs.TableLemmas.{none-left, parked-changed}
use Rattle.sp_living.proofs.OnceLemmas.{once-filter}
use Rattle.sp_living.proofs.TicketLemmas.{all-found, all-left, found-more, found_at, left-more, left_at, listed, rows-kept, values-parked}
use Rattle.sp_living.proofs.living.Living.take_frames.Goals as goal
use Rattle.sp_living.proofs.living.Living.take_frames.Goals.{in-Some+in_ok-push, in_default}

next : (ts : List ℕ) (i : ℕ) → i < length ts → take (i + 1) ts ≡ take i ts ++ get_or ts i 0 ∷ []
next ts i within = (take_at_read ts i 0 within).1

pub loop-ticket-preserved : goal.loop-ticket-preserved
loop-ticket-preserved c =
    let i = c.loop-ticket.ticket-index in
    let ts = c.args.tickets.now in
    let inv = c.loop-ticket.invariant in
    let more = next ts i c.loop-ticket-test.true in record {
      others = ap (λ (l : Living). record l { parked = c.take.new.self }) inv.others;
      found = λ frames a.
          let had = c.take.ensures.frame (left_at (take i ts) frames) (inv.left frames a) in
          let grown : found_at (take (i + 1) ts) frames ≡ found_at (take i ts) frames ++ listed (lookup (nat_eq (get_or ts i 0)) (left_at (take i ts) frames)) =
          ap (λ (l : List ℕ). found_at l frames) more ∙ found-more (take i ts) (get_or ts i 0) frames in
          elim c.match-take.branch [
            | in-Some+in_ok-push w ↦
                ap (λ v. v.items) w.taken-is ∙ w.in_ok-push.ensures.items
                ∙ ap (λ (l : List ParkedFrame). l ++ w.in-Some.frame ∷ []) (inv.found frames a)
                ∙ ap (λ (o : Option ParkedFrame). found_at (take i ts) frames ++ listed o) (sym w.in-Some.is ∙ had)
                ∙ sym grown
            | in_default w ↦
                ap (λ v. v.items) w.taken-is ∙ inv.found frames a
                ∙ sym (grown ∙ ap (λ (o : Option ParkedFrame). found_at (take i ts) frames ++ listed o) (sym had ∙ none-left c.take.result w.in_default.not-Some) ∙ append-nil (found_at (take i ts) frames))
          ];
      left = λ frames a.
          subst (λ (l : List (ℕ × ParkedFrame)). AreParked l c.take.new.self) (sym (ap (λ (l : List ℕ). left_at l frames) more ∙ left-more (take i ts) (get_or ts i 0) frames))
          (c.take.ensures.taken (left_at (take i ts) frames) (inv.left frames a));
    }

pub returns-clause-frames : goal.returns-clause-frames
returns-clause-frames c = λ g s is a tickets.
    let p = a.parked in
    let i = c.loop-ticket.ticket-index in
    let ts = c.args.tickets.now in
    let these : ℕ × ParkedFrame → Bool = λ row. is (parked_of row.1) in
    let which : take i ts ≡ keys_of (filter these p.frames) = take_all i ts (omega arith) ∙ tickets p.frames p.ticketed in
    ap (map parked_of) (c.loop-ticket.invariant.found p.frames p.ticketed ∙ ap (λ (l : List ℕ). found_at l p.frames) which ∙ all-found these p.frames p.ticketed.rows.rises)
    ∙ values-parked (filter these p.frames) ∙ rows-kept is p.frames ∙ ap (filter is) p.are

pub returns-clause-left : goal.returns-clause-left
returns-clause-left c = λ g s is a tickets.
    let p = a.parked in
    let i = c.loop-ticket.ticket-index in
    let ts = c.args.tickets.now in
    let these : ℕ × ParkedFrame → Bool = λ row. is (parked_of row.1) in
    let others : rules.ParkedFrame → Bool = λ q. not (is q) in
    let which : take i ts ≡ keys_of (filter these p.frames) = take_all i ts (omega arith) ∙ tickets p.frames p.ticketed in
    let now : AreParkedIn (filter others s.parked) c.loop-ticket.self.parked = record {
      frames = filter (λ (row : ℕ × ParkedFrame). others (parked_of row.1)) p.frames;
      are = rows-kept others p.frames ∙ ap (filter others) p.are;
      ticketed = subst (λ (l : List (ℕ × ParkedFrame)). AreParked l c.loop-ticket.self.parked) (ap (λ (l : List ℕ). left_at l p.frames) which ∙ all-left these p.frames p.ticketed.rows.rises) (c.loop-ticket.invariant.left p.frames p.ticketed);
      once = once-filter others s.parked p.once;
    } in
    subst (IsLiving g (with_parked (filter others s.parked) s)) (sym c.loop-ticket.invariant.others) (parked-changed g s c.args.self.now (filter others s.parked) c.loop-ticket.self.parked a now)
