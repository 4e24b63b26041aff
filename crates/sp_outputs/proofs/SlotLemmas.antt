-- Slots that hold notes, and what is told of them.
use Rattle.std.proofs.Common.{◌≡◌, ℕ, suc, ◌+◌, ◌<◌, ◌≤◌, Bool, true, false, cond, List, [], ◌∷◌, ◌++◌, Option, None, Some, refl, sym, ap, ◌∙◌, length, take, drop, get_or, set, true≢false, arith, add-one, append_assoc, append-nil, length-append, nat_le}
use Rattle.std.specs.Prelude.{◌&&◌, ◌==◌, not, filter, map, option_to_list}
use Rattle.std.specs.List.{list_all}
use Rattle.std.proofs.lemmas.Grind.{flat_map-append}
use Rattle.std.proofs.lemmas.List.{drop_more, set_split, take-append-drop, take_more, take_more_set, length-set, map-append, drop-set-lt}
use Rattle.std.proofs.lemmas.List.Elements.{filter-append}
use Rattle.sp_rules.specs.Events as rules
use Rattle.sp_outputs.specs.Notes.{note_of, noted, noted_at, output_of, turn_of}
use Rattle.sp_outputs.specs.Said.{is_noted, is_said}
use Rattle.sp_outputs.specs.declared.note.Note.{Note}
use Rattle.sp_outputs.specs.declared.note.Note.TheVariants.{Says, Sends}
use Rattle.sp_outputs.specs.declared.output.Output.{Output}
use Rattle.sp_outputs.specs.declared.output.Output.TheVariants as output
use Rattle.sp_outputs.specs.declared.output.Turn.{Turn}
use Rattle.sp_outputs.specs.declared.output.Turn.TheVariants as turn
use Rattle.sp_outputs.proofs.OrderLemmas.{from_rank, of_others}

-- ---- slots that are full

both : (a b : Bool) → (a && b) ≡ true → (a ≡ true) × (b ≡ true)
both true b e = (refl, e)
both false b e = absurd (true≢false (sym e))

-- each slot holds a note
pub all-noted : (slots : List (Option Note)) → list_all is_noted slots ≡ true → length (noted slots) ≡ length slots
all-noted [] all = refl
all-noted (None ∷ slots) all = absurd (true≢false (sym all))
all-noted (Some n ∷ slots) all = ap suc (all-noted slots (both (is_noted (Some n)) (list_all is_noted slots) all).1)

-- one note more
pub one-noted : (slots : List (Option Note)) (slot : Option Note) → list_all is_noted slots ≡ true → is_noted slot ≡ true → list_all is_noted (slots ++ slot ∷ []) ≡ true
one-noted [] slot all one = (λ i. one i && true)
one-noted (s ∷ slots) slot all one = let b = both (is_noted s) (list_all is_noted slots) all in (λ i. b.0 i && one-noted slots slot b.1 one i)

-- an output that is no frame has a rank, and so has each turn
said-rank : (o : Output) → is_said o ≡ true → nat_le 14 (rules.output_rank (output_of o)) ≡ false
said-rank (output.Started task) said = refl
said-rank (output.Ended task outcome) said = refl
said-rank (output.Withdrawn ids) said = refl
said-rank (output.Denied fault) said = refl
said-rank (output.Send conn message) said = absurd (true≢false (sym said))
said-rank (output.Dial peer) said = refl
said-rank (output.Close conn) said = refl
said-rank (output.Ready task) said = refl

sent-rank : (t : Turn) → nat_le 14 (rules.turn_rank (turn_of t)) ≡ false
sent-rank turn.Hellos = refl
sent-rank turn.Replies = refl
sent-rank turn.Waited = refl
sent-rank turn.Cleans = refl
sent-rank turn.Dirties = refl
sent-rank turn.Calls = refl
sent-rank turn.Acks = refl

noted-rank : (n : Note) → is_noted (Some n) ≡ true → nat_le 14 (rules.rank (note_of n)) ≡ false
noted-rank (Says o) is = said-rank o is
noted-rank (Sends t conn message) is = sent-rank t

-- after the last rank no note is left
pub none-left : (slots : List (Option Note)) → list_all is_noted slots ≡ true → from_rank 14 (noted slots) ≡ []
none-left [] all = refl
none-left (None ∷ slots) all = absurd (true≢false (sym all))
none-left (Some n ∷ slots) all =
    let b = both (is_noted (Some n)) (list_all is_noted slots) all in
    ap (λ t. cond t (note_of n ∷ from_rank 14 (noted slots)) (from_rank 14 (noted slots))) (noted-rank n b.0) ∙ none-left slots b.1

-- ---- slots that are passed one by one

-- the notes before a slot, in it and after it
noted-parts : (slots : List (Option Note)) (i : ℕ) (d : Option Note) → i < length slots → noted slots ≡ noted (take i slots) ++ (noted_at (get_or slots i d) ++ noted (drop (i + 1) slots))
noted-parts slots i d h =
    ap noted (sym (take-append-drop i slots)) ∙ flat_map-append noted_at (take i slots) (drop i slots)
    ∙ ap (λ l. noted (take i slots) ++ noted l) (drop_more slots i d h)

noted-set : (slots : List (Option Note)) (i : ℕ) (new : Option Note) → i < length slots → noted (set slots i new) ≡ noted (take i slots) ++ (noted_at new ++ noted (drop (i + 1) slots))
noted-set slots i new h =
    ap noted (set_split slots i new h) ∙ flat_map-append noted_at (take i slots) (new ∷ drop (suc i) slots)
    ∙ ap (λ n. noted (take i slots) ++ (noted_at new ++ noted (drop n slots))) (sym (add-one i))

-- The first slots are passed: their notes of a rank are told, and the others stand there still.
pub record ArePassed (rank i : ℕ) (was now : List (Option Note)) (before after : List Output) : Type 0 where
  pub told : map output_of after ≡ map output_of before ++ rules.of_rank (noted (take i was)) rank
  pub others : noted (take i now) ≡ of_others rank (noted (take i was))
  pub rest : drop i now ≡ drop i was
  pub slots : length now ≡ length was

-- one slot more
pub one-passed : (rank i : ℕ) (was now : List (Option Note)) (before told : List Output) (item new : Option Note) (out : Option Output) → i < length now → item ≡ get_or now i item
    → map output_of (option_to_list out) ≡ rules.of_rank (noted_at item) rank → noted_at new ≡ of_others rank (noted_at item)
    → ArePassed rank i was now before told → ArePassed rank (i + 1) was (set now i new) before (told ++ option_to_list out)
one-passed rank i was now before told item new out h is taken left p =
    let below : i < length was = omega (arith, p.slots) in
    let heads : (get_or now i item ∷ drop (i + 1) now) ≡ (get_or was i item ∷ drop (i + 1) was) = sym (drop_more now i item h) ∙ p.rest ∙ drop_more was i item below in
    let same : item ≡ get_or was i item = is ∙ ap (λ l. get_or l 0 item) heads in
    let more : noted (take (i + 1) was) ≡ noted (take i was) ++ noted_at item =
    ap noted (take_more was i item below) ∙ flat_map-append noted_at (take i was) (get_or was i item ∷ []) ∙ ap (λ s. noted (take i was) ++ (noted_at s ++ [])) (sym same) ∙ ap (λ l. noted (take i was) ++ l) (append-nil (noted_at item)) in
    record {
      told = map-append output_of told (option_to_list out) ∙ (λ j. p.told j ++ taken j)
          ∙ append_assoc (map output_of before) (rules.of_rank (noted (take i was)) rank) (rules.of_rank (noted_at item) rank)
          ∙ ap (λ l. map output_of before ++ l) (sym (of-rank-append (noted (take i was)) (noted_at item) rank)) ∙ ap (λ l. map output_of before ++ rules.of_rank l rank) (sym more);
      others = ap noted (take_more_set now i new h) ∙ flat_map-append noted_at (take i now) (new ∷ []) ∙ ap (λ l. noted (take i now) ++ l) (append-nil (noted_at new)) ∙ (λ j. p.others j ++ left j)
          ∙ sym (filter-append (λ (n : rules.Note). not (rules.rank n == rank)) (noted (take i was)) (noted_at item)) ∙ ap (of_others rank) (sym more);
      rest = drop-set-lt (i + 1) now i new (omega arith) ∙ ap (drop 1) heads;
      slots = length-set now i new ∙ p.slots;
    }
  where
    of-rank-append : (a b : List rules.Note) (k : ℕ) → rules.of_rank (a ++ b) k ≡ rules.of_rank a k ++ rules.of_rank b k
    of-rank-append a b k = ap (map rules.output_of) (filter-append (λ (n : rules.Note). rules.rank n == k) a b) ∙ map-append rules.output_of (filter (λ (n : rules.Note). rules.rank n == k) a) (filter (λ (n : rules.Note). rules.rank n == k) b)

-- as many notes are told as slots are emptied
pub one-counted : (i told out before : ℕ) (was now : List (Option Note)) (item new : Option Note) → i < length now → item ≡ get_or now i item
    → out + length (noted_at new) ≡ length (noted_at item) → told + length (noted now) ≡ before + length (noted was) → (told + out) + length (noted (set now i new)) ≡ before + length (noted was)
one-counted i told out before was now item new h is count all =
    let a = ap length (noted-parts now i item h) in
    let b = ap length (noted-set now i new h) in
    let e : noted_at (get_or now i item) ≡ noted_at item = ap noted_at (sym is) in
    let f : length (noted (take i now) ++ (noted_at item ++ noted (drop (i + 1) now))) ≡ length (noted (take i now)) + (length (noted_at item) + length (noted (drop (i + 1) now))) = simp length-append in
    let g : length (noted (take i now) ++ (noted_at new ++ noted (drop (i + 1) now))) ≡ length (noted (take i now)) + (length (noted_at new) + length (noted (drop (i + 1) now))) = simp length-append in
    let a1 : length (noted now) ≡ length (noted (take i now)) + (length (noted_at item) + length (noted (drop (i + 1) now))) = a ∙ ap (λ l. length (noted (take i now) ++ (l ++ noted (drop (i + 1) now)))) e ∙ f in
    let b1 : length (noted (set now i new)) ≡ length (noted (take i now)) + (length (noted_at new) + length (noted (drop (i + 1) now))) = b ∙ g in
    omega (arith, a1, b1)

-- a slot that holds a note
pub one-there : (i : ℕ) (now : List (Option Note)) (item : Option Note) → i < length now → item ≡ get_or now i item → length (noted_at item) ≤ length (noted now)
one-there i now item h is =
    let a : length (noted now) ≡ length (noted (take i now)) + (length (noted_at (get_or now i item)) + length (noted (drop (i + 1) now))) = ap length (noted-parts now i item h) ∙ (simp length-append) in
    let e : length (noted_at (get_or now i item)) ≡ length (noted_at item) = ap (λ s. length (noted_at s)) (sym is) in
    omega (arith, a, e)
