-- The frames among the outputs of an event stand turn by turn.
use Rattle.std.proofs.Common.{◌≡◌, ℕ, suc, true, false, cond, List, [], ◌∷◌, ◌++◌, refl, sym, ap, ◌∙◌, append_assoc, append-nil}
use Rattle.std.specs.Prelude.{◌==◌, filter, map}
use Rattle.std.specs.List.{flat_map}
use Rattle.std.proofs.lemmas.Grind.{flat_map-append}
use Rattle.net_message.specs.declared.message.Message.{Message}
use Rattle.sp_rules.specs.Events.{Output, Started, Ended, Withdrawn, Denied, Send, Dial, Close, Ready, Turn, Hellos, Replies, Waited, Cleans, Dirties, Calls, Acks, Note, Says, Sends, turn_rank, output_rank, rank, output_of, of_rank, of_ranks, in_order}
use Rattle.sp_outputs.specs.Frames.{frame_in, frames_in, noted_in, turns}

-- an output of a rank of no frame without a turn
said : (k : ℕ) → (14 == k) ≡ false → (o : Output) → cond (output_rank o == k) (frame_in o) [] ≡ []
said k never (Started task) = elim (0 == k) as (λ b. ◌≡◌ {A = List (ℕ × Message)} (cond b [] []) []) [ true ↦ refl | false ↦ refl ]
said k never (Ended task outcome) = elim (1 == k) as (λ b. ◌≡◌ {A = List (ℕ × Message)} (cond b [] []) []) [ true ↦ refl | false ↦ refl ]
said k never (Withdrawn ids) = elim (2 == k) as (λ b. ◌≡◌ {A = List (ℕ × Message)} (cond b [] []) []) [ true ↦ refl | false ↦ refl ]
said k never (Denied fault) = elim (3 == k) as (λ b. ◌≡◌ {A = List (ℕ × Message)} (cond b [] []) []) [ true ↦ refl | false ↦ refl ]
said k never (Send conn message) = ap (λ b. cond b ((conn, message) ∷ []) []) never
said k never (Dial peer) = elim (11 == k) as (λ b. ◌≡◌ {A = List (ℕ × Message)} (cond b [] []) []) [ true ↦ refl | false ↦ refl ]
said k never (Close conn) = elim (12 == k) as (λ b. ◌≡◌ {A = List (ℕ × Message)} (cond b [] []) []) [ true ↦ refl | false ↦ refl ]
said k never (Ready task) = elim (13 == k) as (λ b. ◌≡◌ {A = List (ℕ × Message)} (cond b [] []) []) [ true ↦ refl | false ↦ refl ]

-- one more note of a rank
more : (k : ℕ) (n : Note) (notes : List Note) → frames_in (of_rank (n ∷ notes) k) ≡ cond (rank n == k) (frame_in (output_of n)) [] ++ frames_in (of_rank notes k)
more k n notes = elim (rank n == k) as (λ b. frames_in (map output_of (cond b (n ∷ filter (λ (m : Note). rank m == k) notes) (filter (λ (m : Note). rank m == k) notes))) ≡ cond b (frame_in (output_of n)) [] ++ frames_in (of_rank notes k)) [ true ↦ refl | false ↦ refl ]

no-send : (t : Turn) → (14 == turn_rank t) ≡ false
no-send Hellos = refl
no-send Replies = refl
no-send Waited = refl
no-send Cleans = refl
no-send Dirties = refl
no-send Calls = refl
no-send Acks = refl

-- the frames of a turn's rank are those that were noted with the turn
pub of-turn : (t : Turn) (notes : List Note) → frames_in (of_rank notes (turn_rank t)) ≡ noted_in notes t
of-turn t [] = refl
of-turn t (Says o ∷ notes) = more (turn_rank t) (Says o) notes ∙ ap (λ l. l ++ frames_in (of_rank notes (turn_rank t))) (said (turn_rank t) (no-send t) o) ∙ of-turn t notes
of-turn t (Sends turn conn message ∷ notes) = more (turn_rank t) (Sends turn conn message) notes ∙ ap (λ l. cond (turn_rank turn == turn_rank t) ((conn, message) ∷ []) [] ++ l) (of-turn t notes)

-- a rank that no turn has has no frame
pub of-none : (k : ℕ) → (14 == k) ≡ false → ((t : Turn) → (turn_rank t == k) ≡ false) → (notes : List Note) → frames_in (of_rank notes k) ≡ []
of-none k never none [] = refl
of-none k never none (Says o ∷ notes) = more k (Says o) notes ∙ ap (λ l. l ++ frames_in (of_rank notes k)) (said k never o) ∙ of-none k never none notes
of-none k never none (Sends turn conn message ∷ notes) = more k (Sends turn conn message) notes ∙ ap (λ b. cond b ((conn, message) ∷ []) [] ++ frames_in (of_rank notes k)) (none turn) ∙ of-none k never none notes

-- no turn has the ranks of the other outputs
none-0 : (t : Turn) → (turn_rank t == 0) ≡ false
none-0 t = elim t as (λ u. (turn_rank u == 0) ≡ false) [ Hellos ↦ refl | Replies ↦ refl | Waited ↦ refl | Cleans ↦ refl | Dirties ↦ refl | Calls ↦ refl | Acks ↦ refl ]

none-1 : (t : Turn) → (turn_rank t == 1) ≡ false
none-1 t = elim t as (λ u. (turn_rank u == 1) ≡ false) [ Hellos ↦ refl | Replies ↦ refl | Waited ↦ refl | Cleans ↦ refl | Dirties ↦ refl | Calls ↦ refl | Acks ↦ refl ]

none-2 : (t : Turn) → (turn_rank t == 2) ≡ false
none-2 t = elim t as (λ u. (turn_rank u == 2) ≡ false) [ Hellos ↦ refl | Replies ↦ refl | Waited ↦ refl | Cleans ↦ refl | Dirties ↦ refl | Calls ↦ refl | Acks ↦ refl ]

none-3 : (t : Turn) → (turn_rank t == 3) ≡ false
none-3 t = elim t as (λ u. (turn_rank u == 3) ≡ false) [ Hellos ↦ refl | Replies ↦ refl | Waited ↦ refl | Cleans ↦ refl | Dirties ↦ refl | Calls ↦ refl | Acks ↦ refl ]

none-11 : (t : Turn) → (turn_rank t == 11) ≡ false
none-11 t = elim t as (λ u. (turn_rank u == 11) ≡ false) [ Hellos ↦ refl | Replies ↦ refl | Waited ↦ refl | Cleans ↦ refl | Dirties ↦ refl | Calls ↦ refl | Acks ↦ refl ]

none-12 : (t : Turn) → (turn_rank t == 12) ≡ false
none-12 t = elim t as (λ u. (turn_rank u == 12) ≡ false) [ Hellos ↦ refl | Replies ↦ refl | Waited ↦ refl | Cleans ↦ refl | Dirties ↦ refl | Calls ↦ refl | Acks ↦ refl ]

none-13 : (t : Turn) → (turn_rank t == 13) ≡ false
none-13 t = elim t as (λ u. (turn_rank u == 13) ≡ false) [ Hellos ↦ refl | Replies ↦ refl | Waited ↦ refl | Cleans ↦ refl | Dirties ↦ refl | Calls ↦ refl | Acks ↦ refl ]

-- one more rank, with a frame or with none
with : (k : ℕ) (notes : List Note) (a b : List (ℕ × Message)) → frames_in (of_ranks k notes) ≡ a → frames_in (of_rank notes k) ≡ b → frames_in (of_ranks (suc k) notes) ≡ a ++ b
with k notes a b before at = flat_map-append frame_in (of_ranks k notes) (of_rank notes k) ∙ (λ i. before i ++ at i)

without : (k : ℕ) (notes : List Note) (a : List (ℕ × Message)) → frames_in (of_ranks k notes) ≡ a → frames_in (of_rank notes k) ≡ [] → frames_in (of_ranks (suc k) notes) ≡ a
without k notes a before at = with k notes a [] before at ∙ append-nil a

-- turn by turn
joined : {A : Type 0} (a b c d e f g : List A) → ((((((a ++ b) ++ c) ++ d) ++ e) ++ f) ++ g) ≡ a ++ (b ++ (c ++ (d ++ (e ++ (f ++ (g ++ []))))))
joined a b c d e f g =
    append_assoc (((((a ++ b) ++ c) ++ d) ++ e)) f g ∙ append_assoc (((a ++ b) ++ c) ++ d) e (f ++ g) ∙ append_assoc ((a ++ b) ++ c) d (e ++ (f ++ g)) ∙ append_assoc (a ++ b) c (d ++ (e ++ (f ++ g)))
    ∙ append_assoc a b (c ++ (d ++ (e ++ (f ++ g)))) ∙ ap (λ l. a ++ (b ++ (c ++ (d ++ (e ++ (f ++ l)))))) (sym (append-nil g))

pub in-turns : (notes : List Note) → frames_in (in_order notes) ≡ flat_map (noted_in notes) turns
unfolding in_order
in-turns notes =
    let r1 = without 0 notes [] refl (of-none 0 refl none-0 notes) in
    let r2 = without 1 notes [] r1 (of-none 1 refl none-1 notes) in
    let r3 = without 2 notes [] r2 (of-none 2 refl none-2 notes) in
    let r4 = without 3 notes [] r3 (of-none 3 refl none-3 notes) in
    let r5 = with 4 notes _ _ r4 (of-turn Hellos notes) in
    let r6 = with 5 notes _ _ r5 (of-turn Replies notes) in
    let r7 = with 6 notes _ _ r6 (of-turn Waited notes) in
    let r8 = with 7 notes _ _ r7 (of-turn Cleans notes) in
    let r9 = with 8 notes _ _ r8 (of-turn Dirties notes) in
    let r10 = with 9 notes _ _ r9 (of-turn Calls notes) in
    let r11 = with 10 notes _ _ r10 (of-turn Acks notes) in
    let r12 = without 11 notes _ r11 (of-none 11 refl none-11 notes) in
    let r13 = without 12 notes _ r12 (of-none 12 refl none-12 notes) in
    let r14 = without 13 notes _ r13 (of-none 13 refl none-13 notes) in
    r14 ∙ joined (noted_in notes Hellos) (noted_in notes Replies) (noted_in notes Waited) (noted_in notes Cleans) (noted_in notes Dirties) (noted_in notes Calls) (noted_in notes Acks)
