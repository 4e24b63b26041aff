-- One stored entry more: what lies under the lock still replays, and what is seen of it.
use Rattle.std.specs.Global.{Global}
use Rattle.std.specs.Prelude.{remove}
use Rattle.std.proofs.Common.{arith, slice_index_or, Vec, ◌≡◌, ◌<◌, ℕ, zero, suc, length, take, get_or, not, Bool, true, false, List, [], ◌∷◌, ◌++◌, map, filter, if◌then◌else◌, sym, refl, ap, ◌∙◌, subst, append_assoc, append-nil}
use Rattle.sp_outputs.specs.Notes.{output_of}
use Rattle.sp_outputs.specs.declared.output.Output as declared
use Rattle.sp_rules.specs.Books as rules
use Rattle.sp_rules.specs.Books.{IsTrueEntry, event_of}
use Rattle.sp_rules.specs.Classes.{Setting}
use Rattle.sp_rules.specs.Events.{Output}
use Rattle.sp_rules.specs.Space.{on}
use Rattle.sp_rules.specs.State.{State}
use Rattle.sp_history.specs.Books.{Replays, is_ready, run_from, told}
use Rattle.sp_history.specs.Entries.{entry_of, numbered_entry, outputs_in_all}
use Rattle.sp_history.specs.Logs.{Log, start_of, unnumbered}
use Rattle.sp_history.specs.declared.entry.Entry.{Entry}
use Rattle.sp_history.proofs.BookLemmas.{replays_on, runs_on}

-- the entries of the rules
abbrev pub Entries : List Entry → List rules.Entry
Entries h = unnumbered (map numbered_entry h)

-- the state to which they replay from one
abbrev pub state_at : Setting → State → List Entry → State
state_at g s h = run_from g s (Entries h)

-- what the event of an entry answers after others
abbrev pub answers_at : Setting → State → List Entry → Entry → List Output
answers_at g s h e = (on g (event_of (entry_of e.call)) (state_at g s h)).1

entries_push : (h : List Entry) (e : Entry) → Entries (h ++ e ∷ []) ≡ Entries h ++ entry_of e.call ∷ []
entries_push [] e = refl
entries_push (x ∷ xs) e = ap (λ l. entry_of x.call ∷ l) (entries_push xs e)

numbered_push : (h : List Entry) (e : Entry) → map numbered_entry (h ++ e ∷ []) ≡ map numbered_entry h ++ (e.by, entry_of e.call) ∷ []
numbered_push [] e = refl
numbered_push (x ∷ xs) e = ap (λ (l : List (ℕ × rules.Entry)). numbered_entry x ∷ l) (numbered_push xs e)

pub batches_push : (ws : List (Vec declared.Output Global)) (w : Vec declared.Output Global) → outputs_in_all (ws ++ w ∷ []) ≡ outputs_in_all ws ++ map output_of w.items
batches_push [] w = append-nil (map output_of w.items)
batches_push (x ∷ xs) w = ap (λ l. map output_of x.items ++ l) (batches_push xs w) ∙ sym (append_assoc (map output_of x.items) (outputs_in_all xs) (map output_of w.items))

-- one element more of a list is taken
pub take_push : {A : Type 0} (xs : List A) (i : ℕ) (x : A) → i < length xs → x ≡ get_or xs i x → take (suc i) xs ≡ take i xs ++ x ∷ []
take_push [] i x below is = absurd (omega (arith, below))
take_push (y ∷ ys) zero x below is = ap (λ z. z ∷ []) (sym is)
take_push (y ∷ ys) (suc i) x below is = ap (λ l. y ∷ l) (take_push ys i x (omega (arith, below)) is)

-- the first element of a list is taken
pub first_off : {A : Type 0} (xs ys : List A) (x : A) → 0 < length xs → x ≡ slice_index_or xs 0 x → ys ≡ remove xs 0 → xs ≡ x ∷ ys
first_off [] ys x some is rest = absurd (omega (arith, some))
first_off (z ∷ zs) ys x some is rest = ap (λ l. z ∷ l) (sym rest) ∙ ap (λ h. h ∷ ys) (sym is)

-- ---- what is kept of the state and of what waits

-- a fact of the state after one entry more
pub stands_more : (Is : State → Type 0) (g : Setting) (s : State) (h es : List Entry) (e : Entry) → es ≡ h ++ e ∷ [] → Is (on g (event_of (entry_of e.call)) (state_at g s h)).0
    → Is (state_at g s es)
stands_more Is g s h es e items is =
    subst (λ l. Is (state_at g s l)) (sym items) (subst (λ l. Is (run_from g s l)) (sym (entries_push h e)) (runs_on Is g s (Entries h) (entry_of e.call) is))

-- the outputs of one event more wait, without those that are notices
pub waits_more : (told_of : List Output) (ws new : List (Vec declared.Output Global)) (w : Vec declared.Output Global) → new ≡ ws ++ w ∷ [] → map output_of w.items ≡ told told_of
    → outputs_in_all new ≡ outputs_in_all ws ++ told told_of
waits_more told_of ws new w pushed batch = ap outputs_in_all pushed ∙ batches_push ws w ∙ ap (λ l. outputs_in_all ws ++ l) batch

-- an event that answers nothing adds nothing
pub waits_still : (w quiet : List Output) → quiet ≡ [] → w ≡ w ++ told quiet
waits_still w quiet none = sym (ap (λ l. w ++ told l) none ∙ append-nil w)

pub replays_more : (g : Setting) (s : State) (b : List Output) (h es : List Entry) (w v : List Output) (e : Entry) → es ≡ h ++ e ∷ [] → Replays g s b (Entries h) w
    → IsTrueEntry g (state_at g s h) (entry_of e.call) → v ≡ w ++ told (answers_at g s h e) → Replays g s b (Entries es) v
replays_more g s b h es w v e items r is waits =
    subst (λ l. Replays g s b (Entries l) v) (sym items)
    (subst (λ l. Replays g s b l v) (sym (entries_push h e)) (subst (Replays g s b (Entries h ++ entry_of e.call ∷ [])) (sym waits) (replays_on g s b (Entries h) w (entry_of e.call) r is)))

-- ---- what is seen

abbrev pub log : List (ℕ × rules.Entry) → List Output → List (ℕ × rules.Entry) → List Output → ℕ → ℕ → Log
log cut before entries waiting in_hand limit = record { cut = cut; before = before; entries = entries; waiting = waiting; in_hand = in_hand; limit = limit }

-- the log after one entry more
pub logs_more : (g : Setting) (cut : List (ℕ × rules.Entry)) (b : List Output) (h es : List Entry) (w v : List Output) (e : Entry) (m n limit : ℕ) → es ≡ h ++ e ∷ []
    → v ≡ w ++ told (answers_at g (start_of g cut) h e) → m ≡ n
    → log cut b (map numbered_entry es) v m limit ≡ log cut b (map numbered_entry h ++ (e.by, entry_of e.call) ∷ []) (w ++ told (answers_at g (start_of g cut) h e)) n limit
logs_more g cut b h es w v e m n limit items waits lent =
    let entries = ap (map numbered_entry) items ∙ numbered_push h e in
    λ i. record { cut = cut; before = b; entries = entries i; waiting = waits i; in_hand = lent i; limit = limit }

-- ---- what is told

map_if : (b : Bool) (x : declared.Output) (xs : List declared.Output) → map output_of (if b then x ∷ xs else xs) ≡ (if b then output_of x ∷ map output_of xs else map output_of xs)
map_if true x xs = refl
map_if false x xs = refl

pub told_map : (xs : List declared.Output) → map output_of (filter (λ (o : declared.Output). not (is_ready (output_of o))) xs) ≡ told (map output_of xs)
told_map [] = refl
told_map (x ∷ xs) = map_if (not (is_ready (output_of x))) x (filter (λ (o : declared.Output). not (is_ready (output_of o))) xs)
    ∙ ap (λ (l : List Output). if not (is_ready (output_of x)) then output_of x ∷ l else l) (told_map xs)
