-- What is kept of a history as its entries are cut, and at first.
use Rattle.std.specs.Global.{Global}
use Rattle.std.proofs.Common.{arith, Vec, ◌≡◌, ◌≤◌, ℕ, ◌+◌, ◌-◌, ◌^◌, min, length, List, [], ◌∷◌, ◌++◌, map, sym, refl, ap, ◌∙◌, subst}
use Rattle.std.proofs.lemmas.List.{length-append, length-map}
use Rattle.sp_outputs.specs.declared.output.Output as declared
use Rattle.sp_rules.specs.Books as rules
use Rattle.sp_rules.specs.Classes.{Setting}
use Rattle.sp_rules.specs.Events.{Output}
use Rattle.sp_rules.specs.State.{State, opening}
use Rattle.sp_history.specs.Books.{Replays, run_from}
use Rattle.sp_history.specs.Entries.{numbered_entry, outputs_in_all}
use Rattle.sp_history.specs.Logs.{limit_after, start_of, unnumbered}
use Rattle.sp_history.specs.declared.entry.Entry.{Entry}
use Rattle.sp_history.proofs.BookLemmas.{replays_not, replays_then, run_append, runs_not}
use Rattle.sp_history.proofs.EntryLemmas.{Entries, state_at}

unnumbered_append : (es fs : List (ℕ × rules.Entry)) → unnumbered (es ++ fs) ≡ unnumbered es ++ unnumbered fs
unnumbered_append [] fs = refl
unnumbered_append (e ∷ es) fs = ap (λ l. e.1 ∷ l) (unnumbered_append es fs)

-- the state at the cut is the one to which the entries led
start_then : (g : Setting) (cut : List (ℕ × rules.Entry)) (h : List Entry) → start_of g (cut ++ map numbered_entry h) ≡ state_at g (start_of g cut) h
start_then g cut h = ap (run_from g opening) (unnumbered_append cut (map numbered_entry h)) ∙ run_append g opening (unnumbered cut) (Entries h)

-- ---- as entries are cut

-- a fact of the state
pub starts_there : (Is : State → Type 0) (g : Setting) (cut new : List (ℕ × rules.Entry)) (h : List Entry) → new ≡ cut ++ map numbered_entry h → Is (state_at g (start_of g cut) h)
    → Is (start_of g new)
starts_there Is g cut new h grown is = subst (λ l. Is (start_of g l)) (sym grown) (subst Is (sym (start_then g cut h)) is)

pub stands_there : (Is : State → Type 0) (g : Setting) (cut new : List (ℕ × rules.Entry)) (h es : List Entry) → new ≡ cut ++ map numbered_entry h → es ≡ [] → Is (state_at g (start_of g cut) h)
    → Is (state_at g (start_of g new) es)
stands_there Is g cut new h es grown none is = subst (λ l. Is (state_at g (start_of g new) l)) (sym none) (runs_not Is g (start_of g new) (starts_there Is g cut new h grown is))

-- what waits waited there
pub waits_there : (g : Setting) (start : State) (before w : List Output) (es : List Entry) → before ≡ w → es ≡ [] → Replays g start before (Entries es) w
waits_there g start before w es waited none = subst (λ l. Replays g start before (Entries l) w) (sym none) (subst (λ l. Replays g start l [] w) (sym waited) (replays_not g start w))

-- the entries that were cut are true from the first state on
pub cut_there : (g : Setting) (cut new : List (ℕ × rules.Entry)) (before after w : List Output) (h : List Entry) → new ≡ cut ++ map numbered_entry h → after ≡ w
    → Replays g opening [] (unnumbered cut) before → Replays g (start_of g cut) before (Entries h) w → Replays g opening [] (unnumbered new) after
cut_there g cut new before after w h grown waited first later =
    subst (λ l. Replays g opening [] (unnumbered l) after) (sym grown)
    (subst (λ l. Replays g opening [] l after) (sym (unnumbered_append cut (map numbered_entry h)))
    (subst (Replays g opening [] (unnumbered cut ++ Entries h)) (sym waited) (replays_then g opening [] (unnumbered cut) (Entries h) before w first later)))

pub counted_there : (cut new : List (ℕ × rules.Entry)) (h : List Entry) → new ≡ cut ++ map numbered_entry h → length new ≡ length cut + length h
counted_there cut new h grown = ap length grown ∙ length-append cut (map numbered_entry h) ∙ ap (λ n. length cut + n) (length-map h numbered_entry)

-- with those that were cut, no more than 2^63
pub room_after : (cut limit room : ℕ) → room ≡ limit_after cut limit → cut ≤ 2 ^ 63 → cut + room ≤ 2 ^ 63
room_after cut limit room is within = let left : room ≡ min limit (2 ^ 63 - cut) = is in omega (arith, left, within)

-- ---- at first

-- a fact of the first state
pub begins_there : (Is : State → Type 0) (g : Setting) (cut : List (ℕ × rules.Entry)) (es : List Entry) → cut ≡ [] → es ≡ [] → Is opening → Is (state_at g (start_of g cut) es)
begins_there Is g cut es nothing none is =
    subst (λ l. Is (state_at g (start_of g cut) l)) (sym none) (runs_not Is g (start_of g cut) (subst (λ l. Is (start_of g l)) (sym nothing) (runs_not Is g opening is)))

pub begins : (g : Setting) (start : State) (before : List Output) (es : List Entry) (ws : List (Vec declared.Output Global)) → before ≡ [] → es ≡ [] → ws ≡ []
    → Replays g start before (Entries es) (outputs_in_all ws)
begins g start before es ws nothing none quiet = subst (λ l. Replays g start before (Entries es) (outputs_in_all l)) (sym quiet) (waits_there g start before [] es nothing none)

pub begins_past : (g : Setting) (cut : List (ℕ × rules.Entry)) (before : List Output) → cut ≡ [] → before ≡ [] → Replays g opening [] (unnumbered cut) before
begins_past g cut before nothing quiet =
    subst (λ l. Replays g opening [] (unnumbered l) before) (sym nothing) (subst (Replays g opening [] []) (sym quiet) (replays_not g opening []))
