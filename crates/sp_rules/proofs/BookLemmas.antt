-- One more entry of a book is one more event.
use mathlib.Core.Path.{ap, ◌∙◌}
use Rattle.std.specs.Prelude.{◌≡◌, refl, List, [], ◌∷◌, ◌++◌, map, reverse}
use Rattle.std.proofs.lemmas.List.{reverse-append}
use Rattle.sp_rules.specs.Books.{Entry, event_of, book_run}
use Rattle.sp_rules.specs.Events.{Event}
use Rattle.sp_rules.specs.Laws.{BooksGrow}
use Rattle.sp_rules.specs.Space.{state_of}

map-snoc : (xs : List Entry) (e : Entry) → map event_of (xs ++ e ∷ []) ≡ map event_of xs ++ event_of e ∷ []
map-snoc [] e = refl
map-snoc (x ∷ xs) e = ap (λ (es : List Event). event_of x ∷ es) (map-snoc xs e)

pub books_grow : BooksGrow
unfolding book_run state_of
books_grow g entries e = ap (λ es. state_of g (reverse es)) (map-snoc entries e) ∙ ap (state_of g) (reverse-append (map event_of entries) (event_of e ∷ []))
