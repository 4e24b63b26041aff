-- What is known of the texts of a pool, where a text is looked at once. (This project's own.)
use Rattle.std.specs.Prelude.{◌≡◌, ℕ, Bool, Option, None, List, IfSome, slice_index_or}
use Rattle.cf_pool.specs.Pools.{utf8_at}
use Rattle.cf_pool.specs.declared.pool.Entry.{Entry}

-- what was found of a text by a test, at its index, is what the test says of it
unfoldable pub Knows : (List ℕ → Bool) → List Entry → List (Option Bool) → Type 0
Knows test pool known =
    (index : ℕ) → IfSome (slice_index_or known index None) (λ answer. IfSome (utf8_at pool index) (λ text. answer ≡ test text))
