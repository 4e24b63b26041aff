use Rattle.std.proofs.Common.{◌≡◌, ℕ, List, rules}
use Rattle.std.specs.Cmp.Lexicographic.{slice_cmp}
use Rattle.std.specs.Ordering.{is_lt, nat_cmp}
use Rattle.std.proofs.lemmas.Cmp.{nat_list_cmp_total}
use Rattle.std.proofs.lemmas.Fn.{always_returns_same}
use Rattle.std.proofs.lemmas.List.Sorted.{ranks_by}
use Rattle.std.proofs.lemmas.Result.{on_ok_weaker}
use Rattle.sp_digest.specs.declared.files.NamedFile.{NamedFile}
use Rattle.sp_digest.proofs.files.sort_by_name.Goals as goal

abbrev name_of : NamedFile → List ℕ
name_of file = file.name.now

pub returns-clause-sorted : goal.returns-clause-sorted
returns-clause-sorted c =
    on_ok_weaker c.sort_by.result
    (λ d. d (λ a b. is_lt (slice_cmp nat_cmp (name_of a) (name_of b))) (ranks_by nat_list_cmp_total name_of) (always_returns_same _ (λ a r. is_lt r ≡ is_lt (slice_cmp nat_cmp (name_of a.0.now) (name_of a.1.0.now))) _ (λ a r q k. (search rules, search rules))))
    c.sort_by.ensures.sorted
