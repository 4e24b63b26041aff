-- Paths that lead from a folder to what is in it.
use Rattle.std.specs.Prelude.{◌≡◌, ◌++◌, ◌∷◌, ℕ, List, [], codes, All, Option, Some, IfSome, option_to_list}
use Rattle.std.proofs.lemmas.List.Elements.{All-pop, All-push}
use Rattle.std.proofs.Common.{String, ap, arith, refl, string_bytes, sym, subst, ◌∙◌}
use Rattle.std.specs.Global.{Global}
use Rattle.sp_words.specs.Folders.{IsBelow, IsClassPath, IsEntryName, joined, path_of}

pub itself : (root : List ℕ) → IsBelow root root
unfolding path_of
itself root = record { names = []; entries = λ k d within. absurd (omega (arith, within)); path_is = refl }

-- at first no file is found, and the folder itself waits
pub begun : (root : List ℕ) (files folders : List (String Global)) (path : String Global) → files ≡ [] → folders ≡ [] ++ path ∷ [] → string_bytes path ≡ root
    → All (λ file. IsClassPath root (string_bytes file)) files × All (λ folder. IsBelow root (string_bytes folder)) folders
begun root files folders path none one is =
    rw (none, one) (
      λ k d within. absurd (omega (arith, within)),
      All-push (λ folder. IsBelow root (string_bytes folder)) [] path (λ k d within. absurd (omega (arith, within))) (subst (IsBelow root) (sym is) (itself root)),
    )

-- one name more leads one folder further
path_of-last : (root : List ℕ) (names : List (List ℕ)) (name : List ℕ) → path_of root (names ++ (name ∷ [])) ≡ joined (path_of root names) name
unfolding path_of
path_of-last root [] name = refl
path_of-last root (first ∷ names) name = path_of-last (joined root first) names name

-- the path of a name in a folder that is below
pub within : (root folder path name : List ℕ) → IsBelow root folder → IsEntryName name → path ≡ joined folder name → IsBelow root path
within root folder path name below entry is =
    record {
      names = below.names ++ (name ∷ []);
      entries = All-push IsEntryName below.names name below.entries entry;
      path_is = is ∙ ap (λ (front : List ℕ). joined front name) below.path_is ∙ sym (path_of-last root below.names name);
    }

-- the path of a class file in a folder that is below
pub class_within : (root folder path name stem : List ℕ) → IsBelow root folder → IsEntryName name → path ≡ joined folder name
    → name ≡ stem ++ codes ".class" → IsClassPath root path
class_within root folder path name stem below entry is named =
    record { parent = folder; below = below; name = name; entry = entry; stem = stem; is_class = named; path_is = is }

-- what holds of all elements holds of the last one, which was taken off, and of the others
pub popped : {X : Type 0} (P : X → Type 0) (xs ys : List X) (r : Option X) (x : X) → xs ≡ ys ++ option_to_list r → r ≡ Some x → All P xs → All P ys × P x
popped P xs ys r x is some all =
    let both = All-pop P xs ys r is all in
    (both.0, subst (λ s. IfSome s P) some both.1)
