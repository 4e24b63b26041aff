-- Types that are changed one after the other, and types filled with top that are changed.
use Rattle.std.proofs.Common.{◌≡◌, ℕ, zero, suc, ◌+◌, ◌-◌, ◌<◌, ◌≤◌, Bool, List, [], ◌∷◌, ◌++◌, length, get_or, take, drop, replicate, reverse, refl, ap, sym, ◌∙◌, arith}
use Rattle.std.specs.Prelude.{map, slice_set}
use Rattle.std.specs.List.{list_any}
use Rattle.std.proofs.lemmas.List.{reverse-append}
use Rattle.std.proofs.lemmas.List.Sorted.{IsPermutation-reverse, list_any-IsPermutation}
use Rattle.ver_frames.specs.Changes.{changed}
use Rattle.ver_frames.specs.Frames.{filled}
use Rattle.ver_frames.specs.declared.changes.TypeChange.{TypeChange}
use Rattle.ver_frames.specs.declared.changes.TypeChange.TheVariants.{MadeAgain, Initialized, ThisInitialized}
use Rattle.ver_frames.specs.declared.vtype.VType.{VType}
use Rattle.ver_frames.specs.declared.vtype.VType.TheVariants.{Top}

-- those before an index are changed, the others are not
abbrev pub changed_to : (VType → VType) → ℕ → List VType → List VType
changed_to f i types = take i types ++ map f (drop i types)

-- one more is changed
pub one_changed : (f : VType → VType) (types : List VType) (i : ℕ) (d : VType) → i < length types
    → changed_to f (suc i) (slice_set types i (f (get_or types i d))) ≡ changed_to f i types
one_changed f [] i d lt = absurd (omega arith)
one_changed f (t ∷ types) zero d lt = refl
one_changed f (t ∷ types) (suc i) d lt = ap (λ (ts : List VType). t ∷ ts) (one_changed f types i d (omega arith))

-- all are
pub all_changed : (f : VType → VType) (types : List VType) (i : ℕ) → length types ≤ i → changed_to f i types ≡ types
all_changed f [] zero le = refl
all_changed f [] (suc i) le = refl
all_changed f (t ∷ types) zero le = absurd (omega arith)
all_changed f (t ∷ types) (suc i) le = ap (λ (ts : List VType). t ∷ ts) (all_changed f types i (omega arith))

-- top stays top
pub top_stays : (change : TypeChange) → changed change Top ≡ Top
top_stays (MadeAgain offset) = refl
top_stays (Initialized offset class) = refl
top_stays (ThisInitialized class) = refl

map_append : (f : VType → VType) (xs ys : List VType) → map f (xs ++ ys) ≡ map f xs ++ map f ys
map_append f [] ys = refl
map_append f (x ∷ xs) ys = ap (λ (ts : List VType). f x ∷ ts) (map_append f xs ys)

map_tops : (f : VType → VType) (n : ℕ) → f Top ≡ Top → map f (replicate n Top) ≡ replicate n Top
map_tops f zero e = refl
map_tops f (suc n) e = rw (e, map_tops f n e)

map_long : (f : VType → VType) (xs : List VType) → length (map f xs) ≡ length xs
map_long f [] = refl
map_long f (x ∷ xs) = ap suc (map_long f xs)

-- types are changed before or after they are filled with top
pub filled_changed : (change : TypeChange) (n : ℕ) (types : List VType) → filled n (map (changed change) types) ≡ map (changed change) (filled n types)
filled_changed change n types =
    let long : length (map (changed change) types) ≡ length types = map_long (changed change) types in
    rw long (sym (map_append (changed change) types (replicate (n - length types) Top)
    ∙ ap (λ (ts : List VType). map (changed change) types ++ ts) (map_tops (changed change) (n - length types) (top_stays change))))

-- types are changed before or after they are turned round
pub reverse_map : (f : VType → VType) (xs : List VType) → reverse (map f xs) ≡ map f (reverse xs)
reverse_map f [] = refl
reverse_map f (x ∷ xs) =
    reverse-append (f x ∷ []) (map f xs) ∙ ap (λ (ts : List VType). ts ++ f x ∷ []) (reverse_map f xs) ∙ sym (map_append f (reverse xs) (x ∷ []))
    ∙ ap (λ (ts : List VType). map f ts) (sym (reverse-append (x ∷ []) xs))

-- one is found among types that are turned round
pub any_reverse : (p : VType → Bool) (xs : List VType) → list_any p xs ≡ list_any p (reverse xs)
any_reverse p xs = list_any-IsPermutation p xs (reverse xs) (IsPermutation-reverse xs)
