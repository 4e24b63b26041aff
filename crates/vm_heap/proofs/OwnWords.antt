-- No two references share a word.
use Rattle.std.proofs.Common.{◌≡◌, ℕ, refl, arith, ap}
use Rattle.vm_heap.specs.Tagged.{Tagged, Int, Null, Local, Remote, Fresh, This, Unset, Head, IsWord, IsInitialised}

pub same_reference : (one other : Tagged) (word : ℕ) → IsInitialised one → IsInitialised other
    → IsWord one word → IsWord other word → one ≡ other
same_reference Null Null w a b is same = refl
same_reference Null (Local y) w a b is same = absurd (omega arith)
same_reference Null (Remote y) w a b is same = absurd (omega arith)
same_reference (Local x) Null w a b is same = absurd (omega arith)
same_reference (Local x) (Local y) w a b is same = let e : x ≡ y = omega arith in ap Local e
same_reference (Local x) (Remote y) w a b is same = absurd (omega arith)
same_reference (Remote x) Null w a b is same = absurd (omega arith)
same_reference (Remote x) (Local y) w a b is same = absurd (omega arith)
same_reference (Remote x) (Remote y) w a b is same = let e : x ≡ y = omega arith in ap Remote e
same_reference (Int n) other w a b is same = absurd a
same_reference (Fresh i s) other w a b is same = absurd a
same_reference (This s) other w a b is same = absurd a
same_reference Unset other w a b is same = absurd a
same_reference (Head h) other w a b is same = absurd a
same_reference Null (Int n) w a b is same = absurd b
same_reference Null (Fresh i s) w a b is same = absurd b
same_reference Null (This s) w a b is same = absurd b
same_reference Null Unset w a b is same = absurd b
same_reference Null (Head h) w a b is same = absurd b
same_reference (Local x) (Int n) w a b is same = absurd b
same_reference (Local x) (Fresh i s) w a b is same = absurd b
same_reference (Local x) (This s) w a b is same = absurd b
same_reference (Local x) Unset w a b is same = absurd b
same_reference (Local x) (Head h) w a b is same = absurd b
same_reference (Remote x) (Int n) w a b is same = absurd b
same_reference (Remote x) (Fresh i s) w a b is same = absurd b
same_reference (Remote x) (This s) w a b is same = absurd b
same_reference (Remote x) Unset w a b is same = absurd b
same_reference (Remote x) (Head h) w a b is same = absurd b
