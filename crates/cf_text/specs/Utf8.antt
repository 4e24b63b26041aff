-- Modified UTF-8 (JVMS 4.4.7), byte by byte.
use Rattle.std.specs.Prelude.{ℕ, Bool, true, false, ◌==◌, ◌&&◌, nat_le, List, [], ◌∷◌, if◌then◌else◌}
use Rattle.cf_text.specs.declared.utf8.Expected.{Expected}
use Rattle.cf_text.specs.declared.utf8.Expected.TheVariants.{Character, Last, LastOfNull, Middle, MiddleHigh, Nothing}

-- between two bounds
abbrev pub is_in : ℕ → ℕ → ℕ → Bool
is_in low high b = nat_le low b && nat_le b high

-- what a character's first byte leads to: one byte up to 7F but 0, the first of two from C2 to DF, the
-- first of three from E0 to EF. C0 80 is the character 0; no other character has a longer form.
-- Either half of a surrogate pair may stand alone (a rule of this project): each is spelled by itself, and texts are compared by their
-- bytes.
abbrev pub after_first : ℕ → Expected
after_first b =
    if is_in 1 127 b then Character else if b == 192 then LastOfNull else if is_in 194 223 b then Last
    else if b == 224 then MiddleHigh else if is_in 225 239 b then Middle else Nothing

-- what a byte leads to
abbrev pub after_byte : Expected → ℕ → Expected
after_byte Character b = after_first b
after_byte Last b = if is_in 128 191 b then Character else Nothing
after_byte LastOfNull b = if b == 128 then Character else Nothing
after_byte Middle b = if is_in 128 191 b then Last else Nothing
after_byte MiddleHigh b = if is_in 160 191 b then Last else Nothing
after_byte Nothing b = Nothing

-- what a text leads to
abbrev pub after_text : Expected → List ℕ → Expected
after_text expected [] = expected
after_text expected (b ∷ bs) = after_text (after_byte expected b) bs

-- no character is cut
abbrev pub is_whole : Expected → Bool
is_whole Character = true
is_whole Last = false
is_whole LastOfNull = false
is_whole Middle = false
is_whole MiddleHigh = false
is_whole Nothing = false

-- the bytes are characters in modified UTF-8
abbrev pub is_modified_utf8 : List ℕ → Bool
is_modified_utf8 text = is_whole (after_text Character text)
