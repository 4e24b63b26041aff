-- Frames that wait for a connection. (This project's own.)
use Rattle.std.specs.Prelude.{ℕ, suc, ◌+◌, ◌-◌, ◌^◌, ◌==◌, min, Bool, false, List, [], ◌∷◌, if◌then◌else◌}
use Rattle.sp_rules.specs.Events.{Output, Send}

abbrev pub is_frame_on : ℕ → Output → Bool
is_frame_on conn (Send other m) = other == conn
is_frame_on conn _ = false

-- how many outputs are frames for the connection
abbrev pub frames_on : ℕ → List Output → ℕ
frames_on conn [] = 0
frames_on conn (o ∷ os) = if is_frame_on conn o then suc (frames_on conn os) else frames_on conn os

-- how many frames were not sent, with those that wait; more than any frames is the largest number
abbrev pub unsent_with : ℕ → ℕ → ℕ
unsent_with unsent waiting = min (unsent + waiting) (2 ^ 64 - 1)
