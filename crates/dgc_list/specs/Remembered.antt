-- What an owner remembers of one client and one object: a call with a sequence number that is not above the last is late, and the number of
-- a strong clean call is remembered (Java RMI specification, 9.1: `DGC.clean`).
use Rattle.std.specs.Prelude.{ℕ, Bool, false, Option, None, Some, is_none, ◌&&◌, ◌||◌, not, nat_le, if◌then◌else◌}
use Rattle.dgc_list.specs.declared.remembered.Remembered.{Remembered}

-- nothing
abbrev pub blank : Remembered
blank = record { number = None; strong = false; expires = None }

abbrev pub is_blank : Remembered → Bool
is_blank r = is_none r.number && (not r.strong && is_none r.expires)

-- whether the number is not above the one that is remembered
abbrev pub is_at_most : ℕ → Option ℕ → Bool
is_at_most number None = false
is_at_most number (Some last) = nat_le number last

-- whether a call of this number is late
abbrev pub is_late : Remembered → ℕ → Bool
is_late r number = is_at_most number r.number

-- A dirty call that is not late sets the entry, and its number is remembered.
abbrev pub after_dirty : ℕ → ℕ → Remembered → Remembered
after_dirty number expires r =
    if is_late r number then r else record { number = Some number; strong = r.strong; expires = Some expires }

-- A clean call that is not late removes the entry. If it or one before it was strong, its number is remembered, else none.
abbrev pub after_clean : ℕ → Bool → Remembered → Remembered
after_clean number strong r =
    if is_late r number then r
    else record { number = (if strong || r.strong then Some number else None); strong = strong || r.strong; expires = None }

-- whether an entry is gone at the moment
abbrev pub is_gone : ℕ → Option ℕ → Bool
is_gone moment None = false
is_gone moment (Some expires) = nat_le expires moment

-- An entry that is gone counts as cleaned, not strongly; if a strong clean call was kept, the number stays.
abbrev pub after_moment : ℕ → Remembered → Remembered
after_moment moment r =
    if is_gone moment r.expires
    then record { number = (if r.strong then r.number else None); strong = r.strong; expires = None }
    else r
