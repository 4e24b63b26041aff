-- The body of a class file is read in parts.
use Rattle.std.proofs.Common.{◌≡◌, ℕ, List, Result, Ok, Err, refl}
use Rattle.cf_text.specs.declared.fault.ReadFault.{ReadFault}
use Rattle.cf_text.specs.Reading.{◌>>=◌ as ◌then◌}
use Rattle.cf_pool.specs.Pools.{layout_from}
use Rattle.cf_layout.specs.Layouts.{body_at, front_at, layout_with, members_at, rest_at}

steps_in_steps : {A B C : Type 0} (reading : Result A ReadFault) (f : A → Result B ReadFault) (g : B → Result C ReadFault) → ((reading then f) then g) ≡ (reading then (λ x. f x then g))
steps_in_steps (Ok x) f g = refl
steps_in_steps (Err fault) f g = refl

pub body_in_parts : (bytes : List ℕ) (at : ℕ)
    → body_at bytes at ≡ (layout_from bytes at then (λ pool. rest_at bytes pool.1 then (λ rest. Ok (layout_with pool.0 rest.0, rest.1))))
unfolding body_at front_at members_at rest_at
body_in_parts bytes at = simp steps_in_steps
