-- A class file is made in parts.
use Rattle.std.proofs.Common.{◌≡◌, ℕ, List, Some, Result, Ok, Err, refl}
use Rattle.cf_text.specs.declared.fault.ReadFault.{ReadFault}
use Rattle.cf_text.specs.Reading.{◌>>=◌ as ◌then◌}
use Rattle.cf_layout.specs.declared.items.Layout.{Layout}
use Rattle.cf_reader.specs.Builds.{class_from, members_from, parts_from, supertypes_from}

steps_in_steps : {A B C : Type 0} (reading : Result A ReadFault) (f : A → Result B ReadFault) (g : B → Result C ReadFault) → ((reading then f) then g) ≡ (reading then (λ x. f x then g))
steps_in_steps (Ok x) f g = refl
steps_in_steps (Err fault) f g = refl

pub class_in_parts : (bytes : List ℕ) (layout : Layout)
    → class_from bytes layout
    ≡ (parts_from bytes layout then (λ parts. Ok (record {
      pool = layout.pool.pool;
      flags = record { bits = layout.flags.value };
      name = parts.2;
      superclass = Some parts.1.0;
      interfaces = parts.1.1;
      fields = parts.0.0;
      methods = parts.0.1;
    })))
unfolding class_from parts_from supertypes_from members_from
class_in_parts bytes layout = simp steps_in_steps
