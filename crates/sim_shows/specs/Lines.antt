-- The lines in which a script shows the objects of a space. (This project's own.)
use Rattle.std.specs.Prelude.{◌≡◌, ◌++◌, ◌∷◌, [], ℕ, List, Option, None, Some, codes, filter, length, map}
use Rattle.std.specs.Fmt.{decimal}
use Rattle.dgc_list.specs.History.{clients_of}
use Rattle.sp_registry.specs.declared.registry.Binding.{Binding}
use Rattle.space_ids.specs.declared.ids.ClassId.{ClassId}
use Rattle.sp_rules.specs.References.{is_id}
use Rattle.sp_rules.specs.State.{Object, State, standing}
use Rattle.sp_rules.specs.Worlds.{Space}
use Rattle.sim_shows.specs.declared.script_space.Shown.{Shown}

-- what is shown of an object: its id and class, how many names are bound to it, and how many clients have an entry for it
abbrev pub sight : State → Object → Shown
sight s o = record {
  id = o.id;
  class = o.class;
  names = length (filter (λ (b : Binding). is_id b.object o.id) s.owner.names);
  entries = length (clients_of s.owner.entries o.id);
}

-- what is shown of the standing objects, in the order of their ids
abbrev pub sights : State → List Shown
sights s = map (sight s) (standing s.store)

-- the line of an object of the space of this name: `NAME ID CLASS names=N entries=K`, where the class has this name
abbrev pub object_line : List ℕ → List ℕ → Shown → List ℕ
object_line name class x = name ++ codes " " ++ decimal x.id.0 ++ codes " " ++ class ++ codes " names=" ++ decimal x.names ++ codes " entries=" ++ decimal x.entries ++ codes "\n"

-- A text is the lines of these objects of the space of this name, whose classes have such names.
abbrev pub AreLines : (ClassId → List ℕ → Type 0) → List ℕ → List Shown → List ℕ → Type 0
AreLines IsNamed name [] text = text ≡ []
AreLines IsNamed name (x ∷ xs) text = (class rest : List ℕ) × IsNamed x.class class × (text ≡ object_line name class x ++ rest) × AreLines IsNamed name xs rest

-- what is shown of the objects of a space of a world
abbrev pub sights_at : Option Space → List Shown
sights_at None = []
sights_at (Some s) = sights s.state
