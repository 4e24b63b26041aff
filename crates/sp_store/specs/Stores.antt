-- The remote objects of a space after a history of what was done to them, in the words of the rules of spaces. (Java RMI specification, 2.4 and 3.3; ids and the limit of objects are this project's own rules.)
use Rattle.std.specs.Prelude.{◌≡◌, ℕ, ◌+◌, ◌<◌, ◌||◌, nat_le, nat_lt, not, Bool, List, [], ◌∷◌, Option, None, Some, map, filter, find, length, slice_get, unwrap_or, option_map, option_and_then}
use Rattle.std.specs.List.{list_any}
use Rattle.std.specs.Map.{lookup}
use Rattle.indexmap.specs.IndexMap.{spare}
use Rattle.space_ids.specs.declared.ids.ClassId.{ClassId}
use Rattle.space_ids.specs.declared.ids.ObjId.{ObjId}
use Rattle.space_ids.specs.declared.value.Value.{Value}
use Rattle.sp_rules.specs.Classes.{Classes, Setting, blank, field_kind}
use Rattle.sp_rules.specs.Lists.{numbers_below}
use Rattle.sp_rules.specs.References.{is_id, is_id_in, own_ids, references_of}
use Rattle.sp_rules.specs.State.{Stored, Made, Written, Gone, Object, standing, last_written}
use Rattle.sp_store.specs.Instances.{Remote}
use Rattle.sp_store.specs.declared.store.Store.{Store}

-- ---- objects and fields

-- the standing object of an id
abbrev pub object_after : List Stored → ObjId → Option Object
object_after h id = find (λ (o : Object). is_id o.id id) (standing h)

-- what the fields of an object hold, by slot: the last value that was put, else 0 or null
abbrev pub fields_after : Setting → List Stored → Object → List Value
fields_after g h o =
    map (λ slot. unwrap_or (last_written h o.id slot) (blank (field_kind g.classes o.class slot))) (numbers_below (length (g.classes.fields o.class)))

-- what a field of a standing object holds, if the object has it
abbrev pub field_after : Setting → List Stored → ObjId → ℕ → Option Value
field_after g h id slot = option_and_then (λ o. slice_get (fields_after g h o) slot) (object_after h id)

-- what the fields of a new object hold
abbrev pub blanks : Classes → ClassId → List Value
blanks classes class = map (λ slot. blank (field_kind classes class slot)) (numbers_below (length (classes.fields class)))

-- ---- ids

-- how many objects were made
abbrev pub made_after : List Stored → ℕ
made_after [] = 0
made_after (Made id class ∷ h) = made_after h + 1
made_after (Written id slot value ∷ h) = made_after h
made_after (Gone ids ∷ h) = made_after h

-- Ids begin at 1 and never come again.
abbrev pub next_after : List Stored → ObjId
next_after h = record { 0 = made_after h + 1 }

-- 65,536 objects may stand
abbrev pub is_full_after : List Stored → Bool
is_full_after h = nat_le 65536 (length (standing h))

-- ---- reasons that a store knows

-- a field of a standing object has it
abbrev pub is_in_a_field_after : Setting → List Stored → ObjId → Bool
is_in_a_field_after g h id = list_any (λ (o : Object). is_id_in (own_ids g.id (references_of (fields_after g h o))) id) (standing h)

-- the standing objects that are not needed, that nothing holds and no field has, by id
abbrev pub idle_after : Setting → List Stored → (ObjId → ℕ) → List ObjId → List ObjId
idle_after g h holds needed =
    map (λ (o : Object). o.id) (filter (λ (o : Object). not (nat_lt 0 (holds o.id) || (is_id_in needed o.id || is_in_a_field_after g h o.id))) (standing h))

-- what a sweep that withdraws these leaves: nothing happens if it withdraws none
abbrev pub swept : List ObjId → List Stored → List Stored
swept [] h = h
swept (id ∷ ids) h = Gone (id ∷ ids) ∷ h

-- ---- a store

abbrev pub object_of : ObjId × Remote → Object
object_of row = record { id = row.0; class = row.1.class }

-- Rows are what a history leaves: the objects that stand, each with what its fields hold. Nothing is known of an object that is to be made.
pub record IsStored (g : Setting) (h : List Stored) (made : ℕ) (rows : List (ObjId × Remote)) : Type 0 where
  pub objects : map object_of rows ≡ standing h
  pub fields : (id : ObjId) (x : Remote) → lookup (is_id id) rows ≡ Some x → x.fields ≡ fields_after g h (record { id = id; class = x.class })
  pub made_is : made ≡ made_after h
  pub below : (id : ObjId) → made < id.0 → lookup (is_id id) rows ≡ None
  pub unwritten : (id : ObjId) (slot : ℕ) → made < id.0 → last_written h id slot ≡ None

-- The store is what the history leaves, in a space of this setting.
pub record IsAfter (g : Setting) (h : List Stored) (store : Store) : Type 0 where
  pub own : store.own ≡ g.id
  pub stored : IsStored g h store.last.0 store.objects.entries

-- how many objects a store made
abbrev pub made : Store → ℕ
made store = store.last.0

-- for how many more objects a store has room
abbrev pub room : Store → ℕ
room store = spare store.objects

-- by how many an object is held
abbrev pub holds_of : Store → ObjId → ℕ
holds_of store id = unwrap_or (option_map (λ (o : Remote). o.holds) (lookup (is_id id) store.objects.entries)) 0
