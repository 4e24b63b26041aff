-- What a core shows of its objects and its tasks. (This project's own.)
use Rattle.std.specs.Prelude.{ℕ, ◌==◌, ◌||◌, not, List, Option, filter, find, length, option_map}
use Rattle.std.specs.List.{list_any}
use Rattle.dgc_list.specs.History.{clients_of}
use Rattle.space_ids.specs.declared.ids.ClassId.{ClassId}
use Rattle.space_ids.specs.declared.ids.ObjId.{ObjId}
use Rattle.sp_registry.specs.declared.registry.Binding.{Binding}
use Rattle.sp_rules.specs.References.{is_id}
use Rattle.sp_rules.specs.State.{State, Living, Object}
use Rattle.sp_core.specs.declared.shown.Shown.{Shown}

-- its id and class, how many names are bound to it, and how many clients have an entry
pub record Sight : Type 0 where
  pub id : ObjId
  pub class : ClassId
  pub names : ℕ
  pub entries : ℕ

abbrev pub shown : State → Object → Sight
shown s o = record {
  id = o.id;
  class = o.class;
  names = length (filter (λ (b : Binding). is_id b.object o.id) s.owner.names);
  entries = length (clients_of s.owner.entries o.id);
}

abbrev pub shown_of : Shown → Sight
shown_of x = record { id = x.id; class = x.class; names = x.names; entries = x.entries }

-- the lowest living task that does not wait and is not lent
abbrev pub lowest_ready : List ℕ → State → Option ℕ
lowest_ready lent s = option_map (λ (t : Living). t.id) (find (λ (t : Living). not (t.waits || list_any (◌==◌ t.id) lent)) s.tasks)
