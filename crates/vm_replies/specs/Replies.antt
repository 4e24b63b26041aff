-- What is known of a class set where replies are looked at. (This project's own.)
use Rattle.std.specs.Prelude.{◌≡◌, ℕ, false, Option, List, codes, slice_get}
use Rattle.std.specs.Option.{unwrap_or}
use Rattle.cls_set.specs.Classes.{number_of}
use Rattle.cls_set.specs.declared.class.Class.{Class}
use Rattle.space_ids.specs.declared.ids.ClassId.{ClassId}
use Rattle.space_ids.specs.declared.ids.Ref.{Ref}
use Rattle.space_ids.specs.declared.value.Value.{Value}
use Rattle.uuid.specs.declared.Uuid.{Uuid}
use Rattle.ver_frames.specs.declared.vtype.VType.{VType}
use Rattle.vm_act.specs.declared.asked.Asked.{Asked}
use Rattle.vm_act.specs.declared.asked.FieldValue.{FieldValue}
use Rattle.vm_act.specs.declared.asked.Reply.{Reply}
use Rattle.vm_heap.specs.References.{Table}
use Rattle.vm_typing.specs.Asking.{CrossedFits, RefersTo, ReplyFits, ResultFits, ValueFits}
use Rattle.vm_typing.specs.Fits.{There, no_method}
use Rattle.vm_typing.specs.World.{World}
use Rattle.vm_laws.specs.Files.{types_of}
use Rattle.vm_laws.specs.Worlds.{gives_at, takes_at}

-- what is known of fields, classes and what methods are declared to take and give, of which alone replies speak
abbrev pub fields_world : List Class → World
fields_world classes = record {
  classes = classes;
  object = unwrap_or (number_of classes (codes "java/lang/Object")) (record { 0 = 0 });
  fields = types_of classes;
  has_code = λ number. false;
  method = λ number. no_method;
  takes = takes_at classes;
  gives = gives_at classes;
}

-- in each task of a space, whatever references it has come by
abbrev pub InSpace : Uuid → (Table → Type 0) → Type 0
InSpace own P = (table : Table) → table.own ≡ own → P table

abbrev pub Refers : List Class → Uuid → ClassId → Ref → Type 0
Refers classes own class reference = InSpace own (λ table. RefersTo (fields_world classes) table class reference)

abbrev pub IsOfField : List Class → Uuid → VType → FieldValue → Type 0
IsOfField classes own type value = InSpace own (λ table. ValueFits (fields_world classes) table type value)

abbrev pub IsHeld : List Class → Uuid → ClassId → ℕ → FieldValue → Type 0
IsHeld classes own class slot value =
    InSpace own (λ table. There (λ type. ValueFits (fields_world classes) table type value) (slice_get (types_of classes class) slot))

abbrev pub IsOfResult : List Class → Uuid → VType → Value → Type 0
IsOfResult classes own type value = InSpace own (λ table. CrossedFits (fields_world classes) table type value)

abbrev pub IsGiven : List Class → Uuid → Option VType → Option Value → Type 0
IsGiven classes own type value = InSpace own (λ table. ResultFits (fields_world classes) table type value)

-- a reply fits what a task of a space asks
abbrev pub Fits : List Class → Uuid → Asked → Reply → Type 0
Fits classes own op given = InSpace own (λ table. ReplyFits (fields_world classes) table op given)
