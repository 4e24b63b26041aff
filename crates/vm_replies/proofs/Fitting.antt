-- Which references fit the types of a class set, and what methods give.
use Rattle.std.proofs.Common.{◌≡◌, ◌<◌, ◌≤◌, ℕ, true, false, List, length, ap, sym, subst, Option, None}
use Rattle.std.proofs.lemmas.Option.{slice_get_past}
use Rattle.std.specs.Prelude.{option_and_then, option_map}
use Rattle.cf_reader.specs.declared.class_file.Method.{Method}
use Rattle.cls_link.specs.Links.{Links, AreLinks, Declared, IsLinked, declared_methods}
use Rattle.ver_frames.specs.Types.{field_vtype}
use Rattle.vm_typing.proofs.Leads.{length-AllZip}
use Rattle.vm_laws.specs.Worlds.{gives_at}
use Rattle.std.specs.Str.{bytes_eq}
use Rattle.cls_set.specs.declared.class.Class.{Class}
use Rattle.space_ids.specs.declared.ids.ClassId.{ClassId}
use Rattle.space_ids.specs.declared.ids.Ref.{Ref}
use Rattle.uuid.specs.declared.Uuid.{Uuid}
use Rattle.ver_frames.specs.Assignable.{IsObjectAssignable}
use Rattle.vm_code.proofs.Remotes.{remote_sound}
use Rattle.vm_code.specs.Classes.{is_remote}
use Rattle.vm_heap.specs.References.{is_own}
use Rattle.vm_replies.specs.Replies.{Refers, fields_world}

-- a number that no method has gives nothing
pub none_gives : (links : Links) → AreLinks links → (number : ℕ) → length links.methods ≤ number → None ≡ gives_at links.classes number
none_gives links are number past =
    let same : length links.methods ≡ length (declared_methods links.classes) = length-AllZip (IsLinked links.classes) (declared_methods links.classes) links.methods are.methods in
    let there : length (declared_methods links.classes) ≤ number = subst (λ (n : ℕ). n ≤ number) same past in
    sym (ap (λ (o : Option Declared). option_and_then (λ (m : Method). option_map (field_vtype links.classes) m.types.result) (option_map (λ (d : Declared). d.method) o))
    (slice_get_past (declared_methods links.classes) number there))

module _ (classes : List Class) (own : Uuid) (class : ClassId) (reference : Ref) (remote : true ≡ is_remote classes reference.class) where
  -- an object of the own space
  pub own_refers : bytes_eq reference.space own ≡ true → reference.class.0 < length classes → IsObjectAssignable classes reference.class class → Refers classes own class reference
  own_refers here known stands = λ table same.
      let mine : is_own table reference ≡ true = subst (λ (space : Uuid). bytes_eq reference.space space ≡ true) (sym same) here in
      rw mine (known, stands, remote_sound classes reference.class (sym remote))

  -- a stub
  pub stub_refers : bytes_eq reference.space own ≡ false → reference.class.0 < length classes → (fields_world classes).object.0 < length classes
      → IsObjectAssignable classes (fields_world classes).object class → Refers classes own class reference
  stub_refers there known object stands = λ table same.
      let other : is_own table reference ≡ false = subst (λ (space : Uuid). bytes_eq reference.space space ≡ false) (sym same) there in
      rw other (object, stands, (known, remote_sound classes reference.class (sym remote)))
