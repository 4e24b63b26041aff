-- What an instruction of a linked set was read as, and how it is linked.
use Rattle.std.proofs.Common.{◌≡◌, ℕ, zero, suc, List, [], ◌∷◌, refl, sym, subst, ◌∙◌, Option, Some, None}
use Rattle.std.specs.Prelude.{MatchOption, IsSomeAnd, slice_get}
use Rattle.std.specs.List.{AllZip}
use Rattle.std.proofs.lemmas.List.Elements.{All-get_or}
use Rattle.std.proofs.lemmas.Option.{slice_get_within, get_or_from_slice_get}
use Rattle.cf_insns.specs.declared.insn.Insn.{Insn}
use Rattle.cf_insns.specs.Listing.{offsets}
use Rattle.cf_reader.specs.declared.class_file.Code.{Code}
use Rattle.cf_reader.specs.declared.class_file.Method.{Method}
use Rattle.cls_link.specs.LinkedForms.{IsLinkedEntry, IsLinkedInsn}
use Rattle.cls_link.specs.Links.{Links, AreLinks, Declared, IsLinked, IsLinkedCode, IsSoundAt, declared_methods}
use Rattle.cls_link.specs.declared.linked_code.LinkedCode.{LinkedCode}
use Rattle.cls_link.specs.declared.linked_code.LinkedInsn.{LinkedInsn}
use Rattle.cls_set.proofs.Hierarchy.{at_some, same_some}
use Rattle.cls_set.specs.declared.class.Class.{Class}
use Rattle.space_ids.specs.declared.ids.ClassId.{ClassId}
use Rattle.ver_frames.specs.Method.{Subject}
use Rattle.vm_laws.specs.Worlds.{subject_at}
use Rattle.vm_laws.proofs.Entries.{is_entry}

-- an instruction of a method as it was read, with its offset, and that it is linked as it is
pub record IsLinkedAt (classes : List Class) (class : ClassId) (code : LinkedCode) (i : LinkedInsn) : Type 0 where
  pub method : Method
  pub entry : ℕ × Insn
  pub all : List ℕ
  pub is : IsLinkedInsn classes class all code.switches entry.0 entry.1 i
  pub sound : IsSoundAt classes class method entry

zip_under : {A B : Type 0} (R : A → B → Type 0) (xs : List A) (ys : List B) (n : ℕ) (y : B) → AllZip R xs ys → slice_get ys n ≡ Some y → (x : A) × ((slice_get xs n ≡ Some x) × R x y)
zip_under R [] [] n y all e = absurd (cc)
zip_under R [] (z ∷ ys) n y all e = absurd all
zip_under R (x ∷ xs) [] n y all e = absurd all
zip_under R (x ∷ xs) (z ∷ ys) zero y all e = (x, (refl, subst (R x) (same_some e) all.0))
zip_under R (x ∷ xs) (z ∷ ys) (suc n) y all e = zip_under R xs ys n y all.1 e

-- the code of a method that has some is linked
code_linked : (classes : List Class) (d : Declared) (code : LinkedCode) (o : Option LinkedCode) → o ≡ Some code → (c : Option Code)
    → MatchOption c (o ≡ None) (λ code. IsSomeAnd o (IsLinkedCode classes d.class d.method code.bytes)) → (bytes : List ℕ) × IsLinkedCode classes d.class d.method bytes code
code_linked classes d code o has None linked = absurd (cc)
code_linked classes d code o has (Some c) linked = (c.bytes, at_some o (IsLinkedCode classes d.class d.method c.bytes) code has linked)

pub linked_at : (links : Links) → AreLinks links → (number : ℕ) (s : Subject) → subject_at links number ≡ Some s → (index : ℕ) (i : LinkedInsn) → slice_get s.linked.insns index ≡ Some i
    → IsLinkedAt links.classes s.class_id s.linked i
linked_at links are number s e index i is =
    let entry = is_entry links number s e in
    let d = zip_under (IsLinked links.classes) (declared_methods links.classes) links.methods number entry.entry are.methods entry.at in
    let code = code_linked links.classes d.0 s.linked entry.entry.code entry.code d.0.method.code d.1.1.code in
    let class : d.0.class ≡ s.class_id = sym d.1.1.class ∙ entry.class in
    let read = zip_under (IsLinkedEntry links.classes d.0.class (offsets code.1.listing) s.linked.switches) code.1.listing s.linked.insns index i code.1.insns is in
    let sound : IsSoundAt links.classes d.0.class d.0.method read.0 =
    subst (λ (r : ℕ × Insn). IsSoundAt links.classes d.0.class d.0.method r) (get_or_from_slice_get code.1.listing index read.0 read.0 read.1.0)
    (All-get_or (IsSoundAt links.classes d.0.class d.0.method) code.1.listing index read.0 (slice_get_within code.1.listing index read.0 read.1.0) code.1.sound) in
    subst (λ (c : ClassId). IsLinkedAt links.classes c s.linked i) class (record { method = d.0.method; entry = read.0; all = offsets code.1.listing; is = read.1.1; sound = sound })
