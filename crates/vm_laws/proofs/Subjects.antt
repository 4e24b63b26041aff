-- Methods with code, by their numbers: their classes and indices, and that checking types them.
use Rattle.std.proofs.Common.{◌≡◌, ℕ, ◌<◌, false, Option, Some, None, [], length, refl, subst}
use Rattle.std.specs.Prelude.{IfSome, MatchOption, option_and_then, slice_get}
use Rattle.std.proofs.lemmas.Option.{slice_get_within}
use Rattle.cls_link.specs.Links.{Links, AreLinks, declared_methods}
use Rattle.cls_set.proofs.Hierarchy.{same_some}
use Rattle.ver_check.proofs.Accepts.{subject_listed}
use Rattle.ver_check.proofs.Links.{method_listed}
use Rattle.ver_check.specs.Acceptance.{IsSafe, IsSafeMethod, AreSafe, subject_of}
use Rattle.ver_check.specs.Listed.{IsListed}
use Rattle.ver_frames.specs.Frames.{Frame}
use Rattle.ver_frames.specs.Method.{Subject}
use Rattle.vm_laws.specs.Worlds.{subject_at, IsTypedBy, AreTyped}

pub passes_both : {A B : Type 0} (o : Option A) (f : A → Option B) (b : B) → option_and_then f o ≡ Some b → (a : A) × ((o ≡ Some a) × (f a ≡ Some b))
passes_both None f b e = absurd (cc)
passes_both (Some a) f b e = (a, (refl, e))

-- a method stands in its class, and that in the set
pub record Stands (links : Links) (m : Subject) : Type 0 where
  pub classes : m.classes ≡ links.classes
  pub class : slice_get links.classes m.class_id.0 ≡ Some m.class
  pub index : ℕ
  pub method : slice_get m.class.file.methods index ≡ Some m.method

pub stands : (links : Links) (number : ℕ) (m : Subject) → subject_at links number ≡ Some m → Stands links m
unfolding subject_at subject_of
stands links number m e =
    let entry = passes_both (slice_get links.methods number) _ m e in
    let linked = passes_both entry.0.code _ m entry.1.1 in
    let class = passes_both (slice_get links.classes entry.0.class.0) _ m linked.1.1 in
    let method = passes_both (slice_get class.0.file.methods entry.0.index) _ m class.1.1 in
    let code = passes_both method.0.code _ m method.1.1 in
    subst (λ (s : Subject). Stands links s) (same_some code.1.1) (record { classes = refl; class = class.1.0; index = entry.0.index; method = method.1.0 })

module _ (links : Links) (are : AreLinks links) where
  pub listed : (number : ℕ) (m : Subject) → subject_at links number ≡ Some m → IsListed m.linked
  unfolding subject_at
  listed number m e =
      let entry = passes_both (slice_get links.methods number) (subject_of links.classes) m e in
      let code : IfSome entry.0.code IsListed = method_listed links.classes (declared_methods links.classes) links.methods are.methods number entry.0 entry.1.0 in
      subject_listed links.classes entry.0 m entry.1.1 code

  safe_at : AreSafe links → (number : ℕ) (m : Subject) → subject_at links number ≡ Some m → IsSafe m
  unfolding subject_at AreSafe
  safe_at safe number m e =
      let entry = passes_both (slice_get links.methods number) (subject_of links.classes) m e in
      let within : number < length links.methods = slice_get_within links.methods number entry.0 entry.1.0 in
      let at : MatchOption (Some entry.0) (Unit {0}) (IsSafeMethod links.classes) = rw entry.1.0 at (safe number within) in
      let found : MatchOption (Some m) (Unit {0}) IsSafe = rw entry.1.1 at at in
      found

  frames_on : AreSafe links → (number : ℕ) (o : Option Subject) → subject_at links number ≡ o → ℕ → Frame
  frames_on safe number None e = λ index. record { locals = []; stack = []; flag_this_uninit = false }
  frames_on safe number (Some m) e = (safe_at safe number m e).body.frames

  typed_on : (safe : AreSafe links) (number : ℕ) (m : Subject) (o : Option Subject) (e : subject_at links number ≡ o) → o ≡ Some m → IsTypedBy m (frames_on safe number o e)
  unfolding frames_on safe_at
  typed_on safe number m None e is = absurd (cc)
  typed_on safe number m (Some n) e is =
      subst (λ (s : Subject). IsTypedBy s (safe_at safe number n e).body.frames) (same_some is)
      (record { declared = (safe_at safe number n e).declared; typing = (safe_at safe number n e).body.typing })

  pub typed : AreSafe links → (frames : ℕ → ℕ → Frame) × AreTyped links frames
  typed safe = (λ number. frames_on safe number (subject_at links number) refl, λ number m e. typed_on safe number m (subject_at links number) refl e)
