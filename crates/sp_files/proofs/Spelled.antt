-- One file more, and one class file more.
use Rattle.std.proofs.Common.{◌≡◌, ◌++◌, ℕ, zero, suc, List, [], ◌∷◌, Some, ◌<◌, ◌∙◌, length, get_or, ap, sym, subst}
use Rattle.std.proofs.lemmas.Option.{slice_get-get_or}
use Rattle.std.specs.Prelude.{Result, Ok, Err, IfErr, IfOk, IsErrAnd, take, slice_get}
use Rattle.cf_reader.specs.declared.class_file.ClassFile.{ClassFile}
use Rattle.sp_files.specs.Files.{AreSpelled, IsSpelled}
use Rattle.sp_files.specs.declared.files.ClassBytes.{ClassBytes}

pub AreSpelled-next : (files : List ClassBytes) (index : ℕ) (file : ClassBytes) (classes : List ClassFile) (class : ClassFile)
    → slice_get files index ≡ Some file → AreSpelled (take index files) classes → IsSpelled file.content class → AreSpelled (take (suc index) files) (classes ++ class ∷ [])
AreSpelled-next [] index file classes class is before spelled = absurd (cc)
AreSpelled-next (f ∷ files) zero file [] class is before spelled =
    let same : f ≡ file = cc in
    (subst (λ (g : ClassBytes). IsSpelled g.content class) (sym same) spelled, tt)
AreSpelled-next (f ∷ files) zero file (c ∷ classes) class is before spelled = absurd before
AreSpelled-next (f ∷ files) (suc index) file [] class is before spelled = absurd before
AreSpelled-next (f ∷ files) (suc index) file (c ∷ classes) class is before spelled =
    (before.0, AreSpelled-next files index file classes class is before.1 spelled)

-- an error of which all is known is the error of the result
pub known_error : {A E : Type 0} (r : Result A E) (known : E) (P : E → Type 0) → IsErrAnd r (λ e. e ≡ known) → P known → IfErr r P
known_error (Ok a) known P is holds = tt
known_error (Err e) known P is holds = subst P (sym is) holds

-- what an index gives
pub found : (files : List ClassBytes) (index : ℕ) (file : ClassBytes) → index < length files → file ≡ get_or files index file → slice_get files index ≡ Some file
found files index file within is = slice_get-get_or files index file within ∙ ap (λ (f : ClassBytes). Some f) (sym is)

-- what holds of an answer, of which it is known that it is one
pub known_ok : {A E : Type 0} (P : A → Type 0) (r : Result A E) (a : A) → r ≡ Ok a → IfOk r P → P a
known_ok P r a is holds = subst (λ r. IfOk r P) is holds
