-- What a linked class set says of the code of its methods, and what the declared frames say at each index.
use Rattle.std.proofs.Common.{◌≡◌, ℕ, zero, suc, ◌+◌, ◌≤◌, Bool, true, false, Option, Some, None, Result, Ok, Err, List, [], ◌∷◌, length, refl, ap, sym, subst, ◌∙◌, arith}
use Rattle.std.specs.Prelude.{◌==◌, if◌then◌else◌, map, slice_get, option_and_then, MatchOption, IsSomeAnd, IfSome}
use Rattle.std.specs.List.{AllByRecursion, AllZip}
use Rattle.std.specs.List.Sorted.{IsStrictlyIncreasing}
use Rattle.cf_insns.proofs.Exact.{listing_reads}
use Rattle.cf_insns.proofs.Listings.{listing_from-rises}
use Rattle.cf_insns.specs.Listing.{Listing, offsets, Rises}
use Rattle.cf_insns.specs.Reading.{◌>>=◌}
use Rattle.cf_insns.specs.ReadListing.{reading, listing_from, if_none_astray}
use Rattle.cf_insns.specs.Listing.{first_astray}
use Rattle.cf_insns.specs.declared.fault.CodeFault.{CodeFault}
use Rattle.cf_insns.specs.declared.insn.Insn.{Insn}
use Rattle.cf_reader.specs.declared.class_file.Code.{Code}
use Rattle.cf_reader.specs.declared.class_file.Method.{Method}
use Rattle.cls_set.specs.declared.class.Class.{Class}
use Rattle.space_ids.specs.declared.ids.ClassId.{ClassId}
use Rattle.cls_link.specs.Links.{Declared, IsLinked, IsLinkedCode}
use Rattle.cls_link.specs.LinkedForms.{IsLinkedEntry}
use Rattle.cls_link.specs.declared.linked_code.LinkedCode.{LinkedCode}
use Rattle.cls_link.specs.declared.linked_code.LinkedMethod.{LinkedMethod}
use Rattle.ver_check.specs.Bodies.{body_of, declared_at, frame_at_offset}
use Rattle.ver_check.specs.Listed.{IsListed}
use Rattle.ver_check.specs.Typing.{IsWithin}
use Rattle.ver_frames.specs.Frames.{Frame}
use Rattle.ver_frames.specs.Limits.{FitsMethod}
use Rattle.ver_frames.specs.Method.{Subject, argument_types, opening}
use Rattle.ver_frames.proofs.Fillings.{filled_count}

-- ---- the code of a linked method is listed

read_ok : (r : Result Listing CodeFault) (listing : Listing) → (r >>= λ found. if_none_astray found (first_astray (offsets found) found)) ≡ Ok listing → r ≡ Ok listing
read_ok (Err fault) listing e = absurd (cc)
read_ok (Ok found) listing e = not_astray (first_astray (offsets found) found) e
  where
    not_astray : (o : Option ℕ) → if_none_astray found o ≡ Ok listing → ◌≡◌ {A = Result Listing CodeFault} (Ok found) (Ok listing)
    not_astray None same = same
    not_astray (Some offset) same = absurd (cc)

read_rises : (bytes : List ℕ) (listing : Listing) → reading bytes ≡ Ok listing → Rises (offsets listing)
unfolding reading
read_rises bytes listing e = listing_from-rises bytes listing (read_ok (listing_from 0 0 bytes) listing e)

increasing : (ns : List ℕ) → Rises ns → IsStrictlyIncreasing ns
increasing ns rises k lt = rises k (k + 1) (omega arith) lt

map_long : {A B : Type 0} (f : A → B) (xs : List A) → length (map f xs) ≡ length xs
map_long f [] = refl
map_long f (x ∷ xs) = ap suc (map_long f xs)

zip_long : {A B : Type 0} (R : A → B → Type 0) (xs : List A) (ys : List B) → AllZip R xs ys → length ys ≡ length xs
zip_long R [] [] zip = refl
zip_long R [] (y ∷ ys) zip = absurd zip
zip_long R (x ∷ xs) [] zip = absurd zip
zip_long R (x ∷ xs) (y ∷ ys) zip = ap suc (zip_long R xs ys zip.1)

module _ (classes : List Class) where
  code_listed : (class : ClassId) (method : Method) (bytes : List ℕ) (code : LinkedCode) → IsLinkedCode classes class method bytes code → IsListed code
  code_listed class method bytes code linked =
      let rises = increasing (offsets linked.listing) (read_rises bytes linked.listing (listing_reads bytes linked.listing linked.read)) in
      record {
        rising = subst (λ (ns : List ℕ). IsStrictlyIncreasing ns) (sym linked.offsets_of) rises;
        listed = ap length linked.offsets_of ∙ map_long (λ (e : ℕ × Insn). e.0) linked.listing
            ∙ sym (zip_long (IsLinkedEntry classes class (offsets linked.listing) code.switches) linked.listing code.insns linked.insns);
      }

  of_method : (class : ClassId) (method : Method) (o : Option Code) (c : Option LinkedCode)
      → MatchOption o (c ≡ None) (λ code. IsSomeAnd c (IsLinkedCode classes class method code.bytes)) → IfSome c IsListed
  of_method class method None None h = tt
  of_method class method None (Some code) h = absurd (cc)
  of_method class method (Some read) None h = tt
  of_method class method (Some read) (Some code) h = code_listed class method read.bytes code h

  -- the code of each method of a linked class set is listed
  pub method_listed : (declared : List Declared) (methods : List LinkedMethod) → AllZip (IsLinked classes) declared methods → (k : ℕ) (m : LinkedMethod) → slice_get methods k ≡ Some m → IfSome m.code IsListed
  method_listed [] [] linked k m at = absurd (cc)
  method_listed (d ∷ ds) [] linked k m at = absurd linked
  method_listed [] (n ∷ ns) linked k m at = absurd linked
  method_listed (d ∷ ds) (n ∷ ns) linked zero m at =
      let same : n ≡ m = cc in
      subst (λ (x : LinkedMethod). IfSome x.code IsListed) same (of_method d.class d.method d.method.code n.code linked.0.code)
  method_listed (d ∷ ds) (n ∷ ns) linked (suc k) m at = method_listed ds ns linked.1 k m at

-- ---- the frame at each index fits

abbrev FitsIn : Subject → Frame → Type 0
FitsIn m f = (length f.locals ≡ m.code.max_locals) × (length f.stack ≤ m.code.max_stack)

this_or_later : (m : Subject) (d : ℕ × Frame) (later : Option Frame) (f : Frame) (here : Bool) → FitsMethod m d → (later ≡ Some f → FitsIn m f)
    → (if here then Some d.1 else later) ≡ Some f → FitsIn m f
this_or_later m d later f true fit others found =
    let same : d.1 ≡ f = cc in
    subst (λ (g : Frame). FitsIn m g) same (fit.locals, fit.stack)
this_or_later m d later f false fit others found = others found

fits_at : (m : Subject) (ds : List (ℕ × Frame)) → AllByRecursion (FitsMethod m) ds → (offset : ℕ) (f : Frame) → frame_at_offset ds offset ≡ Some f → FitsIn m f
unfolding frame_at_offset
fits_at m [] fit offset f e = absurd (cc)
fits_at m (d ∷ ds) fit offset f e = this_or_later m d (frame_at_offset ds offset) f (d.0 == offset) fit.0 (fits_at m ds fit.1 offset f) e

-- a frame that is declared at an index is within the limits of the method
pub within_at : (m : Subject) (ds : List (ℕ × Frame)) → AllByRecursion (FitsMethod m) ds → (index : ℕ) (f : Frame) → declared_at (body_of m ds) index ≡ Some f → IsWithin (body_of m ds) f
unfolding declared_at
within_at m ds fit index f e = of_offset (slice_get m.linked.offsets index) e
  where
    of_offset : (o : Option ℕ) → option_and_then (frame_at_offset ds) o ≡ Some f → IsWithin (body_of m ds) f
    of_offset None found = absurd (cc)
    of_offset (Some offset) found = let fits = fits_at m ds fit offset f found in record { locals = fits.0; stack = fits.1 }

-- the frame in which a method begins has its local variables at least
pub opening_full : (m : Subject) → m.code.max_locals ≤ length (opening m).locals
unfolding opening
opening_full m = let all = filled_count m.code.max_locals (argument_types m) in omega (arith, all)
