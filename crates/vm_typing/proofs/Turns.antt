-- What `<init>` turns: the values of a frame and their types, one by one; and the operands that a call takes.
use Rattle.std.proofs.Common.{◌≡◌, ℕ, Bool, true, false, List, [], ◌∷◌, ◌++◌, length, map, take, drop, reverse, refl, ap, sym, subst, ◌∙◌, Some}
use Rattle.std.specs.Prelude.{nat_eq, ◌&&◌, slice_get, if◌then◌else◌}
use Rattle.std.specs.List.{AllZip, list_all}
use Rattle.std.proofs.lemmas.Bool.{eqb-true, eq-eqb}
use Rattle.std.proofs.lemmas.List.{reverse-append}
use Rattle.space_ids.specs.declared.ids.ClassId.{ClassId}
use Rattle.ver_frames.specs.Assignable.{AreAssignable}
use Rattle.ver_frames.specs.declared.vtype.VType.{VType}
use Rattle.ver_frames.specs.declared.vtype.VType.TheVariants as vtype
use Rattle.vm_heap.specs.Tagged.{Tagged, Site, HeapAddress, ReferenceRow, Int, Null, Local, Remote, Fresh, This, Unset, Head, after_init, object_at, site_eq}
use Rattle.vm_act.specs.Steps.{is_initialised}
use Rattle.vm_typing.specs.World.{World, ArePlain, made_is, this_is}
use Rattle.vm_typing.specs.Fits.{Held, pointee_at, IsA, There, Marks, Fits, AllFit}
use Rattle.vm_typing.specs.Owed.{Owed}
use Rattle.vm_typing.proofs.Leads.{at_site, plain_fits, plain_initialised, Fits-assignable}
use Rattle.vm_typing.proofs.Objects.{both_true}

-- an initialised value turns into nothing else
pub initialised_stays : (u v : Tagged) → is_initialised v ≡ true → after_init u v ≡ v
unfolding after_init
initialised_stays (Fresh o a) (Int n) is = refl
initialised_stays (Fresh o a) Null is = refl
initialised_stays (Fresh o a) (Local b) is = refl
initialised_stays (Fresh o a) (Remote r) is = refl
initialised_stays (This a) (Int n) is = refl
initialised_stays (This a) Null is = refl
initialised_stays (This a) (Local b) is = refl
initialised_stays (This a) (Remote r) is = refl
initialised_stays (Int n) v is = refl
initialised_stays Null v is = refl
initialised_stays (Local a) v is = refl
initialised_stays (Remote r) v is = refl
initialised_stays Unset v is = refl
initialised_stays (Head header) v is = refl
initialised_stays u v is = absurd (cc)

pub all_stay : (u : Tagged) (values : List Tagged) → list_all is_initialised values ≡ true → map (after_init u) values ≡ values
all_stay u [] all = refl
all_stay u (v ∷ values) all =
    let both = both_true (is_initialised v) (list_all is_initialised values) all in
    rw (initialised_stays u v both.0, all_stay u values both.1) refl

Null-initialised : (w : World) (held : Held) (k : Marks) (v : Tagged) → Fits w held k vtype.Null v → is_initialised v ≡ true
Null-initialised w held k Null fits = refl
Null-initialised w held k v fits = absurd fits

-- objects of other `new` instructions are others
other_index : (k : Marks) (o q : ℕ) → k.method.offset_at (k.method.index_at o) ≡ o → k.method.offset_at (k.method.index_at q) ≡ q → nat_eq q o ≡ false
    → nat_eq (k.method.index_at q) (k.method.index_at o) ≡ false
other_index k o q of_o of_q other = split (nat_eq (k.method.index_at q) (k.method.index_at o)) refl
  where
    split : (b : Bool) → nat_eq (k.method.index_at q) (k.method.index_at o) ≡ b → b ≡ false
    split false is = refl
    split true is =
        let index : k.method.index_at q ≡ k.method.index_at o = eqb-true (k.method.index_at q) (k.method.index_at o) is in
        let same : q ≡ o = sym of_q ∙ (ap k.method.offset_at index ∙ of_o) in
        let equal : nat_eq q o ≡ true = eq-eqb q o same in
        absurd (cc)

pub site_itself : (s : Site) → site_eq s s ≡ true
site_itself (HeapAddress a) = eq-eqb a a refl
site_itself (ReferenceRow row) = eq-eqb row row refl

-- the object of a `new`, in all copies
pub turned_new : (w : World) (held : Held) (k : Marks) (o : ℕ) (class : ClassId) (t : VType) (v : Tagged) → There (IsA w class) (pointee_at held (k.fresh o))
    → k.method.offset_at (k.method.index_at o) ≡ o
    → Fits w held k t v → Fits w held k (made_is o class t) (after_init (Fresh (k.method.index_at o) (k.fresh o)) v)
unfolding after_init
turned_new w held k o class vtype.Top v there of_o fits = tt
turned_new w held k o class vtype.Int v there of_o fits = rw (initialised_stays (Fresh (k.method.index_at o) (k.fresh o)) v (plain_initialised w held k vtype.Int v tt fits)) fits
turned_new w held k o class vtype.Null v there of_o fits = rw (initialised_stays (Fresh (k.method.index_at o) (k.fresh o)) v (Null-initialised w held k v fits)) fits
turned_new w held k o class (vtype.Object c) v there of_o fits = rw (initialised_stays (Fresh (k.method.index_at o) (k.fresh o)) v (plain_initialised w held k (vtype.Object c) v tt fits)) fits
turned_new w held k o class vtype.IntArray v there of_o fits = rw (initialised_stays (Fresh (k.method.index_at o) (k.fresh o)) v (plain_initialised w held k vtype.IntArray v tt fits)) fits
turned_new w held k o class (vtype.Uninitialized q) v there of_o fits = rw fits.is (split (nat_eq q o) refl)
  where
    split : (b : Bool) → nat_eq q o ≡ b
        → Fits w held k (if b then vtype.Object class else vtype.Uninitialized q)
        (if nat_eq (k.method.index_at q) (k.method.index_at o) && site_eq (k.fresh q) (k.fresh o) then object_at (k.fresh q) else Fresh (k.method.index_at q) (k.fresh q))
    split true is =
        let same : q ≡ o = eqb-true q o is in
        let index : nat_eq (k.method.index_at q) (k.method.index_at o) ≡ true = eq-eqb (k.method.index_at q) (k.method.index_at o) (ap k.method.index_at same) in
        let itself : site_eq (k.fresh q) (k.fresh o) ≡ true = subst (λ (r : ℕ). site_eq (k.fresh q) (k.fresh r) ≡ true) same (site_itself (k.fresh q)) in
        rw (index, itself) (at_site (IsA w class) held (k.fresh q) (subst (λ (r : ℕ). There (IsA w class) (pointee_at held (k.fresh r))) (sym same) there))
    split false is = rw (other_index k o q of_o fits.at is) record { is = refl; at = fits.at; there = fits.there }
turned_new w held k o class vtype.UninitializedThis v there of_o fits = rw fits.is record { is = refl; there = fits.there }

-- the receiver of an `<init>`, in all copies
pub turned_own : (w : World) (held : Held) (k : Marks) (class : ClassId) (t : VType) (v : Tagged) → There (IsA w class) (pointee_at held k.receiver)
    → Fits w held k t v → Fits w held k (this_is class t) (after_init (This k.receiver) v)
unfolding after_init
turned_own w held k class vtype.Top v there fits = tt
turned_own w held k class vtype.Int v there fits = rw (initialised_stays (This k.receiver) v (plain_initialised w held k vtype.Int v tt fits)) fits
turned_own w held k class vtype.Null v there fits = rw (initialised_stays (This k.receiver) v (Null-initialised w held k v fits)) fits
turned_own w held k class (vtype.Object c) v there fits = rw (initialised_stays (This k.receiver) v (plain_initialised w held k (vtype.Object c) v tt fits)) fits
turned_own w held k class vtype.IntArray v there fits = rw (initialised_stays (This k.receiver) v (plain_initialised w held k vtype.IntArray v tt fits)) fits
turned_own w held k class (vtype.Uninitialized q) v there fits = rw fits.is record { is = refl; at = fits.at; there = fits.there }
turned_own w held k class vtype.UninitializedThis v there fits =
    rw (fits.is, site_itself k.receiver) (at_site (IsA w class) held k.receiver there)

pub map_fits : (R : VType → Tagged → Type 0) (g : VType → VType) (h : Tagged → Tagged) (types : List VType) (values : List Tagged) → ((t : VType) (v : Tagged) → R t v → R (g t) (h v))
    → AllZip R types values → AllZip R (map g types) (map h values)
map_fits R g h [] [] to fit = tt
map_fits R g h [] (v ∷ values) to fit = absurd fit
map_fits R g h (t ∷ types) [] to fit = absurd fit
map_fits R g h (t ∷ types) (v ∷ values) to fit = (to t v fit.0, map_fits R g h types values to fit.1)

pub AllZip-append : {A B : Type 0} (R : A → B → Type 0) (xs xs' : List A) (ys ys' : List B) → AllZip R xs ys → AllZip R xs' ys' → AllZip R (xs ++ xs') (ys ++ ys')
AllZip-append R [] xs' [] ys' fit fit' = fit'
AllZip-append R [] xs' (y ∷ ys) ys' fit fit' = absurd fit
AllZip-append R (x ∷ xs) xs' [] ys' fit fit' = absurd fit
AllZip-append R (x ∷ xs) xs' (y ∷ ys) ys' fit fit' = (fit.0, AllZip-append R xs xs' ys ys' fit.1 fit')

pub AllZip-reverse : {A B : Type 0} (R : A → B → Type 0) (xs : List A) (ys : List B) → AllZip R xs ys → AllZip R (reverse xs) (reverse ys)
AllZip-reverse R [] [] fit = tt
AllZip-reverse R [] (y ∷ ys) fit = absurd fit
AllZip-reverse R (x ∷ xs) [] fit = absurd fit
AllZip-reverse R (x ∷ xs) (y ∷ ys) fit =
    rw (reverse-append (x ∷ []) xs, reverse-append (y ∷ []) ys) (AllZip-append R (reverse xs) (x ∷ []) (reverse ys) (y ∷ []) (AllZip-reverse R xs ys fit.1) (fit.0, tt))

-- values of plain types fit in each frame, and are initialised
pub all_plain_fit : (w : World) (held : Held) (k k' : Marks) (types : List VType) (values : List Tagged) → ArePlain types → AllFit w held k types values → AllFit w held k' types values
all_plain_fit w held k k' [] [] plain fit = tt
all_plain_fit w held k k' [] (v ∷ values) plain fit = absurd fit
all_plain_fit w held k k' (t ∷ types) [] plain fit = absurd fit
all_plain_fit w held k k' (t ∷ types) (v ∷ values) plain fit = (plain_fits w held k k' t v plain.0 fit.0, all_plain_fit w held k k' types values plain.1 fit.1)

pub all_plain_initialised : (w : World) (held : Held) (k : Marks) (types : List VType) (values : List Tagged) → ArePlain types → AllFit w held k types values → list_all is_initialised values ≡ true
all_plain_initialised w held k [] [] plain fit = refl
all_plain_initialised w held k [] (v ∷ values) plain fit = absurd fit
all_plain_initialised w held k (t ∷ types) [] plain fit = absurd fit
all_plain_initialised w held k (t ∷ types) (v ∷ values) plain fit =
    rw (plain_initialised w held k t v plain.0 fit.0) (all_plain_initialised w held k types values plain.1 fit.1)

ArePlain-append : (xs ys : List VType) → ArePlain xs → ArePlain ys → ArePlain (xs ++ ys)
ArePlain-append [] ys plain plain' = plain'
ArePlain-append (x ∷ xs) ys plain plain' = (plain.0, ArePlain-append xs ys plain.1 plain')

pub ArePlain-reverse : (xs : List VType) → ArePlain xs → ArePlain (reverse xs)
ArePlain-reverse [] plain = tt
ArePlain-reverse (x ∷ xs) plain = rw (reverse-append (x ∷ []) xs) (ArePlain-append (reverse xs) (x ∷ []) (ArePlain-reverse xs plain.1) (plain.0, tt))

-- the operands that a call takes, of the types asked, and what lies under them
pub record Popped (w : World) (held : Held) (k : Marks) (asked below : List VType) (operands : List Tagged) : Type 0 where
  pub passed : List Tagged
  pub left : List Tagged
  pub whole : operands ≡ passed ++ left
  pub fit : AllFit w held k asked passed
  pub rest : AllFit w held k below left

pub popped : (w : World) (owed : Owed w) (held : Held) (k : Marks) (given asked below : List VType) (operands : List Tagged)
    → AreAssignable w.classes given asked → AllFit w held k (given ++ below) operands → Popped w held k asked below operands
popped w owed held k [] [] below operands to fit = record { passed = []; left = operands; whole = refl; fit = tt; rest = fit }
popped w owed held k [] (t ∷ asked) below operands to fit = absurd to
popped w owed held k (s ∷ given) [] below operands to fit = absurd to
popped w owed held k (s ∷ given) (t ∷ asked) below [] to fit = absurd fit
popped w owed held k (s ∷ given) (t ∷ asked) below (v ∷ operands) to fit =
    let more = popped w owed held k given asked below operands to.1 fit.1 in
    record {
      passed = v ∷ more.passed;
      left = more.left;
      whole = ap (λ (zs : List Tagged). v ∷ zs) more.whole;
      fit = (Fits-assignable w owed held k s t v to.0 fit.0, more.fit);
      rest = more.rest;
    }

pub take_front : {A : Type 0} (xs ys : List A) → take (length xs) (xs ++ ys) ≡ xs
take_front [] ys = refl
take_front (x ∷ xs) ys = ap (λ (zs : _). x ∷ zs) (take_front xs ys)

pub drop_front : {A : Type 0} (xs ys : List A) → drop (length xs) (xs ++ ys) ≡ ys
drop_front [] ys = refl
drop_front (x ∷ xs) ys = drop_front xs ys

pub get_front : {A : Type 0} (xs ys : List A) (y : A) → slice_get (xs ++ y ∷ ys) (length xs) ≡ Some y
get_front [] ys y = refl
get_front (x ∷ xs) ys y = get_front xs ys y

pub map-append : {A B : Type 0} (f : A → B) (xs ys : List A) → map f (xs ++ ys) ≡ map f xs ++ map f ys
map-append f [] ys = refl
map-append f (x ∷ xs) ys = ap (λ (zs : _). f x ∷ zs) (map-append f xs ys)

pub more_front : {A : Type 0} (xs ys : List A) (y : A) → xs ++ y ∷ ys ≡ (xs ++ y ∷ []) ++ ys
more_front [] ys y = refl
more_front (x ∷ xs) ys y = ap (λ (zs : _). x ∷ zs) (more_front xs ys y)
