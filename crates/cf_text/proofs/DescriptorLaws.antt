-- A text is read as a descriptor exactly if the grammar has it (JVMS 4.3).
use Rattle.std.proofs.Common.{◌≡◌, ◌≤◌, ◌<◌, ◌+◌, ◌&&◌, ℕ, zero, suc, Bool, true, false, cond, eqb, ltb, not, List, [], ◌∷◌, ◌++◌, length, take, drop, Option, Some, None, Result, Ok, Err, refl, sym, ap, ◌∙◌, subst, arith, add-one, append_assoc, append-nil}
use Rattle.std.proofs.Math.ListN.{replicate}
use Rattle.std.proofs.lemmas.Bool.{false≢true, eqb-true, and_parts, ltb-true, ltb-false, lt-ltb, le-ltb, ne_eqb}
use Rattle.std.proofs.lemmas.List.{length-append, take_at, drop_at}
use Rattle.cf_text.specs.declared.fault.Rule.{Rule}
use Rattle.cf_text.specs.declared.fault.Rule.TheVariants as rules
use Rattle.cf_text.specs.declared.fault.ReadFault.{ReadFault}
use Rattle.cf_text.specs.declared.fault.ReadFault.TheVariants.{Broken, Memory}
use Rattle.cf_text.specs.declared.types.FieldType.{FieldType}
use Rattle.cf_text.specs.declared.types.ElementType.{ElementType}
use Rattle.cf_text.specs.declared.types.ElementType.TheVariants.{Byte, Char, Double, Float, Int, Long, Short, Boolean, Class}
use Rattle.cf_text.specs.declared.types.MethodDescriptor.{MethodDescriptor}
use Rattle.cf_text.specs.declared.types.Descriptor.{Descriptor}
use Rattle.cf_text.specs.declared.types.Descriptor.TheVariants.{Field, Method}
use Rattle.cf_text.specs.Reading.{◌>>=◌}
use Rattle.cf_text.specs.Names.{are_parts, is_class_name, is_name_byte}
use Rattle.std.specs.Prelude.{IfOk}
use Rattle.cf_text.specs.Looks.{Exactly, Tells}
use Rattle.cf_text.specs.Types.{as_found, begins_with, class_type_of, descriptor_in, descriptor_of, dimensions_of, element_type_of, field_descriptor_of, field_type_of, letter_type, malformed, method_descriptor_of, name_length, parameters_of, plain_type_of, result_of}
use Rattle.cf_text.specs.Descriptors.{AreFieldTypes, IsDescriptor, IsElementType, IsFieldType, IsMethodType, IsResultType, spelling}
use Rattle.cf_text.proofs.FormatLaws.{broken_is}

abbrev answered : {A : Type 0} → A → Result A ReadFault
answered x = Ok x

abbrev refusal : {A : Type 0} → ReadFault → Result A ReadFault
refusal fault = Err fault

-- ---- class names

-- a byte of a name is no semicolon
no_semicolon : (begins : Bool) (b : ℕ) → cond (eqb b 47) (not begins) (is_name_byte b) ≡ true → eqb b 59 ≡ false
no_semicolon begins b h =
    ne_eqb b 59 (λ e. let here : cond (eqb 59 47) (not begins) (is_name_byte 59) ≡ true = subst (λ (x : ℕ). cond (eqb x 47) (not begins) (is_name_byte x) ≡ true) e h in false≢true here)

name_ends : (begins : Bool) (name rest : List ℕ) → are_parts begins name ≡ true → name_length (name ++ 59 ∷ rest) ≡ length name
name_ends begins [] rest h = refl
name_ends begins (b ∷ name) rest h =
    let parts = and_parts (cond (eqb b 47) (not begins) (is_name_byte b)) (are_parts (eqb b 47) name) h in
    rw (no_semicolon begins b parts.0) (ap (λ (n : ℕ). n + 1) (name_ends (eqb b 47) name rest parts.1) ∙ add-one (length name))

-- the front of a text up to its first semicolon, and what stands after it
parted : (b : Bool) (c : ℕ) (text : List ℕ) → eqb c 59 ≡ b → cond b 0 (name_length text + 1) < suc (length text)
    → (name_length text < length text → text ≡ take (name_length text) text ++ 59 ∷ drop (name_length text + 1) text)
    → c ∷ text ≡ take (cond b 0 (name_length text + 1)) (c ∷ text) ++ 59 ∷ drop (cond b 0 (name_length text + 1) + 1) (c ∷ text)
parted true c text test within later = ap (λ (x : ℕ). x ∷ text) (eqb-true c 59 test)
parted false c text test within later =
    rw (add-one (name_length text), add-one (suc (name_length text))) (ap (λ (l : List ℕ). c ∷ l) (later (omega arith) ∙ ap (λ (n : ℕ). take (name_length text) text ++ 59 ∷ drop n text) (add-one (name_length text))))

split_at_semicolon : (text : List ℕ) → name_length text < length text → text ≡ take (name_length text) text ++ 59 ∷ drop (name_length text + 1) text
split_at_semicolon [] within = absurd (omega arith)
split_at_semicolon (c ∷ text) within = parted (eqb c 59) c text refl within (split_at_semicolon text)

class_takes_by : (at : ℕ) (text : List ℕ) (short named : Bool) → ltb (name_length text) (length text) ≡ short → is_class_name (take (name_length text) text) ≡ named → (x : ElementType × List ℕ)
    → cond (short && named) (answered (Class (take (name_length text) text), drop (name_length text + 1) text)) (malformed at) ≡ answered x
    → (front : List ℕ) × IsElementType (76 ∷ front) x.0 × (text ≡ front ++ x.1)
class_takes_by at text true true short named x e =
    let name = take (name_length text) text in
    let rest = drop (name_length text + 1) text in
    let same : ◌≡◌ {A = ElementType × List ℕ} (Class name, rest) x = cc in
    let split : text ≡ name ++ 59 ∷ rest = split_at_semicolon text (ltb-true _ _ short) in
    subst (λ (y : ElementType × List ℕ). (front : List ℕ) × IsElementType (76 ∷ front) y.0 × (text ≡ front ++ y.1)) same
    (name ++ 59 ∷ [], (named, refl), split ∙ sym (append_assoc name (59 ∷ []) rest))
class_takes_by at text true false short named x e = absurd cc
class_takes_by at text false named_is short named x e = absurd cc

class_takes : (at : ℕ) (text : List ℕ) (x : ElementType × List ℕ) → class_type_of at text ≡ Ok x → (front : List ℕ) × IsElementType (76 ∷ front) x.0 × (text ≡ front ++ x.1)
unfolding class_type_of
class_takes at text x e = class_takes_by at text (ltb (name_length text) (length text)) (is_class_name (take (name_length text) text)) refl refl x e

class_again : (at : ℕ) (name rest : List ℕ) → is_class_name name ≡ true → class_type_of at (name ++ 59 ∷ rest) ≡ Ok (Class name, rest)
unfolding class_type_of
class_again at name rest h =
    let ends : name_length (name ++ 59 ∷ rest) ≡ length name = name_ends true name rest h in
    let front : take (length name) (name ++ 59 ∷ rest) ≡ name = take_at name (59 ∷ rest) (length name) refl in
    let following : drop (length name + 1) (name ++ 59 ∷ rest) ≡ rest =
    ap (drop (length name + 1)) (sym (append_assoc name (59 ∷ []) rest)) ∙ drop_at (name ++ 59 ∷ []) rest (length name + 1) (length-append name (59 ∷ [])) in
    let long : ltb (length name) (length (name ++ 59 ∷ rest)) ≡ true = lt-ltb _ _ (omega (arith, length-append name (59 ∷ rest))) in
    rw (ends, front, following, long, h) refl

-- ---- elements

-- one letter of a table
letter_is : {P : Type 0} (b c : ℕ) (element x : ElementType) (rest : Option ElementType) → cond (eqb b c) (Some element) rest ≡ Some x → (rest ≡ Some x → P) → (b ≡ c → element ≡ x → P) → P
letter_is {P} b c element x rest e other here = by (eqb b c) refl e
  where
    by : (test : Bool) → eqb b c ≡ test → cond test (Some element) rest ≡ Some x → P
    by true test h = here (eqb-true b c test) cc
    by false test h = other h

-- a letter spells its element
spelled_by : (b c : ℕ) (element x : ElementType) → IsElementType (c ∷ []) element → b ≡ c → element ≡ x → IsElementType (b ∷ []) x
spelled_by b c element x is same_byte same =
    subst (λ (y : ElementType). IsElementType (b ∷ []) y) same (subst (λ (a : ℕ). IsElementType (a ∷ []) element) (sym same_byte) is)

letter_takes : (b : ℕ) (x : ElementType) → letter_type b ≡ Some x → IsElementType (b ∷ []) x
letter_takes b x e =
    letter_is b 66 Byte x _ e (λ e. letter_is b 67 Char x _ e (λ e. letter_is b 68 Double x _ e (λ e. letter_is b 70 Float x _ e (λ e.
    letter_is b 73 Int x _ e (λ e. letter_is b 74 Long x _ e (λ e. letter_is b 83 Short x _ e (λ e. letter_is b 90 Boolean x _ e (λ e. absurd cc)
    (spelled_by b 90 Boolean x refl)) (spelled_by b 83 Short x refl)) (spelled_by b 74 Long x refl)) (spelled_by b 73 Int x refl))
    (spelled_by b 70 Float x refl)) (spelled_by b 68 Double x refl)) (spelled_by b 67 Char x refl)) (spelled_by b 66 Byte x refl)

plain_takes : (at b : ℕ) (found : Option ElementType) (rest : List ℕ) (x : ElementType × List ℕ) → letter_type b ≡ found → plain_type_of at found rest ≡ Ok x
    → IsElementType (b ∷ []) x.0 × (rest ≡ x.1)
plain_takes at b None rest x is e = absurd cc
plain_takes at b (Some element) rest x is e =
    let same : ◌≡◌ {A = ElementType × List ℕ} (element, rest) x = cc in
    subst (λ (y : ElementType × List ℕ). IsElementType (b ∷ []) y.0 × (rest ≡ y.1)) same (letter_takes b element is, refl)

-- a text begins with a spelling of what is read, and after it stands the rest
abbrev Front : {A : Type 0} → (List ℕ → A → Type 0) → List ℕ → A × List ℕ → Type 0
Front Is text x = (front : List ℕ) × Is front x.0 × (text ≡ front ++ x.1)

element_takes_by : (at b : ℕ) (text : List ℕ) (class : Bool) → eqb b 76 ≡ class → (x : ElementType × List ℕ)
    → cond class (class_type_of at text) (plain_type_of at (letter_type b) text) ≡ Ok x → Front IsElementType (b ∷ text) x
element_takes_by at b text true class x e =
    let h = class_takes at text x e in
    (76 ∷ h.0, h.1, ap (λ (c : ℕ). c ∷ text) (eqb-true b 76 class) ∙ ap (λ (l : List ℕ). 76 ∷ l) h.2)
element_takes_by at b text false class x e =
    let h = plain_takes at b (letter_type b) text x refl e in
    (b ∷ [], h.0, ap (λ (l : List ℕ). b ∷ l) h.1)

element_takes : (at : ℕ) (text : List ℕ) (x : ElementType × List ℕ) → element_type_of at text ≡ Ok x → Front IsElementType text x
unfolding element_type_of
element_takes at [] x e = absurd cc
element_takes at (b ∷ text) x e = element_takes_by at b text (eqb b 76) refl x e

element_again : (at : ℕ) (front : List ℕ) (element : ElementType) (rest : List ℕ) → IsElementType front element → element_type_of at (front ++ rest) ≡ Ok (element, rest)
unfolding element_type_of
element_again at front Byte rest is = rw is refl
element_again at front Char rest is = rw is refl
element_again at front Double rest is = rw is refl
element_again at front Float rest is = rw is refl
element_again at front Int rest is = rw is refl
element_again at front Long rest is = rw is refl
element_again at front Short rest is = rw is refl
element_again at front Boolean rest is = rw is refl
element_again at front (Class name) rest is =
    let same : front ++ rest ≡ 76 ∷ (name ++ 59 ∷ rest) =
    ap (λ (l : List ℕ). l ++ rest) is.1 ∙ ap (λ (l : List ℕ). 76 ∷ l) (append_assoc name (59 ∷ []) rest) in
    rw same (class_again at name rest is.0)

-- what an element begins with is no bracket
element_begins : (front : List ℕ) (element : ElementType) (rest : List ℕ) → IsElementType front element → dimensions_of (front ++ rest) ≡ 0
element_begins front Byte rest is = rw is refl
element_begins front Char rest is = rw is refl
element_begins front Double rest is = rw is refl
element_begins front Float rest is = rw is refl
element_begins front Int rest is = rw is refl
element_begins front Long rest is = rw is refl
element_begins front Short rest is = rw is refl
element_begins front Boolean rest is = rw is refl
element_begins front (Class name) rest is = rw is.1 refl

-- ---- field types

brackets_by : (b : ℕ) (text : List ℕ) (bracket : Bool) → eqb b 91 ≡ bracket → text ≡ replicate (dimensions_of text) 91 ++ drop (dimensions_of text) text
    → b ∷ text ≡ replicate (cond bracket (dimensions_of text + 1) 0) 91 ++ drop (cond bracket (dimensions_of text + 1) 0) (b ∷ text)
brackets_by b text true bracket later =
    rw (add-one (dimensions_of text)) (ap (λ (c : ℕ). c ∷ text) (eqb-true b 91 bracket) ∙ ap (λ (l : List ℕ). 91 ∷ l) later)
brackets_by b text false bracket later = refl

brackets : (text : List ℕ) → text ≡ replicate (dimensions_of text) 91 ++ drop (dimensions_of text) text
brackets [] = refl
brackets (b ∷ text) = brackets_by b text (eqb b 91) refl (brackets text)

-- a text with n brackets before what begins with none has n dimensions
dimensions_again : (n : ℕ) (text : List ℕ) → dimensions_of text ≡ 0 → dimensions_of (replicate n 91 ++ text) ≡ n
dimensions_again zero text h = h
dimensions_again (suc n) text h = ap (λ (k : ℕ). k + 1) (dimensions_again n text h) ∙ add-one n

drop_brackets : (n : ℕ) (text : List ℕ) → drop n (replicate n 91 ++ text) ≡ text
drop_brackets zero text = refl
drop_brackets (suc n) text = drop_brackets n text

abbrev with_dimensions : ℕ → ElementType × List ℕ → Result (FieldType × List ℕ) ReadFault
with_dimensions dimensions element = Ok (record { dimensions = dimensions; element = element.0 }, element.1)

field_takes_by : (at : ℕ) (text : List ℕ) (many : Bool) → ltb 255 (dimensions_of text) ≡ many → (r : Result (ElementType × List ℕ) ReadFault)
    → element_type_of at (drop (dimensions_of text) text) ≡ r → (x : FieldType × List ℕ)
    → cond many (malformed at) (r >>= with_dimensions (dimensions_of text)) ≡ Ok x → Front IsFieldType text x
field_takes_by at text true many r read x e = absurd cc
field_takes_by at text false many (Err fault) read x e = absurd cc
field_takes_by at text false many (Ok element) read x e =
    let h = element_takes at (drop (dimensions_of text) text) element read in
    let same : ◌≡◌ {A = FieldType × List ℕ} (record { dimensions = dimensions_of text; element = element.0 }, element.1) x = cc in
    let spelled : text ≡ (replicate (dimensions_of text) 91 ++ h.0) ++ element.1 =
    brackets text ∙ ap (λ (l : List ℕ). replicate (dimensions_of text) 91 ++ l) h.2 ∙ sym (append_assoc (replicate (dimensions_of text) 91) h.0 element.1) in
    subst (λ (y : FieldType × List ℕ). Front IsFieldType text y) same
    (replicate (dimensions_of text) 91 ++ h.0, record { element = h.0; spelled = refl; few = ltb-false _ _ many; is = h.1 }, spelled)

field_takes : (at : ℕ) (text : List ℕ) (x : FieldType × List ℕ) → field_type_of at text ≡ Ok x → Front IsFieldType text x
unfolding field_type_of
field_takes at text x e = field_takes_by at text (ltb 255 (dimensions_of text)) refl (element_type_of at (drop (dimensions_of text) text)) refl x e

field_again : (at : ℕ) (front : List ℕ) (type : FieldType) (rest : List ℕ) → IsFieldType front type → field_type_of at (front ++ rest) ≡ Ok (type, rest)
unfolding field_type_of
field_again at front type rest is =
    let n = type.dimensions in
    let text : front ++ rest ≡ replicate n 91 ++ (is.element ++ rest) =
    ap (λ (l : List ℕ). l ++ rest) is.spelled ∙ append_assoc (replicate n 91) is.element rest in
    let dimensions : dimensions_of (replicate n 91 ++ (is.element ++ rest)) ≡ n = dimensions_again n (is.element ++ rest) (element_begins is.element type.element rest is.is) in
    let few : ltb 255 n ≡ false = le-ltb _ _ is.few in
    let following : drop n (replicate n 91 ++ (is.element ++ rest)) ≡ is.element ++ rest = drop_brackets n (is.element ++ rest) in
    rw (text, dimensions, few, following, element_again at is.element type.element rest is.is) refl

-- ---- parameters

abbrev with_first : FieldType → List FieldType × List ℕ → Result (List FieldType × List ℕ) ReadFault
with_first first others = Ok (first ∷ others.0, others.1)

-- types after one another, and a closing bracket
abbrev Closed : List ℕ → List FieldType × List ℕ → Type 0
Closed text x = (front : List ℕ) × AreFieldTypes front x.0 × (text ≡ front ++ (41 ∷ x.1))

begins_is : (c : ℕ) (text : List ℕ) → begins_with c text ≡ true → text ≡ c ∷ drop 1 text
begins_is c [] h = absurd (false≢true h)
begins_is c (b ∷ text) h = ap (λ (a : ℕ). a ∷ text) (eqb-true b c h)

parameters_takes : (n at : ℕ) (text : List ℕ) (x : List FieldType × List ℕ) → parameters_of n at text ≡ Ok x → Closed text x
unfolding parameters_of
parameters_takes zero at text x e = absurd cc
parameters_takes (suc n) at text x e = by (λ rest y h. parameters_takes n at rest y h) (begins_with 41 text) refl (field_type_of at text) refl x e
  where
    more : ((rest : List ℕ) (y : List FieldType × List ℕ) → parameters_of n at rest ≡ Ok y → Closed rest y) → (first : FieldType × List ℕ) → field_type_of at text ≡ Ok first → (others : Result (List FieldType × List ℕ) ReadFault) → parameters_of n at first.1 ≡ others
        → (x : List FieldType × List ℕ) → (others >>= with_first first.0) ≡ Ok x → Closed text x
    more later first read (Err fault) rest x e = absurd cc
    more later first read (Ok others) rest x e =
        let h = field_takes at text first read in
        let t = later first.1 others rest in
        let same : ◌≡◌ {A = List FieldType × List ℕ} (first.0 ∷ others.0, others.1) x = cc in
        let spelled : text ≡ (h.0 ++ t.0) ++ (41 ∷ others.1) = h.2 ∙ ap (λ (l : List ℕ). h.0 ++ l) t.2 ∙ sym (append_assoc h.0 t.0 (41 ∷ others.1)) in
        subst (λ (y : List FieldType × List ℕ). Closed text y) same (h.0 ++ t.0, (h.0, t.0, refl, h.1, t.1), spelled)

    by : ((rest : List ℕ) (y : List FieldType × List ℕ) → parameters_of n at rest ≡ Ok y → Closed rest y) → (closed : Bool) → begins_with 41 text ≡ closed → (r : Result (FieldType × List ℕ) ReadFault) → field_type_of at text ≡ r → (x : List FieldType × List ℕ)
        → cond closed (Ok ([], drop 1 text)) (r >>= λ first. parameters_of n at first.1 >>= λ others. Ok (first.0 ∷ others.0, others.1)) ≡ Ok x → Closed text x
    by later true closed r read x e =
        let same : ◌≡◌ {A = List FieldType × List ℕ} ([], drop 1 text) x = cc in
        subst (λ (y : List FieldType × List ℕ). Closed text y) same ([], refl, begins_is 41 text closed)
    by later false closed (Err fault) read x e = absurd cc
    by later false closed (Ok first) read x e = more later first read (parameters_of n at first.1) refl x e

-- a field type begins with no bracket of parameters and no V, and takes a byte at least
element_byte : (front : List ℕ) (element : ElementType) (rest : List ℕ) → IsElementType front element
    → (begins_with 41 (front ++ rest) ≡ false) × (begins_with 86 (front ++ rest) ≡ false) × (begins_with 40 (front ++ rest) ≡ false) × (1 ≤ length front)
element_byte front Byte rest is = rw is (refl, refl, refl, omega arith)
element_byte front Char rest is = rw is (refl, refl, refl, omega arith)
element_byte front Double rest is = rw is (refl, refl, refl, omega arith)
element_byte front Float rest is = rw is (refl, refl, refl, omega arith)
element_byte front Int rest is = rw is (refl, refl, refl, omega arith)
element_byte front Long rest is = rw is (refl, refl, refl, omega arith)
element_byte front Short rest is = rw is (refl, refl, refl, omega arith)
element_byte front Boolean rest is = rw is (refl, refl, refl, omega arith)
element_byte front (Class name) rest is = rw is.1 (refl, refl, refl, omega arith)

bracketed_byte : (n : ℕ) (element : List ℕ) (type : ElementType) (rest : List ℕ) → IsElementType element type
    → (begins_with 41 ((replicate n 91 ++ element) ++ rest) ≡ false) × (begins_with 86 ((replicate n 91 ++ element) ++ rest) ≡ false)
    × (begins_with 40 ((replicate n 91 ++ element) ++ rest) ≡ false) × (1 ≤ length (replicate n 91 ++ element))
bracketed_byte zero element type rest is = element_byte element type rest is
bracketed_byte (suc n) element type rest is = (refl, refl, refl, omega arith)

field_byte : (front : List ℕ) (type : FieldType) (rest : List ℕ) → IsFieldType front type
    → (begins_with 41 (front ++ rest) ≡ false) × (begins_with 86 (front ++ rest) ≡ false) × (begins_with 40 (front ++ rest) ≡ false) × (1 ≤ length front)
field_byte front type rest is = rw is.spelled (bracketed_byte type.dimensions is.element type.element rest is.is)

parameters_again : (types : List FieldType) (n at : ℕ) (front rest : List ℕ) → AreFieldTypes front types → length front < n
    → parameters_of n at (front ++ (41 ∷ rest)) ≡ Ok (types, rest)
unfolding parameters_of
parameters_again types zero at front rest are fits = absurd (omega arith)
parameters_again [] (suc n) at front rest are fits = rw are refl
parameters_again (type ∷ types) (suc n) at front rest are fits =
    let one = are.0 in
    let others = are.1 in
    let following = others ++ (41 ∷ rest) in
    let text : front ++ (41 ∷ rest) ≡ one ++ following = ap (λ (l : List ℕ). l ++ (41 ∷ rest)) are.2 ∙ append_assoc one others (41 ∷ rest) in
    let byte = field_byte one type following are.3 in
    let first : field_type_of at (one ++ following) ≡ Ok (type, following) = field_again at one type following are.3 in
    let longer : length front ≡ length one + length others = ap (λ (l : List ℕ). length l) are.2 ∙ length-append one others in
    let later : parameters_of n at (others ++ (41 ∷ rest)) ≡ Ok (types, rest) = parameters_again types n at others rest are.4 (omega (arith, byte.3)) in
    rw (text, byte.0, first, later) refl

-- ---- whole texts

nothing_after : (rest : List ℕ) → length rest ≡ 0 → rest ≡ []
nothing_after [] h = refl
nothing_after (b ∷ rest) h = absurd (omega arith)

field_whole_by : (text : List ℕ) (at : ℕ) (r : Result (FieldType × List ℕ) ReadFault) → field_type_of at text ≡ r → (type : FieldType)
    → (r >>= λ type. cond (eqb (length type.1) 0) (Ok type.0) (malformed at)) ≡ Ok type → IsFieldType text type
field_whole_by text at (Err fault) read type e = absurd cc
field_whole_by text at (Ok x) read type e = by (eqb (length x.1) 0) refl e
  where
    by : (none : Bool) → eqb (length x.1) 0 ≡ none → cond none (answered x.0) (malformed at) ≡ Ok type → IsFieldType text type
    by true none e =
        let h = field_takes at text x read in
        let same : x.0 ≡ type = cc in
        let all : text ≡ h.0 = h.2 ∙ ap (λ (l : List ℕ). h.0 ++ l) (nothing_after x.1 (eqb-true _ _ none)) ∙ append-nil h.0 in
        subst (λ (t : FieldType). IsFieldType text t) same (subst (λ (l : List ℕ). IsFieldType l x.0) (sym all) h.1)
    by false none e = absurd cc

pub field_descriptor_takes : (at : ℕ) (text : List ℕ) (type : FieldType) → field_descriptor_of at text ≡ Ok type → IsFieldType text type
unfolding field_descriptor_of
field_descriptor_takes at text type e = field_whole_by text at (field_type_of at text) refl type e

pub field_descriptor_again : (at : ℕ) (text : List ℕ) (type : FieldType) → IsFieldType text type → field_descriptor_of at text ≡ Ok type
unfolding field_descriptor_of
field_descriptor_again at text type is =
    let read : field_type_of at text ≡ Ok (type, []) = ap (field_type_of at) (sym (append-nil text)) ∙ field_again at text type [] is in
    rw read refl

abbrev some_result : FieldType → Result (Option FieldType) ReadFault
some_result type = Ok (Some type)

result_takes_by : (at : ℕ) (text : List ℕ) (void : Bool) → begins_with 86 text ≡ void → (r : Result FieldType ReadFault) → field_descriptor_of at text ≡ r → (x : Option FieldType)
    → cond void (cond (eqb (length text) 1) (Ok None) (malformed at)) (r >>= some_result) ≡ Ok x → IsResultType text x
result_takes_by at text false void (Err fault) read x e = absurd cc
result_takes_by at text false void (Ok type) read x e =
    let same : Some type ≡ x = cc in
    subst (λ (y : Option FieldType). IsResultType text y) same (field_descriptor_takes at text type read)
result_takes_by at text true void r read x e = by (eqb (length text) 1) refl e
  where
    by : (one : Bool) → eqb (length text) 1 ≡ one → cond one (answered {A = Option FieldType} None) (malformed at) ≡ Ok x → IsResultType text x
    by true one e =
        let same : None ≡ x = cc in
        let begins : text ≡ 86 ∷ drop 1 text = begins_is 86 text void in
        let none : drop 1 text ≡ [] = nothing_after (drop 1 text) (omega (arith, eqb-true _ _ one, ap (λ (l : List ℕ). length l) begins)) in
        subst (λ (y : Option FieldType). IsResultType text y) same (begins ∙ ap (λ (l : List ℕ). 86 ∷ l) none)
    by false one e = absurd cc

result_takes : (at : ℕ) (text : List ℕ) (x : Option FieldType) → result_of at text ≡ Ok x → IsResultType text x
unfolding result_of
result_takes at text x e = result_takes_by at text (begins_with 86 text) refl (field_descriptor_of at text) refl x e

result_again : (at : ℕ) (text : List ℕ) (x : Option FieldType) → IsResultType text x → result_of at text ≡ Ok x
unfolding result_of
result_again at text None is = rw is refl
result_again at text (Some type) is =
    let byte : begins_with 86 text ≡ false = ap (begins_with 86) (sym (append-nil text)) ∙ (field_byte text type [] is).1 in
    rw (byte, field_descriptor_again at text type is) refl

abbrev with_parameters : List FieldType → Option FieldType → Result MethodDescriptor ReadFault
with_parameters parameters result = Ok (record { parameters = parameters; result = result })

method_takes_by : (at : ℕ) (text : List ℕ) (opened : Bool) → begins_with 40 text ≡ opened → (r : Result (List FieldType × List ℕ) ReadFault) → parameters_of (length text) at (drop 1 text) ≡ r
    → (type : MethodDescriptor)
    → cond (not opened) (malformed at) (r >>= λ parameters. result_of at parameters.1 >>= λ result. Ok (record { parameters = parameters.0; result = result })) ≡ Ok type → IsMethodType text type
method_takes_by at text false begins r read type e = absurd cc
method_takes_by at text true begins (Err fault) read type e = absurd cc
method_takes_by at text true begins (Ok x) read type e = by (result_of at x.1) refl e
  where
    by : (r : Result (Option FieldType) ReadFault) → result_of at x.1 ≡ r → (r >>= with_parameters x.0) ≡ Ok type → IsMethodType text type
    by (Err fault) is e = absurd cc
    by (Ok result) is e =
        let same : ◌≡◌ {A = MethodDescriptor} (record { parameters = x.0; result = result }) type = cc in
        let h = parameters_takes (length text) at (drop 1 text) x read in
        subst (λ (t : MethodDescriptor). IsMethodType text t) same (record {
          parameters = h.0;
          result = x.1;
          spelled = begins_is 40 text begins ∙ ap (λ (l : List ℕ). 40 ∷ l) h.2;
          are = h.1;
          is = result_takes at x.1 result is;
        })

pub method_descriptor_takes : (at : ℕ) (text : List ℕ) (type : MethodDescriptor) → method_descriptor_of at text ≡ Ok type → IsMethodType text type
unfolding method_descriptor_of
method_descriptor_takes at text type e = method_takes_by at text (begins_with 40 text) refl (parameters_of (length text) at (drop 1 text)) refl type e

pub method_descriptor_again : (at : ℕ) (text : List ℕ) (type : MethodDescriptor) → IsMethodType text type → method_descriptor_of at text ≡ Ok type
unfolding method_descriptor_of
method_descriptor_again at text type is =
    let following = is.parameters ++ (41 ∷ is.result) in
    let read : parameters_of (length (40 ∷ following)) at following ≡ Ok (type.parameters, is.result) =
    parameters_again type.parameters (length (40 ∷ following)) at is.parameters is.result is.are (omega (arith, length-append is.parameters (41 ∷ is.result))) in
    rw (is.spelled, read, result_again at is.result type.result is.is) refl

-- ---- faults: a text that spells nothing is malformed, and no memory is asked for

-- a reading fails in one way
abbrev Malformed : {A : Type 0} → ℕ → Result A ReadFault → Type 0
Malformed at r = (fault : ReadFault) → r ≡ Err fault → fault ≡ Broken rules.Descriptor at

malformed_one : {A : Type 0} (at : ℕ) → Malformed {A = A} at (malformed at)
malformed_one at fault e = cc

malformed_never : {A : Type 0} (at : ℕ) (x : A) → Malformed at (Ok x)
malformed_never at x fault e = absurd cc

malformed_then : {A B : Type 0} (at : ℕ) (r : Result A ReadFault) (next : A → Result B ReadFault) → Malformed at r → ((x : A) → Malformed at (next x)) → Malformed at (r >>= next)
malformed_then at (Ok x) next first second fault e = second x fault e
malformed_then at (Err failed) next first second fault e =
    let same : failed ≡ fault = cc in
    first fault (ap Err same)

malformed_if : {A : Type 0} (at : ℕ) (test : Bool) (one other : Result A ReadFault) → Malformed at one → Malformed at other → Malformed at (cond test one other)
malformed_if at true one other first second = first
malformed_if at false one other first second = second

malformed_plain : (at : ℕ) (found : Option ElementType) (text : List ℕ) → Malformed at (plain_type_of at found text)
malformed_plain at None text = malformed_one at
malformed_plain at (Some element) text = malformed_never at (element, text)

malformed_element : (at : ℕ) (text : List ℕ) → Malformed at (element_type_of at text)
unfolding element_type_of class_type_of
malformed_element at [] = malformed_one at
malformed_element at (b ∷ text) =
    malformed_if at (eqb b 76) (class_type_of at text) (plain_type_of at (letter_type b) text)
    (malformed_if at (ltb (name_length text) (length text) && is_class_name (take (name_length text) text)) (answered (Class (take (name_length text) text), drop (name_length text + 1) text)) (malformed at) (malformed_never at _) (malformed_one at))
    (malformed_plain at (letter_type b) text)

malformed_field : (at : ℕ) (text : List ℕ) → Malformed at (field_type_of at text)
unfolding field_type_of
malformed_field at text =
    malformed_if at (ltb 255 (dimensions_of text)) (malformed at) (element_type_of at (drop (dimensions_of text) text) >>= with_dimensions (dimensions_of text)) (malformed_one at)
    (malformed_then at (element_type_of at (drop (dimensions_of text) text)) (with_dimensions (dimensions_of text)) (malformed_element at (drop (dimensions_of text) text)) (λ x. malformed_never at _))

malformed_parameters : (n at : ℕ) (text : List ℕ) → Malformed at (parameters_of n at text)
unfolding parameters_of
malformed_parameters zero at text = malformed_one at
malformed_parameters (suc n) at text =
    malformed_if at (begins_with 41 text) (answered ([], drop 1 text)) (field_type_of at text >>= λ first. parameters_of n at first.1 >>= with_first first.0) (malformed_never at _)
    (malformed_then at (field_type_of at text) (λ first. parameters_of n at first.1 >>= with_first first.0) (malformed_field at text)
    (λ first. malformed_then at (parameters_of n at first.1) (with_first first.0) (malformed_parameters n at first.1) (λ others. malformed_never at _)))

malformed_field_descriptor : (at : ℕ) (text : List ℕ) → Malformed at (field_descriptor_of at text)
unfolding field_descriptor_of
malformed_field_descriptor at text =
    malformed_then at (field_type_of at text) (λ type. cond (eqb (length type.1) 0) (Ok type.0) (malformed at)) (malformed_field at text)
    (λ type. malformed_if at (eqb (length type.1) 0) (Ok type.0) (malformed at) (malformed_never at type.0) (malformed_one at))

malformed_result : (at : ℕ) (text : List ℕ) → Malformed at (result_of at text)
unfolding result_of
malformed_result at text =
    malformed_if at (begins_with 86 text) (cond (eqb (length text) 1) (answered None) (malformed at)) (field_descriptor_of at text >>= some_result)
    (malformed_if at (eqb (length text) 1) (answered None) (malformed at) (malformed_never at None) (malformed_one at))
    (malformed_then at (field_descriptor_of at text) some_result (malformed_field_descriptor at text) (λ type. malformed_never at _))

malformed_method_descriptor : (at : ℕ) (text : List ℕ) → Malformed at (method_descriptor_of at text)
unfolding method_descriptor_of
malformed_method_descriptor at text =
    malformed_if at (not (begins_with 40 text)) (malformed at)
    (parameters_of (length text) at (drop 1 text) >>= λ parameters. result_of at parameters.1 >>= with_parameters parameters.0) (malformed_one at)
    (malformed_then at (parameters_of (length text) at (drop 1 text)) (λ parameters. result_of at parameters.1 >>= with_parameters parameters.0) (malformed_parameters (length text) at (drop 1 text))
    (λ parameters. malformed_then at (result_of at parameters.1) (with_parameters parameters.0) (malformed_result at parameters.1) (λ result. malformed_never at _)))

-- a reading of a text that takes what is spelled, and nothing else
module _ {A : Type 0} (Is : List ℕ → A → Type 0) (at : ℕ) (text : List ℕ) (reading : Result A ReadFault) (takes : (x : A) → reading ≡ Ok x → Is text x) (again : (x : A) → Is text x → reading ≡ Ok x)
    (one_way : Malformed at reading) where
  spelling_fails : (rule : Rule) (position : ℕ) → reading ≡ Err (Broken rule position) → (spelling Is at text).Fails rule position
  spelling_fails rule position e =
      let same : Broken rule position ≡ Broken rules.Descriptor at = one_way (Broken rule position) e in
      (cc, cc, λ x is. spelled x (sym (again x is) ∙ e))
    where
      spelled : (x : A) → answered x ≡ Err (Broken rule position) → ⊥
      spelled x h = cc

  spelling_refuses : (r : Result A ReadFault) → reading ≡ r → (rule : Rule) (position : ℕ) → (spelling Is at text).Fails rule position → r ≡ Err (Broken rule position)
  spelling_refuses (Ok x) read rule position h = absurd (h.2 x (takes x read))
  spelling_refuses (Err fault) read rule position h = ap Err (one_way fault read ∙ broken_is (sym h.0) (sym h.1))

  spelling_ample : reading ≡ Err Memory → ⊥
  spelling_ample e = apart (one_way Memory e)
    where
      apart : Memory ≡ Broken rules.Descriptor at → ⊥
      apart h = cc

  spelling_tells : Tells reading (spelling Is at text)
  spelling_tells = record {
    takes = takes;
    again = again;
    fails = spelling_fails;
    refuses = spelling_refuses reading refl;
    ample = spelling_ample;
  }

pub field_descriptor_tells : (at : ℕ) (text : List ℕ) → Tells (field_descriptor_of at text) (spelling IsFieldType at text)
field_descriptor_tells at text =
    spelling_tells IsFieldType at text (field_descriptor_of at text) (field_descriptor_takes at text) (field_descriptor_again at text) (malformed_field_descriptor at text)

pub method_descriptor_tells : (at : ℕ) (text : List ℕ) → Tells (method_descriptor_of at text) (spelling IsMethodType at text)
method_descriptor_tells at text =
    spelling_tells IsMethodType at text (method_descriptor_of at text) (method_descriptor_takes at text) (method_descriptor_again at text) (malformed_method_descriptor at text)

-- ---- whichever it is

abbrev said : Descriptor → Result Descriptor ReadFault
said descriptor = Ok descriptor

-- a method's descriptor begins with a parenthesis, and a field's does not
method_begins : (text : List ℕ) (type : MethodDescriptor) → IsMethodType text type → begins_with 40 text ≡ true
method_begins text type is = rw is.spelled refl

field_begins : (text : List ℕ) (type : FieldType) → IsFieldType text type → begins_with 40 text ≡ false
field_begins text type is = ap (begins_with 40) (sym (append-nil text)) ∙ (field_byte text type [] is).2

any_again : (text : List ℕ) (what : Descriptor) → IsDescriptor text what → descriptor_of text ≡ Ok what
unfolding descriptor_of
any_again text (Field type) is = rw (field_begins text type is, field_descriptor_again 0 text type is) refl
any_again text (Method type) is = rw (method_begins text type is, method_descriptor_again 0 text type is) refl

any_takes_by : (text : List ℕ) (method : Bool) (one : Result MethodDescriptor ReadFault) (other : Result FieldType ReadFault) → method_descriptor_of 0 text ≡ one → field_descriptor_of 0 text ≡ other
    → (what : Descriptor) → cond method (one >>= λ type. said (Method type)) (other >>= λ type. said (Field type)) ≡ Ok what → IsDescriptor text what
any_takes_by text true (Ok type) other read unread what e =
    let same : Method type ≡ what = cc in
    subst (IsDescriptor text) same (method_descriptor_takes 0 text type read)
any_takes_by text true (Err fault) other read unread what e = absurd cc
any_takes_by text false one (Ok type) unread read what e =
    let same : Field type ≡ what = cc in
    subst (IsDescriptor text) same (field_descriptor_takes 0 text type read)
any_takes_by text false one (Err fault) unread read what e = absurd cc

any_takes : (text : List ℕ) (what : Descriptor) → descriptor_of text ≡ Ok what → IsDescriptor text what
unfolding descriptor_of
any_takes text what e = any_takes_by text (begins_with 40 text) (method_descriptor_of 0 text) (field_descriptor_of 0 text) refl refl what e

in_exactly : (text : List ℕ) → Exactly (descriptor_in text) (IsDescriptor text)
unfolding descriptor_in
in_exactly text = by (descriptor_of text) refl
  where
    by : (r : Result Descriptor ReadFault) → descriptor_of text ≡ r → Exactly (as_found r) (IsDescriptor text)
    by (Ok what) read = (any_takes text what read, λ other is. same other what (sym (any_again text other is) ∙ read))
      where
        same : (x y : Descriptor) → said x ≡ said y → x ≡ y
        same x y e = cc
    by (Err fault) read = λ other is. apart other (sym (any_again text other is) ∙ read)
      where
        apart : (x : Descriptor) → said x ≡ Err fault → ⊥
        apart x e = cc

pub descriptor_exactly : {E : Type 0} (text : List ℕ) (answer : Result (Option Descriptor) E) → IfOk answer (λ found. found ≡ descriptor_in text) → IfOk answer (λ found. Exactly found (IsDescriptor text))
descriptor_exactly text (Ok found) is = subst (λ (o : Option Descriptor). Exactly o (IsDescriptor text)) (sym is) (in_exactly text)
descriptor_exactly text (Err fault) is = tt
