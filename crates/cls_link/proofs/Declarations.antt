use Rattle.std.proofs.Common.{◌≡◌, ℕ, zero, suc, ◌+◌, ◌<◌, List, [], ◌∷◌, ◌++◌, length, get_or, take, drop, refl, sym, subst, ap, ◌∙◌, arith, add-one, append-nil, append_assoc, add-zero, zero-add}
use Rattle.std.specs.Prelude.{All}
use Rattle.std.specs.List.{AllZip}
use Rattle.std.proofs.lemmas.List.Elements.{All-append, All-push}
use Rattle.cls_set.specs.declared.Method.{Method}
use Rattle.cls_set.specs.declared.class.Class.{Class}
use Rattle.space_ids.specs.declared.ids.ClassId.{ClassId}
use Rattle.cls_link.specs.declared.fault.LinkFault.{LinkFault}
use Rattle.cls_link.specs.declared.fault.LinkFault.TheVariants.{Broken, Memory}
use Rattle.cls_link.specs.declared.linked_code.LinkedMethod.{LinkedMethod}
use Rattle.cls_link.specs.LinkFaults.{IsFaultOf, IsMethodFault, IsSoundMethod}
use Rattle.cls_link.specs.Links.{Declared, declared_in, declared_from, IsLinked}

abbrev pub declare : ClassId → List ℕ → ℕ → Method → Declared
declare class name index method = record { class = class; class_name = name; index = index; method = method }

suc_moves : (p i : ℕ) → suc p + i ≡ p + suc i
suc_moves p i = omega arith

-- one more method of a class
declared_more_from : (class : ClassId) (name : List ℕ) (p : ℕ) (ms : List Method) (i : ℕ) (d : Method) → i < length ms → declared_in class name p (take (suc i) ms) ≡ declared_in class name p (take i ms) ++ declare class name (p + i) (get_or ms i d) ∷ []
declared_more_from class name p [] i d h = absurd (omega arith)
declared_more_from class name p (m ∷ ms) zero d h = ap (λ n. declare class name n m ∷ []) (sym (add-zero p))
declared_more_from class name p (m ∷ ms) (suc i) d h =
    ap (λ ds. declare class name p m ∷ ds) (declared_more_from class name (suc p) ms i d (omega arith) ∙ ap (λ n. declared_in class name (suc p) (take i ms) ++ declare class name n (get_or ms i d) ∷ []) (suc_moves p i))

pub declared_more : (class : ClassId) (name : List ℕ) (ms : List Method) (i : ℕ) (d : Method) → i < length ms → declared_in class name 0 (take (i + 1) ms) ≡ declared_in class name 0 (take i ms) ++ declare class name i (get_or ms i d) ∷ []
declared_more class name ms i d h =
    rw add-one (declared_more_from class name 0 ms i d h ∙ ap (λ n. declared_in class name 0 (take i ms) ++ declare class name n (get_or ms i d) ∷ []) (zero-add i))

zip_push : {classes : List Class} (ds : List Declared) (ms : List LinkedMethod) (d : Declared) (m : LinkedMethod) → AllZip (IsLinked classes) ds ms → IsLinked classes d m → AllZip (IsLinked classes) (ds ++ d ∷ []) (ms ++ m ∷ [])
zip_push {classes} [] [] d m all one = (one, tt)
zip_push {classes} [] (x ∷ ms) d m all one = absurd all
zip_push {classes} (x ∷ ds) [] d m all one = absurd all
zip_push {classes} (e ∷ ds) (x ∷ ms) d m all one = (all.0, zip_push ds ms d m all.1 one)

-- one more is linked
pub link_more : {classes : List Class} (before ds : List Declared) (ms : List LinkedMethod) (d : Declared) (m : LinkedMethod) → AllZip (IsLinked classes) (before ++ ds) ms → IsLinked classes d m → AllZip (IsLinked classes) (before ++ (ds ++ d ∷ [])) (ms ++ m ∷ [])
link_more {classes} before ds ms d m all one =
    subst (λ es. AllZip (IsLinked classes) es (ms ++ m ∷ [])) (append_assoc before ds (d ∷ [])) (zip_push (before ++ ds) ms d m all one)

-- the first of the methods at fault, if those before it break no rule
pub first_fault : (classes : List Class) (ds before : List Declared) (d : Declared) (after : List Declared) (fault : LinkFault) → ds ≡ before ++ d ∷ after → All (IsSoundMethod classes) before → IsMethodFault classes d fault → IsFaultOf classes ds fault
first_fault classes ds before d after Memory whole sound wrong = tt
first_fault classes ds before d after (Broken rule class method descriptor at) whole sound wrong =
    record { before = before; faulty = d; after = after; whole = whole; sound = sound; wrong = wrong }

-- the same among more methods, if those before break no rule
pub fault_widened : (classes : List Class) (all pre ds post : List Declared) (fault : LinkFault) → all ≡ pre ++ (ds ++ post) → All (IsSoundMethod classes) pre → IsFaultOf classes ds fault → IsFaultOf classes all fault
fault_widened classes all pre ds post Memory whole sound f = tt
fault_widened classes all pre ds post (Broken rule class method descriptor at) whole sound f =
    record {
      before = pre ++ f.before;
      faulty = f.faulty;
      after = f.after ++ post;
      whole = whole ∙ (ap (λ xs. pre ++ (xs ++ post)) f.whole ∙ (ap (λ xs. pre ++ xs) (append_assoc f.before (f.faulty ∷ f.after) post) ∙ sym (append_assoc pre f.before (f.faulty ∷ (f.after ++ post)))));
      sound = All-append (IsSoundMethod classes) pre f.before sound f.sound;
      wrong = f.wrong;
    }

-- the methods of a class, round one of them
declared_round_from : (class : ClassId) (name : List ℕ) (p : ℕ) (ms : List Method) (i : ℕ) (d : Method) → i < length ms → declared_in class name p ms ≡ declared_in class name p (take i ms) ++ declare class name (p + i) (get_or ms i d) ∷ declared_in class name (suc (p + i)) (drop (suc i) ms)
declared_round_from class name p [] i d h = absurd (omega arith)
declared_round_from class name p (m ∷ ms) zero d h = ap (λ n. declare class name n m ∷ declared_in class name (suc n) ms) (sym (add-zero p))
declared_round_from class name p (m ∷ ms) (suc i) d h =
    ap (λ ds. declare class name p m ∷ ds) (declared_round_from class name (suc p) ms i d (omega arith) ∙ ap (λ n. declared_in class name (suc p) (take i ms) ++ declare class name n (get_or ms i d) ∷ declared_in class name (suc n) (drop (suc i) ms)) (suc_moves p i))

pub declared_round : (class : ClassId) (name : List ℕ) (ms : List Method) (i : ℕ) (d : Method) → i < length ms → declared_in class name 0 ms ≡ declared_in class name 0 (take i ms) ++ declare class name i (get_or ms i d) ∷ declared_in class name (suc i) (drop (suc i) ms)
declared_round class name ms i d h =
    declared_round_from class name 0 ms i d h ∙ ap (λ n. declared_in class name 0 (take i ms) ++ declare class name n (get_or ms i d) ∷ declared_in class name (suc n) (drop (suc i) ms)) (zero-add i)

-- one more class
declared_class_from : (k : ℕ) (cs : List Class) (n : ℕ) (d : Class) → n < length cs → declared_from k (take (suc n) cs) ≡ declared_from k (take n cs) ++ declared_in (record { 0 = k + n }) (get_or cs n d).file.name 0 (get_or cs n d).file.methods
declared_class_from k [] n d h = absurd (omega arith)
declared_class_from k (c ∷ cs) zero d h = append-nil (declared_in (record { 0 = k }) c.file.name 0 c.file.methods) ∙ ap (λ i. declared_in (record { 0 = i }) c.file.name 0 c.file.methods) (sym (add-zero k))
declared_class_from k (c ∷ cs) (suc n) d h =
    let first = declared_in (record { 0 = k }) c.file.name 0 c.file.methods in
    let last = λ (i : ℕ). declared_in (record { 0 = i }) (get_or cs n d).file.name 0 (get_or cs n d).file.methods in
    ap (λ ds. first ++ ds) (declared_class_from (suc k) cs n d (omega arith) ∙ ap (λ i. declared_from (suc k) (take n cs) ++ last i) (suc_moves k n)) ∙ sym (append_assoc first (declared_from (suc k) (take n cs)) (last (k + suc n)))

pub declared_class : (cs : List Class) (n : ℕ) (d : Class) → n < length cs → declared_from 0 (take (n + 1) cs) ≡ declared_from 0 (take n cs) ++ declared_in (record { 0 = n }) (get_or cs n d).file.name 0 (get_or cs n d).file.methods
declared_class cs n d h =
    rw add-one (declared_class_from 0 cs n d h ∙ ap (λ i. declared_from 0 (take n cs) ++ declared_in (record { 0 = i }) (get_or cs n d).file.name 0 (get_or cs n d).file.methods) (zero-add n))

declared_split : (k : ℕ) (cs : List Class) (n : ℕ) → (rest : List Declared) × (declared_from k cs ≡ declared_from k (take n cs) ++ rest)
declared_split k cs zero = (declared_from k cs, refl)
declared_split k [] (suc n) = ([], refl)
declared_split k (c ∷ cs) (suc n) =
    let rest = declared_split (suc k) cs n in
    let first = declared_in (record { 0 = k }) c.file.name 0 c.file.methods in
    (rest.0, ap (λ ds. first ++ ds) rest.1 ∙ sym (append_assoc first (declared_from (suc k) (take n cs)) rest.0))

-- a fault of a class is one of all classes, if those before break no rule
pub class_fault : (classes cs : List Class) (n : ℕ) (d : Class) (fault : LinkFault) → n < length cs → All (IsSoundMethod classes) (declared_from 0 (take n cs)) → IsFaultOf classes (declared_in (record { 0 = n }) (get_or cs n d).file.name 0 (get_or cs n d).file.methods) fault → IsFaultOf classes (declared_from 0 cs) fault
class_fault classes cs n d fault h sound f =
    let rest = declared_split 0 cs (n + 1) in
    let own = declared_in (record { 0 = n }) (get_or cs n d).file.name 0 (get_or cs n d).file.methods in
    fault_widened classes (declared_from 0 cs) (declared_from 0 (take n cs)) own rest.0 fault
    (rest.1 ∙ (ap (λ ds. ds ++ rest.0) (declared_class cs n d h) ∙ append_assoc (declared_from 0 (take n cs)) own rest.0))
    sound f

-- the fault of a method is one of its class
pub method_fault : (classes : List Class) (class : ClassId) (name : List ℕ) (methods items : List Method) (i : ℕ) (m : Method) (fault : LinkFault) → items ≡ methods → i < length items → m ≡ get_or items i m → All (IsSoundMethod classes) (declared_in class name 0 (take i items)) → IsMethodFault classes (declare class name i m) fault → IsFaultOf classes (declared_in class name 0 methods) fault
method_fault classes class name methods items i m fault e h is sound wrong =
    subst (λ ms. IsFaultOf classes (declared_in class name 0 ms) fault) e
    (first_fault classes (declared_in class name 0 items) (declared_in class name 0 (take i items)) (declare class name i (get_or items i m)) (declared_in class name (suc i) (drop (suc i) items)) fault (declared_round class name items i m h) sound
    (subst (λ x. IsMethodFault classes (declare class name i x) fault) is wrong))

-- what is linked with one more method
pub linked_more : (classes : List Class) (class : ClassId) (name : List ℕ) (items : List Method) (i : ℕ) (m : Method) (before : List Declared) (old new : List LinkedMethod) (one : LinkedMethod) → i < length items → m ≡ get_or items i m → new ≡ old ++ one ∷ [] → AllZip (IsLinked classes) (before ++ declared_in class name 0 (take i items)) old → IsLinked classes (declare class name i m) one → AllZip (IsLinked classes) (before ++ declared_in class name 0 (take (i + 1) items)) new
linked_more classes class name items i m before old new one h is e all linked =
    subst (AllZip (IsLinked classes) (before ++ declared_in class name 0 (take (i + 1) items))) (sym e)
    (subst (λ ds. AllZip (IsLinked classes) (before ++ ds) (old ++ one ∷ [])) (sym (declared_more class name items i m h))
    (link_more before (declared_in class name 0 (take i items)) old (declare class name i (get_or items i m)) one all (subst (λ x. IsLinked classes (declare class name i x) one) is linked)))

pub sound_more : (classes : List Class) (class : ClassId) (name : List ℕ) (items : List Method) (i : ℕ) (m : Method) → i < length items → m ≡ get_or items i m → All (IsSoundMethod classes) (declared_in class name 0 (take i items)) → IsSoundMethod classes (declare class name i m) → All (IsSoundMethod classes) (declared_in class name 0 (take (i + 1) items))
sound_more classes class name items i m h is all one =
    subst (All (IsSoundMethod classes)) (sym (declared_more class name items i m h))
    (All-push (IsSoundMethod classes) (declared_in class name 0 (take i items)) (declare class name i (get_or items i m)) all (subst (λ x. IsSoundMethod classes (declare class name i x)) is one))
