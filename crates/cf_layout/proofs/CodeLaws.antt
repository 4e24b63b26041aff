-- What stands inside attributes is read as their looks say.
use Rattle.std.proofs.Common.{◌≡◌, ◌&&◌, ◌*◌, ◌-◌, ℕ, zero, suc, eqb, leb, List, take, Option, Some, None, Result, Ok, Err, refl, sym, ap, subst}
use Rattle.std.specs.Prelude.{IfErr, IfOk}
use Rattle.cf_text.specs.declared.fault.Rule.{Rule}
use Rattle.cf_text.specs.declared.fault.Rule.TheVariants as rules
use Rattle.cf_text.specs.declared.fault.ReadFault.{ReadFault}
use Rattle.cf_text.specs.declared.fault.ReadFault.TheVariants.{Broken, Memory}
use Rattle.cf_text.specs.Reading.{Gives}
use Rattle.cf_text.specs.Reading.{◌>>=◌ as ◌then◌}
use Rattle.cf_text.specs.Looks.{Look, Tells}
use Rattle.cf_text.proofs.FormatLaws.{number_reads, broken_is}
use Rattle.cf_text.proofs.LookLaws.{choosing_tells, found_by, keeping_tells, known_tells, only_found, passing_tells, standing_tells, tells_along, then_tells}
use Rattle.cf_layout.specs.declared.items.Attribute.{Attribute}
use Rattle.cf_layout.specs.declared.items.CodeHead.{CodeHead}
use Rattle.cf_layout.specs.Codes.{and_then, blamed, code_filling, code_head_at, code_of, code_rest_at, constant_filling, constant_of, skim_frame, skim_item, skim_list, skim_lists, skim_many, skim_table, skim_tagged, table_of}
use Rattle.cf_layout.specs.CodeFormat.{AreInsides, Insides, MissesBy, after_some, code_head_look, code_inside, code_look, code_rest_look, constant_inside, constant_look, filling, frame_look, going_on, item_look, items_look, lists_look, many_looks, reaches, table_inside, table_look, tagged_look}
use Rattle.cf_layout.specs.ReadInsides.{insides_of}
use Rattle.cf_layout.proofs.FileLaws.{attributes_read, item_reads}

-- ---- filling

module _ {A : Type 0} (attribute : Attribute) (look : Look A) where
  blamed_takes : (r : Result A ReadFault) → Tells r look → (x : A) → blamed attribute.name.at r ≡ Ok x → look.Is x
  blamed_takes (Ok y) tells x e = tells.takes x e
  blamed_takes (Err (Broken rule at)) tells x e = absurd cc
  blamed_takes (Err Memory) tells x e = absurd cc

  blamed_fails : (r : Result A ReadFault) → Tells r look → (rule : Rule) (at : ℕ) → blamed attribute.name.at r ≡ Err (Broken rule at) → (filling attribute look).Fails rule at
  blamed_fails (Ok y) tells rule at e = absurd cc
  blamed_fails (Err (Broken r a)) tells rule at e = (cc, cc, (r, a, tells.fails r a refl))
  blamed_fails (Err Memory) tells rule at e = absurd cc

  blamed_ample : (r : Result A ReadFault) → Tells r look → blamed attribute.name.at r ≡ Err Memory → ⊥
  blamed_ample (Ok y) tells e = cc
  blamed_ample (Err (Broken r a)) tells e = cc
  blamed_ample (Err Memory) tells e = tells.ample refl

filling_tells : {A : Type 0} (attribute : Attribute) {reading : Result A ReadFault} {look : Look A} → Tells reading look → Tells (blamed attribute.name.at reading) (filling attribute look)
filling_tells attribute {reading} {look} tells = record {
  takes = blamed_takes attribute look reading tells;
  again = λ x h. ap (blamed attribute.name.at) (tells.again x h);
  fails = blamed_fails attribute look reading tells;
  refuses = λ rule at h. rw (tells.refuses h.2.0 h.2.1 h.2.2) (ap Err (broken_is (sym h.0) (sym h.1)));
  ample = blamed_ample attribute look reading tells;
}

-- ---- ConstantValue

constant_inside_tells : (bytes : List ℕ) (at end : ℕ) → Tells (constant_filling bytes at end) (constant_inside bytes at end)
unfolding constant_filling constant_inside
constant_inside_tells bytes at end =
    then_tells (standing_tells (item_reads bytes at)) (λ index. then_tells (keeping_tells (eqb index.1 end) rules.AttributeLength at) (λ kept. known_tells index.0))

pub constant_tells : (bytes : List ℕ) (attribute : Attribute) → Tells (constant_of bytes attribute) (constant_look bytes attribute)
unfolding constant_of constant_look
constant_tells bytes attribute = filling_tells attribute (constant_inside_tells (take attribute.end bytes) attribute.body attribute.end)

-- ---- Code

head_tells : (bytes : List ℕ) (at : ℕ) → Tells (code_head_at bytes at) (code_head_look bytes at)
unfolding code_head_at code_head_look
head_tells bytes at =
    then_tells (standing_tells (number_reads 2 bytes at)) (λ max_stack. then_tells (standing_tells (number_reads 2 bytes max_stack.1)) (λ max_locals.
    then_tells (standing_tells (number_reads 4 bytes max_locals.1)) (λ length. known_tells _)))

rest_tells : (bytes : List ℕ) (head : CodeHead) → Tells (code_rest_at bytes head) (code_rest_look bytes head)
unfolding code_rest_at code_rest_look
rest_tells bytes head =
    then_tells (passing_tells head.length bytes head.code) (λ code_end. then_tells (standing_tells (item_reads bytes code_end)) (λ handler_count.
    then_tells (passing_tells (8 * handler_count.0.value) bytes handler_count.1) (λ after. then_tells (standing_tells (attributes_read bytes after)) (λ attributes. known_tells _))))

inside_tells : (bytes : List ℕ) (head : CodeHead) (end : ℕ) → Tells (code_filling bytes head end) (code_inside bytes head end)
unfolding code_filling code_inside
inside_tells bytes head end =
    then_tells (rest_tells bytes head) (λ rest. then_tells (keeping_tells (eqb rest.1 end) rules.AttributeLength rest.1) (λ kept. known_tells rest.0))

pub code_tells : (bytes : List ℕ) (attribute : Attribute) → Tells (code_of bytes attribute) (code_look bytes attribute)
unfolding code_of code_look
code_tells bytes attribute =
    then_tells (filling_tells attribute (head_tells (take attribute.end bytes) attribute.body)) (λ head.
    then_tells (keeping_tells (leb 1 head.length && leb head.length 65535) rules.CodeLength head.length_at) (λ kept.
    filling_tells attribute (inside_tells (take attribute.end bytes) head attribute.end)))

-- ---- StackMapTable

-- what follows if the look has not ended
abbrev following : (ℕ → Result (Option ℕ) ReadFault) → Option ℕ → Result (Option ℕ) ReadFault
following next None = Ok None
following next (Some at) = next at

after_tells : (next : ℕ → Result (Option ℕ) ReadFault) (look : ℕ → Look (Option ℕ)) → ((at : ℕ) → Tells (next at) (look at)) → (reach : Option ℕ)
    → Tells (following next reach) (after_some look reach)
after_tells next look tells None = known_tells None
after_tells next look tells (Some at) = tells at

and_then-is : (r : Result (Option ℕ) ReadFault) (next : ℕ → Result (Option ℕ) ReadFault) → and_then r next ≡ (r then following next)
and_then-is (Ok (Some at)) next = refl
and_then-is (Ok None) next = refl
and_then-is (Err fault) next = refl

going_on_tells : {reading : Result (Option ℕ) ReadFault} {one : Look (Option ℕ)} (next : ℕ → Result (Option ℕ) ReadFault) (look : ℕ → Look (Option ℕ)) → Tells reading one
    → ((at : ℕ) → Tells (next at) (look at)) → Tells (and_then reading next) (going_on one look)
going_on_tells {reading} next look first second =
    tells_along (and_then-is reading next) (then_tells {next = following next} first (after_tells next look second))

item_tells : (bytes : List ℕ) (at : ℕ) → Tells (skim_item bytes at) (item_look bytes at)
unfolding skim_item item_look
item_tells bytes at =
    then_tells (standing_tells (number_reads 1 bytes at)) (λ tag. choosing_tells (leb tag.0 6) (known_tells (Some tag.1))
    (choosing_tells (leb tag.0 8) (then_tells (passing_tells 2 bytes tag.1) (λ to. known_tells (Some to))) (known_tells None)))

many_tell : (skim : ℕ → Result (Option ℕ) ReadFault) (look : ℕ → Look (Option ℕ)) → ((at : ℕ) → Tells (skim at) (look at)) → (n at : ℕ) → Tells (skim_many skim n at) (many_looks look n at)
unfolding skim_many many_looks
many_tell skim look tells zero at = known_tells (Some at)
many_tell skim look tells (suc n) at = going_on_tells (skim_many skim n) (many_looks look n) (tells at) (many_tell skim look tells n)

items_tell : (bytes : List ℕ) (at : ℕ) → Tells (skim_list bytes at) (items_look bytes at)
unfolding skim_list items_look
items_tell bytes at =
    then_tells (standing_tells (number_reads 2 bytes at)) (λ count. many_tell (skim_item bytes) (item_look bytes) (item_tells bytes) count.0 count.1)

lists_tell : (tag : ℕ) (bytes : List ℕ) (at : ℕ) → Tells (skim_lists tag bytes at) (lists_look tag bytes at)
unfolding skim_lists lists_look
lists_tell tag bytes at =
    let items = many_tell (skim_item bytes) (item_look bytes) (item_tells bytes) in
    choosing_tells (eqb tag 247) (items 1 at) (choosing_tells (leb tag 251) (known_tells (Some at))
    (choosing_tells (leb tag 254) (items (tag - 251) at) (going_on_tells (skim_list bytes) (items_look bytes) (items_tell bytes at) (items_tell bytes))))

tagged_tells : (tag : ℕ) (bytes : List ℕ) (at : ℕ) → Tells (skim_tagged tag bytes at) (tagged_look tag bytes at)
unfolding skim_tagged tagged_look
tagged_tells tag bytes at =
    choosing_tells (leb tag 63) (known_tells (Some at)) (choosing_tells (leb tag 127) (many_tell (skim_item bytes) (item_look bytes) (item_tells bytes) 1 at)
    (choosing_tells (leb tag 246) (known_tells None) (then_tells (passing_tells 2 bytes at) (lists_tell tag bytes))))

frame_tells : (bytes : List ℕ) (at : ℕ) → Tells (skim_frame bytes at) (frame_look bytes at)
unfolding skim_frame frame_look
frame_tells bytes at = then_tells (standing_tells (number_reads 1 bytes at)) (λ tag. tagged_tells tag.0 bytes tag.1)

table_inside_tells : (bytes : List ℕ) (at end : ℕ) → Tells (skim_table bytes at end) (table_inside bytes at end)
unfolding skim_table table_inside
table_inside_tells bytes at end =
    then_tells (standing_tells (number_reads 2 bytes at)) (λ count. then_tells (many_tell (skim_frame bytes) (frame_look bytes) (frame_tells bytes) count.0 count.1) (λ to.
    keeping_tells (reaches end to) rules.AttributeLength at))

pub table_tells : (bytes : List ℕ) (attribute : Attribute) → Tells (table_of bytes attribute) (table_look bytes attribute)
unfolding table_of table_look
table_tells bytes attribute = filling_tells attribute (table_inside_tells (take attribute.end bytes) attribute.body attribute.end)

-- ---- all of them

-- what is read inside stands there
pub insides_read : (bytes : List ℕ) → AreInsides bytes (insides_of bytes)
insides_read bytes = record {
  constants = λ attribute. found_by (constant_of bytes attribute) (constant_look bytes attribute) (constant_tells bytes attribute);
  tables = λ attribute. found_by (table_of bytes attribute) (table_look bytes attribute) (table_tells bytes attribute);
  codes = λ attribute. found_by (code_of bytes attribute) (code_look bytes attribute) (code_tells bytes attribute);
}

-- and nothing else does
pub one_inside : (bytes : List ℕ) (insides : Insides) → AreInsides bytes insides → insides ≡ insides_of bytes
one_inside bytes insides are =
    λ i. record {
      constant = λ attribute. only_found (constant_of bytes attribute) (insides.constant attribute) (constant_look bytes attribute) (constant_tells bytes attribute) (are.constants attribute) i;
      table = λ attribute. only_found (table_of bytes attribute) (insides.table attribute) (table_look bytes attribute) (table_tells bytes attribute) (are.tables attribute) i;
      code = λ attribute. only_found (code_of bytes attribute) (insides.code attribute) (code_look bytes attribute) (code_tells bytes attribute) (are.codes attribute) i;
    }

-- ---- what an answer says, from the reading that it gives

pub look_found : {A : Type 0} {reading : Result A ReadFault} {look : Look A} → Tells reading look → (answer : Result A ReadFault) → Gives reading answer → IfOk answer look.Is
look_found tells (Ok x) given = tells.takes x given
look_found tells (Err fault) given = tt

pub look_only : {A : Type 0} {reading : Result A ReadFault} {look : Look A} → Tells reading look → (answer : Result A ReadFault) → Gives reading answer → (x : A) → look.Is x → Gives (Ok x) answer
look_only {A} {reading} tells answer given x is = subst (λ (r : Result A ReadFault). Gives r answer) (tells.again x is) given

pub look_faults : {A : Type 0} {reading : Result A ReadFault} {look : Look A} → Tells reading look → (answer : Result A ReadFault) → Gives reading answer → IfErr answer (MissesBy look)
look_faults tells (Ok x) given = tt
look_faults tells (Err (Broken rule at)) given = tells.fails rule at given
look_faults tells (Err Memory) given = tt
