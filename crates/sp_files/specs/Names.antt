-- The methods that texts name in the classes of a program.
use Rattle.std.specs.Prelude.{◌≡◌, ◌<◌, ℕ, Option, Some, None, List, length, take, drop, slice_get, option_map}
use Rattle.cls_link.specs.Links.{Links}
use Rattle.cls_link.specs.Numbers.{number_in}
use Rattle.cls_link.specs.declared.linked_code.MethodId.{MethodId}
use Rattle.cls_search.specs.MethodSearches.{Resolves, own_method}
use Rattle.cls_search.specs.declared.methods.MethodIndex.{MethodIndex}
use Rattle.cls_set.specs.Classes as sets
use Rattle.cls_set.specs.declared.class.Class.{Class}
use Rattle.space_ids.specs.declared.ids.ClassId.{ClassId}

-- an opening parenthesis, with which each descriptor of a method begins (JVMS 4.3.3)
abbrev pub IsParenthesisAt : List ℕ → ℕ → Type 0
IsParenthesisAt text index = slice_get text index ≡ Some 40

-- What a text names in a class, split before an index: a name is before it, a descriptor from there on. Method resolution looks for them
-- (JVMS 5.4.3.3, 5.4.3.4), so the class may inherit the method.
pub record NamesSplit (classes : List Class) (class : ClassId) (text : List ℕ) (index : ℕ) (method : Option MethodId) : Type 0 where
  pub found : Option MethodIndex
  pub resolved : Resolves classes class (take index text) (own_method classes (take index text) (drop index text)) found
  pub is : method ≡ option_map (number_in classes) found

-- no split before this end names a method
abbrev pub NamesNoneBefore : List Class → ClassId → List ℕ → ℕ → Type 0
NamesNoneBefore classes class text end = (index : ℕ) → index < end → IsParenthesisAt text index → NamesSplit classes class text index None

-- The method that a text names in a class, or none. The text is a name and a descriptor, joined. A name may have parentheses too (JVMS 4.2.2),
-- so there may be several ways to split it: the one with the shortest name that finds a method counts.
pub data NamesMethod (program : Links) (class text : List ℕ) : Option MethodId → Type 0 where
  no_class : sets.number_of program.classes class ≡ None → NamesMethod program class text None
  no_method : (holder : ClassId) → sets.number_of program.classes class ≡ Some holder → NamesNoneBefore program.classes holder text (length text)
      → NamesMethod program class text None
  first_split : (holder : ClassId) (index : ℕ) (method : MethodId) → sets.number_of program.classes class ≡ Some holder → IsParenthesisAt text index
      → NamesSplit program.classes holder text index (Some method) → NamesNoneBefore program.classes holder text index → NamesMethod program class text (Some method)
