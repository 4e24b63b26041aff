-- Descriptors that are kept by their indices.
use Rattle.std.proofs.Common.{◌≡◌, ◌∙◌, ◌≢◌, ℕ, Bool, true, false, List, Some, Ok, Err, refl, subst, sym}
use Rattle.std.specs.Prelude.{OnOk, Result}
use Rattle.std.specs.declared.alloc.AllocError.{AllocError}
use Rattle.std.specs.declared.cmp.Ordering.{Ordering}
use Rattle.std.specs.declared.cmp.Ordering.TheVariants.{Less, Equal, Greater}
use Rattle.std.specs.Ordering.{is_eq, nat_cmp}
use Rattle.std.specs.Cmp.{ranked}
use Rattle.std.specs.BTreeMap.{BTreeMap, get, Updates}
use Rattle.cf_text.proofs.DescriptorLaws.{method_descriptor_again}
use Rattle.cf_text.specs.declared.fault.ReadFault.{ReadFault}
use Rattle.cf_text.specs.declared.fault.ReadFault.TheVariants.{Broken, Memory}
use Rattle.cf_text.specs.declared.types.MethodDescriptor.{MethodDescriptor}
use Rattle.cf_text.specs.Descriptors.{IsMethodType}
use Rattle.cf_text.specs.Reading.{Gives}
use Rattle.cf_text.specs.Types.{method_descriptor_of}
use Rattle.cf_layout.specs.declared.items.Item.{Item}
use Rattle.cf_pool.specs.declared.pool.Entry.{Entry}
use Rattle.cf_pool.specs.Pools.{utf8_at}
use Rattle.cf_descriptors.specs.declared.descriptors.MethodTypes.{MethodTypes}
use Rattle.cf_descriptors.specs.Descriptors.{IsKnown, IsKnownIfRight}

pub same_index : (index other : ℕ) → is_eq (nat_cmp index other) ≡ true → index ≡ other
same_index index other is = by (nat_cmp index other) refl is
  where
    by : (r : Ordering) → r ≡ nat_cmp index other → is_eq r ≡ true → index ≡ other
    by Less at is = absurd (cc)
    by Equal at is = ranked index other Equal at
    by Greater at is = absurd (cc)

module _ {T : Type 0} (Says : List ℕ → T → Type 0) (pool : List Entry) where
  -- what is kept of an index is what the text of this index says
  abbrev AreKept : BTreeMap ℕ T → Type 0
  AreKept kept = (index : ℕ) (type : T) → get nat_cmp kept index ≡ Some type → (text : List ℕ) → utf8_at pool index ≡ Some text → Says text type

  -- one more is kept
  pub kept_more : (old new : BTreeMap ℕ T) (index : ℕ) (type : T) (text : List ℕ) → Updates nat_cmp old new index (Some type)
      → utf8_at pool index ≡ Some text → Says text type → AreKept old → AreKept new
  kept_more old new index type text updates named says kept other told is spelled at =
      by (is_eq (nat_cmp index other)) refl
    where
      by : (same : Bool) → is_eq (nat_cmp index other) ≡ same → Says spelled told
      by true same =
          let one : index ≡ other = same_index index other same in
          let types : type ≡ told = cc in
          let texts : text ≡ spelled = cc in
          subst (λ (s : List ℕ). Says s told) texts (subst (Says text) types says)
      by false differs = kept other told (sym (updates.2 other differs) ∙ is) spelled at

  -- the same, if it is what any text of the index says
  pub kept_any_more : (old new : BTreeMap ℕ T) (index : ℕ) (type : T) → Updates nat_cmp old new index (Some type)
      → ((text : List ℕ) → utf8_at pool index ≡ Some text → Says text type) → AreKept old → AreKept new
  kept_any_more old new index type updates says kept other told is spelled at =
      by (is_eq (nat_cmp index other)) refl
    where
      by : (same : Bool) → is_eq (nat_cmp index other) ≡ same → Says spelled told
      by true same =
          let one : index ≡ other = same_index index other same in
          let types : type ≡ told = cc in
          subst (Says spelled) types (says spelled (subst (λ (n : ℕ). utf8_at pool n ≡ Some spelled) (sym one) at))
      by false differs = kept other told (sym (updates.2 other differs) ∙ is) spelled at

-- a text that spells the types of a method is not at fault, so it is known once memory sufficed
pub known_if_right : (pool : List Entry) (item : Item) (text : List ℕ) (new : MethodTypes) (read : Result MethodDescriptor ReadFault) (result : Result (Unit {0}) AllocError)
    → utf8_at pool item.value ≡ Some text → Gives (method_descriptor_of item.at text) read → OnOk read (IsKnown new item.value) → OnOk result (read ≢ Err Memory)
    → OnOk result (IsKnownIfRight pool new item.value)
known_if_right pool item text new (Ok x) (Ok u) named gives known memory = λ spelled type at is. known
known_if_right pool item text new (Err (Broken rule position)) (Ok u) named gives known memory = λ spelled type at is.
    let same : spelled ≡ text = cc in
    let read = method_descriptor_again item.at text type (subst (λ (t : List ℕ). IsMethodType t type) same is) in
    absurd (cc)
known_if_right pool item text new (Err Memory) (Ok u) named gives known memory = absurd (memory refl)
known_if_right pool item text new read (Err e) named gives known memory = tt
