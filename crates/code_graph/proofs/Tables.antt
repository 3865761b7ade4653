-- The words of a text, as a table: where they stand, and that an address at which none stands is refused.
use Rattle.std.proofs.Common.{◌≡◌, ℕ, ◌+◌, ◌-◌, ◌*◌, ◌/◌, ◌%◌, ◌^◌, ◌<◌, Bool, true, false, List, map, length, Option, Some, None, Result, Ok, Err, refl, ◌∙◌, subst, arith, ◌⊎◌, inl, inr}
use Rattle.std.specs.Prelude.{All, IfOk, IfSome, slice_get, ◌==◌, ◌&&◌, nat_le, nat_lt}
use Rattle.std.specs.List.{range_with_len}
use Rattle.std.proofs.lemmas.Bool.{and_parts, eqb-true, leb-true, ltb-true, cond-false}
use Rattle.std.proofs.lemmas.Option.{slice_get-map, slice_get_within}
use Rattle.scale_base.specs.declared.ranges.Range.{Range}
use Rattle.scale_base.specs.Image.{Image, image_of, is_in}
use Rattle.machine_laws.proofs.Laws.{IsTextRange, text_ranges_kept}
use Rattle.cost_theory.specs.declared.flow.Flow.{Flow}
use Rattle.cost_theory.specs.declared.flow.Flow.TheVariants as flow
use Rattle.cost_theory.proofs.Laws.{Within, get_within, within_get, flat_within, within_flat}
use Rattle.code_text.specs.Text.{Text, text_of, kind_at, is_text_address}
use Rattle.code_text.specs.Table.{WordTable, word_addresses, all_addresses, word_table}
use Rattle.code_text.specs.Walk.{RiseStrictly}
use Rattle.code_graph.specs.Steps.{IsWordTableOf, IsWordNumber}
use Rattle.code_graph.proofs.Places.{all_within, map_within, within_map, range_within, within_range, few_below}
use Rattle.flow_graph.proofs.Laws.{any_within}

-- a word of a range
word_in : (r : Range) (v : ℕ) → IsTextRange r → Within v (word_addresses r) → (v % 4 ≡ 0) × (v < 0xFF000000)
word_in r v is at =
    let w = within_map (λ i. r.from + 4 * i) (range_with_len 0 ((r.to - r.from) / 4)) v at in
    let i = within_range 0 ((r.to - r.from) / 4) w.0 w.1 in
    let e = w.2 in
    let high = i.1 in
    let first = is.first in
    let below = is.below in
    let some = is.nonempty in
    (omega (arith, e, first), omega (arith, e, high, below, some))

in_word : (r : Range) (v : ℕ) → IsTextRange r → v % 4 ≡ 0 → is_in v r ≡ true → Within v (word_addresses r)
in_word r v is four here =
    let p = and_parts (nat_le r.from v) (nat_lt v r.to) here in
    let low = leb-true r.from v p.0 in
    let high = ltb-true v r.to p.1 in
    let first = is.first in
    let last = is.last in
    let e : r.from + 4 * ((v - r.from) / 4) ≡ v = omega (arith, low, four, first) in
    let lt : (v - r.from) / 4 < (r.to - r.from) / 4 = omega (arith, low, high, four, first, last) in
    subst (λ x. Within x (word_addresses r)) e
    (map_within (λ i. r.from + 4 * i) (range_with_len 0 ((r.to - r.from) / 4)) ((v - r.from) / 4) (range_within 0 ((r.to - r.from) / 4) ((v - r.from) / 4) (omega arith) (omega (arith, lt))))

module _ (t : Text) (are : All IsTextRange t.ranges) where
  each_word : (k v : ℕ) → slice_get (all_addresses t.ranges) k ≡ Some v → (v % 4 ≡ 0) × (v < 0xFF000000)
  each_word k v at =
      let w = within_flat word_addresses t.ranges v (get_within (all_addresses t.ranges) k v at) in
      word_in w.0 v (all_within IsTextRange t.ranges w.0 are w.1) w.2

  found : (v : ℕ) → ((v % 4 == 0) && is_text_address t v) ≡ true → (k : ℕ) × (slice_get (all_addresses t.ranges) k ≡ Some v)
  found v h =
      let p = and_parts (v % 4 == 0) (is_text_address t v) h in
      let w = any_within (λ r. is_in v r) t.ranges p.1 in
      within_get (all_addresses t.ranges) v (flat_within word_addresses t.ranges w.0 v w.1 (in_word w.0 v (all_within IsTextRange t.ranges w.0 are w.1) (eqb-true (v % 4) 0 p.0) w.2))

  whole : (v : ℕ) → (kind_at t v ≡ flow.Refused) ⊎ ((k : ℕ) × (slice_get (all_addresses t.ranges) k ≡ Some v))
  unfolding kind_at
  whole v = go ((v % 4 == 0) && is_text_address t v) refl
    where
      go : (b : Bool) → ((v % 4 == 0) && is_text_address t v) ≡ b → (kind_at t v ≡ flow.Refused) ⊎ ((k : ℕ) × (slice_get (all_addresses t.ranges) k ≡ Some v))
      go true e = inr (found v e)
      go false e = inl (cond-false _ _ _ e)

  each_kind : (k v : ℕ) → slice_get (all_addresses t.ranges) k ≡ Some v → slice_get (map (kind_at t) (all_addresses t.ranges)) k ≡ Some (kind_at t v)
  each_kind k v at = slice_get-map (kind_at t) (all_addresses t.ranges) k ∙ rw at refl

  table : RiseStrictly (all_addresses t.ranges) → IsWordTableOf (kind_at t) (word_table t)
  table rise = record {
    rising = rise;
    aligned = λ k v at. (each_word k v at).0;
    low = λ k v at. (each_word k v at).1;
    kinds = each_kind;
    whole = whole;
  }

-- the table of the text of an image
pub text_table : (file : List ℕ) (image : Image) → image_of file ≡ Ok image → RiseStrictly (all_addresses image.text) → IsWordTableOf (kind_at (text_of image)) (word_table (text_of image))
text_table file image e rise = table (text_of image) (text_ranges_kept file image e) rise

pub if_ok-map : {X E : Type 0} (r : Result X E) (P Q : X → Type 0) → ((x : X) → P x → Q x) → IfOk r P → IfOk r Q
if_ok-map (Ok x) P Q f p = f x p
if_ok-map (Err e) P Q f p = p

-- ---- few words, and the number of one
pub few_words : (word : ℕ → Flow) (words : WordTable) → IsWordTableOf word words → length words.addresses < 2 ^ 32
few_words word words table = let few = few_below words.addresses table.rising 0xFF000000 table.low in omega (arith, few)

pub number_within : (words : WordTable) (v n : ℕ) (o : Option ℕ) → IsWordNumber words v o → n ≡ length words.addresses → IfSome o (λ k. k < n)
number_within words v n None is e = tt
number_within words v n (Some k) is e = let lt = slice_get_within words.addresses k v ((is k).0 refl) in omega (arith, lt, e)
