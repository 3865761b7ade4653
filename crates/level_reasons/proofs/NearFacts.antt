-- The nearest of some ways out, and one more.
use Rattle.std.proofs.Common.{◌≡◌, ℕ, ◌<◌, ◌≤◌, Option, Some, None, ◌⊎◌, ⊎_elim, inl, inr, refl, sym, ap, ◌∙◌, subst, arith}
use Rattle.power_model.specs.Numbers.{PowerModel}
use Rattle.level_tables.specs.declared.edge_numbers.EdgeNumbers.{EdgeNumbers}
use Rattle.level_reasons.specs.declared.ways.Way.{Way}
use Rattle.level_reasons.specs.Reasons.{IsLack}
use Rattle.level_reasons.specs.Ways.{IsWayOf, IsNearestKept, IsNearerOf}
use Rattle.level_reasons.proofs.LackFacts.{lack_once}

-- one pair of numbers comes before another, or is no later
abbrev pub IsBefore : (a b x y : ℕ) → Type 0
IsBefore a b x y = (a < x) ⊎ ((a ≡ x) × (b < y))

abbrev pub IsUpTo : (a b x y : ℕ) → Type 0
IsUpTo a b x y = (a < x) ⊎ ((a ≡ x) × (b ≤ y))

before_up_to : (a b x y p q : ℕ) → IsBefore a b x y → IsUpTo x y p q → IsUpTo a b p q
before_up_to a b x y p q h k = ⊎_elim
    (λ (lt : a < x). ⊎_elim
    (λ (less : x < p). inl (let r : a < p = omega (arith, lt, less) in r))
    (λ (same : (x ≡ p) × (y ≤ q)). inl (let e = same.0 in let r : a < p = omega (arith, lt, e) in r))
    k)
    (λ (eq : (a ≡ x) × (b < y)). let e = eq.0 in let low = eq.1 in ⊎_elim
    (λ (less : x < p). inl (let r : a < p = omega (arith, e, less) in r))
    (λ (same : (x ≡ p) × (y ≤ q)). let f = same.0 in let le = same.1 in inr ((let r : a ≡ p = omega (arith, e, f) in r), (let r : b ≤ q = omega (arith, low, le) in r)))
    k)
    h

up_to_same : (a b x y p q : ℕ) → x ≡ p → y ≡ q → IsUpTo a b x y → IsUpTo a b p q
up_to_same a b x y p q e f h = subst (λ z. IsUpTo a b p z) f (subst (λ z. IsUpTo a b z y) e h)

before_is_up_to : (a b x y : ℕ) → IsBefore a b x y → IsUpTo a b x y
before_is_up_to a b x y h = ⊎_elim (λ (lt : a < x). inl lt) (λ (eq : (a ≡ x) × (b < y)). let low = eq.1 in inr (eq.0, (let r : b ≤ y = omega (arith, low) in r))) h

module _ (power : PowerModel) (i : ℕ) (told : ℕ → EdgeNumbers) where
  -- the same ways out
  pub nearest_same : (Is Js : ℕ → Type 0) → ((d : ℕ) → Is d → Js d) → ((d : ℕ) → Js d → Is d) → (found : Option Way) → IsNearestKept power i told Is found → IsNearestKept power i told Js found
  nearest_same Is Js on back None none = λ e js. none e (back e js)
  nearest_same Is Js on back (Some way) kept = (kept.0, record { way = on kept.0 kept.1.way; lacks = kept.1.lacks; nearest = λ d x js lacks. kept.1.nearest d x (back d js) lacks }, kept.2)

  module _ (Is Js : ℕ → Type 0) (e : ℕ) (on : (d : ℕ) → Is d → Js d) (here : Js e) (last : (d : ℕ) → Js d → Is d ⊎ (d ≡ e)) (way : Way) (of : IsWayOf power i (told e) way) where
    -- what is lacked by the new way out itself
    own : (d x : ℕ) → d ≡ e → IsLack power i (told d) x → (way.lack ≡ x) × (way.left ≡ (told d).left)
    own d x same lacks = (
      lack_once power i (told d) way.lack x (subst (λ c. IsLack power i (told c) way.lack) (sym same) of.lack) lacks,
      of.left ∙ ap (λ c. (told c).left) (sym same),
    )

    -- where it is the nearest
    new_is : ((d x : ℕ) → Is d → IsLack power i (told d) x → IsUpTo way.lack way.left x (told d).left) → IsNearestKept power i told Js (Some way)
    new_is others = (
      e,
      record {
        way = here;
        lacks = of.lack;
        nearest = λ d x js lacks. ⊎_elim
            (λ (is : Is d). subst (λ z. IsUpTo way.lack z x (told d).left) of.left (others d x is lacks))
            (λ (same : d ≡ e). let o = own d x same lacks in inr (o.0, (let f : way.left ≡ (told d).left = o.1 in let g : way.left ≡ (told e).left = of.left in let r : (told e).left ≤ (told d).left = omega (arith, f, g) in r)))
            (last d js);
      },
      of,
    )

    -- where another one stays the nearest
    old_is : (old : Way) → IsNearestKept power i told Is (Some old) → IsUpTo old.lack old.left way.lack way.left → IsNearestKept power i told Js (Some old)
    old_is old kept far = (
      kept.0,
      record {
        way = on kept.0 kept.1.way;
        lacks = kept.1.lacks;
        nearest = λ d x js lacks. ⊎_elim
            (λ (is : Is d). kept.1.nearest d x is lacks)
            (λ (same : d ≡ e). let o = own d x same lacks in subst (λ z. IsUpTo old.lack z x (told d).left) kept.2.left (up_to_same old.lack old.left way.lack way.left x (told d).left o.0 o.1 far))
            (last d js);
      },
      kept.2,
    )

    by : (found : Option Way) (result : Way) → IsNearestKept power i told Is found → (found ≡ None → result ≡ way) → ((old : Way) → found ≡ Some old → IsNearerOf old way result) → IsNearestKept power i told Js (Some result)
    by None result none first next = subst (λ (w : Way). IsNearestKept power i told Js (Some w)) (sym (first refl)) (new_is (λ d x is lacks. absurd (none d is)))
    by (Some old) result kept first next = ⊎_elim
        (λ (new : (result ≡ way) × IsBefore way.lack way.left old.lack old.left). subst (λ (w : Way). IsNearestKept power i told Js (Some w)) (sym new.0)
        (new_is (λ d x is lacks. before_up_to way.lack way.left old.lack old.left x (told d).left new.1 (subst (λ z. IsUpTo old.lack z x (told d).left) (sym kept.2.left) (kept.1.nearest d x is lacks)))))
        (λ (stays : (result ≡ old) × IsUpTo old.lack old.left way.lack way.left). subst (λ (w : Way). IsNearestKept power i told Js (Some w)) (sym stays.0) (old_is old kept stays.1))
        (next old refl)

    -- the nearer of the nearest and the new one is the nearest of all
    pub nearest_more : (found : Option Way) (result : Way) → IsNearestKept power i told Is found → (found ≡ None → result ≡ way) → ((old : Way) → found ≡ Some old → IsNearerOf old way result) → IsNearestKept power i told Js (Some result)
    nearest_more found result kept first next = by found result kept first next
