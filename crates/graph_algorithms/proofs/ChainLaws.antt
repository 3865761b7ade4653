-- The chains with one place more.
use Rattle.std.proofs.Common.{◌≡◌, ◌≢◌, ℕ, zero, suc, ◌+◌, ◌<◌, ◌≤◌, List, [], ◌∷◌, length, sym, ap, ◌∙◌, subst, arith, Option, Some, None, ⊎_elim, set, get_or-set_same, get_or-set_other, length-set}
use Rattle.std.proofs.lemmas.Bool.{cases_eq}
use Rattle.graph_algorithms.specs.Keys.{option_at, HasKey, IsLastBelow, AreChains}

-- the chains of the places below n
pub record AreChainsBelow (keys : List (Option ℕ)) (count n : ℕ) (lasts befores : List (Option ℕ)) : Type 0 where
  pub last_size : length lasts ≡ count
  pub before_size : length befores ≡ length keys
  pub last : (k : ℕ) → k < count → IsLastBelow keys n k (option_at lasts k)
  pub before : (s k : ℕ) → s < n → HasKey keys s k → IsLastBelow keys s k (option_at befores s)
  pub keyless : (s : ℕ) → option_at keys s ≡ None → option_at befores s ≡ None

some_same : (a b : ℕ) (o : Option ℕ) → o ≡ Some a → o ≡ Some b → a ≡ b
some_same a b o p q = cc

none_some : (k : ℕ) (o : Option ℕ) → o ≡ None → o ≡ Some k → ⊥
none_some k o p q = cc

-- a place with a key is within the list
pub key_within : (keys : List (Option ℕ)) (s k : ℕ) → HasKey keys s k → s < length keys
key_within [] s k h = let bad : ⊥ = cc in absurd bad
key_within (x ∷ xs) zero k h = omega arith
key_within (x ∷ xs) (suc s) k h = let ih = key_within xs s k h in omega arith

-- one place more, which doesn't have the key
last_longer : (keys : List (Option ℕ)) (n k : ℕ) (o : Option ℕ) → (HasKey keys n k → ⊥) → IsLastBelow keys n k o → IsLastBelow keys (n + 1) k o
last_longer keys n k o other was = record {
  place = λ s h. let old = was.place s h in ((let lt = old.0 in let r : s < n + 1 = omega arith in r), old.1);
  greatest = λ r rl has. was.greatest r
      (⊎_elim (λ (e : r ≡ n). absurd (other (ap (option_at keys) (sym e) ∙ has))) (λ (ne : r ≡ n → ⊥). let d : r ≢ n = ne in let q : r < n = omega arith in q) (cases_eq r n)) has;
}

-- place n, which has key j
module _ (keys : List (Option ℕ)) (count n j : ℕ) (lasts befores : List (Option ℕ)) (was : AreChainsBelow keys count n lasts befores) (nl : n < length keys) (jl : j < count) (key : HasKey keys n j) where
  last_here : (k : ℕ) → k ≡ j → option_at (set lasts j (Some n)) k ≡ Some n
  last_here k e = ap (option_at (set lasts j (Some n))) e ∙ get_or-set_same lasts j (Some n) None (let z = was.last_size in omega arith)

  last_other : (k : ℕ) → k ≢ j → option_at (set lasts j (Some n)) k ≡ option_at lasts k
  last_other k ne = get_or-set_other lasts j k (Some n) None ne

  before_here : (s : ℕ) → s ≡ n → option_at (set befores n (option_at lasts j)) s ≡ option_at lasts j
  before_here s e = ap (option_at (set befores n (option_at lasts j))) e ∙ get_or-set_same befores n (option_at lasts j) None (let z = was.before_size in omega arith)

  before_other : (s : ℕ) → s ≢ n → option_at (set befores n (option_at lasts j)) s ≡ option_at befores s
  before_other s ne = get_or-set_other befores n s (option_at lasts j) None ne

  add_last : (k : ℕ) → k < count → IsLastBelow keys (n + 1) k (option_at (set lasts j (Some n)) k)
  add_last k kl = ⊎_elim
      (λ (e : k ≡ j). record {
        place = λ s h. (let same : n ≡ s = some_same n s (option_at (set lasts j (Some n)) k) (last_here k e) h in
            ((let r : s < n + 1 = omega arith in r), ap (option_at keys) (sym same) ∙ (key ∙ ap Some (sym e))));
        greatest = λ r rl has. (n, last_here k e, (let q : r ≤ n = omega arith in q));
      })
      (λ (ne : k ≡ j → ⊥). subst (λ o. IsLastBelow keys (n + 1) k o) (sym (last_other k ne))
      (last_longer keys n k (option_at lasts k) (λ (has : HasKey keys n k). ne (some_same k j (option_at keys n) has key)) (was.last k kl)))
      (cases_eq k j)

  add_before : (s k : ℕ) → s < n + 1 → HasKey keys s k → IsLastBelow keys s k (option_at (set befores n (option_at lasts j)) s)
  add_before s k sl has = ⊎_elim
      (λ (e : s ≡ n).
      let same : j ≡ k = some_same j k (option_at keys n) key (ap (option_at keys) (sym e) ∙ has) in
      subst (λ o. IsLastBelow keys s k o) (sym (before_here s e))
      (subst (λ i. IsLastBelow keys i k (option_at lasts j)) (sym e)
      (subst (λ i. IsLastBelow keys n i (option_at lasts j)) same (was.last j jl))))
      (λ (ne : s ≡ n → ⊥). let d : s ≢ n = ne in subst (λ o. IsLastBelow keys s k o) (sym (before_other s ne)) (was.before s k (let q : s < n = omega arith in q) has))
      (cases_eq s n)

  add_keyless : (s : ℕ) → option_at keys s ≡ None → option_at (set befores n (option_at lasts j)) s ≡ None
  add_keyless s none = ⊎_elim
      (λ (e : s ≡ n). absurd (none_some j (option_at keys s) none (ap (option_at keys) e ∙ key)))
      (λ (ne : s ≡ n → ⊥). before_other s ne ∙ was.keyless s none)
      (cases_eq s n)

  pub chains_add : AreChainsBelow keys count (n + 1) (set lasts j (Some n)) (set befores n (option_at lasts j))
  chains_add = record {
    last_size = length-set lasts j (Some n) ∙ was.last_size;
    before_size = length-set befores n (option_at lasts j) ∙ was.before_size;
    last = add_last;
    before = add_before;
    keyless = add_keyless;
  }

-- place n, which has no key
pub chains_skip : (keys : List (Option ℕ)) (count n : ℕ) (lasts befores : List (Option ℕ)) → AreChainsBelow keys count n lasts befores → option_at keys n ≡ None → AreChainsBelow keys count (n + 1) lasts befores
chains_skip keys count n lasts befores was none = record {
  last_size = was.last_size;
  before_size = was.before_size;
  last = λ k kl. last_longer keys n k (option_at lasts k) (none_some k (option_at keys n) none) (was.last k kl);
  before = λ s k sl has. was.before s k
      (⊎_elim (λ (e : s ≡ n). absurd (none_some k (option_at keys n) none (ap (option_at keys) (sym e) ∙ has))) (λ (ne : s ≡ n → ⊥). let d : s ≢ n = ne in let q : s < n = omega arith in q) (cases_eq s n)) has;
  keyless = was.keyless;
}

-- all places
pub chains_end : (keys : List (Option ℕ)) (count n : ℕ) (lasts befores : List (Option ℕ)) → n ≡ length keys → AreChainsBelow keys count n lasts befores → AreChains keys count (record { last = lasts; before = befores })
chains_end keys count n lasts befores end was = record {
  last_size = was.last_size;
  before_size = was.before_size;
  last = λ k kl. subst (λ m. IsLastBelow keys m k (option_at lasts k)) end (was.last k kl);
  before = λ s k has. was.before s k (let w = key_within keys s k has in let q : s < n = omega arith in q) has;
  keyless = λ s sl none. was.keyless s none;
}
