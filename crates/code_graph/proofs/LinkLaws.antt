-- One word more in the chains.
use Rattle.std.proofs.Common.{◌≡◌, ◌≢◌, ℕ, ◌+◌, ◌<◌, true, List, length, refl, sym, ap, ◌∙◌, arith, Option, Some, None, ⊎_elim, set, get_or-set_same, get_or-set_other, length-set, zero, suc, [], ◌∷◌}
use Rattle.std.specs.Prelude.{slice_index_or}
use Rattle.std.proofs.lemmas.Bool.{cases_eq, le-leb}
use Rattle.code_graph.specs.declared.reach.step.Step.{Step}
use Rattle.code_graph.specs.declared.reach.step.Step.TheVariants.{Stop}
use Rattle.code_graph.specs.Flow.{step_at, key_of, AreStepChains, is_below}

pub some_same : (a b : ℕ) (o : Option ℕ) → o ≡ Some a → o ≡ Some b → a ≡ b
some_same a b o p q = cc

pub none_some : (k : ℕ) (o : Option ℕ) → o ≡ None → o ≡ Some k → ⊥
none_some k o p q = cc

-- a word whose key is word j
module _ (steps : List Step) (n j : ℕ) (last before : List (Option ℕ)) (chain : AreStepChains steps n last before) (nl : n < length steps) (jl : j < length steps) (key : key_of (step_at steps n) ≡ Some j) where
  last_here : (k : ℕ) → k ≡ j → slice_index_or (set last j (Some n)) k None ≡ Some n
  last_here k e = ap (λ i. slice_index_or (set last j (Some n)) i None) e ∙ get_or-set_same last j (Some n) None (let z = chain.last_size in omega arith)

  last_other : (k : ℕ) → k ≢ j → slice_index_or (set last j (Some n)) k None ≡ slice_index_or last k None
  last_other k ne = get_or-set_other last j k (Some n) None ne

  before_here : (s : ℕ) → s ≡ n → slice_index_or (set before n (slice_index_or last j None)) s None ≡ slice_index_or last j None
  before_here s e = ap (λ i. slice_index_or (set before n (slice_index_or last j None)) i None) e ∙ get_or-set_same before n (slice_index_or last j None) None (let z = chain.before_size in omega arith)

  before_other : (s : ℕ) → s ≢ n → slice_index_or (set before n (slice_index_or last j None)) s None ≡ slice_index_or before s None
  before_other s ne = get_or-set_other before n s (slice_index_or last j None) None ne

  -- the key of a word that is the new one
  key_here : (k s : ℕ) → s ≡ n → key_of (step_at steps s) ≡ Some k → k ≡ j
  key_here k s e ks = some_same k j (key_of (step_at steps n)) (ap (λ x. key_of (step_at steps x)) (sym e) ∙ ks) key

  add_last_key : (k s : ℕ) → slice_index_or (set last j (Some n)) k None ≡ Some s → (s < n + 1) × (key_of (step_at steps s) ≡ Some k)
  add_last_key k s h = ⊎_elim
      (λ (e : k ≡ j).
      let same : n ≡ s = some_same n s (slice_index_or (set last j (Some n)) k None) (last_here k e) h in
      ((let r : s < n + 1 = omega arith in r), ap (λ x. key_of (step_at steps x)) (sym same) ∙ (key ∙ ap Some (sym e))))
      (λ ne. let old = chain.last_key k s (sym (last_other k ne) ∙ h) in ((let lt = old.0 in let r : s < n + 1 = omega arith in r), old.1))
      (cases_eq k j)

  add_before_key : (k s r : ℕ) → k < length steps → s < n + 1 → key_of (step_at steps s) ≡ Some k → slice_index_or (set before n (slice_index_or last j None)) s None ≡ Some r → (r < s) × (key_of (step_at steps r) ≡ Some k)
  add_before_key k s r kl sl ks h = ⊎_elim
      (λ (e : s ≡ n).
      let old = chain.last_key j r (sym (before_here s e) ∙ h) in
      ((let lt = old.0 in let q : r < s = omega arith in q), old.1 ∙ ap Some (sym (key_here k s e ks))))
      (λ ne. chain.before_key k s r kl (let q : s < n = omega (arith, ne) in q) ks (sym (before_other s ne) ∙ h))
      (cases_eq s n)

  add_last_all : (k x : ℕ) → k < length steps → x < n + 1 → key_of (step_at steps x) ≡ Some k → is_below (slice_index_or (set last j (Some n)) k None) x ≡ true
  add_last_all k x kl xl kx = ⊎_elim
      (λ (e : k ≡ j). ap (λ o. is_below o x) (last_here k e) ∙ le-leb x n (omega arith))
      (λ ne. ap (λ o. is_below o x) (last_other k ne) ∙ chain.last_all k x kl (⊎_elim (λ (e : x ≡ n). absurd (ne (key_here k x e kx))) (λ other. (let q : x < n = omega (arith, other) in q)) (cases_eq x n)) kx)
      (cases_eq k j)

  add_before_all : (k s x : ℕ) → k < length steps → s < n + 1 → key_of (step_at steps s) ≡ Some k → key_of (step_at steps x) ≡ Some k → x < s → is_below (slice_index_or (set before n (slice_index_or last j None)) s None) x ≡ true
  add_before_all k s x kl sl ks kx lt = ⊎_elim
      (λ (e : s ≡ n). ap (λ o. is_below o x) (before_here s e) ∙ chain.last_all j x jl (let q : x < n = omega arith in q) (kx ∙ ap Some (key_here k s e ks)))
      (λ ne. ap (λ o. is_below o x) (before_other s ne) ∙ chain.before_all k s x kl (let q : s < n = omega (arith, ne) in q) ks kx lt)
      (cases_eq s n)

  pub chain_add : AreStepChains steps (n + 1) (set last j (Some n)) (set before n (slice_index_or last j None))
  chain_add = record {
    last_size = length-set last j (Some n) ∙ chain.last_size;
    before_size = length-set before n (slice_index_or last j None) ∙ chain.before_size;
    last_key = add_last_key;
    before_key = add_before_key;
    last_all = add_last_all;
    before_all = add_before_all;
  }

-- a word whose key is no word, if it has one
pub chain_skip : (steps : List Step) (n : ℕ) (last before : List (Option ℕ)) → AreStepChains steps n last before → ((k : ℕ) → k < length steps → key_of (step_at steps n) ≡ Some k → ⊥) → AreStepChains steps (n + 1) last before
chain_skip steps n last before chain none = record {
  last_size = chain.last_size;
  before_size = chain.before_size;
  last_key = λ k s h. let old = chain.last_key k s h in ((let lt = old.0 in let r : s < n + 1 = omega arith in r), old.1);
  before_key = λ k s r kl sl ks h. chain.before_key k s r kl (other k s kl sl ks) ks h;
  last_all = λ k x kl xl kx. chain.last_all k x kl (other k x kl xl kx) kx;
  before_all = λ k s x kl sl ks kx lt. chain.before_all k s x kl (other k s kl sl ks) ks kx lt;
}
  where
    other : (k s : ℕ) → k < length steps → s < n + 1 → key_of (step_at steps s) ≡ Some k → s < n
    other k s kl sl ks = ⊎_elim (λ (e : s ≡ n). absurd (none k kl (ap (λ x. key_of (step_at steps x)) (sym e) ∙ ks))) (λ ne. (let q : s < n = omega (arith, ne) in q)) (cases_eq s n)

pub same_link : (xs : List (Option ℕ)) (i : ℕ) (d e : Option ℕ) → i < length xs → slice_index_or xs i d ≡ slice_index_or xs i e
same_link [] i d e lt = let bad : ⊥ = omega arith in absurd bad
same_link (x ∷ xs) zero d e lt = refl
same_link (x ∷ xs) (suc i) d e lt = same_link xs i d e (omega arith)

pub step_same : (xs : List Step) (i : ℕ) (d e : Step) → i < length xs → slice_index_or xs i d ≡ slice_index_or xs i e
step_same [] i d e lt = let bad : ⊥ = omega arith in absurd bad
step_same (x ∷ xs) zero d e lt = refl
step_same (x ∷ xs) (suc i) d e lt = step_same xs i d e (omega arith)

pub key_same : (steps : List Step) (s : ℕ) (d : Step) → s < length steps → key_of (step_at steps s) ≡ key_of (slice_index_or steps s d)
key_same steps s d lt = ap key_of (step_same steps s Stop d lt)
