-- Nodes by the numbers of their parts, as keys of chains.
use Rattle.std.proofs.Common.{◌≡◌, ℕ, suc, ◌<◌, ◌≤◌, List, Option, None, Some, length, get_or, ◌∙◌, sym, refl, arith, ⊎_elim}
use Rattle.std.proofs.lemmas.List.{get_or-map, get_or_past, length-map}
use Rattle.std.proofs.lemmas.Bool.{cases_lt}
use Rattle.graph_algorithms.specs.Keys.{ChainView, HasKey, AreKeys, AreChains, option_at}
use Rattle.loop_drafts.specs.Numbered.{AreNumbers, some_numbers, height}

key_low : (count s k : ℕ) (roots : List ℕ) → AreNumbers count count roots → HasKey (some_numbers roots) s k → k < count
key_low count s k roots are key = ⊎_elim
    (λ (low : s < length roots).
    let e = sym (get_or-map (λ (r : ℕ). Some r) roots s 0 None low) ∙ key in
    let same : get_or roots s 0 ≡ k = cc in
    let sl : s < count = (let z = are.size in omega arith) in
    let b = are.within s sl in omega arith)
    (λ (high : length roots ≤ s).
    let none = get_or_past (some_numbers roots) s None (let z = length-map roots (λ (r : ℕ). Some r) in omega arith) in
    let e : None ≡ Some k = sym none ∙ key in absurd (cc))
    (cases_lt s (length roots))

pub keys_low : (count : ℕ) (roots : List ℕ) → AreNumbers count count roots → AreKeys (some_numbers roots) count
keys_low count roots are = λ s k key. key_low count s k roots are key

-- the last node of a part, and the one before a node of it
pub last_in : (roots : List ℕ) (root k : ℕ) (view : ChainView) (found : Option ℕ) → AreChains (some_numbers roots) (length roots) view → root < length roots → found ≡ option_at view.last root → found ≡ Some k
    → (k < length roots) × HasKey (some_numbers roots) k root
last_in roots root k view found are low is at =
    let p = (are.last root low).place k (sym is ∙ at) in
    (let z = length-map roots (λ (r : ℕ). Some r) in let q = p.0 in omega arith, p.1)

pub before_in : (roots : List ℕ) (root j k : ℕ) (view : ChainView) (found : Option ℕ) → AreChains (some_numbers roots) (length roots) view → HasKey (some_numbers roots) j root → found ≡ option_at view.before j → found ≡ Some k
    → (k < j) × HasKey (some_numbers roots) k root
before_in roots root j k view found are key is at = (are.before j root key).place k (sym is ∙ at)

pub height_falls : (j : ℕ) (found : Option ℕ) → ((k : ℕ) → found ≡ Some k → k < j) → height found < suc j
height_falls j None low = omega arith
height_falls j (Some k) low = let h : k < j = low k refl in omega arith
