-- A cycle of a relation, turned so that its least number stands first.
use Rattle.std.proofs.Common.{◌≡◌, ℕ, ◌+◌, ◌-◌, ◌<◌, ◌≤◌, List, ◌++◌, take, drop, length, length-drop, length-append, refl, sym, ap, ◌∙◌, subst, arith, ⊎_elim, ◌⊎◌, inl, inr}
use Rattle.std.proofs.lemmas.Bool.{cases_lt}
use Rattle.std.proofs.lemmas.List.{length-take-le, get_or-drop, get_or-take, get_or_append_left, get_or-append_right}
use Rattle.graph_algorithms.specs.Arcs.{number_in_place, AreDistinct}
use Rattle.graph_algorithms.specs.Cycles.{IsCycleBy}
use Rattle.graph_algorithms.proofs.OrderLaws.{same_place}

-- the numbers from place k on, and then those before it
abbrev pub turned : List ℕ → ℕ → List ℕ
turned numbers k = drop k numbers ++ take k numbers

pub length_turned : (numbers : List ℕ) (k : ℕ) → k ≤ length numbers → length (turned numbers k) ≡ length numbers
length_turned numbers k le =
    let whole : length (turned numbers k) ≡ length (drop k numbers) + length (take k numbers) = length-append (drop k numbers) (take k numbers) in
    let rest : length (drop k numbers) ≡ length numbers - k = length-drop k numbers in
    let front : length (take k numbers) ≡ k = length-take-le k numbers le in
    omega arith

-- the place a at which a number of the turned list stood
pub record StoodAt (numbers : List ℕ) (k i : ℕ) : Type 0 where
  pub at : ℕ
  pub within : at < length numbers
  pub same : number_in_place (turned numbers k) i ≡ number_in_place numbers at
  pub place : (i + k ≡ at) ⊎ (i + k ≡ length numbers + at)

pub stood_at : (numbers : List ℕ) (k i : ℕ) → k ≤ length numbers → i < length numbers → StoodAt numbers k i
stood_at numbers k i le lt =
    let rest : length (drop k numbers) ≡ length numbers - k = length-drop k numbers in ⊎_elim
    (λ (early : i + k < length numbers). record {
      at = i + k;
      within = early;
      same = get_or_append_left (drop k numbers) (take k numbers) 0 i (omega arith) ∙ get_or-drop k numbers i 0 ∙ ap (number_in_place numbers) (let e : k + i ≡ i + k = omega arith in e);
      place = inl refl;
    })
    (λ (late : length numbers ≤ i + k). record {
      at = i + k - length numbers;
      within = omega arith;
      same = get_or-append_right (drop k numbers) (take k numbers) (length numbers - k) i 0 rest (omega arith) ∙ get_or-take k numbers (i - (length numbers - k)) 0 (omega arith) ∙
          ap (number_in_place numbers) (let e : i - (length numbers - k) ≡ i + k - length numbers = omega arith in e);
      place = inr (let e : i + k ≡ length numbers + (i + k - length numbers) = omega arith in e);
    })
    (cases_lt (i + k) (length numbers))

-- numbers that are distinct, each in relation to the next and the last to the first
pub record IsRound (R : ℕ → ℕ → Type 0) (numbers : List ℕ) : Type 0 where
  pub distinct : AreDistinct numbers
  pub onward : (i : ℕ) → i + 1 < length numbers → R (number_in_place numbers i) (number_in_place numbers (i + 1))
  pub round : (i : ℕ) → i + 1 ≡ length numbers → R (number_in_place numbers i) (number_in_place numbers 0)

-- from one place to the next, round the end too
next_on : (R : ℕ → ℕ → Type 0) (numbers : List ℕ) → IsRound R numbers → (a b : ℕ) → a < length numbers → b < length numbers → (a + 1 ≡ b) ⊎ (a + 1 ≡ length numbers + b) → R (number_in_place numbers a) (number_in_place numbers b)
next_on R numbers is a b al bl next = ⊎_elim
    (λ (e : a + 1 ≡ b). subst (λ j. R (number_in_place numbers a) (number_in_place numbers j)) e (is.onward a (omega arith)))
    (λ (e : a + 1 ≡ length numbers + b). let zero_is : 0 ≡ b = omega arith in subst (λ j. R (number_in_place numbers a) (number_in_place numbers j)) zero_is (is.round a (omega arith)))
    next

-- the places of two numbers that follow each other in the turned list
next_places : (n k a b i j : ℕ) → i + 1 ≡ j → a < n → b < n → (i + k ≡ a) ⊎ (i + k ≡ n + a) → (j + k ≡ b) ⊎ (j + k ≡ n + b) → (a + 1 ≡ b) ⊎ (a + 1 ≡ n + b)
next_places n k a b i j next al bl p q = ⊎_elim
    (λ (e : i + k ≡ a). ⊎_elim
    (λ (f : j + k ≡ b). inl (let r : a + 1 ≡ b = omega arith in r))
    (λ (f : j + k ≡ n + b). inr (let r : a + 1 ≡ n + b = omega arith in r))
    q)
    (λ (e : i + k ≡ n + a). ⊎_elim
    (λ (f : j + k ≡ b). let bad : ⊥ = omega arith in absurd bad)
    (λ (f : j + k ≡ n + b). inl (let r : a + 1 ≡ b = omega arith in r))
    q)
    p

-- two places of the turned list that stood at one
one_place : (n k a i j : ℕ) → i < j → j < n → (i + k ≡ a) ⊎ (i + k ≡ n + a) → (j + k ≡ a) ⊎ (j + k ≡ n + a) → ⊥
one_place n k a i j ij jl p q = ⊎_elim
    (λ (e : i + k ≡ a). ⊎_elim
    (λ (f : j + k ≡ a). let bad : ⊥ = omega arith in bad)
    (λ (f : j + k ≡ n + a). let bad : ⊥ = omega arith in bad)
    q)
    (λ (e : i + k ≡ n + a). ⊎_elim
    (λ (f : j + k ≡ a). let bad : ⊥ = omega arith in bad)
    (λ (f : j + k ≡ n + a). let bad : ⊥ = omega arith in bad)
    q)
    p

-- the place of the first number of the turned list, from the last
last_place : (n k a i : ℕ) → i + 1 ≡ n → k < n → a < n → (i + k ≡ a) ⊎ (i + k ≡ n + a) → (a + 1 ≡ k) ⊎ (a + 1 ≡ n + k)
last_place n k a i last kl al p = ⊎_elim
    (λ (e : i + k ≡ a). inr (let r : a + 1 ≡ n + k = omega arith in r))
    (λ (e : i + k ≡ n + a). inl (let r : a + 1 ≡ k = omega arith in r))
    p

-- such numbers, turned so that the least stands first, are a cycle of the relation
pub cycle_turned : (R : ℕ → ℕ → Type 0) (numbers cycle : List ℕ) (k : ℕ) → IsRound R numbers → k < length numbers → cycle ≡ turned numbers k →
    ((i : ℕ) → i < length cycle → number_in_place cycle 0 ≤ number_in_place cycle i) → IsCycleBy R cycle
cycle_turned R numbers cycle k is kl e least =
    let le : k ≤ length numbers = omega arith in
    let size : length cycle ≡ length numbers = ap length e ∙ length_turned numbers k le in
    let at : (i : ℕ) → number_in_place (turned numbers k) i ≡ number_in_place cycle i = λ i. ap (λ xs. number_in_place xs i) (sym e) in
    let first = get_or_append_left (drop k numbers) (take k numbers) 0 0 (let rest : length (drop k numbers) ≡ length numbers - k = length-drop k numbers in omega arith) ∙ get_or-drop k numbers 0 0 in
    record {
      some = omega arith;
      distinct = λ i j ij jl same.
          let a = stood_at numbers k i le (omega arith) in
          let b = stood_at numbers k j le (omega arith) in
          let one : a.at ≡ b.at = same_place numbers a.at b.at is.distinct a.within b.within (sym a.same ∙ at i ∙ same ∙ sym (at j) ∙ b.same) in
          one_place (length numbers) k b.at i j ij (omega arith) (subst (λ x. (i + k ≡ x) ⊎ (i + k ≡ length numbers + x)) one a.place) b.place;
      onward = λ i il.
          let a = stood_at numbers k i le (omega arith) in
          let b = stood_at numbers k (i + 1) le (omega arith) in
          let next = next_on R numbers is a.at b.at a.within b.within (next_places (length numbers) k a.at b.at i (i + 1) refl a.within b.within a.place b.place) in
          subst (λ x. R x (number_in_place cycle (i + 1))) (sym a.same ∙ at i) (subst (λ y. R (number_in_place numbers a.at) y) (sym b.same ∙ at (i + 1)) next);
      round = λ i last.
          let a = stood_at numbers k i le (omega arith) in
          let next = next_on R numbers is a.at k a.within kl (last_place (length numbers) k a.at i (last ∙ size) kl a.within a.place) in
          let zero_at : number_in_place numbers k ≡ number_in_place cycle 0 = ap (number_in_place numbers) (let r : k ≡ k + 0 = omega arith in r) ∙ sym first ∙ at 0 in
          subst (λ x. R x (number_in_place cycle 0)) (sym a.same ∙ at i) (subst (λ y. R (number_in_place numbers a.at) y) zero_at next);
      least = least;
    }
