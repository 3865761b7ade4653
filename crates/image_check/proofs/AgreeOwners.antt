-- A counter counts one loop, so the loops of counters are determined.
use Rattle.std.proofs.Common.{◌≡◌, ◌⊎◌, inl, inr, ℕ, ◌+◌, ◌<◌, Bool, true, false, refl, arith, sym, ap, ◌∙◌, slice_get, Option, Some, None, eqb-true}
use Rattle.std.specs.Prelude.{nat_lt}
use Rattle.std.proofs.Math.Path.{fun_ext}
use Rattle.std.proofs.lemmas.Bool.{and_parts, both_ways, ltb-true, lt-ltb}
use Rattle.cost_theory.specs.Accepted.{IsProgram, AreAccepted}
use Rattle.cost_theory.specs.Graph.{Graph, Loops, is_back, is_header}
use Rattle.cost_theory.specs.Reached.{Code}
use Rattle.cost_theory.proofs.Laws.{accepted_entered, headers-distinct, search_below}
use Rattle.foreign_scan.specs.Scanned.{Found}
use Rattle.image_check.specs.Safe.{Owner, one_where, counts_on, clears_on, IsCounterOf, IsUsed, AreOwners}

is_one : (b : Bool) → one_where b ≡ 1 → b ≡ true
is_one true h = refl
is_one false h = absurd (let no : ⊥ = omega (arith, h) in no)

same_header : (l : Loops) (j k : ℕ) (to : Option ℕ) → is_header l j to ≡ true → is_header l k to ≡ true → l.header j ≡ l.header k
same_header l j k None a b = let never : ⊥ = cc in absurd never
same_header l j k (Some w) a b =
    let x : w ≡ l.header j = eqb-true w (l.header j) a in
    let y : w ≡ l.header k = eqb-true w (l.header k) b in
    sym x ∙ y

-- an edge is a back edge of one loop
pub one_back : (g : Graph) (l : Loops) (extent : ℕ → ℕ → Bool) → IsProgram g → AreAccepted g l extent → (j k e : ℕ) → j < l.loops → k < l.loops → is_back g l j e ≡ true → is_back g l k e ≡ true → j ≡ k
one_back g l extent program accepted j k e jl kl a b =
    headers-distinct g l extent program (accepted_entered accepted) j k jl kl
    (same_header l j k (g.target e) (and_parts (l.inside j (g.source e)) (is_header l j (g.target e)) a).1 (and_parts (l.inside k (g.source e)) (is_header l k (g.target e)) b).1)

module _ (g : Graph) (code : Code) (l : Loops) (extent : ℕ → ℕ → Bool) (program : IsProgram g) (accepted : AreAccepted g l extent) (found : Found) where
  one_loop : (c j k : ℕ) → IsCounterOf g code l found c j → IsCounterOf g code l found c k → j ≡ k
  one_loop c j k one other = by (search_below g.edges (is_back g l j))
    where
      by : ((e : ℕ) × (e < g.edges) × (is_back g l j e ≡ true)) ⊎ ((e : ℕ) → e < g.edges → is_back g l j e ≡ false) → j ≡ k
      by (inl (e, lt, on)) =
          let count = ap one_where (sym on) ∙ (sym (one.counts e lt) ∙ other.counts e lt) in
          one_back g l extent program accepted j k e one.low other.low on (is_one (is_back g l k e) (sym count))
      by (inr none) = absurd ((accepted_entered accepted).back_edge j one.low none)

  pub owners_same : (owner owner' : Owner) → AreOwners g code l found owner → AreOwners g code l found owner' → owner ≡ owner'
  owners_same owner owner' one other = fun_ext (λ c. by c (search_below g.edges (λ e. nat_lt 0 (counts_on found (slice_get code.edges e) c + clears_on found (slice_get code.edges e) c))))
    where
      by : (c : ℕ) → ((e : ℕ) × (e < g.edges) × (nat_lt 0 (counts_on found (slice_get code.edges e) c + clears_on found (slice_get code.edges e) c) ≡ true))
          ⊎ ((e : ℕ) → e < g.edges → nat_lt 0 (counts_on found (slice_get code.edges e) c + clears_on found (slice_get code.edges e) c) ≡ false) → owner c ≡ owner' c
      by c (inl (e, lt, on)) =
          let u : IsUsed g code found c = record { edge = e; low = lt; uses = ltb-true 0 (counts_on found (slice_get code.edges e) c + clears_on found (slice_get code.edges e) c) on } in
          let a = one.used c u in
          let b = other.used c u in
          a.1 ∙ (ap (λ k. Some k) (one_loop c a.0 b.0 a.2 b.2) ∙ sym b.1)
      by c (inr none) =
          let not_used : IsUsed g code found c → ⊥ = λ u. both_ways (nat_lt 0 (counts_on found (slice_get code.edges u.edge) c + clears_on found (slice_get code.edges u.edge) c)) (none u.edge u.low) (lt-ltb 0 (counts_on found (slice_get code.edges u.edge) c + clears_on found (slice_get code.edges u.edge) c) u.uses) in
          one.unused c not_used ∙ sym (other.unused c not_used)
