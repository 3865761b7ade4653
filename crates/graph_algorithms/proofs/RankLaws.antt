-- The ranks of loops, sorted.
use Rattle.std.proofs.Common.{◌≡◌, ◌≢◌, ℕ, ◌<◌, ◌≤◌, true, false, List, length, map, arith, subst, sym, ap, ◌∙◌, get_or}
use Rattle.std.proofs.Math.Dec.{eqb}
use Rattle.std.proofs.Math.Logic.{⊎_elim}
use Rattle.std.proofs.Math.ListN.{get_or-map}
use Rattle.std.proofs.lemmas.Bool.Decides.{Decides-eqb, eqb_tells}
use Rattle.std.proofs.lemmas.List.{get_or_default, length-map}
use Rattle.std.proofs.lemmas.List.Elements.{All-from_get_or, Contains-get_or}
use Rattle.std.proofs.lemmas.List.Sorted.{length_permutation, All-permutation, Contains-permutation, IsPermutation-map}
use Rattle.std.proofs.lemmas.Map.Keys.{IsDistinct-IsPermutation}
use Rattle.std.proofs.lemmas.Map.Made.{AllPairs-from_IsDistinct, IsDistinct-from_AllPairs}
use Rattle.std.specs.List.{AllPairs}
use Rattle.std.specs.List.Sorted.{IsPermutation}
use Rattle.graph_algorithms.specs.declared.nesting.ranks.Rank.{Rank}
use Rattle.graph_algorithms.specs.Nesting.{body_at}
use Rattle.graph_algorithms.specs.NestingPass.{AreRanks, AreFalling, rank_at}

abbrev no_rank : Rank
no_rank = record { size = 0; number = 0 }

abbrev numbers : List Rank → List ℕ
numbers ranks = map (λ rank. rank.number) ranks

number_of : (ranks : List Rank) (i d : ℕ) → i < length ranks → get_or (numbers ranks) i d ≡ (rank_at ranks i).number
number_of ranks i d il = get_or_default (numbers ranks) i d 0 (let e = length-map ranks (λ (rank : Rank). rank.number) in omega (arith, e, il)) ∙ get_or-map (λ (rank : Rank). rank.number) ranks i no_rank

eqb_flips : (x y : ℕ) → eqb x y ≡ eqb y x
eqb_flips x y = ⊎_elim
    (λ (same : (eqb x y ≡ true) × (x ≡ y)). ap (λ z. eqb z y) same.1 ∙ ap (λ z. eqb y z) (sym same.1))
    (λ (other : (eqb x y ≡ false) × (x ≢ y)). ⊎_elim
    (λ (back : (eqb y x ≡ true) × (y ≡ x)). absurd (other.1 (sym back.1)))
    (λ (differ : (eqb y x ≡ false) × (y ≢ x)). other.0 ∙ sym differ.0)
    (eqb_tells y x))
    (eqb_tells x y)

-- no two ranks are those of one loop, in any order
pub numbers_differ : (bodies : List (List ℕ)) (xs ys : List Rank) → AreRanks bodies xs (length bodies) → IsPermutation xs ys → (i j : ℕ) → i < j → j < length ys → (rank_at ys i).number ≢ (rank_at ys j).number
numbers_differ bodies xs ys ranks moved i j before jl e =
    let xl = length-map xs (λ (rank : Rank). rank.number) in
    let yl = length-map ys (λ (rank : Rank). rank.number) in
    let apart : AllPairs (λ x y. x ≢ y) (numbers xs) = λ k l d kl ll same.
    let ln : l < length xs = omega (arith, xl, ll) in
    let kn : k < length xs = omega (arith, ln, kl) in
    let size = ranks.size in
    let kk : get_or (numbers xs) k d ≡ k = number_of xs k d kn ∙ ranks.number k (omega (arith, kn, size)) in
    let lk : get_or (numbers xs) l d ≡ l = number_of xs l d ln ∙ ranks.number l (omega (arith, ln, size)) in
    let bad : k ≡ l = sym kk ∙ same ∙ lk in
    let no : ⊥ = omega (arith, bad, kl) in no in
    let distinct = IsDistinct-IsPermutation eqb eqb_flips (numbers xs) (numbers ys) (IsPermutation-map (λ (rank : Rank). rank.number) xs ys moved) (IsDistinct-from_AllPairs Decides-eqb (numbers xs) apart) in
    let pairs : AllPairs (λ x y. x ≢ y) (numbers ys) = AllPairs-from_IsDistinct Decides-eqb (numbers ys) distinct in
    pairs i j 0 before (omega (arith, jl, yl)) (number_of ys i 0 (omega (arith, before, jl)) ∙ e ∙ sym (number_of ys j 0 jl))

-- sorted ranks are those of all loops
pub sorted_fall : (bodies : List (List ℕ)) (xs ys : List Rank) → AreRanks bodies xs (length bodies) → IsPermutation xs ys →
    ((i j : ℕ) → i ≤ j → j < length ys → (rank_at ys j).size ≤ (rank_at ys i).size) → AreFalling bodies ys
sorted_fall bodies xs ys ranks moved far =
    let xsize = ranks.size in
    let ysize = length_permutation xs ys moved in
    let each = All-permutation (λ (rank : Rank). (rank.number < length bodies) × (rank.size ≡ length (body_at bodies rank.number))) xs ys moved
    (All-from_get_or (λ (rank : Rank). (rank.number < length bodies) × (rank.size ≡ length (body_at bodies rank.number))) xs no_rank (λ i il.
    let lt : i < length bodies = omega (arith, il, xsize) in
    (subst (λ n. n < length bodies) (sym (ranks.number i lt)) lt, ranks.length_of i lt ∙ ap (λ n. length (body_at bodies n)) (sym (ranks.number i lt))))) in
    record {
      size = ysize ∙ xsize;
      within = λ i il. (each i no_rank il).0;
      whole = λ l ll.
          let xl : l < length xs = omega (arith, ll, xsize) in
          let at = Contains-permutation xs ys (rank_at xs l) moved (Contains-get_or xs l no_rank xl) in
          (at.0, at.1, ap (λ rank. rank.number) (get_or_default ys at.0 no_rank (rank_at xs l) at.1 ∙ at.2) ∙ ranks.number l ll);
      distinct = numbers_differ bodies xs ys ranks moved;
      falling = λ i j le jl.
          let il : i < length ys = omega (arith, le, jl) in
          let less = far i j le jl in
          let a = (each i no_rank il).1 in
          let b = (each j no_rank jl).1 in
          omega (arith, less, a, b);
    }
