-- The chains of arcs are those of the numbers from which they come.
use Rattle.std.proofs.Common.{◌≡◌, ℕ, ◌<◌, ◌≤◌, List, map, length, ap, ◌∙◌, subst, arith, Option, Some, None, ⊎_elim}
use Rattle.std.proofs.lemmas.Bool.{cases_lt}
use Rattle.std.proofs.lemmas.List.{get_or-map, length-map}
use Rattle.graph_algorithms.specs.declared.orders.Arc.{Arc}
use Rattle.graph_algorithms.specs.Arcs.{AreNumbered, arc_at}
use Rattle.graph_algorithms.specs.DepthFirst.{IsAbove, AreLasts, AreArcChains}
use Rattle.graph_algorithms.specs.Keys.{ChainView, option_at, HasKey, AreKeys, AreChains}
use Rattle.graph_algorithms.proofs.ChainLaws.{key_within}

-- where an arc comes from, as a key
abbrev pub key_of : Arc → Option ℕ
key_of arc = Some arc.from

key_at : (arcs : List Arc) (s : ℕ) → s < length arcs → HasKey (map key_of arcs) s (arc_at arcs s).from
key_at arcs s lt = get_or-map key_of arcs s (record { from = 0; to = 0 }) None lt

within : (arcs : List Arc) (s k : ℕ) → HasKey (map key_of arcs) s k → s < length arcs
within arcs s k h = let lt = key_within (map key_of arcs) s k h in let e = length-map arcs key_of in omega arith

some_same : (a b : ℕ) (o : Option ℕ) → o ≡ Some a → o ≡ Some b → a ≡ b
some_same a b o p q = cc

-- an arc with a key comes from that number
from_key : (arcs : List Arc) (s k : ℕ) → HasKey (map key_of arcs) s k → (arc_at arcs s).from ≡ k
from_key arcs s k h = some_same (arc_at arcs s).from k (option_at (map key_of arcs) s) (key_at arcs s (within arcs s k h)) h

pub are_keys : (count : ℕ) (arcs : List Arc) → AreNumbered count arcs → AreKeys (map key_of arcs) count
are_keys count arcs numbered s k h = subst (λ x. x < count) (from_key arcs s k h) (numbered s (within arcs s k h)).0

module _ (count : ℕ) (arcs : List Arc) (view : ChainView) (numbered : AreNumbered count arcs) (are : AreChains (map key_of arcs) count view) where
  in_keys : (r : ℕ) → r < length arcs → r < length (map key_of arcs)
  in_keys r lt = let e = length-map arcs key_of in omega arith

  pub lasts_are : AreLasts (length arcs) arcs view.last
  lasts_are = record {
    arc = λ x s h.
        let xl : x < count = (let lt = key_within view.last x s h in let e = are.last_size in omega arith) in
        let p = (are.last x xl).place s h in
        (within arcs s x p.1, from_key arcs s x p.1);
    none_above = λ r lt above.
        let g = (are.last (arc_at arcs r).from (numbered r lt).0).greatest r (in_keys r lt) (key_at arcs r lt) in
        let low : g.0 < r = subst (λ o. IsAbove o r) g.1 above in
        let high : r ≤ g.0 = g.2 in
        let bad : ⊥ = omega arith in
        bad;
  }

  pub chains_are : AreArcChains (length arcs) arcs view.before
  chains_are = record {
    arc = λ s r lt h.
        let p = (are.before s (arc_at arcs s).from (key_at arcs s lt)).place r h in
        (p.0, from_key arcs r (arc_at arcs s).from p.1);
    none_between = λ s r sl rl same above. ⊎_elim
        (λ (lt : r < s).
        let has : HasKey (map key_of arcs) r (arc_at arcs s).from = key_at arcs r rl ∙ ap Some same in
        let g = (are.before s (arc_at arcs s).from (key_at arcs s sl)).greatest r lt has in
        let low : g.0 < r = subst (λ o. IsAbove o r) g.1 above in
        let high : r ≤ g.0 = g.2 in
        let bad : ⊥ = omega arith in
        absurd bad)
        (λ (le : s ≤ r). le)
        (cases_lt r s);
  }

  pub before_size : length view.before ≡ length arcs
  before_size = are.before_size ∙ length-map arcs key_of
