-- Edges and their chains.
use Rattle.std.proofs.Common.{◌≡◌, ◌≢◌, ℕ, ◌+◌, ◌<◌, ◌≤◌, List, refl, sym, ap, ◌∙◌, subst, arith, Option, Some, None, ⊎_elim, Bool, true}
use Rattle.std.specs.Prelude.{slice_get}
use Rattle.std.proofs.lemmas.Bool.{cases_eq, cases_lt}
use Rattle.std.proofs.lemmas.Option.{slice_get-get_or, get_or_from_slice_get}
use Rattle.graph_algorithms.specs.Keys.{HasKey, AreKeys, IsLastBelow}
use Rattle.graph_algorithms.proofs.ChainLaws.{key_within}
use Rattle.graph_algorithms.specs.Edges.{AreEdges}
use Rattle.graph_algorithms.specs.BodySearch.{is_marked_at, IsSettled}

-- the two ways to say that a list has a key at a place
pub get_from_key : (targets : List (Option ℕ)) (e u : ℕ) → HasKey targets e u → slice_get targets e ≡ Some (Some u)
get_from_key targets e u h = slice_get-get_or targets e None (key_within targets e u h) ∙ ap Some h

pub key_from_get : (targets : List (Option ℕ)) (e u : ℕ) → slice_get targets e ≡ Some (Some u) → HasKey targets e u
key_from_get targets e u h = get_or_from_slice_get targets e (Some u) None h

pub edges_keys : (sources : List ℕ) (targets : List (Option ℕ)) (count : ℕ) → AreEdges sources targets count → AreKeys targets count
edges_keys sources targets count edges e u h = edges.to e u (get_from_key targets e u h)

-- an edge stands above the place of a chain
abbrev pub IsPast : Option ℕ → ℕ → Type 0
IsPast next e = (s : ℕ) → next ≡ Some s → s < e

-- the sources within the extent of the edges to a node are marked, as far as the chain was walked
abbrev pub ArePassed : List ℕ → List (Option ℕ) → (ℕ → Bool) → List Bool → ℕ → Option ℕ → Type 0
ArePassed sources targets extent found node next = (e v : ℕ) → IsPast next e → HasKey targets e node → slice_get sources e ≡ Some v → extent v ≡ true → is_marked_at found v ≡ true

abbrev pub place : Option ℕ → ℕ
place None = 0
place (Some s) = s + 1

pub place_less : (o : Option ℕ) (s : ℕ) → ((r : ℕ) → o ≡ Some r → r < s) → place o < s + 1
place_less None s h = omega arith
place_less (Some r) s h = let lt = h r refl in omega arith

some_same : {A : Type 0} (a b : A) (o : Option A) → o ≡ Some a → o ≡ Some b → a ≡ b
some_same a b o p q = cc

module _ (sources : List ℕ) (targets : List (Option ℕ)) (extent : ℕ → Bool) (node : ℕ) where
  pub passed_next : (found found_then : List Bool) (edge source : ℕ) (next : Option ℕ) → ((v : ℕ) → is_marked_at found v ≡ true → is_marked_at found_then v ≡ true) →
      slice_get sources edge ≡ Some source → (extent source ≡ true → is_marked_at found_then source ≡ true) → IsLastBelow targets edge node next →
      ArePassed sources targets extent found node (Some edge) → ArePassed sources targets extent found_then node next
  passed_next found found_then edge source next kept at_edge visited before passed e v past key at inside = ⊎_elim
      (λ (lt : e < edge). let w = before.greatest e lt key in let a = past w.0 w.1 in let b = w.2 in absurd (let bad : ⊥ = omega arith in bad))
      (λ (ge : edge ≤ e). ⊎_elim
      (λ (here : e ≡ edge).
      let same : source ≡ v = some_same source v (slice_get sources edge) at_edge (ap (slice_get sources) (sym here) ∙ at) in
      subst (λ x. is_marked_at found_then x ≡ true) same (visited (ap extent same ∙ inside)))
      (λ (ne : e ≡ edge → ⊥). let d : e ≢ edge = ne in kept v (passed e v (λ s is. let same : edge ≡ s = cc in (let q : s < e = omega arith in q)) key at inside))
      (cases_eq e edge))
      (cases_lt e edge)

  pub passed_end : (found : List Bool) (next : Option ℕ) → next ≡ None → ArePassed sources targets extent found node next → IsSettled sources targets extent found node
  passed_end found next none passed v edge inside = passed edge.0 v (λ s is. absurd (let bad : ⊥ = cc in bad)) (key_from_get targets edge.0 node edge.2) edge.1 inside
