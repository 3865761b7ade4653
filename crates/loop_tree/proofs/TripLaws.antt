-- How often loops turn at least, by the numbers of nodes.
use Rattle.std.proofs.Common.{◌≡◌, ℕ, ◌+◌, ◌<◌, ◌≤◌, List, [], ◌∷◌, ◌++◌, get_or, ◌⊎◌, ⊎_elim, sym, ap, ◌∙◌, subst, arith}
use Rattle.std.proofs.lemmas.List.{get_or_push, length-append}
use Rattle.std.proofs.Math.ListN.{get_or-append}
use Rattle.cost_theory.specs.Lists.{body_of}
use Rattle.flow_graph.specs.FlowGraph.{FlowGraph}
use Rattle.loop_file.specs.declared.notes.LoopNote.{LoopNote}
use Rattle.loop_file.specs.Kept.{note_at}
use Rattle.loop_tree.specs.Trips.{AreTripsOf, AreTrips}

pub trips_le : (v : FlowGraph) (note : LoopNote) (body : List ℕ) (trips : ℕ) → AreTripsOf v note body trips → trips ≤ note.at_least
trips_le v note body trips are = ⊎_elim
    (λ (none : trips ≡ 0). let r : trips ≤ note.at_least = omega arith in r)
    (λ (some : 0 < trips). let e : trips ≡ note.at_least = are.whole (are.turns some) in let r : trips ≤ note.at_least = omega arith in r)
    (some_or_none trips)
  where
    some_or_none : (n : ℕ) → (n ≡ 0) ⊎ (0 < n)
    some_or_none n = grind arith

-- one loop more
pub trips_more : (v : FlowGraph) (notes : List LoopNote) (bodies : List (List ℕ)) (n x : ℕ) (trips more : List ℕ) → AreTrips v notes bodies n trips → more ≡ trips ++ x ∷ [] → AreTripsOf v (note_at notes n) (body_of bodies n) x → AreTrips v notes bodies (n + 1) more
trips_more v notes bodies n x trips more are e here = subst (λ xs. AreTrips v notes bodies (n + 1) xs) (sym e) (record {
  size = length-append trips (x ∷ []) ∙ ap (λ m. m + 1) are.size;
  each = λ k kl. ⊎_elim
      (λ (low : k < n).
      subst (λ y. AreTripsOf v (note_at notes k) (body_of bodies k) y) (sym (get_or-append trips (x ∷ []) 0 k (subst (λ m. k < m) (sym are.size) low))) (are.each k low))
      (λ (same : k ≡ n).
      subst (λ i. AreTripsOf v (note_at notes i) (body_of bodies i) (get_or (trips ++ x ∷ []) i 0)) (sym same)
      (subst (λ y. AreTripsOf v (note_at notes n) (body_of bodies n) y) (sym (get_or_push trips x 0 n are.size)) here))
      (at_end k n kl);
})
  where
    at_end : (j n : ℕ) → j < n + 1 → (j < n) ⊎ (j ≡ n)
    at_end j n h = grind arith
