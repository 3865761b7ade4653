-- What stands beside an address is what stands at its number.
use Rattle.std.proofs.Common.{◌≡◌, ℕ, zero, suc, ◌<◌, Bool, true, false, cond, List, [], ◌∷◌, length, Some, nat_eq, refl, sym, ap, ◌∙◌, arith, eqb-true, eq-eqb, subst}
use Rattle.std.specs.Prelude.{slice_get}
use Rattle.std.proofs.lemmas.Option.{slice_get_within}
use Rattle.flow_graph.proofs.Laws.{some_is, Once, ascending_once, once_head, once_tail}
use Rattle.flow_graph.specs.FlowGraph.{FlowGraph, IsFlowGraph}
use Rattle.wrapped_intervals.specs.Small.{row}
use Rattle.value_checks.specs.declared.tables.ValueTable.{ValueTable}
use Rattle.value_checks.specs.Tables.{beside, or_other, row_at, live_at, values_of, AreSized}

beside-get : {A : Type 0} (other : A) (us : List ℕ) (xs : List A) (k v : ℕ) (x : A) → Once us → slice_get us k ≡ Some v → slice_get xs k ≡ Some x → beside other us xs v ≡ x
beside-get other [] xs k v x once at there = let bad : ⊥ = cc in absurd bad
beside-get other (u ∷ us) [] k v x once at there = let bad : ⊥ = cc in absurd bad
beside-get other (u ∷ us) (y ∷ xs) zero v x once at there = ap (λ (b : Bool). cond b y (beside other us xs v)) (eq-eqb u v (some_is u v at)) ∙ some_is y x there
beside-get other (u ∷ us) (y ∷ xs) (suc k) v x once at there = ap (λ (b : Bool). cond b y (beside other us xs v)) (once_head u us once k v at) ∙ beside-get other us xs k v x (once_tail u us once) at there

-- a list has something at a number below its length
get_within : {A : Type 0} (other : A) (xs : List A) (k : ℕ) → k < length xs → slice_get xs k ≡ Some (or_other other (slice_get xs k))
get_within other [] k lt = absurd (omega (arith, lt))
get_within other (x ∷ xs) zero lt = refl
get_within other (x ∷ xs) (suc k) lt = get_within other xs k (omega (arith, lt))

pub once : (v : FlowGraph) → IsFlowGraph v → Once v.code.nodes
once v is = ascending_once v.code.nodes is.ascending

pub beside_is : {A : Type 0} (other : A) (v : FlowGraph) → IsFlowGraph v → (xs : List A) → length xs ≡ length v.code.nodes → (k a : ℕ) → slice_get v.code.nodes k ≡ Some a → beside other v.code.nodes xs a ≡ or_other other (slice_get xs k)
beside_is other v is xs size k a at = beside-get other v.code.nodes xs k a (or_other other (slice_get xs k)) (once v is) at (get_within other xs k (subst (λ (n : ℕ). k < n) (sym size) (slice_get_within v.code.nodes k a at)))

pub at_is : (v : FlowGraph) (table : ValueTable) → IsFlowGraph v → AreSized v.code table → (k a : ℕ) → slice_get v.code.nodes k ≡ Some a → (values_of v.code table).at a ≡ row (row_at table k)
at_is v table is sized k a at = ap row (beside_is [] v is table.rows.items sized.rows k a at)

pub live_is : (v : FlowGraph) (table : ValueTable) → IsFlowGraph v → AreSized v.code table → (k a : ℕ) → slice_get v.code.nodes k ≡ Some a → (values_of v.code table).live a ≡ live_at table k
live_is v table is sized k a at = beside_is false v is table.live.items sized.live k a at

node_here : (u : ℕ) (us : List ℕ) (x : Bool) (xs : List Bool) (a : ℕ) (b : Bool) → nat_eq u a ≡ b → cond b x (beside false us xs a) ≡ true → (beside false us xs a ≡ true → (k : ℕ) × (slice_get us k ≡ Some a)) → (k : ℕ) × (slice_get (u ∷ us) k ≡ Some a)
node_here u us x xs a true e there rest = (0, ap Some (eqb-true u a e))
node_here u us x xs a false e there rest = let found : (k : ℕ) × (slice_get us k ≡ Some a) = rest there in (suc found.0, found.1)

-- a flag beside an address is that of a number
pub beside_node : (us : List ℕ) (xs : List Bool) (a : ℕ) → beside false us xs a ≡ true → (k : ℕ) × (slice_get us k ≡ Some a)
beside_node [] xs a up = let bad : ⊥ = cc in absurd bad
beside_node (u ∷ us) [] a up = let bad : ⊥ = cc in absurd bad
beside_node (u ∷ us) (x ∷ xs) a up = node_here u us x xs a (nat_eq u a) refl up (λ there. beside_node us xs a there)
