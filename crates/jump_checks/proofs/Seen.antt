-- What is claimed at an address is what stands at the number of its node.
use Rattle.std.proofs.Common.{◌≡◌, ℕ, zero, suc, ◌<◌, Bool, true, false, List, [], ◌∷◌, length, Option, Some, None, nat_eq, refl, sym, ap, ◌∙◌}
use Rattle.std.specs.Prelude.{slice_get}
use Rattle.std.proofs.lemmas.Bool.{cond-false, cond-true}
use Rattle.std.proofs.lemmas.Option.{slice_get-get_or}
use Rattle.value_checks.specs.Tables.{beside, or_other}
use Rattle.value_checks.proofs.Laws.{beside_is}
use Rattle.stack_tables.specs.declared.claims.StackClaim.{StackClaim}
use Rattle.stack_tables.specs.Tables.{address}
use Rattle.jump_laws.specs.declared.reads.TableRead.{TableRead}
use Rattle.jump_checks.specs.declared.claims.ReadClaim.{ReadClaim}
use Rattle.jump_checks.specs.Claimed.{IsReadClaim, known_beside, known_in}

pub there : (c : StackClaim) (k : ℕ) → k < length c.graph.now.code.nodes → slice_get c.graph.now.code.nodes k ≡ Some (address c k)
unfolding address
there c k lt = slice_get-get_or c.graph.now.code.nodes k 0 lt

pub read_seen : (c : ReadClaim) → IsReadClaim c → (k : ℕ) → k < length c.claim.now.graph.now.code.nodes → or_other None (slice_get c.reads.now k) ≡ known_in c (address c.claim.now k)
unfolding known_in
read_seen c is k lt = sym (beside_is None c.claim.now.graph.now is.claim.graph_is.flow c.reads.now is.size k (address c.claim.now k) (there c.claim.now k lt))

number_here : (u : ℕ) (us : List ℕ) (y : Option TableRead) (ys : List (Option TableRead)) (a : ℕ) (x : TableRead) (b : Bool) → nat_eq u a ≡ b → known_beside (u ∷ us) (y ∷ ys) a ≡ Some x → (known_beside us ys a ≡ Some x → (k : ℕ) × (slice_get ys k ≡ Some (Some x))) →
    (k : ℕ) × (slice_get (y ∷ ys) k ≡ Some (Some x))
number_here u us y ys a x true t e rest = (0, ap (λ (o : Option TableRead). Some o) (sym (cond-true (nat_eq u a) y (beside None us ys a) t) ∙ e))
number_here u us y ys a x false f e rest = let r = rest (sym (cond-false (nat_eq u a) y (beside None us ys a) f) ∙ e) in (suc r.0, r.1)

-- what is known at an address stands at some number
pub known_number : (nodes : List ℕ) (reads : List (Option TableRead)) (a : ℕ) (x : TableRead) → known_beside nodes reads a ≡ Some x → (k : ℕ) × (slice_get reads k ≡ Some (Some x))
known_number [] reads a x e = let bad : ⊥ = cc in absurd bad
known_number (u ∷ us) [] a x e = let bad : ⊥ = cc in absurd bad
known_number (u ∷ us) (y ∷ ys) a x e = number_here u us y ys a x (nat_eq u a) refl e (known_number us ys a x)
