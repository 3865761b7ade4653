-- What the tables say at an address where no node is.
use Rattle.std.proofs.Common.{◌≡◌, ℕ, suc, ◌∷◌, [], List, Bool, true, false, cond, Some, refl, ap, sym, ◌∙◌}
use Rattle.std.specs.Prelude.{nat_eq, slice_get}
use Rattle.std.proofs.lemmas.Bool.{eqb-true}
use Rattle.cost_theory.specs.Reached.{number_beside}
use Rattle.value_checks.specs.Tables.{beside}
use Rattle.value_checks.proofs.Laws.{beside_node}
use Rattle.stack_tables.specs.declared.claims.StackClaim.{StackClaim}
use Rattle.stack_tables.specs.Tables.{address, claim_stacks, stacks_in}
use Rattle.stack_tables.proofs.Laws.{address_is}

-- no node has it
abbrev pub IsNoNode : List ℕ → ℕ → Type 0
IsNoNode us a = (k : ℕ) → slice_get us k ≡ Some a → ⊥

number_at : (u : ℕ) (us : List ℕ) (x rest a : ℕ) (b : Bool) → nat_eq u a ≡ b → IsNoNode (u ∷ us) a → rest ≡ 0 → cond b x rest ≡ 0
number_at u us x rest a true e none others = absurd (none 0 (ap Some (eqb-true u a e)))
number_at u us x rest a false e none others = others

pub no_number : (us xs : List ℕ) (a : ℕ) → IsNoNode us a → number_beside us xs a ≡ 0
no_number [] xs a none = refl
no_number (u ∷ us) [] a none = refl
no_number (u ∷ us) (x ∷ xs) a none = number_at u us x (number_beside us xs a) a (nat_eq u a) refl none (no_number us xs a (λ k at. none (suc k) at))

flag_is : (b : Bool) → (b ≡ true → ⊥) → false ≡ b
flag_is true none = absurd (none refl)
flag_is false none = refl

pub no_flag : (us : List ℕ) (xs : List Bool) (a : ℕ) → IsNoNode us a → false ≡ beside false us xs a
no_flag us xs a none = flag_is (beside false us xs a) (λ up. let there = beside_node us xs a up in none there.0 there.1)

pub doubtful_there : (c : StackClaim) (k a : ℕ) (is : Bool) → slice_get c.graph.now.code.nodes k ≡ Some a → is ≡ (stacks_in c).doubtful (address c k) → is ≡ (claim_stacks c).doubtful a
unfolding stacks_in
doubtful_there c k a is at same = same ∙ ap (claim_stacks c).doubtful (sym (address_is c k a at))
