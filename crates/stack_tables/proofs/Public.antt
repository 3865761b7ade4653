-- What is so at the number of a node is so at its address, of the tables as they are.
use Rattle.std.proofs.Common.{◌≡◌, ℕ, ◌∙◌, ap, Bool, true, Option, Some, None, subst, sym}
use Rattle.std.specs.Prelude.{slice_get, IfSome}
use Rattle.scale_base.specs.declared.instruction.Instr.{Instr}
use Rattle.code_text.specs.Text.{Text, instr_at}
use Rattle.bound_laws.specs.Registers.{Measure, keeps}
use Rattle.bound_laws.specs.Values.{Arc, Values, keeps_of, keeps_at}
use Rattle.stack_laws.specs.Stacks as stacks
use Rattle.stack_laws.specs.Stacks.{IsMissed, IsSafe, IsRestored, IsStoredFrom, name_of}
use Rattle.stack_tables.specs.declared.claims.StackClaim.{StackClaim}
use Rattle.stack_tables.specs.Tables.{IsLineOf, address, claim_stacks, claim_text, claim_values, stacks_in, values_in}
use Rattle.stack_tables.proofs.Seen.{address_is}

pub keeps_there : (t : Text) (a : ℕ) (i : Instr) (r : ℕ) → instr_at t a ≡ Some i → keeps r i ≡ true → keeps_at t r a ≡ true
keeps_there t a i r there kept = ap (keeps_of r) there ∙ kept

pub missed_so : (c : StackClaim) (i : Instr) (k word : ℕ) → IsMissed (values_in c) (stacks_in c) (address c k) i word → (a : ℕ) → slice_get c.graph.now.code.nodes k ≡ Some a → IsMissed (claim_values c) (claim_stacks c) a i word
unfolding values_in stacks_in
missed_so c i k word given a at = subst (λ (x : ℕ). IsMissed (claim_values c) (claim_stacks c) x i word) (sym (address_is c k a at)) given

pub safe_so : (c : StackClaim) (u h word : ℕ) → IsSafe (values_in c) (stacks_in c) (address c u) (address c h) word → (a b : ℕ) → slice_get c.graph.now.code.nodes u ≡ Some a → slice_get c.graph.now.code.nodes h ≡ Some b →
    IsSafe (claim_values c) (claim_stacks c) a b word
unfolding values_in stacks_in
safe_so c u h word given a b at_u at_h = subst (λ (x : ℕ). IsSafe (claim_values c) (claim_stacks c) x b word) (sym (address_is c u a at_u))
    (subst (λ (y : ℕ). IsSafe (claim_values c) (claim_stacks c) (address c u) y word) (sym (address_is c h b at_h)) given)

pub restored_so : (c : StackClaim) (h r : ℕ) (i : Instr) → (stacks_in c).restored ((values_in c).function (address c h)) r ≡ true → keeps r i ≡ true → (a b : ℕ) → slice_get c.graph.now.code.nodes h ≡ Some b → instr_at (claim_text c) a ≡ Some i →
    IsRestored (claim_text c) (claim_values c) (claim_stacks c) a b r
unfolding values_in stacks_in
restored_so c h r i restored kept a b at_h there =
    (subst (λ (y : ℕ). (claim_stacks c).restored ((claim_values c).function y) r ≡ true) (sym (address_is c h b at_h)) restored, keeps_there (claim_text c) a i r there kept)

pub stored_so : (c : StackClaim) (i : Instr) (k j r : ℕ) → IsStoredFrom (stacks_in c) (address c k) i j r → (a : ℕ) → slice_get c.graph.now.code.nodes k ≡ Some a → IsStoredFrom (claim_stacks c) a i j r
unfolding stacks_in
stored_so c i k j r given a at = subst (λ (x : ℕ). IsStoredFrom (claim_stacks c) x i j r) (sym (address_is c k a at)) given

pub name_so : (c : StackClaim) (k r : ℕ) (name : Option stacks.Name) → name ≡ name_of (stacks_in c) (address c k) r → (a : ℕ) → slice_get c.graph.now.code.nodes k ≡ Some a → name ≡ name_of (claim_stacks c) a r
unfolding stacks_in
name_so c k r name given a at = subst (λ (x : ℕ). name ≡ name_of (claim_stacks c) x r) (sym (address_is c k a at)) given

pub word_so : (c : StackClaim) (k j : ℕ) (arc : Option Arc) → arc ≡ (stacks_in c).word (address c k) j → (a : ℕ) → slice_get c.graph.now.code.nodes k ≡ Some a → arc ≡ (claim_stacks c).word a j
unfolding stacks_in
word_so c k j arc given a at = subst (λ (x : ℕ). arc ≡ (claim_stacks c).word x j) (sym (address_is c k a at)) given

pub live_so : (c : StackClaim) (k : ℕ) (live : Bool) → live ≡ (values_in c).live (address c k) → (a : ℕ) → slice_get c.graph.now.code.nodes k ≡ Some a → live ≡ (claim_values c).live a
unfolding values_in
live_so c k live given a at = subst (λ (x : ℕ). live ≡ (claim_values c).live x) (sym (address_is c k a at)) given

-- what is known of the form of a number is known of the form
pub line_of_form : (v : Values) (a j : ℕ) (m : Measure) (arc : Option Arc) → v.forms j ≡ m → arc ≡ v.lines a j → IfSome arc (λ x. IsLineOf v a m x)
line_of_form v a j m None same given = tt
line_of_form v a j m (Some x) same given = (j, same, sym given)

pub line_so : (c : StackClaim) (k : ℕ) (m : Measure) (arc : Arc) → IsLineOf (values_in c) (address c k) m arc → (a : ℕ) → slice_get c.graph.now.code.nodes k ≡ Some a → IsLineOf (claim_values c) a m arc
unfolding values_in
line_so c k m arc given a at = subst (λ (x : ℕ). IsLineOf (claim_values c) x m arc) (sym (address_is c k a at)) given
