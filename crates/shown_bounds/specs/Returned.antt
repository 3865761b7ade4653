-- Scaffold: what the code says of returns, node by node and call by call.
use Rattle.std.specs.Prelude.{◌≡◌, ◌≢◌, ℕ, ◌<◌, true, List, length, slice_get, Some}
use Rattle.scale_base.specs.declared.instruction.Instr.{Instr}
use Rattle.scale_base.specs.declared.stepping.Move.TheVariants.{Return}
use Rattle.scale_base.specs.Step.{move_of}
use Rattle.code_text.specs.Text.{instr_at}
use Rattle.flow_graph.specs.FlowGraph.{graph}
use Rattle.stack_laws.specs.Stacks.Name.{of_begin}
use Rattle.value_checks.specs.Tables.{or_other}
use Rattle.stack_tables.specs.declared.claims.StackClaim.{StackClaim}
use Rattle.stack_tables.specs.Tables.{claim_stacks, claim_text, claim_values}

-- by number of a function, so many calls may be open in what it calls
abbrev pub height_at : List ℕ → ℕ → ℕ
height_at heights f = or_other 0 (slice_get heights f)

-- x1 is what it was when the function began, and that isn't function f
abbrev pub IsLink : StackClaim → (a f : ℕ) → Type 0
IsLink c a f = ((claim_stacks c).name a 1 ≡ Some (of_begin 1 0)) × ((claim_values c).function a ≢ f)

-- of a return at an address, where f is the function in which a run begins
abbrev pub IsLinkedAt : StackClaim → (a f : ℕ) → Type 0
IsLinkedAt c a f = (i : Instr) → instr_at (claim_text c) a ≡ Some i → move_of i ≡ Return → (claim_values c).live a ≡ true → IsLink c a f

-- of each node
abbrev pub AreLinked : StackClaim → ℕ → Type 0
AreLinked c f = (k a : ℕ) → slice_get c.graph.now.code.nodes k ≡ Some a → IsLinkedAt c a f

-- of a call
abbrev pub IsLowerSo : StackClaim → List ℕ → ℕ → Type 0
IsLowerSo c heights e = (f : ℕ) → (graph c.graph.now).callee e ≡ Some f → (claim_values c).live ((graph c.graph.now).source e) ≡ true →
    height_at heights ((claim_values c).function ((graph c.graph.now).entry f)) < height_at heights
    ((claim_values c).function ((graph c.graph.now).source e))

-- of each call
abbrev pub AreLower : StackClaim → List ℕ → Type 0
AreLower c heights = (e : ℕ) → e < length c.graph.now.code.edges → IsLowerSo c heights e
