-- What the code says of each return and each call says that runs come back.
use Rattle.std.proofs.Common.{◌≡◌, ◌≢◌, ℕ, ◌<◌, ◌≤◌, true, false, length, List, Some, get_or, sym, ◌∙◌, ap, subst}
use Rattle.std.specs.Prelude.{slice_get}
use Rattle.std.proofs.lemmas.Option.{get_or_from_slice_get}
use Rattle.scale_base.specs.declared.instruction.Instr.{Instr}
use Rattle.scale_base.specs.declared.stepping.Move.TheVariants.{Return}
use Rattle.scale_base.specs.Step.{move_of}
use Rattle.cost_theory.specs.Graph.{Graph}
use Rattle.code_text.specs.Text.{instr_at}
use Rattle.code_text.specs.TextGraph.{text_graph}
use Rattle.flow_graph.proofs.Laws.{some_is}
use Rattle.flow_graph.specs.FlowGraph.{graph}
use Rattle.graph_runs.specs.KeptRuns.{most_returns}
use Rattle.bound_laws.specs.Turning.{Calls}
use Rattle.stack_laws.specs.Returning.{ComesBack}
use Rattle.stack_laws.specs.Stacks.Name.{of_begin}
use Rattle.value_checks.specs.Tables.{live_at}
use Rattle.stack_tables.specs.declared.claims.StackClaim.{StackClaim}
use Rattle.stack_tables.specs.Tables.{claim_stacks, claim_text, claim_values, IsStackClaim}
use Rattle.shown_bounds.specs.Returned.{height_at, AreLinked, AreLower, IsLink, IsLinkedAt, IsLowerSo}
use Rattle.value_checks.proofs.Laws.{beside_node, live_is}

-- the function of a node
pub owner_is : (c : StackClaim) (k a f : ℕ) → slice_get c.graph.now.code.nodes k ≡ Some a → f ≡ (graph c.graph.now).owner (get_or c.graph.now.code.nodes k 0) → f ≡ (claim_values c).function a
owner_is c k a f at owner = owner ∙ ap (graph c.graph.now).owner (get_or_from_slice_get c.graph.now.code.nodes k a 0 at)

-- no run comes to the node
pub never_linked : (c : StackClaim) → IsStackClaim c → (k first : ℕ) → live_at c.table.now k ≡ false → (a : ℕ) → slice_get c.graph.now.code.nodes k ≡ Some a → IsLinkedAt c a first
never_linked c is k first dead a at i there moves live =
    let no : true ≡ false = sym live ∙ (live_is c.graph.now c.table.now is.graph_is.flow is.sized k a at ∙ dead) in
    let bad : ⊥ = cc in absurd bad

-- no return is there
pub no_return : (c : StackClaim) (i : Instr) (a first : ℕ) → instr_at (claim_text c) a ≡ Some i → (move_of i ≡ Return → true ≡ false) → IsLinkedAt c a first
no_return c i a first there other j there_j moves live =
    let same : j ≡ i = some_is j i (sym there_j ∙ there) in
    let no : true ≡ false = other (subst (λ (x : Instr). move_of x ≡ Return) same moves) in
    let bad : ⊥ = cc in absurd bad

pub never_lower : (c : StackClaim) → IsStackClaim c → (heights : List ℕ) (e k : ℕ) → slice_get c.graph.now.code.nodes k ≡ Some ((graph c.graph.now).source e) → live_at c.table.now k ≡ false → IsLowerSo c heights e
never_lower c is heights e k at dead f callee live =
    let no : true ≡ false = sym live ∙ (live_is c.graph.now c.table.now is.graph_is.flow is.sized k ((graph c.graph.now).source e) at ∙ dead) in
    let bad : ⊥ = cc in absurd bad

pub lower_so : (c : StackClaim) → IsStackClaim c → (heights : List ℕ) (e k f o : ℕ) → f < length c.graph.now.code.functions → slice_get c.graph.now.code.nodes k ≡ Some ((graph c.graph.now).source e) → (graph c.graph.now).callee e ≡ Some f →
    o ≡ (graph c.graph.now).owner (get_or c.graph.now.code.nodes k 0) → height_at heights f < height_at heights o → IsLowerSo c heights e
lower_so c is heights e k f o fl at callee owner given d to live =
    subst (λ (x : ℕ). height_at heights ((claim_values c).function ((graph c.graph.now).entry x)) < height_at heights ((claim_values c).function ((graph c.graph.now).source e))) (some_is f d (sym callee ∙ to))
    (subst (λ (x : ℕ). height_at heights x < height_at heights ((claim_values c).function ((graph c.graph.now).source e))) (sym (is.graph_is.flow.program.entry_owner f fl))
    (subst (λ (x : ℕ). height_at heights f < height_at heights x) (owner_is c k ((graph c.graph.now).source e) o at owner) given))

comes : (c : StackClaim) (heights : List ℕ) (first : ℕ) → first ≡ (claim_values c).function (claim_text c).entry → height_at heights first ≤ most_returns → AreLower c heights → AreLinked c first → ComesBack (claim_text c) (graph c.graph.now) (claim_values c) (claim_stacks c)
comes c heights first entry low lower linked = record {
  height = height_at heights;
  links = links;
  lower = lower_there;
  top = subst (λ (x : ℕ). height_at heights x ≤ most_returns) entry low;
}
  where
    links : (a : ℕ) (i : Instr) → instr_at (claim_text c) a ≡ Some i → move_of i ≡ Return → (claim_values c).live a ≡ true → ((claim_stacks c).name a 1 ≡ Some (of_begin 1 0)) × ((claim_values c).function a ≢ (claim_values c).function (claim_text c).entry)
    links a i there moves live =
        let node : (k : ℕ) × (slice_get c.graph.now.code.nodes k ≡ Some a) = beside_node c.graph.now.code.nodes c.table.now.live.items a live in
        subst (λ (x : ℕ). IsLink c a x) entry (linked node.0 a node.1 i there moves live)

    lower_there : (a b : ℕ) → Calls (graph c.graph.now) a b → (claim_values c).live a ≡ true → height_at heights ((claim_values c).function b) < height_at heights ((claim_values c).function a)
    lower_there a b (e, f, lt, source, callee, at) live =
        subst (λ (x : ℕ). height_at heights ((claim_values c).function b) < height_at heights ((claim_values c).function x)) source
        (subst (λ (y : ℕ). height_at heights ((claim_values c).function y) < height_at heights ((claim_values c).function ((graph c.graph.now).source e))) at
        (lower e lt f callee (ap (claim_values c).live source ∙ live)))

pub comes_back : (c : StackClaim) → IsStackClaim c → (heights : List ℕ) (first : ℕ) → first ≡ (claim_values c).function (claim_text c).entry → height_at heights first ≤ most_returns → AreLower c heights → AreLinked c first →
    ComesBack (claim_text c) (text_graph (claim_text c) c.graph.now.code) (claim_values c) (claim_stacks c)
comes_back c is heights first entry low lower linked = subst (λ (g : Graph). ComesBack (claim_text c) g (claim_values c) (claim_stacks c)) (sym is.graph_is.graph_is) (comes c heights first entry low lower linked)
