-- The lists together: the graph of a text, and what is kept of it.
use Rattle.std.proofs.Common.{◌≡◌, ℕ, ◌+◌, ◌*◌, ◌<◌, ◌≤◌, ◌%◌, Bool, true, List, length, get_or, map, Option, Some, None, Result, Ok, Err, inr, ⊎_elim, refl, sym, ap, ◌∙◌, subst, arith, eq-eqb}
use Rattle.std.specs.Prelude.{slice_get, slice_index, ◌==◌, ◌&&◌, IsErrAnd}
use Rattle.std.specs.List.{list_any}
use Rattle.std.proofs.lemmas.List.{length-map}
use Rattle.std.proofs.lemmas.Bool.{cases_lt}
use Rattle.std.proofs.lemmas.Option.{slice_get_within, slice_get-get_or, slice_get-map, slice_get_past}
use Rattle.scale_base.specs.declared.ranges.Range.{Range}
use Rattle.scale_base.specs.declared.stepping.Class.{Class}
use Rattle.scale_base.specs.declared.refusal.Refusal.{Refusal}
use Rattle.scale_base.specs.declared.refusal.Stop.{Stop}
use Rattle.scale_base.specs.declared.refusal.Stop.TheVariants.{Refused, Memory}
use Rattle.scale_base.specs.Answer.{AnswersBy}
use Rattle.scale_base.specs.Image.{Image, is_in, is_word_address}
use Rattle.scale_base.specs.declared.edges.Edge.{Edge}
use Rattle.scale_base.specs.declared.edges.EdgeKind.TheVariants.{Next}
use Rattle.cost_theory.specs.declared.flow.Flow.{Flow}
use Rattle.cost_theory.specs.Accepted.{IsNode, IsProgram}
use Rattle.cost_theory.specs.Reached.{IsCodeOf, graph_of, callee_of, call_returns, edges_of, edge_to}
use Rattle.cost_theory.proofs.Laws.{Within, get_within, within_flat, some_get, one_graph, edge_node, reached_node}
use Rattle.cost_theory.proofs.Laws as theory
use Rattle.graph_algorithms.specs.declared.orders.Arc.{Arc}
use Rattle.graph_algorithms.specs.Arcs.{HasNoCycle, IsSorted}
use Rattle.code_text.specs.Text.{Text, kind_at}
use Rattle.code_text.specs.EdgeCosts.{edge_class}
use Rattle.code_text.specs.TextGraph.{text_graph}
use Rattle.code_text.proofs.Laws.{kind_facts}
use Rattle.code_graph.specs.Reach.{Reach}
use Rattle.flow_graph.specs.FlowGraph.{FlowGraph, word_beside, IsFlowGraph, IsGraphOf, AreCalleesFirst}
use Rattle.flow_graph.specs.Stored.{AreFirsts, IsStoredGraph}
use Rattle.code_graph.specs.Assembling.{AreEdgesOf, AreCallArcs, AreBlocksBy, IsOrdered, entry_addresses, AreEnds}
use Rattle.flow_graph.specs.Ends.{AreEdgeEnds}
use Rattle.flow_graph.specs.Refused.{IsRefusedBy}
use Rattle.flow_graph.proofs.Laws.{some_is, word_beside-get, ascending_once, ascending_rise, few_once}
use Rattle.code_graph.proofs.Parts.{AreParts, node_reached, number_reached, kinds_are, is_code, callee_entry, returning_size}
use Rattle.code_graph.proofs.Calls.{program, callees_first, calls_within, named_cycle}
use Rattle.code_graph.proofs.CallLaws.{arcs_numbered, cycle_numbered}
use Rattle.code_graph.proofs.EdgeLaws.{next_leads}
use Rattle.code_graph.proofs.BlockLaws.{blocks_by}
use Rattle.code_text.specs.Walk.{RiseStrictly}

-- the ends of a graph's edges are those of its lists
edge_ends : (v : FlowGraph) (sources : List ℕ) (targets : List (Option ℕ)) → AreEnds (length v.code.edges) v.code.nodes v.code.edges sources targets → AreEdgeEnds v sources targets
edge_ends v sources targets ends = record {
  sources_size = ends.sources_size;
  targets_size = ends.targets_size;
  source = ends.source;
  target = ends.target;
  end = ends.end;
}

-- multiples of 4 are 4 apart
four_apart : (a b : ℕ) → a < b → a % 4 ≡ 0 → b % 4 ≡ 0 → a + 4 ≤ b
four_apart a b lt left right = omega arith

module _ (t : Text) (r : Reach) (nodes : List ℕ) (kinds : List Flow) (owners entries : List ℕ) (returning : List Bool) (callees : List (Option ℕ)) (are : AreParts t r nodes kinds owners entries returning callees) where
  -- an address that is a node is one of the text
  pub node_word : (j a : ℕ) → slice_get nodes j ≡ Some a → (a % 4 ≡ 0) × (list_any (is_in a) t.ranges ≡ true)
  node_word j a at = let f = node_reached t r nodes kinds owners entries returning callees are j a at in let is = kind_facts t a (are.fine f.0 a f.1) in (is.0, is.1)

  pub low_nodes : (j : ℕ) → j < length nodes → get_or nodes j 0 + 4 < 4294967296
  low_nodes j lt =
      let e = are.nodes_are.each j (get_or nodes j 0) (slice_get-get_or nodes j 0 lt) in
      let low = are.reach.table.low e.k (get_or nodes j 0) e.address in
      omega arith

  -- nodes are 4 apart
  spaced : (i j a b : ℕ) → i < j → slice_get nodes i ≡ Some a → slice_get nodes j ≡ Some b → a + 4 ≤ b
  spaced i j a b ij at_i at_j = four_apart a b (are.nodes_are.ascending i j a b ij at_i at_j) (node_word i a at_i).0 (node_word j b at_j).0

  pub rising : RiseStrictly nodes
  rising = ascending_rise nodes are.nodes_are.ascending

  -- the function of a node is one
  pub owner_function : (j o : ℕ) → slice_get owners j ≡ Some o → o < length entries
  owner_function j o at =
      let jl : j < length nodes = (let lt = slice_get_within owners j o at in let s = are.nodes_are.owners_size in omega arith) in
      let node = some_get nodes j jl in
      let e = are.nodes_are.each j node.0 node.1 in
      let n = number_reached t r nodes kinds owners entries returning callees are e.k node.0 e.owner e.address e.number in
      subst (λ i. i < length entries) (some_is e.owner o (sym e.owner_beside ∙ at)) (slice_get_within entries e.owner n.0 n.1)

  pub few_entries : length entries ≤ length r.words.addresses
  few_entries =
      let long : length entries ≡ length r.functions = ap length are.entries_are ∙ length-map r.functions (slice_index r.words.addresses) in
      let few : length r.functions ≤ length r.words.addresses = few_once r.functions (length r.words.addresses)
      (λ i j k at_i at_j. some_is i j (some_is (Some i) (Some j) (sym ((are.reach.reach.numbers k i).1 at_i) ∙ (are.reach.reach.numbers k j).1 at_j)))
      (λ i k at. let w = are.reach.reach.functions_within i k at in slice_get_within r.words.addresses k w.0 w.1) in
      omega arith

  module _ (edges : List Edge) (edges_are : AreEdgesOf (length nodes) nodes kinds callees returning edges) where
    pub code_is : IsCodeOf (kind_at t) t.entry (record { nodes = nodes; edges = edges; functions = entries; owners = owners; returning = returning })
    code_is = is_code t r nodes kinds owners entries returning callees are edges edges_are

    pub edge_word : (e : ℕ) (x : Edge) → slice_get edges e ≡ Some x → (x.at % 4 ≡ 0) × (list_any (is_in x.at) t.ranges ≡ true)
    edge_word e x at = let n = edge_node (kind_at t) t.entry (record { nodes = nodes; edges = edges; functions = entries; owners = owners; returning = returning }) code_is e x at in node_word n.0 x.at n.1

    -- where an edge starts is a node
    pub source_is : (e : ℕ) (x : Edge) → slice_get edges e ≡ Some x → (k : ℕ) × (slice_get nodes k ≡ Some x.at)
    source_is e x at = edge_node (kind_at t) t.entry (record { nodes = nodes; edges = edges; functions = entries; owners = owners; returning = returning }) code_is e x at

    -- an edge of kind Next leads to the word behind
    next_to : (e : ℕ) (x : Edge) → slice_get edges e ≡ Some x → x.kind ≡ Next → x.to ≡ x.at + 4
    next_to e x at kind =
        let f = λ (a : ℕ). edges_of (kind_at t a) a (call_returns (record { nodes = nodes; edges = edges; functions = entries; owners = owners; returning = returning }) (kind_at t a)) in
        let w = within_flat f nodes x (subst (λ es. Within x es) code_is.edges (get_within edges e x at)) in
        next_leads (kind_at t w.0) w.0 (call_returns (record { nodes = nodes; edges = edges; functions = entries; owners = owners; returning = returning }) (kind_at t w.0)) x w.2 kind

    module _ (classes : List (Option Class)) (order firsts : List ℕ) (blocks : List Range) (arcs : List Arc) (arcs_are : AreCallArcs (length owners) owners callees arcs) (sorted : IsSorted (length entries) arcs order) (none : HasNoCycle arcs)
        (classes_are : classes ≡ map (λ e. edge_class t (Some e)) edges) where
      -- the kinds beside the nodes are those of the text
      beside_is : (j a : ℕ) → slice_get nodes j ≡ Some a → kind_at t a ≡ word_beside nodes kinds a
      beside_is j a at = sym (word_beside-get nodes kinds j a (kind_at t a) (ascending_once nodes are.nodes_are.ascending) at
          (ap (λ xs. slice_get xs j) (kinds_are t r nodes kinds owners entries returning callees are) ∙ slice_get-map (kind_at t) nodes j ∙ rw at refl))

      same_graph : text_graph t (record { nodes = nodes; edges = edges; functions = entries; owners = owners; returning = returning }) ≡
          graph_of (word_beside nodes kinds) (record { nodes = nodes; edges = edges; functions = entries; owners = owners; returning = returning })
      same_graph = one_graph (kind_at t) (word_beside nodes kinds) (record { nodes = nodes; edges = edges; functions = entries; owners = owners; returning = returning })
          (λ i e at. let n = edge_node (kind_at t) t.entry (record { nodes = nodes; edges = edges; functions = entries; owners = owners; returning = returning }) code_is i e at in beside_is n.0 e.at n.1)

      node_is : (a : ℕ) → (k : ℕ) × (slice_get nodes k ≡ Some a) → IsNode (graph_of (kind_at t) (record { nodes = nodes; edges = edges; functions = entries; owners = owners; returning = returning })) a
      node_is a at =
          let f = node_reached t r nodes kinds owners entries returning callees are at.0 a at.1 in
          reached_node (kind_at t) t.entry (record { nodes = nodes; edges = edges; functions = entries; owners = owners; returning = returning }) code_is are.fine f.0 a f.1

      is_node : (a : ℕ) → IsNode (graph_of (kind_at t) (record { nodes = nodes; edges = edges; functions = entries; owners = owners; returning = returning })) a → (k : ℕ) × (slice_get nodes k ≡ Some a)
      is_node a node =
          let f = theory.source_reached (kind_at t) t.entry (record { nodes = nodes; edges = edges; functions = entries; owners = owners; returning = returning }) code_is are.fine node.0 node.1 in
          subst (λ v. (k : ℕ) × (slice_get nodes k ≡ Some v)) node.2 ((code_is.nodes _).1 (f.0, f.1))

      pub flow_is : IsFlowGraph (record { code = record { nodes = nodes; edges = edges; functions = entries; owners = owners; returning = returning }; kinds = kinds; classes = classes; order = order; blocks = blocks })
      flow_is = record {
        program = subst IsProgram same_graph (program t r nodes kinds owners entries returning callees are arcs arcs_are edges edges_are none);
        ascending = are.nodes_are.ascending;
        nodes = λ a. (λ at. subst (λ g. IsNode g a) same_graph (node_is a at), λ node. is_node a (subst (λ g. IsNode g a) (sym same_graph) node));
        order = subst (λ g. AreCalleesFirst g order) same_graph (callees_first t r nodes kinds owners entries returning callees are arcs arcs_are edges edges_are order sorted);
      }

      pub graph_is : IsGraphOf t (record { code = record { nodes = nodes; edges = edges; functions = entries; owners = owners; returning = returning }; kinds = kinds; classes = classes; order = order; blocks = blocks })
      graph_is = record {
        reached = record { lists = code_is; words = are.fine };
        kinds = kinds_are t r nodes kinds owners entries returning callees are;
        classes = classes_are;
        graph_is = same_graph;
        flow = flow_is;
      }

      pub stored_is : length r.words.addresses ≤ 131072 → length edges ≤ 2 * length nodes → AreFirsts (length nodes) nodes edges firsts → (sources : List ℕ) (targets : List (Option ℕ)) →
          AreEnds (length edges) nodes edges sources targets → AreBlocksBy nodes owners entries edges firsts sources targets blocks →
          IsStoredGraph (record { code = record { nodes = nodes; edges = edges; functions = entries; owners = owners; returning = returning }; kinds = kinds; classes = classes; order = order; blocks = blocks }) callees firsts sources targets
      stored_is few few_edges firsts_are sources targets ends by =
          let most = are.nodes_are.few in
          let functions = few_entries in
          let blocks_are = blocks_by (record { code = record { nodes = nodes; edges = edges; functions = entries; owners = owners; returning = returning }; kinds = kinds; classes = classes; order = order; blocks = blocks }) firsts sources targets blocks
          (record { flow = flow_is; owners = are.nodes_are.owners_size; firsts_are = firsts_are; ends = ends; next = next_to; spaced = spaced }) by in
          record {
            flow = flow_is;
            few_nodes = omega arith;
            few_edges = omega arith;
            few_functions = omega arith;
            kinds = are.nodes_are.kinds_size;
            owners = are.nodes_are.owners_size;
            callees_are = are.callees_are ∙ ap (λ xs. map (callee_of xs) kinds) (sym are.entries_are);
            firsts_are = firsts_are;
            ends_are = edge_ends (record { code = record { nodes = nodes; edges = edges; functions = entries; owners = owners; returning = returning }; kinds = kinds; classes = classes; order = order; blocks = blocks }) sources targets ends;
            few_blocks = blocks_are.1;
            blocks_are = blocks_are.0;
          }

      -- where an edge leads is a node
      pub target_is : (e a : ℕ) → edge_to (slice_get edges e) ≡ Some a → (k : ℕ) × (slice_get nodes k ≡ Some a)
      target_is e a to = (flow_is.nodes a).1 (flow_is.program.stays e a (within e a to) to).0
        where
          within : (e a : ℕ) → edge_to (slice_get edges e) ≡ Some a → e < length edges
          within e a to = ⊎_elim (λ (lt : e < length edges). lt)
              (λ (le : length edges ≤ e). let none : slice_get edges e ≡ None = slice_get_past edges e le in let clash = ap edge_to none in let bad : ⊥ = cc in absurd bad)
              (cases_lt e (length edges))

  -- a function that is called has a flag
  pub callee_within : (k f : ℕ) → slice_get callees k ≡ Some (Some f) → f < length returning
  callee_within k f at =
      let size : length callees ≡ length kinds = ap length are.callees_are ∙ length-map kinds (callee_of (entry_addresses r)) in
      let within = slice_get_within callees k (Some f) at in
      let w = some_get kinds k (omega arith) in
      let stands : slice_get callees k ≡ Some (callee_of entries w.0) =
      ap (λ xs. slice_get xs k) (are.callees_are ∙ ap (λ xs. map (callee_of xs) kinds) (sym are.entries_are)) ∙ slice_get-map (callee_of entries) kinds k ∙ rw w.1 refl in
      let c = callee_entry t r nodes kinds owners entries returning callees are w.0 f (some_is (callee_of entries w.0) (Some f) (sym stands ∙ at)) in
      let lt = slice_get_within entries f c.0 c.2 in
      let flags = returning_size t r nodes kinds owners entries returning callees are in
      omega arith

-- an aligned address of the text is that of a word
pub word_test : (image : Image) (a : ℕ) → (a % 4 ≡ 0) × (list_any (is_in a) image.text ≡ true) → is_word_address image a ≡ true
word_test image a here = both (a % 4 == 0) (list_any (is_in a) image.text) (eq-eqb (a % 4) 0 here.0) here.1
  where
    both : (x y : Bool) → x ≡ true → y ≡ true → (x && y) ≡ true
    both x y p q = grind arith

-- what stops a part stops the whole
pub refused_part : {X Y Z W : Type 0} (seen : Z → W) (shown : X → Y) (answer : Result X Stop) (stop : Stop) (P : Result Y Refusal → Type 0) (Q : Result W Refusal → Type 0) →
    IsErrAnd answer (λ e. e ≡ stop) → AnswersBy seen (Err stop) Q → ((refusal : Refusal) → Q (Err refusal) → P (Err refusal)) → AnswersBy shown answer P
refused_part seen shown (Ok x) stop P Q same part on = absurd same
refused_part seen shown (Err e) (Refused refusal) P Q same part on = subst (λ s. AnswersBy shown (Err s) P) (sym same) (on refusal part)
refused_part seen shown (Err e) Memory P Q same part on = subst (λ s. AnswersBy shown (Err s) P) (sym same) tt

module _ (t : Text) (r : Reach) (nodes : List ℕ) (kinds : List Flow) (owners entries : List ℕ) (returning : List Bool) (callees : List (Option ℕ)) (are : AreParts t r nodes kinds owners entries returning callees) where
  pub round_refused : (refusal : Refusal) → IsOrdered entries owners callees (Err refusal) → IsRefusedBy t refusal
  round_refused refusal (arcs, arcs_are, cycle, is, named, e, turned) = inr (inr (record {
    cycle = named;
    named = e;
    no_bad_word = are.fine;
    no_shared_code = are.apart;
    calls = named_cycle t r nodes kinds owners entries returning callees are arcs arcs_are cycle is
        (cycle_numbered (length entries) arcs cycle (arcs_numbered (length entries) owners callees arcs arcs_are (calls_within t r nodes kinds owners entries returning callees are)) is) named turned;
  }))
