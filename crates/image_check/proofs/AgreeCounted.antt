-- Two graphs of an original, with the loops of the same notes: what is found beside it, the loops of counters and the numbers are the same.
use Rattle.std.proofs.Common.{◌≡◌, ℕ, ◌+◌, List, map, sym, ap, ◌∙◌, subst, slice_get}
use Rattle.std.specs.Prelude.{filter}
use Rattle.scale_base.specs.declared.edges.Edge.{Edge}
use Rattle.scale_base.specs.declared.stepping.Class.{Class}
use Rattle.scale_base.specs.Image.{Image}
use Rattle.power_model.specs.Numbers.{PowerModel}
use Rattle.power_model.specs.Switches.{costs_of}
use Rattle.cost_theory.specs.Accepted.{IsProgram, AreAccepted, AreWeights}
use Rattle.cost_theory.specs.Graph.{Graph, Loops}
use Rattle.cost_theory.specs.Reached.{edge_at}
use Rattle.cost_theory.specs.Worst.{Numbers, AreNumbers}
use Rattle.cycle_laws.specs.Charged.{Charged, AreCharged}
use Rattle.code_text.specs.EdgeCosts.{edge_class, weights}
use Rattle.code_text.specs.Text.{Text, text_of}
use Rattle.flow_graph.specs.FlowGraph.{FlowGraph, graph, IsGraphOf}
use Rattle.loop_file.specs.declared.notes.LoopNote.{LoopNote}
use Rattle.loop_file.specs.Kept.{noted_loops}
use Rattle.loop_forest.specs.Tree.{LoopView, loops, IsTreeOf}
use Rattle.answer_laws.specs.Alike.{AreAlikeTrees, AreAlikeNumbers, AreAlikeCharged}
use Rattle.answer_laws.specs.Renumbered.{IsRenumbered}
use Rattle.answer_laws.proofs.Laws.{graphs_renumbered, weights_same, trees_agree, numbers_alike, charged_alike}
use Rattle.paid_runs.specs.Marked.{extra_by, extra_site_weights}
use Rattle.foreign_scan.specs.Agree.{FoundAgree}
use Rattle.foreign_scan.specs.Scanned.{Found, IsScanned}
use Rattle.image_check.specs.Safe.{Owner, foreign_site, is_patched_word, sites_of, IsCounterOf, AreOwners}
use Rattle.image_check.specs.Checked.{graph_by, weights_with, IsCounted, CountsNoLoop}
use Rattle.image_check.specs.Causes.{IsBadCounter}
use Rattle.image_check.proofs.AgreeScan.{AreSameLists, turned, found_same, owners_to, used_to, counter_to}
use Rattle.image_check.proofs.AgreeOwners.{owners_same}

-- a graph of the original with the loops of the notes
pub record IsListed (original : Image) (notes : List LoopNote) (v : FlowGraph) (tree : LoopView) : Type 0 where
  pub code_is : IsGraphOf (text_of original) v
  pub tree_is : IsTreeOf v notes tree

module _ (power : PowerModel) (original foreign : Image) (notes : List LoopNote) (v v' : FlowGraph) (tree tree' : LoopView) (one : IsListed original notes v tree) (other : IsListed original notes v' tree') where
  abbrev t : Text
  t = text_of original

  abbrev l : Loops
  l = loops v tree

  abbrev l' : Loops
  l' = loops v' tree'

  pub same : IsRenumbered v v'
  same = graphs_renumbered t v v' one.code_is other.code_is

  pub trees : AreAlikeTrees v v' tree tree'
  trees = trees_agree v v' notes tree tree' same one.code_is.flow one.tree_is other.tree_is

  pub lists : AreSameLists v.code v'.code
  lists = record { nodes = same.nodes; edges = same.edges }

  pub loops_same : l ≡ l'
  loops_same = trees.loops

  -- ---- weights

  abbrev extra_over : (costs : Class → ℕ) → Owner → Found → List ℕ → List Edge → Loops → ℕ → ℕ
  extra_over costs owner found nodes edges ls e =
      extra_by costs (map (foreign_site original foreign ls owner found) (filter (is_patched_word original foreign) nodes)) (edge_at (slice_get edges e)) (edge_class t (slice_get edges e))

  pub extra_same : (costs : Class → ℕ) (owner : Owner) (found : Found) → extra_site_weights t v.code costs (sites_of original foreign v.code l owner found) ≡ extra_site_weights t v'.code costs (sites_of original foreign v'.code l' owner found)
  extra_same costs owner found =
      ap {B = ℕ → ℕ} (λ (ns : List ℕ). extra_over costs owner found ns v.code.edges l) same.nodes
      ∙ (ap {B = ℕ → ℕ} (λ (es : List Edge). extra_over costs owner found v'.code.nodes es l) same.edges ∙ ap {B = ℕ → ℕ} (λ (ls : Loops). extra_over costs owner found v'.code.nodes v'.code.edges ls) loops_same)

  pub with_same : (owner : Owner) (found : Found) → weights_with power original foreign v tree owner found ≡ weights_with power original foreign v' tree' owner found
  with_same owner found =
      let plain = weights_same t v v' (costs_of power) same in
      ap {B = ℕ → ℕ} (λ (f : ℕ → ℕ) e. f e + extra_site_weights t v.code (costs_of power) (sites_of original foreign v.code l owner found) e) plain
      ∙ ap {B = ℕ → ℕ} (λ (f : ℕ → ℕ) e. weights t v'.code (costs_of power) e + f e) (extra_same (costs_of power) owner found)

  -- ---- what is found, and the loops of counters

  pub found_is : FoundAgree → (found found' : Found) → IsScanned original foreign v.code l found → IsScanned original foreign v'.code l' found' → found ≡ found'
  found_is agree found found' s s' = found_same original foreign agree v.code v'.code l l' found found' lists loops_same one.code_is.reached s s'

  -- the loops of the first graph's counters are loops of the second's
  pub owners_there : (found : Found) (owner : Owner) → AreOwners (graph_by original v) v.code l found owner → AreOwners (graph_by original v') v'.code l' found owner
  owners_there found owner h = subst (λ x. AreOwners (graph_by original v') v'.code x found owner) loops_same (owners_to original foreign v.code v'.code l found owner lists h)

  pub owner_is : (found : Found) (owner owner' : Owner) → AreOwners (graph_by original v) v.code l found owner → AreOwners (graph_by original v') v'.code l' found owner' → owner ≡ owner'
  owner_is found owner owner' h h' =
      let program = subst IsProgram (sym other.code_is.graph_is) other.code_is.flow.program in
      let accepted = subst (λ (g : Graph). AreAccepted g l' (noted_loops notes).inside) (sym other.code_is.graph_is) other.tree_is.tree.accepted in
      owners_same (graph_by original v') v'.code l' (noted_loops notes).inside program accepted found owner owner' (owners_there found owner h) h'

  -- no counter that counts a loop is bad
  pub counter_clash : FoundAgree → (found : Found) (owner : Owner) (c : ℕ) → IsScanned original foreign v.code l found → AreOwners (graph_by original v) v.code l found owner → CountsNoLoop original foreign v' tree' c → ⊥
  counter_clash agree found owner c s h bad =
      let there = owners_there bad.found owner (subst (λ f. AreOwners (graph_by original v) v.code l f owner) (found_is agree found bad.found s bad.scanned) h) in
      let o = there.used c bad.bad.0.0 in
      bad.bad.0.1 o.0 o.2

  -- a bad counter of the one is one of the other
  pub bad_to : (found : Found) (c : ℕ) → IsBadCounter (graph_by original v) v.code l found c → IsBadCounter (graph_by original v') v'.code l' found c
  bad_to found c bad = (
    used_to original foreign v.code v'.code found c lists bad.0,
    λ k counts. bad.1 k (counter_to original foreign v'.code v.code l found c k (turned v.code v'.code lists) (subst (λ x. IsCounterOf (graph_by original v') v'.code x found c k) (sym loops_same) counts)),
  )

  -- ---- numbers

  pub numbers_are : (w w' : ℕ → ℕ) (n n' : Numbers) → w ≡ w' → AreNumbers (graph_by original v) l w n → AreNumbers (graph_by original v') l' w' n' → AreAlikeNumbers v v' tree tree' same w n n'
  numbers_are w w' n n' e h h' =
      numbers_alike v v' notes tree tree' w n n' same one.code_is.flow one.tree_is other.tree_is
      (subst (λ (g : Graph). AreNumbers g l w n) one.code_is.graph_is h)
      (subst (λ (x : ℕ → ℕ). AreNumbers (graph v') l' x n') (sym e) (subst (λ (g : Graph). AreNumbers g l' w' n') other.code_is.graph_is h'))

  pub charged_are : (w w' : ℕ → ℕ) (n n' : Charged) → w ≡ w' → AreWeights (graph_by original v) w → AreCharged (graph_by original v) l w n → AreCharged (graph_by original v') l' w' n' → AreAlikeCharged v v' tree tree' n n'
  charged_are w w' n n' e are h h' =
      charged_alike t v v' notes tree tree' w n n' one.code_is same one.tree_is other.tree_is
      (subst (λ (g : Graph). AreWeights g w) one.code_is.graph_is are)
      (subst (λ (g : Graph). AreCharged g l w n) one.code_is.graph_is h)
      (subst (λ (x : ℕ → ℕ). AreCharged (graph v') l' x n') (sym e) (subst (λ (g : Graph). AreCharged g l' w' n') other.code_is.graph_is h'))

  -- what two checks know behind the scan, and that it is the same
  pub record IsCountedAlike (found found' : Found) (owner owner' : Owner) (n n' : Numbers) : Type 0 where
    pub found_is_same : found ≡ found'
    pub owner_is_same : owner ≡ owner'
    pub weights_are : weights_with power original foreign v tree owner found ≡ weights_with power original foreign v' tree' owner' found'
    pub alike : AreAlikeNumbers v v' tree tree' same (weights_with power original foreign v tree owner found) n n'

  pub counted_alike : FoundAgree → (found found' : Found) (owner owner' : Owner) (n n' : Numbers) → IsCounted power original foreign v tree found owner n → IsCounted power original foreign v' tree' found' owner' n' → IsCountedAlike found found' owner owner' n n'
  counted_alike agree found found' owner owner' n n' h h' =
      let a = found_is agree found found' h.scanned h'.scanned in
      let b = owner_is found' owner owner' (subst (λ f. AreOwners (graph_by original v) v.code l f owner) a h.owners) h'.owners in
      let w : weights_with power original foreign v tree owner found ≡ weights_with power original foreign v' tree' owner' found' =
      with_same owner found ∙ (ap {B = ℕ → ℕ} (λ f. weights_with power original foreign v' tree' owner f) a ∙ ap {B = ℕ → ℕ} (λ o. weights_with power original foreign v' tree' o found') b) in
      record {
        found_is_same = a;
        owner_is_same = b;
        weights_are = w;
        alike = numbers_are (weights_with power original foreign v tree owner found) (weights_with power original foreign v' tree' owner' found') n n' w h.numbers h'.numbers;
      }
