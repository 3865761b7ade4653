-- The first entry that is not safe, of the edges of a node and of all.
use Rattle.std.proofs.Common.{◌≡◌, ⊎_elim, ℕ, ◌+◌, ◌*◌, ◌<◌, ◌≤◌, ◌↔◌, Bool, true, false, List, [], ◌∷◌, length, Option, Some, None, refl, sym, ap, ◌∙◌, subst, arith}
use Rattle.std.specs.Prelude.{slice_get, slice_index}
use Rattle.std.proofs.lemmas.Bool.{cases_lt}
use Rattle.std.proofs.lemmas.Option.{same_Some, slice_get_within, get_or_from_slice_get}
use Rattle.scale_base.specs.Image.{Image, loaded_byte}
use Rattle.scale_base.specs.State.{word_at}
use Rattle.scale_base.specs.declared.edges.Edge.{Edge}
use Rattle.scale_base.specs.declared.edges.EdgeKind.{EdgeKind}
use Rattle.scale_base.specs.declared.edges.EdgeKind.TheVariants.{Taken, Untaken, Jump, Next, CallNext, End}
use Rattle.power_model.specs.Numbers.{PowerModel}
use Rattle.power_model.specs.Switches.{costs_of}
use Rattle.cost_theory.specs.Graph.{Loops}
use Rattle.cost_theory.specs.Worst.{Numbers}
use Rattle.cost_theory.proofs.Laws.{some_get}
use Rattle.cost_theory.specs.Reached.{edge_at}
use Rattle.cycle_laws.specs.Charged.{Charged}
use Rattle.flow_graph.specs.FlowGraph.{graph, IsFlowGraph}
use Rattle.loop_forest.specs.Tree.{loops}
use Rattle.loop_forest.proofs.Laws.{source_number}
use Rattle.level_tables.specs.Tables.{at_row}
use Rattle.level_tables.specs.declared.edge_numbers.EdgeNumbers.{EdgeNumbers}
use Rattle.stored_runs.specs.Meaning.{four_bits}
use Rattle.stored_runs.specs.Marks.{tail_cycles}
use Rattle.paid_runs.specs.Tabled.{told_on, IsSafeEntry}
use Rattle.foreign_scan.specs.declared.fragment.ForeignFragment.{ForeignFragment}
use Rattle.foreign_scan.specs.declared.fragment.ForeignFragment.TheVariants.{Switch, Exit, Reset, Count}
use Rattle.foreign_scan.specs.Scanned.{Found, kind_place}
use Rattle.image_check.specs.Safe.{Owner, all_with_rows, AreSafeWords, AreSafeOn}
use Rattle.image_check.specs.Causes.{IsBadEntry, HasBadEntry, IsBadLevel, IsFirstBadLevel}
use Rattle.image_check.specs.Known.{owner_by, IsLevelsAnswer}
use Rattle.image_check.specs.Entries.{is_safe, IsLeastIn}
use Rattle.image_check.specs.Levels.{IsBadAt, is_taken_edge, IsSortAt, IsSortLevelBy, IsNodeLevelBy, IsBothLevelBy}
use Rattle.image_check.specs.declared.levels.Known.{Known}
use Rattle.image_check.proofs.EntryLaws.{safe_to, bad_entry}

-- ---- entries of which none is bad

safe_entry : (power : PowerModel) (told : EdgeNumbers) (word i : ℕ) → i < length power.levels → (IsBadEntry power told word i → ⊥) → IsSafeEntry power told i (four_bits word i)
safe_entry power told word i lt fine = by_test (is_safe power told i (four_bits word i)) refl
  where
    by_test : (b : Bool) → is_safe power told i (four_bits word i) ≡ b → IsSafeEntry power told i (four_bits word i)
    by_test true e = safe_to power told i (four_bits word i) e
    by_test false e = absurd (fine (bad_entry power told word i (four_bits word i) lt refl e))

safe_words : (power : PowerModel) (image : Image) (l : Loops) (owner : Owner) (n : Numbers) (told : EdgeNumbers) (fs : List ForeignFragment) → ((i : ℕ) → HasBadEntry power image l owner n told fs i → ⊥) → AreSafeWords power image l owner n told fs
safe_words power image l owner n told [] fine = tt
safe_words power image l owner n told (Switch word ∷ fs) fine = λ i lt. safe_entry power told word i lt (fine i)
safe_words power image l owner n told (Exit counter shift table ∷ fs) fine =
    λ k own j le i lt. safe_entry power (at_row (l.bound k) (n.iteration k) shift told j) (word_at (loaded_byte image) (table + 4 * j)) i lt (λ bad. fine i (k, own, (j, le, bad)))
safe_words power image l owner n told (Reset counter ∷ fs) fine = tt
safe_words power image l owner n told (Count counter ∷ fs) fine = tt

-- ---- kinds

taken_place : (k : EdgeKind) → is_taken_edge k ≡ true → kind_place k ≡ 1
taken_place Taken e = refl
taken_place Untaken e = let bad : ⊥ = cc in absurd bad
taken_place Jump e = let bad : ⊥ = cc in absurd bad
taken_place Next e = let bad : ⊥ = cc in absurd bad
taken_place CallNext e = let bad : ⊥ = cc in absurd bad
taken_place End e = let bad : ⊥ = cc in absurd bad

other_place : (k : EdgeKind) → is_taken_edge k ≡ false → kind_place k ≡ 0
other_place Taken e = let bad : ⊥ = cc in absurd bad
other_place Untaken e = refl
other_place Jump e = refl
other_place Next e = refl
other_place CallNext e = refl
other_place End e = refl

first_place : (k : EdgeKind) → kind_place k < 1 → is_taken_edge k ≡ false
first_place Taken lt = absurd (let no : ⊥ = omega (arith, lt) in no)
first_place Untaken lt = refl
first_place Jump lt = refl
first_place Next lt = refl
first_place CallNext lt = refl
first_place End lt = refl

module _ (x : Known) (foreign : Image) (found : Found) (w : ℕ → ℕ) (n : Numbers) (least : Charged) where
  abbrev l : Loops
  l = loops x.graph.now x.tree.now

  abbrev owner : Owner
  owner = owner_by x.owners.now

  -- none of the edges of the first nodes
  abbrev pub NoneBelow : ℕ → Type 0
  NoneBelow k = (m d i : ℕ) (edge : Edge) → m < k → slice_get x.graph.now.code.edges d ≡ Some edge → edge.at ≡ slice_index x.graph.now.code.nodes m → IsBadAt x foreign found w n least d i → ⊥

  pub none_more : (k : ℕ) → NoneBelow k → IsNodeLevelBy x k false foreign found w n least None → IsNodeLevelBy x k true foreign found w n least None → NoneBelow (k + 1)
  none_more k below none_other none_taken m d i edge lt there at bad = ⊎_elim
      (λ low. below m d i edge low there at bad)
      (λ high. let same : m ≡ k = omega (arith, lt, high) in by_kind (is_taken_edge edge.kind) refl (at ∙ ap (slice_index x.graph.now.code.nodes) same))
      (cases_lt m k)
    where
      by_kind : (b : Bool) → is_taken_edge edge.kind ≡ b → edge.at ≡ slice_index x.graph.now.code.nodes k → ⊥
      by_kind true e here = none_taken d i edge (there, here, e) bad
      by_kind false e here = none_other d i edge (there, here, e) bad

  -- the number of the node at which an edge starts
  node_of : IsFlowGraph x.graph.now → (d : ℕ) (edge : Edge) → slice_get x.graph.now.code.edges d ≡ Some edge → (m : ℕ) × (slice_get x.graph.now.code.nodes m ≡ Some edge.at)
  node_of flow d edge there =
      let h = source_number x.graph.now flow d (slice_get_within x.graph.now.code.edges d edge there) in
      (h.0, h.1 ∙ ap (λ o. Some (edge_at o)) there)

  -- the first one is on an edge of node k
  pub first_is : IsFlowGraph x.graph.now → (k at level : ℕ) (taken : Bool) → slice_get x.graph.now.code.nodes k ≡ Some at → NoneBelow k → (taken ≡ true → IsNodeLevelBy x k false foreign found w n least None) → IsNodeLevelBy x k taken foreign found w n least (Some level)
      → IsFirstBadLevel x.power.now foreign (graph x.graph.now) x.graph.now.code (loops x.graph.now x.tree.now) (owner_by x.owners.now) w n least found at level
  first_is flow k at level taken node below none_other (e, edge, (there, starts, kind), (bad, lower)) =
      let k_at : slice_index x.graph.now.code.nodes k ≡ at = get_or_from_slice_get x.graph.now.code.nodes k at 0 node in
      let same : bad.0 ≡ edge = same_Some bad.0 edge (sym bad.1 ∙ there) in
      record {
        number = e;
        edge = edge;
        there = there;
        starts = starts ∙ k_at;
        bad = subst (λ y. IsBadLevel x.power.now foreign (graph x.graph.now) (loops x.graph.now x.tree.now) (owner_by x.owners.now) w n least found e y level) same bad.2;
        first = λ d j other there_d bad_d before. ⊎_elim
            (λ (less : other.at < edge.at).
            let m = node_of flow d other there_d in
            let ml : m.0 < length x.graph.now.code.nodes = slice_get_within x.graph.now.code.nodes m.0 other.at m.1 in
            let lower_node : m.0 < k = ⊎_elim (λ low. low)
            (λ (high : k ≤ m.0). ⊎_elim
            (λ (over : k < m.0). let rises : at < other.at = flow.ascending k m.0 at other.at over node m.1 in absurd (let no : ⊥ = (let e_at : edge.at ≡ at = starts ∙ k_at in omega (arith, rises, less, e_at)) in no))
            (λ (under : m.0 ≤ k). let one : m.0 ≡ k = omega (arith, high, under) in
            let both : other.at ≡ at = same_Some other.at at (sym m.1 ∙ (ap (slice_get x.graph.now.code.nodes) one ∙ node)) in absurd (let no : ⊥ = (let e_at : edge.at ≡ at = starts ∙ k_at in omega (arith, both, less, e_at)) in no))
            (cases_lt k m.0))
            (cases_lt m.0 k) in
            below m.0 d j other lower_node there_d (sym (get_or_from_slice_get x.graph.now.code.nodes m.0 other.at 0 m.1)) (other, there_d, bad_d))
            (λ both. by_sort d j other there_d bad_d both.0 both.1 taken refl) before;
        lowest = λ j lt bad_j. lower j lt (edge, there, bad_j);
      }
    where
      by_sort : (d j : ℕ) (other : Edge) → slice_get x.graph.now.code.edges d ≡ Some other → IsBadLevel x.power.now foreign (graph x.graph.now) (loops x.graph.now x.tree.now) (owner_by x.owners.now) w n least found d other j
          → other.at ≡ edge.at → kind_place other.kind < kind_place edge.kind → (b : Bool) → taken ≡ b → ⊥
      by_sort d j other there_d bad_d same less true is =
          let one : kind_place edge.kind ≡ 1 = taken_place edge.kind (kind ∙ is) in
          none_other is d j other (there_d, same ∙ starts, first_place other.kind (omega (arith, less, one))) (other, there_d, bad_d)
      by_sort d j other there_d bad_d same less false is =
          let none : kind_place edge.kind ≡ 0 = other_place edge.kind (kind ∙ is) in
          omega (arith, less, none)

  -- none at all
  pub all_safe : IsFlowGraph x.graph.now → NoneBelow (length x.graph.now.code.nodes) → IsLevelsAnswer x.power.now foreign x.graph.now (loops x.graph.now x.tree.now) (owner_by x.owners.now) w n least found None
  all_safe flow none = λ e lt. let edge = some_get x.graph.now.code.edges e lt in
      subst (AreSafeOn x.power.now foreign (graph x.graph.now) (loops x.graph.now x.tree.now) (owner_by x.owners.now) w n least found e) (sym edge.1) (on_edge_safe e edge.0 edge.1)
    where
      on_edge_safe : (e : ℕ) (edge : Edge) → slice_get x.graph.now.code.edges e ≡ Some edge → AreSafeOn x.power.now foreign (graph x.graph.now) (loops x.graph.now x.tree.now) (owner_by x.owners.now) w n least found e (Some edge)
      on_edge_safe e edge there = λ to leads.
          safe_words x.power.now foreign (loops x.graph.now x.tree.now) (owner_by x.owners.now) n
          (told_on (graph x.graph.now) (loops x.graph.now x.tree.now) w n least e (tail_cycles (costs_of x.power.now) (all_with_rows foreign (loops x.graph.now x.tree.now) (owner_by x.owners.now) (found edge.at edge.kind))))
          (found edge.at edge.kind) (λ i bad.
          let m = node_of flow e edge there in
          none m.0 e i edge (slice_get_within x.graph.now.code.nodes m.0 edge.at m.1) there (sym (get_or_from_slice_get x.graph.now.code.nodes m.0 edge.at 0 m.1)) (edge, there, (to, leads, bad)))

-- ---- the edges of a node

module _ (x : Known) (k first end : ℕ) (own : (e : ℕ) → e < length x.graph.now.code.edges → (edge_at (slice_get x.graph.now.code.edges e) ≡ slice_index x.graph.now.code.nodes k) ↔ ((first ≤ e) × (e < end))) where
  pub own_at : (e : ℕ) (edge : Edge) → slice_get x.graph.now.code.edges e ≡ Some edge → first ≤ e → e < end → edge.at ≡ slice_index x.graph.now.code.nodes k
  own_at e edge there low high = sym (ap edge_at there) ∙ (own e (slice_get_within x.graph.now.code.edges e edge there)).1 (low, high)

pub sort_own : (x : Known) (k : ℕ) (taken : Bool) (first end : ℕ) → ((e : ℕ) → e < length x.graph.now.code.edges → (edge_at (slice_get x.graph.now.code.edges e) ≡ slice_index x.graph.now.code.nodes k) ↔ ((first ≤ e) × (e < end)))
    → (d : ℕ) (edge : Edge) → IsSortAt x k taken d edge → (first ≤ d) × (d < end)
sort_own x k taken first end own d edge sort = (own d (slice_get_within x.graph.now.code.edges d edge sort.0)).0 (ap edge_at sort.0 ∙ sort.1)

module _ (x : Known) (foreign : Image) (found : Found) (w : ℕ → ℕ) (n : Numbers) (least : Charged) where
  pub both_of : (k : ℕ) (level : Option ℕ) → IsNodeLevelBy x k false foreign found w n least None → IsNodeLevelBy x k true foreign found w n least level → IsBothLevelBy x k foreign found w n least level
  both_of k None none taken = (none, taken)
  both_of k (Some i) none taken = (true, λ e. none, taken)

  pub sort_of : (e : ℕ) (edge : Edge) (taken : Bool) (level : Option ℕ) → slice_get x.graph.now.code.edges e ≡ Some edge → is_taken_edge edge.kind ≡ taken → IsLeastIn (IsBadAt x foreign found w n least e) level → IsSortLevelBy x taken e foreign found w n least level
  sort_of e edge taken None there kind none = λ i other at is bad. none i bad
  sort_of e edge taken (Some i) there kind h = (edge, there, kind, h)

  pub other_sort : (e : ℕ) (edge : Edge) (taken : Bool) → slice_get x.graph.now.code.edges e ≡ Some edge → (is_taken_edge edge.kind ≡ taken → ⊥) → IsSortLevelBy x taken e foreign found w n least None
  other_sort e edge taken there other = λ i d at is bad. other (ap (λ (y : Edge). is_taken_edge y.kind) (same_Some edge d (sym there ∙ at)) ∙ is)
