-- Where an image is safe, no entry of its tables is bad, and its numbers are determined.
use Rattle.std.proofs.Common.{◌≡◌, ℕ, ◌+◌, ◌*◌, ◌<◌, List, [], ◌∷◌, sym, ap, ◌∙◌, subst, slice_get, Some}
use Rattle.std.specs.Prelude.{option_map, is_some}
use Rattle.std.proofs.lemmas.Option.{slice_get_within}
use Rattle.scale_base.specs.declared.edges.Edge.{Edge}
use Rattle.scale_base.specs.declared.verdict.Checked.{Checked}
use Rattle.scale_base.specs.declared.verdict.Verdict.{Verdict}
use Rattle.scale_base.specs.Image.{Image, loaded_byte}
use Rattle.scale_base.specs.State.{word_at}
use Rattle.power_model.specs.Numbers.{PowerModel}
use Rattle.power_model.specs.Price.{time_at}
use Rattle.power_model.specs.Switches.{costs_of}
use Rattle.cost_theory.specs.Graph.{Graph, Loops, only}
use Rattle.cost_theory.specs.Reached.{edge_to}
use Rattle.cost_theory.specs.Worst.{Numbers, cost, slack, rest}
use Rattle.cycle_laws.specs.Charged.{Charged, to_end_after}
use Rattle.code_text.specs.Text.{Text, text_of}
use Rattle.flow_graph.specs.FlowGraph.{FlowGraph, graph}
use Rattle.loop_file.specs.declared.notes.LoopNote.{LoopNote}
use Rattle.loop_file.specs.Kept.{noted_loops}
use Rattle.loop_forest.specs.Tree.{LoopView, loops}
use Rattle.answer_laws.specs.Alike.{AreAlikeNumbers, AreAlikeCharged}
use Rattle.level_tables.specs.Tables.{at_row}
use Rattle.level_tables.specs.declared.edge_numbers.EdgeNumbers.{EdgeNumbers}
use Rattle.stored_runs.specs.Meaning.{four_bits}
use Rattle.stored_runs.specs.Marks.{tail_cycles}
use Rattle.paid_runs.specs.Marked.{extra_site_weights}
use Rattle.paid_runs.specs.Tabled.{told_on, IsSafeEntry}
use Rattle.foreign_scan.specs.declared.fragment.ForeignFragment.{ForeignFragment}
use Rattle.foreign_scan.specs.declared.fragment.ForeignFragment.TheVariants.{Switch, Exit, Reset, Count}
use Rattle.foreign_scan.specs.Agree.{FoundAgree}
use Rattle.foreign_scan.specs.Scanned.{Found}
use Rattle.rewritten_runs.proofs.Laws.{program_of}
use Rattle.image_check.specs.Safe.{Owner, all_with_rows, sites_of, AreSafeWords, AreSafeOn}
use Rattle.image_check.specs.Causes.{HasBadEntry}
use Rattle.image_check.specs.Checked.{graph_by, weights_with, key_level, IsCounted, IsMisled, IsPassed}
use Rattle.image_check.proofs.Owning.{counter_for}
use Rattle.image_check.proofs.StoredLevels.{same_numbers}
use Rattle.image_check.proofs.AgreeCounted as counted
use Rattle.image_check.proofs.AgreeCounted.{IsListed}
use Rattle.image_check.proofs.AgreeStages as stages

-- a table of safe words has no bad entry
safe_not_bad : (power : PowerModel) (image : Image) (l : Loops) (owner : Owner) (n n' : Numbers) (told told' : EdgeNumbers) → told ≡ told' → ((c k : ℕ) → owner c ≡ Some k → n.iteration k ≡ n'.iteration k)
    → (fs : List ForeignFragment) (i : ℕ) → AreSafeWords power image l owner n told fs → HasBadEntry power image l owner n' told' fs i → ⊥
safe_not_bad power image l owner n n' told told' same iterations [] i safe bad = bad
safe_not_bad power image l owner n n' told told' same iterations (Switch word ∷ fs) i safe bad = bad.1 (subst (λ x. IsSafeEntry power x i (four_bits word i)) same (safe i bad.0))
safe_not_bad power image l owner n n' told told' same iterations (Exit counter shift table ∷ fs) i safe bad =
    let k = bad.0 in
    let j = bad.2.0 in
    let entry = bad.2.2 in
    let row : at_row (l.bound k) (n.iteration k) shift told j ≡ at_row (l.bound k) (n'.iteration k) shift told' j =
    ap (λ x. at_row (l.bound k) x shift told j) (iterations counter k bad.1) ∙ ap (λ x. at_row (l.bound k) (n'.iteration k) shift x j) same in
    entry.1 (subst (λ x. IsSafeEntry power x i (four_bits (word_at (loaded_byte image) (table + 4 * j)) i)) row (safe k bad.1 j bad.2.1 i entry.0))
safe_not_bad power image l owner n n' told told' same iterations (Reset counter ∷ fs) i safe bad = bad
safe_not_bad power image l owner n n' told told' same iterations (Count counter ∷ fs) i safe bad = bad

module _ (power : PowerModel) (original foreign : Image) (notes : List LoopNote) (found_agree : FoundAgree) (v v' : FlowGraph) (tree tree' : LoopView) (one : IsListed original notes v tree) (other : IsListed original notes v' tree') where
  abbrev t : Text
  t = text_of original

  abbrev l : Loops
  l = loops v tree

  abbrev l' : Loops
  l' = loops v' tree'

  abbrev g : Graph
  g = graph_by original v

  abbrev g' : Graph
  g' = graph_by original v'

  -- what an edge tells its table is the same
  pub told_alike : (w w' : ℕ → ℕ) (n n' : Numbers) (least least' : Charged) → w ≡ w' → AreAlikeNumbers v v' tree tree' (counted.same power original foreign notes v v' tree tree' one other) w n n' → AreAlikeCharged v v' tree tree' least least'
      → (e to tail : ℕ) → g.target e ≡ Some to → g'.target e ≡ Some to → told_on g l w n least e tail ≡ told_on g' l' w' n' least' e tail
  told_alike w w' n n' least least' same numbers charged e to tail leads leads' =
      let slacks : slack g l n (cost g n w) e ≡ slack g' l' n' (cost g' n' w') e =
      ap (λ q. slack q l n (cost q n w) e) one.code_is.graph_is
      ∙ (sym (ap (λ o. only (is_some o) (slack (graph v) l n (cost (graph v) n w) e)) leads)
      ∙ (numbers.slack e
      ∙ (ap (λ o. only (is_some o) (slack (graph v') l' n' (cost (graph v') n' w) e)) leads'
      ∙ (ap (λ q. slack q l' n' (cost q n' w) e) (sym other.code_is.graph_is) ∙ ap (λ (x : ℕ → ℕ). slack g' l' n' (cost g' n' x) e) same)))) in
      let rests : rest g l n e ≡ rest g' l' n' e =
      ap (λ q. rest q l n e) one.code_is.graph_is
      ∙ (sym (ap (λ o. only (is_some o) (rest (graph v) l n e)) leads)
      ∙ (numbers.rest e ∙ (ap (λ o. only (is_some o) (rest (graph v') l' n' e)) leads' ∙ ap (λ q. rest q l' n' e) (sym other.code_is.graph_is)))) in
      let ends : to_end_after g l least e ≡ to_end_after g' l' least' e =
      ap (λ q. to_end_after q l least e) one.code_is.graph_is ∙ (charged.after e ∙ ap (λ q. to_end_after q l' least' e) (sym other.code_is.graph_is)) in
      same_numbers (told_on g l w n least e tail) (told_on g' l' w' n' least' e tail) slacks (ap (λ x. x + tail) rests) (ap (option_map (λ z. z + tail)) ends)

  module _ (verdict : Verdict) (h : stages.HasPassed power original foreign notes v tree verdict) where
    abbrev pub p : IsPassed power original foreign notes v tree h.checked
    p = h.passed

    own : IsCounted power original foreign v tree p.found p.owner p.n
    own = record { scanned = p.safe.scanned; owners = p.safe.owners; numbers = p.safe.analyzed.numbers }

    alike : (found' : Found) (owner' : Owner) (n' : Numbers) → IsCounted power original foreign v' tree' found' owner' n' → counted.IsCountedAlike power original foreign notes v v' tree tree' one other p.found found' p.owner owner' p.n n'
    alike found' owner' n' c = counted.counted_alike power original foreign notes v v' tree tree' one other found_agree p.found found' p.owner owner' p.n n' own c

    pub level_clash : (at from : ℕ) → IsMisled power original foreign v' tree' at from → ⊥
    level_clash at from m =
        let a = alike m.found m.owner m.n m.level.counted in
        let charged = counted.charged_are power original foreign notes v v' tree tree' one other (weights_with power original foreign v tree p.owner p.found) (weights_with power original foreign v' tree' m.owner m.found) p.least m.least a.weights_are p.safe.analyzed.weights p.safe.least_is m.least_is in
        let lists = counted.lists power original foreign notes v v' tree tree' one other in
        let b = m.bad in
        let e = b.number in
        let edge = b.edge in
        let there : slice_get v.code.edges e ≡ Some edge = ap (λ (es : List Edge). slice_get es e) lists.edges ∙ b.there in
        let leads : g.target e ≡ Some b.bad.0 = ap edge_to there ∙ (sym (ap edge_to b.there) ∙ b.bad.1) in
        let fs = p.found edge.at edge.kind in
        let tail = tail_cycles (costs_of power) (all_with_rows foreign l p.owner fs) in
        let told = told_on g l (weights_with power original foreign v tree p.owner p.found) p.n p.least e tail in
        let told_there : ℕ → EdgeNumbers = λ x. told_on g' l' (weights_with power original foreign v' tree' m.owner m.found) m.n m.least e x in
        let same = told_alike (weights_with power original foreign v tree p.owner p.found) (weights_with power original foreign v' tree' m.owner m.found) p.n m.n p.least m.least a.weights_are a.alike charged e b.bad.0 tail leads b.bad.1 in
        let safe : AreSafeWords power foreign l p.owner p.n told fs =
        subst (AreSafeOn power foreign g l p.owner (weights_with power original foreign v tree p.owner p.found) p.n p.least p.found e) there (p.safe.levels e (slice_get_within v.code.edges e edge there)) b.bad.0 leads in
        let first = subst (λ (f : Found). HasBadEntry power foreign l' m.owner m.n (told_there (tail_cycles (costs_of power) (all_with_rows foreign l' m.owner (f edge.at edge.kind)))) (f edge.at edge.kind) from) (sym a.found_is_same) b.bad.2 in
        let second = subst (λ (o : Owner). HasBadEntry power foreign l' o m.n (told_there (tail_cycles (costs_of power) (all_with_rows foreign l' o fs))) fs from) (sym a.owner_is_same) first in
        let bad = subst (λ (ls : Loops). HasBadEntry power foreign ls p.owner m.n (told_there (tail_cycles (costs_of power) (all_with_rows foreign ls p.owner fs))) fs from) (sym (counted.loops_same power original foreign notes v v' tree tree' one other)) second in
        safe_not_bad power foreign l p.owner p.n m.n told (told_there tail) same (λ c k owns. a.alike.iteration k (low c k owns)) fs from safe bad
      where
        low : (c k : ℕ) → p.owner c ≡ Some k → k < l.loops
        low c k owns = (counter_for original foreign v.code l (noted_loops notes).inside p.owner p.found (program_of t v notes tree one.code_is one.tree_is) p.safe.scanned p.safe.owners c k owns).low

    -- the numbers of two passed images are the same
    pub passed_same : (checked' : Checked) → IsPassed power original foreign notes v' tree' checked' → checked' ≡ h.checked
    passed_same checked' p' =
        let c' : IsCounted power original foreign v' tree' p'.found p'.owner p'.n = record { scanned = p'.safe.scanned; owners = p'.safe.owners; numbers = p'.safe.analyzed.numbers } in
        let a = alike p'.found p'.owner p'.n c' in
        let worst = a.alike.whole in
        let extra = extra_site_weights t v'.code (costs_of power) in
        let weights = counted.extra_same power original foreign notes v v' tree tree' one other (costs_of power) p.owner p.found
        ∙ (ap {B = ℕ → ℕ} (λ (f : Found). extra (sites_of original foreign v'.code l' p.owner f)) a.found_is_same ∙ ap {B = ℕ → ℕ} (λ (o : Owner). extra (sites_of original foreign v'.code l' o p'.found)) a.owner_is_same) in
        let more = (counted.numbers_are power original foreign notes v v' tree tree' one other (extra_site_weights t v.code (costs_of power) (sites_of original foreign v.code l p.owner p.found)) (extra (sites_of original foreign v'.code l' p'.owner p'.found)) p.more p'.more weights p.safe.added.numbers p'.safe.added.numbers).whole in
        let start : checked'.start ≡ h.checked.start = p'.start ∙ sym p.start in
        let worst_same : checked'.worst ≡ h.checked.worst = p'.worst ∙ (sym worst ∙ sym p.worst) in
        let time : checked'.time ≡ h.checked.time = p'.time ∙ (ap (time_at power (key_level power foreign)) (sym worst) ∙ sym p.time) in
        let deadline : checked'.deadline ≡ h.checked.deadline = p'.deadline ∙ sym p.deadline in
        let stub_cycles : checked'.stub_cycles ≡ h.checked.stub_cycles = p'.stub_cycles ∙ (sym more ∙ sym p.stub_cycles) in
        same_checked checked' h.checked start worst_same time deadline stub_cycles
      where
        same_checked : (a b : Checked) → a.start ≡ b.start → a.worst ≡ b.worst → a.time ≡ b.time → a.deadline ≡ b.deadline → a.stub_cycles ≡ b.stub_cycles → a ≡ b
        same_checked a b s w x d c =
            ap (λ y. record a { start = y }) s ∙ (ap (λ y. record a { start = b.start; worst = y }) w ∙ (ap (λ y. record a { start = b.start; worst = b.worst; time = y }) x
            ∙ (ap (λ y. record a { start = b.start; worst = b.worst; time = b.time; deadline = y }) d ∙ ap (λ y. record a { start = b.start; worst = b.worst; time = b.time; deadline = b.deadline; stub_cycles = y }) c)))
