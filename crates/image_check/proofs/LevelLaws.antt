-- What edges tell their tables, and which of their entries are not safe.
use Rattle.std.proofs.Common.{◌≡◌, ℕ, ◌+◌, ◌*◌, ◌/◌, ◌%◌, ◌^◌, ◌<◌, ◌≤◌, true, List, [], ◌∷◌, length, Option, Some, None, refl, sym, ap, ◌∙◌, subst, arith}
use Rattle.std.specs.Prelude.{◌==◌, slice_get, option_map, is_some}
use Rattle.std.specs.List.{sum_by}
use Rattle.std.proofs.lemmas.Bool.{cond-true, eq-eqb}
use Rattle.std.proofs.lemmas.Bool.Decides.{nat_tests}
use Rattle.std.proofs.lemmas.List.{length-map}
use Rattle.std.proofs.lemmas.List.Sums.{sum_by-cons}
use Rattle.std.proofs.lemmas.Option.{same_Some}
use Rattle.scale_base.specs.Image.{Image, loaded_byte}
use Rattle.scale_base.specs.Layout.{layout_of, is_keyed, in_option}
use Rattle.scale_base.specs.State.{word_at}
use Rattle.scale_base.specs.declared.ranges.Keyed.{Keyed}
use Rattle.power_model.specs.declared.power.Costs.{Costs}
use Rattle.power_model.specs.Price.{cycles_of}
use Rattle.power_model.specs.Switches.{costs_of}
use Rattle.scale_sites.specs.Weights.{mark_tail}
use Rattle.stored_runs.specs.Cycles.{fragment_cost, fragment_tail}
use Rattle.cost_theory.specs.Graph.{Graph, Loops, only}
use Rattle.cost_theory.specs.Accepted.{HasNoRecursion, AreAccepted, HaveWholeExtents}
use Rattle.cost_theory.specs.Worst.{Numbers, cost, slack, rest}
use Rattle.cost_theory.proofs.Laws.{some_get}
use Rattle.cycle_laws.specs.Charged.{Charged, to_end_after}
use Rattle.code_text.specs.Text.{text_of}
use Rattle.code_text.specs.TextGraph.{text_graph}
use Rattle.graph_runs.specs.Laws.{IsProgramOf}
use Rattle.flow_graph.specs.FlowGraph.{FlowGraph, graph}
use Rattle.loop_forest.specs.Noted.{node_address}
use Rattle.loop_forest.specs.Tree.{loops}
use Rattle.worst_cycles.specs.Worst.{slack_at, rest_at}
use Rattle.level_tables.specs.Tables.{at_row}
use Rattle.level_tables.specs.declared.edge_numbers.EdgeNumbers.{EdgeNumbers}
use Rattle.stored_runs.specs.Marks.{tail_cycles}
use Rattle.paid_runs.specs.Tabled.{told_on}
use Rattle.flat_memory.specs.Lists.{list_bytes}
use Rattle.foreign_scan.specs.declared.fragment.ForeignFragment.{ForeignFragment}
use Rattle.foreign_scan.specs.declared.fragment.ForeignFragment.TheVariants.{Switch, Exit, Reset, Count}
use Rattle.foreign_scan.specs.Form.{ChoosesNone, AreRowsIn}
use Rattle.foreign_scan.specs.Scanned.{Found}
use Rattle.image_check.specs.Safe.{Owner, owner_bound, with_rows, all_with_rows, clears_it, clears_on, AreOwners}
use Rattle.image_check.specs.Causes.{IsBadEntry, HasBadEntry}
use Rattle.image_check.specs.Known.{owner_by, IsFoundIn}
use Rattle.image_check.specs.Uses.{on_edge}
use Rattle.image_check.specs.Weights.{foreign_cost, mark_of}
use Rattle.image_check.specs.LastRows.{first_of_key, count_of_key}
use Rattle.image_check.specs.Entries.{IsLeastIn, IsWordLevel, HasBadRow, IsTableLevel, AreRowsAmong}
use Rattle.image_check.specs.Levels.{IsTailOf, AreKnownBy, IsBadAt}
use Rattle.image_check.specs.declared.levels.Known.{Known}
use Rattle.image_check.proofs.Extras.{all_alike}
use Rattle.image_check.proofs.FoundFacts.{on_edge_is}
use Rattle.image_check.proofs.Rows.{rows}

-- ---- the least of the same

pub least_same : (P Q : ℕ → Type 0) (o : Option ℕ) → ((i : ℕ) → P i → Q i) → ((i : ℕ) → Q i → P i) → IsLeastIn P o → IsLeastIn Q o
least_same P Q None to from none = λ i q. none i (from i q)
least_same P Q (Some i) to from least = (to i least.0, λ j lt q. least.1 j lt (from j q))

pub told_same : (a b : EdgeNumbers) → a.slack ≡ b.slack → a.left ≡ b.left → a.least ≡ b.least → a ≡ b
told_same a b p q r =
    ap (λ (x : ℕ). let n : EdgeNumbers = record { slack = x; left = a.left; least = a.least } in n) p
    ∙ (ap (λ (x : ℕ). let n : EdgeNumbers = record { slack = b.slack; left = x; least = a.least } in n) q
    ∙ ap (λ (x : Option ℕ). let n : EdgeNumbers = record { slack = b.slack; left = b.left; least = x } in n) r)

-- ---- the cycles behind a store

pub tail_none : (costs : Costs) (fs : List ForeignFragment) → fs ≡ [] → IsTailOf costs fs 0
tail_none costs fs e = λ image l owner. sym (ap (λ (xs : List ForeignFragment). tail_cycles (cycles_of costs) (all_with_rows image l owner xs)) e)

-- Behind the store of a fragment are two loads.
two_loads : (costs : Costs) (image : Image) (l : Loops) (owner : Owner) (f : ForeignFragment) → fragment_tail (cycles_of costs) (with_rows image l owner f) ≡ 2 * costs.load
two_loads costs image l owner (Switch word) = refl
two_loads costs image l owner (Exit counter shift table) = refl
two_loads costs image l owner (Reset counter) = refl
two_loads costs image l owner (Count counter) = refl

-- so has the mark for whose code it stands
pub mark_loads : (costs : Costs) (f : ForeignFragment) → mark_tail costs (mark_of f) ≡ 2 * costs.load
mark_loads costs (Switch word) = refl
mark_loads costs (Exit counter shift table) = refl
mark_loads costs (Reset counter) = refl
mark_loads costs (Count counter) = refl

pub tail_some : (costs : Costs) (fs : List ForeignFragment) (f : ForeignFragment) (rest : List ForeignFragment) (tail cycles : ℕ) → fs ≡ f ∷ rest → tail ≡ mark_tail costs (mark_of f) → cycles ≡ sum_by (foreign_cost (cycles_of costs)) rest
    → IsTailOf costs fs (tail + cycles + costs.jump)
tail_some costs fs f rest tail cycles e loads is = λ image l owner.
    ap (λ m. m + cycles + costs.jump) (loads ∙ mark_loads costs f)
    ∙ ap (λ m. 2 * costs.load + m + costs.jump) (is ∙ sym (all_alike (cycles_of costs) image l owner rest))
    ∙ ap (λ x. x + sum_by (fragment_cost (cycles_of costs)) (all_with_rows image l owner rest) + costs.jump) (sym (two_loads costs image l owner f)) ∙ sym (ap (λ (xs : List ForeignFragment). tail_cycles (cycles_of costs) (all_with_rows image l owner xs)) e)

-- ---- rows in the keyed segment are among its words

keyed_is : (image : Image) (o : Option Keyed) (a : ℕ) → image.keyed_segment ≡ o → is_keyed (layout_of image) a ≡ in_option a (option_map (λ k. k.range) o)
unfolding layout_of
keyed_is image o a e = ap (λ p. in_option a (option_map (λ k. k.range) p)) e

key_words : (o : Option Keyed) (table last : ℕ) → table % 4 ≡ 0 → in_option (table + 4 * 0 + 0) (option_map (λ k. k.range) o) ≡ true
    → in_option (table + 4 * last + 3) (option_map (λ k. k.range) o) ≡ true → AreRowsAmong (first_of_key o) (count_of_key o) table last
key_words None table last even low high = let bad : ⊥ = cc in absurd bad
key_words (Some k) table last even low high =
    let from : k.range.from ≤ table = grind (arith, nat_tests) in
    let to : table + 4 * last + 3 < k.range.to = grind (arith, nat_tests) in
    (even, omega (arith, from), omega (arith, from, to, even))

pub rows_among : (image : Image) (table last first count : ℕ) → AreRowsIn image table (last + 1) → first ≡ first_of_key image.keyed_segment → count ≡ count_of_key image.keyed_segment → AreRowsAmong first count table last
rows_among image table last first count rows first_is count_is =
    let key = image.keyed_segment in
    let low = rows 0 (omega arith) in
    let high = rows last (omega arith) in
    let even : table % 4 ≡ 0 = let zero = low.0 in omega (arith, zero) in
    subst (λ n. AreRowsAmong n count table last) (sym first_is) (subst (λ n. AreRowsAmong (first_of_key key) n table last) (sym count_is)
    (key_words key table last even (sym (keyed_is image key (table + 4 * 0 + 0) refl) ∙ low.1 0 (omega arith)) (sym (keyed_is image key (table + 4 * last + 3) refl) ∙ high.1 3 (omega arith))))

module _ (x : Known) (original foreign : Image) (found : Found) (w : ℕ → ℕ) (n : Numbers) (least : Charged) (by : AreKnownBy x original foreign found w n least) where
  abbrev v : FlowGraph
  v = x.graph.now

  abbrev g : Graph
  g = graph x.graph.now

  abbrev l : Loops
  l = loops x.graph.now x.tree.now

  abbrev owner : Owner
  owner = owner_by x.owners.now

  abbrev told : ℕ → EdgeNumbers
  told e = told_on g l w n least e (tail_cycles (costs_of x.power.now) (all_with_rows foreign l owner (on_edge x.sites.now e)))

  is : IsFoundIn original foreign x.graph.now x.tree.now found x.sites.now
  is = by.known.found_is

  -- ---- numbers

  pub slack_is : (e to found_slack : ℕ) → e < length x.graph.now.code.edges → g.target e ≡ Some to → slice_get x.worst.now.slacks e ≡ Some found_slack → found_slack ≡ slack g l n (cost g n w) e
  slack_is e to found_slack lt leads at =
      same_Some found_slack (slack_at g l w n e) (sym at ∙ by.known.weighed.left.slack e lt) ∙ ap (λ o. only (is_some o) (slack g l n (cost g n w) e)) leads

  pub rest_is : (e to found_rest : ℕ) → e < length x.graph.now.code.edges → g.target e ≡ Some to → slice_get x.worst.now.rests e ≡ Some found_rest → found_rest ≡ rest g l n e
  rest_is e to found_rest lt leads at =
      same_Some found_rest (rest_at g l n e) (sym at ∙ by.known.weighed.left.rest e lt) ∙ ap (λ o. only (is_some o) (rest g l n e)) leads

  pub after_is : (e : ℕ) (after : Option ℕ) → e < length x.graph.now.code.edges → slice_get x.least.now.after e ≡ Some after → after ≡ to_end_after g l least e
  after_is e after lt at = let whole = sym at ∙ by.known.weighed.after e lt in cc

  pub slack_small : (e found_slack : ℕ) → e < length x.graph.now.code.edges → slice_get x.worst.now.slacks e ≡ Some found_slack → found_slack ≤ 2 ^ 50
  slack_small e found_slack lt at = subst (λ m. m ≤ 2 ^ 50) (sym (same_Some found_slack (slack_at g l w n e) (sym at ∙ by.known.weighed.left.slack e lt))) (by.known.weighed.slack_small e lt)

  pub rest_small : (e found_rest : ℕ) → e < length x.graph.now.code.edges → slice_get x.worst.now.rests e ≡ Some found_rest → found_rest ≤ 2 ^ 48
  rest_small e found_rest lt at = subst (λ m. m ≤ 2 ^ 48) (sym (same_Some found_rest (rest_at g l n e) (sym at ∙ by.known.weighed.left.rest e lt))) (by.known.weighed.rest_small e lt)

  pub after_small : (e z : ℕ) (after : Option ℕ) → e < length x.graph.now.code.edges → slice_get x.least.now.after e ≡ Some after → after ≡ Some z → z < 2 ^ 89
  after_small e z after lt at some = by.known.weighed.after_small e z lt (sym (after_is e after lt at) ∙ some)

  pub told_is : (e to found_slack found_rest tail : ℕ) (after : Option ℕ) → e < length x.graph.now.code.edges → g.target e ≡ Some to → slice_get x.worst.now.slacks e ≡ Some found_slack → slice_get x.worst.now.rests e ≡ Some found_rest
      → slice_get x.least.now.after e ≡ Some after → tail ≡ tail_cycles (costs_of x.power.now) (all_with_rows foreign l owner (on_edge x.sites.now e))
      → (a : EdgeNumbers) → a.slack ≡ found_slack → a.left ≡ found_rest + tail → a.least ≡ option_map (λ z. z + tail) after → a ≡ told e
  told_is e to found_slack found_rest tail after lt leads at_slack at_rest at_after tail_is a a_slack a_left a_least = told_same a (told e)
      (a_slack ∙ slack_is e to found_slack lt leads at_slack)
      (a_left ∙ (ap (λ m. m + tail) (rest_is e to found_rest lt leads at_rest) ∙ ap (λ m. rest g l n e + m) tail_is))
      (a_least ∙ (ap (λ o. option_map (λ z. z + tail) o) (after_is e after lt at_after) ∙ ap (λ m. option_map (λ z. z + m) (to_end_after g l least e)) tail_is))

  -- ---- the entries of an edge

  pub bad_at : (e to i : ℕ) → e < length x.graph.now.code.edges → g.target e ≡ Some to → HasBadEntry x.power.now foreign l owner n (told e) (on_edge x.sites.now e) i → IsBadAt x foreign found w n least e i
  bad_at e to i lt leads bad =
      let edge = some_get x.graph.now.code.edges e lt in (
        edge.0,
        edge.1,
        (
          to,
          leads,
          subst (λ fs. HasBadEntry x.power.now foreign l owner n (told_on g l w n least e (tail_cycles (costs_of x.power.now) (all_with_rows foreign l owner fs))) fs i) (on_edge_is original foreign x.graph.now x.tree.now found x.sites.now is e edge.0 edge.1) bad,
        ),
      )

  pub at_bad : (e i : ℕ) → IsBadAt x foreign found w n least e i → HasBadEntry x.power.now foreign l owner n (told e) (on_edge x.sites.now e) i
  at_bad e i (edge, there, (to, leads, bad)) =
      subst (λ fs. HasBadEntry x.power.now foreign l owner n (told_on g l w n least e (tail_cycles (costs_of x.power.now) (all_with_rows foreign l owner fs))) fs i) (sym (on_edge_is original foreign x.graph.now x.tree.now found x.sites.now is e edge there)) bad

  pub no_target : (e i : ℕ) → g.target e ≡ None → IsBadAt x foreign found w n least e i → ⊥
  no_target e i none (edge, there, (to, leads, bad)) = let both : None ≡ Some to = sym none ∙ leads in let never : ⊥ = cc in never

  -- an edge whose first fragment chooses no level
  pub no_entry : (e i : ℕ) (fs : List ForeignFragment) → on_edge x.sites.now e ≡ fs → (HasBadEntry x.power.now foreign l owner n (told e) fs i → ⊥) → IsBadAt x foreign found w n least e i → ⊥
  no_entry e i fs on none bad = none (subst (λ xs. HasBadEntry x.power.now foreign l owner n (told e) xs i) on (at_bad e i bad))

  pub no_choice : (e i : ℕ) (f : ForeignFragment) (rest : List ForeignFragment) → on_edge x.sites.now e ≡ f ∷ rest → ChoosesNone f → IsBadAt x foreign found w n least e i → ⊥
  no_choice e i f rest on none bad = by_kind f none (subst (λ xs. HasBadEntry x.power.now foreign l owner n (told e) xs i) on (at_bad e i bad))
    where
      by_kind : (h : ForeignFragment) → ChoosesNone h → HasBadEntry x.power.now foreign l owner n (told e) (h ∷ rest) i → ⊥
      by_kind (Switch word) quiet b = quiet
      by_kind (Exit counter shift table) quiet b = quiet
      by_kind (Reset counter) quiet b = b
      by_kind (Count counter) quiet b = b

  pub switch_is : (e to word : ℕ) (rest : List ForeignFragment) (a : EdgeNumbers) (level : Option ℕ) → e < length x.graph.now.code.edges → g.target e ≡ Some to → on_edge x.sites.now e ≡ Switch word ∷ rest → a ≡ told e → IsWordLevel x.power.now a word level
      → IsLeastIn (IsBadAt x foreign found w n least e) level
  switch_is e to word rest a level lt leads on same h = least_same (IsBadEntry x.power.now (told e) word) (IsBadAt x foreign found w n least e) level
      (λ i bad. bad_at e to i lt leads (subst (λ xs. HasBadEntry x.power.now foreign l owner n (told e) xs i) (sym on) bad))
      (λ i bad. subst (λ xs. HasBadEntry x.power.now foreign l owner n (told e) xs i) on (at_bad e i bad))
      (subst (λ y. IsWordLevel x.power.now y word level) same h)

  pub exit_is : (e to counter shift table k bound iteration : ℕ) (rest : List ForeignFragment) (a : EdgeNumbers) (level : Option ℕ) → e < length x.graph.now.code.edges → g.target e ≡ Some to → on_edge x.sites.now e ≡ Exit counter shift table ∷ rest → a ≡ told e
      → owner counter ≡ Some k → bound ≡ l.bound k → iteration ≡ n.iteration k → IsTableLevel x.power.now (list_bytes x.rows.now.memory) a bound iteration shift table (bound / 2 ^ shift + 1) level → IsLeastIn (IsBadAt x foreign found w n least e) level
  exit_is e to counter shift table k bound iteration rest a level lt leads on same own bound_is iteration_is h =
      let here : IsTableLevel x.power.now (loaded_byte foreign) (told e) (l.bound k) (n.iteration k) shift table (l.bound k / 2 ^ shift + 1) level =
      subst (λ b. IsTableLevel x.power.now (loaded_byte foreign) (told e) b (n.iteration k) shift table (b / 2 ^ shift + 1) level) bound_is
      (subst (λ m. IsTableLevel x.power.now (loaded_byte foreign) (told e) bound m shift table (bound / 2 ^ shift + 1) level) iteration_is
      (subst (λ y. IsTableLevel x.power.now (loaded_byte foreign) y bound iteration shift table (bound / 2 ^ shift + 1) level) same
      (subst (λ bytes. IsTableLevel x.power.now bytes a bound iteration shift table (bound / 2 ^ shift + 1) level) by.bytes h))) in
      least_same (HasBadRow x.power.now (loaded_byte foreign) (told e) (l.bound k) (n.iteration k) shift table (l.bound k / 2 ^ shift + 1)) (IsBadAt x foreign found w n least e) level
      (λ i bad. let low = bad.1 in bad_at e to i lt leads (subst (λ xs. HasBadEntry x.power.now foreign l owner n (told e) xs i) (sym on) (k, own, (bad.0, omega (arith, low), bad.2))))
      (λ i bad. row_of i (subst (λ xs. HasBadEntry x.power.now foreign l owner n (told e) xs i) on (at_bad e i bad))) here
    where
      row_of : (i : ℕ) → HasBadEntry x.power.now foreign l owner n (told e) (Exit counter shift table ∷ rest) i → HasBadRow x.power.now (loaded_byte foreign) (told e) (l.bound k) (n.iteration k) shift table (l.bound k / 2 ^ shift + 1) i
      row_of i (m, own_m, (j, low, bad)) =
          let both : Some m ≡ Some k = sym own_m ∙ own in
          let one : m ≡ k = cc in (
            j,
            (let le : j ≤ l.bound k / 2 ^ shift = subst (λ y. j ≤ l.bound y / 2 ^ shift) one low in omega (arith, le)),
            subst (λ y. IsBadEntry x.power.now (at_row (l.bound y) (n.iteration y) shift (told e) j) (word_at (loaded_byte foreign) (table + 4 * j)) i) one bad,
          )

  -- a counter without a loop
  pub exit_none : (e i counter shift table : ℕ) (rest : List ForeignFragment) → on_edge x.sites.now e ≡ Exit counter shift table ∷ rest → owner counter ≡ None → IsBadAt x foreign found w n least e i → ⊥
  exit_none e i counter shift table rest on none = no_entry e i (Exit counter shift table ∷ rest) on (λ bad. let own = bad.1 in let both : None ≡ Some bad.0 = sym none ∙ own in let never : ⊥ = cc in never)

  -- ---- the loop of an exit, and its rows

  pub exit_loop : (e counter shift table k : ℕ) (rest : List ForeignFragment) → e < length x.graph.now.code.edges → on_edge x.sites.now e ≡ Exit counter shift table ∷ rest → owner counter ≡ Some k → k < length x.tree.now.headers
  exit_loop e counter shift table k rest lt on own =
      let edge = some_get x.graph.now.code.edges e lt in
      let fs : found edge.0.at edge.0.kind ≡ Exit counter shift table ∷ rest = sym (on_edge_is original foreign x.graph.now x.tree.now found x.sites.now is e edge.0 edge.1) ∙ on in
      let one : clears_it counter (Exit counter shift table) ≡ 1 = cond-true (counter == counter) 1 0 (eq-eqb counter counter refl) in
      let sum : clears_on found (slice_get x.graph.now.code.edges e) counter ≡ clears_it counter (Exit counter shift table) + sum_by (clears_it counter) rest =
      ap (λ o. clears_on found o counter) edge.1 ∙ (ap (sum_by (clears_it counter)) fs ∙ sum_by-cons (clears_it counter) (Exit counter shift table) rest) in
      let used = by.known.owners_are.used counter (record { edge = e; low = lt; uses = omega (arith, one, sum) }) in
      let both : Some used.0 ≡ Some k = sym used.1 ∙ own in
      let same : used.0 ≡ k = cc in
      let count : l.loops ≡ length x.tree.now.headers = length-map x.tree.now.headers (node_address x.graph.now) in
      let low : used.0 < l.loops = used.2.low in
      omega (arith, same, count, low)

  prog : IsProgramOf (text_of original) x.graph.now.code l is.tree.0
  prog =
      let e = sym is.code.graph_is in
      record {
        reached = is.code.reached;
        calls = subst HasNoRecursion e is.code.flow.program.no_recursion;
        loops = subst (λ y. AreAccepted y l is.tree.0) e is.tree.1.accepted;
        whole = subst (λ y. HaveWholeExtents y l is.tree.0) e is.tree.1.whole;
      }

  pub exit_rows : (e counter shift table k bound : ℕ) (rest : List ForeignFragment) → e < length x.graph.now.code.edges → on_edge x.sites.now e ≡ Exit counter shift table ∷ rest → owner counter ≡ Some k → bound ≡ l.bound k
      → AreRowsAmong x.rows.now.first x.rows.now.count table (bound / 2 ^ shift)
  exit_rows e counter shift table k bound rest lt on own bound_is =
      let edge = some_get x.graph.now.code.edges e lt in
      let fs : found edge.0.at edge.0.kind ≡ Exit counter shift table ∷ rest = sym (on_edge_is original foreign x.graph.now x.tree.now found x.sites.now is e edge.0 edge.1) ∙ on in
      let owners : AreOwners (text_graph (text_of original) x.graph.now.code) x.graph.now.code l found owner = subst (λ y. AreOwners y x.graph.now.code l found owner) (sym is.code.graph_is) by.known.owners_are in
      let all = rows original foreign x.graph.now.code l is.tree.0 owner found prog is.scanned owners edge.0.at edge.0.kind counter shift table (0, ap (λ xs. slice_get xs 0) fs) in
      let count : owner_bound l (owner counter) ≡ bound = ap (owner_bound l) own ∙ sym bound_is in
      rows_among foreign table (bound / 2 ^ shift) x.rows.now.first x.rows.now.count (subst (λ b. AreRowsIn foreign table (b / 2 ^ shift + 1)) count all) by.first by.count
