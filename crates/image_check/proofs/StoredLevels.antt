-- The levels in a rewritten program's tables are safe entries.
use Rattle.std.proofs.Common.{◌≡◌, ◌≢◌, ◌⊎◌, inl, inr, ℕ, zero, suc, ◌+◌, ◌*◌, ◌/◌, ◌^◌, ◌<◌, ◌≤◌, Bool, true, false, List, [], ◌∷◌, map, length, refl, arith, sym, ap, ◌∙◌, subst, slice_get, Some, None}
use Rattle.std.specs.Prelude.{slice_index, option_map, is_some}
use Rattle.std.specs.List.{list_any, range_with_len}
use Rattle.std.proofs.lemmas.Bool.{cases_lt}
use Rattle.std.proofs.lemmas.Option.{slice_get_within}
use Rattle.scale_base.specs.declared.edges.Edge.{Edge}
use Rattle.scale_base.specs.declared.fragments.Fragment.{Fragment}
use Rattle.scale_base.specs.declared.fragments.Fragment.TheVariants as fragments
use Rattle.scale_base.specs.declared.fragments.Mark.{Mark}
use Rattle.scale_base.specs.declared.fragments.Mark.TheVariants as marks
use Rattle.scale_base.specs.declared.stepping.Class.{Class}
use Rattle.scale_base.specs.Image.{Image, loaded_byte, is_in, is_word_address}
use Rattle.scale_base.specs.Layout.{layout_of, is_keyed}
use Rattle.scale_base.specs.State.{word_at}
use Rattle.power_model.specs.Numbers.{PowerModel}
use Rattle.power_model.specs.Switches.{costs_of}
use Rattle.cost_theory.specs.Graph.{Graph, Loops, only, any_below}
use Rattle.cost_theory.specs.Reached.{Code, edge_at}
use Rattle.cost_theory.specs.Worst.{Numbers, cost, slack, rest}
use Rattle.cost_theory.proofs.Laws.{some_get}
use Rattle.cycle_laws.specs.Charged.{Charged, to_end_after}
use Rattle.code_text.specs.Text.{Text, text_of}
use Rattle.code_text.specs.EdgeCosts.{edge_class}
use Rattle.code_text.specs.TextGraph.{text_graph}
use Rattle.graph_runs.specs.Laws.{IsProgramOf}
use Rattle.flow_graph.specs.FlowGraph.{FlowGraph, graph}
use Rattle.loop_file.specs.declared.notes.LoopNote.{LoopNote}
use Rattle.loop_file.specs.Kept.{noted_loops}
use Rattle.loop_forest.specs.Tree.{LoopView, loops}
use Rattle.worst_cycles.specs.Worst.{slack_at, rest_at}
use Rattle.level_tables.specs.Tables.{at_row, entry_of, level_word, table_row, rows_of, shift_of}
use Rattle.level_tables.specs.declared.edge_numbers.EdgeNumbers.{EdgeNumbers}
use Rattle.level_tables.proofs.Laws.{entry-is, word-at}
use Rattle.scale_sites.specs.Counters.{counted_loops}
use Rattle.scale_sites.specs.Weights.{tail_of}
use Rattle.stub_writer.specs.Stubs.{Site, Place}
use Rattle.stored_runs.specs.Marks.{place_at, fragments_of_class, tail_cycles}
use Rattle.stored_runs.specs.Patched.{IsPatched}
use Rattle.paid_runs.specs.Tabled.{told_on, IsSafeEntry}
use Rattle.paid_runs.specs.Timely.{weights_of}
use Rattle.foreign_scan.specs.declared.fragment.ForeignFragment.{ForeignFragment}
use Rattle.foreign_scan.specs.declared.fragment.ForeignFragment.TheVariants.{Switch, Exit, Reset, Count}
use Rattle.foreign_scan.specs.Scanned.{segment_places, Found}
use Rattle.rewritten_runs.specs.Stubs.{IsWeighed, AreSitesOf, marks_by_slack, stored_weights, told_at, tail_at, fragment_of, fragments_at, loop_of}
use Rattle.rewritten_runs.proofs.Laws.{led_class, program_is, tail_is}
use Rattle.image_check.specs.Safe.{Owner, owner_bound, words_from, all_with_rows, sites_of, IsSafeWord, AreSafeWords, AreSafeOn}
use Rattle.image_check.proofs.OnEdges.{fragments_on}
use Rattle.image_check.proofs.Tables.{word_of_row}
use Rattle.image_check.proofs.StoredStubs.{HasWholeWords}
use Rattle.image_check.proofs.StoredScan.{IsMarkedAt}
use Rattle.image_check.proofs.StoredOwners as owned
use Rattle.image_check.proofs.StoredRows as rowed

-- what two edges tell their tables is the same, part by part
pub same_numbers : (a b : EdgeNumbers) → a.slack ≡ b.slack → a.left ≡ b.left → a.least ≡ b.least → a ≡ b
same_numbers a b slacks lefts leasts =
    ap (λ x. record a { slack = x }) slacks ∙ (ap (λ x. record a { slack = b.slack; left = x }) lefts ∙ ap (λ x. record a { slack = b.slack; left = b.left; least = x }) leasts)

-- ---- words of entries

-- the entries of a word are safe
level_entry : (power : PowerModel) (told : EdgeNumbers) (i : ℕ) → IsSafeEntry power told i (entry_of power told i)
level_entry power told i = by (cases_lt (entry_of power told i) i)
  where
    by : (entry_of power told i < i) ⊎ (i ≤ entry_of power told i) → IsSafeEntry power told i (entry_of power told i)
    by (inl lower) = inr (lower, (entry-is power told i).meets lower)
    by (inr same) = let up = (entry-is power told i).up_to in inl (omega (arith, same, up))

safe_word : (power : PowerModel) (told : EdgeNumbers) → length power.levels ≤ 8 → IsSafeWord power told (level_word power told)
safe_word power told few i lt = subst (IsSafeEntry power told i) (sym (word-at power told i few lt)) (level_entry power told i)

safe_word_by : (power : PowerModel) (told told' : EdgeNumbers) (word : ℕ) → length power.levels ≤ 8 → told' ≡ told → word ≡ level_word power told → IsSafeWord power told' word
safe_word_by power told told' word few same is = subst (λ x. IsSafeWord power x word) (sym same) (subst (IsSafeWord power told) (sym is) (safe_word power told few))

-- a row is the word for its counts
map_range : (f : ℕ → ℕ) (a n j : ℕ) → j < n → slice_index (map f (range_with_len a n)) j ≡ f (a + j)
map_range f a zero j lt = let no : ⊥ = omega (arith, lt) in absurd no
map_range f a (suc n) zero lt = let e : a ≡ a + 0 = omega arith in ap f e
map_range f a (suc n) (suc j) lt = let e : a + 1 + j ≡ a + suc j = omega arith in map_range f (a + 1) n j (omega (arith, lt)) ∙ ap f e

row_is : (power : PowerModel) (bound iteration : ℕ) (told : EdgeNumbers) (j : ℕ) → j < bound / 2 ^ shift_of bound + 1 → slice_index (rows_of power bound iteration told) j ≡ table_row power bound iteration told j
row_is power bound iteration told j lt = let e : 0 + j ≡ j = omega arith in map_range (table_row power bound iteration told) 0 (bound / 2 ^ shift_of bound + 1) j lt ∙ ap (table_row power bound iteration told) e

-- ---- the words of the marks of an edge

module _ (power : PowerModel) (few : length power.levels ≤ 8) (image : Image) (l : Loops) (counted : List ℕ) (owner : Owner) (n : Numbers) (told told' : EdgeNumbers) (own : (c k : ℕ) → owner c ≡ Some k → loop_of counted c ≡ k) where
  exit_words : (c counter shift table : ℕ) → told' ≡ told → counter ≡ c → shift ≡ shift_of (l.bound (loop_of counted c))
      → words_from image table (owner_bound l (owner counter) / 2 ^ shift + 1) ≡ rows_of power (l.bound (loop_of counted c)) (n.iteration (loop_of counted c)) told
      → (k : ℕ) → owner counter ≡ Some k → (j : ℕ) → j ≤ l.bound k / 2 ^ shift → IsSafeWord power (at_row (l.bound k) (n.iteration k) shift told' j) (word_at (loaded_byte image) (table + 4 * j))
  exit_words c counter shift table same counter_is shift_is rows k own_k j le =
      let loop_is : loop_of counted c ≡ k = ap (loop_of counted) (sym counter_is) ∙ own counter k own_k in
      let b = l.bound k in
      let it = n.iteration k in
      let shifted : shift ≡ shift_of b = shift_is ∙ ap (λ x. shift_of (l.bound x)) loop_is in
      let long : owner_bound l (owner counter) ≡ b = ap (owner_bound l) own_k in
      let size : owner_bound l (owner counter) / 2 ^ shift ≡ b / 2 ^ shift = ap (λ x. x / 2 ^ shift) long in
      let sized : b / 2 ^ shift ≡ b / 2 ^ shift_of b = ap (λ x. b / 2 ^ x) shifted in
      let here = word_of_row image table (owner_bound l (owner counter) / 2 ^ shift + 1) j (omega (arith, le, size)) in
      let all : words_from image table (owner_bound l (owner counter) / 2 ^ shift + 1) ≡ rows_of power b it told = rows ∙ ap (λ x. rows_of power (l.bound x) (n.iteration x) told) loop_is in
      let word : word_at (loaded_byte image) (table + 4 * j) ≡ level_word power (at_row b it (shift_of b) told j) = sym here ∙ (ap (λ ws. slice_index ws j) all ∙ row_is power b it told j (omega (arith, le, sized))) in
      let edge : at_row b it shift told' j ≡ at_row b it (shift_of b) told j = ap (λ s. at_row b it s told' j) shifted ∙ ap (λ x. at_row b it (shift_of b) x j) same in
      safe_word_by power (at_row b it (shift_of b) told j) (at_row b it shift told' j) (word_at (loaded_byte image) (table + 4 * j)) few edge word

  record IsSameExit (c counter shift : ℕ) (rows : List ℕ) : Type 0 where
    counter_is : counter ≡ c
    shift_is : shift ≡ shift_of (l.bound (loop_of counted c))
    rows_are : rows ≡ rows_of power (l.bound (loop_of counted c)) (n.iteration (loop_of counted c)) told

  first_of : (f g : Fragment) (fs gs : List Fragment) → f ∷ fs ≡ g ∷ gs → f ≡ g
  first_of f g fs gs e = cc

  exit_parts : (c counter shift : ℕ) (rows : List ℕ) → fragments.Exit counter shift rows ≡ fragment_of power l counted n told (marks.Exit c) → IsSameExit c counter shift rows
  exit_parts c counter shift rows e = record { counter_is = cc; shift_is = cc; rows_are = cc }

  words_by : (ms : List Mark) (fs : List ForeignFragment) → all_with_rows image l owner fs ≡ map (fragment_of power l counted n told) ms → ((m : Mark) (others : List Mark) → ms ≡ m ∷ others → told' ≡ told) → AreSafeWords power image l owner n told' fs
  words_by ms [] e same = tt
  words_by [] (Switch word ∷ fs) e same = let never : ⊥ = cc in absurd never
  words_by (marks.Switch ∷ ms) (Switch word ∷ fs) e same =
      let first = first_of (fragments.Switch word) (fragments.Switch (level_word power told)) (all_with_rows image l owner fs) (map (fragment_of power l counted n told) ms) e in
      let is : word ≡ level_word power told = cc in
      safe_word_by power told told' word few (same marks.Switch ms refl) is
  words_by (marks.Exit c ∷ ms) (Switch word ∷ fs) e same = let first = first_of _ _ _ _ e in let never : ⊥ = cc in absurd never
  words_by (marks.Reset c ∷ ms) (Switch word ∷ fs) e same = let first = first_of _ _ _ _ e in let never : ⊥ = cc in absurd never
  words_by (marks.Count c ∷ ms) (Switch word ∷ fs) e same = let first = first_of _ _ _ _ e in let never : ⊥ = cc in absurd never
  words_by (marks.Lowest ∷ ms) (Switch word ∷ fs) e same = let first = first_of _ _ _ _ e in let never : ⊥ = cc in absurd never
  words_by (marks.Tally c ∷ ms) (Switch word ∷ fs) e same = let first = first_of _ _ _ _ e in let never : ⊥ = cc in absurd never
  words_by [] (Exit counter shift table ∷ fs) e same = let never : ⊥ = cc in absurd never
  words_by (marks.Switch ∷ ms) (Exit counter shift table ∷ fs) e same = let first = first_of _ _ _ _ e in let never : ⊥ = cc in absurd never
  words_by (marks.Exit c ∷ ms) (Exit counter shift table ∷ fs) e same =
      let rows = words_from image table (owner_bound l (owner counter) / 2 ^ shift + 1) in
      let parts = exit_parts c counter shift rows (first_of (fragments.Exit counter shift rows) (fragment_of power l counted n told (marks.Exit c)) (all_with_rows image l owner fs) (map (fragment_of power l counted n told) ms) e) in
      exit_words c counter shift table (same (marks.Exit c) ms refl) parts.counter_is parts.shift_is parts.rows_are
  words_by (marks.Reset c ∷ ms) (Exit counter shift table ∷ fs) e same = let first = first_of _ _ _ _ e in let never : ⊥ = cc in absurd never
  words_by (marks.Count c ∷ ms) (Exit counter shift table ∷ fs) e same = let first = first_of _ _ _ _ e in let never : ⊥ = cc in absurd never
  words_by (marks.Lowest ∷ ms) (Exit counter shift table ∷ fs) e same = let first = first_of _ _ _ _ e in let never : ⊥ = cc in absurd never
  words_by (marks.Tally c ∷ ms) (Exit counter shift table ∷ fs) e same = let first = first_of _ _ _ _ e in let never : ⊥ = cc in absurd never
  words_by ms (Reset counter ∷ fs) e same = tt
  words_by ms (Count counter ∷ fs) e same = tt

-- ---- by edge

module _ (power : PowerModel) (original foreign : Image) (notes : List LoopNote) (v : FlowGraph) (tree : LoopView) (plain stored : Numbers) (weighed : IsWeighed power original notes v tree plain stored) (least : Charged) (sites : List Site)
    (are : AreSitesOf original v.code (fragments_at power original v tree (marks_by_slack power original v tree plain) stored least) sites)
    (limits : ℕ → ℕ) (start : ℕ) (p : IsPatched original foreign (length power.levels) limits sites start)
    (marked_at : (at : ℕ) (q : Place) → place_at sites at ≡ Some q → IsMarkedAt original v.code at q)
    (low : (at : ℕ) → is_word_address original at ≡ true → at < 2 ^ 32)
    (whole : HasWholeWords foreign) (off : (a : ℕ) → list_any (is_in a) original.text ≡ true → is_keyed (layout_of foreign) a ≡ false)
    (keyed : foreign.keyed_segment ≢ None) (places : segment_places foreign ≡ segment_places original)
    (few : length power.levels ≤ 8) (stored_same : weights_of power (text_of original) v.code sites ≡ stored_weights power original v (marks_by_slack power original v tree plain)) where
  abbrev t : Text
  t = text_of original

  abbrev code : Code
  code = v.code

  abbrev l : Loops
  l = loops v tree

  abbrev g : Graph
  g = text_graph t code

  abbrev counted : List ℕ
  counted = counted_loops tree

  abbrev marked : ℕ → List Mark
  marked = marks_by_slack power original v tree plain

  abbrev told : ℕ → EdgeNumbers
  told e = told_at power original v tree marked stored least e

  abbrev frags : ℕ → List Fragment
  frags = fragments_at power original v tree marked stored least

  abbrev prog : IsProgramOf t code l (noted_loops notes).inside
  prog = program_is power original notes v tree plain stored weighed

  abbrev found : Found
  found = owned.found power original foreign notes v tree plain stored weighed least sites are limits start p marked_at low whole off

  abbrev owner : Owner
  owner = owned.owner power original foreign notes v tree plain stored weighed least sites are limits start p marked_at low whole off

  abbrev w : ℕ → ℕ
  w = weights_of power t code (sites_of original foreign code l owner found)

  w_is : w ≡ stored_weights power original v marked
  w_is = rowed.weights_same power original foreign notes v tree plain stored weighed least sites are limits start p marked_at low whole off keyed places ∙ stored_same

  -- with their rows, what is found on an edge are its fragments
  again : (e : ℕ) (x : Edge) (class : Class) → slice_get code.edges e ≡ Some x → edge_class t (Some x) ≡ Some class → all_with_rows foreign l owner (found x.at x.kind) ≡ frags e
  again e x class there is =
      let scanned = rowed.scanned power original foreign notes v tree plain stored weighed least sites are limits start p marked_at low whole off keyed places in
      let lt = slice_get_within code.edges e x there in
      let place = rowed.edge_place power original foreign notes v tree plain stored weighed least sites are limits start p marked_at low whole off keyed places e x there in
      let way = are.ways e class lt (ap (edge_class t) there ∙ is) in
      sym (fragments_on original foreign code l owner found prog.reached scanned e x class there is)
      ∙ (ap (λ o. fragments_of_class o class) place ∙ (ap (λ o. fragments_of_class (place_at sites (edge_at o)) class) (sym there) ∙ way))

  -- what the edge tells its table
  told_same : (e to : ℕ) (m : Mark) (ms : List Mark) (tail : ℕ) → g.target e ≡ Some to → marked e ≡ m ∷ ms → tail ≡ tail_cycles (costs_of power) (frags e) → told_on g l w stored least e tail ≡ told e
  told_same e to m ms tail leads is tail_cycles_are =
      let tail_same : tail ≡ tail_at power marked e =
      tail_cycles_are
      ∙ (ap (λ q. tail_cycles (costs_of power) (map (fragment_of power l counted stored (told e)) q)) is ∙ (tail_is power l counted stored (told e) m ms ∙ ap (tail_of power.costs) (sym is))) in
      let slack_same : slack g l stored (cost g stored w) e ≡ slack_at (graph v) l (stored_weights power original v marked) stored e =
      sym (ap (λ o. only (is_some o) (slack (graph v) l stored (cost (graph v) stored (stored_weights power original v marked)) e)) leads
      ∙ (ap (λ q. slack (graph v) l stored (cost (graph v) stored q) e) (sym w_is) ∙ ap (λ q. slack q l stored (cost q stored w) e) (sym weighed.code_is.graph_is))) in
      let rest_same : rest g l stored e ≡ rest_at (graph v) l stored e =
      sym (ap (λ o. only (is_some o) (rest (graph v) l stored e)) leads ∙ ap (λ q. rest q l stored e) (sym weighed.code_is.graph_is)) in
      let end_same : to_end_after g l least e ≡ to_end_after (graph v) l least e = ap (λ q. to_end_after q l least e) weighed.code_is.graph_is in
      same_numbers (told_on g l w stored least e tail) (told e) slack_same (ap (λ x. x + tail) rest_same ∙ ap (λ x. rest_at (graph v) l stored e + x) tail_same)
      (ap (option_map (λ z. z + tail)) end_same ∙ ap (λ x. option_map (λ z. z + x) (to_end_after (graph v) l least e)) tail_same)

  own : (c k : ℕ) → owner c ≡ Some k → loop_of counted c ≡ k
  own c k e = by (any_below (length code.edges) (owned.stands_on power original foreign notes v tree plain stored weighed least sites are limits start p marked_at low whole off c)) e
    where
      by : (b : Bool) → owned.owner_if power original foreign notes v tree plain stored weighed least sites are limits start p marked_at low whole off b c ≡ Some k → loop_of counted c ≡ k
      by true q = cc
      by false q = let never : ⊥ = cc in absurd never

  pub levels : (e : ℕ) → e < g.edges → AreSafeOn power foreign g l owner w stored least found e (slice_get code.edges e)
  levels e lt = let x = some_get code.edges e lt in subst (AreSafeOn power foreign g l owner w stored least found e) (sym x.1) (on_edge x.0 x.1)
    where
      on_edge : (x : Edge) → slice_get code.edges e ≡ Some x → AreSafeOn power foreign g l owner w stored least found e (Some x)
      on_edge x there to leads =
          let c = led_class t code prog.reached e to lt leads in
          let fs = found x.at x.kind in
          let all = again e x c.0 there (ap (edge_class t) (sym there) ∙ c.1) in
          words_by power few foreign l counted owner stored (told e) (told_on g l w stored least e (tail_cycles (costs_of power) (all_with_rows foreign l owner fs))) own (marked e) fs all
          (λ m ms is. told_same e to m ms (tail_cycles (costs_of power) (all_with_rows foreign l owner fs)) leads is (ap (tail_cycles (costs_of power)) all))
