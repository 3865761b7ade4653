-- The least budgets of an image's entries decide whether there are budgets by which it is paced.
use Rattle.std.proofs.Common.{◌≡◌, inl, inr, ℕ, ◌+◌, ◌*◌, ◌<◌, Bool, true, ◌&&◌, List, [], ◌∷◌, length, slice_get, Option, Some, None, refl, sym, subst, arith}
use Rattle.std.specs.Prelude.{slice_index_or}
use Rattle.std.proofs.lemmas.Bool.{and_parts}
use Rattle.scale_base.specs.Image.{Image, loaded_byte}
use Rattle.scale_base.specs.Run.{starting_level}
use Rattle.scale_base.specs.State.{word_at}
use Rattle.scale_base.specs.declared.edges.Edge.{Edge}
use Rattle.power_model.specs.Numbers.{PowerModel}
use Rattle.power_model.specs.Switches.{costs_of}
use Rattle.cost_theory.specs.Graph.{Graph, Loops}
use Rattle.cost_theory.specs.Reached.{Code}
use Rattle.cost_theory.specs.Worst.{Numbers}
use Rattle.cycle_laws.specs.Charged.{Charged}
use Rattle.code_text.specs.Text.{text_of}
use Rattle.code_text.specs.TextGraph.{text_graph}
use Rattle.level_tables.specs.Budgets.{Entry, AreEntries, AreKept, is_switch_in_budget, least_budgets, meets_in_budget}
use Rattle.level_tables.specs.Tables.{at_row, pays}
use Rattle.level_tables.specs.declared.edge_numbers.EdgeNumbers.{EdgeNumbers}
use Rattle.level_tables.proofs.Laws.{least_are}
use Rattle.stored_runs.specs.Meaning.{four_bits}
use Rattle.stored_runs.specs.Marks.{tail_cycles}
use Rattle.paid_runs.specs.Tabled.{told_on, IsEntryBy}
use Rattle.paid_runs.specs.Timely.{weights_of}
use Rattle.foreign_scan.specs.declared.fragment.ForeignFragment.{ForeignFragment}
use Rattle.foreign_scan.specs.declared.fragment.ForeignFragment.TheVariants.{Switch, Exit, Reset, Count}
use Rattle.foreign_scan.specs.Scanned.{Found}
use Rattle.image_check.specs.Safe.{Owner, all_with_rows, sites_of, IsWordBy, AreWordsBy, AreOnBy}
use Rattle.image_check.specs.PacedChecks.{IsLowerOf, IsLowerIn, IsLowerOn, IsListOf, LeastBudgetsDecide, pays_alone}

both_of : (a b : Bool) → a ≡ true → b ≡ true → a && b ≡ true
both_of a b p q = cc

module _ (power : PowerModel) (meets other : EdgeNumbers → ℕ → ℕ → Bool) where
  -- what has to be so of an entry that meets the one test for it to meet the other
  abbrev Passes : Entry → Type 0
  Passes x = meets x.edge x.from x.to ≡ true → other x.edge x.from x.to ≡ true

  word_by : (told : EdgeNumbers) (word : ℕ) → ((x : Entry) → IsLowerOf power told word x → Passes x) → IsWordBy power meets told word → IsWordBy power other told word
  word_by told word pass safe = λ i low. one i low (safe i low)
    where
      one : (i : ℕ) → i < length power.levels → IsEntryBy meets told i (four_bits word i) → IsEntryBy other told i (four_bits word i)
      one i low (inl same) = inl same
      one i low (inr met) =
          inr ((met.0, pass (record { edge = told; from = i; to = four_bits word i }) (record { edge = refl; from = low; to = refl; lower = met.0 }) met.1))

  words_by : (image : Image) (l : Loops) (owner : Owner) (n : Numbers) (told : EdgeNumbers) (fs : List ForeignFragment) → ((x : Entry) → IsLowerIn power image l owner n told fs x → Passes x) → AreWordsBy power meets image l owner n told fs → AreWordsBy power other image l owner n told fs
  words_by image l owner n told [] pass safe = tt
  words_by image l owner n told (Switch word ∷ fs) pass safe = word_by told word pass safe
  words_by image l owner n told (Exit counter shift table ∷ fs) pass safe = λ k own j le.
      word_by (at_row (l.bound k) (n.iteration k) shift told j) (word_at (loaded_byte image) (table + 4 * j)) (λ x is. pass x (k, own, (j, le, is))) (safe k own j le)
  words_by image l owner n told (Reset counter ∷ fs) pass safe = tt
  words_by image l owner n told (Count counter ∷ fs) pass safe = tt

module _ (power : PowerModel) (meets : EdgeNumbers → ℕ → ℕ → Bool) where
  -- an entry that leads lower has met the test
  word_met : (told : EdgeNumbers) (word : ℕ) (x : Entry) → IsWordBy power meets told word → IsLowerOf power told word x → meets x.edge x.from x.to ≡ true
  word_met told word x safe is = by (safe x.from is.from)
    where
      by : IsEntryBy meets told x.from (four_bits word x.from) → meets x.edge x.from x.to ≡ true
      by (inl same) = let to = is.to in let low = is.lower in absurd (omega (arith, same, to, low))
      by (inr met) = subst (λ t. meets t x.from x.to ≡ true) (sym is.edge) (subst (λ j. meets told x.from j ≡ true) (sym is.to) met.1)

  words_met : (image : Image) (l : Loops) (owner : Owner) (n : Numbers) (told : EdgeNumbers) (fs : List ForeignFragment) (x : Entry) → AreWordsBy power meets image l owner n told fs → IsLowerIn power image l owner n told fs x → meets x.edge x.from x.to ≡ true
  words_met image l owner n told [] x safe is = absurd is
  words_met image l owner n told (Switch word ∷ fs) x safe is = word_met told word x safe is
  words_met image l owner n told (Exit counter shift table ∷ fs) x safe is =
      word_met (at_row (l.bound is.0) (n.iteration is.0) shift told is.2.0) (word_at (loaded_byte image) (table + 4 * is.2.0)) x (safe is.0 is.1 is.2.0 is.2.1) is.2.2
  words_met image l owner n told (Reset counter ∷ fs) x safe is = absurd is
  words_met image l owner n told (Count counter ∷ fs) x safe is = absurd is

in_levels : (power : PowerModel) (image : Image) (l : Loops) (owner : Owner) (n : Numbers) (told : EdgeNumbers) (fs : List ForeignFragment) (x : Entry) → IsLowerIn power image l owner n told fs x → (x.to < x.from) × (x.from < length power.levels)
in_levels power image l owner n told [] x is = absurd is
in_levels power image l owner n told (Switch word ∷ fs) x is = (is.lower, is.from)
in_levels power image l owner n told (Exit counter shift table ∷ fs) x is = let e = is.2.2 in (e.lower, e.from)
in_levels power image l owner n told (Reset counter ∷ fs) x is = absurd is
in_levels power image l owner n told (Count counter ∷ fs) x is = absurd is

module _ (power : PowerModel) (image : Image) (g : Graph) (code : Code) (l : Loops) (owner : Owner) (w : ℕ → ℕ) (n : Numbers) (least : Charged) (found : Found) where
  abbrev IsLower : Entry → Type 0
  IsLower x = IsLowerOn power image g code l owner w n least found x

  abbrev told_by : ℕ → Edge → EdgeNumbers
  told_by e edge = told_on g l w n least e (tail_cycles (costs_of power) (all_with_rows image l owner (found edge.at edge.kind)))

  on_by : (meets other : EdgeNumbers → ℕ → ℕ → Bool) → ((x : Entry) → IsLower x → meets x.edge x.from x.to ≡ true → other x.edge x.from x.to ≡ true)
      → (e : ℕ) → e < g.edges → AreOnBy power meets image g l owner w n least found e (slice_get code.edges e) → AreOnBy power other image g l owner w n least found e (slice_get code.edges e)
  on_by meets other pass e lt safe = by (slice_get code.edges e) refl safe
    where
      by : (o : Option Edge) → slice_get code.edges e ≡ o → AreOnBy power meets image g l owner w n least found e o → AreOnBy power other image g l owner w n least found e o
      by None is h = tt
      by (Some edge) is h = λ to leads.
          words_by power meets other image l owner n (told_by e edge) (found edge.at edge.kind)
          (λ x lower. pass x (record { number = e; low = lt; edge = edge; there = is; target = to; leads = leads; entry = lower })) (h to leads)

  lower_met : (meets : EdgeNumbers → ℕ → ℕ → Bool) → ((e : ℕ) → e < g.edges → AreOnBy power meets image g l owner w n least found e (slice_get code.edges e)) → (x : Entry) → IsLower x → meets x.edge x.from x.to ≡ true
  lower_met meets levels x is =
      let on = subst (λ o. AreOnBy power meets image g l owner w n least found is.number o) is.there (levels is.number is.low) is.target is.leads in
      words_met power meets image l owner n (told_by is.number is.edge) (found is.edge.at is.edge.kind) x on is.entry

  entries_are : (xs : List Entry) → IsListOf IsLower xs → AreEntries power xs
  entries_are xs listed = λ k d lt. (let is = listed.each k d lt in in_levels power image l owner n (told_by is.number is.edge) (found is.edge.at is.edge.kind) (slice_index_or xs k d) is.entry)

pub least_decide : LeastBudgetsDecide
least_decide = λ power original foreign code l extent found owner n least more xs listed.
    let g : Graph = text_graph (text_of original) code in
    let w = weights_of power (text_of original) code (sites_of original foreign code l owner found) in
    let start = starting_level (length power.levels) foreign.keyed_segment in
    let budgets = least_budgets power xs start (n.worst 0) in
    let law = least_are power xs start (n.worst 0) (entries_are power foreign g code l owner w n least found xs listed) in
    let kept : AreKept power budgets xs start (n.worst 0) = law.0 in
    let within = λ (x : Entry) (is : IsLowerOn power foreign g code l owner w n least found x).
    (let at = listed.all x is in subst (λ y. is_switch_in_budget power budgets y.edge y.from y.to ≡ true) (at.2 x) (kept.entries at.0 x at.1)) in (
      λ s late. record {
        scanned = s.scanned;
        owners = s.owners;
        analyzed = s.analyzed;
        least_is = s.least_is;
        added = s.added;
        start = s.start;
        budgets = record { first = kept.first; within = late };
        levels = λ e lt. on_by power foreign g code l owner w n least found (pays_alone power) (meets_in_budget power budgets)
            (λ x is pays_it. both_of (is_switch_in_budget power budgets x.edge x.from x.to) (pays power x.edge.least x.from x.to) (within x is) pays_it) e lt (s.levels e lt);
      },
      λ budget s.
          let met = lower_met power foreign g code l owner w n least found (meets_in_budget power budget) s.levels in
          let parts = λ (x : Entry) (is : IsLowerOn power foreign g code l owner w n least found x). and_parts (is_switch_in_budget power budget x.edge x.from x.to) (pays power x.edge.least x.from x.to) (met x is) in
          let all : AreKept power budget xs start (n.worst 0) = record { first = s.budgets.first; entries = λ k d lt. (parts (slice_index_or xs k d) (listed.each k d lt)).0 } in (
            record {
              scanned = s.scanned;
              owners = s.owners;
              analyzed = s.analyzed;
              least_is = s.least_is;
              added = s.added;
              start = s.start;
              levels = λ e lt. on_by power foreign g code l owner w n least found (meets_in_budget power budget) (pays_alone power) (λ x is _. (parts x is).1) e lt (s.levels e lt);
            },
            λ i low. (let most = law.1 budget all i in let late = s.budgets.within i low in omega (arith, most, late)),
          ),
    )
