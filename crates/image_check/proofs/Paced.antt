-- A safe image is a paced one whose budgets are all the deadline.
use Rattle.std.proofs.Common.{◌≡◌, inl, inr, ℕ, Bool, true, List, [], ◌∷◌, slice_get, Option, Some, None, arith}
use Rattle.scale_base.specs.Image.{Image}
use Rattle.scale_base.specs.declared.edges.Edge.{Edge}
use Rattle.power_model.specs.Numbers.{PowerModel}
use Rattle.cost_theory.specs.Graph.{Graph, Loops}
use Rattle.cost_theory.specs.Worst.{Numbers}
use Rattle.cycle_laws.specs.Charged.{Charged}
use Rattle.code_text.specs.Text.{text_of}
use Rattle.code_text.specs.TextGraph.{text_graph}
use Rattle.level_tables.specs.Tables.{meets_both}
use Rattle.level_tables.specs.declared.edge_numbers.EdgeNumbers.{EdgeNumbers}
use Rattle.level_tables.specs.Budgets.{meets_in_budget}
use Rattle.level_tables.proofs.Laws.{both_in_budget, both_in_time}
use Rattle.paid_runs.specs.Tabled.{IsEntryBy}
use Rattle.paid_runs.specs.Timely.{weights_of}
use Rattle.foreign_scan.specs.declared.fragment.ForeignFragment.{ForeignFragment}
use Rattle.foreign_scan.specs.declared.fragment.ForeignFragment.TheVariants.{Switch, Exit, Reset, Count}
use Rattle.foreign_scan.specs.Scanned.{Found}
use Rattle.image_check.specs.Safe.{Owner, sites_of, AreWordsBy, AreOnBy}
use Rattle.image_check.specs.PacedLaws.{SafeImagesArePaced}

-- entries that meet a test meet a weaker one

module _ (power : PowerModel) (meets other : EdgeNumbers → ℕ → ℕ → Bool) (weaker : (told : EdgeNumbers) (i j : ℕ) → meets told i j ≡ true → other told i j ≡ true) where
  entry_by : (told : EdgeNumbers) (i j : ℕ) → IsEntryBy meets told i j → IsEntryBy other told i j
  entry_by told i j (inl same) = inl same
  entry_by told i j (inr met) = inr ((met.0, weaker told i j met.1))

  words_by : (image : Image) (l : Loops) (owner : Owner) (n : Numbers) (told : EdgeNumbers) (fs : List ForeignFragment) → AreWordsBy power meets image l owner n told fs → AreWordsBy power other image l owner n told fs
  words_by image l owner n told [] safe = tt
  words_by image l owner n told (Switch word ∷ fs) safe = λ i low. entry_by told i _ (safe i low)
  words_by image l owner n told (Exit counter shift table ∷ fs) safe = λ k own j le i low. entry_by _ i _ (safe k own j le i low)
  words_by image l owner n told (Reset counter ∷ fs) safe = tt
  words_by image l owner n told (Count counter ∷ fs) safe = tt

  pub on_by : (image : Image) (g : Graph) (l : Loops) (owner : Owner) (w : ℕ → ℕ) (n : Numbers) (least : Charged) (found : Found) (e : ℕ) (edge : Option Edge) → AreOnBy power meets image g l owner w n least found e edge → AreOnBy power other image g l owner w n least found e edge
  on_by image g l owner w n least found e None safe = tt
  on_by image g l owner w n least found e (Some edge) safe = λ to leads. words_by image l owner n _ (found edge.at edge.kind) (safe to leads)

pub safe_paced : SafeImagesArePaced
safe_paced = λ power original foreign code l extent found owner n least more. (
  λ s. record {
    scanned = s.scanned;
    owners = s.owners;
    analyzed = s.analyzed;
    least_is = s.least_is;
    added = s.added;
    start = s.start;
    budgets = record { first = s.in_time; within = λ i low. omega arith };
    levels = λ e lt. on_by power (meets_both power) (meets_in_budget power (λ i. power.deadline)) (both_in_budget power) foreign (text_graph (text_of original) code) l owner (weights_of power (text_of original) code (sites_of original foreign code l owner found)) n least found e (slice_get code.edges e) (s.levels e lt);
  },
  λ s short. record {
    scanned = s.scanned;
    owners = s.owners;
    analyzed = s.analyzed;
    least_is = s.least_is;
    added = s.added;
    not_long = short;
    start = s.start;
    in_time = s.budgets.first;
    levels = λ e lt. on_by power (meets_in_budget power (λ i. power.deadline)) (meets_both power) (both_in_time power) foreign (text_graph (text_of original) code) l owner (weights_of power (text_of original) code (sites_of original foreign code l owner found)) n least found e (slice_get code.edges e) (s.levels e lt);
  },
)
