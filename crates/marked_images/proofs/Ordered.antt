-- At most the first mark of an edge stores a level, whatever test its levels meet.
use Rattle.std.proofs.Common.{ℕ, ◌<◌, Bool, List, [], ◌∷◌, map}
use Rattle.std.specs.Prelude.{All}
use Rattle.std.proofs.lemmas.List.Elements.{All-map}
use Rattle.cost_theory.specs.Graph.{Graph, Loops}
use Rattle.cost_theory.specs.Accepted.{IsProgram, AreAccepted}
use Rattle.cost_theory.specs.Worst.{Numbers}
use Rattle.power_model.specs.Numbers.{PowerModel}
use Rattle.level_tables.specs.declared.edge_numbers.EdgeNumbers.{EdgeNumbers}
use Rattle.scale_base.specs.declared.fragments.Mark.{Mark}
use Rattle.scale_base.specs.declared.fragments.Mark.TheVariants as marks
use Rattle.scale_sites.specs.Forms.{IsQuietMark, IsFirstAlone, formed}
use Rattle.scale_sites.specs.Marks.{marks_at, AreLoopsOnce, AreDistinctLoops}
use Rattle.scale_sites.proofs.Laws.{formed_stores_first, marks_store_first}
use Rattle.stored_runs.specs.Stubbed.{IsQuiet, AreOrdered}
use Rattle.rewritten_runs.specs.Stubs.{fragment_by}

quiet_fragment : (power : PowerModel) (test : EdgeNumbers → ℕ → ℕ → Bool) (l : Loops) (counted : List ℕ) (n : Numbers) (told : EdgeNumbers) (m : Mark) → IsQuietMark m → IsQuiet (fragment_by power test l counted n told m)
quiet_fragment power test l counted n told marks.Switch h = absurd h
quiet_fragment power test l counted n told (marks.Exit c) h = absurd h
quiet_fragment power test l counted n told (marks.Reset c) h = tt
quiet_fragment power test l counted n told (marks.Count c) h = tt
quiet_fragment power test l counted n told marks.Lowest h = absurd h
quiet_fragment power test l counted n told (marks.Tally c) h = absurd h

all_quiet : (power : PowerModel) (test : EdgeNumbers → ℕ → ℕ → Bool) (l : Loops) (counted : List ℕ) (n : Numbers) (told : EdgeNumbers) (ms : List Mark) → All IsQuietMark ms → All IsQuiet (map (fragment_by power test l counted n told) ms)
all_quiet power test l counted n told ms h = All-map IsQuiet (fragment_by power test l counted n told) ms (λ k d lt. quiet_fragment power test l counted n told _ (h k d lt))

ordered_by : (power : PowerModel) (test : EdgeNumbers → ℕ → ℕ → Bool) (l : Loops) (counted : List ℕ) (n : Numbers) (told : EdgeNumbers) (ms : List Mark) → IsFirstAlone ms → AreOrdered (map (fragment_by power test l counted n told) ms)
ordered_by power test l counted n told [] alone = tt
ordered_by power test l counted n told (m ∷ ms) alone = all_quiet power test l counted n told ms alone

pub marks_ordered : (power : PowerModel) (test : EdgeNumbers → ℕ → ℕ → Bool) (g : Graph) (l : Loops) (extent : ℕ → ℕ → Bool) (counted : List ℕ) (n : Numbers) (told : EdgeNumbers) → IsProgram g → AreAccepted g l extent → AreLoopsOnce l counted → AreDistinctLoops counted
    → (e : ℕ) (branch lowest : Bool) (tallied : ℕ → Bool) (slack min_gain : ℕ) → e < g.edges → AreOrdered (map (fragment_by power test l counted n told) (formed lowest tallied (marks_at l counted branch slack min_gain (g.source e) (g.target e))))
marks_ordered power test g l extent counted n told prog acc are distinct e branch lowest tallied slack min_gain lt =
    let ms = marks_at l counted branch slack min_gain (g.source e) (g.target e) in
    let alone = marks_store_first g l extent counted prog acc are distinct e branch slack min_gain lt in
    ordered_by power test l counted n told (formed lowest tallied ms) (formed_stores_first lowest tallied ms alone)
