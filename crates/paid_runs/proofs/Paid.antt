-- Stored runs of kept runs, as they are paid.
use Rattle.std.proofs.Common.{◌≡◌, ℕ, ◌+◌, ◌*◌, ◌<◌, ◌≤◌, Bool, true, List, [], ◌∷◌, map, length, refl, sym, ap, ◌∙◌, subst, arith, Some}
use Rattle.std.specs.Prelude.{◌==◌}
use Rattle.std.specs.List.{sum_by}
use Rattle.std.proofs.lemmas.List.{length-map}
use Rattle.std.proofs.lemmas.List.Sums.{sum_by-cons}
use Rattle.scale_base.specs.declared.stepping.Class.{Class}
use Rattle.scale_base.specs.declared.stepping.Class.TheVariants as classes
use Rattle.scale_base.specs.declared.stepping.Stepped.{Stepped}
use Rattle.scale_base.specs.Image.{Image}
use Rattle.scale_base.specs.Run.{HasExited, run_of}
use Rattle.power_model.specs.Numbers.{PowerModel, IsPowerModel}
use Rattle.power_model.specs.Price.{price, unstarted, held_energy}
use Rattle.cost_theory.specs.Graph.{Graph, Loops}
use Rattle.cost_theory.specs.Steps as steps
use Rattle.cost_theory.proofs.Laws.{left_start, run-worst}
use Rattle.cycle_laws.specs.LeastLaws.{IsCharged}
use Rattle.cycle_laws.proofs.Laws.{plain_returns}
use Rattle.code_text.specs.Text.{text_of, kind_at, Text}
use Rattle.code_text.specs.TextGraph.{text_graph}
use Rattle.cost_theory.specs.Worst.{Numbers}
use Rattle.cycle_laws.specs.Charged.{Charged, AreCharged}
use Rattle.cost_theory.specs.Laws.{IsAnalyzed}
use Rattle.cost_theory.specs.Reached.{Code}
use Rattle.graph_runs.specs.KeptSteps.{Carried}
use Rattle.graph_runs.specs.Laws.{IsProgramOf}
use Rattle.graph_runs.specs.KeptRuns.{ExitsBy, IsKeptRun}
use Rattle.stub_writer.specs.Stubs.{Site}
use Rattle.stored_runs.specs.Cycles.{stepped_cycles}
use Rattle.stored_runs.specs.Marks.{stored_cycles, extra_cycles, shadow_first}
use Rattle.stored_runs.specs.Legs.{originals, all_steps}
use Rattle.stored_runs.proofs.Laws.{cost_of_legs, short_legs, long_legs}
use Rattle.stored_runs.specs.Stubbed.{IsFollowed}
use Rattle.level_tables.specs.Budgets.{AreBudgets}
use Rattle.paid_runs.specs.Shadows.{AreCountable}
use Rattle.paid_runs.specs.Marked.{extra_site_weights}
use Rattle.paid_runs.specs.Counters.{AreCounted, by_words}
use Rattle.paid_runs.proofs.Words.{word_of_loop, is_word, countable_of, counted_of}
use Rattle.paid_runs.proofs.Aligned.{AreAligned, extra_sum}
use Rattle.power_model.specs.Switches.{period, costs_of}
use Rattle.paid_runs.proofs.Energies.{cycles_from, switches_save}
use Rattle.paid_runs.specs.Timely.{weights_of, AreTables, AreTablesOf, IsPaidRun}
use Rattle.paid_runs.specs.Budgets.{AreTablesWithin, IsInBudget}
use Rattle.paid_runs.proofs.Constant.{tables_within}
use Rattle.paid_runs.specs.Laws.{StoredRunsArePaid, StoredRunsKeepBudgets, StoredRunsSaveEnergy, StubsAreBounded}
use Rattle.paid_runs.proofs.Walk.{walk, cycles_later}

-- A followed run of a program whose counters count, and whose tables keep budgets.
pub paid_within : (power : PowerModel) (budget : ℕ → ℕ) → IsPowerModel power → (image stored : Image) (sites : List Site) (start : ℕ) (code : Code) (l : Loops) (extent : ℕ → ℕ → Bool) (is_of : ℕ → ℕ → Bool) → IsProgramOf (text_of image) code l extent →
    ((v k : ℕ) → is_of v k ≡ true → k < l.loops) → ((v k : ℕ) → is_of v k ≡ true → AreCountable (text_graph (text_of image) code) l (λ j. j == k)) → AreCounted (text_of image) code l sites is_of → (n : Numbers) (least : Charged) →
    IsAnalyzed (text_graph (text_of image) code) l extent (weights_of power (text_of image) code sites) n → AreCharged (text_graph (text_of image) code) l (weights_of power (text_of image) code sites) least →
    AreTablesWithin power budget (text_of image) code l sites is_of n least → start < length power.levels → AreBudgets power budget start (n.worst 0) →
    (input : List ℕ) (steps : ℕ) (c : Carried) (kept : IsKeptRun (text_of image) code l (costs_of power) (run_of image (length power.levels) input steps) c) (f : IsFollowed image stored (length power.levels) sites start input steps) →
    IsPaidRun power (text_of image) code l sites start n kept.moves (run_of stored (length power.levels) input f.after).steps
    × IsInBudget power budget (text_of image) code l sites start n kept.moves (run_of stored (length power.levels) input f.after).steps
paid_within power budget ok image stored sites start code l extent is_of prog loops able marked n least is are tables low budgets input count c kept f =
    let t = text_of image in
    let g : Graph = text_graph t code in
    let w = weights_of power t code sites in
    let moves = kept.moves in
    let legs = f.legs in
    let aligned : AreAligned t code moves (originals legs) = record {
      places = kept.places ∙ ap (map (λ x. x.pc)) (sym f.originals_are);
      classes = kept.classes ∙ ap (map (λ x. Some x.class)) (sym f.originals_are);
    } in
    let first : n.worst 0 ≡ steps.cycles_left g l w n (steps.graph_start g) = sym (left_start g l extent w n is.program is.accepted is.weights is.numbers) in
    let worst = budgets.first in
    let safe : 0 + steps.cycles_left g l w n (steps.graph_start g) * period power start ≤ budget start = subst (λ x. 0 + x * period power start ≤ budget start) first (omega (arith, worst)) in
    let charged : IsCharged g l extent w least = record {
      program = is.program;
      returns = plain_returns (kind_at t) t.entry code prog.reached.lists prog.reached.words;
      accepted = is.accepted;
      weights = is.weights;
      numbers = are;
    } in
    let walked = walk power budget t code l extent sites is_of n least ok.ranked loops able marked is charged tables [] moves legs (shadow_first start) (unstarted start)
    (record { kept = tt; counters = λ v k on. refl; is_level = low }) kept.kept aligned f.are refl safe in
    let later = cycles_later power budget t code l extent sites is_of n least ok.ranked loops able marked is charged tables moves legs (shadow_first start) f.are aligned in
    let same = f.steps in
    let total : (price power start (all_steps legs)).cycles ≡ steps.cycles w moves = cycles_from power (unstarted start) (all_steps legs) ∙ omega (arith, later) in
    let kept_in : IsInBudget power budget t code l sites start n moves (all_steps legs) = walked.safe in
    let late = budgets.within (price power start (all_steps legs)).level walked.is_level in
    subst (λ xs. IsPaidRun power t code l sites start n moves xs × IsInBudget power budget t code l sites start n moves xs) (sym same) (
      record {
        cycles = total;
        is_level = walked.is_level;
        falls = walked.falls;
        in_time = omega (arith, kept_in, late);
        pays = walked.pays;
      },
      kept_in,
    )

-- where each budget is the deadline
pub within_deadline : (power : PowerModel) (start worst : ℕ) → worst * period power start ≤ power.deadline → AreBudgets power (λ i. power.deadline) start worst
within_deadline power start worst enough = record { first = enough; within = λ i low. omega arith }

pub paid_by : (power : PowerModel) → IsPowerModel power → (image stored : Image) (sites : List Site) (start : ℕ) (code : Code) (l : Loops) (extent : ℕ → ℕ → Bool) (is_of : ℕ → ℕ → Bool) → IsProgramOf (text_of image) code l extent →
    ((v k : ℕ) → is_of v k ≡ true → k < l.loops) → ((v k : ℕ) → is_of v k ≡ true → AreCountable (text_graph (text_of image) code) l (λ j. j == k)) → AreCounted (text_of image) code l sites is_of → (n : Numbers) (least : Charged) →
    IsAnalyzed (text_graph (text_of image) code) l extent (weights_of power (text_of image) code sites) n → AreCharged (text_graph (text_of image) code) l (weights_of power (text_of image) code sites) least →
    AreTablesOf power (text_of image) code l sites is_of n least → start < length power.levels → n.worst 0 * period power start ≤ power.deadline →
    (input : List ℕ) (steps : ℕ) (c : Carried) (kept : IsKeptRun (text_of image) code l (costs_of power) (run_of image (length power.levels) input steps) c) (f : IsFollowed image stored (length power.levels) sites start input steps) →
    IsPaidRun power (text_of image) code l sites start n kept.moves (run_of stored (length power.levels) input f.after).steps
paid_by power ok image stored sites start code l extent is_of prog loops able marked n least is are tables low worst input count c kept f =
    (paid_within power (λ i. power.deadline) ok image stored sites start code l extent is_of prog loops able marked n least is are (tables_within power (text_of image) code l sites is_of n least tables)
    low (within_deadline power start (n.worst 0) worst) input count c kept f).0

pub saved_by : (power : PowerModel) → IsPowerModel power → (image stored : Image) (sites : List Site) (start : ℕ) (code : Code) (l : Loops) (n : Numbers) → start < length power.levels →
    (input : List ℕ) (steps status : ℕ) (c : Carried) (kept : IsKeptRun (text_of image) code l (costs_of power) (run_of image (length power.levels) input steps) c) (f : IsFollowed image stored (length power.levels) sites start input steps) →
    IsPaidRun power (text_of image) code l sites start n kept.moves (run_of stored (length power.levels) input f.after).steps → (run_of image (length power.levels) input steps).standing ≡ HasExited status →
    let paid = price power start (run_of stored (length power.levels) input f.after).steps in paid.energy ≤ held_energy power paid
saved_by power ok image stored sites start code l n low input count status c kept f paid exited =
    let exits : steps.EndsByExit kept.moves = subst (λ st. ExitsBy st kept.moves) exited kept.exits in
    switches_save power start (run_of stored (length power.levels) input f.after).steps ok.ranked low paid.falls (paid.pays exits)

-- where each counted loop has one word
tables_of : (power : PowerModel) (t : Text) (code : Code) (l : Loops) (sites : List Site) (counted : ℕ → Bool) (word : ℕ → ℕ) (n : Numbers) (least : Charged) → AreTables power t code l sites counted word n least → AreTablesOf power t code l sites (by_words l counted word) n least
tables_of power t code l sites counted word n least tables = record {
  chosen = λ e class lt is h counts j low within shown stored. tables.chosen e class lt is h counts j low within (λ k kl ck inside. shown (word k) k (is_word l counted word k kl ck) inside) stored;
}

pub runs_paid : StoredRunsArePaid
runs_paid = λ power ok image stored sites start code l extent counted word prog able marked n least is are tables low worst input count c f.
    paid_by power ok image stored sites start code l extent (by_words l counted word) prog (λ v k on. (word_of_loop l counted word v k on).0) (countable_of l counted word (text_graph (text_of image) code) able)
    (counted_of l counted word (text_of image) code sites marked) n least is are (tables_of power (text_of image) code l sites counted word n least tables) low worst input count c f.kept f.followed

pub runs_within : StoredRunsKeepBudgets
runs_within = λ power ok budget image stored sites start code l extent counted word prog able marked n least is are tables low budgets input count c f.
    paid_within power budget ok image stored sites start code l extent (by_words l counted word) prog (λ v k on. (word_of_loop l counted word v k on).0) (countable_of l counted word (text_graph (text_of image) code) able)
    (counted_of l counted word (text_of image) code sites marked) n least is are tables low budgets input count c f.kept f.followed

pub energy_saved : StoredRunsSaveEnergy
energy_saved = λ power ok image stored sites start code l extent counted word prog able marked n least is are tables low worst input count status c f exited.
    saved_by power ok image stored sites start code l n low input count status c f.kept f.followed
    (runs_paid power ok image stored sites start code l extent counted word prog able marked n least is are tables low worst input count c f) exited

-- ---- what the stubs add

each_positive : (power : PowerModel) → IsPowerModel power → (class : Class) → 1 ≤ costs_of power class
each_positive power ok classes.Alu = ok.costs.alu
each_positive power ok classes.Load = ok.costs.load
each_positive power ok classes.Store = ok.costs.store
each_positive power ok classes.Taken = ok.costs.taken
each_positive power ok classes.Untaken = ok.costs.untaken
each_positive power ok classes.Jump = ok.costs.jump
each_positive power ok classes.Mul = ok.costs.mul
each_positive power ok classes.Div = ok.costs.div
each_positive power ok classes.Ecall = ok.costs.ecall
each_positive power ok classes.Fence = ok.costs.fence

both_sums : (costs : Class → ℕ) (sites : List Site) (xs : List Stepped) → sum_by (stored_cycles costs sites) xs ≡ sum_by (λ x. costs x.class) xs + sum_by (extra_cycles costs sites) xs
both_sums costs sites [] = refl
both_sums costs sites (x ∷ xs) =
    let rest = both_sums costs sites xs in
    omega (arith, rest, sum_by-cons (stored_cycles costs sites) x xs, sum_by-cons (λ y. costs y.class) x xs, sum_by-cons (extra_cycles costs sites) x xs)

pub bounded_by : (power : PowerModel) → IsPowerModel power → (image stored : Image) (sites : List Site) (start : ℕ) (code : Code) (l : Loops) (extent : ℕ → ℕ → Bool) (n : Numbers) →
    IsAnalyzed (text_graph (text_of image) code) l extent (extra_site_weights (text_of image) code (costs_of power) sites) n →
    (input : List ℕ) (steps : ℕ) (c : Carried) (kept : IsKeptRun (text_of image) code l (costs_of power) (run_of image (length power.levels) input steps) c) (f : IsFollowed image stored (length power.levels) sites start input steps) →
    let original = (run_of image (length power.levels) input steps).steps in
    let run = (run_of stored (length power.levels) input f.after).steps in
    (length original ≤ length run) × (length run ≤ length original + n.worst 0) × (sum_by (λ x. costs_of power x.class) run ≤ sum_by (λ x. costs_of power x.class) original + n.worst 0)
bounded_by power ok image stored sites start code l extent n is input count c kept f =
    let t = text_of image in
    let g : Graph = text_graph t code in
    let costs = costs_of power in
    let moves = kept.moves in
    let legs = f.legs in
    let original = (run_of image (length power.levels) input count).steps in
    let run = (run_of stored (length power.levels) input f.after).steps in
    let aligned : AreAligned t code moves original = record { places = kept.places; classes = kept.classes } in
    let extra : sum_by (extra_cycles costs sites) original ≤ n.worst 0 =
    subst (λ x. x ≤ n.worst 0) (extra_sum t code costs sites moves original aligned) (run-worst g l extent (extra_site_weights t code costs sites) n is.program is.accepted is.weights is.numbers moves kept.kept) in
    let many : length legs ≡ length original = sym (length-map legs (λ l. l.step)) ∙ ap (λ (xs : List Stepped). length xs) f.originals_are in
    let extra_legs : sum_by (extra_cycles costs sites) (originals legs) ≡ sum_by (extra_cycles costs sites) original = ap (sum_by (extra_cycles costs sites)) f.originals_are in
    let taken : length run ≡ length (all_steps legs) = ap (λ (xs : List Stepped). length xs) f.steps in
    let short = short_legs sites (shadow_first start) legs f.are costs (each_positive power ok) in
    let long = long_legs sites (shadow_first start) legs f.are in
    let cost : stepped_cycles costs run ≡ sum_by (stored_cycles costs sites) original = ap (stepped_cycles costs) f.steps ∙ (cost_of_legs sites (shadow_first start) legs f.are costs ∙ ap (sum_by (stored_cycles costs sites)) f.originals_are) in
    let split = both_sums costs sites original in
    (omega (arith, many, taken, long), omega (arith, many, taken, short, extra, extra_legs), omega (arith, cost, split, extra))

pub stubs_bounded : StubsAreBounded
stubs_bounded = λ power ok image stored sites start code l extent counted word n is input count c f. bounded_by power ok image stored sites start code l extent n is input count c f.kept f.followed
