-- Where the marks of a program stop, and its budgets.
use Rattle.std.proofs.Common.{◌≡◌, ℕ, ◌<◌, ◌≤◌, List, length, slice_get, Some, Ok, Err, refl, sym, ap, subst, arith, inr, inl, ⊎_elim}
use Rattle.scale_base.specs.declared.refusal.Refusal.{Refusal}
use Rattle.scale_base.specs.declared.refusal.Stop.{Stop}
use Rattle.scale_base.specs.declared.refusal.Stop.TheVariants.{Refused, Memory}
use Rattle.scale_base.specs.Answer.{AnswersBy}
use Rattle.scale_base.specs.Image.{Image}
use Rattle.power_model.specs.Numbers.{PowerModel}
use Rattle.power_model.specs.Price.{time_at}
use Rattle.power_model.specs.Slowest.{is_in_time}
use Rattle.code_text.specs.Text.{text_of}
use Rattle.cost_theory.specs.Worst.{Numbers}
use Rattle.flow_graph.specs.FlowGraph.{FlowGraph, IsGraphOf}
use Rattle.level_tables.specs.declared.by_level.LevelBudgets.{LevelBudgets}
use Rattle.level_tables.specs.Budgets.{budget_at}
use Rattle.loop_file.specs.declared.notes.LoopNote.{LoopNote}
use Rattle.loop_forest.specs.Tree.{LoopView, IsTreeOf}
use Rattle.scale_sites.specs.Counters.{AreCounters, counted_loops}
use Rattle.rewritten_runs.specs.Stubs.{IsWeighedWith}
use Rattle.marked_images.specs.declared.stubs.Marked.{Marked}
use Rattle.marked_images.specs.declared.stubs.Marking.{Marking}
use Rattle.marked_images.specs.Markings.{IsMarking}
use Rattle.marked_images.specs.Scalings.{IsMarkingFound, IsUnfit}
use Rattle.marked_images.specs.Stored.{BudgetRule, by_deadline}
use Rattle.marked_images.specs.Wanted.{Wanted, marked_where}
use Rattle.marked_images.proofs.Laws.{found_below, found_in_time}
use Rattle.paced_images.specs.declared.wanted.SwitchSite.{SwitchSite}
use Rattle.paced_images.specs.Paced.{IsPacedProgram}
use Rattle.paced_images.specs.Programs.{IsMarkedFound}
use Rattle.paced_images.specs.Wanted.{wanted_of}

abbrev IsUnmarked : PowerModel → Image → List LoopNote → List SwitchSite → (tallied : List ℕ) (share : ℕ) → Stop → Type 0
IsUnmarked power image notes sites tallied share stop = AnswersBy {X = Marked} {Y = Marked} (λ m. m) (Err stop) (IsMarkedFound power image notes sites tallied share)

pub counters_stop : (power : PowerModel) (image : Image) (notes : List LoopNote) (sites : List SwitchSite) (tallied : List ℕ) (share : ℕ) (v : FlowGraph) (t : LoopView) (stop : Stop) → IsGraphOf (text_of image) v → IsTreeOf v notes t → AnswersBy {X = List ℕ} {Y = List ℕ} (λ c. c) (Err stop) (AreCounters v t) → IsUnmarked power image notes sites tallied share stop
counters_stop power image notes sites tallied share v t Memory is tree h = tt
counters_stop power image notes sites tallied share v t (Refused refusal) is tree h = inr (inr (inl (record { code = v; tree = t; refusal = refusal; code_is = is; tree_is = tree; why = h; answer_is = refl })))

module _ (power : PowerModel) (image : Image) (notes : List LoopNote) (sites : List SwitchSite) (tallied : List ℕ) (share : ℕ) (v : FlowGraph) (t : LoopView) (is : IsGraphOf (text_of image) v) (tree : IsTreeOf v notes t) (counts : AreCounters v t (Ok (counted_loops t))) where
  abbrev wanted : Wanted
  wanted = wanted_of v t sites tallied

  unfit : (refusal : Refusal) (stored : Numbers) → IsUnfit power image v t wanted stored refusal → IsPacedProgram power image notes sites tallied share (Err refusal)
  unfit refusal stored u =
      let weighed : IsWeighedWith power image notes v t (marked_where v t wanted) stored = record { code_is = is; tree_is = tree; counters = counts; stored_are = u.stored_are } in
      ⊎_elim
      (λ long. inr (inr (inr (inl (record { code = v; tree = t; stored = stored; weighed = weighed; long = long.0; answer_is = ap (λ r. Err r) long.1 })))))
      (λ late. inr (inr (inr (inr (inl (record { code = v; tree = t; stored = stored; weighed = weighed; short = late.0; late = late.1; answer_is = ap (λ r. Err r) late.2 }))))))
      u.why

  pub marking_stops : (stop : Stop) → AnswersBy {X = Marking × ℕ} {Y = Marking × ℕ} (λ x. x) (Err stop) (IsMarkingFound power image v t wanted (by_deadline power)) → IsUnmarked power image notes sites tallied share stop
  marking_stops Memory h = tt
  marking_stops (Refused refusal) h = unfit refusal h.0 h.1

-- ---- other budgets

module _ (power : PowerModel) (image : Image) (v : FlowGraph) (t : LoopView) (wanted : Wanted) (rule other : BudgetRule) (m : Marking) (start : ℕ) (h : IsMarkingFound power image v t wanted rule (Ok (m, start))) where
  -- a marking is that of its marks and its numbers, whatever its budgets
  rebudgeted : (b : LevelBudgets) → IsMarking power image v t wanted h.0 h.1 (record m { budgets = b })
  rebudgeted b =
      let k = h.2.marking in
      record {
        code = k.code;
        tree = k.tree;
        counters = k.counters;
        few = k.few;
        kinds = k.kinds;
        size = k.size;
        marks = k.marks;
        slacks_size = k.slacks_size;
        rests_size = k.rests_size;
        iterations_size = k.iterations_size;
        left = k.left;
        iteration = k.iteration;
        after_size = k.after_size;
        after = k.after;
        slack_small = k.slack_small;
        rest_small = k.rest_small;
        turns_small = k.turns_small;
        after_small = k.after_small;
      }

  pub with_budgets : (b : LevelBudgets) → ((i : ℕ) → budget_at b i ≡ other start (h.0.worst 0) i) → IsMarkingFound power image v t wanted other (Ok (record m { budgets = b }, start))
  with_budgets b fits = (
    h.0,
    h.1,
    record {
      stored_are = h.2.stored_are;
      least_are = h.2.least_are;
      marks = h.2.marks;
      marking = rebudgeted b;
      short = h.2.short;
      worst = h.2.worst;
      slow = h.2.slow;
      budgets = fits;
    },
  )

  -- the total is that of its numbers
  pub total_is : (total : ℕ) → slice_get m.worst.worst 0 ≡ Some total → total ≡ h.0.worst 0
  total_is total e = let a = h.2.worst in cc

  pub level_low : start < length power.levels
  level_low = let lt = found_below (is_in_time power (h.0.worst 0)) 0 (length power.levels) start h.2.slow in omega (arith, lt)

  pub level_in_time : (total : ℕ) → slice_get m.worst.worst 0 ≡ Some total → time_at power start total ≤ power.deadline
  level_in_time total e = subst (λ k. time_at power start k ≤ power.deadline) (sym (total_is total e)) (found_in_time power (h.0.worst 0) start h.2.slow)
