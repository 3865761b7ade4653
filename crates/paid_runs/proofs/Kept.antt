-- The stored image follows kept runs.
use Rattle.std.proofs.Common.{◌≡◌, ℕ, zero, suc, ◌+◌, ◌-◌, ◌%◌, ◌≤◌, Bool, true, List, refl, sym, ap, ◌∙◌, subst, arith, Option, Some, None, inl, inr, eqb-true, eq-eqb}
use Rattle.std.specs.Prelude.{◌==◌}
use Rattle.std.specs.List.{list_any}
use Rattle.std.proofs.lemmas.Bool.{and_from, both_ways}
use Rattle.scale_base.specs.declared.stepping.Class.{Class}
use Rattle.scale_base.specs.declared.stepping.StepEnd.{StepEnd}
use Rattle.scale_base.specs.declared.stepping.StepEnd.TheVariants.{Went, Exited, Trapped}
use Rattle.scale_base.specs.Image.{Image, is_in}
use Rattle.scale_base.specs.Step.{step}
use Rattle.scale_base.specs.State.{Setting, State}
use Rattle.scale_base.specs.Run.{Run, Standing, GoesOn, HasExited, HasTrapped, run, run_of, setting_of, start_of}
use Rattle.cost_theory.specs.Graph.{Loops}
use Rattle.cost_theory.specs.Accepted.{IsProgram}
use Rattle.cost_theory.specs.Reached.{Code}
use Rattle.cost_theory.specs.Steps as steps
use Rattle.cost_theory.proofs.Laws.{search_below, is_program}
use Rattle.code_text.specs.Text.{Text, text_of, kind_at}
use Rattle.graph_runs.specs.RunTransitions.{StandsBy}
use Rattle.code_text.specs.TextGraph.{text_graph}
use Rattle.graph_runs.specs.KeptSteps.{Carried, by_extents}
use Rattle.graph_runs.specs.KeptRuns.{watched, kept_at, KeptAt, IsKeptRun}
use Rattle.graph_runs.specs.Laws.{IsProgramOf}
use Rattle.graph_runs.proofs.Laws.{image_runs_are_kept_transitions}
use Rattle.code_text.proofs.Laws.{kind_facts}
use Rattle.stub_writer.specs.Stubs.{Site}
use Rattle.stored_runs.specs.Marks.{shadow_first, shadow_after}
use Rattle.stored_runs.specs.Stubbed.{KeepsLimits}
use Rattle.stored_runs.proofs.Laws.{patched_runs, stubbed_patched}
use Rattle.paid_runs.specs.Shadows.{counted_moves}
use Rattle.paid_runs.proofs.Shown.{counts_shown, counts_within}
use Rattle.paid_runs.specs.Counters.{AreCounterWords, AreCounted, AreCounting, by_words}
use Rattle.paid_runs.specs.MarkedLaws.{KeptRunsStayInText, KeptRunsAreFollowed, KeptRunsArePatched, TransitionsCostStoredWeights, TransitionsCostExtraWeights}
use Rattle.paid_runs.proofs.Aligned.{AreAligned, stored_sum, extra_sum, counters_are, others_are}
use Rattle.paid_runs.proofs.Words.{word_of_loop, is_word, counters_of, counted_of}

-- ---- a part of a kept run is kept

watched_before : (l : Loops) (o : Option Carried) (st : Standing) (end : StepEnd) (d : Carried) → watched l o st end ≡ Some d → (c : Carried) × (o ≡ Some c)
watched_before l (Some c) st end d h = (c, refl)
watched_before l None GoesOn (Went x) d h = let never : ⊥ = cc in absurd never
watched_before l None GoesOn (Exited x status) d h = let never : ⊥ = cc in absurd never
watched_before l None GoesOn (Trapped trap) d h = let never : ⊥ = cc in absurd never
watched_before l None (HasExited status) end d h = let never : ⊥ = cc in absurd never
watched_before l None (HasTrapped trap) end d h = let never : ⊥ = cc in absurd never

kept_part : (env : Setting) (s : State) (l : Loops) (m k : ℕ) (c : Carried) → kept_at env s l (k + m) ≡ Some c → (d : Carried) × (kept_at env s l m ≡ Some d)
unfolding kept_at
kept_part env s l m zero c h = let e : zero + m ≡ m = omega arith in (c, ap (kept_at env s l) (sym e) ∙ h)
kept_part env s l m (suc k) c h =
    let e : suc k + m ≡ suc (k + m) = omega arith in
    let b = watched_before l (kept_at env s l (k + m)) (run env s (k + m)).standing (step env (run env s (k + m)).state).end c (ap (kept_at env s l) (sym e) ∙ h) in
    kept_part env s l m k b.0 b.1

kept_before : (env : Setting) (s : State) (l : Loops) (m n : ℕ) (c : Carried) → m ≤ n → kept_at env s l n ≡ Some c → (d : Carried) × (kept_at env s l m ≡ Some d)
kept_before env s l m n c le h = let e : n ≡ (n - m) + m = omega arith in kept_part env s l m (n - m) c (ap (kept_at env s l) (sym e) ∙ h)

stands_so : (t : Text) (code : Code) (l : Loops) (costs : Class → ℕ) (r : Run) (c : Carried) (kept : IsKeptRun t code l costs r c) → r.standing ≡ GoesOn → KeptAt t code l r c kept.moves
stands_so t code l costs r c kept goes = subst (λ q. StandsBy q (KeptAt t code l r c kept.moves)) goes kept.stands

no_cost : Class → ℕ
no_cost class = 0

pub stays_in_text : KeptRunsStayInText
stays_in_text = λ file image levels input code l extent e prog n c kept m lt goes.
    let t = text_of image in
    let d = kept_before (setting_of image levels input) (start_of image levels) (by_extents l extent) m n c (omega arith) kept in
    let moves = image_runs_are_kept_transitions file image levels input code l extent no_cost e prog m d.0 d.1 in
    let at = stands_so t code l no_cost (run_of image levels input m) d.0 moves goes in
    let pc = (run_of image levels input m).state.pc in
    let facts = kind_facts t pc (prog.reached.words at.function pc at.reached) in
    and_from (pc % 4 == 0) (list_any (is_in pc) image.text) (eq-eqb (pc % 4) 0 facts.0) facts.1

module _ (image : Image) (sites : List Site) (start : ℕ) (code : Code) (l : Loops) (extent : ℕ → ℕ → Bool) (limits : ℕ → ℕ) (is_of : ℕ → ℕ → Bool) (prog : IsProgramOf (text_of image) code l extent)
    (able : AreCounterWords (text_graph (text_of image) code) l limits is_of) (marked : AreCounted (text_of image) code l sites is_of) where
  abbrev t : Text
  t = text_of image

  program : IsProgram (text_graph t code)
  program = is_program (kind_at t) t.entry code prog.reached.lists prog.reached.words prog.calls

  -- the loop itself
  own : (k : ℕ) → (k == k) ≡ true
  own k = eq-eqb k k refl

  module _ (costs : Class → ℕ) (r : Run) (c : Carried) (kept : IsKeptRun t code l costs r c) (goes : r.standing ≡ GoesOn) where
    at : KeptAt t code l r c kept.moves
    at = stands_so t code l costs r c kept goes

    aligned : AreAligned t code kept.moves r.steps
    aligned = record { places = kept.places; classes = kept.classes }

    same : (w k : ℕ) → is_of w k ≡ true → (shadow_after sites (shadow_first start) r.steps).counters w ≡ counted_moves (text_graph t code) l (λ j. 0) kept.moves k
    same w k is = counters_are t code l sites is_of program marked w k is kept.moves r.steps (steps.graph_start (text_graph t code)) (shadow_first start) (λ j. 0) kept.kept aligned refl

    counting : AreCounting t code l is_of sites start r kept.moves
    counting = record {
      shown = λ w k is.
          let shown = counts_shown (text_graph t code) l extent (λ j. j == k) program prog.loops (able.countable w k is) kept.moves kept.kept r.state.pc at.node in
          let here = λ (j : ℕ) (on : (j == k) ≡ true). same w k is ∙ ap (counted_moves (text_graph t code) l (λ j. 0) kept.moves) (sym (eqb-true j k on)) in
          record {
            within = λ j low on e. here j on ∙ shown.within j low on e;
            outside = λ j low on e. here j on ∙ shown.outside j low on e;
          };
      others = λ w none. others_are t code l sites is_of program marked w none kept.moves r.steps (steps.graph_start (text_graph t code)) (shadow_first start) kept.kept aligned;
    }

    -- each counter keeps its limit
    limited : (w : ℕ) → (shadow_after sites (shadow_first start) r.steps).counters w ≤ limits w
    limited w =
        elim (search_below l.loops (is_of w)) [
          | inl found ↦
              let k = found.0 in
              let is = found.2 in
              let bound = counts_within (text_graph t code) l extent (λ j. j == k) program prog.loops (able.countable w k is) kept.moves kept.kept r.state.pc at.node k found.1 (own k) in
              let limit = able.limited w k is in
              let here = same w k is in
              omega (arith, here, bound, limit)
          | inr none ↦
              let zero_is = counting.others w (λ k is. both_ways (is_of w k) (none k (able.loops w k is)) is) in
              omega (arith, zero_is)
        ]

pub kept_patched : KeptRunsArePatched
kept_patched = λ image patched levels limits sites start p code l extent is_of costs prog able marked input n c kept.
    let file = p.original_file in
    let run_kept = image_runs_are_kept_transitions file image levels input code l extent costs p.original_is prog n c kept in
    let keeps : KeepsLimits image levels limits sites start input n = λ m lt goes w.
    let d = kept_before (setting_of image levels input) (start_of image levels) (by_extents l extent) m n c (omega arith) kept in
    let moves = image_runs_are_kept_transitions file image levels input code l extent costs p.original_is prog m d.0 d.1 in
    limited image sites start code l extent limits is_of prog able marked costs (run_of image levels input m) d.0 moves goes w in
    record {
      kept = run_kept;
      followed = patched_runs image patched levels limits sites start p input n (stays_in_text file image levels input code l extent p.original_is prog n c kept) keeps;
      counting = λ goes. counting image sites start code l extent limits is_of prog able marked costs (run_of image levels input n) c run_kept goes;
    }

-- where each counted loop has one word
pub kept_followed : KeptRunsAreFollowed
kept_followed = λ file image levels limits sites base start stored h code l extent counted word costs prog able marked within input n c kept.
    let t = text_of image in
    let is_of = by_words l counted word in
    let p = stubbed_patched file image levels limits sites base start stored h in
    let f = kept_patched image stored levels limits sites start p code l extent is_of costs prog (counters_of l counted word (text_graph t code) limits able within) (counted_of l counted word t code sites marked) input n c kept in
    record {
      kept = f.kept;
      followed = f.followed;
      held = λ goes.
          let all = f.counting goes in
          record {
            shown = record {
              within = λ k low on e. (all.shown (word k) k (is_word l counted word k low on)).within k low (eq-eqb k k refl) e;
              outside = λ k low on e. (all.shown (word k) k (is_word l counted word k low on)).outside k low (eq-eqb k k refl) e;
            };
            others = λ w none. all.others w (λ k is. let q = word_of_loop l counted word w k is in none k q.0 q.1 q.2);
          };
    }

pub stored_cost : TransitionsCostStoredWeights
stored_cost = λ t code l sites r c costs kept. stored_sum t code costs sites kept.moves r.steps (record { places = kept.places; classes = kept.classes })

pub extra_cost : TransitionsCostExtraWeights
extra_cost = λ t code l sites r c costs kept. extra_sum t code costs sites kept.moves r.steps (record { places = kept.places; classes = kept.classes })
