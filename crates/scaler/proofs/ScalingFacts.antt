-- From the marks of a program and its stubs to what is given.
use Rattle.std.proofs.Common.{◌≡◌, ℕ, Bool, List, Result, Ok, Err, refl, ap, subst, inl, inr, ⊎_elim}
use Rattle.scale_base.specs.declared.fragments.Mark.{Mark}
use Rattle.scale_base.specs.declared.refusal.Refusal.{Refusal}
use Rattle.scale_base.specs.declared.refusal.Stop.{Stop}
use Rattle.scale_base.specs.declared.refusal.Stop.TheVariants.{Refused, Memory}
use Rattle.scale_base.specs.declared.summary.Summary.{Summary}
use Rattle.scale_base.specs.Answer.{AnswersBy}
use Rattle.scale_base.specs.Image.{Image}
use Rattle.power_model.specs.Numbers.{PowerModel}
use Rattle.cost_theory.specs.Worst.{Numbers, AreNumbers}
use Rattle.code_text.specs.Text.{text_of}
use Rattle.flow_graph.specs.FlowGraph.{FlowGraph, graph, IsGraphOf}
use Rattle.loop_file.specs.declared.notes.LoopNote.{LoopNote}
use Rattle.loop_forest.specs.Tree.{LoopView, loops, IsTreeOf}
use Rattle.level_tables.specs.Tables as tables
use Rattle.level_tables.specs.declared.edge_numbers.EdgeNumbers.{EdgeNumbers}
use Rattle.scale_sites.specs.Counters.{AreCounters, counted_loops}
use Rattle.stub_writer.specs.Stubs.{out_of_reach}
use Rattle.rewritten_runs.specs.Stubs.{IsWeighed, HasStubsWith, rewritten_file, stored_weights}
use Rattle.marked_images.specs.declared.stubs.Marked.{Marked}
use Rattle.marked_images.specs.declared.stubs.Marking.{Marking}
use Rattle.marked_images.specs.Scalings.{IsUnfit}
use Rattle.marked_images.specs.Stored.{IsStubbedProgram, by_deadline, rewritten_summary, unless_out_of_reach}
use Rattle.marked_images.specs.Wanted.{marked_where}
use Rattle.scaler.specs.Rewritten.{IsRewrittenProgram}
use Rattle.scaler.specs.Scalings.{ArePlain, IsMarkedFound, IsMarkingBySlack, wanted_by_slack}
use Rattle.scaler.proofs.SlackMarks.{marks_are, test_is}

-- ---- stops

abbrev IsUnmarked : PowerModel → Image → List LoopNote → Stop → Type 0
IsUnmarked power image notes stop = AnswersBy {X = Marked} {Y = Marked} (λ m. m) (Err stop) (IsMarkedFound power image notes)

pub counters_stop : (power : PowerModel) (image : Image) (notes : List LoopNote) (v : FlowGraph) (t : LoopView) (stop : Stop) → IsGraphOf (text_of image) v → IsTreeOf v notes t → AnswersBy {X = List ℕ} {Y = List ℕ} (λ c. c) (Err stop) (AreCounters v t) → IsUnmarked power image notes stop
counters_stop power image notes v t Memory is tree h = tt
counters_stop power image notes v t (Refused refusal) is tree h = inr (inr (inl (record { code = v; tree = t; refusal = refusal; code_is = is; tree_is = tree; why = h; answer_is = refl })))

module _ (power : PowerModel) (image : Image) (notes : List LoopNote) (v : FlowGraph) (t : LoopView) (is : IsGraphOf (text_of image) v) (tree : IsTreeOf v notes t) (counts : AreCounters v t (Ok (counted_loops t))) where
  unfit : (refusal : Refusal) (plain stored : Numbers) → ArePlain power image v t plain → IsUnfit power image v t (wanted_by_slack power image v t plain) stored refusal → IsRewrittenProgram power image notes (Err refusal)
  unfit refusal plain stored plain_are u =
      let stored_are = subst (λ (marked : ℕ → List Mark). AreNumbers (graph v) (loops v t) (stored_weights power image v marked) stored) (marks_are power image v t plain) u.stored_are in
      let weighed : IsWeighed power image notes v t plain stored = record { code_is = is; tree_is = tree; counters = counts; plain_are = plain_are; stored_are = stored_are } in
      ⊎_elim
      (λ long. inr (inr (inr (inl (record { code = v; tree = t; plain = plain; stored = stored; weighed = weighed; long = long.0; answer_is = ap (λ r. Err r) long.1 })))))
      (λ late. inr (inr (inr (inr (inl (record { code = v; tree = t; plain = plain; stored = stored; weighed = weighed; short = late.0; late = late.1; answer_is = ap (λ r. Err r) late.2 }))))))
      u.why

  pub marking_stops : (stop : Stop) → AnswersBy {X = Marking × ℕ} {Y = Marking × ℕ} (λ x. x) (Err stop) (IsMarkingBySlack power image v t) → IsUnmarked power image notes stop
  marking_stops Memory h = tt
  marking_stops (Refused refusal) h = unfit refusal h.0 h.2.0 h.1 h.2.1

-- ---- the program with its stubs

pub rewritten_of : (power : PowerModel) (image : Image) (notes : List LoopNote) (v : FlowGraph) (t : LoopView) (plain : Numbers) (answer : Result (List ℕ × Summary) Refusal) → ArePlain power image v t plain
    → IsStubbedProgram power image notes v t (wanted_by_slack power image v t plain) (by_deadline power) answer → IsRewrittenProgram power image notes answer
rewritten_of power image notes v t plain answer plain_are h =
    let wanted = wanted_by_slack power image v t plain in
    let same = marks_are power image v t plain in
    let stubs = subst (λ (marked : ℕ → List Mark). HasStubsWith power (tables.meets_both power) image v t marked h.stored h.extra h.least h.sites h.base) same
    (subst (λ (test : EdgeNumbers → ℕ → ℕ → Bool). HasStubsWith power test image v t (marked_where v t wanted) h.stored h.extra h.least h.sites h.base) (test_is power h.start (h.stored.worst 0)) h.stubs) in
    let answer_is = subst (λ (marked : ℕ → List Mark). answer ≡ unless_out_of_reach (out_of_reach h.base h.sites) (rewritten_file image h.sites h.base h.start, rewritten_summary power v marked h.start (h.stored.worst 0) (h.extra.worst 0) h.sites)) same h.answer_is in
    inr (inr (inr (inr (inr (record {
      code = v;
      tree = t;
      plain = plain;
      stored = h.stored;
      extra = h.extra;
      least = h.least;
      sites = h.sites;
      base = h.base;
      start = h.start;
      weighed = record {
        code_is = h.weighed.code_is;
        tree_is = h.weighed.tree_is;
        counters = h.weighed.counters;
        plain_are = plain_are;
        stored_are = subst (λ (marked : ℕ → List Mark). AreNumbers (graph v) (loops v t) (stored_weights power image v marked) h.stored) same h.weighed.stored_are;
      };
      short = h.short;
      slow = h.slow;
      stubs = stubs;
      answer_is = answer_is;
    })))))
