-- The file of its stubs and its summary are what is given for a program.
use Rattle.std.proofs.Common.{◌≡◌, ℕ, List, map, Option, Some, None, Ok, ap, ◌∙◌}
use Rattle.scale_base.specs.declared.summary.Summary.{Summary}
use Rattle.scale_base.specs.Image.{Image}
use Rattle.power_model.specs.Numbers.{PowerModel}
use Rattle.loop_file.specs.declared.notes.LoopNote.{LoopNote}
use Rattle.flow_graph.specs.FlowGraph.{FlowGraph}
use Rattle.loop_forest.specs.Tree.{LoopView}
use Rattle.stub_writer.specs.Stubs.{out_of_reach}
use Rattle.stub_writer.specs.Sites.{site_of}
use Rattle.rewritten_runs.specs.Stubs.{rewritten_file}
use Rattle.marked_images.specs.declared.scaling.Scaling.{Scaling}
use Rattle.marked_images.specs.Scalings.{IsScaled}
use Rattle.marked_images.specs.Stored.{BudgetRule, IsStubbedProgram, rewritten_summary, unless_out_of_reach}
use Rattle.marked_images.specs.Wanted.{Wanted, marked_where}

near_by : (o : Option ℕ) (given made : List ℕ × Summary) → o ≡ None → given ≡ made → Ok given ≡ unless_out_of_reach o made
near_by None given made near same = cc
near_by (Some at) given made near same = let never : ⊥ = cc in absurd never

pub stubbed_of : (power : PowerModel) (original : Image) (notes : List LoopNote) (v : FlowGraph) (t : LoopView) (wanted : Wanted) (rule : BudgetRule) (s : Scaling) (bytes : List ℕ) → IsScaled power original notes v t wanted rule s → bytes ≡ rewritten_file original (map site_of s.stubs.items) s.base s.summary.start
    → IsStubbedProgram power original notes v t wanted rule (Ok (bytes, s.summary))
stubbed_of power original notes v t wanted rule s bytes h e =
    let sites = map site_of s.stubs.items in
    let file = rewritten_file original sites s.base s.summary.start in
    let summary = rewritten_summary power v (marked_where v t wanted) s.summary.start (h.stored.worst 0) (h.extra.worst 0) sites in
    record {
      stored = h.stored;
      extra = h.extra;
      least = h.least;
      sites = sites;
      base = s.base;
      start = s.summary.start;
      weighed = h.weighed;
      short = h.short;
      slow = h.slow;
      stubs = h.stubs;
      answer_is = near_by (out_of_reach s.base sites) (bytes, s.summary) (file, summary) h.near (ap (λ (b : List ℕ). (b, s.summary)) e ∙ ap (λ (z : Summary). (file, z)) h.summary);
    }
