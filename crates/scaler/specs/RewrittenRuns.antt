-- What a rewritten image promises, over the bytes of files.
use Rattle.std.specs.Prelude.{◌≡◌, ℕ, List}
use Rattle.scale_base.specs.declared.summary.Summary.{Summary}
use Rattle.scale_base.specs.Image.{Image}
use Rattle.power_model.specs.Numbers.{PowerModel}
use Rattle.loop_file.specs.declared.notes.LoopNote.{LoopNote}
use Rattle.cost_theory.specs.Worst.{Numbers}
use Rattle.cycle_laws.specs.Charged.{Charged}
use Rattle.flow_graph.specs.FlowGraph.{FlowGraph}
use Rattle.loop_forest.specs.Tree.{LoopView}
use Rattle.stub_writer.specs.Stubs.{Site}
use Rattle.rewritten_runs.specs.Stubs.{IsWeighed, HasStubs, rewritten_file, stored_weights, marks_by_slack}
use Rattle.rewritten_runs.specs.Followed.{FollowsInTime}
use Rattle.marked_images.specs.Promise.{IsStoredSafely}

-- The program of an original with its numbers and its stubs, of which the stored bytes are made: the printed numbers are its own, and the stored image follows the
-- original in time.
pub record IsProgramStored (power : PowerModel) (original : Image) (notes : List LoopNote) (rewritten : Image) (stored : List ℕ)
    (summary : Summary) : Type 0 where
  pub code : FlowGraph
  pub tree : LoopView
  pub plain : Numbers
  pub numbers : Numbers
  pub extra : Numbers
  pub least : Charged
  pub sites : List Site
  pub base : ℕ
  pub weighed : IsWeighed power original notes code tree plain numbers
  pub stubs : HasStubs power original code tree plain numbers extra least sites base
  pub file_is : stored ≡ rewritten_file original sites base summary.start
  pub printed : (summary.worst ≡ numbers.worst 0) × (summary.stub_cycles ≡ extra.worst 0)
  pub follows : FollowsInTime power original rewritten notes code tree (stored_weights power original code
      (marks_by_slack power original code tree plain)) plain numbers summary.stub_cycles

-- The bytes of an image, of a machine file, of a loop file and of the stored image: the stored image keeps the promise with the printed numbers, starts at the slowest
-- level that is in time, and follows the original in time.
pub record IsRewrittenSafely (image machine loop_file stored : List ℕ) (summary : Summary) : Type 0 where
  pub safe : IsStoredSafely image machine loop_file stored summary
  pub program : IsProgramStored safe.files.power safe.files.original safe.files.notes safe.files.rewritten stored summary
