-- Scaffold: the laws of lower loop bounds, as statements for the contracts of functions.
use Rattle.std.specs.Prelude.{◌≡◌, ℕ, suc, ◌<◌, ◌≤◌, ◌⊎◌, true, All, List, Some, Ok}
use Rattle.scale_base.specs.declared.stepping.Stepped.{Stepped}
use Rattle.scale_base.specs.declared.stepping.StepEnd.TheVariants.{Went}
use Rattle.scale_base.specs.State.{Setting, State}
use Rattle.scale_base.specs.Step.{step}
use Rattle.scale_base.specs.Image.{Image, image_of}
use Rattle.scale_base.specs.Run.{GoesOn, run, setting_of, start_of}
use Rattle.cost_theory.specs.Graph.{Loops, with_trips}
use Rattle.cost_theory.specs.Reached.{Code}
use Rattle.code_text.specs.Text.{Text, text_of}
use Rattle.code_text.specs.TextGraph.{text_graph, IsReachedCode}
use Rattle.graph_runs.specs.KeptSteps.{Carried, leaves_by}
use Rattle.graph_runs.specs.KeptRuns.{kept_at, IsKeptUpTo}
use Rattle.graph_runs.specs.Laws.{IsStartOver}
use Rattle.bound_laws.specs.Turning.{unasked}
use Rattle.bound_laws.specs.Values.{Values, AreBytes}
use Rattle.stack_laws.specs.Areas.{IsLaidOut}
use Rattle.stack_laws.specs.Stacks.{Stacks, view_of, IsStackInvariant, AreTold}
use Rattle.stack_laws.specs.Tidy.{IsTidy}
use Rattle.stack_laws.specs.Laws.{IsStackAnalysed}
use Rattle.lower_bounds.specs.LowerBounds.{LowerCertificate, IsLowerCertificate, IsLowerShown}

-- As long as a run is tidy and its returns go back to their calls, a step that leaves a loop with a certificate leaves it after so many turns
-- at least.
abbrev pub LowerCertificatesBoundTurns : Type 0
LowerCertificatesBoundTurns = (t : Text) (env : Setting) (s : State) (code : Code) (v : Values) (w : Stacks) (l : Loops) (k trips : ℕ)
    (c : LowerCertificate) → IsStartOver t env s → IsReachedCode t code →
    IsStackInvariant t (text_graph t code) v w → IsLaidOut env.layout w.areas w.fixed → AreTold v w s.pc (view_of w s.regs s.regs s.bytes) →
    AreBytes s.bytes → All (λ x. x < 256) env.input →
    IsLowerCertificate t (text_graph t code) v w (l.header k) (l.inside k) trips c →
    (n : ℕ) → IsTidy v w env s (suc n) → (d : Carried) (x : Stepped) → (run env s n).standing ≡ GoesOn → (step env (run env s n).state).end ≡ Went x →
    kept_at env s (unasked l) (suc n) ≡ Some d →
    leaves_by x.moved l x.pc x.next k ≡ true → trips ≤ d.counts k

-- As long as it is tidy, a run of an image that is kept by loops that have to turn so often is kept by these, where the least turns of each loop
-- are shown by the code or are no more than the others.
abbrev pub LowerBoundsAreKept : Type 0
LowerBoundsAreKept = (file : List ℕ) (image : Image) (levels : ℕ) (input : List ℕ) (code : Code) (v : Values) (w : Stacks) (l : Loops)
    (trips : ℕ → ℕ) → image_of file ≡ Ok image →
    All (λ x. x < 256) file → All (λ x. x < 256) input → IsStackAnalysed image code v w →
    ((k : ℕ) → k < l.loops → IsLowerShown (text_of image) (text_graph (text_of image) code) v w l k ⊎ (l.least_trips k ≤ trips k)) →
    (n : ℕ) → IsTidy v w (setting_of image levels input) (start_of image levels) n →
    IsKeptUpTo image levels input (with_trips l trips) n → IsKeptUpTo image levels input l n
