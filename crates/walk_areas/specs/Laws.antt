-- Scaffold: the laws of walks, as statements for the contracts of functions.
use Rattle.std.specs.Prelude.{◌≡◌, ℕ, ◌*◌, ◌<◌, ◌≤◌, All, Some}
use Rattle.scale_base.specs.State.{Setting, State}
use Rattle.cost_theory.specs.Graph.{Loops}
use Rattle.cost_theory.specs.Reached.{Code}
use Rattle.code_text.specs.Text.{Text}
use Rattle.code_text.specs.TextGraph.{text_graph, IsReachedCode}
use Rattle.graph_runs.specs.KeptSteps.{Carried}
use Rattle.graph_runs.specs.KeptRuns.{kept_at}
use Rattle.graph_runs.specs.Laws.{IsStartOver}
use Rattle.bound_laws.specs.Turning.{unasked}
use Rattle.bound_laws.specs.Values.{Values, AreBytes}
use Rattle.stack_laws.specs.Areas.{IsLaidOut}
use Rattle.stack_laws.specs.Stacks.{Stacks, view_of, IsStackInvariant, AreTold}
use Rattle.stack_laws.specs.Tidy.{IsTidy}
use Rattle.walk_areas.specs.Walking.{WalkCertificate, IsWalkCertificate}

-- As long as a run is tidy and its returns go back to their calls, a loop with a certificate of a walk turns no more often than its width
-- allows.
abbrev pub WalkCertificatesBoundTurns : Type 0
WalkCertificatesBoundTurns = (t : Text) (env : Setting) (s : State) (code : Code) (v : Values) (w : Stacks) (l : Loops) (k : ℕ)
    (c : WalkCertificate) → IsStartOver t env s → IsReachedCode t code → IsStackInvariant t (text_graph t code) v w →
    IsLaidOut env.layout w.areas w.fixed → AreTold v w s.pc (view_of w s.regs s.regs s.bytes) → AreBytes s.bytes → All (λ x. x < 256) env.input →
    IsWalkCertificate t (text_graph t code) v w (l.header k) (l.inside k) c →
    (n : ℕ) → IsTidy v w env s n → (d : Carried) → kept_at env s (unasked l) n ≡ Some d → d.counts k * c.least ≤ c.width
