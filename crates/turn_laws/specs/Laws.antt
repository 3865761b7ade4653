-- Scaffold: the laws of turns, as statements for the contracts of functions.
use Rattle.std.specs.Prelude.{◌≡◌, ℕ, ◌*◌, ◌<◌, ◌≤◌, ◌⊎◌, All, List, length, Option, Some, Ok}
use Rattle.scale_base.specs.State.{Setting, State}
use Rattle.scale_base.specs.Image.{Image, image_of}
use Rattle.scale_base.specs.Run.{run_of, setting_of, start_of}
use Rattle.cost_theory.specs.Graph.{Loops}
use Rattle.cost_theory.specs.Reached.{Code}
use Rattle.code_text.specs.Text.{Text, text_of}
use Rattle.code_text.specs.TextGraph.{text_graph, IsReachedCode}
use Rattle.graph_runs.specs.KeptSteps.{Carried}
use Rattle.graph_runs.specs.KeptRuns.{kept_at, most_returns, IsKeptUpTo}
use Rattle.graph_runs.specs.RunTransitions.{returns_so}
use Rattle.graph_runs.specs.Laws.{IsStartOver}
use Rattle.bound_laws.specs.Turning.{unasked, with_bounds}
use Rattle.bound_laws.specs.Values.{Values, AreBytes}
use Rattle.stack_laws.specs.Areas.{IsLaidOut}
use Rattle.stack_laws.specs.Stacks.{Stacks, view_of, IsStackInvariant, AreTold}
use Rattle.stack_laws.specs.Tidy.{IsTidy}
use Rattle.stack_laws.specs.Returning.{ComesBack}
use Rattle.stack_laws.specs.Laws.{IsStackAnalysed}
use Rattle.turn_laws.specs.Relating.{TurnCertificate, IsTurnCertificate, IsShown, IsInputWithin}

-- As long as a run is tidy and its returns go back to their calls, a loop with a certificate turns no more often than its width allows.
abbrev pub TurnCertificatesBoundTurns : Type 0
TurnCertificatesBoundTurns = (t : Text) (env : Setting) (s : State) (code : Code) (v : Values) (w : Stacks) (most : Option ℕ)
    (l : Loops) (k : ℕ) (c : TurnCertificate) → IsStartOver t env s → IsReachedCode t code → IsStackInvariant t (text_graph t code) v w →
    IsLaidOut env.layout w.areas w.fixed → AreTold v w s.pc (view_of w s.regs s.regs s.bytes) → AreBytes s.bytes → All (λ x. x < 256) env.input →
    IsInputWithin most env.input → IsTurnCertificate t (text_graph t code) v w most (l.header k) (l.inside k) c →
    (n : ℕ) → IsTidy v w env s n → (d : Carried) → kept_at env s (unasked l) n ≡ Some d → d.counts k * c.least ≤ c.width

-- As long as a run is tidy and its returns go back to their calls it is kept by these bounds, where each is shown by the code or is no less than
-- one by which it is kept.
abbrev pub TidyBoundsAreKept : Type 0
TidyBoundsAreKept = (t : Text) (env : Setting) (s : State) (code : Code) (v : Values) (w : Stacks) (most : Option ℕ) (l : Loops)
    (bounds : ℕ → ℕ) → IsStartOver t env s → IsReachedCode t code → IsStackInvariant t (text_graph t code) v w →
    IsLaidOut env.layout w.areas w.fixed → AreTold v w s.pc (view_of w s.regs s.regs s.bytes) → AreBytes s.bytes → All (λ x. x < 256) env.input →
    IsInputWithin most env.input →
    ((k : ℕ) → k < l.loops → IsShown t (text_graph t code) v w most l k ⊎ (bounds k ≤ l.bound k)) →
    (n : ℕ) → IsTidy v w env s n → (d : Carried) → kept_at env s (with_bounds l bounds) n ≡ Some d → kept_at env s l n ≡ Some d

-- As long as a run is tidy it is kept, where all bounds are shown, no loop has to turn and the code says so of returns.
abbrev pub TidyRunsAreKept : Type 0
TidyRunsAreKept = (t : Text) (env : Setting) (s : State) (code : Code) (v : Values) (w : Stacks) (most : Option ℕ) (l : Loops) →
    IsStartOver t env s → IsReachedCode t code → IsStackInvariant t (text_graph t code) v w → ComesBack t (text_graph t code) v w →
    IsLaidOut env.layout w.areas w.fixed → AreTold v w s.pc (view_of w s.regs s.regs s.bytes) → AreBytes s.bytes → All (λ x. x < 256) env.input →
    IsInputWithin most env.input →
    ((k : ℕ) → k < l.loops → IsShown t (text_graph t code) v w most l k × (l.least_trips k ≡ 0)) →
    (n : ℕ) → IsTidy v w env s n → (d : Carried) × (kept_at env s l n ≡ Some d) × (length d.returns ≤ most_returns)

-- As long as it is tidy, a run of an image that is kept by some bounds is kept by these, where each loop's bound is shown by the code or is no
-- less than the other.
abbrev pub ShownBoundsAreKept : Type 0
ShownBoundsAreKept = (file : List ℕ) (image : Image) (levels : ℕ) (input : List ℕ) (code : Code) (v : Values) (w : Stacks)
    (most : Option ℕ) (l : Loops) (bounds : ℕ → ℕ) → image_of file ≡ Ok image →
    All (λ x. x < 256) file → All (λ x. x < 256) input → IsInputWithin most input → IsStackAnalysed image code v w →
    ((k : ℕ) → k < l.loops → IsShown (text_of image) (text_graph (text_of image) code) v w most l k ⊎ (bounds k ≤ l.bound k)) →
    (n : ℕ) → IsTidy v w (setting_of image levels input) (start_of image levels) n →
    IsKeptUpTo image levels input (with_bounds l bounds) n → IsKeptUpTo image levels input l n

-- Where all bounds are shown, and no loop has to turn, a run is kept as long as it is tidy, if its returns go back to their calls and its calls
-- are not too deep.
abbrev pub ShownBoundsAreKeptByReturns : Type 0
ShownBoundsAreKeptByReturns = (file : List ℕ) (image : Image) (levels : ℕ) (input : List ℕ) (code : Code) (v : Values) (w : Stacks)
    (most : Option ℕ) (l : Loops) → image_of file ≡ Ok image →
    All (λ x. x < 256) file → All (λ x. x < 256) input → IsInputWithin most input → IsStackAnalysed image code v w →
    ((k : ℕ) → k < l.loops → IsShown (text_of image) (text_graph (text_of image) code) v w most l k × (l.least_trips k ≡ 0)) →
    (n : ℕ) → IsTidy v w (setting_of image levels input) (start_of image levels) n →
    ((m : ℕ) → m ≤ n → (rs : List ℕ) × (returns_so (run_of image levels input m).steps ≡ Some rs) × (length rs ≤ most_returns)) →
    IsKeptUpTo image levels input l n

-- Where all bounds are shown, no loop has to turn and the code says so of returns, every run of the image is kept as long as it is tidy, on
-- each input.
abbrev pub RunsAreKept : Type 0
RunsAreKept = (file : List ℕ) (image : Image) (levels : ℕ) (input : List ℕ) (code : Code) (v : Values) (w : Stacks)
    (most : Option ℕ) (l : Loops) →
    image_of file ≡ Ok image →
    All (λ x. x < 256) file → All (λ x. x < 256) input → IsInputWithin most input → IsStackAnalysed image code v w →
    ComesBack (text_of image) (text_graph (text_of image) code) v w →
    ((k : ℕ) → k < l.loops → IsShown (text_of image) (text_graph (text_of image) code) v w most l k × (l.least_trips k ≡ 0)) →
    (n : ℕ) → IsTidy v w (setting_of image levels input) (start_of image levels) n → IsKeptUpTo image levels input l n
