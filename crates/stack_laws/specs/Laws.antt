-- The laws of stacks, as statements for the contracts of functions.
use Rattle.std.specs.Prelude.{◌≡◌, ℕ, ◌*◌, ◌^◌, ◌<◌, ◌≤◌, ◌⊎◌, All, List, length, Some, None, Ok}
use Rattle.scale_base.specs.declared.stepping.Move.TheVariants.{Call}
use Rattle.scale_base.specs.declared.stepping.Stepped.{Stepped}
use Rattle.scale_base.specs.declared.stepping.StepEnd.TheVariants.{Went}
use Rattle.scale_base.specs.State.{Setting, State, reg}
use Rattle.scale_base.specs.Step.{step}
use Rattle.scale_base.specs.Image.{Image, image_of, loaded_byte}
use Rattle.scale_base.specs.Layout.{layout_of}
use Rattle.scale_base.specs.Run.{GoesOn, run, run_of, setting_of, start_of, STACK_POINTER}
use Rattle.cost_theory.specs.Graph.{Loops}
use Rattle.cost_theory.specs.Reached.{Code}
use Rattle.code_text.specs.Text.{Text, text_of}
use Rattle.code_text.specs.TextGraph.{text_graph, IsReachedCode}
use Rattle.graph_runs.specs.KeptSteps.{Carried}
use Rattle.graph_runs.specs.KeptRuns.{kept_at, most_returns, IsKeptUpTo}
use Rattle.graph_runs.specs.RunTransitions.{returns_so}
use Rattle.graph_runs.specs.Laws.{IsStartOver}
use Rattle.bound_laws.specs.Turning.{unasked, with_bounds, Calls}
use Rattle.bound_laws.specs.Values.{IsRegister, Values, IsHeld, AreIn, AreBytes}
use Rattle.bound_laws.specs.Laws.{starting_registers}
use Rattle.stack_laws.specs.Cells.{IsCellHeld}
use Rattle.stack_laws.specs.Fixed.{AreFixedIn, AreUnwritten}
use Rattle.stack_laws.specs.Areas.{AreAreas, IsLaidOut}
use Rattle.stack_laws.specs.Stacks.{Stacks, view_of, IsRestored, IsBeginning, IsStackInvariant, AreTold}
use Rattle.stack_laws.specs.Tidy.{IsTidy, IsCertain}
use Rattle.stack_laws.specs.Returning.{ComesBack}
use Rattle.stack_laws.specs.Counting.{StackCertificate, IsStackCertificate, IsWithin, IsShown}

-- where nothing is doubtful, each run is tidy
abbrev pub CertainRunsAreTidy : Type 0
CertainRunsAreTidy = (v : Values) (w : Stacks) (env : Setting) (s : State) → IsCertain w → (n : ℕ) → IsTidy v w env s n

-- As long as a run is tidy and its returns go back to their calls, all that the tables of an invariant say is so, at each address: of the
-- registers, of the words of the stack, and of those with which the function began.
abbrev pub StackValuesHold : Type 0
StackValuesHold = (t : Text) (env : Setting) (s : State) (code : Code) (v : Values) (w : Stacks) → IsStartOver t env s →
    IsReachedCode t code → IsStackInvariant t (text_graph t code) v w →
    IsLaidOut env.layout w.areas w.fixed → AreTold v w s.pc (view_of w s.regs s.regs s.bytes) → AreBytes s.bytes → All (λ x. x < 256) env.input →
    (n : ℕ) → IsTidy v w env s n → (rs : List ℕ) → returns_so (run env s n).steps ≡ Some rs → (run env s n).standing ≡ GoesOn →
    (begun : List ℕ) × AreTold v w (run env s n).state.pc (view_of w begun (run env s n).state.regs (run env s n).state.bytes)

-- The call after m steps is open in each run from there on up to n steps, and comes back with the last of them: more return addresses are
-- carried in between, and as many in the end.
pub record ComesBackAt (env : Setting) (s : State) (m n : ℕ) (call : Stepped) : Type 0 where
  pub went : (step env (run env s m).state).end ≡ Went call
  pub calls : call.moved ≡ Call
  pub later : m < n
  pub before : List ℕ
  pub returns : returns_so (run env s m).steps ≡ Some before
  pub after : List ℕ
  pub returned : returns_so (run env s n).steps ≡ Some after
  pub even : length after ≡ length before
  pub between : (j : ℕ) (rs : List ℕ) → m < j → j < n → returns_so (run env s j).steps ≡ Some rs → length before < length rs
  pub goes : (run env s n).standing ≡ GoesOn

-- As long as a run is tidy and its returns go back to their calls, the registers that a function restores are behind a call what they were
-- before it.
abbrev pub RestoredRegistersHold : Type 0
RestoredRegistersHold = (t : Text) (env : Setting) (s : State) (code : Code) (v : Values) (w : Stacks) → IsStartOver t env s →
    IsReachedCode t code → IsStackInvariant t (text_graph t code) v w →
    IsLaidOut env.layout w.areas w.fixed → AreTold v w s.pc (view_of w s.regs s.regs s.bytes) → AreBytes s.bytes → All (λ x. x < 256) env.input →
    (m n : ℕ) (call : Stepped) → IsTidy v w env s n → ComesBackAt env s m n call →
    (to : ℕ) × Calls (text_graph t code) (run env s m).state.pc to × ((r : ℕ) → IsRegister r →
    IsRestored t v w (run env s m).state.pc to r → reg (run env s m).state.regs r < 2 ^ 32 →
    reg (run env s n).state.regs r ≡ reg (run env s m).state.regs r)

-- As long as a run is tidy and its returns go back to their calls, a loop with a certificate whose counter is within the width at the loop's
-- header turns no more often than the width allows.
abbrev pub StackCertificatesBoundTurns : Type 0
StackCertificatesBoundTurns = (t : Text) (env : Setting) (s : State) (code : Code) (v : Values) (w : Stacks) (l : Loops) (k : ℕ)
    (c : StackCertificate) → IsStartOver t env s → IsReachedCode t code → IsStackInvariant t (text_graph t code) v w →
    IsLaidOut env.layout w.areas w.fixed → AreTold v w s.pc (view_of w s.regs s.regs s.bytes) → AreBytes s.bytes → All (λ x. x < 256) env.input →
    IsStackCertificate t (text_graph t code) v w (l.header k) (l.inside k) c → IsWithin v w c.width c.counter (l.header k) →
    (n : ℕ) → IsTidy v w env s n → (d : Carried) → kept_at env s (unasked l) n ≡ Some d → d.counts k * c.least ≤ c.width

-- What the code of an image without a keyed segment says by itself: its reached code, and tables that it confirms, from any bytes on.
pub record IsStackAnalysed (image : Image) (code : Code) (v : Values) (w : Stacks) : Type 0 where
  pub reached : IsReachedCode (text_of image) code
  pub invariant : IsStackInvariant (text_of image) (text_graph (text_of image) code) v w
  pub beginning : IsBeginning w image.entry
  pub starts : AreIn v image.entry starting_registers
  pub begins : IsHeld (w.begins (v.function image.entry)) STACK_POINTER
  pub plain : image.keyed_segment ≡ None
  pub areas : AreAreas (layout_of image) w.areas
  pub unwritten : AreUnwritten (layout_of image) w.fixed
  -- the memory with which a run begins
  pub cells : (c : ℕ) → IsCellHeld (w.cell c) (loaded_byte image)
  pub fixed : AreFixedIn w.fixed (loaded_byte image)

-- As long as it is tidy, a run of an image that is kept by some bounds is kept by these, where each loop's bound is shown by the code or is no
-- less than the other.
abbrev pub ShownBoundsAreKept : Type 0
ShownBoundsAreKept = (file : List ℕ) (image : Image) (levels : ℕ) (input : List ℕ) (code : Code) (v : Values) (w : Stacks) (l : Loops)
    (bounds : ℕ → ℕ) → image_of file ≡ Ok image →
    All (λ x. x < 256) file → All (λ x. x < 256) input → IsStackAnalysed image code v w →
    ((k : ℕ) → k < l.loops → IsShown (text_of image) (text_graph (text_of image) code) v w l k ⊎ (bounds k ≤ l.bound k)) →
    (n : ℕ) → IsTidy v w (setting_of image levels input) (start_of image levels) n →
    IsKeptUpTo image levels input (with_bounds l bounds) n → IsKeptUpTo image levels input l n

-- Where all bounds are shown, and no loop has to turn, a run is kept as long as it is tidy, if its returns go back to their calls and its calls
-- are not too deep.
abbrev pub ShownBoundsAreKeptByReturns : Type 0
ShownBoundsAreKeptByReturns = (file : List ℕ) (image : Image) (levels : ℕ) (input : List ℕ) (code : Code) (v : Values) (w : Stacks)
    (l : Loops) → image_of file ≡ Ok image →
    All (λ x. x < 256) file → All (λ x. x < 256) input → IsStackAnalysed image code v w →
    ((k : ℕ) → k < l.loops → IsShown (text_of image) (text_graph (text_of image) code) v w l k × (l.least_trips k ≡ 0)) →
    (n : ℕ) → IsTidy v w (setting_of image levels input) (start_of image levels) n →
    ((m : ℕ) → m ≤ n → (rs : List ℕ) × (returns_so (run_of image levels input m).steps ≡ Some rs) × (length rs ≤ most_returns)) →
    IsKeptUpTo image levels input l n

-- Where the code says so of returns, each return of a tidy run goes back behind its call, and calls are never too deep.
abbrev pub RunsComeBack : Type 0
RunsComeBack = (t : Text) (env : Setting) (s : State) (code : Code) (v : Values) (w : Stacks) → IsStartOver t env s →
    IsReachedCode t code → IsStackInvariant t (text_graph t code) v w → ComesBack t (text_graph t code) v w →
    IsLaidOut env.layout w.areas w.fixed → AreTold v w s.pc (view_of w s.regs s.regs s.bytes) → AreBytes s.bytes → All (λ x. x < 256) env.input →
    (n : ℕ) → IsTidy v w env s n → (rs : List ℕ) × (returns_so (run env s n).steps ≡ Some rs) × (length rs ≤ most_returns)

-- Where all bounds are shown, no loop has to turn and the code says so of returns, every run of the image is kept as long as it is tidy, on
-- each input.
abbrev pub RunsAreKept : Type 0
RunsAreKept = (file : List ℕ) (image : Image) (levels : ℕ) (input : List ℕ) (code : Code) (v : Values) (w : Stacks) (l : Loops) →
    image_of file ≡ Ok image →
    All (λ x. x < 256) file → All (λ x. x < 256) input → IsStackAnalysed image code v w →
    ComesBack (text_of image) (text_graph (text_of image) code) v w →
    ((k : ℕ) → k < l.loops → IsShown (text_of image) (text_graph (text_of image) code) v w l k × (l.least_trips k ≡ 0)) →
    (n : ℕ) → IsTidy v w (setting_of image levels input) (start_of image levels) n → IsKeptUpTo image levels input l n
