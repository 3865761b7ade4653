-- The runs of a held image are those of the original one, and what they cost at one level.
use Rattle.std.proofs.Common.{◌≡◌, ℕ, ◌*◌, ◌≤◌, List, length, Some, None, sym, ap, subst, ◌∙◌, arith}
use Rattle.std.specs.Prelude.{All, replicate, slice_set, sum_by, option_map}
use Rattle.std.proofs.Math.Nat.{mul-le-mul_right}
use Rattle.scale_base.specs.Image.{Image, loaded_byte}
use Rattle.scale_base.specs.Layout.{layout_of}
use Rattle.scale_base.specs.Run.{Run, run, run_of, setting_of, start_of, start, starting_level}
use Rattle.machine_laws.proofs.Laws.{run_same, run_without_port}
use Rattle.machine_laws.specs.Keys.{setting, with_empty_key, with_window, run_with_window}
use Rattle.power_model.specs.Numbers.{PowerModel, RunPrice}
use Rattle.power_model.specs.Price.{price, step_cycles, time_at}
use Rattle.power_model.specs.Slowest.{slowest_of}
use Rattle.power_model.proofs.Laws.{cycles-price, held-price}
use Rattle.stored_laws.specs.Held.{IsHeldImage}
use Rattle.marked_images.proofs.Laws.{found_in_time}
use Rattle.scaler.specs.Held.{held_summary}
use Rattle.rewritten_runs.specs.Prices.{price_of}
use Rattle.scaler.specs.Runs.{RunAlike, IsAsPrinted}

-- ---- the runs are alike

no_key : (image : Image) → image.keyed_segment ≡ None → (layout_of image).keyed ≡ None
unfolding layout_of
no_key image e = ap (λ o. option_map (λ k. k.range) o) e

abbrev held_window : ℕ → List ℕ
held_window level = slice_set (replicate 512 0) 511 level

-- the run of the held image is that of the original one, with the starting level in the window
pub held_run : (file : List ℕ) (image held : Image) (base level levels : ℕ) (input : List ℕ) (n : ℕ) → image.keyed_segment ≡ None → IsHeldImage file image base level held
    → run_of held levels input n ≡ run_with_window (run_of image levels input n) (held_window level)
unfolding run_of
held_run file image held base level levels input n none h =
    let env : setting_of held levels input ≡ setting (with_empty_key (layout_of image) base) levels input = ap (λ l. setting l levels input) h.layout in
    let from : start_of held levels ≡ with_window (start_of image levels) (held_window level) =
    ap (λ b. start b held.entry (starting_level levels held.keyed_segment)) h.bytes
    ∙ (ap (λ e. start (loaded_byte image) e (starting_level levels held.keyed_segment)) h.entry ∙ ap (λ k. start (loaded_byte image) image.entry (starting_level levels k)) h.keyed) in
    ap (λ e. run e (start_of held levels) n) env ∙ (ap (λ s. run (setting (with_empty_key (layout_of image) base) levels input) s n) from
    ∙ run_same (layout_of image) base levels input (start_of image levels) (held_window level) n (no_key image none))

pub runs_alike : (file : List ℕ) (image held : Image) (base level levels : ℕ) → image.keyed_segment ≡ None → IsHeldImage file image base level held → RunAlike image held levels
runs_alike file image held base level levels none h input n =
    let e = held_run file image held base level levels input n none h in
    record {
      steps = ap (λ (r : Run). r.steps) e;
      standing = ap (λ (r : Run). r.standing) e;
      pc = ap (λ (r : Run). r.state.pc) e;
      regs = ap (λ (r : Run). r.state.regs) e;
      bytes = ap (λ (r : Run). r.state.bytes) e;
      used = ap (λ (r : Run). r.state.used) e;
      output = ap (λ (r : Run). r.state.output) e;
    }

-- ---- what they cost

pub no_ports : (image : Image) (levels : ℕ) (input : List ℕ) (m : ℕ) → image.keyed_segment ≡ None → All (λ x. x.port ≡ None) (run_of image levels input m).steps
unfolding run_of
no_ports image levels input m none = run_without_port (setting_of image levels input) (start_of image levels) m (no_key image none)

-- a run of at most so many cycles costs at most the printed time
pub printed : (power : PowerModel) (file : List ℕ) (image held : Image) (base level worst : ℕ) (input : List ℕ) (m : ℕ) → image.keyed_segment ≡ None → IsHeldImage file image base level held
    → slowest_of power worst ≡ Some level → sum_by (step_cycles power) (run_of image (length power.levels) input m).steps ≤ worst → IsAsPrinted power (held_summary power worst level) (price_of power held input m)
printed power file image held base level worst input m none h slow below =
    let levels = length power.levels in
    let steps = (run_of image levels input m).steps in
    let same = (runs_alike file image held base level levels none h input m).steps in
    let paid = price power level steps in
    let e : price power (starting_level levels held.keyed_segment) (run_of held levels input m).steps ≡ paid =
    ap (λ k. price power (starting_level levels k) (run_of held levels input m).steps) h.keyed ∙ ap (price power level) same in
    let cycles : paid.cycles ≡ sum_by (step_cycles power) steps = cycles-price power level steps in
    let one = held-price power level steps (no_ports image levels input m none) in
    let less : paid.cycles ≤ worst = omega (arith, cycles, below) in
    let time : time_at power level paid.cycles ≤ time_at power level worst = times_more paid.cycles worst (Rattle.power_model.specs.Levels.level power.levels level).period less in
    let in_time : time_at power level worst ≤ power.deadline = found_in_time power worst level slow in
    let all : IsAsPrinted power (held_summary power worst level) paid = record { cycles = less; time = omega (arith, one.time, time); in_time = in_time; at_start = one } in
    let P : RunPrice → Type 0 = λ q. IsAsPrinted power (held_summary power worst level) q in
    subst P (sym e) all
  where
    times_more : (a b p : ℕ) → a ≤ b → a * p ≤ b * p
    times_more a b p h = mul-le-mul_right p h
