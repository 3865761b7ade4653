use Rattle.std.proofs.Common.{◌≡◌, ◌∙◌, ℕ, IfOk, ap, sym, subst}
use Rattle.scale_base.specs.Image.{loaded_byte}
use Rattle.scale_base.specs.State.{State}
use Rattle.scale_base.specs.Run.{start, start_of, starting_level}
use Rattle.flat_memory.specs.Paged.{page_bytes}
use Rattle.rv_machine.specs.Machine.{state_of}
use Rattle.tidy_runs.proofs.running.machine_of.Goals as goal

pub returns-clause-state : goal.returns-clause-state
returns-clause-state c =
    let image = c.args.view.now in
    let first : start (page_bytes c.in_ok-memory.memory) c.entry.result 0 ≡ start_of image 1 =
    ap (λ (bytes : ℕ → ℕ). start bytes c.entry.result 0) c.in_ok-memory.ensures.bytes
    ∙ (ap (λ (entry : ℕ). start (loaded_byte image) entry 0) c.entry.ensures
    ∙ ap (λ (level : ℕ). start (loaded_byte image) image.entry level) (sym (ap (starting_level 1) c.requires))) in
    subst (λ (s : State). IfOk c.start.result (λ m. state_of page_bytes m ≡ s)) first c.start.ensures.state
