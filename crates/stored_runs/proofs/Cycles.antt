-- What the steps cost.
use Rattle.std.proofs.Common.{◌≡◌, ℕ, ◌+◌, ◌*◌, Bool, true, false, cond, List, [], ◌∷◌, arith, refl}
use Rattle.std.specs.Prelude.{slice_index}
use Rattle.std.specs.List.{sum_by}
use Rattle.std.proofs.lemmas.List.Sums.{sum_by-cons, sum_by-append}
use Rattle.scale_base.specs.declared.stepping.Class.{Class}
use Rattle.scale_base.specs.declared.stepping.Class.TheVariants as classes
use Rattle.scale_base.specs.State.{State}
use Rattle.scale_base.specs.declared.fragments.Fragment.{Fragment}
use Rattle.scale_base.specs.declared.fragments.Fragment.TheVariants.{Switch, Exit, Reset, Count, Lowest, Tally}
use Rattle.stub_writer.specs.Fragments.{code_len, rows_len, tally_code}
use Rattle.stub_writer.specs.Stubs.{Way, jump_at}
use Rattle.stored_runs.specs.Meaning.{is_due, along, along_storing}
use Rattle.stored_runs.specs.Ways.{fragment_steps, fragments_steps, window_behind, way_steps, turn}
use Rattle.stored_runs.specs.Cycles.{stepped_cycles, fragment_cost}

pub fragment_cycles : (cost : Class → ℕ) (bytes : ℕ → ℕ) (table at : ℕ) (f : Fragment) (w : List ℕ) → stepped_cycles cost (fragment_steps bytes table at f w) ≡ fragment_cost cost f
fragment_cycles cost bytes table at (Switch word) w = omega arith
fragment_cycles cost bytes table at (Exit counter shift rows) w = omega arith
fragment_cycles cost bytes table at (Reset counter) w = omega arith
fragment_cycles cost bytes table at (Count counter) w = omega arith
fragment_cycles cost bytes table at (Lowest true) w = omega arith
fragment_cycles cost bytes table at (Lowest false) w = omega arith
fragment_cycles cost bytes table at (Tally counter shift from) w = either_way (is_due shift from (slice_index w counter))
  where
    either_way : (due : Bool) → stepped_cycles cost (cond due (along_storing 8 0 at (tally_code counter shift from)) (along at (tally_code counter shift from))) ≡ fragment_cost cost (Tally counter shift from)
    either_way true = omega arith
    either_way false = omega arith

pub fragments_cycles : (cost : Class → ℕ) (bytes : ℕ → ℕ) (regs : List ℕ) (table at : ℕ) (fs : List Fragment) (w : List ℕ) → stepped_cycles cost (fragments_steps bytes regs table at fs w) ≡ sum_by (fragment_cost cost) fs
fragments_cycles cost bytes regs table at [] w = refl
fragments_cycles cost bytes regs table at (f ∷ fs) w =
    let later = table + 4 * rows_len f in
    let rest = fragments_cycles cost bytes regs later (at + 4 * code_len f) fs (window_behind bytes regs table f w) in
    let here = fragment_cycles cost bytes table at f w in
    let both = sum_by-append (λ x. cost x.class) (fragment_steps bytes table at f w) (fragments_steps bytes regs later (at + 4 * code_len f) fs (window_behind bytes regs table f w)) in
    omega (arith, rest, here, both, sum_by-cons (fragment_cost cost) f fs)

pub way_cycles : (cost : Class → ℕ) (s : State) (table at : ℕ) (way : Way) → stepped_cycles cost (way_steps s table at way) ≡ sum_by (fragment_cost cost) way.fragments + cost classes.Jump
way_cycles cost s table at way =
    let body = fragments_cycles cost s.bytes s.regs table at way.fragments s.window in
    let both = sum_by-append (λ x. cost x.class) (fragments_steps s.bytes s.regs table at way.fragments s.window) (turn (jump_at at way) way.to classes.Jump ∷ []) in
    omega (arith, body, both)
