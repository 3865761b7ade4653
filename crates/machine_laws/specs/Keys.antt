-- Scaffold: a layout with a keyed segment of no bytes, and states and runs that differ in the window alone.
use Rattle.std.specs.Prelude.{ℕ, List, Some}
use Rattle.scale_base.specs.Layout.{Layout}
use Rattle.scale_base.specs.State.{Setting, State}
use Rattle.scale_base.specs.Run.{Run}

abbrev pub setting : Layout → ℕ → List ℕ → Setting
setting l levels input = record { layout = l; levels = levels; input = input }

-- the layout, with a keyed segment of no bytes at the address
abbrev pub with_empty_key : Layout → ℕ → Layout
with_empty_key l base = record l { keyed = Some (record { from = base; to = base }) }

-- the state, with these words in the window
abbrev pub with_window : State → List ℕ → State
with_window s w = record s { window = w }

-- the run, with these words in the window of its state
abbrev pub run_with_window : Run → List ℕ → Run
run_with_window r w = record r { state = with_window r.state w }
