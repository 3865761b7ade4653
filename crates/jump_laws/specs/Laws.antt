-- Scaffold: the laws of tables of targets, as statements for the contracts of functions.
use Rattle.std.specs.Prelude.{◌≡◌, ℕ, ◌+◌, ◌*◌, ◌<◌, false, All, List, Option, Some, Ok}
use Rattle.scale_base.specs.Image.{Image, image_of, loaded_byte}
use Rattle.scale_base.specs.Layout.{Layout, layout_of, may_write}
use Rattle.scale_base.specs.State.{Setting, State, word_at}
use Rattle.scale_base.specs.Run.{GoesOn, run, run_of, setting_of, start_of}
use Rattle.cost_theory.specs.Reached.{Code}
use Rattle.code_text.specs.Text.{Text, text_of}
use Rattle.code_text.specs.TextGraph.{text_graph, IsReachedCode}
use Rattle.graph_runs.specs.RunTransitions.{returns_so}
use Rattle.graph_runs.specs.Laws.{IsStartOver}
use Rattle.bound_laws.specs.Values.{Values, AreBytes}
use Rattle.stack_laws.specs.Areas.{IsLaidOut}
use Rattle.stack_laws.specs.Laws.{IsStackAnalysed}
use Rattle.stack_laws.specs.Stacks.{Stacks, view_of, IsStackInvariant, AreTold}
use Rattle.stack_laws.specs.Tidy.{IsTidy}
use Rattle.fixed_tables.specs.Tables.{IsFixedWord}
use Rattle.jump_laws.specs.declared.reads.TableRead.{TableRead}
use Rattle.jump_laws.specs.Reads.{AreReads, IsRead}

-- none of the four bytes from an address on may be written
abbrev pub IsUnwritten : Layout → ℕ → Type 0
IsUnwritten layout at = (j : ℕ) → j < 4 → may_write layout (at + j) ≡ false

-- A word of a segment that can't be written is what the image loads there, and no store changes it.
abbrev pub FixedWordsStay : Type 0
FixedWordsStay = (file : List ℕ) (image : Image) (at word : ℕ) → image_of file ≡ Ok image → IsFixedWord image at word →
    (word_at (loaded_byte image) at ≡ word) × IsUnwritten (layout_of image) at

-- no word of the tables that are known may be written
abbrev pub AreUnwritten : Layout → (ℕ → Option TableRead) → Type 0
AreUnwritten layout known = (a : ℕ) (x : TableRead) → known a ≡ Some x → (k : ℕ) → k < x.table.count →
    IsUnwritten layout (x.table.at + x.table.step * k)

-- As long as a run is tidy and its returns go back to their calls, the registers that are known to have words of tables have them, as these
-- were at the start.
abbrev pub TableWordsHold : Type 0
TableWordsHold = (t : Text) (env : Setting) (s : State) (code : Code) (v : Values) (w : Stacks) (known : ℕ → Option TableRead) →
    IsStartOver t env s → IsReachedCode t code → IsStackInvariant t (text_graph t code) v w →
    AreReads t (text_graph t code) v known → AreUnwritten env.layout known →
    IsLaidOut env.layout w.areas w.fixed → AreTold v w s.pc (view_of w s.regs s.regs s.bytes) → AreBytes s.bytes → All (λ x. x < 256) env.input →
    (n : ℕ) → IsTidy v w env s n → (rs : List ℕ) → returns_so (run env s n).steps ≡ Some rs → (run env s n).standing ≡ GoesOn →
    IsRead s.bytes (known (run env s n).state.pc) (run env s n).state.regs

-- The same over an image, on each input, as long as its run is tidy, of the words that it loads.
abbrev pub ImageWordsHold : Type 0
ImageWordsHold = (file : List ℕ) (image : Image) (levels : ℕ) (input : List ℕ) (code : Code) (v : Values) (w : Stacks)
    (known : ℕ → Option TableRead) → image_of file ≡ Ok image →
    All (λ x. x < 256) file → All (λ x. x < 256) input → IsStackAnalysed image code v w →
    AreReads (text_of image) (text_graph (text_of image) code) v known → AreUnwritten (layout_of image) known →
    (n : ℕ) → IsTidy v w (setting_of image levels input) (start_of image levels) n → (rs : List ℕ) →
    returns_so (run_of image levels input n).steps ≡ Some rs → (run_of image levels input n).standing ≡ GoesOn →
    IsRead (loaded_byte image) (known (run_of image levels input n).state.pc) (run_of image levels input n).state.regs
