-- Which bounds of drafted loops are found: those that the code shows by itself. A loop without a bound is noted with the greatest one.
use Rattle.std.specs.Prelude.{◌≡◌, ◌==◌, ℕ, ◌⊎◌, not, Bool, true, false, List, Option}
use Rattle.std.specs.List.{All}
use Rattle.scale_base.specs.Image.{Image}
use Rattle.cost_theory.specs.Reached.{Code}
use Rattle.code_text.specs.Text.{text_of}
use Rattle.code_text.specs.TextGraph.{text_graph}
use Rattle.loop_file.specs.declared.notes.LoopNote.{LoopNote}
use Rattle.loop_file.specs.Kept.{note_at, noted_loops}
use Rattle.bound_laws.specs.Values.{Values}
use Rattle.stack_laws.specs.Stacks.{Stacks}
use Rattle.turn_laws.specs.Relating.{IsShown}
use Rattle.stack_laws.specs.Returning.{ComesBack}
use Rattle.stack_laws.specs.Laws.{IsStackAnalysed}
use Rattle.lower_bounds.specs.LowerBounds.{IsLowerShown}
use Rattle.loop_drafts.specs.declared.trusting.Trust.{Trust}
use Rattle.loop_drafts.specs.Trusting.{IsTrustOf}

-- the greatest bound that a loop file may have
abbrev pub most_turns : ℕ
most_turns = 1000000000

-- a note of a loop without a bound, and one of a loop that has one
abbrev pub IsOpen : LoopNote → Type 0
IsOpen note = note.bound ≡ most_turns

abbrev pub is_bounded : LoopNote → Bool
is_bounded note = not (note.bound == most_turns)

-- a note of a loop that need not turn before it is left
abbrev pub NeedNotTurn : LoopNote → Type 0
NeedNotTurn note = note.at_least ≡ 0

-- the note with another bound, of a loop that need not turn, and is counted or isn't; and with other least turns
abbrev pub bounded_by : ℕ → Bool → LoopNote → LoopNote
bounded_by bound counted note = record note { bound = bound; counted = counted; at_least = 0 }

abbrev pub turning_by : ℕ → LoopNote → LoopNote
turning_by least note = record note { at_least = least }

-- ---- by tables of the registers and of the stack

-- the bound of a note is shown by the code, among whatever notes it stands, for inputs that have at most so many bytes, where that is told
abbrev pub IsBoundShown : Image → Code → Values → Stacks → Option ℕ → LoopNote → Type 0
IsBoundShown image code v w most note = (notes : List LoopNote) (k : ℕ) → note_at notes k ≡ note →
    IsShown (text_of image) (text_graph (text_of image) code) v w most (noted_loops notes) k

-- the note has no bound, or one that is shown
abbrev pub IsBoundFound : Image → Code → Values → Stacks → Option ℕ → LoopNote → Type 0
IsBoundFound image code v w most note = IsOpen note ⊎ IsBoundShown image code v w most note

-- the least turns of a note are shown by the code, among whatever notes it stands
abbrev pub IsLeastShown : Image → Code → Values → Stacks → LoopNote → Type 0
IsLeastShown image code v w note = (notes : List LoopNote) (k : ℕ) → note_at notes k ≡ note →
    IsLowerShown (text_of image) (text_graph (text_of image) code) v w (noted_loops notes) k

-- its loop need not turn, or turns as often as is shown
abbrev pub IsLeastFound : Image → Code → Values → Stacks → LoopNote → Type 0
IsLeastFound image code v w note = NeedNotTurn note ⊎ IsLeastShown image code v w note

-- where returns are said to be proved, the code shows that each goes back behind its call
abbrev pub AreReturnsFound : Image → Code → Values → Stacks → Bool → Type 0
AreReturnsFound image code v w returns = returns ≡ true → ComesBack (text_of image) (text_graph (text_of image) code) v w

-- ---- what is found

-- of each note and of returns, by one pair of tables that the code confirms, with what they trust: bounds for inputs of so many bytes at most, where that
-- is told, and the least turns and returns for each input
pub record AreBoundsShown (image : Image) (most : Option ℕ) (notes : List LoopNote) (returns : Bool) (trust : Trust) : Type 0 where
  pub code : Code
  pub values : Values
  pub stacks : Stacks
  pub analysed : IsStackAnalysed image code values stacks
  pub trusts : IsTrustOf code trust values stacks
  pub shown : All (IsBoundFound image code values stacks most) notes
  pub least : All (IsLeastFound image code values stacks) notes
  pub comes_back : AreReturnsFound image code values stacks returns

-- no note has a bound, no loop has to turn, and nothing is said of returns
pub record AreNoneFound (notes : List LoopNote) (returns : Bool) : Type 0 where
  pub open_loops : All IsOpen notes
  pub least : All NeedNotTurn notes
  pub unproved : returns ≡ false

abbrev pub AreBoundsFound : Image → Option ℕ → List LoopNote → Bool → Trust → Type 0
AreBoundsFound image most notes returns trust = AreNoneFound notes returns ⊎ AreBoundsShown image most notes returns trust
