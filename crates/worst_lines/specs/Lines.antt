-- The functions and the loops on a walk that takes the worst cycles, as lines.
use Rattle.std.specs.Prelude.{◌≡◌, ℕ, ◌+◌, ◌*◌, ◌<◌, ◌≤◌, ◌⊎◌, List, nat_eq, slice_get, String, string_bytes, Bool, true, false, Option, Some, None}
use Rattle.std.specs.Global.{Global}
use Rattle.std.specs.List.{All, Contains, sum_by}
use Rattle.cost_theory.specs.Graph.{Graph, Loops, total, only}
use Rattle.walk_laws.specs.Walks.{Walks, AreWalks}
use Rattle.loop_forest.specs.Tree.{IsInnermost}
use Rattle.worst_walks.specs.Explained.{calls_of, begins_in, entries_of, turns_of, loop_cycles, function_cycles}
use Rattle.worst_walks.specs.Whole.{body_cycles}
use Rattle.code_names.specs.Places.{IsNamedPlace, place_words}
use Rattle.worst_lines.specs.declared.shown.Part.{Part}
use Rattle.worst_lines.specs.declared.shown.Part.TheVariants.{Function, Loop}
use Rattle.worst_lines.specs.declared.shown.Line.{Line}

-- ---- what is counted along the walk

-- A walk through a program: one walk of each function, which each of its calls goes, and the innermost loop round each edge.
pub record Course : Type 0 where
  pub walks : Walks
  pub inner : ℕ → Option ℕ

-- how often function f is called: the first once more than over edges
abbrev pub calls : Graph → Course → ℕ → ℕ
calls g s f = total (calls_of g f) (s.walks.whole 0) + only (nat_eq f 0) 1

-- how often loop k is entered from outside
abbrev pub entries : Graph → Loops → Course → ℕ → ℕ
entries g l s k = total (entries_of g l k) (s.walks.whole 0) + begins_in g l k 0

-- ---- names

-- the text of a place beside a symbol of the file, which is at or below it
pub record IsPlaceText (file : List ℕ) (at : ℕ) (text : List ℕ) : Type 0 where
  pub name : List ℕ
  pub offset : ℕ
  pub is_first : Bool
  pub named : IsNamedPlace file at name offset is_first
  pub text_is : text ≡ place_words name offset

abbrev pub IsPlace : List ℕ → ℕ → Option (String Global) → Type 0
IsPlace file at None = Unit {0}
IsPlace file at (Some text) = IsPlaceText file at (string_bytes text)

-- ---- the lines

-- The line of function f: how often it is called; the cycles of its own edges that are in no loop; and all cycles of its calls, each of which goes the same walk.
pub record IsFunctionLine (file : List ℕ) (g : Graph) (w : ℕ → ℕ) (s : Course) (f : ℕ) (line : Line) : Type 0 where
  pub called : 0 < calls g s f
  pub part : line.part ≡ Function (calls g s f)
  pub at : line.at ≡ g.entry f
  pub place : IsPlace file line.at line.place
  pub own : line.own ≡ total (function_cycles g s.inner w f) (s.walks.whole 0)
  pub all : line.all ≡ calls g s f * total w (s.walks.whole f)

-- The line of loop k, which is numbered from 1 on as in the loop file: how often it is entered and turns; the cycles of its own edges that are in no loop within
-- it; and the cycles of all edges of its body, each with all that the called function goes through.
pub record IsLoopLine (file : List ℕ) (g : Graph) (l : Loops) (w : ℕ → ℕ) (s : Course) (k : ℕ) (line : Line) : Type 0 where
  pub entered : 0 < entries g l s k
  pub part : line.part ≡ Loop (k + 1) (entries g l s k) (total (turns_of g l k) (s.walks.whole 0))
  pub at : line.at ≡ l.header k
  pub place : IsPlace file line.at line.place
  pub own : line.own ≡ total (loop_cycles s.inner w k) (s.walks.whole 0)
  pub all : line.all ≡ total (body_cycles g l s.walks w k) (s.walks.whole 0)

-- the line of a function or of a loop
abbrev pub IsLine : List ℕ → Graph → Loops → (ℕ → ℕ) → Course → Line → Type 0
IsLine file g l w s line =
    ((f : ℕ) × (f < g.functions) × IsFunctionLine file g w s f line) ⊎ ((k : ℕ) × (k < l.loops) × IsLoopLine file g l w s k line)

-- whether a line is that of a loop
abbrev pub is_loop : Part → Bool
is_loop (Function n) = false
is_loop (Loop number n turns) = true

-- The line with more cycles of its own stands first, of two with as many the one with the lower address, and of a function and a loop at one address the function.
abbrev pub IsBefore : Line → Line → Type 0
IsBefore a b = (b.own < a.own) ⊎ ((a.own ≡ b.own) × ((a.at < b.at) ⊎ ((a.at ≡ b.at) × (is_loop a.part ≡ false) × (is_loop b.part ≡ true))))

-- Lines of a walk from the program's entry through all functions that it calls, along which no loop takes more back edges an entry than its bound, and which takes
-- the worst cycles: one for each function that is called and each loop that is entered, in order, so that none stands twice. Their own cycles add up to the worst.
pub record AreLines (file : List ℕ) (g : Graph) (l : Loops) (w : ℕ → ℕ) (worst : ℕ) (lines : List Line) : Type 0 where
  pub course : Course
  pub walked : AreWalks g l course.walks
  pub takes : total w (course.walks.whole 0) ≡ worst
  pub innermost : (e : ℕ) → e < g.edges → IsInnermost l (g.source e) (course.inner e)
  pub functions : (f : ℕ) → f < g.functions → 0 < calls g course f → (line : Line) × Contains lines line ×
      IsFunctionLine file g w course f line
  pub loops : (k : ℕ) → k < l.loops → 0 < entries g l course k → (line : Line) × Contains lines line × IsLoopLine file g l w course k line
  pub only_these : All (IsLine file g l w course) lines
  pub in_order : (i : ℕ) (a b : Line) → slice_get lines i ≡ Some a → slice_get lines (i + 1) ≡ Some b → IsBefore a b
  pub adds_up : sum_by (λ line. line.own) lines ≡ worst
