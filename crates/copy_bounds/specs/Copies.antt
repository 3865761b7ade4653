-- Loops of a versioned image that copy loops of the original, as the code says it edge by edge.
use Rattle.std.specs.Prelude.{◌≡◌, ◌≢◌, ℕ, ◌<◌, ◌≤◌, ◌⊎◌, Bool, true, false, List, Option, Some, None}
use Rattle.cost_theory.specs.Graph.{Graph, Loops}
use Rattle.code_text.specs.Text.{Text}
use Rattle.bound_laws.specs.Turning.{Leads, Calls}

-- What the addresses of a versioned image stand for.
pub record Meaning : Type 0 where
  -- the address of the text at which the original stands
  pub text_at : ℕ → ℕ
  -- no step of the original is made there
  pub is_extra : ℕ → Bool
  -- a word of the text that stands in the versioned image as it was
  pub is_own : ℕ → Bool
  -- the return addresses of the inlined calls that the address lies in, and of those behind its step
  pub open_at : ℕ → List ℕ
  pub opened_at : ℕ → Option (List ℕ)
  -- where a step of the original comes from that is made there, for the counts of loops
  pub source_at : ℕ → Option ℕ

-- The code of copies keeps to the inlined calls that are open: it leaves what is called by its returns alone.
abbrev pub KeepsOpenCalls : Meaning → Graph → Type 0
KeepsOpenCalls m g = (a b : ℕ) → Leads g a b → m.is_own a ≡ false → m.opened_at a ≡ Some (m.open_at b)

-- The code of a copy, with its header; the code that runs while a call from it is open; and where the original has counted a turn that the
-- copy hasn't counted yet.
pub record CopyCertificate : Type 0 where
  pub body : ℕ → Bool
  pub quiet : ℕ → Bool
  pub ahead : ℕ → Bool

-- a step that comes from there counts a turn, by an extent
abbrev pub counts_from : (ℕ → Bool) → Option ℕ → Bool
counts_from extent None = false
counts_from extent (Some u) = extent u

-- What the code has to say of a loop of the versioned image with a header and an extent that copies a loop of the original with others.
-- Each clause is about one edge of the graph.
pub record IsCopy (m : Meaning) (t : Text) (g : Graph) (header : ℕ) (extent : ℕ → Bool) (copied : ℕ) (round : ℕ → Bool)
    (c : CopyCertificate) : Type 0 where
  -- the header is in the body, begins it, and stands for that of the original
  pub first : c.body header ≡ true
  pub begins : c.ahead header ≡ false
  pub stands : m.text_at header ≡ copied
  -- the body is entered at its header alone, by edges, by calls and at the start of a run
  pub entered : (a b : ℕ) → Leads g a b → c.body b ≡ true → b ≢ header → c.body a ≡ true
  pub called : (a b : ℕ) → Calls g a b → c.body b ≡ true → b ≡ header
  pub entry : c.body t.entry ≡ true → t.entry ≡ header
  -- what is counted as a turn comes from the body, and the original counts it, too: then, or before
  pub counts : (a : ℕ) → Leads g a header → extent a ≡ true → c.body a ≡ true
  pub turns : (a : ℕ) → Leads g a header → c.body a ≡ true → extent a ≡ true → m.is_extra a ≡ true → c.ahead a ≡ true
  -- where the original comes to its header, it counts
  pub comes : (a b : ℕ) → Leads g a b → c.body a ≡ true → c.body b ≡ true → m.is_extra a ≡ false → m.text_at b ≡ copied →
      counts_from round (m.source_at a) ≡ true
  -- it is ahead from there on
  pub along : (a b : ℕ) → Leads g a b → c.body a ≡ true → c.body b ≡ true → b ≢ header → c.ahead b ≡ true →
      (c.ahead a ≡ true) ⊎ ((m.is_extra a ≡ false) × (m.text_at b ≡ copied))
  -- calls from the body go to quiet code, which stays so along its edges and calls, and stands for no header of the original
  pub calls : (a b : ℕ) → Calls g a b → c.body a ≡ true → c.quiet b ≡ true
  pub quiet_along : (a b : ℕ) → Leads g a b → c.quiet a ≡ true → c.quiet b ≡ true
  pub quiet_calls : (a b : ℕ) → Calls g a b → c.quiet a ≡ true → c.quiet b ≡ true
  pub quiet_apart : (a : ℕ) → c.quiet a ≡ true → m.text_at a ≢ copied

-- Loop k of the versioned image is a copy of a loop of the original whose bound is no greater.
pub record CopiesLoop (m : Meaning) (t : Text) (g : Graph) (old l : Loops) (k : ℕ) : Type 0 where
  pub number : ℕ
  pub few : number < old.loops
  pub certificate : CopyCertificate
  pub is : IsCopy m t g (l.header k) (l.inside k) (old.header number) (old.inside number) certificate
  pub enough : old.bound number ≤ l.bound k
