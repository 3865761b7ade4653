-- One more line of a function or of a loop, and lines in another order.
use Rattle.std.proofs.Common.{◌≡◌, ℕ, ◌+◌, ◌<◌, ◌≤◌, inl, inr, List, [], ◌∷◌, ◌++◌, refl, subst, arith, ⊎_elim}
use Rattle.std.specs.List.{Contains}
use Rattle.std.specs.List.Sorted.{IsPermutation}
use Rattle.std.proofs.lemmas.Bool.{cases_lt}
use Rattle.std.proofs.lemmas.List.Elements.{All-nil, All-push, Contains-append_left, Contains-append_right}
use Rattle.std.proofs.lemmas.List.Sorted.{All-permutation, Contains-permutation}
use Rattle.cost_theory.specs.Graph.{Graph, Loops}
use Rattle.worst_lines.specs.declared.shown.Line.{Line}
use Rattle.worst_lines.specs.Kept.{AreLinesBelow}
use Rattle.worst_lines.specs.Lines.{Course, calls, entries, IsFunctionLine, IsLoopLine, IsLine}

module _ (file : List ℕ) (g : Graph) (l : Loops) (w : ℕ → ℕ) (s : Course) where
  pub no_lines : AreLinesBelow file g l w s 0 0 []
  no_lines = record {
    functions = λ f lt some. let bad : ⊥ = omega arith in absurd bad;
    loops = λ k lt some. let bad : ⊥ = omega arith in absurd bad;
    only_these = All-nil (IsLine file g l w s);
  }

  -- a number below the next one is below this one, or this one
  below_next : (P : ℕ → Type 0) (n k : ℕ) → k < n + 1 → (k < n → P k) → P n → P k
  below_next P n k lt low this = ⊎_elim
      (λ (under : k < n). low under)
      (λ (over : n ≤ k). subst P (let e : n ≡ k = omega arith in e) this)
      (cases_lt k n)

  abbrev pub IsListed : List Line → (Line → Type 0) → Type 0
  IsListed lines Is = (line : Line) × Contains lines line × Is line

  listed_more : (lines : List Line) (new : Line) (Is : Line → Type 0) → IsListed lines Is → IsListed (lines ++ new ∷ []) Is
  listed_more lines new Is is = (is.0, Contains-append_left lines (new ∷ []) is.0 is.1, is.2)

  listed_last : (lines : List Line) (new : Line) (Is : Line → Type 0) → Is new → IsListed (lines ++ new ∷ []) Is
  listed_last lines new Is is = (new, Contains-append_right lines (new ∷ []) new (0, (let one : 0 < 1 = omega arith in one), refl), is)

  pub function_more : (f ks : ℕ) (lines : List Line) (line : Line) → f < g.functions → AreLinesBelow file g l w s f ks lines → IsFunctionLine file g w s f line → AreLinesBelow file g l w s (f + 1) ks (lines ++ line ∷ [])
  function_more f ks lines line fl are is = record {
    functions = λ h lt. below_next (λ i. 0 < calls g s i → IsListed (lines ++ line ∷ []) (IsFunctionLine file g w s i)) f h lt
        (λ under some. listed_more lines line (IsFunctionLine file g w s h) (are.functions h under some)) (λ some. listed_last lines line (IsFunctionLine file g w s f) is);
    loops = λ k lt some. listed_more lines line (IsLoopLine file g l w s k) (are.loops k lt some);
    only_these = All-push (IsLine file g l w s) lines line are.only_these (inl (f, fl, is));
  }

  pub function_skipped : (f ks : ℕ) (lines : List Line) → AreLinesBelow file g l w s f ks lines → calls g s f ≡ 0 → AreLinesBelow file g l w s (f + 1) ks lines
  function_skipped f ks lines are none = record {
    functions = λ h lt. below_next (λ i. 0 < calls g s i → IsListed lines (IsFunctionLine file g w s i)) f h lt
        (λ under some. are.functions h under some) (λ some. let bad : ⊥ = omega arith in absurd bad);
    loops = are.loops;
    only_these = are.only_these;
  }

  pub loop_more : (fs k : ℕ) (lines : List Line) (line : Line) → k < l.loops → AreLinesBelow file g l w s fs k lines → IsLoopLine file g l w s k line → AreLinesBelow file g l w s fs (k + 1) (lines ++ line ∷ [])
  loop_more fs k lines line kl are is = record {
    functions = λ f lt some. listed_more lines line (IsFunctionLine file g w s f) (are.functions f lt some);
    loops = λ h lt. below_next (λ i. 0 < entries g l s i → IsListed (lines ++ line ∷ []) (IsLoopLine file g l w s i)) k h lt
        (λ under some. listed_more lines line (IsLoopLine file g l w s h) (are.loops h under some)) (λ some. listed_last lines line (IsLoopLine file g l w s k) is);
    only_these = All-push (IsLine file g l w s) lines line are.only_these (inr (k, kl, is));
  }

  pub loop_skipped : (fs k : ℕ) (lines : List Line) → AreLinesBelow file g l w s fs k lines → entries g l s k ≡ 0 → AreLinesBelow file g l w s fs (k + 1) lines
  loop_skipped fs k lines are none = record {
    functions = are.functions;
    loops = λ h lt. below_next (λ i. 0 < entries g l s i → IsListed lines (IsLoopLine file g l w s i)) k h lt
        (λ under some. are.loops h under some) (λ some. let bad : ⊥ = omega arith in absurd bad);
    only_these = are.only_these;
  }

  pub lines_moved : (fs ks : ℕ) (old new : List Line) → IsPermutation old new → AreLinesBelow file g l w s fs ks old → AreLinesBelow file g l w s fs ks new
  lines_moved fs ks old new moved are = record {
    functions = λ f lt some. let is = are.functions f lt some in (is.0, Contains-permutation old new is.0 moved is.1, is.2);
    loops = λ k lt some. let is = are.loops k lt some in (is.0, Contains-permutation old new is.0 moved is.1, is.2);
    only_these = All-permutation (IsLine file g l w s) old new moved are.only_these;
  }
