-- What a run of an image keeps of drafted bounds, and that its returns go back.
use Rattle.std.proofs.Common.{◌≡◌, ℕ, ◌<◌, ◌≤◌, inr, List, length, Some, Ok, sym, ◌∙◌, subst, arith}
use Rattle.std.specs.Prelude.{All}
use Rattle.scale_base.specs.Image.{Image, image_of}
use Rattle.scale_base.specs.State.{Setting, State}
use Rattle.scale_base.specs.Run.{run_of, setting_of, start_of}
use Rattle.cost_theory.specs.Graph.{Loops, with_trips}
use Rattle.cost_theory.specs.Reached.{Code}
use Rattle.code_text.specs.Text.{text_of}
use Rattle.code_text.specs.TextGraph.{text_graph, IsReachedCode}
use Rattle.graph_runs.specs.KeptSteps.{Carried}
use Rattle.graph_runs.specs.KeptRuns.{kept_at, most_returns, IsKeptUpTo}
use Rattle.graph_runs.specs.RunTransitions.{returns_so}
use Rattle.graph_runs.specs.Laws.{IsStartOver}
use Rattle.graph_runs.proofs.Laws.{image_starts, kept_by_less}
use Rattle.bound_laws.specs.Turning.{unasked, with_bounds, HasBound}
use Rattle.bound_laws.specs.Values.{Values}
use Rattle.bound_laws.proofs.Laws.{all_returns, found_kept, kept_before, kept_by_returns, loaded_small}
use Rattle.stack_laws.specs.Stacks.{Stacks}
use Rattle.stack_laws.specs.Returning.{ComesBack}
use Rattle.stack_laws.specs.Laws.{IsStackAnalysed}
use Rattle.stack_laws.specs.Tidy.{IsTidy}
use Rattle.stack_laws.proofs.Laws.{image_laid, image_told, runs_come_back}

some_same : (x y : Carried) → Some x ≡ Some y → x ≡ y
some_same x y e = let r : x ≡ y = cc in r

module _ (file : List ℕ) (image : Image) (levels : ℕ) (input : List ℕ) (code : Code) (l : Loops) (read : image_of file ≡ Ok image) (reached : IsReachedCode (text_of image) code) where
  abbrev env : Setting
  env = setting_of image levels input

  abbrev s : State
  s = start_of image levels

  start : IsStartOver (text_of image) env s
  start = image_starts file image levels input read

  -- a run that is kept by some loops is kept by others that keep as much of it
  kept_over : (m : Loops) (n : ℕ) → ((j : ℕ) (d : Carried) → kept_at env s m j ≡ Some d → kept_at env s l j ≡ Some d) → IsKeptUpTo image levels input m n → IsKeptUpTo image levels input l n
  kept_over m n by kept = record {
    carried = kept.carried;
    kept = by n kept.carried kept.kept;
    shallow = λ j c le h.
        let b = kept_before env s m n j kept.carried le kept.kept in
        let same : b.0 ≡ c = some_same b.0 c (sym (by j b.0 b.1) ∙ h) in
        subst (λ d. length d.returns ≤ most_returns) same (kept.shallow j b.0 le b.1);
  }

  -- a run that is kept by some bounds is kept by greater ones
  pub greater_kept : (bounds : ℕ → ℕ) (n : ℕ) → ((k : ℕ) → k < l.loops → bounds k ≤ l.bound k) → IsKeptUpTo image levels input (with_bounds l bounds) n → IsKeptUpTo image levels input l n
  greater_kept bounds n greater kept =
      kept_over (with_bounds l bounds) n (λ j d h. found_kept (text_of image) env s code l bounds start reached (λ k kl. inr (greater k kl)) j d h) kept

  -- and one that is kept where loops have to turn so often is kept where they have to turn less often
  pub fewer_kept : (trips : ℕ → ℕ) (n : ℕ) → ((k : ℕ) → k < l.loops → l.least_trips k ≤ trips k) → IsKeptUpTo image levels input (with_trips l trips) n → IsKeptUpTo image levels input l n
  fewer_kept trips n fewer kept = kept_over (with_trips l trips) n (λ j d h. kept_by_less env s (with_trips l trips) l.least_trips fewer j d h) kept

  abbrev AreReturns : ℕ → Type 0
  AreReturns m = (rs : List ℕ) × (returns_so (run_of image levels input m).steps ≡ Some rs) × (length rs ≤ most_returns)

  -- a run whose returns go back to their calls is kept by loops that all have bounds
  pub returns_kept : (n : ℕ) → ((k : ℕ) → k < l.loops → HasBound (text_of image) env s (text_graph (text_of image) code) l k × (l.least_trips k ≡ 0)) → ((m : ℕ) → m ≤ n → AreReturns m) → IsKeptUpTo image levels input l n
  unfolding run_of
  returns_kept n has returns =
      record {
        carried = (here n (omega arith)).0;
        kept = (here n (omega arith)).1;
        shallow = λ m c le h.
            let b = here m le in
            let same : b.0 ≡ c = some_same b.0 c (sym b.1 ∙ h) in
            subst (λ d. length d.returns ≤ most_returns) same b.2;
      }
    where
      by : (m : ℕ) (d : Carried) → kept_at env s (unasked l) m ≡ Some d → kept_at env s l m ≡ Some d
      by m d h = kept_by_returns (text_of image) env s code l start reached has m d h

      here : (m : ℕ) → m ≤ n → (d : Carried) × (kept_at env s l m ≡ Some d) × (length d.returns ≤ most_returns)
      here m le =
          let q = returns m le in
          let k = all_returns env s l m q.0 q.1 in
          (k.0, by m k.0 k.1, subst (λ rs. length rs ≤ most_returns) (sym k.2) q.2)

-- the returns of every tidy run go back, and never are too many calls open, where tables of the code show it
pub returns_back : (file : List ℕ) (image : Image) (levels : ℕ) (input : List ℕ) (code : Code) (v : Values) (w : Stacks) → image_of file ≡ Ok image → All (λ x. x < 256) file → All (λ x. x < 256) input →
    IsStackAnalysed image code v w → ComesBack (text_of image) (text_graph (text_of image) code) v w → (n : ℕ) → IsTidy v w (setting_of image levels input) (start_of image levels) n → (rs : List ℕ) × (returns_so (run_of image levels input n).steps ≡ Some rs) × (length rs ≤ most_returns)
unfolding run_of
returns_back file image levels input code v w read small_file small_input ana comes n tidy =
    runs_come_back (text_of image) (setting_of image levels input) (start_of image levels) code v w (image_starts file image levels input read) ana.reached ana.invariant comes (image_laid image code v w ana) (image_told image levels code v w ana) (loaded_small file image read small_file) small_input n tidy
