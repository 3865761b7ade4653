-- Lower bounds that tables of the stack show are kept.
use Rattle.std.proofs.Common.{◌≡◌, ℕ, suc, ◌<◌, ◌≤◌, ◌⊎◌, ⊎_elim, length, refl, sym, ◌∙◌, subst, arith, Some}
use Rattle.std.specs.Prelude.{All}
use Rattle.scale_base.specs.declared.stepping.Move.{Move}
use Rattle.scale_base.specs.declared.stepping.Move.TheVariants.{Local, Call, Return}
use Rattle.scale_base.specs.State.{Setting, State}
use Rattle.scale_base.specs.Run.{setting_of, start_of}
use Rattle.cost_theory.specs.Graph.{Loops, with_trips}
use Rattle.cost_theory.specs.Reached.{Code}
use Rattle.code_text.specs.Text.{Text, text_of}
use Rattle.code_text.specs.TextGraph.{text_graph, IsReachedCode}
use Rattle.graph_runs.specs.ReturnAddresses.{returns_after}
use Rattle.graph_runs.specs.KeptSteps.{Carried, counts_after, leaves_by}
use Rattle.graph_runs.specs.KeptRuns.{kept_at, most_returns}
use Rattle.graph_runs.specs.Laws.{IsStartOver}
use Rattle.graph_runs.proofs.Laws.{kept_parts, image_starts}
use Rattle.bound_laws.specs.Turning.{unasked}
use Rattle.bound_laws.specs.Values.{Values, AreBytes}
use Rattle.bound_laws.proofs.Laws.{kept_too, not_broken, kept_before, loaded_small}
use Rattle.stack_laws.specs.Areas.{IsLaidOut}
use Rattle.stack_laws.specs.Stacks.{Stacks, view_of, IsStackInvariant, AreTold}
use Rattle.stack_laws.specs.Tidy.{IsTidy}
use Rattle.stack_laws.proofs.Laws.{tidy_before, tidy_up_to, image_laid, image_told}
use Rattle.lower_bounds.specs.LowerBounds.{IsLowerShown}
use Rattle.lower_bounds.specs.Laws.{LowerBoundsAreKept}
use Rattle.lower_bounds.proofs.Counts.{left_late}
use Rattle.lower_bounds.proofs.Keeping.{kept_by_steps}

-- how often loops have to turn says nothing of which are left
same_leaving : (l : Loops) (trips : ℕ → ℕ) (m : Move) (pc next k : ℕ) → leaves_by m (with_trips l trips) pc next k ≡ leaves_by m l pc next k
same_leaving l trips Local pc next k = refl
same_leaving l trips Call pc next k = refl
same_leaving l trips Return pc next k = refl

module _ (t : Text) (env : Setting) (s : State) (code : Code) (v : Values) (w : Stacks) (l : Loops) (start : IsStartOver t env s) (reached : IsReachedCode t code) (inv : IsStackInvariant t (text_graph t code) v w)
    (laid : IsLaidOut env.layout w.areas w.fixed) (starts : AreTold v w s.pc (view_of w s.regs s.regs s.bytes)) (bytes : AreBytes s.bytes) (input : All (λ x. x < 256) env.input) where
  pub kept_by_lower : (trips : ℕ → ℕ) → ((k : ℕ) → k < l.loops → IsLowerShown t (text_graph t code) v w l k ⊎ (l.least_trips k ≤ trips k)) → (n : ℕ) → IsTidy v w env s n → (d : Carried) → kept_at env s (with_trips l trips) n ≡ Some d → kept_at env s l n ≡ Some d
  kept_by_lower trips has n tidy d kept = kept_by_steps l (with_trips l trips) (λ c x. refl) env s (IsTidy v w env s) (tidy_before v w env s)
      (λ n c d x tidy at.
      let p = kept_parts (with_trips l trips) (counts_after l c x) x (returns_after c.returns x) d at.more in
      not_broken l d.counts x
      (λ j jl. subst (λ f. f j ≤ l.bound j) p.1 (p.2 j jl))
      (λ j jl left. ⊎_elim
      (λ (b : IsLowerShown t (text_graph t code) v w l j). left_late t env s code v w l j (l.least_trips j) b.certificate start reached inv laid starts bytes input b.is n tidy d x at.goes at.went
      (kept_too (unasked l) (with_trips l trips) (λ c x. refl) env s (λ n c d x whole k. refl) (suc n) d at.behind) left)
      (λ (few : l.least_trips j ≤ trips j). let q : trips j ≤ d.counts j = subst (λ f. trips j ≤ f j) p.1 (p.3 j jl (same_leaving l trips x.moved x.pc x.next j ∙ left)) in let r : l.least_trips j ≤ d.counts j = omega arith in r) (has j jl))) n tidy d kept

some_same : (x y : Carried) → Some x ≡ Some y → x ≡ y
some_same x y e = let r : x ≡ y = cc in r

pub lower_kept : LowerBoundsAreKept
lower_kept file image levels input code v w l trips read small_file small_input ana which n tidy kept =
    record {
      carried = kept.carried;
      kept = by n (omega arith) kept.carried kept.kept;
      shallow = λ m c le h.
          let b = kept_before env s (with_trips l trips) n m kept.carried le kept.kept in
          let same : b.0 ≡ c = some_same b.0 c (sym (by m le b.0 b.1) ∙ h) in
          subst (λ d. length d.returns ≤ most_returns) same (kept.shallow m b.0 le b.1);
    }
  where
    env : Setting
    env = setting_of image levels input

    s : State
    s = start_of image levels

    by : (m : ℕ) → m ≤ n → (d : Carried) → kept_at env s (with_trips l trips) m ≡ Some d → kept_at env s l m ≡ Some d
    by m le d h = kept_by_lower (text_of image) env s code v w l (image_starts file image levels input read) ana.reached ana.invariant (image_laid image code v w ana) (image_told image levels code v w ana) (loaded_small file image read small_file) small_input trips which m (tidy_up_to v w env s n m le tidy) d h
