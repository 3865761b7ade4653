-- Bounds that tables of the stack show are kept.
use Rattle.std.proofs.Common.{◌≡◌, ℕ, suc, ◌*◌, ◌/◌, ◌<◌, ◌≤◌, ◌⊎◌, ⊎_elim, length, refl, sym, ap, ◌∙◌, subst, arith, Some, None}
use Rattle.std.specs.Prelude.{All, option_map}
use Rattle.std.proofs.Math.Nat.{le-div_iff_mul-le}
use Rattle.scale_base.specs.Image.{Image}
use Rattle.scale_base.specs.Layout.{layout_of}
use Rattle.scale_base.specs.declared.stepping.Move.{Move}
use Rattle.scale_base.specs.declared.stepping.Move.TheVariants.{Local, Call, Return}
use Rattle.scale_base.specs.State.{Setting, State, reg}
use Rattle.scale_base.specs.Run.{run_of, setting_of, start_of}
use Rattle.cost_theory.specs.Graph.{Loops}
use Rattle.cost_theory.specs.Reached.{Code}
use Rattle.code_text.specs.Text.{Text, text_of}
use Rattle.code_text.specs.TextGraph.{text_graph, IsReachedCode}
use Rattle.graph_runs.specs.ReturnAddresses.{returns_after}
use Rattle.graph_runs.specs.KeptSteps.{Carried, counts_after, leaves_by}
use Rattle.graph_runs.specs.KeptRuns.{kept_at, most_returns}
use Rattle.graph_runs.specs.Laws.{IsStartOver}
use Rattle.graph_runs.proofs.Laws.{kept_parts, image_starts}
use Rattle.bound_laws.specs.Turning.{unasked, with_bounds}
use Rattle.bound_laws.specs.Values.{IsRegister, IsHeld, Values, AreBytes}
use Rattle.bound_laws.proofs.Laws.{kept_too, not_broken, all_returns, kept_before, loaded_small}
use Rattle.stack_laws.specs.Telling.{IsTelling}
use Rattle.stack_laws.specs.Digits.{IsDwindling}
use Rattle.stack_laws.specs.Areas.{IsLaidOut}
use Rattle.stack_laws.specs.Stacks.{name_span, IsSpanned, Stacks, View, view_of, IsNamed, IsStackInvariant, AreTold}
use Rattle.stack_laws.specs.Stacks.Name.{of_begin}
use Rattle.stack_laws.specs.Counting.{IsShown}
use Rattle.stack_laws.specs.Tidy.{IsTidy}
use Rattle.stack_laws.specs.Laws.{IsStackAnalysed, ShownBoundsAreKept, ShownBoundsAreKeptByReturns, RunsAreKept}
use Rattle.stack_laws.proofs.Naming.{begun_named, spanned_covers, span_named}
use Rattle.stack_laws.proofs.Tidy.{tidy_before, tidy_up_to}
use Rattle.stack_laws.proofs.Returning.{runs_come_back}
use Rattle.stack_laws.proofs.Counts.{stacks_bound_turns}
use Rattle.stack_laws.proofs.Keeping.{kept_while}

few_turns : (count least width bound : ℕ) → 0 < least → count * least ≤ width → width / least ≤ bound → count ≤ bound
few_turns count least width bound p a b = let q : count ≤ width / least = (le-div_iff_mul-le p).1 a in omega arith

-- bounds say nothing of which loops are left
same_leaving : (l : Loops) (bounds : ℕ → ℕ) (m : Move) (pc next k : ℕ) → leaves_by m (with_bounds l bounds) pc next k ≡ leaves_by m l pc next k
same_leaving l bounds Local pc next k = refl
same_leaving l bounds Call pc next k = refl
same_leaving l bounds Return pc next k = refl

module _ (t : Text) (env : Setting) (s : State) (code : Code) (v : Values) (w : Stacks) (l : Loops) (start : IsStartOver t env s) (reached : IsReachedCode t code) (inv : IsStackInvariant t (text_graph t code) v w)
    (laid : IsLaidOut env.layout w.areas w.fixed) (starts : AreTold v w s.pc (view_of w s.regs s.regs s.bytes)) (bytes : AreBytes s.bytes) (input : All (λ x. x < 256) env.input) where
  bounded : (k : ℕ) → IsShown t (text_graph t code) v w l k → (n : ℕ) → IsTidy v w env s n → (d : Carried) → kept_at env s (unasked l) n ≡ Some d → d.counts k ≤ l.bound k
  bounded k has n tidy d kept = few_turns (d.counts k) has.certificate.least has.certificate.width (l.bound k) has.positive
      (stacks_bound_turns t env s code v w l k has.certificate start reached inv laid starts bytes input has.is has.within n tidy d kept) has.enough

  pub kept_by_shown : ((k : ℕ) → k < l.loops → IsShown t (text_graph t code) v w l k × (l.least_trips k ≡ 0)) → (n : ℕ) → IsTidy v w env s n → (d : Carried) → kept_at env s (unasked l) n ≡ Some d → kept_at env s l n ≡ Some d
  kept_by_shown has n tidy d kept = kept_while l (unasked l) (λ c x. refl) env s (IsTidy v w env s) (tidy_before v w env s)
      (λ n c d x tidy whole k. not_broken l d.counts x
      (λ j jl. bounded j (has j jl).0 (suc n) tidy d whole)
      (λ j jl left. let z : l.least_trips j ≡ 0 = (has j jl).1 in let r : l.least_trips j ≤ d.counts j = omega arith in r)) n tidy d kept

  pub kept_by_bounds : (bounds : ℕ → ℕ) → ((k : ℕ) → k < l.loops → IsShown t (text_graph t code) v w l k ⊎ (bounds k ≤ l.bound k)) → (n : ℕ) → IsTidy v w env s n → (d : Carried) → kept_at env s (with_bounds l bounds) n ≡ Some d → kept_at env s l n ≡ Some d
  kept_by_bounds bounds has n tidy d kept = kept_while l (with_bounds l bounds) (λ c x. refl) env s (IsTidy v w env s) (tidy_before v w env s)
      (λ n c d x tidy whole k.
      let p = kept_parts (with_bounds l bounds) (counts_after l c x) x (returns_after c.returns x) d k in
      not_broken l d.counts x
      (λ j jl. ⊎_elim
      (λ (b : IsShown t (text_graph t code) v w l j). bounded j b (suc n) tidy d (kept_too (unasked l) (with_bounds l bounds) (λ c x. refl) env s (λ n c d x whole k. refl) (suc n) d whole))
      (λ (low : bounds j ≤ l.bound j). let q : counts_after l c x j ≤ bounds j = p.2 j jl in let e : counts_after l c x j ≡ d.counts j = ap (λ f. f j) p.1 in let r : d.counts j ≤ l.bound j = omega arith in r) (has j jl))
      (λ j jl left. subst (λ f. l.least_trips j ≤ f j) p.1 (p.3 j jl (same_leaving l bounds x.moved x.pc x.next j ∙ left)))) n tidy d kept

no_key : (image : Image) → image.keyed_segment ≡ None → (layout_of image).keyed ≡ None
unfolding layout_of
no_key image e = ap (option_map (λ k. k.range)) e

-- no segment of the image is keyed, its bytes are in the areas, and no store changes the fixed ones
pub image_laid : (image : Image) (code : Code) (v : Values) (w : Stacks) → IsStackAnalysed image code v w → IsLaidOut (layout_of image) w.areas w.fixed
image_laid image code v w ana = record { keyless = no_key image ana.plain; within = ana.areas; unwritten = ana.unwritten }

some_same : (x y : Carried) → Some x ≡ Some y → x ≡ y
some_same x y e = let r : x ≡ y = cc in r

-- at the start of an image's run
module _ (image : Image) (levels : ℕ) (code : Code) (v : Values) (w : Stacks) (ana : IsStackAnalysed image code v w) where
  abbrev s : State
  s = start_of image levels

  abbrev fresh : View
  fresh = view_of w s.regs s.regs s.bytes

  names : (r : ℕ) → IsRegister r → IsNamed (w.name image.entry r) fresh (reg s.regs r)
  names r is = ⊎_elim (λ (q : w.name image.entry r ≡ None). subst (λ n. IsNamed n fresh (reg s.regs r)) (sym q) tt)
      (λ (q : w.name image.entry r ≡ Some (of_begin r 0)). subst (λ n. IsNamed n fresh (reg s.regs r)) (sym q) (begun_named fresh r refl)) (ana.beginning.names r is)

  pub image_told : AreTold v w s.pc fresh
  image_told = record {
    registers = ana.starts;
    names = names;
    words = λ k. subst (λ o. IsHeld o (fresh.words k)) (sym (ana.beginning.words k)) tt;
    word_names = λ k. subst (λ n. IsNamed n fresh (fresh.words k)) (sym (ana.beginning.word_names k)) tt;
    spans = λ r is. spanned_covers (w.span image.entry r) (name_span (w.name image.entry r)) fresh (reg s.regs r) (span_named (w.name image.entry r) fresh (reg s.regs r) (names r is)) (ana.beginning.spans r is);
    word_spans = λ k. subst (λ n. IsSpanned n fresh (fresh.words k)) (sym (ana.beginning.word_spans k)) tt;
    begins = ana.begins;
    cells = ana.cells;
    fixed = ana.fixed;
    told = λ j. subst (λ o. IsTelling o s.regs) (sym (ana.beginning.told j)) tt;
    dwindling = λ j. subst (λ o. IsDwindling o s.regs) (sym (ana.beginning.dwindling j)) tt;
  }

pub shown_kept : ShownBoundsAreKept
shown_kept file image levels input code v w l bounds read small_file small_input ana which n tidy kept =
    record {
      carried = kept.carried;
      kept = by n (omega arith) kept.carried kept.kept;
      shallow = λ m c le h.
          let b = kept_before env s (with_bounds l bounds) n m kept.carried le kept.kept in
          let same : b.0 ≡ c = some_same b.0 c (sym (by m le b.0 b.1) ∙ h) in
          subst (λ d. length d.returns ≤ most_returns) same (kept.shallow m b.0 le b.1);
    }
  where
    env : Setting
    env = setting_of image levels input

    s : State
    s = start_of image levels

    by : (m : ℕ) → m ≤ n → (d : Carried) → kept_at env s (with_bounds l bounds) m ≡ Some d → kept_at env s l m ≡ Some d
    by m le d h = kept_by_bounds (text_of image) env s code v w l (image_starts file image levels input read) ana.reached ana.invariant (image_laid image code v w ana) (image_told image levels code v w ana) (loaded_small file image read small_file) small_input bounds which m (tidy_up_to v w env s n m le tidy) d h

pub shown_by_returns : ShownBoundsAreKeptByReturns
unfolding run_of
shown_by_returns file image levels input code v w l read small_file small_input ana which n tidy returns =
    record {
      carried = (here n (omega arith)).0;
      kept = (here n (omega arith)).1;
      shallow = λ m c le h.
          let b = here m le in
          let same : b.0 ≡ c = some_same b.0 c (sym b.1 ∙ h) in
          subst (λ d. length d.returns ≤ most_returns) same b.2;
    }
  where
    env : Setting
    env = setting_of image levels input

    s : State
    s = start_of image levels

    by : (m : ℕ) → m ≤ n → (d : Carried) → kept_at env s (unasked l) m ≡ Some d → kept_at env s l m ≡ Some d
    by m le d h = kept_by_shown (text_of image) env s code v w l (image_starts file image levels input read) ana.reached ana.invariant (image_laid image code v w ana) (image_told image levels code v w ana) (loaded_small file image read small_file) small_input which m (tidy_up_to v w env s n m le tidy) d h

    here : (m : ℕ) → m ≤ n → (d : Carried) × (kept_at env s l m ≡ Some d) × (length d.returns ≤ most_returns)
    here m le =
        let q = returns m le in
        let k = all_returns env s l m q.0 q.1 in
        (k.0, by m le k.0 k.1, subst (λ rs. length rs ≤ most_returns) (sym k.2) q.2)

pub runs_kept : RunsAreKept
unfolding run_of
runs_kept file image levels input code v w l read small_file small_input ana comes which n tidy =
    shown_by_returns file image levels input code v w l read small_file small_input ana which n tidy (λ m le.
    runs_come_back (text_of image) (setting_of image levels input) (start_of image levels) code v w (image_starts file image levels input read) ana.reached ana.invariant comes (image_laid image code v w ana) (image_told image levels code v w ana) (loaded_small file image read small_file) small_input m
    (tidy_up_to v w (setting_of image levels input) (start_of image levels) n m le tidy))
