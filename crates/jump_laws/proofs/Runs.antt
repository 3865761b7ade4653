-- What is known of words of tables in registers is so along a run whose returns go back to their calls.
use Rattle.std.proofs.Common.{◌≡◌, ℕ, zero, suc, ◌+◌, ◌*◌, ◌<◌, ◌^◌, false, List, [], ◌∷◌, ◌++◌, refl, sym, ap, ◌∙◌, subst, arith, Option, Some, None}
use Rattle.std.specs.Prelude.{All}
use Rattle.std.proofs.lemmas.List.Sums.{fold-append}
use Rattle.scale_base.specs.Layout.{may_write}
use Rattle.scale_base.specs.declared.instruction.Instr.{Instr}
use Rattle.scale_base.specs.declared.stepping.Stepped.{Stepped}
use Rattle.scale_base.specs.declared.stepping.StepEnd.{StepEnd}
use Rattle.scale_base.specs.declared.stepping.StepEnd.TheVariants.{Went, Exited, Trapped}
use Rattle.scale_base.specs.State.{Setting, State, word_at}
use Rattle.scale_base.specs.Reading.{instr_of}
use Rattle.scale_base.specs.Step.{step}
use Rattle.scale_base.specs.Run.{Run, Standing, GoesOn, HasExited, HasTrapped, one_more_by, ended, run, run_of, setting_of, start_of}
use Rattle.cost_theory.specs.Graph.{Loops}
use Rattle.cost_theory.specs.Reached.{Code}
use Rattle.code_text.specs.Text.{Text, instr_at, text_of}
use Rattle.code_text.specs.TextGraph.{text_graph, IsReachedCode}
use Rattle.code_text.proofs.Laws.{kind_facts}
use Rattle.graph_runs.specs.ReturnAddresses.{returns_after}
use Rattle.graph_runs.specs.RunTransitions.{StandsBy, returns_more, returns_so}
use Rattle.graph_runs.specs.Laws.{IsStartOver}
use Rattle.graph_runs.proofs.Laws.{image_starts}
use Rattle.bound_laws.specs.Turning.{unasked}
use Rattle.bound_laws.specs.Values.{AreBytes, Steps, Values}
use Rattle.bound_laws.proofs.Laws.{At, Onward, Way, all_returns, along, back_to, fetched, into_call, loaded_small, onward, over_edge}
use Rattle.stack_laws.specs.Areas.{IsLaidOut}
use Rattle.stack_laws.specs.Laws.{StackValuesHold}
use Rattle.stack_laws.specs.Stacks.{Stacks, view_of, IsStackInvariant, AreTold}
use Rattle.stack_laws.specs.Tidy.{IsTidy}
use Rattle.stack_laws.proofs.Laws.{tidy_before, bytes_kept, image_laid, image_told}
use Rattle.jump_laws.specs.declared.reads.TableRead.{TableRead}
use Rattle.jump_laws.specs.Reads.{AreReads, IsRead}
use Rattle.jump_laws.specs.Laws.{AreUnwritten, ImageWordsHold, TableWordsHold}
use Rattle.jump_laws.proofs.Steps.{reads_on}

-- ---- the last step of a run that goes on

pub record LastStep (env : Setting) (s : State) (n : ℕ) : Type 0 where
  pub goes : (run env s n).standing ≡ GoesOn
  pub x : Stepped
  pub went : (step env (run env s n).state).end ≡ Went x
  pub same : run env s (suc n) ≡ ended (run env s n).steps (Went x) (step env (run env s n).state).state

last_step : (env : Setting) (s : State) (n : ℕ) → (run env s (suc n)).standing ≡ GoesOn → LastStep env s n
unfolding run
last_step env s n on = by_standing (run env s n).standing refl
  where
    r : Run
    r = run env s n

    by_end : r.standing ≡ GoesOn → (end : StepEnd) → (step env r.state).end ≡ end → LastStep env s n
    by_end e (Went x) q = record { goes = e; x = x; went = q; same = ap (one_more_by env r) e ∙ ap (λ y. ended r.steps y (step env r.state).state) q }
    by_end e (Exited x status) q =
        let same : run env s (suc n) ≡ ended r.steps (Exited x status) (step env r.state).state = ap (one_more_by env r) e ∙ ap (λ y. ended r.steps y (step env r.state).state) q in
        let no : HasExited status ≡ GoesOn = sym (ap (λ y. y.standing) same) ∙ on in
        let bad : ⊥ = cc in absurd bad
    by_end e (Trapped trap) q =
        let same : run env s (suc n) ≡ ended r.steps (Trapped trap) (step env r.state).state = ap (one_more_by env r) e ∙ ap (λ y. ended r.steps y (step env r.state).state) q in
        let no : HasTrapped trap ≡ GoesOn = sym (ap (λ y. y.standing) same) ∙ on in
        let bad : ⊥ = cc in absurd bad

    by_standing : (y : Standing) → r.standing ≡ y → LastStep env s n
    by_standing GoesOn e = by_end e (step env r.state).end refl
    by_standing (HasExited status) e = let no : HasExited status ≡ GoesOn = sym e ∙ (sym (ap (λ y. y.standing) (ap (one_more_by env r) e)) ∙ on) in let bad : ⊥ = cc in absurd bad
    by_standing (HasTrapped trap) e = let no : HasTrapped trap ≡ GoesOn = sym e ∙ (sym (ap (λ y. y.standing) (ap (one_more_by env r) e)) ∙ on) in let bad : ⊥ = cc in absurd bad

-- the return addresses before it
returns_before : (xs : List Stepped) (x : Stepped) (rs : List ℕ) → returns_so (xs ++ x ∷ []) ≡ Some rs → (o : Option (List ℕ)) → returns_so xs ≡ o → (ss : List ℕ) × (returns_so xs ≡ Some ss) × (returns_after ss x ≡ Some rs)
returns_before xs x rs h None e = let q : returns_so (xs ++ x ∷ []) ≡ None = fold-append returns_more (Some []) xs (x ∷ []) ∙ ap (λ o. returns_more o x) e in let bad : ⊥ = cc in absurd bad
returns_before xs x rs h (Some ss) e = let q : returns_so (xs ++ x ∷ []) ≡ returns_after ss x = fold-append returns_more (Some []) xs (x ∷ []) ∙ ap (λ o. returns_more o x) e in (ss, e, sym q ∙ h)

word_same : (f g : ℕ → ℕ) (q : ℕ) → ((j : ℕ) → j < 4 → f (q + j) ≡ g (q + j)) → word_at f q ≡ word_at g q
word_same f g q same =
    let z : q + 0 ≡ q = omega arith in
    let a : f q ≡ g q = sym (ap f z) ∙ (same 0 (omega arith) ∙ ap g z) in
    let b : f (q + 1) ≡ g (q + 1) = same 1 (omega arith) in
    let c : f (q + 2) ≡ g (q + 2) = same 2 (omega arith) in
    let d : f (q + 3) ≡ g (q + 3) = same 3 (omega arith) in
    ap (λ n. n + f (q + 1) * 2 ^ 8 + f (q + 2) * 2 ^ 16 + f (q + 3) * 2 ^ 24) a
    ∙ (ap (λ n. g q + n * 2 ^ 8 + f (q + 2) * 2 ^ 16 + f (q + 3) * 2 ^ 24) b
    ∙ (ap (λ n. g q + g (q + 1) * 2 ^ 8 + n * 2 ^ 16 + f (q + 3) * 2 ^ 24) c
    ∙ ap (λ n. g q + g (q + 1) * 2 ^ 8 + g (q + 2) * 2 ^ 16 + n * 2 ^ 24) d))

-- ---- along a run

module _ (told_along : StackValuesHold) (t : Text) (env : Setting) (s : State) (code : Code) (v : Values) (w : Stacks) (known : ℕ → Option TableRead) (start : IsStartOver t env s) (reached : IsReachedCode t code)
    (inv : IsStackInvariant t (text_graph t code) v w) (reads : AreReads t (text_graph t code) v known) (unwritten : AreUnwritten env.layout known)
    (laid : IsLaidOut env.layout w.areas w.fixed) (starts : AreTold v w s.pc (view_of w s.regs s.regs s.bytes)) (bytes : AreBytes s.bytes) (input : All (λ x. x < 256) env.input) where
  none : Loops
  none = record { loops = 0; header = λ k. 0; bound = λ k. 0; least_trips = λ k. 0; inside = λ k a. false }

  -- where it stands
  stands_at : (n : ℕ) → (run env s n).standing ≡ GoesOn → (rs : List ℕ) → returns_so (run env s n).steps ≡ Some rs → (ss : List ℕ) × At t (run env s n).state ss × (ss ≡ rs)
  stands_at n on rs returns =
      let k = all_returns env s none n rs returns in
      let both = along t env start.text code reached.lists reached.words s start.state start.entry (unasked none) (λ u calls c. Unit {0}) (λ c. Unit {0}) tt (λ u calls c h. tt) (λ m c f x h at go i. tt) n k.0 k.1 in
      let p : (at : At t (run env s n).state k.0.returns) × Unit {0} = subst (λ y. StandsBy y ((at : At t (run env s n).state k.0.returns) × Unit {0})) on both.1 in
      (k.0.returns, p.0, k.2)

  pub record Holds (u : State) : Type 0 where
    pub same : (a : ℕ) → may_write env.layout a ≡ false → u.bytes a ≡ s.bytes a
    pub read : IsRead s.bytes (known u.pc) u.regs

  module _ (n : ℕ) (at : (ss : List ℕ) × At t (run env s n).state ss) (begun : List ℕ) (told : AreTold v w (run env s n).state.pc (view_of w begun (run env s n).state.regs (run env s n).state.bytes)) (now : Holds (run env s n).state)
      (x : Stepped) (went : (step env (run env s n).state).end ≡ Went x) where
    abbrev u : State
    u = (run env s n).state

    abbrev next : State
    next = (step env u).state

    facts : (i : Instr) × (instr_at t u.pc ≡ Some i)
    facts = let k = kind_facts t u.pc (reached.words at.1.function u.pc at.1.reached) in (k.2.0, k.2.1)

    fetch : instr_of (word_at u.bytes u.pc) ≡ Some facts.0
    fetch = fetched t env start.text code reached.lists reached.words u at.0 at.1 ∙ facts.1

    same : (a : ℕ) → may_write env.layout a ≡ false → next.bytes a ≡ s.bytes a
    same a off = bytes_kept env u x went a off ∙ now.same a off

    words : (y : TableRead) → known next.pc ≡ Some y → (k : ℕ) → k < y.table.count → word_at u.bytes (y.table.at + y.table.step * k) ≡ word_at s.bytes (y.table.at + y.table.step * k)
    words y e k lt = word_same u.bytes s.bytes (y.table.at + y.table.step * k) (λ j jl. now.same (y.table.at + y.table.step * k + j) (unwritten next.pc y e k lt j jl))

    over : Steps (text_graph t code) u.pc next.pc → (o : Option TableRead) → known next.pc ≡ o → IsRead s.bytes o next.regs
    over steps None e = tt
    over steps (Some y) e = reads_on env laid.keyless u v at.1.over.zero at.1.over.size told.registers.each facts.0 fetch x went s.bytes bytes known now.read y (reads.registers next.pc y e) (words y e)
        (reads.steps u.pc next.pc facts.0 y steps told.registers.live facts.1 e)

    nothing : known next.pc ≡ None → IsRead s.bytes (known next.pc) next.regs
    nothing e = subst (λ (o : Option TableRead). IsRead s.bytes o next.regs) (sym e) tt

    by_way : (calls after : List ℕ) → Way (text_graph t code) u.pc next.pc calls after x.moved → IsRead s.bytes (known next.pc) next.regs
    by_way calls after (over_edge leads steps within moved) = over steps (known next.pc) refl
    by_way calls after (into_call call within moved) = nothing (reads.calls u.pc next.pc call)
    by_way calls after (back_to z e to us before within lt from returns call leads moved) = nothing (reads.back z to next.pc call leads)

    pub onwards : (rs : List ℕ) → returns_after at.0 x ≡ Some rs → Holds next
    onwards rs returns =
        let on : Onward t env start.text code reached.lists reached.words u next at.1.calls rs x.moved = onward t env start.text code reached.lists reached.words u at.0 rs at.1 x went returns in
        record { same = same; read = by_way at.1.calls on.at.calls on.way }

  first : Holds s
  first = record { same = λ a off. refl; read = subst (λ (o : Option TableRead). IsRead s.bytes o s.regs) (sym (ap known start.entry ∙ reads.start)) tt }

  pub holds_at : (n : ℕ) → IsTidy v w env s n → (rs : List ℕ) → returns_so (run env s n).steps ≡ Some rs → (run env s n).standing ≡ GoesOn → Holds (run env s n).state
  unfolding run
  holds_at zero tidy rs returns on = first
  holds_at (suc n) tidy rs returns on =
      let l = last_step env s n on in
      let so : returns_so ((run env s n).steps ++ l.x ∷ []) ≡ Some rs = sym (ap (λ y. returns_so y.steps) l.same) ∙ returns in
      let b = returns_before (run env s n).steps l.x rs so (returns_so (run env s n).steps) refl in
      let before : IsTidy v w env s n = tidy_before v w env s n tidy in
      let ih : Holds (run env s n).state = holds_at n before b.0 b.1 l.goes in
      let stood = stands_at n l.goes b.0 b.1 in
      let told = told_along t env s code v w start reached inv laid starts bytes input n before b.0 b.1 l.goes in
      let after : returns_after stood.0 l.x ≡ Some rs = ap (λ q. returns_after q l.x) stood.2 ∙ b.2 in
      let then : Holds (step env (run env s n).state).state = onwards n (stood.0, stood.1) told.0 told.1 ih l.x l.went rs after in
      subst Holds (sym (ap (λ y. y.state) l.same)) then

pub words_hold : StackValuesHold → TableWordsHold
words_hold told_along t env s code v w known start reached inv reads unwritten laid starts bytes input n tidy rs returns on =
    (holds_at told_along t env s code v w known start reached inv reads unwritten laid starts bytes input n tidy rs returns on).read

pub image_words_hold : StackValuesHold → ImageWordsHold
unfolding run_of
image_words_hold told_along file image levels input code v w known read small_file small_input ana reads unwritten n tidy rs returns on =
    words_hold told_along (text_of image) (setting_of image levels input) (start_of image levels) code v w known (image_starts file image levels input read) ana.reached ana.invariant reads unwritten
    (image_laid image code v w ana) (image_told image levels code v w ana) (loaded_small file image read small_file) small_input n tidy rs returns on
