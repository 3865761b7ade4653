-- The original's run keeps the lists of proved jumps as long as it keeps the others, since the lowered run stands as it does.
use Rattle.std.proofs.Common.{◌≡◌, ℕ, zero, suc, ◌+◌, ◌<◌, ◌≤◌, ◌⊎◌, inl, inr, ⊎_elim, true, false, List, [], ◌∷◌, ◌++◌, get_or, length, length-append, Some, Ok, refl, sym, ap, ◌∙◌, subst, arith}
use Rattle.std.specs.Prelude.{All, is_some}
use Rattle.std.specs.List.{Contains}
use Rattle.std.proofs.lemmas.Bool.{cases_lt}
use Rattle.std.proofs.lemmas.List.{get_or_append_left}
use Rattle.std.proofs.lemmas.Option.{slice_get-get_or}
use Rattle.scale_base.specs.Image.{Image, contents, image_of}
use Rattle.scale_base.specs.declared.stepping.Stepped.{Stepped}
use Rattle.scale_base.specs.declared.stepping.StepEnd.{StepEnd}
use Rattle.scale_base.specs.declared.stepping.StepEnd.TheVariants.{Went, Exited, Trapped}
use Rattle.scale_base.specs.State.{Setting, State, reg}
use Rattle.scale_base.specs.Step.{step}
use Rattle.scale_base.specs.Run.{Run, Standing, GoesOn, HasExited, HasTrapped, ended, one_more_by, run, run_of, setting_of, start_of}
use Rattle.scale_base.proofs.Laws.{contents-are}
use Rattle.jump_lists.specs.declared.notes.JumpNote.{JumpNote}
use Rattle.image_lower.specs.FarJumps.{far_jump}
use Rattle.image_lower.specs.Block.{block_len, register}
use Rattle.image_lower.specs.Meets.{AreSameStates, HoldsTarget, IsSoFar, KeepsToLists, in_block}
use Rattle.jump_proofs.specs.Proved.{AllProvedRunsKeepLists, AreBytes, KeepsElsewhere, ProvedJumpsKeepLists}

file_is : (file : List ℕ) (image : Image) → image_of file ≡ Ok image → image.file ≡ file
unfolding contents
file_is file image e = sym (ap (λ (i : Image). i.file) (contents-are file image e))

pub keep_lists : ProvedJumpsKeepLists
keep_lists image jumps stored counts safe proof small given back k note noted flagged levels input n small_input keeps goes at =
    let m = safe.runs levels input n keeps in
    let raw : Run = run_of safe.original levels input n in
    let low : Run = run_of safe.lowered levels input m.0 in
    let stands : (low.standing ≡ GoesOn) × AreSameStates safe.original safe.lowered raw.state low.state =
    subst (λ (y : Standing). IsSoFar safe.original safe.lowered safe.notes safe.base raw low y) goes m.1.standing in
    let bytes : AreBytes safe.lowered.file = subst AreBytes (sym (file_is stored safe.lowered safe.lowered_is)) small in
    let returns = given.returns bytes back levels input m.0 small_input in
    let held : Contains note.targets (reg low.state.regs (register safe.original note)) =
    given.jumps bytes k note noted flagged levels input m.0 returns.0 small_input returns.1 stands.0 (stands.1.pc ∙ at) in
    subst (λ (regs : List ℕ). Contains note.targets (reg regs (register safe.original note))) stands.1.regs held

-- ---- where all are proved

-- a step more is one more at the end, or none
steps_more : (env : Setting) (s : State) (n : ℕ) → ((run env s (suc n)).steps ≡ (run env s n).steps) ⊎ ((x : Stepped) × ((run env s (suc n)).steps ≡ (run env s n).steps ++ x ∷ []))
unfolding run
steps_more env s n = by_standing (run env s n).standing refl
  where
    r : Run
    r = run env s n

    by_end : r.standing ≡ GoesOn → (end : StepEnd) → (step env r.state).end ≡ end → ((run env s (suc n)).steps ≡ r.steps) ⊎ ((x : Stepped) × ((run env s (suc n)).steps ≡ r.steps ++ x ∷ []))
    by_end e (Went x) q = inr (x, ap (λ y. y.steps) (ap (one_more_by env r) e ∙ ap (λ y. ended r.steps y (step env r.state).state) q))
    by_end e (Exited x status) q = inr (x, ap (λ y. y.steps) (ap (one_more_by env r) e ∙ ap (λ y. ended r.steps y (step env r.state).state) q))
    by_end e (Trapped trap) q = inl (ap (λ y. y.steps) (ap (one_more_by env r) e ∙ ap (λ y. ended r.steps y (step env r.state).state) q))

    by_standing : (y : Standing) → r.standing ≡ y → ((run env s (suc n)).steps ≡ r.steps) ⊎ ((x : Stepped) × ((run env s (suc n)).steps ≡ r.steps ++ x ∷ []))
    by_standing GoesOn e = by_end e (step env r.state).end refl
    by_standing (HasExited status) e = inl (ap (λ y. y.steps) (ap (one_more_by env r) e))
    by_standing (HasTrapped trap) e = inl (ap (λ y. y.steps) (ap (one_more_by env r) e))

-- what holds of all steps holds of those before
all_before : (P : Stepped → Type 0) (xs ys : List Stepped) → (ys ≡ xs) ⊎ ((x : Stepped) × (ys ≡ xs ++ x ∷ [])) → All P ys → All P xs
all_before P xs ys same all = ⊎_elim
    (λ (e : ys ≡ xs). subst (All P) e all)
    (λ (more : (x : Stepped) × (ys ≡ xs ++ x ∷ [])). first (more.0 ∷ []) (subst (All P) more.1 all)) same
  where
    first : (zs : List Stepped) → All P (xs ++ zs) → All P xs
    first zs h k d lt = let long = length-append xs zs in subst P (get_or_append_left xs zs d k lt) (h k d (omega (arith, long, lt)))

module _ (image : Image) (notes : List JumpNote) (base levels : ℕ) (input : List ℕ)
    (held : (n : ℕ) → KeepsToLists image notes base levels input n → (run_of image levels input n).standing ≡ GoesOn → All (HoldsTarget image notes base (run_of image levels input n).state) notes) where
  elsewhere_before : (n : ℕ) → KeepsElsewhere image notes base levels input (suc n) → KeepsElsewhere image notes base levels input n
  unfolding run_of
  elsewhere_before n keeps =
      let more = steps_more (setting_of image levels input) (start_of image levels) n in
      record {
        pairs = all_before (λ (x : Stepped). is_some (far_jump image notes x.next) ≡ true → x.pc + 4 ≡ x.next) (run (setting_of image levels input) (start_of image levels) n).steps (run (setting_of image levels input) (start_of image levels) (suc n)).steps more keeps.pairs;
        outside = all_before (λ (x : Stepped). in_block base (block_len image notes) x.next ≡ false) (run (setting_of image levels input) (start_of image levels) n).steps (run (setting_of image levels input) (start_of image levels) (suc n)).steps more keeps.outside;
      }

  lists_kept : (n : ℕ) → KeepsElsewhere image notes base levels input n → KeepsToLists image notes base levels input n
  lists_kept zero keeps = record { pairs = keeps.pairs; targets = λ m lt goes. let bad : ⊥ = omega arith in absurd bad; outside = keeps.outside }
  lists_kept (suc n) keeps =
      let before : KeepsToLists image notes base levels input n = lists_kept n (elsewhere_before n keeps) in
      record {
        pairs = keeps.pairs;
        targets = λ m lt goes. ⊎_elim
            (λ (less : m < n). before.targets m less goes)
            (λ (most : n ≤ m).
            let e : n ≡ m = omega arith in
            subst (λ (j : ℕ). (run_of image levels input j).standing ≡ GoesOn → All (HoldsTarget image notes base (run_of image levels input j).state) notes) e (held n before) goes) (cases_lt m n);
        outside = keeps.outside;
      }

pub all_keep_lists : AllProvedRunsKeepLists
all_keep_lists image jumps stored counts safe proof small given back all levels input n small_input keeps =
    lists_kept safe.original safe.notes safe.base levels input
    (λ m kept goes k d lt. keep_lists image jumps stored counts safe proof small given back k (get_or safe.notes k d) (slice_get-get_or safe.notes k d lt) (all k lt) levels input m small_input kept goes) n keeps
