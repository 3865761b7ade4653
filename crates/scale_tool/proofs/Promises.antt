-- Each command that was done keeps its promise.
use Rattle.std.proofs.Common.{◌≡◌, ◌≢◌, ℕ, ◌≤◌, List, [], ◌∷◌, ◌++◌, length, refl, sym, ap, subst, ◌∙◌, Bool, true, false}
use Rattle.std.specs.Prelude.{Option, Some, None, IfSome, cond, Result, Ok, Err, bytes_eq, codes, String}
use Rattle.std.specs.declared.alloc.Global.{Global}
use Rattle.std.specs.Cmp.Lexicographic.{nat_list_cmp_total}
use Rattle.std.specs.FinMap.{get, insert, get-insert}
use Rattle.std.proofs.lemmas.List.{append_cancel_left}
use Rattle.std.proofs.lemmas.Slice.Eq.{bytes_eq-Decides}
use Rattle.std.proofs.lemmas.Map.Text.{is_eq-slice_cmp}
use Rattle.scale_base.specs.declared.refusal.Refusal.{Refusal}
use Rattle.scale_base.specs.declared.summary.Summary.{Summary}
use Rattle.scaler.specs.Held.{IsHeld}
use Rattle.scaler.specs.Rewritten.{IsRewritten}
use Rattle.scaler.specs.Runs.{IsHeldSafely}
use Rattle.scaler.specs.RewrittenRuns.{IsRewrittenSafely}
use Rattle.scaler.proofs.Laws.{held_safe, rewritten_safe}
use Rattle.image_check.proofs.Laws.{checked_safe}
use Rattle.image_lower.specs.Lowered.{IsLowered}
use Rattle.image_lower.specs.Promise.{IsLoweredSafely}
use Rattle.image_lower.proofs.Laws.{lowered_safe}
use Rattle.input_survey.proofs.Laws.{surveyed_says}
use Rattle.gain_tuner.specs.Choice.{IsTuning}
use Rattle.gain_tuner.specs.Safe.{IsTunedSafely}
use Rattle.gain_tuner.proofs.Laws.{tuned_safe}
use Rattle.scale_report.specs.Texts.{lowered_text, summary_text, tuned_text}
use Rattle.speed_sim.specs.Simulated.{simulated}
use Rattle.image_maker.specs.Making.{headers}
use Rattle.image_maker.proofs.Laws.{small_image, small_machine, small_loops}
use Rattle.host_files.specs.HostState.{Files, HostState}
use Rattle.host_runs.specs.Answer.{Answer, refused}
use Rattle.host_runs.specs.Delivered.{with_stores}
use Rattle.host_runs.proofs.Laws as runs
use Rattle.host_runs.proofs.Laws.{EachWithin, get_inserted, stored_kept}
use Rattle.scale_tool.specs.Answer.{AreMade, MadeFiles, Makes, MakesAsked, MakesMade, made_answer, unless_refused}
use Rattle.scale_tool.specs.Command.{Command, Help, Hold, Rewrite, Report, Simulate, Make, Lower, Check, Survey, Tune, command_of, texts, wants_asked, wants_of}
use Rattle.scale_tool.specs.Promise.{MadePromise, Promise, PromiseAsked, Promised}
use Rattle.scale_tool.specs.Tool.{IsAnswered, StoresStand}
use Rattle.scale_tool.proofs.Sizes.{HasSize, command_size}

-- another name
get_beside : (files : Files) (name bytes other : List ℕ) → bytes_eq other name ≡ false → get (insert files name bytes) other ≡ get files other
get_beside files name bytes other differ =
    get-insert nat_list_cmp_total files name bytes other
    ∙ ap (λ (b : Bool). cond b (Some bytes) (get files other)) (is_eq-slice_cmp other name ∙ differ)

-- names that begin alike differ by their ends
differ_behind : (prefix a b : List ℕ) → bytes_eq a b ≡ false → bytes_eq (prefix ++ a) (prefix ++ b) ≡ false
differ_behind prefix a b differ = not_true (bytes_eq (prefix ++ a) (prefix ++ b)) refl
  where
    not_true : (t : Bool) → bytes_eq (prefix ++ a) (prefix ++ b) ≡ t → t ≡ false
    not_true false e = refl
    not_true true e =
        let same : a ≡ b = append_cancel_left prefix a b ((bytes_eq-Decides (prefix ++ a) (prefix ++ b)).0 e) in
        absurd (cc ((bytes_eq-Decides a b).1 same))

-- ---- what a command promises

-- an answer whose parts may be refused
by_part : {A : Type 0} (part : Result A Refusal) (next : A → Answer) (P : Answer → Type 0) → ((e : Refusal) → P (refused e)) → ((a : A) → part ≡ Ok a → P (next a)) → P (unless_refused part next)
by_part (Ok a) next P refusal rest = rest a refl
by_part (Err e) next P refusal rest = refusal e

module _ (number size : ℕ) (prefix : List ℕ) (files : Files) (few : size ≤ 2000) (made : MadeFiles) (are : AreMade number size made) where
  -- the promise of the files that stand after an answer that is no refusal
  abbrev Kept : Answer → Type 0
  Kept answer = answer.status ≢ 1 → MadePromise number size prefix (with_stores answer.stores files)

  none_refused : (e : Refusal) → Kept (refused e)
  none_refused e done = absurd (done refl)

  abbrev name : List ℕ → List ℕ
  name ending = prefix ++ ending

  beside : (f : Files) (a b bytes : List ℕ) → bytes_eq b a ≡ false → get (insert f (name a) bytes) (name b) ≡ get f (name b)
  beside f a b bytes differ = get_beside f (name a) bytes (name b) (differ_behind prefix b a differ)

  module _ (scaled : List ℕ) where
    abbrev files_1 : Files
    files_1 = insert files (name (codes ".elf")) made.image

    abbrev files_2 : Files
    files_2 = insert files_1 (name (codes ".machine")) made.machine

    abbrev files_3 : Files
    files_3 = insert files_2 (name (codes ".loops")) made.loops

    abbrev files_4 : Files
    files_4 = insert files_3 (name (codes ".input")) made.input

    abbrev files_5 : Files
    files_5 = insert files_4 (name (codes ".scaled")) scaled

    image_stands : get files_5 (name (codes ".elf")) ≡ Some made.image
    image_stands =
        beside files_4 (codes ".scaled") (codes ".elf") scaled refl
        ∙ beside files_3 (codes ".input") (codes ".elf") made.input refl
        ∙ beside files_2 (codes ".loops") (codes ".elf") made.loops refl
        ∙ beside files_1 (codes ".machine") (codes ".elf") made.machine refl
        ∙ get_inserted files (name (codes ".elf")) made.image

    machine_stands : get files_5 (name (codes ".machine")) ≡ Some made.machine
    machine_stands =
        beside files_4 (codes ".scaled") (codes ".machine") scaled refl
        ∙ beside files_3 (codes ".input") (codes ".machine") made.input refl
        ∙ beside files_2 (codes ".loops") (codes ".machine") made.loops refl
        ∙ get_inserted files_1 (name (codes ".machine")) made.machine

    loops_stand : get files_5 (name (codes ".loops")) ≡ Some made.loops
    loops_stand =
        beside files_4 (codes ".scaled") (codes ".loops") scaled refl
        ∙ beside files_3 (codes ".input") (codes ".loops") made.input refl
        ∙ get_inserted files_2 (name (codes ".loops")) made.loops

    input_stands : get files_5 (name (codes ".input")) ≡ Some made.input
    input_stands =
        beside files_4 (codes ".scaled") (codes ".input") scaled refl
        ∙ get_inserted files_3 (name (codes ".input")) made.input

    promised : (summary : Summary) → IsRewritten made.image made.machine made.loops (Ok ((scaled, summary))) → MadePromise number size prefix files_5
    promised summary is = record {
      made = made;
      are_made = are;
      image = image_stands;
      machine = machine_stands;
      loops = loops_stand;
      input = input_stands;
      promise = record {
        stored = scaled;
        stands = get_inserted files_4 (name (codes ".scaled")) scaled;
        told = summary;
        given = is;
        safe = λ printed again. rewritten_safe made.image made.machine made.loops scaled printed
            (small_image number size made.image few are.image)
            (subst (λ (m : List ℕ). length m ≤ 1048576) (sym are.machine) (small_machine size few))
            (small_loops number size (headers number size) made.loops few are.loops refl) again;
      };
    }

  program_kept : (given : Result (List ℕ × Summary) Refusal) → IsRewritten made.image made.machine made.loops given → Kept (made_answer prefix made given)
  program_kept (Err e) is = none_refused e
  program_kept (Ok scaled) is =
      by_part (simulated made.image made.machine made.input (Some made.loops)) _ Kept none_refused (λ first _.
      by_part (simulated scaled.0 made.machine made.input None) _ Kept none_refused (λ second _ done.
      promised scaled.0 scaled.1 is))

made_kept : (number size : ℕ) (prefix : List ℕ) (files : Files) (answer : Answer) → size ≤ 2000 → MakesMade number size prefix answer → answer.status ≢ 1 →
    MadePromise number size prefix (with_stores answer.stores files)
made_kept number size prefix files answer few makes =
    subst (λ (a : Answer). a.status ≢ 1 → MadePromise number size prefix (with_stores a.stores files)) (sym makes.told)
    (program_kept number size prefix files few makes.made makes.are_made makes.given makes.is_given)

kept : (command : Command) (loaded : List (List ℕ)) (files : Files) (answer : Answer) → HasSize command → EachWithin (wants_of command) loaded → Makes command loaded answer → answer.status ≢ 1 →
    Promise command loaded (with_stores answer.stores files)
kept Help loaded files answer size within made done = tt
kept (Hold image machine loops out) (i ∷ m ∷ l ∷ []) files answer size within made done =
    stored_kept (IsHeld i m l) (IsHeldSafely i m l) summary_text out files (λ stored told is. held_safe i m l stored told within.0 within.1.0 within.1.1.0 is) answer made done
kept (Hold image machine loops out) loaded files answer size within made done = absurd made
kept (Rewrite image machine loops out) (i ∷ m ∷ l ∷ []) files answer size within made done =
    stored_kept (IsRewritten i m l) (IsRewrittenSafely i m l) summary_text out files (λ stored told is. rewritten_safe i m l stored told within.0 within.1.0 within.1.1.0 is) answer made done
kept (Rewrite image machine loops out) loaded files answer size within made done = absurd made
kept (Report image machine loops) loaded files answer size within made done = tt
kept (Simulate image machine input out loops) loaded files answer size within made done = tt
kept (Make number blocks prefix) [] files answer size within made done = made_kept number blocks prefix files answer size made done
kept (Make number blocks prefix) (file ∷ loaded) files answer size within made done = absurd made
kept (Lower image jumps out) (i ∷ j ∷ []) files answer size within made done =
    stored_kept (IsLowered i j) (IsLoweredSafely i j) lowered_text out files (λ stored counts is. lowered_safe i j stored counts within.0 made.0 is) answer made.1 done
kept (Lower image jumps out) loaded files answer size within made done = absurd made
kept (Check image foreign machine loops) (i ∷ f ∷ m ∷ l ∷ []) files answer size within made done =
    λ printed is. checked_safe i f m l printed is made.0
kept (Check image foreign machine loops) loaded files answer size within made done = absurd made
kept (Survey image scaled machine loops inputs) (i ∷ s ∷ m ∷ l ∷ given) files answer size within made done =
    λ printed is. surveyed_says i s m l given printed within.0 within.1.1.0 within.1.1.1.0 is
kept (Survey image scaled machine loops inputs) loaded files answer size within made done = absurd made
kept (Tune image machine loops out inputs) (i ∷ m ∷ l ∷ given) files answer size within made done =
    stored_kept (IsTuning i m l given) (IsTunedSafely i m l) tuned_text out files (λ stored tuned is. tuned_safe i m l given stored tuned within.0 within.1.0 within.1.1.0 is) answer made done
kept (Tune image machine loops out inputs) loaded files answer size within made done = absurd made

kept_asked : (asked : Option Command) (loaded : List (List ℕ)) (files : Files) (answer : Answer) → IfSome asked HasSize → EachWithin (wants_asked asked) loaded → MakesAsked asked loaded answer →
    answer.status ≢ 1 → PromiseAsked asked loaded (with_stores answer.stores files)
kept_asked None loaded files answer size within made done = tt
kept_asked (Some command) loaded files answer size within made done = kept command loaded files answer size within made done

module _ (words : List (String Global)) where
  abbrev asked : Option Command
  asked = command_of (texts words)

  kept_here : (loaded : List (List ℕ)) (files : Files) (answer : Answer) → EachWithin (wants_asked asked) loaded → MakesAsked asked loaded answer → answer.status ≢ 1 →
      PromiseAsked asked loaded (with_stores answer.stores files)
  kept_here loaded files answer within made done = kept_asked asked loaded files answer (command_size (texts words)) within made done

  -- stores that stand keep their promise, whatever was answered
  pub stored_keep_promise : (old new : HostState) → StoresStand (command_of (texts words)) old new → Promised (command_of (texts words)) old new
  stored_keep_promise = runs.stored_keep_promise (wants_asked asked) (MakesAsked asked) (PromiseAsked asked) kept_here

  -- so does an answer that was given and is no refusal
  pub answered_keep_promise : (status : ℕ) (old new : HostState) → IsAnswered (command_of (texts words)) status old new → status ≢ 1 → Promised (command_of (texts words)) old new
  answered_keep_promise = runs.answered_keep_promise (wants_asked asked) (MakesAsked asked) (PromiseAsked asked) kept_here
