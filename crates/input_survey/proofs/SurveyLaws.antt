-- A survey over one input more.
use Rattle.std.proofs.Common.{◌≡◌, ℕ, ◌<◌, List, [], ◌∷◌, ◌++◌, length, map, slice_index, refl, sym, ap, ◌∙◌, subst, arith}
use Rattle.std.specs.List.{All}
use Rattle.std.proofs.lemmas.List.Elements.{All-append, All-cons}
use Rattle.scale_base.specs.Image.{Image}
use Rattle.scale_base.specs.Run.{setting_of, start_of}
use Rattle.power_model.specs.Numbers.{PowerModel}
use Rattle.loop_file.specs.declared.notes.LoopNote.{LoopNote}
use Rattle.loop_file.specs.Notes.{AreLoopNotes, relaxed_note}
use Rattle.keep_monitor.specs.Watch.{watched_at}
use Rattle.keep_monitor.specs.Counted.{Counted, counted_run}
use Rattle.keep_monitor.proofs.Laws.{IsCounted, counted_is}
use Rattle.input_survey.specs.Most.{IsMost}
use Rattle.input_survey.proofs.MostLaws.{most_more}

abbrev pub AreMosts : PowerModel → Image → List LoopNote → List (List ℕ) → List ℕ → Type 0
AreMosts power image notes inputs most = (k : ℕ) → k < length notes → IsMost power image notes inputs k (slice_index most k)

-- the counter after the run with one input more
pub record IsCountedOn (power : PowerModel) (image : Image) (notes : List LoopNote) (inputs : List (List ℕ)) (c : Counted) : Type 0 where
  pub notes_are : c.notes ≡ notes
  pub size : length c.most ≡ length notes
  pub most : AreMosts power image notes inputs c.most

pub counted_on : (power : PowerModel) (image : Image) (notes loops : List LoopNote) (inputs : List (List ℕ)) (input most : List ℕ) (c : Counted) → AreLoopNotes notes → loops ≡ notes → length most ≡ length notes →
    AreMosts power image notes inputs most → c ≡ counted_run image (length power.levels) input loops most power.steps → IsCountedOn power image notes (inputs ++ input ∷ []) c
counted_on power image notes loops inputs input most c fit same size mosts is =
    let there : c ≡ counted_run image (length power.levels) input notes most power.steps = is ∙ ap (λ ns. counted_run image (length power.levels) input ns most power.steps) same in
    subst (IsCountedOn power image notes (inputs ++ input ∷ [])) (sym there) (record {
      notes_are = counting.notes_are;
      size = counting.size;
      most = λ k kl. most_more power image notes inputs input k (slice_index most k) _ (mosts k kl) (counting.grown k kl)
          (λ j count jl r. counting.bound j k count jl kl r) (counting.reached k kl);
    })
  where
    counting : IsCounted (setting_of image (length power.levels) input) (start_of image (length power.levels)) notes most power.steps
        (watched_at image (length power.levels) input (map relaxed_note notes) power.steps) (watched_at image (length power.levels) input notes power.steps) (counted_run image (length power.levels) input notes most power.steps)
    counting = counted_is (setting_of image (length power.levels) input) (start_of image (length power.levels)) notes most fit size power.steps

-- ---- lists with one element more

pub map_one : {A B : Type 0} (f : A → B) (xs : List A) (x : A) → map f (xs ++ x ∷ []) ≡ map f xs ++ f x ∷ []
map_one f [] x = refl
map_one f (y ∷ ys) x = ap (λ zs. f y ∷ zs) (map_one f ys x)

pub all_one : {A : Type 0} (P : A → Type 0) (xs : List A) (x : A) → All P xs → P x → All P (xs ++ x ∷ [])
all_one P xs x h p = All-append P xs (x ∷ []) h (All-cons P x [] p (λ k d kl. let bad : ⊥ = omega arith in absurd bad))
