-- The files of a survey and of a tuning: those before the inputs, and the inputs.
use Rattle.std.proofs.Common.{◌≡◌, ◌∙◌, ℕ, suc, ◌≤◌, List, [], ◌∷◌, length, take, drop, refl, ap, arith}
use Rattle.std.specs.Prelude.{String, Vec, string_bytes}
use Rattle.std.specs.declared.alloc.Global.{Global}
use Rattle.std.specs.List.{All, AllZip}
use Rattle.std.proofs.lemmas.List.{length-map}
use Rattle.std.proofs.lemmas.List.Elements.{All-nil, All-cons}
use Rattle.scale_tool.specs.Command.{input_wants, texts}
use Rattle.host_runs.specs.Views.{files_view}

-- a file for each that is wanted, within its limit
abbrev pub AreWanted : List (List ℕ × ℕ) → List (Vec ℕ Global) → Type 0
AreWanted wants files = AllZip (λ (want : List ℕ × ℕ) (file : List ℕ). length file ≤ want.1) wants (files_view files)

-- so many files are within these limits, and the others are as many inputs as there are names
pub record AreSplit (n : ℕ) (limits : List ℕ) (names : List (List ℕ)) (files : List (Vec ℕ Global)) : Type 0 where
  pub enough : n ≤ length files
  pub first : AllZip (λ (limit : ℕ) (file : List ℕ). length file ≤ limit) limits (files_view (take n files))
  pub count : length (drop n files) ≡ length names
  pub short : All (λ input. length input.items ≤ 1048576) (drop n files)

inputs_count : (names : List (List ℕ)) (files : List (Vec ℕ Global)) → AreWanted (input_wants names) files → length files ≡ length names
inputs_count [] [] are = refl
inputs_count [] (file ∷ files) are = absurd are
inputs_count (name ∷ names) [] are = absurd are
inputs_count (name ∷ names) (file ∷ files) are = ap suc (inputs_count names files are.1)

inputs_short : (names : List (List ℕ)) (files : List (Vec ℕ Global)) → AreWanted (input_wants names) files → All (λ input. length input.items ≤ 1048576) files
inputs_short [] [] are = All-nil (λ input. length input.items ≤ 1048576)
inputs_short [] (file ∷ files) are = absurd are
inputs_short (name ∷ names) [] are = absurd are
inputs_short (name ∷ names) (file ∷ files) are = All-cons (λ input. length input.items ≤ 1048576) file files are.0 (inputs_short names files are.1)

module _ (names : List (List ℕ)) where
  pub three_first : (image machine loops : List ℕ × ℕ) (files : List (Vec ℕ Global)) → AreWanted (image ∷ machine ∷ loops ∷ input_wants names) files → AreSplit 3 (image.1 ∷ machine.1 ∷ loops.1 ∷ []) names files
  three_first image machine loops (i ∷ m ∷ l ∷ inputs) are = record {
    enough = omega arith;
    first = (are.0, (are.1.0, (are.1.1.0, tt)));
    count = inputs_count names inputs are.1.1.1;
    short = inputs_short names inputs are.1.1.1;
  }
  three_first image machine loops [] are = absurd are
  three_first image machine loops (i ∷ []) are = absurd are.1
  three_first image machine loops (i ∷ m ∷ []) are = absurd are.1.1

  pub four_first : (image other machine loops : List ℕ × ℕ) (files : List (Vec ℕ Global)) → AreWanted (image ∷ other ∷ machine ∷ loops ∷ input_wants names) files →
      AreSplit 4 (image.1 ∷ other.1 ∷ machine.1 ∷ loops.1 ∷ []) names files
  four_first image other machine loops (i ∷ o ∷ m ∷ l ∷ inputs) are = record {
    enough = omega arith;
    first = (are.0, (are.1.0, (are.1.1.0, (are.1.1.1.0, tt))));
    count = inputs_count names inputs are.1.1.1.1;
    short = inputs_short names inputs are.1.1.1.1;
  }
  four_first image other machine loops [] are = absurd are
  four_first image other machine loops (i ∷ []) are = absurd are.1
  four_first image other machine loops (i ∷ o ∷ []) are = absurd are.1.1
  four_first image other machine loops (i ∷ o ∷ m ∷ []) are = absurd are.1.1.1

-- there are as many inputs as words that name them
pub as_many : (n : ℕ) (limits : List ℕ) (words : List (String Global)) (files inputs : List (Vec ℕ Global)) → AreSplit n limits (texts words) files → inputs ≡ drop n files → length inputs ≡ length words
as_many n limits words files inputs split is = ap length is ∙ (split.count ∙ length-map words (λ word. string_bytes word))
