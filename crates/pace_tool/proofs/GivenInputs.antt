-- The files of a fitting: those before the inputs, and the inputs.
use Rattle.std.proofs.Common.{◌≡◌, ◌∙◌, ℕ, suc, ◌≤◌, List, [], ◌∷◌, length, get_or, take, drop, refl, sym, ap, subst, arith}
use Rattle.std.specs.Prelude.{Vec}
use Rattle.std.specs.Borrow.{Bor}
use Rattle.std.specs.declared.alloc.Global.{Global}
use Rattle.std.specs.List.{All, AllZip}
use Rattle.std.proofs.lemmas.List.{length-map}
use Rattle.std.proofs.lemmas.List.Elements.{All-nil, All-cons}
use Rattle.host_runs.specs.Views.{files_view}
use Rattle.pace_tool.specs.Command.{input_wants}
use Rattle.pace_tool.specs.Views.{texts}

-- a file for each that is wanted, within its limit
abbrev pub AreWanted : List (List ℕ × ℕ) → List (Vec ℕ Global) → Type 0
AreWanted wants files = AllZip (λ (want : List ℕ × ℕ) (file : List ℕ). length file ≤ want.1) wants (files_view files)

-- so many files are within these limits, and the others are as many inputs as there are names
pub record AreSplit (n : ℕ) (limits : List ℕ) (names : List (List ℕ)) (files : List (Vec ℕ Global)) : Type 0 where
  pub enough : n ≤ length files
  pub first : AllZip (λ (limit : ℕ) (file : List ℕ). length file ≤ limit) limits (files_view (take n files))
  pub count : length (drop n files) ≡ length names
  pub short : All (λ input. length input.items ≤ 1048576) (drop n files)

inputs_count : (limit : ℕ) (names : List (List ℕ)) (files : List (Vec ℕ Global)) → AreWanted (input_wants limit names) files → length files ≡ length names
inputs_count limit [] [] are = refl
inputs_count limit [] (file ∷ files) are = absurd are
inputs_count limit (name ∷ names) [] are = absurd are
inputs_count limit (name ∷ names) (file ∷ files) are = ap suc (inputs_count limit names files are.1)

inputs_short : (limit : ℕ) → limit ≤ 1048576 → (names : List (List ℕ)) (files : List (Vec ℕ Global)) → AreWanted (input_wants limit names) files → All (λ input. length input.items ≤ 1048576) files
inputs_short limit low [] [] are = All-nil (λ input. length input.items ≤ 1048576)
inputs_short limit low [] (file ∷ files) are = absurd are
inputs_short limit low (name ∷ names) [] are = absurd are
inputs_short limit low (name ∷ names) (file ∷ files) are =
    let first : length file.items ≤ limit = are.0 in
    All-cons (λ input. length input.items ≤ 1048576) file files (omega (arith, first, low)) (inputs_short limit low names files are.1)

module _ (limit : ℕ) (low : limit ≤ 1048576) (names : List (List ℕ)) where
  pub three_first : (image machine loops : List ℕ × ℕ) (files : List (Vec ℕ Global)) → AreWanted (image ∷ machine ∷ loops ∷ input_wants limit names) files → AreSplit 3 (image.1 ∷ machine.1 ∷ loops.1 ∷ []) names files
  three_first image machine loops (i ∷ m ∷ l ∷ inputs) are = record {
    enough = omega arith;
    first = (are.0, (are.1.0, (are.1.1.0, tt)));
    count = inputs_count limit names inputs are.1.1.1;
    short = inputs_short limit low names inputs are.1.1.1;
  }
  three_first image machine loops [] are = absurd are
  three_first image machine loops (i ∷ []) are = absurd are.1
  three_first image machine loops (i ∷ m ∷ []) are = absurd are.1.1

  pub two_first : (image machine : List ℕ × ℕ) (files : List (Vec ℕ Global)) → AreWanted (image ∷ machine ∷ input_wants limit names) files → AreSplit 2 (image.1 ∷ machine.1 ∷ []) names files
  two_first image machine (i ∷ m ∷ inputs) are = record {
    enough = omega arith;
    first = (are.0, (are.1.0, tt));
    count = inputs_count limit names inputs are.1.1;
    short = inputs_short limit low names inputs are.1.1;
  }
  two_first image machine [] are = absurd are
  two_first image machine (i ∷ []) are = absurd are.1

-- there are as many inputs as words that name them
pub as_many : (n : ℕ) (limits : List ℕ) (words : List (Bor (List ℕ))) (files inputs : List (Vec ℕ Global)) → AreSplit n limits (texts words) files → inputs ≡ drop n files → length inputs ≡ length words
as_many n limits words files inputs split is = ap length is ∙ (split.count ∙ length-map words (λ word. word.now))

-- ---- the first of some files, and the others

pub one_and_others : (files others : List (Vec ℕ Global)) (first : Vec ℕ Global) → 1 ≤ length files → others ≡ drop 1 files → first ≡ get_or files 0 first → files_view files ≡ first.items ∷ files_view others
one_and_others [] others first enough others_are first_is = absurd (omega arith)
one_and_others (x ∷ rest) others first enough others_are first_is =
    let one : x ≡ first = sym first_is in
    ap (λ (v : Vec ℕ Global). v.items ∷ files_view rest) one ∙ ap (λ (vs : List (Vec ℕ Global)). first.items ∷ files_view vs) (sym others_are)

pub two_and_others : (files pair others : List (Vec ℕ Global)) (first second : Vec ℕ Global) → 2 ≤ length files → pair ≡ take 2 files → others ≡ drop 2 files → first ≡ get_or pair 0 first → second ≡ get_or pair 1 second →
    files_view files ≡ first.items ∷ second.items ∷ files_view others
two_and_others [] pair others first second enough pair_is others_are first_is second_is = absurd (omega arith)
two_and_others (x ∷ []) pair others first second enough pair_is others_are first_is second_is = absurd (omega arith)
two_and_others (x ∷ y ∷ rest) pair others first second enough pair_is others_are first_is second_is =
    let one : x ≡ first = sym (first_is ∙ ap (λ (vs : List (Vec ℕ Global)). get_or vs 0 first) pair_is) in
    let other : y ≡ second = sym (second_is ∙ ap (λ (vs : List (Vec ℕ Global)). get_or vs 1 second) pair_is) in
    ap (λ (v : Vec ℕ Global). v.items ∷ y.items ∷ files_view rest) one
    ∙ ap (λ (v : Vec ℕ Global). first.items ∷ v.items ∷ files_view rest) other
    ∙ ap (λ (vs : List (Vec ℕ Global)). first.items ∷ second.items ∷ files_view vs) (sym others_are)

-- each within its limit
pub two_limits : (image machine : List ℕ × ℕ) (wants : List (List ℕ × ℕ)) (files pair : List (Vec ℕ Global)) (first second : Vec ℕ Global) → AreWanted (image ∷ machine ∷ wants) files → pair ≡ take 2 files →
    first ≡ get_or pair 0 first → second ≡ get_or pair 1 second → (length first.items ≤ image.1) × (length second.items ≤ machine.1)
two_limits image machine wants [] pair first second are pair_is first_is second_is = absurd are
two_limits image machine wants (x ∷ []) pair first second are pair_is first_is second_is = absurd are.1
two_limits image machine wants (x ∷ y ∷ rest) pair first second are pair_is first_is second_is =
    let one : x ≡ first = sym (first_is ∙ ap (λ (vs : List (Vec ℕ Global)). get_or vs 0 first) pair_is) in
    let other : y ≡ second = sym (second_is ∙ ap (λ (vs : List (Vec ℕ Global)). get_or vs 1 second) pair_is) in
    (subst (λ (v : Vec ℕ Global). length v.items ≤ image.1) one are.0, subst (λ (v : Vec ℕ Global). length v.items ≤ machine.1) other are.1.0)
