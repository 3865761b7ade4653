-- The causes before those of stubs.
use Rattle.std.proofs.Common.{◌≡◌, ℕ, List, length, Some, None, sym, subst}
use Rattle.cost_theory.specs.Graph.{Loops}
use Rattle.cost_theory.specs.Reached.{Code}
use Rattle.scale_base.specs.Image.{Image}
use Rattle.scale_base.specs.declared.verdict.Why.TheVariants as why
use Rattle.foreign_scan.specs.Least.{IsLeastBadOf, IsInRanges, is_bad_word}
use Rattle.foreign_scan.specs.Scanned.{IsLaidAlike, IsOddByte, IsBadPatch, IsFirstWhy}
use Rattle.foreign_scan.specs.Scans.{IsPatchedWell}
use Rattle.foreign_scan.proofs.LeastLaws.{least_some}
use Rattle.foreign_scan.proofs.PatchLaws.{bad_from, bad_to, all_patched}

abbrev Among : Image → ℕ → Type 0
Among image a = IsInRanges image.text (length image.text) a

pub patch_why : (original foreign : Image) (nodes : List ℕ) (at : ℕ) → (foreign.keyed_segment ≡ None → ⊥) → IsLaidAlike original foreign → ((a : ℕ) → IsOddByte original foreign a → ⊥)
    → IsLeastBadOf (is_bad_word original foreign nodes) (Among original) (Some at) → (code : Code) (l : Loops) → code.nodes ≡ nodes → IsFirstWhy original foreign code l (why.Patch at)
patch_why original foreign nodes at key laid odd least code l same =
    let h : IsLeastBadOf (is_bad_word original foreign code.nodes) (Among original) (Some at) = subst (λ ns. IsLeastBadOf (is_bad_word original foreign ns) (Among original) (Some at)) (sym same) least in
    (key, laid, odd, least_some (is_bad_word original foreign code.nodes) (Among original) (IsBadPatch original foreign code) (bad_from original foreign code) (bad_to original foreign code) (Some at) h)

pub patched_well : (original foreign : Image) (nodes : List ℕ) → (foreign.keyed_segment ≡ None → ⊥) → IsLaidAlike original foreign → ((a : ℕ) → IsOddByte original foreign a → ⊥)
    → IsLeastBadOf (is_bad_word original foreign nodes) (Among original) None → (code : Code) → code.nodes ≡ nodes → IsPatchedWell original foreign code
patched_well original foreign nodes key laid odd least code same = record {
  key = key;
  layout = laid;
  bytes = odd;
  patches = all_patched original foreign code (subst (λ ns. IsLeastBadOf (is_bad_word original foreign ns) (Among original) None) (sym same) least);
}
