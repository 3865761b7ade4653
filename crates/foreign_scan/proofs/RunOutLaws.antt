-- Fragments that are read one after another, and the jump behind them.
use Rattle.std.proofs.Common.{◌≡◌, inl, inr, ℕ, ℤ, zero, suc, ◌+◌, ◌*◌, ◌<◌, ◌≤◌, Bool, true, false, if◌then◌else◌, List, [], ◌∷◌, ◌++◌, length, get_or, Option, Some, None, refl, sym, subst, arith}
use Rattle.std.specs.Prelude.{All, ◌==◌}
use Rattle.std.specs.List.{sum_by, flat_map}
use Rattle.std.proofs.lemmas.List.{length-append, append-nil}
use Rattle.std.proofs.lemmas.List.Sums.{sum_by-append}
use Rattle.std.proofs.lemmas.List.Concat.{length-flat_map}
use Rattle.std.proofs.lemmas.List.Elements.{All-append}
use Rattle.std.proofs.lemmas.Grind.{flat_map-append}
use Rattle.std.proofs.lemmas.Bool.{eqb-true}
use Rattle.scale_base.specs.declared.instruction.Instr.{Instr}
use Rattle.scale_base.specs.declared.instruction.Instr.TheVariants as instr
use Rattle.scale_base.specs.Image.{Image}
use Rattle.foreign_scan.specs.declared.fragment.ForeignFragment.{ForeignFragment}
use Rattle.foreign_scan.specs.Form.{Hold, IsForeign, foreign_code, foreign_len, behind_fragments, JumpsTo, ChoosesNone, FirstChooses, IsRunOut}
use Rattle.foreign_scan.specs.KeyWords.{FragmentStandsAt}
use Rattle.foreign_scan.specs.RunOuts.{AreAt, IsWhole}
use Rattle.foreign_scan.specs.Parts.{goto_of}
use Rattle.foreign_scan.proofs.HoldLaws.{moved_all, hold_join}
use Rattle.foreign_scan.proofs.OneFragment.{Ends, one_list}

-- the first so many fragments from an address on, which end at another
pub record AreRead (image : Image) (at : ℕ) (fs : List ForeignFragment) (end count : ℕ) : Type 0 where
  pub few : length fs ≡ count
  pub foreign : All IsForeign fs
  pub code : Hold image at (flat_map foreign_code fs)
  pub ends : end ≡ behind_fragments at fs
  pub near : end ≤ at + 64 * count

one_code : (f : ForeignFragment) → flat_map foreign_code (f ∷ []) ≡ foreign_code f
one_code f = append-nil (foreign_code f)

pub more_read : (image : Image) (at : ℕ) (fs : List ForeignFragment) (end count len : ℕ) (f : ForeignFragment) → AreRead image at fs end count → FragmentStandsAt image end f → len ≡ foreign_len f → len < 17
    → AreRead image at (fs ++ f ∷ []) (end + 4 * len) (count + 1)
more_read image at fs end count len f h s is lt =
    let long : length (flat_map foreign_code fs) ≡ sum_by foreign_len fs = length-flat_map foreign_code fs in
    let here : Hold image (at + 4 * length (flat_map foreign_code fs)) (foreign_code f) = moved_all image end (at + 4 * length (flat_map foreign_code fs)) (foreign_code f) (omega (arith, h.ends, long)) s.code in
    record {
      few = omega (arith, length-append fs (f ∷ []), h.few);
      foreign = All-append IsForeign fs (f ∷ []) h.foreign (λ k d below. one_of k d below);
      code = rw (flat_map-append, one_code f) (hold_join image at (flat_map foreign_code fs) (foreign_code f) h.code here);
      ends = omega (arith, h.ends, is, sum_by-append foreign_len fs (f ∷ []));
      near = omega (arith, h.near, lt);
    }
  where
    one_of : (k : ℕ) (d : ForeignFragment) → k < length (f ∷ []) → IsForeign (get_or (f ∷ []) k d)
    one_of zero d below = s.foreign
    one_of (suc k) d below = absurd (omega (arith, below))

-- ---- the first one chooses

pub first_from : (fs : List ForeignFragment) → ((j : ℕ) (d : ForeignFragment) → 1 ≤ j → j < length fs → ChoosesNone (get_or fs j d)) → FirstChooses fs
first_from [] h = tt
first_from (f ∷ fs) h = λ k d lt. h (suc k) d (omega arith) (omega (arith, lt))

-- ---- the jump

by_zero : (b : Bool) (rd : ℕ) (z offset : ℤ) → (b ≡ true → rd ≡ 0) → (if b then Some z else None) ≡ Some offset → Some (instr.Jal rd z) ≡ Some (instr.Jal 0 offset)
by_zero true rd z offset h e = let r : rd ≡ 0 = h refl in cc
by_zero false rd z offset h e = absurd cc

pub goto_from : (o : Option Instr) (offset : ℤ) → goto_of o ≡ Some offset → o ≡ Some (instr.Jal 0 offset)
goto_from None offset e = absurd cc
goto_from (Some (instr.Jal rd z)) offset e = by_zero (rd == 0) rd z offset (eqb-true rd 0) e
goto_from (Some (instr.Lui rd imm)) offset e = absurd cc
goto_from (Some (instr.Auipc rd imm)) offset e = absurd cc
goto_from (Some (instr.Jalr rd rs1 z)) offset e = absurd cc
goto_from (Some (instr.Branch op rs1 rs2 z)) offset e = absurd cc
goto_from (Some (instr.Load op rd rs1 z)) offset e = absurd cc
goto_from (Some (instr.Store op rs1 rs2 z)) offset e = absurd cc
goto_from (Some (instr.Imm op rd rs1 z)) offset e = absurd cc
goto_from (Some (instr.Reg op rd rs1 rs2)) offset e = absurd cc
goto_from (Some (instr.Fence rd rs1 z)) offset e = absurd cc
goto_from (Some instr.Ecall) offset e = absurd cc
goto_from (Some instr.Ebreak) offset e = absurd cc

-- ---- run-outs

whole_ends : (image : Image) (at : ℕ) (fs gs : List ForeignFragment) → length fs ≤ 64 → IsWhole image at gs → Ends image at fs gs
whole_ends image at fs gs le (inl many) = inl (omega (arith, le, many))
whole_ends image at fs gs le (inr none) = inr none

pub run_out_one : (image : Image) (at to : ℕ) (fs gs : List ForeignFragment) → AreAt image at gs → IsWhole image at gs → IsRunOut image at to fs → fs ≡ gs
run_out_one image at to fs gs h whole r = one_list image at to fs gs r.foreign r.code r.jump h.foreign h.code (whole_ends image at fs gs r.few whole)

pub no_run_out : (image : Image) (at to : ℕ) (fs gs : List ForeignFragment) (end : ℕ) → AreAt image at gs → IsWhole image at gs → end ≡ behind_fragments at gs → IsRunOut image at to fs → FirstChooses gs × JumpsTo image end to
no_run_out image at to fs gs end h whole e r =
    let same = run_out_one image at to fs gs h whole r in
    (subst FirstChooses same r.first, subst (λ n. JumpsTo image n to) (sym e) (subst (λ xs. JumpsTo image (behind_fragments at xs) to) same r.jump))
