-- What is to show of registers and words, case by case.
use Rattle.std.proofs.Common.{◌≡◌, ℕ, ◌⊎◌, ⊎_elim, true, Some, None, sym, subst, ap, ◌∙◌}
use Rattle.bound_laws.specs.Registers.{Measure, keeps}
use Rattle.bound_laws.specs.Values.{Covers, word, IsRegister}
use Rattle.stack_laws.specs.Making.{IsMade}
use Rattle.stack_laws.specs.Telling.{IsToldBehind}
use Rattle.stack_laws.specs.Digits.{IsDwindlingBehind}
use Rattle.stack_laws.specs.Stacks.Name.{of_word}
use Rattle.stack_laws.specs.Stacks.{Stacks, known_sum, more_of, name_of, name_span, span_of, IsBeginning}
use Rattle.stack_laws.specs.Stacks.IsNamedOver.{summed as summed_over, loaded as loaded_over, loaded_as as loaded_as_over}
use Rattle.stack_laws.specs.Stacks.IsSpannedOver.{summed as summed_by}
use Rattle.stack_laws.specs.Stacks.IsWordCovered.{any as any_word}
use Rattle.stack_laws.specs.Stacks.IsWordNamed.{unnamed as none_word}
use Rattle.stack_laws.specs.Stacks.IsWordSpanned.{unspanned as unspanned_word}
use Rattle.stack_laws.specs.Stacks.IsWordBack.{any as any_back}
use Rattle.stack_laws.specs.Stacks.IsWordNameBack.{unnamed as none_back}
use Rattle.stack_laws.specs.Stacks.IsWordSpanBack.{by_name as by_name_back}
use Rattle.stack_tables.specs.Tables.{IsUnknown}
use Rattle.stack_checks.specs.declared.ways.Way.{Way}
use Rattle.stack_checks.specs.declared.origins.Origin.TheVariants.{Plus, Loaded}
use Rattle.stack_checks.specs.Checked.{dwindling_before, from, stacks_along, to, told_before, values_along, ArePassedAlong, AreBackAlong, IsLineAlong, IsLineBehind, IsLineFrom, IsLineMadeAlong, IsSideOf, IsNamedAlong, IsOriginOf, IsRegisterBegun, IsRegisterBehind, IsRegisterPassed, IsSpannedAlong, IsWordBehind, IsWordPassed}
use Rattle.stack_checks.proofs.RowLines.{covers_none}

pub unknown_passed : (x : Way) (j : ℕ) → IsUnknown (stacks_along x) (to x) j → IsWordPassed x j
unknown_passed x j none = record {
  covered = any_word (covers_none ((stacks_along x).word (to x) j) word none.arc);
  named = none_word none.name;
  spanned = unspanned_word none.span;
}

pub unknown_behind : (x : Way) (h j : ℕ) → IsUnknown (stacks_along x) (to x) j → IsWordBehind x h j
unknown_behind x h j none = record {
  back = any_back (covers_none ((stacks_along x).word (to x) j) word none.arc);
  name = none_back none.name;
  span = by_name_back (covers_none ((stacks_along x).word_span (to x) j) (name_span ((stacks_along x).word_name (to x) j)) none.span);
}

-- ---- registers

pub summed_name : (x : Way) (r rs more : ℕ) → IsOriginOf x r (Plus rs more) → (stacks_along x).name (to x) r ≡ more_of (name_of (stacks_along x) (from x) rs) more → IsNamedAlong x r
summed_name x r rs more (imm, is, number) given = summed_over rs imm is (given ∙ ap (more_of (name_of (stacks_along x) (from x) rs)) (sym number))

pub loaded_name : (x : Way) (r k : ℕ) → IsOriginOf x r (Loaded k) → ((stacks_along x).name (to x) r ≡ Some (of_word k 0)) ⊎ ((stacks_along x).name (to x) r ≡ (stacks_along x).word_name (from x) k) → IsNamedAlong x r
loaded_name x r k loaded given = ⊎_elim
    (λ (e : (stacks_along x).name (to x) r ≡ Some (of_word k 0)). loaded_over k loaded e)
    (λ (e : (stacks_along x).name (to x) r ≡ (stacks_along x).word_name (from x) k). loaded_as_over k loaded e)
    given

pub summed_span : (x : Way) (r rs more : ℕ) → IsOriginOf x r (Plus rs more) → Covers ((stacks_along x).span (to x) r) (known_sum (span_of (stacks_along x) (from x) rs) more) → IsSpannedAlong x r
summed_span x r rs more (imm, is, number) given = summed_by rs imm is (subst (λ (n : ℕ). Covers ((stacks_along x).span (to x) r) (known_sum (span_of (stacks_along x) (from x) rs) n)) (sym number) given)

-- ---- sums of two registers

pub line_made_so : (x : Way) (j : ℕ) (m n : Measure) → IsSideOf x m j → keeps m.other x.instr ≡ true → IsMade m x.instr n → IsLineFrom x j n → IsLineMadeAlong x j
line_made_so x j m n side other made covers = record { side = m; is_side = side; other = other; before = n; made = made; covers = covers }

-- ---- all of them

pub all_passed : (x : Way) → (values_along x).live (to x) ≡ true → ((j : ℕ) → IsLineAlong x j) → ((r : ℕ) → IsRegister r → IsRegisterPassed x r) → ((k : ℕ) → IsWordPassed x k) → ((j : ℕ) → IsToldBehind (values_along x) (told_before x) x.instr (from x) (to x) ((stacks_along x).told (to x) j)) → ((j : ℕ) → IsDwindlingBehind (values_along x) (dwindling_before x) x.instr (from x) (to x) ((stacks_along x).dwindling (to x) j)) → ArePassedAlong x
all_passed x live lines registers words told dwindling = record {
  live = live;
  registers = λ r register. (registers r register).covered;
  lines = λ j. (lines j).covered;
  names = λ r register. (registers r register).named;
  words = λ k. (words k).covered;
  word_names = λ k. (words k).named;
  spans = λ r register. (registers r register).spanned;
  word_spans = λ k. (words k).spanned;
  told = told;
  dwindling = dwindling;
}

pub begun_so : (w : Stacks) (a : ℕ) → ((r : ℕ) → IsRegister r → IsRegisterBegun w a r) → ((k : ℕ) → IsUnknown w a k) → ((j : ℕ) → w.told a j ≡ None) → ((j : ℕ) → w.dwindling a j ≡ None) → IsBeginning w a
begun_so w a registers words told dwindling = record {
  names = λ r register. (registers r register).name;
  words = λ k. (words k).arc;
  word_names = λ k. (words k).name;
  spans = λ r register. (registers r register).span;
  word_spans = λ k. (words k).span;
  told = told;
  dwindling = dwindling;
}

pub all_back : (x : Way) (h : ℕ) → (values_along x).live (to x) ≡ true → ((j : ℕ) → IsLineBehind x h j) → ((r : ℕ) → IsRegister r → IsRegisterBehind x h r) → ((k : ℕ) → IsWordBehind x h k) → ((j : ℕ) → (stacks_along x).told (to x) j ≡ None) → ((j : ℕ) → (stacks_along x).dwindling (to x) j ≡ None) → AreBackAlong x h
all_back x h live lines registers words told dwindling = record {
  live = live;
  registers = λ r register. (registers r register).back;
  lines = λ j. (lines j).back;
  names = λ r register. (registers r register).name;
  words = λ k. (words k).back;
  word_names = λ k. (words k).name;
  spans = λ r register. (registers r register).span;
  word_spans = λ k. (words k).span;
  told = told;
  dwindling = dwindling;
}
