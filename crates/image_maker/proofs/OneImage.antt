-- Two images of the same lines are equal.
use Rattle.std.proofs.Common.{◌≡◌, ◌<◌, ◌≤◌, ℕ, zero, suc, ◌+◌, Bool, true, false, cond, List, length, get_or, take, take_all, Some, refl, sym, ap, ◌∙◌, arith, inl, inr, subst}
use Rattle.std.specs.Prelude.{◌==◌, count_by, slice_get, slice_index, pos, ◌-ℤ◌}
use Rattle.std.proofs.lemmas.Bool.{cases_lt, eqb-true}
use Rattle.std.proofs.lemmas.Bool.Decides.{nat_tests}
use Rattle.std.proofs.lemmas.Grind.{same_number_lists}
use Rattle.std.proofs.lemmas.Option.{slice_get-get_or}
use Rattle.scale_base.specs.declared.instruction.Instr.{Instr}
use Rattle.scale_base.specs.declared.instruction.Instr.TheVariants.{Branch, Jal}
use Rattle.image_maker.specs.declared.line.Line.{Line}
use Rattle.image_maker.specs.declared.line.Line.TheVariants.{Label, Op, BranchTo, JalTo}
use Rattle.image_maker.specs.Assembling.{is_label, has_word, goes_to, words_before, label_count, line_address, LabelStandsAt, Means, LineMeans, HasLabels, IsAssembled}
use Rattle.image_maker.specs.Made.{IsImageOf}
use Rattle.image_maker.specs.PlainImage.{plain_image}
use Rattle.image_maker.proofs.LabelLaws.{count_more, item}
use Rattle.image_maker.proofs.WordLaws.{some_at}

-- ---- counted lines

-- the line that is counted, before which so many are
record Counted (p : Line → Bool) (lines : List Line) (w : ℕ) : Type 0 where
  line : ℕ
  what : Line
  here : slice_get lines line ≡ Some what
  passes : p what ≡ true
  place : count_by p (take line lines) ≡ w

counted_in : (p : Line → Bool) (lines : List Line) (w n : ℕ) → n ≤ length lines → w < count_by p (take n lines) → Counted p lines w
counted_in p lines w zero within some = absurd (omega arith)
counted_in p lines w (suc n) within some = elim (cases_lt w (count_by p (take n lines))) [
  | inl before ↦ counted_in p lines w n (omega arith) before
  | inr le ↦ last (p (get_or lines n (Label 0))) refl le
]
  where
    passed : (b : Bool) (x : Line) → slice_get lines n ≡ Some x → p x ≡ b → w < count_by p (take (n + 1) lines) → count_by p (take (n + 1) lines) ≡ count_by p (take n lines) + cond b 1 0 → count_by p (take n lines) ≤ w → Counted p lines w
    passed true x here is low more le = record { line = n; what = x; here = here; passes = is; place = omega arith }
    passed false x here is low more le = absurd (omega arith)

    last : (b : Bool) → p (get_or lines n (Label 0)) ≡ b → count_by p (take n lines) ≤ w → Counted p lines w
    last b is le =
        let x = get_or lines n (Label 0) in
        let next : suc n ≡ n + 1 = omega arith in
        let more = count_more p lines n x (omega arith) (item lines n (Label 0) x (omega arith) refl) ∙ ap (λ c. count_by p (take n lines) + cond c 1 0) is in
        passed b x (slice_get-get_or lines n (Label 0) (omega arith)) is (subst (λ m. w < count_by p (take m lines)) next some) more le

counted : (p : Line → Bool) (lines : List Line) (w : ℕ) → w < count_by p lines → Counted p lines w
counted p lines w some =
    let all = ap (count_by p) (take_all (length lines) lines (omega arith)) in
    counted_in p lines w (length lines) (omega arith) (omega arith)

-- ---- a line with a word means an instruction

label_here : (l : ℕ) (x : Line) → is_label l x ≡ true → x ≡ Label l
label_here l (Label m) e = ap Label (sym (eqb-true l m e))
label_here l (Op i) e = absurd cc
label_here l (BranchTo op rs1 rs2 m) e = absurd cc
label_here l (JalTo rd m) e = absurd cc

-- a label that a line goes to stands at an address
label_stands : (lines : List Line) (k l : ℕ) (x : Line) → HasLabels lines → slice_get lines k ≡ Some x → goes_to l x ≡ true → (to : ℕ) × LabelStandsAt lines l to
label_stands lines k l x labels here goes = elim (cases_lt 0 (label_count lines l)) [
  | inl some ↦
      let c = counted (is_label l) lines 0 some in
      (line_address lines c.line, record { line = c.line; here = c.here ∙ ap (λ (y : Line). Some y) (label_here l c.what c.passes); place = refl })
  | inr none ↦ absurd (labels.there l (some_at (goes_to l) lines k x here goes, omega arith))
]

goes : (l : ℕ) → (l == l) ≡ true
goes l = grind (arith, nat_tests)

line_with_word : (lines : List Line) (k : ℕ) (x : Line) → HasLabels lines → slice_get lines k ≡ Some x → has_word x ≡ true → (i : Instr) × Means lines (line_address lines k) x i
line_with_word lines k (Label m) labels here has = absurd cc
line_with_word lines k (Op j) labels here has = (j, refl)
line_with_word lines k (BranchTo op rs1 rs2 l) labels here has =
    let to = label_stands lines k l (BranchTo op rs1 rs2 l) labels here (goes l) in
    (Branch op rs1 rs2 (pos to.0 -ℤ pos (line_address lines k)), (to.0, to.1, refl))
line_with_word lines k (JalTo rd l) labels here has =
    let to = label_stands lines k l (JalTo rd l) labels here (goes l) in
    (Jal rd (pos to.0 -ℤ pos (line_address lines k)), (to.0, to.1, refl))

-- ---- the words of lines

one_word : (lines : List Line) (a b : List ℕ) (w : ℕ) → IsAssembled lines a → IsAssembled lines b → w < words_before lines (length lines) → slice_index a w ≡ slice_index b w
one_word lines a b w first second low =
    let c = counted_in has_word lines w (length lines) (omega arith) low in
    let meant = line_with_word lines c.line c.what first.labels c.here c.passes in
    let means : LineMeans lines c.line meant.0 = rw c.here meant.1 in
    let one : slice_index a (words_before lines c.line) ≡ slice_index b (words_before lines c.line) =
    (first.each c.line meant.0 means).1 ∙ sym (second.each c.line meant.0 means).1 in
    rw c.place at one

one_assembly : (lines : List Line) (a b : List ℕ) → IsAssembled lines a → IsAssembled lines b → a ≡ b
one_assembly lines a b first second =
    let m = first.count in
    let n = second.count in
    same_number_lists a b (omega arith) (λ w lt. one_word lines a b w first second (omega arith))

pub one_image : (lines : List Line) (a b : List ℕ) → IsImageOf lines a → IsImageOf lines b → a ≡ b
one_image lines a b first second =
    first.plain ∙ ap plain_image (one_assembly lines first.words second.words first.assembled second.assembled) ∙ sym second.plain
