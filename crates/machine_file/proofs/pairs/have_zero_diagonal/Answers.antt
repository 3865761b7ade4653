use Rattle.std.proofs.Common.{◌≡◌, ◌==◌, ◌+◌, ◌-◌, ℕ, suc, Bool, true, sym, ◌∙◌, arith}
use Rattle.std.specs.List.{list_all, range_with_len}
use Rattle.machine_file.specs.Machine.{cell}
use Rattle.machine_file.specs.Pairs.{rows_view}
use Rattle.machine_file.proofs.pairs.have_zero_diagonal.Goals as goal

-- the first of some numbers passes
all-rest : (p : ℕ → Bool) (i n m : ℕ) → n ≡ suc m → p i ≡ true → list_all p (range_with_len i n) ≡ list_all p (range_with_len (i + 1) m)
all-rest p i n m e h = rw (e, h)

zero_test : (n : ℕ) → n ≡ 0 → (n == 0) ≡ true
zero_test n e = rw e

pub loop-i-preserved : goal.loop-i-preserved
loop-i-preserved c =
    let p : ℕ → Bool = λ i. cell (rows_view c.args.rows.now) i i == 0 in
    let i = c.loop-i.i in
    let here : p i ≡ true = zero_test _ (sym c.cell.ensures ∙ c.if-cell-ne0.false) in
    sym (all-rest p i (c.args.count - i) (c.args.count - (i + 1)) (omega arith) here) ∙ c.loop-i.invariant
