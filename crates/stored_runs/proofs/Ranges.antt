-- The fields of the instructions are in range.
use Rattle.std.proofs.Common.{ℕ, ◌-◌, ◌%◌, ◌^◌, ◌<◌, cond, arith}
use Rattle.std.specs.Prelude.{nat_lt}
use Rattle.std.proofs.lemmas.Bool.{cond_both}
use Rattle.std.proofs.lemmas.Bool.Decides.{nat_tests}
use Rattle.scale_base.specs.Word.{FieldsInRange, IsSignedField}
use Rattle.scale_base.specs.declared.fragments.Fragment.{Fragment}
use Rattle.scale_base.specs.declared.fragments.Fragment.TheVariants.{Switch, Exit, Reset, Count, Lowest, Tally}
use Rattle.stub_writer.specs.Fragments.{lo, sw, lw, fragment_code, IsFragment}
use Rattle.stored_runs.specs.Held.{AllInRange}

low_fits : (c : ℕ) → IsSignedField 12 (lo c)
low_fits c = cond_both (nat_lt (c % 2 ^ 12) (2 ^ (12 - 1))) _ _ (λ z. IsSignedField 12 z) (λ e. grind (arith, nat_tests)) (λ e. grind (arith, nat_tests))

sw_fits : (r k : ℕ) → r < 32 → FieldsInRange (sw r k)
sw_fits r k h = (omega arith, h, omega arith)

lw_fits : (r k : ℕ) → r < 32 → FieldsInRange (lw r k)
lw_fits r k h = (h, omega arith, omega arith)

pub fragment_fits : (table : ℕ) (f : Fragment) → IsFragment f → AllInRange (fragment_code table f)
fragment_fits table (Switch word) h =
    let s : (r k : ℕ) → r < 32 → FieldsInRange (sw r k) = sw_fits in
    let l : (r k : ℕ) → r < 32 → FieldsInRange (lw r k) = lw_fits in
    let n : IsSignedField 12 (lo word) = low_fits word in (
      s 5 0 (omega arith),
      (
        s 6 1 (omega arith),
        (
          l 5 511 (omega arith),
          (
            (omega arith, omega arith, omega arith),
            (
              (omega arith, omega arith, omega arith),
              ((omega arith, omega arith, n), ((omega arith, omega arith, omega arith), ((omega arith, omega arith, omega arith), (s 6 511 (omega arith), (l 6 1 (omega arith), (l 5 0 (omega arith), tt)))))),
            ),
          ),
        ),
      ),
    )
fragment_fits table (Exit counter shift rows) h =
    let a = table % 2 ^ 32 in
    let s : (r k : ℕ) → r < 32 → FieldsInRange (sw r k) = sw_fits in
    let l : (r k : ℕ) → r < 32 → FieldsInRange (lw r k) = lw_fits in
    let n : IsSignedField 12 (lo a) = low_fits a in (
      s 5 0 (omega arith),
      (
        s 6 1 (omega arith),
        (
          l 5 counter (omega arith),
          (
            (omega arith, omega arith, omega arith),
            (
              (omega arith, omega arith, omega arith),
              (
                (omega arith, omega arith, omega arith),
                (
                  (omega arith, omega arith, omega arith),
                  (
                    (omega arith, omega arith, n),
                    (
                      l 5 511 (omega arith),
                      (
                        (omega arith, omega arith, omega arith),
                        (
                          (omega arith, omega arith, omega arith),
                          (
                            (omega arith, omega arith, omega arith),
                            (s 0 counter (omega arith), (s 6 511 (omega arith), (l 6 1 (omega arith), (l 5 0 (omega arith), tt)))),
                          ),
                        ),
                      ),
                    ),
                  ),
                ),
              ),
            ),
          ),
        ),
      ),
    )
fragment_fits table (Reset counter) h = (sw_fits 0 counter (omega arith), tt)
fragment_fits table (Count counter) h =
    (sw_fits 5 0 (omega arith), (lw_fits 5 counter (omega arith), ((omega arith, omega arith, omega arith), (sw_fits 5 counter (omega arith), (lw_fits 5 0 (omega arith), tt)))))
fragment_fits table (Lowest down) h = (sw_fits 0 (cond down 511 1) (omega arith), tt)
fragment_fits table (Tally counter shift from) h =
    let few : from - 1 < 2 ^ 11 = omega (arith, h.3) in (
      sw_fits 5 0 (omega arith),
      (
        lw_fits 5 counter (omega arith),
        (
          (omega arith, omega arith, omega arith),
          (
            sw_fits 5 counter (omega arith),
            (
              (omega arith, omega arith, h.1),
              ((omega arith, omega arith, few), ((omega arith, omega arith, omega arith), ((omega arith, omega arith, omega arith), ((omega arith, omega arith, omega arith), (lw_fits 5 0 (omega arith), tt))))),
            ),
          ),
        ),
      ),
    )
