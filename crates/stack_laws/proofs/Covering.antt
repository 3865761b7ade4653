-- Intervals of registers and of sums behind an instruction hold what its step leaves, where its edge is covered.
use Rattle.std.proofs.Common.{◌≡◌, ℕ, ◌+◌, ◌<◌, ◌%◌, ◌^◌, true, ◌⊎◌, ⊎_elim, List, length, sym, ap, ◌∙◌, subst, Option, Some, None}
use Rattle.scale_base.specs.declared.instruction.Instr.{Instr}
use Rattle.scale_base.specs.Arith.{is_taken}
use Rattle.scale_base.specs.State.{reg}
use Rattle.bound_laws.specs.Registers.{Measure, measured, keeps, effect}
use Rattle.bound_laws.specs.Values.{IsHeld, Values, IsSolved, IsCovered, IsLineCovered, IsRegister, AreIn, held, solved, solved_by, passed, Covers, Said, said, line_of, sum_with, without, is_difference, compared, meet_of}
use Rattle.bound_laws.proofs.Laws.{nothing_more, in_covers, sum_with_in, without_in, solved_in, word_of, held_of, line_in, not_shift, compared_in, measured_small, meet_of_in}

abbrev pub IsSo : List ℕ → Option Said → Type 0
IsSo regs None = Unit {0}
IsSo regs (Some x) = is_taken x.op (reg regs x.first) (reg regs x.second) ≡ true

module _ (v : Values) (registers : (j : ℕ) → IsRegister (v.forms j).register × IsRegister (v.forms j).other) (a b : ℕ) (i : Instr) (before after : List ℕ)
    (kept : (r : ℕ) → keeps r i ≡ true → reg after r ≡ reg before r)
    (holds : (r : ℕ) → IsRegister r → IsHeld (passed i a b (v.at a) r) (reg after r))
    (adds : (m : Measure) (e : ℕ) → IsRegister m.register → IsRegister m.other → effect m i ≡ Some e → measured m after ≡ (measured m before + e) % 2 ^ 32)
    (so : IsSo before (said i a b))
    (zero_before : reg before 0 ≡ 0) (size_before : length before ≡ 32) (zero_after : reg after 0 ≡ 0) (size_after : length after ≡ 32) (now : AreIn v a before) where
  pub register_in : (r : ℕ) → IsRegister r → IsCovered v i a b r → IsHeld (v.at b r) (reg after r)
  register_in r is c = ⊎_elim
      (λ (x : Covers (v.at b r) (passed i a b (v.at a) r)). in_covers (passed i a b (v.at a) r) (v.at b r) (reg after r) (holds r is) x)
      (λ (y : ((keeps r i ≡ true) × Covers (v.at b r) (v.at a r)) ⊎ IsSolved v i a b r). ⊎_elim
      (λ (x : (keeps r i ≡ true) × Covers (v.at b r) (v.at a r)). in_covers (v.at a r) (v.at b r) (reg after r) (subst (λ y. IsHeld (v.at a r) y) (sym (kept r x.0)) (now.each r is)) x.1)
      (λ (x : IsSolved v i a b r). by_line x) y) c
    where
      by_line : IsSolved v i a b r → IsHeld (v.at b r) (reg after r)
      by_line x =
          let j : ℕ = x.0 in
          let e : ℕ = x.1 in
          let m : Measure = v.forms j in
          let rs = registers j in
          let moved : measured m after ≡ (measured m before + e) % 2 ^ 32 = adds m e rs.0 rs.1 x.4 in
          let line : IsHeld (sum_with (v.lines a j) e) (measured m after) = subst (λ n. IsHeld (sum_with (v.lines a j) e) n) (sym moved) (sum_with_in (v.lines a j) e (measured m before) (now.lines j)) in
          let other : IsHeld (held (passed i a b (v.at a)) m.other) (reg after m.other) = held_of (passed i a b (v.at a)) after zero_after size_after holds m.other in
          let small : reg after m.register < 2 ^ 32 = subst (λ q. reg after q < 2 ^ 32) (sym x.2) (word_of (passed i a b (v.at a) r) (reg after r) x.5 (holds r is)) in
          let found : IsHeld (solved m (sum_with (v.lines a j) e) (held (passed i a b (v.at a)) m.other)) (reg after r) = subst (λ q. IsHeld (solved m (sum_with (v.lines a j) e) (held (passed i a b (v.at a)) m.other)) (reg after q)) x.2 (solved_in m (sum_with (v.lines a j) e) (held (passed i a b (v.at a)) m.other) after x.3 small line other) in
          ⊎_elim
          (λ (y : Covers (v.at b r) (solved_by v i a b j e)). in_covers (solved_by v i a b j e) (v.at b r) (reg after r) found y)
          (λ (y : Covers (v.at b r) (meet_of (solved_by v i a b j e) (passed i a b (v.at a) r))). in_covers (meet_of (solved_by v i a b j e) (passed i a b (v.at a) r)) (v.at b r) (reg after r) (meet_of_in (solved_by v i a b j e) (passed i a b (v.at a) r) (reg after r) found (holds r is)) y) x.6

  abbrev IsApartBy : ℕ → ℕ → Type 0
  IsApartBy j e = (e ≡ 0) × (is_difference (said i a b) (v.forms j) (v.at a) ≡ true) × Covers (v.lines b j) (without (v.lines a j) ((v.forms j).shift % 2 ^ 32))

  abbrev IsComparedBy : ℕ → ℕ → Type 0
  IsComparedBy j e = (e ≡ 0) × Covers (v.lines b j) (meet_of (v.lines a j) (compared (said i a b) (v.forms j) (v.at a)))

  pub line_covered : (j : ℕ) → IsLineCovered v i a b j → IsHeld (v.lines b j) (measured (v.forms j) after)
  line_covered j c =
      let m : Measure = v.forms j in
      let rs = registers j in
      let w : ℕ = measured m after in
      ⊎_elim
      (λ (x : Covers (v.lines b j) (line_of (v.forms j) (passed i a b (v.at a)))). in_covers (line_of m (passed i a b (v.at a))) (v.lines b j) w (line_in m (passed i a b (v.at a)) after (held_of (passed i a b (v.at a)) after zero_after size_after holds)) x)
      (λ (x : (e : ℕ) × (effect (v.forms j) i ≡ Some e) × (Covers (v.lines b j) (sum_with (v.lines a j) e) ⊎ IsApartBy j e ⊎ IsComparedBy j e)).
      let moved : w ≡ (measured m before + x.0) % 2 ^ 32 = adds m x.0 rs.0 rs.1 x.1 in
      ⊎_elim
      (λ (y : Covers (v.lines b j) (sum_with (v.lines a j) x.0)). in_covers (sum_with (v.lines a j) x.0) (v.lines b j) w (subst (λ n. IsHeld (sum_with (v.lines a j) x.0) n) (sym moved) (sum_with_in (v.lines a j) x.0 (measured m before) (now.lines j))) y)
      (λ (z : IsApartBy j x.0 ⊎ IsComparedBy j x.0). ⊎_elim
      (λ (y : IsApartBy j x.0).
      in_covers (without (v.lines a j) (m.shift % 2 ^ 32)) (v.lines b j) w (subst (λ n. IsHeld (without (v.lines a j) (m.shift % 2 ^ 32)) n) (sym (still x.0 moved y.0)) (without_in (v.lines a j) (m.shift % 2 ^ 32) (measured m before) (now.lines j) (apart_by m (said i a b) so y.1))) y.2)
      (λ (y : IsComparedBy j x.0). in_covers (meet_of (v.lines a j) (compared (said i a b) m (v.at a))) (v.lines b j) w (subst (λ n. IsHeld (meet_of (v.lines a j) (compared (said i a b) m (v.at a))) n) (sym (still x.0 moved y.0)) (meet_of_in (v.lines a j) (compared (said i a b) m (v.at a)) (measured m before) (now.lines j) (compared_by m (said i a b) so))) y.1) z) x.2) c
    where
      still : (e : ℕ) → measured (v.forms j) after ≡ (measured (v.forms j) before + e) % 2 ^ 32 → e ≡ 0 → measured (v.forms j) after ≡ measured (v.forms j) before
      still e moved none = moved ∙ (ap (λ n. (measured (v.forms j) before + n) % 2 ^ 32) none ∙ nothing_more (measured (v.forms j) before) (measured_small (v.forms j) before))

      compared_by : (m : Measure) (o : Option Said) → IsSo before o → IsHeld (compared o m (v.at a)) (measured m before)
      compared_by m None so = tt
      compared_by m (Some x) so = compared_in x m (v.at a) before (held_of (v.at a) before zero_before size_before now.each) so

      apart_by : (m : Measure) (o : Option Said) → IsSo before o → is_difference o m (v.at a) ≡ true → measured m before ≡ m.shift % 2 ^ 32 → ⊥
      apart_by m None so h = let bad : ⊥ = cc in absurd bad
      apart_by m (Some x) so h = not_shift x m (v.at a) before (held_of (v.at a) before zero_before size_before now.each) so h
