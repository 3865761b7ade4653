-- Bytes that an instruction may use.
use Rattle.std.proofs.Common.{◌≡◌, ℕ, zero, suc, ◌+◌, Bool, true, false, refl}
use Rattle.std.proofs.lemmas.Bool.{and_parts, and_from, or_left}
use Rattle.scale_base.specs.Layout.{Layout, each_byte, may_read, is_keyed, reads_byte}
use Rattle.std.specs.Prelude.{◌&&◌, ◌||◌}

pub each_byte_weaker : (t u : ℕ → Bool) (at n : ℕ) → ((a : ℕ) → t a ≡ true → u a ≡ true) → each_byte t at n ≡ true → each_byte u at n ≡ true
unfolding each_byte
each_byte_weaker t u at zero h all = refl
each_byte_weaker t u at (suc n) h all =
    let parts = and_parts (each_byte t at n) (t (at + n)) all in
    and_from (each_byte u at n) (u (at + n)) (each_byte_weaker t u at n h parts.0) (h (at + n) parts.1)

-- what each instruction may read, the one at pc may
pub may_reads : (l : Layout) (pc at n : ℕ) → each_byte (may_read l) at n ≡ true → each_byte (reads_byte l pc) at n ≡ true
may_reads l pc at n all = each_byte_weaker (may_read l) (reads_byte l pc) at n (λ a h. or_left (may_read l a) (is_keyed l pc && is_keyed l a) h) all
