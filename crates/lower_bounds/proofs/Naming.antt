-- What the tables say of any register's name, and sums of registers that are the same.
use Rattle.std.proofs.Common.{◌≡◌, ℕ, ◌+◌, ◌*◌, ◌%◌, ◌^◌, List, None, sym, ap, ◌∙◌}
use Rattle.std.specs.Prelude.{◌&&◌, nat_lt}
use Rattle.std.proofs.lemmas.Bool.{cond_both, and_parts, ltb-true}
use Rattle.std.proofs.lemmas.Nat.{mul-mod_second}
use Rattle.scale_base.specs.State.{reg}
use Rattle.bound_laws.specs.Registers.{Measure, measured}
use Rattle.bound_laws.specs.Values.{Values}
use Rattle.bound_laws.proofs.Laws.{sum_of_products}
use Rattle.stack_laws.specs.Stacks.{Stacks, View, IsNamed, name_of, AreTold}

pub named_at : (v : Values) (w : Stacks) (a : ℕ) (x : View) → AreTold v w a x → (r : ℕ) → IsNamed (name_of w a r) x (reg x.regs r)
named_at v w a x told r = cond_both (nat_lt 0 r && nat_lt r 32) (w.name a r) None (λ n. IsNamed n x (reg x.regs r))
    (λ h. let p = and_parts (nat_lt 0 r) (nat_lt r 32) h in told.names r (ltb-true 0 r p.0, ltb-true r 32 p.1)) (λ _. tt)

multiples_same : (f a b : ℕ) → a % 2 ^ 32 ≡ b % 2 ^ 32 → f * a % 2 ^ 32 ≡ f * b % 2 ^ 32
multiples_same f a b h = sym (mul-mod_second f a (2 ^ 32)) ∙ (ap (λ n. f * n % 2 ^ 32) h ∙ mul-mod_second f b (2 ^ 32))

-- a sum is the same where its registers are, modulo 2^32
pub measured_same : (m : Measure) (before after : List ℕ) → reg after m.register % 2 ^ 32 ≡ reg before m.register % 2 ^ 32 → reg after m.other % 2 ^ 32 ≡ reg before m.other % 2 ^ 32 → measured m after ≡ measured m before
measured_same m before after p q =
    sym (sum_of_products (2 ^ 32) m.shift (m.factor * reg after m.register) (m.other_factor * reg after m.other))
    ∙ (ap (λ n. ((n + m.other_factor * reg after m.other % 2 ^ 32) % 2 ^ 32 + m.shift) % 2 ^ 32) (multiples_same m.factor (reg after m.register) (reg before m.register) p)
    ∙ (ap (λ n. ((m.factor * reg before m.register % 2 ^ 32 + n) % 2 ^ 32 + m.shift) % 2 ^ 32) (multiples_same m.other_factor (reg after m.other) (reg before m.other) q)
    ∙ sum_of_products (2 ^ 32) m.shift (m.factor * reg before m.register) (m.other_factor * reg before m.other)))
