-- Words that are missed are kept.
use Rattle.std.proofs.Common.{◌≡◌, ℕ, ◌<◌, ◌^◌, List, [], ◌∷◌, ◌++◌, Option, Some, None, map, reverse, sym, subst, arith}
use Rattle.std.specs.List.{All}
use Rattle.std.proofs.lemmas.List.{reverse-append}
use Rattle.std.proofs.lemmas.List.Elements.{All-head, All-tail}
use Rattle.scale_base.specs.Arith.{plus}
use Rattle.scale_base.specs.State.{word_at}
use Rattle.stack_laws.specs.Stacks.{Stacks}
use Rattle.stack_laws.specs.Tidy as tidy
use Rattle.stack_laws.specs.Tidy.{AreAllKept}
use Rattle.tidy_runs.specs.declared.activations.Activation.{Activation}
use Rattle.tidy_runs.specs.declared.writing.Written.{Written}
use Rattle.tidy_runs.specs.Writing.{MissesWord}
use Rattle.tidy_runs.specs.Looking.{AreMissed, activation_of, active_now}

plus_small : (a b : ℕ) → plus a b < 2 ^ 32
plus_small a b = omega arith

module _ (w : Stacks) (before after : ℕ → ℕ) where
  all_of : (ys zs : List Activation) → AreAllKept w before after (map activation_of ys) → AreAllKept w before after (map activation_of zs) → AreAllKept w before after (map activation_of (ys ++ zs))
  all_of [] zs a b = b
  all_of (y ∷ ys) zs a b = (a.0, all_of ys zs a.1 b)

  module _ (o : Option Written) (same : (at : ℕ) → at < 2 ^ 32 → MissesWord o at → word_at after at ≡ word_at before at) where
    pub none_written : o ≡ None → (ys : List tidy.Activation) → AreAllKept w before after ys
    none_written none [] = tt
    none_written none (y ∷ ys) = (λ k kept. same (plus y.stack (w.offset k)) (plus_small y.stack (w.offset k)) (subst (λ p. MissesWord p (plus y.stack (w.offset k))) (sym none) tt), none_written none ys)

    pub missed_kept : (x : Written) → o ≡ Some x → (ys : List Activation) → All (AreMissed w x) ys → AreAllKept w before after (active_now ys)
    missed_kept x some [] missed = tt
    missed_kept x some (y ∷ ys) missed = subst (λ zs. AreAllKept w before after (map activation_of zs)) (sym (reverse-append (y ∷ []) ys))
        (all_of (reverse ys) (y ∷ []) (missed_kept x some ys (All-tail (AreMissed w x) y ys missed))
        (λ k kept. same (plus y.stack (w.offset k)) (plus_small y.stack (w.offset k)) (subst (λ p. MissesWord p (plus y.stack (w.offset k))) (sym some) (All-head (AreMissed w x) y ys missed k kept)), tt))
