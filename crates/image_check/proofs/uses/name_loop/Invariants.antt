use Rattle.std.proofs.Common.{◌≡◌, ℕ, length, drop}
use Rattle.image_check.specs.Known.{owner_by}
use Rattle.image_check.specs.Uses.{named}
use Rattle.image_check.proofs.uses.name_loop.Given as goal

abbrev pub invariant-loop-fragment : goal.invariant-loop-fragment
invariant-loop-fragment l = record {
  size : length l.owners.items ≡ 511;
  named : (c : ℕ) → named l.k c (drop l.fragment-index l.fragments) (owner_by l.owners.items c) ≡ named l.k c l.fragments (owner_by l.fn.owners.items c);
}
