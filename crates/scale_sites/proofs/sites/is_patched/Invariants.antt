use Rattle.std.proofs.Common.{◌≡◌, ℕ, ◌<◌, ◌≤◌, false, map, Vec, Global}
use Rattle.scale_base.specs.declared.fragments.Mark.{Mark}
use Rattle.scale_sites.specs.Sites.{marks_in}
use Rattle.scale_sites.specs.Weights.{some_mark}
use Rattle.scale_sites.proofs.sites.is_patched.Given as goal

abbrev pub invariant-loop-d : goal.invariant-loop-d
invariant-loop-d l = (d : ℕ) → l.first ≤ d → d < l.d → some_mark (marks_in (map (λ (m : Vec Mark Global). m.items) l.marks) d) ≡ false
