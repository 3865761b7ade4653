use Rattle.std.proofs.Common.{ℕ, List, Option, inl, refl}
use Rattle.walk_areas.specs.Walking.{IsBegun, Trace}
use Rattle.walk_areas.specs.Walking.Place.{in_word}
use Rattle.walk_checks.specs.Walked.{certificate_of}
use Rattle.walk_checks.proofs.Cases.{begun_seen, each_word}
use Rattle.walk_checks.proofs.shown.are_words_begun.Goals as goal

pub returns : goal.returns
returns c so k = begun_seen c.args.case.now (in_word k) _ _ (c.words_at.ensures k)
    (each_word (λ (n : ℕ) (b : Option Trace). (nodes : List ℕ) → IsBegun (certificate_of nodes c.args.case.now.table.now) (in_word n) b) (λ n nodes. inl refl) _ (c.are_each_begun.ensures so) k)
