use Rattle.std.proofs.Common.{ℕ, Option, refl, subst}
use Rattle.stack_tables.specs.Tables.{stacks_in, values_in}
use Rattle.walk_areas.specs.Walking.{IsWordOver, Trace}
use Rattle.walk_areas.specs.Walking.IsWordOver.{untraced}
use Rattle.walk_checks.specs.Walked.{at_of, cert}
use Rattle.walk_checks.proofs.Cases.{each_word}
use Rattle.walk_checks.proofs.edges.are_words_over.Goals as goal

pub returns : goal.returns
returns c so k = subst (IsWordOver (values_in c.args.case.now.claim.now) (stacks_in c.args.case.now.claim.now) (cert c.args.case.now) (at_of c.args.case.now c.args.step.from) c.args.step.instr k) (c.words_at.ensures k)
    (each_word (λ (n : ℕ) (b : Option Trace). IsWordOver (values_in c.args.case.now.claim.now) (stacks_in c.args.case.now.claim.now) (cert c.args.case.now) (at_of c.args.case.now c.args.step.from) c.args.step.instr n b) (λ n. untraced refl) _ (c.are_each_over.ensures so) k)
