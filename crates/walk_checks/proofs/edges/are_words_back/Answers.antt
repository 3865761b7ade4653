use Rattle.std.proofs.Common.{ℕ, Option, inl, refl, subst}
use Rattle.stack_tables.specs.Tables.{stacks_in, values_in}
use Rattle.walk_areas.specs.Walking.{IsWordBack, Trace}
use Rattle.walk_checks.specs.Walked.{at_of, cert}
use Rattle.walk_checks.proofs.Cases.{each_word}
use Rattle.walk_checks.proofs.edges.are_words_back.Goals as goal

pub returns : goal.returns
returns c so k = subst (IsWordBack (values_in c.args.case.now.claim.now) (stacks_in c.args.case.now.claim.now) (cert c.args.case.now) (at_of c.args.case.now c.args.call.from) (at_of c.args.case.now c.args.call.entry) k) (c.words_at.ensures k)
    (each_word (λ (n : ℕ) (b : Option Trace). IsWordBack (values_in c.args.case.now.claim.now) (stacks_in c.args.case.now.claim.now) (cert c.args.case.now) (at_of c.args.case.now c.args.call.from) (at_of c.args.case.now c.args.call.entry) n b) (λ n. inl refl) _ (c.are_each_back.ensures so) k)
