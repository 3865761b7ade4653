use Rattle.std.proofs.Common.{◌∙◌, Some, sym, ap, arith}
use Rattle.std.proofs.lemmas.Bool.{eqb-true, eq-eqb}
use Rattle.scale_base.proofs.Laws.{word_reads}
use Rattle.foreign_scan.proofs.ReadLaws.{same_some}
use Rattle.foreign_scan.proofs.reading.is_word_of.Goals as goal

pub returns-in-Some : goal.returns-in-Some
returns-in-Some c =
    let w = c.args.word in
    let reads = word_reads w c.args.wanted.now (omega arith) in (
      λ t. reads.1 ((c.encode.ensures.exact w).0 (c.in-Some.is ∙ ap Some (eqb-true c.in-Some.code w t))),
      λ e. eq-eqb c.in-Some.code w (same_some _ _ (sym c.in-Some.is ∙ (c.encode.ensures.exact w).1 (reads.0 e))),
    )

pub returns-in-None : goal.returns-in-None
returns-in-None c =
    let w = c.args.word in
    let reads = word_reads w c.args.wanted.now (omega arith) in
    (λ t. absurd cc, λ e. absurd (let q = sym c.in-None.is ∙ (c.encode.ensures.exact w).1 (reads.0 e) in cc))
