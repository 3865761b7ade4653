use Rattle.std.proofs.Common.{refl, ◌∙◌}
use Rattle.std.proofs.lemmas.Option.{slice_get-get_or}
use Rattle.std.specs.Prelude.{slice_index}
use Rattle.image_check.proofs.LevelLaws.{no_target}
use Rattle.image_check.proofs.levels.edge_level.Goals as goal

pub leading_level-requires-clause-leads : goal.leading_level-requires-clause-leads
leading_level-requires-clause-leads c =
    (c.requires.edge, (slice_index c.args.known.now.graph.now.code.nodes c.in-Some._to, c.in-Some.ensures.some c.in-Some._to refl ∙ slice_get-get_or c.args.known.now.graph.now.code.nodes c.in-Some._to 0 (c.in-Some.ensures.within c.in-Some._to refl)))

pub returns-in-None : goal.returns-in-None
returns-in-None c = λ original foreign found w n least by i bad. no_target c.args.known.now original foreign found w n least by c.args.e i (c.in-None.ensures.none refl) bad
