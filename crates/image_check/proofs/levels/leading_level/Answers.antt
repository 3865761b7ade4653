use Rattle.std.proofs.Common.{[], refl, ◌∙◌, arith}
use Rattle.std.proofs.lemmas.Option.{get_or_from_slice_get}
use Rattle.image_check.proofs.LevelLaws.{no_entry}
use Rattle.image_check.proofs.levels.leading_level.Goals as goal

pub fragments-requires : goal.fragments-requires
fragments-requires c =
    let lt = c.requires.leads.0 in
    let size = c.requires.known.6.known.found_is.shown.edges in
    omega (arith, lt, size)

pub fragment_level-requires-clause-first : goal.fragment_level-requires-clause-first
fragment_level-requires-clause-first c =
    let h = c.in-Some.ensures.some c.in-Some.first refl in
    (h.0, get_or_from_slice_get c.args.known.now.sites.now.fragments c.args.e c.fragments.result.now [] c.fragments.ensures ∙ h.1)

pub returns-in-None : goal.returns-in-None
returns-in-None c = λ original foreign found w n least by i bad.
    no_entry c.args.known.now original foreign found w n least by c.args.e i [] (get_or_from_slice_get c.args.known.now.sites.now.fragments c.args.e c.fragments.result.now [] c.fragments.ensures ∙ c.in-None.ensures.none refl) (λ none. none) bad
