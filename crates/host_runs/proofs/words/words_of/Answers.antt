use Rattle.std.proofs.Common.{◌≡◌, drop, ap, ◌∙◌}
use Rattle.std.specs.Vec.Iter.{into_iter_items, into_iter_len}
use Rattle.std.specs.Iterator.Adapters.{skip_source}
use Rattle.std.proofs.lemmas.Iterator.{items_from_collect}
use Rattle.std.proofs.lemmas.Iterator.Adapters.{YieldsList-from_vec, YieldsList-from_skip}
use Rattle.std.proofs.lemmas.Result.{IfOk-at_ok}
use Rattle.host_runs.proofs.words.words_of.Goals as goal

pub returns-clause-words : goal.returns-clause-words
returns-clause-words c =
    let all = c.in_ok-given.field-0 in
    let source = YieldsList-from_vec {s = skip_source c.skip.result} (into_iter_items all) (ap into_iter_items c.skip.ensures.source) (ap into_iter_len c.skip.ensures.source ∙ all.rest.ok.0) in
    let words : c.in_ok-collect.field-0.items ≡ drop 1 (into_iter_items all) =
    IfOk-at_ok (λ words. words.items ≡ drop 1 (into_iter_items all)) c.in_ok-collect.was (items_from_collect c.collect.result c.collect.ensures.ran (YieldsList-from_skip 1 source c.skip.ensures.count)) in
    rw c.in_ok-given.was words
