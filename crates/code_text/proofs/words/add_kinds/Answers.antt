use Rattle.std.proofs.Common.{ap, ◌∙◌, ◌+◌, ◌*◌, ◌++◌, ◌∷◌, [], map}
use Rattle.std.specs.List.{range_with_len}
use Rattle.code_text.specs.Text.{text_of, kind_at}
use Rattle.code_text.proofs.Rows.{next_kind}
use Rattle.code_text.proofs.words.add_kinds.Goals as goal

pub loop-k-preserved : goal.loop-k-preserved
loop-k-preserved c =
    let from = c.args.range.from in
    c.in_ok-push.ensures.items ∙ ap (λ xs. xs ++ c.kind_at.result ∷ []) c.loop-k.invariant
    ∙ ap (λ kind. (c.args.kinds.now.items ++ map (kind_at (text_of c.args.view.now)) (map (λ i. from + 4 * i) (range_with_len 0 c.loop-k.k))) ++ kind ∷ []) c.kind_at.ensures
    ∙ next_kind (λ i. from + 4 * i) (kind_at (text_of c.args.view.now)) c.args.kinds.now.items c.loop-k.k
