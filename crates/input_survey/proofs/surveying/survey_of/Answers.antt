use Rattle.std.proofs.Common.{◌≡◌, ◌∙◌, ◌<◌, ◌^◌, ◌+◌, ℕ, List, [], ◌∷◌, ◌++◌, length, map, take, slice_index, sym, ap, subst}
use Rattle.std.specs.List.{All}
use Rattle.std.proofs.lemmas.List.{length-append, map_more, take_all}
use Rattle.loop_file.specs.declared.notes.LoopNote.{LoopNote}
use Rattle.power_model.specs.Survey.{line_view}
use Rattle.input_survey.specs.Most.{IsMost}
use Rattle.input_survey.specs.Surveyed.{IsLine, AreLines, totals_of}
use Rattle.input_survey.proofs.LineLaws.{lines_more}
use Rattle.input_survey.proofs.SurveyLaws.{IsCountedOn, counted_on, map_one, all_one}
use Rattle.input_survey.proofs.surveying.survey_of.Goals as goal

pub loop-input-preserved : goal.loop-input-preserved
loop-input-preserved g c =
    let power = c.args.images.now.power.now in
    let original = c.args.images.now.original.now in
    let scaled = c.args.images.now.scaled.now in
    let notes : List LoopNote = c.args.notes in
    let i = c.loop-input.invariant in
    let before : List (List ℕ) = map (λ input. input.items) (take c.loop-input.input-index c.args.inputs.now) in
    let input : List ℕ = c.deref.result.now in
    let line = c.in_ok-line_of.field-0 in
    let more : map (λ input. input.items) (take (c.loop-input.input-index + 1) c.args.inputs.now) ≡ before ++ input ∷ [] =
    map_more (λ input. input.items) c.args.inputs.now c.loop-input.input-index c.input-item.result c.loop-input-test.true ∙
    (ap (λ v. before ++ v.items ∷ []) (sym c.input-item.is) ∙ ap (λ v. before ++ v ∷ []) (sym c.deref.ensures.value)) in
    let items = c.in_ok-push.ensures.items in
    let on : IsCountedOn power original notes (before ++ input ∷ []) c.line_of.new.counter =
    counted_on power original notes c.loop-input.counter.notes before input c.loop-input.counter.most c.line_of.new.counter i.fit i.notes i.size i.most c.in_ok-line_of.ensures.counted in
    let is : IsLine power original scaled notes input (line_view line) = subst (λ ns. IsLine power original scaled ns input (line_view line)) i.notes c.in_ok-line_of.ensures.line in
    let seen : map line_view c.push.new.self.items ≡ map line_view c.loop-input.lines.items ++ line_view line ∷ [] = ap (map line_view) items ∙ map_one line_view c.loop-input.lines.items line in
    record {
      notes = on.notes_are;
      fit = i.fit;
      size = on.size;
      lines = subst (λ xs. AreLines power original scaled notes xs (map line_view c.push.new.self.items)) (sym more) (subst (λ ls. AreLines power original scaled notes (before ++ input ∷ []) ls) (sym seen)
          (lines_more power original scaled notes before (map line_view c.loop-input.lines.items) input (line_view line) i.lines is));
      most = λ k kl. subst (λ xs. IsMost power original notes xs k (slice_index c.line_of.new.counter.most k)) (sym more) (on.most k kl);
      held = subst (λ ls. All (λ l. l.held < 2 ^ 100) ls) (sym items) (all_one (λ l. l.held < 2 ^ 100) c.loop-input.lines.items line i.held c.in_ok-line_of.ensures.held);
      count = ap length items ∙ (length-append c.loop-input.lines.items (line ∷ []) ∙ ap (λ n. n + 1) i.count);
    }

pub returns : goal.returns
returns g c =
    let power = c.args.images.now.power.now in
    let original = c.args.images.now.original.now in
    let scaled = c.args.images.now.scaled.now in
    let i = c.loop-input.invariant in
    let all : take c.loop-input.input-index c.args.inputs.now ≡ c.args.inputs.now = take_all c.loop-input.input-index c.args.inputs.now c.loop-input-test.false in
    record {
      lines = subst (λ xs. AreLines power original scaled c.args.notes (map (λ input. input.items) xs) (map line_view c.loop-input.lines.items)) all i.lines;
      loops = ap length c.into_most.ensures ∙ i.size;
      most = λ k kl. subst (λ xs. IsMost power original c.args.notes (map (λ input. input.items) xs) k (slice_index c.into_most.result.items k)) all
          (subst (λ m. IsMost power original c.args.notes (map (λ input. input.items) (take c.loop-input.input-index c.args.inputs.now)) k (slice_index m k)) (sym c.into_most.ensures) (i.most k kl));
      totals = c.totals_of-totals.ensures ∙ ap (λ ls. totals_of power (map line_view ls)) c.deref-2.ensures.value;
    }
