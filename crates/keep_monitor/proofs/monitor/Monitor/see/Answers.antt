use Rattle.std.proofs.Common.{rules, ◌≡◌, ◌≤◌, ◌∙◌, ℕ, Bool, List, [], true, false, ap, sym, subst, length, reverse, vec_len}
use Rattle.std.specs.Prelude.{slice_index_or}
use Rattle.std.proofs.lemmas.List.{length-reverse}
use Rattle.graph_runs.specs.KeptRuns.{most_returns}
use Rattle.keep_monitor.specs.Slots.{slot_of}
use Rattle.keep_monitor.specs.Steps.{AreTurning}
use Rattle.keep_monitor.specs.Watch.{Watched, watch}
use Rattle.keep_monitor.specs.contracts.monitor.Monitor.{the_view}
use Rattle.keep_monitor.proofs.PlainLaws.{plain_step, no_header, no_numbers}
use Rattle.keep_monitor.proofs.monitor.Monitor.see.Goals as goal

pub returns-then-is_plain-clause-new : goal.returns-then-is_plain-clause-new
returns-then-is_plain-clause-new c =
    let inside = c.self.inside in
    let idle : inside.turning.items ≡ [] = no_numbers inside.turning.items (ap length (sym c.deref-2.ensures.value) ∙ c.is_plain.ensures.turning c.if-is_plain.true) in
    let slot : slice_index_or inside.slots.items (slot_of c.args.step.now.next) true ≡ false =
    ap (λ (slots : List Bool). slice_index_or slots (slot_of c.args.step.now.next) true) (sym c.deref.ensures.value) ∙ c.is_plain.ensures.slot c.if-is_plain.true in
    let len : length inside.returns.items ≡ vec_len inside.returns = search rules in
    let shallow : length (reverse inside.returns.items) ≤ most_returns = subst (λ n. n ≤ most_returns) (sym (length-reverse inside.returns.items ∙ len)) c.self.invariant.0.shallow in
    sym c.self.view_is
    ∙ (plain_step (the_view inside) c.args.step.now (c.is_plain.ensures.moved c.if-is_plain.true)
    (subst (λ (ts : List ℕ). AreTurning inside.notes (length inside.notes) ts) idle c.self.invariant.0.turning_fit) c.self.invariant.0.counts_fit shallow
    (no_header inside.notes inside.slots.items c.args.step.now.next c.self.invariant.1 slot)
    ∙ ap (λ (v : Watched). watch v c.args.step.now) c.self.view_is)
