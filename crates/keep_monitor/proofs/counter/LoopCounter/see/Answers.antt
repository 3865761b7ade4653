use Rattle.std.proofs.Common.{rules, ◌≡◌, ◌≤◌, ◌∙◌, ℕ, Bool, List, [], true, false, ap, sym, subst, length, reverse, vec_len}
use Rattle.std.specs.Prelude.{slice_index_or}
use Rattle.std.proofs.lemmas.List.{length-reverse}
use Rattle.graph_runs.specs.KeptRuns.{most_returns}
use Rattle.keep_monitor.specs.Slots.{slot_of}
use Rattle.keep_monitor.specs.Steps.{AreTurning}
use Rattle.keep_monitor.specs.Counted.{Counted, counted}
use Rattle.keep_monitor.specs.contracts.counter.LoopCounter.{the_view}
use Rattle.keep_monitor.proofs.PlainLaws.{no_header, no_numbers}
use Rattle.keep_monitor.proofs.CounterLaws.{plain_seen}
use Rattle.keep_monitor.proofs.counter.LoopCounter.see.Goals as goal

pub returns-then-is_plain : goal.returns-then-is_plain
returns-then-is_plain c =
    let inside = c.self.inside in
    let idle : inside.turning.items ≡ [] = no_numbers inside.turning.items (ap length (sym c.deref-2.ensures.value) ∙ c.is_plain.ensures.turning c.if-is_plain.true) in
    let slot : slice_index_or inside.slots.items (slot_of c.args.step.now.next) true ≡ false =
    ap (λ (slots : List Bool). slice_index_or slots (slot_of c.args.step.now.next) true) (sym c.deref.ensures.value) ∙ c.is_plain.ensures.slot c.if-is_plain.true in
    let len : length inside.returns.items ≡ vec_len inside.returns = search rules in
    let shallow : length (reverse inside.returns.items) ≤ most_returns = subst (λ n. n ≤ most_returns) (sym (length-reverse inside.returns.items ∙ len)) c.self.invariant.0.monitor.shallow in
    sym c.self.view_is
    ∙ (plain_seen inside.notes inside.relaxed (reverse inside.returns.items) inside.counts.items inside.most.items inside.kept inside.relaxed_kept c.args.step.now
    c.self.invariant.0.relaxed_is (c.is_plain.ensures.moved c.if-is_plain.true)
    (subst (λ (ts : List ℕ). AreTurning inside.notes (length inside.notes) ts) idle c.self.invariant.0.turning_fit) c.self.invariant.0.bounded c.self.invariant.0.monitor.counts_fit c.self.invariant.0.size shallow
    (no_header inside.relaxed inside.slots.items c.args.step.now.next c.self.invariant.1 slot)
    ∙ ap (λ (v : Counted). counted v c.args.step.now) c.self.view_is)
