use Rattle.std.proofs.Common.{◌≤◌, ℕ, List, length, map, Ok, Err, ◌∙◌, refl, sym, ap, subst}
use Rattle.std.specs.Prelude.{All}
use Rattle.std.proofs.lemmas.Result.{err_from_is_err_and}
use Rattle.stub_writer.specs.declared.site.StubSite.{StubSite}
use Rattle.stub_writer.specs.Sites.{IsSite, site_of}
use Rattle.stub_writer.specs.Stubs.{block_size}
use Rattle.power_model.specs.Numbers.{PowerModel}
use Rattle.scale_base.specs.Answer.{AnswersBy}
use Rattle.stub_writer.specs.declared.site.StubBlock.{StubBlock}
use Rattle.marked_images.specs.Scalings.{IsBlockGiven}
use Rattle.marked_images.proofs.ScalingFacts.{marked_program, start_low, cycles_stop, few_stubs, each_stub, block_stops, scaled}
use Rattle.marked_images.proofs.scaling.scaling_of.Goals as goal

pub returns-in_err-stub_cycles : goal.returns-in_err-stub_cycles
returns-in_err-stub_cycles c = λ notes wanted rule m.
    let p = err_from_is_err_and c.from_residual.result c.from_residual.ensures.1 in
    rw (p.1, p.2) (cycles_stop c.args.power.now c.args.view.now notes wanted rule c.args.marked.now.graph c.args.marked.now.tree m.code_is m.tree_is m.counters c.args.marked.now.marking c.args.marked.now.start m.found c.in_err-stub_cycles.field-0.0 c.in_err-stub_cycles.ensures)

pub stub_sites-requires-clause-program : goal.stub_sites-requires-clause-program
stub_sites-requires-clause-program c = marked_program c.args.power.now c.args.view.now c.requires.marked.0 c.requires.marked.1 c.requires.marked.2 c.args.marked.now.graph c.args.marked.now.tree c.requires.marked.3.code_is c.requires.marked.3.tree_is c.requires.marked.3.counters c.args.marked.now.marking c.args.marked.now.start c.requires.marked.3.found

pub block_of-requires-clause-few : goal.block_of-requires-clause-few
block_of-requires-clause-few c = subst (λ (l : List StubSite). length l ≤ 131072) (sym c.deref.ensures.value) (few_stubs c.args.power.now c.args.view.now c.requires.marked.0 c.requires.marked.1 c.requires.marked.2 c.args.marked.now.graph c.args.marked.now.tree c.requires.marked.3.code_is c.requires.marked.3.tree_is c.requires.marked.3.counters c.args.marked.now.marking c.args.marked.now.start c.requires.marked.3.found c.in_ok-stub_cycles.stub_cycles c.in_ok-stub_cycles.ensures c.in_ok-stubs.stubs.items c.in_ok-stubs.ensures)

pub block_of-requires-clause-each : goal.block_of-requires-clause-each
block_of-requires-clause-each c = subst (λ (l : List StubSite). All IsSite l) (sym c.deref.ensures.value) (each_stub c.args.power.now c.args.view.now c.requires.marked.0 c.requires.marked.1 c.requires.marked.2 c.args.marked.now.graph c.args.marked.now.tree c.requires.marked.3.code_is c.requires.marked.3.tree_is c.requires.marked.3.counters c.args.marked.now.marking c.args.marked.now.start c.requires.marked.3.found c.in_ok-stub_cycles.stub_cycles c.in_ok-stub_cycles.ensures c.in_ok-stubs.stubs.items c.in_ok-stubs.ensures)

pub time_at-requires : goal.time_at-requires
time_at-requires c = start_low c.args.power.now c.args.view.now c.requires.marked.0 c.requires.marked.1 c.requires.marked.2 c.args.marked.now.graph c.args.marked.now.tree c.requires.marked.3.code_is c.requires.marked.3.tree_is c.requires.marked.3.counters c.args.marked.now.marking c.args.marked.now.start c.requires.marked.3.found

pub returns-in_err-block : goal.returns-in_err-block
returns-in_err-block c = λ notes wanted rule m.
    let p = err_from_is_err_and c.from_residual-in_err-block.result c.from_residual-in_err-block.ensures.1 in
    rw (p.1, p.2) (block_stops c.args.power.now c.args.view.now notes wanted rule c.args.marked.now.graph c.args.marked.now.tree m.code_is m.tree_is m.counters c.args.marked.now.marking c.args.marked.now.start m.found c.in_ok-stub_cycles.stub_cycles c.in_ok-stub_cycles.ensures c.in_ok-stubs.stubs.items c.in_ok-stubs.ensures c.in_err-block.field-0.0
    (subst (λ (l : List StubSite). AnswersBy {X = StubBlock × ℕ} {Y = StubBlock × ℕ} (λ x. x) (Err c.in_err-block.field-0.0) (IsBlockGiven c.args.view.now l)) c.deref.ensures.value c.in_err-block.ensures))

pub block_len-requires-clause-few : goal.block_len-requires-clause-few
block_len-requires-clause-few c = subst (λ (l : List StubSite). length l ≤ 131072) (sym c.deref-2.ensures.value) (few_stubs c.args.power.now c.args.view.now c.requires.marked.0 c.requires.marked.1 c.requires.marked.2 c.args.marked.now.graph c.args.marked.now.tree c.requires.marked.3.code_is c.requires.marked.3.tree_is c.requires.marked.3.counters c.args.marked.now.marking c.args.marked.now.start c.requires.marked.3.found c.in_ok-stub_cycles.stub_cycles c.in_ok-stub_cycles.ensures c.in_ok-stubs.stubs.items c.in_ok-stubs.ensures)

pub block_len-requires-clause-each : goal.block_len-requires-clause-each
block_len-requires-clause-each c = subst (λ (l : List StubSite). All IsSite l) (sym c.deref-2.ensures.value) (each_stub c.args.power.now c.args.view.now c.requires.marked.0 c.requires.marked.1 c.requires.marked.2 c.args.marked.now.graph c.args.marked.now.tree c.requires.marked.3.code_is c.requires.marked.3.tree_is c.requires.marked.3.counters c.args.marked.now.marking c.args.marked.now.start c.requires.marked.3.found c.in_ok-stub_cycles.stub_cycles c.in_ok-stub_cycles.ensures c.in_ok-stubs.stubs.items c.in_ok-stubs.ensures)

pub returns : goal.returns
returns c = λ notes wanted rule m.
    scaled c.args.power.now c.args.view.now notes wanted rule c.args.marked.now.graph c.args.marked.now.tree m.code_is m.tree_is m.counters c.args.marked.now.marking c.args.marked.now.start m.found c.in_ok-stub_cycles.stub_cycles c.in_ok-stub_cycles.ensures c.in_ok-stubs.stubs.items c.in_ok-stubs.ensures _ refl
    (subst (λ (l : List StubSite). IsBlockGiven c.args.view.now l (Ok (c.in_ok-block.block, c.in_ok-block.base))) c.deref.ensures.value c.in_ok-block.ensures)
    refl c.total-worst.ensures c.time_at.ensures (ap (λ (p : PowerModel). p.deadline) c.power.view_is) refl c.count_edges-edges.ensures.switch c.count_edges-edges.ensures.exit c.count_edges-edges.ensures.count
    (c.block_len.ensures ∙ ap (λ (l : List StubSite). block_size (map site_of l)) c.deref-2.ensures.value)
