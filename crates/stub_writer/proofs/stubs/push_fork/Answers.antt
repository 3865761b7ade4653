use Rattle.std.proofs.Common.{pos, ◌+◌, ◌*◌, ap, ◌∙◌, ◌++◌, ◌∷◌, []}
use Rattle.scale_base.specs.declared.instruction.Instr.TheVariants.{Branch}
use Rattle.stub_writer.specs.Stubs.{way, way_len, ways_code, code_bytes}
use Rattle.stub_writer.proofs.SiteLaws.{first_then}
use Rattle.stub_writer.proofs.stubs.push_fork.Goals as goal

pub returns : goal.returns
returns c =
    first_then c.args.out.now.items c.push_branch.new.out.items c.push_ways.new.out.items
    (Branch c.args.fork.now.op c.args.fork.now.rs1 c.args.fork.now.rs2 (pos (4 + 4 * way_len (way c.args.fork.now.untaken.target c.args.fork.now.untaken.fragments.now))))
    (ways_code c.args.at c.args.table (way c.args.fork.now.untaken.target c.args.fork.now.untaken.fragments.now) (way c.args.fork.now.taken.target c.args.fork.now.taken.fragments.now))
    (c.in_ok-push_branch.ensures ∙ ap (λ n. c.args.out.now.items ++ code_bytes (Branch c.args.fork.now.op c.args.fork.now.rs1 c.args.fork.now.rs2 (pos (4 + 4 * (n + 1))) ∷ [])) c.codes_len.ensures.is)
    c.in_ok-push_ways.ensures
