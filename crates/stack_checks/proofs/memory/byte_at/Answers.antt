use Rattle.std.proofs.Common.{◌∙◌, sym, Some, None}
use Rattle.scale_base.specs.Image as image
use Rattle.elf_image.specs.Segment.{segment_value}
use Rattle.machine_laws.proofs.Laws.{found_passes}
use Rattle.stack_checks.proofs.CellRows.{byte_found}
use Rattle.stack_checks.proofs.memory.byte_at.Goals as goal

pub segment_byte-requires : goal.segment_byte-requires
segment_byte-requires c = found_passes (image.covers c.args.at) c.args.view.now.segments (segment_value c.in-Some.segment) (sym c.in-Some.ensures)

pub returns-in-Some : goal.returns-in-Some
returns-in-Some c = c.segment_byte.ensures ∙ byte_found c.args.view.now c.args.at (Some (segment_value c.in-Some.segment)) c.in-Some.ensures

pub returns-in-None : goal.returns-in-None
returns-in-None c = byte_found c.args.view.now c.args.at None c.in-None.ensures
