-- Scaffold: what the code of a lowered image shows of a noted jump.
use Rattle.std.specs.Prelude.{◌≡◌, ℕ, Bool, true, List, slice_get, Some}
use Rattle.scale_base.specs.Image.{Image}
use Rattle.jump_lists.specs.declared.notes.JumpNote.{JumpNote}
use Rattle.image_lower.specs.Block.{register}
use Rattle.fixed_tables.specs.Tables.{IsTableOf}
use Rattle.jump_laws.specs.declared.reads.TableRead.{TableRead}
use Rattle.jump_checks.specs.declared.claims.ReadClaim.{ReadClaim}
use Rattle.jump_checks.specs.Claimed.{known_beside}

-- where the jump stood its register has a word of a table, whose words are the note's targets
pub record IsShownBy (original : Image) (c : ReadClaim) (note : JumpNote) : Type 0 where
  pub read : TableRead
  pub known : known_beside c.claim.now.graph.now.code.nodes c.reads.now note.at ≡ Some read
  pub register_is : register original note ≡ read.register
  pub table : IsTableOf c.claim.now.view.now read.table note.targets

-- of each note that has a flag
abbrev pub AreShownBy : Image → ReadClaim → List JumpNote → List Bool → Type 0
AreShownBy original c notes flags = (k : ℕ) (note : JumpNote) → slice_get notes k ≡ Some note → slice_get flags k ≡ Some true →
    IsShownBy original c note
