-- What of an image and its versioned image the law of runs needs: layouts, bytes, pieces and sites.
use Rattle.std.proofs.Common.{◌≡◌, ℕ, ◌+◌, ◌*◌, ◌%◌, ◌^◌, ◌<◌, ◌≤◌, true, false, List, Some, None}
use Rattle.std.specs.Prelude.{nat_lt}
use Rattle.std.specs.List.{list_any}
use Rattle.scale_base.specs.Image.{Image, loaded_byte, is_word_address, is_in}
use Rattle.scale_base.specs.Layout.{layout_of, in_text, is_keyed, can_fetch}
use Rattle.scale_base.specs.Run.{setting_of, starting_level}
use Rattle.scale_base.specs.State.{word_at}
use Rattle.code_text.specs.Text.{text_of}
use Rattle.graph_runs.specs.TextStates.{IsTextOf}
use Rattle.stored_runs.proofs.Laws.{SeeAlike, hidden}
use Rattle.stub_writer.specs.Stubs.{jump}
use Rattle.image_lower.specs.TreeRuns.{InstrStands, CodeStands}
use Rattle.bound_laws.specs.Values.{AreBytes}
use Rattle.loop_versions.specs.declared.pieces.Piece.{Piece}
use Rattle.loop_versions.specs.declared.pieces.Site.{Site}
use Rattle.loop_versions.specs.Pieces.{origin_of, piece_len, behind, piece_at, site_at, piece_code, extra_len, in_extra, is_site}
use Rattle.loop_versions.specs.Fitting.{origin, begins, calls_at, is_right, is_free, ways}
use Rattle.loop_versions.specs.Follows.{in_block}

-- a piece that begins at an address
pub record IsPieceAt (image versioned : Image) (pieces : List Piece) (sites : List Site) (base levels : ℕ) (input : List ℕ) (v : ℕ) (p : Piece) : Type 0 where
  pub word : is_word_address image (origin_of p) ≡ true
  pub right : is_right image pieces base v p ≡ true
  pub free : is_free (ways pieces sites base) 8 v ≡ true
  pub extra : (a : ℕ) → v ≤ a → a < behind v p → in_extra base pieces a ≡ nat_lt a (v + 4 * extra_len p)
  pub no_site : (a : ℕ) → v ≤ a → a < behind v p → is_site sites a ≡ false
  pub text : (a : ℕ) → v ≤ a → a < behind v p → (in_text (layout_of versioned) a ≡ true) × (in_text (layout_of image) a ≡ false)
  pub code : CodeStands (setting_of versioned levels input) (loaded_byte versioned) v (piece_code image v p)
  pub even : v % 4 ≡ 0
  pub room : v + 4 * piece_len p < 2 ^ 32

-- a site
pub record IsSiteAt (image versioned : Image) (pieces : List Piece) (sites : List Site) (base levels : ℕ) (input : List ℕ) (pc : ℕ) (s : Site) : Type 0 where
  pub word : is_word_address image pc ≡ true
  pub there : origin pieces base s.to ≡ pc
  pub calls : begins (calls_at pieces base s.to) (calls_at pieces base pc) ≡ true
  pub free : is_free (ways pieces sites base) 8 pc ≡ true
  pub listed : is_site sites pc ≡ true
  pub jumps : InstrStands (setting_of versioned levels input) (loaded_byte versioned) pc (jump pc s.to)

pub record IsFrame (image versioned : Image) (pieces : List Piece) (sites : List Site) (base levels : ℕ) (input : List ℕ) : Type 0 where
  pub text : IsTextOf (text_of image) (setting_of image levels input)
  pub start_is : starting_level levels versioned.keyed_segment ≡ starting_level levels image.keyed_segment
  pub keyless : (pc : ℕ) → is_keyed (layout_of image) pc ≡ false
  pub keyless_too : (pc : ℕ) → is_keyed (layout_of versioned) pc ≡ false
  pub alike : (pc : ℕ) → SeeAlike (layout_of image) (layout_of versioned) (hidden versioned) pc
  pub same_text : (a : ℕ) → list_any (is_in a) image.text ≡ true → in_text (layout_of versioned) a ≡ true
  pub fetched_too : (pc : ℕ) → is_word_address image pc ≡ true → can_fetch (layout_of versioned) pc ≡ true
  pub unfetched : (pc : ℕ) → in_block image versioned pieces sites base pc ≡ false → can_fetch (layout_of image) pc ≡ false → can_fetch (layout_of versioned) pc ≡ false
  pub plain : (pc : ℕ) → is_word_address image pc ≡ true → site_at sites pc ≡ None → word_at (loaded_byte versioned) pc ≡ word_at (loaded_byte image) pc
  pub off_text : (pc : ℕ) → is_word_address image pc ≡ true → in_block image versioned pieces sites base pc ≡ false
  pub no_piece : (v : ℕ) → in_block image versioned pieces sites base v ≡ false → (piece_at base pieces v ≡ None) × (in_extra base pieces v ≡ false)
  pub pieces_at : (v : ℕ) (p : Piece) → piece_at base pieces v ≡ Some p → IsPieceAt image versioned pieces sites base levels input v p
  pub sites_at : (pc : ℕ) (s : Site) → site_at sites pc ≡ Some s → IsSiteAt image versioned pieces sites base levels input pc s
  pub no_site : (pc : ℕ) → site_at sites pc ≡ None → is_site sites pc ≡ false
  pub outside : (a : ℕ) → hidden versioned a ≡ false → loaded_byte versioned a ≡ loaded_byte image a
  pub entry : versioned.entry ≡ image.entry
  pub entry_in : is_word_address image image.entry ≡ true
  pub bytes : AreBytes (loaded_byte image)
