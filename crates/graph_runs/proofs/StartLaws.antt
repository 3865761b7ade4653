-- The state at the start is one of a run over the text.
use Rattle.std.proofs.Common.{◌≡◌, ℕ, true, refl}
use Rattle.std.proofs.lemmas.Bool.{both_ways}
use Rattle.scale_base.specs.State.{Setting}
use Rattle.scale_base.specs.Run.{start}
use Rattle.code_text.specs.Text.{Text, is_text_address, is_target}
use Rattle.graph_runs.specs.TextStates.{IsTextOf, IsOverText}
use Rattle.graph_runs.proofs.TextFacts.{entry_is}
use Rattle.graph_runs.proofs.KnownLaws.{known_parts}

pub start_over : (t : Text) (env : Setting) → IsTextOf t env → (bytes : ℕ → ℕ) (level : ℕ) → ((a : ℕ) → is_text_address t a ≡ true → bytes a ≡ t.bytes a) → IsOverText t (start bytes t.entry level)
start_over t env ok bytes level same = record {
  zero = refl;
  size = refl;
  text = same;
  known = λ n k h. absurd (both_ways (is_target t t.entry) (known_parts t env ok n t.entry k h).0 (entry_is t));
}
