-- Layouts without a keyed address: what they permit.
use Rattle.std.proofs.Common.{◌≡◌, ℕ, Bool, false, None, inl, inr, ap, sym, ◌∙◌, refl}
use Rattle.std.specs.Prelude.{◌||◌, ◌&&◌, ◌==◌, nat_le, nat_lt}
use Rattle.std.proofs.Math.Path.{fun_ext}
use Rattle.std.proofs.lemmas.Bool.{and_left, and_right, cases_lt, lt-leb, le-ltb}
use Rattle.scale_base.specs.Layout.{Layout, in_option, is_keyed, in_window, may_read, may_write, may_fetch, reads_byte, fetches_byte, uses_window}
use Rattle.machine_laws.specs.Keys.{with_empty_key}

-- two layouts that permit the same, and have no keyed address
pub record Alike (k l : Layout) : Type 0 where
  pub reads : (pc : ℕ) → reads_byte l pc ≡ reads_byte k pc
  pub writes : may_write l ≡ may_write k
  pub fetches : fetches_byte l ≡ fetches_byte k
  pub left : (at : ℕ) → is_keyed k at ≡ false
  pub right : (at : ℕ) → is_keyed l at ≡ false

-- no address lies in a keyed segment that is missing, and none in one of no bytes
pub no_key : (l : Layout) (at : ℕ) → l.keyed ≡ None → is_keyed l at ≡ false
no_key l at none = ap (in_option at) none

pub empty_key : (l : Layout) (base at : ℕ) → is_keyed (with_empty_key l base) at ≡ false
empty_key l base at =
    elim (cases_lt at base) [
      | inl below ↦ and_left (nat_le base at) (nat_lt at base) (lt-leb base at below)
      | inr above ↦ and_right (nat_le base at) (nat_lt at base) (le-ltb at base above)
    ]

keyed_same : (l : Layout) (base : ℕ) → l.keyed ≡ None → is_keyed (with_empty_key l base) ≡ is_keyed l
keyed_same l base none = fun_ext (λ at. empty_key l base at ∙ sym (no_key l at none))

reads_same : (l : Layout) (base pc : ℕ) → l.keyed ≡ None → reads_byte (with_empty_key l base) pc ≡ reads_byte l pc
unfolding may_read
reads_same l base pc none =
    ap (λ (keyed : ℕ → Bool). λ (at : ℕ). may_read l at || (keyed pc && keyed at)) (keyed_same l base none)

writes_same : (l : Layout) (base : ℕ) → may_write (with_empty_key l base) ≡ may_write l
unfolding may_write
writes_same l base = refl

fetches_same : (l : Layout) (base : ℕ) → l.keyed ≡ None → fetches_byte (with_empty_key l base) ≡ fetches_byte l
unfolding may_fetch
fetches_same l base none = ap (λ (keyed : ℕ → Bool). λ (at : ℕ). may_fetch l at || keyed at) (keyed_same l base none)

pub alike : (l : Layout) (base : ℕ) → l.keyed ≡ None → Alike l (with_empty_key l base)
alike l base none = record {
  reads = λ pc. reads_same l base pc none;
  writes = writes_same l base;
  fetches = fetches_same l base none;
  left = λ at. no_key l at none;
  right = empty_key l base;
}

-- an instruction without the key sees no window
pub no_window : (l : Layout) (pc at width : ℕ) → is_keyed l pc ≡ false → uses_window l pc at width ≡ false
no_window l pc at width e = ap (λ keyed. keyed && (width == 4) && in_window at) e
