-- Scaffold: states of runs over a text: no step changes the text, and what is known of x17 holds.
use Rattle.std.specs.Prelude.{◌≡◌, ℕ, ◌%◌, ◌≤◌, true, false, length, All, Some}
use Rattle.scale_base.specs.declared.ranges.Range.{Range}
use Rattle.scale_base.specs.Image.{PLAIN_END}
use Rattle.scale_base.specs.Layout.{in_stack}
use Rattle.scale_base.specs.State.{Setting, State, reg}
use Rattle.code_text.specs.Text.{Text, is_text_address, known_within}

-- whole words, below the addresses that a program may not use
abbrev pub IsTextRange : Range → Type 0
IsTextRange r = (r.from % 4 ≡ 0) × (r.to % 4 ≡ 0) × (r.to ≤ PLAIN_END)

-- the text is that of the machine's layout, and no address of it lies in the stack
pub record IsTextOf (t : Text) (env : Setting) : Type 0 where
  pub ranges : t.ranges ≡ env.layout.text
  pub each : All IsTextRange t.ranges
  pub no_stack : (a : ℕ) → is_text_address t a ≡ true → in_stack a ≡ false

-- A state of a run over the text: the registers are x0 to x31, x0 is 0, the bytes of the text are as they were loaded, and x17 holds the
-- number that is known at pc, if any is.
pub record IsOverText (t : Text) (s : State) : Type 0 where
  pub zero : reg s.regs 0 ≡ 0
  pub size : length s.regs ≡ 32
  pub text : (a : ℕ) → is_text_address t a ≡ true → s.bytes a ≡ t.bytes a
  pub known : (n k : ℕ) → known_within t n s.pc ≡ Some k → reg s.regs 17 ≡ k
