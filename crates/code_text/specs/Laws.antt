-- Scaffold: the laws of the words of a text, as statements for the contracts of functions.
use Rattle.std.specs.Prelude.{◌≡◌, ◌↔◌, ℕ, ◌≤◌, List, Some, Ok, option_and_then}
use Rattle.scale_base.specs.Image.{Image, image_of, text_word}
use Rattle.scale_base.specs.Reading.{instr_of}
use Rattle.code_text.specs.Text.{Text, text_of, instr_at, known, IsPutBefore, AreApart, word_kind, kind_at}

-- The number that is known of x17 at an address is that of the nearest `addi` before it, at most 16 words away.
abbrev pub KnownNumbersArePut : Type 0
KnownNumbersArePut = (t : Text) → AreApart t.ranges → (v k : ℕ) → (known t v ≡ Some k) ↔
    ((m : ℕ) × (1 ≤ m) × (m ≤ 16) × IsPutBefore t v m k)

-- What a word of the text says of the way on is said by the word that is read from the file; where none is read, it is refused.
abbrev pub KindsAreOfStoredWords : Type 0
KindsAreOfStoredWords = (file : List ℕ) (image : Image) (at : ℕ) → image_of file ≡ Ok image →
    kind_at (text_of image) at ≡ word_kind (text_of image) at (option_and_then instr_of (text_word image at))

-- The instruction at an address of the text is that of the word that is read from the file.
abbrev pub InstructionsAreOfStoredWords : Type 0
InstructionsAreOfStoredWords = (file : List ℕ) (image : Image) (at w : ℕ) → image_of file ≡ Ok image → text_word image at ≡ Some w →
    instr_at (text_of image) at ≡ instr_of w

-- The known numbers of an image, whose ranges share no address.
abbrev pub ImageNumbersArePut : Type 0
ImageNumbersArePut = (file : List ℕ) (image : Image) (v k : ℕ) → image_of file ≡ Ok image →
    (known (text_of image) v ≡ Some k) ↔ ((m : ℕ) × (1 ≤ m) × (m ≤ 16) × IsPutBefore (text_of image) v m k)
