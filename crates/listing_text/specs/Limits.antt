-- Text in a line's buffer, and how much room it takes.
use Rattle.std.specs.Prelude.{◌≡◌, List, ℕ, ◌+◌, ◌*◌, length}
use Rattle.std.proofs.lemmas.List.Edits.{sets}

-- `text` was put into a buffer from the place `at` on and ends before `end`; the other bytes are as they were
pub record Put (text before : List ℕ) (at : ℕ) (after : List ℕ) (end : ℕ) : Type 0 where
  pub ends : end ≡ at + length text
  pub is : after ≡ sets before at text

-- a number below 2^64 has at most 20 digits
abbrev pub number_room : ℕ
number_room = 20

-- the longest word is `over finest`
abbrev pub word_room : ℕ
word_room = 11

-- a word and two numbers, each after a space
abbrev pub reply_room : ℕ
reply_room = word_room + 2 * (1 + number_room)

-- an ordinal, a space, a reply and a newline
abbrev pub line_room : ℕ
line_room = number_room + 1 + reply_room + 1
