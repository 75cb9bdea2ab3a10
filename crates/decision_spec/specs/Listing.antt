-- The floor listing (document 01): the program's whole output, as bytes, from the bytes of the two files.
use Rattle.std.specs.Prelude.{true, false, List, [], ◌∷◌, ◌++◌, ℕ, zero, suc, ◌+◌, ◌/◌, ◌%◌, ltb, eqb, length, take, drop}
use Rattle.sheet_spec.specs.Slots.{vars}
use Rattle.sheet_spec.specs.Sheet.{values}
use Rattle.decision_spec.specs.Question.{next_length}
use Rattle.decision_spec.specs.Decision.{Verdict, keep, finest, spent, Reply, refused, answered, decide, check_recovery, is_keep}

-- ---- fields

-- the decimal digits of x before `after`
unfoldable pub digits_to : ℕ → ℕ → List ℕ → List ℕ
digits_to zero x after = after
digits_to (suc fuel) x after = elim (ltb x 10) [ true ↦ (48 + x) ∷ after | false ↦ digits_to fuel (x / 10) ((48 + x % 10) ∷ after) ]

unfoldable pub digits : ℕ → List ℕ
digits x = digits_to (suc x) x []

abbrev pub space : ℕ
space = 32

abbrev pub newline : ℕ
newline = 10

-- two fields with one space between
infixr 60 ◌␣◌
abbrev pub ◌␣◌ : List ℕ → List ℕ → List ℕ
a ␣ b = a ++ (space ∷ b)

-- `sheet`, `pass`, `fail`, `refused`, `keep`, `over finest`, `over spent`
abbrev pub sheet_word : List ℕ
sheet_word = 115 ∷ 104 ∷ 101 ∷ 101 ∷ 116 ∷ []

abbrev pub pass_word : List ℕ
pass_word = 112 ∷ 97 ∷ 115 ∷ 115 ∷ []

abbrev pub fail_word : List ℕ
fail_word = 102 ∷ 97 ∷ 105 ∷ 108 ∷ []

abbrev pub refused_word : List ℕ
refused_word = 114 ∷ 101 ∷ 102 ∷ 117 ∷ 115 ∷ 101 ∷ 100 ∷ []

abbrev pub keep_word : List ℕ
keep_word = 107 ∷ 101 ∷ 101 ∷ 112 ∷ []

abbrev pub finest_word : List ℕ
finest_word = 111 ∷ 118 ∷ 101 ∷ 114 ∷ space ∷ 102 ∷ 105 ∷ 110 ∷ 101 ∷ 115 ∷ 116 ∷ []

abbrev pub spent_word : List ℕ
spent_word = 111 ∷ 118 ∷ 101 ∷ 114 ∷ space ∷ 115 ∷ 112 ∷ 101 ∷ 110 ∷ 116 ∷ []

-- ---- lines

unfoldable pub check_word : Verdict → List ℕ
check_word keep = pass_word
check_word finest = fail_word
check_word spent = fail_word

unfoldable pub decision_word : Verdict → List ℕ
decision_word keep = keep_word
decision_word finest = finest_word
decision_word spent = spent_word

-- the verdict's word, width and rounds; or `refused` and the number
unfoldable pub reply_text : (Verdict → List ℕ) → Reply → List ℕ
reply_text word (refused r) = refused_word ␣ digits r
reply_text word (answered v w c) = word v ␣ digits w ␣ digits c

unfoldable pub sheet_line : List ℕ → List ℕ
sheet_line f = (sheet_word ␣ reply_text check_word (check_recovery f)) ++ (newline ∷ [])

-- the line of the question g, which is number i
unfoldable pub question_line : List ℕ → ℕ → List ℕ → List ℕ
question_line f i g = (digits i ␣ reply_text decision_word (decide f g)) ++ (newline ∷ [])

-- the lines of the questions in g, from number i on; a short tail is a question too, and so is what starts with an unknown mark. The fuel
-- is not used up if it is at least the length of g
unfoldable pub question_lines : List ℕ → ℕ → ℕ → List ℕ → List ℕ
question_lines f zero i g = []
question_lines f (suc fuel) i g =
    elim (eqb (length g) 0) [
      | true ↦ []
      | false ↦ question_line f i (take (next_length (vars (values f)) g) g) ++ question_lines f fuel (suc i) (drop (next_length (vars (values f)) g) g)
    ]

-- the questions follow only after pass
unfoldable pub listing : List ℕ → List ℕ → List ℕ
listing f g = sheet_line f ++ (elim (is_keep (check_recovery f)) [ true ↦ question_lines f (length g) 1 g | false ↦ [] ])
