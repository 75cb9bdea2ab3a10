-- Why a call is refused, by number (document 01, "Refused calls", and the papers of document 02), and which of several refusals comes first.
use Rattle.std.specs.Prelude.{Bool, true, false, List, [], ◌∷◌, ℕ, zero, suc}
use Rattle.std.specs.declared.result.Result.{Result}
use Rattle.std.specs.declared.result.Result.TheVariants.{Ok, Err}
use Rattle.sheet_spec.specs.declared.refusals.Refusal.{Refusal}
use Rattle.sheet_spec.specs.declared.refusals.Refusal.TheVariants.{Head, Counts, Times, Commands, Length, Cap, Mark, Edge, Safety, Row, Side, Question, Allowance, Command, Start, Reach, Room, Missing, Reading, Order, Overlap}

pub data Cause : Type 0 where
  -- under 20 bytes, or the mark is not SH
  head : Cause
  -- n, a count or the band variable
  counts : Cause
  -- δ, α or ρ
  times : Cause
  -- the head's commands
  commands : Cause
  -- the file's length
  length : Cause
  -- a cap
  cap : Cause
  -- a later record's mark
  mark : Cause
  -- a band's edge
  edge : Cause
  -- a band's safety range
  safety : Cause
  -- a number of a row
  row : Cause
  -- a side of a no-go box or of the recovery box
  side : Cause
  -- a question's length or mark
  question : Cause
  -- a question's allowance
  allowance : Cause
  -- a command outside the head's
  command : Cause
  -- a side of a measured or a start box
  start : Cause
  -- the ticks or the width of a reach
  reach : Cause
  -- too little room in the buffer
  room : Cause
  -- a no-go box that is not greater than the one before (document 02, paper 2)
  order : Cause
  -- the recovery box shares a state with a no-go box (document 02, paper 8)
  overlap : Cause

abbrev pub number : Cause → ℕ
number head = 1
number counts = 2
number times = 3
number commands = 4
number length = 5
number cap = 6
number mark = 7
number edge = 8
number safety = 9
number row = 10
number side = 11
number question = 12
number allowance = 13
number command = 14
number start = 15
number reach = 16
number room = 17
number order = 20
number overlap = 22

-- no cause has a greater number
abbrev pub greatest_number : ℕ
greatest_number = number overlap

-- 0 where the test passed, else the number of the cause
abbrev pub refuse_unless : Bool → Cause → ℕ
refuse_unless true c = 0
refuse_unless false c = number c

-- what `refuse` makes of the refusal r or, if there is none, go on
unfoldable pub unless_refused : {A : Type 0} → ℕ → (ℕ → A) → A → A
unless_refused zero refuse go = go
unless_refused (suc r) refuse go = refuse (suc r)

-- the first refusal of a list of tests, each 0 where it passed; 0 where all did
unfoldable pub first_of : List ℕ → ℕ
first_of [] = 0
first_of (r ∷ rs) = unless_refused r (λ c. c) (first_of rs)

-- the first of h 0, .. h (k - 1) that is not 0, or 0
unfoldable pub first_refusal : (ℕ → ℕ) → ℕ → ℕ
first_refusal h zero = 0
first_refusal h (suc k) = unless_refused (first_refusal h k) (λ c. c) (h k)

-- ---- what the code answers

-- the number of a refusal; readings have the causes Missing and Reading (readings_spec/specs/Causes)
abbrev pub refusal_number : Refusal → ℕ
refusal_number Head = number head
refusal_number Counts = number counts
refusal_number Times = number times
refusal_number Commands = number commands
refusal_number Length = number length
refusal_number Cap = number cap
refusal_number Mark = number mark
refusal_number Edge = number edge
refusal_number Safety = number safety
refusal_number Row = number row
refusal_number Side = number side
refusal_number Question = number question
refusal_number Allowance = number allowance
refusal_number Command = number command
refusal_number Start = number start
refusal_number Reach = number reach
refusal_number Room = number room
refusal_number Missing = 18
refusal_number Reading = 19
refusal_number Order = number order
refusal_number Overlap = number overlap

-- 0 where a call is not refused, else the number of its refusal
abbrev pub refusal_of : {A : Type 0} → Result A Refusal → ℕ
refusal_of (Ok a) = 0
refusal_of (Err r) = refusal_number r
