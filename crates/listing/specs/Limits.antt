-- How much of the two files has to be at hand.
use Rattle.std.specs.Prelude.{ℕ, ◌+◌, ◌*◌, Some}
use Rattle.sheet_spec.specs.Slots.{N}
use Rattle.sheet_spec.specs.Limits.{max_bands, max_boxes}
use Rattle.sheet_spec.specs.Sizes.{letters, caps_at, cap_bytes, band_head, law_bytes, row_bytes, box_bytes}
use Rattle.sheet_spec.specs.declared.BandKind.TheVariants.{Feedback}
use Rattle.decision_spec.specs.declared.QuestionKind.TheVariants.{Ranged}
use Rattle.decision_spec.specs.Question.{question_length}

-- the bytes of the longest sheet, one whose bands have a law. A longer file has the listing of its first bytes, if these are more (proofs/LongFile)
abbrev pub longest_sheet : ℕ
longest_sheet = caps_at + cap_bytes N + max_bands * (band_head + law_bytes Feedback N + N * row_bytes N) + (letters + box_bytes N) * (max_boxes + 1)

-- the bytes of the longest question, one with a span. A question's step looks at no more of the bytes still to come (proofs/ListingSteps)
abbrev pub longest_question : ℕ
longest_question = question_length (Some Ranged) N
