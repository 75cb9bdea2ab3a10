-- One name that opens every definition of this crate and of those below, where an example is computed. Assumes nothing.
use Prim.Native.Nat.{ℕ}
use Rattle.sheet_spec.proofs.Everything as sheet
use Rattle.boxes_spec.proofs.Everything as boxes
use Rattle.decision_spec.specs.Question.{kind_of, next_length, allowance_of, least_of, greatest_of, pairs, measured, form_refusal, allowance_refusal, head_refusal, question_refusal}
use Rattle.decision_spec.specs.Decision.{ticks_of, finish, follow, attempt, with_next, attempts, with_failure, failures, conclusion, last_reply, decision_phases, decision_of, recovery_phases, recovery_of, check_recovery, decide, code_of, width_of, rounds_of, packed, is_keep}
use Rattle.decision_spec.specs.Spent.{is_spent}
use Rattle.decision_spec.specs.Listing.{digits_to, digits, check_word, decision_word, reply_text, sheet_line, question_line, question_lines, listing}

unfoldable pub everything : ℕ
unfolding sheet.everything boxes.everything kind_of next_length allowance_of least_of greatest_of pairs measured form_refusal allowance_refusal head_refusal question_refusal ticks_of finish follow attempt with_next attempts with_failure failures conclusion last_reply decision_phases decision_of recovery_phases recovery_of check_recovery decide code_of width_of rounds_of packed is_keep is_spent digits_to digits check_word decision_word reply_text sheet_line question_line question_lines listing
everything = 0
