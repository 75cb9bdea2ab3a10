-- One name that opens every definition of this crate and of those below, where an example is computed. Assumes nothing.
use Prim.Native.Nat.{ℕ}
use Rattle.sheet_spec.proofs.Everything as layout
use Rattle.machine_spec.proofs.Everything as machine
use Rattle.boxes_spec.specs.Step.{lifted, settles, end_box, grown, and_then, retry, is_exhausted, rounds, halving, step, swept}
use Rattle.boxes_spec.specs.Reach.{tested_step, steps, reach, law_refusal, sides_refusal, ticks_refusal, reach_refusal, answer, reach_of, reach_file}

unfoldable pub everything : ℕ
unfolding layout.everything machine.everything lifted settles end_box grown and_then retry is_exhausted rounds halving step swept tested_step steps reach law_refusal sides_refusal ticks_refusal reach_refusal answer reach_of reach_file
everything = 0
