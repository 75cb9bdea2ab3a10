-- `reach_rounds` answers and writes what the definitions say. Assumes nothing.
use Rattle.std.proofs.Common.{◌≡◌, ℕ, List, sym, ap, ◌∙◌, subst, arith}
use Rattle.std.specs.declared.result.Result.TheVariants.{Ok}
use Rattle.std.proofs.lemmas.Result.{err_from_is_err_and}
use lib.IntN.{ℤ}
use mir.Facts.{to_z-of_z}
use Rattle.sheet_spec.specs.Slots.{vars, vars_slot}
use Rattle.sheet_spec.specs.Sheet.{refusal, values}
use Rattle.sheet_spec.specs.Refusals.{refusal_number}
use Rattle.sheet_spec.specs.Valid.{ValidNumbers}
use Rattle.sheet_spec.proofs.Valid.{valid_numbers, zeros_are}
use Rattle.machine_spec.specs.Box.{Near}
use Rattle.machine_spec.proofs.Ranges.{near_by}
use Rattle.boxes_spec.specs.Reach.{max_reached, Answer}
use Rattle.boxes_spec.proofs.Ranges.{answer_near}
use Rattle.boxes.specs.ReachAnswer.{answer_of}
use Rattle.decision_spec.specs.ReachCall.{law_of, reached_refusal, reached_call, reached_out, reach_answer, reach_call, reach_out}
use Rattle.guard_reach.proofs.ReachAnswer.{refused_value, refused_after, reach_stops, file_refused, file_reached}
use Rattle.guard_reach.proofs.reach_rounds.Goals as goal

pub read_zeroed-requires : goal.read_zeroed-requires
read_zeroed-requires c = zeros_are

-- the sheet is refused
no_sheet : (c : goal.After-from_residual) → refusal_number c.in_err-read_zeroed.field-0.0
    ≡ reached_refusal (vars (values c.args.sheet.now)) (reach_answer c.args.sheet.now c.args.ticks c.args.width c.args.law c.args.command c.args.start.now) c.args.out.now
no_sheet c =
    let k = c.in_err-read_zeroed.field-0.0 in
    reach_stops _ _ _ k (file_refused c.args.sheet.now c.args.ticks c.args.width c.args.law c.args.command c.args.start.now k c.in_err-read_zeroed.ensures.0)

pub returns-in_err-read_zeroed-clause-value : goal.returns-in_err-read_zeroed-clause-value
unfolding reach_call
returns-in_err-read_zeroed-clause-value c =
    let p = err_from_is_err_and c.from_residual.result c.from_residual.ensures.1 in
    rw (p.1, p.2) (refused_value _ _ _ c.in_err-read_zeroed.field-0.0 (no_sheet c))

pub returns-in_err-read_zeroed-clause-out_after : goal.returns-in_err-read_zeroed-clause-out_after
unfolding reach_out
returns-in_err-read_zeroed-clause-out_after c = refused_after _ _ _ c.in_err-read_zeroed.field-0.0 (no_sheet c)

-- of an accepted sheet
accepted : (f : List ℕ) {v : List ℤ} → (0 ≡ refusal f) × (v ≡ values f) → ValidNumbers v
accepted f read = subst ValidNumbers (sym read.1) (valid_numbers f (sym read.0))

pub count-n-requires : goal.count-n-requires
count-n-requires c = (omega arith, (accepted _ c.in_ok-read_zeroed.ensures).head vars_slot (omega arith))

pub start_box-from-requires : goal.start_box-from-requires
start_box-from-requires c = omega (arith, c.count-n.ensures, (accepted _ c.in_ok-read_zeroed.ensures).vars_high)

pub reach_of-requires : goal.reach_of-requires
reach_of-requires c = accepted _ c.in_ok-read_zeroed.ensures

-- the reach is refused
no_reach : (c : goal.After-from_residual-in_err-reached) → refusal_number c.in_err-reached.field-0.0
    ≡ reached_refusal (vars (values c.args.sheet.now)) (reach_answer c.args.sheet.now c.args.ticks c.args.width c.args.law c.args.command c.args.start.now) c.args.out.now
no_reach c =
    let a = c.args in
    let read = c.in_ok-read_zeroed.ensures in
    let law = c.law_of.ensures ∙ ap (law_of a.law) (to_z-of_z c.ranges.command) in
    reach_stops _ _ _ c.in_err-reached.field-0.0
    (ap (λ (a : Answer). a.refusal)
    (file_reached a.sheet.now a.ticks a.width a.law a.command a.start.now read.0 read.1 c.count-n.ensures law c.start_box-from.ensures c.in_err-reached.ensures))

pub returns-in_err-reached-clause-value : goal.returns-in_err-reached-clause-value
unfolding reach_call
returns-in_err-reached-clause-value c =
    let p = err_from_is_err_and c.from_residual-in_err-reached.result c.from_residual-in_err-reached.ensures.1 in
    rw (p.1, p.2) (refused_value _ _ _ c.in_err-reached.field-0.0 (no_reach c))

pub returns-in_err-reached-clause-out_after : goal.returns-in_err-reached-clause-out_after
unfolding reach_out
returns-in_err-reached-clause-out_after c = refused_after _ _ _ c.in_err-reached.field-0.0 (no_reach c)

pub put_reached-requires : goal.put_reached-requires
put_reached-requires c =
    let valid = accepted _ c.in_ok-read_zeroed.ensures in
    let n = c.count-n.result in
    let same = sym c.count-n.ensures in
    let near = answer_near valid _ _ _ _ in (
      omega (arith, c.count-n.ensures, valid.vars_high),
      subst (λ (a : Answer). Near n max_reached a.end × Near n max_reached a.swept) (sym c.in_ok-reached.ensures) (near_by same near.0, near_by same near.1),
    )

-- after the reach
module _ (c : goal.After-slice_known-2-1) where
  n_is : c.count-n.result ≡ vars (values c.args.sheet.now)
  n_is = c.count-n.ensures ∙ ap vars c.in_ok-read_zeroed.ensures.1

  answer_is : answer_of (Ok c.in_ok-reached.reached) ≡ reach_answer c.args.sheet.now c.args.ticks c.args.width c.args.law c.args.command c.args.start.now
  answer_is =
      let a = c.args in
      let read = c.in_ok-read_zeroed.ensures in
      let law = c.law_of.ensures ∙ ap (law_of a.law) (to_z-of_z c.ranges.command) in
      file_reached a.sheet.now a.ticks a.width a.law a.command a.start.now read.0 read.1 c.count-n.ensures law c.start_box-from.ensures c.in_ok-reached.ensures

pub returns-clause-value : goal.returns-clause-value
unfolding reach_call
returns-clause-value c =
    let out = c.args.out.now in
    c.put_reached.ensures.value
    ∙ ap (λ (n : ℕ). reached_call n (answer_of (Ok c.in_ok-reached.reached)) out) (n_is c)
    ∙ ap (λ (a : Answer). reached_call (vars (values c.args.sheet.now)) a out) (answer_is c)

pub returns-clause-out_after : goal.returns-clause-out_after
unfolding reach_out
returns-clause-out_after c =
    let out = c.args.out.now in
    c.put_reached.ensures.out_after
    ∙ ap (λ (n : ℕ). reached_out n (answer_of (Ok c.in_ok-reached.reached)) out) (n_is c)
    ∙ ap (λ (a : Answer). reached_out (vars (values c.args.sheet.now)) a out) (answer_is c)
