-- `put_reached` answers and writes what the definitions say of a reach's answer. Assumes nothing.
use Rattle.std.proofs.Common.{◌≡◌, ◌*◌, List, [], ◌∷◌, ◌++◌, refl, ap, ◌∙◌, arith}
use Rattle.std.proofs.lemmas.List.Edits.{sets}
use Rattle.std.specs.declared.result.Result.TheVariants.{Ok}
use lib.IntN.{ℤ}
use Rattle.sheet_spec.specs.Sizes.{box_bytes}
use Rattle.sheet_spec.specs.Refusals.{refusal_number}
use Rattle.sheet_spec.specs.declared.refusals.Refusal.{Refusal}
use Rattle.sheet_spec.proofs.Laws as laws
use Rattle.sheet_spec.proofs.FirstRefusal.{found_none, first_fails, last_found}
use Rattle.boxes.specs.ReachAnswer.{answer_of}
use Rattle.decision_spec.specs.Call.{refused_call}
use Rattle.decision_spec.specs.Numbers.{number_bytes, sides_of}
use Rattle.decision_spec.specs.ReachCall.{reached_refusal, reached_call, reached_out}
use Rattle.decision_spec.proofs.Calls.{room_short, room_enough}
use Rattle.guard_reach.proofs.ReachAnswer.{boxes_bytes, refused_value, refused_after}
use Rattle.guard_reach.proofs.put_reached.Goals as goal

-- there is no room
short : (c : goal.Then-out-n) → refusal_number Refusal.Room ≡ reached_refusal c.args.n (answer_of (Ok c.args.reached)) c.args.out.now
unfolding reached_refusal
short c = first_fails (room_short (2 * box_bytes c.args.n) c.args.out.now (omega (arith, c.if-out-n.true))) (0 ∷ []) [] (refl, tt) (laws.refused Refusal.Room)

pub returns-then-out-n-clause-value : goal.returns-then-out-n-clause-value
returns-then-out-n-clause-value c = refused_value _ _ _ Refusal.Room (short c)

pub returns-then-out-n-clause-out_after : goal.returns-then-out-n-clause-out_after
returns-then-out-n-clause-out_after c = refused_after _ _ _ Refusal.Room (short c)

-- the reach is answered
pub returns-clause-value : goal.returns-clause-value
unfolding reached_refusal reached_call
returns-clause-value c =
    let enough = room_enough (2 * box_bytes c.args.n) c.args.out.now (omega (arith, c.if-out-n.false)) in
    found_none refused_call _ (last_found enough (0 ∷ []) (refl, tt)) refl

pub returns-clause-out_after : goal.returns-clause-out_after
unfolding reached_refusal reached_out
returns-clause-out_after c =
    let n = c.args.n in
    let out = c.args.out.now in
    let a = c.args.reached in
    let enough = room_enough (2 * box_bytes n) out (omega (arith, c.if-out-n.false)) in
    let written : c.put_numbers.new.out ≡ sets out 0 (number_bytes (sides_of n a.end ++ sides_of n a.swept) (4 * n)) =
    c.put_numbers.ensures
    ∙ ap (λ (v : List ℤ). sets out 0 (number_bytes v (4 * n))) (c.put_sides-2.ensures ∙ ap (λ (v : List ℤ). sets v (2 * n) (sides_of n a.swept)) c.put_sides.ensures)
    ∙ ap (sets out 0) (boxes_bytes _ n a.end a.swept (omega (arith, c.requires.0))) in
    written ∙ found_none (λ r. out) _ (last_found enough (0 ∷ []) (refl, tt)) refl
