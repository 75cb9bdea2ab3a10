-- `round` settles as the definition does, and leaves the rates and the next working box. A step of one tick settles in its first
-- round, so nothing is tested then. Assumes nothing.
use Rattle.std.proofs.Common.{◌≡◌, sym, ap, ◌∙◌, true, List, ℕ, ◌≤◌, nat_eq, ℤ, arith}
use Rattle.sheet_spec.specs.Limits.{max_cap, max_edge}
use Rattle.sheet_spec.specs.Slots.{N, vars}
use Rattle.sheet_spec.proofs.Box.{differ}
use Rattle.machine_spec.specs.Box.{Near}
use Rattle.machine_spec.specs.Machine.{machine}
use Rattle.machine_spec.specs.Rate.{rates}
use Rattle.machine_spec.proofs.InPlace.{trim_as, trimmed_by}
use Rattle.machine_spec.proofs.Facts as facts
use Rattle.machine_spec.proofs.Inside.{within_inside}
use Rattle.machine_spec.proofs.Ranges.{near_less, near_as, near_by, near_part, rates_near}
use Rattle.boxes_rates.specs.declared.Plant.{Plant}
use Rattle.boxes_step.specs.Limits.{RoundAsked}
use Rattle.boxes_step.proofs.Turn.{settles_first, settles_is, grown_is, grown_trimmed}
use Rattle.boxes_step.proofs.round.Goals as goal

module _ {p : Plant} {v S : List ℤ} {k : ℕ} {E : List ℤ} (asked : RoundAsked p v S k E) where
  -- there is room for the variables
  room : vars v ≤ N
  room = facts.room asked.plant.sheet

  -- the start box, as the working box holds it
  start_near : Near (vars v) max_edge S
  start_near = near_part asked.start (within_inside S E asked.holds) asked.work

  -- the rates
  slow : {R : List ℤ} → R ≡ rates (machine v p.law) S k E → Near (vars v) max_cap R
  slow rated = near_as rated (rates_near asked.plant.sheet p.law S k E)

pub grow-requires : goal.grow-requires
grow-requires c =
    let asked = c.requires in
    let n = sym asked.plant.n in (
      record {
        room = omega (arith, asked.plant.n, room asked);
        ticks = omega (arith, asked.some, asked.most);
        start = near_by n (near_less (omega arith) (start_near asked));
        rates = near_by n (slow asked c.rates.ensures.face_rates_after);
      },
      trimmed_by n (trim_as (vars c.args.sheet.now) c.rates.ensures.work_unchanged asked.trimmed),
    )

-- one tick
pub returns-then-ticks-eq1 : goal.returns-then-ticks-eq1
returns-then-ticks-eq1 c =
    let asked = c.requires in
    let one = c.if-ticks-eq1.true in
    let yes : nat_eq c.args.ticks 1 ≡ true = ap (λ (j : ℕ). nat_eq j 1) one in
    record {
      settled = yes ∙ sym (settles_first (machine c.args.sheet.now c.args.plant.law) c.args.start.now c.args.ticks (room asked) one (asked.first one));
      rated = c.rates.ensures.face_rates_after;
      grew = λ no. absurd (differ yes no);
      trimmed = trim_as (vars c.args.sheet.now) c.rates.ensures.work_unchanged asked.trimmed;
    }

pub returns-else-ticks-eq1 : goal.returns-else-ticks-eq1
returns-else-ticks-eq1 c =
    let asked = c.requires in
    let M = machine c.args.sheet.now c.args.plant.law in
    let S = c.args.start.now in
    let k = c.args.ticks in
    let E = c.args.work.now in
    let rated = c.rates.ensures.face_rates_after in
    let same_work = c.rates.ensures.work_unchanged in
    record {
      settled = settles_is M S k E asked.plant.n rated same_work c.grow.ensures.value;
      rated = rated;
      grew = λ no. grown_is M S k E asked.plant.n rated same_work c.grow.ensures.work_after;
      trimmed = grown_trimmed M S k E asked.plant.n rated same_work (room asked) c.grow.ensures.work_after;
    }
