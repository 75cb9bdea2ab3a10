-- `reach_of` answers what the definition does of an accepted sheet's value. Assumes nothing.
use Rattle.std.proofs.Common.{◌≤◌, arith}
use Rattle.sheet_spec.specs.Slots.{N}
use Rattle.machine_spec.proofs.InPlace.{trim_trim, trim_as, trimmed_by}
use Rattle.machine_spec.proofs.Facts as facts
use Rattle.machine_spec.proofs.Ranges.{sized_less}
use Rattle.boxes.proofs.Answer.{law_allowed, reachable, reach_ended, reach_ends}
use Rattle.boxes.proofs.reach_of.Goals as goal

pub plant-p-requires : goal.plant-p-requires
plant-p-requires c = (c.requires, law_allowed c.requires (record { is = c.in_ok-reach_refusal.ensures }))

pub reach-r-requires : goal.reach-r-requires
reach-r-requires c =
    let described = c.plant-p.ensures.1 in
    let accepted = reachable c.requires (record { is = c.in_ok-reach_refusal.ensures }) c.plant-p.ensures.0 described.n c.trim-end.ensures in
    let room : c.plant-p.result.n ≤ N = omega (arith, described.n, facts.room c.requires) in
    record {
      plan = record { plant = described; boxes = omega arith; some = accepted.some; most = accepted.most };
      ticks = accepted.ticks;
      counts = omega (arith, accepted.ticks, accepted.most);
      start = sized_less (omega (arith, accepted.ticks)) accepted.start;
      trimmed = trimmed_by described.n (trim_as _ c.trim-end.ensures (trim_trim _ room c.args.start.now));
    }

pub unreachable-requires : goal.unreachable-requires
unreachable-requires c = reach_ends c.requires (record { is = c.in_ok-reach_refusal.ensures }) c.plant-p.ensures.0 c.plant-p.ensures.1.n c.trim-end.ensures _ _ _ c.reach-r.ensures.same _ c.in_default.is

pub returns : goal.returns
returns c = reach_ended c.requires (record { is = c.in_ok-reach_refusal.ensures }) c.plant-p.ensures.0 c.plant-p.ensures.1.n c.trim-end.ensures _ _ _ c.reach-r.ensures.same _ c.in-Ok.is
