-- `first_band` finds the first band that has a number from `low` on. Assumes nothing.
use Rattle.std.proofs.Common.{rules, arith, ◌∙◌, refl, sym, ◌+◌, ◌<◌, ◌≤◌, ◌≤ℤ◌}
use mathlib.Core.Logic.{⊎_elim}
use native.Mathlib.Nat.{eq-or-lt_of_le}
use mir.Facts.{to_z-of_z}
use Rattle.sheet_spec.specs.Slots.{band_size, bands, edge, slots}
use Rattle.boxes_rates.proofs.Parts.{starts_yes, starts_no}
use Rattle.boxes_rates.proofs.rate.first_band.Goals as goal

pub loop-at-init : goal.loop-at-init
loop-at-init c = record { band = 0; place = refl; among = omega (arith, c.requires.0.bands_low); before = λ k h. absurd (omega arith) }

-- the next band starts at or below `low`
starts : (c : goal.In-loop-at) → (c.loop-at.invariant.band + 1 < bands c.args.sheet.now) × (edge c.args.sheet.now (c.loop-at.invariant.band + 1) ≤ℤ c.args.low)
starts c =
    starts_yes c.args.sheet.now _ _ _ c.loop-at.invariant.place c.requires.1
    (sym (rw (to_z-of_z c.ranges.low) at c.next_starts_by.ensures) ∙ c.loop-at-test.true)

pub overflow_add-at : goal.overflow_add-at
overflow_add-at c =
    let near : c.loop-at.at + band_size ≤ slots = omega (arith, c.loop-at.invariant.place, c.loop-at.invariant.among, c.requires.0.bands_high) in
    search rules

pub loop-at-smaller : goal.loop-at-smaller
loop-at-smaller c = omega (arith, (starts c).0, c.loop-at.invariant.place, c.requires.1)

pub loop-at-preserved : goal.loop-at-preserved
loop-at-preserved c =
    let inv = c.loop-at.invariant in
    rw (to_z-of_z c.ranges.low) (record {
      band = inv.band + 1;
      place = omega (arith, inv.place);
      among = (starts c).0;
      before = λ k h. ⊎_elim (λ e. rw e (starts c).1) (λ g. rw (to_z-of_z c.ranges.low) at (inv.before k g)) (eq-or-lt_of_le (omega arith));
    })

pub returns : goal.returns
returns c =
    let inv = c.loop-at.invariant in
    let low_is = to_z-of_z c.ranges.low in
    record {
      from = rw low_is at inv;
      next = starts_no c.args.sheet.now _ _ _ inv.place c.requires.1 (sym (rw low_is at c.next_starts_by.ensures) ∙ c.loop-at-test.false);
    }
