-- `row_rate` gives the outer one of the outermost so far and of the allowed change by a band's row over a box: the row bounded, then
-- the change. Assumes nothing.
use Rattle.std.proofs.Common.{rules, arith, ◌≡◌, ◌∙◌, ap, sym, subst, true, false, ℕ, ◌+◌, ◌*◌, ◌≤◌, List, ℤ, pos, FitsSigned, w32}
use mir.Facts.{to_z-of_z}
use Rattle.integers.proofs.Z.{from32, fits64}
use Rattle.sheet_spec.specs.Limits.{max_divisor}
use Rattle.sheet_spec.specs.Valid.{Between}
use Rattle.sheet_spec.specs.Slots.{◌!◌, first_row, row_size, slots, vars, cap, cap_slot, Row, row_at}
use Rattle.machine_spec.specs.Machine.{machine, row_of, change}
use Rattle.machine_spec.specs.Rate.{bound, offered_over, outer}
use Rattle.machine_spec.proofs.Facts.{cap_near}
use Rattle.boxes_rates.specs.Limits.{BandAsked}
use Rattle.boxes_rates.specs.declared.Plant.{Plant}
use Rattle.boxes_rates.proofs.rate.row_rate.Goals as goal

-- the slot of the row
place : {p : Plant} {v B : List ℤ} {i at : ℕ} {z : ℤ} → BandAsked p v B i at z → at + first_row + i * row_size + row_size ≤ slots
place asked = let sheet = asked.plant.sheet in omega (arith, sheet.vars_high, sheet.bands_high, asked.var, asked.slot.among, asked.slot.place)

pub further-requires : goal.further-requires
further-requires c =
    let v = c.args.sheet.now in
    let i = c.args.i in
    let band = c.requires.band_asked.0 in
    let near = c.bound-number.ensures.near in
    let read : FitsSigned w32 (v ! cap_slot i) = search rules in
    let row_is : row_at v (c.args.band + first_row + i * row_size) ≡ row_of (machine v c.args.plant.law) band.slot.band i =
    ap (λ (j : ℕ). row_at v (j + first_row + i * row_size)) band.slot.place in
    record {
      place = place band;
      divisor = subst (λ (r : Row). Between (pos 1) (pos max_divisor) r.q) (sym row_is) (band.plant.sheet.rows band.slot.band i band.slot.among band.var).q;
      number = rw (to_z-of_z (fits64 near tt)) near;
      capped = simp (from32 read, to_z-of_z, c.ranges.outermost) (record { small = cap_near band.plant.sheet i band.var; between = band.between });
    }

pub returns-clause-row_rated : goal.returns-clause-row_rated
returns-clause-row_rated c =
    let a = c.args in
    let v = a.sheet.now in
    let M = machine v a.plant.law in
    let B = a.over.now in
    let read : FitsSigned w32 (v ! cap_slot a.i) = search rules in
    let term = c.command_term-term.ensures.command_term in
    let bounded = c.bound-number.ensures in
    let at = a.band + first_row + a.i * row_size in
    record {
      same = λ k p.
          let least = offered_over false M k B in
          let greatest = offered_over true M k B in
          let row_is : row_at v at ≡ row_of M k a.i = ap (λ (j : ℕ). row_at v (j + first_row + a.i * row_size)) p in
          let number_is =
          bounded.same least greatest (to_z-of_z (fits64 term.near tt) ∙ term.same k p)
          ∙ ap (λ (n : ℕ). bound a.up n (row_at v at) B least greatest) c.requires.band_asked.1.n_is in
          (c.further.ensures.0
          ∙ rw (to_z-of_z (fits64 bounded.near tt), number_is) (simp (from32 read, to_z-of_z, c.ranges.outermost)
          (ap (λ (r : Row). outer a.up a.outermost (change a.up (cap v a.i) r (bound a.up (vars v) r B least greatest))) row_is)));
      limit = λ e. c.further.ensures.1 e ∙ simp (from32 read);
    }
