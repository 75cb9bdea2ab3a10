-- `rate` gives the outermost over all bands, each over the part of the box that lies in it, and puts the two sides that are cut back. It is
-- done where the outermost is the cap. Assumes nothing.
use Rattle.std.proofs.Common.{rules, arith, ◌≡◌, ◌∙◌, sym, ap, subst, Bool, true, false, not, ℕ, ◌+◌, ◌*◌, ◌-◌, ◌<◌, List, set, ℤ, pos, ◌+ℤ◌, ◌-ℤ◌, ◌≤ℤ◌, ◌<ℤ◌, FitsSigned, w32, w64, to_z, of_z}
use native.Mathlib.Nat.{zero-add}
use mir.Facts.{to_z-of_z}
use Rattle.integers.specs.Bound.{Bound}
use Rattle.integers.proofs.Z.{ints, sum as plus, sub, from32, bound_of, bound_sub, bound_lit, fits64}
use Rattle.sheet_spec.specs.Slots.{◌!◌, N, cap_slot, band_size, band_slot, bands, band_var, cap, edge}
use Rattle.sheet_spec.specs.Box.{lo, hi}
use Rattle.sheet_spec.specs.Limits.{max_cap}
use Rattle.machine_spec.specs.Machine.{machine, row_of, change}
use Rattle.machine_spec.specs.Rate.{outer, outermost, cut_to_band, part, row_over, neutral, band_rate, rate}
use Rattle.machine_spec.proofs.Bands.{meets_show}
use Rattle.machine_spec.proofs.Facts.{cap_low, cap_near}
use Rattle.machine_spec.proofs.Part.{high_stays, high_cut, part_within, part_ordered}
use Rattle.machine_spec.proofs.Ranges.{sized_less, sized_as, sized_part, above_first}
use Rattle.machine_spec.proofs.Sound.{outermost_between}
use Rattle.boxes_arithmetic.specs.declared.Outermost.{Outermost}
use Rattle.boxes_arithmetic.specs.Limits.{word}
use Rattle.boxes_rates.specs.declared.Plant.{Plant}
use Rattle.boxes_rates.specs.Limits.{BandAsked, RowRated, RateAsked}
use Rattle.boxes_rates.specs.Plant.{FirstBand, next_starts_by}
use Rattle.boxes_rates.specs.Known.{KnownAsked, Noted, NotedAll}
use Rattle.boxes_rates.proofs.Parts.{starts_yes, starts_no, first_starts, first_met, next_met, unmet_before, unmet_behind, share_met, unmet_stays, limit_stays, cutting_starts, cutting_part, cutting_on, cutting_undone, cutting_ends}
use Rattle.boxes_rates.proofs.Rates.{outermost_more}
use Rattle.boxes_rates.proofs.Known.{noted_start, known_asked, noted_on}
use Rattle.boxes_rates.proofs.rate.rate.Invariants.{Invariant}
use Rattle.boxes_rates.proofs.rate.rate.Goals as goal

-- what is asked, as it is used
module _ {p : Plant} {v B : List ℤ} {i : ℕ} (asked : RateAsked p v B i) where
  -- the band variable
  room : p.var < N
  room = omega (arith, asked.plant.var, asked.plant.sheet.var, asked.plant.sheet.vars_high)

  ordered : lo B (band_var v) ≤ℤ hi B (band_var v)
  ordered = asked.sides.ordered.at (band_var v) asked.plant.sheet.var

  low_enough : edge v 0 ≤ℤ lo B (band_var v)
  low_enough = above_first asked.plant.sheet asked.sides.near

  ends : band_slot 0 + (p.bands - 1) * band_size + band_size ≡ band_slot (bands v)
  ends = omega (arith, asked.plant.bands, asked.plant.sheet.bands_low)

  cap_least : pos 0 ≤ℤ cap v i
  cap_least = cap_low asked.plant.sheet i asked.var

  -- its sides, as they are read
  low_is : FitsSigned w64 (B ! p.var) → to_z w64 (of_z w64 (B ! p.var)) ≡ lo B (band_var v)
  low_is fits = to_z-of_z fits ∙ ap (λ (j : ℕ). lo B j) asked.plant.var

  high_is : FitsSigned w64 (B ! (p.var + N)) → to_z w64 (of_z w64 (B ! (p.var + N))) ≡ hi B (band_var v)
  high_is fits = to_z-of_z fits ∙ ap (λ (j : ℕ). hi B j) asked.plant.var

  -- in the loop, at a band
  module _ {up shared : Bool} {o₀ O o : List ℤ} {z : ℤ} {at number : ℕ} (inv : Invariant (machine v p.law) B up i shared o₀ O o z at number) where
    next_place : at + band_size ≡ band_slot (inv.band + 1)
    next_place = omega (arith, inv.place)

    -- whether the next band is met too
    starts : {r : Bool} {h : ℤ} → h ≡ hi B (band_var v) → r ≡ next_starts_by v (band_slot 0 + (p.bands - 1) * band_size) at h → r ≡ true
        → (inv.band + 1 < bands v) × (edge v (inv.band + 1) ≤ℤ hi B (band_var v))
    starts e q t = starts_yes v inv.band (band_slot 0 + (p.bands - 1) * band_size) (hi B (band_var v)) inv.place ends (sym (rw e at q) ∙ t)

    none_next : {r : Bool} {h : ℤ} → h ≡ hi B (band_var v) → r ≡ next_starts_by v (band_slot 0 + (p.bands - 1) * band_size) at h → r ≡ false
        → inv.band + 1 < bands v → hi B (band_var v) <ℤ edge v (inv.band + 1)
    none_next e q t = starts_no v inv.band (band_slot 0 + (p.bands - 1) * band_size) (hi B (band_var v)) inv.place ends (sym (rw e at q) ∙ t)

    module _ {x : ℤ} (e : x ≡ cut_to_band true (machine v p.law) inv.band (hi B (band_var v))) where
      -- with the upper side cut to the band the box is the part that lies in it
      part_is : set O (p.var + N) x ≡ part (machine v p.law) inv.band B
      part_is = cutting_part (machine v p.law) inv.band B asked.plant.var inv.cutting e

      -- what `row_rate` asks, and what it comes to
      row_asked : BandAsked p v (set O (p.var + N) x) i at z
      row_asked =
          let wf = asked.plant.sheet in
          let o = part_ordered (machine v p.law) wf inv.band asked.sides.ordered (meets_show inv.met) in
          record {
            plant = asked.plant;
            var = asked.var;
            sides = sized_as part_is (sized_less (omega arith) (sized_part o (part_within (machine v p.law) wf inv.band B) asked.sides.near));
            slot = record { band = inv.band; place = inv.place; among = inv.among };
            between = rw inv.so_far (outermost_between up (machine v p.law) B i inv.band cap_least);
          }

      -- what is known of the commands
      known : KnownAsked shared v at number (set O (p.var + N) x) o
      known =
          subst (λ (j : ℕ). KnownAsked shared v at j (set O (p.var + N) x) o) (sym inv.count)
          (known_asked inv.noted inv.place inv.among part_is)

      noted : {q : List ℤ} → Noted shared v number (set O (p.var + N) x) o q → NotedAll shared (machine v p.law) B o₀ q
      noted {q} d =
          noted_on (machine v p.law) B asked.plant.sheet.bands_high inv.band part_is
          (subst (λ (j : ℕ). Noted shared v j (set O (p.var + N) x) o q) inv.count d) inv.noted

      rated : {r : Outermost} → RowRated up (machine v p.law) (set O (p.var + N) x) i at z r
          → r.change ≡ outermost up (neutral up (cap v i)) (inv.band + 1) (band_rate up (machine v p.law) B i)
      rated d =
          d.same inv.band inv.place
          ∙ (ap (λ (P : List ℤ). outer up z (change up (cap v i) (row_of (machine v p.law) inv.band i) (row_over up (machine v p.law) P i inv.band))) part_is
          ∙ (ap (outer up z) (sym (share_met (machine v p.law) B up i inv.band inv.met))
          ∙ (ap (λ (y : ℤ). outer up y (band_rate up (machine v p.law) B i inv.band)) inv.so_far ∙ sym (outermost_more up _ inv.band _))))

    -- the next band is met: its edge is read
    module _ (next : (inv.band + 1 < bands v) × (edge v (inv.band + 1) ≤ℤ hi B (band_var v))) where
      edge_is : to_z w64 (of_z w64 (to_z w32 (of_z w32 (v ! (at + band_size))))) ≡ edge v (inv.band + 1)
      edge_is = from32 (asked.plant.sheet.fits (at + band_size)) ∙ ap (λ (j : ℕ). v ! j) next_place

      edge_bound : Bound (edge v (inv.band + 1)) word
      edge_bound = bound_of {w = w32} (asked.plant.sheet.fits (band_slot (inv.band + 1)))

      last_fits : FitsSigned w64 (edge v (inv.band + 1) -ℤ pos 1)
      last_fits = fits64 (bound_sub edge_bound (bound_lit (pos 1))) tt

      -- the last number of the band, as the code has it, and the first of the next
      abbrev coded : ℤ
      coded = to_z w64 (of_z w64 (to_z w64 (of_z w64 (to_z w32 (of_z w32 (v ! (at + band_size))))) -ℤ pos 1))

      coded_is : coded ≡ edge v (inv.band + 1) -ℤ pos 1
      coded_is = rw edge_is (to_z-of_z last_fits)

      end_is : coded ≡ cut_to_band true (machine v p.law) inv.band (hi B (band_var v))
      end_is = coded_is ∙ sym (high_cut (machine v p.law) inv.band next.0 next.1)

      one_more : coded +ℤ pos 1 ≡ edge v (inv.band + 1)
      one_more =
          let e = edge v (inv.band + 1) in
          ap (λ (x : ℤ). x +ℤ pos 1) coded_is ∙ omega (ints, sub e (pos 1), plus (e -ℤ pos 1) (pos 1))

      next_is : to_z w64 (of_z w64 (coded +ℤ pos 1)) ≡ edge v (inv.band + 1)
      next_is = rw one_more (to_z-of_z (fits64 edge_bound tt))

pub neutral-outermost-requires : goal.neutral-outermost-requires
neutral-outermost-requires c =
    let asked = c.requires.rate_asked.0 in
    subst (λ (z : ℤ). Bound z max_cap) (sym (from32 (asked.plant.sheet.fits (cap_slot c.args.i)))) (cap_near asked.plant.sheet c.args.i asked.var)

pub loop-next-init : goal.loop-next-init
unfolding outermost
loop-next-init c =
    let a = c.args in
    let asked = c.requires.rate_asked.0 in
    let v = a.sheet.now in
    let B = a.over.now in
    let M = machine v a.plant.law in
    let low_fits : FitsSigned w64 (B ! a.plant.var) = search rules in
    let cap_fits : FitsSigned w32 (v ! cap_slot a.i) = search rules in
    let first : FirstBand v (lo B (band_var v)) c.first_band-band.result = rw (low_is asked low_fits) at c.first_band-band.ensures in
    let neutral_fits : FitsSigned w64 c.neutral-outermost.result = search rules in
    record {
      band = first.from.band;
      place = first.from.place;
      among = first.from.among;
      met = first_met first (low_enough asked) (ordered asked);
      cutting = cutting_starts M first.from.band B (first_starts first (low_enough asked));
      so_far =
          to_z-of_z neutral_fits
          ∙ (c.neutral-outermost.ensures
          ∙ ap (neutral a.up) (from32 cap_fits)
          ∙ (sym (rw (zero-add first.from.band) at (unmet_stays M B a.up a.i (cap_least asked) 0 first.from.band
          (λ j h. rw (zero-add j) (unmet_before first j h))))));
      count = c.band_number-k.ensures first.from.band first.from.place;
      noted = noted_start c.requires.known;
    }

pub overflow_sub-last : goal.overflow_sub-last
overflow_sub-last c =
    let asked = c.requires.rate_asked.0 in
    let inv = c.loop-next.invariant in
    let high_fits : FitsSigned w64 (c.args.over.now ! (c.args.plant.var + N)) = search rules in
    let next = starts asked inv (high_is asked high_fits) c.next_starts_by.ensures c.loop-next-test.true in
    rw (edge_is asked inv next) (last_fits asked inv next)

pub overflow_add-over : goal.overflow_add-over
overflow_add-over c =
    let asked = c.requires.rate_asked.0 in
    let inv = c.loop-next.invariant in
    let high_fits : FitsSigned w64 (c.args.over.now ! (c.args.plant.var + N)) = search rules in
    let next = starts asked inv (high_is asked high_fits) c.next_starts_by.ensures c.loop-next-test.true in
    rw (one_more asked inv next) (fits64 (edge_bound asked inv next) tt)

pub row_rate-rated-requires-clause-band_asked : goal.row_rate-rated-requires-clause-band_asked
row_rate-rated-requires-clause-band_asked c =
    let asked = c.requires.rate_asked.0 in
    let inv = c.loop-next.invariant in
    let high_fits : FitsSigned w64 (c.args.over.now ! (c.args.plant.var + N)) = search rules in
    let next = starts asked inv (high_is asked high_fits) c.next_starts_by.ensures c.loop-next-test.true in
    (row_asked asked inv (end_is asked inv next), c.requires.rate_asked.1)

pub row_rate-rated-requires-clause-known_asked : goal.row_rate-rated-requires-clause-known_asked
row_rate-rated-requires-clause-known_asked c =
    let asked = c.requires.rate_asked.0 in
    let inv = c.loop-next.invariant in
    let high_fits : FitsSigned w64 (c.args.over.now ! (c.args.plant.var + N)) = search rules in
    let next = starts asked inv (high_is asked high_fits) c.next_starts_by.ensures c.loop-next-test.true in
    known asked inv (end_is asked inv next)

-- the outermost is the cap
pub returns-then-rated-clause-value : goal.returns-then-rated-clause-value
unfolding rate
returns-then-rated-clause-value c =
    let a = c.args in
    let asked = c.requires.rate_asked.0 in
    let inv = c.loop-next.invariant in
    let v = a.sheet.now in
    let M = machine v a.plant.law in
    let high_fits : FitsSigned w64 (a.over.now ! (a.plant.var + N)) = search rules in
    let next = starts asked inv (high_is asked high_fits) c.next_starts_by.ensures c.loop-next-test.true in
    let row_fits : FitsSigned w64 c.row_rate-rated.result.change = search rules in
    let is_limit : c.row_rate-rated.result.change ≡ neutral (not a.up) (cap v a.i) = c.row_rate-rated.ensures.row_rated.limit c.if-rated.true in
    let so_far = rated asked inv (end_is asked inv next) c.row_rate-rated.ensures.row_rated in
    let all : inv.band + 1 + (bands v - (inv.band + 1)) ≡ bands v = omega (arith, inv.among) in
    to_z-of_z row_fits ∙ (is_limit ∙ sym (rw all at (limit_stays M a.over.now a.up a.i (cap_least asked) (inv.band + 1) (bands v - (inv.band + 1)) (sym so_far ∙ is_limit))))

pub returns-then-rated-clause-over_unchanged : goal.returns-then-rated-clause-over_unchanged
returns-then-rated-clause-over_unchanged c =
    let asked = c.requires.rate_asked.0 in
    let inv = c.loop-next.invariant in
    let low_fits : FitsSigned w64 (c.args.over.now ! c.args.plant.var) = search rules in
    let high_fits : FitsSigned w64 (c.args.over.now ! (c.args.plant.var + N)) = search rules in
    let next = starts asked inv (high_is asked high_fits) c.next_starts_by.ensures c.loop-next-test.true in
    cutting_undone (machine c.args.sheet.now c.args.plant.law) inv.band c.args.over.now asked.plant.var (room asked) (part_is asked inv (end_is asked inv next)) (low_is asked low_fits) (high_is asked high_fits)

pub returns-then-rated-clause-noted_all : goal.returns-then-rated-clause-noted_all
returns-then-rated-clause-noted_all c =
    let asked = c.requires.rate_asked.0 in
    let inv = c.loop-next.invariant in
    let high_fits : FitsSigned w64 (c.args.over.now ! (c.args.plant.var + N)) = search rules in
    let next = starts asked inv (high_is asked high_fits) c.next_starts_by.ensures c.loop-next-test.true in
    noted asked inv (end_is asked inv next) c.row_rate-rated.ensures.noted

pub loop-next-smaller : goal.loop-next-smaller
loop-next-smaller c =
    let asked = c.requires.rate_asked.0 in
    let inv = c.loop-next.invariant in
    let high_fits : FitsSigned w64 (c.args.over.now ! (c.args.plant.var + N)) = search rules in
    let next = starts asked inv (high_is asked high_fits) c.next_starts_by.ensures c.loop-next-test.true in
    omega (arith, next.0, inv.place, asked.plant.bands)

pub loop-next-preserved : goal.loop-next-preserved
loop-next-preserved c =
    let asked = c.requires.rate_asked.0 in
    let inv = c.loop-next.invariant in
    let M = machine c.args.sheet.now c.args.plant.law in
    let high_fits : FitsSigned w64 (c.args.over.now ! (c.args.plant.var + N)) = search rules in
    let next = starts asked inv (high_is asked high_fits) c.next_starts_by.ensures c.loop-next-test.true in
    let end = end_is asked inv next in
    let edge = next_is asked inv next in
    let row_fits : FitsSigned w64 c.row_rate-rated.result.change = search rules in
    record {
      band = inv.band + 1;
      place = next_place asked inv;
      among = next.0;
      met = next_met asked.plant.sheet inv.met next.0 next.1;
      cutting = cutting_on M inv.band c.args.over.now asked.plant.var (room asked) (part_is asked inv end) edge (rw edge (omega (ints, inv.met.below next.0)));
      so_far = to_z-of_z row_fits ∙ rated asked inv end c.row_rate-rated.ensures.row_rated;
      count = ap (λ (j : ℕ). j + 1) inv.count;
      noted = noted asked inv end c.row_rate-rated.ensures.noted;
    }

-- no further band is met: the upper side that is put back is the part's
pub row_rate-rated-requires-2-clause-band_asked : goal.row_rate-rated-requires-2-clause-band_asked
row_rate-rated-requires-2-clause-band_asked c =
    let asked = c.requires.rate_asked.0 in
    let inv = c.loop-next.invariant in
    let high_fits : FitsSigned w64 (c.args.over.now ! (c.args.plant.var + N)) = search rules in
    let none = none_next asked inv (high_is asked high_fits) c.next_starts_by.ensures c.loop-next-test.false in
    (row_asked asked inv (high_is asked high_fits ∙ sym (high_stays (machine c.args.sheet.now c.args.plant.law) inv.band none)), c.requires.rate_asked.1)

pub row_rate-rated-requires-2-clause-known_asked : goal.row_rate-rated-requires-2-clause-known_asked
row_rate-rated-requires-2-clause-known_asked c =
    let asked = c.requires.rate_asked.0 in
    let inv = c.loop-next.invariant in
    let high_fits : FitsSigned w64 (c.args.over.now ! (c.args.plant.var + N)) = search rules in
    let none = none_next asked inv (high_is asked high_fits) c.next_starts_by.ensures c.loop-next-test.false in
    known asked inv (high_is asked high_fits ∙ sym (high_stays (machine c.args.sheet.now c.args.plant.law) inv.band none))

pub returns-clause-value : goal.returns-clause-value
unfolding rate
returns-clause-value c =
    let a = c.args in
    let asked = c.requires.rate_asked.0 in
    let inv = c.loop-next.invariant in
    let v = a.sheet.now in
    let M = machine v a.plant.law in
    let high_fits : FitsSigned w64 (a.over.now ! (a.plant.var + N)) = search rules in
    let none = none_next asked inv (high_is asked high_fits) c.next_starts_by.ensures c.loop-next-test.false in
    let row_fits : FitsSigned w64 c.row_rate-rated-2.result.change = search rules in
    let all : inv.band + 1 + (bands v - (inv.band + 1)) ≡ bands v = omega (arith, inv.among) in
    to_z-of_z row_fits
    ∙ (rated asked inv (high_is asked high_fits ∙ sym (high_stays M inv.band none)) c.row_rate-rated-2.ensures.row_rated
    ∙ sym (rw all at (unmet_stays M a.over.now a.up a.i (cap_least asked) (inv.band + 1) (bands v - (inv.band + 1))
    (λ j h. unmet_behind asked.plant.sheet (inv.band + 1) j none (omega arith)))))

pub returns-clause-over_unchanged : goal.returns-clause-over_unchanged
returns-clause-over_unchanged c =
    let asked = c.requires.rate_asked.0 in
    let inv = c.loop-next.invariant in
    let M = machine c.args.sheet.now c.args.plant.law in
    let low_fits : FitsSigned w64 (c.args.over.now ! c.args.plant.var) = search rules in
    let high_fits : FitsSigned w64 (c.args.over.now ! (c.args.plant.var + N)) = search rules in
    let none = none_next asked inv (high_is asked high_fits) c.next_starts_by.ensures c.loop-next-test.false in
    let last_is = high_is asked high_fits ∙ sym (high_stays M inv.band none) in
    cutting_ends M inv.band c.args.over.now asked.plant.var (room asked) (part_is asked inv last_is) (high_stays M inv.band none) (low_is asked low_fits)

pub returns-clause-noted_all : goal.returns-clause-noted_all
returns-clause-noted_all c =
    let asked = c.requires.rate_asked.0 in
    let inv = c.loop-next.invariant in
    let high_fits : FitsSigned w64 (c.args.over.now ! (c.args.plant.var + N)) = search rules in
    let none = none_next asked inv (high_is asked high_fits) c.next_starts_by.ensures c.loop-next-test.false in
    noted asked inv (high_is asked high_fits ∙ sym (high_stays (machine c.args.sheet.now c.args.plant.law) inv.band none)) c.row_rate-rated-2.ensures.noted
