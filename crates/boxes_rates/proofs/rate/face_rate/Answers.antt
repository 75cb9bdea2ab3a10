-- `face_rate` gives the rate over a face's neighborhood, and puts the side that was cut back. Where nothing was cut the neighborhood is the working
-- box, and what is known of the plain law's commands over it is used and left. Assumes nothing.
use Rattle.std.proofs.Common.{rules, arith, ◌≡◌, ◌∙◌, refl, sym, ap, subst, Bool, true, ◌&&◌, ℕ, ◌+◌, ◌<◌, List, set, ℤ, pos, ◌*ℤ◌, ◌≤ℤ◌, FitsSigned, w32, w64, to_z, of_z}
use Rattle.std.specs.Int.Signed.{le_z}
use mir.Facts.{to_z-of_z, to_z_pos}
use Rattle.integers.specs.Bound.{Bound}
use Rattle.integers.proofs.Z.{ints, le_true, from32, bound_lit, bound_less, bound_mul, fits64}
use Rattle.sheet_spec.specs.Slots.{◌!◌, N, box_size, vars, cap, cap_slot}
use Rattle.sheet_spec.specs.Limits.{max_ticks, max_edge}
use Rattle.sheet_spec.proofs.Box.{and_both}
use Rattle.machine_spec.specs.Box.{Near, Sized}
use Rattle.machine_spec.specs.Machine.{machine}
use Rattle.machine_spec.specs.Rate.{neighborhood, face_rate}
use Rattle.machine_spec.proofs.Facts.{cap_low, cap_near}
use Rattle.machine_spec.proofs.Facts as facts
use Rattle.machine_spec.proofs.Inside.{within_inside, inside_ordered}
use Rattle.machine_spec.proofs.Neighborhood.{neighborhood_part, neighborhood_ordered}
use Rattle.machine_spec.proofs.Ranges.{near_less, near_part, sized_part}
use Rattle.boxes_arithmetic.specs.Limits.{limit}
use Rattle.boxes_arithmetic.proofs.Bounds.{times_low}
use Rattle.boxes_rates.specs.declared.Plant.{Plant}
use Rattle.boxes_rates.specs.Limits.{neighborhood_limit, RatesAsked}
use Rattle.boxes_rates.specs.Plant.{cut_at}
use Rattle.boxes_rates.specs.Known.{Known}
use Rattle.boxes_rates.proofs.Known.{known_after}
use Rattle.boxes_rates.proofs.Cut.{cut_below, cut_back, cut_none}
use Rattle.boxes_rates.proofs.rate.face_rate.Goals as goal

module _ {p : Plant} {v S : List ℤ} {T : ℕ} {E : List ℤ} (asked : RatesAsked p v S T E) {i : ℕ} (var : i < vars v) where
  room : i < N
  room = omega (arith, asked.plant.sheet.vars_high, var)

  -- as the working box holds it
  start_near : Near (vars v) limit S
  start_near = near_less (omega arith) (near_part asked.start (within_inside S E asked.holds) asked.work)

  -- one cap more than ticks
  abbrev reach : ℤ
  reach = pos (T + 1) *ℤ cap v i

  reach_bound : Bound reach neighborhood_limit
  reach_bound = bound_mul {B = max_ticks + 1} (bound_less (bound_lit (pos (T + 1))) (omega (arith, asked.ticks))) (cap_near asked.plant.sheet i var)

  reach_fits : FitsSigned w64 reach
  reach_fits = fits64 reach_bound tt

  reach_low : pos 0 ≤ℤ reach
  reach_low = times_low (T + 1) (cap v i) (cap_low asked.plant.sheet i var)

  caps_are : to_z w64 (T + 1) ≡ pos (T + 1)
  caps_are = to_z_pos w64 (omega (arith, asked.ticks))

  -- as the code has it
  factors_are : to_z w64 (T + 1) *ℤ to_z w64 (of_z w64 (to_z w32 (of_z w32 (cap v i)))) ≡ reach
  factors_are = ap (λ (z : ℤ). to_z w64 (T + 1) *ℤ z) (from32 (asked.plant.sheet.fits (cap_slot i))) ∙ ap (λ (z : ℤ). z *ℤ cap v i) caps_are

  reach_is : to_z w64 (of_z w64 (to_z w64 (T + 1) *ℤ to_z w64 (of_z w64 (to_z w32 (of_z w32 (cap v i)))))) ≡ reach
  reach_is = ap (λ (z : ℤ). to_z w64 (of_z w64 z)) factors_are ∙ to_z-of_z reach_fits

  neighborhood_sized : (up : Bool) → Sized (vars v) max_edge (neighborhood up S reach E i)
  neighborhood_sized up =
      let inside = within_inside S E asked.holds in
      let few = facts.room asked.plant.sheet in
      let o = neighborhood_ordered few S reach i var reach_low up inside (inside_ordered inside asked.start) in
      sized_part o (neighborhood_part few S reach i var up E) asked.work

  -- the narrowed box B: it is the working box again with the saved side, and it is the working box if what is known is shared
  module _ (up : Bool) {B : List ℤ} {j : ℕ} {r : ℤ} (ensured : B ≡ neighborhood up S r E i) (r_is : r ≡ reach) (place : j ≡ cut_at up i) where
    narrowed : B ≡ neighborhood up S reach E i
    narrowed = ensured ∙ ap (λ (z : ℤ). neighborhood up S z E i) r_is

    put_back : FitsSigned w64 (E ! j) → set B j (to_z w64 (of_z w64 (E ! j))) ≡ E
    put_back old = cut_back up S reach E i narrowed place (to_z-of_z old)

    whole : {follows shared : Bool} → FitsSigned w64 (E ! j) → FitsSigned w64 (B ! j)
        → shared ≡ (follows && (le_z (to_z w64 (of_z w64 (B ! j))) (to_z w64 (of_z w64 (E ! j))) && le_z (to_z w64 (of_z w64 (E ! j))) (to_z w64 (of_z w64 (B ! j)))))
        → shared ≡ true → (follows ≡ true) × (B ≡ E)
    whole {follows} old_fits side_fits tested u =
        let old = to_z w64 (of_z w64 (E ! j)) in
        let side = to_z w64 (of_z w64 (B ! j)) in
        let both = and_both follows (le_z side old && le_z old side) (sym tested ∙ u) in
        let tests = and_both (le_z side old) (le_z old side) both.1 in (
          both.0,
          cut_none up S reach E i narrowed place (to_z-of_z old_fits)
              (sym (to_z-of_z side_fits) ∙ omega (ints, le_true side old tests.0, le_true old side tests.1)),
        )

side_below : (up : Bool) {i j : ℕ} → i < N → j ≡ cut_at up i → j < box_size
side_below up {i} h e = subst (λ (k : ℕ). k < box_size) (sym e) (cut_below up i h)

pub overflow_mul-reach : goal.overflow_mul-reach
overflow_mul-reach c =
    let asked = c.requires.rates_asked.0 in
    let var = c.requires.rates_asked.1 in
    subst (λ (z : ℤ). FitsSigned w64 z) (sym (factors_are asked var)) (reach_fits asked var)

pub offset_bounds-work-side : goal.offset_bounds-work-side
offset_bounds-work-side c = let below = side_below c.args.up (room c.requires.rates_asked.0 c.requires.rates_asked.1) c.cut_at-side.ensures in search rules

pub bounds-work-side : goal.bounds-work-side
bounds-work-side c = side_below c.args.up (room c.requires.rates_asked.0 c.requires.rates_asked.1) c.cut_at-side.ensures

pub offset_bounds-work-side-2 : goal.offset_bounds-work-side-2
offset_bounds-work-side-2 c = let below = side_below c.args.up (room c.requires.rates_asked.0 c.requires.rates_asked.1) c.cut_at-side.ensures in search rules

pub bounds-work-side-2 : goal.bounds-work-side-2
bounds-work-side-2 c = side_below c.args.up (room c.requires.rates_asked.0 c.requires.rates_asked.1) c.cut_at-side.ensures

pub offset_bounds-work-side-3 : goal.offset_bounds-work-side-3
offset_bounds-work-side-3 c = let below = side_below c.args.up (room c.requires.rates_asked.0 c.requires.rates_asked.1) c.cut_at-side.ensures in search rules

pub bounds-work-side-3 : goal.bounds-work-side-3
bounds-work-side-3 c = side_below c.args.up (room c.requires.rates_asked.0 c.requires.rates_asked.1) c.cut_at-side.ensures

pub narrow-requires : goal.narrow-requires
narrow-requires c =
    let asked = c.requires.rates_asked.0 in
    let var = c.requires.rates_asked.1 in
    record {
      room = room asked var;
      near = subst (λ (z : ℤ). Bound z neighborhood_limit) (sym (reach_is asked var)) (reach_bound asked var);
      start = λ up. (start_near asked var).at up c.args.i var;
    }

pub rate-answer-requires-clause-rate_asked : goal.rate-answer-requires-clause-rate_asked
rate-answer-requires-clause-rate_asked c =
    let asked = c.requires.rates_asked.0 in
    let var = c.requires.rates_asked.1 in (
      record {
        plant = asked.plant;
        var = var;
        sides = rw (narrowed asked var c.args.up c.narrow.ensures (reach_is asked var) c.cut_at-side.ensures) (neighborhood_sized asked var c.args.up);
      },
      c.requires.chosen.0,
    )

pub rate-answer-requires-clause-known : goal.rate-answer-requires-clause-known
rate-answer-requires-clause-known c =
    let asked = c.requires.rates_asked.0 in
    let var = c.requires.rates_asked.1 in
    let old : FitsSigned w64 (c.args.work.now ! c.cut_at-side.result) = search rules in
    let side : FitsSigned w64 (c.narrow.new.work ! c.cut_at-side.result) = search rules in
    let shared = whole asked var c.args.up c.narrow.ensures (reach_is asked var) c.cut_at-side.ensures old side c.is_shared-shared.ensures in
    λ u. subst (λ (F : List ℤ). Known (machine c.args.sheet.now c.args.plant.law) F c.args.ends.now) (sym (shared u).1) (c.requires.chosen.1 (shared u).0)

pub returns-clause-value : goal.returns-clause-value
unfolding face_rate
returns-clause-value c =
    let asked = c.requires.rates_asked.0 in
    let var = c.requires.rates_asked.1 in
    let rate_fits : FitsSigned w64 c.rate-answer.result = search rules in
    to_z-of_z rate_fits ∙ (c.rate-answer.ensures.value ∙ rw (narrowed asked var c.args.up c.narrow.ensures (reach_is asked var) c.cut_at-side.ensures) refl)

pub returns-clause-work_unchanged : goal.returns-clause-work_unchanged
returns-clause-work_unchanged c =
    let asked = c.requires.rates_asked.0 in
    let var = c.requires.rates_asked.1 in
    let j = c.cut_at-side.result in
    let old : FitsSigned w64 (c.args.work.now ! j) = search rules in
    ap (λ (F : List ℤ). set F j (to_z w64 (of_z w64 (c.args.work.now ! j)))) c.rate-answer.ensures.over_unchanged
    ∙ put_back asked var c.args.up c.narrow.ensures (reach_is asked var) c.cut_at-side.ensures old

pub returns-clause-known : goal.returns-clause-known
returns-clause-known c =
    let asked = c.requires.rates_asked.0 in
    let var = c.requires.rates_asked.1 in
    let old : FitsSigned w64 (c.args.work.now ! c.cut_at-side.result) = search rules in
    let side : FitsSigned w64 (c.narrow.new.work ! c.cut_at-side.result) = search rules in
    let shared = whole asked var c.args.up c.narrow.ensures (reach_is asked var) c.cut_at-side.ensures old side c.is_shared-shared.ensures in
    λ f. known_after c.is_shared-shared.result (λ u. (shared u).1) (c.requires.chosen.1 f) c.rate-answer.ensures.noted_all
