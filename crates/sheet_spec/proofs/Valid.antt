-- An accepted sheet is valid, and the value of any file has its length and fits 32 bits. Assumes nothing.
use mathlib.Core.Path.{◌≡◌, refl, sym, ◌∙◌, subst}
use mathlib.Core.List.{List}
use mathlib.Core.Logic.{◌⊎◌, inl, inr, ⊎_elim}
use Prim.Native.Nat.{ℕ, zero, suc, ◌+◌, ◌*◌, ◌≤◌, ◌<◌}
use native.Mathlib.Omega.{arith}
use lib.IntN.{ℤ, pos, nat_abs}
use lib.Signed.{◌≤ℤ◌}
use lib.ListN.{length, replicate}
use mir.Syntax.{w32}
use mir.Val.{SFits}
use Rattle.integers.proofs.Z.{ints, flat}
use Rattle.sheet_spec.specs.Slots.{◌!◌, N, slots, band_slot, law_slot, recovery_slot, unsafe_slot, vars, bands, boxes, band_kind, feedback, law_rest_size, constant_in_law, divisor_in_law, row, recovery_box, vars_slot, bands_slot, boxes_slot, band_var_slot, δ_slot, α_slot, ρ_slot, least_slot, greatest_slot, rest_size, pair_size, b_in_rest, c_in_rest, d_in_rest, q_in_rest, edge_in_band, least_in_band, greatest_in_band}
use Rattle.sheet_spec.specs.Valid.{ValidLaw, ValidRow, ValidBox, ValidNumbers, Ascending, RecoveryClear, Valid}
use Rattle.sheet_spec.specs.Refusals.{Cause}
use Rattle.sheet_spec.specs.Box.{clear}
use Rattle.sheet_spec.specs.Order.{ascends_at}
use Rattle.sheet_spec.specs.Fields.{Kind, u8, u16, i16, i32}
use Rattle.sheet_spec.specs.Limits.{max_edge, max_unsafe_side, max_recovery_side}
use Rattle.sheet_spec.specs.Layout.{◌▸◌, head_fields, edge_field, law_rest, law_fields, row_rest, row_fields, band_fields, side_fields, box_fields, law_count, box_count}
use Rattle.sheet_spec.specs.declared.BandKind.{BandKind}
use Rattle.sheet_spec.specs.declared.BandKind.TheVariants.{Feedback}
use Rattle.sheet_spec.specs.declared.Record.{Record}
use Rattle.sheet_spec.specs.declared.Shape.{Shape}
use Rattle.sheet_spec.specs.File.{shape, records, record_at, fields_at, order_test, overlap_test, closing}
use Rattle.sheet_spec.specs.Sheet.{zeros, shape_of, contents, refusal, values}
use Rattle.sheet_spec.proofs.Streams.{Each, each_next, each_low, each_high}
use Rattle.sheet_spec.proofs.Laws.{stops, unless_zero}
use Rattle.sheet_spec.proofs.Box.{clear_at}
use Rattle.sheet_spec.proofs.Tests.{InRange, AllInRange, AllGood, good_ranges}
use Rattle.sheet_spec.proofs.Records.{unsafe_at, recovery_at, each_head, each_band, each_unsafe, each_recovery, each_cap, each_law, each_row, each_side}
use Rattle.sheet_spec.proofs.Places.{head_slot, recovery_free}
use Rattle.sheet_spec.proofs.Filled.{TakenAll, origin_all, length_all}
use Rattle.sheet_spec.proofs.Ranges.{abs_in, abs_is, Fit, all_fit}
use Rattle.sheet_spec.proofs.Accepted.{Accepted, accepted, contents_good, shape_read, length_zeros, zeros_at}

fits_kind : (k : Kind) {z : ℤ} → Fit k z → SFits w32 z
fits_kind u8 r = simp flat (omega (ints, r.low, r.high))
fits_kind u16 r = simp flat (omega (ints, r.low, r.high))
fits_kind i16 r = simp flat (omega (ints, r.low, r.high))
fits_kind i32 r = simp flat (omega (ints, r.low, r.high))

zero_fits : SFits w32 (pos 0)
zero_fits = record { sfits = omega arith }

module _ (v : List ℤ) (g : AllInRange v) where
  valid_row : (k i : ℕ) → k < bands v → i < vars v → ValidRow (vars v) (row v k i)
  unfolding row_fields row_rest ◌▸◌
  valid_row k i l m =
      let h = each_row (vars v) (band_kind v) k (each_band (shape v) g k l) i m in
      let a = each_low (vars v) rest_size _ _ h in
      let b = each_high (vars v) rest_size _ _ h in
      record { a = a.at; b = b.at b_in_rest (omega arith); c = b.at c_in_rest (omega arith); d = b.at d_in_rest (omega arith); q = b.at q_in_rest (omega arith) }

  valid_law : band_kind v ≡ Feedback → (k : ℕ) → k < bands v → ValidLaw (vars v) (feedback v k)
  unfolding law_fields law_rest ◌▸◌
  valid_law e k l =
      let h = subst (λ (b : BandKind). Each (InRange v) (law_fields (vars v) (law_slot k)) (law_count b (vars v))) e (each_law (vars v) (band_kind v) k (each_band (shape v) g k l)) in
      let a = each_low (vars v) law_rest_size _ _ h in
      let b = each_high (vars v) law_rest_size _ _ h in
      record { a = a.at; c = b.at constant_in_law (omega arith); q = b.at divisor_in_law (omega arith) }

  valid_box : (h s : ℕ) → Each (InRange v) (box_fields h s) (box_count (vars v)) → ValidBox (vars v) (pos h) v s
  unfolding side_fields ◌▸◌
  valid_box h s b =
      let p = each_side (vars v) h s b in
      record {
        lower = λ i l. ((p i l).at 0 (omega arith)).low;
        ordered = λ i l. ((p i l).at 1 (omega arith)).low;
        upper = λ i l. ((p i l).at 1 (omega arith)).high;
      }

  -- the numbers before the commands are not below 0
  not_below : Each (λ x. pos 0 ≤ℤ v ! x.slot) head_fields least_slot
  unfolding head_fields ◌▸◌
  not_below =
      let h = each_head (shape v) g in
      each_next _ _ (omega (ints, (h.at vars_slot (omega arith)).low))
      (each_next _ _ (omega (ints, (h.at bands_slot (omega arith)).low))
      (each_next _ _ (omega (ints, (h.at boxes_slot (omega arith)).low))
      (each_next _ _ (h.at band_var_slot (omega arith)).low
      (each_next _ _ (omega (ints, (h.at δ_slot (omega arith)).low))
      (each_next _ _ (omega (ints, (h.at α_slot (omega arith)).low))
      (each_next _ _ (omega (ints, (h.at ρ_slot (omega arith)).low)) (record { at = λ j l. absurd (let z : ⊥ = omega arith in z) })))))))

  head_pos : (i : ℕ) → i < least_slot → pos 0 ≤ℤ v ! i
  head_pos i l = subst (λ (i : ℕ). pos 0 ≤ℤ v ! i) (let e : (head_fields i).slot ≡ i = omega (arith, head_slot i) in e) (not_below.at i l)

  is_count : (i : ℕ) → i < least_slot → v ! i ≡ pos (nat_abs (v ! i))
  is_count i l = abs_is (v ! i) (head_pos i l)

  edge_at : (k : ℕ) → k < bands v → InRange v (edge_field k)
  unfolding band_fields ◌▸◌
  edge_at k l = (each_band (shape v) g k l).at edge_in_band (omega arith)

  edge_high : (k : ℕ) → k < bands v → v ! band_slot k ≤ℤ pos max_edge
  unfolding edge_field
  edge_high zero l = omega (ints, (edge_at 0 l).high)
  edge_high (suc k) l = (edge_at (suc k) l).high

  pub numbers_of : length v ≡ slots → ((i : ℕ) → SFits w32 (v ! i)) → ValidNumbers v
  unfolding head_fields band_fields edge_field ◌▸◌
  numbers_of size fits =
      let h = each_head (shape v) g in
      let n = h.at vars_slot (omega arith) in
      let b = h.at bands_slot (omega arith) in
      let c = h.at boxes_slot (omega arith) in
      let x = h.at band_var_slot (omega arith) in
      let d = h.at δ_slot (omega arith) in
      let a = h.at α_slot (omega arith) in
      let r = h.at ρ_slot (omega arith) in
      let l = h.at least_slot (omega arith) in
      let u = h.at greatest_slot (omega arith) in
      record {
        size = size;
        fits = fits;
        head = head_pos;
        vars_low = (abs_in (v ! vars_slot) n).0;
        vars_high = omega (arith, (abs_in (v ! vars_slot) n).1);
        bands_low = (abs_in (v ! bands_slot) b).0;
        bands_high = (abs_in (v ! bands_slot) b).1;
        boxes_low = (abs_in (v ! boxes_slot) c).0;
        boxes_high = (abs_in (v ! boxes_slot) c).1;
        var = omega (ints, is_count band_var_slot (omega arith), is_count vars_slot (omega arith), simp flat at x.high);
        δ_low = (abs_in (v ! δ_slot) d).0;
        α_low = omega (ints, is_count α_slot (omega arith), a.low);
        sum_high = omega (ints, is_count δ_slot (omega arith), is_count α_slot (omega arith), simp flat at a.high);
        ρ_low = (abs_in (v ! ρ_slot) r).0;
        ρ_high = omega (arith, (abs_in (v ! ρ_slot) r).1);
        commands = u.low;
        commands_low = l.low;
        commands_high = u.high;
        caps = (each_cap (vars v) h).at;
        first_edge = (let l : 0 < bands v = omega (arith, (abs_in (v ! bands_slot) b).0) in omega (ints, (edge_at 0 l).low, (edge_at 0 l).high));
        edges = λ k l. omega (ints, simp flat at (edge_at (suc k) l).low);
        edges_high = edge_high;
        safety = λ k l. ((each_band (shape v) g k l).at greatest_in_band (omega arith)).low;
        safety_low = λ k l. ((each_band (shape v) g k l).at least_in_band (omega arith)).low;
        safety_high = λ k l. ((each_band (shape v) g k l).at greatest_in_band (omega arith)).high;
        laws = valid_law;
        rows = valid_row;
        recovery = valid_box max_recovery_side recovery_slot (each_recovery (shape v) g);
        unsafe = λ j l. valid_box max_unsafe_side (unsafe_slot j) (each_unsafe (shape v) g j l);
      }

-- no-go boxes that pass their tests ascend
pub ascending : (v : List ℤ) → ((j : ℕ) → j < boxes v → order_test (vars v) v j ≡ 0) → Ascending v
unfolding order_test
ascending v pass = record { at = λ j l. unless_zero (ascends_at (vars v) v j) Cause.order (pass (suc j) (omega arith)) }

-- a sheet whose records are good
module _ (v : List ℤ) (g : AllGood v) where
  closed_at : (r : ℕ) → r < records (shape v) → {x : Record} → record_at (shape v) r ≡ x → closing v (shape v) x ≡ 0
  closed_at r l e = subst (λ (x : Record). closing v (shape v) x ≡ 0) e (g.at r l).closed

  good_clear : RecoveryClear v
  unfolding closing overlap_test
  good_clear =
      let s = shape v in
      let c = closed_at (1 + (s.bands + s.boxes)) (omega arith) (recovery_at s) in
      let e = unless_zero (clear s.vars v s.boxes (recovery_box v)) Cause.overlap c in
      record { at = λ j l. clear_at s.vars v s.boxes (recovery_box v) e j (omega arith) }

  pub good_valid : length v ≡ slots → ((i : ℕ) → SFits w32 (v ! i)) → Valid v
  unfolding closing
  good_valid size fits =
      let s = shape v in
      record {
        numbers = numbers_of v (good_ranges v s g) size fits;
        order = ascending v (λ j l. closed_at (1 + (s.bands + j)) (omega arith) (unsafe_at s j l));
        clear = good_clear;
      }

-- the values of a file whose numbers are in range
module _ (f : List ℕ) where
  -- a value is 0, or a field's
  zero_or_taken : shape (contents f) ≡ shape_of f → (i : ℕ) → (contents f ! i ≡ pos 0) ⊎ TakenAll (shape (contents f)) (records (shape (contents f))) i
  unfolding contents
  zero_or_taken q i =
      ⊎_elim (λ e. inl (e ∙ zeros_at i)) (λ t. inr (subst (λ (s : Shape). TakenAll s (records s) i) (sym q) t))
      (origin_all (shape_of f) f (records (shape_of f)) zeros i)

  pub contents_size : length (contents f) ≡ slots
  unfolding contents
  contents_size = length_all (shape_of f) f (records (shape_of f)) zeros ∙ length_zeros

  pub contents_fit : shape (contents f) ≡ shape_of f → AllInRange (contents f) → (i : ℕ) → SFits w32 (contents f ! i)
  contents_fit q g i =
      ⊎_elim (λ e. subst (SFits w32) (sym e) zero_fits)
      (λ t.
      let x = fields_at (shape (contents f)) t.r t.taken.j in
      subst (λ (i : ℕ). SFits w32 (contents f ! i)) t.taken.is (fits_kind x.kind (((all_fit (contents f) g).at t.r t.below).at t.taken.j t.taken.below)))
      (zero_or_taken q i)

contents_valid : (f : List ℕ) → Accepted f → Valid (contents f)
contents_valid f a =
    let g = contents_good f a in
    good_valid (contents f) g (contents_size f) (contents_fit f (shape_read f a) (good_ranges (contents f) (shape (contents f)) g))

pub valid : (f : List ℕ) → refusal f ≡ 0 → Valid (values f)
valid f e = let a = accepted f e in subst Valid (sym a.values) (contents_valid f a)

pub valid_numbers : (f : List ℕ) → refusal f ≡ 0 → ValidNumbers (values f)
valid_numbers f e = (valid f e).numbers

-- ---- any file

module _ (f : List ℕ) where
  -- a refused file has zeros
  pub values_zero : (refusal f ≡ 0 → ⊥) → values f ≡ zeros
  unfolding values
  values_zero = stops (λ c. zeros) (contents f)

  -- what holds of an accepted sheet and of zeros holds of every value
  cases : (P : List ℤ → Type 0) → (refusal f ≡ 0 → P (values f)) → P zeros → P (values f)
  cases P a z = go (refusal f) refl
    where
      go : (c : ℕ) → refusal f ≡ c → P (values f)
      go zero e = a e
      go (suc c) e = subst P (sym (values_zero (λ z. (let y : ⊥ = omega arith in y)))) z

  pub length_values : length (values f) ≡ slots
  length_values = cases (λ v. length v ≡ slots) (λ e. (valid_numbers f e).size) length_zeros

  pub values_fit : (i : ℕ) → SFits w32 (values f ! i)
  values_fit i = cases (λ v. SFits w32 (v ! i)) (λ e. (valid_numbers f e).fits i) (subst (SFits w32) (sym (zeros_at i)) zero_fits)

  -- what lies beyond the counts is 0
  pub values_beyond : (i : ℕ) → (TakenAll (shape (values f)) (records (shape (values f))) i → ⊥) → values f ! i ≡ pos 0
  values_beyond i =
      let P : List ℤ → Type 0 = λ v. (TakenAll (shape v) (records (shape v)) i → ⊥) → v ! i ≡ pos 0 in
      cases P (λ e. let a = accepted f e in subst P (sym a.values) (λ n. ⊎_elim (λ z. z) (λ t. absurd (n t)) (zero_or_taken f (shape_read f a) i))) (λ n. zeros_at i)

  pub recovery_beyond : refusal f ≡ 0 → (i q : ℕ) → vars (values f) ≤ i → i < N → q < pair_size → values f ! (recovery_slot + i + q * N) ≡ pos 0
  recovery_beyond e i q b h k =
      let wf = valid_numbers f e in
      values_beyond (recovery_slot + i + q * N)
      (λ t. recovery_free (shape (values f)) (record { vars = omega (arith, wf.vars_high); bands = wf.bands_high; boxes = wf.boxes_high }) i q b h k t.r t.below t.taken.j t.taken.below t.taken.is)

-- an array of zeros, as the code makes one
pub zeros_are : replicate slots (pos 0) ≡ zeros
unfolding zeros
zeros_are = refl
