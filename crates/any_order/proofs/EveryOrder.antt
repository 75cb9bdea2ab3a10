-- For every permutation of a sheet's no-go boxes there is a value that has them in that order (specs/OneOrder, `EveryOrder`): the numbers of the
-- sheet, each no-go box taken from where it stood. Assumes nothing.
use mathlib.Core.Path.{◌≡◌, refl, sym, ap, ◌∙◌, subst}
use mathlib.Core.Bool.{false}
use mathlib.Core.List.{List, [], ◌∷◌}
use mathlib.Core.Logic.{⊎_elim}
use Prim.Native.Nat.{ℕ, zero, suc, ◌+◌, ◌*◌, ◌≤◌, ◌<◌}
use native.Mathlib.Omega.{arith}
use lib.IntN.{ℤ, pos, nat_abs}
use lib.ListN.{length, get_or-eq_default}
use mir.Syntax.{w32}
use mir.Val.{SFits}
use Rattle.integers.proofs.Z.{ints}
use Rattle.sheet_spec.specs.Limits.{max_boxes, max_recovery_side, max_unsafe_side}
use Rattle.sheet_spec.specs.Slots.{◌!◌, N, box_size, slots, vars_slot, bands_slot, boxes_slot, band_var_slot, δ_slot, α_slot, ρ_slot, least_slot, greatest_slot, cap_slot, band_size, least_in_band, greatest_in_band, band_slot, law_slot, divisor_slot, recovery_slot, unsafe_slot, vars, bands, boxes, kind_by, band_kind, feedback, row, unsafe_box}
use Rattle.sheet_spec.specs.Box.{SameSides}
use Rattle.sheet_spec.specs.Valid.{Between, ValidLaw, ValidRow, ValidBox, ValidNumbers}
use Rattle.sheet_spec.specs.Layout.{first, groups, fields, field_count}
use Rattle.sheet_spec.specs.File.{shape, Small, records, record_at, fields_at, field_count_at}
use Rattle.sheet_spec.specs.declared.BandKind.TheVariants.{Feedback}
use Rattle.sheet_spec.specs.declared.Shape.{Shape}
use Rattle.sheet_spec.specs.declared.Record.TheVariants.{Head, Band, Recovery}
use Rattle.sheet_spec.proofs.Streams.{first_low, first_after, groups_at, lt_or_le}
use Rattle.sheet_spec.proofs.Box.{differ, box_lo, box_hi}
use Rattle.sheet_spec.proofs.Records.{record_cases}
use Rattle.sheet_spec.proofs.Places.{spread_record}
use Rattle.any_order.specs.Reordered.{is_unsafe}
use Rattle.any_order.specs.OneOrder.{EveryOrder}

-- ---- a list by its numbers

unfoldable listed : ℕ → (ℕ → ℤ) → List ℤ
listed zero f = []
listed (suc n) f = f 0 ∷ listed n (λ i. f (suc i))

listed_length : (n : ℕ) (f : ℕ → ℤ) → length (listed n f) ≡ n
unfolding listed
listed_length zero f = refl
listed_length (suc n) f = ap suc (listed_length n (λ i. f (suc i)))

listed_at : (n : ℕ) (f : ℕ → ℤ) (i : ℕ) → i < n → listed n f ! i ≡ f i
unfolding listed
listed_at zero f i l = absurd (omega arith)
listed_at (suc n) f zero l = refl
listed_at (suc n) f (suc i) l = listed_at n (λ i. f (suc i)) i (omega arith)

-- ---- a box with the same sides is valid too

box_kept : (n : ℕ) {v w : List ℤ} {from to : ℕ} {most : ℤ} → ((i : ℕ) → i < n → w ! (to + i) ≡ v ! (from + i)) → ((i : ℕ) → i < n → w ! (to + i + N) ≡ v ! (from + i + N))
    → ValidBox n most v from → ValidBox n most w to
box_kept n low high b = record {
  lower = λ i h. omega (ints, low i h, b.lower i h);
  ordered = λ i h. omega (ints, low i h, high i h, b.ordered i h);
  upper = λ i h. omega (ints, high i h, b.upper i h);
}

-- ---- v's numbers, no-go box j from where box `from j` stood

module _ (from : ℕ → ℕ) (v : List ℤ) where
  -- the slot of v whose number stands in slot i
  unfoldable moved_from : ℕ → ℕ
  moved_from = first (unsafe_slot 0) (λ i. i) (groups box_size (λ j q. unsafe_slot (from j) + q))

  unfoldable arranged : List ℤ
  arranged = listed slots (λ i. v ! moved_from i)

  arranged_at : (i : ℕ) → i < slots → arranged ! i ≡ v ! moved_from i
  unfolding arranged
  arranged_at = listed_at slots (λ i. v ! moved_from i)

  arranged_length : length arranged ≡ slots
  unfolding arranged
  arranged_length = listed_length slots (λ i. v ! moved_from i)

  -- up to the no-go boxes nothing is moved
  arranged_below : (i : ℕ) → i < unsafe_slot 0 → arranged ! i ≡ v ! i
  unfolding moved_from
  arranged_below i l = arranged_at i (omega arith) ∙ ap (λ (s : ℕ). v ! s) (first_low (unsafe_slot 0) _ _ i l)

  arranged_side : (j q : ℕ) → j < max_boxes → q < box_size → arranged ! (unsafe_slot j + q) ≡ v ! (unsafe_slot (from j) + q)
  unfolding moved_from
  arranged_side j q l h =
      let e : unsafe_slot j + q ≡ unsafe_slot 0 + (j * box_size + q) = omega arith in
      arranged_at (unsafe_slot j + q) (omega arith)
      ∙ ap (λ (s : ℕ). v ! s) (ap moved_from e ∙ first_after (unsafe_slot 0) _ _ (j * box_size + q) ∙ groups_at box_size _ j q h)

  arranged_fits : ValidNumbers v → (i : ℕ) → SFits w32 (arranged ! i)
  arranged_fits wf i =
      ⊎_elim (λ (l : i < slots). subst (SFits w32) (sym (arranged_at i l)) (wf.fits (moved_from i)))
      (λ (l : slots ≤ i).
      subst (SFits w32) (get_or-eq_default v (pos 0) {n = i} (omega (arith, wf.size)) ∙ sym (get_or-eq_default arranged (pos 0) {n = i} (omega (arith, arranged_length)))) (wf.fits i))
      (lt_or_le i slots)

  -- a no-go box has the sides that it had where it stood
  module _ {n : ℕ} (room : n ≤ N) {j : ℕ} (l : j < max_boxes) where
    lower_same : (i : ℕ) → i < n → arranged ! (unsafe_slot j + i) ≡ v ! (unsafe_slot (from j) + i)
    lower_same i h = arranged_side j i l (omega arith)

    upper_same : (i : ℕ) → i < n → arranged ! (unsafe_slot j + i + N) ≡ v ! (unsafe_slot (from j) + i + N)
    upper_same i h =
        let e : (j : ℕ) → unsafe_slot j + (i + N) ≡ unsafe_slot j + i + N = λ j. omega arith in
        ap (λ (s : ℕ). arranged ! s) (sym (e j)) ∙ arranged_side j (i + N) l (omega arith) ∙ ap (λ (s : ℕ). v ! s) (e (from j))

    arranged_box : SameSides n (unsafe_box v (from j)) (unsafe_box arranged j)
    arranged_box = record {
      lower = λ i h. box_lo v (unsafe_slot (from j)) i (omega arith) ∙ sym (lower_same i h) ∙ sym (box_lo arranged (unsafe_slot j) i (omega arith));
      upper = λ i h. box_hi v (unsafe_slot (from j)) i (omega arith) ∙ sym (upper_same i h) ∙ sym (box_hi arranged (unsafe_slot j) i (omega arith));
    }

    valid_box : ValidBox n (pos max_unsafe_side) v (unsafe_slot (from j)) → ValidBox n (pos max_unsafe_side) arranged (unsafe_slot j)
    valid_box = box_kept n lower_same upper_same

-- ---- what is valid of a sheet is valid of one that agrees with it up to the no-go boxes and has valid ones

module _ {v : List ℤ} (wf : ValidNumbers v) (w : List ℤ) (below : (i : ℕ) → i < unsafe_slot 0 → w ! i ≡ v ! i) where
  same_count : (i : ℕ) → i < unsafe_slot 0 → nat_abs (w ! i) ≡ nat_abs (v ! i)
  same_count i l = ap nat_abs (below i l)

  same_vars : vars w ≡ vars v
  same_vars = same_count vars_slot (omega arith)

  same_bands : bands w ≡ bands v
  same_bands = same_count bands_slot (omega arith)

  same_boxes : boxes w ≡ boxes v
  same_boxes = same_count boxes_slot (omega arith)

  between : {l h : ℤ} (i : ℕ) → i < unsafe_slot 0 → Between l h (v ! i) → Between l h (w ! i)
  between i l b = record { low = omega (ints, below i l, b.low); high = omega (ints, below i l, b.high) }

  -- the slots of band k
  in_band : (k q : ℕ) → k < bands v → q < band_size → w ! (band_slot k + q) ≡ v ! (band_slot k + q)
  in_band k q l h = below (band_slot k + q) (omega (arith, wf.bands_high))

  row_kept : (k i : ℕ) → k < bands v → i < vars v → ValidRow (vars v) (row w k i)
  row_kept k i h g =
      let r = wf.rows k i h g in
      record {
        a = λ j l. between _ (omega (arith, wf.bands_high, wf.vars_high)) (r.a j l);
        b = between _ (omega (arith, wf.bands_high, wf.vars_high)) r.b;
        c = between _ (omega (arith, wf.bands_high, wf.vars_high)) r.c;
        d = between _ (omega (arith, wf.bands_high, wf.vars_high)) r.d;
        q = between _ (omega (arith, wf.bands_high, wf.vars_high)) r.q;
      }

  same_kind : band_kind w ≡ band_kind v
  same_kind = ap kind_by (below (divisor_slot (law_slot 0)) (omega arith))

  law_kept : band_kind v ≡ Feedback → (k : ℕ) → k < bands v → ValidLaw (vars v) (feedback w k)
  law_kept e k h =
      let l = wf.laws e k h in
      record {
        a = λ j i. between _ (omega (arith, wf.bands_high, wf.vars_high)) (l.a j i);
        c = between _ (omega (arith, wf.bands_high, wf.vars_high)) l.c;
        q = between _ (omega (arith, wf.bands_high, wf.vars_high)) l.q;
      }

  recovery_kept : ValidBox (vars v) (pos max_recovery_side) w recovery_slot
  recovery_kept =
      box_kept (vars v) (λ i h. below (recovery_slot + i) (omega (arith, wf.vars_high))) (λ i h. below (recovery_slot + i + N) (omega (arith, wf.vars_high))) wf.recovery

  numbers_kept : length w ≡ slots → ((i : ℕ) → SFits w32 (w ! i)) → ((j : ℕ) → j < boxes v → ValidBox (vars v) (pos max_unsafe_side) w (unsafe_slot j)) → ValidNumbers w
  numbers_kept size fits unsafe = record {
    size = size;
    fits = fits;
    head = λ i l. omega (ints, below i (omega arith), wf.head i l);
    vars_low = omega (arith, same_vars, wf.vars_low);
    vars_high = omega (arith, same_vars, wf.vars_high);
    bands_low = omega (arith, same_bands, wf.bands_low);
    bands_high = omega (arith, same_bands, wf.bands_high);
    boxes_low = omega (arith, same_boxes, wf.boxes_low);
    boxes_high = omega (arith, same_boxes, wf.boxes_high);
    var = omega (arith, same_vars, same_count band_var_slot (omega arith), wf.var);
    δ_low = omega (arith, same_count δ_slot (omega arith), wf.δ_low);
    α_low = omega (arith, same_count α_slot (omega arith), wf.α_low);
    sum_high = omega (arith, same_count δ_slot (omega arith), same_count α_slot (omega arith), wf.sum_high);
    ρ_low = omega (arith, same_count ρ_slot (omega arith), wf.ρ_low);
    ρ_high = omega (arith, same_count ρ_slot (omega arith), wf.ρ_high);
    commands = omega (ints, below least_slot (omega arith), below greatest_slot (omega arith), wf.commands);
    commands_low = omega (ints, below least_slot (omega arith), wf.commands_low);
    commands_high = omega (ints, below greatest_slot (omega arith), wf.commands_high);
    caps = λ i l. between (cap_slot i) (omega (arith, same_vars, wf.vars_high)) (wf.caps i (omega (arith, same_vars)));
    first_edge = below (band_slot 0) (omega arith) ∙ wf.first_edge;
    edges = λ k l.
        let h : suc k < bands v = omega (arith, same_bands) in
        omega (ints, below (band_slot k) (omega (arith, wf.bands_high)), below (band_slot (suc k)) (omega (arith, wf.bands_high)), wf.edges k h);
    edges_high = λ k l. (let h : k < bands v = omega (arith, same_bands) in omega (ints, below (band_slot k) (omega (arith, wf.bands_high)), wf.edges_high k h));
    safety = λ k l.
        let h : k < bands v = omega (arith, same_bands) in
        omega (ints, in_band k least_in_band h (omega arith), in_band k greatest_in_band h (omega arith), wf.safety k h);
    safety_low = λ k l. (let h : k < bands v = omega (arith, same_bands) in omega (ints, below least_slot (omega arith), in_band k least_in_band h (omega arith), wf.safety_low k h));
    safety_high = λ k l. (let h : k < bands v = omega (arith, same_bands) in omega (ints, below greatest_slot (omega arith), in_band k greatest_in_band h (omega arith), wf.safety_high k h));
    laws = λ e k h. subst (λ (n : ℕ). ValidLaw n (feedback w k)) (sym same_vars) (law_kept (sym same_kind ∙ e) k (omega (arith, same_bands)));
    rows = λ k i h g. subst (λ (n : ℕ). ValidRow n (row w k i)) (sym same_vars) (row_kept k i (omega (arith, same_bands)) (omega (arith, same_vars)));
    recovery = subst (λ (n : ℕ). ValidBox n (pos max_recovery_side) w recovery_slot) (sym same_vars) recovery_kept;
    unsafe = λ j l. subst (λ (n : ℕ). ValidBox n (pos max_unsafe_side) w (unsafe_slot j)) (sym same_vars) (unsafe j (omega (arith, same_boxes)));
  }

-- ---- so every order is one that some value has

-- a record that is not a no-go box has its numbers before the no-go boxes
before_boxes : (s : Shape) → Small s → (r : ℕ) → r < records s → is_unsafe (record_at s r) ≡ false → (j : ℕ) → j < field_count_at s r → (fields_at s r j).slot < unsafe_slot 0
before_boxes s small =
    let room : s.vars ≤ N = omega (arith, small.vars) in
    record_cases s (λ r x. is_unsafe x ≡ false → (j : ℕ) → j < field_count s.vars x → (fields s.vars x j).slot < unsafe_slot 0)
    (λ e j c. omega (arith, (spread_record s.vars room Head).high j c))
    (λ k d e j c. omega (arith, (spread_record s.vars room (Band s.kind k)).high j c, small.bands))
    (λ k d e j c. absurd (differ refl e))
    (λ e j c. (spread_record s.vars room Recovery).high j c)

pub every_order : EveryOrder
every_order σ v wf p =
    let w = arranged p.origin v in
    let room : vars v ≤ N = omega (arith, wf.vars_high) in
    let small : Small (shape v) = record { vars = room; bands = wf.bands_high; boxes = wf.boxes_high } in
    let at : (j : ℕ) → j < boxes v → j < max_boxes = λ j l. omega (arith, wf.boxes_high) in
    record {
      sheet = w;
      numbers = numbers_kept wf w (arranged_below p.origin v) (arranged_length p.origin v) (arranged_fits p.origin v wf)
          (λ j l. valid_box p.origin v room (at j l) (wf.unsafe (p.origin j) (p.origin_inside j l)));
      reordered = record {
        kind = sym (same_kind wf w (arranged_below p.origin v));
        same = λ r l e j c. sym (arranged_below p.origin v _ (before_boxes (shape v) small r l e j c));
        permutation = p;
        moved = λ j l.
            subst (λ (i : ℕ). SameSides (vars v) (unsafe_box v i) (unsafe_box w (σ j))) (p.origin_of j l) (arranged_box p.origin v room (at (σ j) (p.inside j l)));
      };
    }
