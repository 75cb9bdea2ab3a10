-- What tells the kind of a sheet's bands: a mark, a divisor; and which slots bands without a law leave free. Assumes nothing.
use mathlib.Core.Path.{◌≡◌, refl, sym, ap, ap₂, subst}
use mathlib.Core.Bool.{Bool, true, false, ◌&&◌}
use mathlib.Core.List.{List}
use mathlib.Core.Logic.{◌⊎◌, inl, inr, ⊎_elim}
use Prim.Native.Nat.{ℕ, zero, suc, ◌+◌, ◌*◌, ◌≤◌, ◌<◌}
use native.Mathlib.Omega.{arith}
use lib.IntN.{ℤ, pos, negsuc}
use lib.Signed.{◌≤ℤ◌}
use lib.ListN.{get_or}
use lib.Dec.{eqb}
use borrow.Author.Tests.{eqb-true}
use Rattle.integers.proofs.Z.{ints}
use Rattle.sheet_spec.specs.Limits.{max_bands}
use Rattle.sheet_spec.specs.Slots.{N, band_slot, law_slot, row_slot, first_row, law_size, law_rest_size, divisor_in_law, kind_by, band_kind}
use Rattle.sheet_spec.specs.Sizes.{caps_at, cap_bytes}
use Rattle.sheet_spec.specs.declared.BandKind.{BandKind}
use Rattle.sheet_spec.specs.declared.BandKind.TheVariants.{Fixed, Feedback}
use Rattle.sheet_spec.specs.declared.Record.TheVariants.{Head, Band, Unsafe, Recovery}
use Rattle.sheet_spec.specs.Layout.{◌▸◌, band_fields, law_fields, law_rest, fields, field_count, law_count, row_count, band_count}
use Rattle.sheet_spec.specs.declared.Shape.{Shape}
use Rattle.sheet_spec.specs.File.{Small, records, record_at, marked}
use Rattle.sheet_spec.specs.Sheet.{kind_of}
use Rattle.sheet_spec.proofs.Streams.{Each, each_none, each_next, each_first, each_groups, each_high, law_more}
use Rattle.sheet_spec.proofs.Box.{and_both}
use Rattle.sheet_spec.proofs.Records.{record_cases, EachField, each_band, each_law}
use Rattle.sheet_spec.proofs.Tests.{InRange}
use Rattle.sheet_spec.proofs.Places.{edge_slot, spread_row, spread_record}
use Rattle.sheet_spec.proofs.Filled.{TakenAll}

-- ---- a file: the mark of its first band tells

by_test : Bool → BandKind
by_test t = elim t [ true ↦ Feedback | false ↦ Fixed ]

pub kind_by_mark : (f : List ℕ) (n : ℕ) (b : BandKind) (k : ℕ) → marked f (caps_at + cap_bytes n) (Band b k) ≡ true → kind_of f n ≡ b
unfolding kind_of marked by_test
kind_by_mark f n Feedback k e = ap by_test e
kind_by_mark f n Fixed k e =
    let at = caps_at + cap_bytes n in
    let p = and_both (eqb (get_or f at 0) 66) (eqb (get_or f (at + 1) 0) 68) e in
    let y : get_or f (at + 1) 0 ≡ 68 = eqb-true _ _ p.1 in
    let z : eqb (get_or f (at + 1) 0) 70 ≡ false = ap (λ (y : ℕ). eqb y 70) y in
    ap by_test (ap₂ ◌&&◌ p.0 z)

-- ---- a value: the divisor of the first band's law tells

pub kind_positive : (z : ℤ) → pos 1 ≤ℤ z → kind_by z ≡ Feedback
kind_positive (pos zero) h = let z : ⊥ = omega ints in absurd z
kind_positive (pos (suc q)) h = refl
kind_positive (negsuc q) h = refl

-- a divisor in its range tells of a law
pub kind_in_range : (v : List ℤ) (s : Shape) → 0 < s.bands → EachField (InRange v) s → s.kind ≡ Feedback → band_kind v ≡ Feedback
unfolding law_fields law_rest ◌▸◌
kind_in_range v s l g e =
    let law = subst (λ (b : BandKind). Each (InRange v) (law_fields s.vars (law_slot 0)) (law_count b s.vars)) e (each_law s.vars s.kind 0 (each_band s g 0 l)) in
    kind_positive _ ((each_high s.vars law_rest_size _ _ law).at divisor_in_law (omega arith)).low

-- ---- bands without a law

-- no field of such a band has a slot of the law
outside : {n : ℕ} → n ≤ N → (k : ℕ) → Each (λ x. (x.slot < law_slot k) ⊎ (band_slot k + first_row ≤ x.slot)) (band_fields n Fixed k) (band_count n Fixed)
unfolding band_fields
outside {n} room k =
    subst (Each _ (band_fields n Fixed k)) (law_more (law_count Fixed n + n * row_count n))
    (each_next _ _ (inl (omega (arith, edge_slot k))) (each_next _ _ (inl (omega arith)) (each_next _ _ (inl (omega arith))
    (each_first (law_count Fixed n) (n * row_count n) _ _ (each_none _)
    (each_groups n (row_count n) _ (λ i l. record { at = λ j h. inr (omega (arith, (spread_row n room (row_slot k i)).low j h)) }))))))

module _ (s : Shape) (m : Small s) (e : s.kind ≡ Fixed) where
  -- nor has any other
  pub law_free : (k j : ℕ) → k < max_bands → j < law_size → (r : ℕ) → r < records s → (i : ℕ) → i < field_count s.vars (record_at s r) → (fields s.vars (record_at s r) i).slot ≡ law_slot k + j → ⊥
  unfolding fields
  law_free k j h l =
      let room : s.vars ≤ N = omega (arith, m.vars) in
      record_cases s (λ r x. (i : ℕ) → i < field_count s.vars x → (fields s.vars x i).slot ≡ law_slot k + j → ⊥)
      (λ i c q. omega (arith, (spread_record s.vars room Head).high i c))
      (λ b d.
      subst (λ (t : BandKind). (i : ℕ) → i < field_count s.vars (Band t b) → (fields s.vars (Band t b) i).slot ≡ law_slot k + j → ⊥) (sym e)
      (λ i c q.
      let low = (spread_record s.vars room (Band Fixed b)).low i c in
      let high = (spread_record s.vars room (Band Fixed b)).high i c in
      ⊎_elim (λ (o : (fields s.vars (Band Fixed b) i).slot < law_slot b). omega (arith, low, high)) (λ (o : band_slot b + first_row ≤ (fields s.vars (Band Fixed b) i).slot). omega (arith, low, high))
      ((outside room b).at i c)))
      (λ b d i c q. omega (arith, (spread_record s.vars room (Unsafe b)).low i c))
      (λ i c q. omega (arith, (spread_record s.vars room Recovery).low i c))

  pub none_taken : (k j : ℕ) → k < max_bands → j < law_size → TakenAll s (records s) (law_slot k + j) → ⊥
  none_taken k j h l t = law_free k j h l t.r t.below t.taken.j t.taken.below t.taken.is
