-- What it tells that a file is accepted. Assumes nothing.
use mathlib.Core.Path.{◌≡◌, refl, sym, ap, ◌∙◌, subst}
use mathlib.Core.Bool.{true, ◌&&◌}
use mathlib.Core.List.{List}
use mathlib.Core.Logic.{⊎_elim}
use Prim.Native.Nat.{ℕ, ◌+◌, ◌≤◌, ◌<◌}
use native.Mathlib.Omega.{arith}
use lib.Dec.{eqb, leb}
use lib.IntN.{ℤ, pos, nat_abs}
use lib.ListN.{length, drop, length-replicate, get_or-replicate, get_or-eq_default}
use borrow.Author.Tests.{eqb-true, leb-true}
use Rattle.sheet_spec.specs.Limits.{max_bands}
use Rattle.sheet_spec.specs.Slots.{◌!◌, N, slots, head_size, law_size, law_slot, divisor_in_law, vars, bands, boxes, vars_slot, bands_slot, boxes_slot, kind_by, band_kind}
use Rattle.sheet_spec.specs.Fields.{decoded, offset, bad}
use Rattle.sheet_spec.specs.Refusals.{Cause}
use Rattle.sheet_spec.specs.Sizes.{letters, caps_at}
use Rattle.sheet_spec.specs.declared.BandKind.{BandKind}
use Rattle.sheet_spec.specs.declared.BandKind.TheVariants.{Fixed, Feedback}
use Rattle.sheet_spec.specs.declared.Record.{Record}
use Rattle.sheet_spec.specs.declared.Record.TheVariants.{Head}
use Rattle.sheet_spec.specs.Layout.{◌▸◌, head_fields, fields, field_count}
use Rattle.sheet_spec.specs.declared.Shape.{Shape}
use Rattle.sheet_spec.specs.File.{shape, Small, records, record_at, fields_at, field_count_at, record_start, marked, marked_at}
use Rattle.sheet_spec.specs.Sheet.{zeros, head_of, kind_of, shape_of, contents, stage, stages, refusal, values}
use Rattle.sheet_spec.specs.BandKinds.{KindsAgree}
use Rattle.sheet_spec.proofs.Streams.{Each, lt_or_le}
use Rattle.sheet_spec.proofs.Box.{and_both}
use Rattle.sheet_spec.proofs.Laws.{goes_on, first_none, unless_zero}
use Rattle.sheet_spec.proofs.Tests.{InRange, Good, AllGood, bad_ranges, good_ranges, mark_right, all_good}
use Rattle.sheet_spec.proofs.Records.{EachField, head_at}
use Rattle.sheet_spec.proofs.Places.{head_slot}
use Rattle.sheet_spec.proofs.Filled.{filled_at, all_at, origin_all}
use Rattle.sheet_spec.proofs.Ranges.{abs_in, small}
use Rattle.sheet_spec.proofs.BandKinds.{kind_in_range, none_taken}

pub length_zeros : length zeros ≡ slots
unfolding zeros
length_zeros = length-replicate slots (pos 0)

pub zeros_at : (i : ℕ) → zeros ! i ≡ pos 0
unfolding zeros
zeros_at i = ⊎_elim (λ (l : i < slots). get_or-replicate slots i (pos 0) (pos 0) l) (λ (l : slots ≤ i). get_or-eq_default zeros (pos 0) {n = i} (omega (arith, length_zeros))) (lt_or_le i slots)

-- ---- the four tests

pub record Accepted (f : List ℕ) : Type 0 where
  pub least : caps_at ≤ length f
  pub small : Small (shape_of f)
  pub banded : 0 < (shape_of f).bands
  pub size : length f ≡ record_start (shape_of f) (records (shape_of f))
  pub marks : (r : ℕ) → r < records (shape_of f) → marked_at (shape_of f) f r ≡ true
  pub good : Each (Good (contents f) (shape_of f)) (record_at (shape_of f)) (records (shape_of f))
  pub values : values f ≡ contents f

-- a head in range names counts that there is room for, and a band
pub head_named : (f : List ℕ) → bad head_fields (head_of f) head_size ≡ 0 → Small (shape_of f) × (0 < (shape_of f).bands)
unfolding head_fields ◌▸◌ shape_of
head_named f e =
    let h = bad_ranges head_fields (head_of f) head_size e in
    let m = small (head_of f) h in
    (record { vars = m.vars; bands = m.bands; boxes = m.boxes }, omega (arith, (abs_in (head_of f ! bands_slot) (h.at bands_slot (omega arith))).0))

pub accepted : (f : List ℕ) → refusal f ≡ 0 → Accepted f
unfolding refusal stage values shape_of
accepted f e =
    let s = shape_of f in
    let t = first_none (stage f) stages e in
    let h = head_named f (t.at 1 (omega arith)) in
    record {
      least = leb-true _ _ (and_both _ _ (unless_zero (leb caps_at (length f) && marked f 0 Head) Cause.head (t.at 0 (omega arith)))).0;
      small = h.0;
      banded = h.1;
      size = eqb-true _ _ (unless_zero (eqb (length f) (record_start s (records s))) Cause.length (t.at 2 (omega arith)));
      marks = mark_right (marked_at s f) s (contents f) (records s) (t.at 3 (omega arith));
      good = all_good (marked_at s f) s (contents f) (records s) (t.at 3 (omega arith));
      values = goes_on _ _ e;
    }

-- ---- an accepted file's values pass the writer's tests: the counts are those that the head names, and the kind of the bands is that of their mark

module _ (v w : List ℤ) (b : BandKind) where
  pub shape_same : v ! vars_slot ≡ w ! vars_slot → v ! bands_slot ≡ w ! bands_slot → v ! boxes_slot ≡ w ! boxes_slot → band_kind v ≡ b
      → shape v ≡ record { vars = vars w; bands = bands w; boxes = boxes w; kind = b }
  shape_same p q r e = λ i. record { vars = nat_abs (p i); bands = nat_abs (q i); boxes = nat_abs (r i); kind = e i }

pub head_number : (f : List ℕ) (j : ℕ) → j < head_size → head_of f ! (head_fields j).slot ≡ decoded (head_fields j).kind (drop (letters + offset head_fields j) f)
unfolding head_of
head_number f =
    filled_at head_fields f letters head_size zeros (λ i j a b e. omega (arith, head_slot i, head_slot j)) (λ j l. omega (arith, head_slot j, length_zeros))

module _ (f : List ℕ) (m : Small (shape_of f)) where
  pub number_at : (r : ℕ) → r < records (shape_of f) → (j : ℕ) → j < field_count_at (shape_of f) r
      → contents f ! (fields_at (shape_of f) r j).slot ≡ decoded (fields_at (shape_of f) r j).kind (drop (record_start (shape_of f) r + letters + offset (fields_at (shape_of f) r) j) f)
  unfolding contents
  number_at = all_at (shape_of f) f m zeros length_zeros (records (shape_of f)) (omega arith)

  same_head : (j : ℕ) → j < head_size → contents f ! (head_fields j).slot ≡ head_of f ! (head_fields j).slot
  unfolding fields record_start
  same_head j l =
      let s = shape_of f in
      let P : Record → Type 0 = λ x. j < field_count s.vars x → contents f ! (fields s.vars x j).slot ≡ decoded (fields s.vars x j).kind (drop (0 + letters + offset (fields s.vars x) j) f) in
      subst P (head_at s) (number_at 0 (omega arith) j) (omega arith) ∙ sym (head_number f j l)

  -- bands without a law leave zeros in its slots
  pub law_zero : (shape_of f).kind ≡ Fixed → (k j : ℕ) → k < max_bands → j < law_size → contents f ! (law_slot k + j) ≡ pos 0
  unfolding contents
  law_zero e k j h l =
      let s = shape_of f in
      ⊎_elim (λ q. q ∙ zeros_at (law_slot k + j)) (λ t. absurd (none_taken s m e k j h l t)) (origin_all s f (records s) zeros (law_slot k + j))

  module _ (l : 0 < (shape_of f).bands) (g : EachField (InRange (contents f)) (shape_of f)) where
    same_kind : band_kind (contents f) ≡ (shape_of f).kind
    same_kind = go (shape_of f).kind refl
      where
        go : (b : BandKind) → (shape_of f).kind ≡ b → band_kind (contents f) ≡ b
        go Fixed e = ap kind_by (law_zero e 0 (N + divisor_in_law) (omega arith) (omega arith))
        go Feedback e = kind_in_range (contents f) (shape_of f) l g e

    pub same_shape : shape (contents f) ≡ shape_of f
    unfolding head_fields ◌▸◌ shape_of
    same_shape = shape_same (contents f) (head_of f) _ (same_head vars_slot (omega arith)) (same_head bands_slot (omega arith)) (same_head boxes_slot (omega arith)) same_kind

-- ---- an accepted file

module _ (f : List ℕ) (a : Accepted f) where
  pub shape_read : shape (contents f) ≡ shape_of f
  shape_read = same_shape f a.small a.banded (good_ranges (contents f) (shape_of f) a.good)

  pub contents_good : AllGood (contents f)
  contents_good = subst (λ (s : Shape). Each (Good (contents f) s) (record_at s) (records s)) (sym shape_read) a.good

-- BOTH KINDS AGREE (specs/BandKinds)
pub kinds_agree : KindsAgree
unfolding shape_of
kinds_agree f e =
    let a = accepted f e in
    let q : shape (values f) ≡ shape_of f = ap shape a.values ∙ shape_read f a in
    let k : band_kind (values f) ≡ (shape_of f).kind = ap (λ (s : Shape). s.kind) q in
    record {
      same = ap (λ (s : Shape). kind_of f s.vars) q ∙ sym k;
      zero = λ t i j h l. ap (λ (v : List ℤ). v ! (law_slot i + j)) a.values ∙ law_zero f a.small (sym k ∙ t) i j h l;
    }
