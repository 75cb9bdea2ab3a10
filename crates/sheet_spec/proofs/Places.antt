-- No two numbers of a sheet have one slot, and each slot is within the value. Assumes nothing.
use mathlib.Core.Path.{◌≡◌, refl, sym, ap, ◌∙◌, subst}
use mathlib.Core.Logic.{⊎_elim}
use Prim.Native.Nat.{ℕ, zero, suc, ◌+◌, ◌*◌, ◌-◌, ◌/◌, ◌%◌, ◌≤◌, ◌<◌}
use native.Mathlib.Omega.{arith}
use native.Mathlib.Nat.{mod-lt, div-add-mod', div-lt_iff_lt-mul, mul-le-mul_right}
use Rattle.sheet_spec.specs.Slots.{N, law_size, row_size, band_size, box_size, band_slot, law_slot, row_slot, recovery_slot, unsafe_slot, slots, b_slot, c_slot, d_slot, q_slot, rest_size, constant_slot, divisor_slot, law_rest_size, safety_least_slot, safety_greatest_slot, pair_size, first_row}
use Rattle.sheet_spec.specs.Fields.{Field}
use Rattle.sheet_spec.specs.Limits.{max_bands, max_unsafe_side, max_recovery_side}
use Rattle.sheet_spec.specs.declared.BandKind.{BandKind}
use Rattle.sheet_spec.specs.declared.BandKind.TheVariants.{Fixed, Feedback}
use Rattle.sheet_spec.specs.declared.Record.{Record}
use Rattle.sheet_spec.specs.declared.Record.TheVariants.{Head, Band, Unsafe, Recovery}
use Rattle.sheet_spec.specs.Layout.{◌▸◌, first, groups, always, head_fields, edge_field, law_rest, law_fields, row_rest, row_fields, band_fields, side_fields, box_fields, fields, field_count, law_count, row_count, band_count, box_count}
use Rattle.sheet_spec.specs.declared.Shape.{Shape}
use Rattle.sheet_spec.specs.File.{Small, records, record_at, fields_at, field_count_at}
use Rattle.sheet_spec.proofs.Streams.{each_first, first_low, first_high, lt_or_le, law_more}
use Rattle.sheet_spec.proofs.Records.{record_cases}

-- the slots of the first k fields lie from lo to below hi, and no two are one
pub record Spread (p : ℕ → Field) (k lo hi : ℕ) : Type 0 where
  pub low : (j : ℕ) → j < k → lo ≤ (p j).slot
  pub high : (j : ℕ) → j < k → (p j).slot < hi
  pub apart : (i j : ℕ) → i < k → j < k → (p i).slot ≡ (p j).slot → i ≡ j

spread_next : (x : Field) (g : ℕ → Field) {c lo hi : ℕ} (mid : ℕ) → lo ≤ x.slot → x.slot < mid → mid ≤ hi → Spread g c mid hi → Spread (x ▸ g) (suc c) lo hi
unfolding ◌▸◌
spread_next x g {c} {lo} {hi} mid e f l s = record { low = low; high = high; apart = apart }
  where
    low : (j : ℕ) → j < suc c → lo ≤ ((x ▸ g) j).slot
    low zero k = e
    low (suc j) k = omega (arith, s.low j (omega arith))

    high : (j : ℕ) → j < suc c → ((x ▸ g) j).slot < hi
    high zero k = omega arith
    high (suc j) k = s.high j (omega arith)

    apart : (i j : ℕ) → i < suc c → j < suc c → ((x ▸ g) i).slot ≡ ((x ▸ g) j).slot → i ≡ j
    apart zero zero h k q = refl
    apart zero (suc j) h k q = let z : ⊥ = omega (arith, s.low j (omega arith)) in absurd z
    apart (suc i) zero h k q = let z : ⊥ = omega (arith, s.low i (omega arith)) in absurd z
    apart (suc i) (suc j) h k q = ap suc (s.apart i j (omega arith) (omega arith) q)

spread_most : {p : ℕ → Field} {k lo mid hi : ℕ} → mid ≤ hi → Spread p k lo mid → Spread p k lo hi
spread_most l s = record { low = s.low; high = λ j h. omega (arith, s.high j h); apart = s.apart }

module _ (n m : ℕ) (g h : ℕ → Field) {lo hi : ℕ} (mid : ℕ) (s : Spread g n lo mid) (t : Spread h m mid hi) where
  cross : (i j : ℕ) → i < n → n ≤ j → j < n + m → (first n g h i).slot ≡ (first n g h j).slot → ⊥
  cross i j p q b e =
      let x : (g i).slot ≡ (h (j - n)).slot = rw (first_low n g h i p, first_high n g h j q) at e in
      omega (arith, s.high i p, t.low (j - n) (omega arith))

  spread_first : lo ≤ mid → mid ≤ hi → Spread (first n g h) (n + m) lo hi
  spread_first l u = record {
    low = (each_first {P = λ x. lo ≤ x.slot} n m g h (record { at = s.low }) (record { at = λ j k. omega (arith, t.low j k) })).at;
    high = (each_first {P = λ x. x.slot < hi} n m g h (record { at = λ j k. omega (arith, s.high j k) }) (record { at = t.high })).at;
    apart = λ i j a b e.
        ⊎_elim
        (λ (p : i < n).
        ⊎_elim (λ (q : j < n). s.apart i j p q (rw (first_low n g h i p, first_low n g h j q) at e)) (λ (q : n ≤ j). absurd (cross i j p q b e)) (lt_or_le j n))
        (λ (p : n ≤ i).
        ⊎_elim (λ (q : j < n). absurd (cross j i q p a (sym e)))
        (λ (q : n ≤ j).
        let z : i - n ≡ j - n = t.apart (i - n) (j - n) (omega arith) (omega arith) (rw (first_high n g h i p, first_high n g h j q) at e) in
        omega arith)
        (lt_or_le j n))
        (lt_or_le i n);
  }

-- groups of which each has w slots
module _ (n m w lo : ℕ) (g : ℕ → ℕ → Field) (z : 0 < m) (s : (i : ℕ) → i < n → Spread (g i) m (lo + i * w) (lo + i * w + w)) where
  which : (j : ℕ) → j < n * m → j / m < n
  which j l = (div-lt_iff_lt-mul {k = m} {x = j} {y = n} z).1 l

  in_group : (j : ℕ) (l : j < n * m) → (lo + j / m * w ≤ (groups m g j).slot) × ((groups m g j).slot < lo + j / m * w + w)
  unfolding groups
  in_group j l = ((s (j / m) (which j l)).low (j % m) (mod-lt j z), (s (j / m) (which j l)).high (j % m) (mod-lt j z))

  -- a slot of one group lies below those of a later one
  before : (i j : ℕ) → i < n * m → j < n * m → i / m < j / m → (groups m g i).slot < (groups m g j).slot
  before i j a b l =
      let x : suc (i / m) * w ≤ j / m * w = mul-le-mul_right w l in
      omega (arith, (in_group i a).1, (in_group j b).0)

  spread_groups : Spread (groups m g) (n * m) lo (lo + n * w)
  unfolding groups
  spread_groups = record {
    low = λ j l. omega (arith, (in_group j l).0);
    high = λ j l. (let x : suc (j / m) * w ≤ n * w = mul-le-mul_right w (which j l) in omega (arith, (in_group j l).1));
    apart = λ i j a b e.
        ⊎_elim (λ (l : i / m < j / m). absurd (let y : ⊥ = omega (arith, before i j a b l) in y))
        (λ (l : j / m ≤ i / m).
        ⊎_elim (λ (k : j / m < i / m). absurd (let y : ⊥ = omega (arith, before j i b a k) in y))
        (λ (k : i / m ≤ j / m).
        let q : i / m ≡ j / m = omega arith in
        let r : i % m ≡ j % m = (s (j / m) (which j b)).apart (i % m) (j % m) (mod-lt i z) (mod-lt j z) (subst (λ (a : ℕ). (g a (i % m)).slot ≡ (g (j / m) (j % m)).slot) q e) in
        sym (div-add-mod' i m) ∙ ap (λ (a : ℕ). a * m + i % m) q ∙ ap (λ (b : ℕ). j / m * m + b) r ∙ div-add-mod' j m)
        (lt_or_le (j / m) (i / m)))
        (lt_or_le (i / m) (j / m));
  }

-- ---- the sheet's records

-- the slots of a record start here, and the next record's here
abbrev pub base : Record → ℕ
base Head = 0
base (Band b k) = band_slot k
base (Unsafe j) = unsafe_slot j
base Recovery = recovery_slot

abbrev pub limit : Record → ℕ
limit Head = band_slot 0
limit (Band b k) = band_slot (suc k)
limit (Unsafe j) = unsafe_slot (suc j)
limit Recovery = unsafe_slot 0

-- fields whose slots follow one another
spread_run : {p : ℕ → Field} (lo : ℕ) {k hi : ℕ} → ((j : ℕ) → (p j).slot ≡ lo + j) → lo + k ≤ hi → Spread p k lo hi
spread_run lo e l = record { low = λ j h. omega (arith, e j); high = λ j h. omega (arith, e j); apart = λ i j h k q. omega (arith, e i, e j) }

spread_one : (x : Field) {lo hi : ℕ} → lo ≤ x.slot → x.slot < hi → Spread (always x) 1 lo hi
spread_one x l h = record { low = λ j k. l; high = λ j k. h; apart = λ i j h k q. omega arith }

run_next : (x : Field) (g : ℕ → Field) {lo : ℕ} → x.slot ≡ lo → ((j : ℕ) → (g j).slot ≡ suc lo + j) → (j : ℕ) → ((x ▸ g) j).slot ≡ lo + j
unfolding ◌▸◌
run_next x g e f zero = omega arith
run_next x g e f (suc j) = omega (arith, f j)

pub head_slot : (j : ℕ) → (head_fields j).slot ≡ 0 + j
unfolding head_fields
head_slot =
    run_next _ _ refl (run_next _ _ refl (run_next _ _ refl (run_next _ _ refl (run_next _ _ refl
    (run_next _ _ refl (run_next _ _ refl (run_next _ _ refl (run_next _ _ refl (λ i. refl)))))))))

pub edge_slot : (k : ℕ) → (edge_field k).slot ≡ band_slot k
unfolding edge_field
edge_slot zero = refl
edge_slot (suc k) = refl

module _ (n : ℕ) (l : n ≤ N) where
  pub spread_row : (s : ℕ) → Spread (row_fields n s) (row_count n) s (s + row_size)
  unfolding row_fields row_rest
  spread_row s =
      spread_first n rest_size _ _ (b_slot s) (spread_run s (λ j. refl) (omega arith))
      (spread_next _ _ (c_slot s) (omega arith) (omega arith) (omega arith)
      (spread_next _ _ (d_slot s) (omega arith) (omega arith) (omega arith)
      (spread_next _ _ (q_slot s) (omega arith) (omega arith) (omega arith) (spread_one _ (omega arith) (omega arith)))))
      (omega arith) (omega arith)

  spread_law : (b : BandKind) (s : ℕ) → Spread (law_fields n s) (law_count b n) s (s + law_size)
  unfolding law_fields law_rest
  spread_law Fixed s = record { low = λ j h. absurd (none j h); high = λ j h. absurd (none j h); apart = λ i j h. absurd (none i h) }
    where
      none : (j : ℕ) → j < 0 → ⊥
      none j h = omega arith
  spread_law Feedback s =
      spread_first n law_rest_size _ _ (constant_slot s) (spread_run s (λ j. refl) (omega arith))
      (spread_next _ _ (divisor_slot s) (omega arith) (omega arith) (omega arith) (spread_one _ (omega arith) (omega arith)))
      (omega arith) (omega arith)

  spread_band : (b : BandKind) (k : ℕ) → Spread (band_fields n b k) (band_count n b) (band_slot k) (band_slot (suc k))
  unfolding band_fields
  spread_band b k =
      subst (λ (c : ℕ). Spread (band_fields n b k) c (band_slot k) (band_slot (suc k))) (law_more (law_count b n + n * row_count n))
      (spread_next _ _ (safety_least_slot k) (omega (arith, edge_slot k)) (omega (arith, edge_slot k)) (omega arith)
      (spread_next _ _ (safety_greatest_slot k) (omega arith) (omega arith) (omega arith)
      (spread_next _ _ (law_slot k) (omega arith) (omega arith) (omega arith)
      (spread_first (law_count b n) (n * row_count n) _ _ (band_slot k + first_row) (spread_most (omega arith) (spread_law b (law_slot k)))
      (spread_most (omega arith) (spread_groups n (row_count n) row_size (band_slot k + first_row) _ (omega arith) (λ i h. spread_row (row_slot k i))))
      (omega arith) (omega arith)))))

  pair_slot : (h s q : ℕ) → q < pair_size → (side_fields h s q).slot ≡ s + q * N
  unfolding side_fields ◌▸◌
  pair_slot h s zero l = omega arith
  pair_slot h s (suc zero) l = omega arith
  pair_slot h s (suc (suc q)) l = let z : ⊥ = omega arith in absurd z

  side_slot : (h s j : ℕ) → (box_fields h s j).slot ≡ s + j / pair_size + j % pair_size * N
  unfolding box_fields groups
  side_slot h s j = pair_slot h (s + j / pair_size) (j % pair_size) (mod-lt j (omega arith))

  spread_box : (h s : ℕ) → Spread (box_fields h s) (box_count n) s (s + box_size)
  spread_box h s = record {
    low = λ j k. omega (arith, side_slot h s j);
    high = λ j k. omega (arith, side_slot h s j);
    apart = λ i j a b e. omega (arith, side_slot h s i, side_slot h s j);
  }

  pub spread_record : (x : Record) → Spread (fields n x) (field_count n x) (base x) (limit x)
  unfolding fields
  spread_record Head = spread_run 0 head_slot (omega arith)
  spread_record (Band b k) = spread_band b k
  spread_record (Unsafe j) = spread_most (omega arith) (spread_box max_unsafe_side (unsafe_slot j))
  spread_record Recovery = spread_box max_recovery_side recovery_slot

-- ---- the file's records

-- record r is the one that has slot x
record Owner (s : Shape) (x r : ℕ) : Type 0 where
  head : x < band_slot 0 → r ≡ 0
  bands : band_slot 0 ≤ x → x < recovery_slot → r ≡ 1 + (x - band_slot 0) / band_size
  recovery : recovery_slot ≤ x → x < unsafe_slot 0 → r ≡ 1 + (s.bands + s.boxes)
  unsafe : unsafe_slot 0 ≤ x → r ≡ 1 + (s.bands + (x - unsafe_slot 0) / box_size)

module _ (s : Shape) (x : ℕ) (l : s.bands ≤ max_bands) where
  owner : (r : ℕ) → r < records s → base (record_at s r) ≤ x → x < limit (record_at s r) → Owner s x r
  owner =
      record_cases s (λ r y. base y ≤ x → x < limit y → Owner s x r)
      (λ a b. omega arith) (λ k q a b. omega arith) (λ j q a b. omega arith) (λ a b. omega arith)

  one_owner : (r m : ℕ) → Owner s x r → Owner s x m → r ≡ m
  one_owner r m a b =
      ⊎_elim (λ (p : x < band_slot 0). omega (arith, a.head p, b.head p))
      (λ (p : band_slot 0 ≤ x). ⊎_elim (λ (q : x < recovery_slot). omega (arith, a.bands p q, b.bands p q))
      (λ (q : recovery_slot ≤ x). ⊎_elim (λ (o : x < unsafe_slot 0). omega (arith, a.recovery q o, b.recovery q o)) (λ (o : unsafe_slot 0 ≤ x). omega (arith, a.unsafe o, b.unsafe o))
      (lt_or_le x (unsafe_slot 0))) (lt_or_le x recovery_slot)) (lt_or_le x (band_slot 0))

-- a side's place in a box tells the variable
same_variable : (x y a b : ℕ) → x < N → y < N → x + a * N ≡ y + b * N → x ≡ y
same_variable x y a b h k e =
    ⊎_elim (λ (l : a < b). absurd (let z : ⊥ = omega arith in z))
    (λ (m : b ≤ a). ⊎_elim (λ (l : b < a). absurd (let z : ⊥ = omega arith in z)) (λ (l : a ≤ b). omega arith) (lt_or_le b a)) (lt_or_le a b)

module _ (s : Shape) (l : Small s) where
  spread_at : (r : ℕ) → Spread (fields_at s r) (field_count_at s r) (base (record_at s r)) (limit (record_at s r))
  spread_at r = spread_record s.vars (omega (arith, l.vars)) (record_at s r)

  -- no two fields of a record have one slot, and no two records
  pub field_apart : (r i j : ℕ) → i < field_count_at s r → j < field_count_at s r → (fields_at s r i).slot ≡ (fields_at s r j).slot → i ≡ j
  field_apart r = (spread_at r).apart

  pub record_apart : (r m : ℕ) → r < records s → m < records s → (i j : ℕ) → i < field_count_at s r → j < field_count_at s m → (fields_at s r i).slot ≡ (fields_at s m j).slot → r ≡ m
  record_apart r m a b i j c d e =
      one_owner s (fields_at s r i).slot l.bands r m (owner s (fields_at s r i).slot l.bands r a ((spread_at r).low i c) ((spread_at r).high i c))
      (subst (λ (x : ℕ). Owner s x m) (sym e) (owner s (fields_at s m j).slot l.bands m b ((spread_at m).low j d) ((spread_at m).high j d)))

  -- each slot is within the value
  pub slot_lt : (r : ℕ) → r < records s → (j : ℕ) → j < field_count_at s r → (fields_at s r j).slot < slots
  slot_lt r a j b =
      let x : limit (record_at s r) ≤ slots = record_cases s (λ r y. limit y ≤ slots) (omega arith) (λ k q. omega (arith, l.bands)) (λ j q. omega (arith, l.boxes)) (omega arith) r a in
      omega (arith, (spread_at r).high j b)

  -- no field has the slot of a side of the recovery box beyond the variables
  pub recovery_free : (i q : ℕ) → s.vars ≤ i → i < N → q < pair_size → (r : ℕ) → r < records s → (j : ℕ) → j < field_count_at s r → (fields_at s r j).slot ≡ recovery_slot + i + q * N → ⊥
  unfolding fields
  recovery_free i q b h k =
      let room : s.vars ≤ N = omega (arith, l.vars) in
      record_cases s (λ r x. (j : ℕ) → j < field_count s.vars x → (fields s.vars x j).slot ≡ recovery_slot + i + q * N → ⊥)
      (λ j c e. omega (arith, (spread_record s.vars room Head).high j c))
      (λ m d j c e. omega (arith, (spread_record s.vars room (Band s.kind m)).high j c, l.bands))
      (λ m d j c e. omega (arith, (spread_record s.vars room (Unsafe m)).low j c))
      (λ j c e.
      let z : j / pair_size ≡ i = same_variable (j / pair_size) i (j % pair_size) q (omega arith) h (omega (arith, side_slot s.vars room max_recovery_side recovery_slot j)) in
      omega arith)
