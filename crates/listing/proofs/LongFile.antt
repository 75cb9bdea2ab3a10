-- A file longer than any sheet: its listing is that of its first bytes, so no more of it has to be read. Assumes nothing.
use mathlib.Core.Path.{◌≡◌, refl, sym, ap, ◌∙◌}
use mathlib.Core.Bool.{Bool, true, false, ◌&&◌}
use mathlib.Core.List.{List, [], ◌∷◌, ◌++◌}
use mathlib.Core.Logic.{⊎_elim}
use Prim.Native.Nat.{ℕ, zero, suc, ◌+◌, ◌*◌, ◌≤◌, ◌<◌}
use native.Mathlib.Nat.{mul-le-mul}
use native.Mathlib.Omega.{arith}
use lib.Dec.{leb}
use lib.IntN.{ℤ}
use lib.ListN.{length, take, drop, set, length-take}
use lib.Seq.{take_all, take-take, take-nil, get_or-take}
use borrow.Author.Tests.{le-leb}
use Rattle.sheet_spec.specs.Slots.{head_size}
use Rattle.sheet_spec.specs.Fields.{Field, bytes_in, number_of, decoded, offset, filled, bad}
use Rattle.sheet_spec.specs.Sizes.{law_bytes}
use Rattle.sheet_spec.specs.declared.BandKind.{BandKind}
use Rattle.sheet_spec.specs.declared.BandKind.TheVariants.{Fixed, Feedback}
use Rattle.sheet_spec.specs.declared.Shape.{Shape}
use Rattle.sheet_spec.specs.declared.Record.TheVariants.{Head}
use Rattle.sheet_spec.specs.Layout.{head_fields}
use Rattle.sheet_spec.specs.File.{Small, records, record_start, marked}
use Rattle.sheet_spec.specs.Refusals.{unless_refused}
use Rattle.sheet_spec.specs.Sheet.{head_of, shape_of, refusal, values, zeros}
use Rattle.sheet_spec.proofs.Streams.{lt_or_le}
use Rattle.sheet_spec.proofs.Accepted.{head_named}
use Rattle.sheet_spec.proofs.Length.{cap_offset, file_length}
use Rattle.sheet_spec.proofs.Answers.{refused_beginning, refused_head, refused_size}
use Rattle.decision_spec.specs.Decision.{Reply, recovery_of, check_recovery, is_keep}
use Rattle.decision_spec.specs.Listing.{◌␣◌, newline, sheet_word, check_word, reply_text, sheet_line, question_lines, listing}
use Rattle.listing.specs.Limits.{longest_sheet}

-- the length grows with the counts, and a law adds to it
law_grows : {n m : ℕ} (b : BandKind) → n ≤ m → law_bytes b n ≤ law_bytes Feedback m
law_grows Fixed l = omega arith
law_grows Feedback l = omega arith

grows : {n m x y b c g k : ℕ} → n ≤ m → x ≤ y → b ≤ c → g ≤ k
    → 20 + 2 * n + b * (14 + x + n * (2 * n + 12)) + (2 + 8 * n) * (g + 1) ≤ 20 + 2 * m + c * (14 + y + m * (2 * m + 12)) + (2 + 8 * m) * (k + 1)
grows {n} {m} {x} {y} {b} {c} {g} {k} p l q r =
    let row : n * (2 * n + 12) ≤ m * (2 * m + 12) = mul-le-mul p (omega arith) in
    let band : b * (14 + x + n * (2 * n + 12)) ≤ c * (14 + y + m * (2 * m + 12)) = mul-le-mul q (omega arith) in
    let side : (2 + 8 * n) * (g + 1) ≤ (2 + 8 * m) * (k + 1) = mul-le-mul (omega arith) (omega arith) in
    omega arith

fits : (s : Shape) → Small s → record_start s (records s) ≤ longest_sheet
fits s m = rw file_length (grows m.vars (law_grows s.kind m.vars) m.bands m.boxes)

-- how a file that is longer is refused
abbrev too_long : Bool → List ℤ → ℕ
too_long begun h = elim begun [ true ↦ elim (bad head_fields h head_size) [ zero ↦ 5 | suc c ↦ suc c ] | false ↦ 1 ]

refused : (f : List ℕ) → longest_sheet < length f → too_long (marked f 0 Head) (head_of f) ≡ refusal f
unfolding shape_of
refused f l = go (marked f 0 Head) refl (bad head_fields (head_of f) head_size) refl
  where
    begins : (b : Bool) → marked f 0 Head ≡ b → leb 20 (length f) && marked f 0 Head ≡ b
    begins b e = rw (le-leb 20 (length f) (omega arith)) e

    go : (b : Bool) → marked f 0 Head ≡ b → (c : ℕ) → bad head_fields (head_of f) head_size ≡ c → too_long b (head_of f) ≡ refusal f
    go false e c q = refused_beginning f (begins false e)
    go true e zero q =
        let m = (head_named f q).0 in
        rw (q, too_long) (refused_size f (begins true e) (sym q) (λ z. let x : ⊥ = omega (arith, z, fits (shape_of f) m) in x))
    go true e (suc c) q = rw (q, too_long) (refused_head f (begins true e) (suc c) (sym q) (λ z. let x : ⊥ = omega arith in x))

-- ---- the first k bytes

piece : (f : List ℕ) (k w at : ℕ) → at + w ≤ k → take w (drop at (take k f)) ≡ take w (drop at f)
piece f k w zero h = take-take w k f (omega arith)
piece [] k w (suc at) h = rw take-nil
piece (x ∷ f) zero w (suc at) h = let z : ⊥ = omega arith in absurd z
piece (x ∷ f) (suc k) w (suc at) h = piece f k w at (omega arith)

filled_cut : (p : ℕ → Field) (f : List ℕ) (k at j : ℕ) (v : List ℤ) → at + offset p j ≤ k → filled p (take k f) at j v ≡ filled p f at j v
unfolding filled offset decoded
filled_cut p f k at zero v h = refl
filled_cut p f k at (suc j) v h =
    let e = piece f k (bytes_in (p j).kind) (at + offset p j) (omega arith) in
    rw (filled_cut p f k at j v (omega arith)) (ap (λ (bs : List ℕ). set (filled p f at j v) (p j).slot (number_of (p j).kind bs)) e)

never_none : (b : Bool) (h : List ℤ) → too_long b h ≡ 0 → ⊥
never_none b h = go b (bad head_fields h head_size)
  where
    go : (b : Bool) (c : ℕ) → ◌≡◌ {A = ℕ} (elim b [ true ↦ elim c [ zero ↦ 5 | suc c ↦ suc c ] | false ↦ 1 ]) 0 → ⊥
    go true zero z = omega arith
    go true (suc c) z = omega arith
    go false c z = omega arith

module _ (f : List ℕ) (k : ℕ) (l : longest_sheet < k) where
  head_cut : head_of (take k f) ≡ head_of f
  unfolding head_of
  head_cut = filled_cut head_fields f k 2 head_size zeros (omega (arith, cap_offset 0))

  mark_cut : marked (take k f) 0 Head ≡ marked f 0 Head
  unfolding marked
  mark_cut = rw (get_or-take k f 0 0 (omega arith), get_or-take k f 1 0 (omega arith))

  module _ (h : k < length f) where
    refusal_cut : refusal (take k f) ≡ refusal f
    refusal_cut =
        sym (refused (take k f) (simp length-take (omega arith)))
        ∙ ap (λ (b : Bool). too_long b (head_of (take k f))) mark_cut
        ∙ ap (too_long (marked f 0 Head)) head_cut
        ∙ refused f (omega arith)

    refuses : refusal f ≡ 0 → ⊥
    refuses e = never_none (marked f 0 Head) (head_of f) (refused f (omega arith) ∙ e)

-- ---- the listing

refused_listing : (f g : List ℕ) (c : ℕ) → refusal f ≡ suc c → listing f g ≡ (sheet_word ␣ reply_text check_word (Reply.refused (suc c))) ++ (newline ∷ []) ++ []
unfolding listing sheet_line check_recovery unless_refused is_keep
refused_listing f g c e =
    ap (λ (r : ℕ). let a = unless_refused r Reply.refused (recovery_of (values f)) in
    ((sheet_word ␣ reply_text check_word a) ++ (newline ∷ [])) ++ (elim (is_keep a) [ true ↦ question_lines f (length g) 1 g | false ↦ [] ])) e

pub listing_cut : (f g : List ℕ) (k : ℕ) → longest_sheet < k → listing (take k f) g ≡ listing f g
listing_cut f g k l = ⊎_elim (λ (h : k < length f). long h (refusal f) refl) (λ (h : length f ≤ k). ap (λ (x : List ℕ). listing x g) (take_all k f h)) (lt_or_le k (length f))
  where
    long : k < length f → (c : ℕ) → refusal f ≡ c → listing (take k f) g ≡ listing f g
    long h zero e = absurd (refuses f k l h e)
    long h (suc c) e = refused_listing (take k f) g c (refusal_cut f k l h ∙ e) ∙ sym (refused_listing f g c e)
