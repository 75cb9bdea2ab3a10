-- Numbers as bytes: how many bytes they have, and that they are read back. Assumes nothing.
use mathlib.Core.Path.{◌≡◌, refl, sym, ap, ◌∙◌, subst}
use mathlib.Core.List.{List, [], ◌∷◌, ◌++◌, append-nil}
use mathlib.Core.Logic.{⊎_elim}
use Prim.Native.Nat.{ℕ, zero, suc, ◌+◌, ◌*◌, ◌/◌, ◌≤◌, ◌<◌}
use native.Mathlib.Nat.{eq-or-lt_of_le}
use native.Mathlib.Omega.{arith}
use lib.IntN.{ℤ, pos}
use lib.ListN.{drop, length, length-append, get_or-append}
use lib.Seq.{get_or-append-add}
use Rattle.integers.specs.Bytes.{be_bytes}
use Rattle.sheet_spec.specs.Slots.{◌!◌}
use Rattle.sheet_spec.specs.Refusals.{Cause}
use Rattle.sheet_spec.specs.Fields.{i32, Field, decoded, encoded, offset, coded}
use Rattle.sheet_spec.specs.Box.{lo, hi}
use Rattle.sheet_spec.proofs.Ranges.{Fit}
use Rattle.sheet_spec.proofs.Numbers.{read_coded}
use Rattle.decision_spec.specs.Numbers.{number_bytes, sides_of}

-- ---- numbers to bytes

pub bytes_length : (zs : List ℤ) (k : ℕ) → length (number_bytes zs k) ≡ 4 * k
unfolding number_bytes encoded be_bytes
bytes_length zs zero = refl
bytes_length zs (suc k) = omega (arith, length-append (number_bytes zs k) (encoded i32 (zs ! k)), bytes_length zs k)

-- the numbers are the fields of a record in which number j has slot j
abbrev number_field : ℕ → Field
number_field j = record { kind = i32; slot = j; least = λ v. pos 0; greatest = λ v. pos 0; cause = Cause.start }

as_fields : (zs : List ℤ) (k : ℕ) → coded number_field zs k ≡ number_bytes zs k
unfolding coded number_bytes
as_fields zs zero = refl
as_fields zs (suc k) = ap (λ (bs : List ℕ). bs ++ encoded i32 (zs ! k)) (as_fields zs k)

four_each : (k : ℕ) → offset number_field k ≡ 4 * k
unfolding offset
four_each zero = refl
four_each (suc k) = omega (arith, four_each k)

-- number j, behind any bytes
pub number_at : (pre : List ℕ) (zs : List ℤ) (k : ℕ) → ((j : ℕ) → j < k → Fit i32 (zs ! j))
    → (j : ℕ) → j < k → decoded i32 (drop (length pre + 4 * j) (pre ++ number_bytes zs k)) ≡ zs ! j
number_at pre zs k fit j l =
    ap (λ (a : ℕ). decoded i32 (drop (length pre + a) (pre ++ number_bytes zs k))) (sym (four_each j))
    ∙ ap (λ (bs : List ℕ). decoded i32 (drop (length pre + offset number_field j) (pre ++ bs))) (sym (as_fields zs k) ∙ sym (append-nil (coded number_field zs k)))
    ∙ sym (read_coded number_field zs (length pre) k pre [] refl (record { at = fit }) j l)

-- ---- sides to numbers

pub sides_length : (n : ℕ) (B : List ℤ) → length (sides_of n B) ≡ 2 * n
unfolding sides_of
sides_length zero B = refl
sides_length (suc n) B = omega (arith, length-append (sides_of n B) (lo B n ∷ hi B n ∷ []), sides_length n B)

-- lower and upper side of variable i
pub sides_at_lem : (n : ℕ) (B : List ℤ) (i : ℕ) → i < n → (sides_of n B ! (2 * i) ≡ lo B i) × (sides_of n B ! (2 * i + 1) ≡ hi B i)
unfolding sides_of
sides_at_lem zero B i l = absurd (let z : ⊥ = omega arith in z)
sides_at_lem (suc n) B i l =
    let last = lo B n ∷ hi B n ∷ [] in
    let size = sides_length n B in
    ⊎_elim
    (λ (q : i ≡ n).
    let e : 2 * n ≡ length (sides_of n B) + 0 = omega (arith, size) in
    let e' : 2 * n + 1 ≡ length (sides_of n B) + 1 = omega (arith, size) in
    rw q (rw e (get_or-append-add (sides_of n B) last 0 (pos 0)), rw e' (get_or-append-add (sides_of n B) last 1 (pos 0))))
    (λ (q : i < n).
    let a = sides_at_lem n B i q in
    (get_or-append (sides_of n B) last (pos 0) (2 * i) (omega (arith, size)) ∙ a.0, get_or-append (sides_of n B) last (pos 0) (2 * i + 1) (omega (arith, size)) ∙ a.1))
    (let m : i ≤ n = omega arith in eq-or-lt_of_le m)

-- what holds of every side holds of every number
pub sides_each : (P : ℤ → Type 0) (n : ℕ) (B : List ℤ) → ((i : ℕ) → i < n → P (lo B i) × P (hi B i)) → (j : ℕ) → j < 2 * n → P (sides_of n B ! j)
sides_each P n B h j l =
    let i = j / 2 in
    let few : i < n = omega arith in
    let at = sides_at_lem n B i few in
    ⊎_elim
    (λ (q : 2 * i ≡ j). subst (λ (k : ℕ). P (sides_of n B ! k)) q (subst P (sym at.0) (h i few).0))
    (λ (q : 2 * i < j). let e : 2 * i + 1 ≡ j = omega arith in subst (λ (k : ℕ). P (sides_of n B ! k)) e (subst P (sym at.1) (h i few).1))
    (let m : 2 * i ≤ j = omega arith in eq-or-lt_of_le m)
