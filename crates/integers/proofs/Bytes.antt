-- Big-endian numbers, unsigned and in two's complement, at any width. Assumes nothing.
use mathlib.Core.Path.{◌≡◌, refl, sym, ap, ap₂, ◌∙◌, subst}
use mathlib.Core.List.{List, [], ◌∷◌}
use Prim.Native.Nat.{ℕ, zero, suc, ◌+◌, ◌*◌, ◌/◌, ◌%◌, ◌^◌, ◌≤◌, ◌<◌}
use native.Mathlib.Omega.{arith}
use native.Mathlib.Nat.{mod-one, mod-eq_of_lt, mod-lt, pow-suc, pow-succ'}
use lib.Arith.{digits_div, digits_mod, digits_lt, mod-mul}
use lib.ListN.{length, get_or, take, drop}
use lib.Seq.{drop-cons}
use native.Mathlib.Numerals.{towards_suc}
use lib.IntN.{ℤ}
use mir.Syntax.{Width, w8, w16, w32, w64, w128}
use mir.Val.{SFits, to_z, of_z, bits, bytes}
use mir.Facts.{to_z-of_z, of_z-to_z, Fits-of_z}
use Rattle.integers.specs.Bytes.{be, be_bytes, decode, encode, Bytes}

pow_pos : (k : ℕ) → 0 < 256 ^ k
pow_pos zero = omega arith
pow_pos (suc k) = rw pow-suc (omega (arith, pow_pos k))

pub length_be_bytes : (k n : ℕ) → length (be_bytes k n) ≡ k
unfolding be_bytes
length_be_bytes zero n = refl
length_be_bytes (suc k) n = ap suc (length_be_bytes k n)

pub be_lt : (bs : List ℕ) → Bytes bs → be bs < 256 ^ length bs
unfolding be
be_lt [] h = omega arith
be_lt (b ∷ bs) h = rw pow-succ' (digits_lt (h 0) (be_lt bs (λ k. h (suc k))))

pow_split : (n k : ℕ) → n % 256 ^ suc k ≡ (n / 256 ^ k % 256) * 256 ^ k + n % 256 ^ k
pow_split n k = ap (λ (x : ℕ). n % x) (pow-succ' 256 k) ∙ mod-mul n (omega arith) (pow_pos k)

pub be_of : (k n : ℕ) → be (be_bytes k n) ≡ n % 256 ^ k
unfolding be be_bytes
be_of zero n = sym (mod-one n)
be_of (suc k) n = ap₂ (λ (l r : ℕ). (n / 256 ^ k % 256) * 256 ^ l + r) (length_be_bytes k n) (be_of k n) ∙ sym (pow_split n k)

pub cong : (k m n : ℕ) → m % 256 ^ k ≡ n % 256 ^ k → be_bytes k m ≡ be_bytes k n
unfolding be_bytes
cong zero m n e = refl
cong (suc k) m n e =
    let c = pow_pos k in
    let f : (m / 256 ^ k % 256) * 256 ^ k + m % 256 ^ k ≡ (n / 256 ^ k % 256) * 256 ^ k + n % 256 ^ k = sym (pow_split m k) ∙ e ∙ pow_split n k in
    ap₂ ◌∷◌
    (sym (digits_div (m / 256 ^ k % 256) (mod-lt m c)) ∙ ap (λ (x : ℕ). x / 256 ^ k) f ∙ digits_div (n / 256 ^ k % 256) (mod-lt n c))
    (cong k m n (sym (digits_mod (m / 256 ^ k % 256) (mod-lt m c)) ∙ ap (λ (x : ℕ). x % 256 ^ k) f ∙ digits_mod (n / 256 ^ k % 256) (mod-lt n c)))

pub of_be : (bs : List ℕ) → Bytes bs → be_bytes (length bs) (be bs) ≡ bs
unfolding be be_bytes
of_be [] h = refl
of_be (b ∷ bs) h =
    let t : Bytes bs = λ k. h (suc k) in
    let r = be_lt bs t in
    ap₂ ◌∷◌
    (ap (λ (x : ℕ). x % 256) (digits_div b r) ∙ mod-eq_of_lt (h 0))
    (cong (length bs) _ _ (digits_mod b r ∙ sym (mod-eq_of_lt r)) ∙ of_be bs t)

pow_bytes : (w : Width) → 256 ^ bytes w ≡ 2 ^ bits w
pow_bytes w8 = refl
pow_bytes w16 = refl
pow_bytes w32 = refl
pow_bytes w64 = refl
pow_bytes w128 = refl

pub decode_encode : (w : Width) (z : ℤ) → SFits w z → decode w (encode w z) ≡ z
unfolding decode encode
decode_encode w z h =
    ap (to_z w) (be_of (bytes w) (of_z w z) ∙ mod-eq_of_lt (subst (λ (n : ℕ). of_z w z < n) (sym (pow_bytes w)) (Fits-of_z h).fits)) ∙ to_z-of_z h

pub encode_decode : (w : Width) (bs : List ℕ) → length bs ≡ bytes w → Bytes bs → encode w (decode w bs) ≡ bs
unfolding decode encode
encode_decode w bs e h =
    ap (be_bytes (bytes w)) (of_z-to_z {w = w} (record { fits = subst (λ (n : ℕ). be bs < n) (ap (λ (k : ℕ). 256 ^ k) e ∙ pow_bytes w) (be_lt bs h) })) ∙ rw (← e) (of_be bs h)

-- the element at a place of a list, written out
pub two : (s : List ℕ) (at : ℕ) → at + 2 ≤ length s → take 2 (drop at s) ≡ get_or s at 0 ∷ (get_or s (at + 1) 0 ∷ [])
two s at h = simp towards_suc (rw (drop-cons s at 0 (omega arith), drop-cons s (suc at) 0 (omega arith)))

pub four : (s : List ℕ) (at : ℕ) → at + 4 ≤ length s → take 4 (drop at s) ≡ get_or s at 0 ∷ (get_or s (at + 1) 0 ∷ (get_or s (at + 2) 0 ∷ (get_or s (at + 3) 0 ∷ [])))
four s at h =
    simp towards_suc
    (rw (drop-cons s at 0 (omega arith), drop-cons s (suc at) 0 (omega arith), drop-cons s (suc (suc at)) 0 (omega arith), drop-cons s (suc (suc (suc at))) 0 (omega arith)))

pub be_two : (s : List ℕ) (at : ℕ) → at + 2 ≤ length s → be (take 2 (drop at s)) ≡ get_or s at 0 * 256 + get_or s (at + 1) 0
unfolding be
be_two s at h = rw (two s at h) (omega arith)

pub be_four : (s : List ℕ) (at : ℕ) → at + 4 ≤ length s → be (take 4 (drop at s)) ≡ get_or s at 0 * 16777216 + get_or s (at + 1) 0 * 65536 + get_or s (at + 2) 0 * 256 + get_or s (at + 3) 0
unfolding be
be_four s at h = rw (four s at h) (omega arith)
