-- A number's bytes: what was written is read so, and what was read is written so. The same for the numbers of a record. Assumes nothing.
use mathlib.Core.Path.{◌≡◌, refl, sym, ap, ap₂, ◌∙◌}
use mathlib.Core.List.{List, [], ◌∷◌, ◌++◌, append_assoc}
use mathlib.Core.Logic.{⊎_elim}
use Prim.Native.Nat.{ℕ, zero, suc, ◌+◌, ◌%◌, ◌^◌, ◌≤◌, ◌<◌}
use native.Mathlib.Omega.{arith}
use native.Mathlib.Nat.{mod-eq_of_lt, eq-or-lt_of_le}
use lib.IntN.{ℤ, pos, negsuc}
use lib.ListN.{take, drop, length, length-append, length-drop}
use lib.Seq.{take_at, drop_at, take-add, drop-drop, get_or-drop, length-take-le}
use mir.Syntax.{w16, w32}
use mir.Val.{SFits, Fits, to_z, of_z}
use mir.Facts.{of_z-to_z, sfits_to_z}
use Rattle.integers.specs.Bytes.{be, be_bytes, decode, encode, Bytes}
use Rattle.integers.proofs.Bytes.{be_of, be_lt, of_be, length_be_bytes, encode_decode, decode_encode, cong}
use Rattle.integers.proofs.Z.{ints, flat}
use Rattle.sheet_spec.specs.Slots.{◌!◌}
use Rattle.sheet_spec.specs.Valid.{Between}
use Rattle.sheet_spec.specs.Fields.{Kind, u8, u16, i16, i32, Field, bytes_in, number_of, decoded, encoded, offset, coded}
use Rattle.sheet_spec.proofs.Streams.{Each}
use Rattle.sheet_spec.proofs.Ranges.{Fit, FieldFits}

-- ---- a number

bytes_take : (m : ℕ) (bs : List ℕ) → Bytes bs → Bytes (take m bs)
bytes_take zero bs h k = omega arith
bytes_take (suc m) [] h k = omega arith
bytes_take (suc m) (b ∷ bs) h zero = h 0
bytes_take (suc m) (b ∷ bs) h (suc k) = bytes_take m bs (λ j. h (suc j)) k

bytes_drop : (m : ℕ) (bs : List ℕ) → Bytes bs → Bytes (drop m bs)
bytes_drop m bs h k = rw (get_or-drop m bs k 0) (h (m + k))

-- the last two bytes of 32 bits are those of 16
half : (z : ℤ) → SFits w16 z → be_bytes (bytes_in i16) (of_z w32 z) ≡ be_bytes (bytes_in i16) (of_z w16 z)
half z h = cong (bytes_in i16) (of_z w32 z) (of_z w16 z) (go z h)
  where
    go : (z : ℤ) → SFits w16 z → of_z w32 z % 65536 ≡ of_z w16 z % 65536
    go (pos n) h = refl
    go (negsuc n) h = omega (arith, h.sfits)

back : (m : ℕ) (bs : List ℕ) → m ≤ length bs → Bytes bs → be_bytes m (be (take m bs)) ≡ take m bs
back m bs l h = ap (λ (k : ℕ). be_bytes k (be (take m bs))) (sym (length-take-le m bs l)) ∙ of_be (take m bs) (bytes_take m bs h)

pub encoded_decoded : (k : Kind) (bs : List ℕ) → bytes_in k ≤ length bs → Bytes bs → encoded k (decoded k bs) ≡ take (bytes_in k) bs
unfolding encoded decoded decode encode
encoded_decoded u8 bs l h = back (bytes_in u8) bs l h
encoded_decoded u16 bs l h = back (bytes_in u16) bs l h
encoded_decoded i16 bs l h =
    let f : Fits w16 (be (take (bytes_in i16) bs)) = record { fits = omega (arith, be_lt (take (bytes_in i16) bs) (bytes_take (bytes_in i16) bs h), ap (λ (k : ℕ). 256 ^ k) (length-take-le (bytes_in i16) bs l)) } in
    half (to_z w16 (be (take (bytes_in i16) bs))) (sfits_to_z f) ∙ ap (be_bytes (bytes_in i16)) (of_z-to_z f) ∙ back (bytes_in i16) bs l h
encoded_decoded i32 bs l h = encode_decode w32 (take (bytes_in i32) bs) (length-take-le (bytes_in i32) bs l) (bytes_take (bytes_in i32) bs h)

pub length_encoded : (k : Kind) (z : ℤ) → length (encoded k z) ≡ bytes_in k
unfolding encoded
length_encoded k z = length_be_bytes (bytes_in k) (of_z w32 z)

unsigned : (m : ℕ) (z : ℤ) (B : ℕ) → 256 ^ m ≡ suc B → Between (pos 0) (pos B) z → pos (be (be_bytes m (of_z w32 z))) ≡ z
unsigned m (pos n) B e r = ap pos (be_of m n ∙ mod-eq_of_lt (rw e (omega (ints, r.high))))
unsigned m (negsuc n) B e r = absurd r.low.le

own : (k : Kind) (z : ℤ) → Fit k z → number_of k (encoded k z) ≡ z
unfolding encoded decode encode
own u8 z r = unsigned (bytes_in u8) z 255 refl r
own u16 z r = unsigned (bytes_in u16) z 65535 refl r
own i16 z r = let f : SFits w16 z = simp flat (omega (ints, r.low, r.high)) in ap (λ (bs : List ℕ). to_z w16 (be bs)) (half z f) ∙ decode_encode w16 z f
own i32 z r = decode_encode w32 z (simp flat (omega (ints, r.low, r.high)))

pub decoded_encoded : (k : Kind) (z : ℤ) (rest : List ℕ) → Fit k z → decoded k (encoded k z ++ rest) ≡ z
unfolding decoded
decoded_encoded k z rest r = ap (number_of k) (take_at (encoded k z) rest (bytes_in k) (length_encoded k z)) ∙ own k z r

-- ---- the first k fields of a record

module _ (p : ℕ → Field) (v : List ℤ) where
  pub length_coded : (k : ℕ) → length (coded p v k) ≡ offset p k
  unfolding coded offset
  length_coded zero = refl
  length_coded (suc k) =
      length-append (coded p v k) (encoded (p k).kind (v ! (p k).slot)) ∙ ap₂ ◌+◌ (length_coded k) (length_encoded (p k).kind (v ! (p k).slot))

  -- values that f says are written as f's bytes
  pub coded_read : (f : List ℕ) (at k : ℕ) → Bytes f → at + offset p k ≤ length f
      → ((j : ℕ) → j < k → v ! (p j).slot ≡ decoded (p j).kind (drop (at + offset p j) f)) → coded p v k ≡ take (offset p k) (drop at f)
  unfolding coded offset
  coded_read f at zero b l h = refl
  coded_read f at (suc k) b l h =
      ap₂ ◌++◌ (coded_read f at k b (omega arith) (λ j q. h j (omega arith)))
      (ap (encoded (p k).kind) (h k (omega arith))
      ∙ encoded_decoded (p k).kind (drop (at + offset p k) f) (omega (arith, length-drop (at + offset p k) f)) (bytes_drop (at + offset p k) f b)
      ∙ ap (take (bytes_in (p k).kind)) (sym (drop-drop (offset p k) at f)))
      ∙ sym (take-add (offset p k) (bytes_in (p k).kind) (drop at f))

  -- values that were written are what the file says
  pub read_coded : (at k : ℕ) (pre post : List ℕ) → length pre ≡ at → Each (FieldFits v) p k
      → (j : ℕ) → j < k → v ! (p j).slot ≡ decoded (p j).kind (drop (at + offset p j) (pre ++ (coded p v k ++ post)))
  unfolding coded
  read_coded at zero pre post e h j l = absurd (let z : ⊥ = omega arith in z)
  read_coded at (suc k) pre post e h j l =
      let last = encoded (p k).kind (v ! (p k).slot) in
      ⊎_elim
      (λ (q : j ≡ k).
      rw q
      (sym (decoded_encoded (p k).kind (v ! (p k).slot) post (h.at k (omega arith)))
      ∙ ap (decoded (p k).kind) (sym (drop_at (pre ++ coded p v k) (last ++ post) (at + offset p k) (length-append pre (coded p v k) ∙ ap₂ ◌+◌ e (length_coded k))))
      ∙ ap (λ (f : List ℕ). decoded (p k).kind (drop (at + offset p k) f)) (simp append_assoc)))
      (λ (q : j < k).
      read_coded at k pre (last ++ post) e (record { at = λ j q. h.at j (omega arith) }) j q
      ∙ ap (λ (f : List ℕ). decoded (p j).kind (drop (at + offset p j) (pre ++ f))) (sym (append_assoc (coded p v k) last post)))
      (let m : j ≤ k = omega arith in eq-or-lt_of_le m)
