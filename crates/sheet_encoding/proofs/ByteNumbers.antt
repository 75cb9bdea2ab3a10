-- Numbers in a file, as the code reads and writes them. Assumes nothing.
use mathlib.Core.Path.{◌≡◌, refl, sym, ap, ◌∙◌}
use mathlib.Core.List.{List, ◌∷◌, append_assoc}
use Prim.Native.Nat.{ℕ, zero, suc, ◌+◌, ◌-◌, ◌/◌, ◌%◌, ◌^◌, ◌≤◌}
use native.Mathlib.Nat.{div-one}
use native.Mathlib.Omega.{arith}
use lib.IntN.{ℤ}
use mir.Syntax.{w32}
use mir.Val.{SFits, to_z, of_z}
use mir.Facts.{to_z-of_z}
use lib.ListN.{length, get_or, take, drop}
use lib.Seq.{drop-cons, sets, sets-eq}
use borrow.Rule.Slice.PartMut.{put_mid}
use Rattle.std.proofs.lemmas.List.Edits.{paste_all}
use Rattle.std.proofs.lemmas.Slice.{put_mid-paste}
use Rattle.std.specs.Int.{bytes_high_first}
use Rattle.integers.specs.Bytes.{be, be_bytes}
use Rattle.sheet_spec.specs.Fields.{u8, bytes_in}

pub be_one : (s : List ℕ) (at : ℕ) → at + bytes_in u8 ≤ length s → be (take (bytes_in u8) (drop at s)) ≡ get_or s at 0
unfolding be
be_one s at h = rw (drop-cons s at 0 (omega arith)) (omega arith)

-- the last k bytes of n, as the library has them
last_bytes : (k n : ℕ) → bytes_high_first k n ≡ be_bytes k n
unfolding be_bytes
last_bytes zero n = refl
last_bytes (suc zero) n = rw div-one refl
last_bytes (suc (suc k)) n = ap (λ (bs : List ℕ). n / 256 ^ suc k % 256 ∷ bs) (last_bytes (suc k) n)

-- and those of a number x in 32 bits
pub number_bytes : (k : ℕ) {x : ℤ} → SFits w32 x → bytes_high_first k (of_z w32 (to_z w32 (of_z w32 x))) ≡ be_bytes k (of_z w32 x)
number_bytes k {x} fits = ap (λ (z : ℤ). bytes_high_first k (of_z w32 z)) (to_z-of_z fits) ∙ last_bytes k (of_z w32 x)

-- k bytes bs, copied to a place of s
pub placed : (s copied bs : List ℕ) (at k : ℕ) → length bs ≡ k → at + k ≤ length s → copied ≡ bs → put_mid at (at + k - at) s copied ≡ sets s at bs
placed s copied bs at k size room is =
    put_mid-paste at (at + k - at) s copied bs (length bs) is (omega arith) refl ∙ paste_all s at bs (length bs) refl ∙ sym (append_assoc (take at s) bs _) ∙ sym (sets-eq bs s at (omega arith))
