-- Text put into a line's bytes piece by piece. Assumes nothing.
use Rattle.std.proofs.Common.{◌≡◌, refl, sym, ap, subst, ◌∙◌, List, ◌++◌, ℕ, ◌+◌, ◌-◌, ◌≤◌, length, take, drop, append_assoc, arith}
use Rattle.std.proofs.Math.Seq.{sets, sets-eq}
use Rattle.std.proofs.lemmas.List.Edits.{paste_all}
use Rattle.std.proofs.lemmas.Slice.{put_mid-paste}
use borrow.Rule.Slice.PartMut.{put_mid}
use lib.ListN.{length-append}
use Rattle.integers.proofs.Lists.{sets_append}
use Rattle.listing_text.specs.Limits.{Put}

pub then : {s t l m r : List ℕ} {at k e : ℕ} → Put s l at m k → Put t m k r e → Put (s ++ t) l at r e
then {s} {t} {l} {m} {r} {at} {k} {e} p q =
    record {
      ends = rw length-append (omega (arith, p.ends, q.ends));
      is = q.is ∙ ap (λ (x : List ℕ). sets x k t) p.is ∙ ap (λ (x : ℕ). sets (sets l at s) x t) p.ends ∙ sets_append l at s t;
    }

-- an equal text
pub put_as : {s t l m : List ℕ} {at e : ℕ} → s ≡ t → Put s l at m e → Put t l at m e
put_as {s} {t} {l} {m} {at} {e} = subst (λ (text : List ℕ). Put text l at m e)

-- the text was copied to a part of the bytes
pub copied : (text l part : List ℕ) (at : ℕ) → at + length text ≤ length l → part ≡ text
    → Put text l at (put_mid at (at + length text - at) l part) (at + length text)
copied text l part at h e =
    record {
      ends = refl;
      is =
          put_mid-paste at (at + length text - at) l part text (length text) e (omega arith) refl
          ∙ paste_all l at text (length text) refl
          ∙ sym (sets-eq text l at h ∙ append_assoc (take at l) text (drop (at + length text) l));
    }
