-- What is known of the ends of the plain law's commands over a working box. Assumes nothing.
use mathlib.Core.Path.{◌≡◌, refl, sym, ◌∙◌, subst}
use mathlib.Core.Bool.{Bool, true, false, cond}
use mathlib.Core.List.{List, [], ◌∷◌}
use mathlib.Core.Logic.{⊎_elim}
use Prim.Native.Nat.{ℕ, zero, suc, ◌+◌, ◌<◌, ◌≤◌}
use native.Mathlib.Nat.{eq-or-lt_of_le}
use native.Mathlib.Omega.{arith}
use lib.IntN.{ℤ, pos}
use lib.ListN.{set, replicate, get_or-replicate}
use lib.Seq.{get_or-set_other}
use lib.Signed.{◌<ℤ◌}
use Rattle.integers.proofs.Z.{ints, le_or_lt}
use Rattle.sheet_spec.specs.Limits.{max_bands}
use Rattle.sheet_spec.specs.Slots.{◌!◌, band_slot}
use Rattle.sheet_spec.specs.declared.BandKind.TheVariants.{Feedback}
use Rattle.sheet_spec.proofs.Box.{differ}
use Rattle.machine_spec.specs.Machine.{Machine, bands_of}
use Rattle.machine_spec.specs.Rate.{part}
use Rattle.boxes_rates.specs.Limits.{end_over}
use Rattle.boxes_rates.specs.Known.{Known, KnownAt, KnownAsked, Noted, NotedAll, end_count, end_place, unknown}

-- places of different bands, and the two of one band, differ
pub place_below : (e : Bool) (k : ℕ) → k < max_bands → end_place e k < end_count
place_below false k h = omega arith
place_below true k h = omega arith

places_differ : (e f : Bool) (j k : ℕ) → j < max_bands → k < max_bands → (j ≡ k → ⊥) → end_place e j ≡ end_place f k → ⊥
places_differ false false j k g h n q = n q
places_differ true true j k g h n q = n (omega (arith, q))
places_differ false true j k g h n q = omega (arith, q)
places_differ true false j k g h n q = omega (arith, q)

-- nothing more is known
pub noted_none : {shared : Bool} {v : List ℤ} {at k : ℕ} {P o : List ℤ} → KnownAsked shared v at k P o → Noted shared v k P o o
noted_none a = record { kept = λ _. refl; right = a.known; others = λ e j h n. refl }

-- what holds of a number and of what stands at a place holds of what stands there once the number is put there; the place may be out of reach
set_one : (Q : ℤ → Type 0) (xs : List ℤ) (i : ℕ) {z : ℤ} → Q z → Q (xs ! i) → Q (set xs i z ! i)
set_one Q [] i new old = old
set_one Q (x ∷ xs) zero new old = new
set_one Q (x ∷ xs) (suc i) new old = set_one Q xs i new old

-- x may stand in place of an end
abbrev Stands : Bool → List ℤ → ℕ → List ℤ → ℤ → Type 0
Stands e v k P x = x <ℤ pos unknown → x ≡ end_over Feedback e v k P

module _ {v : List ℤ} {k : ℕ} {P o : List ℤ} where
  -- an end of band k is known
  known_set : KnownAt v k P o → (e : Bool) {z : ℤ} → z ≡ end_over Feedback e v k P → KnownAt v k P (set o (end_place e k) z)
  known_set r false {z} q = record { right = by }
    where
      by : (f : Bool) → Stands f v k P (set o k z ! end_place f k)
      by false = set_one (Stands false v k P) o k (λ _. q) (r.right false)
      by true = subst (Stands true v k P) (sym (get_or-set_other o k (k + max_bands) z (pos 0) (λ u. omega (arith, u)))) (r.right true)
  known_set r true {z} q = record { right = by }
    where
      by : (f : Bool) → Stands f v k P (set o (k + max_bands) z ! end_place f k)
      by true = set_one (Stands true v k P) o (k + max_bands) (λ _. q) (r.right true)
      by false = subst (Stands false v k P) (sym (get_or-set_other o (k + max_bands) k z (pos 0) (λ u. omega (arith, u)))) (r.right false)

  -- and noted, if the ends are shared
  pub noted_end : k < max_bands → (shared : Bool) {at : ℕ} → KnownAsked shared v at k P o → (e : Bool) {z : ℤ} → z ≡ end_over Feedback e v k P → Noted shared v k P o (cond shared (set o (end_place e k) z) o)
  noted_end h false a e q = noted_none a
  noted_end h true a e {z} q =
      record {
        kept = λ u. absurd (differ refl u);
        right = λ _. known_set (a.known refl) e q;
        others = λ f j g n. get_or-set_other o (end_place e k) (end_place f j) z (pos 0) (places_differ f e j k g h n);
      }

-- ---- band by band, where B is the working box

-- where nothing is known, what is known is right
pub none_known : (m : Machine) (B : List ℤ) → bands_of m ≤ max_bands → Known m B (replicate end_count (pos unknown))
none_known m B few = record { at = λ k h. record { right = λ e l. absurd (not_below e k (omega (arith, h, few)) l) } }
  where
    not_below : (e : Bool) (k : ℕ) → k < max_bands → (replicate end_count (pos unknown) ! end_place e k) <ℤ pos unknown → ⊥
    not_below e k h l =
        let less : pos unknown <ℤ pos unknown = subst (λ (x : ℤ). x <ℤ pos unknown) (get_or-replicate end_count (end_place e k) (pos unknown) (pos 0) (place_below e k h)) l in
        omega (ints, less)

-- nothing is known but what was
pub noted_start : {shared : Bool} {m : Machine} {B o : List ℤ} → (shared ≡ true → Known m B o) → NotedAll shared m B o o
noted_start k = record { kept = λ _. refl; right = k }

-- what is known of band k may be looked up
pub known_asked : {shared : Bool} {m : Machine} {B o q : List ℤ} {at k : ℕ} {P : List ℤ} → NotedAll shared m B q o → at ≡ band_slot k → k < bands_of m → P ≡ part m k B → KnownAsked shared m.sheet at k P o
known_asked {m} {o} {k} a p h e = record { place = p; known = λ u. subst (λ (P : List ℤ). KnownAt m.sheet k P o) (sym e) ((a.right u).at k h) }

-- more is known of band k
module _ {shared : Bool} (m : Machine) (B : List ℤ) {o p : List ℤ} (room : bands_of m ≤ max_bands) (k : ℕ) {P : List ℤ} (e : P ≡ part m k B) (n : Noted shared m.sheet k P o p) where
  other : (j : ℕ) → j < bands_of m → (j ≡ k → ⊥) → KnownAt m.sheet j (part m j B) o → KnownAt m.sheet j (part m j B) p
  other j h d r = record { right = λ f. subst (λ (x : ℤ). x <ℤ pos unknown → x ≡ end_over Feedback f m.sheet j (part m j B)) (sym (n.others f j (omega (arith, h, room)) d)) (r.right f) }

  own : shared ≡ true → (j : ℕ) → j ≡ k → KnownAt m.sheet j (part m j B) p
  own u j c = subst (λ (i : ℕ). KnownAt m.sheet i (part m i B) p) (sym c) (subst (λ (P : List ℤ). KnownAt m.sheet k P p) e (n.right u))

  pub noted_on : {q : List ℤ} → NotedAll shared m B q o → NotedAll shared m B q p
  noted_on a =
      record {
        kept = λ u. n.kept u ∙ a.kept u;
        right = λ u. record {
          at = λ j h.
              ⊎_elim
              (λ below. ⊎_elim (λ c. own u j c) (λ l. other j h (λ c. omega (arith, c, l)) ((a.right u).at j h)) (eq-or-lt_of_le (omega (ints, below))))
              (λ above. other j h (λ c. omega (ints, above, c)) ((a.right u).at j h))
              (le_or_lt (pos j) (pos k));
        };
      }

-- after a face: if what was known was shared, over a box B that is the working box E, it is right, and otherwise it is what it was
pub known_after : (shared : Bool) {m : Machine} {B E o p : List ℤ} → (shared ≡ true → B ≡ E) → Known m E o → NotedAll shared m B o p → Known m E p
known_after true {m} {B} {E} {o} {p} e k n = subst (λ (F : List ℤ). Known m F p) (e refl) (n.right refl)
known_after false {m} {B} {E} {o} {p} e k n = subst (λ (l : List ℤ). Known m E l) (sym (n.kept refl)) k
