-- The recovery box of an accepted sheet has 0 at places that no variable has. Assumes nothing.
use mathlib.Core.Path.{◌≡◌, sym, ◌∙◌}
use mathlib.Core.Logic.{⊎_elim}
use mathlib.Core.List.{List}
use Prim.Native.Nat.{ℕ, zero, suc, ◌+◌, ◌*◌, ◌-◌, ◌≤◌, ◌<◌}
use native.Mathlib.Omega.{arith}
use lib.IntN.{ℤ, pos}
use lib.ListN.{set, drop, length, length-take, length-drop, get_or-replicate}
use lib.Seq.{ext_get_or, get_or-set_other}
use Rattle.sheet_spec.specs.Slots.{◌!◌, N, box_size, vars, recovery_slot, recovery_box}
use Rattle.sheet_spec.specs.Sheet.{refusal, values}
use Rattle.sheet_spec.specs.Valid.{ValidNumbers}
use Rattle.sheet_spec.proofs.Streams.{lt_or_le}
use Rattle.sheet_spec.proofs.Valid.{valid_numbers, recovery_beyond}
use Rattle.sheet_spec.specs.Box.{lo, hi}
use Rattle.machine_spec.specs.Box.{box_of, trim}
use Rattle.sheet_spec.proofs.Box.{box_at_lem}
use Rattle.machine_spec.proofs.Box.{sides_length, sides_lo, sides_hi}

-- variable i has the slots i + q·N of a box: its lower side with q = 0, its upper side with q = 1

sides_none : (n : ℕ) (lower upper : ℕ → ℤ) (slot : ℕ) → slot < box_size → ((i : ℕ) → i < n → (slot ≡ i → ⊥) × (slot ≡ i + N → ⊥)) → box_of n lower upper ! slot ≡ pos 0
unfolding box_of
sides_none zero lower upper slot in-box none = get_or-replicate box_size slot (pos 0) (pos 0) in-box
sides_none (suc n) lower upper slot in-box none =
    let not-n = none n (omega arith) in
    get_or-set_other (set (box_of n lower upper) n (lower n)) (n + N) slot (upper n) (pos 0) not-n.1 ∙ get_or-set_other (box_of n lower upper) n slot (lower n) (pos 0) not-n.0
    ∙ sides_none n lower upper slot in-box (λ i i<n. none i (omega arith))

module _ (n : ℕ) (B : List ℤ) (room : n ≤ N) (beyond : (i q slot : ℕ) → n ≤ i → i < N → q < 2 → slot ≡ i + q * N → B ! slot ≡ pos 0) where
  abbrev trimmed : List ℤ
  trimmed = box_of n (lo B) (hi B)

  same : (i q slot : ℕ) → i < N → q < 2 → slot ≡ i + q * N → (i < n → trimmed ! slot ≡ B ! slot) → trimmed ! slot ≡ B ! slot
  same i q slot i<N q<2 is inside =
      ⊎_elim inside (λ (n≤i : n ≤ i). sides_none n _ _ slot (omega arith) (λ j j<n. (λ e. omega arith, λ e. omega arith)) ∙ sym (beyond i q slot n≤i i<N q<2 is)) (lt_or_le i n)

  same_at : (slot : ℕ) → slot < length trimmed → trimmed ! slot ≡ B ! slot
  same_at slot below =
      ⊎_elim (λ (low : slot < N). same slot 0 slot low (omega arith) (omega arith) (sides_lo (lo B) (hi B) n slot room))
      (λ (high : N ≤ slot).
      let back : slot - N + N ≡ slot = omega arith in
      rw back at (same (slot - N) 1 (slot - N + N) (omega (arith, sides_length n (lo B) (hi B))) (omega arith) (omega arith) (sides_hi (lo B) (hi B) n (slot - N) room)))
      (lt_or_le slot N)

  trim_same : length B ≡ box_size → trim n B ≡ B
  unfolding trim
  trim_same size = ext_get_or (pos 0) trimmed B (sides_length n _ _ ∙ sym size) same_at

module _ (f : List ℕ) (passed : refusal f ≡ 0) where
  abbrev v : List ℤ
  v = values f

  sheet : ValidNumbers v
  sheet = valid_numbers f passed

  beyond : (i q slot : ℕ) → vars v ≤ i → i < N → q < 2 → slot ≡ i + q * N → recovery_box v ! slot ≡ pos 0
  beyond i q slot vars≤i i<N q<2 is =
      let place : recovery_slot + slot ≡ recovery_slot + i + q * N = omega arith in
      box_at_lem v recovery_slot slot (omega arith) ∙ rw place (recovery_beyond f passed i q vars≤i i<N q<2)

  pub recovery_trimmed : trim (vars v) (recovery_box v) ≡ recovery_box v
  recovery_trimmed =
      trim_same (vars v) (recovery_box v) (omega (arith, sheet.vars_high)) beyond (omega (arith, length-take box_size (drop recovery_slot v), length-drop recovery_slot v, sheet.size))
