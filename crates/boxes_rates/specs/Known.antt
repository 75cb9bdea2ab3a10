-- The ends of the plain law's commands over the parts of a working box, as far as they are known: each is worked out once, for all faces whose
-- neighborhood is the whole working box.
use Rattle.std.specs.Prelude.{◌≡◌, Bool, true, false, List, ℕ, ◌+◌, ◌*◌, ◌<◌, ℤ, pos, ◌<ℤ◌}
use Rattle.sheet_spec.specs.Limits.{max_bands}
use Rattle.sheet_spec.specs.Slots.{◌!◌, band_slot}
use Rattle.sheet_spec.specs.declared.BandKind.TheVariants.{Feedback}
use Rattle.machine_spec.specs.Machine.{Machine, bands_of}
use Rattle.machine_spec.specs.Rate.{part}
use Rattle.boxes_rates.specs.Limits.{end_over}

-- how many ends there are
abbrev pub end_count : ℕ
end_count = 2 * max_bands

-- the place of band k's least (`false`) or greatest command
abbrev pub end_place : Bool → ℕ → ℕ
end_place false k = k
end_place true k = k + max_bands

-- what stands in place of an end that is not known
abbrev pub unknown : ℕ
unknown = 1000000

-- what is known of band k, whose part of the working box is P, is right
pub record KnownAt (v : List ℤ) (k : ℕ) (P o : List ℤ) : Type 0 where
  pub right : (e : Bool) → (o ! end_place e k) <ℤ pos unknown → (o ! end_place e k) ≡ end_over Feedback e v k P

-- and of every band, where B is the working box
pub record Known (m : Machine) (B o : List ℤ) : Type 0 where
  pub at : (k : ℕ) → k < bands_of m → KnownAt m.sheet k (part m k B) o

-- what is known of the band k at a slot may be looked up, if it is shared
pub record KnownAsked (shared : Bool) (v : List ℤ) (at k : ℕ) (P o : List ℤ) : Type 0 where
  pub place : at ≡ band_slot k
  pub known : shared ≡ true → KnownAt v k P o

-- of what was known, o, p is left: all of it, if it is not shared; otherwise more may be known of band k
pub record Noted (shared : Bool) (v : List ℤ) (k : ℕ) (P o p : List ℤ) : Type 0 where
  pub kept : shared ≡ false → p ≡ o
  pub right : shared ≡ true → KnownAt v k P p
  pub others : (e : Bool) (j : ℕ) → j < max_bands → (j ≡ k → ⊥) → (p ! end_place e j) ≡ (o ! end_place e j)

-- and of any band
pub record NotedAll (shared : Bool) (m : Machine) (B o p : List ℤ) : Type 0 where
  pub kept : shared ≡ false → p ≡ o
  pub right : shared ≡ true → Known m B p
