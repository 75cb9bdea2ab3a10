-- Laws about the outermost of many, and about the commands that a law offers. Assumes nothing.
use mathlib.Core.Path.{◌≡◌, refl, ap}
use mathlib.Core.Bool.{Bool}
use mathlib.Core.List.{List}
use Prim.Native.Nat.{ℕ, ◌+◌}
use native.Mathlib.Numerals.{add-one}
use lib.IntN.{ℤ}
use Rattle.sheet_spec.specs.Slots.{band_kind}
use Rattle.sheet_spec.specs.declared.BandKind.{BandKind}
use Rattle.machine_spec.specs.declared.Law.{Law}
use Rattle.machine_spec.specs.declared.Law.TheVariants.{Baseline, Span}
use Rattle.machine_spec.specs.Machine.{machine, span_end}
use Rattle.machine_spec.specs.Rate.{outer, outermost, offered_over}
use Rattle.boxes_rates.specs.Limits.{end_over}

pub outermost_more : (up : Bool) (z : ℤ) (n : ℕ) (f : ℕ → ℤ) → outermost up z (n + 1) f ≡ outer up (outermost up z n f) (f n)
unfolding outermost
outermost_more up z n f = rw add-one refl

-- the bounds of the commands that the law offers in band k
module _ {l : Law} (up : Bool) (v : List ℤ) (k : ℕ) (B : List ℤ) where
  -- under the plain law those of the kind of its bands
  pub over_plain : {b : BandKind} → l ≡ Baseline → band_kind v ≡ b → offered_over up (machine v l) k B ≡ end_over b up v k B
  unfolding offered_over
  over_plain e q = rw e (ap (λ (b : BandKind). end_over b up v k B) q)

  -- in a span its own ends
  pub over_span : {a b : ℤ} → l ≡ Span a b → offered_over up (machine v l) k B ≡ span_end up a b
  unfolding offered_over
  over_span e = rw e refl
