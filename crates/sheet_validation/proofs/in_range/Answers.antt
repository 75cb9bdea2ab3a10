-- `in_range`: the test of a field. Assumes nothing.
use Rattle.std.proofs.Common.{◌≡◌, ◌∙◌, sym, List, ℕ, ℤ, ◌≤ℤ◌, ◌<ℤ◌, rules, w64, FitsSigned}
use Rattle.integers.proofs.Z.{ints}
use Rattle.sheet_spec.proofs.Tests.{test_high, test_low, test_passed}
use Rattle.sheet_spec.specs.Fields.{Field, test}
use Rattle.sheet_spec.specs.Refusals.{number}
use Rattle.sheet_spec.specs.Slots.{◌!◌}
use Rattle.sheet_validation.proofs.in_range.Goals.{else-least-z-via-then-least-z+else-z-greatest, else-least-z-via-else-least-z}
use Rattle.sheet_validation.proofs.in_range.Goals as goal

-- the field p's slot and range are these
module _ (v : List ℤ) (p : Field) {slot : ℕ} {least greatest : ℤ} (s : p.slot ≡ slot) (l : p.least v ≡ least) (g : p.greatest v ≡ greatest) where
  below : v ! slot <ℤ least → number p.cause ≡ test v p
  below a = test_low v p (rw (s, l) a)

  above : least ≤ℤ v ! slot → greatest <ℤ v ! slot → number p.cause ≡ test v p
  above a b = test_high v p (rw (s, l) a) (rw (s, g) b)

  inside : least ≤ℤ v ! slot → v ! slot ≤ℤ greatest → 0 ≡ test v p
  inside a b = test_passed v p (record { low = rw (s, l) a; high = rw (s, g) b })

pub returns-then-z-greatest : goal.returns-then-z-greatest
returns-then-z-greatest c =
    let f : FitsSigned w64 c.value-z.result = search rules in
    let e = c.value-z.ensures.0 in
    λ p s l g k. inside c.args.v.now p s l g (omega ints) (omega ints)

pub returns : goal.returns
returns c =
    let f : FitsSigned w64 c.value-z.result = search rules in
    let e = c.value-z.ensures.0 in
    let v = c.args.v.now in
    λ p s l g k.
    sym k
    ∙ elim c.else-least-z.branch [
      | else-least-z-via-then-least-z+else-z-greatest w ↦ above v p s l g (omega ints) (omega ints)
      | else-least-z-via-else-least-z w ↦ below v p s l g (omega ints)
    ]
