-- `significand`: the definition by whether the exponent's field is 0. Assumes nothing.
use Rattle.std.proofs.Common.{◌≡◌, ℕ, zero, suc, ◌+◌, refl, sym, arith}
use Rattle.readings_spec.specs.FromBits.{leading, significand}
use Rattle.readings.proofs.significand.Goals as goal

without : (x t : ℕ) → x ≡ 0 → significand x t ≡ t
unfolding significand
without x t e = rw e refl

with_one : (x t : ℕ) → (x ≡ 0 → ⊥) → significand x t ≡ leading + t
unfolding significand
with_one zero t h = absurd (h refl)
with_one (suc x) t h = refl

pub returns-then-exponent-eq0 : goal.returns-then-exponent-eq0
returns-then-exponent-eq0 c = (sym (without _ _ c.if-exponent-eq0.true), omega arith)

pub returns : goal.returns
returns c = (sym (with_one _ _ c.if-exponent-eq0.false), omega arith)
