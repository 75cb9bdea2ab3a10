-- A decision that is not spent is the same reply as a recovery check's. Assumes nothing.
use Rattle.std.specs.Prelude.{◌≡◌, ℕ}
use Rattle.std.proofs.Common.{refl}
use Rattle.decision_spec.specs.Decision.{keep, finest, spent, Reply, answered, refused}
use Rattle.decision_answers.specs.Recovery.{as_check}

pub as_check_unspent : (r : Reply) → ((w c : ℕ) → r ≡ answered spent w c → ⊥) → as_check r ≡ r
unfolding as_check
as_check_unspent (answered keep w c) unspent = refl
as_check_unspent (answered finest w c) unspent = refl
as_check_unspent (answered spent w c) unspent = absurd (unspent w c refl)
as_check_unspent (refused n) unspent = refl
