-- A sheet's value is one flat list of numbers. This file says at which place (slot) each number is, and names it.
-- N is the greatest number of variables that there is room for. What lies beyond the sheet's counts is 0 and counts for nothing.
use Rattle.std.specs.Prelude.{List, ℕ, zero, suc, ◌+◌, ◌*◌, ℤ, pos, negsuc, nat_abs, get_or, take, drop}
use Rattle.sheet_spec.specs.Limits.{max_bands, max_boxes}
use Rattle.sheet_spec.specs.declared.BandKind.{BandKind}
use Rattle.sheet_spec.specs.declared.BandKind.TheVariants.{Fixed, Feedback}

infixl 90 ◌!◌
abbrev pub ◌!◌ : List ℤ → ℕ → ℤ
xs ! i = get_or xs i (pos 0)

abbrev pub N : ℕ
N = 6

-- ---- slots

-- the head: n, bands, no-go boxes, band variable, δ, α, ρ, least and greatest command
abbrev pub vars_slot : ℕ
vars_slot = 0

abbrev pub bands_slot : ℕ
bands_slot = 1

abbrev pub boxes_slot : ℕ
boxes_slot = 2

abbrev pub band_var_slot : ℕ
band_var_slot = 3

abbrev pub δ_slot : ℕ
δ_slot = 4

abbrev pub α_slot : ℕ
α_slot = 5

abbrev pub ρ_slot : ℕ
ρ_slot = 6

abbrev pub least_slot : ℕ
least_slot = 7

abbrev pub greatest_slot : ℕ
greatest_slot = 8

-- how many they are; the caps follow them
abbrev pub head_size : ℕ
head_size = 9

abbrev pub cap_slot : ℕ → ℕ
cap_slot i = head_size + i

-- a row: N coefficients a, then the rest: b, c, d, q
abbrev pub b_in_rest : ℕ
b_in_rest = 0

abbrev pub c_in_rest : ℕ
c_in_rest = 1

abbrev pub d_in_rest : ℕ
d_in_rest = 2

abbrev pub q_in_rest : ℕ
q_in_rest = 3

abbrev pub rest_size : ℕ
rest_size = 4

-- their slots in the row at a slot
abbrev pub b_slot : ℕ → ℕ
b_slot at = at + N

abbrev pub c_slot : ℕ → ℕ
c_slot at = at + N + c_in_rest

abbrev pub d_slot : ℕ → ℕ
d_slot at = at + N + d_in_rest

abbrev pub q_slot : ℕ → ℕ
q_slot at = at + N + q_in_rest

abbrev pub row_size : ℕ
row_size = N + rest_size

-- a law that follows the state (document 02, paper 9): N coefficients, then the rest: its constant and its divisor
abbrev pub constant_in_law : ℕ
constant_in_law = 0

abbrev pub divisor_in_law : ℕ
divisor_in_law = 1

abbrev pub law_rest_size : ℕ
law_rest_size = 2

-- their slots in the law at a slot
abbrev pub constant_slot : ℕ → ℕ
constant_slot at = at + N

abbrev pub divisor_slot : ℕ → ℕ
divisor_slot at = at + N + divisor_in_law

abbrev pub law_size : ℕ
law_size = N + law_rest_size

-- a band: its edge, the safety range, its law, and N rows
abbrev pub edge_in_band : ℕ
edge_in_band = 0

abbrev pub least_in_band : ℕ
least_in_band = 1

abbrev pub greatest_in_band : ℕ
greatest_in_band = 2

abbrev pub law_in_band : ℕ
law_in_band = 3

abbrev pub first_row : ℕ
first_row = law_in_band + law_size

abbrev pub band_size : ℕ
band_size = first_row + N * row_size

abbrev pub band_slot : ℕ → ℕ
band_slot k = head_size + N + k * band_size

abbrev pub safety_least_slot : ℕ → ℕ
safety_least_slot k = band_slot k + least_in_band

abbrev pub safety_greatest_slot : ℕ → ℕ
safety_greatest_slot k = band_slot k + greatest_in_band

abbrev pub law_slot : ℕ → ℕ
law_slot k = band_slot k + law_in_band

abbrev pub row_slot : ℕ → ℕ → ℕ
row_slot k i = band_slot k + first_row + i * row_size

-- a box: N lower sides, then N upper sides; a variable has two
abbrev pub pair_size : ℕ
pair_size = 2

abbrev pub box_size : ℕ
box_size = pair_size * N

abbrev pub recovery_slot : ℕ
recovery_slot = head_size + N + max_bands * band_size

abbrev pub unsafe_slot : ℕ → ℕ
unsafe_slot j = recovery_slot + box_size + j * box_size

-- how many numbers a sheet has
abbrev pub slots : ℕ
slots = recovery_slot + box_size + max_boxes * box_size

-- ---- names

abbrev pub vars : List ℤ → ℕ
vars v = nat_abs (v ! vars_slot)

abbrev pub bands : List ℤ → ℕ
bands v = nat_abs (v ! bands_slot)

-- how many no-go boxes
abbrev pub boxes : List ℤ → ℕ
boxes v = nat_abs (v ! boxes_slot)

abbrev pub band_var : List ℤ → ℕ
band_var v = nat_abs (v ! band_var_slot)

abbrev pub δ : List ℤ → ℕ
δ v = nat_abs (v ! δ_slot)

abbrev pub α : List ℤ → ℕ
α v = nat_abs (v ! α_slot)

abbrev pub ρ : List ℤ → ℕ
ρ v = nat_abs (v ! ρ_slot)

abbrev pub least_command : List ℤ → ℤ
least_command v = v ! least_slot

abbrev pub greatest_command : List ℤ → ℤ
greatest_command v = v ! greatest_slot

abbrev pub cap : List ℤ → ℕ → ℤ
cap v i = v ! (cap_slot i)

abbrev pub edge : List ℤ → ℕ → ℤ
edge v k = v ! (band_slot k)

-- band k's safety range
abbrev pub safety_least : List ℤ → ℕ → ℤ
safety_least v k = v ! (safety_least_slot k)

abbrev pub safety_greatest : List ℤ → ℕ → ℤ
safety_greatest v k = v ! (safety_greatest_slot k)

-- which kind of bands a divisor of the first band's law tells: 0 stands for bands without such a law, whose plain law has its whole safety range
-- everywhere. Then no number of a law is looked at
abbrev pub kind_by : ℤ → BandKind
kind_by (pos zero) = Fixed
kind_by (pos (suc q)) = Feedback
kind_by (negsuc q) = Feedback

-- the kind of a sheet's bands (document 02, paper 9: `BD` or `BF`)
abbrev pub band_kind : List ℤ → BandKind
band_kind v = kind_by (v ! divisor_slot (law_slot 0))

-- a law that follows the state: (Σ aj·xj + c) / q
pub record FeedbackLaw : Type 0 where
  pub a : ℕ → ℤ
  pub c : ℤ
  pub q : ℤ

-- the law whose numbers start at a slot
abbrev pub feedback_at : List ℤ → ℕ → FeedbackLaw
feedback_at v at = record { a = λ j. v ! (at + j); c = v ! constant_slot at; q = v ! divisor_slot at }

-- band k's
abbrev pub feedback : List ℤ → ℕ → FeedbackLaw
feedback v k = feedback_at v (law_slot k)

-- a row: N = Σ aj·xj + b·u + c, spread d, divisor q
pub record Row : Type 0 where
  pub a : ℕ → ℤ
  pub b : ℤ
  pub c : ℤ
  pub d : ℤ
  pub q : ℤ

-- the row whose numbers start at a slot
abbrev pub row_at : List ℤ → ℕ → Row
row_at v at = record { a = λ j. v ! (at + j); b = v ! b_slot at; c = v ! c_slot at; d = v ! d_slot at; q = v ! q_slot at }

-- the row of band k for variable i
abbrev pub row : List ℤ → ℕ → ℕ → Row
row v k i = row_at v (row_slot k i)

-- the box whose sides start at a slot
abbrev pub box_at : List ℤ → ℕ → List ℤ
box_at v at = take box_size (drop at v)

abbrev pub recovery_box : List ℤ → List ℤ
recovery_box v = box_at v recovery_slot

-- no-go box j
abbrev pub unsafe_box : List ℤ → ℕ → List ℤ
unsafe_box v j = box_at v (unsafe_slot j)
