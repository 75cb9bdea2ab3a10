-- Where the numbers of a record are in a file, and how many bytes its parts have (document 01, "Sheet layout").
use Rattle.std.specs.Prelude.{ℕ, ◌+◌, ◌*◌}
use Rattle.sheet_spec.specs.declared.BandKind.{BandKind}
use Rattle.sheet_spec.specs.declared.BandKind.TheVariants.{Fixed, Feedback}
use Rattle.sheet_spec.specs.Fields.{u8, u16, i16, i32, bytes_in}

-- the number of letters that a record starts with
abbrev pub letters : ℕ
letters = 2

-- the head, from its letters on. A file that ends before the caps, of under 20 bytes, is refused
abbrev pub vars_at : ℕ
vars_at = letters

abbrev pub bands_at : ℕ
bands_at = vars_at + bytes_in u8

abbrev pub boxes_at : ℕ
boxes_at = bands_at + bytes_in u8

abbrev pub band_var_at : ℕ
band_var_at = boxes_at + bytes_in u8

abbrev pub δ_at : ℕ
δ_at = band_var_at + bytes_in u8

abbrev pub α_at : ℕ
α_at = δ_at + bytes_in u16

abbrev pub ρ_at : ℕ
ρ_at = α_at + bytes_in u16

abbrev pub least_at : ℕ
least_at = ρ_at + bytes_in u16

abbrev pub greatest_at : ℕ
greatest_at = least_at + bytes_in i32

abbrev pub caps_at : ℕ
caps_at = greatest_at + bytes_in i32

-- the first n caps
abbrev pub cap_bytes : ℕ → ℕ
cap_bytes n = bytes_in u16 * n

-- a band, from its edge on: the safety range, and what follows it
abbrev pub safety_least_at : ℕ
safety_least_at = bytes_in i32

abbrev pub safety_greatest_at : ℕ
safety_greatest_at = safety_least_at + bytes_in i32

abbrev pub law_at : ℕ
law_at = safety_greatest_at + bytes_in i32

-- the first n coefficients of a law or of a row
abbrev pub coefficient_bytes : ℕ → ℕ
coefficient_bytes n = bytes_in i16 * n

-- a law that follows the state: the coefficients; then, from the constant on, the divisor
abbrev pub divisor_at : ℕ
divisor_at = bytes_in i32

abbrev pub law_rest_bytes : ℕ
law_rest_bytes = divisor_at + bytes_in u16

-- the law of a band of a kind: `BF` has one, `BD` none (document 02, paper 9)
abbrev pub law_bytes : BandKind → ℕ → ℕ
law_bytes Fixed n = 0
law_bytes Feedback n = coefficient_bytes n + law_rest_bytes

-- the rows follow it
abbrev pub rows_at : BandKind → ℕ → ℕ
rows_at b n = law_at + law_bytes b n

-- a row: the coefficients; then, from b on, c, d and q

abbrev pub c_at : ℕ
c_at = bytes_in i16

abbrev pub d_at : ℕ
d_at = c_at + bytes_in i32

abbrev pub q_at : ℕ
q_at = d_at + bytes_in i32

abbrev pub rest_bytes : ℕ
rest_bytes = q_at + bytes_in u16

abbrev pub row_bytes : ℕ → ℕ
row_bytes n = coefficient_bytes n + rest_bytes

-- a band's letters and what comes before its law
abbrev pub band_head : ℕ
band_head = letters + law_at

-- what follows the letters of a band, and of a box: its sides in pairs
abbrev pub band_bytes : BandKind → ℕ → ℕ
band_bytes b n = rows_at b n + n * row_bytes n

abbrev pub upper_at : ℕ
upper_at = bytes_in i32

abbrev pub pair_bytes : ℕ
pair_bytes = upper_at + bytes_in i32

abbrev pub box_bytes : ℕ → ℕ
box_bytes n = pair_bytes * n
